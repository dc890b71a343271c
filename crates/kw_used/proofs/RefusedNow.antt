-- An update that is refused for want of rows was so before the last event, or that event is of a
-- seat that was about to refuse it.
use Rattle.std.proofs.Common.{ℕ, ◌≡◌, ◌⊎◌, inl, inr, ◌<◌, Some, List, refl, sym, ◌∙◌, ap, subst, length}
use Rattle.std.proofs.lemmas.Option.{same_Some}
use Rattle.kw_model.specs.declared.call.Call.{Call}
use Rattle.kw_model.specs.declared.call.Call.TheVariants.{Del, Put}
use Rattle.kw_model.specs.declared.call.Reply.{Reply}
use Rattle.kw_model.specs.declared.call.Reply.TheVariants as reply
use Rattle.kw_world.specs.declared.activity.Activity.{Activity}
use Rattle.kw_world.specs.declared.answer.Answer.{Answer}
use Rattle.kw_world.specs.declared.answer.Answer.TheVariants as answer
use Rattle.kw_world.specs.declared.event.Choice.{Choice}
use Rattle.kw_world.specs.declared.local.Local.{Local}
use Rattle.kw_world.specs.Answers.{reply_of}
use Rattle.kw_world.specs.Sizes.{Sizes}
use Rattle.kw_world.specs.Step.{word}
use Rattle.kw_core.specs.History.{called}
use Rattle.kw_core.specs.declared.history.CallLog.{CallLog}
use Rattle.kw_core.specs.declared.history.End.{End}
use Rattle.kw_core.specs.Run.{Run}
use Rattle.kw_core.proofs.Changes.{made}
use Rattle.kw_core.proofs.Happens.{Happens}
use Rattle.kw_core.proofs.Steps.{none_some}
use Rattle.kw_laws.proofs.Over.{CallOver, IsCallNow, call_over, call_was, goes_on, is_ended}
use Rattle.kw_counts.specs.Refusals.{HasNoRefusal, IsRefusal}

-- an update is refused with one of two replies
refused_with : (c : Call) (r : Reply) → IsRefusal c r → (r ≡ reply.NoRows) ⊎ (r ≡ reply.Spent)
refused_with (Put key value) reply.NoRows x = inl refl
refused_with (Put key value) reply.Spent x = inr refl
refused_with (Del key) reply.NoRows x = inl refl
refused_with (Del key) reply.Spent x = inr refl
refused_with _ _ x = absurd x

-- of which the one has this answer alone
no_rows_of : (b : Answer) (pairs : List (ℕ × ℕ)) → reply_of b pairs ≡ reply.NoRows → b ≡ answer.NoRows
no_rows_of answer.Done pairs e = let x : reply.Done ≡ reply.NoRows = e in absurd (cc)
no_rows_of (answer.Value v) pairs e = let x : reply.Value v ≡ reply.NoRows = e in absurd (cc)
no_rows_of answer.Absent pairs e = let x : reply.Absent ≡ reply.NoRows = e in absurd (cc)
no_rows_of answer.Pairs pairs e = let x : reply.Pairs pairs ≡ reply.NoRows = e in absurd (cc)
no_rows_of answer.NoRows pairs e = refl
no_rows_of answer.Spent pairs e = let x : reply.Spent ≡ reply.NoRows = e in absurd (cc)
no_rows_of answer.Stopped pairs e = let x : reply.Stopped ≡ reply.NoRows = e in absurd (cc)
no_rows_of answer.Held pairs e = let x : reply.Held ≡ reply.NoRows = e in absurd (cc)
no_rows_of answer.NotPinned pairs e = let x : reply.NotPinned ≡ reply.NoRows = e in absurd (cc)

module _ (z : Sizes) (r r' : Run) (s : ℕ) (choice : Choice) (l l' : Local) (a : Activity) (h : Happens z r r' s choice l l' a) (none : HasNoRefusal r.history) where
  -- where none was refused before, the seat of one that is refused now was about to leave
  pub refused_now : (x : ℕ) (d : End) → x < length r'.history.calls → (called r'.history x).end ≡ Some d → IsRefusal (called r'.history x).call d.reply → (d.reply ≡ reply.Spent → ⊥) → l.activity ≡ Activity.Leave answer.NoRows
  refused_now x d w is refused spent = which (call_was r.history r'.history _ z (word z r.world) s choice l (r.seats s) r.origin a _ (made z (word z r.world) s choice l (r.seats s) r.origin a) h.history x w)
    where
      leaves : (b : Answer) → a ≡ Activity.Leave b → reply_of b l.pairs ≡ d.reply → (d.reply ≡ reply.NoRows) ⊎ (d.reply ≡ reply.Spent) → l.activity ≡ Activity.Leave answer.NoRows
      leaves b e f (inl g) = h.activity ∙ e ∙ ap Activity.Leave (no_rows_of b l.pairs (f ∙ g))
      leaves b e f (inr g) = absurd (spent g)

      old : x < length r.history.calls → CallOver r.history r'.history l (r.seats s) a x → l.activity ≡ Activity.Leave answer.NoRows
      old v (goes_on t) = absurd (none x d v (sym t.end ∙ is) (subst (λ c. IsRefusal c d.reply) t.call refused))
      old v (is_ended b e at f) = leaves b e (ap (λ (y : End). y.reply) (same_Some _ d (sym (ap (λ (c : CallLog). c.end) f) ∙ is))) (refused_with (called r'.history x).call d.reply refused)

      which : (x < length r.history.calls) ⊎ IsCallNow r.history r'.history s choice l a x → l.activity ≡ Activity.Leave answer.NoRows
      which (inl v) = old v (call_over r.history r'.history _ z (word z r.world) s choice l (r.seats s) r.origin a _ (made z (word z r.world) s choice l (r.seats s) r.origin a) h.history x v)
      which (inr n) = absurd (none_some (called r'.history x).end d (ap (λ (c : CallLog). c.end) n.is) is)
