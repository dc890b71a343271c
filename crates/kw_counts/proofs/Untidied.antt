-- What comes before no refusal: where no update was refused after an event, and none may tidy, so
-- it was before the event.
use Rattle.std.proofs.Common.{ℕ, ◌≡◌, ◌*◌, ◌<◌, ◌≤◌, Some, None, arith, sym, ◌∙◌, ap, subst, length}
use Rattle.std.proofs.Math.Nat.{mul_comm, mul-le-mul_right}
use Rattle.kw_words.specs.declared.layout.Name.TheVariants as name
use Rattle.kw_world.specs.declared.activity.Activity.{Activity}
use Rattle.kw_world.specs.declared.activity.rebalance.Rebalance.TheVariants as Rebalance
use Rattle.kw_world.specs.declared.activity.rebalance.replace.Replace.TheVariants as Replace
use Rattle.kw_world.specs.declared.event.Choice.{Choice}
use Rattle.kw_world.specs.declared.limits.TheConstants.{TIDY_SHARE}
use Rattle.kw_world.specs.declared.local.Local.{Local}
use Rattle.kw_world.specs.Sizes.{Sizes}
use Rattle.kw_world.specs.Step.{word}
use Rattle.kw_core.specs.declared.history.CallLog.{CallLog}
use Rattle.kw_core.specs.declared.history.End.{End}
use Rattle.kw_core.specs.declared.history.Logged.{Logged}
use Rattle.kw_core.specs.History.{History, called}
use Rattle.kw_core.specs.Run.{Run}
use Rattle.kw_core.specs.Step.{CallStep, Step, as_it_was, begins, ends, gets_put}
use Rattle.kw_core.proofs.Happens.{Happens, log_entry}
use Rattle.kw_core.proofs.InfantFrames.{epoch_stays, number_drawn}
use Rattle.kw_full.specs.Shares.{IsUntidied}
use Rattle.kw_reads.specs.Inv.{Inv}
use Rattle.kw_reads.proofs.HistoryKeeps.{history_step}
use Rattle.kw_counts.specs.Refusals.{HasNoRefusal, IsBeforeRefusals, IsRefusal}

-- a call that has ended, ended so
ended_stays : (h h' : History) (e : Logged) → Step h h' e → (x : ℕ) (end : End) → x < length h.calls → (called h x).end ≡ Some end → ((called h' x).end ≡ Some end) × ((called h' x).call ≡ (called h x).call)
ended_stays h h' e st x end w f = which (st.calls x (omega (arith, w, st.more_calls)))
  where
    which : CallStep h h' e x → ((called h' x).end ≡ Some end) × ((called h' x).call ≡ (called h x).call)
    which (as_it_was v g) = (ap (λ (c : CallLog). c.end) g ∙ f, ap (λ (c : CallLog). c.call) g)
    which (begins c n g i j k m o q) = absurd (omega (arith, w, n))
    which (gets_put p v n g i j k) = (ap (λ (c : CallLog). c.end) g ∙ f, ap (λ (c : CallLog). c.call) g)
    which (ends reply answer draw v n g i j k) = let y : None ≡ Some end = sym n ∙ f in absurd (cc)

no_refusal_before : (h h' : History) (e : Logged) → Step h h' e → HasNoRefusal h' → HasNoRefusal h
no_refusal_before h h' e st n x end w f y =
    let t = ended_stays h h' e st x end w f in
    n x end (omega (arith, w, st.more_calls)) t.0 (subst (λ c. IsRefusal c end.reply) (sym t.1) y)

module _ (z : Sizes) (r r' : Run) (s : ℕ) (choice : Choice) (l l' : Local) where
  epoch_rises : (a : Activity) → Happens z r r' s choice l l' a → word z r.world name.Epoch ≤ word z r'.world name.Epoch
  epoch_rises (Activity.Rebalance (Rebalance.Replace Replace.Number)) h = omega (arith, number_drawn h)
  epoch_rises a h = omega (arith, epoch_stays a h (λ x. x))

  pub untidied_before : (a : Activity) → Happens z r r' s choice l l' a → IsUntidied z r'.world → IsUntidied z r.world
  untidied_before a h u =
      let times : word z r.world name.Epoch * TIDY_SHARE ≤ word z r'.world name.Epoch * TIDY_SHARE = mul-le-mul_right TIDY_SHARE (epoch_rises a h) in
      omega (arith, u, times, mul_comm TIDY_SHARE (word z r.world name.Epoch), mul_comm TIDY_SHARE (word z r'.world name.Epoch), h.rows)

  pub refusals_before : (a : Activity) → Happens z r r' s choice l l' a → Inv z r → IsBeforeRefusals z r' → IsBeforeRefusals z r
  refusals_before a h v b = record {
    untidied = untidied_before a h b.untidied;
    none = no_refusal_before r.history r'.history (log_entry z r a s choice l) (history_step z r r' s choice l a l' h v) b.none;
  }
