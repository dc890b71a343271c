-- A call that ended stays as it is over every longer list.
use Rattle.std.proofs.Common.{ℕ, ◌≡◌, ◌⊎◌, inl, inr, ◌<◌, ◌≤◌, true, Some, List, [], ◌∷◌, ◌++◌, arith, refl, ◌∙◌, ap, length}
use Rattle.std.proofs.lemmas.Bool.{and_parts, cases_lt}
use Rattle.kw_world.specs.declared.event.Event.{Event}
use Rattle.kw_world.specs.declared.opening.Opening.{Opening}
use Rattle.kw_world.specs.Sizes.{Sizes}
use Rattle.kw_world.specs.WorldView.{WorldView}
use Rattle.kw_world.specs.Opening.{IsOpening, opened}
use Rattle.kw_world.specs.WalkTransitions.{offered}
use Rattle.kw_world.specs.Step.{step}
use Rattle.kw_core.specs.History.{History, called}
use Rattle.kw_core.specs.declared.history.Logged.{Logged}
use Rattle.kw_core.specs.declared.history.CallLog.{CallLog}
use Rattle.kw_core.specs.declared.history.End.{End}
use Rattle.kw_core.specs.Step.{CallStep, as_it_was, begins, gets_put, ends}
use Rattle.kw_core.specs.Events.{may_step, is_valid, is_valid_from, world, walked}
use Rattle.kw_core.specs.Run.{Run, goes_on, noted_by, history}
use Rattle.kw_reads.specs.Inv.{Inv}
use Rattle.kw_core.proofs.Events.{may_come}
use Rattle.kw_core.proofs.Runs.{goes_on-moved, history-append, history-world, keeps_along}
use Rattle.kw_core.proofs.Happens.{happens}
use Rattle.kw_reads.proofs.HistoryKeeps.{history_step}
use Rattle.kw_core.proofs.StepLaws.{no_end}
use Rattle.kw_reads.proofs.Keeps.{inv_goes_on, inv_holds}
use Rattle.kw_core.proofs.Steps.{none_some}

-- a call that ended is one of the list
pub ended_within : (h : History) (x : ℕ) (e : End) → (called h x).end ≡ Some e → x < length h.calls
ended_within h x e is = which (cases_lt x (length h.calls))
  where
    which : (x < length h.calls) ⊎ (length h.calls ≤ x) → x < length h.calls
    which (inl w) = w
    which (inr w) = absurd (none_some _ e (no_end h x w) is)

-- over one event
over_step : (h h' : History) (e : Logged) (x : ℕ) (d : End) → (called h x).end ≡ Some d → x < length h.calls → CallStep h h' e x → called h' x ≡ called h x
over_step h h' e x d is w (as_it_was v f) = f
over_step h h' e x d is w (begins c n f a b g k m i) = absurd (omega (arith, w, n))
over_step h h' e x d is w (gets_put p v n f r i j) = absurd (none_some _ d r is)
over_step h h' e x d is w (ends reply answer draw v n f a b m) = absurd (none_some _ d n is)

-- over one event that may come
ended_goes_on : (z : Sizes) (o : Opening) (r : Run) (e : Event) → may_step o r.world e ≡ true → Inv z r → (x : ℕ) (d : End) → (called r.history x).end ≡ Some d → called (goes_on z r e).history x ≡ called r.history x
ended_goes_on z o r e may i x d is =
    let c = may_come o r.world e may in
    let s = history_step z r (noted_by z r e c.local) e.seat (offered r.world.rows e.choice) c.local c.local.activity _ (happens z r e c.local i.shape.sane c.begins c.knows c.moves) i in
    let w = ended_within r.history x d is in
    ap (λ (q : Run). called q.history x) (goes_on-moved z r e c.local c.knows c.moves) ∙ over_step r.history (noted_by z r e c.local).history _ x d is w (s.calls x (omega (arith, w, s.more_calls)))

-- the end of a valid list is valid from where its beginning led
valid_rest_from : (z : Sizes) (o : Opening) (w : WorldView) (xs ys : List Event) → is_valid_from z o w (xs ++ ys) ≡ true → is_valid_from z o (walked z w xs) ys ≡ true
unfolding is_valid_from walked
valid_rest_from z o w [] ys v = v
valid_rest_from z o w (x ∷ xs) ys v = valid_rest_from z o (step z w x).world xs ys (and_parts (may_step o w x) (is_valid_from z o (step z w x).world (xs ++ ys)) v).1

pub valid_rest : (z : Sizes) (o : Opening) (xs ys : List Event) → is_valid z o (xs ++ ys) ≡ true → is_valid_from z o (world z o xs) ys ≡ true
unfolding is_valid world
valid_rest z o xs ys v = valid_rest_from z o (opened z o) xs ys v

-- over every longer list
pub ended_lasts : (z : Sizes) (o : Opening) → IsOpening z o → (es later : List Event) → is_valid z o es ≡ true → is_valid z o (es ++ later) ≡ true → (x : ℕ) (d : End) → (called (history z o es).history x).end ≡ Some d →
    called (history z o (es ++ later)).history x ≡ called (history z o es).history x
ended_lasts z o opening es later valid longer x d is =
    ap (λ (q : Run). called q.history x) (history-append z o es later) ∙
    (keeps_along z o (λ q. Inv z q × (called q.history x ≡ called (history z o es).history x)) over (history z o es) (world z o es) later (history-world z o es) (valid_rest z o es later longer) (inv_holds z o opening es valid, refl)).1
  where
    over : (r : Run) (e : Event) → may_step o r.world e ≡ true → Inv z r × (called r.history x ≡ called (history z o es).history x) → Inv z (goes_on z r e) × (called (goes_on z r e).history x ≡ called (history z o es).history x)
    over r e may p = (inv_goes_on z o r e may p.0, ended_goes_on z o r e may p.0 x d (ap (λ (c : CallLog). c.end) p.1 ∙ is) ∙ p.1)
