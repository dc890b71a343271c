-- What holds after every valid list, where one event keeps it that comes after such a list: then
-- the laws are at hand of the list before it.
use Rattle.std.proofs.Common.{◌≡◌, true, List, [], ◌∷◌, ◌++◌, refl, sym, ◌∙◌, ap, subst}
use Rattle.kw_world.specs.declared.event.Event.{Event}
use Rattle.kw_world.specs.declared.opening.Opening.{Opening}
use Rattle.kw_world.specs.Sizes.{Sizes}
use Rattle.kw_world.specs.Opening.{IsOpening}
use Rattle.kw_world.specs.WalkTransitions.{offered}
use Rattle.kw_world.specs.declared.local.Local.{Local}
use Rattle.kw_world.specs.declared.activity.Activity.{Activity}
use Rattle.kw_world.specs.declared.event.Choice.{Choice}
use Rattle.kw_world.specs.Step.{word}
use Rattle.kw_core.specs.Events.{is_valid, may_step}
use Rattle.kw_core.specs.Run as run
use Rattle.kw_core.specs.Run.{Run, history, noted_by, start}
use Rattle.kw_core.proofs.Events.{may_come, valid-nil, valid-snoc}
use Rattle.kw_core.proofs.Happens.{Happens, found_at, happens}
use Rattle.kw_core.proofs.Runs.{goes_on-moved, history-nil, history-snoc, history-world}
use Rattle.kw_reads.proofs.Keeps.{inv_holds}
use Rattle.kw_counts.specs.Counts.{Counts, counted, counts, counts_after, counts_on, no_counts}
use Rattle.kw_counts.proofs.Folds.{counts_on-moved, holds_of_counts}
use Rattle.kw_counts.proofs.SpentHold.{counted-append}

-- these events led to the run, and were counted so
record WasReached (z : Sizes) (o : Opening) (r : Run) (c : Counts) : Type 0 where
  events : List Event
  valid : is_valid z o events ≡ true
  leads : history z o events ≡ r
  counted : counts z o events ≡ c

counts-snoc : (z : Sizes) (o : Opening) (es : List Event) (e : Event) → counts z o (es ++ e ∷ []) ≡ counts_on z (history z o es) e (counts z o es)
unfolding counts counted history
counts-snoc z o es e = counted-append z (start z o) es (e ∷ []) no_counts

reached_on : (z : Sizes) (o : Opening) (r : Run) (e : Event) (c : Counts) → may_step o r.world e ≡ true → WasReached z o r c → WasReached z o (run.goes_on z r e) (counts_on z r e c)
reached_on z o r e c may x = record {
  events = x.events ++ e ∷ [];
  valid = valid-snoc z o x.events e x.valid (subst (λ w. may_step o w e ≡ true) (sym (ap (λ (q : Run). q.world) x.leads) ∙ history-world z o x.events) may);
  leads = history-snoc z o x.events e ∙ ap (λ q. run.goes_on z q e) x.leads;
  counted = counts-snoc z o x.events e ∙ ap (λ q. counts_on z q e (counts z o x.events)) x.leads ∙ ap (counts_on z r e) x.counted;
}

reached_start : (z : Sizes) (o : Opening) → WasReached z o (start z o) no_counts
unfolding counts counted
reached_start z o = record { events = []; valid = valid-nil z o; leads = history-nil z o; counted = refl }

-- a fact of a run and its counts that holds at the opening, and that each event keeps which comes
-- after a valid list
pub holds_of_fronts : (z : Sizes) (o : Opening) → IsOpening z o → (P : Run → Counts → Type 0) →
    ((es : List Event) → is_valid z o es ≡ true → (r' : Run) (s : _) (choice : Choice) (l l' : Local) (a : Activity) → Happens z (history z o es) r' s choice l l' a → P (history z o es) (counts z o es) → P r' (counts_after a s l (found_at z (word z (history z o es).world) a s choice l) (history z o es).ledger.rows (counts z o es))) →
    P (start z o) no_counts → (es : List Event) → is_valid z o es ≡ true → P (history z o es) (counts z o es)
holds_of_fronts z o opening P keeps starts es ok = (holds_of_counts z o (λ r c. WasReached z o r c × P r c) step (reached_start z o, starts) es ok).1
  where
    at : (r : Run) (e : Event) (c : Counts) → may_step o r.world e ≡ true → (x : WasReached z o r c) → P (history z o x.events) (counts z o x.events) → P (run.goes_on z (history z o x.events) e) (counts_on z (history z o x.events) e (counts z o x.events))
    at r e c may x p =
        let here : Run = history z o x.events in
        let come = may_come o here.world e (subst (λ (q : Run). may_step o q.world e ≡ true) (sym x.leads) may) in
        let h = happens z here e come.local (inv_holds z o opening x.events x.valid).shape.sane come.begins come.knows come.moves in
        subst (λ q. P q (counts_on z here e (counts z o x.events))) (sym (goes_on-moved z here e come.local come.knows come.moves))
        (subst (P (noted_by z here e come.local)) (sym (counts_on-moved z here e (counts z o x.events) come.local come.knows come.moves))
        (keeps x.events x.valid _ e.seat (offered here.world.rows e.choice) come.local _ come.local.activity h p))

    step : (r : Run) (e : Event) (c : Counts) → may_step o r.world e ≡ true → WasReached z o r c × P r c → WasReached z o (run.goes_on z r e) (counts_on z r e c) × P (run.goes_on z r e) (counts_on z r e c)
    step r e c may t =
        let x = t.0 in
        let p : P (history z o x.events) (counts z o x.events) = subst (λ q. P q (counts z o x.events)) (sym x.leads) (subst (P r) (sym x.counted) t.1) in
        (reached_on z o r e c may x, subst (λ q. P (run.goes_on z q e) (counts_on z q e c)) x.leads (subst (λ d. P (run.goes_on z (history z o x.events) e) (counts_on z (history z o x.events) e d)) x.counted (at r e c may x p)))
