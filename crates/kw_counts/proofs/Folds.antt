-- The fold of the counts beside the fold of the events: what one event counts, and what holds after
-- a valid list.
use Rattle.std.proofs.Common.{◌≡◌, true, false, List, [], ◌∷◌, Some, refl, sym, ap, ◌∙◌, subst, slice_get}
use Rattle.std.proofs.lemmas.Bool.{and_parts}
use Rattle.kw_world.specs.declared.event.Event.{Event}
use Rattle.kw_world.specs.declared.local.Local.{Local}
use Rattle.kw_world.specs.declared.opening.Opening.{Opening}
use Rattle.kw_world.specs.Opening.{opened}
use Rattle.kw_world.specs.Sizes.{Sizes}
use Rattle.kw_world.specs.Step.{is_skipped, step, transition_of, word}
use Rattle.kw_world.specs.WalkTransitions.{offered}
use Rattle.kw_world.specs.WorldView.{WorldView}
use Rattle.kw_core.specs.Events.{may_step, is_valid, is_valid_from}
use Rattle.kw_core.specs.Run.{Run, found_by, goes_on, history, run, start}
use Rattle.kw_core.proofs.Happens.{found_at}
use Rattle.kw_core.proofs.Runs.{goes_on-world}
use Rattle.kw_counts.specs.Counts.{Counts, counted, counts, counts_after, counts_on, no_counts}

-- the word that an event finds
found-found_at : (z : Sizes) (r : Run) (e : Event) (l : Local) → found_by z r.world e l ≡ found_at z (word z r.world) l.activity e.seat (offered r.world.rows e.choice) l
unfolding transition_of
found-found_at z r e l = refl

-- an event that is not skipped is counted
pub counts_on-moved : (z : Sizes) (r : Run) (e : Event) (c : Counts) (l : Local) → slice_get r.world.locals e.seat ≡ Some l → is_skipped l.activity e.choice ≡ false →
    counts_on z r e c ≡ counts_after l.activity e.seat l (found_at z (word z r.world) l.activity e.seat (offered r.world.rows e.choice) l) r.ledger.rows c
unfolding counts_on
counts_on-moved z r e c l knows moves = rw (knows, moves) (ap (λ n. counts_after l.activity e.seat l n r.ledger.rows c) (found-found_at z r e l))

-- a fact of the run and the counts that each event keeps holds after a valid list
keeps_counted : (z : Sizes) (o : Opening) (P : Run → Counts → Type 0) → ((r : Run) (e : Event) (c : Counts) → may_step o r.world e ≡ true → P r c → P (goes_on z r e) (counts_on z r e c))
    → (r : Run) (c : Counts) (w : WorldView) (es : List Event) → r.world ≡ w → is_valid_from z o w es ≡ true → P r c → P (run z r es) (counted z r es c)
unfolding run is_valid_from counted
keeps_counted z o P keeps r c w [] is ok p = p
keeps_counted z o P keeps r c w (e ∷ es) is ok p =
    let t = and_parts (may_step o w e) (is_valid_from z o (step z w e).world es) ok in
    keeps_counted z o P keeps (goes_on z r e) (counts_on z r e c) (step z w e).world es (goes_on-world z r e ∙ ap (λ x. (step z x e).world) is) t.1 (keeps r e c (subst (λ x. may_step o x e ≡ true) (sym is) t.0) p)

pub holds_of_counts : (z : Sizes) (o : Opening) (P : Run → Counts → Type 0) → ((r : Run) (e : Event) (c : Counts) → may_step o r.world e ≡ true → P r c → P (goes_on z r e) (counts_on z r e c)) → P (start z o) no_counts
    → (es : List Event) → is_valid z o es ≡ true → P (history z o es) (counts z o es)
unfolding history is_valid counts
holds_of_counts z o P keeps starts es ok = keeps_counted z o P keeps (start z o) no_counts (opened z o) es refl ok starts
