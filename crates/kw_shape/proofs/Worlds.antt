-- The world after a list of events. Every event keeps its shape, and so does every valid list; it
-- has as many rows and seats as at the opening, what each seat knows stands in it, and it is sane.
--
-- A call leaves a seat at rest (`at_rest`): with the number of its calls, and with its pin. As long
-- as no call of a pin is let in no seat holds one, and so it leaves a seat as it was at the
-- opening, but for that number.
use Rattle.std.proofs.Common.{◌≡◌, true, List, sym, subst, ℕ, ◌<◌, [], ◌∷◌, Some, length, slice_get, refl, ◌∙◌, arith, ap, None, Option}
use Rattle.kw_world.specs.declared.event.Event.{Event}
use Rattle.kw_world.specs.declared.opening.Opening.{Opening}
use Rattle.kw_world.specs.Opening.{IsOpening, opened}
use Rattle.kw_world.specs.WalkTransitions.{offered}
use Rattle.kw_world.specs.Sizes.{Sizes}
use Rattle.kw_core.specs.Events.{may_step, is_valid, local_of, walked, world}
use Rattle.kw_core.specs.Run.{Run, goes_on, history, noted_by}
use Rattle.kw_core.proofs.Events.{may_come}
use Rattle.kw_core.proofs.Happens.{happens}
use Rattle.kw_core.proofs.Runs.{goes_on-moved, holds_of_history, history-world}
use Rattle.kw_shape.specs.Shape.{Shape}
use Rattle.kw_shape.proofs.ShapeKeeps.{shape_keeps}
use Rattle.kw_shape.proofs.ShapeOpens.{shape_starts}
use Rattle.std.proofs.lemmas.List.{length-replicate}
use Rattle.std.proofs.lemmas.Option.{slice_get-get_or}
use Rattle.kw_world.specs.declared.local.Local.{Local}
use Rattle.kw_world.specs.Local.{at_rest, resting}
use Rattle.kw_world.specs.WorldView.{WorldView}
use Rattle.kw_world.specs.Sane.{IsSane}
use Rattle.kw_world.specs.Step.{step}
use Rattle.kw_world.proofs.Steps.{step-rows, step-seats}

-- one event that may come
pub shape_goes_on : (z : Sizes) (o : Opening) (r : Run) (e : Event) → may_step o r.world e ≡ true → Shape z r → Shape z (goes_on z r e)
shape_goes_on z o r e may i =
    let c = may_come o r.world e may in
    subst (Shape z) (sym (goes_on-moved z r e c.local c.knows c.moves))
    (shape_keeps z r (noted_by z r e c.local) e.seat (offered r.world.rows e.choice) c.local c.local.activity _ (happens z r e c.local i.sane c.begins c.knows c.moves) i)

-- every valid list
pub shape_holds : (z : Sizes) (o : Opening) (es : List Event) → IsOpening z o → is_valid z o es ≡ true → Shape z (history z o es)
shape_holds z o es opening ok = holds_of_history z o (Shape z) (shape_goes_on z o) (shape_starts z o opening) es ok

walked-rows : (z : Sizes) (w : WorldView) (es : List Event) → (walked z w es).rows ≡ w.rows
unfolding walked
walked-rows z w [] = refl
walked-rows z w (e ∷ es) = walked-rows z (step z w e).world es ∙ step-rows z w e

walked-seats : (z : Sizes) (w : WorldView) (es : List Event) → length (walked z w es).locals ≡ length w.locals
unfolding walked
walked-seats z w [] = refl
walked-seats z w (e ∷ es) = walked-seats z (step z w e).world es ∙ step-seats z w e

-- a world has as many rows as at the opening
pub world-rows : (z : Sizes) (o : Opening) (es : List Event) → (world z o es).rows ≡ o.rows
unfolding world
world-rows z o es = walked-rows z (opened z o) es

-- a world has as many seats as at the opening
pub world-seats : (z : Sizes) (o : Opening) (es : List Event) → length (world z o es).locals ≡ o.seats
unfolding world
world-seats z o es = walked-seats z (opened z o) es ∙ length-replicate o.seats (resting 0)

-- what a seat of the run knows stands in the world
pub world-local : (z : Sizes) (o : Opening) (es : List Event) (s : ℕ) → s < o.seats → slice_get (world z o es).locals s ≡ Some (local_of (world z o es) s)
world-local z o es s inside = slice_get-get_or (world z o es).locals s (resting 0) (omega (arith, inside, world-seats z o es))

-- the world after a valid list is sane
pub world_sane : (z : Sizes) (o : Opening) → IsOpening z o → (es : List Event) → is_valid z o es ≡ true → IsSane z (world z o es)
world_sane z o opens es valid = subst (IsSane z) (history-world z o es) (shape_holds z o es opens valid).sane

-- a seat without a pin is at rest as one that begins
pub rests_unpinned : (l : Local) → l.pin ≡ None → at_rest l ≡ resting l.number
rests_unpinned l e = ap (λ (p : Option ℕ). record (resting l.number) { pin = p }) e

-- so each seat of such a run is
pub at_rest_is : {z : Sizes} {r : Run} → Shape z r → (s : ℕ) (l : Local) → slice_get r.world.locals s ≡ Some l → at_rest l ≡ resting l.number
at_rest_is i s l g = rests_unpinned l (i.no_pin s l g)
