-- The record of an opening, and how many seats there are after every list of events.
use Rattle.std.proofs.Common.{ℕ, ◌≡◌, ◌+◌, ◌*◌, Bool, true, false, Option, Some, None, List, arith, refl, sym, ◌∙◌, ap, length, slice_get, length-set}
use Rattle.std.proofs.lemmas.List.{get_or-replicate, length-replicate}
use Rattle.kw_world.specs.declared.event.Event.{Event}
use Rattle.kw_world.specs.declared.opening.Opening.{Opening}
use Rattle.kw_world.specs.declared.local.Local.{Local}
use Rattle.kw_world.specs.Local.{resting}
use Rattle.kw_world.specs.Sizes.{Sizes}
use Rattle.kw_world.specs.Step.{is_skipped}
use Rattle.kw_core.specs.Events.{is_valid, world}
use Rattle.kw_core.specs.Run.{Run, goes_on, goes_on_of, start, no_log}
use Rattle.kw_laws.specs.Recorder.{Records, opening_record}
use Rattle.kw_laws.proofs.Recorded.{place_within}
use Rattle.kw_core.proofs.Runs.{history-world, holds_of_history}

-- the record of no events is that of an opening
pub records_start : (z : Sizes) (o : Opening) → Records z (opening_record z o.rows o.seats) (start z o)
records_start z o = record {
  history = refl;
  seats = length-replicate o.seats no_log ∙ sym (length-replicate o.seats (resting 0));
  scans = length-replicate z.seats 0;
  cells = let none : Option ℕ = None in length-replicate (o.rows * z.cells) none;
  logs = λ s w. get_or-replicate o.seats s no_log no_log (omega (arith, w, length-replicate o.seats (resting 0)));
  settled = λ s w. get_or-replicate z.seats s 0 0 w;
  origins = λ q c v w. let none : Option ℕ = None in get_or-replicate (o.rows * z.cells) (q * z.cells + c) none none (place_within z.cells q c o.rows v w);
}

-- an event leaves the number of seats
seats_stay : (z : Sizes) (r : Run) (e : Event) → length (goes_on z r e).world.locals ≡ length r.world.locals
unfolding goes_on
seats_stay z r e = known (slice_get r.world.locals e.seat)
  where
    moved : (l : Local) (b : Bool) → is_skipped l.activity e.choice ≡ b → length (goes_on_of z r e (Some l)).world.locals ≡ length r.world.locals
    moved l true h = rw h refl
    moved l false h = rw h (length-set r.world.locals e.seat _)

    known : (x : Option Local) → length (goes_on_of z r e x).world.locals ≡ length r.world.locals
    known (Some l) = moved l (is_skipped l.activity e.choice) refl
    known None = refl

-- after every valid list there are as many seats as at its opening
pub seats_kept : (z : Sizes) (o : Opening) (es : List Event) → is_valid z o es ≡ true → length (world z o es).locals ≡ o.seats
seats_kept z o es v =
    ap (λ x. length x.locals) (sym (history-world z o es)) ∙
    holds_of_history z o (λ r. length r.world.locals ≡ o.seats) (λ r e may p. seats_stay z r e ∙ p) (length-replicate o.seats (resting 0)) es v
