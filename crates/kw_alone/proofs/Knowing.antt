-- What every seat knows beyond the invariant holds after every valid list of events.
use Rattle.std.proofs.Common.{ℕ, ◌≡◌, ◌<◌, true, List, arith, sym, subst, length}
use Rattle.kw_world.specs.declared.activity.Activity.{Activity}
use Rattle.kw_world.specs.declared.event.Choice.{Choice}
use Rattle.kw_world.specs.declared.event.Event.{Event}
use Rattle.kw_world.specs.declared.local.Local.{Local}
use Rattle.kw_world.specs.declared.opening.Opening.{Opening}
use Rattle.kw_world.specs.Opening.{IsOpening}
use Rattle.kw_world.specs.Sizes.{Sizes}
use Rattle.kw_world.specs.Step.{word}
use Rattle.kw_world.specs.WalkTransitions.{offered}
use Rattle.kw_world.proofs.Opens.{each_rests}
use Rattle.kw_core.specs.Events.{is_valid, may_step}
use Rattle.kw_core.specs.Run.{Run, goes_on, history, noted_by, start}
use Rattle.kw_core.specs.Words.{least_in}
use Rattle.kw_core.proofs.Events.{may_come}
use Rattle.kw_core.proofs.Happens.{Happens, each_seat, happens}
use Rattle.kw_core.proofs.Runs.{goes_on-moved, holds_of_history}
use Rattle.kw_shape.specs.RowsIn.{rows_in}
use Rattle.kw_shape.specs.Shape.{Shape}
use Rattle.kw_shape.proofs.RowsKeep.{row_event}
use Rattle.kw_reads.specs.Inv.{Inv}
use Rattle.kw_reads.proofs.Keeps.{inv_goes_on}
use Rattle.kw_reads.proofs.Opens.{inv_start}
use Rattle.kw_alone.specs.Facts.{IsBeforeNext}
use Rattle.kw_alone.specs.Known.{AreKnown, Taken}
use Rattle.kw_alone.proofs.Climbing.{climbs_other, climbs_own}
use Rattle.kw_alone.proofs.Following.{leaders_keep, no_leaders}
use Rattle.kw_alone.proofs.Taking.{arrow_taken}

-- one event, over a free run
pub known_keeps : (z : Sizes) (r r' : Run) (s : ℕ) (choice : Choice) (l : Local) (a : Activity) (l' : Local) → Happens z r r' s choice l l' a → Shape z r → AreKnown z r → AreKnown z r'
known_keeps z r r' s choice l a l' h i k = record {
  taken = each_seat h (λ t m. Taken m.activity m)
      (arrow_taken z (word z r.world) choice s a l l' h.arrow (subst (λ b. Taken b l) h.activity (k.taken s l h.knows)))
      (λ t m d g. k.taken t m g);
  climbs = each_seat h (λ t m. IsBeforeNext m.activity → m.rebalance.least < least_in (word z r'.world) m.candidate)
      (climbs_own z r r' s choice l a l' h i)
      (λ t m d g x. climbs_other a h i t m d g x (k.climbs t m g x));
  leaders = leaders_keep (rows_in (word z r.world)) (rows_in (word z r'.world)) r.ledger.rows r'.ledger.rows (length r.history.log) i.rows k.leaders (row_event a h i);
}

-- the invariant with it
pub record Both (z : Sizes) (r : Run) : Type 0 where
  pub inv : Inv z r
  pub known : AreKnown z r

both_go_on : (z : Sizes) (o : Opening) (r : Run) (e : Event) → may_step o r.world e ≡ true → Both z r → Both z (goes_on z r e)
both_go_on z o r e may i =
    let c = may_come o r.world e may in
    record {
      inv = inv_goes_on z o r e may i.inv;
      known = subst (AreKnown z) (sym (goes_on-moved z r e c.local c.knows c.moves))
          (known_keeps z r (noted_by z r e c.local) e.seat (offered r.world.rows e.choice) c.local c.local.activity _ (happens z r e c.local i.inv.shape.sane c.begins c.knows c.moves) i.inv.shape i.known);
    }

-- an idle seat has taken nothing and is nowhere
both_start : (z : Sizes) (o : Opening) → IsOpening z o → Both z (start z o)
both_start z o opening = record {
  inv = inv_start z o opening;
  known = record {
    taken = each_rests z o (λ t m. Taken m.activity m) (λ t. record { most = omega arith; fewer = λ x. absurd x; some = λ x. absurd x });
    climbs = each_rests z o (λ t m. IsBeforeNext m.activity → m.rebalance.least < least_in (word z (start z o).world) m.candidate) (λ t x. absurd x);
    leaders = no_leaders o (rows_in (word z (start z o).world)) (length (start z o).history.log) (inv_start z o opening).shape.rows;
  };
}

pub both_hold : (z : Sizes) (o : Opening) → IsOpening z o → (es : List Event) → is_valid z o es ≡ true → Both z (history z o es)
both_hold z o opening es ok = holds_of_history z o (Both z) (both_go_on z o) (both_start z o opening) es ok
