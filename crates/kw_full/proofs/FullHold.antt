-- The rows that are engaged are full, and no entry is frozen before its row is: of every valid
-- list, by induction over the events.
use Rattle.std.proofs.Common.{◌≡◌, true, List, sym, subst}
use Rattle.kw_world.specs.declared.event.Event.{Event}
use Rattle.kw_world.specs.declared.opening.Opening.{Opening}
use Rattle.kw_world.specs.Opening.{IsOpening}
use Rattle.kw_world.specs.Sizes.{Sizes}
use Rattle.kw_world.specs.WalkTransitions.{offered}
use Rattle.kw_core.specs.Events.{is_valid, may_step}
use Rattle.kw_core.specs.Run as run
use Rattle.kw_core.specs.Run.{Run, history, noted_by, start}
use Rattle.kw_core.proofs.Events.{may_come}
use Rattle.kw_core.proofs.Happens.{happens}
use Rattle.kw_core.proofs.Runs.{goes_on-moved, holds_of_history}
use Rattle.kw_reads.specs.Inv.{Inv}
use Rattle.kw_reads.proofs.Keeps.{inv_keeps}
use Rattle.kw_reads.proofs.Opens.{inv_start}
use Rattle.kw_full.specs.Frozen.{KeepsFrozen}
use Rattle.kw_full.specs.Full.{KeepsFull}
use Rattle.kw_full.proofs.FrozenKeep.{frozen_keeps, frozen_start}
use Rattle.kw_full.proofs.FullKeep.{HaveMet, full_kept, met_keeps, met_start}

-- all that every event keeps
record Filling (z : Sizes) (r : Run) : Type 0 where
  inv : Inv z r
  frozen : KeepsFrozen z r
  met : HaveMet z r

filling_goes_on : (z : Sizes) (o : Opening) (r : Run) (e : Event) → may_step o r.world e ≡ true → Filling z r → Filling z (run.goes_on z r e)
filling_goes_on z o r e may x =
    let c = may_come o r.world e may in
    let h = happens z r e c.local x.inv.shape.sane c.begins c.knows c.moves in
    subst (Filling z) (sym (goes_on-moved z r e c.local c.knows c.moves)) (record {
      inv = inv_keeps z r (noted_by z r e c.local) e.seat (offered r.world.rows e.choice) c.local c.local.activity _ h x.inv;
      frozen = frozen_keeps c.local.activity h x.inv x.frozen;
      met = met_keeps z r (noted_by z r e c.local) e.seat (offered r.world.rows e.choice) c.local _ c.local.activity h x.inv x.frozen x.met;
    })

filling_holds : (z : Sizes) (o : Opening) → IsOpening z o → (es : List Event) → is_valid z o es ≡ true → Filling z (history z o es)
filling_holds z o opening = holds_of_history z o (Filling z) (filling_goes_on z o) (record { inv = inv_start z o opening; frozen = frozen_start z o opening; met = met_start z o })

-- The laws.

pub frozen_holds : (z : Sizes) (o : Opening) → IsOpening z o → (es : List Event) → is_valid z o es ≡ true → KeepsFrozen z (history z o es)
frozen_holds z o opening es ok = (filling_holds z o opening es ok).frozen

pub full_holds : (z : Sizes) (o : Opening) → IsOpening z o → (es : List Event) → is_valid z o es ≡ true → KeepsFull z (history z o es)
full_holds z o opening es ok = let x = filling_holds z o opening es ok in full_kept z (history z o es) x.inv x.met
