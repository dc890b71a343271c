-- All that every event keeps below the readers and the replies: what a lemma about attempts,
-- entries, positions and scans may use of the run before the event.
use Rattle.std.specs.Prelude.{◌≡◌, Some, slice_get}
use Rattle.kw_world.specs.declared.event.Event.{Event}
use Rattle.kw_world.specs.declared.local.Local.{Local}
use Rattle.kw_world.specs.WalkTransitions.{offered}
use Rattle.kw_world.specs.Sizes.{Sizes}
use Rattle.kw_core.specs.Happenings.{happening_at, logged_of}
use Rattle.kw_core.specs.Noted.{MayNote}
use Rattle.kw_core.specs.Run.{Run, change_of, found_by}
use Rattle.kw_core.specs.Step.{Keeps}
use Rattle.kw_shape.specs.Shape.{Shape}
use Rattle.kw_puts.specs.Puts.{Puts}
use Rattle.kw_puts.specs.Lists.{Lists}
use Rattle.kw_puts.specs.Positions.{Positions}

pub record Below (z : Sizes) (r : Run) : Type 0 where
  pub shape : Shape z r
  pub history : Keeps r.history
  pub puts : Puts z r
  pub lists : Lists z r
  pub positions : Positions z r

-- the record may note the event: what its laws ask of the change that the event makes holds where
-- it comes
abbrev pub MayTake : Sizes → Run → Event → Type 0
MayTake z r e = (l : Local) → slice_get r.world.locals e.seat ≡ Some l →
    MayNote r.history (logged_of (happening_at z r.world e l)) (change_of z l.activity e.seat (offered r.world.rows e.choice) l (found_by z r.world e l) (r.seats e.seat) r.origin)
