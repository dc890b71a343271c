-- One event of a seat, with all that is kept before and after it.
use Rattle.std.proofs.Common.{ℕ, ◌<◌}
use Rattle.kw_world.specs.declared.activity.Activity.{Activity}
use Rattle.kw_world.specs.declared.event.Choice.{Choice}
use Rattle.kw_world.specs.declared.local.Local.{Local}
use Rattle.kw_world.specs.Sizes.{Sizes}
use Rattle.kw_core.specs.Run.{Run}
use Rattle.kw_core.proofs.Happens.{Happens}
use Rattle.kw_reads.specs.Inv.{Inv}
use Rattle.kw_laws.specs.Laws.{KeepsLaws}
use Rattle.kw_full.specs.Frozen.{KeepsFrozen}
use Rattle.kw_full.specs.Full.{KeepsFull}
use Rattle.kw_alone.specs.Known.{AreKnown}

-- the event, the invariant and the laws before it, and what goes beyond them; the invariant after
-- it; and a new row has room for more cells than it is built with
pub record Steps (z : Sizes) (r r' : Run) (s : ℕ) (choice : Choice) (l l' : Local) (a : Activity) : Type 0 where
  pub happens : Happens z r r' s choice l l' a
  pub inv : Inv z r
  pub after : Inv z r'
  pub laws : KeepsLaws z r
  pub known : AreKnown z r
  pub frozen : KeepsFrozen z r
  pub full : KeepsFull z r
  pub room : z.built < z.cells
