-- Each event falls, whichever it is: by the part of the call that it belongs to.
use Rattle.std.proofs.Common.{ℕ}
use Rattle.kw_world.specs.declared.activity.Activity.{Activity}
use Rattle.kw_world.specs.declared.activity.rebalance.Rebalance.TheVariants as Rebalance
use Rattle.kw_world.specs.declared.event.Choice.{Choice}
use Rattle.kw_world.specs.declared.local.Local.{Local}
use Rattle.kw_world.specs.Sizes.{Sizes}
use Rattle.kw_world.specs.Step.{word}
use Rattle.kw_world.specs.Table.{transition}
use Rattle.kw_core.specs.Run.{Run}
use Rattle.kw_core.specs.Words.{Words}
use Rattle.kw_core.proofs.Arrows.{Arrow, builds}
use Rattle.kw_core.proofs.Building.{Building, IsBuilding}
use Rattle.kw_core.proofs.Happens.{Changed, Happens}
use Rattle.kw_alone.specs.Facts.{Facts}
use Rattle.kw_alone.specs.Falls.{Falls}
use Rattle.kw_alone.proofs.Building.{building_falls}
use Rattle.kw_alone.proofs.Engaging.{engaging_falls}
use Rattle.kw_alone.proofs.Grouping.{grouping_falls}
use Rattle.kw_alone.proofs.Putting.{putting_falls}
use Rattle.kw_alone.proofs.Reading.{reader_falls}
use Rattle.kw_alone.proofs.Walking.{way_falls}

-- new rows are taken, written and linked by the ways of their own type
building_of : (z : Sizes) (v : Words) (s : ℕ) (choice : Choice) (l : Local) (a : Activity) (next : Local) → Arrow z v s choice l a next → IsBuilding a → Building z v choice l a next
building_of z v s choice l a next (builds b k y t) w = t
building_of z v s choice l a next _ w = absurd w

module _ (z : Sizes) (rows : ℕ) (v v' : Words) (s : ℕ) (choice : Choice) where
  pub arrow_falls : (a : Activity) (l next : Local) → Arrow z v s choice l a next → Changed z rows v v' (transition z a s choice l) → Facts z rows v v' a l next → Falls z rows v v' a l next
  arrow_falls Activity.Idle l next y c f = way_falls z rows v v' s choice Activity.Idle l next y tt f
  arrow_falls (Activity.Enter b) l next y c f = way_falls z rows v v' s choice (Activity.Enter b) l next y tt f
  arrow_falls (Activity.Draw b) l next y c f = way_falls z rows v v' s choice (Activity.Draw b) l next y tt f
  arrow_falls (Activity.Walk b) l next y c f = way_falls z rows v v' s choice (Activity.Walk b) l next y tt f
  arrow_falls (Activity.Look b) l next y c f = reader_falls z rows v v' s choice (Activity.Look b) l next y tt f
  arrow_falls (Activity.Read b) l next y c f = reader_falls z rows v v' s choice (Activity.Read b) l next y tt f
  arrow_falls (Activity.EndScan answer) l next y c f = way_falls z rows v v' s choice (Activity.EndScan answer) l next y tt f
  arrow_falls Activity.ClearPin l next y c f = way_falls z rows v v' s choice Activity.ClearPin l next y tt f
  arrow_falls (Activity.Put b) l next y c f = putting_falls z rows v v' s choice (Activity.Put b) l next y tt c f
  arrow_falls (Activity.Insert b) l next y c f = putting_falls z rows v v' s choice (Activity.Insert b) l next y tt c f
  arrow_falls (Activity.Rebalance (Rebalance.Engage b)) l next y c f = engaging_falls z rows v v' s choice (Activity.Rebalance (Rebalance.Engage b)) l next y tt c f
  arrow_falls (Activity.Rebalance (Rebalance.Claim b)) l next y c f = engaging_falls z rows v v' s choice (Activity.Rebalance (Rebalance.Claim b)) l next y tt c f
  arrow_falls (Activity.Rebalance (Rebalance.Left b)) l next y c f = engaging_falls z rows v v' s choice (Activity.Rebalance (Rebalance.Left b)) l next y tt c f
  arrow_falls (Activity.Rebalance (Rebalance.Freeze b)) l next y c f = grouping_falls z rows v v' s choice (Activity.Rebalance (Rebalance.Freeze b)) l next y tt c f
  arrow_falls (Activity.Rebalance (Rebalance.Gather b)) l next y c f = grouping_falls z rows v v' s choice (Activity.Rebalance (Rebalance.Gather b)) l next y tt c f
  arrow_falls (Activity.Rebalance (Rebalance.Seek b)) l next y c f = building_falls z rows v v' choice (Activity.Rebalance (Rebalance.Seek b)) l next (building_of z v s choice l (Activity.Rebalance (Rebalance.Seek b)) next y tt) f
  arrow_falls (Activity.Rebalance (Rebalance.Write b)) l next y c f = building_falls z rows v v' choice (Activity.Rebalance (Rebalance.Write b)) l next (building_of z v s choice l (Activity.Rebalance (Rebalance.Write b)) next y tt) f
  arrow_falls (Activity.Rebalance (Rebalance.Replace b)) l next y c f = building_falls z rows v v' choice (Activity.Rebalance (Rebalance.Replace b)) l next (building_of z v s choice l (Activity.Rebalance (Rebalance.Replace b)) next y tt) f
  arrow_falls Activity.Retry l next y c f = way_falls z rows v v' s choice Activity.Retry l next y tt f
  arrow_falls (Activity.Leave answer) l next y c f = way_falls z rows v v' s choice (Activity.Leave answer) l next y tt f

-- the same of an event that happens
pub event_falls : (z : Sizes) (r after : Run) (s : ℕ) (choice : Choice) (l next : Local) (a : Activity) → Happens z r after s choice l next a → Facts z r.world.rows (word z r.world) (word z after.world) a l next → Falls z r.world.rows (word z r.world) (word z after.world) a l next
event_falls z r after s choice l next a h f = arrow_falls z r.world.rows (word z r.world) (word z after.world) s choice a l next h.arrow h.changed f
