-- What a rebalance has planned: which cells are kept, and where the new rows start among them.
use Rattle.std.specs.Prelude.{◌≡◌, ◌≤◌, length}
use Rattle.kw_cells.specs.Cuts.{starts_of}
use Rattle.kw_cells.specs.Kept.{kept_of}
use Rattle.kw_world.specs.declared.activity.Activity.{Activity}
use Rattle.kw_world.specs.declared.local.Local.{Local}
use Rattle.kw_world.specs.Sizes.{Sizes}
use Rattle.kw_shape.specs.Infants.{HasAll, nursing_of}
use Rattle.kw_shape.specs.Keyed.{IsPlanned}

pub record Plans (z : Sizes) (a : Activity) (l : Local) : Type 0 where
  pub kept : IsPlanned (nursing_of a) → l.rebalance.kept ≡ kept_of l.rebalance.gathered l.rebalance.needed
  pub starts : IsPlanned (nursing_of a) → l.rebalance.starts ≡ starts_of z.built l.rebalance.kept
  pub few : HasAll (nursing_of a) → length l.rebalance.taken ≤ length l.rebalance.starts
