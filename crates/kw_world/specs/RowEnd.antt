-- Where a row may come to its end, which has no event of its own.
use Rattle.std.specs.Prelude.{ℕ, ◌≡◌, true, Some, slice_get}
use Rattle.kw_world.specs.declared.activity.Activity.{Activity}
use Rattle.kw_world.specs.declared.activity.read.Read.TheVariants as Read
use Rattle.kw_world.specs.declared.local.Local.{Local}
use Rattle.kw_world.specs.WorldView.{WorldView}
use Rattle.kw_world.specs.Calls.{is_scan}

-- the seat's event may be the last one of a row: it may end the walk along the list, where nothing
-- is left that the seat remembers, or read the last cell that is
abbrev pub IsInCells : Activity → Type 0
IsInCells (Activity.Read Read.Start) = Unit {0}
IsInCells (Activity.Read Read.Link) = Unit {0}
IsInCells (Activity.Read Read.Key) = Unit {0}
IsInCells (Activity.Read Read.LeftOverKey) = Unit {0}
IsInCells (Activity.Read Read.LeftOverValue) = Unit {0}
IsInCells _ = ⊥

-- a scan may be at the end of a row, whose pairs it keeps: only there is memory wanted
pub record MayEndRow (l : Local) : Type 0 where
  pub scan : is_scan l.call ≡ true
  pub in_cells : IsInCells l.activity

-- the same of what a seat of the world knows
abbrev pub MayEndRowAt : WorldView → ℕ → Type 0
MayEndRowAt w s = (l : Local) → slice_get w.locals s ≡ Some l → MayEndRow l
