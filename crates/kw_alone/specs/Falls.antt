-- What is said of the rest: each event lowers it, but for marks and the beginning of a walk, and it
-- is never above the price of a walk from its beginning.
use Rattle.std.specs.Prelude.{ℕ, ◌≡◌, ◌⊎◌, ◌+◌, ◌*◌, ◌<◌, ◌≤◌, length}
use Rattle.kw_words.specs.declared.sizes.TheConstants.{SEATS}
use Rattle.kw_world.specs.declared.activity.Activity.{Activity}
use Rattle.kw_world.specs.declared.activity.walk.Walk.TheVariants as Walk
use Rattle.kw_world.specs.declared.local.Local.{Local}
use Rattle.kw_world.specs.Sane.{IsTakingRows}
use Rattle.kw_world.specs.Sizes.{Sizes}
use Rattle.kw_core.specs.Words.{Words}
use Rattle.kw_alone.specs.Marks.{IsMark}
use Rattle.kw_alone.specs.Prices.{start_price}
use Rattle.kw_alone.specs.Rest.{rest}

-- the most that is left
abbrev pub most_rest : Sizes → ℕ → ℕ
most_rest z rows = start_price z rows + 2

-- the event is a mark, or comes to the beginning of a walk, or lowers the rest
abbrev pub Falls : Sizes → ℕ → Words → Words → Activity → Local → Local → Type 0
Falls z rows v v' a l next = IsMark a next.activity ⊎ (next.activity ≡ Activity.Walk Walk.Start) ⊎ (rest z rows v' next.activity next < rest z rows v a l)

-- no more is left than at the beginning of a walk
abbrev pub Most : Sizes → ℕ → Words → Activity → Local → Type 0
Most z rows v a l = rest z rows v a l ≤ most_rest z rows

-- what that needs of a seat: no more cells are remembered than there are entries, and no more rows
-- are taken than were asked for, and fewer as long as one more is to be taken
pub record HasFew (z : Sizes) (rows : ℕ) (a : Activity) (l : Local) : Type 0 where
  pub remembered : length l.remembered ≤ z.seats
  pub asked : l.rebalance.asked ≤ rows
  pub taken : length l.rebalance.taken ≤ l.rebalance.asked
  pub fewer : IsTakingRows a → length l.rebalance.taken < l.rebalance.asked

-- so many events make a mark for sure: those from any world to the beginning of a walk, and those
-- from there
abbrev pub events_to_mark : Sizes → ℕ → ℕ
events_to_mark z rows = 2 * most_rest z rows + 2

-- which is no more, at the product's sizes, than this many: it grows as the seats' square and as
-- the rows
abbrev pub most_to_mark : ℕ → ℕ
most_to_mark rows = 32 * (SEATS * SEATS) * (rows + 1)

-- and so many events end a call for sure: a seat replaces no more rows than there are and one more,
-- and before each it moves to no more rows than there are
abbrev pub events_to_end : Sizes → ℕ → ℕ
events_to_end z rows = (2 + (rows + 1) * (rows + 2)) * events_to_mark z rows

-- which is no more than this many, at the product's sizes
abbrev pub most_to_end : ℕ → ℕ
most_to_end rows = 64 * (SEATS * SEATS) * ((rows + 1) * (rows + 1) * (rows + 1))
