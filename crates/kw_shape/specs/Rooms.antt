-- Counts over all seats: how many are about to ask a row for a cell, and how many versions they may
-- still draw.
use Rattle.std.specs.Prelude.{ℕ, ◌+◌, ◌-◌, ◌==◌, if◌then◌else◌, List, [], ◌∷◌}
use Rattle.kw_world.specs.declared.activity.Activity.{Activity}
use Rattle.kw_world.specs.declared.activity.draw.Draw.TheVariants as Draw
use Rattle.kw_world.specs.declared.activity.rebalance.engage.Engage.TheVariants as Engage
use Rattle.kw_world.specs.declared.activity.rebalance.freeze.Freeze.TheVariants as Freeze
use Rattle.kw_world.specs.declared.activity.put.Put.TheVariants as Put
use Rattle.kw_world.specs.declared.activity.rebalance.Rebalance.TheVariants as Rebalance
use Rattle.kw_world.specs.declared.local.Local.{Local}

-- 1 for a seat at this row that is about to ask row r for a cell
abbrev pub adding : Activity → ℕ → ℕ → ℕ
adding (Activity.Put Put.Add) row r = if row == r then 1 else 0
adding _ row r = 0

-- how many seats are about to ask this row for a cell
abbrev pub adders : ℕ → List Local → ℕ
adders r [] = 0
adders r (l ∷ locals) = adding l.activity l.row r + adders r locals

-- how many versions a seat may still draw before it asks the clock anew, where there are n seats: 1
-- for one that is about to draw, or to wait and then draw; and one for each scan that a seat which
-- rebalances has still to look at
abbrev pub drawing : ℕ → Activity → ℕ
drawing n (Activity.Draw Draw.Wait) = 1
drawing n (Activity.Draw Draw.Version) = 1
drawing n (Activity.Rebalance (Rebalance.Engage Engage.Epoch)) = n
drawing n (Activity.Rebalance (Rebalance.Engage Engage.State)) = n
drawing n (Activity.Rebalance (Rebalance.Engage (Engage.Normal seat))) = n
drawing n (Activity.Rebalance (Rebalance.Engage Engage.Lead)) = n
drawing n (Activity.Rebalance (Rebalance.Engage (Engage.MarkLink count))) = n
drawing n (Activity.Rebalance (Rebalance.Engage (Engage.Decide count))) = n
drawing n (Activity.Rebalance (Rebalance.Claim _)) = n
drawing n (Activity.Rebalance (Rebalance.Freeze (Freeze.Scan i))) = n - i
drawing n (Activity.Rebalance (Rebalance.Freeze (Freeze.Draw i))) = n - i
drawing n (Activity.Rebalance (Rebalance.Freeze (Freeze.Settle i))) = n - (i + 1)
drawing n (Activity.Rebalance (Rebalance.Freeze (Freeze.Pin i))) = 0
drawing n (Activity.Rebalance (Rebalance.Freeze _)) = n
drawing n _ = 0

-- how many versions all seats may still draw
abbrev pub drawers : ℕ → List Local → ℕ
drawers n [] = 0
drawers n (l ∷ locals) = drawing n l.activity + drawers n locals
