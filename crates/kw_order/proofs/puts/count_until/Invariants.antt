use Rattle.std.proofs.Common.{◌-◌}
use Rattle.kw_order.specs.Puts.{IsSplitWithin}
use Rattle.kw_order.proofs.puts.count_until.Given as goal

abbrev pub invariant-loop-low : goal.invariant-loop-low
invariant-loop-low l = IsSplitWithin l.puts l.points l.key l.at l.low l.high

abbrev pub decreases-loop-low : goal.decreases-loop-low
decreases-loop-low l = l.high - l.low
