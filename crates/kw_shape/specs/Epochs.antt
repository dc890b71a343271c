-- How many numbers of retired rows the seats may still draw before they ask the epoch anew: one for
-- each row that a rebalance may replace.
use Rattle.std.specs.Prelude.{ℕ, ◌+◌, Option, Some, None, List, [], ◌∷◌}
use Rattle.kw_words.specs.declared.sizes.TheConstants.{MOST_GROUP}
use Rattle.kw_world.specs.declared.activity.Activity.{Activity}
use Rattle.kw_world.specs.declared.activity.rebalance.engage.Engage.TheVariants as Engage
use Rattle.kw_world.specs.declared.activity.rebalance.Rebalance.TheVariants as Rebalance
use Rattle.kw_world.specs.declared.activity.rebalance.replace.Replace.TheVariants as Replace
use Rattle.kw_world.specs.declared.activity.rebalance.seek.Seek.TheVariants as Seek
use Rattle.kw_world.specs.declared.local.Local.{Local}

-- one for the row of the group that comes after the one at hand, if there is one
abbrev pub one_ahead : Option ℕ → ℕ
one_ahead (Some r) = 1
one_ahead None = 0

abbrev pub numbering : Activity → Local → ℕ
numbering (Activity.Rebalance (Rebalance.Engage Engage.State)) l = MOST_GROUP
numbering (Activity.Rebalance (Rebalance.Engage (Engage.Normal seat))) l = MOST_GROUP
numbering (Activity.Rebalance (Rebalance.Engage Engage.Lead)) l = MOST_GROUP
numbering (Activity.Rebalance (Rebalance.Engage (Engage.MarkLink count))) l = MOST_GROUP
numbering (Activity.Rebalance (Rebalance.Engage (Engage.Decide count))) l = MOST_GROUP
numbering (Activity.Rebalance (Rebalance.Claim _)) l = MOST_GROUP
numbering (Activity.Rebalance (Rebalance.Freeze _)) l = MOST_GROUP
numbering (Activity.Rebalance (Rebalance.Gather _)) l = MOST_GROUP
numbering (Activity.Rebalance (Rebalance.Seek Seek.First)) l = MOST_GROUP
numbering (Activity.Rebalance (Rebalance.Seek Seek.Next)) l = MOST_GROUP
numbering (Activity.Rebalance (Rebalance.Seek (Seek.Pass i))) l = MOST_GROUP
numbering (Activity.Rebalance (Rebalance.Seek Seek.Reclaim)) l = MOST_GROUP
numbering (Activity.Rebalance (Rebalance.Seek Seek.Take)) l = MOST_GROUP
numbering (Activity.Rebalance (Rebalance.Write _)) l = MOST_GROUP
numbering (Activity.Rebalance (Rebalance.Replace Replace.Start)) l = MOST_GROUP
numbering (Activity.Rebalance (Rebalance.Replace Replace.GuessedLeast)) l = MOST_GROUP
numbering (Activity.Rebalance (Rebalance.Replace Replace.First)) l = MOST_GROUP
numbering (Activity.Rebalance (Rebalance.Replace Replace.Next)) l = MOST_GROUP
numbering (Activity.Rebalance (Rebalance.Replace Replace.NextLeast)) l = MOST_GROUP
numbering (Activity.Rebalance (Rebalance.Replace Replace.Exchange)) l = MOST_GROUP
numbering (Activity.Rebalance (Rebalance.Replace Replace.Normalise)) l = MOST_GROUP
numbering (Activity.Rebalance (Rebalance.Replace Replace.Number)) l = 1 + one_ahead l.rebalance.ahead
numbering (Activity.Rebalance (Rebalance.Replace Replace.Retire)) l = one_ahead l.rebalance.ahead
numbering _ l = 0

abbrev pub numberers : List Local → ℕ
numberers [] = 0
numberers (l ∷ locals) = numbering l.activity l + numberers locals
