-- Which row of its group a seat has at hand, and which rows it has frozen, or has still to retire.
--
-- The rows of a group are frozen, gathered and retired one after the other: first the full row, and
-- then the row that goes along with it, if there is one.
use Rattle.std.specs.Prelude.{ℕ, ◌≡◌, ◌⊎◌, Some, None}
use Rattle.kw_words.specs.declared.sizes.TheConstants.{MOST_GROUP}
use Rattle.kw_world.specs.declared.activity.Activity.{Activity}
use Rattle.kw_world.specs.declared.activity.rebalance.engage.Engage.TheVariants as Engage
use Rattle.kw_world.specs.declared.activity.rebalance.freeze.Freeze.TheVariants as Freeze
use Rattle.kw_world.specs.declared.activity.rebalance.Rebalance.TheVariants as Rebalance
use Rattle.kw_world.specs.declared.activity.rebalance.replace.Replace.TheVariants as Replace
use Rattle.kw_world.specs.declared.local.Local.{Local}

-- the row is one of the seat's group
abbrev pub IsOfGroup : Local → ℕ → Type 0
IsOfGroup l q = (q ≡ l.row) ⊎ (l.rebalance.second ≡ Some q)

-- it is the first one, and the second one is at hand
abbrev pub IsBehind : Local → ℕ → Type 0
IsBehind l q = (l.rebalance.second ≡ Some l.rebalance.hand) × (q ≡ l.row)

-- the seat knows the row after the full one, which it takes along, or asks whether it is to
abbrev pub HasNext : Activity → Type 0
HasNext (Activity.Rebalance (Rebalance.Engage (Engage.Decide count))) = count ≡ MOST_GROUP
HasNext (Activity.Rebalance (Rebalance.Claim _)) = Unit {0}
HasNext _ = ⊥

-- it does not know yet which rows go
abbrev pub IsBeforeGroup : Activity → Type 0
IsBeforeGroup (Activity.Rebalance (Rebalance.Engage _)) = Unit {0}
IsBeforeGroup (Activity.Rebalance (Rebalance.Claim _)) = Unit {0}
IsBeforeGroup (Activity.Rebalance (Rebalance.Left _)) = Unit {0}
IsBeforeGroup _ = ⊥

-- the seat goes through the rows of its group
abbrev pub HasHand : Activity → Type 0
HasHand (Activity.Rebalance (Rebalance.Freeze Freeze.Count)) = Unit {0}
HasHand (Activity.Rebalance (Rebalance.Freeze (Freeze.Look i))) = Unit {0}
HasHand (Activity.Rebalance (Rebalance.Freeze (Freeze.Entry i))) = Unit {0}
HasHand (Activity.Rebalance (Rebalance.Gather _)) = Unit {0}
HasHand (Activity.Rebalance (Rebalance.Replace Replace.Number)) = Unit {0}
HasHand (Activity.Rebalance (Rebalance.Replace Replace.Retire)) = Unit {0}
HasHand _ = ⊥

-- the first row of the group is at hand, and the second one, if there is one, is ahead; or that one
-- is at hand, and none is ahead
pub data Hand (l : Local) : Type 0 where
  at_first : l.rebalance.hand ≡ l.row → l.rebalance.ahead ≡ l.rebalance.second → Hand l
  at_second : l.rebalance.second ≡ Some l.rebalance.hand → l.rebalance.ahead ≡ None → Hand l

-- all rows of the group are frozen, and the seat has neither replaced it nor given it up
abbrev pub IsAllFrozen : Activity → Type 0
IsAllFrozen (Activity.Rebalance (Rebalance.Freeze (Freeze.Scan i))) = Unit {0}
IsAllFrozen (Activity.Rebalance (Rebalance.Freeze (Freeze.Draw i))) = Unit {0}
IsAllFrozen (Activity.Rebalance (Rebalance.Freeze (Freeze.Settle i))) = Unit {0}
IsAllFrozen (Activity.Rebalance (Rebalance.Freeze (Freeze.Pin i))) = Unit {0}
IsAllFrozen (Activity.Rebalance (Rebalance.Gather _)) = Unit {0}
IsAllFrozen (Activity.Rebalance (Rebalance.Seek _)) = Unit {0}
IsAllFrozen (Activity.Rebalance (Rebalance.Write _)) = Unit {0}
IsAllFrozen (Activity.Rebalance (Rebalance.Replace Replace.Start)) = Unit {0}
IsAllFrozen (Activity.Rebalance (Rebalance.Replace Replace.GuessedLeast)) = Unit {0}
IsAllFrozen (Activity.Rebalance (Rebalance.Replace Replace.First)) = Unit {0}
IsAllFrozen (Activity.Rebalance (Rebalance.Replace Replace.Next)) = Unit {0}
IsAllFrozen (Activity.Rebalance (Rebalance.Replace Replace.NextLeast)) = Unit {0}
IsAllFrozen (Activity.Rebalance (Rebalance.Replace Replace.Exchange)) = Unit {0}
IsAllFrozen _ = ⊥

-- the seat has frozen the count of this row of its group: that of the one at hand after the first
-- event there, and before it that of the row behind
abbrev pub HasFrozen : Activity → Local → ℕ → Type 0
HasFrozen (Activity.Rebalance (Rebalance.Freeze Freeze.Count)) l q = IsBehind l q
HasFrozen (Activity.Rebalance (Rebalance.Freeze (Freeze.Look i))) l q = IsBehind l q ⊎ (q ≡ l.rebalance.hand)
HasFrozen (Activity.Rebalance (Rebalance.Freeze (Freeze.Entry i))) l q = IsBehind l q ⊎ (q ≡ l.rebalance.hand)
HasFrozen a l q = IsAllFrozen a × IsOfGroup l q

-- the seat has replaced its group, and has the row still to retire
abbrev pub IsToRetire : Activity → Local → ℕ → Type 0
IsToRetire (Activity.Rebalance (Rebalance.Replace Replace.Normalise)) l q = IsOfGroup l q
IsToRetire (Activity.Rebalance (Rebalance.Replace Replace.Number)) l q = (q ≡ l.rebalance.hand) ⊎ (l.rebalance.ahead ≡ Some q)
IsToRetire (Activity.Rebalance (Rebalance.Replace Replace.Retire)) l q = (q ≡ l.rebalance.hand) ⊎ (l.rebalance.ahead ≡ Some q)
IsToRetire _ l q = ⊥
