-- When a run does all that its command asks: its input is good, no stream fails, and the updates
-- that it asks of the concurrent map are so few that none is refused.
use Rattle.std.specs.Prelude.{ℕ, ◌≡◌, ◌⊎◌, List, length, Option, Some}
use Rattle.kw_line.specs.declared.item.Item.{Item}
use Rattle.kw_line.specs.Line.{AreLinesOf}
use Rattle.kw_rollup.specs.declared.item.RollItem.{RollItem}
use Rattle.kw_rollup.specs.Lines.{AreRollLines}
use Rattle.kw_command.specs.declared.command.Command.{Command}
use Rattle.kw_command.specs.declared.command.Command.TheVariants as command
use Rattle.kw_app.specs.declared.outcome.Status.{Status}
use Rattle.kw_app.specs.declared.outcome.Status.TheVariants as status
use Rattle.kw_app.specs.Ends.{IsBadInput}
use Rattle.kw_app.specs.Few.{AreFew, IsEnough}
use Rattle.kw_app.specs.Generated.{generated}
use Rattle.kw_app.specs.Tables.{updates}

-- the source tells these bytes, and they are no bad input for the command: not too long, and with
-- no line outside its grammar
pub record TellsGood (c : Command) (left : Option (List ℕ)) (bytes : List ℕ) : Type 0 where
  pub told : left ≡ Some bytes
  pub good : (at : ℕ) → IsBadInput c at bytes → ⊥

-- What is left to read is good input for the command, and its lines have few updates for so many
-- workers and rows; so have the lines that `gen` makes, which reads nothing. The updates of a
-- script or a record are not asked of the concurrent map.
abbrev pub AsksFew : Command → Option (List ℕ) → Type 0
AsksFew (command.Replay w r) left = (bytes : List ℕ) × TellsGood (command.Replay w r) left bytes × ((items : List Item) → AreLinesOf bytes items → AreFew w r items)
AsksFew (command.Simulate r b) left = (bytes : List ℕ) × TellsGood (command.Simulate r b) left bytes
AsksFew command.Judge left = (bytes : List ℕ) × TellsGood command.Judge left bytes
AsksFew (command.Gen s n w r) left = AreFew w r (generated s n)
AsksFew (command.Rollup g w r) left = (bytes : List ℕ) × TellsGood (command.Rollup g w r) left bytes × ((items : List RollItem) → AreRollLines bytes items → IsEnough w r (length (updates items)))

-- all was done, or memory was wanted; and what was done may be that a record was judged not to be
-- good
abbrev pub HasDone : Command → Status → Type 0
HasDone (command.Replay w r) s = (s ≡ status.Done) ⊎ (s ≡ status.OutOfMemory)
HasDone (command.Simulate r b) s = (s ≡ status.Done) ⊎ (s ≡ status.OutOfMemory)
HasDone command.Judge s = (s ≡ status.Done) ⊎ ((s ≡ status.NotLegal) ⊎ (s ≡ status.OutOfMemory))
HasDone (command.Gen i n w r) s = (s ≡ status.Done) ⊎ (s ≡ status.OutOfMemory)
HasDone (command.Rollup g w r) s = (s ≡ status.Done) ⊎ (s ≡ status.OutOfMemory)
