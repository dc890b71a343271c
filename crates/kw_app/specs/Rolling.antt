-- What `rollup` prints of an input: the tables among its lines, from a run on the concurrent map.
use Rattle.std.specs.Prelude.{ℕ, ◌≡◌, List, Option}
use Rattle.kw_line.specs.declared.answer.Answer.{Answer}
use Rattle.kw_rollup.specs.declared.item.RollItem.{RollItem}
use Rattle.kw_rollup.specs.Lines.{AreRollLines}
use Rattle.kw_table.specs.declared.pass.Pass.{Pass}
use Rattle.kw_app.specs.declared.printed.Ending.{Ending}
use Rattle.kw_app.specs.Answering.{IsAnswered, some_refused}
use Rattle.kw_app.specs.Asked.{IsFirstWorkers, asked_items}
use Rattle.kw_app.specs.Ending.{refusal_ending}
use Rattle.kw_app.specs.Tables.{tables}

-- the text is that of such tables, where these workers answered on a map of so many rows
pub record IsRolledOf (width workers rows : ℕ) (items : List RollItem) (printed : List ℕ) (front : Option Pass) (end : Ending) : Type 0 where
  pub answers : List Answer
  pub answered : IsAnswered workers rows (asked_items workers items) answers front
  pub scan : IsFirstWorkers workers (asked_items workers items)
  pub text_is : printed ≡ tables width items answers
  -- an update was refused
  pub ending_is : end ≡ refusal_ending (some_refused answers)

-- the text is that of the tables among the lines of these bytes
pub record IsRolled (width workers rows : ℕ) (bytes printed : List ℕ) (front : Option Pass) (end : Ending) : Type 0 where
  pub items : List RollItem
  pub lines : AreRollLines bytes items
  pub rolled : IsRolledOf width workers rows items printed front end
