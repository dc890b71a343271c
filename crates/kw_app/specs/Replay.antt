-- What `replay` prints: the text of the answers to the lines of an input, in line order.
use Rattle.std.specs.Prelude.{ℕ, ◌≡◌, List, Option}
use Rattle.kw_line.specs.declared.item.Item.{Item}
use Rattle.kw_line.specs.declared.answer.Answer.{Answer}
use Rattle.kw_line.specs.Line.{AreLinesOf}
use Rattle.kw_line.specs.Answered.{text}
use Rattle.kw_table.specs.declared.pass.Pass.{Pass}
use Rattle.kw_app.specs.declared.printed.Ending.{Ending}
use Rattle.kw_app.specs.Answering.{IsAnswered, some_refused}
use Rattle.kw_app.specs.Ending.{refusal_ending}

-- the text is that of such answers to these items
pub record IsPrintedOf (workers rows : ℕ) (items : List Item) (printed : List ℕ) (front : Option Pass) (end : Ending) : Type 0 where
  pub answers : List Answer
  pub answered : IsAnswered workers rows items answers front
  pub text_is : printed ≡ text answers
  pub ending_is : end ≡ refusal_ending (some_refused answers)

-- the text is that of such answers to the lines of these bytes
pub record IsReplayed (workers rows : ℕ) (bytes printed : List ℕ) (front : Option Pass) (end : Ending) : Type 0 where
  pub items : List Item
  pub lines : AreLinesOf bytes items
  pub replies : IsPrintedOf workers rows items printed front end
