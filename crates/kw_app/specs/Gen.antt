-- What `gen` prints: the summary of the answers to the generated lines.
use Rattle.std.specs.Prelude.{ℕ, ◌≡◌, List, Option}
use Rattle.kw_line.specs.declared.answer.Answer.{Answer}
use Rattle.kw_table.specs.declared.pass.Pass.{Pass}
use Rattle.kw_app.specs.declared.printed.Ending.{Ending}
use Rattle.kw_app.specs.declared.printed.Ending.TheVariants as ending
use Rattle.kw_app.specs.Answering.{IsAnswered, some_refused}
use Rattle.kw_app.specs.Ending.{refusal_ending}
use Rattle.kw_app.specs.Generated.{generated}
use Rattle.kw_app.specs.OneThread.{answers_to}
use Rattle.kw_app.specs.Summary.{summary}

-- the summary of the lines that the generator makes from this number on, this many, where the map
-- of one thread answers them
abbrev pub summary_alone : ℕ → ℕ → List ℕ
summary_alone start count = summary (generated start count) (answers_to (generated start count))

-- the text is the summary of answers to these lines, by this many workers on a map of this many
-- rows
pub record IsSummaryOf (start count workers rows : ℕ) (printed : List ℕ) (front : Option Pass) (end : Ending) : Type 0 where
  pub answers : List Answer
  pub answered : IsAnswered workers rows (generated start count) answers front
  pub text_is : printed ≡ summary (generated start count) answers
  pub ending_is : end ≡ refusal_ending (some_refused answers)
  -- all generated lines are quiet, so where none is refused the text does not depend on what the
  -- workers did
  pub quiet : end ≡ ending.Done → printed ≡ summary_alone start count

-- such a text was written in this way
pub record Summarizes (start count workers rows : ℕ) (front : Option Pass) (end : Ending) (Writes : List ℕ → Type 0) : Type 0 where
  pub printed : List ℕ
  pub is_summary : IsSummaryOf start count workers rows printed front end
  pub writes : Writes printed
