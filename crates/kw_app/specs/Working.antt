-- What a worker does with its lines.
use Rattle.std.specs.Prelude.{◌≡◌, List, ◌++◌, map, All}
use Rattle.kw_laws.specs.SeatCalls.{CallSeen}
use Rattle.kw_line.specs.declared.answer.Answer.{Answer}
use Rattle.kw_line.specs.Answered.{answers_for}
use Rattle.kw_table.specs.declared.pass.Pass.{Pass}
use Rattle.kw_follow.specs.Calling.{calls_in, now_in}
use Rattle.kw_work.specs.declared.line.Line.{Line}
use Rattle.kw_app.specs.Recorded.{asked, asks, line_forms, reply_of, AreReplies, IsWithin}

-- the answers to lines that made these calls
abbrev pub answered_by : List Line → List CallSeen → List Answer
answered_by lines made = answers_for (line_forms lines) (map reply_of made)

-- the new calls of the pass are just those of the lines, in their order, and all have ended, each
-- by a reply that its line may have, so none was stopped; the answers are those of the recorded
-- replies
pub record Works (p q : Pass) (lines : List Line) (answers : List Answer) : Type 0 where
  pub made : List CallSeen
  pub calls : calls_in q ≡ calls_in p ++ made
  pub asks_are : asked made ≡ asks lines
  pub within : All (IsWithin (now_in p) (now_in q)) made
  pub are_replies : AreReplies lines made
  pub answers_are : answers ≡ answered_by lines made
