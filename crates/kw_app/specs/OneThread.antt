-- What the ordered map of one thread answers to the lines of an input.
use Rattle.std.specs.Prelude.{List, []}
use Rattle.kw_model.specs.Map.{answers}
use Rattle.kw_line.specs.declared.item.Item.{Item}
use Rattle.kw_line.specs.declared.answer.Answer.{Answer}
use Rattle.kw_line.specs.Answered.{answers_for}
use Rattle.kw_line.specs.Line.{calls, forms}

-- the answers to the calls of these items, asked in line order of a map that was empty
abbrev pub answers_to : List Item → List Answer
answers_to items = answers_for (forms items) (answers [] (calls items))
