-- What is printed for the replies of the map.
use Rattle.std.specs.Prelude.{ℕ, Bool, true, false, not, IsTrue, List, [], ◌∷◌, ◌++◌, map, length, sum, codes, decimal, Option, Some, None}
use Rattle.std.specs.List.{join_with_byte, flat_map}
use Rattle.kw_model.specs.Map.{Pairs}
use Rattle.kw_model.specs.Values.{values, least, greatest}
use Rattle.kw_model.specs.declared.call.Reply.{Reply}
use Rattle.kw_model.specs.declared.call.Reply.TheVariants as reply
use Rattle.kw_line.specs.declared.item.Form.{Form}
use Rattle.kw_line.specs.declared.item.Form.TheVariants as form
use Rattle.kw_line.specs.declared.answer.Answer.{Answer}
use Rattle.kw_line.specs.declared.answer.Answer.TheVariants as answer
use Rattle.kw_line.specs.declared.words.TheConstants.{LINE_FEED, SPACE}
use Rattle.kw_line.specs.declared.print.TheConstants.{EQUALS}

-- the line sets a value or takes a key away
abbrev pub is_update : Form → Bool
is_update form.Put = true
is_update form.Del = true
is_update _ = false

-- the line asks for the value of one key
abbrev pub is_get : Form → Bool
is_get form.Get = true
is_get _ = false

-- the line asks for a range of keys
abbrev pub is_range : Form → Bool
is_range form.Put = false
is_range form.Del = false
is_range form.Get = false
is_range _ = true

-- the call of a line of this form may have this reply, and was not stopped; no line is told of pins
abbrev pub IsReplyOf : Form → Reply → Type 0
IsReplyOf f reply.Done = IsTrue (is_update f)
IsReplyOf f (reply.Value v) = IsTrue (is_get f)
IsReplyOf f reply.Absent = IsTrue (is_get f)
IsReplyOf f (reply.Pairs ps) = IsTrue (is_range f)
IsReplyOf f reply.NoRows = IsTrue (is_update f)
IsReplyOf f reply.Spent = IsTrue (not (is_get f))
IsReplyOf f reply.Stopped = ⊥
IsReplyOf f reply.Held = ⊥
IsReplyOf f reply.NotPinned = ⊥

-- a number, or nothing
abbrev pub number_or_nothing : Option ℕ → Answer
number_or_nothing None = answer.Nothing
number_or_nothing (Some n) = answer.Number n

-- what a line says of the pairs in its range
abbrev pub answer_of_pairs : Form → Pairs → Answer
answer_of_pairs form.Sum ps = answer.Number (sum (values ps))
answer_of_pairs form.Count ps = answer.Number (length ps)
answer_of_pairs form.Least ps = number_or_nothing (least (values ps))
answer_of_pairs form.Greatest ps = number_or_nothing (greatest (values ps))
answer_of_pairs _ ps = answer.Pairs ps

-- what a line says of its reply; a call that was stopped and a reply of pins have no answer, and
-- are given one here only so that there is always one
abbrev pub answer_for : Form → Reply → Answer
answer_for f reply.Done = answer.Done
answer_for f (reply.Value v) = answer.Number v
answer_for f reply.Absent = answer.Nothing
answer_for f (reply.Pairs ps) = answer_of_pairs f ps
answer_for f reply.NoRows = answer.NoRows
answer_for f reply.Spent = answer.Spent
answer_for f reply.Stopped = answer.Spent
answer_for f reply.Held = answer.Nothing
answer_for f reply.NotPinned = answer.Nothing

-- a pair as it is printed
abbrev pub pair_text : ℕ × ℕ → List ℕ
pair_text p = decimal p.0 ++ EQUALS ∷ decimal p.1

-- pairs as they are printed: separated by one space, or a word for none
abbrev pub pairs_text : Pairs → List ℕ
pairs_text [] = codes "empty"
pairs_text (p ∷ ps) = join_with_byte SPACE (map pair_text (p ∷ ps))

-- an answer as it is printed
abbrev pub answer_text : Answer → List ℕ
answer_text answer.Done = codes "ok"
answer_text (answer.Number n) = decimal n
answer_text answer.Nothing = codes "none"
answer_text (answer.Pairs ps) = pairs_text ps
answer_text answer.NoRows = codes "no rows"
answer_text answer.Spent = codes "spent"

-- the printed text: each answer, and a line feed after each
abbrev pub text : List Answer → List ℕ
text answers = flat_map (λ a. answer_text a ++ LINE_FEED ∷ []) answers

-- the answers to lines of these forms whose calls had these replies
abbrev pub answers_for : List Form → List Reply → List Answer
answers_for [] rs = []
answers_for (f ∷ fs) [] = []
answers_for (f ∷ fs) (r ∷ rs) = answer_for f r ∷ answers_for fs rs

-- the text that is printed for these replies
abbrev pub text_of : List Form → List Reply → List ℕ
text_of fs rs = text (answers_for fs rs)
