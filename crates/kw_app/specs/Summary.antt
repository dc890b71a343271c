-- The summary of the replies to generated lines.
use Rattle.std.specs.Prelude.{ℕ, Bool, true, false, ◌+◌, ◌-◌, ◌&&◌, if◌then◌else◌, List, [], ◌∷◌, ◌++◌, length, drop, codes, decimal}
use Rattle.std.specs.List.{count_by}
use Rattle.kw_line.specs.declared.item.Form.{Form}
use Rattle.kw_line.specs.declared.item.Form.TheVariants as form
use Rattle.kw_line.specs.declared.item.Item.{Item}
use Rattle.kw_line.specs.declared.item.Item.TheVariants as item
use Rattle.kw_line.specs.declared.answer.Answer.{Answer}
use Rattle.kw_line.specs.declared.answer.Answer.TheVariants as answer
use Rattle.kw_line.specs.declared.words.TheConstants.{LINE_FEED, SPACE}
use Rattle.kw_line.specs.Answered.{answer_text}
use Rattle.kw_app.specs.declared.summary.TheConstants.{LAST_REPLIES}

-- the line sets a value, takes a key away, or asks for the value of a key
abbrev pub is_put : Item → Bool
is_put (item.Call c form.Put) = true
is_put _ = false

abbrev pub is_del : Item → Bool
is_del (item.Call c form.Del) = true
is_del _ = false

abbrev pub is_get : Form → Bool
is_get form.Get = true
is_get _ = false

abbrev pub is_get_line : Item → Bool
is_get_line (item.Call c form.Get) = true
is_get_line _ = false

-- the answer is a number
abbrev pub is_number : Answer → Bool
is_number (answer.Number n) = true
is_number _ = false

-- of the lines with these answers, how many are gets that gave a value; a wait has no answer
abbrev pub found : List Item → List Answer → ℕ
found [] given = 0
found (item.Wait ∷ items) given = found items given
found (item.Call c f ∷ items) [] = 0
found (item.Call c f ∷ items) (a ∷ given) = (if is_get f && is_number a then 1 else 0) + found items given

-- a line of the summary: a word, a space and a text
abbrev pub summary_line : List ℕ → List ℕ → List ℕ
summary_line word text = word ++ SPACE ∷ text ++ LINE_FEED ∷ []

-- the lines of the last replies, where there are given many
abbrev pub last_texts : List Answer → List ℕ
last_texts (count ∷ sum ∷ least ∷ greatest ∷ []) =
    summary_line (codes "count") (answer_text count) ++ summary_line (codes "sum") (answer_text sum)
    ++ summary_line (codes "least") (answer_text least) ++ summary_line (codes "greatest") (answer_text greatest)
last_texts _ = []

-- the last replies
abbrev pub last_of : List Answer → List Answer
last_of given = drop (length given - LAST_REPLIES) given

-- the summary: how many lines of each kind there are, how many gets gave a value, and the last
-- replies
abbrev pub summary : List Item → List Answer → List ℕ
summary items given =
    summary_line (codes "puts") (decimal (count_by is_put items)) ++ summary_line (codes "dels") (decimal (count_by is_del items))
    ++ summary_line (codes "gets") (decimal (count_by is_get_line items)) ++ summary_line (codes "found") (decimal (found items given))
    ++ last_texts (last_of given)
