-- How the tables come line by line.
use Rattle.std.specs.Prelude.{ℕ, suc, ◌≡◌, ◌≤◌, List, length, take, slice_get, Some}
use Rattle.std.specs.List.{flat_map, range_with_len}
use Rattle.kw_line.specs.declared.answer.Answer.{Answer}
use Rattle.kw_rollup.specs.declared.item.RollItem.{RollItem}
use Rattle.kw_app.specs.declared.tables.Rolling.{Rolling}
use Rattle.kw_app.specs.Asked.{updates_above}
use Rattle.kw_app.specs.Tables.{points_below, refused_among, text_at, update_answers, updates}

-- the first n of these lines were gone through: what is printed at them is at hand, with the points
-- below them, how many of their updates were refused, and the place of the answer to the next one
pub record StandsBelow (width : ℕ) (items : List RollItem) (answers : List Answer) (n : ℕ) (p : Rolling) : Type 0 where
  pub wide : p.rollup.width ≡ width
  pub pairs : p.rollup.pairs ≡ points_below (take n items) (update_answers items answers)
  pub refused : p.refused ≡ refused_among (take n items) (update_answers items answers)
  pub above : updates_above items ≤ length (updates (take n items))
  pub next : p.next ≡ suc (length (updates (take n items)))
  pub text : p.text.items ≡ flat_map (text_at width items answers) (range_with_len 0 n)

-- one line more was gone through, wherever it stands
abbrev pub GoesOn : RollItem → List Answer → Rolling → Rolling → Type 0
GoesOn i answers p q = (width : ℕ) (items : List RollItem) (n : ℕ) → slice_get items n ≡ Some i → StandsBelow width items answers n p → StandsBelow width items answers (suc n) q
