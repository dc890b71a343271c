-- What `rollup` prints: at each line that asks for one a table of the points that the accepted
-- updates above it leave.
use Rattle.std.specs.Prelude.{ℕ, suc, ◌≡◌, Bool, true, false, if◌then◌else◌, Option, Some, None, List, [], ◌∷◌, ◌++◌, length, take, drop, slice_get}
use Rattle.std.specs.List.{count_by, filter, flat_map, range_with_len}
use Rattle.kw_model.specs.Map.{Pairs, IsRising, put, without}
use Rattle.kw_line.specs.declared.answer.Answer.{Answer}
use Rattle.kw_line.specs.declared.answer.Answer.TheVariants as answer
use Rattle.kw_rollup.specs.declared.item.RollItem.{RollItem}
use Rattle.kw_rollup.specs.declared.item.RollItem.TheVariants as roll
use Rattle.kw_rollup.specs.Buckets.{buckets}
use Rattle.kw_rollup.specs.Texts.{table_text}
use Rattle.kw_app.specs.Asked.{updates_above}
use Rattle.kw_app.specs.Running.{is_refused}

-- the points after an update
abbrev pub changed : Pairs → RollItem → Pairs
changed m (roll.Put k v) = put k v m
changed m (roll.Del k) = without k m
changed m roll.Table = m

-- the points after an update that was answered so: a refusal leaves them as they were
abbrev pub accepted : Pairs → RollItem → Answer → Pairs
accepted m i a = if is_refused a then m else changed m i

-- the points after these updates, one after the other, with these answers
abbrev pub accepted_all : Pairs → List RollItem → List Answer → Pairs
accepted_all m [] given = m
accepted_all m (i ∷ is) [] = m
accepted_all m (i ∷ is) (a ∷ given) = accepted_all (accepted m i a) is given

-- the line makes an update
abbrev pub is_update : RollItem → Bool
is_update (roll.Put k v) = true
is_update (roll.Del k) = true
is_update roll.Table = false

-- the updates among these lines
abbrev pub updates : List RollItem → List RollItem
updates items = filter is_update items

-- the points that the updates above leave in line order, from none on, where the first of these
-- answers are theirs
abbrev pub points_below : List RollItem → List Answer → Pairs
points_below above given = accepted_all [] (updates above) given

-- and how many of them were refused
abbrev pub refused_among : List RollItem → List Answer → ℕ
refused_among above given = count_by is_refused (take (length (updates above)) given)

-- what is printed at a line below these
abbrev pub line_text : ℕ → List RollItem → List Answer → Option RollItem → List ℕ
line_text width above given (Some roll.Table) = table_text (buckets width (points_below above given)) (refused_among above given)
line_text width above given (Some (roll.Put k v)) = []
line_text width above given (Some (roll.Del k)) = []
line_text width above given None = []

-- the answers to the updates: that to the scan stands behind those to the updates above the first
-- table
abbrev pub update_answers : List RollItem → List Answer → List Answer
update_answers items answers = take (updates_above items) answers ++ drop (suc (updates_above items)) answers

-- what is printed at the line of this place, among lines that were answered so
abbrev pub text_at : ℕ → List RollItem → List Answer → ℕ → List ℕ
text_at width items answers n = line_text width (take n items) (update_answers items answers) (slice_get items n)

-- and at all of them: the tables, in line order
abbrev pub tables : ℕ → List RollItem → List Answer → List ℕ
tables width items answers = flat_map (text_at width items answers) (range_with_len 0 (length items))

-- the points below the updates above the first table
abbrev pub points_scanned : List RollItem → List Answer → Pairs
points_scanned items answers = points_below (take (updates_above items) items) (update_answers items answers)

-- each update has an answer, and the scan was answered by the points at the first table
pub record AreWhole (items : List RollItem) (answers : List Answer) : Type 0 where
  pub many : length answers ≡ suc (length (updates items))
  pub scan : slice_get answers (updates_above items) ≡ Some (answer.Pairs (points_scanned items answers))
  pub rising : IsRising (points_scanned items answers)
