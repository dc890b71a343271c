-- What is said of the lines that are dealt: their numbers, which of them are quiet, and those of
-- all workers together.
use Rattle.std.specs.Prelude.{ℕ, ◌≡◌, ◌+◌, ◌<◌, Bool, not, ◌||◌, List, map, Some, slice_get}
use Rattle.std.specs.List.{AllPairs, flat_map, list_any, range_with_len}
use Rattle.kw_line.specs.declared.item.Form.{Form}
use Rattle.kw_line.specs.declared.item.Item.{Item}
use Rattle.kw_line.specs.declared.item.Item.TheVariants.{Call}
use Rattle.kw_line.specs.Answered.{is_update, is_range}
use Rattle.kw_work.specs.declared.line.Line.{Line}
use Rattle.kw_work.specs.Dealing.{part}

-- the line is the item of its number, where the items are numbered from n on
abbrev pub IsItemOf : ℕ → List Item → Line → Type 0
IsItemOf n items line = (i : ℕ) × (line.number ≡ n + i) × (slice_get items i ≡ Some (Call line.call line.form))

-- the numbers of the lines rise strictly
abbrev pub AreRising : List Line → Type 0
AreRising lines = AllPairs (λ (a b : Line). a.number < b.number) lines

-- the lines of all workers, one worker after another
abbrev pub all_parts : ℕ → List Line → List Line
all_parts workers lines = flat_map (λ worker. part workers worker lines) (range_with_len 0 workers)

-- of each line of a block of these forms, whether it is quiet: it asks for no range, or no line of
-- the block sets a value or takes a key away
abbrev pub quiet_forms : List Form → List Bool
quiet_forms forms = map (λ f. not (is_range f) || not (list_any is_update forms)) forms

-- of each line of a block, whether it is quiet
abbrev pub quiet_lines : List Line → List Bool
quiet_lines block = quiet_forms (map (λ (l : Line). l.form) block)
