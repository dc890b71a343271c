-- The lines of an input of metric points, and how each is written.
use Rattle.std.specs.Prelude.{ℕ, ◌≡◌, ◌+◌, ◌<◌, ◌^◌, List, [], ◌∷◌, ◌++◌, map, length, codes, decimal}
use Rattle.std.specs.List.{join_with_byte, AllByRecursion}
use Rattle.kw_line.specs.declared.words.TheConstants.{SPACE}
use Rattle.kw_line.specs.Cut.{lines}
use Rattle.kw_rollup.specs.Buckets.{series_of, minute_of}
use Rattle.kw_rollup.specs.declared.item.RollItem.{RollItem}
use Rattle.kw_rollup.specs.declared.item.RollItem.TheVariants.{Put, Del, Table}

-- what a line may be: a key has 32 bits, which are a series below 4,096 and a minute below
-- 1,048,576, and a value has 63
abbrev pub IsRollItem : RollItem → Type 0
IsRollItem (Put k v) = (k < 2 ^ 32) × (v < 2 ^ 63)
IsRollItem (Del k) = k < 2 ^ 32
IsRollItem Table = Unit {0}

-- the words of a key: its series and its minute, without a sign or a leading zero
unfoldable pub key_words : ℕ → List (List ℕ)
key_words k = decimal (series_of k) ∷ decimal (minute_of k) ∷ []

-- the words of an item
abbrev pub roll_words : RollItem → List (List ℕ)
roll_words (Put k v) = codes "put" ∷ (key_words k ++ decimal v ∷ [])
roll_words (Del k) = codes "del" ∷ key_words k
roll_words Table = codes "table" ∷ []

-- the text of an item: its words, separated by one space each
unfoldable pub roll_text : RollItem → List ℕ
roll_text i = join_with_byte SPACE (roll_words i)

-- the line is the text of an item
abbrev pub IsRollText : List ℕ → Type 0
IsRollText line = (i : RollItem) × IsRollItem i × (line ≡ roll_text i)

-- the lines of these bytes are the texts of these items, one for one
pub record AreRollLines (bytes : List ℕ) (items : List RollItem) : Type 0 where
  pub each : AllByRecursion IsRollItem items
  pub texts : lines bytes ≡ map roll_text items

-- this line of the bytes, counted from 1, is the text of no item, and each line before it is the
-- text of one
pub record IsFirstBadRollLine (bytes : List ℕ) (number : ℕ) : Type 0 where
  pub before : List RollItem
  pub line : List ℕ
  pub after : List (List ℕ)
  pub number_is : number ≡ length before + 1
  pub cut : lines bytes ≡ map roll_text before ++ line ∷ after
  pub each : AllByRecursion IsRollItem before
  pub bad : IsRollText line → ⊥
