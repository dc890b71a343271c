-- A row read off the words of the table.
use Rattle.std.specs.Prelude.{ℕ, ◌≡◌, Bool, true, Option, Some, None}
use Rattle.kw_words.specs.declared.layout.Name.{Name}
use Rattle.kw_words.specs.declared.layout.Name.TheVariants as name
use Rattle.kw_words.specs.Plain.{key_of_word, cell_of_link_word}
use Rattle.kw_lists.specs.Rows.{Row}
use Rattle.kw_lists.specs.Changes.{with_cell}

-- what the first link of a row holds, or that of a cell
abbrev pub link_in : (Name → ℕ) → ℕ → Option ℕ → Option ℕ
link_in v r None = cell_of_link_word (v (name.First r))
link_in v r (Some c) = cell_of_link_word (v (name.After r c))

-- the cells and links of row r in these words, with the cells that are listed. The version is the
-- word itself: 0 where there is none
abbrev pub row_in : (Name → ℕ) → ℕ → (ℕ → Bool) → Row
row_in v r listed = record {
  key = λ c. key_of_word (v (name.Key r c));
  version = λ c. v (name.Version r c);
  link = link_in v r;
  listed = listed;
}

-- the cell's words of key and version are what they were
pub record SameWords (v v' : Name → ℕ) (r c : ℕ) : Type 0 where
  pub key : v' (name.Key r c) ≡ v (name.Key r c)
  pub version : v' (name.Version r c) ≡ v (name.Version r c)

-- the words of the list are what they were: its first link, and of each listed cell all but the
-- value
pub record KeepsList (v v' : Name → ℕ) (r : ℕ) (listed : ℕ → Bool) : Type 0 where
  pub first : v' (name.First r) ≡ v (name.First r)
  pub after : (c : ℕ) → listed c ≡ true → v' (name.After r c) ≡ v (name.After r c)
  pub cell : (c : ℕ) → listed c ≡ true → SameWords v v' r c

-- the words in which the link at `at` leads to cell c, and in which all else that the list with c
-- has is what it was
pub record LinksIn (v v' : Name → ℕ) (r : ℕ) (listed : ℕ → Bool) (at : Option ℕ) (c : ℕ) : Type 0 where
  pub new : link_in v' r at ≡ Some c
  pub first : (a : ℕ) → at ≡ Some a → v' (name.First r) ≡ v (name.First r)
  pub after : (d : ℕ) → with_cell listed c d ≡ true → (at ≡ Some d → ⊥) → v' (name.After r d) ≡ v (name.After r d)
  pub cell : (d : ℕ) → with_cell listed c d ≡ true → SameWords v v' r d
