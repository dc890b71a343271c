-- The plain list of entries: the last entry of a key, and an index of the places of last entries.
use Rattle.std.specs.Prelude.{ℕ, suc, ◌≡◌, ◌==◌, List, [], ◌∷◌, Option, Some, None, if◌then◌else◌}
use Rattle.kw_cells.specs.Pairs.{Pairs, IsRising, value_of}

-- entries of a key and its value, where no value is a delete
abbrev pub Entries : Type 0
Entries = List (ℕ × Option ℕ)

-- the first, or where it is none the second
abbrev pub or_else : {X : Type 0} → Option X → Option X → Option X
or_else (Some x) o = Some x
or_else None o = o

-- what the last entry of the key has
abbrev pub last_of : Entries → ℕ → Option (Option ℕ)
last_of [] k = None
last_of (e ∷ es) k = or_else (last_of es k) (if k == e.0 then Some e.1 else None)

-- a value within, or none
abbrev pub flat : Option (Option ℕ) → Option ℕ
flat (Some o) = o
flat None = None

-- the value of the key's last entry, or none where that is a delete or there is none
abbrev pub shown_last : Entries → ℕ → Option ℕ
shown_last es k = flat (last_of es k)

-- one more, where it is a number
abbrev pub raised : Option ℕ → Option ℕ
raised (Some n) = Some (suc n)
raised None = None

-- the place of the key's last entry, counted from 0
abbrev pub index_of : Entries → ℕ → Option ℕ
index_of [] k = None
index_of (e ∷ es) k = or_else (raised (index_of es k)) (if k == e.0 then Some 0 else None)

-- the index has the place of each key's last entry, by rising key
pub record IsIndex (index : Pairs) (es : Entries) : Type 0 where
  pub rising : IsRising index
  pub places : (k : ℕ) → value_of k index ≡ index_of es k
