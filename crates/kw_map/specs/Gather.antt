-- What it is for a gatherer to take pairs. Of its meanings, `last` gives the last key that it took,
-- or none, and `stands` relates it to the lists of pairs for which it stands.
use Rattle.std.specs.Prelude.{ℕ, ◌≡◌, ◌<◌, ◌↔◌, [], ◌∷◌, ◌++◌, take, Option, Some}
use Rattle.std.specs.Option.{ForSome}
use Rattle.kw_model.specs.Map.{Pairs}

-- the key of the last of these pairs, and where there are none the key before them, or none
abbrev pub last_key : Option ℕ → Pairs → Option ℕ
last_key before [] = before
last_key before (p ∷ ps) = last_key (Some p.0) ps

-- the last key, if there is one, is below this key
abbrev pub IsBelow : Option ℕ → ℕ → Type 0
IsBelow last key = ForSome last (λ k. k < key)

-- a gatherer took a list of pairs: for each list for which it stood before, it stands afterwards
-- for that list followed by these pairs, and its last key is that of the last of them, unchanged
-- where there are none
pub record Takes {S : Type 0} (last : S → Option ℕ) (stands : S → Pairs → Type 0) (old : S) (pairs : Pairs) (new : S) : Type 0 where
  pub last_is : last new ≡ last_key (last old) pairs
  pub follows : (list : Pairs) → stands old list → stands new (list ++ pairs)

-- it took the first n of the pairs, for some n
abbrev pub TakesPrefix : {S : Type 0} → (S → Option ℕ) → (S → Pairs → Type 0) → S → Pairs → S → Type 0
TakesPrefix last stands old pairs new = (n : ℕ) × Takes last stands old (take n pairs) new

-- it has the last key that it had, and stands for the lists for which it stood
pub record StandsAsBefore {S : Type 0} (last : S → Option ℕ) (stands : S → Pairs → Type 0) (old new : S) : Type 0 where
  pub same_last : last new ≡ last old
  pub same_lists : (list : Pairs) → stands new list ↔ stands old list
