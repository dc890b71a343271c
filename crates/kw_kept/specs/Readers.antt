-- What a reader of a row knows at its end. A row may have dropped a tombstone under which there is
-- no older cell, so the put whose gap the reader answers from may have no cell there.
use Rattle.std.specs.Prelude.{ℕ, ◌≡◌, ◌⊎◌, ◌<◌, ◌≤◌, Bool, Option, Some}
use Rattle.kw_kept.specs.Puts.{Puts, On, StandsBefore, StandsUpTo, Greatest, HasGreatest, Same, Shows}

-- stamped before a position
abbrev pub Before : Puts → (ℕ → Type 0) → ℕ → ℕ → Type 0
Before puts stamped a p = stamped p × ((puts p).at < a)

-- the cells of the row that were stamped before a position show what all puts show that were
-- stamped before it
abbrev pub Front : Puts → (ℕ → Type 0) → (ℕ → Type 0) → ℕ → ℕ → ℕ → Type 0
Front puts in_row stamped a k u = Shows puts (λ p. in_row p × Before puts stamped a p) (Before puts stamped a) k u

-- events later than a position: puts that were stamped stay as they were, and their cells; what is
-- stamped anew is stamped later
pub record GoesOn (puts puts' : Puts) (in_row in_row' stamped stamped' : ℕ → Type 0) (a : ℕ) : Type 0 where
  pub unchanged : (p : ℕ) → stamped p → puts' p ≡ puts p
  pub old : (p : ℕ) → stamped p → stamped' p
  pub was : (p : ℕ) → stamped' p → stamped p ⊎ (a ≤ (puts' p).at)
  pub row_old : (p : ℕ) → in_row p → stamped p → in_row' p
  pub row_was : (p : ℕ) → in_row' p → stamped p → in_row p

-- the sets of which a reader of a row knows: the puts of the row, those of which it has gathered a
-- cell, all stamped puts, those that were stamped before it looked, or before the row was unlinked;
-- the attempts that were made in the row since it was linked, those that were announced before its
-- first event, and those that lost their cell
pub record Sets : Type 1 where
  pub in_row : ℕ → Type 0
  pub gathered : ℕ → Type 0
  pub stamped : ℕ → Type 0
  pub before : ℕ → Type 0
  pub here : ℕ → Type 0
  pub early : ℕ → Type 0
  pub lost : ℕ → Type 0

-- the tests that pick them out
pub record Tests : Type 0 where
  pub in_row : ℕ → Bool
  pub gathered : ℕ → Bool
  pub stamped : ℕ → Bool
  pub before : ℕ → Bool
  pub here : ℕ → Bool
  pub early : ℕ → Bool
  pub lost : ℕ → Bool

-- what the tests pick out
abbrev pub on_sets : Tests → Sets
on_sets t = record { in_row = On t.in_row; gathered = On t.gathered; stamped = On t.stamped; before = On t.before; here = On t.here; early = On t.early; lost = On t.lost }

-- what a reader has of a row, for one key at one version: `best` is the greatest that it has
-- gathered
pub record Reads (puts : Puts) (s : Sets) (k v : ℕ) (best : Option ℕ) : Type 0 where
  pub best_is : Greatest puts s.gathered k v best
  pub front : HasGreatest puts (λ p. s.in_row p × s.before p) k v
  pub top : HasGreatest puts s.before k v
  pub shows : Shows puts (λ p. s.in_row p × s.before p) s.before k v
  -- what is gathered is of the row and stamped, and all of the row that was stamped before is
  -- gathered
  pub of_row : (p : ℕ) → s.gathered p → s.in_row p × s.stamped p
  pub all : (p : ℕ) → s.in_row p → s.before p → s.gathered p
  pub stamps : (p : ℕ) → s.before p → s.stamped p
  pub known : (p : ℕ) → s.before p ⊎ (s.before p → ⊥)
  -- what was stamped later stands after all of its key that was stamped before elsewhere
  pub later : (p q : ℕ) → s.gathered p → (s.before p → ⊥) → s.before q → (puts q).key ≡ (puts p).key → s.in_row q ⊎ StandsBefore puts q p
  -- attempts made here are lost or gathered, those made elsewhere lost or stamped before
  pub where_made : (q : ℕ) → s.here q ⊎ (s.here q → ⊥)
  pub own : (q : ℕ) → s.early q → (puts q).key ≡ k → s.here q → s.lost q ⊎ s.gathered q
  pub other : (q : ℕ) → s.early q → (puts q).key ≡ k → (s.here q → ⊥) → s.lost q ⊎ s.before q

-- what it answers is what a gap shows, behind a stamped put of the key or behind none; where it
-- answers a value, the gap is behind the put of its cell. Each early attempt is lost, or stamped
-- and, if its version is in bound, not after the gap
pub record Knows (puts : Puts) (s : Sets) (k v : ℕ) (best : Option ℕ) : Type 0 where
  pub gap : Option ℕ
  pub of_key : (p : ℕ) → gap ≡ Some p → s.stamped p × ((puts p).key ≡ k) × ((puts p).version ≤ v)
  pub shows : Same puts gap best
  pub knows : (q : ℕ) → s.early q → (puts q).key ≡ k → s.lost q ⊎ s.stamped q × ((puts q).version ≤ v → StandsUpTo puts gap q)
