-- Where rising cells are cut by a test that holds of lesser keys: the cells that pass it are
-- counted, and stand in front.
use Rattle.std.proofs.Common.{ℕ, zero, suc, Bool, true, false, ◌≡◌, ◌<◌, ◌≤◌, ◌+◌, cond, count_by, List, [], ◌∷◌, refl, sym, ◌∙◌, arith, length, get_or}
use Rattle.std.proofs.lemmas.List.Sums.{sum_by-cons}
use Rattle.std.proofs.lemmas.Bool.{false≢true}
use Rattle.kw_cells.specs.Kept.{AreRising}
use Rattle.kw_cells.specs.declared.cell.Cell.{Cell}
use Rattle.kw_cells.proofs.Rising.{keys_rise}

-- what passes is no greater than what does not
abbrev pub IsDown : (ℕ → Bool) → Type 0
IsDown p = (a b : ℕ) → a ≤ b → p b ≡ true → p a ≡ true

-- how many cells pass
abbrev pub passing : (ℕ → Bool) → List Cell → ℕ
passing p cells = count_by (λ c. p c.key) cells

-- the cells in front of a place pass, and those from it on do not
pub record IsCut (p : ℕ → Bool) (cells : List Cell) (place : ℕ) : Type 0 where
  pub within : place ≤ length cells
  pub before : (k : ℕ) (d : Cell) → k < place → p (get_or cells k d).key ≡ true
  pub from_it : (k : ℕ) (d : Cell) → place ≤ k → k < length cells → p (get_or cells k d).key ≡ false

-- the cells behind the first rise too
rising_behind : (c : Cell) (cells : List Cell) → AreRising (c ∷ cells) → AreRising cells
rising_behind c cells rising i j d g l = rising (suc i) (suc j) d (omega arith) (omega arith)

-- the first cell by itself
first_apart : (p : ℕ → Bool) (c : Cell) (cells : List Cell) → passing p (c ∷ cells) ≡ cond (p c.key) 1 0 + passing p cells
first_apart p c cells = sum_by-cons (λ (x : Cell). cond (p x.key) 1 0) c cells

-- where none passes none is counted
none_pass : (p : ℕ → Bool) (cells : List Cell) → ((k : ℕ) (d : Cell) → k < length cells → p (get_or cells k d).key ≡ false) → passing p cells ≡ 0
none_pass p [] all = refl
none_pass p (c ∷ cells) all =
    let h = none_pass p cells (λ k d l. all (suc k) d (omega arith)) in
    let f : p c.key ≡ false = all 0 c (omega arith) in
    first_apart p c cells ∙ rw (f, h) refl

-- the cells that pass stand in front
pub cut_is : (p : ℕ → Bool) → IsDown p → (cells : List Cell) → AreRising cells → IsCut p cells (passing p cells)
cut_is p down [] rising = record { within = omega arith; before = λ k d g. absurd (omega arith); from_it = λ k d g l. absurd (omega arith) }
cut_is p down (c ∷ cells) rising = go (p c.key) refl (cut_is p down cells (rising_behind c cells rising))
  where
    go : (x : Bool) → p c.key ≡ x → IsCut p cells (passing p cells) → IsCut p (c ∷ cells) (passing p (c ∷ cells))
    go true e cut = record { within = (let w = cut.within in omega (arith, one)); before = before; from_it = from_it }
      where
        one : passing p (c ∷ cells) ≡ 1 + passing p cells
        one = first_apart p c cells ∙ rw e refl

        before : (k : ℕ) (d : Cell) → k < passing p (c ∷ cells) → p (get_or (c ∷ cells) k d).key ≡ true
        before zero d g = e
        before (suc k) d g = cut.before k d (omega (arith, one))

        from_it : (k : ℕ) (d : Cell) → passing p (c ∷ cells) ≤ k → k < length (c ∷ cells) → p (get_or (c ∷ cells) k d).key ≡ false
        from_it zero d g l = absurd (omega (arith, one))
        from_it (suc k) d g l = cut.from_it k d (omega (arith, one)) (omega arith)
    go false e cut = record { within = omega (arith, nothing); before = λ k d g. absurd (omega (arith, nothing)); from_it = λ k d g l. none k d l }
      where
        none : (k : ℕ) (d : Cell) → k < length (c ∷ cells) → p (get_or (c ∷ cells) k d).key ≡ false
        none k d l = told (p (get_or (c ∷ cells) k d).key) refl
          where
            told : (x : Bool) → p (get_or (c ∷ cells) k d).key ≡ x → p (get_or (c ∷ cells) k d).key ≡ false
            told false f = f
            told true f = absurd (false≢true (sym e ∙ down c.key (get_or (c ∷ cells) k d).key (keys_rise (c ∷ cells) rising 0 k d (omega arith) l) f))

        nothing : passing p (c ∷ cells) ≡ 0
        nothing = none_pass p (c ∷ cells) none
