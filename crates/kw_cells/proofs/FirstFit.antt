-- Of cells in order the first that fits is the best, and the pairs of a range come in one pass.
use Rattle.std.proofs.Common.{ℕ, zero, suc, true, false, ◌≡◌, ◌⊎◌, inl, inr, ◌<◌, ◌≤◌, ◌+◌, Option, Some, None, List, ◌∷◌, refl, sym, ap, subst, ◌∙◌, arith, All, length, get_or, drop, add-one, drop-cons}
use Rattle.std.proofs.lemmas.Bool.{cases_lt}
use Rattle.std.proofs.lemmas.List.{get_or-drop, get_or_default, length-drop}
use Rattle.std.proofs.lemmas.Bool.Decides.{nat_tests}
use Rattle.kw_cells.specs.Cells.{is_later, fits, best_of, IsNextPair, shown_at, value_in}
use Rattle.kw_cells.specs.InOrder.{stands_before, AreInOrder, AreBelow}
use Rattle.kw_cells.specs.declared.cell.Cell.{Cell}
use Rattle.kw_cells.proofs.Best.{pick, offered, best_of-cons, best_is, best_of-none, passed}
use Rattle.kw_cells.proofs.Next.{IsSilent}

-- a cell to ask for past the end
no_cell : Cell
no_cell = record { key = 0; place = 0; version = 0; value = None }

-- a cell in front of another has no greater key
not_above : (c d : Cell) (key : ℕ) → stands_before c d ≡ true → d.key ≡ key → c.key ≤ key
not_above c d key e k = grind (arith, nat_tests)

-- of one key, a cell in front is later
pub later_in_front : (c d : Cell) → stands_before c d ≡ true → c.key ≡ d.key → is_later c d ≡ true
later_in_front c d e k = grind (arith, nat_tests)

-- a cell that fits is the best of it and those behind it
pub first_is_best : (c : Cell) (cells : List Cell) (key version : ℕ) → All (λ d. stands_before c d ≡ true) cells → fits key version c ≡ true → best_of (c ∷ cells) key version ≡ Some c
first_is_best c cells key version a f = best_of-cons c cells key version ∙ which (best_of cells key version) refl
  where
    in_front : (x : Cell) → best_of cells key version ≡ Some x → is_later c x ≡ true
    in_front x e =
        let b = best_is cells key version x e in
        let w : stands_before c x ≡ true = subst (λ (y : Cell). stands_before c y ≡ true) b.among.2 (a b.among.0 x b.among.1) in
        let k : c.key ≡ key = grind (arith, nat_tests) in
        later_in_front c x w (k ∙ sym b.of_key)

    which : (o : Option Cell) → best_of cells key version ≡ o → pick (offered key version c) o ≡ Some c
    which None e = rw f refl
    which (Some x) e = rw (f, in_front x e) refl

-- the cells from a place on: the one there, and those behind it, which it stands before
pub from_here : (cells : List Cell) (n : ℕ) (x : Cell) → AreInOrder cells → n < length cells → (key version : ℕ) → fits key version (get_or cells n x) ≡ true → best_of (drop n cells) key version ≡ Some (get_or cells n x)
from_here cells n x o u key version f =
    let e : drop n cells ≡ get_or cells n x ∷ drop (n + 1) cells = rw add-one (drop-cons cells n x u) in
    ap (λ (cs : List Cell). best_of cs key version) e ∙ first_is_best (get_or cells n x) (drop (n + 1) cells) key version behind f
  where
    here : (k : ℕ) (d : Cell) → n + 1 + k < length cells → stands_before (get_or cells n x) (get_or cells (n + 1 + k) d) ≡ true
    here k d w = subst (λ (y : Cell). stands_before y (get_or cells (n + 1 + k) d) ≡ true) (get_or_default cells n d x u) (o n (n + 1 + k) d (omega arith) w)

    behind : All (λ d. stands_before (get_or cells n x) d ≡ true) (drop (n + 1) cells)
    behind k d w = subst (λ (y : Cell). stands_before (get_or cells n x) y ≡ true) (sym (get_or-drop (n + 1) cells k d)) (here k d (omega (arith, w, length-drop (n + 1) cells)))

-- cells in front that do not fit are passed over
pub skipped : (cells : List Cell) (n key version : ℕ) → n ≤ length cells → ((k : ℕ) (d : Cell) → k < n → fits key version (get_or cells k d) ≡ false) → best_of (drop n cells) key version ≡ best_of cells key version
skipped cells zero key version u f = refl
skipped cells (suc n) key version u f = rw (← add-one) (passed cells n key version no_cell None (best_of cells key version) (omega arith) (f n no_cell (omega arith)) (skipped cells n key version (omega arith) (λ k d w. f k d (omega arith))))

-- The pass.

-- the keys of cells in order do not fall
pub keys_rise : (cells : List Cell) → AreInOrder cells → (k n : ℕ) (d x : Cell) → k ≤ n → n < length cells → (get_or cells k d).key ≤ (get_or cells n x).key
keys_rise cells o k n d x u w = which (cases_lt k n)
  where
    which : (k < n) ⊎ (n ≤ k) → (get_or cells k d).key ≤ (get_or cells n x).key
    which (inl y) = let e = o k n d y w in let f = ap (λ (c : Cell). c.key) (get_or_default cells n d x w) in not_above (get_or cells k d) (get_or cells n d) (get_or cells n x).key e f
    which (inr y) = let e : k ≡ n = omega arith in let f = ap (λ j. (get_or cells j d).key) e in let g = ap (λ (c : Cell). c.key) (get_or_default cells n d x w) in omega arith

-- a pass stands at a place: no key of the range below `low` shows a value, and no cell in front
-- with a key from there on has a version that may be shown
pub record Passing (cells : List Cell) (version from low at : ℕ) : Type 0 where
  pub floor : from ≤ low
  pub silent : IsSilent cells version from low
  pub front : (k : ℕ) (d : Cell) → k < at → k < length cells → low ≤ (get_or cells k d).key → version < (get_or cells k d).version

-- it begins where the keys in front are below the range
pub passing_starts : (cells : List Cell) (version from at : ℕ) → AreBelow cells at from → Passing cells version from from at
passing_starts cells version from at b = record { floor = omega arith; silent = λ q u w. absurd (omega arith); front = λ k d u w l. absurd (let x = b k d u w in omega arith) }

-- a key from the present one on that is none of those left shows nothing
silent_at : (cells : List Cell) (version from low at q : ℕ) → Passing cells version from low at → low ≤ q → ((k : ℕ) (d : Cell) → at ≤ k → k < length cells → (get_or cells k d).key ≡ q → version < (get_or cells k d).version) → shown_at cells version q ≡ None
silent_at cells version from low at q p l f = ap value_in (best_of-none cells q version (λ k d w same. which k d w same (cases_lt k at)))
  where
    which : (k : ℕ) (d : Cell) → k < length cells → (get_or cells k d).key ≡ q → (k < at) ⊎ (at ≤ k) → version < (get_or cells k d).version
    which k d w same (inl u) = p.front k d u w (omega arith)
    which k d w same (inr u) = f k d u w same

-- no key of the range up to one below the cell at the place shows a value
pub silent_below_cell : (cells : List Cell) (version from low at : ℕ) (x : Cell) → AreInOrder cells → at < length cells → Passing cells version from low at → IsSilent cells version from (get_or cells at x).key
silent_below_cell cells version from low at x o u p q f l = which (cases_lt q low)
  where
    which : (q < low) ⊎ (low ≤ q) → shown_at cells version q ≡ None
    which (inl w) = p.silent q f w
    which (inr w) = silent_at cells version from low at q p w (λ k d y z same. absurd (let r = keys_rise cells o at k x d y z in omega arith))

-- behind the last cell no key shows a value
pub passing_ends : (cells : List Cell) (version from low at to : ℕ) → length cells ≤ at → Passing cells version from low at → (q : ℕ) → from ≤ q → q ≤ to → shown_at cells version q ≡ None
passing_ends cells version from low at to u p q f l = which (cases_lt q low)
  where
    which : (q < low) ⊎ (low ≤ q) → shown_at cells version q ≡ None
    which (inl w) = p.silent q f w
    which (inr w) = silent_at cells version from low at q p w (λ k d y z same. absurd (omega arith))

-- nor at a cell above the range
pub passing_above : (cells : List Cell) (version from low at to : ℕ) (x : Cell) → AreInOrder cells → at < length cells → to < (get_or cells at x).key → Passing cells version from low at → (q : ℕ) → from ≤ q → q ≤ to → shown_at cells version q ≡ None
passing_above cells version from low at to x o u a p q f l = silent_below_cell cells version from low at x o u p q f (omega arith)

-- a cell with a version that may be shown is the best of its key, where none in front is
pub best_here : (cells : List Cell) (version from low at : ℕ) (x : Cell) → AreInOrder cells → at < length cells → low ≤ (get_or cells at x).key → (get_or cells at x).version ≤ version → Passing cells version from low at → best_of cells (get_or cells at x).key version ≡ Some (get_or cells at x)
best_here cells version from low at x o u l v p =
    sym (skipped cells at (get_or cells at x).key version (omega arith) misses) ∙ from_here cells at x o u (get_or cells at x).key version (grind (arith, nat_tests))
  where
    misses : (k : ℕ) (d : Cell) → k < at → fits (get_or cells at x).key version (get_or cells k d) ≡ false
    misses k d w = let f = p.front k d w (omega arith) in grind (arith, nat_tests)

-- one with a value gives the next pair
pub passing_found : (cells : List Cell) (version from low at to value : ℕ) (x : Cell) → AreInOrder cells → at < length cells → low ≤ (get_or cells at x).key → (get_or cells at x).key ≤ to → (get_or cells at x).version ≤ version → (get_or cells at x).value ≡ Some value → Passing cells version from low at → IsNextPair cells from to version ((get_or cells at x).key, value)
passing_found cells version from low at to value x o u l t v e p = record {
  from = let f = p.floor in omega arith;
  to = t;
  shown = ap value_in (best_here cells version from low at x o u l v p) ∙ e;
  least = silent_below_cell cells version from low at x o u p;
}

-- the keys up to there are below the next one
pub below_next : (cells : List Cell) (at : ℕ) (x : Cell) → AreInOrder cells → at < length cells → AreBelow cells (at + 1) ((get_or cells at x).key + 1)
below_next cells at x o u k d w y = let r = keys_rise cells o k at d x (omega arith) u in omega arith

-- a tombstone hides its key
pub passing_hidden : (cells : List Cell) (version from low at : ℕ) (x : Cell) → AreInOrder cells → at < length cells → low ≤ (get_or cells at x).key → (get_or cells at x).version ≤ version → (get_or cells at x).value ≡ None → Passing cells version from low at → Passing cells version from ((get_or cells at x).key + 1) (at + 1)
passing_hidden cells version from low at x o u l v e p = record {
  floor = let f = p.floor in omega arith;
  silent = λ q f w. which q f w (cases_lt q (get_or cells at x).key);
  front = λ k d w y z. absurd (let r = below_next cells at x o u k d w y in omega arith);
}
  where
    which : (q : ℕ) → from ≤ q → q < (get_or cells at x).key + 1 → (q < (get_or cells at x).key) ⊎ ((get_or cells at x).key ≤ q) → shown_at cells version q ≡ None
    which q f w (inl y) = silent_below_cell cells version from low at x o u p q f y
    which q f w (inr y) = let same : q ≡ (get_or cells at x).key = omega arith in ap (shown_at cells version) same ∙ ap value_in (best_here cells version from low at x o u l v p) ∙ e

-- any other cell is passed
pub passing_on : (cells : List Cell) (version from low at : ℕ) (x : Cell) → at < length cells → (low ≤ (get_or cells at x).key → version < (get_or cells at x).version) → Passing cells version from low at → Passing cells version from low (at + 1)
passing_on cells version from low at x u f p = record { floor = p.floor; silent = p.silent; front = λ k d w y l. which k d w y l (cases_lt k at) }
  where
    which : (k : ℕ) (d : Cell) → k < at + 1 → k < length cells → low ≤ (get_or cells k d).key → (k < at) ⊎ (at ≤ k) → version < (get_or cells k d).version
    which k d w y l (inl z) = p.front k d z y l
    which k d w y l (inr z) =
        let e : k ≡ at = omega arith in
        let same : get_or cells k d ≡ get_or cells at x = ap (λ j. get_or cells j d) e ∙ get_or_default cells at d x u in
        subst (λ (c : Cell). low ≤ c.key → version < c.version) (sym same) f l
