-- Cells in the order of a row's list: a cell more keeps it, and where it is put.
use Rattle.std.proofs.Common.{ℕ, zero, suc, Bool, true, false, ◌≡◌, ◌⊎◌, inl, inr, ◌<◌, ◌≤◌, List, [], ◌∷◌, refl, sym, ap, subst, arith, All, length, get_or, nat_lt, ◌&&◌, if◌then◌else◌}
use Rattle.std.specs.Prelude.{insert, remove}
use Rattle.std.proofs.lemmas.List.{get_or_default}
use Rattle.std.proofs.lemmas.Bool.Decides.{nat_tests}
use Rattle.std.proofs.lemmas.List.Kept.{AllPairs-cons}
use Rattle.kw_cells.specs.InOrder.{stands_before, AreInOrder, index_in, with_cell}
use Rattle.kw_cells.specs.declared.cell.Cell.{Cell}

-- what stands before a cell stands before those behind it
pub before_trans : (b c d : Cell) → stands_before b c ≡ true → stands_before c d ≡ true → stands_before b d ≡ true
before_trans b c d e f = grind (arith, nat_tests)

-- no two stand before each other
pub before_apart : (b c : Cell) → stands_before b c ≡ true → stands_before c b ≡ false
before_apart b c e = grind (arith, nat_tests)

-- the cells behind the first are in order
pub in_order_tail : (c : Cell) (cells : List Cell) → AreInOrder (c ∷ cells) → AreInOrder cells
in_order_tail c cells o i j d u w = o (suc i) (suc j) d (omega arith) (omega arith)

-- and it stands before them
pub in_order_head : (c : Cell) (cells : List Cell) → AreInOrder (c ∷ cells) → All (λ d. stands_before c d ≡ true) cells
in_order_head c cells o k d u = o 0 (suc k) d (omega arith) (omega arith)

-- a test is true or false
is_or : (b : Bool) → (b ≡ true) ⊎ (b ≡ false)
is_or true = inl refl
is_or false = inr refl

-- all but the first of a list
all_tail : (P : Cell → Type 0) (c : Cell) (cells : List Cell) → All P (c ∷ cells) → All P cells
all_tail P c cells a k d u = a (suc k) d (omega arith)

-- one at the front
all_cons : (P : Cell → Type 0) (c : Cell) (cells : List Cell) → P c → All P cells → All P (c ∷ cells)
all_cons P c cells p a zero d u = p
all_cons P c cells p a (suc k) d u = a k d (omega arith)

-- what all cells and the new one have
pub with_cell-all : (P : Cell → Type 0) (c : Cell) (cells : List Cell) → P c → All P cells → All P (with_cell c cells)
with_cell-all P c [] p a = all_cons P c [] p a
with_cell-all P c (d ∷ cells) p a = which (stands_before d c) (stands_before c d) (with_cell-all P c cells p (all_tail P d cells a))
  where
    which : (x y : Bool) → All P (with_cell c cells) → All P (if x then d ∷ with_cell c cells else if y then c ∷ d ∷ cells else d ∷ cells)
    which true y i = all_cons P d (with_cell c cells) (a 0 d (omega arith)) i
    which false true i = all_cons P c (d ∷ cells) p a
    which false false i = a

-- a cell more is at most one more
pub length-with_cell : (c : Cell) (cells : List Cell) → length (with_cell c cells) ≤ suc (length cells)
length-with_cell c [] = omega arith
length-with_cell c (d ∷ cells) = which (stands_before d c) (stands_before c d) (length-with_cell c cells)
  where
    which : (x y : Bool) → length (with_cell c cells) ≤ suc (length cells) → length (if x then d ∷ with_cell c cells else if y then c ∷ d ∷ cells else d ∷ cells) ≤ suc (suc (length cells))
    which true y i = omega (arith, i)
    which false true i = omega arith
    which false false i = omega arith

-- a cell more keeps the order
pub with_cell-in_order : (c : Cell) (cells : List Cell) → AreInOrder cells → AreInOrder (with_cell c cells)
with_cell-in_order c [] o = AllPairs-cons (λ x y. stands_before x y ≡ true) c [] (λ k d u. absurd (omega arith)) o
with_cell-in_order c (d ∷ cells) o = which (stands_before d c) (stands_before c d) refl refl (with_cell-in_order c cells (in_order_tail d cells o))
  where
    which : (x y : Bool) → stands_before d c ≡ x → stands_before c d ≡ y → AreInOrder (with_cell c cells) → AreInOrder (if x then d ∷ with_cell c cells else if y then c ∷ d ∷ cells else d ∷ cells)
    which true y e f i = AllPairs-cons (λ x y. stands_before x y ≡ true) d (with_cell c cells) (with_cell-all (λ x. stands_before d x ≡ true) c cells e (in_order_head d cells o)) i
    which false true e f i = AllPairs-cons (λ x y. stands_before x y ≡ true) c (d ∷ cells) (all_cons (λ x. stands_before c x ≡ true) d cells f (λ k x u. before_trans c d (get_or cells k x) f (in_order_head d cells o k x u))) o
    which false false e f i = o

-- The place.

-- the place of a cell, where those in front of it stand before it and the next one does not
pub index_in-at : (c : Cell) (cells : List Cell) (n : ℕ) → n ≤ length cells → ((k : ℕ) (d : Cell) → k < n → stands_before (get_or cells k d) c ≡ true) → ((d : Cell) → n < length cells → stands_before (get_or cells n d) c ≡ false) → index_in c cells ≡ n
index_in-at c [] n u f g = omega arith
index_in-at c (d ∷ cells) zero u f g = rw (g d (omega arith)) refl
index_in-at c (d ∷ cells) (suc n) u f g =
    rw (f 0 d (omega arith)) (ap suc (index_in-at c cells n (omega arith) (λ k x w. f (suc k) x (omega arith)) (λ x w. g x (omega arith))))

-- in order, what stands in front of a cell that stands before another stands before that
pub front_before : (c : Cell) (cells : List Cell) (n : ℕ) (x : Cell) → AreInOrder cells → n < length cells → stands_before (get_or cells n x) c ≡ true → (k : ℕ) (d : Cell) → k ≤ n → stands_before (get_or cells k d) c ≡ true
front_before c [] n x o u e k d w = absurd (omega arith)
front_before c (y ∷ cells) zero x o u e zero d w = e
front_before c (y ∷ cells) zero x o u e (suc k) d w = absurd (omega arith)
front_before c (y ∷ cells) (suc n) x o u e zero d w = before_trans y (get_or cells n x) c (in_order_head y cells o n x (omega arith)) e
front_before c (y ∷ cells) (suc n) x o u e (suc k) d w = front_before c cells n x (in_order_tail y cells o) (omega arith) e k d (omega arith)

-- behind them, where the last one stands before it
pub index_in-behind : (c : Cell) (cells : List Cell) (n : ℕ) (x : Cell) → AreInOrder cells → suc n ≡ length cells → stands_before (get_or cells n x) c ≡ true → index_in c cells ≡ length cells
index_in-behind c cells n x o last e = index_in-at c cells (length cells) (omega arith) (λ k d w. front_before c cells n x o (omega (arith, last)) e k d (omega (arith, last, w))) (λ d w. absurd (omega (arith, w)))

-- all in front of its place stand before it
pub index_in-front : (c : Cell) (cells : List Cell) (k : ℕ) (x : Cell) → k < index_in c cells → stands_before (get_or cells k x) c ≡ true
index_in-front c [] k x u = absurd (omega arith)
index_in-front c (d ∷ cells) k x u = which (stands_before d c) refl k u (λ n w. index_in-front c cells n x w)
  where
    which : (b : Bool) → stands_before d c ≡ b → (n : ℕ) → n < (if b then suc (index_in c cells) else 0) → ((m : ℕ) → m < index_in c cells → stands_before (get_or cells m x) c ≡ true) → stands_before (get_or (d ∷ cells) n x) c ≡ true
    which true e zero w f = e
    which true e (suc n) w f = f n (omega arith)
    which false e n w f = absurd (omega arith)

-- the place is among the cells or behind them
pub index_in-within : (c : Cell) (cells : List Cell) → index_in c cells ≤ length cells
index_in-within c [] = omega arith
index_in-within c (d ∷ cells) = which (stands_before d c) (index_in-within c cells)
  where
    which : (x : Bool) → index_in c cells ≤ length cells → (if x then suc (index_in c cells) else 0) ≤ suc (length cells)
    which true i = omega arith
    which false i = omega arith

-- a cell that agrees with none is put at its place
pub with_cell-insert : (c : Cell) (cells : List Cell) → ((d : Cell) → index_in c cells < length cells → stands_before c (get_or cells (index_in c cells) d) ≡ true) → with_cell c cells ≡ insert cells (index_in c cells) c
with_cell-insert c [] f = refl
with_cell-insert c (d ∷ cells) f = which (stands_before d c) refl (with_cell-insert c cells)
  where
    which : (x : Bool) → stands_before d c ≡ x → (((e : Cell) → index_in c cells < length cells → stands_before c (get_or cells (index_in c cells) e) ≡ true) → with_cell c cells ≡ insert cells (index_in c cells) c) →
        (if x then d ∷ with_cell c cells else if stands_before c d then c ∷ d ∷ cells else d ∷ cells) ≡ insert (d ∷ cells) (if x then suc (index_in c cells) else 0) c
    which true e i = ap (λ xs. d ∷ xs) (i (λ x w. let g = f x in rw e at g (omega arith)))
    which false e i = let g = f d in let h : 0 < suc (length cells) → stands_before c d ≡ true = rw e at g in rw (h (omega arith)) refl

-- one that agrees with the cell at its place is not
pub with_cell-same : (c : Cell) (cells : List Cell) (x : Cell) → index_in c cells < length cells → stands_before c (get_or cells (index_in c cells) x) ≡ false → with_cell c cells ≡ cells
with_cell-same c [] x u e = absurd (omega arith)
with_cell-same c (d ∷ cells) x u e = which (stands_before d c) refl (with_cell-same c cells x)
  where
    which : (b : Bool) → stands_before d c ≡ b → (index_in c cells < length cells → stands_before c (get_or cells (index_in c cells) x) ≡ false → with_cell c cells ≡ cells) →
        (if b then d ∷ with_cell c cells else if stands_before c d then c ∷ d ∷ cells else d ∷ cells) ≡ d ∷ cells
    which true f i = let v : suc (index_in c cells) < suc (length cells) = rw f at u in let g : stands_before c (get_or cells (index_in c cells) x) ≡ false = rw f at e in ap (λ xs. d ∷ xs) (i (omega arith) g)
    which false f i = let g : stands_before c d ≡ false = rw f at e in rw g refl

-- The test at the place.

-- the cell stands before the one at this place, if there is one
abbrev pub IsNewAt : Cell → List Cell → ℕ → Bool → Type 0
IsNewAt c cells n b = (if nat_lt n (length cells) then stands_before c (get_or cells n c) else true) ≡ b

-- a cell that does is put there
pub with_cell-new : (c : Cell) (cells : List Cell) (n : ℕ) → n ≡ index_in c cells → IsNewAt c cells n true → with_cell c cells ≡ insert cells n c
with_cell-new c cells n e f = subst (λ x. with_cell c cells ≡ insert cells x c) (sym e) (with_cell-insert c cells at)
  where
    at : (d : Cell) → index_in c cells < length cells → stands_before c (get_or cells (index_in c cells) d) ≡ true
    at d w =
        let t : nat_lt n (length cells) ≡ true = grind (arith, nat_tests) in
        let g : stands_before c (get_or cells n c) ≡ true = rw t at f in
        subst (λ x. stands_before c (get_or cells x d) ≡ true) e (subst (λ (y : Cell). stands_before c y ≡ true) (get_or_default cells n c d (omega arith)) g)

-- one that does not is not
pub with_cell-known : (c : Cell) (cells : List Cell) (n : ℕ) → n ≡ index_in c cells → IsNewAt c cells n false → with_cell c cells ≡ cells
with_cell-known c cells n e f = which (nat_lt n (length cells)) refl
  where
    which : (b : Bool) → nat_lt n (length cells) ≡ b → with_cell c cells ≡ cells
    which true t =
        let g : stands_before c (get_or cells n c) ≡ false = rw t at f in
        with_cell-same c cells c (let u : n < length cells = grind (arith, nat_tests) in omega (arith, e)) (subst (λ x. stands_before c (get_or cells x c) ≡ false) e g)
    which false t = let g : true ≡ false = rw t at f in absurd (cc)

-- what is put at a place and taken away again leaves what was
pub remove-insert : (c : Cell) (cells : List Cell) (n : ℕ) → n ≤ length cells → remove (insert cells n c) n ≡ cells
remove-insert c [] zero u = refl
remove-insert c [] (suc n) u = absurd (omega arith)
remove-insert c (d ∷ cells) zero u = refl
remove-insert c (d ∷ cells) (suc n) u = ap (λ xs. d ∷ xs) (remove-insert c cells n (omega arith))

-- A test of the order, for cells that are known.

-- the cell stands before all of them
abbrev is_before_all : Cell → List Cell → Bool
is_before_all c [] = true
is_before_all c (d ∷ cells) = stands_before c d && is_before_all c cells

-- each stands before all after it
abbrev pub is_in_order : List Cell → Bool
is_in_order [] = true
is_in_order (c ∷ cells) = is_before_all c cells && is_in_order cells

-- both tests of two that are joined hold
both : (a b : Bool) → a && b ≡ true → (a ≡ true) × (b ≡ true)
both true b e = (refl, e)
both false b e = absurd (cc)

-- what the first test says
before_all-yes : (c : Cell) (cells : List Cell) → is_before_all c cells ≡ true → All (λ d. stands_before c d ≡ true) cells
before_all-yes c [] e k d u = absurd (omega arith)
before_all-yes c (x ∷ cells) e k d u = let b = both (stands_before c x) (is_before_all c cells) e in all_cons (λ d. stands_before c d ≡ true) x cells b.0 (before_all-yes c cells b.1) k d u

-- what the test says
pub in_order-yes : (cells : List Cell) → is_in_order cells ≡ true → AreInOrder cells
in_order-yes [] e i j d u w = absurd (omega arith)
in_order-yes (c ∷ cells) e i j d u w = let b = both (is_before_all c cells) (is_in_order cells) e in AllPairs-cons (λ x y. stands_before x y ≡ true) c cells (before_all-yes c cells b.0) (in_order-yes cells b.1) i j d u w
