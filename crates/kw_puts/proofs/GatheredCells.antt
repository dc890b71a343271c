-- The gathered cells, by their places, and where one more is put among them of whose place none is
-- there.
use Rattle.std.proofs.Common.{ℕ, zero, suc, ◌≡◌, ◌⊎◌, inl, inr, ◌+◌, ◌<◌, ◌≤◌, ◌==◌, nat_lt, Bool, true, false, if◌then◌else◌, List, [], ◌∷◌, arith, refl, sym, ap, subst, length, All, eq-eqb}
use Rattle.std.specs.Prelude.{insert}
use Rattle.std.proofs.lemmas.Bool.Decides.{nat_tests}
use Rattle.std.proofs.lemmas.List.Edits.{length-insert}
use Rattle.std.proofs.lemmas.List.Elements.{All-cons, All-nil}
use Rattle.kw_cells.specs.declared.cell.Cell.{Cell}
use Rattle.kw_cells.specs.InOrder.{stands_before, index_in, with_cell}
use Rattle.kw_cells.proofs.InOrder.{index_in-within, with_cell-all}
use Rattle.kw_lists.specs.Counts.{count_below}
use Rattle.kw_lists.proofs.Counting.{count_gains, count_less}
use Rattle.kw_core.proofs.Arrows.{eq_from}
use Rattle.kw_puts.specs.Builds.{has_place}

-- each place that is there is below a bound, where each cell stood at one
pub gathered_below : (n : ℕ) (cells : List Cell) → All (λ c. c.place < n) cells → (p : ℕ) → has_place p cells ≡ true → p < n
gathered_below n [] a p e = let x : false ≡ true = e in absurd (cc)
gathered_below n (d ∷ cells) a p e = which (d.place == p) refl (gathered_below n cells (λ k x u. a (suc k) x (omega (arith, u))) p) e
  where
    which : (b : Bool) → (d.place == p) ≡ b → (has_place p cells ≡ true → p < n) → (if b then true else has_place p cells) ≡ true → p < n
    which true f g x = subst (λ q. q < n) (eq_from d.place p f) (a 0 d (omega arith))
    which false f g x = g x

-- and each cell stands at one, where each place that is there is
pub placed_below : (n : ℕ) (cells : List Cell) → ((p : ℕ) → has_place p cells ≡ true → p < n) → All (λ c. c.place < n) cells
placed_below n [] f = All-nil (λ (c : Cell). c.place < n)
placed_below n (d ∷ cells) f = All-cons (λ (c : Cell). c.place < n) d cells (f d.place (rw (eq-eqb d.place d.place refl) refl)) (placed_below n cells (λ p e. f p (there (d.place == p) (has_place p cells) e)))
  where
    there : (b x : Bool) → x ≡ true → (if b then true else x) ≡ true
    there true x e = refl
    there false x e = e

-- Where one more is put in.

-- its place is there
pub place_new : (c : Cell) (cells : List Cell) (n : ℕ) → has_place c.place (insert cells n c) ≡ true
place_new c cells zero = rw (eq-eqb c.place c.place refl) refl
place_new c [] (suc n) = rw (eq-eqb c.place c.place refl) refl
place_new c (d ∷ cells) (suc n) = which (d.place == c.place) (place_new c cells n)
  where
    which : (b : Bool) → has_place c.place (insert cells n c) ≡ true → (if b then true else has_place c.place (insert cells n c)) ≡ true
    which true x = refl
    which false x = x

-- and the places of the others
pub place_old : (c : Cell) (cells : List Cell) (n p : ℕ) → has_place p cells ≡ true → has_place p (insert cells n c) ≡ true
place_old c cells zero p e = which (c.place == p)
  where
    which : (b : Bool) → (if b then true else has_place p cells) ≡ true
    which true = refl
    which false = e
place_old c [] (suc n) p e = let x : false ≡ true = e in absurd (cc)
place_old c (d ∷ cells) (suc n) p e = which (d.place == p) (place_old c cells n p) e
  where
    which : (b : Bool) → (has_place p cells ≡ true → has_place p (insert cells n c) ≡ true) → (if b then true else has_place p cells) ≡ true → (if b then true else has_place p (insert cells n c)) ≡ true
    which true f x = refl
    which false f x = f x

-- and no more
pub place_back : (c : Cell) (cells : List Cell) (n p : ℕ) → has_place p (insert cells n c) ≡ true → (p ≡ c.place) ⊎ (has_place p cells ≡ true)
place_back c cells zero p e = which (c.place == p) refl e
  where
    which : (b : Bool) → (c.place == p) ≡ b → (if b then true else has_place p cells) ≡ true → (p ≡ c.place) ⊎ (has_place p cells ≡ true)
    which true f x = inl (sym (eq_from c.place p f))
    which false f x = inr x
place_back c [] (suc n) p e = which (c.place == p) refl e
  where
    which : (b : Bool) → (c.place == p) ≡ b → (if b then true else false) ≡ true → (p ≡ c.place) ⊎ (false ≡ true)
    which true f x = inl (sym (eq_from c.place p f))
    which false f x = inr x
place_back c (d ∷ cells) (suc n) p e = which (d.place == p) (place_back c cells n p) e
  where
    which : (b : Bool) → (has_place p (insert cells n c) ≡ true → (p ≡ c.place) ⊎ (has_place p cells ≡ true)) → (if b then true else has_place p (insert cells n c)) ≡ true → (p ≡ c.place) ⊎ ((if b then true else has_place p cells) ≡ true)
    which true f x = inr refl
    which false f x = f x

-- no more are gathered than places, where one of another place is put in
pub few_more : (n : ℕ) (c : Cell) (cells : List Cell) (at : ℕ) → at < length cells + 1 → c.place < n → has_place c.place cells ≡ false → length cells < count_below n (λ p. has_place p cells) + 1 → length (insert cells at c) < count_below n (λ p. has_place p (insert cells at c)) + 1
few_more n c cells at w u e f =
    omega (arith, f, length-insert cells at c (omega (arith, w)), count_gains n (λ p. has_place p cells) (λ p. has_place p (insert cells at c)) c.place u e (place_new c cells at) (λ p x. place_old c cells at p x))

-- and fewer than there are cells, where one of them is not there
pub few_room : (n p : ℕ) (cells : List Cell) → p < n → has_place p cells ≡ false → length cells < count_below n (λ q. has_place q cells) + 1 → length cells < n
few_room n p cells u e f = omega (arith, f, count_less n (λ q. has_place q cells) p u e)

-- Where a cell is gathered.

-- of two cells of two places one stands before the other
other_before : (c d : Cell) → stands_before d c ≡ false → (d.place == c.place) ≡ false → stands_before c d ≡ true
other_before c d e f = grind (arith, nat_tests)

-- a cell whose place none has is put at its place in the order
pub put_in : (c : Cell) (cells : List Cell) → has_place c.place cells ≡ false → with_cell c cells ≡ insert cells (index_in c cells) c
put_in c [] e = refl
put_in c (d ∷ cells) e = which (d.place == c.place) refl e (put_in c cells)
  where
    which : (b : Bool) → (d.place == c.place) ≡ b → (if b then true else has_place c.place cells) ≡ false → (has_place c.place cells ≡ false → with_cell c cells ≡ insert cells (index_in c cells) c) → with_cell c (d ∷ cells) ≡ insert (d ∷ cells) (index_in c (d ∷ cells)) c
    which true f x g = let y : true ≡ false = x in absurd (cc)
    which false f x g = order (stands_before d c) refl
      where
        order : (b : Bool) → stands_before d c ≡ b → (if b then d ∷ with_cell c cells else if stands_before c d then c ∷ d ∷ cells else d ∷ cells) ≡ insert (d ∷ cells) (if b then suc (index_in c cells) else 0) c
        order true h = ap (λ xs. d ∷ xs) (g x)
        order false h = rw (other_before c d h f) refl

-- the cells with one more, where there is room for one
abbrev pub gathered_with : ℕ → Cell → List Cell → List Cell
gathered_with n c cells = if nat_lt (length cells) n then with_cell c cells else cells

-- a cell for which there is room is gathered at its place
pub gathered_at : (n : ℕ) (c : Cell) (cells : List Cell) → length cells < n → has_place c.place cells ≡ false → gathered_with n c cells ≡ insert cells (index_in c cells) c
gathered_at n c cells w e = which (nat_lt (length cells) n) refl
  where
    which : (b : Bool) → nat_lt (length cells) n ≡ b → (if b then with_cell c cells else cells) ≡ insert cells (index_in c cells) c
    which true f = put_in c cells e
    which false f = absurd (grind (arith, nat_tests))

-- what the gathered cells and the new one have
pub gathered_all : (n : ℕ) (P : Cell → Type 0) (c : Cell) (cells : List Cell) → P c → All P cells → All P (gathered_with n c cells)
gathered_all n P c cells p a = which (nat_lt (length cells) n)
  where
    which : (b : Bool) → All P (if b then with_cell c cells else cells)
    which true = with_cell-all P c cells p a
    which false = a

-- the places with one more, of which none is there twice
pub record OneMore (n : ℕ) (place : ℕ) (cells more : List Cell) : Type 0 where
  pub new : has_place place more ≡ true
  pub old : (p : ℕ) → has_place p cells ≡ true → has_place p more ≡ true
  pub back : (p : ℕ) → has_place p more ≡ true → (p ≡ place) ⊎ (has_place p cells ≡ true)
  pub few : length more ≤ count_below n (λ p. has_place p more)

-- one more is gathered, where none of its place is there, none is there twice, and there is room
-- for as many as there are places
pub gathers_one : (n room : ℕ) (c : Cell) (cells : List Cell) → n ≤ room → c.place < n → has_place c.place cells ≡ false → length cells ≤ count_below n (λ p. has_place p cells) → OneMore n c.place cells (gathered_with room c cells)
gathers_one n room c cells k u e f = rw (gathered_at room c cells (omega (arith, k, few_room n c.place cells u e (omega (arith, f)))) e) (record {
  new = place_new c cells (index_in c cells);
  old = place_old c cells (index_in c cells);
  back = place_back c cells (index_in c cells);
  few = (let y = few_more n c cells (index_in c cells) (omega (arith, index_in-within c cells)) u e (omega (arith, f)) in omega (arith, y));
})
