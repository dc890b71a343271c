-- How the pairs that a version shows grow by a cell that stands behind all before it.
use Rattle.std.proofs.Common.{ℕ, zero, suc, Bool, true, false, ◌≡◌, ◌⊎◌, inl, inr, ◌<◌, ◌≤◌, ◌+◌, ◌-◌, ◌&&◌, nat_le, if◌then◌else◌, Option, Some, None, List, [], ◌∷◌, ◌++◌, refl, sym, ap, subst, ◌∙◌, arith, All, append-nil}
use Rattle.std.proofs.lemmas.Bool.{cases_lt}
use Rattle.std.proofs.lemmas.Bool.Decides.{nat_tests}
use Rattle.kw_cells.specs.declared.cell.Cell.{Cell}
use Rattle.kw_cells.specs.Cells.{fits, best_of, value_in, shown_at, pairs_of}
use Rattle.kw_cells.specs.InOrder.{stands_before}
use Rattle.kw_cells.specs.Pairs.{Pairs, with_shown, pairs_along, pairs_between}
use Rattle.kw_cells.proofs.Best.{pick, offered, best_of-cons, best_of-append, best_is}
use Rattle.kw_cells.proofs.FirstFit.{later_in_front}
use Rattle.kw_cells.proofs.Ranges.{pairs_between-none}
use Rattle.kw_map.specs.Handing.{IsSettled, next_low, pair_with, more_of}

-- of no cells, none is shown
pub settled_begins : (from upto version : ℕ) → IsSettled [] from version from
unfolding best_of
settled_begins from upto version = record { begun = omega arith; rest = λ key l. refl; last = inl refl }

-- no cells have no pairs
pub none_shown : (from upto version : ℕ) → pairs_of [] from upto version ≡ []
unfolding best_of
none_shown from upto version = pairs_between-none (shown_at [] version) from upto (λ key l h. refl)

-- The best cell of a key, with one cell more at the end.

-- it is the later of the best before and of the new one, if that fits
best_with : (c : Cell) (cells : List Cell) (key version : ℕ) → best_of (cells ++ c ∷ []) key version ≡ pick (best_of cells key version) (offered key version c)
unfolding best_of
best_with c cells key version = best_of-append cells (c ∷ []) key version ∙ ap (pick (best_of cells key version)) (best_of-cons c [] key version ∙ alone (fits key version c))
  where
    alone : (b : Bool) → pick (if b then Some c else None) None ≡ (if b then Some c else None)
    alone true = refl
    alone false = refl

-- a cell that does not fit changes nothing
unfit_behind : (c : Cell) (cells : List Cell) (key version : ℕ) → fits key version c ≡ false → best_of (cells ++ c ∷ []) key version ≡ best_of cells key version
unfit_behind c cells key version f = best_with c cells key version ∙ rw f (same (best_of cells key version))
  where
    same : (o : Option Cell) → pick o None ≡ o
    same None = refl
    same (Some b) = refl

-- where none fits before, a cell that fits is the best
fit_alone : (c : Cell) (cells : List Cell) (key version : ℕ) → fits key version c ≡ true → best_of cells key version ≡ None → best_of (cells ++ c ∷ []) key version ≡ Some c
fit_alone c cells key version f e = best_with c cells key version ∙ rw (e, f) refl

-- the best cell of a key stands before the new one
best_before : (c : Cell) (cells : List Cell) (key version : ℕ) (b : Cell) → All (λ d. stands_before d c ≡ true) cells → best_of cells key version ≡ Some b → (b.key ≡ key) × (stands_before b c ≡ true)
best_before c cells key version b a e =
    let i = best_is cells key version b e in
    (i.of_key, subst (λ (x : Cell). stands_before x c ≡ true) i.among.2 (a i.among.0 b i.among.1))

-- the best cell of a key stays the best
best_stays : (c : Cell) (cells : List Cell) (key version : ℕ) (b : Cell) → All (λ d. stands_before d c ≡ true) cells → best_of cells key version ≡ Some b → best_of (cells ++ c ∷ []) key version ≡ Some b
best_stays c cells key version b a e = which (fits key version c) refl
  where
    before : (b.key ≡ key) × (stands_before b c ≡ true)
    before = best_before c cells key version b a e

    which : (f : Bool) → fits key version c ≡ f → best_of (cells ++ c ∷ []) key version ≡ Some b
    which false f = unfit_behind c cells key version f ∙ e
    which true f =
        let k : c.key ≡ key = grind (arith, nat_tests) in
        best_with c cells key version ∙ rw (e, f, later_in_front b c before.1 (before.0 ∙ sym k)) refl

-- what is said of the last settled key
abbrev IsLast : List Cell → ℕ → ℕ → ℕ → Type 0
IsLast cells from version low = (low ≡ from) ⊎ ((key : ℕ) × (c : Cell) × (low ≡ suc key) × (from ≤ key) × (best_of cells key version ≡ Some c))

-- a cell that is below the keys that are not settled yet, or of a later version, changes no key of
-- the range
unchanged : (c : Cell) (cells : List Cell) (from version low : ℕ) → All (λ d. stands_before d c ≡ true) cells → IsSettled cells from version low → nat_le low c.key && nat_le c.version version ≡ false → (key : ℕ) → from ≤ key → best_of (cells ++ c ∷ []) key version ≡ best_of cells key version
unchanged c cells from version low a s n key l = which (fits key version c) refl s.last
  where
    which : (f : Bool) → fits key version c ≡ f → IsLast cells from version low → best_of (cells ++ c ∷ []) key version ≡ best_of cells key version
    which false f last = unfit_behind c cells key version f
    which true f (inl e) = absurd (grind (arith, nat_tests))
    which true f (inr (k, b, e, g, h)) =
        let before = best_before c cells k version b a h in
        let same : k ≡ key = grind (arith, nat_tests) in
        let at_key : best_of cells key version ≡ Some b = subst (λ q. best_of cells q version ≡ Some b) same h in
        best_stays c cells key version b a at_key ∙ sym at_key

-- a cell more leaves all settled up to the next key
pub settled_on : (c : Cell) (cells : List Cell) (from version low : ℕ) → All (λ d. stands_before d c ≡ true) cells → IsSettled cells from version low → IsSettled (cells ++ c ∷ []) from version (next_low low version c)
settled_on c cells from version low a s = which (nat_le low c.key && nat_le c.version version) refl
  where
    begun : from ≤ low
    begun = s.begun

    last : IsLast cells from version low → IsLast (cells ++ c ∷ []) from version low
    last (inl e) = inl e
    last (inr (k, b, e, g, h)) = inr (k, b, e, g, best_stays c cells k version b a h)

    which : (n : Bool) → nat_le low c.key && nat_le c.version version ≡ n → IsSettled (cells ++ c ∷ []) from version (if n then suc c.key else low)
    which false n = record { begun = begun; rest = λ key l. unchanged c cells from version low a s n key (omega (arith, begun)) ∙ s.rest key l; last = last s.last }
    which true n =
        let above : low ≤ c.key = grind (arith, nat_tests) in
        record {
          begun = omega (arith, begun);
          rest = λ key l. unfit_behind c cells key version (grind (arith, nat_tests)) ∙ s.rest key (omega arith);
          last = inr (c.key, c, refl, omega (arith, begun), fit_alone c cells c.key version (grind (arith, nat_tests)) (s.rest c.key above));
        }

-- The pairs.

-- keys that show the same give the same pairs
same_along : (shown before : ℕ → Option ℕ) (low n : ℕ) → ((key : ℕ) → low ≤ key → shown key ≡ before key) → pairs_along shown low n ≡ pairs_along before low n
unfolding pairs_along
same_along shown before low zero same = refl
same_along shown before low (suc n) same = rw (same low (omega arith), same_along shown before (suc low) n (λ key l. same key (omega arith))) refl

-- keys that show nothing give no pairs
none_along : (shown : ℕ → Option ℕ) (low n : ℕ) → ((key : ℕ) → low ≤ key → shown key ≡ None) → pairs_along shown low n ≡ []
unfolding pairs_along
none_along shown low zero none = refl
none_along shown low (suc n) none = rw (none low (omega arith), none_along shown (suc low) n (λ key l. none key (omega arith))) refl

-- where one key more shows a value, and nothing was shown from it on, its pair comes last
one_more_along : (shown before : ℕ → Option ℕ) (last low n : ℕ) → low ≤ last → last < low + n → ((key : ℕ) → (key ≡ last → ⊥) → shown key ≡ before key) → ((key : ℕ) → last ≤ key → before key ≡ None) → pairs_along shown low n ≡ pairs_along before low n ++ pair_with last (shown last)
unfolding pairs_along
one_more_along shown before last low zero l h same none = absurd (omega arith)
one_more_along shown before last low (suc n) l h same none = which (cases_lt low last) (λ u. one_more_along shown before last (suc low) n u (omega arith) same none)
  where
    here : (o : Option ℕ) → with_shown last o [] ≡ pair_with last o
    here None = refl
    here (Some v) = refl

    in_front : (o : Option ℕ) (pairs more : Pairs) → with_shown low o (pairs ++ more) ≡ with_shown low o pairs ++ more
    in_front None pairs more = refl
    in_front (Some v) pairs more = refl

    which : (low < last) ⊎ (last ≤ low) → (low < last → pairs_along shown (suc low) n ≡ pairs_along before (suc low) n ++ pair_with last (shown last)) → pairs_along shown low (suc n) ≡ pairs_along before low (suc n) ++ pair_with last (shown last)
    which (inl u) rest =
        rw (same low (λ e. omega arith), rest u) (in_front (before low) (pairs_along before (suc low) n) (pair_with last (shown last)))
    which (inr u) rest =
        let e : low ≡ last = omega arith in
        let nothing : (key : ℕ) → suc low ≤ key → shown key ≡ None = λ key v. same key (λ w. omega arith) ∙ none key (omega arith) in
        rw (none_along before low (suc n) (λ key v. none key (omega arith)), none_along shown (suc low) n nothing, e) (here (shown last))

-- a cell more adds its pair at the end, if it is one that shows
pub pairs_on : (c : Cell) (cells : List Cell) (from upto version low : ℕ) → All (λ d. stands_before d c ≡ true) cells → c.key ≤ upto → IsSettled cells from version low → pairs_of (cells ++ c ∷ []) from upto version ≡ pairs_of cells from upto version ++ more_of low version c
unfolding pairs_between
pairs_on c cells from upto version low a h s = which (nat_le low c.key && nat_le c.version version) refl
  where
    begun : from ≤ low
    begun = s.begun

    which : (n : Bool) → nat_le low c.key && nat_le c.version version ≡ n → pairs_of (cells ++ c ∷ []) from upto version ≡ pairs_of cells from upto version ++ (if n then pair_with c.key c.value else [])
    which false n =
        same_along (shown_at (cells ++ c ∷ []) version) (shown_at cells version) from (suc upto - from) (λ key l. ap value_in (unchanged c cells from version low a s n key l)) ∙ sym (append-nil (pairs_of cells from upto version))
    which true n =
        let above : low ≤ c.key = grind (arith, nat_tests) in
        let apart : (key : ℕ) → (key ≡ c.key → ⊥) → fits key version c ≡ false = λ key d. grind (arith, nat_tests) in
        let of_cell : shown_at (cells ++ c ∷ []) version c.key ≡ c.value = ap value_in (fit_alone c cells c.key version (grind (arith, nat_tests)) (s.rest c.key above)) in
        one_more_along (shown_at (cells ++ c ∷ []) version) (shown_at cells version) c.key from (suc upto - from) (omega (arith, begun)) (omega (arith, begun)) (λ key d. ap value_in (unfit_behind c cells key version (apart key d))) (λ key l. ap value_in (s.rest key (omega arith)))
        ∙ ap (λ v. pairs_of cells from upto version ++ pair_with c.key v) of_cell
