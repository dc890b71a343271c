-- The kept cells as a function: the list that it gives is the kept list, and no other is.
use Rattle.std.proofs.Common.{ℕ, zero, suc, Bool, true, false, ◌≡◌, ◌<◌, ◌≤◌, not, eqb, leb, ◌&&◌, ◌↔◌, List, [], ◌∷◌, refl, sym, ap, subst, ◌∙◌, arith, All, AllPairs, Any, Contains, is_some, filter, length, get_or, inl, inr, ◌⊎◌, if◌then◌else◌}
use Rattle.std.specs.List.{list_any}
use Rattle.std.proofs.lemmas.List.Elements.{All-cons, All-head, All-tail, All-nil, All-contains, All-contains_itself, All-weaker, All-filter, filter_passes}
use Rattle.std.proofs.lemmas.List.Kept.{AllPairs-cons, AllPairs-filter}
use Rattle.std.proofs.lemmas.List.Folds.{Any-from_list_any, list_any-from_Any, list_any_at, list_any_none}
use Rattle.std.proofs.lemmas.List.Sums.{length-filter, count_by-le-length}
use Rattle.std.proofs.lemmas.Bool.{false≢true, and_parts, and_from, or_cases, or_left, or_right, not-true, not_from_false, false_from_ne_true, true_from_ne_false, eqb-true, leb-true, eq-eqb, le-leb}
use Rattle.std.proofs.lemmas.Bool.Decides.{nat_tests}
use Rattle.kw_cells.specs.Cells.{is_later, IsBest, AreApart}
use Rattle.kw_cells.specs.Kept.{is_before, is_below, AreRising, IsNewest, IsChosen, IsKept, IsKeptList, is_newest, is_best, is_chosen, is_kept, with_rising, rising_of, kept_of}
use Rattle.kw_cells.specs.declared.cell.Cell.{Cell}

-- At most one list is the kept list.

-- a contained cell is the first or is behind it
first_or_behind : (x : Cell) (xs : List Cell) (c : Cell) → Contains (x ∷ xs) c → (x ≡ c) ⊎ Contains xs c
first_or_behind x xs c (zero, l, e) = inl e
first_or_behind x xs c (suc k, l, e) = inr (k, omega arith, e)

-- a cell behind the first is contained
behind : (x : Cell) (xs : List Cell) (c : Cell) → Contains xs c → Contains (x ∷ xs) c
behind x xs c (k, l, e) = (suc k, omega arith, e)

-- the first is below those behind it
below_behind : (x : Cell) (xs : List Cell) → AreRising (x ∷ xs) → All (λ d. is_below x d ≡ true) xs
below_behind x xs rising k d l = rising 0 (suc k) d (omega arith) (omega arith)

-- those behind the first rise
rising_behind : (x : Cell) (xs : List Cell) → AreRising (x ∷ xs) → AreRising xs
rising_behind x xs rising i j d g l = rising (suc i) (suc j) d (omega arith) (omega arith)

-- none is below itself
below_self : (c : Cell) → is_below c c ≡ true → ⊥
below_self c e = grind (arith, nat_tests)

-- no two are below each other
below_each_other : (c d : Cell) → is_below c d ≡ true → is_below d c ≡ true → ⊥
below_each_other c d e f = grind (arith, nat_tests)

-- strictly rising lists of the same cells are one
one_rising : (xs ys : List Cell) → AreRising xs → AreRising ys → ((c : Cell) → Contains xs c → Contains ys c) → ((c : Cell) → Contains ys c → Contains xs c) → xs ≡ ys
one_rising [] [] r s f g = refl
one_rising [] (y ∷ ys) r s f g = absurd (none (g y (0, omega arith, refl)))
  where
    none : Contains [] y → ⊥
    none (k, l, e) = omega arith
one_rising (x ∷ xs) [] r s f g = absurd (none (f x (0, omega arith, refl)))
  where
    none : Contains [] x → ⊥
    none (k, l, e) = omega arith
one_rising (x ∷ xs) (y ∷ ys) r s f g = joined (one_rising xs ys (rising_behind x xs r) (rising_behind y ys s)) (heads (first_or_behind y ys x (f x (0, omega arith, refl))) (first_or_behind x xs y (g y (0, omega arith, refl))))
  where
    heads : ((y ≡ x) ⊎ Contains ys x) → ((x ≡ y) ⊎ Contains xs y) → x ≡ y
    heads (inl e) q = sym e
    heads (inr h) (inl e) = e
    heads (inr h) (inr k) = absurd (below_each_other x y (All-contains (λ d. is_below x d ≡ true) xs y (below_behind x xs r) k) (All-contains (λ d. is_below y d ≡ true) ys x (below_behind y ys s) h))

    -- what is behind the first of one list is behind the first of the other
    rest : (a : Cell) (more : List Cell) (b : Cell) (others : List Cell) → a ≡ b → AreRising (a ∷ more) → ((c : Cell) → Contains (a ∷ more) c → Contains (b ∷ others) c) → (c : Cell) → Contains more c → Contains others c
    rest a more b others e rising within c h = told (first_or_behind b others c (within c (behind a more c h)))
      where
        told : ((b ≡ c) ⊎ Contains others c) → Contains others c
        told (inr k) = k
        told (inl k) = absurd (below_self c (subst (λ (q : Cell). is_below q c ≡ true) (e ∙ k) (All-contains (λ d. is_below a d ≡ true) more c (below_behind a more rising) h)))

    joined : (((c : Cell) → Contains xs c → Contains ys c) → ((c : Cell) → Contains ys c → Contains xs c) → xs ≡ ys) → x ≡ y → x ∷ xs ≡ y ∷ ys
    joined tails e =
        let t : xs ≡ ys = tails (rest x xs y ys e r f) (rest y ys x xs (sym e) s g) in
        ap (λ q. q ∷ xs) e ∙ ap (λ qs. y ∷ qs) t

-- The cells by rising key, version and place.

-- being before passes on
before_trans : (b c d : Cell) → is_before b c ≡ true → is_before c d ≡ true → is_before b d ≡ true
before_trans b c d e f = grind (arith, nat_tests)

-- what all cells and the new one have
with_rising-all : (P : Cell → Type 0) (c : Cell) (cells : List Cell) → P c → All P cells → All P (with_rising c cells)
with_rising-all P c [] p a = All-cons P c [] p a
with_rising-all P c (d ∷ cells) p a = which (is_before d c) (is_before c d) (with_rising-all P c cells p (All-tail P d cells a))
  where
    which : (x y : Bool) → All P (with_rising c cells) → All P (if x then d ∷ with_rising c cells else if y then c ∷ d ∷ cells else d ∷ cells)
    which true y i = All-cons P d (with_rising c cells) (All-head P d cells a) i
    which false true i = All-cons P c (d ∷ cells) p a
    which false false i = a

-- a cell more is at most one more
with_rising-length : (c : Cell) (cells : List Cell) → length (with_rising c cells) ≤ suc (length cells)
with_rising-length c [] = omega arith
with_rising-length c (d ∷ cells) = which (is_before d c) (is_before c d) (with_rising-length c cells)
  where
    which : (x y : Bool) → length (with_rising c cells) ≤ suc (length cells) → length (if x then d ∷ with_rising c cells else if y then c ∷ d ∷ cells else d ∷ cells) ≤ suc (suc (length cells))
    which true y i = omega arith
    which false true i = omega arith
    which false false i = omega arith

-- each is before all behind it
AreBefore : List Cell → Type 0
AreBefore cells = AllPairs (λ x y. is_before x y ≡ true) cells

-- a cell more keeps the order
with_rising-before : (c : Cell) (cells : List Cell) → AreBefore cells → AreBefore (with_rising c cells)
unfolding AreBefore
with_rising-before c [] o = AllPairs-cons (λ x y. is_before x y ≡ true) c [] (All-nil (λ y. is_before c y ≡ true)) o
with_rising-before c (d ∷ cells) o = which (is_before d c) (is_before c d) refl refl (with_rising-before c cells tail)
  where
    tail : AreBefore cells
    tail i j e g l = o (suc i) (suc j) e (omega arith) (omega arith)

    head : All (λ x. is_before d x ≡ true) cells
    head k e l = o 0 (suc k) e (omega arith) (omega arith)

    which : (x y : Bool) → is_before d c ≡ x → is_before c d ≡ y → AreBefore (with_rising c cells) → AreBefore (if x then d ∷ with_rising c cells else if y then c ∷ d ∷ cells else d ∷ cells)
    which true y e f i = AllPairs-cons (λ x y. is_before x y ≡ true) d (with_rising c cells) (with_rising-all (λ x. is_before d x ≡ true) c cells e head) i
    which false true e f i = AllPairs-cons (λ x y. is_before x y ≡ true) c (d ∷ cells) (All-cons (λ x. is_before c x ≡ true) d cells f (λ k x l. before_trans c d (get_or cells k x) f (head k x l))) o
    which false false e f i = o

-- no cell is lost where one more comes
with_rising-keeps : (c : Cell) (cells : List Cell) (x : Cell) → Contains cells x → Contains (with_rising c cells) x
with_rising-keeps c [] x (k, l, e) = absurd (omega arith)
with_rising-keeps c (d ∷ cells) x h = which (is_before d c) (is_before c d) (with_rising-keeps c cells x) (first_or_behind d cells x h)
  where
    which : (a b : Bool) → (Contains cells x → Contains (with_rising c cells) x) → ((d ≡ x) ⊎ Contains cells x) → Contains (if a then d ∷ with_rising c cells else if b then c ∷ d ∷ cells else d ∷ cells) x
    which true b i (inl e) = (0, omega arith, e)
    which true b i (inr k) = behind d (with_rising c cells) x (i k)
    which false true i k = behind c (d ∷ cells) x h
    which false false i k = h

-- the one more is there, where it is the one that it agrees with
with_rising-has : (c : Cell) (cells : List Cell) → All (λ d. is_before d c ≡ false → is_before c d ≡ false → d ≡ c) cells → Contains (with_rising c cells) c
with_rising-has c [] same = (0, omega arith, refl)
with_rising-has c (d ∷ cells) same = which (is_before d c) (is_before c d) refl refl (with_rising-has c cells (All-tail (λ d. is_before d c ≡ false → is_before c d ≡ false → d ≡ c) d cells same))
  where
    which : (a b : Bool) → is_before d c ≡ a → is_before c d ≡ b → Contains (with_rising c cells) c → Contains (if a then d ∷ with_rising c cells else if b then c ∷ d ∷ cells else d ∷ cells) c
    which true b e f i = behind d (with_rising c cells) c i
    which false true e f i = (0, omega arith, refl)
    which false false e f i = (0, omega arith, same 0 d (omega arith) e f)

-- what all cells have
rising_of-all : (P : Cell → Type 0) (cells : List Cell) → All P cells → All P (rising_of cells)
rising_of-all P [] a = a
rising_of-all P (c ∷ cells) a = with_rising-all P c (rising_of cells) (All-head P c cells a) (rising_of-all P cells (All-tail P c cells a))

-- there are no more than there were
rising_of-length : (cells : List Cell) → length (rising_of cells) ≤ length cells
rising_of-length [] = omega arith
rising_of-length (c ∷ cells) = let h = rising_of-length cells in let g = with_rising-length c (rising_of cells) in omega arith

-- each is before those behind it
rising_of-before : (cells : List Cell) → AreBefore (rising_of cells)
unfolding AreBefore
rising_of-before [] = λ i j d g l. absurd (omega arith)
rising_of-before (c ∷ cells) = with_rising-before c (rising_of cells) (rising_of-before cells)

-- of one place in the order: of one key, version and place
level : (x y : Cell) → is_before x y ≡ false → is_before y x ≡ false → (x.key ≡ y.key) × (x.version ≡ y.version) × (x.place ≡ y.place)
level x y e f = (grind (arith, nat_tests), grind (arith, nat_tests), grind (arith, nat_tests))

-- no cell is lost, where cells that agree are one
rising_of-has : (cells : List Cell) → AreApart cells → All (Contains (rising_of cells)) cells
rising_of-has [] apart = All-nil (Contains [])
rising_of-has (c ∷ cells) apart = All-cons (Contains (with_rising c (rising_of cells))) c cells (with_rising-has c (rising_of cells) same) (All-weaker (Contains (rising_of cells)) (Contains (with_rising c (rising_of cells))) (with_rising-keeps c (rising_of cells)) cells (rising_of-has cells (λ x y h k. apart x y (behind c cells x h) (behind c cells y k))))
  where
    agrees : (d : Cell) → Contains cells d → is_before d c ≡ false → is_before c d ≡ false → d ≡ c
    agrees d h e f = let v = level d c e f in apart d c (behind c cells d h) (0, omega arith, refl) v.0 v.1 v.2

    same : All (λ d. is_before d c ≡ false → is_before c d ≡ false → d ≡ c) (rising_of cells)
    same = rising_of-all (λ d. is_before d c ≡ false → is_before c d ≡ false → d ≡ c) cells (All-weaker (Contains cells) (λ d. is_before d c ≡ false → is_before c d ≡ false → d ≡ c) agrees cells (All-contains_itself cells))

-- The tests say what the relations say.

-- where none is found, none passes
none_of : (p : Cell → Bool) (cells : List Cell) → list_any p cells ≡ false → All (λ c. p c ≡ false) cells
none_of p cells e k d l = false_from_ne_true (p (get_or cells k d)) (λ f. false≢true (sym e ∙ list_any_at p cells k d l f))

module _ (cells : List Cell) where
  -- no cell of its key is later
  newest_is : (c : Cell) → is_newest cells c ≡ true ↔ IsNewest cells c
  newest_is c = (there, back)
    where
      there : is_newest cells c ≡ true → IsNewest cells c
      there e k d l same =
          let n = none_of (λ d. eqb d.key c.key && is_later d c) cells (not-true (list_any (λ d. eqb d.key c.key && is_later d c) cells) e) k d l in
          false_from_ne_true (is_later (get_or cells k d) c) (λ f. false≢true (sym n ∙ and_from (eqb (get_or cells k d).key c.key) (is_later (get_or cells k d) c) (grind (arith, nat_tests)) f))

      back : IsNewest cells c → is_newest cells c ≡ true
      back n = not_from_false (list_any (λ d. eqb d.key c.key && is_later d c) cells) (list_any_none (λ d. eqb d.key c.key && is_later d c) cells (λ k d l. false_from_ne_true (eqb (get_or cells k d).key c.key && is_later (get_or cells k d) c) (λ f.
          let a = and_parts (eqb (get_or cells k d).key c.key) (is_later (get_or cells k d) c) f in
          false≢true (sym (n k d l (grind (arith, nat_tests))) ∙ a.1))))

  -- the best of its key at a version
  best_is : (u : ℕ) (c : Cell) → Contains cells c → is_best cells u c ≡ true ↔ IsBest cells c.key u c
  best_is u c among = (there, back)
    where
      there : is_best cells u c ≡ true → IsBest cells c.key u c
      there e =
          let a = and_parts (leb c.version u) (not (list_any (λ d. eqb d.key c.key && leb d.version u && is_later d c) cells)) e in
          record {
            among = among;
            of_key = refl;
            in_bound = grind (arith, nat_tests);
            greatest = λ k d l same bound.
                let n = none_of (λ d. eqb d.key c.key && leb d.version u && is_later d c) cells (not-true (list_any (λ d. eqb d.key c.key && leb d.version u && is_later d c) cells) a.1) k d l in
                grind (arith, nat_tests);
          }

      back : IsBest cells c.key u c → is_best cells u c ≡ true
      back b =
          let i = b.in_bound in
          and_from (leb c.version u) (not (list_any (λ d. eqb d.key c.key && leb d.version u && is_later d c) cells)) (grind (arith, nat_tests)) (not_from_false (list_any (λ d. eqb d.key c.key && leb d.version u && is_later d c) cells) (list_any_none (λ d. eqb d.key c.key && leb d.version u && is_later d c) cells (λ k d l. false_from_ne_true (eqb (get_or cells k d).key c.key && leb (get_or cells k d).version u && is_later (get_or cells k d) c) (λ f. absurd (passes k d l f)))))
        where
          passes : (k : ℕ) (d : Cell) → k < length cells → (eqb (get_or cells k d).key c.key && leb (get_or cells k d).version u && is_later (get_or cells k d) c) ≡ true → ⊥
          passes k d l f =
              let same : (get_or cells k d).key ≡ c.key = grind (arith, nat_tests) in
              let bound : (get_or cells k d).version ≤ u = grind (arith, nat_tests) in
              let g = b.greatest k d l same bound in
              grind (arith, nat_tests)

  module _ (needed : List ℕ) where
    -- the newest of its key, or the best at a needed version
    chosen_is : (c : Cell) → Contains cells c → is_chosen cells needed c ≡ true ↔ IsChosen cells needed c
    chosen_is c among = (λ e. (among, there (or_cases (is_newest cells c) (list_any (λ u. is_best cells u c) needed) e)), λ h. back h.1)
      where
        there : ((is_newest cells c ≡ true) ⊎ (list_any (λ u. is_best cells u c) needed ≡ true)) → IsNewest cells c ⊎ Any (λ u. IsBest cells c.key u c) needed
        there (inl e) = inl ((newest_is c).0 e)
        there (inr e) = inr (at (Any-from_list_any (λ u. is_best cells u c) needed e))
          where
            at : Any (λ u. is_best cells u c ≡ true) needed → Any (λ u. IsBest cells c.key u c) needed
            at (k, u, l, f, b) = (k, u, l, f, (best_is u c among).0 b)

        back : IsNewest cells c ⊎ Any (λ u. IsBest cells c.key u c) needed → is_chosen cells needed c ≡ true
        back (inl n) = or_left (is_newest cells c) (list_any (λ u. is_best cells u c) needed) ((newest_is c).1 n)
        back (inr (k, u, l, f, b)) = or_right (is_newest cells c) (list_any (λ u. is_best cells u c) needed) (list_any-from_Any (λ u. is_best cells u c) needed (k, u, l, f, (best_is u c among).1 b))

    -- a chosen cell of its key that is not above it, with a value
    abbrev lifts : Cell → Cell → Bool
    lifts c d = eqb d.key c.key && leb d.version c.version && is_chosen cells needed d && is_some d.value

    -- to be kept
    kept_is : (c : Cell) → Contains cells c → is_kept cells needed c ≡ true ↔ IsKept cells needed c
    kept_is c among = (there, back)
      where
        there : is_kept cells needed c ≡ true → IsKept cells needed c
        there e =
            let a = and_parts (is_chosen cells needed c) (list_any (lifts c) cells) e in
            ((chosen_is c among).0 a.0, at (Any-from_list_any (lifts c) cells a.1))
          where
            at : Any (λ d. lifts c d ≡ true) cells → Any (λ d. (d.key ≡ c.key) × (d.version ≤ c.version) × IsChosen cells needed d × (is_some d.value ≡ true)) cells
            at (k, d, l, f, p) =
                let v = and_parts (eqb d.key c.key && leb d.version c.version && is_chosen cells needed d) (is_some d.value) p in
                let h = and_parts (eqb d.key c.key && leb d.version c.version) (is_chosen cells needed d) v.0 in
                let b = and_parts (eqb d.key c.key) (leb d.version c.version) h.0 in
                (k, d, l, f, (eqb-true d.key c.key b.0, leb-true d.version c.version b.1, (chosen_is d (k, l, f)).0 h.1, v.1))

        back : IsKept cells needed c → is_kept cells needed c ≡ true
        back (ch, (k, d, l, f, (same, bound, chosen, value))) =
            let b = and_from (eqb d.key c.key) (leb d.version c.version) (eq-eqb d.key c.key same) (le-leb d.version c.version bound) in
            let h = and_from (eqb d.key c.key && leb d.version c.version) (is_chosen cells needed d) b ((chosen_is d (k, l, f)).1 chosen) in
            let a = and_from (eqb d.key c.key && leb d.version c.version && is_chosen cells needed d) (is_some d.value) h value in
            and_from (is_chosen cells needed c) (list_any (lifts c) cells) ((chosen_is c among).1 ch) (list_any-from_Any (lifts c) cells (k, d, l, f, a))

-- The list of the function.

-- what all cells have, the kept ones have
pub kept_of-all : (P : Cell → Type 0) (cells : List Cell) (needed : List ℕ) → All P cells → All P (kept_of cells needed)
unfolding kept_of
kept_of-all P cells needed a = All-filter (is_kept cells needed) P (rising_of cells) (rising_of-all P cells a)

-- the kept ones are given ones
pub kept_of-given : (cells : List Cell) (needed : List ℕ) → All (Contains cells) (kept_of cells needed)
kept_of-given cells needed = kept_of-all (Contains cells) cells needed (All-contains_itself cells)

-- no more are kept than there are
pub kept_of-length : (cells : List Cell) (needed : List ℕ) → length (kept_of cells needed) ≤ length cells
unfolding kept_of
kept_of-length cells needed = let h = rising_of-length cells in let g = count_by-le-length (is_kept cells needed) (rising_of cells) in let e = length-filter (is_kept cells needed) (rising_of cells) in omega arith

-- a cell that passes a test is among those that do
filter-has : (p : Cell → Bool) (cells : List Cell) (c : Cell) → Contains cells c → p c ≡ true → Contains (filter p cells) c
filter-has p [] c (k, l, e) t = absurd (omega arith)
filter-has p (x ∷ cells) c h t = which (p x) refl (filter-has p cells c) (first_or_behind x cells c h)
  where
    which : (b : Bool) → p x ≡ b → (Contains cells c → p c ≡ true → Contains (filter p cells) c) → ((x ≡ c) ⊎ Contains cells c) → Contains (if b then x ∷ filter p cells else filter p cells) c
    which true f i (inl e) = (0, omega arith, e)
    which true f i (inr k) = behind x (filter p cells) c (i k t)
    which false f i (inl e) = absurd (false≢true (sym f ∙ ap p e ∙ t))
    which false f i (inr k) = i k t

module _ (cells : List Cell) (needed : List ℕ) where
  -- no cell of the key that is not newer is later than a chosen one
  none_later : (c d : Cell) → IsChosen cells needed c → Contains cells d → d.key ≡ c.key → d.version ≤ c.version → is_later d c ≡ false
  none_later c d (among, which) h same bound = go which
    where
      go : IsNewest cells c ⊎ Any (λ u. IsBest cells c.key u c) needed → is_later d c ≡ false
      go (inl n) = All-contains (λ (y : Cell). y.key ≡ c.key → is_later y c ≡ false) cells d n h same
      go (inr (k, u, l, e, i)) = All-contains (λ (y : Cell). y.key ≡ c.key → y.version ≤ u → is_later y c ≡ false) cells d i.greatest h same (let b = i.in_bound in omega arith)

  -- of two chosen cells, the one that is before the other is below it
  chosen_below : (c d : Cell) → IsChosen cells needed c → Contains cells d → is_before c d ≡ true → is_below c d ≡ true
  chosen_below c d ch h before = true_from_ne_false (is_below c d) (λ f.
      let same : d.key ≡ c.key = grind (arith, nat_tests) in
      let bound : d.version ≤ c.version = grind (arith, nat_tests) in
      let n = none_later c d ch h same bound in
      grind (arith, nat_tests))

  -- each cell of the function's list is to be kept
  pub kept_of-sound : All (IsKept cells needed) (kept_of cells needed)
  unfolding kept_of
  kept_of-sound k d l = (kept_is cells needed (get_or (kept_of cells needed) k d) (kept_of-given cells needed k d l)).0 (filter_passes (is_kept cells needed) (rising_of cells) k d l)

  -- its cells rise by key and version
  pub kept_of-rising : AreRising (kept_of cells needed)
  unfolding kept_of AreBefore
  kept_of-rising i j d g l = chosen_below (get_or (kept_of cells needed) i d) (get_or (kept_of cells needed) j d) (kept_of-sound i d (omega arith)).0 (kept_of-given cells needed j d l) (AllPairs-filter (λ x y. is_before x y ≡ true) (is_kept cells needed) (rising_of cells) (rising_of-before cells) i j d g l)

  -- each cell that is to be kept is there
  kept_of-complete : AreApart cells → (c : Cell) → IsKept cells needed c → Contains (kept_of cells needed) c
  unfolding kept_of
  kept_of-complete apart c h = filter-has (is_kept cells needed) (rising_of cells) c (All-contains (Contains (rising_of cells)) cells c (rising_of-has cells apart) h.0.0) ((kept_is cells needed c h.0.0).1 h)

  -- where cells can be told apart, the function gives the kept list
  pub kept_of-list : AreApart cells → IsKeptList cells needed (kept_of cells needed)
  kept_of-list apart = record { rising = kept_of-rising; exactly = λ c. (All-contains (IsKept cells needed) (kept_of cells needed) c kept_of-sound, kept_of-complete apart c) }

  -- and the kept list is the one that the function gives
  pub kept_list_is : (kept : List Cell) → AreApart cells → IsKeptList cells needed kept → kept ≡ kept_of cells needed
  kept_list_is kept apart list =
      let made = kept_of-list apart in
      one_rising kept (kept_of cells needed) list.rising made.rising (λ c h. (made.exactly c).1 ((list.exactly c).0 h)) (λ c h. (list.exactly c).1 ((made.exactly c).0 h))
