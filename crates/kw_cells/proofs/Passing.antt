-- One pass over cells in order, key by key and each from its oldest cell on, keeps just those that
-- are to be kept.
use Rattle.std.proofs.Common.{ℕ, zero, suc, Bool, true, false, ◌≡◌, ◌<◌, ◌≤◌, ◌+◌, eqb, List, [], ◌∷◌, ◌++◌, refl, sym, ap, subst, ◌∙◌, arith, All, Any, Contains, is_some, length, get_or, inl, inr, ◌⊎◌}
use Rattle.std.proofs.lemmas.List.{get_or_default, length_push}
use Rattle.std.proofs.lemmas.List.Elements.{All-contains, Contains-get_or, All-from_get_or, All-push, Contains-push, Contains-append_left}
use Rattle.std.proofs.lemmas.List.Quantifiers.{all_pairs_push}
use Rattle.std.proofs.lemmas.Bool.{cases_lt}
use Rattle.std.proofs.lemmas.Bool.Decides.{nat_tests}
use Rattle.kw_cells.specs.Cells.{is_later, IsBest, AreApart}
use Rattle.kw_cells.specs.InOrder.{stands_before}
use Rattle.kw_cells.specs.Kept.{is_below, AreRising, IsNewest, IsChosen, IsKept, IsKeptList}
use Rattle.kw_cells.specs.Ordered.{IsKeptTo, IsKeyAt, IsPicked, IsOrdered, MayStay}
use Rattle.kw_cells.specs.declared.cell.Cell.{Cell}

-- the cell at a place stands in front of this one again, at or behind another place
abbrev pub IsAgain : List Cell → ℕ → ℕ → ℕ → Type 0
IsAgain s from place j = (k : ℕ) × (k + 1 ≡ place) × (from ≤ k) × ((d : Cell) → get_or s k d ≡ get_or s j d)

-- what holds where the cells in front of `from`, and those of the key that begins there from
-- `place` to below `end`, have been gone through. A cell may stand twice; one that stands in front
-- of the place again is not picked at it, so what holds of those gone through has a case for that
pub record IsSoFar (s : List Cell) (needed : List ℕ) (from place end : ℕ) (kept : List Cell) : Type 0 where
  pub few : length kept + place ≤ from + end
  pub rising : AreRising kept
  pub below : (m : ℕ) (d : Cell) → from ≤ m → m < place → m < length s → All (λ c. is_below c (get_or s m d) ≡ true) kept
  pub under : (m : ℕ) (d : Cell) → end ≤ m → m < length s → All (λ c. c.key < (get_or s m d).key) kept
  pub sound : All (IsKept s needed) kept
  pub complete : (j : ℕ) (d : Cell) → (j < from) ⊎ ((place ≤ j) × (j < end)) → j < length s → IsKept s needed (get_or s j d) → Contains kept (get_or s j d) ⊎ IsAgain s from place j

-- whether one of the key was kept, as told
pub record IsShown (key : ℕ) (shown : Bool) (kept : List Cell) : Type 0 where
  pub some : shown ≡ true → Any (λ c. (c.key ≡ key) × (is_some c.value ≡ true)) kept
  pub none : shown ≡ false → All (λ c. c.key ≡ key → ⊥) kept

-- what the test of equality says where it fails
not_equal : (a b : ℕ) → eqb a b ≡ false → a ≡ b → ⊥
not_equal a b e f = grind (arith, nat_tests)

-- what it says where it holds
equal : (a b : ℕ) → eqb a b ≡ true → a ≡ b
equal a b e = grind (arith, nat_tests)

-- of one key, and neither stands before the other: of one version and place
level : (x y : Cell) → x.key ≡ y.key → stands_before y x ≡ false → is_later x y ≡ false → (x.version ≡ y.version) × (x.place ≡ y.place)
level x y same o g = (grind (arith, nat_tests), grind (arith, nat_tests))

-- the place in front, or none
in_front : (p : ℕ) → (p ≡ 0) ⊎ ((k : ℕ) × (k + 1 ≡ p))
in_front zero = inl refl
in_front (suc k) = inr (k, omega arith)

module _ (s : List Cell) (needed : List ℕ) (ordered : IsOrdered s) (apart : AreApart s) where
  -- the keys rise
  key_upto : (i j : ℕ) (d : Cell) → i ≤ j → j < length s → (get_or s i d).key ≤ (get_or s j d).key
  key_upto i j d g l = let o = ordered i j d g l in grind (arith, nat_tests)

  -- those of one key fall by version
  version_downto : (i j : ℕ) (d : Cell) → i ≤ j → j < length s → (get_or s i d).key ≡ (get_or s j d).key → (get_or s j d).version ≤ (get_or s i d).version
  version_downto i j d g l same = let o = ordered i j d g l in grind (arith, nat_tests)

  -- none is later than one in front of it of its key
  later_front : (i j : ℕ) (d : Cell) → i ≤ j → j < length s → (get_or s i d).key ≡ (get_or s j d).key → is_later (get_or s j d) (get_or s i d) ≡ false
  later_front i j d g l same = let o = ordered i j d g l in grind (arith, nat_tests)

  -- what is picked is chosen
  pub picked_chosen : (i : ℕ) (d : Cell) → i < length s → IsPicked s needed i → IsChosen s needed (get_or s i d)
  picked_chosen i d l picked = (Contains-get_or s i d l, go (in_front i))
    where
      newest : ((k : ℕ) → k < i → (get_or s k d).key ≡ (get_or s i d).key → ⊥) → IsNewest s (get_or s i d)
      newest h = All-from_get_or (λ (x : Cell). x.key ≡ (get_or s i d).key → is_later x (get_or s i d) ≡ false) s d (λ k lk same. at k lk same (cases_lt k i))
        where
          at : (k : ℕ) → k < length s → (get_or s k d).key ≡ (get_or s i d).key → ((k < i) ⊎ (i ≤ k)) → is_later (get_or s k d) (get_or s i d) ≡ false
          at k lk same (inl g) = absurd (h k g same)
          at k lk same (inr g) = later_front i k d g lk (sym same)

      best : (q u : ℕ) → q + 1 ≡ i → (get_or s q d).key ≡ (get_or s i d).key → (get_or s i d).version ≤ u → u < (get_or s q d).version → IsBest s (get_or s i d).key u (get_or s i d)
      best q u e same lo hi = record { among = Contains-get_or s i d l; of_key = refl; in_bound = lo; greatest = All-from_get_or (λ (x : Cell). x.key ≡ (get_or s i d).key → x.version ≤ u → is_later x (get_or s i d) ≡ false) s d (λ k lk f b. at k lk f b (cases_lt k i)) }
        where
          at : (k : ℕ) → k < length s → (get_or s k d).key ≡ (get_or s i d).key → (get_or s k d).version ≤ u → ((k < i) ⊎ (i ≤ k)) → is_later (get_or s k d) (get_or s i d) ≡ false
          at k lk f b (inl g) = absurd (let v = version_downto k q d (omega arith) (omega arith) (f ∙ sym same) in omega arith)
          at k lk f b (inr g) = later_front i k d g lk (sym f)

      go : ((i ≡ 0) ⊎ ((q : ℕ) × (q + 1 ≡ i))) → IsNewest s (get_or s i d) ⊎ Any (λ u. IsBest s (get_or s i d).key u (get_or s i d)) needed
      go (inl z) = inl (newest (λ k g same. absurd (omega arith)))
      go (inr (q, e)) = at (eqb (get_or s q d).key (get_or s i d).key) refl
        where
          at : (b : Bool) → eqb (get_or s q d).key (get_or s i d).key ≡ b → IsNewest s (get_or s i d) ⊎ Any (λ u. IsBest s (get_or s i d).key u (get_or s i d)) needed
          at false f = inl (newest (λ k g same. not_equal (get_or s q d).key (get_or s i d).key f (let a = key_upto k q d (omega arith) (omega arith) in let b = key_upto q i d (omega arith) l in omega arith)))
          at true f = inr (between (picked q d e (equal (get_or s q d).key (get_or s i d).key f)))
            where
              between : Any (λ u. ((get_or s i d).version ≤ u) × (u < (get_or s q d).version)) needed → Any (λ u. IsBest s (get_or s i d).key u (get_or s i d)) needed
              between (m, u, lm, at_m, (lo, hi)) = (m, u, lm, at_m, best q u e (equal (get_or s q d).key (get_or s i d).key f) lo hi)

  -- a chosen cell that is not later than another of its key and version is that one
  chosen_same : (c x : Cell) → IsChosen s needed c → Contains s x → x.key ≡ c.key → x.version ≤ c.version → is_later c x ≡ false → x ≡ c
  chosen_same c x (among, which) h same le o =
      let g : is_later x c ≡ false = go which in
      apart x c h among same (grind (arith, nat_tests)) (grind (arith, nat_tests))
    where
      go : IsNewest s c ⊎ Any (λ u. IsBest s c.key u c) needed → is_later x c ≡ false
      go (inl n) = All-contains (λ (y : Cell). y.key ≡ c.key → is_later y c ≡ false) s x n h same
      go (inr (m, u, lm, at_m, i)) = All-contains (λ (y : Cell). y.key ≡ c.key → y.version ≤ u → is_later y c ≡ false) s x i.greatest h same (let b = i.in_bound in omega arith)

  -- a chosen cell that is not picked stands in front of its place again
  passed_again : (i : ℕ) (d : Cell) → i < length s → (IsPicked s needed i → ⊥) → IsChosen s needed (get_or s i d) → (k : ℕ) × (k + 1 ≡ i) × (get_or s k d ≡ get_or s i d)
  passed_again i d l unpicked chosen = go (in_front i)
    where
      same_cell : (k : ℕ) → k + 1 ≡ i → (get_or s k d).key ≡ (get_or s i d).key → is_later (get_or s k d) (get_or s i d) ≡ false → get_or s k d ≡ get_or s i d
      same_cell k e same g =
          let v = level (get_or s k d) (get_or s i d) same (ordered k i d (omega arith) l) g in
          apart (get_or s k d) (get_or s i d) (Contains-get_or s k d (omega arith)) (Contains-get_or s i d l) same v.0 v.1

      again : (k : ℕ) → k + 1 ≡ i → (get_or s k d).key ≡ (get_or s i d).key → IsChosen s needed (get_or s i d) → get_or s k d ≡ get_or s i d
      again k e same (among, inl newest) = same_cell k e same (newest k d (omega arith) same)
      again k e same (among, inr (m, u, lm, at_m, i_best)) = at (cases_lt u (get_or s k d).version)
        where
          at : ((u < (get_or s k d).version) ⊎ ((get_or s k d).version ≤ u)) → get_or s k d ≡ get_or s i d
          at (inl hi) = absurd (unpicked (λ q x f g. (m, u, lm, at_m, (rw (get_or_default s i x d l) i_best.in_bound, (let n : q ≡ k = omega arith in rw (n, get_or_default s k x d (omega arith)) hi)))))
          at (inr le) = same_cell k e same (i_best.greatest k d (omega arith) same le)

      go : ((i ≡ 0) ⊎ ((k : ℕ) × (k + 1 ≡ i))) → (k : ℕ) × (k + 1 ≡ i) × (get_or s k d ≡ get_or s i d)
      go (inl z) = absurd (unpicked (λ q x f g. absurd (omega arith)))
      go (inr (k, e)) = at (eqb (get_or s k d).key (get_or s i d).key) refl
        where
          at : (b : Bool) → eqb (get_or s k d).key (get_or s i d).key ≡ b → (k : ℕ) × (k + 1 ≡ i) × (get_or s k d ≡ get_or s i d)
          at true f = (k, e, again k e (equal (get_or s k d).key (get_or s i d).key f) chosen)
          at false f = absurd (unpicked (λ q x g h. absurd (not_equal (get_or s k d).key (get_or s i d).key f (let n : q ≡ k = omega arith in rw (n, get_or_default s i x d l, get_or_default s k x d (omega arith)) at h))))

  module _ (from end : ℕ) (key : IsKeyAt s from end) where
    -- the cells of the key
    same_key : (i j : ℕ) (d : Cell) → from ≤ i → i < end → from ≤ j → j < end → (get_or s i d).key ≡ (get_or s j d).key
    same_key i j d f g h k = key.same i d f g ∙ sym (key.same j d h k)

    -- those behind them have greater keys
    behind : (i m : ℕ) (d : Cell) → from ≤ i → i < end → end ≤ m → m < length s → (get_or s i d).key < (get_or s m d).key
    behind i m d f g h lm = let a = key.same i d f g in let b = key.last d (omega arith) in let c = key_upto end m d h lm in omega arith

    -- one that stands again stands among them
    again_among : (i k : ℕ) (d : Cell) → from ≤ i → k + 1 ≡ i → i < end → get_or s k d ≡ get_or s i d → from ≤ k
    again_among i k d f e g same = at (cases_lt k from)
      where
        at : ((k < from) ⊎ (from ≤ k)) → from ≤ k
        at (inr h) = h
        at (inl h) = absurd (let n : i ≡ from = omega arith in let a = key.first k d (omega arith) in let b : (get_or s k d).key ≡ (get_or s i d).key = ap (λ (c : Cell). c.key) same in let c : (get_or s i d).key ≡ (get_or s from d).key = ap (λ (q : ℕ). (get_or s q d).key) n in omega arith)

    module _ (place p : ℕ) (shown : Bool) (kept : List Cell) (next : p + 1 ≡ place) (low : from ≤ p) (high : place ≤ end) (so : IsSoFar s needed from place end kept) where
      -- the place is that of a cell
      inside : p < length s
      inside = let w = key.within in omega arith

      -- its key is that with which they begin
      first_key : (d e : Cell) → (get_or s from e).key ≡ (get_or s p d).key
      first_key d e = let w = key.within in let a = key.some in ap (λ (c : Cell). c.key) (get_or_default s from e d (omega arith)) ∙ sym (key.same p d low (omega arith))

      -- so it is told of it
      pub shown_here : (d e : Cell) → IsShown (get_or s from e).key shown kept → IsShown (get_or s p d).key shown kept
      shown_here d e is = subst (λ (k : ℕ). IsShown k shown kept) (first_key d e) is

      -- and the other way round, where one more was kept
      pub shown_there : (d e : Cell) (more : List Cell) → IsShown (get_or s p d).key true more → IsShown (get_or s from e).key true more
      shown_there d e more is = subst (λ (k : ℕ). IsShown k true more) (sym (first_key d e)) is

      -- a cell that is to be kept may stay
      pub may_stay : (d : Cell) → IsShown (get_or s p d).key shown kept → IsKept s needed (get_or s p d) → MayStay shown (get_or s p d)
      may_stay d is (chosen, (m, x, lm, e, (same, le, ch, val))) = which shown refl
        where
          at_m : get_or s m d ≡ x
          at_m = get_or_default s m d x lm ∙ e

          key_m : (get_or s m d).key ≡ (get_or s p d).key
          key_m = ap (λ (c : Cell). c.key) at_m ∙ same

          gone : shown ≡ false → (m < from) ⊎ ((place ≤ m) × (m < end)) → is_some (get_or s p d).value ≡ true
          gone f g = told (so.complete m d g lm (rw at_m (ch, (m, x, lm, e, (refl, omega arith, ch, val)))))
            where
              told : Contains kept (get_or s m d) ⊎ IsAgain s from place m → is_some (get_or s p d).value ≡ true
              told (inl c) = absurd (All-contains (λ (y : Cell). y.key ≡ (get_or s p d).key → ⊥) kept (get_or s m d) (is.none f) c key_m)
              told (inr (k, n, h, t)) = let q : k ≡ p = omega arith in subst (λ (y : Cell). is_some y.value ≡ true) (sym (ap (λ (j : ℕ). get_or s j d) (sym q) ∙ t d ∙ at_m)) val

          front : m ≤ p → is_some (get_or s p d).value ≡ true
          front g =
              let o : is_later (get_or s p d) (get_or s m d) ≡ false = later_front m p d g inside key_m in
              let t : x ≡ get_or s p d = chosen_same (get_or s p d) x chosen (m, lm, e) same le (rw at_m at o) in
              subst (λ (y : Cell). is_some y.value ≡ true) t val

          placed : shown ≡ false → ((m < from) ⊎ (from ≤ m)) → ((m < place) ⊎ (place ≤ m)) → ((m < end) ⊎ (end ≤ m)) → is_some (get_or s p d).value ≡ true
          placed f (inl a) b c = gone f (inl a)
          placed f (inr a) (inl b) c = front (omega arith)
          placed f (inr a) (inr b) (inl c) = gone f (inr (b, c))
          placed f (inr a) (inr b) (inr c) = absurd (let g = behind p m d low (omega arith) c lm in omega (arith, g, key_m))

          which : (b : Bool) → shown ≡ b → MayStay shown (get_or s p d)
          which true f = inr f
          which false f = inl (placed f (cases_lt m from) (cases_lt m place) (cases_lt m end))

      -- the cell at the place is below those of its key in front of it, where it is picked
      below_front : (d : Cell) → IsPicked s needed p → (m : ℕ) (e : Cell) → from ≤ m → m < p → is_below (get_or s p d) (get_or s m e) ≡ true
      below_front d picked m e f g = subst (λ (x : Cell). is_below x (get_or s m e) ≡ true) (get_or_default s p e d inside) (at (in_front p))
        where
          at : ((p ≡ 0) ⊎ ((q : ℕ) × (q + 1 ≡ p))) → is_below (get_or s p e) (get_or s m e) ≡ true
          at (inl z) = absurd (omega arith)
          at (inr (q, n)) = found (picked q e n (same_key q p e (omega arith) (omega arith) low (omega arith)))
            where
              found : Any (λ u. ((get_or s p e).version ≤ u) × (u < (get_or s q e).version)) needed → is_below (get_or s p e) (get_or s m e) ≡ true
              found (j, u, lj, at_j, (lo, hi)) =
                  let i = inside in
                  let v = version_downto m q e (omega arith) (omega arith) (same_key m q e f (omega arith) (omega arith) (omega arith)) in
                  let k = same_key m p e f (omega arith) low (omega arith) in
                  grind (arith, nat_tests)

      -- a picked cell that may stay is to be kept
      to_keep : (d : Cell) → IsPicked s needed p → IsShown (get_or s p d).key shown kept → MayStay shown (get_or s p d) → IsKept s needed (get_or s p d)
      to_keep d picked is may = (chosen, lifted may)
        where
          chosen : IsChosen s needed (get_or s p d)
          chosen = picked_chosen p d inside picked

          lifted : MayStay shown (get_or s p d) → Any (λ x. (x.key ≡ (get_or s p d).key) × (x.version ≤ (get_or s p d).version) × IsChosen s needed x × (is_some x.value ≡ true)) s
          lifted (inl val) = (p, get_or s p d, inside, get_or_default s p (get_or s p d) d inside, (refl, omega arith, chosen, val))
          lifted (inr t) = found (is.some t)
            where
              found : Any (λ c. (c.key ≡ (get_or s p d).key) × (is_some c.value ≡ true)) kept → Any (λ x. (x.key ≡ (get_or s p d).key) × (x.version ≤ (get_or s p d).version) × IsChosen s needed x × (is_some x.value ≡ true)) s
              found (m, x, lm, e, (same, val)) =
                  let h : IsKept s needed x = All-contains (IsKept s needed) kept x so.sound (m, lm, e) in
                  let b : is_below x (get_or s p d) ≡ true = All-contains (λ (c : Cell). is_below c (get_or s p d) ≡ true) kept x (so.below p d low (omega arith) inside) (m, lm, e) in
                  let v : x.version ≤ (get_or s p d).version = grind (arith, nat_tests) in
                  let among = h.0.0 in
                  (among.0, x, among.1, among.2, (same, v, h.0, val))

      -- going on past a cell that is kept
      pub kept_on : (d : Cell) → IsPicked s needed p → IsShown (get_or s p d).key shown kept → MayStay shown (get_or s p d) → IsSoFar s needed from p end (kept ++ get_or s p d ∷ [])
      kept_on d picked is may = record {
        few = (let e = length_push kept (get_or s p d) in let f = so.few in omega arith);
        rising = all_pairs_push (λ (x y : Cell). is_below x y ≡ true) kept (get_or s p d) so.rising (so.below p d low (omega arith) inside);
        below = λ m e f g lm. All-push (λ (x : Cell). is_below x (get_or s m e) ≡ true) kept (get_or s p d) (so.below m e f (omega arith) lm) (below_front d picked m e f g);
        under = λ m e g lm. All-push (λ (x : Cell). x.key < (get_or s m e).key) kept (get_or s p d) (so.under m e g lm) (subst (λ (x : Cell). x.key < (get_or s m e).key) (get_or_default s p e d inside) (behind p m e low (omega arith) g lm));
        sound = All-push (IsKept s needed) kept (get_or s p d) so.sound (to_keep d picked is may);
        complete = λ j e g lj h. inl (complete j e h lj g (cases_lt p j));
      }
        where
          here : (e : Cell) → Contains (kept ++ get_or s p d ∷ []) (get_or s p e)
          here e = subst (λ (x : Cell). Contains (kept ++ get_or s p d ∷ []) x) (get_or_default s p d e inside) (Contains-push kept (get_or s p d))

          older : (j : ℕ) (e : Cell) → IsKept s needed (get_or s j e) → j < length s → (j < from) ⊎ ((place ≤ j) × (j < end)) → Contains (kept ++ get_or s p d ∷ []) (get_or s j e)
          older j e h lj g = told (so.complete j e g lj h)
            where
              told : Contains kept (get_or s j e) ⊎ IsAgain s from place j → Contains (kept ++ get_or s p d ∷ []) (get_or s j e)
              told (inl c) = Contains-append_left kept (get_or s p d ∷ []) (get_or s j e) c
              told (inr (k, n, f, t)) = let q : k ≡ p = omega arith in subst (λ (x : Cell). Contains (kept ++ get_or s p d ∷ []) x) (ap (λ (i : ℕ). get_or s i e) (sym q) ∙ t e) (here e)

          complete : (j : ℕ) (e : Cell) → IsKept s needed (get_or s j e) → j < length s → (j < from) ⊎ ((p ≤ j) × (j < end)) → ((p < j) ⊎ (j ≤ p)) → Contains (kept ++ get_or s p d ∷ []) (get_or s j e)
          complete j e h lj (inl a) g = older j e h lj (inl a)
          complete j e h lj (inr (a, b)) (inl g) = older j e h lj (inr (omega arith, b))
          complete j e h lj (inr (a, b)) (inr g) = let same : p ≡ j = omega arith in subst (λ (q : ℕ). Contains (kept ++ get_or s p d ∷ []) (get_or s q e)) same (here e)

      -- one of the key was kept then
      pub kept_shown : (d : Cell) → IsPicked s needed p → IsShown (get_or s p d).key shown kept → MayStay shown (get_or s p d) → IsShown (get_or s p d).key true (kept ++ get_or s p d ∷ [])
      kept_shown d picked is may = record { some = λ t. found may; none = λ f. absurd (cc) }
        where
          found : MayStay shown (get_or s p d) → Any (λ c. (c.key ≡ (get_or s p d).key) × (is_some c.value ≡ true)) (kept ++ get_or s p d ∷ [])
          found (inl val) = let h = Contains-push kept (get_or s p d) in (h.0, get_or s p d, h.1, h.2, (refl, val))
          found (inr t) = still (is.some t)
            where
              still : Any (λ c. (c.key ≡ (get_or s p d).key) × (is_some c.value ≡ true)) kept → Any (λ c. (c.key ≡ (get_or s p d).key) × (is_some c.value ≡ true)) (kept ++ get_or s p d ∷ [])
              still (m, x, lm, e, v) = let h = Contains-append_left kept (get_or s p d ∷ []) x (m, lm, e) in (h.0, x, h.1, h.2, v)

      -- going on past a cell that is not
      pub passed_on : (d : Cell) → (MayStay shown (get_or s p d) → IsPicked s needed p → ⊥) → IsShown (get_or s p d).key shown kept → IsSoFar s needed from p end kept
      passed_on d out is = record {
        few = (let f = so.few in omega arith);
        rising = so.rising;
        below = λ m e f g lm. so.below m e f (omega arith) lm;
        under = so.under;
        sound = so.sound;
        complete = λ j e g lj h. complete j e h lj g (cases_lt p j);
      }
        where
          again : IsKept s needed (get_or s p d) → IsAgain s from p p
          again h = at (passed_again p d inside (out (may_stay d is h)) h.0)
            where
              at : (k : ℕ) × (k + 1 ≡ p) × (get_or s k d ≡ get_or s p d) → IsAgain s from p p
              at (k, n, t) = (k, n, again_among p k d low n (omega arith) t, λ e. (get_or_default s k e d (let i = inside in omega arith) ∙ t ∙ get_or_default s p d e inside))

          -- the same, of a cell that agrees
          again_of : (j : ℕ) (e : Cell) → IsKept s needed (get_or s j e) → ((x : Cell) → get_or s p x ≡ get_or s j x) → IsAgain s from p j
          again_of j e h t = at (again (subst (IsKept s needed) (sym (get_or_default s p d e inside ∙ t e)) h))
            where
              at : IsAgain s from p p → IsAgain s from p j
              at (k, n, f, u) = (k, n, f, λ x. (u x ∙ t x))

          older : (j : ℕ) (e : Cell) → IsKept s needed (get_or s j e) → j < length s → (j < from) ⊎ ((place ≤ j) × (j < end)) → Contains kept (get_or s j e) ⊎ IsAgain s from p j
          older j e h lj g = told (so.complete j e g lj h)
            where
              told : Contains kept (get_or s j e) ⊎ IsAgain s from place j → Contains kept (get_or s j e) ⊎ IsAgain s from p j
              told (inl c) = inl c
              told (inr (k, n, f, t)) = let q : k ≡ p = omega arith in inr (again_of j e h (λ x. (ap (λ (i : ℕ). get_or s i x) (sym q) ∙ t x)))

          complete : (j : ℕ) (e : Cell) → IsKept s needed (get_or s j e) → j < length s → (j < from) ⊎ ((p ≤ j) × (j < end)) → ((p < j) ⊎ (j ≤ p)) → Contains kept (get_or s j e) ⊎ IsAgain s from p j
          complete j e h lj (inl a) g = older j e h lj (inl a)
          complete j e h lj (inr (a, b)) (inl g) = older j e h lj (inr (omega arith, b))
          complete j e h lj (inr (a, b)) (inr g) = let same : p ≡ j = omega arith in inr (again_of j e h (λ x. ap (λ (i : ℕ). get_or s i x) same))

    -- at the end of the key
    pub key_started : (kept : List Cell) → IsKeptTo s needed from kept → IsSoFar s needed from end end kept
    key_started kept so = record {
      few = (let f = so.few in omega arith);
      rising = so.rising;
      below = λ m d f g lm. lower (get_or s m d) (so.under m d f lm);
      under = λ m d g lm. so.under m d (let f = key.some in omega arith) lm;
      sound = so.sound;
      complete = λ j d g lj h. inl (complete j d h lj g);
    }
      where
        lower : (x : Cell) → All (λ c. c.key < x.key) kept → All (λ c. is_below c x ≡ true) kept
        lower x a k d l = let b = a k d l in grind (arith, nat_tests)

        complete : (j : ℕ) (d : Cell) → IsKept s needed (get_or s j d) → j < length s → (j < from) ⊎ ((end ≤ j) × (j < end)) → Contains kept (get_or s j d)
        complete j d h lj (inl a) = so.complete j d a lj h
        complete j d h lj (inr (a, b)) = absurd (omega arith)

    -- none of the key was kept in front of it
    pub key_hidden : (kept : List Cell) (d : Cell) → IsKeptTo s needed from kept → IsShown (get_or s from d).key false kept
    key_hidden kept d so = record { some = λ t. absurd (cc); none = λ f k e l same. let u = so.under from d (omega arith) (let a = key.some in let b = key.within in omega arith) k e l in omega arith }

    -- where all cells of the key have been gone through
    pub key_ended : (kept : List Cell) → IsSoFar s needed from from end kept → IsKeptTo s needed end kept
    key_ended kept so = record {
      few = (let f = so.few in omega arith);
      rising = so.rising;
      under = so.under;
      sound = so.sound;
      complete = λ j d g lj h. told j d (so.complete j d (which j g (cases_lt j from)) lj h);
    }
      where
        which : (j : ℕ) → j < end → ((j < from) ⊎ (from ≤ j)) → (j < from) ⊎ ((from ≤ j) × (j < end))
        which j g (inl a) = inl a
        which j g (inr a) = inr (a, g)

        told : (j : ℕ) (d : Cell) → Contains kept (get_or s j d) ⊎ IsAgain s from from j → Contains kept (get_or s j d)
        told j d (inl c) = c
        told j d (inr (k, n, f, t)) = absurd (omega arith)

  -- at the start
  pub started : IsKeptTo s needed 0 []
  started = record {
    few = omega arith;
    rising = λ a b d g f. absurd (omega arith);
    under = λ m d g f k e lk. absurd (omega arith);
    sound = λ k e lk. absurd (omega arith);
    complete = λ j d g lj h. absurd (omega arith);
  }

  -- at the end
  pub ended : (n : ℕ) (kept : List Cell) → length s ≤ n → IsKeptTo s needed n kept → IsKeptList s needed kept
  ended n kept l so = record { rising = so.rising; exactly = λ c. (All-contains (IsKept s needed) kept c so.sound, λ h. in_kept c h h.0.0) }
    where
      in_kept : (c : Cell) → IsKept s needed c → Contains s c → Contains kept c
      in_kept c h (k, lk, e) = subst (Contains kept) e (so.complete k c (omega arith) lk (subst (IsKept s needed) (sym e) h))
