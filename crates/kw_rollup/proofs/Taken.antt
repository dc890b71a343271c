-- A value that is taken out of those that are kept: out of the list where it is listed, else out of
-- the tree.
use Rattle.std.proofs.Common.{ℕ, true, false, ◌≡◌, ◌≢◌, ◌<◌, cond, eqb, ◌==◌, List, [], ◌∷◌, length, get_or, Option, Some, None, unwrap_or, inl, inr, refl, sym, ap, ◌∙◌, subst, arith}
use Rattle.std.specs.List.{count_by, position, position_or_len, swap_remove}
use Rattle.std.specs.Ordering.{nat_cmp}
use Rattle.std.specs.BTreeMap.{BTreeMap, get}
use Rattle.std.proofs.lemmas.Bool.{cases_lt, cases_eq, eq-eqb, ne_eqb, eqb-true, lt-ltb}
use Rattle.std.proofs.lemmas.List.Quantifiers.{position-Some}
use Rattle.std.proofs.lemmas.List.Sums.{sum_by-cons, sum_by-swap_remove}
use Rattle.kw_rollup.specs.declared.values.Values.{Values}
use Rattle.kw_rollup.specs.Kept.{AreValues}
use Rattle.kw_rollup.proofs.Rising.{IsIn}
use Rattle.kw_rollup.proofs.Ends.{from_counted}

-- the place of a value is one of the list where the value is in it
in_rest : (v x : ℕ) (xs : List ℕ) → x ≢ v → IsIn v (x ∷ xs) → IsIn v xs
in_rest v x xs ne (inl e) = absurd (ne (sym e))
in_rest v x xs ne (inr i) = i

place_below : (v : ℕ) (xs : List ℕ) → IsIn v xs → position_or_len (λ x. x == v) xs < length xs
place_below v [] i = absurd i
place_below v (x ∷ xs) i = elim (cases_eq x v) [
  | inl e ↦ (let t : eqb x v ≡ true = eq-eqb x v e in rw t (omega arith))
  | inr ne ↦ (let f : eqb x v ≡ false = ne_eqb x v ne in
      let more = place_below v xs (in_rest v x xs ne i) in
      rw f (omega (arith, more)))
]

-- a value that has no place is not listed
none_listed : (v : ℕ) (xs : List ℕ) → position (λ x. x == v) xs ≡ None → count_by (λ x. x == v) xs ≡ 0
none_listed v xs e = elim (cases_lt 0 (count_by (λ x. x == v) xs)) [
  | inl l ↦ (let below = lt-ltb _ _ (place_below v xs (from_counted v xs l)) in
      let some : Some (position_or_len (λ x. x == v) xs) ≡ None = rw below at e in cc)
  | inr z ↦ omega (arith, z)
]

-- out of the list
pub taken_listed : (v at d : ℕ) (found : Option ℕ) (xs : List ℕ) (k new : Values) → found ≡ position (λ x. x == v) xs → found ≡ Some at → xs ≡ k.listed.items → new.listed.items ≡ swap_remove k.listed.items at d → new.counted ≡ k.counted → (vs : List ℕ) → AreValues (v ∷ vs) k → AreValues vs new
taken_listed v at d found xs k new p f same made tree vs h =
    let P : List ℕ → Type 0 = λ ys. position (λ x. x == v) ys ≡ Some at in
    let place = position-Some (λ (x : ℕ). x == v) k.listed.items at d (subst P same (sym p ∙ f)) in
    let is_v : get_or k.listed.items at d ≡ v = eqb-true (get_or k.listed.items at d) v place.1 in
    record {
      times = λ u.
          let t = h.times u in
          let gone = sum_by-swap_remove (λ (x : ℕ). cond (x == u) 1 0) k.listed.items at d place.0 in
          let here : ◌≡◌ {A = ℕ} (cond (get_or k.listed.items at d == u) 1 0) (cond (v == u) 1 0) = ap (λ (x : ℕ). cond (x == u) 1 0) is_v in
          let more = sum_by-cons (λ (x : ℕ). cond (x == u) 1 0) v vs in
          let left : count_by (λ x. x == u) new.listed.items ≡ count_by (λ x. x == u) (swap_remove k.listed.items at d) = ap (λ (ys : List ℕ). count_by (λ x. x == u) ys) made in
          let kept : unwrap_or (get nat_cmp new.counted u) 0 ≡ unwrap_or (get nat_cmp k.counted u) 0 = ap (λ (m : BTreeMap ℕ ℕ). unwrap_or (get nat_cmp m u) 0) tree in
          omega (arith, t, gone, here, more, left, kept);
      some = λ u. let P : BTreeMap ℕ ℕ → Type 0 = λ m. get nat_cmp m u ≢ Some 0 in subst P (sym tree) (h.some u);
    }

-- a value that is not listed is in the tree
pub counted_then : (v : ℕ) (found : Option ℕ) (xs : List ℕ) (k : Values) → found ≡ position (λ x. x == v) xs → found ≡ None → xs ≡ k.listed.items → (vs : List ℕ) → AreValues (v ∷ vs) k → 0 < unwrap_or (get nat_cmp k.counted v) 0
counted_then v found xs k p f same vs h =
    let P : List ℕ → Type 0 = λ ys. position (λ x. x == v) ys ≡ None in
    let none = none_listed v k.listed.items (subst P same (sym p ∙ f)) in
    let t = h.times v in
    let more = sum_by-cons (λ (x : ℕ). cond (x == v) 1 0) v vs in
    let here : ◌≡◌ {A = ℕ} (cond (v == v) 1 0) 1 = rw (eq-eqb v v refl) refl in
    omega (arith, none, t, more, here)
