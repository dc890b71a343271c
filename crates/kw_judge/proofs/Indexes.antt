-- Names that are looked up by their numbers.
use Rattle.std.proofs.Common.{ℕ, ◌≡◌, ◌+◌, ◌<◌, ◌≤◌, List, [], ◌∷◌, ◌++◌, map, take, length, get_or, Option, Some, None, is_some, Bool, true, false, slice_get, sym, ap, ◌∙◌, arith, nat_cmp, inl, inr}
use Rattle.std.proofs.lemmas.Bool.{cases_eq, cases_lt}
use Rattle.std.proofs.lemmas.List.{map_more, map_push}
use Rattle.std.proofs.lemmas.Bool.Decides.{nat_tests}
use Rattle.std.specs.BTreeMap.{BTreeMap, get, Updates}
use Rattle.kw_judge.specs.declared.record.Name.{Name}
use Rattle.kw_judge.specs.Record.{IsName}
use Rattle.kw_judge.specs.Index.{key_of, IsIndexBelow, AreNames}
use Rattle.kw_judge.specs.Verdict.{IsNew, StoodBefore}

-- a name is its two parts
name_from_parts : (s t m n : ℕ) → s ≡ t → m ≡ n → let a : Name = record { seat = s; number = m } in let b : Name = record { seat = t; number = n } in a ≡ b
name_from_parts s t m n e f = cc

-- no two names have one number
pub key_injective : (a b : Name) → IsName a → IsName b → key_of a ≡ key_of b → a ≡ b
key_injective a b h k e =
    let seat : a.seat ≡ b.seat = omega (arith, h.2, k.2, e) in
    let number : a.number ≡ b.number = omega (arith, e, seat) in
    name_from_parts a.seat b.seat a.number b.number seat number

-- no name is in the empty map
pub nothing_yet : (names : List Name) (m : BTreeMap ℕ ℕ) → ((q : ℕ) → get nat_cmp m q ≡ None) → IsIndexBelow names 0 m
nothing_yet names m e = record { found = λ name p f g. cc (e (key_of name)); lost = λ name p g l w. absurd (omega arith) }

-- one more name
pub one_more : (names : List Name) (n : ℕ) (m m' : BTreeMap ℕ ℕ) (name : Name) → AreNames names → slice_get names n ≡ Some name → IsIndexBelow names n m → Updates nat_cmp m m' (key_of name) (Some n) → IsIndexBelow names (n + 1) m'
one_more names n m m' name fits there h u = record { found = found; lost = lost }
  where
    found : (a : Name) (p : ℕ) → IsName a → get nat_cmp m' (key_of a) ≡ Some p → (p < n + 1) × (slice_get names p ≡ Some a)
    found a p f g = elim (cases_eq (key_of name) (key_of a)) [
      | inl same ↦ (let v : get nat_cmp m' (key_of a) ≡ Some n = grind (arith, nat_tests, u.0 (key_of a)) in
          let is : p ≡ n = cc in
          let one : name ≡ a = key_injective name a (fits n name there) f same in
          (omega arith, ap (slice_get names) is ∙ there ∙ ap Some one))
      | inr other ↦ (let v : get nat_cmp m (key_of a) ≡ Some p = grind (arith, nat_tests, u.0 (key_of a)) in
          let before = h.found a p f v in (omega (arith, before.0), before.1))
    ]

    lost : (a : Name) (p : ℕ) → get nat_cmp m' (key_of a) ≡ None → p < n + 1 → slice_get names p ≡ Some a → ⊥
    lost a p g l w = elim (cases_eq (key_of name) (key_of a)) [
      | inl same ↦ (let v : get nat_cmp m' (key_of a) ≡ Some n = grind (arith, nat_tests, u.0 (key_of a)) in cc)
      | inr other ↦ (let v : get nat_cmp m (key_of a) ≡ None = grind (arith, nat_tests, u.0 (key_of a)) in
          elim (cases_lt p n) [ inl below ↦ h.lost a p v below w | inr above ↦ other (ap key_of (some_same (sym there ∙ (ap (slice_get names) (last above) ∙ w)))) ])
    ]
      where
        last : n ≤ p → n ≡ p
        last above = omega arith

        some_same : {x y : Name} → Some x ≡ Some y → x ≡ y
        some_same e = cc

-- a name that the map has stood before
pub stood : (names : List Name) (n : ℕ) (m : BTreeMap ℕ ℕ) (name : Name) (o : Option ℕ) (b : Bool) → IsName name → IsIndexBelow names n m → o ≡ get nat_cmp m (key_of name) → b ≡ is_some o → b ≡ true → StoodBefore names n name
stood names n m name (Some p) b fits h e s t = let f = h.found name p fits (sym e) in (p, f.0, f.1)
stood names n m name None b fits h e s t = cc

-- one that it lacks is new
pub is_new : (names : List Name) (n : ℕ) (m : BTreeMap ℕ ℕ) (name : Name) (o : Option ℕ) (b : Bool) → IsIndexBelow names n m → o ≡ get nat_cmp m (key_of name) → b ≡ is_some o → b ≡ false → IsNew names n name
is_new names n m name None b h e s t = λ j l w. h.lost name j (sym e) l w
is_new names n m name (Some p) b h e s t = cc

-- names of which each is new as far as one more
pub each_more : (names : List Name) (n : ℕ) (name : Name) → slice_get names n ≡ Some name → ((k : ℕ) (a : Name) → k < n → slice_get names k ≡ Some a → IsNew names k a) → IsNew names n name → (k : ℕ) (a : Name) → k < n + 1 → slice_get names k ≡ Some a → IsNew names k a
each_more names n name there h new k a l w = elim (cases_lt k n) [
  | inl below ↦ h k a below w
  | inr above ↦ (let is : k ≡ n = omega arith in
      let one : Some name ≡ Some a = sym there ∙ (ap (slice_get names) (sym is) ∙ w) in
      let same : name ≡ a = cc in
      λ j m v. new j (omega arith) (v ∙ ap Some (sym same)))
]

-- one more place, at which the next name stands
pub place_more : (lines order : List Name) (places : List ℕ) (i p : ℕ) (name : Name) → i < length order → map (slice_get lines) places ≡ map Some (take i order) → slice_get lines p ≡ Some (get_or order i name) → map (slice_get lines) (places ++ p ∷ []) ≡ map Some (take (i + 1) order)
place_more lines order places i p name l h found = map_push (slice_get lines) places p ∙ (ap (λ t. t ++ slice_get lines p ∷ []) h ∙ (ap (λ o. map Some (take i order) ++ o ∷ []) found ∙ sym (map_more Some order i name l)))
