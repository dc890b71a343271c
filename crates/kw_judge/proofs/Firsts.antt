-- The first of a list that fails, and lists of which all hold.
use Rattle.std.proofs.Common.{ℕ, ◌≡◌, ◌+◌, ◌<◌, ◌≤◌, List, Some, length, slice_get, sym, ap, ◌∙◌, subst, arith, inl, inr}
use Rattle.std.proofs.lemmas.Bool.{cases_lt}
use Rattle.std.proofs.lemmas.Option.{slice_get_within}
use Rattle.kw_judge.specs.Verdict.{IsFirst, AllHold}

-- those before a place hold
abbrev pub HoldBelow : {X : Type 0} → (ℕ → X → Type 0) → List X → ℕ → Type 0
HoldBelow {X} Holds xs n = (k : ℕ) (x : X) → k < n → slice_get xs k ≡ Some x → Holds k x

-- one more
pub more_hold : {X : Type 0} (Holds : ℕ → X → Type 0) (xs : List X) (n : ℕ) (x : X) → slice_get xs n ≡ Some x → HoldBelow Holds xs n → Holds n x → HoldBelow Holds xs (n + 1)
more_hold {X} Holds xs n x there h new k y l w = elim (cases_lt k n) [
  | inl below ↦ h k y below w
  | inr above ↦ (let is : n ≡ k = omega arith in
      let one : Some x ≡ Some y = sym there ∙ (ap (slice_get xs) is ∙ w) in
      let same : x ≡ y = cc in
      subst (λ (q : ℕ). Holds q y) is (subst (λ (z : X). Holds n z) same new))
]

-- all
pub all_hold : {X : Type 0} (Holds : ℕ → X → Type 0) (xs : List X) (n : ℕ) → length xs ≤ n → HoldBelow Holds xs n → AllHold Holds xs
all_hold Holds xs n l h k x w = h k x (omega (arith, slice_get_within xs k x w)) w

-- where none both holds and fails, not all hold if one is the first that fails
pub not_all : {X : Type 0} (Holds Fails : ℕ → X → Type 0) (xs : List X) (x : X) → ((k : ℕ) (y : X) → slice_get xs k ≡ Some y → Holds k y → Fails k y → ⊥) → AllHold Holds xs → IsFirst Holds Fails xs x → ⊥
not_all Holds Fails xs x apart all f = apart f.place x f.there (all f.place x f.there) f.fails

-- and there is one first
pub one_first : {X : Type 0} (Holds Fails : ℕ → X → Type 0) (xs : List X) (x y : X) → ((k : ℕ) (z : X) → slice_get xs k ≡ Some z → Holds k z → Fails k z → ⊥) → IsFirst Holds Fails xs x → IsFirst Holds Fails xs y → x ≡ y
one_first {X} Holds Fails xs x y apart f g = elim (cases_lt f.place g.place) [
  | inl below ↦ absurd (apart f.place x f.there (g.before f.place x below f.there) f.fails)
  | inr above ↦ elim (cases_lt g.place f.place) [
    | inl below ↦ absurd (apart g.place y g.there (f.before g.place y below g.there) g.fails)
    | inr same ↦ (let is : f.place ≡ g.place = omega arith in
        let one : Some x ≡ Some y = sym f.there ∙ (ap (slice_get xs) is ∙ g.there) in cc)
  ]
]

-- the places are the same too
pub one_place : {X : Type 0} (Holds Fails : ℕ → X → Type 0) (xs : List X) (x y : X) → ((k : ℕ) (z : X) → slice_get xs k ≡ Some z → Holds k z → Fails k z → ⊥) → (f : IsFirst Holds Fails xs x) (g : IsFirst Holds Fails xs y) → f.place ≡ g.place
one_place {X} Holds Fails xs x y apart f g = elim (cases_lt f.place g.place) [
  | inl below ↦ absurd (apart f.place x f.there (g.before f.place x below f.there) f.fails)
  | inr above ↦ elim (cases_lt g.place f.place) [
    | inl below ↦ absurd (apart g.place y g.there (f.before g.place y below g.there) g.fails)
    | inr same ↦ omega arith
  ]
]
