-- Relations between lists, place by place.
use Rattle.std.proofs.Common.{◌≡◌, ◌≢◌, ℕ, zero, suc, ◌+◌, ◌<◌, List, [], ◌∷◌, ◌++◌, length, slice_index_or, refl, sym, ◌∙◌, subst, arith}
use Rattle.std.proofs.lemmas.Bool.{cases_eq}
use Rattle.std.proofs.lemmas.List.{get_or_append_left, get_or_push, length_push}
use mathlib.Core.Logic.{⊎_elim}
use Rattle.kw_map.specs.Meetings.{AtEach}

-- the element at a place
pub element_at : {X : Type 0} (xs : List X) (i : ℕ) → i < length xs → (x : X) × ((d : X) → slice_index_or xs i d ≡ x)
element_at [] i lt = absurd (omega arith)
element_at (x ∷ xs) zero lt = (x, λ d. refl)
element_at (x ∷ xs) (suc i) lt = element_at xs i (omega arith)

pub each_none : {X Y : Type 0} (R : X → Y → Type 0) (ys : List Y) → AtEach R [] ys
each_none R ys = λ i d e lt. absurd (omega arith)

pub each_push : {X Y : Type 0} (R : X → Y → Type 0) (xs : List X) (ys : List Y) (x : X) (y : Y) → length ys ≡ length xs → AtEach R xs ys → R x y → AtEach R (xs ++ x ∷ []) (ys ++ y ∷ [])
each_push {X} {Y} R xs ys x y same each here i d e lt = ⊎_elim
    (λ (is : i ≡ length xs). subst (λ (z : X). R z (slice_index_or (ys ++ y ∷ []) i e)) (sym (get_or_push xs x d i (sym is))) (subst (λ (z : Y). R x z) (sym (get_or_push ys y e i (same ∙ sym is))) here))
    (λ (ne : i ≢ length xs).
    let long : length (xs ++ x ∷ []) ≡ length xs + 1 = length_push xs x in
    let lt' : i < length xs = omega arith in
    subst (λ (z : X). R z (slice_index_or (ys ++ y ∷ []) i e)) (sym (get_or_append_left xs (x ∷ []) d i lt'))
    (subst (λ (z : Y). R (slice_index_or xs i d) z) (sym (get_or_append_left ys (y ∷ []) e i (omega arith))) (each i d e lt')))
    (cases_eq i (length xs))

pub each_chain : {X Y Z : Type 0} (R : X → Y → Type 0) (S : Y → Z → Type 0) (T : X → Z → Type 0) → ((x : X) (y : Y) (z : Z) → R x y → S y z → T x z) → (xs : List X) (ys : List Y) (zs : List Z) → length ys ≡ length xs
    → AtEach R xs ys → AtEach S ys zs → AtEach T xs zs
each_chain R S T join xs ys zs same r s i d e lt =
    let y = element_at ys i (omega arith) in
    join (slice_index_or xs i d) (slice_index_or ys i y.0) (slice_index_or zs i e) (r i d y.0 lt) (s i y.0 e (omega arith))
