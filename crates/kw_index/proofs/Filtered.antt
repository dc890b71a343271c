-- Lists that a test cuts in two at a place, and what a filter leaves of them.
use Rattle.std.proofs.Common.{◌≡◌, ℕ, zero, suc, ◌<◌, ◌≤◌, Bool, true, false, List, [], ◌∷◌, ◌++◌, length, get_or, set, take, drop, filter, refl, ap, arith}
use Rattle.std.specs.List.{AllWithin, remove}

-- what holds from a place on in a list holds one place lower in its tail
pub within_tail : {X : Type 0} (P : X → Type 0) (x : X) (xs : List X) (low high : ℕ) → AllWithin P (x ∷ xs) (suc low) (suc high) → AllWithin P xs low high
within_tail P x xs low high all k d above below = all (suc k) d (omega arith) (omega arith)

-- a filter that everything passes, or nothing
pub filter_all : {X : Type 0} (p : X → Bool) (xs : List X) → AllWithin (λ y. p y ≡ true) xs 0 (length xs) → filter p xs ≡ xs
filter_all p [] all = refl
filter_all p (x ∷ xs) all = rw (all 0 x (omega arith) (omega arith)) (ap (λ ys. x ∷ ys) (filter_all p xs (within_tail (λ y. p y ≡ true) x xs 0 _ (λ k d above below. all k d (omega arith) below))))

pub filter_none : {X : Type 0} (p : X → Bool) (xs : List X) → AllWithin (λ y. p y ≡ false) xs 0 (length xs) → filter p xs ≡ []
filter_none p [] all = refl
filter_none p (x ∷ xs) all = rw (all 0 x (omega arith) (omega arith)) (filter_none p xs (within_tail (λ y. p y ≡ false) x xs 0 _ (λ k d above below. all k d (omega arith) below)))

-- where all before a place pass and none from it on does, the filter leaves what is before it
pub filter_front : {X : Type 0} (p : X → Bool) (xs : List X) (at : ℕ) → at ≤ length xs → AllWithin (λ y. p y ≡ true) xs 0 at → AllWithin (λ y. p y ≡ false) xs at (length xs) → filter p xs ≡ take at xs
filter_front p xs zero in_range before behind = filter_none p xs behind
filter_front p [] (suc at) in_range before behind = absurd (omega arith)
filter_front p (x ∷ xs) (suc at) in_range before behind =
    rw (before 0 x (omega arith) (omega arith)) (ap (λ ys. x ∷ ys) (filter_front p xs at (omega arith) (within_tail (λ y. p y ≡ true) x xs 0 at (λ k d above below. before k d (omega arith) below)) (within_tail (λ y. p y ≡ false) x xs at _ behind)))

-- where none before a place passes and all from it on do, the filter leaves what is from it on
pub filter_back : {X : Type 0} (p : X → Bool) (xs : List X) (at : ℕ) → at ≤ length xs → AllWithin (λ y. p y ≡ false) xs 0 at → AllWithin (λ y. p y ≡ true) xs at (length xs) → filter p xs ≡ drop at xs
filter_back p xs zero in_range before behind = filter_all p xs behind
filter_back p [] (suc at) in_range before behind = absurd (omega arith)
filter_back p (x ∷ xs) (suc at) in_range before behind =
    rw (before 0 x (omega arith) (omega arith)) (filter_back p xs at (omega arith) (within_tail (λ y. p y ≡ false) x xs 0 at (λ k d above below. before k d (omega arith) below)) (within_tail (λ y. p y ≡ true) x xs at _ behind))

-- where all pass but the one at a place, the filter removes that one
pub filter_one_out : {X : Type 0} (p : X → Bool) (xs : List X) (at : ℕ) → at < length xs → AllWithin (λ y. p y ≡ true) xs 0 at → ((d : X) → p (get_or xs at d) ≡ false) → AllWithin (λ y. p y ≡ true) xs (suc at) (length xs) → filter p xs ≡ remove xs at
filter_one_out p [] at in_range before here behind = absurd (omega arith)
filter_one_out p (x ∷ xs) zero in_range before here behind = rw (here x) (filter_all p xs (within_tail (λ y. p y ≡ true) x xs 0 _ behind))
filter_one_out p (x ∷ xs) (suc at) in_range before here behind =
    rw (before 0 x (omega arith) (omega arith)) (ap (λ ys. x ∷ ys) (filter_one_out p xs at (omega arith) (within_tail (λ y. p y ≡ true) x xs 0 at (λ k d above below. before k d (omega arith) below)) here (within_tail (λ y. p y ≡ true) x xs (suc at) _ behind)))

-- a write as what stands before and behind the place
pub set_parts : {X : Type 0} (xs : List X) (at : ℕ) (y : X) → at < length xs → set xs at y ≡ take at xs ++ y ∷ drop (suc at) xs
set_parts [] at y in_range = absurd (omega arith)
set_parts (x ∷ xs) zero y in_range = refl
set_parts (x ∷ xs) (suc at) y in_range = ap (λ ys. x ∷ ys) (set_parts xs at y (omega arith))
