-- The parts of all workers together have each line once.
use Rattle.std.proofs.Common.{subst, ◌≡◌, ◌≢◌, ℕ, zero, suc, ◌+◌, ◌<◌, ◌≤◌, cond, List, [], ◌∷◌, ◌++◌, refl, ap, sym, ◌∙◌, arith, eq-eqb, ne_eqb}
use Rattle.std.specs.Prelude.{IsPermutation}
use Rattle.std.specs.List.{flat_map, range_with_len}
use Rattle.std.proofs.lemmas.Bool.{cases_eq}
use Rattle.std.proofs.lemmas.List.Sorted.{IsPermutation-refl, IsPermutation-sym, IsPermutation-trans, IsPermutation-cons, IsPermutation-middle, IsPermutation-append_right}
use mathlib.Core.Logic.{⊎_elim}
use Rattle.kw_work.specs.declared.line.Line.{Line}
use Rattle.kw_work.specs.Dealing.{worker_of, part}
use Rattle.kw_work.specs.Lines.{all_parts}
use Rattle.kw_work.proofs.Shares.{part-nil}

-- a line of the worker at the front
pub part-cons_in : (k w : ℕ) (l : Line) (ls : List Line) → worker_of k l ≡ w → part k w (l ∷ ls) ≡ l ∷ part k w ls
unfolding part
part-cons_in k w l ls is = ap (λ b. cond b (l ∷ part k w ls) (part k w ls)) (eq-eqb (worker_of k l) w is)

-- a line of another worker at the front
part-cons_out : (k w : ℕ) (l : Line) (ls : List Line) → worker_of k l ≢ w → part k w (l ∷ ls) ≡ part k w ls
unfolding part
part-cons_out k w l ls ne = ap (λ b. cond b (l ∷ part k w ls) (part k w ls)) (ne_eqb (worker_of k l) w ne)

-- the parts of n workers, from worker a on
abbrev parts_from : ℕ → ℕ → ℕ → List Line → List Line
parts_from k a n ls = flat_map (λ w. part k w ls) (range_with_len a n)

-- no lines are in no part
parts_from-nil : (k a n : ℕ) → parts_from k a n [] ≡ []
parts_from-nil k a zero = refl
parts_from-nil k a (suc n) = ap (λ x. x ++ parts_from k (a + 1) n []) (part-nil k a) ∙ parts_from-nil k (a + 1) n

-- a line of none of the workers is in none of their parts
parts_from_out : (k a n : ℕ) (l : Line) (ls : List Line) → worker_of k l < a → parts_from k a n (l ∷ ls) ≡ parts_from k a n ls
parts_from_out k a zero l ls below = refl
parts_from_out k a (suc n) l ls below =
    ap (λ x. x ++ parts_from k (a + 1) n (l ∷ ls)) (part-cons_out k a l ls (λ is. absurd (omega arith))) ∙ ap (λ x. part k a ls ++ x) (parts_from_out k (a + 1) n l ls (omega arith))

-- a line of one of the workers is in their parts once
parts_from_in : (k a n : ℕ) (l : Line) (ls : List Line) → a ≤ worker_of k l → worker_of k l < a + n → IsPermutation (l ∷ parts_from k a n ls) (parts_from k a n (l ∷ ls))
parts_from_in k a zero l ls from below = absurd (omega arith)
parts_from_in k a (suc n) l ls from below = ⊎_elim
    (λ (is : worker_of k l ≡ a).
    subst (λ x. IsPermutation (l ∷ parts_from k a (suc n) ls) x)
    (sym (ap (λ x. x ++ parts_from k (a + 1) n (l ∷ ls)) (part-cons_in k a l ls is) ∙ ap (λ x. (l ∷ part k a ls) ++ x) (parts_from_out k (a + 1) n l ls (omega arith))))
    (IsPermutation-refl (l ∷ parts_from k a (suc n) ls)))
    (λ (ne : worker_of k l ≢ a).
    let rest : List Line = parts_from k (a + 1) n ls in
    let all : List Line = parts_from k (a + 1) n (l ∷ ls) in
    let own : List Line = part k a ls in
    subst (λ x. IsPermutation (l ∷ (own ++ rest)) (x ++ all)) (sym (part-cons_out k a l ls ne))
    (IsPermutation-trans (l ∷ (own ++ rest)) (own ++ l ∷ rest) (own ++ all)
    (IsPermutation-sym (own ++ l ∷ rest) (l ∷ (own ++ rest)) (IsPermutation-middle own l rest))
    (IsPermutation-append_right own (l ∷ rest) all (parts_from_in k (a + 1) n l ls (omega arith) (omega arith)))))
    (cases_eq (worker_of k l) a)

-- each line is dealt once
pub IsPermutation-all_parts : (k : ℕ) (ls : List Line) → 0 < k → IsPermutation ls (all_parts k ls)
IsPermutation-all_parts k [] some = subst (λ x. IsPermutation [] x) (sym (parts_from-nil k 0 k)) (IsPermutation-refl [])
IsPermutation-all_parts k (l ∷ ls) some =
    IsPermutation-trans (l ∷ ls) (l ∷ all_parts k ls) (all_parts k (l ∷ ls)) (IsPermutation-cons l ls (all_parts k ls) (IsPermutation-all_parts k ls some)) (parts_from_in k 0 k l ls (omega arith) (omega arith))
