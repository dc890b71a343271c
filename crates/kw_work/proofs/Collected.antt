-- What is collected stands in the order of the lines.
use Rattle.std.proofs.Common.{◌≡◌, ℕ, ◌+◌, ◌<◌, List, [], ◌∷◌, ◌++◌, length, map, drop, get_or, refl, ap, sym, ◌∙◌, arith, append_assoc}
use Rattle.std.proofs.lemmas.List.{map-append, map-id, length-map, length_push, drop_more, drop_all}
use Rattle.std.proofs.Math.ListN.{get_or-map}
use Rattle.std.proofs.Math.Seq.{get_or-append_seam}
use Rattle.kw_work.specs.declared.line.Line.{Line}
use Rattle.kw_line.specs.declared.answer.Answer.{Answer}
use Rattle.kw_work.specs.Dealing.{worker_of, part}
use Rattle.kw_work.specs.Collecting.{merge, no_answer}
use Rattle.kw_work.proofs.Shares.{part-append, part-nil}
use Rattle.kw_work.proofs.Onces.{part-cons_in}

-- the worker is one of as many
below : (n : ℕ) (l : Line) → 0 < n → worker_of n l < n
below n l some = omega arith

-- where each worker has, for its lines, what is read of them, so have the lines together
pub map-merge : {A B : Type 0} (f : A → B) (g : Line → B) (n : ℕ) (has : ℕ → List A) (none : A) (before ls : List Line) → 0 < n
    → ((w : ℕ) → w < n → map f (has w) ≡ map g (part n w (before ++ ls))) → map f (merge n has none before ls) ≡ map g ls
unfolding merge
map-merge f g n has none before [] some each = refl
map-merge f g n has none before (l ∷ ls) some each =
    let w : ℕ = worker_of n l in
    let first : List Line = part n w before in
    let cut : part n w (before ++ l ∷ ls) ≡ first ++ l ∷ part n w ls = part-append n w before (l ∷ ls) ∙ ap (λ x. first ++ x) (part-cons_in n w l ls refl) in
    let read : f (get_or (has w) (length first) none) ≡ g l =
    sym (get_or-map f (has w) (length first) none)
    ∙ (ap (λ x. get_or x (length first) (f none)) (each w (below n l some) ∙ (ap (map g) cut ∙ map-append g first (l ∷ part n w ls)))
    ∙ (ap (λ k. get_or (map g first ++ g l ∷ map g (part n w ls)) k (f none)) (sym (length-map first g)) ∙ get_or-append_seam (map g first) (g l) (map g (part n w ls)) (f none))) in
    ap (λ x. x ∷ map f (merge n has none (before ++ l ∷ []) ls)) read
    ∙ ap (λ x. g l ∷ x) (map-merge f g n has none (before ++ l ∷ []) ls some (λ v lt. each v lt ∙ ap (λ x. map g (part n v x)) (sym (append_assoc before (l ∷ []) ls))))

-- where each worker has for its lines what a function gives of them, so has what is collected for
-- all lines
pub collected_in_order : (n : ℕ) (ls : List Line) (given : ℕ → List Answer) (answer : Line → Answer) → 0 < n → ((w : ℕ) → w < n → given w ≡ map answer (part n w ls)) → merge n given no_answer [] ls ≡ map answer ls
collected_in_order n ls given answer some each =
    sym (map-id (merge n given no_answer [] ls)) ∙ map-merge (λ (a : Answer). a) answer n given no_answer [] ls some (λ w lt. map-id (given w) ∙ each w lt)

-- what is dealt and then collected is as before
pub merge-part : (n : ℕ) (ls : List Line) (none : Line) → 0 < n → merge n (λ w. part n w ls) none [] ls ≡ ls
merge-part n ls none some =
    sym (map-id (merge n (λ w. part n w ls) none [] ls)) ∙ (map-merge (λ (l : Line). l) (λ (l : Line). l) n (λ w. part n w ls) none [] ls some (λ w lt. refl) ∙ map-id ls)

-- one worker takes each line
only : (l : Line) → worker_of 1 l ≡ 0
only l = omega arith

-- one worker has all lines
pub part-one_worker : (ls : List Line) → part 1 0 ls ≡ ls
part-one_worker [] = part-nil 1 0
part-one_worker (l ∷ ls) = part-cons_in 1 0 l ls (only l) ∙ ap (λ x. l ∷ x) (part-one_worker ls)

-- what one worker has for the lines that are left
merge_rest : {A : Type 0} (has : ℕ → List A) (none : A) (before ls : List Line) → length (has 0) ≡ length before + length ls → merge 1 has none before ls ≡ drop (length before) (has 0)
unfolding merge
merge_rest {A} has none before [] len = let e : length {A = Line} [] ≡ 0 = refl in sym (drop_all (length before) (has 0) (omega arith))
merge_rest {A} has none before (l ∷ ls) len =
    let own : get_or (has (worker_of 1 l)) (length (part 1 (worker_of 1 l) before)) none ≡ get_or (has 0) (length before) none =
    ap (λ w. get_or (has w) (length (part 1 w before)) none) (only l) ∙ ap (λ x. get_or (has 0) (length x) none) (part-one_worker before) in
    let more : length (before ++ l ∷ []) ≡ length before + 1 = length_push before l in
    ap (λ x. x ∷ merge 1 has none (before ++ l ∷ []) ls) own
    ∙ (ap (λ x. get_or (has 0) (length before) none ∷ x) (merge_rest has none (before ++ l ∷ []) ls (omega arith) ∙ ap (λ k. drop k (has 0)) more)
    ∙ sym (drop_more (has 0) (length before) none (omega arith)))

-- what one worker has is what is collected
pub merge-one_worker : {A : Type 0} (has : ℕ → List A) (none : A) (ls : List Line) → length (has 0) ≡ length ls → merge 1 has none [] ls ≡ has 0
merge-one_worker {A} has none ls len = merge_rest has none [] ls (len ∙ omega arith)
