-- What the workers have for their lines, put into line order, as the lines are gone along with a
-- place for each worker.
use Rattle.std.proofs.Common.{subst, ◌≡◌, ◌≢◌, ℕ, zero, suc, ◌+◌, ◌<◌, List, [], ◌∷◌, ◌++◌, length, map, take, get_or, refl, ap, sym, ◌∙◌, arith, append-nil, append_assoc, set, get_or-set_same, get_or-set_other, Vec}
use Rattle.std.proofs.lemmas.Bool.{cases_eq}
use mathlib.Core.Logic.{⊎_elim}
use Rattle.std.specs.declared.alloc.Global.{Global}
use Rattle.std.proofs.lemmas.List.{take_more, length_push, map-set, length-set}
use Rattle.kw_line.specs.declared.answer.Answer.{Answer}
use Rattle.kw_work.specs.declared.line.Line.{Line}
use Rattle.kw_work.specs.Dealing.{worker_of, part}
use Rattle.kw_work.specs.Collecting.{merge, answers_of, no_answer, SameLengths, SameElse}
use Rattle.kw_work.proofs.Shares.{part_in, part_out}

-- for no lines there is nothing
pub merge-nil : {A : Type 0} (n : ℕ) (q : ℕ → List A) (none : A) (before : List Line) → merge n q none before [] ≡ []
unfolding merge
merge-nil n q none before = refl

-- the lines of two lists, one after the other
pub merge-append : {A : Type 0} (n : ℕ) (q : ℕ → List A) (none : A) (before xs ys : List Line) → merge n q none before (xs ++ ys) ≡ merge n q none before xs ++ merge n q none (before ++ xs) ys
unfolding merge
merge-append n q none before [] ys = ap (λ x. merge n q none x ys) (sym (append-nil before))
merge-append n q none before (x ∷ xs) ys =
    ap (λ r. get_or (q (worker_of n x)) (length (part n (worker_of n x) before)) none ∷ r)
    (merge-append n q none (before ++ x ∷ []) xs ys ∙ ap (λ r. merge n q none (before ++ x ∷ []) xs ++ merge n q none r ys) (append_assoc before (x ∷ []) xs))

-- one line more
pub merge-push : {A : Type 0} (n : ℕ) (q : ℕ → List A) (none : A) (xs : List Line) (l : Line)
    → merge n q none [] (xs ++ l ∷ []) ≡ merge n q none [] xs ++ get_or (q (worker_of n l)) (length (part n (worker_of n l) xs)) none ∷ []
unfolding merge
merge-push n q none xs l = merge-append n q none [] xs (l ∷ [])

-- each worker's place is the number of its lines so far, also after one line more
pub next_at : (next : List ℕ) (n : ℕ) (lines : List Line) (i : ℕ) (d : Line) (w x : ℕ) → length next ≡ n → i < length lines → w ≡ worker_of n (get_or lines i d) → w < n
    → ((v : ℕ) → v < n → get_or next v 0 ≡ length (part n v (take i lines))) → x ≡ get_or next w 0 + 1
    → (v : ℕ) → v < n → get_or (set next w x) v 0 ≡ length (part n v (take (i + 1) lines))
next_at next n lines i d w x len lt is below old more v inside = ⊎_elim
    (λ (same : v ≡ w).
    let p : part n w (take i lines) ++ get_or lines i d ∷ [] ≡ part n w (take (i + 1) lines) = part_in n w lines (part n w (take i lines)) i d lt (sym is) refl in
    let q : length (part n w (take i lines)) + 1 ≡ length (part n w (take (i + 1) lines)) = sym (length_push (part n w (take i lines)) (get_or lines i d)) ∙ ap length p in
    ap (λ k. get_or (set next w x) k 0) same ∙ (get_or-set_same next w x 0 (omega arith) ∙ (more ∙ (ap (λ k. k + 1) (old w below) ∙ (q ∙ ap (λ k. length (part n k (take (i + 1) lines))) (sym same))))))
    (λ (ne : v ≢ w).
    get_or-set_other next w v x 0 ne ∙ (old v inside ∙ ap length (part_out n v lines (part n v (take i lines)) i d lt (λ h. ne (sym h ∙ sym is)) refl)))
    (cases_eq v w)

-- what a worker answers is its part's items
pub answers_of_is : (parts : List (Vec Answer Global)) (w : ℕ) (v : Vec Answer Global) → w < length parts → v ≡ get_or parts w v → answers_of parts w ≡ v.items
answers_of_is [] w v lt is = absurd (omega arith)
answers_of_is (x ∷ xs) zero v lt is = ap (λ (y : Vec Answer Global). y.items) (sym is)
answers_of_is (x ∷ xs) (suc w) v lt is = answers_of_is xs w v (omega arith) is

-- the part of a worker
pub part_at : (parts : List (Vec Answer Global)) (w : ℕ) → w < length parts → (v : Vec Answer Global) × ((d : Vec Answer Global) → get_or parts w d ≡ v)
part_at [] w lt = absurd (omega arith)
part_at (x ∷ xs) zero lt = (x, λ d. refl)
part_at (x ∷ xs) (suc w) lt = part_at xs w (omega arith)

-- one answer more
pub collect_more : (n : ℕ) (q : ℕ → List Answer) (none : Answer) (lines : List Line) (i : ℕ) (d : Line) (done more : List Answer) (a : Answer) → i < length lines
    → done ≡ merge n q none [] (take i lines)
    → a ≡ get_or (q (worker_of n (get_or lines i d))) (length (part n (worker_of n (get_or lines i d)) (take i lines))) none → more ≡ done ++ a ∷ []
    → more ≡ merge n q none [] (take (i + 1) lines)
collect_more n q none lines i d done more a lt old is push =
    let l : Line = get_or lines i d in
    push ∙ (ap (λ x. x ++ a ∷ []) old ∙ (ap (λ x. merge n q none [] (take i lines) ++ x ∷ []) is
    ∙ (sym (merge-push n q none (take i lines) l) ∙ ap (λ x. merge n q none [] x) (sym (take_more lines i d lt)))))

-- after a write to a worker's part its answers are those written
answers_of-set_same : (parts : List (Vec Answer Global)) (w : ℕ) (v : Vec Answer Global) → w < length parts → answers_of (set parts w v) w ≡ v.items
answers_of-set_same [] w v lt = absurd (omega arith)
answers_of-set_same (x ∷ xs) zero v lt = refl
answers_of-set_same (x ∷ xs) (suc w) v lt = answers_of-set_same xs w v (omega arith)

-- and those of another worker are as before
answers_of-set_other : (parts : List (Vec Answer Global)) (w u : ℕ) (v : Vec Answer Global) → u ≢ w → answers_of (set parts w v) u ≡ answers_of parts u
answers_of-set_other parts w u v ne =
    ap (λ x. get_or x u []) (map-set (λ (y : Vec Answer Global). y.items) parts w v) ∙ get_or-set_other (map (λ (y : Vec Answer Global). y.items) parts) w u v.items [] ne

-- a write to one answer leaves the lengths
pub same_lengths : (parts : List (Vec Answer Global)) (w k : ℕ) (v z : Vec Answer Global) (a : Answer) → w < length parts → v ≡ get_or parts w v → z.items ≡ set v.items k a → SameLengths parts (set parts w z)
same_lengths parts w k v z a lt at is = λ u. ⊎_elim
    (λ (same : u ≡ w). subst (λ x. length (answers_of (set parts w z) x) ≡ length (answers_of parts x)) (sym same)
    (ap length (answers_of-set_same parts w z lt ∙ is) ∙ (length-set v.items k a ∙ ap length (sym (answers_of_is parts w v lt at)))))
    (λ (ne : u ≢ w). ap length (answers_of-set_other parts w u z ne))
    (cases_eq u w)

-- and all other answers
pub same_else : (parts : List (Vec Answer Global)) (w k : ℕ) (v z : Vec Answer Global) (a : Answer) → w < length parts → v ≡ get_or parts w v → z.items ≡ set v.items k a → SameElse w k parts (set parts w z)
same_else parts w k v z a lt at is = λ u m other. ⊎_elim
    (λ (same : u ≡ w). subst (λ x. get_or (answers_of (set parts w z) x) m no_answer ≡ get_or (answers_of parts x) m no_answer) (sym same)
    (ap (λ x. get_or x m no_answer) (answers_of-set_same parts w z lt ∙ is) ∙ (get_or-set_other v.items k m a no_answer (other same) ∙ ap (λ x. get_or x m no_answer) (sym (answers_of_is parts w v lt at)))))
    (λ (ne : u ≢ w). ap (λ x. get_or x m no_answer) (answers_of-set_other parts w u z ne))
    (cases_eq u w)
