-- What the workers have for lines, put into line order: where the workers have more than these
-- lines take, and where they have the answers to calls.
use Rattle.std.proofs.Common.{◌≡◌, ℕ, zero, suc, ◌+◌, ◌<◌, ◌==◌, List, [], ◌∷◌, ◌++◌, length, get_or, All, refl, sym, ap, ◌∙◌, arith, length-append, append_assoc}
use Rattle.std.proofs.lemmas.List.{get_or_at, get_or_append_left, get_or-append-add}
use Rattle.std.proofs.lemmas.List.Elements.{All-filter}
use Rattle.kw_laws.specs.SeatCalls.{CallSeen}
use Rattle.kw_line.specs.Answered.{answer_for}
use Rattle.kw_work.specs.declared.line.Line.{Line}
use Rattle.kw_line.specs.declared.answer.Answer.{Answer}
use Rattle.kw_work.specs.Dealing.{worker_of, part}
use Rattle.kw_work.specs.Collecting.{merge, no_answer}
use Rattle.kw_work.proofs.Merges.{merge-nil}
use Rattle.kw_work.proofs.Shares.{part-append}
use Rattle.kw_work.proofs.Onces.{part-cons_in}
use Rattle.kw_app.specs.Recorded.{no_call, printed, reply_of}
use Rattle.kw_app.specs.Working.{answered_by}

-- what holds of each line holds of each line of a worker
pub part_all : (P : Line → Type 0) (n w : ℕ) (xs : List Line) → All P xs → All P (part n w xs)
unfolding part
part_all P n w xs all = All-filter (λ l. worker_of n l == w) P xs all

-- the worker of a line is one of as many
pub worker_below : (n : ℕ) (l : Line) → 0 < n → worker_of n l < n
worker_below n l some = omega arith

-- one line before the others
pub merge-cons : {A : Type 0} (n : ℕ) (q : ℕ → List A) (none : A) (before : List Line) (l : Line) (ls : List Line)
    → merge n q none before (l ∷ ls) ≡ get_or (q (worker_of n l)) (length (part n (worker_of n l) before)) none ∷ merge n q none (before ++ l ∷ []) ls
unfolding merge
merge-cons n q none before l ls = refl

-- as many as there are lines
pub length-merge : {A : Type 0} (n : ℕ) (q : ℕ → List A) (none : A) (before lines : List Line) → length (merge n q none before lines) ≡ length lines
length-merge n q none before [] = ap length (merge-nil n q none before)
length-merge n q none before (l ∷ ls) = ap length (merge-cons n q none before l ls) ∙ ap suc (length-merge n q none (before ++ l ∷ []) ls)

-- a line at the front of others stands in its worker's part after those before it
own_place : (n : ℕ) (before : List Line) (l : Line) (ls : List Line) → part n (worker_of n l) (before ++ l ∷ ls) ≡ part n (worker_of n l) before ++ l ∷ part n (worker_of n l) ls
own_place n before l ls =
    part-append n (worker_of n l) before (l ∷ ls) ∙ ap (λ x. part n (worker_of n l) before ++ x) (part-cons_in n (worker_of n l) l ls refl)

-- so the part is longer than that of the lines before it
place_inside : (n : ℕ) (before : List Line) (l : Line) (ls : List Line) → length (part n (worker_of n l) before) < length (part n (worker_of n l) (before ++ l ∷ ls))
place_inside n before l ls =
    let w : ℕ = worker_of n l in
    let long : length (part n w (before ++ l ∷ ls)) ≡ length (part n w before) + (1 + length (part n w ls)) =
    ap length (own_place n before l ls) ∙ (length-append (part n w before) (l ∷ part n w ls) ∙ omega arith) in
    omega arith

-- where each worker has more than its lines take, the lines take the front
pub merge_front : {A : Type 0} (n : ℕ) (q a c : ℕ → List A) (none : A) (before lines : List Line) → 0 < n → ((w : ℕ) → w < n → q w ≡ a w ++ c w) → ((w : ℕ) → w < n → length (a w) ≡ length (part n w (before ++ lines)))
    → merge n q none before lines ≡ merge n a none before lines
merge_front n q a c none before [] some is len = merge-nil n q none before ∙ sym (merge-nil n a none before)
merge_front n q a c none before (l ∷ ls) some is len =
    let w : ℕ = worker_of n l in
    let k : ℕ = length (part n w before) in
    let below : w < n = worker_below n l some in
    let inside = place_inside n before l ls in
    let here : get_or (q w) k none ≡ get_or (a w) k none = ap (λ x. get_or x k none) (is w below) ∙ get_or_append_left (a w) (c w) none k (let e = len w below in omega arith) in
    let more : before ++ l ∷ ls ≡ (before ++ l ∷ []) ++ ls = sym (append_assoc before (l ∷ []) ls) in
    merge-cons n q none before l ls ∙ (ap (λ x. x ∷ merge n q none (before ++ l ∷ []) ls) here
    ∙ (ap (λ x. get_or (a w) k none ∷ x) (merge_front n q a c none (before ++ l ∷ []) ls some is (λ u h. len u h ∙ ap (λ x. length (part n u x)) more)) ∙ sym (merge-cons n a none before l ls)))

-- and later lines take the rest
pub merge_rest : {A : Type 0} (n : ℕ) (q a c : ℕ → List A) (none : A) (pre before lines : List Line) → 0 < n → ((w : ℕ) → w < n → q w ≡ a w ++ c w) → ((w : ℕ) → w < n → length (a w) ≡ length (part n w pre))
    → merge n q none (pre ++ before) lines ≡ merge n c none before lines
merge_rest n q a c none pre before [] some is len = merge-nil n q none (pre ++ before) ∙ sym (merge-nil n c none before)
merge_rest n q a c none pre before (l ∷ ls) some is len =
    let w : ℕ = worker_of n l in
    let below : w < n = worker_below n l some in
    let place : length (part n w (pre ++ before)) ≡ length (a w) + length (part n w before) =
    ap length (part-append n w pre before) ∙ (length-append (part n w pre) (part n w before) ∙ ap (λ x. x + length (part n w before)) (sym (len w below))) in
    let here : get_or (q w) (length (part n w (pre ++ before))) none ≡ get_or (c w) (length (part n w before)) none =
    ap (λ x. get_or x (length (part n w (pre ++ before))) none) (is w below) ∙ (ap (λ k. get_or (a w ++ c w) k none) place ∙ get_or-append-add (a w) (c w) (length (part n w before)) none) in
    merge-cons n q none (pre ++ before) l ls ∙ (ap (λ x. x ∷ merge n q none ((pre ++ before) ++ l ∷ []) ls) here
    ∙ (ap (λ x. get_or (c w) (length (part n w before)) none ∷ x) (ap (λ x. merge n q none x ls) (append_assoc pre before (l ∷ [])) ∙ merge_rest n q a c none pre (before ++ l ∷ []) ls some is len) ∙ sym (merge-cons n c none before l ls)))

-- there are as many answers as lines
pub length-answered_by : (ls : List Line) (cs : List CallSeen) → length cs ≡ length ls → length (answered_by ls cs) ≡ length ls
length-answered_by [] cs same = refl
length-answered_by (l ∷ ls) [] same = absurd (omega arith)
length-answered_by (l ∷ ls) (c ∷ cs) same = ap suc (length-answered_by ls cs (omega arith))

-- the answer at a place is that to the line and the call there
answered_at : (ls : List Line) (cs : List CallSeen) (k : ℕ) (dl : Line) (dc : CallSeen) (da : Answer) → k < length ls → length cs ≡ length ls
    → get_or (answered_by ls cs) k da ≡ answer_for (get_or ls k dl).form (reply_of (get_or cs k dc))
answered_at [] cs k dl dc da lt same = absurd (omega arith)
answered_at (l ∷ ls) [] k dl dc da lt same = absurd (omega arith)
answered_at (l ∷ ls) (c ∷ cs) zero dl dc da lt same = refl
answered_at (l ∷ ls) (c ∷ cs) (suc k) dl dc da lt same = answered_at ls cs k dl dc da (omega arith) (omega arith)

-- the workers' answers, put together, are the answers to the calls, put together
merge-answered_by : (n : ℕ) (q : ℕ → List Answer) (made : ℕ → List CallSeen) (before lines : List Line) → 0 < n
    → ((w : ℕ) → w < n → q w ≡ answered_by (part n w (before ++ lines)) (made w)) → ((w : ℕ) → w < n → length (made w) ≡ length (part n w (before ++ lines)))
    → merge n q no_answer before lines ≡ answered_by lines (merge n made no_call before lines)
merge-answered_by n q made before [] some is len = merge-nil n q no_answer before ∙ ap (answered_by []) (sym (merge-nil n made no_call before))
merge-answered_by n q made before (l ∷ ls) some is len =
    let w : ℕ = worker_of n l in
    let k : ℕ = length (part n w before) in
    let below : w < n = worker_below n l some in
    let here : get_or (q w) k no_answer ≡ answer_for l.form (reply_of (get_or (made w) k no_call)) =
    ap (λ x. get_or x k no_answer) (is w below) ∙ (answered_at (part n w (before ++ l ∷ ls)) (made w) k l no_call no_answer (place_inside n before l ls) (len w below)
    ∙ ap (λ (x : Line). answer_for x.form (reply_of (get_or (made w) k no_call))) (ap (λ x. get_or x k l) (own_place n before l ls) ∙ get_or_at (part n w before) l (part n w ls) l k refl)) in
    let more : before ++ l ∷ ls ≡ (before ++ l ∷ []) ++ ls = sym (append_assoc before (l ∷ []) ls) in
    let rest = merge-answered_by n q made (before ++ l ∷ []) ls some (λ u h. is u h ∙ ap (λ x. answered_by (part n u x) (made u)) more) (λ u h. len u h ∙ ap (λ x. length (part n u x)) more) in
    merge-cons n q no_answer before l ls
    ∙ (ap (λ x. x ∷ merge n q no_answer (before ++ l ∷ []) ls) here ∙ (ap (λ x. answer_for l.form (reply_of (get_or (made w) k no_call)) ∷ x) rest
    ∙ ap (answered_by (l ∷ ls)) (sym (merge-cons n made no_call before l ls))))

-- so what is collected is what is printed for the calls
pub collected_is_printed : (n : ℕ) (q : ℕ → List Answer) (made : ℕ → List CallSeen) (lines : List Line) → 0 < n
    → ((w : ℕ) → w < n → q w ≡ answered_by (part n w lines) (made w)) → ((w : ℕ) → w < n → length (made w) ≡ length (part n w lines))
    → merge n q no_answer [] lines ≡ printed n made lines
collected_is_printed n q made lines some is len = merge-answered_by n q made [] lines some is len
