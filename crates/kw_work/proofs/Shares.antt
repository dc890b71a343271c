-- The lines of one worker: how a part grows with the lines.
use Rattle.std.proofs.Common.{◌≡◌, ◌≢◌, ℕ, ◌+◌, ◌<◌, ◌==◌, cond, List, [], ◌∷◌, ◌++◌, length, take, drop, get_or, Some, slice_get, refl, ap, sym, ◌∙◌, arith, append-nil, length-append, eq-eqb, ne_eqb}
use Rattle.std.proofs.lemmas.List.{take-append-drop, length_push}
use Rattle.std.proofs.lemmas.List.Elements.{filter-append, filter_more}
use Rattle.std.proofs.lemmas.Option.{get_or_from_slice_get, slice_get_within}
use Rattle.kw_work.specs.declared.line.Line.{Line}
use Rattle.kw_work.specs.Dealing.{worker_of, part}

-- no lines have no part
pub part-nil : (n w : ℕ) → part n w [] ≡ []
unfolding part
part-nil n w = refl

-- the part of two lists of lines is that of the one and then that of the other
pub part-append : (n w : ℕ) (xs ys : List Line) → part n w (xs ++ ys) ≡ part n w xs ++ part n w ys
unfolding part
part-append n w xs ys = filter-append (λ l. worker_of n l == w) xs ys

-- the part of one line more
pub part_more : (n w : ℕ) (xs : List Line) (i : ℕ) (d : Line) → i < length xs
    → part n w (take (i + 1) xs) ≡ part n w (take i xs) ++ cond (worker_of n (get_or xs i d) == w) (get_or xs i d ∷ []) []
unfolding part
part_more n w xs i d lt = filter_more (λ l. worker_of n l == w) xs i d lt

-- a line of the worker is one more in its part
pub part_in : (n w : ℕ) (xs ls : List Line) (i : ℕ) (d : Line) → i < length xs → worker_of n (get_or xs i d) ≡ w → ls ≡ part n w (take i xs) → ls ++ get_or xs i d ∷ [] ≡ part n w (take (i + 1) xs)
part_in n w xs ls i d lt is old =
    ap (λ x. x ++ get_or xs i d ∷ []) old
    ∙ (ap (λ b. part n w (take i xs) ++ cond b (get_or xs i d ∷ []) []) (sym (eq-eqb (worker_of n (get_or xs i d)) w is)) ∙ sym (part_more n w xs i d lt))

-- a line of another worker is none
pub part_out : (n w : ℕ) (xs ls : List Line) (i : ℕ) (d : Line) → i < length xs → worker_of n (get_or xs i d) ≢ w → ls ≡ part n w (take i xs) → ls ≡ part n w (take (i + 1) xs)
part_out n w xs ls i d lt ne old =
    old ∙ (sym (append-nil (part n w (take i xs)))
    ∙ (ap (λ b. part n w (take i xs) ++ cond b (get_or xs i d ∷ []) []) (sym (ne_eqb (worker_of n (get_or xs i d)) w ne)) ∙ sym (part_more n w xs i d lt)))

-- a line of the worker, read at its place, is one more in its part
pub line_in : (n w : ℕ) (xs ls : List Line) (i : ℕ) (l : Line) → slice_get xs i ≡ Some l → worker_of n l ≡ w → ls ≡ part n w (take i xs) → ls ++ l ∷ [] ≡ part n w (take (i + 1) xs)
line_in n w xs ls i l at is old =
    let e : get_or xs i l ≡ l = get_or_from_slice_get xs i l l at in
    ap (λ x. ls ++ x ∷ []) (sym e) ∙ part_in n w xs ls i l (slice_get_within xs i l at) (ap (worker_of n) e ∙ is) old

-- and one of another worker is none
pub line_out : (n w : ℕ) (xs ls : List Line) (i : ℕ) (l : Line) → slice_get xs i ≡ Some l → worker_of n l ≢ w → ls ≡ part n w (take i xs) → ls ≡ part n w (take (i + 1) xs)
line_out n w xs ls i l at ne old = part_out n w xs ls i l (slice_get_within xs i l at) (λ is. ne (ap (worker_of n) (sym (get_or_from_slice_get xs i l l at)) ∙ is)) old

-- a worker's line has its place in the worker's part
pub in_part : (n w : ℕ) (lines : List Line) (i : ℕ) (d : Line) → i < length lines → worker_of n (get_or lines i d) ≡ w → length (part n w (take i lines)) < length (part n w lines)
in_part n w lines i d lt is =
    let l : Line = get_or lines i d in
    let first : part n w (take i lines) ++ l ∷ [] ≡ part n w (take (i + 1) lines) = part_in n w lines (part n w (take i lines)) i d lt is refl in
    let whole : part n w lines ≡ part n w (take (i + 1) lines) ++ part n w (drop (i + 1) lines) =
    ap (part n w) (sym (take-append-drop (i + 1) lines)) ∙ part-append n w (take (i + 1) lines) (drop (i + 1) lines) in
    let a : length (part n w lines) ≡ length (part n w (take (i + 1) lines)) + length (part n w (drop (i + 1) lines)) = ap length whole ∙ length-append (part n w (take (i + 1) lines)) (part n w (drop (i + 1) lines)) in
    let b : length (part n w (take i lines)) + 1 ≡ length (part n w (take (i + 1) lines)) = sym (length_push (part n w (take i lines)) l) ∙ ap length first in
    omega arith
