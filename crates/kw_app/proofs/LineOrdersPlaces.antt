-- The place of a line in its worker's part.
use Rattle.std.proofs.Common.{ℕ, zero, suc, ◌≡◌, ◌+◌, ◌==◌, ◌<◌, ◌≤◌, List, [], ◌∷◌, ◌++◌, length, map, take, drop, get_or, Some, refl, sym, ap, ◌∙◌, arith, length-append, append-nil, append_assoc, eq-eqb}
use Rattle.std.specs.List.{slice_get}
use Rattle.std.proofs.lemmas.Bool.Decides.{Decides-eqb}
use Rattle.std.proofs.lemmas.List.{take-append-drop}
use Rattle.std.proofs.lemmas.Option.{same_Some}
use Rattle.kw_order.proofs.Turns.{filtered_at, index_of, counted_more, counted_once}
use Rattle.kw_work.specs.declared.line.Line.{Line}
use Rattle.kw_work.specs.Dealing.{worker_of, part}
use Rattle.kw_work.specs.Collecting.{merge}
use Rattle.kw_work.proofs.Shares.{part-append}

-- two lists in which the same is read have, at each place, elements of which the same is read
pub across : {X Y Z : Type 0} (f : X → Z) (g : Y → Z) (xs : List X) (ys : List Y) (k : ℕ) (y : Y) → map f xs ≡ map g ys → slice_get ys k ≡ Some y → (x : X) × (slice_get xs k ≡ Some x) × (f x ≡ g y)
across f g xs [] k y e h = absurd (cc)
across f g [] (z ∷ ys) k y e h = absurd (cc)
across f g (x ∷ xs) (z ∷ ys) zero y e h = let w : f x ≡ g z = cc in (x, refl, w ∙ ap g (same_Some z y h))
across f g (x ∷ xs) (z ∷ ys) (suc k) y e h = let w : map f xs ≡ map g ys = cc in across f g xs ys k y w h

-- how many lines of worker w stand before line i
abbrev pub own_before : ℕ → ℕ → List Line → ℕ → ℕ
own_before n w lines i = length (part n w (take i lines))

-- a line stands in its worker's part, behind the worker's lines before it
pub in_part : (n i : ℕ) (lines : List Line) (l : Line) → slice_get lines i ≡ Some l → slice_get (part n (worker_of n l) lines) (own_before n (worker_of n l) lines i) ≡ Some l
unfolding part
in_part n i lines l e = filtered_at (λ m. worker_of n m == worker_of n l) lines i l e (eq-eqb (worker_of n l) (worker_of n l) refl)

-- the line that stands at a place of a worker's part
pub record IsShare (n w k : ℕ) (lines : List Line) (l : Line) : Type 0 where
  pub place : ℕ
  pub here : slice_get lines place ≡ Some l
  pub worker : worker_of n l ≡ w
  pub before : own_before n w lines place ≡ k

-- each line of a part is one of the lines
pub share_of : (n w k : ℕ) (lines : List Line) (l : Line) → slice_get (part n w lines) k ≡ Some l → IsShare n w k lines l
unfolding part
share_of n w k lines l e =
    let p = index_of (λ m. worker_of n m == w) lines k l e in
    record { place = p.place; here = p.here; worker = (Decides-eqb (worker_of n l) w).0 p.is_true; before = p.before }

-- a later line of a worker has a later place in its part
pub own_before_more : (n w i j : ℕ) (lines : List Line) (l : Line) → i < j → slice_get lines i ≡ Some l → worker_of n l ≡ w → own_before n w lines i < own_before n w lines j
unfolding part
own_before_more n w i j lines l lt e is = counted_more (λ m. worker_of n m == w) lines i j l lt e (eq-eqb (worker_of n l) w is)

-- and no two lines of a worker have the same
pub own_before_once : (n w i j : ℕ) (lines : List Line) (l m : Line) → slice_get lines i ≡ Some l → slice_get lines j ≡ Some m → worker_of n l ≡ w → worker_of n m ≡ w → own_before n w lines i ≡ own_before n w lines j → i ≡ j
unfolding part
own_before_once n w i j lines l m e f a b same = counted_once (λ q. worker_of n q == w) lines i j l m e (eq-eqb (worker_of n l) w a) f (eq-eqb (worker_of n m) w b) same

-- the first lines of the first lines
take_less : {X : Type 0} (m j : ℕ) (xs : List X) → m ≤ j → take m (take j xs) ≡ take m xs
take_less zero j xs le = refl
take_less (suc m) zero xs le = absurd (omega arith)
take_less (suc m) (suc j) [] le = refl
take_less (suc m) (suc j) (x ∷ xs) le = ap (λ ys. x ∷ ys) (take_less m j xs (omega arith))

-- more lines have no fewer of a worker
pub own_before_grows : (n w m j : ℕ) (lines : List Line) → m ≤ j → own_before n w lines m ≤ own_before n w lines j
own_before_grows n w m j lines le =
    let whole : part n w (take j lines) ≡ part n w (take m lines) ++ part n w (drop m (take j lines)) =
    ap (part n w) (sym (take-append-drop m (take j lines))) ∙ (part-append n w (take m (take j lines)) (drop m (take j lines)) ∙ ap (λ x. part n w x ++ part n w (drop m (take j lines))) (take_less m j lines le)) in
    let e : length (part n w (take j lines)) ≡ length (part n w (take m lines)) + length (part n w (drop m (take j lines))) =
    ap length whole ∙ length-append (part n w (take m lines)) (part n w (drop m (take j lines))) in
    omega arith

-- what is merged for a line behind others is what its worker has at its place
merged_behind : {A : Type 0} (n : ℕ) (has : ℕ → List A) (none : A) (before lines : List Line) (i : ℕ) (l : Line) → slice_get lines i ≡ Some l
    → slice_get (merge n has none before lines) i ≡ Some (get_or (has (worker_of n l)) (length (part n (worker_of n l) (before ++ take i lines))) none)
unfolding merge
merged_behind n has none before [] i l e = absurd (cc)
merged_behind n has none before (m ∷ ms) zero l e =
    ap (λ (q : Line). Some (get_or (has (worker_of n q)) (length (part n (worker_of n q) before)) none)) (same_line m l e)
    ∙ ap (λ qs. Some (get_or (has (worker_of n l)) (length (part n (worker_of n l) qs)) none)) (sym (append-nil before))
  where
    same_line : (m l : Line) → Some m ≡ Some l → m ≡ l
    same_line m l e = cc
merged_behind n has none before (m ∷ ms) (suc i) l e =
    merged_behind n has none (before ++ m ∷ []) ms i l e
    ∙ ap (λ qs. Some (get_or (has (worker_of n l)) (length (part n (worker_of n l) qs)) none)) (append_assoc before (m ∷ []) (take i ms))

-- what is merged for a line
pub merged_at : {A : Type 0} (n : ℕ) (has : ℕ → List A) (none : A) (lines : List Line) (i : ℕ) (l : Line) → slice_get lines i ≡ Some l
    → slice_get (merge n has none [] lines) i ≡ Some (get_or (has (worker_of n l)) (own_before n (worker_of n l) lines i) none)
merged_at n has none lines i l e = merged_behind n has none [] lines i l e
