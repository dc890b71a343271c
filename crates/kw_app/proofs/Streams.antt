-- Texts that are written in several pieces: what was appended piece by piece was appended as a
-- whole, and what was appended up to a fault is a prefix of the whole.
use Rattle.std.proofs.Common.{◌≡◌, ℕ, ◌+◌, ◌≤◌, min, Option, Some, None, List, ◌++◌, take, length, sym, ◌∙◌, ap, subst, arith, append_assoc}
use Rattle.std.proofs.lemmas.List.{take_min, take-append-le}
use Rattle.std.proofs.Math.Seq.{take-append-add}
use Rattle.std.specs.Prelude.{Result, Ok, Err, OnErr}
use Rattle.std.specs.Io.KnownBytes.{Appends}
use Rattle.kw_io.specs.Bytes.{AppendsPrefix}

-- two pieces, one after the other
pub appends_both : (a b c : Option (List ℕ)) (x y : List ℕ) → Appends a b x → Appends b c y → Appends a c (x ++ y)
appends_both None b c x y h k = tt
appends_both (Some xs) None c x y h k = absurd h
appends_both (Some xs) (Some ys) None x y h k = absurd k
appends_both (Some xs) (Some ys) (Some zs) x y h k = k ∙ (ap (λ l. l ++ y) h ∙ append_assoc xs x y)

-- a prefix of the first piece
pub prefix_of_first : (a b : Option (List ℕ)) (x y : List ℕ) → AppendsPrefix a b x → AppendsPrefix a b (x ++ y)
prefix_of_first a b x y (n, h) =
    let short : min n (length x) ≤ length x = omega arith in
    let e : take n x ≡ take (min n (length x)) (x ++ y) = sym (take-append-le (min n (length x)) x y short ∙ take_min n x) in
    (min n (length x), subst (λ (l : List ℕ). Appends a b l) e h)

-- the whole of the first piece, and a prefix of the second
pub prefix_of_second : (a b c : Option (List ℕ)) (x y : List ℕ) → Appends a b x → AppendsPrefix b c y → AppendsPrefix a c (x ++ y)
prefix_of_second a b c x y h (n, k) =
    (length x + n, subst (λ (l : List ℕ). Appends a c l) (sym (take-append-add x y n)) (appends_both a b c x (take n y) h k))

-- what holds at an error holds of what an error implies
pub on_error : {T E : Type 0} {P Q : Type 0} (r : Result T E) → (P → Q) → OnErr r P → OnErr r Q
on_error (Ok x) f h = tt
on_error (Err e) f h = f h

-- what holds anyway holds at an error
pub at_error : {T E : Type 0} {P : Type 0} (r : Result T E) → P → OnErr r P
at_error (Ok x) h = tt
at_error (Err e) h = h
