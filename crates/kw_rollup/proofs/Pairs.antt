-- Pairs that are put one after the other.
use Rattle.std.proofs.Common.{ℕ, zero, suc, false, ◌≡◌, ◌<◌, ◌≤◌, ◌+◌, [], ◌∷◌, length, get_or, take, cond, eqb, ltb, refl, ap, ◌∙◌, arith, add-one}
use Rattle.std.proofs.lemmas.Bool.{le-ltb, ne_eqb}
use Rattle.kw_model.specs.Map.{Pairs, RisesFrom, IsRising, put}

get_above : (low i : ℕ) (m : Pairs) (d : ℕ × ℕ) → RisesFrom low m → i < length m → low ≤ (get_or m i d).0
get_above low i [] d r l = absurd (omega (arith, l))
get_above low zero (p ∷ m) d r l = r.0
get_above low (suc i) (p ∷ m) d r l = let a = get_above (suc p.0) i m d r.1 (omega (arith, l)) in let b = r.0 in omega (arith, a, b)

-- the next pair of a rising list comes behind those before it
next : (low i : ℕ) (m : Pairs) (d : ℕ × ℕ) → RisesFrom low m → i < length m → put (get_or m i d).0 (get_or m i d).1 (take i m) ≡ take (suc i) m
next low i [] d r l = absurd (omega (arith, l))
next low zero (p ∷ m) d r l = refl
next low (suc i) (p ∷ m) d r l =
    let k = (get_or m i d).0 in
    let v = (get_or m i d).1 in
    let a = get_above (suc p.0) i m d r.1 (omega (arith, l)) in
    let not_below : ltb k p.0 ≡ false = le-ltb k p.0 (omega (arith, a)) in
    let not_here : eqb k p.0 ≡ false = ne_eqb k p.0 (λ e. absurd (omega (arith, a, e))) in
    let i_h : put k v (take i m) ≡ take (suc i) m = next (suc p.0) i m d r.1 (omega (arith, l)) in
    ap (λ b. cond b ((k, v) ∷ p ∷ take i m) (cond (eqb k p.0) ((k, v) ∷ take i m) (p ∷ put k v (take i m)))) not_below
    ∙ (ap (λ b. cond b ((k, v) ∷ take i m) (p ∷ put k v (take i m))) not_here ∙ ap (λ t. p ∷ t) i_h)

pub put_next : (i : ℕ) (m : Pairs) (d : ℕ × ℕ) → IsRising m → i < length m → put (get_or m i d).0 (get_or m i d).1 (take i m) ≡ take (i + 1) m
put_next i m d r l = rw add-one (next 0 i m d r l)

-- one turn of a loop that puts the pairs of a rising list
pub put_turn : (i : ℕ) (m : Pairs) (d : ℕ × ℕ) (old new : Pairs) → IsRising m → i < length m → old ≡ take i m → new ≡ put (get_or m i d).0 (get_or m i d).1 old → new ≡ take (i + 1) m
put_turn i m d old new r l o n = n ∙ (ap (λ q. put (get_or m i d).0 (get_or m i d).1 q) o ∙ put_next i m d r l)

-- and its end
pub take_whole : (i : ℕ) (m : Pairs) → length m ≤ i → take i m ≡ m
take_whole zero [] h = refl
take_whole zero (p ∷ m) h = absurd (omega (arith, h))
take_whole (suc i) [] h = refl
take_whole (suc i) (p ∷ m) h = ap (λ t. p ∷ t) (take_whole i m (omega (arith, h)))
