-- The value of a key after calls: the last update of the key decides it.
use Rattle.std.proofs.Common.{ℕ, suc, Bool, true, false, ◌≡◌, ◌≢◌, ◌≤◌, cond, ◌&&◌, not, List, [], ◌∷◌, None, refl, ap, ◌∙◌, arith, All}
use Rattle.std.proofs.lemmas.Bool.Decides.{nat_tests}
use Rattle.kw_model.specs.Map.{Pairs, IsRising, value_of, after}
use Rattle.kw_model.specs.Legal.{may_refuse, went, went_all, updates, is_update, shown, last_shown}
use Rattle.kw_model.specs.declared.call.Call.{Call}
use Rattle.kw_model.specs.declared.call.Call.TheVariants.{Put, Del, Get, Scan, Pin, ScanAt, Unpin}
use Rattle.kw_model.specs.declared.call.Reply.{Reply}
use Rattle.kw_model.proofs.Pairs.{value-put, value-without, rises-put, rises-without}

-- one call that the map answered
pub value-after : (k : ℕ) (m : Pairs) (c : Call) → value_of k (after m c) ≡ cond (updates k c) (shown c) (value_of k m)
value-after k m (Put q v) = value-put k q v m
value-after k m (Del q) = value-without k q m
value-after k m (Get q) = refl
value-after k m (Scan a b) = refl
value-after k m Pin = refl
value-after k m (ScanAt a b) = refl
value-after k m Unpin = refl

-- one call with its reply, which may be a refusal
pub value-went : (k : ℕ) (m : Pairs) (c : Call) (r : Reply) → value_of k (went m c r) ≡ cond (is_update k c r) (shown c) (value_of k m)
value-went k m c r = go (may_refuse c r)
  where
    go : (b : Bool) → value_of k (cond b m (after m c)) ≡ cond (not b && updates k c) (shown c) (value_of k m)
    go true = refl
    go false = value-after k m c

-- all calls of a list with their replies: the last update of the key that was not refused decides
pub value-went_all : (k : ℕ) (m : Pairs) (cs : List Call) (rs : List Reply) → value_of k (went_all m cs rs) ≡ last_shown k cs rs (value_of k m)
value-went_all k m [] rs = refl
value-went_all k m (c ∷ cs) [] = refl
value-went_all k m (c ∷ cs) (r ∷ rs) = value-went_all k (went m c r) cs rs ∙ ap (last_shown k cs rs) (value-went k m c r)

-- a call keeps the order
pub rises-after : (m : Pairs) (c : Call) → IsRising m → IsRising (after m c)
rises-after m (Put k v) h = rises-put 0 k v m (omega arith) h
rises-after m (Del k) h = rises-without 0 k m h
rises-after m (Get k) h = h
rises-after m (Scan a b) h = h
rises-after m Pin h = h
rises-after m (ScanAt a b) h = h
rises-after m Unpin h = h

-- a call with its reply keeps the order
pub rises-went : (m : Pairs) (c : Call) (r : Reply) → IsRising m → IsRising (went m c r)
rises-went m c r h = go (may_refuse c r)
  where
    go : (b : Bool) → IsRising (cond b m (after m c))
    go true = h
    go false = rises-after m c h

-- where all keys lie in a range, none outside has a value
pub none_outside : (k a b : ℕ) (m : Pairs) → All (λ p. (a ≤ p.0) × (p.0 ≤ b)) m → (a ≤ k → k ≤ b → ⊥) → value_of k m ≡ None
none_outside k a b [] h o = refl
none_outside k a b (p ∷ m) h o =
    let i = none_outside k a b m (λ j d l. h (suc j) d (omega arith)) o in
    let first : (a ≤ p.0) × (p.0 ≤ b) = h 0 p (omega arith) in
    let apart : k ≢ p.0 = λ e. o (omega arith) (omega arith) in
    grind (arith, nat_tests)
