-- What a scan gives, and where a get stands.
use Rattle.kw_model.specs.Map.{value_of}
use Rattle.std.proofs.Common.{ℕ, suc, ◌≡◌, ◌+◌, ◌<◌, ◌⊎◌, inl, inr, List, [], ◌∷◌, Some, None, true, false, arith, sym, ◌∙◌, ap, subst, refl, ◌==◌}
use Rattle.std.proofs.lemmas.Bool.{cases_Bool}
use Rattle.std.proofs.lemmas.Bool.Decides.{nat_tests}
use Rattle.kw_core.specs.History.{History, attempt, called, Get, Reply}
use Rattle.kw_core.specs.HistoryLaws.{IsPutOf, HistoryLaws, EndsWith, RisesWithin}
use Rattle.kw_order.specs.Order.{IsPoint, IsGap, Rank, Below, HasRank, of_put, behind, at_first, of_scan, of_pin, of_first, put_rank}
use Rattle.kw_order.specs.OrderLaws.{IsGetBehind}
use Rattle.kw_order.proofs.PutPoints.{times}
use Rattle.kw_order.proofs.Keys.{same_add}
use Rattle.kw_order.proofs.Calls.{gap_facts}

-- no key outside the range
pub none_below : (key from to : ℕ) (pairs : List (ℕ × ℕ)) → RisesWithin from to pairs → (key < from) ⊎ (to < key) → value_of key pairs ≡ None
none_below key from to [] r w = refl
none_below key from to (p ∷ ps) r w = which (cases_Bool (key == p.0)) (none_below key (suc p.0) to ps r.2 (rest w))
  where
    rest : (key < from) ⊎ (to < key) → (key < suc p.0) ⊎ (to < key)
    rest (inl x) = inl (omega (arith, x, r.0))
    rest (inr x) = inr x

    which : ((key == p.0) ≡ true) ⊎ ((key == p.0) ≡ false) → value_of key ps ≡ None → value_of key (p ∷ ps) ≡ None
    which (inl t) n = let s : p.0 ≡ key = grind (arith, nat_tests) in absurd (omega (arith, s, w, r.0, r.1))
    which (inr f) n = rw f n

-- a get stands directly behind the put of its gap
pub stands_directly : (h : History) → HistoryLaws h → (x key at : ℕ) (r : Reply) (p a : ℕ) → EndsWith h x (Get key) at r → IsGap h x key r (Some p) → IsPoint h p a → (called h x).first < a →
    (z : ℕ) (s : Rank) → HasRank h z s → Below (put_rank h p a) s → Below s (record { at = a; add = (attempt h p).add; tail = (called h x).first + 1 }) → IsGetBehind h key p (called h x).first z
stands_directly h l x key at r p a e g i y z s (of_put q b f j) u v = absurd (omega (arith, u, v))
stands_directly h l x key at r p a e g i y z s (behind key' at' reply' q b f k j w) u v = record { at = at'; reply = reply'; ended = (f.0 ∙ ap Get keys, f.1); gap = subst (λ n. IsGap h z n reply' (Some p)) keys (subst (λ n. IsGap h z key' reply' (Some n)) same k); first = omega (arith, u, v) }
  where
    m : IsPutOf h key p
    m = (gap_facts h l x key at r (Some p) e g).gap

    n : IsPutOf h key' q
    n = (gap_facts h l z key' at' reply' (Some q) f k).gap

    same : q ≡ p
    same = same_add h l q p n.is_put m.is_put (omega (arith, u, v))

    keys : key' ≡ key
    keys = sym n.key ∙ ap (λ n. (attempt h n).key) same ∙ m.key
stands_directly h l x key at r p a e g i y z s (at_first key' at' reply' o f k w) u v = absurd (omega (arith, u, v, (times h l p (gap_facts h l x key at r (Some p) e g).gap.is_put).begun))
stands_directly h l x key at r p a e g i y z s (of_scan from to at' pairs d f k) u v = absurd (omega (arith, u, v, (times h l p (gap_facts h l x key at r (Some p) e g).gap.is_put).begun))
stands_directly h l x key at r p a e g i y z s (of_pin at' d f k) u v = absurd (omega (arith, u, v, (times h l p (gap_facts h l x key at r (Some p) e g).gap.is_put).begun))
stands_directly h l x key at r p a e g i y z s (of_first call at' reply' f k) u v = absurd (omega (arith, u, v, (times h l p (gap_facts h l x key at r (Some p) e g).gap.is_put).begun))
