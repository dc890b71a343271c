-- The point of a put from that of the next put of its key.
use Rattle.std.proofs.Common.{ℕ, ◌≡◌, ◌<◌, ◌≤◌, ◌⊎◌, inl, inr, Some, arith, sym, ◌∙◌, ap, min, refl}
use Rattle.std.proofs.lemmas.Bool.{cases_lt}
use Rattle.kw_core.specs.History.{History, attempt}
use Rattle.kw_core.specs.HistoryLaws.{HistoryLaws, IsPutOf, StandsBefore, StandsUpTo}
use Rattle.kw_order.specs.Order.{IsMate, IsPoint, IsNext}
use Rattle.kw_order.proofs.PutPoints.{own_mate}
use Rattle.kw_order.proofs.Keys.{IsAfter, past_gap, cases_upto}

-- a mate of p is p, or stands after it
mate_cases : (h : History) → HistoryLaws h → (key p u : ℕ) → IsPutOf h key p → IsMate h p u → (u ≡ p) ⊎ IsAfter h key (Some p) u
mate_cases h l key p u s m = which (cases_upto h l key (Some p) u s m.is_put)
  where
    which : StandsUpTo h (Some p) u ⊎ (StandsUpTo h (Some p) u → ⊥) → (u ≡ p) ⊎ IsAfter h key (Some p) u
    which (inl (inl e)) = inl e
    which (inl (inr b)) = absurd (omega (arith, b, m.version, m.add))
    which (inr n) = inr (record { put = record { is_put = m.is_put; key = m.key ∙ s.key }; after = n })

-- the point of the last put of its key is its own load
pub point_last : (h : History) → HistoryLaws h → (key p : ℕ) → IsPutOf h key p → ((q : ℕ) → IsAfter h key (Some p) q → ⊥) → IsPoint h p (attempt h p).load
point_last h l key p s n = record { mate = p; is_mate = own_mate h p s.is_put; load = refl; first = λ u m. which u (mate_cases h l key p u s m) }
  where
    which : (u : ℕ) → (u ≡ p) ⊎ IsAfter h key (Some p) u → (attempt h p).load ≤ (attempt h u).load
    which u (inl e) = omega (arith, ap (λ q. (attempt h q).load) e)
    which u (inr a) = absurd (n u a)

-- and so is that of a put whose next one has another version
pub point_alone : (h : History) → HistoryLaws h → (key p q : ℕ) → IsPutOf h key p → IsNext h key (Some p) q → (attempt h p).version < (attempt h q).version → IsPoint h p (attempt h p).load
point_alone h l key p q s n v = record { mate = p; is_mate = own_mate h p s.is_put; load = refl; first = λ u m. which u m (mate_cases h l key p u s m) }
  where
    which : (u : ℕ) → IsMate h p u → (u ≡ p) ⊎ IsAfter h key (Some p) u → (attempt h p).load ≤ (attempt h u).load
    which u m (inl e) = omega (arith, ap (λ q. (attempt h q).load) e)
    which u m (inr a) = at (n.first u a.put a.after)
      where
        at : (u ≡ q) ⊎ StandsBefore h q u → (attempt h p).load ≤ (attempt h u).load
        at (inl e) = absurd (omega (arith, v, m.version, ap (λ x. (attempt h x).version) e))
        at (inr b) = absurd (omega (arith, v, m.version, b))

-- where the next put has the same version, it is the lesser of the own load and the point of the
-- next put
pub point_with_next : (h : History) → HistoryLaws h → (key p q b : ℕ) → IsPutOf h key p → IsNext h key (Some p) q → (attempt h q).version ≡ (attempt h p).version → IsPoint h q b → IsPoint h p (min (attempt h p).load b)
point_with_next h l key p q b s n e i = which (cases_lt b (attempt h p).load)
  where
    order : StandsBefore h p q
    order = past_gap h l p q s.is_put n.is_put.is_put n.after

    first : (u : ℕ) → IsMate h p u → (u ≡ p) ⊎ IsAfter h key (Some p) u → min (attempt h p).load b ≤ (attempt h u).load
    first u m (inl f) = omega (arith, ap (λ q. (attempt h q).load) f)
    first u m (inr a) = at (n.first u a.put a.after)
      where
        at : (u ≡ q) ⊎ StandsBefore h q u → min (attempt h p).load b ≤ (attempt h u).load
        at (inl f) = let x = i.first q (own_mate h q n.is_put.is_put) in omega (arith, x, ap (λ q. (attempt h q).load) f)
        at (inr f) = let x = i.first u (record { is_put = m.is_put; key = a.put.key ∙ sym n.is_put.key; version = m.version ∙ sym e; add = omega (arith, f, m.version, e) }) in omega (arith, x)

    which : (b < (attempt h p).load) ⊎ ((attempt h p).load ≤ b) → IsPoint h p (min (attempt h p).load b)
    which (inr x) = record { mate = p; is_mate = own_mate h p s.is_put; load = omega arith; first = λ u m. first u m (mate_cases h l key p u s m) }
    which (inl x) = let m = i.is_mate in record {
      mate = i.mate;
      is_mate = record { is_put = m.is_put; key = m.key ∙ n.is_put.key ∙ sym s.key; version = m.version ∙ e; add = omega (arith, m.add, order, e) };
      load = omega (arith, i.load, x);
      first = λ u m. first u m (mate_cases h l key p u s m);
    }
