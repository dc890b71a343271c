-- The last update before a place.
use Rattle.std.proofs.Common.{ℕ, ◌≡◌, ◌⊎◌, inl, inr, Option, Some, None, sym, ◌∙◌, ap, subst, refl}
use Rattle.kw_core.specs.History.{History, attempt, called, Call, Put, Del, Get, Scan, Pin, ScanAt, Unpin}
use Rattle.kw_core.specs.HistoryLaws.{StandsUpTo, IsGapOf, HistoryLaws, Makes, shows}
use Rattle.kw_order.specs.Order.{IsPoint, Rank, Below, HasRank, of_put, put_rank, Separates, Updates, LastBelow, written, written_by}
use Rattle.kw_order.proofs.Keys.{cases_upto, point_of}
use Rattle.kw_order.proofs.Calls.{call_makes}
use Rattle.kw_order.proofs.Ranks.{puts_rise, below_not_above}
use Rattle.kw_order.proofs.Unique.{put_unique}

-- a put writes its value
makes_written : (c : Call) (k : ℕ) (v : Option ℕ) → Makes c k v → written c ≡ v
makes_written (Put key value) k v m = sym m.1
makes_written (Del key) k v m = sym m.1
makes_written (Get key) k v m = absurd m
makes_written (Scan from to) k v m = absurd m
makes_written Pin k v m = absurd m
makes_written (ScanAt from to) k v m = absurd m
makes_written Unpin k v m = absurd m

-- the rank of an update
update_rank : (h : History) → HistoryLaws h → (k z : ℕ) (s : Rank) (u : Updates h k z) → HasRank h z s → (b : ℕ) × IsPoint h u.put b × (put_rank h u.put b ≡ s)
update_rank h l k z s u r = let i = point_of h u.put u.of_key.is_put in (i.0, i.1, put_unique h l z u.put i.0 s u.is_its i.1 r)

-- what stands right behind a gap has the put of the gap as the last update before it
pub last_below : (h : History) → HistoryLaws h → (k : ℕ) (r : Rank) (o : Option ℕ) → IsGapOf h k o → Separates h k o r → (y : Option ℕ) × LastBelow h k r y × (written_by h y ≡ shows h o)
last_below h l k r None g s = (None, (λ z t u w b. none z t u w b), refl)
  where
    none : (z : ℕ) (t : Rank) → Updates h k z → HasRank h z t → Below t r → ⊥
    none z t u w b = let x = update_rank h l k z t u w in below_not_above t r b (subst (Below r) x.2 (s.above u.put x.0 u.of_key x.1 (λ e. e)))
last_below h l k r (Some p) g s = (
  Some y,
  record { updates = record { put = p; is_its = e; of_key = g }; rank = put_rank h p a.0; has_rank = of_put p a.0 e a.1; below = s.below p a.0 g a.1 (inl refl); last = last },
  makes_written (called h y).call _ _ (call_makes h l y p e),
)
  where
    y : ℕ
    y = (attempt h p).call

    e : (called h (attempt h p).call).put ≡ Some p
    e = l.has_put p g.is_put

    a : (a : ℕ) × IsPoint h p a
    a = point_of h p g.is_put

    last : (z : ℕ) (t : Rank) → Updates h k z → HasRank h z t → Below t r → (z ≡ (attempt h p).call) ⊎ Below t (put_rank h p a.0)
    last z t u w b = which (cases_upto h l k (Some p) u.put g u.of_key.is_put)
      where
        x : (b : ℕ) × IsPoint h u.put b × (put_rank h u.put b ≡ t)
        x = update_rank h l k z t u w

        which : StandsUpTo h (Some p) u.put ⊎ (StandsUpTo h (Some p) u.put → ⊥) → (z ≡ (attempt h p).call) ⊎ Below t (put_rank h p a.0)
        which (inl (inl same)) = inl (sym (l.is_put z u.put u.is_its).1 ∙ ap (λ q. (attempt h q).call) same)
        which (inl (inr before)) = inr (subst (λ t. Below t (put_rank h p a.0)) x.2 (puts_rise h l u.put p x.0 a.0 u.of_key.is_put g.is_put (u.of_key.key ∙ sym g.key) before x.1 a.1))
        which (inr n) = absurd (below_not_above t r b (subst (Below r) x.2 (s.above u.put x.0 u.of_key x.1 n)))
