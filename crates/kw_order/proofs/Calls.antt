-- What is known of a call by itself.
use Rattle.std.proofs.Common.{ℕ, ◌≡◌, ◌≢◌, ◌<◌, ◌≤◌, ◌⊎◌, inl, inr, Option, Some, None, arith, sym, ◌∙◌, ap, subst, length, refl}
use Rattle.std.proofs.lemmas.Bool.{cases_lt}
use Rattle.std.proofs.lemmas.List.{get_or_past}
use Rattle.kw_core.specs.History.{History, attempt, called, no_call, Get, Scan, Pin, ScanAt, Unpin, Reply, Done, Value, Absent, Pairs, NoRows, Spent, Stopped, Held, NotPinned, Stands}
use Rattle.kw_core.specs.declared.history.CallLog.{CallLog}
use Rattle.kw_core.specs.declared.history.End.{End}
use Rattle.kw_words.specs.declared.kind.Kind.TheVariants.{LoadEpoch}
use Rattle.kw_core.specs.HistoryLaws.{IsPut, IsPutOf, StandsBefore, shows, IsGapOf, HistoryLaws, EndsWith, Got, answer_of, Makes}
use Rattle.kw_order.specs.Order.{IsPoint, Serves, GapBefore, IsGap}
use Rattle.kw_order.proofs.PutPoints.{times, timed, point_order, point_placed, point_unique, load_not_begin}
use Rattle.kw_order.proofs.Keys.{StandsAtMost, upto_from, before_cases, point_of}
use Rattle.kw_order.proofs.Gaps.{Clears, get_clears, serves_from, serves_clears}

-- a call that ended is one of the list
pub ended_within : (h : History) (x : ℕ) (e : End) → (called h x).end ≡ Some e → x < length h.calls
unfolding called no_call
ended_within h x e s = which (cases_lt x (length h.calls))
  where
    which : (x < length h.calls) ⊎ (length h.calls ≤ x) → x < length h.calls
    which (inl y) = y
    which (inr past) = let f : called h x ≡ no_call = get_or_past h.calls x no_call past in let y : None ≡ Some e = sym (ap (λ (q : CallLog). q.end) f) ∙ s in absurd (cc)

-- the call of a put
pub call_makes : (h : History) → HistoryLaws h → (x p : ℕ) → (called h x).put ≡ Some p → Makes (called h x).call (attempt h p).key (attempt h p).value
call_makes h l x p e = let y = l.is_put x p e in subst (λ q. Makes (called h q).call (attempt h p).key (attempt h p).value) y.1 (times h l p y.0).makes

-- a get has no put
pub get_no_put : (h : History) → HistoryLaws h → (x p key : ℕ) → (called h x).call ≡ Get key → (called h x).put ≡ Some p → ⊥
get_no_put h l x p key c e = let m = call_makes h l x p e in subst (λ q. Makes q (attempt h p).key (attempt h p).value) c m

-- and a scan
pub scan_no_put : (h : History) → HistoryLaws h → (x p from to : ℕ) → (called h x).call ≡ Scan from to → (called h x).put ≡ Some p → ⊥
scan_no_put h l x p from to c e = let m = call_makes h l x p e in subst (λ q. Makes q (attempt h p).key (attempt h p).value) c m

-- and a pin
pub pin_no_put : (h : History) → HistoryLaws h → (x p : ℕ) → (called h x).call ≡ Pin → (called h x).put ≡ Some p → ⊥
pin_no_put h l x p c e = let m = call_makes h l x p e in subst (λ q. Makes q (attempt h p).key (attempt h p).value) c m

-- nor has a scan of a snapshot, or an unpin
pub snapshot_no_put : (h : History) → HistoryLaws h → (x p from to : ℕ) → (called h x).call ≡ ScanAt from to → (called h x).put ≡ Some p → ⊥
snapshot_no_put h l x p from to c e = let m = call_makes h l x p e in subst (λ q. Makes q (attempt h p).key (attempt h p).value) c m

pub unpin_no_put : (h : History) → HistoryLaws h → (x p : ℕ) → (called h x).call ≡ Unpin → (called h x).put ≡ Some p → ⊥
unpin_no_put h l x p c e = let m = call_makes h l x p e in subst (λ q. Makes q (attempt h p).key (attempt h p).value) c m

-- the point of a put is not the first event of a call
pub point_not_first : (h : History) → HistoryLaws h → (p a x : ℕ) (e : End) → IsPut h p → IsPoint h p a → (called h x).end ≡ Some e → a ≢ (called h x).first
point_not_first h l p a x e s i d q = let b = l.begins x (ended_within h x e d) in
    load_not_begin h a _ _ (point_placed h l p a s i).stands (subst (λ y. Stands h y LoadEpoch b.0) (sym q) b.1)

-- points follow the order of the puts of a key, equality included
pub point_at_most : (h : History) → HistoryLaws h → (p q a b : ℕ) → IsPut h p → IsPut h q → (attempt h p).key ≡ (attempt h q).key → StandsAtMost h p q → IsPoint h p a → IsPoint h q b → a ≤ b
point_at_most h l p q a b s t k x i j = which (upto_from h l q p t s x)
  where
    which : (p ≡ q) ⊎ StandsBefore h p q → a ≤ b
    which (inl e) = let y = point_unique h q a b (subst (λ p. IsPoint h p a) e i) j in omega (arith, y)
    which (inr y) = (point_order h l p q a b s t k y i j).0

-- what is known of the gap of a get
pub record GapFacts (h : History) (x key at : ℕ) (r : Reply) (g : Option ℕ) : Type 0 where
  pub gap : IsGapOf h key g
  pub clears : Clears h key (called h x).first g
  pub reply : r ≡ answer_of (shows h g)
  pub end : (p a : ℕ) → g ≡ Some p → IsPoint h p a → a < at

-- a gap of a get that found nothing shows nothing
pub absent_shows : (v : Option ℕ) → Absent ≡ answer_of v → v ≡ None
absent_shows None e = refl
absent_shows (Some v) e = let y : Absent ≡ Value v = e in cc

-- the gap that a get knew
pub known_facts : (h : History) → HistoryLaws h → (x key at : ℕ) (reply : Reply) (g : Got h x key at reply) → GapFacts h x key at reply g.gap
known_facts h l x key at reply g = record {
  gap = g.knows.gap;
  clears = get_clears h l key (called h x).first reply g.gap g.knows;
  reply = g.knows.reply;
  end = λ p a e i. let s : IsGapOf h key (Some p) = subst (IsGapOf h key) e g.knows.gap in
      omega (arith, (point_placed h l p a s.is_put i).load, timed h l p s.is_put, g.before_end p e);
}

-- the gap at which a get stands
pub gap_facts : (h : History) → HistoryLaws h → (x key at : ℕ) (reply : Reply) (g : Option ℕ) → EndsWith h x (Get key) at reply → IsGap h x key reply g → GapFacts h x key at reply g
gap_facts h l x key at (Value v) g e i = let k = l.got x key at (Value v) e in subst (GapFacts h x key at (Value v)) (sym (i ∙ k.answer v refl)) (known_facts h l x key at (Value v) k)
gap_facts h l x key at Absent g e i = record {
  gap = i.serves.gap;
  clears = serves_clears h l key (called h x).first g i.serves;
  reply = ap answer_of (sym i.serves.shows);
  end = λ p a q j. at_end p a q j k.gap refl;
}
  where
    k : Got h x key at Absent
    k = l.got x key at Absent e

    f : GapFacts h x key at Absent k.gap
    f = known_facts h l x key at Absent k

    m : Serves h key (called h x).first k.gap
    m = serves_from h key (called h x).first k.gap f.gap (absent_shows (shows h k.gap) f.reply) f.clears

    at_end : (p a : ℕ) → g ≡ Some p → IsPoint h p a → (o : Option ℕ) → k.gap ≡ o → a < at
    at_end p a q j None n = absurd (i.first k.gap m (subst (λ y. GapBefore h y g) (sym n) (subst (GapBefore h None) (sym q) tt)))
    at_end p a q j (Some u) n = which (before_cases h u p)
      where
        s : IsPutOf h key p
        s = subst (IsGapOf h key) q i.serves.gap

        t : IsPutOf h key u
        t = subst (IsGapOf h key) n f.gap

        which : StandsAtMost h p u ⊎ StandsBefore h u p → a < at
        which (inl y) = from (point_of h u t.is_put)
          where
            from : (b : ℕ) × IsPoint h u b → a < at
            from (b, z) = omega (arith, point_at_most h l p u a b s.is_put t.is_put (s.key ∙ sym t.key) y j z, f.end u b n z)
        which (inr y) = absurd (i.first k.gap m (subst (λ y. GapBefore h y g) (sym n) (subst (GapBefore h (Some u)) (sym q) y)))
gap_facts h l x key at Done g e i = absurd i
gap_facts h l x key at (Pairs ps) g e i = absurd i
gap_facts h l x key at NoRows g e i = absurd i
gap_facts h l x key at Spent g e i = absurd i
gap_facts h l x key at Stopped g e i = absurd i
gap_facts h l x key at Held g e i = absurd i
gap_facts h l x key at NotPinned g e i = absurd i
