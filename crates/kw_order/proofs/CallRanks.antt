-- The rank of a call, from what the code finds of it.
use Rattle.std.proofs.Common.{ℕ, ◌≡◌, ◌+◌, ◌<◌, ◌≤◌, ◌⊎◌, inl, inr, List, Option, Some, None, arith, refl, sym, ap, subst, length, get_or, IfSome}
use Rattle.std.proofs.lemmas.Option.{same_Some, slice_get_within}
use Rattle.kw_core.specs.History.{History, attempt, called, Call, Put, Del, Get, Scan, Reply, Done, Value, Absent, Pairs, NoRows, Spent, Stopped}
use Rattle.kw_core.specs.declared.history.CallLog.{CallLog}
use Rattle.kw_core.specs.HistoryLaws.{HistoryLaws, IsPut, IsGapOf, EndsWith, Answers, shows, Got}
use Rattle.kw_core.proofs.Attempts.{called_read}
use Rattle.kw_order.specs.Order.{IsPoint, Serves, IsGap, Rank, IsPlaced, HasRank, behind, at_first, of_scan, of_first}
use Rattle.kw_order.specs.Puts.{HasGap}
use Rattle.kw_order.specs.Points.{IsRankBehind, drawn_by, rank_at, rank_at_draw}
use Rattle.kw_order.proofs.PutPoints.{point_unique}
use Rattle.kw_order.proofs.Keys.{point_of}
use Rattle.kw_order.proofs.Gaps.{get_clears, serves_from}
use Rattle.kw_order.proofs.Calls.{absent_shows}

-- the first event of a call is in the log
pub first_within : (h : History) → HistoryLaws h → (x : ℕ) → x < length h.calls → (called h x).first < length h.log
first_within h l x w = let s = l.begins x w in slice_get_within h.log (called h x).first _ s.1.logged

-- a get behind a put whose point is after its first event
pub behind_rank : (h : History) (p a f : ℕ) → IsPoint h p a → f < a → IsRankBehind h f (Some p) (record { at = a; add = (attempt h p).add; tail = f + 1 })
behind_rank h p a f i w b j = let e = point_unique h p a b i j in inl (omega (arith, e, w), ap (λ (n : ℕ). record { at = n; add = (attempt h p).add; tail = f + 1 }) e)

-- the rank of a get of this gap
pub gap_rank : (h : History) → HistoryLaws h → (x key at : ℕ) (reply : Reply) (o : Option ℕ) (r : Rank) → EndsWith h x (Get key) at reply → IsGap h x key reply o → IfSome o (IsPut h) → IsRankBehind h (called h x).first o r → HasRank h x r
gap_rank h l x key at reply None r e g s b = subst (HasRank h x) (sym b) (at_first key at reply None e g (λ p a n i. let z : None ≡ Some p = n in absurd (cc)))
gap_rank h l x key at reply (Some p) r e g s b = which (point_of h p s)
  where
    which : (a : ℕ) × IsPoint h p a → HasRank h x r
    which (a, i) = side (b a i)
      where
        side : (((called h x).first < a) × (r ≡ record { at = a; add = (attempt h p).add; tail = (called h x).first + 1 })) ⊎ ((a ≤ (called h x).first) × (r ≡ rank_at (called h x).first)) → HasRank h x r
        side (inl y) = subst (HasRank h x) (sym y.1) (behind key at reply p a e g i y.0)
        side (inr y) = subst (HasRank h x) (sym y.1) (at_first key at reply (Some p) e g (λ q c n j. let z = point_unique h p a c i (subst (λ u. IsPoint h u c) (sym (same_Some p q n)) j) in omega (arith, z, y.0)))

-- of a get that found nothing, by the gap that the table gives
pub absent_rank : (h : History) → HistoryLaws h → (x key at : ℕ) (g : Option ℕ) (r : Rank) → EndsWith h x (Get key) at Absent → HasGap h key (called h x).first g → IsRankBehind h (called h x).first g r → HasRank h x r
absent_rank h l x key at None r e (o, g, i) b = subst (HasRank h x) (sym b) (at_first key at Absent o e g i)
absent_rank h l x key at (Some p) r e g b = gap_rank h l x key at Absent (Some p) r e g.0 g.0.serves.gap.is_put b

-- the put behind which it stands is one
pub gap_put : (h : History) (key f : ℕ) (g : Option ℕ) → HasGap h key f g → IfSome g (IsPut h)
gap_put h key f None g = tt
gap_put h key f (Some p) g = g.0.serves.gap.is_put

-- such a get has a gap
pub absent_serves : (h : History) → HistoryLaws h → (x key at : ℕ) → EndsWith h x (Get key) at Absent → (o : Option ℕ) × Serves h key (called h x).first o
absent_serves h l x key at e = from (l.got x key at Absent e)
  where
    from : Got h x key at Absent → (o : Option ℕ) × Serves h key (called h x).first o
    from k = (k.gap, serves_from h key (called h x).first k.gap k.knows.gap (absent_shows (shows h k.gap) k.knows.reply) (get_clears h l key (called h x).first Absent k.gap k.knows))

-- a get that found a value answered a put
pub value_put : (h : History) → HistoryLaws h → (x key at v : ℕ) → EndsWith h x (Get key) at (Value v) → IfSome (called h x).answer (IsPut h)
value_put h l x key at v e = from (l.got x key at (Value v) e)
  where
    is_put : (o : Option ℕ) → IsGapOf h key o → IfSome o (IsPut h)
    is_put None g = tt
    is_put (Some p) g = g.is_put

    from : Got h x key at (Value v) → IfSome (called h x).answer (IsPut h)
    from k = subst (λ o. IfSome o (IsPut h)) (sym (k.answer v refl)) (is_put k.gap k.knows.gap)

-- the call that has this reply, where it has no put
pub answers_of : (h : History) → HistoryLaws h → (x at : ℕ) (reply : Reply) → EndsWith h x (called h x).call at reply → (called h x).put ≡ None → Answers (called h x).call None reply
answers_of h l x at reply e n = subst (λ o. Answers (called h x).call o reply) n (l.ends x _ e.1).1

-- by its reply: a value, as a get
pub value_rank : (h : History) → HistoryLaws h → (x at v : ℕ) (r : Rank) → EndsWith h x (called h x).call at (Value v) → (called h x).put ≡ None → IsRankBehind h (called h x).first (called h x).answer r → HasRank h x r
value_rank h l x at v r e n b = which (called h x).call refl (answers_of h l x at (Value v) e n)
  where
    which : (c : Call) → (called h x).call ≡ c → Answers c None (Value v) → HasRank h x r
    which (Get key) f a = gap_rank h l x key at (Value v) (called h x).answer r (f, e.1) refl (value_put h l x key at v (f, e.1)) b
    which _ f a = absurd a

-- and the put that it answered is one
pub value_answered : (h : History) → HistoryLaws h → (x at v : ℕ) → EndsWith h x (called h x).call at (Value v) → (called h x).put ≡ None → IfSome (called h x).answer (IsPut h)
value_answered h l x at v e n = which (called h x).call refl (answers_of h l x at (Value v) e n)
  where
    which : (c : Call) → (called h x).call ≡ c → Answers c None (Value v) → IfSome (called h x).answer (IsPut h)
    which (Get key) f a = value_put h l x key at v (f, e.1)
    which _ f a = absurd a

-- nothing, as a get
pub absent_is_get : (h : History) → HistoryLaws h → (x at : ℕ) → EndsWith h x (called h x).call at Absent → (called h x).put ≡ None → (key : ℕ) × ((called h x).call ≡ Get key)
absent_is_get h l x at e n = which (called h x).call refl (answers_of h l x at Absent e n)
  where
    which : (c : Call) → (called h x).call ≡ c → Answers c None Absent → (key : ℕ) × ((called h x).call ≡ Get key)
    which (Get key) f a = (key, f)
    which _ f a = absurd a

-- any other call, by what it asked and its reply
pub other_rank : (h : History) → HistoryLaws h → (x at : ℕ) (reply : Reply) → EndsWith h x (called h x).call at reply → (called h x).put ≡ None → ((v : ℕ) → reply ≡ Value v → ⊥) → (reply ≡ Absent → ⊥) →
    HasRank h x (rank_at_draw (called h x).first (drawn_by (called h x).call reply (called h x).draw))
other_rank h l x at reply e n v a = which (called h x).call reply e (answers_of h l x at reply e n) v a
  where
    never : (r : Rank) → (q : ℕ) × (None ≡ Some q) → HasRank h x r
    never r (q, z) = let y : None ≡ Some q = z in absurd (cc)

    which : (c : Call) (r : Reply) → EndsWith h x c at r → Answers c None r → ((v : ℕ) → r ≡ Value v → ⊥) → (r ≡ Absent → ⊥) → HasRank h x (rank_at_draw (called h x).first (drawn_by c r (called h x).draw))
    which (Scan from to) (Pairs ps) f z v a = let s = l.scanned x from to at ps f in subst (λ d. HasRank h x (rank_at_draw (called h x).first d)) (sym s.drawn) (of_scan from to at ps s.draw f s.drawn)
    which (Put k w) Done f z v a = never (rank_at (called h x).first) z
    which (Del k) Done f z v a = never (rank_at (called h x).first) z
    which (Get k) (Value u) f z v a = absurd (v u refl)
    which (Get k) Absent f z v a = absurd (a refl)
    which (Put k w) NoRows f z v a = of_first (Put k w) at NoRows f tt
    which (Put k w) Spent f z v a = of_first (Put k w) at Spent f tt
    which (Del k) NoRows f z v a = of_first (Del k) at NoRows f tt
    which (Del k) Spent f z v a = of_first (Del k) at Spent f tt
    which (Scan from to) Spent f z v a = of_first (Scan from to) at Spent f tt
    which (Scan from to) Stopped f z v a = of_first (Scan from to) at Stopped f tt
    which _ _ f z v a = absurd z

-- what the code reads at a place of the list of calls
pub read_called : (h : History) (list : List CallLog) (x : ℕ) (c : CallLog) → list ≡ h.calls → c ≡ get_or list x c → x < length h.calls → c ≡ called h x
read_called h list x c e f w = called_read h x c (subst (λ l. c ≡ get_or l x c) e f) w

-- a call that has neither an end nor a put has no place
pub not_placed : (h : History) (x : ℕ) → (called h x).end ≡ None → (called h x).put ≡ None → IsPlaced h x → ⊥
not_placed h x e p (inl n) = n e
not_placed h x e p (inr n) = n p
