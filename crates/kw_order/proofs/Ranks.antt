-- The ranks of the calls.
use Rattle.std.proofs.Common.{ℕ, ◌≡◌, ◌+◌, ◌<◌, ◌≤◌, ◌⊎◌, inl, inr, Option, Some, None, arith, sym, ◌∙◌, ap, subst, length, refl}
use Rattle.std.proofs.lemmas.Bool.{cases_lt, cases_order}
use Rattle.std.proofs.lemmas.Option.{same_Some}
use Rattle.kw_core.specs.History.{History, attempt, called, Call, Put, Del, Get, Scan, Reply, Done, Value, Absent, Pairs, NoRows, Spent, Stopped}
use Rattle.kw_core.specs.declared.history.End.{End}
use Rattle.kw_core.specs.declared.history.Drawn.{Drawn}
use Rattle.kw_core.specs.HistoryLaws.{IsPut, StandsBefore, shows, IsGapOf, HistoryLaws, EndsWith, Answers}
use Rattle.kw_order.specs.Order.{IsPoint, IsGap, Rank, Below, HasRank, of_put, behind, at_first, of_scan, of_pin, of_first, put_rank, IsPlaced, Inside}
use Rattle.kw_order.proofs.PutPoints.{times, point_order, point_placed, point_unique}
use Rattle.kw_order.proofs.Keys.{StandsAtMost, upto_from, before_cases, point_of, same_add}
use Rattle.kw_order.proofs.Gaps.{serves_from, first_gap}
use Rattle.kw_order.proofs.Calls.{gap_facts, known_facts, absent_shows, ended_within}
use Rattle.kw_order.proofs.Separate.{rises_by_add}

-- the point of a put is inside its call
pub put_inside : (h : History) → HistoryLaws h → (x p a : ℕ) → (called h x).put ≡ Some p → IsPoint h p a → Inside h x a
put_inside h l x p a e i =
    let s = (l.is_put x p e).0 in
    let c = (l.is_put x p e).1 in
    let t = times h l p s in
    let y = point_placed h l p a s i in
    record {
      first = omega (arith, y.add, t.begun, ap (λ q. (called h q).first) c);
      end = λ d w. omega (arith, y.load, t.at s, t.end s d (ap (λ q. (called h q).end) c ∙ w));
    }

-- a call ended once
same_end : (h : History) (x at at' : ℕ) (r r' : Reply) → (called h x).end ≡ Some (record { at = at; reply = r }) → (called h x).end ≡ Some (record { at = at'; reply = r' }) → (at ≡ at') × (r ≡ r')
same_end h x at at' r r' e f = let g = same_Some _ _ (sym e ∙ f) in (ap (λ (q : End). q.at) g, ap (λ (q : End). q.reply) g)

-- each place is inside its call
pub rank_inside : (h : History) → HistoryLaws h → (x : ℕ) (r : Rank) → HasRank h x r → Inside h x r.at
rank_inside h l x r (of_put p a e i) = put_inside h l x p a e i
rank_inside h l x r (behind key at reply p a e g i y) = record {
  first = omega arith;
  end = λ d w. let z = same_Some _ _ (sym e.1 ∙ w) in let k = (gap_facts h l x key at reply (Some p) e g).end p a refl i in omega (arith, k, ap (λ (q : End). q.at) z);
}
rank_inside h l x r (at_first key at reply o e g y) = record { first = omega arith; end = λ d w. omega (arith, (l.ends x d w).0) }
rank_inside h l x r (of_scan from to at pairs d e g) =
    let c = l.scanned x from to at pairs e in
    let s = ap (λ (q : Drawn). q.at) (same_Some _ _ (sym c.drawn ∙ g)) in
    record {
      first = omega (arith, c.first, s);
      end = λ f w. let z = same_Some _ _ (sym e.1 ∙ w) in omega (arith, c.before_end, s, ap (λ (q : End). q.at) z);
    }
rank_inside h l x r (of_pin at d e g) = absurd (subst (λ c. Answers c (called h x).put Done) e.0 (l.ends x _ e.1).1)
rank_inside h l x r (of_first call at reply e i) = record { first = omega arith; end = λ d w. omega (arith, (l.ends x d w).0) }

-- a rank is of a put, or of no other call with this first event
pub data TailOf (h : History) (x : ℕ) (r : Rank) : Type 0 where
  put_tail : (p : ℕ) → (called h x).put ≡ Some p → r.add ≡ (attempt h p).add → r.tail ≡ 0 → TailOf h x r
  first_tail : x < length h.calls → r.tail ≡ (called h x).first + 1 → TailOf h x r

-- each rank has such a tail
pub tail_of : (h : History) (x : ℕ) (r : Rank) → HasRank h x r → TailOf h x r
tail_of h x r (of_put p a e i) = put_tail p e refl refl
tail_of h x r (behind key at reply p a e g i y) = first_tail (ended_within h x _ e.1) refl
tail_of h x r (at_first key at reply o e g y) = first_tail (ended_within h x _ e.1) refl
tail_of h x r (of_scan from to at pairs d e g) = first_tail (ended_within h x _ e.1) refl
tail_of h x r (of_pin at d e g) = first_tail (ended_within h x _ e.1) refl
tail_of h x r (of_first call at reply e i) = first_tail (ended_within h x _ e.1) refl

-- ranks differ
pub ranks_differ : (h : History) → HistoryLaws h → (x y : ℕ) (r s : Rank) → HasRank h x r → HasRank h y s → r.add ≡ s.add → r.tail ≡ s.tail → x ≡ y
ranks_differ h l x y r s a b add tail = which (tail_of h x r a) (tail_of h y s b)
  where
    which : TailOf h x r → TailOf h y s → x ≡ y
    which (put_tail p e c t) (put_tail q f d u) =
        let g = l.is_put x p e in let k = l.is_put y q f in
        sym g.1 ∙ ap (λ q. (attempt h q).call) (same_add h l p q g.0 k.0 (omega (arith, c, d, add))) ∙ k.1
    which (put_tail p e c t) (first_tail v w) = absurd (omega (arith, t, w, tail))
    which (first_tail v w) (put_tail p e c t) = absurd (omega (arith, t, w, tail))
    which (first_tail v w) (first_tail v' w') = l.firsts x y v v' (omega (arith, w, w', tail))

-- two ranks compare
pub compare : (r s : Rank) → Below r s ⊎ ((r.at ≡ s.at) × (r.add ≡ s.add) × (r.tail ≡ s.tail)) ⊎ Below s r
compare r s = which (cases_order r.at s.at) (cases_order r.add s.add) (cases_order r.tail s.tail)
  where
    which : (r.at ≡ s.at) ⊎ ((r.at < s.at) ⊎ (s.at < r.at)) → (r.add ≡ s.add) ⊎ ((r.add < s.add) ⊎ (s.add < r.add)) → (r.tail ≡ s.tail) ⊎ ((r.tail < s.tail) ⊎ (s.tail < r.tail)) →
        Below r s ⊎ ((r.at ≡ s.at) × (r.add ≡ s.add) × (r.tail ≡ s.tail)) ⊎ Below s r
    which (inr (inl x)) _ _ = inl (inl x)
    which (inr (inr x)) _ _ = inr (inr (inl x))
    which (inl a) (inr (inl x)) _ = inl (inr (inl (a, x)))
    which (inl a) (inr (inr x)) _ = inr (inr (inr (inl (sym a, x))))
    which (inl a) (inl b) (inr (inl x)) = inl (inr (inr (a, b, x)))
    which (inl a) (inl b) (inr (inr x)) = inr (inr (inr (inr (sym a, sym b, x))))
    which (inl a) (inl b) (inl c) = inr (inl (a, b, c))

-- ranks do not stand both ways
pub below_not_above : (r s : Rank) → Below r s → Below s r → ⊥
below_not_above r s a b = omega (arith, a, b)

-- and are transitive
pub below_chain : (r s t : Rank) → Below r s → Below s t → Below r t
below_chain r s t (inl a) (inl b) = inl (omega arith)
below_chain r s t (inl a) (inr (inl b)) = inl (omega arith)
below_chain r s t (inl a) (inr (inr b)) = inl (omega arith)
below_chain r s t (inr (inl a)) (inl b) = inl (omega arith)
below_chain r s t (inr (inl a)) (inr (inl b)) = inr (inl (omega arith, omega arith))
below_chain r s t (inr (inl a)) (inr (inr b)) = inr (inl (omega arith, omega arith))
below_chain r s t (inr (inr a)) (inl b) = inl (omega arith)
below_chain r s t (inr (inr a)) (inr (inl b)) = inr (inl (omega arith, omega arith))
below_chain r s t (inr (inr a)) (inr (inr b)) = inr (inr (omega arith, omega arith, omega arith))

-- the ranks of puts of a key follow their order
pub puts_rise : (h : History) → HistoryLaws h → (p q a b : ℕ) → IsPut h p → IsPut h q → (attempt h p).key ≡ (attempt h q).key → StandsBefore h p q → IsPoint h p a → IsPoint h q b → Below (put_rank h p a) (put_rank h q b)
puts_rise h l p q a b s t e (inl v) i j = inl ((point_order h l p q a b s t e (inl v) i j).1 v)
puts_rise h l p q a b s t e (inr v) i j = rises_by_add a b _ _ 0 0 (point_order h l p q a b s t e (inr v) i j).0 v.1

-- and the other way round
pub puts_follow : (h : History) → HistoryLaws h → (p q a b : ℕ) → IsPut h p → IsPut h q → (attempt h p).key ≡ (attempt h q).key → IsPoint h p a → IsPoint h q b → Below (put_rank h p a) (put_rank h q b) → StandsBefore h p q
puts_follow h l p q a b s t e i j w = which (before_cases h p q)
  where
    which : StandsAtMost h q p ⊎ StandsBefore h p q → StandsBefore h p q
    which (inr x) = x
    which (inl x) = same (upto_from h l p q s t x)
      where
        same : (q ≡ p) ⊎ StandsBefore h q p → StandsBefore h p q
        same (inr y) = absurd (below_not_above (put_rank h p a) (put_rank h q b) w (puts_rise h l q p b a t s (sym e) y j i))
        same (inl y) = let z = point_unique h p b a (subst (λ u. IsPoint h u b) y j) i in absurd (omega (arith, w, z, ap (λ u. (attempt h u).add) y))

-- a rank of a get, from its gap
pub get_ranked : (h : History) (x key at : ℕ) (reply : Reply) (g : Option ℕ) → EndsWith h x (Get key) at reply → IsGap h x key reply g → IsGapOf h key g → (r : Rank) × HasRank h x r
get_ranked h x key at reply None e g s = (_, at_first key at reply None e g (λ p a n i. let w : None ≡ Some p = n in absurd (cc)))
get_ranked h x key at reply (Some p) e g s = from (point_of h p s.is_put)
  where
    from : (a : ℕ) × IsPoint h p a → (r : Rank) × HasRank h x r
    from (a, i) = which (cases_lt (called h x).first a)
      where
        which : ((called h x).first < a) ⊎ (a ≤ (called h x).first) → (r : Rank) × HasRank h x r
        which (inl y) = (_, behind key at reply p a e g i y)
        which (inr y) = (_, at_first key at reply (Some p) e g (λ q b n j. let w : p ≡ q = same_Some p q n in let z = point_unique h p b a (subst (λ u. IsPoint h u b) (sym w) j) i in omega (arith, y, z)))

-- a call with a put has a rank
pub put_ranked : (h : History) → HistoryLaws h → (x p : ℕ) → (called h x).put ≡ Some p → (r : Rank) × HasRank h x r
put_ranked h l x p e = let i = point_of h p (l.is_put x p e).0 in (_, of_put p i.0 e i.1)

-- and so has one that ended
pub ended_ranked : (h : History) → HistoryLaws h → (x at : ℕ) (c : Call) (reply : Reply) → EndsWith h x c at reply → Answers c (called h x).put reply → (r : Rank) × HasRank h x r
ended_ranked h l x at (Put k v) Done e a = put_ranked h l x a.0 a.1
ended_ranked h l x at (Del k) Done e a = put_ranked h l x a.0 a.1
ended_ranked h l x at (Get k) (Value v) e a = let g = l.got x k at (Value v) e in get_ranked h x k at (Value v) g.gap e (sym (g.answer v refl)) g.knows.gap
ended_ranked h l x at (Get k) Absent e a =
    let g = l.got x k at Absent e in
    let f = known_facts h l x k at Absent g in
    let m = first_gap h l k (called h x).first g.gap (serves_from h k (called h x).first g.gap f.gap (absent_shows (shows h g.gap) f.reply) f.clears) in
    get_ranked h x k at Absent m.0 e m.1 m.1.serves.gap
ended_ranked h l x at (Scan from to) (Pairs ps) e a = let s = l.scanned x from to at ps e in (_, of_scan from to at ps s.draw e s.drawn)
ended_ranked h l x at c NoRows e a = (_, of_first c at NoRows e tt)
ended_ranked h l x at c Spent e a = (_, of_first c at Spent e tt)
ended_ranked h l x at c Stopped e a = (_, of_first c at Stopped e tt)
ended_ranked h l x at _ _ e a = absurd a

-- each placed call has a rank
pub ranked : (h : History) → HistoryLaws h → (x : ℕ) → IsPlaced h x → (r : Rank) × HasRank h x r
ranked h l x (inl e) = which (called h x).end refl
  where
    which : (o : Option End) → (called h x).end ≡ o → (r : Rank) × HasRank h x r
    which None n = absurd (e n)
    which (Some d) n = ended_ranked h l x d.at (called h x).call d.reply (refl, n) (l.ends x d n).1
ranked h l x (inr e) = which (called h x).put refl
  where
    which : (o : Option ℕ) → (called h x).put ≡ o → (r : Rank) × HasRank h x r
    which None n = absurd (e n)
    which (Some p) n = put_ranked h l x p n
