-- The gap of a get.
use Rattle.std.proofs.Common.{ℕ, ◌≡◌, ◌<◌, ◌≤◌, ◌⊎◌, inl, inr, Option, Some, None, true, false, arith, sym, ◌∙◌, subst, length, refl}
use Rattle.std.proofs.lemmas.Bool.{cases_lt}
use Rattle.kw_core.proofs.Attempts.{in_range}
use Rattle.kw_core.specs.History.{History, attempt, Reply}
use Rattle.kw_core.specs.HistoryLaws.{StandsBefore, StandsUpTo, shows, IsGapOf, HistoryLaws, GetKey}
use Rattle.kw_order.specs.Order.{IsMate, IsPoint, IsNext, Serves, GapBefore, IsFirstGap}
use Rattle.kw_order.proofs.PutPoints.{timed, point_order, point_unique}
use Rattle.kw_order.proofs.Least.{IsLeast, least}
use Rattle.kw_order.proofs.Keys.{StandsAtMost, at_most_total, not_both_before, upto_down, is_put_of, IsAfter, next_of, point_of}

-- the points of all puts after the gap are after f
abbrev pub Clears : History → ℕ → ℕ → Option ℕ → Type 0
Clears h key f o = (q a : ℕ) → IsAfter h key o q → IsPoint h q a → f < a

-- a mate stands where the put does or after
pub mate_after : (h : History) (q u : ℕ) → IsMate h q u → StandsAtMost h q u
mate_after h q u m = inr (sym m.version, m.add)

-- a get separates
pub get_clears : (h : History) → HistoryLaws h → (key f : ℕ) (reply : Reply) (o : Option ℕ) → GetKey h key f reply o → Clears h key f o
get_clears h l key f reply o g q a b i = which (cases_lt f a)
  where
    m : IsMate h q i.mate
    m = i.is_mate

    known : ((attempt h i.mate).is_lost ≡ true) ⊎ ((attempt h i.mate).is_stamped ≡ true) × StandsUpTo h o i.mate → ⊥
    known (inl e) = let x : false ≡ true = sym (l.kept i.mate m.is_put) ∙ e in cc
    known (inr x) = b.after (upto_down h l key o q i.mate g.gap b.put.is_put (mate_after h q i.mate m) x.1)

    which : (f < a) ⊎ (a ≤ f) → f < a
    which (inl x) = x
    which (inr x) = let t = timed h l i.mate m.is_put in absurd (known (g.early i.mate (record {
      key = m.key ∙ b.put.key;
      is_announced = (l.attempted i.mate (in_range h i.mate m.is_put)).is_announced m.is_put;
      before = omega (arith, t.load, i.load, x);
    })))

-- a gap that shows nothing and clears f serves
pub serves_from : (h : History) (key f : ℕ) (o : Option ℕ) → IsGapOf h key o → shows h o ≡ None → Clears h key f o → Serves h key f o
serves_from h key f o g s c = record { gap = g; shows = s; next = λ q a n i. c q a (record { put = n.is_put; after = n.after }) i }

-- and clears f where it is met
pub serves_clears : (h : History) → HistoryLaws h → (key f : ℕ) (o : Option ℕ) → Serves h key f o → Clears h key f o
serves_clears h l key f o m q a b i = which (next_of h l key o m.gap)
  where
    which : ((q : ℕ) → IsAfter h key o q → ⊥) ⊎ ((q : ℕ) × IsNext h key o q) → f < a
    which (inl none) = absurd (none q b)
    which (inr (n, x)) = at (point_of h n x.is_put.is_put) (x.first q b.put b.after)
      where
        at : (c : ℕ) × IsPoint h n c → (q ≡ n) ⊎ StandsBefore h n q → f < a
        at (c, j) (inl e) = m.next n a x (subst (λ p. IsPoint h p a) e i)
        at (c, j) (inr e) = let y = m.next n c x j in let z = point_order h l n q c a x.is_put.is_put b.put.is_put (x.is_put.key ∙ sym b.put.key) e j i in omega (arith, y, z.0)

-- whether there is a value
pub is_none : (o : Option ℕ) → (o ≡ None) ⊎ (o ≡ None → ⊥)
is_none None = inl refl
is_none (Some x) = inr (λ e. let y : Some x ≡ None = e in cc)

-- whether it is a gap of the key
pub is_gap_of : (h : History) (key : ℕ) (o : Option ℕ) → IsGapOf h key o ⊎ (IsGapOf h key o → ⊥)
is_gap_of h key None = inl tt
is_gap_of h key (Some p) = is_put_of h key p

-- whether a gap serves
pub does_serve : (h : History) → HistoryLaws h → (key f : ℕ) (o : Option ℕ) → Serves h key f o ⊎ (Serves h key f o → ⊥)
does_serve h l key f o = which (is_gap_of h key o) (is_none (shows h o))
  where
    which : IsGapOf h key o ⊎ (IsGapOf h key o → ⊥) → (shows h o ≡ None) ⊎ (shows h o ≡ None → ⊥) → Serves h key f o ⊎ (Serves h key f o → ⊥)
    which (inr n) _ = inr (λ m. n m.gap)
    which (inl g) (inr n) = inr (λ m. n m.shows)
    which (inl g) (inl s) = next (next_of h l key o g)
      where
        next : ((q : ℕ) → IsAfter h key o q → ⊥) ⊎ ((q : ℕ) × IsNext h key o q) → Serves h key f o ⊎ (Serves h key f o → ⊥)
        next (inl none) = inl (serves_from h key f o g s (λ q a b i. absurd (none q b)))
        next (inr (n, x)) = at (point_of h n x.is_put.is_put)
          where
            at : (c : ℕ) × IsPoint h n c → Serves h key f o ⊎ (Serves h key f o → ⊥)
            at (c, j) = test (cases_lt f c)
              where
                one : (q : ℕ) → IsNext h key o q → q ≡ n
                one q y = same (x.first q y.is_put y.after) (y.first n x.is_put x.after)
                  where
                    same : (q ≡ n) ⊎ StandsBefore h n q → (n ≡ q) ⊎ StandsBefore h q n → q ≡ n
                    same (inl e) _ = e
                    same (inr a) (inl e) = sym e
                    same (inr a) (inr b) = absurd (omega (arith, a, b))

                test : (f < c) ⊎ (c ≤ f) → Serves h key f o ⊎ (Serves h key f o → ⊥)
                test (inl y) = inl (record { gap = g; shows = s; next = λ q a z i. let e = point_unique h n a c (subst (λ p. IsPoint h p a) (one q z) i) j in omega (arith, e, y) })
                test (inr y) = inr (λ m. let z = m.next n c x j in omega (arith, y, z))

-- the first gap exists, if there is one
pub first_gap : (h : History) → HistoryLaws h → (key f : ℕ) (o : Option ℕ) → Serves h key f o → (g : Option ℕ) × IsFirstGap h key f g
first_gap h l key f o m = which (does_serve h l key f None)
  where
    which : Serves h key f None ⊎ (Serves h key f None → ⊥) → (g : Option ℕ) × IsFirstGap h key f g
    which (inl x) = (None, record { serves = x; first = λ other y b. b })
    which (inr none) = found (least (length h.attempts) (λ p. Serves h key f (Some p)) (StandsAtMost h) (λ p. does_serve h l key f (Some p)) (at_most_total h))
      where
        some : (o : Option ℕ) → Serves h key f o → (p : ℕ) × Serves h key f (Some p)
        some None y = absurd (none y)
        some (Some p) y = (p, y)

        found : ((i : ℕ) → i < length h.attempts → Serves h key f (Some i) → ⊥) ⊎ ((p : ℕ) × IsLeast (length h.attempts) (λ i. Serves h key f (Some i)) (StandsAtMost h) p) → (g : Option ℕ) × IsFirstGap h key f g
        found (inl no_one) = let (p, y) = some o m in absurd (no_one p (in_range h p y.gap.is_put) y)
        found (inr (p, y)) = (Some p, record { serves = y.holds; first = before })
          where
            before : (other : Option ℕ) → Serves h key f other → GapBefore h other (Some p) → ⊥
            before None z b = none z
            before (Some i) z b = not_both_before h i p (y.least i (in_range h i z.gap.is_put) z) b
