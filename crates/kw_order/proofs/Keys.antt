-- The puts of a key, one after the other.
use Rattle.std.proofs.Common.{ℕ, ◌≡◌, ◌<◌, ◌≤◌, ◌⊎◌, inl, inr, Option, Some, None, true, false, arith, sym, ◌∙◌, ap, length, refl}
use Rattle.std.proofs.lemmas.Bool.{cases_lt, cases_eq, cases_order, cases_Bool}
use Rattle.kw_core.proofs.Attempts.{in_range}
use Rattle.kw_core.specs.History.{History, attempt}
use Rattle.kw_core.specs.HistoryLaws.{IsPut, IsPutOf, StandsBefore, StandsUpTo, IsGapOf, HistoryLaws}
use Rattle.kw_order.specs.Order.{IsMate, IsPoint, IsNext}
use Rattle.kw_order.proofs.PutPoints.{own_mate}
use Rattle.kw_order.proofs.Least.{Decided, IsTotal, IsLeast, least}

-- q stands where p does or before
abbrev pub StandsAtMost : History → ℕ → ℕ → Type 0
StandsAtMost h q p = ((attempt h q).version < (attempt h p).version) ⊎ (((attempt h q).version ≡ (attempt h p).version) × ((attempt h q).add ≤ (attempt h p).add))

-- this is total and transitive
pub at_most_total : (h : History) → IsTotal (StandsAtMost h)
at_most_total h = record { either = λ i j. either i j (cases_order (attempt h i).version (attempt h j).version); chain = λ i j k a b. chain i j k a b }
  where
    either : (i j : ℕ) → ((attempt h i).version ≡ (attempt h j).version) ⊎ (((attempt h i).version < (attempt h j).version) ⊎ ((attempt h j).version < (attempt h i).version)) → StandsAtMost h i j ⊎ StandsAtMost h j i
    either i j (inl e) = same (cases_lt (attempt h i).add (attempt h j).add)
      where
        same : ((attempt h i).add < (attempt h j).add) ⊎ ((attempt h j).add ≤ (attempt h i).add) → StandsAtMost h i j ⊎ StandsAtMost h j i
        same (inl x) = inl (inr (e, omega arith))
        same (inr x) = inr (inr (sym e, x))
    either i j (inr (inl x)) = inl (inl x)
    either i j (inr (inr x)) = inr (inl x)

    chain : (i j k : ℕ) → StandsAtMost h i j → StandsAtMost h j k → StandsAtMost h i k
    chain i j k (inl a) (inl b) = inl (omega arith)
    chain i j k (inl a) (inr b) = inl (omega arith)
    chain i j k (inr a) (inl b) = inl (omega arith)
    chain i j k (inr a) (inr b) = inr (omega arith, omega arith)

-- two puts with one add are one
pub same_add : (h : History) → HistoryLaws h → (p q : ℕ) → IsPut h p → IsPut h q → (attempt h p).add ≡ (attempt h q).add → p ≡ q
same_add h l p q s t e = which (cases_order p q)
  where
    which : (p ≡ q) ⊎ ((p < q) ⊎ (q < p)) → p ≡ q
    which (inl x) = x
    which (inr (inl x)) = absurd (omega (arith, e, l.adds p q x (in_range h q t)))
    which (inr (inr x)) = absurd (omega (arith, e, l.adds q p x (in_range h p s)))

-- among puts it is to be up to one
pub upto_from : (h : History) → HistoryLaws h → (p q : ℕ) → IsPut h p → IsPut h q → StandsAtMost h q p → StandsUpTo h (Some p) q
upto_from h l p q s t (inl x) = inr (inl x)
upto_from h l p q s t (inr (v, x)) = which (cases_eq (attempt h q).add (attempt h p).add)
  where
    which : ((attempt h q).add ≡ (attempt h p).add) ⊎ ((attempt h q).add ≡ (attempt h p).add → ⊥) → StandsUpTo h (Some p) q
    which (inl e) = inl (same_add h l q p t s e)
    which (inr n) = inr (inr (v, omega arith))

-- and the other way round
pub upto_gives : (h : History) (p q : ℕ) → StandsUpTo h (Some p) q → StandsAtMost h q p
upto_gives h p q (inl e) = inr (ap (λ x. (attempt h x).version) e, omega (arith, ap (λ x. (attempt h x).add) e))
upto_gives h p q (inr (inl x)) = inl x
upto_gives h p q (inr (inr (v, x))) = inr (v, omega arith)

-- either this, or the other stands after
pub before_cases : (h : History) (p q : ℕ) → StandsAtMost h q p ⊎ StandsBefore h p q
before_cases h p q = which (cases_order (attempt h p).version (attempt h q).version)
  where
    which : ((attempt h p).version ≡ (attempt h q).version) ⊎ (((attempt h p).version < (attempt h q).version) ⊎ ((attempt h q).version < (attempt h p).version)) → StandsAtMost h q p ⊎ StandsBefore h p q
    which (inl e) = same (cases_lt (attempt h p).add (attempt h q).add)
      where
        same : ((attempt h p).add < (attempt h q).add) ⊎ ((attempt h q).add ≤ (attempt h p).add) → StandsAtMost h q p ⊎ StandsBefore h p q
        same (inl x) = inr (inr (e, x))
        same (inr x) = inl (inr (sym e, x))
    which (inr (inl x)) = inr (inl x)
    which (inr (inr x)) = inl (inl x)

-- and not both
pub not_both_before : (h : History) (p q : ℕ) → StandsAtMost h q p → StandsBefore h p q → ⊥
not_both_before h p q a b = omega arith

-- what stands after a put is not up to it
pub not_upto : (h : History) (p q : ℕ) → StandsBefore h p q → StandsUpTo h (Some p) q → ⊥
not_upto h p q b u = not_both_before h p q (upto_gives h p q u) b

-- and what is not up to it stands after it
pub past_gap : (h : History) → HistoryLaws h → (p q : ℕ) → IsPut h p → IsPut h q → (StandsUpTo h (Some p) q → ⊥) → StandsBefore h p q
past_gap h l p q s t n = which (before_cases h p q)
  where
    which : StandsAtMost h q p ⊎ StandsBefore h p q → StandsBefore h p q
    which (inl a) = absurd (n (upto_from h l p q s t a))
    which (inr b) = b

-- whether a put is up to a gap
pub cases_upto : (h : History) → HistoryLaws h → (key : ℕ) (o : Option ℕ) (q : ℕ) → IsGapOf h key o → IsPut h q → StandsUpTo h o q ⊎ (StandsUpTo h o q → ⊥)
cases_upto h l key None q g t = inr (λ x. x)
cases_upto h l key (Some p) q g t = which (before_cases h p q)
  where
    which : StandsAtMost h q p ⊎ StandsBefore h p q → StandsUpTo h (Some p) q ⊎ (StandsUpTo h (Some p) q → ⊥)
    which (inl a) = inl (upto_from h l p q g.is_put t a)
    which (inr b) = inr (λ u. not_both_before h p q (upto_gives h p q u) b)

-- what is up to a gap, is so with all before it
pub upto_down : (h : History) → HistoryLaws h → (key : ℕ) (o : Option ℕ) (q u : ℕ) → IsGapOf h key o → IsPut h q → StandsAtMost h q u → StandsUpTo h o u → StandsUpTo h o q
upto_down h l key None q u g s a x = x
upto_down h l key (Some p) q u g s a x = upto_from h l p q g.is_put s ((at_most_total h).chain q u p a (upto_gives h p u x))

-- whether an attempt is a put of the key
pub is_put_of : (h : History) (key : ℕ) → Decided (IsPutOf h key)
is_put_of h key p = which (cases_Bool (attempt h p).is_stamped) (cases_eq (attempt h p).key key)
  where
    which : ((attempt h p).is_stamped ≡ true) ⊎ ((attempt h p).is_stamped ≡ false) → ((attempt h p).key ≡ key) ⊎ ((attempt h p).key ≡ key → ⊥) → IsPutOf h key p ⊎ (IsPutOf h key p → ⊥)
    which (inl s) (inl e) = inl (record { is_put = s; key = e })
    which (inl s) (inr n) = inr (λ x. n x.key)
    which (inr f) _ = inr (λ x. let e : false ≡ true = sym f ∙ x.is_put in cc)

-- the puts of a key after a gap
pub record IsAfter (h : History) (k : ℕ) (o : Option ℕ) (q : ℕ) : Type 0 where
  pub put : IsPutOf h k q
  pub after : StandsUpTo h o q → ⊥

-- whether it stands after a gap
pub is_after : (h : History) → HistoryLaws h → (key : ℕ) (o : Option ℕ) → IsGapOf h key o → Decided (IsAfter h key o)
is_after h l key o g q = which (is_put_of h key q)
  where
    which : IsPutOf h key q ⊎ (IsPutOf h key q → ⊥) → IsAfter h key o q ⊎ (IsAfter h key o q → ⊥)
    which (inr n) = inr (λ x. n x.put)
    which (inl p) = then (cases_upto h l key o q g p.is_put)
      where
        then : StandsUpTo h o q ⊎ (StandsUpTo h o q → ⊥) → IsAfter h key o q ⊎ (IsAfter h key o q → ⊥)
        then (inl u) = inr (λ x. x.after u)
        then (inr n) = inl (record { put = p; after = n })

-- a gap has no put after it, or a next one
pub next_of : (h : History) → HistoryLaws h → (key : ℕ) (o : Option ℕ) → IsGapOf h key o → ((q : ℕ) → IsAfter h key o q → ⊥) ⊎ ((q : ℕ) × IsNext h key o q)
next_of h l key o g = which (least (length h.attempts) (IsAfter h key o) (StandsAtMost h) (is_after h l key o g) (at_most_total h))
  where
    which : ((i : ℕ) → i < length h.attempts → IsAfter h key o i → ⊥) ⊎ ((m : ℕ) × IsLeast (length h.attempts) (IsAfter h key o) (StandsAtMost h) m) → ((q : ℕ) → IsAfter h key o q → ⊥) ⊎ ((q : ℕ) × IsNext h key o q)
    which (inl none) = inl (λ q a. none q (in_range h q a.put.is_put) a)
    which (inr (m, b)) = inr (
      m,
      record {
        is_put = b.holds.put;
        after = b.holds.after;
        first = λ u p n. order u p.is_put (upto_from h l u m p.is_put b.holds.put.is_put (b.least u (in_range h u p.is_put) (record { put = p; after = n })));
      },
    )
      where
        order : (u : ℕ) → IsPut h u → StandsUpTo h (Some u) m → (u ≡ m) ⊎ StandsBefore h m u
        order u s (inl e) = inl (sym e)
        order u s (inr x) = inr x

-- every put has a point
pub point_of : (h : History) (p : ℕ) → IsPut h p → (a : ℕ) × IsPoint h p a
point_of h p s = which (least (length h.attempts) (IsMate h p) (λ i j. (attempt h i).load ≤ (attempt h j).load) is_mate total)
  where
    total : IsTotal (λ i j. (attempt h i).load ≤ (attempt h j).load)
    total = record { either = λ i j. grind arith; chain = λ i j k a b. omega arith }

    is_mate : Decided (IsMate h p)
    is_mate u = decided (is_put_of h (attempt h p).key u) (cases_eq (attempt h u).version (attempt h p).version) (cases_lt (attempt h u).add (attempt h p).add)
      where
        decided : IsPutOf h (attempt h p).key u ⊎ (IsPutOf h (attempt h p).key u → ⊥) → ((attempt h u).version ≡ (attempt h p).version) ⊎ ((attempt h u).version ≡ (attempt h p).version → ⊥) →
            ((attempt h u).add < (attempt h p).add) ⊎ ((attempt h p).add ≤ (attempt h u).add) → IsMate h p u ⊎ (IsMate h p u → ⊥)
        decided (inr n) _ _ = inr (λ m. n (record { is_put = m.is_put; key = m.key }))
        decided (inl k) (inr n) _ = inr (λ m. n m.version)
        decided (inl k) (inl v) (inl x) = inr (λ m. omega (arith, m.add))
        decided (inl k) (inl v) (inr x) = inl (record { is_put = k.is_put; key = k.key; version = v; add = x })

    which : ((i : ℕ) → i < length h.attempts → IsMate h p i → ⊥) ⊎ ((m : ℕ) × IsLeast (length h.attempts) (IsMate h p) (λ i j. (attempt h i).load ≤ (attempt h j).load) m) → (a : ℕ) × IsPoint h p a
    which (inl none) = absurd (none p (in_range h p s) (own_mate h p s))
    which (inr (m, b)) = ((attempt h m).load, record { mate = m; is_mate = b.holds; load = refl; first = λ u x. b.least u (in_range h u x.is_put) x })
