-- A history has one order.
use Rattle.std.proofs.Common.{ℕ, zero, suc, ◌≡◌, ◌≢◌, ◌<◌, ◌≤◌, ◌⊎◌, inl, inr, List, [], Option, Some, None, arith, sym, ap, subst, length, slice_get, refl}
use Rattle.std.proofs.lemmas.Bool.{cases_lt, cases_eq}
use Rattle.std.proofs.lemmas.List.{get_or_past}
use Rattle.kw_core.specs.History.{History, called, no_call}
use Rattle.kw_core.specs.declared.history.CallLog.{CallLog}
use Rattle.kw_core.specs.declared.history.End.{End}
use Rattle.kw_core.specs.HistoryLaws.{HistoryLaws}
use Rattle.kw_order.specs.Order.{Rank, Below, HasRank, IsPlaced, IsOrder}
use Rattle.kw_order.proofs.Ranks.{ranked, ranks_differ, compare, below_chain, below_not_above}
use Rattle.kw_order.proofs.Unique.{rank_unique}
use Rattle.kw_order.proofs.Sorts.{In, Sorted, in_at, at_in, sorted_from, rises_from, same_list, Inserted, inserted}

-- x has a lower rank than y
pub record Lower (h : History) (x y : ℕ) : Type 0 where
  pub low : Rank
  pub has_low : HasRank h x low
  pub high : Rank
  pub has_high : HasRank h y high
  pub below : Below low high

-- this is transitive
lower_chain : (h : History) → HistoryLaws h → (x y z : ℕ) → Lower h x y → Lower h y z → Lower h x z
lower_chain h l x y z a b = record {
  low = a.low;
  has_low = a.has_low;
  high = b.high;
  has_high = b.has_high;
  below = below_chain a.low a.high b.high a.below (subst (λ q. Below q b.high) (rank_unique h l y b.low a.high b.has_low a.has_high) b.below);
}

-- and does not hold both ways
lower_not_higher : (h : History) → HistoryLaws h → (x y : ℕ) → Lower h x y → Lower h y x → ⊥
lower_not_higher h l x y a b = let z = (lower_chain h l x y x a b) in
    let e = rank_unique h l x z.low z.high z.has_low z.has_high in
    let w : Below z.high z.high = subst (λ q. Below q z.high) e z.below in below_not_above z.high z.high w w

-- of two calls that have a place one is lower
lower_cases : (h : History) → HistoryLaws h → (x y : ℕ) → IsPlaced h x → IsPlaced h y → x ≢ y → Lower h x y ⊎ Lower h y x
lower_cases h l x y a b n = which (ranked h l x a) (ranked h l y b)
  where
    which : (r : Rank) × HasRank h x r → (r : Rank) × HasRank h y r → Lower h x y ⊎ Lower h y x
    which (r, i) (s, j) = at (compare r s)
      where
        at : Below r s ⊎ ((r.at ≡ s.at) × (r.add ≡ s.add) × (r.tail ≡ s.tail)) ⊎ Below s r → Lower h x y ⊎ Lower h y x
        at (inl w) = inl (record { low = r; has_low = i; high = s; has_high = j; below = w })
        at (inr (inl e)) = absurd (n (ranks_differ h l x y r s i j e.1 e.2))
        at (inr (inr w)) = inr (record { low = s; has_low = j; high = r; has_high = i; below = w })

-- the order of the placed calls below n
record Ordered (h : History) (n : ℕ) : Type 0 where
  list : List ℕ
  sorted : Sorted (Lower h) list
  placed : (x : ℕ) → In x list → IsPlaced h x
  within : (x : ℕ) → In x list → x < n
  every : (x : ℕ) → x < n → IsPlaced h x → In x list

-- whether a call has a place
is_placed : (h : History) (x : ℕ) → IsPlaced h x ⊎ (IsPlaced h x → ⊥)
is_placed h x = which (called h x).end (called h x).put
  where
    which : (e : Option End) (p : Option ℕ) → ((e ≢ None) ⊎ (p ≢ None)) ⊎ (((e ≢ None) ⊎ (p ≢ None)) → ⊥)
    which (Some e) p = inl (inl (λ n. let z : Some e ≡ None = n in cc))
    which None (Some p) = inl (inr (λ n. let z : Some p ≡ None = n in cc))
    which None None = inr neither
      where
        neither : (◌≢◌ {A = Option End} None None) ⊎ (◌≢◌ {A = Option ℕ} None None) → ⊥
        neither (inl f) = f refl
        neither (inr f) = f refl

-- they can be ordered
ordered : (h : History) → HistoryLaws h → (n : ℕ) → Ordered h n
ordered h l zero = record { list = []; sorted = tt; placed = λ x e. absurd e; within = λ x e. absurd e; every = λ x w. absurd (omega arith) }
ordered h l (suc n) = which (is_placed h n) (ordered h l n)
  where
    which : IsPlaced h n ⊎ (IsPlaced h n → ⊥) → Ordered h n → Ordered h (suc n)
    which (inr out) o = record { list = o.list; sorted = o.sorted; placed = o.placed; within = λ x e. omega (arith, o.within x e); every = every }
      where
        every : (x : ℕ) → x < suc n → IsPlaced h x → In x o.list
        every x w p = at (cases_eq x n)
          where
            at : (x ≡ n) ⊎ (x ≡ n → ⊥) → In x o.list
            at (inl e) = absurd (out (subst (IsPlaced h) e p))
            at (inr f) = o.every x (omega arith) p
    which (inl here) o = grown (inserted (Lower h) (lower_chain h l) n o.list o.sorted (λ x e. lower_cases h l n x here (o.placed x e) (λ q. omega (arith, o.within x e, q))))
      where
        grown : Inserted (Lower h) n o.list → Ordered h (suc n)
        grown i = record { list = i.list; sorted = i.sorted; placed = λ x e. placed x (i.from x e); within = λ x e. within x (i.from x e); every = every }
          where
            placed : (x : ℕ) → (x ≡ n) ⊎ In x o.list → IsPlaced h x
            placed x (inl e) = subst (IsPlaced h) (sym e) here
            placed x (inr e) = o.placed x e

            within : (x : ℕ) → (x ≡ n) ⊎ In x o.list → x < suc n
            within x (inl e) = omega arith
            within x (inr e) = omega (arith, o.within x e)

            every : (x : ℕ) → x < suc n → IsPlaced h x → In x i.list
            every x w p = at (cases_eq x n)
              where
                at : (x ≡ n) ⊎ (x ≡ n → ⊥) → In x i.list
                at (inl e) = subst (λ q. In q i.list) (sym e) i.new
                at (inr f) = i.old x (o.every x (omega arith) p)

-- a call that has a place is one of the list
pub placed_within : (h : History) (x : ℕ) → IsPlaced h x → x < length h.calls
unfolding called no_call
placed_within h x p = which (cases_lt x (length h.calls))
  where
    which : (x < length h.calls) ⊎ (length h.calls ≤ x) → x < length h.calls
    which (inl w) = w
    which (inr past) = absurd (neither p)
      where
        f : called h x ≡ no_call
        f = get_or_past h.calls x no_call past

        neither : IsPlaced h x → ⊥
        neither (inl n) = n (ap (λ (q : CallLog). q.end) f)
        neither (inr n) = n (ap (λ (q : CallLog). q.put) f)

-- an order exists
pub order_exists : (h : History) → HistoryLaws h → (xs : List ℕ) × IsOrder h xs
order_exists h l = from (ordered h l (length h.calls))
  where
    from : Ordered h (length h.calls) → (xs : List ℕ) × IsOrder h xs
    from o = (
      o.list,
      record {
        placed = λ i x e. o.placed x (in_at o.list i x e);
        every = λ x p. at_in o.list x (o.every x (placed_within h x p) p);
        rises = rises;
      },
    )
      where
        rises : (i j x y : ℕ) (r s : Rank) → i < j → slice_get o.list i ≡ Some x → slice_get o.list j ≡ Some y → HasRank h x r → HasRank h y s → Below r s
        rises i j x y r s w e f a b = let z = rises_from (Lower h) o.list o.sorted i j x y w e f in
            subst (λ q. Below r q) (rank_unique h l y z.high s z.has_high b) (subst (λ q. Below q z.high) (rank_unique h l x z.low r z.has_low a) z.below)

-- and is the only one
pub order_unique : (h : History) → HistoryLaws h → (xs ys : List ℕ) → IsOrder h xs → IsOrder h ys → xs ≡ ys
order_unique h l xs ys a b = same_list (Lower h) (lower_not_higher h l) xs ys (sorted xs a) (sorted ys b) (into xs ys a b) (into ys xs b a)
  where
    sorted : (zs : List ℕ) → IsOrder h zs → Sorted (Lower h) zs
    sorted zs o = sorted_from (Lower h) zs (λ i j x y w e f. let r = ranked h l x (o.placed i x e) in let s = ranked h l y (o.placed j y f) in
        record { low = r.0; has_low = r.1; high = s.0; has_high = s.1; below = o.rises i j x y r.0 s.0 w e f r.1 s.1 })

    into : (zs ws : List ℕ) → IsOrder h zs → IsOrder h ws → (x : ℕ) → In x zs → In x ws
    into zs ws o p x e = let i = at_in zs x e in let j = p.every x (o.placed i.0 x i.1) in in_at ws j.0 x j.1
