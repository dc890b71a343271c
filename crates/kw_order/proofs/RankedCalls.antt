-- The calls that have a place are ranked, and sorted by rank: this is their order.
use Rattle.std.proofs.Common.{ℕ, zero, suc, ◌≡◌, ◌+◌, ◌-◌, ◌<◌, ◌≤◌, ◌⊎◌, inl, inr, List, [], ◌∷◌, ◌++◌, Some, None, false, arith, refl, sym, ap, subst, ◌∙◌, nat_cmp, is_lt, get_or, slice_get, length, length-append, IsPermutation, Contains, All, map}
use Rattle.std.specs.Ordering.{ordering_then}
use Rattle.std.specs.List.{AllZip}
use Rattle.std.proofs.lemmas.Bool.{cases_lt, cases_eq}
use Rattle.std.proofs.lemmas.Option.{slice_get_within, get_or_from_slice_get, slice_get-get_or}
use Rattle.std.proofs.lemmas.List.{get_or_append_left, get_or_push, get_or-map, get_or_default, length-map}
use Rattle.std.proofs.lemmas.List.Sorted.{All-permutation, Contains-permutation}
use Rattle.kw_core.specs.History.{History, Done}
use Rattle.kw_core.specs.HistoryLaws.{HistoryLaws}
use Rattle.kw_order.specs.declared.rank.RankedCall.{RankedCall}
use Rattle.kw_order.specs.Order.{Rank, Below, HasRank, of_put, behind, at_first, of_scan, of_pin, of_first, IsPlaced}
use Rattle.kw_order.specs.declared.points.Point.{Point}
use Rattle.kw_order.specs.Points.{places, AreRanked, ranked_at, IsRanked, AreRankedBelow, name_of, point_from, IsPointOf, ArePoints, AreNames}
use Rattle.kw_order.proofs.Ranks.{ranks_differ}
use Rattle.kw_order.proofs.Unique.{rank_unique}
use Rattle.kw_order.proofs.OneOrder.{placed_within}
use Rattle.kw_order.proofs.Lexicographic.{Lex, lex_chain, first_not_less, last_from, lex_from}
use Rattle.kw_order.proofs.SortedPuts.{apart_moved}

-- a call that has a rank has a place
pub rank_placed : (h : History) (x : ℕ) (r : Rank) → HasRank h x r → IsPlaced h x
rank_placed h x r (of_put p a e i) = inr (λ n. let z : Some p ≡ None = sym e ∙ n in cc)
rank_placed h x r (behind key at reply p a e g i y) = inl (λ n. let z : Some (record { at = at; reply = reply }) ≡ None = sym e.1 ∙ n in cc)
rank_placed h x r (at_first key at reply o e g y) = inl (λ n. let z : Some (record { at = at; reply = reply }) ≡ None = sym e.1 ∙ n in cc)
rank_placed h x r (of_scan from to at pairs d e g) = inl (λ n. let z = sym e.1 ∙ n in cc)
rank_placed h x r (of_pin at d e g) = inl (λ n. let z : Some (record { at = at; reply = Done }) ≡ None = sym e.1 ∙ n in cc)
rank_placed h x r (of_first c at reply e i) = inl (λ n. let z : Some (record { at = at; reply = reply }) ≡ None = sym e.1 ∙ n in cc)

-- one more call is ranked
pub ranked_more : (h : History) (ranked : List RankedCall) (n : ℕ) (one : RankedCall) → AreRankedBelow h ranked n → HasRank h one.call one.rank → one.call ≡ n → AreRankedBelow h (ranked ++ one ∷ []) (n + 1)
ranked_more h ranked n one c s e = record { ranks = ranks; below = below; rises = rises; every = every }
  where
    old : (i : ℕ) → i < length ranked → ranked_at (ranked ++ one ∷ []) i ≡ ranked_at ranked i
    old i w = get_or_append_left ranked (one ∷ []) _ i w

    new : (i : ℕ) → length ranked ≡ i → ranked_at (ranked ++ one ∷ []) i ≡ one
    new i w = get_or_push ranked one _ i w

    long : length (ranked ++ one ∷ []) ≡ length ranked + 1
    long = omega (arith, length-append ranked (one ∷ []))

    both : (P : RankedCall → Type 0) → ((i : ℕ) → i < length ranked → P (ranked_at ranked i)) → P one → (i : ℕ) → i < length (ranked ++ one ∷ []) → P (ranked_at (ranked ++ one ∷ []) i)
    both P f p i v = which (cases_lt i (length ranked))
      where
        which : (i < length ranked) ⊎ (length ranked ≤ i) → P (ranked_at (ranked ++ one ∷ []) i)
        which (inl x) = subst P (sym (old i x)) (f i x)
        which (inr x) = subst P (sym (new i (omega (arith, long)))) p

    ranks : (i : ℕ) → i < length (ranked ++ one ∷ []) → HasRank h (ranked_at (ranked ++ one ∷ []) i).call (ranked_at (ranked ++ one ∷ []) i).rank
    ranks = both (λ q. HasRank h q.call q.rank) c.ranks s

    below : (i : ℕ) → i < length (ranked ++ one ∷ []) → (ranked_at (ranked ++ one ∷ []) i).call < n + 1
    below = both (λ q. q.call < n + 1) (λ i w. omega (arith, c.below i w)) (omega (arith, e))

    rises : (i j : ℕ) → i < j → j < length (ranked ++ one ∷ []) → (ranked_at (ranked ++ one ∷ []) i).call < (ranked_at (ranked ++ one ∷ []) j).call
    rises i j w v = which (cases_lt j (length ranked))
      where
        early : i < length ranked
        early = omega (arith, long)

        which : (j < length ranked) ⊎ (length ranked ≤ j) → (ranked_at (ranked ++ one ∷ []) i).call < (ranked_at (ranked ++ one ∷ []) j).call
        which (inl x) = omega (arith, ap (λ (q : RankedCall). q.call) (old i early), ap (λ (q : RankedCall). q.call) (old j x), c.rises i j w x)
        which (inr x) = omega (arith, ap (λ (q : RankedCall). q.call) (old i early), ap (λ (q : RankedCall). q.call) (new j (omega (arith, long))), c.below i early, e)

    every : (x : ℕ) → x < n + 1 → IsPlaced h x → IsRanked (ranked ++ one ∷ []) x
    every x w t = which (cases_lt x n)
      where
        listed : IsRanked ranked x → IsRanked (ranked ++ one ∷ []) x
        listed (i, y, q) = (i, omega (arith, long), ap (λ (q : RankedCall). q.call) (old i y) ∙ q)

        which : (x < n) ⊎ (n ≤ x) → IsRanked (ranked ++ one ∷ []) x
        which (inl y) = listed (c.every x y t)
        which (inr y) = (length ranked, omega (arith, long), ap (λ (q : RankedCall). q.call) (new (length ranked) refl) ∙ omega (arith, e))

-- and one that has no place is left out
pub ranked_same : (h : History) (ranked : List RankedCall) (n : ℕ) → AreRankedBelow h ranked n → (IsPlaced h n → ⊥) → AreRankedBelow h ranked (n + 1)
ranked_same h ranked n c s = record { ranks = c.ranks; below = λ i w. omega (arith, c.below i w); rises = c.rises; every = every }
  where
    every : (x : ℕ) → x < n + 1 → IsPlaced h x → IsRanked ranked x
    every x w t = which (cases_eq x n)
      where
        which : (x ≡ n) ⊎ (x ≡ n → ⊥) → IsRanked ranked x
        which (inl y) = absurd (s (subst (IsPlaced h) y t))
        which (inr y) = c.every x (omega arith) t

-- one rank is not after another
abbrev AtMost : Rank → Rank → Type 0
AtMost r s = Lex r.at s.at (Lex r.add s.add (r.tail ≤ s.tail))

-- this is transitive
at_most_chain : (r s t : Rank) → AtMost r s → AtMost s t → AtMost r t
at_most_chain r s t = lex_chain r.at s.at t.at _ _ _ (lex_chain r.add s.add t.add _ _ _ (λ x y. omega arith))

-- what a comparison of ranked calls says
not_after : (a b : RankedCall) → is_lt (ordering_then (ordering_then (nat_cmp b.rank.at a.rank.at) (ordering_then (nat_cmp b.rank.add a.rank.add) (nat_cmp b.rank.tail a.rank.tail))) (nat_cmp b.call a.call)) ≡ false → AtMost a.rank b.rank
not_after a b e = lex_from a.rank.at b.rank.at (ordering_then (nat_cmp b.rank.add a.rank.add) (nat_cmp b.rank.tail a.rank.tail)) (Lex a.rank.add b.rank.add (a.rank.tail ≤ b.rank.tail))
    (lex_from a.rank.add b.rank.add (nat_cmp b.rank.tail a.rank.tail) (a.rank.tail ≤ b.rank.tail) (last_from a.rank.tail b.rank.tail))
    (first_not_less (ordering_then (nat_cmp b.rank.at a.rank.at) (ordering_then (nat_cmp b.rank.add a.rank.add) (nat_cmp b.rank.tail a.rank.tail))) (nat_cmp b.call a.call) e)

-- neighbours that are not the wrong way round make a sorted list
sorted_far : (ranked : List RankedCall) → ((k : ℕ) → k + 1 < length ranked → AtMost (ranked_at ranked k).rank (ranked_at ranked (k + 1)).rank) → (i d : ℕ) → i + d + 1 < length ranked → AtMost (ranked_at ranked i).rank (ranked_at ranked (i + d + 1)).rank
sorted_far ranked f i zero w = subst (λ j. AtMost (ranked_at ranked i).rank (ranked_at ranked j).rank) (omega arith) (f i (omega arith))
sorted_far ranked f i (suc d) w = subst (λ j. AtMost (ranked_at ranked i).rank (ranked_at ranked j).rank) (omega arith)
    (at_most_chain (ranked_at ranked i).rank (ranked_at ranked (i + d + 1)).rank (ranked_at ranked (i + d + 1 + 1)).rank (sorted_far ranked f i d (omega arith)) (f (i + d + 1) (omega arith)))

-- what a place of the list of places holds
pub place_at : (ranked : List RankedCall) (i x : ℕ) → slice_get (places ranked) i ≡ Some x → (i < length ranked) × ((ranked_at ranked i).call ≡ x)
place_at ranked i x e = (within, sym (get_or-map (λ one. one.call) ranked i _ 0 within) ∙ get_or_from_slice_get (places ranked) i x 0 e)
  where
    within : i < length ranked
    within = omega (arith, slice_get_within (places ranked) i x e, length-map ranked (λ one. one.call))

-- and the other way round
pub at_place : (ranked : List RankedCall) (i : ℕ) → i < length ranked → slice_get (places ranked) i ≡ Some (ranked_at ranked i).call
at_place ranked i w = slice_get-get_or (places ranked) i 0 (omega (arith, w, length-map ranked (λ one. one.call))) ∙ ap Some (get_or-map (λ one. one.call) ranked i _ 0 w)

-- ranked calls that were sorted are the order
pub sorted_ranked : (h : History) → HistoryLaws h → (ranked sorted : List RankedCall) → AreRankedBelow h ranked (length h.calls) → IsPermutation ranked sorted →
    ((k : ℕ) (d : RankedCall) → 0 ≤ k → k + 1 < length sorted → is_lt (ordering_then (ordering_then (nat_cmp (get_or sorted (k + 1) d).rank.at (get_or sorted k d).rank.at)
    (ordering_then (nat_cmp (get_or sorted (k + 1) d).rank.add (get_or sorted k d).rank.add) (nat_cmp (get_or sorted (k + 1) d).rank.tail (get_or sorted k d).rank.tail)))
    (nat_cmp (get_or sorted (k + 1) d).call (get_or sorted k d).call)) ≡ false) → AreRanked h sorted
sorted_ranked h l ranked sorted c p s = record { is_order = record { placed = placed; every = every; rises = rises }; ranks = λ k d v. subst (λ (q : RankedCall). HasRank h q.call q.rank) (get_or_default sorted k _ d v) (ranks k v) }
  where
    ranks : (i : ℕ) → i < length sorted → HasRank h (ranked_at sorted i).call (ranked_at sorted i).rank
    ranks i w = All-permutation (λ (q : RankedCall). HasRank h q.call q.rank) ranked sorted p (λ k d v. subst (λ (q : RankedCall). HasRank h q.call q.rank) (get_or_default ranked k _ d v) (c.ranks k v)) i _ w

    near : (k : ℕ) → k + 1 < length sorted → AtMost (ranked_at sorted k).rank (ranked_at sorted (k + 1)).rank
    near k w = not_after (ranked_at sorted k) (ranked_at sorted (k + 1)) (s k (record { rank = record { at = 0; add = 0; tail = 0 }; call = 0 }) (omega arith) w)

    apart : (i j : ℕ) → i < j → j < length sorted → (ranked_at sorted i).call ≡ (ranked_at sorted j).call → ⊥
    apart = apart_moved (λ q. q.call) ranked sorted (record { rank = record { at = 0; add = 0; tail = 0 }; call = 0 }) p (λ i j w v e. omega (arith, c.rises i j w v, e))

    placed : (i x : ℕ) → slice_get (places sorted) i ≡ Some x → IsPlaced h x
    placed i x e = let q = place_at sorted i x e in subst (IsPlaced h) q.1 (rank_placed h (ranked_at sorted i).call (ranked_at sorted i).rank (ranks i q.0))

    every : (x : ℕ) → IsPlaced h x → (i : ℕ) × (slice_get (places sorted) i ≡ Some x)
    every x t = from (c.every x (placed_within h x t) t)
      where
        from : IsRanked ranked x → (i : ℕ) × (slice_get (places sorted) i ≡ Some x)
        from (i, w, e) = at (Contains-permutation ranked sorted (ranked_at ranked i) p (i, w, sym (get_or_default ranked i _ _ w)))
          where
            at : Contains sorted (ranked_at ranked i) → (i : ℕ) × (slice_get (places sorted) i ≡ Some x)
            at (j, v, f) = (j, at_place sorted j v ∙ ap Some (ap (λ (u : RankedCall). u.call) (get_or_default sorted j _ _ v ∙ f) ∙ e))

    rises : (i j x y : ℕ) (r t : Rank) → i < j → slice_get (places sorted) i ≡ Some x → slice_get (places sorted) j ≡ Some y → HasRank h x r → HasRank h y t → Below r t
    rises i j x y r t w e f a b = from (place_at sorted i x e) (place_at sorted j y f)
      where
        from : (i < length sorted) × ((ranked_at sorted i).call ≡ x) → (j < length sorted) × ((ranked_at sorted j).call ≡ y) → Below r t
        from (u, q) (v, z) = which (subst (λ o. AtMost r o) second (subst (λ o. AtMost o (ranked_at sorted j).rank) first far))
          where
            first : (ranked_at sorted i).rank ≡ r
            first = rank_unique h l x (ranked_at sorted i).rank r (subst (λ o. HasRank h o (ranked_at sorted i).rank) q (ranks i u)) a

            second : (ranked_at sorted j).rank ≡ t
            second = rank_unique h l y (ranked_at sorted j).rank t (subst (λ o. HasRank h o (ranked_at sorted j).rank) z (ranks j v)) b

            far : AtMost (ranked_at sorted i).rank (ranked_at sorted j).rank
            far = subst (λ o. AtMost (ranked_at sorted i).rank (ranked_at sorted o).rank) (omega arith) (sorted_far sorted near i (j - i - 1) (omega arith))

            differ : r.add ≡ t.add → r.tail ≡ t.tail → ⊥
            differ m n = apart i j w v (q ∙ ranks_differ h l x y r t a b m n ∙ sym z)

            last : (r.tail < t.tail) ⊎ (t.tail ≤ r.tail) → r.at ≡ t.at → r.add ≡ t.add → r.tail ≤ t.tail → Below r t
            last (inl o) k m n = inr (inr (k, m, o))
            last (inr o) k m n = absurd (differ m (omega arith))

            which : AtMost r t → Below r t
            which (inl k) = inl k
            which (inr (k, inl m)) = inr (inl (k, m))
            which (inr (k, inr (m, n))) = last (cases_lt r.tail t.tail) k m n

-- a ranked call is one of the history
pub ranked_within : (h : History) (ranked : List RankedCall) → AreRanked h ranked → (i : ℕ) → i < length ranked → (ranked_at ranked i).call < length h.calls
ranked_within h ranked a i w = placed_within h (ranked_at ranked i).call (rank_placed h (ranked_at ranked i).call (ranked_at ranked i).rank (a.ranks i _ w))

-- the points of ranked calls
pub points_zip : (h : History) (ranked : List RankedCall) → All (λ (one : RankedCall). HasRank h one.call one.rank) ranked → AllZip (IsPointOf h) (places ranked) (map (point_from h) ranked)
points_zip h [] a = tt
points_zip h (one ∷ ranked) a = (record { named = refl; rank = one.rank; has_rank = a 0 one (omega arith); position = refl }, points_zip h ranked (λ k d w. a (suc k) d (omega arith)))

-- are the points of the order
pub ranked_points : (h : History) (ranked : List RankedCall) → AreRanked h ranked → ArePoints h (map (point_from h) ranked)
ranked_points h ranked a = record { order = places ranked; is_order = a.is_order; each = points_zip h ranked a.ranks }

-- the names of calls that have these points
pub names_zip : (h : History) (xs : List ℕ) (points : List Point) → AllZip (IsPointOf h) xs points → map (λ (point : Point). point.call) points ≡ map (name_of h) xs
names_zip h [] [] a = refl
names_zip h [] (p ∷ points) a = absurd a
names_zip h (x ∷ xs) [] a = absurd a
names_zip h (x ∷ xs) (p ∷ points) a = let first = a.0.named in let rest = names_zip h xs points a.1 in cc

-- are the names of the order
pub point_names : (h : History) (points : List Point) → ArePoints h points → AreNames h (map (λ (point : Point). point.call) points)
point_names h points a = record { order = a.order; is_order = a.is_order; each = names_zip h a.order points a.each }
