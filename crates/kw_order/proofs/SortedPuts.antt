-- All stamped attempts are collected, and sorted; the deletes among them are picked out.
use Rattle.std.proofs.Common.{ℕ, zero, suc, ◌≡◌, ◌+◌, ◌-◌, ◌<◌, ◌≤◌, ◌⊎◌, inl, inr, List, [], ◌∷◌, ◌++◌, false, arith, refl, sym, ap, subst, ◌∙◌, nat_cmp, is_lt, get_or, length, length-append, IsPermutation, Contains, nat_eq, map}
use Rattle.std.specs.Ordering.{ordering_then}
use Rattle.std.specs.List.{IsDistinct}
use Rattle.std.proofs.lemmas.Bool.{cases_lt, cases_eq}
use Rattle.std.proofs.lemmas.Bool.Decides.{nat_tests}
use Rattle.std.proofs.lemmas.List.{get_or_append_left, get_or_push, get_or-map, get_or_default, length-map}
use Rattle.std.proofs.lemmas.List.Sorted.{IsPermutation-map, All-permutation, Contains-permutation}
use Rattle.std.proofs.lemmas.Map.Keys.{IsDistinct-from_apart, apart_from_distinct, IsDistinct-IsPermutation}
use Rattle.kw_core.specs.History.{History}
use Rattle.kw_core.specs.HistoryLaws.{HistoryLaws, IsPut}
use Rattle.kw_core.proofs.Attempts.{in_range}
use Rattle.kw_order.specs.declared.puts.StampedPut.{StampedPut}
use Rattle.kw_order.specs.Puts.{put_at, IsStampedPut, Precedes, AreAllPuts, IsListed, AreCollected}
use Rattle.kw_order.proofs.Keys.{same_add}
use Rattle.kw_order.proofs.Lexicographic.{Lex, lex_chain, last_from, lex_from}

-- what tells elements apart still does once they changed places
pub apart_moved : {X : Type 0} (f : X → ℕ) (xs ys : List X) (d : X) → IsPermutation xs ys → ((i j : ℕ) → i < j → j < length xs → f (get_or xs i d) ≡ f (get_or xs j d) → ⊥) → (i j : ℕ) → i < j → j < length ys → f (get_or ys i d) ≡ f (get_or ys j d) → ⊥
apart_moved f xs ys d p apart i j w v e = differ (apart_from_distinct nat_eq (map f ys) i j 0 (IsDistinct-IsPermutation nat_eq flips (map f xs) (map f ys) (IsPermutation-map f xs ys p) before) w (omega (arith, v, length-map ys f)))
  where
    flips : (x y : ℕ) → nat_eq x y ≡ nat_eq y x
    flips x y = grind (arith, nat_tests)

    not_equal : (x y : ℕ) → (x ≡ y → ⊥) → nat_eq x y ≡ false
    not_equal x y n = grind (arith, nat_tests)

    before : IsDistinct nat_eq (map f xs)
    before = IsDistinct-from_apart nat_eq (map f xs) (λ a b c u t. not_equal _ _ (λ q. let s : b < length xs = omega (arith, t, length-map xs f) in apart a b u s (sym (get_or-map f xs a d c (omega arith)) ∙ q ∙ get_or-map f xs b d c s)))

    differ : nat_eq (get_or (map f ys) i 0) (get_or (map f ys) j 0) ≡ false → ⊥
    differ q = let z : get_or (map f ys) i 0 ≡ get_or (map f ys) j 0 = get_or-map f ys i d 0 (omega arith) ∙ e ∙ sym (get_or-map f ys j d 0 v) in grind (arith, nat_tests)

-- one more stamped attempt is collected
pub collected_more : (h : History) (puts : List StampedPut) (n : ℕ) (put : StampedPut) → AreCollected h puts n → IsStampedPut h put → put.place ≡ n → AreCollected h (puts ++ put ∷ []) (n + 1)
collected_more h puts n put c s e = record { each = each; below = below; rises = rises; every = every }
  where
    old : (i : ℕ) → i < length puts → put_at (puts ++ put ∷ []) i ≡ put_at puts i
    old i w = get_or_append_left puts (put ∷ []) _ i w

    new : (i : ℕ) → length puts ≡ i → put_at (puts ++ put ∷ []) i ≡ put
    new i w = get_or_push puts put _ i w

    long : length (puts ++ put ∷ []) ≡ length puts + 1
    long = omega (arith, length-append puts (put ∷ []))

    each : (i : ℕ) → i < length (puts ++ put ∷ []) → IsStampedPut h (put_at (puts ++ put ∷ []) i)
    each i w = which (cases_lt i (length puts))
      where
        which : (i < length puts) ⊎ (length puts ≤ i) → IsStampedPut h (put_at (puts ++ put ∷ []) i)
        which (inl x) = subst (IsStampedPut h) (sym (old i x)) (c.each i x)
        which (inr x) = subst (IsStampedPut h) (sym (new i (omega (arith, long)))) s

    below : (i : ℕ) → i < length (puts ++ put ∷ []) → (put_at (puts ++ put ∷ []) i).place < n + 1
    below i w = which (cases_lt i (length puts))
      where
        which : (i < length puts) ⊎ (length puts ≤ i) → (put_at (puts ++ put ∷ []) i).place < n + 1
        which (inl x) = omega (arith, ap (λ (q : StampedPut). q.place) (old i x), c.below i x)
        which (inr x) = omega (arith, ap (λ (q : StampedPut). q.place) (new i (omega (arith, long))), e)

    rises : (i j : ℕ) → i < j → j < length (puts ++ put ∷ []) → (put_at (puts ++ put ∷ []) i).place < (put_at (puts ++ put ∷ []) j).place
    rises i j w v = which (cases_lt j (length puts))
      where
        early : i < length puts
        early = omega (arith, long)

        which : (j < length puts) ⊎ (length puts ≤ j) → (put_at (puts ++ put ∷ []) i).place < (put_at (puts ++ put ∷ []) j).place
        which (inl x) = omega (arith, ap (λ (q : StampedPut). q.place) (old i early), ap (λ (q : StampedPut). q.place) (old j x), c.rises i j w x)
        which (inr x) = omega (arith, ap (λ (q : StampedPut). q.place) (old i early), ap (λ (q : StampedPut). q.place) (new j (omega (arith, long))), c.below i early, e)

    every : (p : ℕ) → p < n + 1 → IsPut h p → IsListed (puts ++ put ∷ []) p
    every p w t = which (cases_lt p n)
      where
        listed : IsListed puts p → IsListed (puts ++ put ∷ []) p
        listed (i, x, q) = (i, omega (arith, long), ap (λ (q : StampedPut). q.place) (old i x) ∙ q)

        which : (p < n) ⊎ (n ≤ p) → IsListed (puts ++ put ∷ []) p
        which (inl x) = listed (c.every p x t)
        which (inr x) = (length puts, omega (arith, long), ap (λ (q : StampedPut). q.place) (new (length puts) refl) ∙ omega (arith, e))

-- and one that is not stamped is left out
pub collected_same : (h : History) (puts : List StampedPut) (n : ℕ) → AreCollected h puts n → (IsPut h n → ⊥) → AreCollected h puts (n + 1)
collected_same h puts n c s = record { each = c.each; below = λ i w. omega (arith, c.below i w); rises = c.rises; every = every }
  where
    every : (p : ℕ) → p < n + 1 → IsPut h p → IsListed puts p
    every p w t = which (cases_eq p n)
      where
        which : (p ≡ n) ⊎ (p ≡ n → ⊥) → IsListed puts p
        which (inl x) = absurd (s (subst (IsPut h) x t))
        which (inr x) = c.every p (omega arith) t

-- one entry is not after another
abbrev AtMost : StampedPut → StampedPut → Type 0
AtMost s t = Lex s.key t.key (Lex s.version t.version (Lex s.add t.add (s.place ≤ t.place)))

-- this is transitive
at_most_chain : (s t u : StampedPut) → AtMost s t → AtMost t u → AtMost s u
at_most_chain s t u = lex_chain s.key t.key u.key _ _ _ (lex_chain s.version t.version u.version _ _ _ (lex_chain s.add t.add u.add _ _ _ (λ x y. omega arith)))

-- neighbours that are not the wrong way round make a sorted list
sorted_far : (puts : List StampedPut) → ((k : ℕ) → k + 1 < length puts → AtMost (put_at puts k) (put_at puts (k + 1))) → (i d : ℕ) → i + d + 1 < length puts → AtMost (put_at puts i) (put_at puts (i + d + 1))
sorted_far puts f i zero w = subst (λ j. AtMost (put_at puts i) (put_at puts j)) (omega arith) (f i (omega arith))
sorted_far puts f i (suc d) w = subst (λ j. AtMost (put_at puts i) (put_at puts j)) (omega arith) (at_most_chain (put_at puts i) (put_at puts (i + d + 1)) (put_at puts (i + d + 1 + 1)) (sorted_far puts f i d (omega arith)) (f (i + d + 1) (omega arith)))

-- collected entries that were sorted are all puts in their order
pub sorted_collected : (h : History) → HistoryLaws h → (puts sorted : List StampedPut) → AreCollected h puts (length h.attempts) → IsPermutation puts sorted →
    ((k : ℕ) (d : StampedPut) → 0 ≤ k → k + 1 < length sorted → is_lt (ordering_then (nat_cmp (get_or sorted (k + 1) d).key (get_or sorted k d).key) (ordering_then (nat_cmp (get_or sorted (k + 1) d).version (get_or sorted k d).version)
    (ordering_then (nat_cmp (get_or sorted (k + 1) d).add (get_or sorted k d).add) (nat_cmp (get_or sorted (k + 1) d).place (get_or sorted k d).place)))) ≡ false) → AreAllPuts h sorted
sorted_collected h l puts sorted c p s = record { are = record { each = each; rises = rises }; every = every }
  where
    no_put : StampedPut
    no_put = record { key = 0; version = 0; add = 0; place = 0 }

    each : (i : ℕ) → i < length sorted → IsStampedPut h (put_at sorted i)
    each i w = All-permutation (IsStampedPut h) puts sorted p (λ k d v. subst (IsStampedPut h) (get_or_default puts k _ d v) (c.each k v)) i _ w

    near : (k : ℕ) → k + 1 < length sorted → AtMost (put_at sorted k) (put_at sorted (k + 1))
    near k w = lex_from _ _ _ _ (lex_from _ _ _ _ (lex_from _ _ _ _ (last_from _ _))) (s k (record { key = 0; version = 0; add = 0; place = 0 }) (omega arith) w)

    apart : (i j : ℕ) → i < j → j < length sorted → (put_at sorted i).place ≡ (put_at sorted j).place → ⊥
    apart = apart_moved (λ q. q.place) puts sorted (record { key = 0; version = 0; add = 0; place = 0 }) p (λ i j w v e. omega (arith, c.rises i j w v, e))

    rises : (i j : ℕ) → i < j → j < length sorted → Precedes (put_at sorted i) (put_at sorted j)
    rises i j w v = which (subst (λ q. AtMost (put_at sorted i) (put_at sorted q)) (omega arith) (sorted_far sorted near i (j - i - 1) (omega arith)))
      where
        a : IsStampedPut h (put_at sorted i)
        a = each i (omega arith)

        b : IsStampedPut h (put_at sorted j)
        b = each j v

        which : AtMost (put_at sorted i) (put_at sorted j) → Precedes (put_at sorted i) (put_at sorted j)
        which (inl x) = inl x
        which (inr (k, inl x)) = inr (k, inl x)
        which (inr (k, inr (m, inl x))) = inr (k, inr (m, x))
        which (inr (k, inr (m, inr (n, x)))) = absurd (apart i j w v (same_add h l (put_at sorted i).place (put_at sorted j).place a.is_put b.is_put (sym a.add ∙ n ∙ b.add)))

    every : (q : ℕ) → IsPut h q → IsListed sorted q
    every q t = from (c.every q (in_range h q t) t)
      where
        from : IsListed puts q → IsListed sorted q
        from (i, w, e) = at (Contains-permutation puts sorted (put_at puts i) p (i, w, sym (get_or_default puts i _ _ w)))
          where
            at : Contains sorted (put_at puts i) → IsListed sorted q
            at (j, v, f) = (j, v, ap (λ (u : StampedPut). u.place) (get_or_default sorted j _ _ v ∙ f) ∙ e)
