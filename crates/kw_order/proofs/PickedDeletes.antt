-- The deletes are picked out of the sorted puts, in the same order.
use Rattle.std.proofs.Common.{ℕ, ◌≡◌, ◌+◌, ◌<◌, ◌≤◌, ◌⊎◌, inl, inr, List, [], ◌∷◌, ◌++◌, None, arith, refl, sym, ap, subst, ◌∙◌, length, length-append}
use Rattle.std.proofs.lemmas.Bool.{cases_lt, cases_eq}
use Rattle.std.proofs.lemmas.List.{get_or_append_left, get_or_push}
use Rattle.kw_core.specs.History.{History, attempt}
use Rattle.kw_core.specs.HistoryLaws.{IsPut}
use Rattle.kw_order.specs.declared.puts.StampedPut.{StampedPut}
use Rattle.kw_order.specs.Puts.{put_at, IsStampedPut, Precedes, AreAllPuts, AreAllDeletes, IsListed, ArePicked}

-- one more delete is picked
pub picked_more : (h : History) (puts deletes : List StampedPut) (n : ℕ) → AreAllPuts h puts → n < length puts → ArePicked h puts deletes n → (attempt h (put_at puts n).place).value ≡ None → ArePicked h puts (deletes ++ put_at puts n ∷ []) (n + 1)
picked_more h puts deletes n a w c s = record { are = record { each = each; rises = rises }; delete = delete; before = before; every = every }
  where
    more : List StampedPut
    more = deletes ++ put_at puts n ∷ []

    old : (i : ℕ) → i < length deletes → put_at (deletes ++ put_at puts n ∷ []) i ≡ put_at deletes i
    old i w = get_or_append_left deletes (put_at puts n ∷ []) _ i w

    new : (i : ℕ) → length deletes ≡ i → put_at (deletes ++ put_at puts n ∷ []) i ≡ put_at puts n
    new i w = get_or_push deletes (put_at puts n) _ i w

    long : length (deletes ++ put_at puts n ∷ []) ≡ length deletes + 1
    long = omega (arith, length-append deletes (put_at puts n ∷ []))

    -- what holds of the old ones and of the new one
    both : (P : StampedPut → Type 0) → ((i : ℕ) → i < length deletes → P (put_at deletes i)) → P (put_at puts n) → (i : ℕ) → i < length (deletes ++ put_at puts n ∷ []) → P (put_at (deletes ++ put_at puts n ∷ []) i)
    both P f p i v = which (cases_lt i (length deletes))
      where
        which : (i < length deletes) ⊎ (length deletes ≤ i) → P (put_at (deletes ++ put_at puts n ∷ []) i)
        which (inl x) = subst P (sym (old i x)) (f i x)
        which (inr x) = subst P (sym (new i (omega (arith, long)))) p

    each : (i : ℕ) → i < length (deletes ++ put_at puts n ∷ []) → IsStampedPut h (put_at (deletes ++ put_at puts n ∷ []) i)
    each = both (IsStampedPut h) c.are.each (a.are.each n w)

    delete : (i : ℕ) → i < length (deletes ++ put_at puts n ∷ []) → (attempt h (put_at (deletes ++ put_at puts n ∷ []) i).place).value ≡ None
    delete = both (λ q. (attempt h q.place).value ≡ None) c.delete s

    before : (i : ℕ) → i < length (deletes ++ put_at puts n ∷ []) → (j : ℕ) × (j < n + 1) × (put_at (deletes ++ put_at puts n ∷ []) i ≡ put_at puts j)
    before = both (λ q. (j : ℕ) × (j < n + 1) × (q ≡ put_at puts j)) (λ i v. let b = c.before i v in (b.0, omega (arith, b.1), b.2)) (n, omega arith, refl)

    rises : (i j : ℕ) → i < j → j < length (deletes ++ put_at puts n ∷ []) → Precedes (put_at (deletes ++ put_at puts n ∷ []) i) (put_at (deletes ++ put_at puts n ∷ []) j)
    rises i j v x = which (cases_lt j (length deletes))
      where
        early : i < length deletes
        early = omega (arith, long)

        last : (k : ℕ) × (k < n) × (put_at deletes i ≡ put_at puts k) → Precedes (put_at deletes i) (put_at puts n)
        last (k, y, e) = subst (λ q. Precedes q (put_at puts n)) (sym e) (a.are.rises k n y w)

        which : (j < length deletes) ⊎ (length deletes ≤ j) → Precedes (put_at (deletes ++ put_at puts n ∷ []) i) (put_at (deletes ++ put_at puts n ∷ []) j)
        which (inl y) = subst (λ q. Precedes q (put_at (deletes ++ put_at puts n ∷ []) j)) (sym (old i early)) (subst (Precedes (put_at deletes i)) (sym (old j y)) (c.are.rises i j v y))
        which (inr y) = subst (λ q. Precedes q (put_at (deletes ++ put_at puts n ∷ []) j)) (sym (old i early)) (subst (Precedes (put_at deletes i)) (sym (new j (omega (arith, long)))) (last (c.before i early)))

    every : (j : ℕ) → j < n + 1 → (attempt h (put_at puts j).place).value ≡ None → IsListed (deletes ++ put_at puts n ∷ []) (put_at puts j).place
    every j v t = which (cases_lt j n)
      where
        listed : IsListed deletes (put_at puts j).place → IsListed (deletes ++ put_at puts n ∷ []) (put_at puts j).place
        listed (i, x, q) = (i, omega (arith, long), ap (λ (q : StampedPut). q.place) (old i x) ∙ q)

        which : (j < n) ⊎ (n ≤ j) → IsListed (deletes ++ put_at puts n ∷ []) (put_at puts j).place
        which (inl x) = listed (c.every j x t)
        which (inr x) = let e : n ≡ j = omega arith in (length deletes, omega (arith, long), ap (λ (q : StampedPut). q.place) (new (length deletes) refl) ∙ ap (λ q. (put_at puts q).place) e)

-- and a put that is none is left out
pub picked_same : (h : History) (puts deletes : List StampedPut) (n : ℕ) → ArePicked h puts deletes n → ((attempt h (put_at puts n).place).value ≡ None → ⊥) → ArePicked h puts deletes (n + 1)
picked_same h puts deletes n c s = record { are = c.are; delete = c.delete; before = λ i w. let b = c.before i w in (b.0, omega (arith, b.1), b.2); every = every }
  where
    every : (j : ℕ) → j < n + 1 → (attempt h (put_at puts j).place).value ≡ None → IsListed deletes (put_at puts j).place
    every j w t = which (cases_eq j n)
      where
        which : (j ≡ n) ⊎ (j ≡ n → ⊥) → IsListed deletes (put_at puts j).place
        which (inl x) = absurd (s (subst (λ q. (attempt h (put_at puts q).place).value ≡ None) x t))
        which (inr x) = c.every j (omega arith) t

-- at the end they are all deletes
pub picked_all : (h : History) (puts deletes : List StampedPut) → AreAllPuts h puts → ArePicked h puts deletes (length puts) → AreAllDeletes h deletes
picked_all h puts deletes a c = record { are = c.are; delete = c.delete; every = every }
  where
    every : (p : ℕ) → IsPut h p → (attempt h p).value ≡ None → IsListed deletes p
    every p t v = at (a.every p t)
      where
        at : IsListed puts p → IsListed deletes p
        at (j, w, e) = subst (IsListed deletes) e (c.every j w (ap (λ q. (attempt h q).value) e ∙ v))
