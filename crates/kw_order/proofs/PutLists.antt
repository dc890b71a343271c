-- The puts of a history in a list: which stand before which, the next one, and the point of each
-- from those after it.
use Rattle.std.proofs.Common.{ℕ, ◌≡◌, ◌+◌, ◌<◌, ◌≤◌, ◌⊎◌, inl, inr, List, Some, arith, sym, ◌∙◌, ap, subst, length, get_or, min, set, ◌-◌}
use Rattle.std.proofs.lemmas.Bool.{cases_order, cases_lt, cases_eq}
use Rattle.std.proofs.lemmas.List.{get_or_read, get_or-set_same, get_or-set_other, length-set}
use Rattle.kw_core.specs.History.{History, attempt}
use Rattle.kw_core.specs.HistoryLaws.{HistoryLaws, IsPutOf, StandsBefore}
use Rattle.kw_core.proofs.Attempts.{in_range}
use Rattle.kw_order.specs.Order.{IsPoint, IsNext}
use Rattle.kw_order.specs.declared.puts.StampedPut.{StampedPut}
use Rattle.kw_order.specs.Puts.{put_at, Precedes, ArePuts, AreAllPuts, IsListed, HavePoints, HavePointsFrom, IsUntil, CanSplit}
use Rattle.kw_order.proofs.PutPoints.{point_order}
use Rattle.kw_order.proofs.Keys.{not_upto, IsAfter, past_gap}
use Rattle.kw_order.proofs.NextPoints.{point_last, point_alone, point_with_next}

-- a listed put is an attempt of the history, and a put of its key
pub place_within : (h : History) (puts : List StampedPut) → ArePuts h puts → (i : ℕ) → i < length puts → (put_at puts i).place < length h.attempts
place_within h puts a i w = in_range h (put_at puts i).place (a.each i w).is_put

-- and is a put of its key
pub listed_put : (h : History) (puts : List StampedPut) → ArePuts h puts → (i : ℕ) → i < length puts → IsPutOf h (put_at puts i).key (put_at puts i).place
listed_put h puts a i w = record { is_put = (a.each i w).is_put; key = sym (a.each i w).key }

-- of two listed puts of one key the earlier one stands before the later one
pub list_before : (h : History) (puts : List StampedPut) → ArePuts h puts → (i j : ℕ) → i < j → j < length puts → (put_at puts i).key ≡ (put_at puts j).key → StandsBefore h (put_at puts i).place (put_at puts j).place
list_before h puts a i j w v k = which (a.rises i j w v)
  where
    s : i < length puts
    s = omega arith

    which : Precedes (put_at puts i) (put_at puts j) → StandsBefore h (put_at puts i).place (put_at puts j).place
    which (inl x) = absurd (omega (arith, x, k))
    which (inr (e, inl x)) = inl (omega (arith, x, (a.each i s).version, (a.each j v).version))
    which (inr (e, inr (y, x))) = inr (omega (arith, y, (a.each i s).version, (a.each j v).version), omega (arith, x, (a.each i s).add, (a.each j v).add))

-- and the other way round
pub listed_before : (h : History) (puts : List StampedPut) → ArePuts h puts → (i j : ℕ) → i < length puts → j < length puts → (put_at puts i).key ≡ (put_at puts j).key → StandsBefore h (put_at puts i).place (put_at puts j).place → i < j
listed_before h puts a i j w v k b = which (cases_order i j)
  where
    which : (i ≡ j) ⊎ ((i < j) ⊎ (j < i)) → i < j
    which (inl e) = let x : StandsBefore h (put_at puts j).place (put_at puts j).place = subst (λ q. StandsBefore h (put_at puts q).place (put_at puts j).place) e b in absurd (omega arith)
    which (inr (inl x)) = x
    which (inr (inr x)) = let y = list_before h puts a j i x w (sym k) in absurd (omega (arith, y, b))

-- keys do not fall along the list
pub keys_rise : (h : History) (puts : List StampedPut) → ArePuts h puts → (i j : ℕ) → i ≤ j → j < length puts → (put_at puts i).key ≤ (put_at puts j).key
keys_rise h puts a i j w v = which (cases_lt i j)
  where
    at : Precedes (put_at puts i) (put_at puts j) → (put_at puts i).key ≤ (put_at puts j).key
    at (inl x) = omega arith
    at (inr x) = omega (arith, x.0)

    which : (i < j) ⊎ (j ≤ i) → (put_at puts i).key ≤ (put_at puts j).key
    which (inl x) = at (a.rises i j x v)
    which (inr x) = let e : i ≡ j = omega arith in omega (arith, ap (λ q. (put_at puts q).key) e)

-- a put that stands after a listed one of its key is listed after it
pub after_listed : (h : History) → HistoryLaws h → (puts : List StampedPut) → AreAllPuts h puts → (i : ℕ) → i < length puts → (u : ℕ) → IsAfter h (put_at puts i).key (Some (put_at puts i).place) u →
    (j : ℕ) × (i < j) × (j < length puts) × ((put_at puts j).place ≡ u) × ((put_at puts j).key ≡ (put_at puts i).key)
after_listed h l puts a i w u f = from (a.every u f.put.is_put)
  where
    from : IsListed puts u → (j : ℕ) × (i < j) × (j < length puts) × ((put_at puts j).place ≡ u) × ((put_at puts j).key ≡ (put_at puts i).key)
    from (j, v, e) = (j, listed_before h puts a.are i j w v (sym key) before, v, e, key)
      where
        key : (put_at puts j).key ≡ (put_at puts i).key
        key = (a.are.each j v).key ∙ ap (λ q. (attempt h q).key) e ∙ f.put.key

        before : StandsBefore h (put_at puts i).place (put_at puts j).place
        before = subst (λ q. StandsBefore h (put_at puts i).place q) (sym e) (past_gap h l (put_at puts i).place u (a.are.each i w).is_put f.put.is_put f.after)

-- the listed put after a put of its key is the next one
pub next_listed : (h : History) → HistoryLaws h → (puts : List StampedPut) → AreAllPuts h puts → (i : ℕ) → i + 1 < length puts → (put_at puts (i + 1)).key ≡ (put_at puts i).key →
    IsNext h (put_at puts i).key (Some (put_at puts i).place) (put_at puts (i + 1)).place
next_listed h l puts a i w k = record {
  is_put = record { is_put = (a.are.each (i + 1) w).is_put; key = sym (a.are.each (i + 1) w).key ∙ k };
  after = not_upto h (put_at puts i).place (put_at puts (i + 1)).place (list_before h puts a.are i (i + 1) (omega arith) w (sym k));
  first = λ u t n. which u (after_listed h l puts a i (omega arith) u (record { put = t; after = n }));
}
  where
    which : (u : ℕ) → ((j : ℕ) × (i < j) × (j < length puts) × ((put_at puts j).place ≡ u) × ((put_at puts j).key ≡ (put_at puts i).key)) → (u ≡ (put_at puts (i + 1)).place) ⊎ StandsBefore h (put_at puts (i + 1)).place u
    which u (j, x, v, e, f) = at (cases_lt (i + 1) j)
      where
        at : (i + 1 < j) ⊎ (j ≤ i + 1) → (u ≡ (put_at puts (i + 1)).place) ⊎ StandsBefore h (put_at puts (i + 1)).place u
        at (inl y) = inr (subst (λ q. StandsBefore h (put_at puts (i + 1)).place q) e (list_before h puts a.are (i + 1) j y v (k ∙ sym f)))
        at (inr y) = let z : j ≡ i + 1 = omega arith in inl (sym e ∙ ap (λ q. (put_at puts q).place) z)

-- the last listed put of its key is the last one
none_after : (h : History) → HistoryLaws h → (puts : List StampedPut) → AreAllPuts h puts → (i : ℕ) → i < length puts → (i + 1 < length puts → (put_at puts (i + 1)).key ≡ (put_at puts i).key → ⊥) →
    (u : ℕ) → IsAfter h (put_at puts i).key (Some (put_at puts i).place) u → ⊥
none_after h l puts a i w n u f = which (after_listed h l puts a i w u f)
  where
    which : ((j : ℕ) × (i < j) × (j < length puts) × ((put_at puts j).place ≡ u) × ((put_at puts j).key ≡ (put_at puts i).key)) → ⊥
    which (j, x, v, e, k) = let y = keys_rise h puts a.are i (i + 1) (omega arith) (omega arith) in let z = keys_rise h puts a.are (i + 1) j (omega arith) v in n (omega arith) (omega (arith, y, z, k))

-- the point of the last put of its key
pub last_point : (h : History) → HistoryLaws h → (puts : List StampedPut) → AreAllPuts h puts → (i : ℕ) → i < length puts → (i + 1 < length puts → (put_at puts (i + 1)).key ≡ (put_at puts i).key → ⊥) →
    IsPoint h (put_at puts i).place (attempt h (put_at puts i).place).load
last_point h l puts a i w n = point_last h l (put_at puts i).key (put_at puts i).place (listed_put h puts a.are i w) (none_after h l puts a i w n)

-- of a put whose next one has another version, or another key
pub other_point : (h : History) → HistoryLaws h → (puts : List StampedPut) → AreAllPuts h puts → (i : ℕ) → i + 1 < length puts →
    ((put_at puts (i + 1)).key ≡ (put_at puts i).key → (put_at puts (i + 1)).version ≡ (put_at puts i).version → ⊥) → IsPoint h (put_at puts i).place (attempt h (put_at puts i).place).load
other_point h l puts a i w n = which (cases_eq (put_at puts (i + 1)).key (put_at puts i).key)
  where
    s : i < length puts
    s = omega arith

    which : ((put_at puts (i + 1)).key ≡ (put_at puts i).key) ⊎ ((put_at puts (i + 1)).key ≡ (put_at puts i).key → ⊥) → IsPoint h (put_at puts i).place (attempt h (put_at puts i).place).load
    which (inr m) = last_point h l puts a i s (λ v. m)
    which (inl k) = point_alone h l (put_at puts i).key (put_at puts i).place (put_at puts (i + 1)).place (listed_put h puts a.are i s) (next_listed h l puts a i w k) (above (list_before h puts a.are i (i + 1) (omega arith) w (sym k)))
      where
        above : StandsBefore h (put_at puts i).place (put_at puts (i + 1)).place → (attempt h (put_at puts i).place).version < (attempt h (put_at puts (i + 1)).place).version
        above (inl x) = x
        above (inr x) = absurd (n k ((a.are.each (i + 1) w).version ∙ sym x.0 ∙ sym (a.are.each i s).version))

-- and of one whose next one has its version
pub next_point : (h : History) → HistoryLaws h → (puts : List StampedPut) → AreAllPuts h puts → (i b : ℕ) → i + 1 < length puts → (put_at puts (i + 1)).key ≡ (put_at puts i).key → (put_at puts (i + 1)).version ≡ (put_at puts i).version →
    IsPoint h (put_at puts (i + 1)).place b → IsPoint h (put_at puts i).place (min (attempt h (put_at puts i).place).load b)
next_point h l puts a i b w k v p = point_with_next h l (put_at puts i).key (put_at puts i).place (put_at puts (i + 1)).place b (listed_put h puts a.are i (omega arith)) (next_listed h l puts a i w k)
    (sym (a.are.each (i + 1) w).version ∙ v ∙ (a.are.each i (omega arith)).version) p

-- keys and points do not fall along the list, so it can be split
pub can_split : (h : History) → HistoryLaws h → (puts : List StampedPut) (points : List ℕ) → ArePuts h puts → HavePoints h points → (key at : ℕ) → CanSplit puts points key at
can_split h l puts points a b key at = record { within = λ i w. omega (arith, place_within h puts a i w, b.size); down = down }
  where
    down : (i j : ℕ) → i ≤ j → j < length puts → IsUntil puts points key at j → IsUntil puts points key at i
    down i j w v u = which (cases_lt i j)
      where
        s : i < length puts
        s = omega arith

        moved : Precedes (put_at puts i) (put_at puts j) → ((put_at puts j).key < key) ⊎ (((put_at puts j).key ≡ key) × (get_or points (put_at puts j).place 0 ≤ at)) → i < j → IsUntil puts points key at i
        moved (inl x) (inl y) z = inl (omega arith)
        moved (inr x) (inl y) z = inl (omega (arith, x.0))
        moved (inl x) (inr y) z = inl (omega (arith, y.0))
        moved (inr x) (inr y) z = let o = point_order h l (put_at puts i).place (put_at puts j).place _ _ (a.each i s).is_put (a.each j v).is_put (sym (a.each i s).key ∙ x.0 ∙ (a.each j v).key) (list_before h puts a i j z v x.0) (b.each _ (a.each i s).is_put) (b.each _ (a.each j v).is_put) in
            inr (x.0 ∙ y.0, omega (arith, o.0, y.1))

        which : (i < j) ⊎ (j ≤ i) → IsUntil puts points key at i
        which (inl x) = moved (a.rises i j x v) u x
        which (inr x) = let e : j ≡ i = omega arith in subst (λ q. IsUntil puts points key at q) e u

-- what the code reads at a place of the list of puts
pub put_read : (puts : List StampedPut) (i : ℕ) (put : StampedPut) → put ≡ get_or puts i put → i < length puts → put ≡ put_at puts i
put_read puts i put e w = get_or_read puts i put w e (record { key = 0; version = 0; add = 0; place = 0 })

-- two listed puts are two attempts
pub places_differ : (h : History) (puts : List StampedPut) → ArePuts h puts → (i j : ℕ) → i < j → j < length puts → (put_at puts i).place ≡ (put_at puts j).place → ⊥
places_differ h puts a i j w v e = which (a.rises i j w v)
  where
    s : i < length puts
    s = omega arith

    which : Precedes (put_at puts i) (put_at puts j) → ⊥
    which p = omega (arith, p, (a.each i s).key, (a.each j v).key, (a.each i s).version, (a.each j v).version, (a.each i s).add, (a.each j v).add, ap (λ q. (attempt h q).key) e, ap (λ q. (attempt h q).version) e, ap (λ q. (attempt h q).add) e)

-- the point of one more put, from the end of the list, is written
pub one_more_point : (h : History) (puts : List StampedPut) → ArePuts h puts → (points : List ℕ) (n a : ℕ) → 0 < n → n ≤ length puts → HavePointsFrom h puts points n → IsPoint h (put_at puts (n - 1)).place a → HavePointsFrom h puts (set points (put_at puts (n - 1)).place a) (n - 1)
one_more_point h puts are points n a w v f p = record { size = length-set points (put_at puts (n - 1)).place a ∙ f.size; each = each }
  where
    within : (put_at puts (n - 1)).place < length points
    within = omega (arith, place_within h puts are (n - 1) (omega arith), f.size)

    each : (i : ℕ) → n - 1 ≤ i → i < length puts → IsPoint h (put_at puts i).place (get_or (set points (put_at puts (n - 1)).place a) (put_at puts i).place 0)
    each i x y = which (cases_lt (n - 1) i)
      where
        which : (n - 1 < i) ⊎ (i ≤ n - 1) → IsPoint h (put_at puts i).place (get_or (set points (put_at puts (n - 1)).place a) (put_at puts i).place 0)
        which (inl z) = rw (get_or-set_other points (put_at puts (n - 1)).place (put_at puts i).place a 0 (λ e. places_differ h puts are (n - 1) i z y (sym e))) (f.each i (omega arith) y)
        which (inr z) = let e : n - 1 ≡ i = omega arith in subst (λ q. IsPoint h (put_at puts q).place (get_or (set points (put_at puts (n - 1)).place a) (put_at puts q).place 0)) e (rw (get_or-set_same points (put_at puts (n - 1)).place a 0 within) p)
