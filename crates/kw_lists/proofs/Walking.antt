-- A walk along the links reaches no cell twice.
use Rattle.std.proofs.Common.{ℕ, ◌≡◌, ◌⊎◌, inl, inr, ◌+◌, ◌<◌, ◌≤◌, ◌==◌, ◌&&◌, ◌||◌, Bool, true, false, Option, Some, None, arith, refl, sym, subst}
use Rattle.kw_lists.specs.Counts.{count_below}
use Rattle.kw_lists.specs.Rows.{Row, Stands, stands, IsBehind, IsOn}
use Rattle.kw_lists.specs.Changes.{Leaves}
use Rattle.kw_lists.specs.Walks.{IsGoneBy, goes_by, has_gone_by, IsWalking}
use Rattle.kw_lists.proofs.Orders.{stands_trans, stands_apart, stands_self, stands_yes, stands_is}
use Rattle.kw_lists.proofs.Counting.{count_most, count_less, count_grows, count_gains}
use Rattle.kw_lists.proofs.Same.{stands_same}
use Rattle.kw_lists.proofs.Leaving.{on_left}

-- what was gone by is not behind
pub not_behind : (r : Row) (at : Option ℕ) (d : ℕ) → IsGoneBy r at d → IsBehind r at d → ⊥
not_behind r None d p b = p
not_behind r (Some a) d (inl q) b = stands_self r a (subst (Stands r a) q b)
not_behind r (Some a) d (inr q) b = stands_apart r d a q b

-- and stands before what is behind
pub gone_by_next : (r : Row) (at : Option ℕ) (c d : ℕ) → IsBehind r at c → IsGoneBy r at d → IsGoneBy r (Some c) d
gone_by_next r None c d b p = absurd p
gone_by_next r (Some a) c d b (inl q) = inr (subst (λ y. Stands r y c) (sym q) b)
gone_by_next r (Some a) c d b (inr q) = inr (stands_trans r d a c q b)

-- The test.

-- two tests joined
or_left : (a b : Bool) → a ≡ true → a || b ≡ true
or_left a b e = rw e

or_right : (a b : Bool) → b ≡ true → a || b ≡ true
or_right true b e = refl
or_right false b e = e

or_split : (a b : Bool) → a || b ≡ true → (a ≡ true) ⊎ (b ≡ true)
or_split true b e = inl refl
or_split false b e = inr e

and_both : (a b : Bool) → a ≡ true → b ≡ true → a && b ≡ true
and_both a b e f = rw (e, f)

and_first : (a b : Bool) → a && b ≡ true → a ≡ true
and_first true b e = refl
and_first false b e = e

and_second : (a b : Bool) → a && b ≡ true → b ≡ true
and_second true b e = e
and_second false b e = absurd (cc)

-- the test holds of what was gone by
goes_by_is : (r : Row) (at : Option ℕ) (d : ℕ) → IsGoneBy r at d → goes_by r at d ≡ true
goes_by_is r None d p = absurd p
goes_by_is r (Some a) d (inl q) = or_left (d == a) (stands r d a) (grind arith)
goes_by_is r (Some a) d (inr q) = or_right (d == a) (stands r d a) (stands_is r d a q)

-- and of nothing else
goes_by_yes : (r : Row) (at : Option ℕ) (d : ℕ) → goes_by r at d ≡ true → IsGoneBy r at d
goes_by_yes r None d e = let k : false ≡ true = e in absurd (cc)
goes_by_yes r (Some a) d e = which (or_split (d == a) (stands r d a) e)
  where
    which : (d == a ≡ true) ⊎ (stands r d a ≡ true) → (d ≡ a) ⊎ Stands r d a
    which (inl x) = inl (grind arith)
    which (inr x) = inr (stands_yes r d a x)

-- what is behind was not gone by
not_gone_by : (r : Row) (at : Option ℕ) (d : ℕ) → IsBehind r at d → (b : Bool) → has_gone_by r at d ≡ b → has_gone_by r at d ≡ false
not_gone_by r at d h false e = e
not_gone_by r at d h true e = absurd (not_behind r at d (goes_by_yes r at d (and_second (r.listed d) (goes_by r at d) e)) h)

-- The walk.

-- it begins at the row's first link
pub walk_begins : (n : ℕ) (r : Row) → IsWalking n r None 0
walk_begins n r = record { on = tt; counted = omega arith }

-- it goes on to the link of a listed cell behind its own, which it has not reached
pub walk_goes_on : (n : ℕ) (r : Row) (at : Option ℕ) (walked c : ℕ) → c < n → r.listed c ≡ true → IsBehind r at c → IsWalking n r at walked → IsWalking n r (Some c) (walked + 1)
walk_goes_on n r at walked c u e b k = record { on = e; counted = omega (arith, k.counted, gains) }
  where
    older : (d : ℕ) → has_gone_by r at d ≡ true → has_gone_by r (Some c) d ≡ true
    older d f =
        let p = goes_by_yes r at d (and_second (r.listed d) (goes_by r at d) f) in
        and_both (r.listed d) (goes_by r (Some c) d) (and_first (r.listed d) (goes_by r at d) f) (goes_by_is r (Some c) d (gone_by_next r at c d b p))

    gains : count_below n (has_gone_by r at) < count_below n (has_gone_by r (Some c))
    gains = count_gains n (has_gone_by r at) (has_gone_by r (Some c)) c u (not_gone_by r at c b (has_gone_by r at c) refl) (and_both (r.listed c) (goes_by r (Some c) c) e (goes_by_is r (Some c) c (inl refl))) older

-- what was gone by stays so
pub gone_by_stays : (n : ℕ) (r r' : Row) (at : Option ℕ) (d : ℕ) → Leaves n r r' → IsOn r at → r.listed d ≡ true → IsGoneBy r at d → IsGoneBy r' at d
gone_by_stays n r r' None d w o e p = p
gone_by_stays n r r' (Some a) d w o e (inl q) = inl q
gone_by_stays n r r' (Some a) d w o e (inr q) = inr (stands_same r r' d a (w.cell d e) (w.cell a o) q)

-- the walk stands where it stood, whatever is linked in
pub walk_stays : (n : ℕ) (r r' : Row) (at : Option ℕ) (walked : ℕ) → Leaves n r r' → IsWalking n r at walked → IsWalking n r' at walked
walk_stays n r r' at walked w k = record { on = on_left n r r' at w k.on; counted = omega (arith, k.counted, count_grows n (has_gone_by r at) (has_gone_by r' at) older) }
  where
    older : (d : ℕ) → has_gone_by r at d ≡ true → has_gone_by r' at d ≡ true
    older d f =
        let e = and_first (r.listed d) (goes_by r at d) f in
        let p = goes_by_yes r at d (and_second (r.listed d) (goes_by r at d) f) in
        and_both (r'.listed d) (goes_by r' at d) (w.listed d e) (goes_by_is r' at d (gone_by_stays n r r' at d w k.on e p))

-- it has reached no more cells than there are
pub walked_most : (n : ℕ) (r : Row) (at : Option ℕ) (walked : ℕ) → IsWalking n r at walked → walked ≤ n
walked_most n r at walked k = omega (arith, k.counted, count_most n (has_gone_by r at))

-- a test that is not true of a cell is false
unlisted_not : (r : Row) (at : Option ℕ) (d : ℕ) → r.listed d ≡ false → has_gone_by r at d ≡ false
unlisted_not r at d e = rw e

-- and fewer where one is not listed
pub walked_fewer : (n : ℕ) (r : Row) (at : Option ℕ) (walked own : ℕ) → own < n → r.listed own ≡ false → IsWalking n r at walked → walked < n
walked_fewer n r at walked own u e k = omega (arith, k.counted, count_less n (has_gone_by r at) own u (unlisted_not r at own e))
