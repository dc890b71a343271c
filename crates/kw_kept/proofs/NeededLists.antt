-- What is needed only shrinks, and a list that a rebuild makes while other seats go on covers what
-- is needed.
use Rattle.std.proofs.Common.{ℕ, ◌≡◌, ◌⊎◌, inl, inr, ◌<◌, ◌≤◌, arith, subst}
use Rattle.kw_kept.specs.Puts.{Puts}
use Rattle.kw_kept.specs.Kept.{Rows, Kept}
use Rattle.kw_kept.specs.Needed.{IsNeeded, Moves, Pins, IsCovered, IsLate, GoesBy, GoesByPin}

module _ (clock clock' : ℕ) (waits waits' : ℕ → ℕ) (scans scans' : ℕ → ℕ → Type 0) (m : Moves clock clock' waits waits' scans scans') where
  -- what is needed was needed before
  pub needed_was : (pins pins' : ℕ → ℕ → Type 0) → Pins scans pins pins' → (u : ℕ) → IsNeeded clock' scans' pins' u → IsNeeded clock scans pins u
  needed_was pins pins' p u (inl l) = inl (omega (arith, l, m.rises))
  needed_was pins pins' p u (inr (i, inl t)) = which (m.goes_on i u t)
    where
      which : scans i u ⊎ (clock ≤ u) → IsNeeded clock scans pins u
      which (inl s) = inr (i, inl s)
      which (inr l) = inl l
  needed_was pins pins' p u (inr (i, inr t)) = which (p.goes_on i u t)
    where
      which : pins i u ⊎ scans i u → IsNeeded clock scans pins u
      which (inl s) = inr (i, inr s)
      which (inr s) = inr (i, inl s)

  -- what was covered stays so, if no version of the list's rows is above the clock
  pub covered_still : (passed listed : ℕ → Type 0) (most : ℕ) → most ≤ clock → IsCovered scans passed listed most → IsCovered scans' passed listed most
  covered_still passed listed most l c i u p t = which (m.goes_on i u t)
    where
      which : scans i u ⊎ (clock ≤ u) → listed u ⊎ (most ≤ u)
      which (inl s) = c i u p s
      which (inr n) = inr (omega (arith, l, n))

  -- a scan that began to wait late still needs none but late versions
  pub late_still : (since most : ℕ) → most ≤ clock → IsLate since waits scans most → IsLate since waits' scans' most
  late_still since most l c i u s t = which (m.renews i) (m.goes_on i u t)
    where
      which : (waits' i ≡ waits i) ⊎ ((u : ℕ) → scans' i u → clock ≤ u) → scans i u ⊎ (clock ≤ u) → most ≤ u
      which (inl e) (inl f) = c i u (subst (λ x. since < x) e s) f
      which (inl e) (inr n) = omega (arith, l, n)
      which (inr f) g = omega (arith, l, f u t)

-- pins that were gone by stay covered: what comes to one of them comes from a scan that was gone by
-- before
pub pins_still : (scans pins pins' : ℕ → ℕ → Type 0) (scanned passed listed : ℕ → Type 0) (most : ℕ) → Pins scans pins pins' → ((i : ℕ) → passed i → scanned i) →
    IsCovered scans scanned listed most → IsCovered pins passed listed most → IsCovered pins' passed listed most
pins_still scans pins pins' scanned passed listed most p f a c i u s t = which (p.goes_on i u t)
  where
    which : pins i u ⊎ scans i u → listed u ⊎ (most ≤ u)
    which (inl o) = c i u s o
    which (inr o) = a i u (f i s) o

-- listing more leaves covered what was
pub more_covered : (through : ℕ → ℕ → Type 0) (passed listed listed' : ℕ → Type 0) (most : ℕ) → ((u : ℕ) → listed u → listed' u) → IsCovered through passed listed most → IsCovered through passed listed' most
more_covered through passed listed listed' most old c i u p t = which (c i u p t)
  where
    which : listed u ⊎ (most ≤ u) → listed' u ⊎ (most ≤ u)
    which (inl l) = inl (old u l)
    which (inr l) = inr l

-- a position that no scan's wait is after
pub late_starts : (waits : ℕ → ℕ) (scans : ℕ → ℕ → Type 0) (since most : ℕ) → ((i : ℕ) → waits i ≤ since) → IsLate since waits scans most
late_starts waits scans since most f i u l t = absurd (omega (arith, f i, l))

-- a scan that was looked at is covered with those that were
pub goes_by_covered : (since : ℕ) (waits : ℕ → ℕ) (scans : ℕ → ℕ → Type 0) (passed passed' listed listed' : ℕ → Type 0) (most s : ℕ) → GoesBy since waits scans passed passed' listed listed' s → IsLate since waits scans most → IsCovered scans passed listed most → IsCovered scans passed' listed' most
goes_by_covered since waits scans passed passed' listed listed' most s r late c i u p t = which (r.seat i p)
  where
    own : scans s u → ((u : ℕ) → scans s u → listed' u) ⊎ (since < waits s) → listed' u ⊎ (most ≤ u)
    own t (inl f) = inl (f u t)
    own t (inr l) = inr (late s u l t)

    which : (i ≡ s) ⊎ passed i → listed' u ⊎ (most ≤ u)
    which (inl e) = own (subst (λ x. scans x u) e t) r.looked
    which (inr p) = more_covered scans passed listed listed' most r.old c i u p t

-- and so is a pin
pub pin_covered : (pins : ℕ → ℕ → Type 0) (passed passed' listed listed' : ℕ → Type 0) (most s : ℕ) → GoesByPin pins passed passed' listed listed' s → IsCovered pins passed listed most → IsCovered pins passed' listed' most
pin_covered pins passed passed' listed listed' most s r c i u p t = which (r.seat i p)
  where
    which : (i ≡ s) ⊎ passed i → listed' u ⊎ (most ≤ u)
    which (inl e) = inl (r.looked u (subst (λ x. pins x u) e t))
    which (inr p) = more_covered pins passed listed listed' most r.old c i u p t

-- no pin is gone by yet
pub none_covered : (pins : ℕ → ℕ → Type 0) (passed listed : ℕ → Type 0) (most : ℕ) → ((i : ℕ) → passed i → ⊥) → IsCovered pins passed listed most
none_covered pins passed listed most f i u p t = absurd (f i p)

-- when each scan and each pin is gone by through which something is needed, all that is needed is
-- covered
pub all_covered : (clock : ℕ) (scans pins : ℕ → ℕ → Type 0) (scanned passed listed : ℕ → Type 0) (most u : ℕ) → most ≤ clock → ((i v : ℕ) → scans i v → scanned i) → ((i v : ℕ) → pins i v → passed i) →
    IsCovered scans scanned listed most → IsCovered pins passed listed most → IsNeeded clock scans pins u → listed u ⊎ (most ≤ u)
all_covered clock scans pins scanned passed listed most u l f g c d (inl n) = inr (omega (arith, l, n))
all_covered clock scans pins scanned passed listed most u l f g c d (inr (i, inl t)) = c i u (f i u t) t
all_covered clock scans pins scanned passed listed most u l f g c d (inr (i, inr t)) = d i u (g i u t) t

-- rows that have kept what was needed have kept what still is
pub kept_of_fewer : (puts : Puts) (rows : Rows) (needed needed' : ℕ → Type 0) → ((u : ℕ) → needed' u → needed u) → Kept puts rows needed → Kept puts rows needed'
kept_of_fewer puts rows needed needed' f h q k u m n = h q k u m (f u n)
