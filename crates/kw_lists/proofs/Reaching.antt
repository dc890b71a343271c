-- What is reached from the first link is what is listed.
use Rattle.std.proofs.Common.{ℕ, suc, zero, ◌≡◌, ◌⊎◌, inl, inr, ◌+◌, ◌<◌, true, Option, Some, None, arith, refl, sym, subst}
use Rattle.kw_lists.specs.Rows.{Row, Stands, IsBehind, Leads, IsList, IsSound}
use Rattle.kw_lists.specs.Walks.{IsWalking, IsReached, first, next}
use Rattle.kw_lists.proofs.Inserting.{at_next}
use Rattle.kw_lists.proofs.Walking.{walk_begins, walk_goes_on, walked_most}

-- what is reached is listed
pub reached_listed : (r : Row) → IsList r → (c : ℕ) → IsReached r c → r.listed c ≡ true
reached_listed r l _ (first c e) = (at_next r None (r.link None) c (l None tt) e).listed
reached_listed r l _ (next b c m e) = (at_next r (Some b) (r.link (Some b)) c (l (Some b) (reached_listed r l b m)) e).listed

-- the link is the first, or that of a cell that is reached
abbrev StandsReached : Row → Option ℕ → Type 0
StandsReached r None = Unit {0}
StandsReached r (Some a) = IsReached r a

-- what such a link holds is reached
goes_reached : (r : Row) (at : Option ℕ) (c : ℕ) → StandsReached r at → r.link at ≡ Some c → IsReached r c
goes_reached r None c m e = first c e
goes_reached r (Some a) c m e = next a c m e

-- a walk that stands at a link reaches what is listed behind it, in k steps where no more than k
-- cells are left
abbrev Reaches : ℕ → Row → ℕ → ℕ → Type 0
Reaches n r k d = (at : Option ℕ) (walked : ℕ) → IsWalking n r at walked → n < walked + k → StandsReached r at → r.listed d ≡ true → IsBehind r at d → IsReached r d

-- one step of it
one_step : (n : ℕ) (r : Row) (k d : ℕ) → IsSound n r → Reaches n r k d → Reaches n r (suc k) d
one_step n r k d s more at walked i u m e b = by_link (r.link at) refl (s.list at i.on)
  where
    by_link : (to : Option ℕ) → r.link at ≡ to → Leads r at to → IsReached r d
    by_link None q l = absurd (l.none d e b)
    by_link (Some c) q l = which (l.first d e b)
      where
        which : (d ≡ c) ⊎ Stands r c d → IsReached r d
        which (inl x) = subst (IsReached r) (sym x) (goes_reached r at c m q)
        which (inr x) = more (Some c) (walked + 1) (walk_goes_on n r at walked c (s.below c l.listed) l.listed l.behind i) (omega arith) (goes_reached r at c m q) e x

-- all of it
reaches : (n : ℕ) (r : Row) (k d : ℕ) → IsSound n r → Reaches n r k d
reaches n r zero d s at walked i u m e b = absurd (omega (arith, u, walked_most n r at walked i))
reaches n r (suc k) d s at walked i u m e b = one_step n r k d s (reaches n r k d s) at walked i u m e b

-- what is listed is reached
pub listed_reached : (n : ℕ) (r : Row) (d : ℕ) → IsSound n r → r.listed d ≡ true → IsReached r d
listed_reached n r d s e = reaches n r (suc n) d s None 0 (walk_begins n r) (omega arith) tt e tt
