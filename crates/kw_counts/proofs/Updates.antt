-- What a function gives where it is set, and elsewhere; and the sum of all draws with one more.
use Rattle.std.proofs.Common.{ℕ, ◌≡◌, ◌≢◌, ◌⊎◌, inl, inr, ◌+◌, ◌*◌, ◌<◌, ◌≤◌, arith, refl, sym, ap, eq-eqb, ne_eqb}
use Rattle.std.proofs.lemmas.Bool.{cases_eq}
use Rattle.kw_windows.specs.Sums.{sum_below}
use Rattle.kw_windows.proofs.Summing.{sum_grows, sum_most, sum_one_changed}
use Rattle.kw_world.specs.Sizes.{Sizes}
use Rattle.kw_counts.specs.Counts.{Draws, no_draws, one_more_at, with_at, with_draw, with_pair}
use Rattle.kw_counts.specs.Draws.{all_draws, all_waits, draws_of}

-- One place.

pub at_set : {A : Type 0} (f : ℕ → A) (s : ℕ) (x : A) (t : ℕ) → t ≡ s → with_at f s x t ≡ x
at_set f s x t e = rw (eq-eqb t s e) refl

pub at_left : {A : Type 0} (f : ℕ → A) (s : ℕ) (x : A) (t : ℕ) → t ≢ s → with_at f s x t ≡ f t
at_left f s x t d = rw (ne_eqb t s d) refl

-- where one more is counted no number falls
pub more_at : (f : ℕ → ℕ) (s t : ℕ) → f t ≤ one_more_at f s t
more_at f s t = which (cases_eq t s)
  where
    which : (t ≡ s) ⊎ (t ≡ s → ⊥) → f t ≤ one_more_at f s t
    which (inl e) = omega (arith, at_set f s (f s + 1) t e, ap f e)
    which (inr d) = omega (arith, at_left f s (f s + 1) t d)

-- One pair of places.

pub cases_pair : (t s j i : ℕ) → ((t ≡ s) × (j ≡ i)) ⊎ (t ≡ s → j ≡ i → ⊥)
cases_pair t s j i = which (cases_eq t s) (cases_eq j i)
  where
    which : (t ≡ s) ⊎ (t ≡ s → ⊥) → (j ≡ i) ⊎ (j ≡ i → ⊥) → ((t ≡ s) × (j ≡ i)) ⊎ (t ≡ s → j ≡ i → ⊥)
    which (inl e) (inl k) = inl (e, k)
    which (inl e) (inr d) = inr (λ q k. d k)
    which (inr d) k = inr (λ q u. d q)

pub pair_set : (f : ℕ → ℕ → ℕ) (s i x t j : ℕ) → t ≡ s → j ≡ i → with_pair f s i x t j ≡ x
pair_set f s i x t j e k = rw (eq-eqb t s e, eq-eqb j i k) refl

-- of another first place all is as it was
pub row_left : (f : ℕ → ℕ → ℕ) (s i x t : ℕ) → t ≢ s → with_pair f s i x t ≡ f t
row_left f s i x t d = at_left f s (with_at (f s) i x) t d

pub pair_left : (f : ℕ → ℕ → ℕ) (s i x t j : ℕ) → (t ≡ s → j ≡ i → ⊥) → with_pair f s i x t j ≡ f t j
pair_left f s i x t j d = which (cases_eq t s)
  where
    which : (t ≡ s) ⊎ (t ≡ s → ⊥) → with_pair f s i x t j ≡ f t j
    which (inl e) = rw (eq-eqb t s e, ne_eqb j i (d e)) (ap (λ q. f q j) (sym e))
    which (inr n) = ap (λ (g : ℕ → ℕ). g j) (row_left f s i x t n)

-- All draws.

-- one draw is one more of all
pub one_draw_more : (z : Sizes) (d : Draws) (s i wait : ℕ) → s < z.seats → i < z.seats → all_draws z (with_draw s i wait d) ≡ all_draws z d + 1
one_draw_more z d s i wait u w =
    let own : sum_below z.seats (with_pair d.drew s i (d.drew s i + 1) s) + d.drew s i ≡ sum_below z.seats (d.drew s) + with_pair d.drew s i (d.drew s i + 1) s i = sum_one_changed z.seats i (d.drew s) (with_pair d.drew s i (d.drew s i + 1) s) w (λ j n. pair_left d.drew s i (d.drew s i + 1) s j (λ e k. n k)) in
    let all : sum_below z.seats (draws_of z (with_draw s i wait d)) + draws_of z d s ≡ sum_below z.seats (draws_of z d) + draws_of z (with_draw s i wait d) s = sum_one_changed z.seats s (draws_of z d) (draws_of z (with_draw s i wait d)) u (λ t n. ap (sum_below z.seats) (row_left d.drew s i (d.drew s i + 1) t n)) in
    omega (arith, own, all, pair_set d.drew s i (d.drew s i + 1) s i refl refl)

-- where nothing was drawn there are none
pub none_drawn : (z : Sizes) → all_draws z no_draws ≡ 0
none_drawn z = omega (arith, sum_most z.seats (draws_of z no_draws) 0 (λ t u. omega (arith, sum_most z.seats (no_draws.drew t) 0 (λ i w. omega arith))))

-- no more are drawn than each seat may draw for each wait
pub few_draws : (z : Sizes) (d : Draws) → ((t i : ℕ) → d.drew t i ≤ d.waits i) → all_draws z d ≤ z.seats * all_waits z d
few_draws z d once = sum_most z.seats (draws_of z d) (all_waits z d) (λ t u. sum_grows z.seats (d.drew t) d.waits (λ i w. once t i))
