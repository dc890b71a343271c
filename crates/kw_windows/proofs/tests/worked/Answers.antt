-- A run of one seat in a table of four rows: it comes to row 0, which comes to lead, takes the rows
-- 1 and 2, and replaces row 0 by them.
use Rattle.std.proofs.Common.{ℕ, suc, zero, ◌≡◌, ◌≢◌, ◌⊎◌, inl, inr, ◌+◌, ◌<◌, Bool, true, false, nat_lt, arith, refl}
use Rattle.std.proofs.lemmas.Bool.{cases_eq}
use Rattle.std.proofs.lemmas.Bool.Decides.{nat_tests}
use Rattle.kw_lists.specs.Counts.{count_below}
use Rattle.kw_windows.specs.Sums.{sum_below}
use Rattle.kw_windows.specs.Builders.{Stage, Builder, Elsewhere, Asking, Building, anew}
use Rattle.kw_windows.specs.Windows.{Windows, Limits}
use Rattle.kw_windows.specs.Events.{Event, Within, Takes, MayBuild, rests, comes, begins, takes, wins}
use Rattle.kw_windows.proofs.tests.worked.Goals as goal

pub returns-clause-count : goal.returns-clause-count
unfolding count_below
returns-clause-count c = refl

pub returns-clause-sum : goal.returns-clause-sum
unfolding sum_below
returns-clause-sum c = refl

-- The run.

-- the first number of all, and those below a number
abbrev first : ℕ → Bool
first zero = true
first (suc x) = false

abbrev below : ℕ → ℕ → Bool
below n x = nat_lt x n

abbrev none : ℕ → Bool
none x = false

-- seat 0 is so, and no other one is at a full row
abbrev beside : Builder → ℕ → Builder
beside c zero = c
beside c (suc t) = record { stage = Elsewhere; held = 0; lives = 0; deads = 0; taken = 0 }

abbrev seat_at : Stage → ℕ → ℕ → Builder
seat_at a builds rows = record { stage = a; held = rows; lives = builds; deads = 0; taken = rows }

-- the first window: which rows lead, how many are in use, and how far the seat is
abbrev window : (ℕ → Bool) → ℕ → Builder → Windows
window leads used c = record { live = first; leads = leads; least = λ x. x; used = below used; seats = beside c; wins = 0; before = 0 }

abbrev run : ℕ → Windows
run zero = window none 1 (seat_at Elsewhere 0 0)
run (suc zero) = window none 1 (seat_at (Asking 0) 0 0)
run (suc (suc zero)) = window first 1 (seat_at (Asking 0) 0 0)
run (suc (suc (suc zero))) = window first 2 (seat_at (Building 0 true) 1 1)
run (suc (suc (suc (suc zero)))) = window first 3 (seat_at (Building 0 true) 1 2)
run (suc (suc (suc (suc (suc i))))) = record { live = below 3; leads = none; least = λ x. x; used = below 3; seats = beside (seat_at Elsewhere 0 0); wins = 1; before = 2 }

-- nothing is counted of other seats
others : (c d : Builder) (u : ℕ) → u ≢ 0 → beside d u ≡ beside c u
others c d zero h = absurd (h refl)
others c d (suc u) h = refl

-- one row more is in use
one_used : (n x : ℕ) → below (n + 1) x ≡ true → (x ≡ n) ⊎ (below n x ≡ true)
one_used n x e = which (cases_eq x n)
  where
    which : (x ≡ n) ⊎ (x ≡ n → ⊥) → (x ≡ n) ⊎ (below n x ≡ true)
    which (inl k) = inl k
    which (inr k) = inr (grind (arith, nat_tests, e, k))

-- rows stay where they are, and lead on
within : (leads leads' : ℕ → Bool) (n m : ℕ) (c d : Builder) → ((x : ℕ) → leads x ≡ true → first x ≡ true) → ((x : ℕ) → leads x ≡ true → leads' x ≡ true) → Within (window leads n c) (window leads' m d)
within leads leads' n m c d linked on = record { live = λ x. refl; linked = linked; leads = on; least = λ x e. refl; wins = refl; before = refl }

-- rows that lead none
none_leads : (x : ℕ) (P : Type 0) → none x ≡ true → P
none_leads x P e = absurd (cc (e))

-- row 0 may be built for, once it leads
may : (z : Limits) (c : Builder) → 0 < z.rows → MayBuild z (window first 1 c) 0
may z c h = record { below = h; leads = λ e. e; replaced = λ e. absurd (cc (e)) }

-- the seat takes the next row
one_row : (z : Limits) (n : ℕ) (c d : Builder) → 0 < z.seats → c.held < z.build → Takes z (window first n c) (window first (n + 1) d) 0 n d
one_row z n c d seat room = record { counts = record { within = within first first n (n + 1) c d (λ x e. e) (λ x e. e); own = refl; others = others c d }; seat = seat; room = room; used = one_used n }

-- all are seen anew once the row is replaced
others_anew : (c : Builder) (u : ℕ) → u ≢ 0 → beside (seat_at Elsewhere 0 0) u ≡ anew (beside c u)
others_anew c zero h = absurd (h refl)
others_anew c (suc u) h = refl

all_rest : (t : ℕ) → beside (seat_at Elsewhere 0 0) t ≡ record { stage = Elsewhere; held = 0; lives = 0; deads = 0; taken = 0 }
all_rest zero = refl
all_rest (suc t) = refl

-- one event after the other
step : (z : Limits) → z ≡ record { rows = 4; seats = 1; build = 2; leaders = 1 } → (i : ℕ) → i < 5 → Event z (run i) (run (i + 1))
unfolding sum_below
step z e zero h = comes 0 0 refl (λ x. refl) (record { counts = record { within = within none none 1 1 _ _ (λ x k. none_leads x _ k) (λ x k. k); own = refl; others = others _ _ }; used = λ x k. k })
step z e (suc zero) h = rests (record { within = within none first 1 1 _ _ (λ x k. none_leads x _ k) (λ x k. none_leads x _ k); seats = λ u. refl; used = λ x k. k })
step z e (suc (suc zero)) h = begins 0 0 1 refl (may z _ (rw e (omega arith))) (one_row z 1 _ _ (rw e (omega arith)) (rw e (omega arith)))
step z e (suc (suc (suc zero))) h = takes 0 0 2 refl (one_row z 2 _ _ (rw e (omega arith)) (rw e (omega arith)))
step z e (suc (suc (suc (suc zero)))) h = wins 0 (record { own = refl; others = others_anew (seat_at (Building 0 true) 1 2); used = λ x k. k; wins = refl; before = rw e refl })
step z e (suc (suc (suc (suc (suc i))))) h = absurd (omega (arith, h))

pub returns-clause-run : goal.returns-clause-run
unfolding sum_below
returns-clause-run c = (run, record { used = λ x k. grind (arith, nat_tests, k); seats = all_rest; wins = refl; before = refl }, step _ refl, refl, refl)
