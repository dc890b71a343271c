-- How many numbers below a bound a test picks out.
use Rattle.std.specs.Prelude.{ℕ, suc, zero, ◌+◌, Bool, if◌then◌else◌}

-- one for true
abbrev pub one_if : Bool → ℕ
one_if b = if b then 1 else 0

-- how many of the numbers below the bound the test picks out
unfoldable pub count_below : ℕ → (ℕ → Bool) → ℕ
count_below zero f = 0
count_below (suc n) f = one_if (f n) + count_below n f
