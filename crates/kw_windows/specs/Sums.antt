-- A sum over the numbers below a bound.
use Rattle.std.specs.Prelude.{ℕ, suc, zero, ◌+◌}

-- the sum of what a function gives of the numbers below the bound
unfoldable pub sum_below : ℕ → (ℕ → ℕ) → ℕ
sum_below zero f = 0
sum_below (suc n) f = f n + sum_below n f
