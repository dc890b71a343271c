-- Counts that only rise. A count is a number of 64 bits: at its end, the greatest such number, it
-- stands still.
use Rattle.std.specs.Prelude.{ℕ, ◌≡◌, ◌-◌, ◌^◌, ◌<◌, ◌⊎◌}

-- where a count stands still
abbrev pub last_count : ℕ
last_count = 2 ^ 64 - 1

-- something was counted between the two: the count rose, or stands at its end, where it could not
-- rise
abbrev pub CountRose : ℕ → ℕ → Type 0
CountRose old new = (old < new) ⊎ (new ≡ last_count)
