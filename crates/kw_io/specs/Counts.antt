-- What a stream makes of its count of faults.
use Rattle.std.specs.Prelude.{ℕ, ◌+◌, min, Bool, if◌then◌else◌}
use Rattle.kw_model.specs.Counts.{last_count}

-- the count after one more
abbrev pub next_count : ℕ → ℕ
next_count count = min (count + 1) last_count

-- the count after a call, which counts the call if this is true
abbrev pub counted : Bool → ℕ → ℕ
counted happens count = if happens then next_count count else count
