-- What `simulate` prints of a script: its output, or the record of its calls.
use Rattle.std.specs.Prelude.{ℕ, Bool, true, false, ◌≡◌, ◌⊎◌, List}
use Rattle.kw_sim.specs.Output.{IsOutputOf}
use Rattle.kw_sim.specs.Recorded.{IsRecordOf, IsTooLong}
use Rattle.kw_sim.specs.Script.{IsFirstBadCommand}

-- by whether the record is asked for
abbrev pub IsSimulated : Bool → ℕ → List ℕ → List ℕ → Type 0
IsSimulated false rows script printed = IsOutputOf rows script printed
IsSimulated true rows script printed = IsRecordOf rows script printed

-- the line is the script's first bad one; or it is line 0, and a record is asked for that would
-- have too many calls
abbrev pub IsOutsideScript : Bool → ℕ → List ℕ → ℕ → Type 0
IsOutsideScript false rows script at = IsFirstBadCommand rows script at
IsOutsideScript true rows script at = IsFirstBadCommand rows script at ⊎ ((at ≡ 0) × IsTooLong rows script)
