-- What is said of a text once it was written whole.
use Rattle.std.specs.Prelude.{Bool, if◌then◌else◌}
use Rattle.kw_app.specs.declared.printed.Ending.{Ending}
use Rattle.kw_app.specs.declared.printed.Ending.TheVariants as ending

-- how replies end, by whether some are refusals
abbrev pub refusal_ending : Bool → Ending
refusal_ending refused = if refused then ending.Refused else ending.Done
