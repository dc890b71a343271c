-- What stands after a command's own word, read from the first word on.
use Rattle.std.specs.Prelude.{ℕ, Bool, true, false, if◌then◌else◌, List, [], ◌∷◌, Option, Some, None, codes, option_map, unwrap_or, is_some}
use Rattle.std.specs.Str.{bytes_eq}
use Rattle.kw_words.specs.declared.sizes.TheConstants.{MOST_ROWS}
use Rattle.kw_command.specs.declared.command.Command.{Command}
use Rattle.kw_command.specs.declared.command.Command.TheVariants as command
use Rattle.kw_command.specs.declared.command.Name.{Name}
use Rattle.kw_command.specs.declared.command.Name.TheVariants as name
use Rattle.kw_command.specs.declared.command.TheConstants.{MOST_WORKERS, DEFAULT_WORKERS, FEWEST_ROWS, DEFAULT_ROWS, SIMULATED_ROWS, MOST_START, MOST_LINES, MOST_BUCKET}
use Rattle.kw_command.specs.declared.words.Arguments.{Arguments}
use Rattle.kw_command.specs.Words.{number_in}

-- the number that this word writes, where there was none yet
abbrev pub once : Option ℕ → ℕ → ℕ → List ℕ → Option ℕ
once None least most w = number_in least most w
once (Some n) least most w = None

-- with the number of workers that this word writes, where there was none yet
abbrev pub with_workers : Arguments → List ℕ → Option Arguments
with_workers a w = option_map (λ n. record a { workers = Some n }) (once a.workers 1 MOST_WORKERS w)

-- with the number of rows that this word writes, where there was none yet
abbrev pub with_rows : Arguments → List ℕ → Option Arguments
with_rows a w = option_map (λ n. record a { rows = Some n }) (once a.rows FEWEST_ROWS MOST_ROWS w)

-- with the minutes of a bucket that this word writes, where there were none yet
abbrev pub with_bucket : Arguments → List ℕ → Option Arguments
with_bucket a w = option_map (λ n. record a { bucket = Some n }) (once a.bucket 1 MOST_BUCKET w)

-- with the next of the two numbers
abbrev pub with_second : Arguments → List ℕ → Option Arguments
with_second a w = option_map (λ n. record a { count = Some n }) (once a.count 1 MOST_LINES w)

abbrev pub with_number : Arguments → List ℕ → Option Arguments
with_number a w = if is_some a.start then with_second a w else option_map (λ n. record a { start = Some n }) (number_in 0 MOST_START w)

-- with the flag, where it did not stand yet
abbrev pub with_flag : Arguments → Option Arguments
with_flag a = if a.recorded then None else Some (record a { recorded = true })

-- with a word that stands by itself: the flag, or the next of the two numbers
abbrev pub with_alone : Arguments → List ℕ → Option Arguments
with_alone a w = if bytes_eq w (codes "--record") then with_flag a else with_number a w

-- and the same where there may be no arguments any more
abbrev pub then_with : (Arguments → List ℕ → Option Arguments) → Option Arguments → List ℕ → Option Arguments
then_with f None w = None
then_with f (Some a) w = f a w

-- the arguments that these words add
abbrev pub reads : Option Arguments → List (List ℕ) → Option Arguments
reads o [] = o
reads o (w ∷ []) = then_with with_alone o w
reads o (w ∷ x ∷ ws) = if bytes_eq w (codes "--workers") then reads (then_with with_workers o x) ws
    else (if bytes_eq w (codes "--rows") then reads (then_with with_rows o x) ws
    else (if bytes_eq w (codes "--bucket") then reads (then_with with_bucket o x) ws
    else reads (then_with with_alone o w) (x ∷ ws)))

-- no argument yet
abbrev pub no_arguments : Arguments
no_arguments = record { start = None; count = None; workers = None; rows = None; bucket = None; recorded = false }

-- the command whose own word this is
abbrev pub name_of : List ℕ → Option Name
name_of w = if bytes_eq w (codes "replay") then Some name.Replay
    else (if bytes_eq w (codes "simulate") then Some name.Simulate
    else (if bytes_eq w (codes "judge") then Some name.Judge
    else (if bytes_eq w (codes "gen") then Some name.Gen
    else (if bytes_eq w (codes "rollup") then Some name.Rollup else None))))

-- the command whose own word is the first of these
abbrev pub first_name : List (List ℕ) → Option Name
first_name [] = None
first_name (w ∷ ws) = name_of w

-- the command of this name, where it takes just these arguments
abbrev pub picked_from : Name → Option ℕ → Option ℕ → Option ℕ → Option ℕ → Option ℕ → Bool → Option Command
picked_from name.Replay None None w r None false = Some (command.Replay (unwrap_or w DEFAULT_WORKERS) (unwrap_or r DEFAULT_ROWS))
picked_from name.Simulate None None None r None recorded = Some (command.Simulate (unwrap_or r SIMULATED_ROWS) recorded)
picked_from name.Judge None None None None None false = Some command.Judge
picked_from name.Gen (Some s) (Some n) w r None false = Some (command.Gen s n (unwrap_or w DEFAULT_WORKERS) (unwrap_or r DEFAULT_ROWS))
picked_from name.Rollup None None w r (Some g) false = Some (command.Rollup g (unwrap_or w DEFAULT_WORKERS) (unwrap_or r DEFAULT_ROWS))
picked_from _ s n w r g recorded = None

abbrev pub picked : Name → Arguments → Option Command
picked name a = picked_from name a.start a.count a.workers a.rows a.bucket a.recorded
