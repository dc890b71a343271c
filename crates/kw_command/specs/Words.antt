-- Which lists of words are commands. A word is seen as its bytes.
use Rattle.std.specs.Prelude.{ℕ, Bool, true, false, ◌≡◌, ◌≤◌, ◌&&◌, ◌||◌, if◌then◌else◌, nat_le, nat_lt, List, [], ◌∷◌, Option, Some, None, codes, length}
use Rattle.std.specs.List.{flat_map, list_all}
use Rattle.std.specs.Char.{is_ascii_digit}
use Rattle.std.specs.Str.{bytes_eq}
use Rattle.std.specs.Str.Parse.{digits_value}
use Rattle.kw_words.specs.declared.sizes.TheConstants.{MOST_ROWS}
use Rattle.kw_command.specs.declared.command.Command.{Command}
use Rattle.kw_command.specs.declared.command.Command.TheVariants as command
use Rattle.kw_command.specs.declared.command.TheConstants.{MOST_WORKERS, DEFAULT_WORKERS, FEWEST_ROWS, DEFAULT_ROWS, SIMULATED_ROWS, MOST_START, MOST_LINES, MOST_BUCKET}
use Rattle.kw_command.specs.declared.words.TheConstants.{MOST_DIGITS}

-- what may stand after a command's own word: a number by itself, an option and its number, or the
-- flag
pub data Part : Type 0 where
  number : List ℕ → Part
  workers : List ℕ → Part
  rows : List ℕ → Part
  bucket : List ℕ → Part
  recorded : Part

-- the words of a part
abbrev pub part_words : Part → List (List ℕ)
part_words (number w) = w ∷ []
part_words (workers w) = codes "--workers" ∷ w ∷ []
part_words (rows w) = codes "--rows" ∷ w ∷ []
part_words (bucket w) = codes "--bucket" ∷ w ∷ []
part_words recorded = codes "--record" ∷ []

-- the words that stand by themselves
abbrev pub numbers : List Part → List (List ℕ)
numbers [] = []
numbers (number w ∷ parts) = w ∷ numbers parts
numbers (workers w ∷ parts) = numbers parts
numbers (rows w ∷ parts) = numbers parts
numbers (bucket w ∷ parts) = numbers parts
numbers (recorded ∷ parts) = numbers parts

-- the words that the option for the number of workers was given
abbrev pub all_workers : List Part → List (List ℕ)
all_workers [] = []
all_workers (number w ∷ parts) = all_workers parts
all_workers (workers w ∷ parts) = w ∷ all_workers parts
all_workers (rows w ∷ parts) = all_workers parts
all_workers (bucket w ∷ parts) = all_workers parts
all_workers (recorded ∷ parts) = all_workers parts

-- the words that the option for the number of rows was given
abbrev pub all_rows : List Part → List (List ℕ)
all_rows [] = []
all_rows (number w ∷ parts) = all_rows parts
all_rows (workers w ∷ parts) = all_rows parts
all_rows (rows w ∷ parts) = w ∷ all_rows parts
all_rows (bucket w ∷ parts) = all_rows parts
all_rows (recorded ∷ parts) = all_rows parts

-- the words that the option for the minutes of a bucket was given
abbrev pub all_buckets : List Part → List (List ℕ)
all_buckets [] = []
all_buckets (number w ∷ parts) = all_buckets parts
all_buckets (workers w ∷ parts) = all_buckets parts
all_buckets (rows w ∷ parts) = all_buckets parts
all_buckets (bucket w ∷ parts) = w ∷ all_buckets parts
all_buckets (recorded ∷ parts) = all_buckets parts

-- the words that are the flag
abbrev pub all_flags : List Part → List (List ℕ)
all_flags [] = []
all_flags (number w ∷ parts) = all_flags parts
all_flags (workers w ∷ parts) = all_flags parts
all_flags (rows w ∷ parts) = all_flags parts
all_flags (bucket w ∷ parts) = all_flags parts
all_flags (recorded ∷ parts) = codes "--record" ∷ all_flags parts

-- the word is one digit to ten, of which the first may be 0
abbrev pub is_digits : List ℕ → Bool
is_digits w = list_all is_ascii_digit w && (nat_lt 0 (length w) && nat_le (length w) MOST_DIGITS)

-- the word is a command's own, the name of an option, the flag, or digits; every other word is bad
-- wherever it stands
abbrev pub is_known : List ℕ → Bool
is_known w = bytes_eq w (codes "replay") || (bytes_eq w (codes "simulate") || (bytes_eq w (codes "judge") || (bytes_eq w (codes "gen") || (bytes_eq w (codes "rollup")
    || (bytes_eq w (codes "--workers") || (bytes_eq w (codes "--rows") || (bytes_eq w (codes "--bucket") || (bytes_eq w (codes "--record") || is_digits w))))))))

-- the number that a word of digits writes, where it is in range
abbrev pub number_in : ℕ → ℕ → List ℕ → Option ℕ
number_in least most w = if is_digits w && (nat_le least (digits_value 10 w) && nat_le (digits_value 10 w) most) then Some (digits_value 10 w) else None

-- an option that stands once has the number that its word writes, and one that does not stand has
-- its default
abbrev pub IsOption : ℕ → ℕ → ℕ → List (List ℕ) → ℕ → Type 0
IsOption least most default [] n = n ≡ default
IsOption least most default (w ∷ []) n = number_in least most w ≡ Some n
IsOption least most default (w ∷ x ∷ ws) n = ⊥

-- an option that must stand stands once, and has the number that its word writes
abbrev pub IsGiven : ℕ → ℕ → List (List ℕ) → ℕ → Type 0
IsGiven least most [] n = ⊥
IsGiven least most (w ∷ []) n = number_in least most w ≡ Some n
IsGiven least most (w ∷ x ∷ ws) n = ⊥

-- the flag is given where it stands once, and not where it does not stand
abbrev pub IsFlag : List (List ℕ) → Bool → Type 0
IsFlag [] given = given ≡ false
IsFlag (w ∷ []) given = given ≡ true
IsFlag (w ∷ x ∷ ws) given = ⊥

-- the two numbers of `gen`
abbrev pub AreNumbers : List (List ℕ) → ℕ → ℕ → Type 0
AreNumbers (w ∷ x ∷ []) start count = (number_in 0 MOST_START w ≡ Some start) × (number_in 1 MOST_LINES x ≡ Some count)
AreNumbers _ start count = ⊥

-- a command's own word
abbrev pub command_word : Command → List ℕ
command_word (command.Replay w r) = codes "replay"
command_word (command.Simulate r b) = codes "simulate"
command_word command.Judge = codes "judge"
command_word (command.Gen s n w r) = codes "gen"
command_word (command.Rollup g w r) = codes "rollup"

-- what stands after it makes this command
abbrev pub Makes : List Part → Command → Type 0
Makes parts (command.Replay w r) =
    (numbers parts ≡ []) × IsOption 1 MOST_WORKERS DEFAULT_WORKERS (all_workers parts) w × IsOption FEWEST_ROWS MOST_ROWS DEFAULT_ROWS (all_rows parts) r
    × (all_buckets parts ≡ []) × (all_flags parts ≡ [])
Makes parts (command.Simulate r b) =
    (numbers parts ≡ []) × (all_workers parts ≡ []) × IsOption FEWEST_ROWS MOST_ROWS SIMULATED_ROWS (all_rows parts) r × (all_buckets parts ≡ []) × IsFlag (all_flags parts) b
Makes parts command.Judge = parts ≡ []
Makes parts (command.Gen s n w r) =
    AreNumbers (numbers parts) s n × IsOption 1 MOST_WORKERS DEFAULT_WORKERS (all_workers parts) w × IsOption FEWEST_ROWS MOST_ROWS DEFAULT_ROWS (all_rows parts) r
    × (all_buckets parts ≡ []) × (all_flags parts ≡ [])
Makes parts (command.Rollup g w r) =
    (numbers parts ≡ []) × IsOption 1 MOST_WORKERS DEFAULT_WORKERS (all_workers parts) w × IsOption FEWEST_ROWS MOST_ROWS DEFAULT_ROWS (all_rows parts) r
    × IsGiven 1 MOST_BUCKET (all_buckets parts) g × (all_flags parts ≡ [])

-- the words mean this command: its own word, and then numbers, options and flags in any order that
-- make it
pub record Means (words : List (List ℕ)) (c : Command) : Type 0 where
  pub parts : List Part
  pub cut : words ≡ command_word c ∷ flat_map part_words parts
  pub makes : Makes parts c

-- the number lies from the least to the most
abbrev pub IsWithin : ℕ → ℕ → ℕ → Type 0
IsWithin least most n = (least ≤ n) × (n ≤ most)

-- the numbers of the command are in range
abbrev pub AreInRange : Command → Type 0
AreInRange (command.Replay w r) = IsWithin 1 MOST_WORKERS w × IsWithin FEWEST_ROWS MOST_ROWS r
AreInRange (command.Simulate r b) = IsWithin FEWEST_ROWS MOST_ROWS r
AreInRange command.Judge = Unit {0}
AreInRange (command.Gen s n w r) = (s ≤ MOST_START) × IsWithin 1 MOST_LINES n × IsWithin 1 MOST_WORKERS w × IsWithin FEWEST_ROWS MOST_ROWS r
AreInRange (command.Rollup g w r) = IsWithin 1 MOST_BUCKET g × IsWithin 1 MOST_WORKERS w × IsWithin FEWEST_ROWS MOST_ROWS r
