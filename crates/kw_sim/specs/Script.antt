-- The lines of a script: which commands there are, and how each is written.
use Rattle.std.specs.Prelude.{ℕ, ◌≡◌, ◌+◌, ◌<◌, ◌≤◌, List, [], ◌∷◌, ◌++◌, map, length, codes, decimal}
use Rattle.std.specs.List.{join_with_byte, AllByRecursion}
use Rattle.kw_model.specs.declared.call.Call.TheVariants as call
use Rattle.kw_words.specs.declared.sizes.TheConstants.{SEATS}
use Rattle.kw_words.specs.Kind.{name_of}
use Rattle.kw_line.specs.declared.words.TheConstants.{SPACE}
use Rattle.kw_line.specs.Cut.{lines}
use Rattle.kw_line.specs.Line.{FitsCall}
use Rattle.kw_judge.specs.Texts.{call_words}
use Rattle.kw_sim.specs.declared.command.Command.{Command}
use Rattle.kw_sim.specs.declared.command.Command.TheVariants as command
use Rattle.kw_sim.specs.declared.parse.Verb.{Verb}
use Rattle.kw_sim.specs.declared.parse.Verb.TheVariants as verb
use Rattle.kw_sim.specs.declared.parse.TheConstants.{MOST_LINES, MOST_STEPS}

-- the verb of a command, and the word for it
abbrev pub verb_of : Command → Verb
verb_of (command.Call s c) = verb.Call
verb_of (command.Puts s n k v) = verb.Puts
verb_of (command.Go s n) = verb.Go
verb_of (command.Until s k) = verb.Until
verb_of (command.Guess s r) = verb.Guess
verb_of (command.Stop s) = verb.Stop

abbrev pub verb_word : Verb → List ℕ
verb_word verb.Call = codes "call"
verb_word verb.Puts = codes "puts"
verb_word verb.Go = codes "go"
verb_word verb.Until = codes "until"
verb_word verb.Guess = codes "guess"
verb_word verb.Stop = codes "stop"

-- the seat that a command is for
abbrev pub seat_of : Command → ℕ
seat_of (command.Call s c) = s
seat_of (command.Puts s n k v) = s
seat_of (command.Go s n) = s
seat_of (command.Until s k) = s
seat_of (command.Guess s r) = s
seat_of (command.Stop s) = s

-- what stands after the seat
abbrev pub rest_words : Command → List (List ℕ)
rest_words (command.Call s c) = call_words c
rest_words (command.Puts s n k v) = decimal n ∷ decimal k ∷ decimal v ∷ []
rest_words (command.Go s n) = decimal n ∷ []
rest_words (command.Until s k) = name_of k ∷ []
rest_words (command.Guess s r) = decimal r ∷ []
rest_words (command.Stop s) = []

-- the words of a command: the verb, the seat, and the rest
abbrev pub command_words : Command → List (List ℕ)
command_words c = verb_word (verb_of c) ∷ decimal (seat_of c) ∷ rest_words c

-- the text of a command: its words, separated by one space each
unfoldable pub command_text : Command → List ℕ
command_text c = join_with_byte SPACE (command_words c)

-- how often something may be asked for in one line
abbrev pub IsCount : ℕ → Type 0
IsCount n = (1 ≤ n) × (n ≤ MOST_STEPS)

-- what stands after the seat is in range, in a table of this many rows
abbrev pub HasRange : ℕ → Command → Type 0
HasRange rows (command.Call s c) = FitsCall c
HasRange rows (command.Puts s n k v) = IsCount n × FitsCall (call.Put k v)
HasRange rows (command.Go s n) = IsCount n
HasRange rows (command.Until s k) = Unit {0}
HasRange rows (command.Guess s r) = r < rows
HasRange rows (command.Stop s) = Unit {0}

-- what a line may be: a command for one of the seats whose numbers are in range
abbrev pub IsCommand : ℕ → Command → Type 0
IsCommand rows c = (seat_of c < SEATS) × HasRange rows c

-- the line is the text of a command
abbrev pub IsText : ℕ → List ℕ → Type 0
IsText rows line = (c : Command) × IsCommand rows c × (line ≡ command_text c)

-- the lines of these bytes are the texts of these commands, one for one, and no more than a script
-- may have
pub record AreLinesOf (rows : ℕ) (bytes : List ℕ) (commands : List Command) : Type 0 where
  pub each : AllByRecursion (IsCommand rows) commands
  pub few : length commands ≤ MOST_LINES
  pub texts : lines bytes ≡ map command_text commands

-- this line of the bytes, counted from 1, is the text of no command or is one too many, and each
-- line before it is neither
pub record IsFirstBadCommand (rows : ℕ) (bytes : List ℕ) (number : ℕ) : Type 0 where
  pub before : List Command
  pub line : List ℕ
  pub after : List (List ℕ)
  pub number_is : number ≡ length before + 1
  pub cut : lines bytes ≡ map command_text before ++ line ∷ after
  pub each : AllByRecursion (IsCommand rows) before
  pub few : length before ≤ MOST_LINES
  pub bad : IsText rows line → length before ≡ MOST_LINES
