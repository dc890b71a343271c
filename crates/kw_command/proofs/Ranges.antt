-- The numbers of a command that words mean are in range.
use Rattle.std.proofs.Common.{◌≡◌, ℕ, ◌≤◌, Bool, true, false, ◌&&◌, cond, Some, None, List, [], ◌∷◌, refl, arith}
use Rattle.std.specs.Prelude.{nat_le}
use Rattle.std.specs.Str.Parse.{digits_value}
use Rattle.std.proofs.lemmas.Bool.Decides.{nat_tests}
use Rattle.kw_words.specs.declared.sizes.TheConstants.{MOST_ROWS}
use Rattle.kw_command.specs.declared.command.Command.{Command}
use Rattle.kw_command.specs.declared.command.Command.TheVariants as command
use Rattle.kw_command.specs.declared.command.TheConstants.{MOST_WORKERS, DEFAULT_WORKERS, FEWEST_ROWS, DEFAULT_ROWS, SIMULATED_ROWS, MOST_START, MOST_LINES, MOST_BUCKET}
use Rattle.kw_command.specs.Words.{Part, numbers, all_workers, all_rows, all_buckets, is_digits, number_in, IsOption, IsGiven, AreNumbers, Makes, Means, IsWithin, AreInRange}

-- a number that is read is in range
number_within : (least most n : ℕ) (w : List ℕ) → number_in least most w ≡ Some n → IsWithin least most n
number_within least most n w e = at (is_digits w) (nat_le least (digits_value 10 w)) refl (nat_le (digits_value 10 w) most) refl e
  where
    at : (a b : Bool) → nat_le least (digits_value 10 w) ≡ b → (c : Bool) → nat_le (digits_value 10 w) most ≡ c → cond (a && (b && c)) (Some (digits_value 10 w)) None ≡ Some n → IsWithin least most n
    at true true f true g e =
        let is : digits_value 10 w ≡ n = cc in
        (grind (arith, nat_tests), grind (arith, nat_tests))
    at true true f false g e = absurd cc
    at true false f c g e = absurd cc
    at false b f c g e = absurd cc

option_within : (least most default n : ℕ) (ws : List (List ℕ)) → least ≤ default → default ≤ most → IsOption least most default ws n → IsWithin least most n
option_within least most default n [] l m h = (omega arith, omega arith)
option_within least most default n (w ∷ []) l m h = number_within least most n w h
option_within least most default n (w ∷ x ∷ ws) l m h = absurd h

given_within : (least most n : ℕ) (ws : List (List ℕ)) → IsGiven least most ws n → IsWithin least most n
given_within least most n [] h = absurd h
given_within least most n (w ∷ []) h = number_within least most n w h
given_within least most n (w ∷ x ∷ ws) h = absurd h

numbers_within : (s n : ℕ) (ws : List (List ℕ)) → AreNumbers ws s n → (s ≤ MOST_START) × IsWithin 1 MOST_LINES n
numbers_within s n [] h = absurd h
numbers_within s n (w ∷ []) h = absurd h
numbers_within s n (w ∷ x ∷ []) h = ((number_within 0 MOST_START s w h.0).1, number_within 1 MOST_LINES n x h.1)
numbers_within s n (w ∷ x ∷ y ∷ ws) h = absurd h

makes_within : (parts : List Part) (c : Command) → Makes parts c → AreInRange c
makes_within parts (command.Replay w r) h =
    (option_within 1 MOST_WORKERS DEFAULT_WORKERS w (all_workers parts) (omega arith) (omega arith) h.1, option_within FEWEST_ROWS MOST_ROWS DEFAULT_ROWS r (all_rows parts) (omega arith) (omega arith) h.2)
makes_within parts command.Judge h = tt
makes_within parts (command.Simulate r b) h = option_within FEWEST_ROWS MOST_ROWS SIMULATED_ROWS r (all_rows parts) (omega arith) (omega arith) h.2
makes_within parts (command.Gen s n w r) h =
    let given = numbers_within s n (numbers parts) h.0 in
    (given.0, given.1, option_within 1 MOST_WORKERS DEFAULT_WORKERS w (all_workers parts) (omega arith) (omega arith) h.1, option_within FEWEST_ROWS MOST_ROWS DEFAULT_ROWS r (all_rows parts) (omega arith) (omega arith) h.2)
makes_within parts (command.Rollup g w r) h =
    (given_within 1 MOST_BUCKET g (all_buckets parts) h.3, option_within 1 MOST_WORKERS DEFAULT_WORKERS w (all_workers parts) (omega arith) (omega arith) h.1, option_within FEWEST_ROWS MOST_ROWS DEFAULT_ROWS r (all_rows parts) (omega arith) (omega arith) h.2)

-- words mean commands in range
pub meant_in_range : (ws : List (List ℕ)) (c : Command) → Means ws c → AreInRange c
meant_in_range ws c m = makes_within m.parts c m.makes
