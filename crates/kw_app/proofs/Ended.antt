-- Which inputs are bad: a good one has no bad line, and a bad one has one line that is told.
use Rattle.std.proofs.Common.{◌≡◌, ℕ, ◌≤◌, ◌<◌, List, length, inl, inr, sym, ◌∙◌, arith, Option, Some, None}
use mathlib.Core.Logic.{⊎_elim}
use Rattle.std.specs.Prelude.{◌⊎◌, IfSome}
use Rattle.kw_line.specs.declared.parse.TheConstants.{MOST_BYTES}
use Rattle.kw_line.proofs.Unique.{items_or_bad, same_bad}
use Rattle.kw_table.specs.declared.pass.Pass.{Pass}
use Rattle.kw_command.specs.declared.command.Command.{Command}
use Rattle.kw_command.specs.declared.command.Command.TheVariants as command
use Rattle.kw_command.specs.Words.{AreInRange}
use Rattle.kw_app.specs.declared.printed.Ending.{Ending}
use Rattle.kw_app.specs.declared.outcome.Outcome.{Outcome}
use Rattle.kw_app.specs.declared.outcome.Status.TheVariants as status
use Rattle.kw_app.specs.Ends.{IsBadInput, IsPrinted, IsFirstOutside, IsToldBad, Reads}
use Rattle.kw_app.proofs.Scripts.{same_outside, simulated_or_bad}
use Rattle.kw_app.proofs.Points.{roll_items_or_bad, same_bad_roll_line}
use Rattle.kw_app.proofs.Records.{record_or_bad, same_bad_record_line}

-- what has a text has no bad line
printed_or_bad : (c : Command) (front : Option Pass) (end : Ending) (bytes printed : List ℕ) (at : ℕ) → AreInRange c → IsPrinted c front end bytes printed → IsFirstOutside c bytes at → ⊥
printed_or_bad (command.Replay w r) front end bytes printed at range good bad = items_or_bad bytes good.items at good.lines bad
printed_or_bad (command.Simulate r b) front end bytes printed at range good bad = simulated_or_bad b r bytes printed at (omega (arith, range.1)) good.2 bad
printed_or_bad command.Judge front end bytes printed at range good bad = record_or_bad bytes good.1.written at good.1.text bad
printed_or_bad (command.Gen s n w r) front end bytes printed at range good bad = bad
printed_or_bad (command.Rollup g w r) front end bytes printed at range good bad = roll_items_or_bad bytes good.items at good.lines bad

-- there is one first bad line at most
one_bad : (c : Command) (bytes : List ℕ) (m n : ℕ) → IsFirstOutside c bytes m → IsFirstOutside c bytes n → m ≡ n
one_bad (command.Replay w r) bytes m n h k = same_bad bytes m n h k
one_bad (command.Simulate r b) bytes m n h k = same_outside b r bytes m n h k
one_bad command.Judge bytes m n h k = same_bad_record_line bytes m n h k
one_bad (command.Gen s i w r) bytes m n h k = absurd h
one_bad (command.Rollup g w r) bytes m n h k = same_bad_roll_line bytes m n h k

-- an input that has a text is not bad
pub good_is_not_bad : (c : Command) (front : Option Pass) (end : Ending) (bytes printed : List ℕ) (outcome : Outcome) → AreInRange c → length bytes ≤ MOST_BYTES → IsPrinted c front end bytes printed → IsToldBad c outcome bytes
good_is_not_bad c front end bytes printed outcome range short good at bad = absurd (⊎_elim (λ long. at_length long.0) (λ first. printed_or_bad c front end bytes printed at range good first.1) bad.1)
  where
    at_length : MOST_BYTES < length bytes → ⊥
    at_length long = omega arith

-- the line of bad input that was found is the line that is told
pub bad_is_told : (c : Command) (bytes : List ℕ) (outcome : Outcome) (n : ℕ) → outcome.status ≡ status.BadInput → outcome.line ≡ n → IsBadInput c n bytes → IsToldBad c outcome bytes
bad_is_told c bytes outcome n is_bad is_at found at bad = inl (is_bad, is_at ∙ same found.1 bad.1)
  where
    crossed : {X : Type 0} → MOST_BYTES < length bytes → length bytes ≤ MOST_BYTES → X
    crossed long short = absurd (omega arith)

    same : ((MOST_BYTES < length bytes) × (n ≡ 0)) ⊎ ((length bytes ≤ MOST_BYTES) × IsFirstOutside c bytes n)
        → ((MOST_BYTES < length bytes) × (at ≡ 0)) ⊎ ((length bytes ≤ MOST_BYTES) × IsFirstOutside c bytes at) → n ≡ at
    same (inl long) (inl other) = long.1 ∙ sym other.1
    same (inl long) (inr first) = crossed long.0 first.0
    same (inr first) (inl long) = crossed long.0 first.0
    same (inr first) (inr other) = one_bad c bytes n at first.1 other.1

-- want of memory excuses that no bad line is told, and so does a read that failed
pub memory_is_told : (c : Command) (left : Option (List ℕ)) (outcome : Outcome) → outcome.status ≡ status.OutOfMemory → IfSome left (IsToldBad c outcome)
memory_is_told c None outcome e = tt
memory_is_told c (Some all) outcome e = λ at bad. inr (inr e)

pub fault_is_told : (c : Command) (left : Option (List ℕ)) (outcome : Outcome) → outcome.status ≡ status.ReadFault → IfSome left (IsToldBad c outcome)
fault_is_told c None outcome e = tt
fault_is_told c (Some all) outcome e = λ at bad. inr (inl e)

-- a command that reads nothing has no bad input
pub unread_is_told : (c : Command) (left : Option (List ℕ)) (outcome : Outcome) → (Reads c → ⊥) → IfSome left (IsToldBad c outcome)
unread_is_told c None outcome none = tt
unread_is_told c (Some all) outcome none = λ at bad. absurd (none bad.0)
