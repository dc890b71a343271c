-- What a log is: entries as they once were, and the changes since, of which the last ones are
-- kept; and what it makes of entries that lag behind.
use Rattle.std.specs.Prelude.{ℕ, zero, suc, ◌≡◌, ◌+◌, ◌-◌, ◌^◌, ◌%◌, nat_le, if◌then◌else◌, List, [], ◌∷◌, Option, Some, None, length, slice_index_or, slice_set}
use Rattle.kw_index.specs.Changes.{Replacement, with_change}
use Rattle.kw_index.specs.Entries.{Listing}
use Rattle.kw_index.specs.declared.log.TheConstants.{CHANGES_KEPT}

-- what callers see of a log: its base, the number of the last change that the base has, the
-- places of the changes that are kept, and the number of the last change
pub record Account : Type 0 where
  pub base : Listing
  pub base_number : ℕ
  pub changes : List Replacement
  pub number : ℕ

-- there is a place for each change that is kept
abbrev pub IsKept : {X : Type 0} → List X → Type 0
IsKept changes = length changes ≡ CHANGES_KEPT

-- numbers begin anew behind the greatest
abbrev pub numbers : ℕ
numbers = 2 ^ 32

-- the place of the change of a number
abbrev pub place : ℕ → ℕ
place number = number % CHANGES_KEPT

-- how many changes were made behind a number
abbrev pub behind : Account → ℕ → ℕ
behind account seen = (account.number + (numbers - seen)) % numbers

-- the number that comes so many behind a number
abbrev pub later : ℕ → ℕ → ℕ
later seen count = (seen + count) % numbers

-- the change of a number, where it is kept
abbrev pub change_of : Account → ℕ → Replacement
change_of account number = slice_index_or account.changes (place number) (record { placed = []; gone = zero; second = None })

-- entries once so many changes behind a number were made, in the order of their numbers
unfoldable pub after : Account → ℕ → ℕ → Listing → Listing
after account seen zero listing = listing
after account seen (suc count) listing = with_change (change_of account (later seen (suc count))) (after account seen count listing)

-- the base with all changes
abbrev pub shown : Account → Listing
shown account = after account account.base_number (behind account account.base_number) account.base

-- entries that had the changes up to a number, with all changes: they themselves with those behind
-- it where these are kept, else the base with those behind that
abbrev pub brought_up : Account → Option ℕ → Listing → Listing
brought_up account None listing = shown account
brought_up account (Some seen) listing = if nat_le (behind account seen) CHANGES_KEPT then after account seen (behind account seen) listing else shown account

-- a log with one change more
abbrev pub with_added : Replacement → Account → Account
with_added change old = record {
  base = old.base;
  base_number = old.base_number;
  changes = slice_set old.changes (place (later old.number 1)) change;
  number = later old.number 1;
}

-- a log with another base, which has the changes up to this number
abbrev pub with_base : Listing → ℕ → Account → Account
with_base base number old = record { base = base; base_number = number; changes = old.changes; number = old.number }

-- a log of no change, whose base has the one entry of row 0 from the least key on
pub record IsFirst (rows : ℕ) (account : Account) : Type 0 where
  pub base : account.base ≡ record { rows = rows; list = record { least = zero; row = zero } ∷ [] }
  pub none : account.number ≡ account.base_number
