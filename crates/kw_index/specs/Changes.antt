-- What a change of entries is, and which entries it leaves.
use Rattle.std.specs.Prelude.{ℕ, Option, Some, None, List, fold}
use Rattle.kw_index.specs.declared.entries.IndexEntry.{IndexEntry}
use Rattle.kw_index.specs.Entries.{Listing, without, with_own}

-- what callers see of a change: the entries of the rows that come, in the order in which they are
-- placed, the row that goes, and the row that goes with it, if there is one
pub record Replacement : Type 0 where
  pub placed : List IndexEntry
  pub gone : ℕ
  pub second : Option ℕ

-- the entries after each of these is made the one of its row, one after the other
abbrev pub placed_all : ℕ → List IndexEntry → List IndexEntry → List IndexEntry
placed_all rows entries list = fold (λ list e. with_own rows e list) list entries

-- the entries without that of the row, if there is one
abbrev pub without_any : Option ℕ → List IndexEntry → List IndexEntry
without_any (Some row) list = without row list
without_any None list = list

-- the entries after a change: those of the rows that come are placed, and then those of the rows
-- that go are dropped
abbrev pub with_change : Replacement → Listing → Listing
with_change change old = record { rows = old.rows; list = without_any change.second (without change.gone (placed_all old.rows change.placed old.list)) }
