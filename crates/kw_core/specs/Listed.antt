-- Which cells of each row are listed: a ghost that is folded along with the events beside the
-- record, and that no code reads. The laws about the lists of rows speak of it. The exchange that
-- inserts a cell lists it, and it stays listed as long as the row is not written anew.
--
-- The first word that is written of a new row unlists its cells, of which the row may have had some
-- when it was in the list before. A copy is listed by the last word that is written of its cell,
-- the link behind it: its key, its version and the attempt for which it stands are known by then,
-- so that at any time a listed cell has all three.
use Rattle.std.specs.Prelude.{ℕ, ◌==◌, Bool, false, nat_lt, if◌then◌else◌, length}
use Rattle.kw_lists.specs.Changes.{with_cell}
use Rattle.kw_words.specs.Plain.{cell_link_word}
use Rattle.kw_world.specs.declared.activity.Activity.{Activity}
use Rattle.kw_world.specs.declared.activity.insert.Insert.TheVariants as Insert
use Rattle.kw_world.specs.declared.activity.rebalance.Rebalance.TheVariants as Rebalance
use Rattle.kw_world.specs.declared.activity.rebalance.write.Write.TheVariants as Write
use Rattle.kw_world.specs.declared.local.Local.{Local}
use Rattle.kw_world.specs.SeekTransitions.{infant}
use Rattle.kw_world.specs.WriteTransitions.{infant_cells}

-- the cells of each row that are listed
abbrev pub Listed : Type 0
Listed = ℕ → ℕ → Bool

-- no cell is listed
abbrev pub none_listed : Listed
none_listed q c = false

-- one cell of a row is listed too
abbrev pub with_listed : Listed → ℕ → ℕ → Listed
with_listed f r c q = if q == r then with_cell (f r) c else f q

-- no cell of a row is
abbrev pub without_listed : Listed → ℕ → Listed
without_listed f r q = if q == r then (λ c. false) else f q

-- the listed cells after the event of an activity, of a seat that knew l and found this word
abbrev pub listed_after : Activity → Local → ℕ → Listed → Listed
listed_after (Activity.Insert Insert.Exchange) l found f = if found == cell_link_word l.held then with_listed f l.row l.cell else f
listed_after (Activity.Rebalance (Rebalance.Write Write.Count)) l found f = without_listed f (infant l)
listed_after (Activity.Rebalance (Rebalance.Write (Write.After j))) l found f = if nat_lt j (length (infant_cells l)) then with_listed f (infant l) j else f
listed_after _ l found f = f
