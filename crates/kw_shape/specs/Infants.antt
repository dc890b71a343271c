-- What a seat knows of the rows that it takes for a rebalance: they are its own, and the words that
-- it has written of them stand.
--
-- A row is an infant of the seat that took it until it is linked or given back, and nobody else
-- writes a word of it. They are written one after the other, each from its count to what stands at
-- its last place. Once all are written, every word of each stands, until they are linked. Taken
-- rows are given back from the first on.
use Rattle.std.specs.Prelude.{ℕ, ◌≡◌, ◌<◌, ◌≤◌, Some, length, slice_get}
use Rattle.kw_words.specs.declared.layout.Name.TheVariants as name
use Rattle.kw_words.specs.declared.pend.Pend.TheVariants as pend
use Rattle.kw_words.specs.Count.{count_word}
use Rattle.kw_words.specs.Link.{link_word}
use Rattle.kw_words.specs.Pend.{pend_word}
use Rattle.kw_words.specs.Plain.{cell_link_word, key_word, least_word, value_word, version_word}
use Rattle.kw_cells.specs.Cells.{value_in}
use Rattle.kw_rows.specs.Ledger.{Ledger, Infant}
use Rattle.kw_world.specs.declared.activity.Activity.{Activity}
use Rattle.kw_world.specs.declared.activity.rebalance.Rebalance.TheVariants as Rebalance
use Rattle.kw_world.specs.declared.activity.rebalance.replace.Replace.TheVariants as Replace
use Rattle.kw_world.specs.declared.activity.rebalance.seek.Seek.TheVariants as Seek
use Rattle.kw_world.specs.declared.activity.rebalance.write.Write.TheVariants as Write
use Rattle.kw_world.specs.declared.local.Local.{Local}
use Rattle.kw_world.specs.SeekTransitions.{at_infant, infant}
use Rattle.kw_world.specs.Sizes.{Sizes}
use Rattle.kw_world.specs.WriteTransitions.{first_listed, infant_cells, infant_count, infant_least, infant_link, key_in, listed_after, version_in}
use Rattle.kw_core.specs.Words.{Words}

-- the row is taken by the seat t, and is not linked
pub record IsInfantOf (g : Ledger) (t q : ℕ) : Type 0 where
  pub status : (g.fates q).status ≡ Infant
  pub owner : (g.fates q).owner ≡ t

-- Where a seat is with its infants.

-- how far: it seeks and takes rows, it gives them back, it writes them, or all are written and are
-- to be linked; elsewhere it has none
pub data Nursing : Type 0 where
  HasNone : Nursing
  Takes : Nursing
  GivesBack : Nursing
  Writes : Nursing
  Links : Nursing

abbrev pub nursing_of : Activity → Nursing
nursing_of (Activity.Rebalance (Rebalance.Seek Seek.GiveBack)) = GivesBack
nursing_of (Activity.Rebalance (Rebalance.Seek _)) = Takes
nursing_of (Activity.Rebalance (Rebalance.Write _)) = Writes
nursing_of (Activity.Rebalance (Rebalance.Replace Replace.Start)) = Links
nursing_of (Activity.Rebalance (Rebalance.Replace Replace.GuessedLeast)) = Links
nursing_of (Activity.Rebalance (Rebalance.Replace Replace.First)) = Links
nursing_of (Activity.Rebalance (Rebalance.Replace Replace.Next)) = Links
nursing_of (Activity.Rebalance (Rebalance.Replace Replace.NextLeast)) = Links
nursing_of (Activity.Rebalance (Rebalance.Replace Replace.Exchange)) = Links
nursing_of _ = HasNone

-- the row at this place of those that the seat took is its infant
abbrev pub IsNursed : Nursing → Local → ℕ → Type 0
IsNursed HasNone l i = ⊥
IsNursed Takes l i = Unit {0}
IsNursed GivesBack l i = l.rebalance.at ≤ i
IsNursed Writes l i = Unit {0}
IsNursed Links l i = Unit {0}

-- one of them is at hand
abbrev pub HasAtHand : Nursing → Type 0
HasAtHand GivesBack = Unit {0}
HasAtHand Writes = Unit {0}
HasAtHand _ = ⊥

-- there is one for each start
abbrev pub HasAll : Nursing → Type 0
HasAll Writes = Unit {0}
HasAll Links = Unit {0}
HasAll _ = ⊥

-- the one at this place is written whole
abbrev pub IsWhole : Nursing → Local → ℕ → Type 0
IsWhole Writes l i = i < l.rebalance.at
IsWhole Links l i = Unit {0}
IsWhole _ l i = ⊥

-- the one at hand is being written
abbrev pub IsWriting : Nursing → Type 0
IsWriting Writes = Unit {0}
IsWriting _ = ⊥

-- What is written of a row, where the seat is about to make the event of an activity. The words
-- come in the order of the activities: its count, its least key, its link, its first cell, its
-- entries, and of each cell the key, the value, the version and the link behind it. A place for
-- which the row has no cell gets a version alone.

abbrev pub HasCount : Activity → Type 0
HasCount (Activity.Rebalance (Rebalance.Write Write.Count)) = ⊥
HasCount _ = Unit {0}

abbrev pub HasLeast : Activity → Type 0
HasLeast (Activity.Rebalance (Rebalance.Write Write.Count)) = ⊥
HasLeast (Activity.Rebalance (Rebalance.Write Write.Least)) = ⊥
HasLeast _ = Unit {0}

abbrev pub HasNext : Activity → Type 0
HasNext (Activity.Rebalance (Rebalance.Write Write.Count)) = ⊥
HasNext (Activity.Rebalance (Rebalance.Write Write.Least)) = ⊥
HasNext (Activity.Rebalance (Rebalance.Write Write.Next)) = ⊥
HasNext _ = Unit {0}

abbrev pub HasFirst : Activity → Type 0
HasFirst (Activity.Rebalance (Rebalance.Write Write.Count)) = ⊥
HasFirst (Activity.Rebalance (Rebalance.Write Write.Least)) = ⊥
HasFirst (Activity.Rebalance (Rebalance.Write Write.Next)) = ⊥
HasFirst (Activity.Rebalance (Rebalance.Write Write.First)) = ⊥
HasFirst _ = Unit {0}

abbrev pub HasEntry : Activity → ℕ → Type 0
HasEntry (Activity.Rebalance (Rebalance.Write Write.Count)) i = ⊥
HasEntry (Activity.Rebalance (Rebalance.Write Write.Least)) i = ⊥
HasEntry (Activity.Rebalance (Rebalance.Write Write.Next)) i = ⊥
HasEntry (Activity.Rebalance (Rebalance.Write Write.First)) i = ⊥
HasEntry (Activity.Rebalance (Rebalance.Write (Write.Entry k))) i = i < k
HasEntry _ i = Unit {0}

abbrev pub HasKey : Activity → ℕ → Type 0
HasKey (Activity.Rebalance (Rebalance.Write (Write.Key k))) j = j < k
HasKey (Activity.Rebalance (Rebalance.Write (Write.Value k))) j = j ≤ k
HasKey (Activity.Rebalance (Rebalance.Write (Write.Version k))) j = j ≤ k
HasKey (Activity.Rebalance (Rebalance.Write (Write.After k))) j = j ≤ k
HasKey (Activity.Rebalance (Rebalance.Write _)) j = ⊥
HasKey _ j = Unit {0}

abbrev pub HasValue : Activity → ℕ → Type 0
HasValue (Activity.Rebalance (Rebalance.Write (Write.Key k))) j = j < k
HasValue (Activity.Rebalance (Rebalance.Write (Write.Value k))) j = j < k
HasValue (Activity.Rebalance (Rebalance.Write (Write.Version k))) j = j ≤ k
HasValue (Activity.Rebalance (Rebalance.Write (Write.After k))) j = j ≤ k
HasValue (Activity.Rebalance (Rebalance.Write _)) j = ⊥
HasValue _ j = Unit {0}

abbrev pub HasVersion : Activity → ℕ → Type 0
HasVersion (Activity.Rebalance (Rebalance.Write (Write.Key k))) j = j < k
HasVersion (Activity.Rebalance (Rebalance.Write (Write.Value k))) j = j < k
HasVersion (Activity.Rebalance (Rebalance.Write (Write.Version k))) j = j < k
HasVersion (Activity.Rebalance (Rebalance.Write (Write.After k))) j = j ≤ k
HasVersion (Activity.Rebalance (Rebalance.Write _)) j = ⊥
HasVersion _ j = Unit {0}

abbrev pub HasAfter : Activity → ℕ → Type 0
HasAfter (Activity.Rebalance (Rebalance.Write (Write.Key k))) j = j < k
HasAfter (Activity.Rebalance (Rebalance.Write (Write.Value k))) j = j < k
HasAfter (Activity.Rebalance (Rebalance.Write (Write.Version k))) j = j < k
HasAfter (Activity.Rebalance (Rebalance.Write (Write.After k))) j = j < k
HasAfter (Activity.Rebalance (Rebalance.Write _)) j = ⊥
HasAfter _ j = Unit {0}

-- the words of row q that stand, where it is the row at hand of a seat that knows l and is about to
-- do this
pub record Written (z : Sizes) (v : Words) (a : Activity) (l : Local) (q : ℕ) : Type 0 where
  pub count : HasCount a → v (name.Count q) ≡ count_word (infant_count l)
  pub least : HasLeast a → v (name.Least q) ≡ least_word (infant_least l) (length (infant_cells l))
  pub next : HasNext a → v (name.Next q) ≡ link_word (infant_link l)
  pub first : HasFirst a → v (name.First q) ≡ cell_link_word (first_listed (infant_cells l))
  pub entries : (i : ℕ) → i < z.seats → HasEntry a i → v (name.Pend q i) ≡ pend_word pend.Idle
  pub keys : (j : ℕ) → j < z.cells → j < length (infant_cells l) → HasKey a j → v (name.Key q j) ≡ key_word (key_in (slice_get (infant_cells l) j))
  pub values : (j : ℕ) → j < z.cells → j < length (infant_cells l) → HasValue a j → v (name.Value q j) ≡ value_word (value_in (slice_get (infant_cells l) j))
  pub versions : (j : ℕ) → j < z.cells → HasVersion a j → v (name.Version q j) ≡ version_word (version_in (slice_get (infant_cells l) j))
  pub afters : (j : ℕ) → j < z.cells → j < length (infant_cells l) → HasAfter a j → v (name.After q j) ≡ cell_link_word (listed_after (infant_cells l) j)

-- The rows of a seat.

-- the rows that the seat took are its infants, and differ; one is at hand where rows are written or
-- given back, and there is one for each start once they are written; and the words that were
-- written stand: all of each row before the one at hand, what was written of that one, and all of
-- all rows while the row before the full one is sought
pub record Infants (z : Sizes) (v : Words) (g : Ledger) (t : ℕ) (a : Activity) (l : Local) : Type 0 where
  pub owned : (i q : ℕ) → IsNursed (nursing_of a) l i → slice_get l.rebalance.taken i ≡ Some q → IsInfantOf g t q
  pub apart : (i j q : ℕ) → IsNursed (nursing_of a) l i → IsNursed (nursing_of a) l j → slice_get l.rebalance.taken i ≡ Some q → slice_get l.rebalance.taken j ≡ Some q → i ≡ j
  pub hand : HasAtHand (nursing_of a) → l.rebalance.at < length l.rebalance.taken
  pub enough : HasAll (nursing_of a) → (0 < length l.rebalance.taken) × (length l.rebalance.starts ≤ length l.rebalance.taken)
  pub whole : (i q : ℕ) → IsWhole (nursing_of a) l i → slice_get l.rebalance.taken i ≡ Some q → Written z v (Activity.Rebalance (Rebalance.Replace Replace.Start)) (at_infant i l) q
  pub words : IsWriting (nursing_of a) → Written z v a l (infant l)

-- the row is one of those that the seat took, and has still
abbrev pub IsNursedRow : Activity → Local → ℕ → Type 0
IsNursedRow a l q = (i : ℕ) × IsNursed (nursing_of a) l i × (slice_get l.rebalance.taken i ≡ Some q)

-- the seat has lost none: each row that it took, and that is neither linked nor given back, is one
-- of those that it has
abbrev pub HasLostNone : Ledger → ℕ → Activity → Local → Type 0
HasLostNone g t a l = (q : ℕ) → IsInfantOf g t q → IsNursedRow a l q
