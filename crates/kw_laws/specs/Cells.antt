-- What the cells of a row show, read from the words alone, and for which puts they stand.
use Rattle.std.specs.Prelude.{ℕ, ◌≡◌, ◌≢◌, ◌<◌, ◌≤◌, Option, Some}
use Rattle.kw_words.specs.declared.layout.Name.TheVariants as name
use Rattle.kw_words.specs.declared.pend.Pend.TheVariants.{Stamped}
use Rattle.kw_words.specs.Pend.{pend_of}
use Rattle.kw_world.specs.Sizes.{Sizes}
use Rattle.kw_world.specs.Step.{word}
use Rattle.kw_core.specs.History.{attempt}
use Rattle.kw_core.specs.HistoryLaws.{IsPut}
use Rattle.kw_core.specs.Run.{Run}
use Rattle.kw_core.specs.Words.{Words, given_in, least_in, next_in}
use Rattle.kw_kept.specs.Kept.{Rows}
use Rattle.kw_puts.specs.Puts.{key_in, value_in}
use Rattle.kw_shape.specs.ReachedRows.{IsReached}

-- the version of a cell: that in its word, or, where this is 0, the one with which an entry of the
-- row is stamped for the cell
pub data HasVersion (z : Sizes) (v : Words) (q c version : ℕ) : Type 0 where
  is_stored : v (name.Version q c) ≢ 0 → v (name.Version q c) ≡ version → HasVersion z v q c version
  is_stamped : (i : ℕ) → i < z.seats → v (name.Version q c) ≡ 0 → pend_of (v (name.Pend q i)) ≡ Some (Stamped c version) → HasVersion z v q c version

-- the row has given the cell, and a key, a version and a value stand in it
pub record IsShown (z : Sizes) (v : Words) (q c k u : ℕ) (x : Option ℕ) : Type 0 where
  pub within : c < z.cells
  pub given : c < given_in v q
  pub key : key_in v q c ≡ k
  pub version : HasVersion z v q c u
  pub value : value_in v q c ≡ x

-- a cell that stands for the stamped put, its own or a copy, shows what was put
pub record IsShownIn (z : Sizes) (r : Run) (q p : ℕ) : Type 0 where
  pub cell : ℕ
  pub origin : r.origin q cell ≡ Some p
  pub is_put : IsPut r.history p
  pub shown : IsShown z (word z r.world) q cell (attempt r.history p).key (attempt r.history p).version (attempt r.history p).value

-- the key, the version and the value that a cell shows are those of the stamped put for which it
-- stands
pub record IsOfPut (r : Run) (q c k u : ℕ) (x : Option ℕ) : Type 0 where
  pub put : ℕ
  pub origin : r.origin q c ≡ Some put
  pub is_put : IsPut r.history put
  pub key : (attempt r.history put).key ≡ k
  pub version : (attempt r.history put).version ≡ u
  pub value : (attempt r.history put).value ≡ x

-- the row is reached from Head along links, and the key is of its range: from its least key on, and
-- below that of the row after it
pub record IsRowOf (v : Words) (q key : ℕ) : Type 0 where
  pub saw : IsReached v q
  pub from : least_in v q ≤ key
  pub below : (n : ℕ) → next_in v q ≡ Some n → key < least_in v n

-- the rows as their words show them: what stands in their cells, and the keys of their ranges
abbrev pub shown_rows : Sizes → Run → Rows
shown_rows z r = record { in_row = IsShownIn z r; stamped = IsPut r.history; holds = IsRowOf (word z r.world) }
