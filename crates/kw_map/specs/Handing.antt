-- Which pairs a scan hands on while it reads its rows cell by cell, and what it has then.
use Rattle.std.specs.Prelude.{ℕ, suc, ◌≡◌, ◌≤◌, ◌⊎◌, ◌&&◌, ◌++◌, nat_le, if◌then◌else◌, List, [], ◌∷◌, Option, Some, None, Result, OnOk, OnErr}
use Rattle.kw_cells.specs.declared.cell.Cell.{Cell}
use Rattle.kw_cells.specs.Cells.{best_of}
use Rattle.kw_model.specs.Counts.{CountRose}
use Rattle.kw_model.specs.Map.{Pairs}
use Rattle.kw_world.specs.declared.local.Local.{Local}
use Rattle.kw_table.specs.declared.pass.Pass.{Pass}
use Rattle.kw_follow.specs.Calling.{KeepsCalls}
use Rattle.kw_follow.specs.Following.{held}
use Rattle.kw_map.specs.Gather.{IsBelow, Takes, TakesPrefix}
use Rattle.kw_map.specs.declared.gather.Stop.{Stop}

-- of these cells, none from this key on may be shown at the version; the key below it is that of
-- one that may, but where it is the key at which the range begins
pub record IsSettled (cells : List Cell) (from version low : ℕ) : Type 0 where
  pub begun : from ≤ low
  pub rest : (key : ℕ) → low ≤ key → best_of cells key version ≡ None
  pub last : (low ≡ from) ⊎ ((key : ℕ) × (c : Cell) × (low ≡ suc key) × (from ≤ key) × (best_of cells key version ≡ Some c))

-- the key up to which all is settled once this cell has come
abbrev pub next_low : ℕ → ℕ → Cell → ℕ
next_low low version c = if nat_le low c.key && nat_le c.version version then suc c.key else low

-- the pair of a key with this value, if there is one
abbrev pub pair_with : ℕ → Option ℕ → Pairs
pair_with key None = []
pair_with key (Some value) = (key, value) ∷ []

-- the pairs that this cell adds
abbrev pub more_of : ℕ → ℕ → Cell → Pairs
more_of low version c = if nat_le low c.key && nat_le c.version version then pair_with c.key c.value else []

-- a scan went on from row to row, and has these pairs more, which are below the key that it now
-- wants: the gatherer took them all, or the first of them, and stopped
pub record HandsOn {S : Type 0} (last : S → Option ℕ) (stands : S → Pairs → Type 0) (stops : S → ℕ) (p : Pass) (l : Local) (old : S) (q : Pass) (m : Local) (new : S) (ended : Result Unit Stop) : Type 0 where
  pub calls : KeepsCalls p q
  pub call : m.call ≡ l.call
  pub version : m.version ≡ l.version
  pub rises : l.want ≤ m.want
  pub pairs : Pairs
  pub held : held q ≡ held p ++ pairs
  pub all : OnOk ended (Takes last stands old pairs new)
  pub below : OnOk ended (IsBelow (last new) m.want)
  pub prefix : OnErr ended (TakesPrefix last stands old pairs new)
  pub stopped : OnErr ended (CountRose (stops old) (stops new))
  pub never_falls : stops old ≤ stops new
