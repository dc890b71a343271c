-- Where the cells stand with which a row was built.
use Rattle.std.specs.Prelude.{ℕ, ◌≡◌, ◌<◌, Some}
use Rattle.kw_world.specs.Sizes.{Sizes}
use Rattle.kw_core.specs.History.{attempt}
use Rattle.kw_core.specs.Run.{Run}
use Rattle.kw_rows.specs.Rows.{WasLinked}

-- what every valid list keeps: a cell that stands for an attempt from before its row was linked, a
-- copy, is one of the first cells, of which a row is built with no more than so many
pub record KeepsCopies (z : Sizes) (r : Run) : Type 0 where
  pub low : (q c p : ℕ) → WasLinked r.ledger.rows q → c < z.cells → r.origin q c ≡ Some p → (attempt r.history p).add < (r.ledger.rows.fates q).born → c < z.built
