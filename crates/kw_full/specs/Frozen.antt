-- Where entries are frozen.
use Rattle.std.specs.Prelude.{ℕ, ◌≡◌, ◌<◌}
use Rattle.kw_words.specs.declared.layout.Name.TheVariants as name
use Rattle.kw_words.specs.declared.pend.Pend.TheVariants.{Frozen}
use Rattle.kw_words.specs.Pend.{pend_word}
use Rattle.kw_rows.specs.Rows.{WasLinked}
use Rattle.kw_world.specs.Sizes.{Sizes}
use Rattle.kw_world.specs.Step.{word}
use Rattle.kw_core.specs.Run.{Run}
use Rattle.kw_puts.specs.Freezes.{IsFrozen}

-- what every valid list keeps: of the rows that are in the list, or were, only one whose count is
-- frozen has a frozen entry. A new row may have those of its last use until it is written
pub record KeepsFrozen (z : Sizes) (r : Run) : Type 0 where
  pub entries : (q i : ℕ) → WasLinked r.ledger.rows q → i < z.seats → word z r.world (name.Pend q i) ≡ pend_word Frozen → IsFrozen (word z r.world) q
