use Rattle.std.proofs.Common.{subst, sym}
use Rattle.kw_cells.specs.Kept.{AreRising}
use Rattle.kw_step_rebal.proofs.Rising.{rising_part}
use Rattle.kw_step_rebal.proofs.infant_words.rising_after_word.Goals as goal

pub listed_after_rising-requires-clause-rising : goal.listed_after_rising-requires-clause-rising
listed_after_rising-requires-clause-rising c = subst AreRising (sym c.infant_cells.ensures.cells) (rising_part _ _ _ c.requires.rising)
