-- The cell of an entry that a word stands for is in range.
use Rattle.std.proofs.Common.{refl, subst}
use Rattle.kw_words.specs.Pend.{IsPend}
use Rattle.kw_words.specs.declared.pend.Pend.TheVariants.{Stamped}
use Rattle.kw_step_rebal.proofs.resume_freeze.look.Goals as goal

pub remember-requires-clause-cell : goal.remember-requires-clause-cell
remember-requires-clause-cell c =
    let known : IsPend (Stamped c.in-Some-Stamped.cell c.in-Some-Stamped.version) = subst IsPend c.in-Some-Stamped.field-0-is (c.in-Some-Stamped.ensures.right c.in-Some-Stamped.field-0 refl).0 in
    known.0
