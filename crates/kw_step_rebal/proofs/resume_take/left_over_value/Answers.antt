use Rattle.std.proofs.Common.{◌≤◌, length, subst, sym}
use Rattle.kw_cells.specs.declared.limits.TheConstants.{MOST_GATHERED}
use Rattle.kw_words.specs.Plain.{value_of_word}
use Rattle.kw_world.specs.declared.local.Local.{Local}
use Rattle.kw_world.specs.Sizes.{product}
use Rattle.kw_world.specs.TakeTransitions.{cell_of_group}
use Rattle.kw_step_rebal.proofs.Gathering.{length-kept_within}
use Rattle.kw_step_rebal.proofs.resume_take.left_over_value.Goals as goal

pub to_left-requires-clause-gathered : goal.to_left-requires-clause-gathered
to_left-requires-clause-gathered c =
    subst (λ (l : Local). length l.rebalance.gathered ≤ MOST_GATHERED) (sym c.gather.ensures)
    (length-kept_within MOST_GATHERED (cell_of_group product (value_of_word c.args.found) c.args.local.now) c.args.local.now.rebalance.gathered c.requires.gathered)
