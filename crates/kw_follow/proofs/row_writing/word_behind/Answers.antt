use Rattle.std.proofs.Common.{◌∙◌, List, ap, subst, sym}
use Rattle.kw_cells.specs.declared.cell.Cell.{Cell}
use Rattle.kw_step_rebal.proofs.Rising.{rising_part}
use Rattle.kw_words.specs.Plain.{cell_link_word}
use Rattle.kw_world.specs.WriteTransitions.{infant_cells}
use Rattle.kw_follow.specs.BuildsOn.{StandAlone}
use Rattle.kw_follow.proofs.Alone.{alone_behind}
use Rattle.kw_follow.proofs.row_writing.word_behind.Goals as goal

pub returns-then-stand_alone : goal.returns-then-stand_alone
returns-then-stand_alone c = c.pack_cell_link.ensures.value ∙ ap cell_link_word (sym (alone_behind (infant_cells c.args.local.now) (rising_part _ _ _ c.requires.rising) c.args.place (subst (λ (s : List Cell). StandAlone s c.args.place) c.requires.cells (c.stand_alone.ensures c.if-stand_alone.true))))
