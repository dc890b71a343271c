use Rattle.std.proofs.Common.{◌∙◌, ap, subst, sym}
use Rattle.kw_world.specs.declared.local.Local.{Local}
use Rattle.kw_follow.specs.BuildsOn.{IsBuildingOn}
use Rattle.kw_follow.proofs.RowWriting.{row_over}
use Rattle.kw_live_rebal.proofs.Building.{stretch_goes_on}
use Rattle.kw_live_rebal.proofs.stretches.write_new_row.Goals as goal

pub returns-clause-on : goal.returns-clause-on
returns-clause-on c = c.write_row.ensures.on

pub returns-clause-tidies : goal.returns-clause-tidies
returns-clause-tidies c = ap (λ (l : Local). l.tidies) c.write_row.ensures.written ∙ (row_over c.args.local.now).tidies

pub returns-clause-written : goal.returns-clause-written
returns-clause-written c = c.write_row.ensures.written

pub returns-clause-goes_on : goal.returns-clause-goes_on
returns-clause-goes_on c = stretch_goes_on c.write_row.ensures.on (subst (λ (l : Local). IsBuildingOn l.activity) (sym c.write_row.ensures.written) (row_over c.args.local.now).stands)
