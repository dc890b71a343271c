use Rattle.std.proofs.Common.{None, Some, refl}
use Rattle.kw_table.specs.Passes.{view}
use Rattle.kw_follow.proofs.Reaching.{advances_on}
use Rattle.kw_live.proofs.WalkStages.{sets_out}
use Rattle.kw_live.proofs.walking.set_out.Goals as goal

pub returns-in-Some-clause-on : goal.returns-in-Some-clause-on
returns-in-Some-clause-on c = advances_on c.go_guess.ensures refl

pub returns-in-Some-clause-walks : goal.returns-in-Some-clause-walks
returns-in-Some-clause-walks c = sets_out c.args.local.now c.go_guess.new.local c.go_guess.ensures.told (view c.args.pass.now).opening.rows (Some c.in-Some.row) c.requires.start c.go_guess.ensures.line

pub returns-in-None-clause-on : goal.returns-in-None-clause-on
returns-in-None-clause-on c = advances_on c.go_along.ensures refl

pub returns-in-None-clause-walks : goal.returns-in-None-clause-walks
returns-in-None-clause-walks c = sets_out c.args.local.now c.go_along.new.local c.go_along.ensures.told (view c.args.pass.now).opening.rows None c.requires.start c.go_along.ensures.line
