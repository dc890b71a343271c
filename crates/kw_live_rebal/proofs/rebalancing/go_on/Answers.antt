use Rattle.std.proofs.Common.{subst, sym}
use Rattle.kw_world.specs.declared.event.Choice.{Choice}
use Rattle.kw_follow.specs.Moving.{WentOn}
use Rattle.kw_live_rebal.proofs.rebalancing.go_on.Goals as goal

pub returns-in-Go : goal.returns-in-Go
returns-in-Go c = subst (λ (x : Choice). WentOn c.args.shared.now c.args.pass.now c.args.local.now x c.go_build.new.pass c.go_build.new.local) (sym c.in-Go.is) c.go_build.ensures

pub returns-in-Guess : goal.returns-in-Guess
returns-in-Guess c = subst (λ (x : Choice). WentOn c.args.shared.now c.args.pass.now c.args.local.now x c.go_build_guess.new.pass c.go_build_guess.new.local) (sym c.in-Guess.is) c.go_build_guess.ensures
