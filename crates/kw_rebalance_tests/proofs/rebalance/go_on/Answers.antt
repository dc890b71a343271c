use Rattle.std.proofs.Common.{length, arith, ap}
use Rattle.kw_world.specs.declared.event.Choice.TheVariants as choice
use Rattle.kw_world.specs.Sizes.{product}
use Rattle.kw_world.specs.Step.{Stepped}
use Rattle.kw_world.proofs.Steps.{step-seats}
use Rattle.kw_rebalance_tests.proofs.rebalance.go_on.Goals as goal

pub returns : goal.returns
returns c =
    omega (arith, c.requires.seat, ap (λ (s : Stepped). length s.world.locals) c.in_ok-done.ensures.ok, step-seats product c.args.world.now (record { seat = 1; choice = choice.Go }))
