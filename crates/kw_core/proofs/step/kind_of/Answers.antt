use Rattle.std.proofs.Common.{sym, ◌∙◌}
use Rattle.kw_world.specs.Sizes.{product}
use Rattle.kw_world.proofs.Steps.{step-skipped}
use Rattle.kw_world.proofs.Skipping.{step-made}
use Rattle.kw_core.proofs.step.kind_of.Goals as goal

pub operation-requires : goal.operation-requires
operation-requires c = (c.requires.sane.locals _ _ c.local-local.ensures).ranges

pub returns-then-skips-clause-skipped : goal.returns-then-skips-clause-skipped
returns-then-skips-clause-skipped c = λ _. step-skipped product c.args.world.now c.args.event c.local-local.result.now c.local-local.ensures (sym c.skips.ensures ∙ c.if-skips.true)

pub returns-clause-made : goal.returns-clause-made
returns-clause-made c = step-made product c.args.world.now c.args.event c.local-local.result.now c.local-local.ensures (sym c.skips.ensures ∙ c.if-skips.false)
