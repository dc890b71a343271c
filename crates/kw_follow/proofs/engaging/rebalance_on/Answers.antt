use Rattle.std.proofs.Common.{◌≡◌, ℕ, subst}
use Rattle.kw_world.specs.Sizes.{product}
use Rattle.kw_world.specs.Step.{next_of}
use Rattle.kw_world.specs.Transition.{outcome}
use Rattle.kw_follow.proofs.engaging.rebalance_on.Goals as goal

pub rebalance_resume-requires-clause-ranges : goal.rebalance_resume-requires-clause-ranges
rebalance_resume-requires-clause-ranges c = c.requires.ranges

pub rebalance_resume-requires-clause-room : goal.rebalance_resume-requires-clause-room
rebalance_resume-requires-clause-room c = c.requires.room

pub rebalance_resume-requires-clause-part : goal.rebalance_resume-requires-clause-part
rebalance_resume-requires-clause-part c = c.requires.part

pub returns : goal.returns
returns c = subst (λ (n : ℕ). outcome c.rebalance_resume.new.local c.rebalance_resume.result ≡ next_of product n c.args.choice c.args.local.now c.args.told) c.rows.ensures c.rebalance_resume.ensures
