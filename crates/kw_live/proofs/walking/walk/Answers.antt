use Rattle.std.proofs.Common.{◌∙◌, sym}
use Rattle.kw_live.proofs.WalkStages.{walking_on}
use Rattle.kw_live.proofs.walking.walk.Goals as goal

pub walk_on-requires-clause-walking : goal.walk_on-requires-clause-walking
walk_on-requires-clause-walking c = sym c.is_walking.ensures ∙ c.loop-pass-test.true

pub loop-pass-smaller : goal.loop-pass-smaller
loop-pass-smaller c = c.walk_on.ensures.fewer

pub loop-pass-preserved : goal.loop-pass-preserved
loop-pass-preserved c = walking_on c.loop-pass.invariant c.walk_on.ensures
