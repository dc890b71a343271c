use Rattle.std.proofs.Common.{◌∙◌, sym}
use Rattle.kw_live.proofs.LookStages.{looking_on}
use Rattle.kw_live.proofs.looking.look_at_entries.Goals as goal

pub look_on-requires-clause-looking : goal.look_on-requires-clause-looking
look_on-requires-clause-looking c = sym c.is_looking.ensures ∙ c.loop-pass-test.true

pub loop-pass-smaller : goal.loop-pass-smaller
loop-pass-smaller c = c.look_on.ensures.fewer

pub loop-pass-preserved : goal.loop-pass-preserved
loop-pass-preserved c = looking_on c.loop-pass.invariant c.look_on.ensures
