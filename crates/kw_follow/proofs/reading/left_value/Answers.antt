use Rattle.kw_follow.proofs.ReadEvents.{gathered_on}
use Rattle.kw_follow.proofs.reading.left_value.Goals as goal

pub returns : goal.returns
returns c = gathered_on _ _ c.args.local.now _ _ c.gather.ensures.gathered c.go_to_left_over.ensures
