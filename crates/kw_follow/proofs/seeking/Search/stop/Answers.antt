use Rattle.std.proofs.Common.{refl}
use Rattle.kw_follow.proofs.seeking.Search.stop.Goals as goal

pub rebalance_resume-requires-clause-ranges : goal.rebalance_resume-requires-clause-ranges
rebalance_resume-requires-clause-ranges c = c.requires.ranges

pub rebalance_resume-requires-clause-room : goal.rebalance_resume-requires-clause-room
rebalance_resume-requires-clause-room c = c.requires.room

pub rebalance_resume-requires-clause-part : goal.rebalance_resume-requires-clause-part
rebalance_resume-requires-clause-part c = refl
