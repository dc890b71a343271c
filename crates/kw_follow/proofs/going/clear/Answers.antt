use Rattle.std.proofs.Common.{subst, sym}
use Rattle.kw_follow.proofs.Carrying.{IsGoingOn}
use Rattle.kw_follow.proofs.Ends.{clear_leaves, clear_activity}
use Rattle.kw_follow.proofs.Moving.{went_in, went_on}
use Rattle.kw_follow.proofs.going.clear.Goals as goal

pub returns-clause-went : goal.returns-clause-went
returns-clause-went c = went_on c.requires.follows (subst IsGoingOn (sym c.requires.over.1) tt) c.clear_version.ensures

pub returns-clause-leaves : goal.returns-clause-leaves
returns-clause-leaves c = clear_leaves (went_in c.requires.follows c.clear_version.ensures)

pub returns-clause-activity : goal.returns-clause-activity
returns-clause-activity c = clear_activity (went_in c.requires.follows c.clear_version.ensures)

pub unreachable-requires : goal.unreachable-requires
unreachable-requires c = c.in_default.not-EndScan c.requires.over.0 c.requires.over.1
