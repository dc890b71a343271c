use Rattle.kw_map.proofs.Meetings.{meets_all}
use Rattle.kw_map.proofs.meeting.meet_all.Goals as goal

pub returns-in-Some : goal.returns-in-Some
returns-in-Some c = meets_all _ _ _ _ _ _ c.in-Some.ensures.cases.0 c.meet_each.ensures.front.0 c.meet_each.ensures.front.1 c.meet_each.ensures.others
