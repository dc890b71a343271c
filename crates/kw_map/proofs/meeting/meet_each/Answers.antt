use Rattle.std.proofs.Common.{arith}
use Rattle.kw_map.proofs.Meetings.{meets_trans}
use Rattle.kw_map.proofs.meeting.meet_each.Goals as goal

pub follow_each-requires-clause-others : goal.follow_each-requires-clause-others
follow_each-requires-clause-others c = λ k d lt. let r = c.reach_each.ensures.others k d d (omega arith) in (r.of_table, r.seen)

pub returns-clause-others : goal.returns-clause-others
returns-clause-others c = λ i d e lt.
    let r = c.reach_each.ensures.others i d d lt in
    let g = c.follow_each.ensures.others i d e (omega arith) in
    record { of_table = g.of_table; meets = meets_trans _ _ _ r.meets g.meets; seen = g.seen }
