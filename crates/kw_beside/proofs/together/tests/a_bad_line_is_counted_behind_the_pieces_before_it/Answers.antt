use Rattle.std.proofs.Common.{codes, arith}
use Rattle.kw_beside.proofs.TwoParts.{two_read}
use Rattle.kw_beside.proofs.together.tests.a_bad_line_is_counted_behind_the_pieces_before_it.Goals as goal

pub together-requires : goal.together-requires
together-requires g c =
    let first = c.parse.ensures in
    let second = c.parse-2.ensures in
    two_read (codes "get 1\nwait") (codes "get 2\nget\nput\n") _ _ _ _ _ c.new-parts.ensures.items c.in_ok-push.ensures.items c.in_ok-push-2.ensures.items
    (record { items = first.items; bad = first.bad }) (record { items = second.items; bad = second.bad }) (omega arith)
