use Rattle.std.proofs.Common.{codes, [], arith}
use Rattle.kw_beside.proofs.TwoParts.{two_read}
use Rattle.kw_beside.proofs.together.tests.want_of_memory_is_passed_on.Goals as goal

-- a reader may want memory for any piece, as for one of no bytes
pub together-requires : goal.together-requires
together-requires g c =
    let first = c.parse.ensures in
    two_read (codes "get 1\nwait") [] _ _ _ _ _ c.new-parts.ensures.items c.in_ok-push.ensures.items c.in_ok-push-2.ensures.items
    (record { items = first.items; bad = first.bad }) (record { items = tt; bad = tt }) (omega arith)
