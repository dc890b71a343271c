use Rattle.std.proofs.Common.{arith, length, ap}
use Rattle.kw_core.proofs.Attempts.{in_range, attempt_at}
use Rattle.kw_order.proofs.CallRanks.{behind_rank}
use Rattle.kw_order.proofs.points.rank_behind.Goals as goal

pub offset_bounds-attempts-put : goal.offset_bounds-attempts-put
offset_bounds-attempts-put c =
    let put = rw c.in-Some.is at c.requires.put in omega (arith, in_range c.args.history.now c.in-Some.put put, ap length c.attempts.ensures, c.attempts.type_inv)

pub bounds-attempts-put : goal.bounds-attempts-put
bounds-attempts-put c =
    let put = rw c.in-Some.is at c.requires.put in omega (arith, in_range c.args.history.now c.in-Some.put put, ap length c.attempts.ensures)

pub returns-then-first-at : goal.returns-then-first-at
returns-then-first-at c =
    rw (c.in-Some.is, attempt_at c.args.history.now c.attempts.result.now c.in-Some.put c.attempts.ensures) (behind_rank c.args.history.now c.in-Some.put c.point-at.result c.args.first c.point-at.ensures c.if-first-at.true)
