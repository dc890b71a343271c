use Rattle.std.proofs.Common.{arith, length, ◌+◌, get_or, ap}
use Rattle.kw_core.proofs.Attempts.{attempt_at}
use Rattle.kw_order.specs.Puts.{put_at}
use Rattle.kw_order.proofs.PutLists.{place_within, last_point, other_point, next_point}
use Rattle.kw_order.proofs.puts.point_at.Goals as goal
use Rattle.kw_order.proofs.puts.point_at.Goals.{else-next-put-via-then-next-put+else-next-put-2, else-next-put-via-else-next-put}

pub offset_bounds-attempts-put : goal.offset_bounds-attempts-put
offset_bounds-attempts-put c =
    let w = place_within c.args.history.now c.args.puts.now c.requires.puts.are c.args.i c.requires.within in
    omega (arith, w, ap length c.attempts.ensures, c.attempts.type_inv)

pub bounds-attempts-put : goal.bounds-attempts-put
bounds-attempts-put c =
    let w = place_within c.args.history.now c.args.puts.now c.requires.puts.are c.args.i c.requires.within in
    omega (arith, w, ap length c.attempts.ensures)

pub returns-then-i-puts : goal.returns-then-i-puts
returns-then-i-puts c =
    rw (attempt_at c.args.history.now c.attempts.result.now (put_at c.args.puts.now c.args.i).place c.attempts.ensures)
    (last_point c.args.history.now c.requires.laws c.args.puts.now c.requires.puts c.args.i c.requires.within (λ w k. absurd (omega arith)))

pub offset_bounds-points-next : goal.offset_bounds-points-next
offset_bounds-points-next c =
    let w = place_within c.args.history.now c.args.puts.now c.requires.puts.are (c.args.i + 1) (omega arith) in
    omega (arith, w, ap length c.attempts.ensures, c.attempts.type_inv)

pub bounds-points-next : goal.bounds-points-next
bounds-points-next c =
    let w = place_within c.args.history.now c.args.puts.now c.requires.puts.are (c.args.i + 1) (omega arith) in
    omega (arith, w, c.requires.later.size)

pub returns-then-next-put-2 : goal.returns-then-next-put-2
returns-then-next-put-2 c =
    rw (c.min.ensures, attempt_at c.args.history.now c.attempts.result.now (put_at c.args.puts.now c.args.i).place c.attempts.ensures)
    (next_point c.args.history.now c.requires.laws c.args.puts.now c.requires.puts c.args.i (get_or c.args.points.now (put_at c.args.puts.now (c.args.i + 1)).place 0) (omega arith) c.if-next-put.true c.if-next-put-2.true
    (c.requires.later.each (c.args.i + 1) (omega arith) (omega arith)))

pub returns-else-next-put : goal.returns-else-next-put
returns-else-next-put c =
    rw (attempt_at c.args.history.now c.attempts.result.now (put_at c.args.puts.now c.args.i).place c.attempts.ensures)
    (other_point c.args.history.now c.requires.laws c.args.puts.now c.requires.puts c.args.i (omega arith)
    (elim c.else-next-put.branch [ else-next-put-via-then-next-put+else-next-put-2 w ↦ (λ k v. w.if-next-put-2.false v) | else-next-put-via-else-next-put w ↦ (λ k v. w.if-next-put.false k) ]))
