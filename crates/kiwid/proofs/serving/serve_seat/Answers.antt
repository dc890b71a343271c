use Rattle.std.proofs.Common.{◌∙◌, ap, arith, length}
use Rattle.kw_map.proofs.RowStages.{rose_later}
use Rattle.kiwid.proofs.Servings.{one_more, serves_failed, serves_more, serves_none}
use Rattle.kiwid.proofs.serving.serve_seat.Goals as goal

pub loop-init : goal.loop-init
loop-init g c = record { serves = serves_none _ _ _ _ c.requires.idle c.new-ends.ensures; none_out = c.requires.none_out; many = ap length c.new-ends.ensures; most = omega arith }

pub serve_next-requires-clause-idle : goal.serve_next-requires-clause-idle
serve_next-requires-clause-idle g c κs within = c.loop.invariant.serves.stays.idle

pub returns-in_default : goal.returns-in_default
returns-in_default g c =
    let inv = c.loop.invariant in
    let none = c.in_default.ensures.failed in
    record {
      serves = serves_failed _ _ _ _ _ _ _ _ inv.serves none.1 none.0 c.serve_next.ensures.never_falls;
      most = omega (arith, inv.many, inv.most);
      fewer = λ _. rose_later _ _ _ inv.serves.never_falls none.0.rose;
    }

pub loop-preserved : goal.loop-preserved
loop-preserved g c =
    let inv = c.loop.invariant in
    let next = c.in-Ok.ensures.served in
    record {
      serves = serves_more _ _ _ _ _ _ _ _ _ _ inv.serves c.serve_next.ensures.stays next c.serve_next.ensures.never_falls c.in_ok-push.ensures;
      none_out = next.out ∙ inv.none_out;
      many = one_more _ _ _ _ inv.many c.in_ok-push.ensures;
      most = omega arith;
    }

pub returns : goal.returns
returns g c = record { serves = c.loop.invariant.serves; most = omega arith; fewer = λ lt. absurd (omega arith) }
