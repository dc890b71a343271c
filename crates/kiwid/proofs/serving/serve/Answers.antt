use Rattle.std.proofs.Common.{◌≡◌, IfOk, length, arith, rules}
use Rattle.std.specs.declared.result.Result.{Result}
use Rattle.kw_model.specs.declared.memory.Memory.{Memory}
use Rattle.kiwid.specs.declared.serving.Seat.{Seat}
use Rattle.kiwid.specs.declared.serving.Served.{Served}
use Rattle.kiwid.proofs.Meetings.{AreDone, SeatDone, are_of_map, at_each, each_served, len_served, met_served}
use Rattle.kiwid.proofs.serving.serve.Goals as goal

pub met-passes-requires : goal.met-passes-requires
met-passes-requires g c =
    let m = c.args.kiwi.now in
    let state = g.L.Listener.state in
    let n = c.args.sessions in
    let parts = c.in_ok-parts.parts in
    let as_many : length parts.items ≡ length c.args.seats.items = omega (arith, c.in_ok-parts.ensures.len) in
    let done : AreDone m n state c.args.seats.items parts.items = at_each _ _ c.args.seats.items parts.items (λ (s : Seat g.row.L.Denot) (r : Result (Served g.row.L.Denot) Memory). IfOk r (SeatDone m n state s)) c.in_ok-parts.ensures.each (λ x r post. search rules) in
    are_of_map m n state c.args.seats.items parts.items c.in_ok-passes.passes.items c.in_ok-passes.rests.items as_many done c.in_ok-passes.ensures

pub returns-clause-len : goal.returns-clause-len
returns-clause-len g c =
    let m = c.args.kiwi.now in
    let state = g.L.Listener.state in
    let n = c.args.sessions in
    let parts = c.in_ok-parts.parts in
    let as_many : length parts.items ≡ length c.args.seats.items = omega (arith, c.in_ok-parts.ensures.len) in
    let done : AreDone m n state c.args.seats.items parts.items = at_each _ _ c.args.seats.items parts.items (λ (s : Seat g.row.L.Denot) (r : Result (Served g.row.L.Denot) Memory). IfOk r (SeatDone m n state s)) c.in_ok-parts.ensures.each (λ x r post. search rules) in
    len_served m n state c.args.seats.items parts.items c.in_ok-passes.passes.items c.in_ok-passes.rests.items as_many done c.in_ok-passes.ensures
    c.put_together.result c.met-passes.result.items c.args.seats.len (omega (arith, c.met-passes.ensures.len)) c.put_together.ensures.passes (omega arith)

pub returns-clause-each : goal.returns-clause-each
returns-clause-each g c =
    let m = c.args.kiwi.now in
    let state = g.L.Listener.state in
    let n = c.args.sessions in
    let parts = c.in_ok-parts.parts in
    let as_many : length parts.items ≡ length c.args.seats.items = omega (arith, c.in_ok-parts.ensures.len) in
    let done : AreDone m n state c.args.seats.items parts.items = at_each _ _ c.args.seats.items parts.items (λ (s : Seat g.row.L.Denot) (r : Result (Served g.row.L.Denot) Memory). IfOk r (SeatDone m n state s)) c.in_ok-parts.ensures.each (λ x r post. search rules) in
    each_served m n state c.args.seats.items parts.items c.in_ok-passes.passes.items c.in_ok-passes.rests.items as_many done c.in_ok-passes.ensures
    c.put_together.result c.met-passes.result.items (omega (arith, c.met-passes.ensures.len)) c.met-passes.ensures.each c.put_together.ensures.passes c.put_together.ensures.rests

pub returns-clause-met : goal.returns-clause-met
returns-clause-met g c =
    met_served c.args.kiwi.now c.in_ok-passes.passes.items c.met-passes.result.items c.put_together.result (omega (arith, c.met-passes.ensures.len)) c.met-passes.ensures.each c.put_together.ensures.passes
