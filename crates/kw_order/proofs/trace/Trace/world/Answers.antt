use Rattle.std.proofs.Common.{◌≡◌, subst, length}
use Rattle.kw_order.specs.Trace.{TraceView}
use Rattle.kw_order.proofs.Traces.{trace_sane, trace_rows, trace_seats}
use Rattle.kw_order.proofs.trace.Trace.world.Goals as goal

pub returns-clause-sane : goal.returns-clause-sane
returns-clause-sane c =
    let t : TraceView = record { opening = c.self.inside.opening; events = c.self.inside.events.items } in
    trace_sane t c.self.inside.world c.self.inside.recorder c.self.invariant

pub returns-clause-rows : goal.returns-clause-rows
returns-clause-rows c =
    let t : TraceView = record { opening = c.self.inside.opening; events = c.self.inside.events.items } in
    let w = c.self.inside.world in
    subst (λ (v : TraceView). w.rows ≡ v.opening.rows) c.self.view_is (trace_rows t w c.self.inside.recorder c.self.invariant)

pub returns-clause-seats : goal.returns-clause-seats
returns-clause-seats c =
    let t : TraceView = record { opening = c.self.inside.opening; events = c.self.inside.events.items } in
    let w = c.self.inside.world in
    subst (λ (v : TraceView). length w.locals ≡ v.opening.seats) c.self.view_is (trace_seats t w c.self.inside.recorder c.self.invariant)
