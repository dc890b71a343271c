use Rattle.std.proofs.Common.{subst}
use Rattle.kw_world.specs.Sizes.{product}
use Rattle.kw_laws.specs.Laws.{KeepsLaws}
use Rattle.kw_order.specs.Trace.{TraceView, run_of}
use Rattle.kw_order.proofs.Traces.{trace_laws}
use Rattle.kw_order.proofs.trace.Trace.history.Goals as goal

pub returns-clause-laws : goal.returns-clause-laws
returns-clause-laws c =
    let t : TraceView = record { opening = c.self.inside.opening; events = c.self.inside.events.items } in
    subst (λ (v : TraceView). KeepsLaws product (run_of v)) c.self.view_is (trace_laws t c.self.inside.world c.self.inside.recorder c.self.invariant)
