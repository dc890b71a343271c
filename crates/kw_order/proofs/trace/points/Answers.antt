use Rattle.std.proofs.Common.{◌∙◌, sym, subst, List, ℕ}
use Rattle.kw_core.specs.HistoryLaws.{HistoryLaws}
use Rattle.kw_order.specs.Order.{IsOrder}
use Rattle.kw_order.specs.OrderLaws.{OrderLaws}
use Rattle.kw_order.specs.Trace.{TraceView, history_of}
use Rattle.kw_order.proofs.Traces.{trace_laws}
use Rattle.kw_order.proofs.OrderProofs.{order_has_laws}
use Rattle.kw_order.proofs.trace.points.Goals as goal

pub points-requires : goal.points-requires
points-requires c =
    let t : TraceView = record { opening = c.trace.inside.opening; events = c.trace.inside.events.items } in
    let laws = (trace_laws t c.trace.inside.world c.trace.inside.recorder c.trace.invariant).history in
    subst HistoryLaws (sym (c.history.ensures ∙ c.trace.invariant.recorded.history)) laws

pub returns-clause-laws : goal.returns-clause-laws
returns-clause-laws c =
    let t : TraceView = record { opening = c.trace.inside.opening; events = c.trace.inside.events.items } in
    let laws = (trace_laws t c.trace.inside.world c.trace.inside.recorder c.trace.invariant).history in
    subst (λ (v : TraceView). (xs : List ℕ) → IsOrder (history_of v) xs → OrderLaws (history_of v) xs) c.trace.view_is (order_has_laws (history_of t) laws)
