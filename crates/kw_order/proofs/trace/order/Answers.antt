use Rattle.std.proofs.Common.{◌≡◌, ◌∙◌, sym, subst, List, ℕ, true, ◌++◌}
use Rattle.kw_world.specs.declared.event.Event.{Event}
use Rattle.kw_world.specs.Sizes.{product}
use Rattle.kw_core.specs.Events.{is_valid}
use Rattle.kw_core.specs.HistoryLaws.{HistoryLaws}
use Rattle.kw_order.specs.Order.{IsOrder}
use Rattle.kw_order.specs.OrderLaws.{OrderLaws}
use Rattle.kw_order.specs.Legal.{IsLegalOrder}
use Rattle.kw_order.specs.Trace.{TraceView, history_of, longer, GivesTops}
use Rattle.kw_order.proofs.Traces.{trace_laws, tops_last}
use Rattle.kw_order.proofs.OrderProofs.{order_has_laws}
use Rattle.kw_order.proofs.OneOrder.{order_unique}
use Rattle.kw_order.proofs.LegalOrder.{order_is_legal}
use Rattle.kw_order.proofs.trace.order.Goals as goal

pub order-requires : goal.order-requires
order-requires c =
    let t : TraceView = record { opening = c.trace.inside.opening; events = c.trace.inside.events.items } in
    let laws = (trace_laws t c.trace.inside.world c.trace.inside.recorder c.trace.invariant).history in
    subst HistoryLaws (sym (c.history.ensures ∙ c.trace.invariant.recorded.history)) laws

pub returns-clause-laws : goal.returns-clause-laws
returns-clause-laws c =
    let t : TraceView = record { opening = c.trace.inside.opening; events = c.trace.inside.events.items } in
    let laws = (trace_laws t c.trace.inside.world c.trace.inside.recorder c.trace.invariant).history in
    subst (λ (v : TraceView). (xs : List ℕ) → IsOrder (history_of v) xs → OrderLaws (history_of v) xs) c.trace.view_is (order_has_laws (history_of t) laws)

pub returns-clause-one : goal.returns-clause-one
returns-clause-one c =
    let t : TraceView = record { opening = c.trace.inside.opening; events = c.trace.inside.events.items } in
    let laws = (trace_laws t c.trace.inside.world c.trace.inside.recorder c.trace.invariant).history in
    subst (λ (v : TraceView). (xs ys : List ℕ) → IsOrder (history_of v) xs → IsOrder (history_of v) ys → xs ≡ ys) c.trace.view_is (order_unique (history_of t) laws)

pub returns-clause-legal : goal.returns-clause-legal
returns-clause-legal c =
    let t : TraceView = record { opening = c.trace.inside.opening; events = c.trace.inside.events.items } in
    let laws = (trace_laws t c.trace.inside.world c.trace.inside.recorder c.trace.invariant).history in
    subst (λ (v : TraceView). (xs : List ℕ) → IsOrder (history_of v) xs → IsLegalOrder (history_of v) xs) c.trace.view_is (order_is_legal (history_of t) laws)

pub returns-clause-later : goal.returns-clause-later
returns-clause-later c =
    let t : TraceView = record { opening = c.trace.inside.opening; events = c.trace.inside.events.items } in
    let laws = (trace_laws t c.trace.inside.world c.trace.inside.recorder c.trace.invariant).history in
    subst (λ (v : TraceView). (es : List Event) → is_valid product v.opening (v.events ++ es) ≡ true → GivesTops (history_of v) (history_of (longer v es))) c.trace.view_is (tops_last t c.trace.invariant.opening c.trace.invariant.valid)
