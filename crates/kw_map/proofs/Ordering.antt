-- What every pass has seen is ordered: its events are valid from an opening, and that is all that
-- the laws of the order ask for.
use Rattle.kw_world.specs.Sizes.{product}
use Rattle.kw_core.specs.History.{History}
use Rattle.kw_core.specs.HistoryLaws.{HistoryLaws}
use Rattle.kw_laws.proofs.LawProofs.{laws_hold}
use Rattle.kw_order.specs.Trace.{TraceView}
use Rattle.kw_order.proofs.OneOrder.{order_exists, order_unique}
use Rattle.kw_order.proofs.OrderProofs.{order_has_laws}
use Rattle.kw_order.proofs.LegalOrder.{order_is_legal}
use Rattle.kw_order.proofs.Traces.{tops_last}
use Rattle.kw_table.specs.declared.pass.Pass.{Pass}
use Rattle.kw_table.specs.Passes.{view}
use Rattle.kw_map.specs.Kiwi.{IsOrdered, happened}

-- the laws of what happened in a pass's list
seen_laws : (p : Pass) → HistoryLaws (happened (view p).opening (view p).seen)
seen_laws p = (laws_hold product (view p).opening p.known.opens (view p).seen p.known.valid).history

-- the order of what a pass has seen
pub pass_ordered : (p : Pass) → IsOrdered (view p)
pass_ordered p =
    let h : History = happened (view p).opening (view p).seen in
    let laws : HistoryLaws h = seen_laws p in
    let t : TraceView = record { opening = (view p).opening; events = (view p).seen } in
    record {
      exists = order_exists h laws;
      one = order_unique h laws;
      laws = order_has_laws h laws;
      legal = order_is_legal h laws;
      later = tops_last t p.known.opens p.known.valid;
    }
