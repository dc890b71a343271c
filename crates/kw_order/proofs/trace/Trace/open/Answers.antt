use Rattle.std.proofs.Common.{◌∙◌, sym}
use Rattle.kw_world.specs.Sizes.{product}
use Rattle.kw_core.proofs.Events.{world-nil}
use Rattle.kw_order.proofs.Traces.{trace_open}
use Rattle.kw_order.proofs.trace.Trace.open.Goals as goal

pub invariant_of-result : goal.invariant_of-result
invariant_of-result c =
    rw c.new.ensures.items (trace_open (record { rows = c.args.rows; seats = c.args.seats; clock = c.args.clock; epoch = c.args.epoch }) c.in_ok-open.field-0 c.in_ok-new.field-0 c.requires (c.in_ok-open.ensures.world ∙ sym (world-nil product (record { rows = c.args.rows; seats = c.args.seats; clock = c.args.clock; epoch = c.args.epoch }))) c.in_ok-new.ensures)
