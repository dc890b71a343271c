use Rattle.std.proofs.Common.{ap, ◌∙◌}
use Rattle.kw_judge.proofs.Grows.{no_order_grows, order_grows}
use Rattle.kw_judge.proofs.print.push_order.Goals as goal
use Rattle.kw_judge.proofs.print.push_order.Goals.{then-is_empty+in_ok-extend_from_slice-2, else-is_empty}

pub returns : goal.returns
returns c = elim c.if-is_empty.branch [
  | then-is_empty+in_ok-extend_from_slice-2 w ↦ no_order_grows c.args.names.now c.args.out.now.items c.extend_from_slice.new.self.items c.if-is_empty.out.items c.push_names.new.out.items c.push.new.self.items c.is_empty.result c.is_empty.ensures w.if-is_empty.true c.in_ok-extend_from_slice.ensures.items (ap (λ o. o.items) w.out-is ∙ w.in_ok-extend_from_slice-2.ensures.items) c.in_ok-push_names.ensures c.in_ok-push.ensures.items
  | else-is_empty w ↦ order_grows c.args.names.now c.args.out.now.items c.extend_from_slice.new.self.items c.if-is_empty.out.items c.push_names.new.out.items c.push.new.self.items c.is_empty.result c.is_empty.ensures w.if-is_empty.false c.in_ok-extend_from_slice.ensures.items (ap (λ o. o.items) w.out-is) c.in_ok-push_names.ensures c.in_ok-push.ensures.items
]
