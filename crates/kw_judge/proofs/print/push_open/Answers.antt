use Rattle.std.proofs.Common.{ap, ◌∙◌, ◌++◌}
use Rattle.std.specs.Fmt.{decimal}
use Rattle.kw_judge.specs.declared.record.OpenCall.{OpenCall}
use Rattle.kw_judge.proofs.Grows.{open_grows}
use Rattle.kw_judge.proofs.print.push_open.Goals as goal

pub returns : goal.returns
returns c =
    let d : OpenCall = record { name = c.args.name; first = c.args.first; call = c.args.call.now } in
    open_grows d c.args.out.now.items c.extend_from_slice.new.self.items c.push_name.new.out.items c.push.new.self.items c.push_number.new.out.items c.push-2.new.self.items c.push_call.new.out.items c.push-3.new.self.items c.in_ok-extend_from_slice.ensures.items c.in_ok-push_name.ensures c.in_ok-push.ensures.items (c.in_ok-push_number.ensures.ok ∙ ap (λ n. c.push.new.self.items ++ decimal n) c.from.ensures) c.in_ok-push-2.ensures.items c.in_ok-push_call.ensures.ok c.in_ok-push-3.ensures.items
