use Rattle.std.proofs.Common.{ap, ◌∙◌, ◌++◌}
use Rattle.std.specs.Fmt.{decimal}
use Rattle.kw_judge.specs.declared.record.DoneCall.{DoneCall}
use Rattle.kw_judge.proofs.Grows.{done_grows}
use Rattle.kw_judge.proofs.print.push_done.Goals as goal

pub returns : goal.returns
returns c =
    let d : DoneCall = record { name = c.args.name; first = c.args.first; last = c.args.last; call = c.args.call.now; reply = c.args.reply.now } in
    done_grows d c.args.out.now.items c.extend_from_slice.new.self.items c.push_name.new.out.items c.push.new.self.items c.push_number.new.out.items c.push-2.new.self.items c.push_number-2.new.out.items c.push-3.new.self.items c.push_call.new.out.items c.extend_from_slice-2.new.self.items c.push_reply.new.out.items c.push-4.new.self.items c.in_ok-extend_from_slice.ensures.items c.in_ok-push_name.ensures c.in_ok-push.ensures.items (c.in_ok-push_number.ensures.ok ∙ ap (λ n. c.push.new.self.items ++ decimal n) c.from.ensures) c.in_ok-push-2.ensures.items (c.in_ok-push_number-2.ensures.ok ∙ ap (λ n. c.push-2.new.self.items ++ decimal n) c.from-2.ensures) c.in_ok-push-3.ensures.items c.in_ok-push_call.ensures.ok c.in_ok-extend_from_slice-2.ensures.items c.in_ok-push_reply.ensures.ok c.in_ok-push-4.ensures.items
