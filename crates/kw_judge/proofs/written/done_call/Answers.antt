use Rattle.kw_judge.proofs.LineTexts.{no_colon, no_head, no_space_there, no_reply, done_is, is_done}
use Rattle.kw_judge.proofs.written.done_call.Goals as goal

pub returns-in_default : goal.returns-in_default
returns-in_default c = no_colon c.args.line.now (c.in_default.ensures {u = tt})

pub returns-in_default-2 : goal.returns-in_default-2
returns-in_default-2 c =
    let parts = c.in-Some.ensures {u = tt} in
    no_reply c.args.line.now c.in-Some.before.now c.in-Some.after.now c.in-Some-after_space.text.now parts.0 parts.1 (c.in-Some-after_space.ensures {u = tt}) (rw c.in_default-2.is at (c.in_ok-reply.ensures {u = tt}))

pub returns-in_default-done_head : goal.returns-in_default-done_head
returns-in_default-done_head c =
    let parts = c.in-Some.ensures {u = tt} in
    no_head c.args.line.now c.in-Some.before.now c.in-Some.after.now parts.0 parts.1 (c.in_default-done_head.ensures {u = tt})

pub returns-in_default-after_space : goal.returns-in_default-after_space
returns-in_default-after_space c =
    let parts = c.in-Some.ensures {u = tt} in
    no_space_there c.args.line.now c.in-Some.before.now c.in-Some.after.now parts.0 parts.1 (c.in_default-after_space.ensures {u = tt})

pub returns : goal.returns
returns c =
    let parts = c.in-Some.ensures {u = tt} in
    let head = c.in-Some-done_head.ensures {u = tt} in
    let replied = rw c.in-Some-2.is at (c.in_ok-reply.ensures {u = tt}) in
    (is_done c.in-Some-done_head.head c.in-Some-2.reply head.0 replied.0, done_is c.args.line.now c.in-Some.before.now c.in-Some.after.now c.in-Some-after_space.text.now _ parts.0 head.1 (c.in-Some-after_space.ensures {u = tt}) replied.1)
