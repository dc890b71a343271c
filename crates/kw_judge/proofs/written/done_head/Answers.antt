use Rattle.std.proofs.Common.{inl, inr, sym, ◌∙◌, arith}
use Rattle.kw_judge.proofs.Lines.{no_last, no_head_call, head_read}
use Rattle.kw_judge.proofs.written.done_head.Goals as goal
use Rattle.kw_judge.proofs.written.done_head.Goals.{then-is_empty, else-is_empty}

pub returns-in_err-last : goal.returns-in_err-last
returns-in_err-last c =
    let read = c.in_ok-name.ensures {u = tt} in
    rw c.from_residual-in_err-last.ensures (no_last _ c.name_and_first.new.words c.in_ok-name.name c.in_ok-name.first (sym c.new-words.ensures ∙ read.2) (c.in_err-last.ensures {u = tt}))

pub returns-in_err-call : goal.returns-in_err-call
returns-in_err-call c =
    let read = c.in_ok-name.ensures {u = tt} in
    let last = c.in_ok-last.ensures {u = tt} in
    rw c.from_residual-in_err-call.ensures (no_head_call _ c.name_and_first.new.words c.value.new.self c.in_ok-name.name c.in_ok-name.first c.in_ok-last.last (sym c.new-words.ensures ∙ read.2) last.1 (c.in_err-call.ensures {u = tt}))

pub returns : goal.returns
returns c =
    let read = c.in_ok-name.ensures {u = tt} in
    let last = c.in_ok-last.ensures {u = tt} in
    let called = c.in_ok-call.ensures {u = tt} in
    rw c.then_some.ensures (head_read _ c.name_and_first.new.words c.value.new.self c.record_call.new.words c.in_ok-name.name c.in_ok-name.first c.in_ok-last.last c.in_ok-call.call c.if-is_empty.then_some c.is_empty.result (sym c.new-words.ensures ∙ read.2) last.1 called.1 read.0 read.1 (omega (arith, last.0)) called.0 c.is_empty.ensures
    (elim c.if-is_empty.branch [ then-is_empty w ↦ inl (w.if-is_empty.true, w.then_some-is) | else-is_empty w ↦ inr (w.if-is_empty.false, w.then_some-is ∙ w.if-is_empty.false) ]))
