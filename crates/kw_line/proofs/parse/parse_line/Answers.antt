use Rattle.std.proofs.Common.{sym, ◌∙◌}
use Rattle.kw_line.proofs.Texts.{none_is_text, wait_is_read, other_word, no_call, call_is_read, not_same}
use Rattle.kw_line.proofs.parse.parse_line.Goals as goal

pub returns-in_err-word : goal.returns-in_err-word
returns-in_err-word c =
    let none = c.in_err-word.ensures {u = tt} in
    rw c.from_residual.ensures (none_is_text c.args.line.now (sym c.new-words.ensures ∙ none.steps.0))

pub returns-then-is_same : goal.returns-then-is_same
returns-then-is_same c =
    let first = c.in_ok-word.ensures {u = tt} in
    let wait = c.is_same.ensures.0 c.if-is_same.true in
    rw c.then_some.ensures (wait_is_read c.args.line.now c.in_ok-word.word.now c.next.new.self c.is_empty.result (sym c.new-words.ensures ∙ first.steps) wait c.is_empty.ensures)

pub returns-in_err-form : goal.returns-in_err-form
returns-in_err-form c =
    let first = c.in_ok-word.ensures {u = tt} in
    let other = not_same c.is_same.ensures c.if-is_same.false in
    rw c.from_residual-in_err-form.ensures (other_word c.args.line.now c.in_ok-word.word.now c.next.new.self (sym c.new-words.ensures ∙ first.steps) other (c.in_err-form.ensures {u = tt}))

pub returns-in_err-call : goal.returns-in_err-call
returns-in_err-call c =
    let first = c.in_ok-word.ensures {u = tt} in
    rw c.from_residual-in_err-call.ensures (no_call c.args.line.now c.in_ok-word.word.now c.in_ok-form.form c.next.new.self (sym c.new-words.ensures ∙ first.steps) (c.in_ok-form.ensures {u = tt}) (c.in_err-call.ensures {u = tt}))

pub returns : goal.returns
returns c =
    let first = c.in_ok-word.ensures {u = tt} in
    let call = c.in_ok-call.ensures {u = tt} in
    rw c.then_some-2.ensures (call_is_read c.args.line.now c.in_ok-word.word.now c.in_ok-form.form c.in_ok-call.call c.next.new.self c.call.new.words c.is_empty-2.result (sym c.new-words.ensures ∙ first.steps) (c.in_ok-form.ensures {u = tt}) call.0 call.1 call.2 c.is_empty-2.ensures)
