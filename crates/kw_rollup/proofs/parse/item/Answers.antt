use Rattle.std.proofs.Common.{sym, ◌∙◌}
use Rattle.kw_line.proofs.Texts.{not_same}
use Rattle.kw_rollup.proofs.Lines.{none_is_text, other_word, table_is_read, no_key_of_del, del_is_read, no_key_of_put, no_value_of_put, put_is_read}
use Rattle.kw_rollup.proofs.parse.item.Goals as goal

pub returns-in_err-word : goal.returns-in_err-word
returns-in_err-word c =
    let none = c.in_err-word.ensures {u = tt} in
    rw c.from_residual.ensures (none_is_text c.args.line.now (sym c.new-words.ensures ∙ none.steps.0))

pub returns-then-is_same : goal.returns-then-is_same
returns-then-is_same c =
    let first = c.in_ok-word.ensures {u = tt} in
    rw c.then_some.ensures (table_is_read c.args.line.now c.in_ok-word.word.now c.next.new.self c.is_empty.result (sym c.new-words.ensures ∙ first.steps) (c.is_same.ensures.0 c.if-is_same.true) c.is_empty.ensures)

pub returns-in_err-key : goal.returns-in_err-key
returns-in_err-key c =
    let first = c.in_ok-word.ensures {u = tt} in
    rw c.from_residual-in_err-key.ensures (no_key_of_del c.args.line.now c.in_ok-word.word.now c.next.new.self (sym c.new-words.ensures ∙ first.steps) (c.is_same-2.ensures.0 c.if-is_same-2.true) (c.in_err-key.ensures {u = tt}))

pub returns-then-is_same-2 : goal.returns-then-is_same-2
returns-then-is_same-2 c =
    let first = c.in_ok-word.ensures {u = tt} in
    let key = c.in_ok-key.ensures {u = tt} in
    rw c.then_some-then-is_same-2.ensures (del_is_read c.args.line.now c.in_ok-word.word.now c.in_ok-key.key c.next.new.self c.key.new.words c.is_empty-then-is_same-2.result (sym c.new-words.ensures ∙ first.steps) (c.is_same-2.ensures.0 c.if-is_same-2.true) key.0 key.1 c.is_empty-then-is_same-2.ensures)

pub returns-in_err-key-2 : goal.returns-in_err-key-2
returns-in_err-key-2 c =
    let first = c.in_ok-word.ensures {u = tt} in
    rw c.from_residual-in_err-key-2.ensures (no_key_of_put c.args.line.now c.in_ok-word.word.now c.next.new.self (sym c.new-words.ensures ∙ first.steps) (c.is_same-3.ensures.0 c.if-is_same-3.true) (c.in_err-key-2.ensures {u = tt}))

pub returns-in_err-value : goal.returns-in_err-value
returns-in_err-value c =
    let first = c.in_ok-word.ensures {u = tt} in
    let key = c.in_ok-key-2.ensures {u = tt} in
    rw c.from_residual-in_err-value.ensures (no_value_of_put c.args.line.now c.in_ok-word.word.now c.in_ok-key-2.key c.next.new.self c.key-then-is_same-3.new.words (sym c.new-words.ensures ∙ first.steps) (c.is_same-3.ensures.0 c.if-is_same-3.true) key.1 (c.in_err-value.ensures {u = tt}))

pub returns-then-is_same-3 : goal.returns-then-is_same-3
returns-then-is_same-3 c =
    let first = c.in_ok-word.ensures {u = tt} in
    let key = c.in_ok-key-2.ensures {u = tt} in
    let value = c.in_ok-value.ensures {u = tt} in
    rw c.then_some-then-is_same-3.ensures (put_is_read c.args.line.now c.in_ok-word.word.now c.in_ok-key-2.key c.in_ok-value.value c.next.new.self c.key-then-is_same-3.new.words c.value.new.self c.is_empty-then-is_same-3.result (sym c.new-words.ensures ∙ first.steps) (c.is_same-3.ensures.0 c.if-is_same-3.true) key.0 value.0 key.1 value.1 c.is_empty-then-is_same-3.ensures)

pub returns : goal.returns
returns c =
    let first = c.in_ok-word.ensures {u = tt} in
    other_word c.args.line.now c.in_ok-word.word.now c.next.new.self (sym c.new-words.ensures ∙ first.steps) (not_same c.is_same.ensures c.if-is_same.false) (not_same c.is_same-2.ensures c.if-is_same-2.false) (not_same c.is_same-3.ensures c.if-is_same-3.false)
