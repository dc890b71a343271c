use Rattle.std.proofs.Common.{refl, sym, ◌∙◌, arith}
use Rattle.kw_sim.proofs.Texts.{none_is_text, other_verb, other_seat, other_rest, command_is_read}
use Rattle.kw_sim.proofs.parse.command.Goals as goal

pub returns-in_err-next : goal.returns-in_err-next
returns-in_err-next c =
    let none = c.in_err-next.ensures {u = tt} in
    rw c.from_residual.ensures (none_is_text c.args.rows c.args.line.now (omega arith) (sym c.new-words.ensures ∙ none.steps.0))

pub returns-in_err-verb : goal.returns-in_err-verb
returns-in_err-verb c =
    let first = c.in_ok-next.ensures {u = tt} in
    rw c.from_residual-in_err-verb.ensures (other_verb c.args.rows c.args.line.now c.in_ok-next.field-0.now c.next.new.self (omega arith) (sym c.new-words.ensures ∙ first.steps) (c.in_err-verb.ensures {u = tt}))

pub returns-in_err-seat : goal.returns-in_err-seat
returns-in_err-seat c =
    let first = c.in_ok-next.ensures {u = tt} in
    rw c.from_residual-in_err-seat.ensures (other_seat c.args.rows _ c.args.line.now c.in_ok-next.field-0.now c.next.new.self (omega arith) refl (sym c.new-words.ensures ∙ first.steps) (c.in_err-seat.ensures {u = tt}))

pub returns-in_err-command : goal.returns-in_err-command
returns-in_err-command c =
    let first = c.in_ok-next.ensures {u = tt} in
    let seat = c.in_ok-seat.ensures {u = tt} in
    rw c.from_residual-in_err-command.ensures (other_rest c.args.rows c.args.line.now c.in_ok-next.field-0.now c.in_ok-verb.verb c.in_ok-seat.seat c.next.new.self c.number_between.new.words (omega arith) (sym c.new-words.ensures ∙ first.steps) (c.in_ok-verb.ensures {u = tt}) seat.2 (c.in_err-command.ensures {u = tt}))

pub returns : goal.returns
returns c =
    let first = c.in_ok-next.ensures {u = tt} in
    let seat = c.in_ok-seat.ensures {u = tt} in
    let read = c.in_ok-command.ensures {u = tt} in
    rw c.then_some.ensures (command_is_read c.args.rows _ c.args.line.now c.in_ok-next.field-0.now c.in_ok-verb.verb c.in_ok-seat.seat c.in_ok-command.command c.next.new.self c.number_between.new.words c.rest.new.words c.is_empty.result (omega arith) refl seat.1 (sym c.new-words.ensures ∙ first.steps) (c.in_ok-verb.ensures {u = tt}) seat.2 read.0 read.1 read.2 read.3 c.is_empty.ensures)
