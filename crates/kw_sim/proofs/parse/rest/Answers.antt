use Rattle.std.proofs.Common.{arith}
use Rattle.kw_sim.proofs.Readers.{no_value, guess_read}
use Rattle.kw_sim.proofs.parse.rest.Goals as goal

pub returns-in_err-value-in-Puts : goal.returns-in_err-value-in-Puts
returns-in_err-value-in-Puts c =
    let count = c.in_ok-count-in-Puts.ensures {u = tt} in
    let key = c.in_ok-key-in-Puts.ensures {u = tt} in
    rw c.from_residual-in_err-value-in-Puts.ensures (no_value c.args.rows c.in_ok-count-in-Puts.count c.in_ok-key-in-Puts.key c.args.verb c.args.words.now c.number_between.new.words c.key.new.self c.in-Puts.is count.2 key.1 (c.in_err-value-in-Puts.ensures {u = tt}))

pub returns-in_ok-row-in-Guess : goal.returns-in_ok-row-in-Guess
returns-in_ok-row-in-Guess c =
    let read = c.in_ok-row-in-Guess.ensures {u = tt} in
    rw c.then_some.ensures (guess_read c.args.rows c.in_ok-row-in-Guess.row c.args.seat c.args.verb c.args.words.now c.key-in-Guess.new.self (omega arith) read.0 c.in-Guess.is read.1)
