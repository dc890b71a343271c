-- A call of a record that is of no snapshot is one of a line.
use Rattle.kw_judge.proofs.Calls.{record_call_from_fits, plain_read}
use Rattle.kw_judge.proofs.parse.call.Goals as goal

pub returns-in_err-call : goal.returns-in_err-call
returns-in_err-call c = rw c.from_residual.ensures (λ d left f. c.in_err-call.ensures {u = tt} d left (record_call_from_fits d f))

pub returns : goal.returns
returns c =
    let read = c.in_ok-call.ensures {u = tt} in
    rw c.then_some.ensures (plain_read c.args.words.now c.record_call.new.words c.in_ok-call.call c.is_of_snapshots.result read.0 read.1 c.is_of_snapshots.ensures)
