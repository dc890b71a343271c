use Rattle.std.proofs.Common.{◌-◌, arith}
use Rattle.std.specs.Fmt.{decimal}
use Rattle.kw_judge.specs.declared.print.TheConstants.{DOT}
use Rattle.kw_judge.proofs.Readers.{no_cut, no_first, no_second}
use Rattle.kw_judge.proofs.written.name.Goals as goal

pub returns-in_err-seat : goal.returns-in_err-seat
returns-in_err-seat c = rw c.from_residual.ensures (λ n h e. no_cut DOT c.args.text.now (decimal n.seat) (decimal n.number) (c.in_err-seat.ensures {u = tt}) e)

pub returns-in_err-seat-2 : goal.returns-in_err-seat-2
returns-in_err-seat-2 c =
    let parts = c.in_ok-seat.ensures {u = tt} in
    rw c.from_residual-in_err-seat-2.ensures (λ n h e. no_first DOT 0 (c.from.result - 1) c.args.text.now _ _ (λ a b. omega arith) (omega arith) parts.0 parts.1 (c.in_err-seat-2.ensures {u = tt}) n.seat (decimal n.number) (omega arith) (omega (arith, h.0)) e)

pub returns-in_err-number : goal.returns-in_err-number
returns-in_err-number c =
    let parts = c.in_ok-seat.ensures {u = tt} in
    rw c.from_residual-in_err-number.ensures (λ n h e. no_second DOT 1 c.from-2.result c.args.text.now _ _ (λ a b. omega arith) parts.0 parts.1 (c.in_err-number.ensures {u = tt}) n.seat n.number (omega (arith, h.0)) h.1 (omega (arith, h.2)) e)
