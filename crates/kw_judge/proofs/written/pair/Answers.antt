use Rattle.std.proofs.Common.{arith}
use Rattle.std.specs.Fmt.{decimal}
use Rattle.kw_line.specs.declared.print.TheConstants.{EQUALS}
use Rattle.kw_judge.proofs.Readers.{no_cut, no_first, no_second}
use Rattle.kw_judge.proofs.written.pair.Goals as goal

pub returns-in_err-key : goal.returns-in_err-key
returns-in_err-key c = rw c.from_residual.ensures (λ p h e. no_cut EQUALS c.args.text.now (decimal p.0) (decimal p.1) (c.in_err-key.ensures {u = tt}) e)

pub returns-in_err-key-2 : goal.returns-in_err-key-2
returns-in_err-key-2 c =
    let parts = c.in_ok-key.ensures {u = tt} in
    rw c.from_residual-in_err-key-2.ensures (λ p h e. no_first EQUALS 0 c.from.result c.args.text.now _ _ (λ a b. omega arith) (omega arith) parts.0 parts.1 (c.in_err-key-2.ensures {u = tt}) p.0 (decimal p.1) (omega arith) (omega (arith, h.0)) e)

pub returns-in_err-value : goal.returns-in_err-value
returns-in_err-value c =
    let parts = c.in_ok-key.ensures {u = tt} in
    rw c.from_residual-in_err-value.ensures (λ p h e. no_second EQUALS 0 9223372036854775807 c.args.text.now _ _ (λ a b. omega arith) parts.0 parts.1 (c.in_err-value.ensures {u = tt}) p.0 p.1 (omega (arith, h.0)) (omega arith) (omega (arith, h.1)) e)
