-- A range whose second number is missing or is no key.
use Rattle.std.proofs.Common.{inl, inr, ◌∙◌}
use Rattle.kw_judge.proofs.Calls.{no_second_key}
use Rattle.kw_judge.proofs.parse.call_of.Goals as goal

pub returns-in_err-key-in-Scan : goal.returns-in_err-key-in-Scan
returns-in_err-key-in-Scan c =
    let first = c.in_ok-from-in-Scan.ensures {u = tt} in
    rw c.from_residual-in_err-key-in-Scan.ensures (λ d left v h. no_second_key c.in_ok-from-in-Scan.from c.args.words.now c.key-in-Scan.new.self first.1 (c.in_err-key-in-Scan.ensures {u = tt}) d left (inl (v ∙ c.in-Scan.is)) h)

pub returns-in_err-key-in-ScanAt : goal.returns-in_err-key-in-ScanAt
returns-in_err-key-in-ScanAt c =
    let first = c.in_ok-from-in-ScanAt.ensures {u = tt} in
    rw c.from_residual-in_err-key-in-ScanAt.ensures (λ d left v h. no_second_key c.in_ok-from-in-ScanAt.from c.args.words.now c.key-in-ScanAt.new.self first.1 (c.in_err-key-in-ScanAt.ensures {u = tt}) d left (inr (v ∙ c.in-ScanAt.is)) h)
