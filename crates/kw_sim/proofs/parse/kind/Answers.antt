use Rattle.std.proofs.Common.{sym, ◌∙◌}
use Rattle.kw_line.proofs.Decimals.{from_no_value}
use Rattle.kw_sim.proofs.Readers.{no_name}
use Rattle.kw_sim.proofs.parse.kind.Goals as goal

pub returns-in_err-ok : goal.returns-in_err-ok
returns-in_err-ok c =
    let first = c.in_ok-word.ensures {u = tt} in
    rw c.from_residual-in_err-ok.ensures (no_name c.args.words.now c.next.new.self c.in_ok-word.word.now first.steps
    (from_no_value c.from_utf8.result _ _ _ (sym c.ok.ensures.value ∙ c.in_err-ok.was {u = tt}) c.from_utf8.ensures.cases (λ _ h. h.0)))
