use Rattle.std.proofs.Common.{sym, ◌∙◌}
use Rattle.kw_judge.proofs.Lines.{no_open_call}
use Rattle.kw_judge.proofs.written.open_call.Goals as goal

pub returns-in_err-call : goal.returns-in_err-call
returns-in_err-call c =
    let read = c.in_ok-name.ensures {u = tt} in
    rw c.from_residual-in_err-call.ensures (no_open_call _ c.name_and_first.new.words c.in_ok-name.name c.in_ok-name.first (sym c.new-words.ensures ∙ read.2) (c.in_err-call.ensures {u = tt}))
