use Rattle.std.proofs.Common.{length, refl, sym, ap, ◌∙◌, arith}
use Rattle.std.proofs.lemmas.Bool.{eqb-true, eqb-false}
use Rattle.kw_line.proofs.Parts.{lines_empty, lines_turn}
use Rattle.kw_line.proofs.words.LinesIterator.next.Goals as goal

pub returns-then-is_empty-clause-steps : goal.returns-then-is_empty-clause-steps
returns-then-is_empty-clause-steps c =
    let none = sym c.self.view_is ∙ lines_empty c.self.inside.rest.now (eqb-true _ _ (sym c.is_empty.ensures ∙ c.if-is_empty.true)) in
    (none, none)

steps : goal.returns-clause-steps
steps c =
    let bytes = c.self.inside.rest.now in
    let some = eqb-false (length bytes) 0 (sym c.is_empty.ensures ∙ c.if-is_empty.false) in
    sym c.self.view_is ∙ (rw c.unwrap_or.ensures (lines_turn bytes c.cut_at.result _ refl refl (omega arith) c.cut_at.ensures))

pub returns-clause-steps : goal.returns-clause-steps
returns-clause-steps = steps

pub returns-clause-goes : goal.returns-clause-goes
returns-clause-goes c = let e = ap length (steps c) in record { on = λ _. (tt, tt, omega (arith, e)); keeps = tt; rests = λ _. tt }
