use Rattle.std.proofs.Common.{length, sym, ap, ◌∙◌, arith}
use Rattle.kw_line.proofs.Parts.{words_one, words_turn}
use Rattle.kw_line.proofs.words.WordsIterator.next.Goals as goal

cut : goal.returns-in-Some-clause-steps
cut c = sym c.self.view_is ∙ (rw (c.in_ok-line.was {u = tt}) (words_turn c.in_ok-line.line.now c.cut_at.result c.in-Some.word c.in-Some.rest c.in-Some.is c.cut_at.ensures))

pub returns-in-Some-clause-steps : goal.returns-in-Some-clause-steps
returns-in-Some-clause-steps = cut

pub returns-in-Some-clause-goes : goal.returns-in-Some-clause-goes
returns-in-Some-clause-goes c = let e = ap length (cut c) in record { on = λ _. (tt, tt, omega (arith, e)); keeps = tt; rests = λ _. tt }

last : goal.returns-in-None-clause-steps
last c = sym c.self.view_is ∙ (rw (c.in_ok-line.was {u = tt}) (words_one c.in_ok-line.line.now (c.in-None.ensures {u = tt})))

pub returns-in-None-clause-steps : goal.returns-in-None-clause-steps
returns-in-None-clause-steps = last

pub returns-in-None-clause-goes : goal.returns-in-None-clause-goes
returns-in-None-clause-goes c = let e = ap length (last c) in record { on = λ _. (tt, tt, omega (arith, e)); keeps = tt; rests = λ _. tt }
