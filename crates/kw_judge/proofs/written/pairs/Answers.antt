use Rattle.std.proofs.Common.{◌∙◌, ◌++◌, ap, map}
use Rattle.std.proofs.lemmas.List.{append-nil}
use Rattle.kw_line.specs.Answered.{pair_text}
use Rattle.kw_judge.proofs.LineTexts.{no_pairs, pairs_are}
use Rattle.kw_judge.proofs.written.pairs.Goals as goal

pub returns-in_default : goal.returns-in_default
returns-in_default c =
    let next = c.in-Some.ensures {u = tt} in
    no_pairs c.args.text.now c.loop-word.pairs c.in-Some.word.now c.next.new.self (c.loop-word.invariant.texts ∙ ap (λ t. map pair_text c.loop-word.pairs ++ t) next.steps) (c.in_default.ensures {u = tt})

pub returns : goal.returns
returns c =
    let last = c.in-None.ensures {u = tt} in
    (c.loop-word.invariant.each, pairs_are c.args.text.now c.loop-word.pairs (c.loop-word.invariant.texts ∙ (ap (λ t. map pair_text c.loop-word.pairs ++ t) last.steps.0 ∙ append-nil _)))
