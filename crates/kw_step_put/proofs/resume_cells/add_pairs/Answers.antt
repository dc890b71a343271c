use Rattle.kw_step_put.proofs.PairLemmas.{last_added}
use Rattle.kw_step_put.proofs.resume_cells.add_pairs.Goals as goal

pub returns-then-key-upto-clause-ok : goal.returns-then-key-upto-clause-ok
returns-then-key-upto-clause-ok c =
    last_added c.args.cells.now c.args.version c.loop-key.low c.args.from c.args.upto c.in-Some.key c.in-Some.value c.args.pairs.now c.loop-key.pairs c.push.new.self
    c.loop-key.invariant.0 c.in-Some.ensures.pairs c.if-key-upto.true c.in_default-push.ensures.ok
