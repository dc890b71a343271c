use Rattle.std.proofs.Common.{◌<◌, refl, length, arith}
use Rattle.kw_work.proofs.Merges.{same_lengths, same_else}
use Rattle.kw_work.proofs.collect.take_answer.Goals as goal

pub returns-clause-lengths : goal.returns-clause-lengths
returns-clause-lengths c =
    let v = c.args.parts.now in
    let lt : c.args.worker < length c.args.parts.now.items = omega (arith, c.requires.worker) in
    same_lengths c.args.parts.now.items c.args.worker c.args.place c.index_mut.result.now _ _ lt c.index_mut.ensures.value refl

pub returns-clause-others : goal.returns-clause-others
returns-clause-others c =
    let v = c.args.parts.now in
    let lt : c.args.worker < length c.args.parts.now.items = omega (arith, c.requires.worker) in
    same_else c.args.parts.now.items c.args.worker c.args.place c.index_mut.result.now _ _ lt c.index_mut.ensures.value refl
