use Rattle.std.proofs.Common.{◌≡◌}
use Rattle.kw_world.specs.Sizes.{product}
use Rattle.kw_world.specs.Step.{word}
use Rattle.kw_world.proofs.Transitions.{in_table}
use Rattle.kw_core.proofs.change.Happening.of.Goals as goal

pub operation-operation-requires : goal.operation-operation-requires
operation-operation-requires c = (c.requires.sane.locals _ _ c.local.ensures).ranges

pub place-place-requires-clause-within : goal.place-place-requires-clause-within
place-place-requires-clause-within c =
    rw (c.operation-operation.ensures, c.offered-choice.ensures.value, c.rows.ensures, c.rows-2.ensures)
    (in_table product c.args.world.now c.args.event c.local.result.now c.requires.sane c.requires.seat c.local.ensures)

pub returns : goal.returns
unfolding word
returns c = λ l e.
    let same : c.local.result.now ≡ l = cc (c.local.ensures, e) in
    rw (c.word.ensures, c.word-2.ensures, c.place-place.ensures.value, c.place-clock.ensures.value, c.operation-operation.ensures, c.offered-choice.ensures.value, c.rows.ensures, same)
