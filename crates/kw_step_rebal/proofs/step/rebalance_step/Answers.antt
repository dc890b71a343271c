use Rattle.std.proofs.Common.{◌≡◌, false, true, ◌∙◌}
use Rattle.kw_world.specs.declared.local.Local.{Local}
use Rattle.kw_world.specs.Sizes.{product}
use Rattle.kw_world.specs.Step.{word, is_skipped}
use Rattle.kw_world.proofs.Transitions.{in_table, event_can_happen, part-offered}
use Rattle.kw_world.proofs.Skipping.{skips_exactly}
use Rattle.kw_world.proofs.Steps.{made_in_turn}
use Rattle.kw_step_rebal.proofs.Balancing.{balance_not_skipped}
use Rattle.kw_step_rebal.proofs.step.rebalance_step.Goals as goal

pub rebalance_operation-operation-requires-clause-part : goal.rebalance_operation-operation-requires-clause-part
rebalance_operation-operation-requires-clause-part c =
    rw (c.offered-choice.ensures.value) (part-offered c.rows-rows.result c.args.event.choice c.local-local.result.now ∙ c.requires.part c.local-local.result.now c.local-local.ensures)

pub rebalance_resume-done-requires-clause-part : goal.rebalance_resume-done-requires-clause-part
rebalance_resume-done-requires-clause-part c =
    rw (c.offered-choice.ensures.value) (part-offered c.rows-rows.result c.args.event.choice c.local_mut.result.now ∙ c.requires.part c.local_mut.result.now c.local_mut.ensures.value)

pub place-place-requires-clause-within : goal.place-place-requires-clause-within
place-place-requires-clause-within c =
    rw (c.rebalance_operation-operation.ensures, c.offered-choice.ensures.value, c.rows-rows.ensures)
    (in_table product c.args.world.now c.args.event c.local-local.result.now c.requires.sane c.requires.seat c.local-local.ensures)

pub after-word-requires : goal.after-word-requires
unfolding word
after-word-requires c =
    rw (c.word-found.ensures, c.place-place.ensures.value, c.rebalance_operation-operation.ensures, c.offered-choice.ensures.value, c.rows-rows.ensures)
    (event_can_happen product c.args.world.now c.args.event c.local-local.result.now c.requires.sane c.requires.seat c.local-local.ensures)

pub returns-clause-ok : goal.returns-clause-ok
returns-clause-ok c =
    let same : c.local_mut.result.now ≡ c.local-local.result.now = cc (c.local-local.ensures, c.local_mut.ensures.value) in
    made_in_turn product c.args.world.now c.set_word.new.self c.args.event c.local-local.result.now c.rebalance_resume-done.new.local c.rebalance_resume-done.result
    c.rebalance_operation-operation.result c.place-place.result c.word-found.result c.after-word.result c.told-told.result
    c.local-local.ensures (balance_not_skipped c.local-local.result.now.activity c.args.event.choice c.local-local.result.now (c.requires.part c.local-local.result.now c.local-local.ensures))
    (rw (c.rebalance_operation-operation.ensures, c.offered-choice.ensures.value, c.rows-rows.ensures))
    c.place-place.ensures.value c.word-found.ensures c.after-word.ensures c.told-told.ensures
    (rw (c.offered-choice.ensures.value, c.rows-rows.ensures, same) at c.rebalance_resume-done.ensures)
    c.set_word.ensures

pub returns-clause-skipped : goal.returns-clause-skipped
returns-clause-skipped c = skips_exactly product c.args.world.now c.set_word.new.self c.args.event c.local-local.result.now c.rebalance_resume-done.result c.local-local.ensures (returns-clause-ok c)

pub returns-clause-made : goal.returns-clause-made
returns-clause-made c = λ d.
    let l : Local = c.local-local.result.now in
    let skips : is_skipped l.activity c.args.event.choice ≡ true = (returns-clause-skipped c).0 d l c.local-local.ensures in
    let moves : is_skipped l.activity c.args.event.choice ≡ false = balance_not_skipped l.activity c.args.event.choice l (c.requires.part l c.local-local.ensures) in
    cc

pub rebalance_resume-done-requires-clause-ranges : goal.rebalance_resume-done-requires-clause-ranges
rebalance_resume-done-requires-clause-ranges c = (c.requires.sane.locals _ _ c.local_mut.ensures.value).ranges

pub rebalance_resume-done-requires-clause-room : goal.rebalance_resume-done-requires-clause-room
rebalance_resume-done-requires-clause-room c = (c.requires.sane.locals _ _ c.local_mut.ensures.value).room

pub rebalance_operation-operation-requires-clause-ranges : goal.rebalance_operation-operation-requires-clause-ranges
rebalance_operation-operation-requires-clause-ranges c = (c.requires.sane.locals _ _ c.local-local.ensures).ranges
