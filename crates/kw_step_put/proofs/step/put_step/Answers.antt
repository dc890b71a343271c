use Rattle.std.proofs.Common.{◌≡◌, sym, ◌∙◌}
use Rattle.std.proofs.lemmas.Result.{MatchResult-from_err}
use Rattle.kw_world.specs.Sizes.{product}
use Rattle.kw_world.specs.Step.{word}
use Rattle.kw_world.proofs.Lists.{set_same}
use Rattle.kw_world.proofs.Transitions.{in_table, event_can_happen, part-offered}
use Rattle.kw_world.proofs.Skipping.{skips_exactly, step-unchanged}
use Rattle.kw_world.proofs.Steps.{made_in_turn}
use Rattle.kw_step_put.proofs.step.put_step.Goals as goal

pub put_operation-operation-requires-clause-local : goal.put_operation-operation-requires-clause-local
put_operation-operation-requires-clause-local c = (c.requires.sane.locals _ _ c.local-local.ensures).ranges

pub put_operation-operation-requires-clause-part : goal.put_operation-operation-requires-clause-part
put_operation-operation-requires-clause-part c =
    rw (c.offered-choice.ensures.value) (part-offered c.rows-rows.result c.args.event.choice c.local-local.result.now ∙ c.requires.part c.local-local.result.now c.local-local.ensures)

pub put_resume-requires-clause-part : goal.put_resume-requires-clause-part
put_resume-requires-clause-part c =
    rw (c.offered-choice.ensures.value) (part-offered c.rows-rows.result c.args.event.choice c.local_mut.result.now ∙ c.requires.part c.local_mut.result.now c.local_mut.ensures.value)

pub place-place-requires-clause-within : goal.place-place-requires-clause-within
place-place-requires-clause-within c =
    rw (c.put_operation-operation.ensures, c.offered-choice.ensures.value, c.rows-rows.ensures)
    (in_table product c.args.world.now c.args.event c.local-local.result.now c.requires.sane c.requires.seat c.local-local.ensures)

pub after-word-requires : goal.after-word-requires
unfolding word
after-word-requires c =
    rw (c.word-found.ensures, c.place-place.ensures.value, c.put_operation-operation.ensures, c.offered-choice.ensures.value, c.rows-rows.ensures)
    (event_can_happen product c.args.world.now c.args.event c.local-local.result.now c.requires.sane c.requires.seat c.local-local.ensures)

pub put_resume-requires-clause-ranges : goal.put_resume-requires-clause-ranges
put_resume-requires-clause-ranges c = (c.requires.sane.locals _ _ c.local_mut.ensures.value).ranges

pub put_resume-requires-clause-room : goal.put_resume-requires-clause-room
put_resume-requires-clause-room c = (c.requires.sane.locals _ _ c.local_mut.ensures.value).room

pub returns-in_err-done-clause-err : goal.returns-in_err-done-clause-err
returns-in_err-done-clause-err c =
    MatchResult-from_err c.from_residual.result _ _ c.from_residual.ensures.0
    (λ _. rw (c.in_err-done.ensures.err, set_same c.args.world.now.locals c.args.event.seat c.local_mut.result.now c.local_mut.ensures.value))

pub returns-clause-ok : goal.returns-clause-ok
returns-clause-ok c =
    let same : c.local_mut.result.now ≡ c.local-local.result.now = cc (c.local-local.ensures, c.local_mut.ensures.value) in
    made_in_turn product c.args.world.now c.set_word.new.self c.args.event c.local-local.result.now c.put_resume.new.local c.in_ok-done.done
    c.put_operation-operation.result c.place-place.result c.word-found.result c.after-word.result c.told-told.result
    c.local-local.ensures (sym c.skips.ensures ∙ c.if-skips.false)
    (rw (c.put_operation-operation.ensures, c.offered-choice.ensures.value, c.rows-rows.ensures))
    c.place-place.ensures.value c.word-found.ensures c.after-word.ensures c.told-told.ensures
    (rw (c.offered-choice.ensures.value, c.rows-rows.ensures, same) at (c.in_ok-done.ensures.ok))
    c.set_word.ensures

pub returns-clause-skipped : goal.returns-clause-skipped
returns-clause-skipped c = skips_exactly product c.args.world.now c.set_word.new.self c.args.event c.local-local.result.now c.in_ok-done.done c.local-local.ensures (returns-clause-ok c)

pub returns-clause-skipped_world : goal.returns-clause-skipped_world
returns-clause-skipped_world c = step-unchanged product c.args.world.now c.set_word.new.self c.args.event c.in_ok-done.done (returns-clause-ok c)
