use Rattle.std.proofs.Common.{ap, ◌∙◌}
use Rattle.std.proofs.lemmas.Result.{IfOk-weaker}
use Rattle.kw_world.specs.WalkTransitions.{offered}
use Rattle.kw_table.proofs.Carried.{known_in}
use Rattle.kw_table_tests.proofs.Knowing.{knows_after}
use Rattle.kw_table_tests.proofs.calls.advance.Goals as goal

pub operation-does-requires : goal.operation-does-requires
operation-does-requires c = (known_in c.args.pass.now c.args.local.now c.requires.knows).ranges

pub resume-requires-clause-ranges : goal.resume-requires-clause-ranges
resume-requires-clause-ranges c = (known_in c.args.pass.now c.args.local.now c.requires.knows).ranges

pub resume-requires-clause-room : goal.resume-requires-clause-room
resume-requires-clause-room c = (known_in c.args.pass.now c.args.local.now c.requires.knows).room

pub returns-clause-knows : goal.returns-clause-knows
returns-clause-knows c =
    let offers = c.offered-offered.ensures.value ∙ ap (λ n. offered n c.args.choice) c.rows-rows.ensures in
    IfOk-weaker c.resume.result _ _ (λ done goes. knows_after _ _ _ c.args.choice c.args.local.now _ done _ _ _ c.requires.table c.requires.knows c.rows-rows.ensures offers c.make-told.ensures goes) c.resume.ensures.ok
