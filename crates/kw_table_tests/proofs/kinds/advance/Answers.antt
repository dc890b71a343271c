use Rattle.std.proofs.Common.{◌≡◌, ap, ◌∙◌}
use Rattle.std.specs.Prelude.{IfOk}
use Rattle.std.proofs.lemmas.Result.{IfOk-weaker}
use Rattle.kw_world.specs.WalkTransitions.{offered}
use Rattle.kw_table.specs.Passes.{view}
use Rattle.kw_table.specs.Views.{local_in}
use Rattle.kw_table.proofs.Carried.{known_in}
use Rattle.kw_table_tests.proofs.Knowing.{knows_after}
use Rattle.kw_table_tests.proofs.kinds.advance.Goals as goal

pub operation-does-requires : goal.operation-does-requires
operation-does-requires c = (known_in c.args.pass.now c.args.local.now c.requires.knows).ranges

pub resume-requires-clause-ranges : goal.resume-requires-clause-ranges
resume-requires-clause-ranges c = (known_in c.args.pass.now c.args.local.now c.requires.knows).ranges

pub resume-requires-clause-room : goal.resume-requires-clause-room
resume-requires-clause-room c = (known_in c.args.pass.now c.args.local.now c.requires.knows).room

pub returns-clause-knows : goal.returns-clause-knows
returns-clause-knows c =
    let offers = c.offered-offered.ensures.value ∙ ap (λ n. offered n c.args.choice) c.rows-rows.ensures in
    let knows : IfOk c.resume.result (λ _. c.resume.new.local ≡ local_in (view c.make_by_kind-told.new.pass)) =
    IfOk-weaker c.resume.result _ _ (λ done goes. knows_after _ _ _ c.args.choice c.args.local.now _ done _ _ _ c.requires.table c.requires.knows c.rows-rows.ensures offers c.make_by_kind-told.ensures goes) c.resume.ensures.ok in
    rw c.in_ok-resume.was at knows
