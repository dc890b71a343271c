use Rattle.std.proofs.Common.{◌≡◌, Result, Ok, Err, IfOk, IsOkAnd}
use Rattle.std.proofs.lemmas.Result.{IfOk-weaker}
use Rattle.kw_world.specs.declared.event.StepDone.{StepDone}
use Rattle.kw_world.specs.declared.event.StepDone.TheVariants.{Skipped}
use Rattle.kw_world.specs.Sizes.{product}
use Rattle.kw_world.specs.Step.{step, stepped}
use Rattle.kw_world.proofs.Skipping.{step-unchanged}
use Rattle.kw_core.proofs.step.step.Goals as goal

-- a call that always answers Ok, and with this, answers with this where it answers Ok
where_ok : {X Y : Type 0} (r : Result X Y) (P : X → Type 0) → IsOkAnd r P → IfOk r P
where_ok (Ok x) P h = h
where_ok (Err y) P h = tt

pub returns-in-Rows-clause-skipped_world : goal.returns-in-Rows-clause-skipped_world
returns-in-Rows-clause-skipped_world c =
    IfOk-weaker c.rows_step.result (λ (done : StepDone). stepped c.rows_step.new.world done ≡ step product c.args.world.now c.args.event)
    (λ (done : StepDone). done ≡ Skipped → c.rows_step.new.world ≡ c.args.world.now)
    (λ done is_step. step-unchanged product c.args.world.now c.rows_step.new.world c.args.event done is_step)
    (where_ok c.rows_step.result _ c.rows_step.ensures.ok)

pub returns-in-Rebalance-clause-skipped_world : goal.returns-in-Rebalance-clause-skipped_world
returns-in-Rebalance-clause-skipped_world c =
    IfOk-weaker c.rebalance_step.result (λ (done : StepDone). stepped c.rebalance_step.new.world done ≡ step product c.args.world.now c.args.event)
    (λ (done : StepDone). done ≡ Skipped → c.rebalance_step.new.world ≡ c.args.world.now)
    (λ done is_step. step-unchanged product c.args.world.now c.rebalance_step.new.world c.args.event done is_step)
    (where_ok c.rebalance_step.result _ c.rebalance_step.ensures.ok)
