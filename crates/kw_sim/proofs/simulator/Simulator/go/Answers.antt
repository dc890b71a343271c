use Rattle.std.proofs.Common.{suc, ◌-◌, sym, ◌∙◌, arith}
use Rattle.kw_sim.proofs.Grows.{grows_step}
use Rattle.kw_sim.proofs.Runs.{none_by, go_ends}
use Rattle.kw_sim.proofs.Steps.{go_more, go_none}
use Rattle.kw_sim.proofs.simulator.Simulator.go.Goals as goal

pub loop-step-preserved : goal.loop-step-preserved
loop-step-preserved c = record {
  leads = λ n e. go_more n c.args.seat c.loop-step.self c.step.new.self _ c.in_ok-made.ensures.state (c.loop-step.invariant.leads (suc n) (omega (arith, e)));
  grows = grows_step c.loop-step._step c.args.seat c.args.self.now c.loop-step.self c.step.new.self c.in_ok-made.ensures.state c.loop-step.invariant.grows;
}

pub returns : goal.returns
returns c = sym (go_none c.args.seat c.loop-step.self) ∙ c.loop-step.invariant.leads 0 (omega arith)

pub returns-then-is_none : goal.returns-then-is_none
returns-then-is_none c = go_ends (c.args.count - c.loop-step._step) c.args.seat c.loop-step.self c.step.new.self _ c.in_ok-made.made c.in_ok-made.ensures.state c.in_ok-made.ensures.kind (none_by c.in_ok-made.made c.is_none.result c.is_none.ensures c.if-is_none.true) (c.loop-step.invariant.leads (c.args.count - c.loop-step._step) (omega arith))
