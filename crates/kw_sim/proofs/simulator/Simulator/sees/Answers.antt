use Rattle.std.proofs.Common.{suc, ◌-◌, sym, ap, ◌∙◌, arith}
use Rattle.kw_sim.specs.declared.parse.TheConstants.{MOST_STEPS}
use Rattle.kw_sim.specs.Meaning.{is_kind}
use Rattle.kw_sim.proofs.Grows.{grows_step}
use Rattle.kw_sim.proofs.Runs.{none_by, until_ends}
use Rattle.kw_sim.proofs.Steps.{until_seen, until_more, until_none}
use Rattle.kw_sim.proofs.simulator.Simulator.sees.Goals as goal

pub loop-step-preserved : goal.loop-step-preserved
loop-step-preserved c = record {
  leads = λ n e. until_more n c.args.kind c.args.seat c.loop-step.self c.step.new.self _ c.in_ok-made.ensures.state
      (sym (ap (is_kind c.args.kind) c.in_ok-made.ensures.kind) ∙ (sym c.is_kind.ensures ∙ c.if-is_kind.false)) (c.loop-step.invariant.leads (suc n) (omega (arith, e)));
  grows = grows_step c.loop-step._step c.args.seat c.args.self.now c.loop-step.self c.step.new.self c.in_ok-made.ensures.state c.loop-step.invariant.grows;
}

pub returns-then-is_kind : goal.returns-then-is_kind
returns-then-is_kind c = sym (until_seen (MOST_STEPS - c.loop-step._step - 1) c.args.kind c.args.seat c.loop-step.self c.step.new.self _ c.in_ok-made.ensures.state
    (sym (ap (is_kind c.args.kind) c.in_ok-made.ensures.kind) ∙ (sym c.is_kind.ensures ∙ c.if-is_kind.true)) (c.loop-step.invariant.leads (suc (MOST_STEPS - c.loop-step._step - 1)) (omega arith)))

pub returns-then-is_none : goal.returns-then-is_none
returns-then-is_none c = until_ends (MOST_STEPS - c.loop-step._step) c.args.kind c.args.seat c.loop-step.self c.step.new.self _ c.in_ok-made.made c.in_ok-made.ensures.state c.in_ok-made.ensures.kind (none_by c.in_ok-made.made c.is_none.result c.is_none.ensures c.if-is_none.true) (c.loop-step.invariant.leads (MOST_STEPS - c.loop-step._step) (omega arith))

pub returns : goal.returns
returns c = sym (c.loop-step.invariant.leads 0 (omega arith)) ∙ until_none c.args.kind c.args.seat c.loop-step.self
