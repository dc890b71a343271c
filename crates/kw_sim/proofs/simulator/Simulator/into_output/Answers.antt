use Rattle.std.proofs.Common.{ap, subst, ◌++◌, ◌∷◌, [], ◌∙◌, ◌≡◌, map, append_assoc, List}
use Rattle.kw_line.specs.declared.words.TheConstants.{LINE_FEED}
use Rattle.kw_judge.specs.declared.record.Name.{Name}
use Rattle.kw_judge.specs.Texts.{order_text}
use Rattle.kw_order.specs.declared.points.CallName.{CallName}
use Rattle.kw_sim.specs.Printed.{judged}
use Rattle.kw_sim.specs.State.{State}
use Rattle.kw_sim.specs.Output.{IsOutputAt}
use Rattle.kw_sim.proofs.simulator.Simulator.into_output.Goals as goal

pub returns : goal.returns
returns c =
    let st : State = record { trace = c.self.inside.trace; queues = c.self.inside.queues.items; text = c.self.inside.text.items } in
    let of_trace = c.in_ok-names.ensures in
    let ordered : c.deref-2.result.now ≡ map judged c.in_ok-names.names.items =
    c.deref-2.ensures.value ∙ c.in_ok-judged.ensures ∙ ap (λ (names : List CallName). map judged names) c.deref.ensures.value in
    subst (λ (x : State). IsOutputAt x c.push_order.new.out.items) c.self.view_is (record {
      names = c.in_ok-names.names.items;
      are_names = of_trace.names;
      one = λ xs is. of_trace.one xs of_trace.names.order is of_trace.names.is_order;
      legal = of_trace.legal of_trace.names.order of_trace.names.is_order;
      laws = of_trace.laws of_trace.names.order of_trace.names.is_order;
      bytes_are = c.in_ok-push_order.ensures ∙ ap (λ (names : List Name). (c.self.inside.text.items ++ order_text names) ++ LINE_FEED ∷ []) ordered ∙ append_assoc c.self.inside.text.items _ (LINE_FEED ∷ []);
    })
