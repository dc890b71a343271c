-- What the tree of std did is what the definition of the map says.
use Rattle.std.proofs.Common.{◌≡◌, sym, ◌∙◌, ap}
use Rattle.std.specs.Option.{option_copied}
use Rattle.kw_model.specs.Map.{put, without, value_of, found}
use Rattle.kw_model.specs.Snapshots.{State, state_after, state_answer}
use Rattle.kw_model.proofs.Tree.{lookup_is, insert_is, remove_is, rises_from_sorted}
use Rattle.kw_model.proofs.map_state.MapState.apply.Goals as goal
use Rattle.kw_model.proofs.map_state.MapState.apply.Goals.{in-Some, in-None}

pub invariant_of-self-in-Put : goal.invariant_of-self-in-Put
invariant_of-self-in-Put c = rises_from_sorted _ c.insert.ensures.ordered

pub invariant_of-self-in-Del : goal.invariant_of-self-in-Del
invariant_of-self-in-Del c = rises_from_sorted _ c.remove.ensures.ordered

pub returns-in_ok-insert-in-Put-clause-after : goal.returns-in_ok-insert-in-Put-clause-after
returns-in_ok-insert-in-Put-clause-after c =
    let e = c.in_ok-insert-in-Put.ensures.entries ∙ insert_is c.in-Put.key c.in-Put.value c.self.inside.pairs.entries in
    rw e (ap (λ (t : State). record t { map = put c.in-Put.key c.in-Put.value t.map }) c.self.view_is ∙ sym (ap (state_after c.args.self.now c.args.seat) c.in-Put.is))

pub returns-in_ok-insert-in-Put-clause-rising : goal.returns-in_ok-insert-in-Put-clause-rising
returns-in_ok-insert-in-Put-clause-rising c = rises_from_sorted _ c.insert.ensures.ordered

pub returns-in-Del-clause-after : goal.returns-in-Del-clause-after
returns-in-Del-clause-after c =
    let e = c.remove.ensures.entries ∙ remove_is c.in-Del.key 0 c.self-in-Del.inside.pairs.entries c.self-in-Del.invariant in
    rw e (ap (λ (t : State). record t { map = without c.in-Del.key t.map }) c.self-in-Del.view_is ∙ sym (ap (state_after c.args.self.now c.args.seat) c.in-Del.is))

pub returns-in-Del-clause-rising : goal.returns-in-Del-clause-rising
returns-in-Del-clause-rising c = rises_from_sorted _ c.remove.ensures.ordered

pub returns-after-get-clause-answer : goal.returns-after-get-clause-answer
returns-after-get-clause-answer c =
    let value : option_copied c.get.result ≡ value_of c.in-Get.key c.args.self.now.map = c.get.ensures.value ∙ lookup_is c.in-Get.key c.self-in-Get.inside.pairs.entries ∙ ap (λ (t : State). value_of c.in-Get.key t.map) c.self-in-Get.view_is in
    let asked : state_answer c.args.self.now c.args.seat c.args.call.now ≡ found (option_copied c.get.result) = ap (state_answer c.args.self.now c.args.seat) c.in-Get.is ∙ ap found (sym value) in
    elim c.match-get.branch [
      | in-Some w ↦ w.result-is ∙ ap (λ o. found (option_copied o)) (sym w.in-Some.is) ∙ sym asked
      | in-None w ↦ w.result-is ∙ ap (λ o. found (option_copied o)) (sym w.in-None.is) ∙ sym asked
    ]
