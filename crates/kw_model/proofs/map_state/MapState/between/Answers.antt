-- Where the range has no pairs left, all of them were pushed; an empty range has none.
use Rattle.std.proofs.Common.{◌≡◌, [], ◌++◌, sym, ◌∙◌, ap, rules, arith}
use Rattle.std.proofs.lemmas.Grind.{common_steps}
use Rattle.kw_model.specs.Map as map
use Rattle.kw_model.specs.Snapshots.{State}
use Rattle.kw_model.proofs.Pairs.{between_none}
use Rattle.kw_model.proofs.Tree.{entries_are}
use Rattle.kw_model.proofs.map_state.MapState.between.Goals as goal

pub returns-clause-pairs : goal.returns-clause-pairs
returns-clause-pairs c =
    let all = rw (c.new.ensures.start, c.new.ensures.end) at (c.range-key-items.ensures.between (search rules)) in
    let are = entries_are c.args.from c.args.to c.self.inside.pairs.entries in
    let end : c.loop-key.key-iterator ≡ [] = c.in-None.ensures.steps.0 in
    let so_far : c.loop-key.pairs ++ c.loop-key.key-iterator ≡ c.into_iter-key-iterator.result = c.loop-key.invariant in
    let done : c.loop-key.pairs ≡ c.into_iter-key-iterator.result = grind (arith, common_steps) in
    done ∙ c.into_iter-key-iterator.ensures.into_iter_gives ∙ all ∙ are ∙ ap (λ (t : State). map.between c.args.from c.args.to t.map) c.self.view_is

pub returns-then-from-to-clause-pairs : goal.returns-then-from-to-clause-pairs
returns-then-from-to-clause-pairs c = c.new-pairs.ensures ∙ sym (between_none c.args.from c.args.to c.args.self.now.map c.if-from-to.true)
