use Rattle.std.proofs.Common.{ap, ◌∙◌}
use Rattle.kw_model.specs.Map.{without}
use Rattle.kw_model.proofs.Tree.{remove_is}
use Rattle.kw_rollup.specs.Kept.{Rolled}
use Rattle.kw_rollup.proofs.Changes.{can_delete, deleted}
use Rattle.kw_rollup.proofs.rollup.Rollup.del.Goals as goal

pub take_point-requires : goal.take_point-requires
take_point-requires c =
    let s = c.self.inside in
    can_delete s.width c.args.key c.first_key-first.result c.in-Some.old s.points.entries s.buckets c.self.invariant c.first_key-first.ensures c.in-Some.ensures.value

pub invariant_of-self : goal.invariant_of-self
invariant_of-self c =
    let s = c.self.inside in
    deleted s.width c.args.key c.first_key-first.result c.in-Some.old s.points.entries c.remove.new.self.entries s.buckets c.take_point.new.buckets c.self.invariant c.first_key-first.ensures c.in-Some.ensures.value c.remove.ensures.entries c.take_point.ensures.kept c.take_point.ensures.others

pub returns-in-Some-clause-pairs : goal.returns-in-Some-clause-pairs
returns-in-Some-clause-pairs c =
    c.remove.ensures.entries ∙ (remove_is c.args.key 0 c.self.inside.points.entries c.self.invariant.rising ∙ ap (λ (r : Rolled). without c.args.key r.pairs) c.self.view_is)

pub returns-in_default-clause-pairs : goal.returns-in_default-clause-pairs
returns-in_default-clause-pairs c =
    c.remove.ensures.entries ∙ (remove_is c.args.key 0 c.self.inside.points.entries c.self.invariant.rising ∙ ap (λ (r : Rolled). without c.args.key r.pairs) c.self.view_is)
