use Rattle.std.proofs.Common.{◌≡◌, Some, refl, ◌∙◌}
use Rattle.std.specs.Cmp.{nat_cmp_total}
use Rattle.std.specs.Ordering.{nat_cmp}
use Rattle.std.specs.BTreeMap.{get}
use Rattle.std.specs.Map.Iter.{deref_pair}
use Rattle.std.proofs.lemmas.Map.Iter.{btree_map_turn}
use Rattle.kw_rollup.proofs.Printed.{kept_seen, table_more, table_done}
use Rattle.kw_rollup.proofs.rollup.Rollup.print.Goals as goal

pub loop-first-init : goal.loop-first-init
loop-first-init c = rw c.new-out.ensures.items refl

pub loop-first-preserved : goal.loop-first-preserved
loop-first-preserved c =
    let s = c.self.inside in
    let kept = kept_seen s.width s.points.entries s.buckets c.args.self.now c.self.view_is c.self.invariant in
    let turn = btree_map_turn deref_pair c.loop-first.yielded c.into_iter-first-iterator.result c.loop-first.first-iterator c.next.new.self c.next.result (c.in-Some.first, c.in-Some.bucket) c.loop-first.yielded_by c.in-Some.is c.next.ensures.steps nat_cmp_total s.buckets (c.into_iter-first-iterator.ensures.into_iter_gives ∙ c.iter-first-items.ensures.rest) c.iter-first-items.ensures.ordered in
    let found : get nat_cmp s.buckets c.in-Some.first.now ≡ Some c.in-Some.bucket.now = turn.1 in
    table_more c.args.self.now c.in-Some.first.now s.buckets c.in-Some.bucket.now c.loop-first.first-iterator c.next.new.self c.summary.result c.loop-first.out.items c.push_summary.new.out.items _ kept found c.in-Some.ensures.steps c.summary.ensures (c.in_ok-push_summary.ensures {u = tt}) c.loop-first.invariant

pub returns : goal.returns
returns c =
    let s = c.self.inside in
    let kept = kept_seen s.width s.points.entries s.buckets c.args.self.now c.self.view_is c.self.invariant in
    table_done c.args.self.now c.args.refused s.buckets c.loop-first.first-iterator c.into_iter-first-iterator.result c.loop-first.out.items c.push_end.new.out.items kept c.iter-first-items.ensures.ordered c.in-None.ensures.steps.0 (c.into_iter-first-iterator.ensures.into_iter_gives ∙ c.iter-first-items.ensures.rest) c.loop-first.invariant (c.in_ok-push_end.ensures {u = tt})
