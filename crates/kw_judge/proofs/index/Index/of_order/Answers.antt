use Rattle.std.proofs.Common.{Some, subst, nat_cmp, arith, refl, ◌∙◌, ap}
use Rattle.std.proofs.lemmas.Option.{slice_get-get_or, slice_get_within}
use Rattle.std.specs.BTreeMap.{Updates, get}
use Rattle.kw_judge.proofs.Indexes.{one_more, stood, is_new, each_more}
use Rattle.kw_judge.proofs.index.Index.of_order.Goals as goal

pub returns-then-is_some : goal.returns-then-is_some
returns-then-is_some c =
    let there = slice_get-get_or c.args.names.now c.loop-place.place _ c.loop-place-test.true in
    record {
      place = c.loop-place.place;
      there = there;
      fails = stood c.args.names.now c.loop-place.place c.loop-place.places _ c.in_ok-insert.field-0 c.is_some.result (c.requires.fits c.loop-place.place _ there) c.loop-place.invariant.indexed (c.in_ok-insert.ensures.old ∙ ap (get nat_cmp c.loop-place.places) c.key_of.ensures) c.is_some.ensures c.if-is_some.true;
      before = λ k y l w. c.loop-place.invariant.each k y l w;
    }

pub loop-place-preserved : goal.loop-place-preserved
loop-place-preserved c =
    let there = slice_get-get_or c.args.names.now c.loop-place.place _ c.loop-place-test.true in
    record {
      indexed = one_more c.args.names.now c.loop-place.place c.loop-place.places c.insert.new.self _ c.requires.fits there c.loop-place.invariant.indexed (subst (λ q. Updates nat_cmp c.loop-place.places c.insert.new.self q (Some c.loop-place.place)) c.key_of.ensures c.in_ok-insert.ensures.updates);
      each = each_more c.args.names.now c.loop-place.place _ there c.loop-place.invariant.each (is_new c.args.names.now c.loop-place.place c.loop-place.places _ c.in_ok-insert.field-0 c.is_some.result c.loop-place.invariant.indexed (c.in_ok-insert.ensures.old ∙ ap (get nat_cmp c.loop-place.places) c.key_of.ensures) c.is_some.ensures c.if-is_some.false);
    }

pub returns : goal.returns
returns c = (refl, λ k x w. c.loop-place.invariant.each k x (omega (arith, slice_get_within c.args.names.now k x w)) w)
