use Rattle.std.proofs.Common.{map, ap, ◌∙◌, slice_get, Contains}
use Rattle.std.proofs.lemmas.Option.{slice_get-get_or, slice_get_within, get_or_from_slice_get}
use Rattle.kw_judge.proofs.Firsts.{more_hold}
use Rattle.kw_judge.proofs.Indexes.{place_more}
use Rattle.kw_judge.proofs.judge.places.Goals as goal

pub loop-name-preserved : goal.loop-name-preserved
loop-name-preserved c =
    let lines = c.args.lines.now in
    let order = c.args.order.now in
    let i = c.loop-name.name-index in
    let p = c.in-Some.place in
    let there = slice_get-get_or order i _ c.loop-name-test.true in
    let found = c.in-Some.ensures in
    record {
      places = ap (map (slice_get lines)) c.in_ok-push.ensures.items ∙ place_more lines order c.loop-name.places.items i p _ c.loop-name-test.true c.loop-name.invariant.places found;
      known = more_hold (λ _ name. Contains lines name) order i _ there c.loop-name.invariant.known (p, slice_get_within lines p _ found, get_or_from_slice_get lines p _ _ found);
    }
