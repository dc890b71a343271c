use Rattle.std.proofs.lemmas.Option.{slice_get-get_or}
use Rattle.kw_order.proofs.CallRanks.{read_called}
use Rattle.kw_sim.proofs.Gathered.{lines_more}
use Rattle.kw_sim.proofs.recording.push_lines.Goals as goal

pub loop-place-preserved : goal.loop-place-preserved
loop-place-preserved c =
    lines_more c.args.history.now c.args.places.now c.loop-place.place-index _ c.loop-place.out.items c.args.out.now.items c.push_line.new.out.items c.index-calls-place.result c.loop-place-test.true
    (read_called c.args.history.now c.calls-calls.result.now _ c.index-calls-place.result c.calls-calls.ensures c.index-calls-place.is (c.requires c.loop-place.place-index _ (slice_get-get_or c.args.places.now c.loop-place.place-index _ c.loop-place-test.true)))
    c.loop-place.invariant c.in_ok-push_line.ensures
