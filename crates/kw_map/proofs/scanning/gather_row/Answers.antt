use Rattle.std.proofs.Common.{ap, ◌∙◌, is_err}
use Rattle.kw_map.proofs.ReadRows.{rows_stopped, rows_taken, still_hands}
use Rattle.kw_map.proofs.scanning.gather_row.Goals as goal

pub returns-in_err-ended-clause-reads : goal.returns-in_err-ended-clause-reads
returns-in_err-ended-clause-reads g c =
    let l = c.locate.ensures in
    let h = c.hand_rows-ended.ensures in
    rows_stopped (record { last = g.G.Gather.last; stands = g.G.Gather.stands; stops = g.G.Gather.stops }) c.args.upto c.args.pass.now c.hand_rows-ended.new.pass c.read_list.new.pass c.args.local.now c.hand_rows-ended.new.local c.read_list.new.local
    c.args.into.now c.hand_rows-ended.new.into c.hand_rows-ended.result c.from_residual.result (ap is_err c.in_err-ended.was) c.from_residual.ensures.0
    (still_hands _ _ _ _ _ _ _ _ _ _ l.on.calls l.on.held l.walks.call l.walks.want l.walks.version h.hands) (c.requires.scan.0, h.hands.call ∙ l.walks.call ∙ c.requires.scan.1) c.read_list.ensures.read

pub returns-clause-reads : goal.returns-clause-reads
returns-clause-reads g c =
    let l = c.locate.ensures in
    let h = c.hand_rows-ended.ensures in
    let t = c.take_pairs.ensures in
    rows_taken (record { last = g.G.Gather.last; stands = g.G.Gather.stands; stops = g.G.Gather.stops }) c.args.upto c.args.pass.now c.hand_rows-ended.new.pass c.read_list.new.pass c.args.local.now c.hand_rows-ended.new.local c.read_list.new.local
    c.args.into.now c.hand_rows-ended.new.into c.take_pairs.new.into c.hand_rows-ended.result c.take_pairs.result (ap is_err c.in_ok-ended.was)
    (still_hands _ _ _ _ _ _ _ _ _ _ l.on.calls l.on.held l.walks.call l.walks.want l.walks.version h.hands) (c.requires.scan.0, h.hands.call ∙ l.walks.call ∙ c.requires.scan.1) c.read_list.ensures.read c.read_list.ensures.version
    t.all t.prefix t.stopped t.never_falls
