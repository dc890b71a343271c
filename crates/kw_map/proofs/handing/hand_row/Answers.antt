use Rattle.std.proofs.Common.{arith, refl}
use Rattle.kw_map.proofs.HandedRows.{handed_begins, handed_ends, handed_on}
use Rattle.kw_map.proofs.handing.hand_row.Goals as goal

pub loop-cell-init : goal.loop-cell-init
loop-cell-init g c = handed_begins _ _ _ _ _ c.of-cursor.result c.from-low.result c.requires.follows c.requires.stage c.requires.none c.of-cursor.ensures c.from-low.ensures c.requires.above

pub hand_cell-ended-requires-clause-value : goal.hand_cell-ended-requires-clause-value
hand_cell-ended-requires-clause-value g c =
    let i = c.loop-cell.invariant in
    (c.in-Some.ensures i.cells i.streams).1.value

pub loop-cell-preserved : goal.loop-cell-preserved
loop-cell-preserved g c =
    let i = c.loop-cell.invariant in
    let r = c.hand_cell-ended.ensures in
    handed_on _ i _ _ _ _ _ _ (c.in-Some.ensures i.cells i.streams) refl r.low r.all r.kept r.stays r.stopped r.still r.never_falls

pub loop-cell-smaller : goal.loop-cell-smaller
loop-cell-smaller g c =
    let i = c.loop-cell.invariant in
    let r = (c.in-Some.ensures i.cells i.streams).1 in
    omega (arith, r.further, r.streams.within)

pub returns-clause-hands : goal.returns-clause-hands
returns-clause-hands g c =
    let i = c.loop-cell.invariant in
    handed_ends _ i (c.in_default.ensures i.cells i.streams) c.go_by_rows.ensures.walks c.requires.above
