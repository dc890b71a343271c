use Rattle.std.proofs.Common.{Some, [], ap, refl, sym, ◌∙◌}
use Rattle.kw_live.proofs.NewestCell.{newest_above, newest_at, newest_begins, newest_counts, newest_ends, newest_gathers, newest_gathers_fewer, newest_led, newest_goes_by, newest_goes_by_fewer, newest_ranged, newest_versioned, reading}
use Rattle.kw_live.proofs.newest.read_newest.Goals as goal

pub loop-cell-init : goal.loop-cell-init
loop-cell-init c = newest_begins c.args.way c.first-first.result c.begin_list-cursor.result (c.begin_list-cursor.ensures (reading c.args.way []) (newest_at c.args.way c.first-first.result c.first-first.ensures c.requires))

pub begin_list-cursor-requires : goal.begin_list-cursor-requires
begin_list-cursor-requires c = (reading c.args.way [], newest_at c.args.way c.first-first.result c.first-first.ensures c.requires)

pub load_cell_link-link-requires : goal.load_cell_link-link-requires
load_cell_link-link-requires c = (c.loop-cell.invariant.activity, reading c.args.way c.loop-cell.invariant.cells, c.loop-cell.invariant.loads, c.loop-cell.invariant.gets.follows)

pub returns-in_default : goal.returns-in_default
returns-in_default c = newest_ends c.loop-cell.invariant c.load_cell_link-link.ensures c.shown_by.result c.shown_by.ensures (sym c.unpack_cell_link.ensures.value ∙ c.in_default.is)

pub reach-there-requires : goal.reach-there-requires
reach-there-requires c = newest_counts c.loop-cell.invariant c.load_cell_link-link.ensures _ c.in-Some.cell refl (sym c.unpack_cell_link.ensures.value ∙ c.in-Some.is)

pub load_key-word-requires : goal.load_key-word-requires
load_key-word-requires c = (reading c.args.way c.loop-cell.invariant.cells, newest_led c.loop-cell.invariant c.load_cell_link-link.ensures c.reach-there.result c.in-Some.cell c.reach-there.ensures (sym c.unpack_cell_link.ensures.value ∙ c.in-Some.is))

pub loop-cell-smaller-then-key-way : goal.loop-cell-smaller-then-key-way
loop-cell-smaller-then-key-way c = newest_goes_by_fewer c.loop-cell.invariant c.load_cell_link-link.ensures c.reach-there.result c.in-Some.cell c.reach-there.ensures (sym c.unpack_cell_link.ensures.value ∙ c.in-Some.is) c.unpack_key-key.result c.unpack_key-key.ensures.value c.load_key-word.ensures c.past-cursor.result c.past-cursor.ensures c.if-key-way.true

pub loop-cell-preserved-then-key-way : goal.loop-cell-preserved-then-key-way
loop-cell-preserved-then-key-way c = newest_goes_by c.loop-cell.invariant c.load_cell_link-link.ensures c.reach-there.result c.in-Some.cell c.reach-there.ensures (sym c.unpack_cell_link.ensures.value ∙ c.in-Some.is) c.unpack_key-key.result c.unpack_key-key.ensures.value c.load_key-word.ensures c.past-cursor.result c.past-cursor.ensures c.if-key-way.true

pub load_version-version-requires : goal.load_version-version-requires
load_version-version-requires c = (reading c.args.way c.loop-cell.invariant.cells, newest_ranged c.loop-cell.invariant c.load_cell_link-link.ensures c.reach-there.result c.in-Some.cell c.reach-there.ensures (sym c.unpack_cell_link.ensures.value ∙ c.in-Some.is) c.unpack_key-key.result c.unpack_key-key.ensures.value c.load_key-word.ensures c.with_key-ranged.result c.with_key-ranged.ensures c.if-key-way.false c.if-key-way-2.true)

pub load_value-value-requires : goal.load_value-value-requires
load_value-value-requires c = (reading c.args.way c.loop-cell.invariant.cells, newest_versioned c.loop-cell.invariant c.load_cell_link-link.ensures c.reach-there.result c.in-Some.cell c.reach-there.ensures (sym c.unpack_cell_link.ensures.value ∙ c.in-Some.is) c.unpack_key-key.result c.unpack_key-key.ensures.value c.load_key-word.ensures c.with_key-ranged.result c.with_key-ranged.ensures c.if-key-way.false c.if-key-way-2.true c.with_version-read.result c.with_version-read.ensures c.load_version-version.ensures)

pub loop-cell-smaller : goal.loop-cell-smaller
loop-cell-smaller c = newest_gathers_fewer c.loop-cell.invariant c.load_cell_link-link.ensures c.reach-there.result c.in-Some.cell c.reach-there.ensures (sym c.unpack_cell_link.ensures.value ∙ c.in-Some.is) c.unpack_key-key.result c.unpack_key-key.ensures.value c.load_key-word.ensures c.with_key-ranged.result c.with_key-ranged.ensures c.if-key-way.false c.if-key-way-2.true c.with_version-read.result c.with_version-read.ensures c.load_version-version.ensures c.past-cursor-then-key-way-2.result c.cell.result c.past-cursor-then-key-way-2.ensures c.cell.ensures c.load_value-value.ensures

pub loop-cell-preserved : goal.loop-cell-preserved
loop-cell-preserved c = newest_gathers c.loop-cell.invariant c.load_cell_link-link.ensures c.reach-there.result c.in-Some.cell c.reach-there.ensures (sym c.unpack_cell_link.ensures.value ∙ c.in-Some.is) c.unpack_key-key.result c.unpack_key-key.ensures.value c.load_key-word.ensures c.with_key-ranged.result c.with_key-ranged.ensures c.if-key-way.false c.if-key-way-2.true c.with_version-read.result c.with_version-read.ensures c.load_version-version.ensures c.past-cursor-then-key-way-2.result c.cell.result c.past-cursor-then-key-way-2.ensures c.cell.ensures c.load_value-value.ensures _ (ap Some c.newer_of.ensures)

pub returns-else-key-way-2 : goal.returns-else-key-way-2
returns-else-key-way-2 c = newest_above c.loop-cell.invariant c.load_cell_link-link.ensures c.reach-there.result c.in-Some.cell c.reach-there.ensures (sym c.unpack_cell_link.ensures.value ∙ c.in-Some.is) c.unpack_key-key.result c.unpack_key-key.ensures.value c.load_key-word.ensures c.shown_by-else-key-way-2.result c.shown_by-else-key-way-2.ensures c.if-key-way-2.false
