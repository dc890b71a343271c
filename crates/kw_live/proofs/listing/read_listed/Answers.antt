use Rattle.std.proofs.Common.{List, ap, refl, sym, ◌∙◌}
use Rattle.kw_world.specs.declared.marks.Mark.{Mark}
use Rattle.kw_live.proofs.AfterList.{listing_over}
use Rattle.kw_live.proofs.Beginnings.{begins_here}
use Rattle.kw_live.proofs.CursorEvents.{along_fewer, along_on, begins_along, cell_above, cell_counts, cell_gone_by, cell_within, link_ended, link_led, lists_to}
use Rattle.kw_live.proofs.ReadEvent.{reads_trans}
use Rattle.kw_live.proofs.listing.read_listed.Goals as goal

pub returns-in_default-clause-reads : goal.returns-in_default-clause-reads
returns-in_default-clause-reads c = lists_to c.loop-cell.invariant.lists (link_ended c.loop-cell.local c.loop-cell.cursor c.loop-cell.invariant.activity c.loop-cell.invariant.loads _ _ c.write.ensures (sym c.unpack_cell_link.ensures.value ∙ c.in_default.is) c.go_to_left_over.ensures c.loop-cell.invariant.lists.follows (c.load_cell_link-link.ensures c.loop-cell.invariant.activity c.loop-cell.local c.loop-cell.invariant.loads c.loop-cell.invariant.lists.follows))

pub returns-in_default-clause-over : goal.returns-in_default-clause-over
returns-in_default-clause-over c = listing_over _ _ c.go_to_left_over.ensures

pub load_cell_link-link-requires : goal.load_cell_link-link-requires
load_cell_link-link-requires c = (c.loop-cell.invariant.activity, c.loop-cell.local, c.loop-cell.invariant.loads, c.loop-cell.invariant.lists.follows)

pub reach-there-requires : goal.reach-there-requires
reach-there-requires c = cell_counts c.loop-cell.local c.loop-cell.cursor c.loop-cell.invariant.activity c.loop-cell.invariant.loads _ (sym c.unpack_cell_link.ensures.value ∙ c.in-Some.is) (c.load_cell_link-link.ensures c.loop-cell.invariant.activity c.loop-cell.local c.loop-cell.invariant.loads c.loop-cell.invariant.lists.follows)

pub load_key-word-requires : goal.load_key-word-requires
load_key-word-requires c = ((record c.loop-cell.local { remembered = c.forget.new.self }), (link_led c.loop-cell.local c.loop-cell.cursor c.loop-cell.invariant.activity c.loop-cell.invariant.loads _ _ _ c.reach-there.ensures (ap (λ (marks : List Mark). record c.loop-cell.local { remembered = marks }) c.forget.ensures) (sym c.unpack_cell_link.ensures.value ∙ c.in-Some.is) c.loop-cell.invariant.lists.follows (c.load_cell_link-link.ensures c.loop-cell.invariant.activity c.loop-cell.local c.loop-cell.invariant.loads c.loop-cell.invariant.lists.follows)).follows)

pub loop-cell-smaller-then-key-first : goal.loop-cell-smaller-then-key-first
loop-cell-smaller-then-key-first c = along_fewer (record c.loop-cell.local { remembered = c.forget.new.self }) c.loop-cell.invariant (cell_gone_by c.loop-cell.local (record c.loop-cell.local { remembered = c.forget.new.self }) c.loop-cell.cursor c.reach-there.result c.loop-cell.invariant.activity c.loop-cell.invariant.loads _ c.reach-there.ensures (ap (λ (marks : List Mark). record c.loop-cell.local { remembered = marks }) c.forget.ensures) (sym c.unpack_cell_link.ensures.value ∙ c.in-Some.is) c.loop-cell.invariant.lists.follows (c.load_cell_link-link.ensures c.loop-cell.invariant.activity c.loop-cell.local c.loop-cell.invariant.loads) (c.load_key-word.ensures (record c.loop-cell.local { remembered = c.forget.new.self })) _ _ _ _ c.past-cursor.ensures c.unpack_key-key.ensures.value c.first_key-first.ensures c.loop-cell.invariant.lists.call c.if-key-first.true)

pub loop-cell-preserved-then-key-first : goal.loop-cell-preserved-then-key-first
loop-cell-preserved-then-key-first c = along_on (record c.loop-cell.local { remembered = c.forget.new.self }) c.loop-cell.invariant (cell_gone_by c.loop-cell.local (record c.loop-cell.local { remembered = c.forget.new.self }) c.loop-cell.cursor c.reach-there.result c.loop-cell.invariant.activity c.loop-cell.invariant.loads _ c.reach-there.ensures (ap (λ (marks : List Mark). record c.loop-cell.local { remembered = marks }) c.forget.ensures) (sym c.unpack_cell_link.ensures.value ∙ c.in-Some.is) c.loop-cell.invariant.lists.follows (c.load_cell_link-link.ensures c.loop-cell.invariant.activity c.loop-cell.local c.loop-cell.invariant.loads) (c.load_key-word.ensures (record c.loop-cell.local { remembered = c.forget.new.self })) _ _ _ _ c.past-cursor.ensures c.unpack_key-key.ensures.value c.first_key-first.ensures c.loop-cell.invariant.lists.call c.if-key-first.true)

pub gather_cell-cursor-requires : goal.gather_cell-cursor-requires
gather_cell-cursor-requires c = (cell_within c.loop-cell.local (record c.loop-cell.local { remembered = c.forget.new.self }) c.loop-cell.cursor c.reach-there.result c.loop-cell.invariant.activity c.loop-cell.invariant.loads _ c.reach-there.ensures (ap (λ (marks : List Mark). record c.loop-cell.local { remembered = marks }) c.forget.ensures) (sym c.unpack_cell_link.ensures.value ∙ c.in-Some.is) c.loop-cell.invariant.lists.follows (c.load_cell_link-link.ensures c.loop-cell.invariant.activity c.loop-cell.local c.loop-cell.invariant.loads) (c.load_key-word.ensures (record c.loop-cell.local { remembered = c.forget.new.self })) _ _ _ _ _ c.with_key-ranged.ensures c.unpack_key-key.ensures.value c.first_key-first.ensures c.last_key-last.ensures c.loop-cell.invariant.lists.call c.if-key-first.false c.if-key-last.true).follows

pub loop-cell-smaller : goal.loop-cell-smaller
loop-cell-smaller c =
    let within = cell_within c.loop-cell.local (record c.loop-cell.local { remembered = c.forget.new.self }) c.loop-cell.cursor c.reach-there.result c.loop-cell.invariant.activity c.loop-cell.invariant.loads _ c.reach-there.ensures (ap (λ (marks : List Mark). record c.loop-cell.local { remembered = marks }) c.forget.ensures) (sym c.unpack_cell_link.ensures.value ∙ c.in-Some.is) c.loop-cell.invariant.lists.follows (c.load_cell_link-link.ensures c.loop-cell.invariant.activity c.loop-cell.local c.loop-cell.invariant.loads) (c.load_key-word.ensures (record c.loop-cell.local { remembered = c.forget.new.self })) _ _ _ _ _ c.with_key-ranged.ensures c.unpack_key-key.ensures.value c.first_key-first.ensures c.last_key-last.ensures c.loop-cell.invariant.lists.call c.if-key-first.false c.if-key-last.true in
    along_fewer c.gather_cell-cursor.new.local c.loop-cell.invariant (reads_trans _ _ _ _ _ _ _ refl within c.gather_cell-cursor.ensures)

pub loop-cell-preserved : goal.loop-cell-preserved
loop-cell-preserved c =
    let within = cell_within c.loop-cell.local (record c.loop-cell.local { remembered = c.forget.new.self }) c.loop-cell.cursor c.reach-there.result c.loop-cell.invariant.activity c.loop-cell.invariant.loads _ c.reach-there.ensures (ap (λ (marks : List Mark). record c.loop-cell.local { remembered = marks }) c.forget.ensures) (sym c.unpack_cell_link.ensures.value ∙ c.in-Some.is) c.loop-cell.invariant.lists.follows (c.load_cell_link-link.ensures c.loop-cell.invariant.activity c.loop-cell.local c.loop-cell.invariant.loads) (c.load_key-word.ensures (record c.loop-cell.local { remembered = c.forget.new.self })) _ _ _ _ _ c.with_key-ranged.ensures c.unpack_key-key.ensures.value c.first_key-first.ensures c.last_key-last.ensures c.loop-cell.invariant.lists.call c.if-key-first.false c.if-key-last.true in
    along_on c.gather_cell-cursor.new.local c.loop-cell.invariant (reads_trans _ _ _ _ _ _ _ refl within c.gather_cell-cursor.ensures)

pub returns-else-key-last-clause-reads : goal.returns-else-key-last-clause-reads
returns-else-key-last-clause-reads c = lists_to c.loop-cell.invariant.lists (cell_above c.loop-cell.local (record c.loop-cell.local { remembered = c.forget.new.self }) c.loop-cell.cursor c.reach-there.result c.loop-cell.invariant.activity c.loop-cell.invariant.loads _ c.reach-there.ensures (ap (λ (marks : List Mark). record c.loop-cell.local { remembered = marks }) c.forget.ensures) (sym c.unpack_cell_link.ensures.value ∙ c.in-Some.is) c.loop-cell.invariant.lists.follows (c.load_cell_link-link.ensures c.loop-cell.invariant.activity c.loop-cell.local c.loop-cell.invariant.loads) (c.load_key-word.ensures (record c.loop-cell.local { remembered = c.forget.new.self })) _ _ _ _ _ _ c.write-else-key-last.ensures c.unpack_key-key.ensures.value c.first_key-first.ensures c.last_key-last.ensures c.loop-cell.invariant.lists.call c.if-key-first.false c.if-key-last.false c.go_to_left_over-else-key-last.ensures)

pub returns-else-key-last-clause-over : goal.returns-else-key-last-clause-over
returns-else-key-last-clause-over c = listing_over _ _ c.go_to_left_over-else-key-last.ensures

pub begin_list-cursor-requires : goal.begin_list-cursor-requires
begin_list-cursor-requires c = (c.args.local.now, begins_here c.args.local.now c.requires.follows c.requires.activity c.of.ensures refl c.first_key-first.ensures)

pub loop-cell-init : goal.loop-cell-init
loop-cell-init c = begins_along c.requires.follows c.requires.activity c.of.ensures (c.begin_list-cursor.ensures c.args.local.now (begins_here c.args.local.now c.requires.follows c.requires.activity c.of.ensures refl c.first_key-first.ensures))
