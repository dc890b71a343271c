use Rattle.std.proofs.Common.{◌≤◌, ap, sym, ◌∙◌, subst}
use Rattle.kw_words.specs.declared.sizes.TheConstants.{CELLS}
use Rattle.kw_world.specs.declared.local.Local.{Local}
use Rattle.kw_follow.proofs.OneEvent.{follows_ranges}
use Rattle.kw_live.proofs.InsertStages.{begins_inserting, cell_left, cell_gone_by, inserts_along, inserts_along_fewer, inserts_to, link_left, link_reached, put_counts}
use Rattle.kw_live.proofs.inserting.go_by_lesser.Goals as goal

pub see_insert_link-requires : goal.see_insert_link-requires
see_insert_link-requires c = subst (λ (k : Local). k.walked ≤ CELLS) (sym c.write.ensures) (follows_ranges _ _ _ c.loop-cell.invariant.inserts.follows).walked

pub returns-in_default : goal.returns-in_default
returns-in_default c = inserts_to c.loop-cell.invariant.inserts (link_left c.loop-cell.local c.loop-cell.cursor c.loop-cell.invariant.activity c.loop-cell.invariant.loads _ _ _ c.write.ensures c.see_insert_link.ensures c.loop-cell.invariant.inserts.follows c.load_insert_link-link.ensures)

pub load_insert_link-link-requires : goal.load_insert_link-link-requires
load_insert_link-link-requires c = (c.loop-cell.invariant.activity, c.loop-cell.local, c.loop-cell.invariant.loads, c.loop-cell.invariant.inserts.follows)

pub reach_holding-there-requires : goal.reach_holding-there-requires
reach_holding-there-requires c = put_counts _ _ c.loop-cell.local c.loop-cell.cursor c.loop-cell.invariant.activity c.loop-cell.invariant.loads c.loop-cell.invariant.inserts.follows

pub load_insert_key-word-requires : goal.load_insert_key-word-requires
load_insert_key-word-requires c = (c.reach_holding-there.new.local, (link_reached c.loop-cell.local c.loop-cell.cursor c.loop-cell.invariant.activity c.loop-cell.invariant.loads _ _ _ c.reach_holding-there.ensures.cursor c.reach_holding-there.ensures.local (sym c.unpack_cell_link.ensures.value ∙ c.in-Some.is) c.loop-cell.invariant.inserts.follows c.load_insert_link-link.ensures).follows)

pub loop-cell-smaller : goal.loop-cell-smaller
loop-cell-smaller c = inserts_along_fewer c.reach_holding-there.new.local c.loop-cell.invariant (cell_gone_by c.loop-cell.local c.reach_holding-there.new.local c.loop-cell.cursor c.reach_holding-there.result c.loop-cell.invariant.activity c.loop-cell.invariant.loads _ c.reach_holding-there.ensures.cursor c.reach_holding-there.ensures.local (sym c.unpack_cell_link.ensures.value ∙ c.in-Some.is) c.loop-cell.invariant.inserts.follows c.load_insert_link-link.ensures c.load_insert_key-word.ensures _ _ _ _ c.past-cursor.ensures c.unpack_key.ensures.value c.first_key-own.ensures c.loop-cell.invariant.inserts.call c.if-unpack_key-own.true)

pub loop-cell-preserved : goal.loop-cell-preserved
loop-cell-preserved c = inserts_along c.reach_holding-there.new.local c.loop-cell.invariant (cell_gone_by c.loop-cell.local c.reach_holding-there.new.local c.loop-cell.cursor c.reach_holding-there.result c.loop-cell.invariant.activity c.loop-cell.invariant.loads _ c.reach_holding-there.ensures.cursor c.reach_holding-there.ensures.local (sym c.unpack_cell_link.ensures.value ∙ c.in-Some.is) c.loop-cell.invariant.inserts.follows c.load_insert_link-link.ensures c.load_insert_key-word.ensures _ _ _ _ c.past-cursor.ensures c.unpack_key.ensures.value c.first_key-own.ensures c.loop-cell.invariant.inserts.call c.if-unpack_key-own.true) (ap (λ (k : Local). k.call) c.reach_holding-there.ensures.local)

pub returns-else-unpack_key-own : goal.returns-else-unpack_key-own
returns-else-unpack_key-own c = inserts_to c.loop-cell.invariant.inserts (cell_left c.loop-cell.local c.reach_holding-there.new.local c.loop-cell.cursor c.reach_holding-there.result c.loop-cell.invariant.activity c.loop-cell.invariant.loads _ c.reach_holding-there.ensures.cursor c.reach_holding-there.ensures.local (sym c.unpack_cell_link.ensures.value ∙ c.in-Some.is) c.loop-cell.invariant.inserts.follows c.load_insert_link-link.ensures c.load_insert_key-word.ensures _ _ _ c.write-else-unpack_key-own.ensures c.see_insert_key.ensures)

pub begin_own-cursor-requires-clause-follows : goal.begin_own-cursor-requires-clause-follows
begin_own-cursor-requires-clause-follows c = c.requires.follows

pub begin_own-cursor-requires-clause-activity : goal.begin_own-cursor-requires-clause-activity
begin_own-cursor-requires-clause-activity c = c.requires.activity

pub loop-cell-init : goal.loop-cell-init
loop-cell-init c = begins_inserting c.requires.activity c.begin_own-cursor.ensures
