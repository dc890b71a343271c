use Rattle.std.proofs.Common.{ℕ, refl, sym, ◌∙◌, ap, subst, ◌≤◌, length}
use Rattle.kw_words.specs.declared.sizes.TheConstants.{CELLS}
use Rattle.kw_cells.specs.declared.limits.TheConstants.{MOST_GATHERED, MOST_NEEDED}
use Rattle.kw_world.specs.declared.activity.rebalance.gather.Gather.TheVariants as Gather
use Rattle.kw_world.specs.declared.local.Local.{Local}
use Rattle.kw_world.specs.ListTransitions.{link_name}
use Rattle.kw_follow.specs.BuildsOn.{taking_at}
use Rattle.kw_follow.proofs.BuildEvents.{asks_taken_link}
use Rattle.kw_follow.proofs.RowGathering.{has_place, link_reached, list_left, list_over, past_list_ends}
use Rattle.kw_follow.proofs.row_gathering.reach_next.Goals as goal

pub load_after-link-requires : goal.load_after-link-requires
load_after-link-requires c = asks_taken_link _ _ (taking_at Gather.Link c.args.cursor c.args.local.now) _ c.requires.follows refl (c.link_name-name.ensures ∙ ap (λ (r : ℕ). link_name r c.args.cursor.link) c.requires.hand.row)

pub reach-requires-clause-walked : goal.reach-requires-clause-walked
reach-requires-clause-walked c = (has_place c.args.local.now c.args.cursor c.requires.follows).walked

pub reach-requires-clause-hand : goal.reach-requires-clause-hand
reach-requires-clause-hand c = c.requires.hand

pub returns-in-Some-clause-hand : goal.returns-in-Some-clause-hand
returns-in-Some-clause-hand c = c.reach.ensures.hand

pub returns-in-Some-clause-saw : goal.returns-in-Some-clause-saw
returns-in-Some-clause-saw c = link_reached c.args.local.now c.args.cursor c.reach.result c.reach.new.local c.in-Some.cell c.reach.ensures.cursor c.reach.ensures.local (sym c.unpack_cell_link.ensures.value ∙ c.in-Some.is) c.requires.follows c.load_after-link.ensures

pub returns-in-Some-clause-tidies : goal.returns-in-Some-clause-tidies
returns-in-Some-clause-tidies c = ap (λ (l : Local). l.tidies) c.reach.ensures.local

pub take_from-requires-clause-walked : goal.take_from-requires-clause-walked
take_from-requires-clause-walked c = subst (λ (l : Local). l.walked ≤ CELLS) (sym c.write.ensures) (has_place c.args.local.now c.args.cursor c.requires.follows).walked

pub take_from-requires-clause-gathered : goal.take_from-requires-clause-gathered
take_from-requires-clause-gathered c = subst (λ (l : Local). length l.rebalance.gathered ≤ MOST_GATHERED) (sym c.write.ensures) (has_place c.args.local.now c.args.cursor c.requires.follows).gathered

pub take_from-requires-clause-needed : goal.take_from-requires-clause-needed
take_from-requires-clause-needed c = subst (λ (l : Local). length l.rebalance.needed ≤ MOST_NEEDED) (sym c.write.ensures) (has_place c.args.local.now c.args.cursor c.requires.follows).needed

pub returns-in-None-clause-over : goal.returns-in-None-clause-over
returns-in-None-clause-over c = list_over c.args.local.now c.args.cursor c.write.new.local c.take_from.new.local c.take_from.result c.write.ensures c.take_from.ensures c.requires.follows c.load_after-link.ensures

pub returns-in-None-clause-left : goal.returns-in-None-clause-left
returns-in-None-clause-left c = list_left c.args.local.now c.args.cursor c.write.new.local c.take_from.new.local c.take_from.result _ (sym c.unpack_cell_link.ensures.value ∙ c.in-None.is) c.take_from.ensures c.write.ensures

pub returns-in-None-clause-tidies : goal.returns-in-None-clause-tidies
returns-in-None-clause-tidies c =
    let left = list_left c.args.local.now c.args.cursor c.write.new.local c.take_from.new.local c.take_from.result _ (sym c.unpack_cell_link.ensures.value ∙ c.in-None.is) c.take_from.ensures c.write.ensures in
    ap (λ (l : Local). l.tidies) left ∙ (past_list_ends c.args.cursor c.args.local.now).tidies
