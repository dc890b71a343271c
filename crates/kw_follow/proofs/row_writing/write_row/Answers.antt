use Rattle.std.proofs.Common.{ap, sym, subst}
use Rattle.kw_world.specs.declared.activity.Activity.{Activity}
use Rattle.kw_world.specs.declared.activity.rebalance.write.Write.TheVariants as Write
use Rattle.kw_world.specs.Transition.{Outcome}
use Rattle.kw_follow.specs.Following.{Follows}
use Rattle.kw_follow.proofs.BuildEvents.{kept_rises}
use Rattle.kw_follow.proofs.OneEvent.{follows_ranges}
use Rattle.kw_follow.proofs.row_writing.write_row.Goals as goal
use Rattle.kw_follow.proofs.Advancing.{advances_as}
use Rattle.kw_follow.proofs.Reaching.{advances_trans}

pub write_head-requires-clause-ranges : goal.write_head-requires-clause-ranges
write_head-requires-clause-ranges c = follows_ranges _ _ _ c.requires.follows

pub write_head-requires-clause-follows : goal.write_head-requires-clause-follows
write_head-requires-clause-follows c = subst (λ (a : Activity). Follows c.args.shared.now c.args.pass.now (record c.args.local.now { activity = a })) c.requires.activity c.requires.follows

pub write_entries-requires : goal.write_entries-requires
write_entries-requires c = c.write_head.ensures.follows

pub write_cells-requires-clause-ranges : goal.write_cells-requires-clause-ranges
write_cells-requires-clause-ranges c = follows_ranges _ _ _ c.requires.follows

pub write_cells-requires-clause-rising : goal.write_cells-requires-clause-rising
write_cells-requires-clause-rising c = kept_rises _ _ c.args.local.now c.requires.follows Write.Count c.requires.activity

pub write_cells-requires-clause-follows : goal.write_cells-requires-clause-follows
write_cells-requires-clause-follows c = c.write_entries.ensures.follows

pub write_places_behind-requires-clause-ranges : goal.write_places_behind-requires-clause-ranges
write_places_behind-requires-clause-ranges c = follows_ranges _ _ _ c.requires.follows

pub write_places_behind-requires-clause-follows : goal.write_places_behind-requires-clause-follows
write_places_behind-requires-clause-follows c = c.write_cells.ensures.follows

pub to_write_cell-requires : goal.to_write_cell-requires
to_write_cell-requires c = follows_ranges _ _ _ c.requires.follows

pub returns-clause-on : goal.returns-clause-on
returns-clause-on c = advances_as (sym (ap (λ (x : Outcome). x.local) c.to_write_cell.ensures)) (advances_trans c.write_head.ensures (advances_trans c.write_entries.ensures (advances_trans c.write_cells.ensures c.write_places_behind.ensures)))

pub returns-clause-written : goal.returns-clause-written
returns-clause-written c = ap (λ (x : Outcome). x.local) c.to_write_cell.ensures
