use Rattle.std.proofs.Common.{rules, ◌∙◌, refl, subst, sym}
use Rattle.kw_world.specs.declared.local.Local.{Local}
use Rattle.kw_follow.specs.BuildsOn.{IsBuildingOn}
use Rattle.kw_follow.proofs.RowGathering.{begins_gathering, past_list_ends}
use Rattle.kw_follow.proofs.Advancing.{advances_none}
use Rattle.kw_follow.proofs.Reaching.{advances_trans}
use Rattle.kw_live_rebal.proofs.Building.{stretch_goes_on}
use Rattle.kw_live_rebal.proofs.stretches.gather_row.Goals as goal

pub loop-init : goal.loop-init
loop-init g c = record {
  can_next = search rules;
  is_finite = search rules;
  on = advances_none (begins_gathering _ _ c.of-cursor.ensures c.requires.activity c.requires.follows);
  hand = c.of-hand.ensures;
  tidies = refl;
}

pub reach_next-requires-clause-hand : goal.reach_next-requires-clause-hand
reach_next-requires-clause-hand g c = c.loop.invariant.hand

pub reach_next-requires-clause-follows : goal.reach_next-requires-clause-follows
reach_next-requires-clause-follows g c = c.loop.invariant.on.follows

pub gather_cell-cursor-requires-clause-hand : goal.gather_cell-cursor-requires-clause-hand
gather_cell-cursor-requires-clause-hand g c = c.in-Some-reach_next.ensures.hand

pub gather_cell-cursor-requires-clause-follows : goal.gather_cell-cursor-requires-clause-follows
gather_cell-cursor-requires-clause-follows g c = c.in-Some-reach_next.ensures.saw.follows

pub loop-preserved : goal.loop-preserved
loop-preserved g c = record {
  can_next = search rules;
  is_finite = search rules;
  on = advances_trans c.loop.invariant.on (advances_trans c.in-Some-reach_next.ensures.saw c.gather_cell-cursor.ensures.on);
  hand = c.gather_cell-cursor.ensures.hand;
  tidies = c.gather_cell-cursor.ensures.tidies ∙ (c.in-Some-reach_next.ensures.tidies ∙ c.loop.invariant.tidies);
}

pub returns-in_default-clause-on : goal.returns-in_default-clause-on
returns-in_default-clause-on g c = advances_trans c.loop.invariant.on c.in_default.ensures.over

pub returns-in_default-clause-tidies : goal.returns-in_default-clause-tidies
returns-in_default-clause-tidies g c = c.in_default.ensures.tidies ∙ c.loop.invariant.tidies

pub returns-in_default-clause-goes_on : goal.returns-in_default-clause-goes_on
returns-in_default-clause-goes_on g c = stretch_goes_on (advances_trans c.loop.invariant.on c.in_default.ensures.over) (subst (λ (l : Local). IsBuildingOn l.activity) (sym c.in_default.ensures.left) (past_list_ends c.loop.cursor c.loop.local).stands)

pub returns-in_default-clause-left : goal.returns-in_default-clause-left
returns-in_default-clause-left g c = record { cursor = c.loop.cursor; before = c.loop.local; left = c.in_default.ensures.left }
