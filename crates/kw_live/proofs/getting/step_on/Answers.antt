use Rattle.std.proofs.Common.{refl, sym, ◌∙◌}
use Rattle.kw_world.specs.declared.activity.Activity.TheVariants as Activity
use Rattle.kw_world.specs.declared.activity.walk.Walk.TheVariants as Walk
use Rattle.kw_follow.specs.Ways.{on_way}
use Rattle.kw_follow.proofs.Reaching.{reaches_trans}
use Rattle.kw_live.proofs.Gets.{links_none, links_row, next_above, next_below}
use Rattle.kw_live.proofs.getting.step_on.Goals as goal

pub load_row_link-requires : goal.load_row_link-requires
load_row_link-requires c = (on_way (Activity.Walk Walk.Next) c.args.way, c.requires, refl)

pub returns-in_default-clause-gets : goal.returns-in_default-clause-gets
returns-in_default-clause-gets c = links_none c.args.way (sym c.linked.ensures ∙ c.in_default.is) c.requires c.load_row_link.ensures

pub load_row_least-word-requires : goal.load_row_least-word-requires
load_row_least-word-requires c =
    let led = links_row c.args.way c.in-Some.row (sym c.linked.ensures ∙ c.in-Some.is) c.requires c.load_row_link.ensures in
    (on_way (Activity.Walk Walk.NextLeast) (record c.args.way { candidate = c.in-Some.row }), led.follows, refl)

pub returns-then-least-way-clause-gets : goal.returns-then-least-way-clause-gets
returns-then-least-way-clause-gets c =
    let led = links_row c.args.way c.in-Some.row (sym c.linked.ensures ∙ c.in-Some.is) c.requires c.load_row_link.ensures in
    reaches_trans led (next_below (record c.args.way { candidate = c.in-Some.row }) _ _ c.unpack_key-least.ensures.value c.unpack_built.ensures c.if-least-way.true led.follows c.load_row_least-word.ensures)

pub returns-clause-gets : goal.returns-clause-gets
returns-clause-gets c =
    let led = links_row c.args.way c.in-Some.row (sym c.linked.ensures ∙ c.in-Some.is) c.requires c.load_row_link.ensures in
    reaches_trans led (next_above (record c.args.way { candidate = c.in-Some.row }) _ c.unpack_key-least.ensures.value c.if-least-way.false led.follows c.load_row_least-word.ensures)
