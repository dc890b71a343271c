use Rattle.std.proofs.Common.{sym, ◌∙◌}
use Rattle.kw_follow.proofs.Reaching.{reaches_trans}
use Rattle.kw_live.proofs.Gets.{least_above, least_below, row_refused, row_taken}
use Rattle.kw_live.proofs.getting.try_row.Goals as goal

pub returns-then-not-is_normal-clause-gets : goal.returns-then-not-is_normal-clause-gets
returns-then-not-is_normal-clause-gets c = row_refused c.args.way c.args.row c.requires.in_range c.requires.follows c.load_state-state.ensures (sym c.is_normal.ensures ∙ c.if-not-is_normal.true)

pub load_least-word-requires : goal.load_least-word-requires
load_least-word-requires c = (row_taken c.args.way c.args.row c.requires.in_range c.requires.follows c.load_state-state.ensures (sym c.is_normal.ensures ∙ c.if-not-is_normal.false)).follows

pub returns-then-least-way-clause-gets : goal.returns-then-least-way-clause-gets
returns-then-least-way-clause-gets c =
    let taken = row_taken c.args.way c.args.row c.requires.in_range c.requires.follows c.load_state-state.ensures (sym c.is_normal.ensures ∙ c.if-not-is_normal.false) in
    reaches_trans taken (least_above (record c.args.way { row = c.args.row }) _ c.unpack_key-least.ensures.value c.if-least-way.true taken.follows c.load_least-word.ensures)

pub step_on-requires : goal.step_on-requires
step_on-requires c =
    let taken = row_taken c.args.way c.args.row c.requires.in_range c.requires.follows c.load_state-state.ensures (sym c.is_normal.ensures ∙ c.if-not-is_normal.false) in
    (least_below (record c.args.way { row = c.args.row }) _ _ c.unpack_key-least.ensures.value c.unpack_built.ensures c.if-least-way.false taken.follows c.load_least-word.ensures).follows

pub returns-clause-gets : goal.returns-clause-gets
returns-clause-gets c =
    let taken = row_taken c.args.way c.args.row c.requires.in_range c.requires.follows c.load_state-state.ensures (sym c.is_normal.ensures ∙ c.if-not-is_normal.false) in
    reaches_trans (reaches_trans taken (least_below (record c.args.way { row = c.args.row }) _ _ c.unpack_key-least.ensures.value c.unpack_built.ensures c.if-least-way.false taken.follows c.load_least-word.ensures)) c.step_on.ensures.gets
