use Rattle.std.proofs.Common.{◌∙◌, refl, sym}
use Rattle.kw_live.proofs.WalkStages.{arrives_before, arrives_last, begins_going_by, going_by_led, going_by_on, going_by_taken}
use Rattle.kw_live.proofs.walking.go_by_rows.Goals as goal

pub loop-row-init : goal.loop-row-init
loop-row-init c = begins_going_by _ _ c.args.local.now c.requires.follows c.requires.forgets c.requires.activity

pub load_row_link-link-requires : goal.load_row_link-link-requires
load_row_link-link-requires c = (record c.loop-row.local { gathered = c.loop-row.invariant.cells }, c.loop-row.invariant.on.follows, refl)

pub returns-in_default-clause-walks : goal.returns-in_default-clause-walks
returns-in_default-clause-walks c = (arrives_last c.loop-row.local c.loop-row.invariant c.load_row_link-link.ensures _ _ (sym c.linked.ensures ∙ c.in_default.is) c.see_row_link.ensures).walks

pub returns-in_default-clause-arrived : goal.returns-in_default-clause-arrived
returns-in_default-clause-arrived c = (arrives_last c.loop-row.local c.loop-row.invariant c.load_row_link-link.ensures _ _ (sym c.linked.ensures ∙ c.in_default.is) c.see_row_link.ensures).arrived

pub load_row_least-least-requires : goal.load_row_least-least-requires
load_row_least-least-requires c = (record c.loop-row.local { gathered = c.loop-row.invariant.cells; candidate = c.in-Some.row }, (going_by_led c.loop-row.local c.loop-row.invariant c.load_row_link-link.ensures c.in-Some.row (sym c.linked.ensures ∙ c.in-Some.is)).follows, refl)

pub loop-row-smaller : goal.loop-row-smaller
loop-row-smaller c = (going_by_taken c.loop-row.local c.loop-row.invariant c.in-Some.row (sym c.linked.ensures ∙ c.in-Some.is) c.load_row_link-link.ensures c.load_row_least-least.ensures _ _ c.unpack_key-key.ensures.value c.unpack_built-local.ensures c.if-key-local.true).fewer

pub loop-row-preserved : goal.loop-row-preserved
loop-row-preserved c = going_by_on c.loop-row.local c.loop-row.invariant c.in-Some.row (sym c.linked.ensures ∙ c.in-Some.is) c.load_row_link-link.ensures c.load_row_least-least.ensures _ _ c.unpack_key-key.ensures.value c.unpack_built-local.ensures c.if-key-local.true

pub returns-else-key-local-clause-walks : goal.returns-else-key-local-clause-walks
returns-else-key-local-clause-walks c = (arrives_before c.loop-row.local c.loop-row.invariant c.in-Some.row (sym c.linked.ensures ∙ c.in-Some.is) c.load_row_link-link.ensures c.load_row_least-least.ensures _ c.unpack_key-key.ensures.value c.if-key-local.false _ _ c.see_row_least.ensures).walks

pub returns-else-key-local-clause-arrived : goal.returns-else-key-local-clause-arrived
returns-else-key-local-clause-arrived c = (arrives_before c.loop-row.local c.loop-row.invariant c.in-Some.row (sym c.linked.ensures ∙ c.in-Some.is) c.load_row_link-link.ensures c.load_row_least-least.ensures _ c.unpack_key-key.ensures.value c.if-key-local.false _ _ c.see_row_least.ensures).arrived
