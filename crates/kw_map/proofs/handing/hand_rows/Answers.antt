use Rattle.std.proofs.Common.{◌≡◌, ◌≤◌, Some, false, true, refl, sym, ap, ◌∙◌, subst, arith}
use Rattle.kw_follow.proofs.OwnEvents.{goes_trans}
use Rattle.kw_table.proofs.Prefixes.{prefix_self}
use Rattle.kw_model.specs.declared.call.Call.TheVariants as Call
use Rattle.kw_world.specs.Calls.{first_key, last_key}
use Rattle.kw_live.specs.Reading.{is_looking}
use Rattle.kw_map.specs.Gather.{IsBelow}
use Rattle.kw_map.proofs.ReadRows.{hands_behind, hands_nothing, hands_still, unless_err}
use Rattle.kw_map.proofs.handing.hand_rows.Goals as goal

pub loop-local-init : goal.loop-local-init
loop-local-init g c = record {
  goes = record { of_table = c.requires.follows.of_table; number = refl; opening = refl; seen = prefix_self _ };
  follows = c.requires.follows;
  stage = c.requires.stage;
  hands = hands_nothing _ c.args.pass.now c.args.local.now c.args.into.now c.requires.above;
}

pub look_at_row-requires-clause-follows : goal.look_at_row-requires-clause-follows
look_at_row-requires-clause-follows g c = c.loop-local.invariant.follows

pub look_at_row-requires-clause-stage : goal.look_at_row-requires-clause-stage
look_at_row-requires-clause-stage g c = λ not.
    let x : true ≡ false = sym (ap is_looking c.loop-local.invariant.stage) ∙ not in
    absurd (cc)

pub returns-then-is_err-clause-goes : goal.returns-then-is_err-clause-goes
returns-then-is_err-clause-goes g c = goes_trans _ _ _ _ c.loop-local.invariant.goes c.look_at_row.ensures.on.goes

pub returns-then-is_err-clause-hands : goal.returns-then-is_err-clause-hands
returns-then-is_err-clause-hands g c =
    let i = c.loop-local.invariant in
    let r = c.look_at_row.ensures in
    hands_still _ _ _ _ _ _ _ _ _ _ i.hands r.on.calls r.on.held r.looks

pub leads_on-requires : goal.leads_on-requires
leads_on-requires g c =
    let scan = c.look_at_row.ensures.looks.call ∙ c.loop-local.invariant.hands.call ∙ c.requires.scan.1 in
    scan ∙ ap (λ first. Some (Call.Scan first c.args.upto)) (sym (c.first_key-first.ensures ∙ ap first_key c.requires.scan.1))

pub hand_row-ended-requires-clause-above : goal.hand_row-ended-requires-clause-above
hand_row-ended-requires-clause-above g c =
    subst (IsBelow (g.G.Gather.last c.loop-local.into)) (sym c.look_at_row.ensures.looks.want)
    (unless_err c.loop-local.ended (sym c.is_err.ensures.value ∙ c.if-is_err.false) c.loop-local.invariant.hands.below)

pub loop-local-smaller : goal.loop-local-smaller
loop-local-smaller g c =
    let scan = c.look_at_row.ensures.looks.call ∙ c.loop-local.invariant.hands.call ∙ c.requires.scan.1 in
    let within = subst (λ call. c.hand_row-ended.new.local.want ≤ last_key call) scan c.hand_row-ended.ensures.within in
    omega (arith, c.look_at_row.ensures.looks.want, c.hand_row-ended.ensures.rises, within)

pub loop-local-preserved : goal.loop-local-preserved
loop-local-preserved g c =
    let i = c.loop-local.invariant in
    let r = c.look_at_row.ensures in
    let h = c.hand_row-ended.ensures in
    record {
      goes = goes_trans _ _ _ _ i.goes (goes_trans _ _ _ _ r.on.goes h.goes);
      follows = h.follows;
      stage = h.activity;
      hands = hands_behind _ _ _ _ _ _ _ _ _ _ _ _ (sym c.is_err.ensures.value ∙ c.if-is_err.false) (hands_still _ _ _ _ _ _ _ _ _ _ i.hands r.on.calls r.on.held r.looks) h.hands;
    }
