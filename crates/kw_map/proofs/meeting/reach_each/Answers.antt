use Rattle.std.proofs.Common.{rules, ◌<◌, sym, ◌∙◌, arith, le_refl, length}
use Rattle.std.proofs.lemmas.List.{get_or_read}
use Rattle.kw_map.specs.Meetings.{Reaches}
use Rattle.kw_map.proofs.Meetings.{meets_trans, reached_more}
use Rattle.kw_map.proofs.meeting.reach_each.Goals as goal

pub loop-pass-preserved : goal.loop-pass-preserved
loop-pass-preserved c =
    let inv = c.loop-pass.invariant in
    let inside : c.loop-pass.pass-index < length c.loop-pass.others = omega arith in
    let here : Reaches c.args.shared.now c.reach.new.to c.pass-item.result c.reach.new.from = record {
      of_table = c.reach.ensures.from.0;
      meets = search rules;
      seen = c.reach.ensures.seen;
    } in record {
      front = (c.reach.ensures.to.0, meets_trans _ _ _ inv.front.1 c.reach.ensures.to.1);
      done = reached_more _ _ _ _ _ _ _ _ inside inv.done c.reach.ensures.to.1.seen
          (λ d. sym (inv.rest c.loop-pass.pass-index d (le_refl _)) ∙ sym (get_or_read _ _ _ inside c.pass-item.is d)) here;
      rest = search rules;
    }
