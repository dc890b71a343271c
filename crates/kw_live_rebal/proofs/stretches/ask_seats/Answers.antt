use Rattle.std.proofs.Common.{rules, ◌∙◌, refl, sym}
use Rattle.kw_follow.proofs.Advancing.{advances_none}
use Rattle.kw_follow.proofs.Reaching.{advances_on, advances_trans}
use Rattle.kw_live_rebal.proofs.Building.{asked_goes_on, asked_tidies}
use Rattle.kw_live_rebal.proofs.stretches.ask_seats.Goals as goal

pub loop-init : goal.loop-init
loop-init g c = record {
  can_next = search rules;
  is_finite = search rules;
  on = advances_none c.requires;
  tidies = refl;
  goes_on = λ o u. u;
}

pub loop-preserved : goal.loop-preserved
loop-preserved g c =
    let asks = sym c.asks_seat.ensures ∙ c.if-not-asks_seat.false in
    record {
      can_next = search rules;
      is_finite = search rules;
      on = advances_trans c.loop.invariant.on (advances_on c.go_ask.ensures refl);
      tidies = asked_tidies asks c.go_ask.ensures ∙ c.loop.invariant.tidies;
      goes_on = asked_goes_on asks c.go_ask.ensures c.loop.invariant.goes_on;
    }
