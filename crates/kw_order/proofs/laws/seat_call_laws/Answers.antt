use Rattle.kw_order.proofs.SeatOrders.{name_of, one_turn, seen_turn, turn_of, turn_apart, placed_within, all_placed, turns_kept}
use Rattle.kw_order.proofs.laws.seat_call_laws.Goals as goal

pub returns : goal.returns
returns c = record {
  names = λ z o es s k d e. let n = name_of z o es s k d e in (n.place, n.turn, n.is);
  one = one_turn;
  shown = seen_turn;
  each = λ z o es x opening ok l. turn_of z o es opening ok x l;
  apart = turn_apart;
  within = λ h xs i x order e. placed_within h x (order.placed i x e);
  every = λ z o es xs x opening ok ended order l. order.every x (all_placed z o es opening ok ended x l);
  turns = λ z o es xs s j k x y a b opening ok order inside l. turns_kept z o es opening ok xs order s j k x y a b inside l;
}
