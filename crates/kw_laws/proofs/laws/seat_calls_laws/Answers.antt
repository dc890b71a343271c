use Rattle.kw_laws.proofs.SeatCalls.{calls-none, calls_still, calls-own, calls_in_turn, calls_apart, calls_last}
use Rattle.kw_laws.proofs.laws.seat_calls_laws.Goals as goal

pub returns : goal.returns
returns c = record { none = calls-none; still = calls_still; own = calls-own; turns = calls_in_turn; apart = calls_apart; lasts = calls_last }
