-- A pass that stays one of the map, and idle; and why calls of it were refused.
use Rattle.std.proofs.Common.{refl, get_or}
use Rattle.std.proofs.lemmas.Option.{slice_get-get_or}
use Rattle.kw_follow.specs.Calling.{calls_in}
use Rattle.kw_follow.proofs.OwnEvents.{goes_trans}
use Rattle.kw_map.specs.Kiwi.{IsIdle}
use Rattle.kw_map.specs.declared.kiwi.Kiwi.{Kiwi}
use Rattle.kw_map.proofs.Refusals.{seat_caused}
use Rattle.kw_table.proofs.Prefixes.{prefix_self}
use Rattle.kw_table.specs.declared.pass.Pass.{Pass}
use Rattle.kw_table.specs.Passes.{view}
use Rattle.kiwid.specs.Lines.{StaysIdle}
use Rattle.kiwid.specs.Session.{AreCaused}

-- it has done nothing
pub stays_idle : (kiwi : Kiwi) (p : Pass) → IsIdle kiwi p → StaysIdle kiwi p p
stays_idle kiwi p i = record { idle = i; goes = record { of_table = i.of_map; number = refl; opening = refl; seen = prefix_self _ } }

-- it has gone on, and then further
pub stays_trans : (kiwi : Kiwi) (p q r : Pass) → StaysIdle kiwi p q → StaysIdle kiwi q r → StaysIdle kiwi p r
stays_trans kiwi p q r a b = record { idle = b.idle; goes = goes_trans kiwi p q r a.goes b.goes }

-- each call of it that was refused has its cause in what it has seen
pub pass_caused : (q : Pass) → AreCaused (view q).opening (view q).seen q
pass_caused q = λ i d lt. seat_caused (view q).opening (view q).seen q.known.opens q.known.valid (view q).number i (get_or (calls_in q) i d) (slice_get-get_or (calls_in q) i d lt)
