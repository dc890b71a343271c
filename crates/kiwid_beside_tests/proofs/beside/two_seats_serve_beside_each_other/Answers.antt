use Rattle.std.proofs.Common.{◌≡◌, ◌∷◌, [], All, sym, subst}
use Rattle.std.proofs.lemmas.List.Elements.{All-from_recursion}
use Rattle.kw_map.specs.Kiwi.{IsIdle}
use Rattle.kiwid.specs.declared.links.MemListener.{MemListener}
use Rattle.kiwid.specs.declared.serving.Seat.{Seat}
use Rattle.kiwid.proofs.Runs.{all_of_map}
use Rattle.kiwid_beside_tests.specs.declared.ends.Held.{Held}
use Rattle.kiwid_beside_tests.specs.declared.ends.Telling.{Telling}
use Rattle.kiwid_beside_tests.proofs.beside.two_seats_serve_beside_each_other.Goals as goal

pub serve-requires-clause-idle : goal.serve-requires-clause-idle
serve-requires-clause-idle g c κs within =
    all_of_map (λ (s : Seat (MemListener Held Telling)). s.pass) (IsIdle c.in_ok-kiwi.kiwi) c.in_ok-seats.seats.items c.in_ok-kiwi.passes.items c.in_ok-seats.ensures.passes c.in_ok-kiwi.ensures.idle

pub serve-requires-clause-none_out : goal.serve-requires-clause-none_out
serve-requires-clause-none_out g c κs within =
    let unused = λ (l : MemListener Held Telling). l.out ≡ 0 in
    all_of_map (λ (s : Seat (MemListener Held Telling)). s.listener) unused c.in_ok-seats.seats.items c.in_ok-from_array.field-0.items c.in_ok-seats.ensures.listeners
    (subst (All unused) (sym c.in_ok-from_array.ensures.items) (All-from_recursion unused (c.in_ok-one.one ∷ c.in_ok-other.other ∷ []) (c.in_ok-one.ensures, (c.in_ok-other.ensures, tt))))
