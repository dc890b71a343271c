-- Each seat has a new pass and a new listener, and none has a link out.
use Rattle.std.proofs.Common.{◌∙◌, sym, arith}
use Rattle.kw_map.specs.Kiwi.{IsIdle}
use Rattle.kiwid.specs.declared.serving.Seat.{Seat}
use Rattle.kiwid.specs.Links.{IsNew}
use Rattle.kiwid.proofs.Runs.{all_of_map, if_served}
use Rattle.kiwid.proofs.server.serve_bound.Goals as goal

pub serve-requires-clause-idle : goal.serve-requires-clause-idle
serve-requires-clause-idle g c κs within =
    all_of_map (λ (s : Seat g.row.L.Denot). s.pass) (IsIdle c.in_ok-kiwi.kiwi) c.in_ok-seats.seats.items c.in_ok-kiwi.passes.items c.in_ok-seats.ensures.passes c.in_ok-kiwi.ensures.idle

pub serve-requires-clause-none_out : goal.serve-requires-clause-none_out
serve-requires-clause-none_out g c κs within = λ i d lt.
    (all_of_map (λ (s : Seat g.row.L.Denot). s.listener) (λ (l : g.row.L.Denot). IsNew (g.L.Listener.state l)) c.in_ok-seats.seats.items c.args.bound.items c.in_ok-seats.ensures.listeners c.requires.new i d lt).out

pub returns : goal.returns
returns g c =
    if_served {L = g.row.L.Denot} g.L.Listener.state c.in_ok-kiwi.kiwi c.args.seats c.args.sessions c.in_ok-kiwi.passes.items c.args.bound.items c.in_ok-seats.seats.items
    c.in_ok-kiwi.ensures.opening (sym c.in_ok-kiwi.passes.ok.0 ∙ c.in_ok-kiwi.ensures.len) (λ j p lt. c.in_ok-kiwi.ensures.each j p (omega (arith, c.in_ok-kiwi.passes.ok.0)))
    c.requires.new c.in_ok-seats.ensures.passes c.in_ok-seats.ensures.listeners
    c.serve.result (λ v. v.items) (λ v. v.len) (λ v. v.ok.0) c.in_ok-seats.seats.len c.in_ok-seats.seats.ok.0 c.serve.ensures.len c.serve.ensures.each c.serve.ensures.met
