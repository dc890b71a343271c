-- The steps that are left lead to where all steps lead, and so many events at most were made.
use Rattle.std.proofs.Common.{ℕ, ◌≡◌, ◌+◌}
use Rattle.kw_sim.specs.declared.parse.TheConstants.{MOST_STEPS}
use Rattle.kw_sim.specs.Meaning.{until}
use Rattle.kw_sim.proofs.Grows.{Grows}
use Rattle.kw_sim.proofs.simulator.Simulator.sees.Given as goal

abbrev pub invariant-loop-step : goal.invariant-loop-step
invariant-loop-step l = record { leads : (n : ℕ) → n + l._step ≡ MOST_STEPS → until n l.kind l.seat l.self ≡ until MOST_STEPS l.kind l.seat l.initial.self; grows : Grows l._step l.initial.self l.self }
