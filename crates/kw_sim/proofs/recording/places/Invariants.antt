-- The calls so far are gathered.
use Rattle.kw_sim.specs.Sections.{ArePlacesBelow}
use Rattle.kw_sim.proofs.recording.places.Given as goal

abbrev pub invariant-loop-call : goal.invariant-loop-call
invariant-loop-call l = ArePlacesBelow l.history l.section l.call l.places.items
