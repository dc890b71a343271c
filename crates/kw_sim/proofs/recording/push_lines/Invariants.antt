-- The lines so far are there.
use Rattle.std.proofs.Common.{◌≡◌, ◌++◌, take}
use Rattle.kw_sim.specs.Sections.{lines_at}
use Rattle.kw_sim.proofs.recording.push_lines.Given as goal

abbrev pub invariant-loop-place : goal.invariant-loop-place
invariant-loop-place l = l.out.items ≡ l.fn.out.items ++ lines_at l.history (take l.place-index l.places)
