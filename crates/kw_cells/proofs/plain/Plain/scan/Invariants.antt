-- The pairs pushed so far, and those that the places left show, are those of the range; each place
-- is that of an entry.
use Rattle.std.proofs.Common.{◌≡◌, ◌++◌}
use Rattle.kw_cells.proofs.Scans.{shown_by, ArePlaces}
use Rattle.kw_cells.proofs.plain.Plain.scan.Given as goal

abbrev pub invariant-loop-key : goal.invariant-loop-key
invariant-loop-key l = (l.pairs ++ shown_by l.fn.self l.key-iterator ≡ shown_by l.fn.self l.initial.key-iterator) × ArePlaces l.fn.self l.key-iterator
