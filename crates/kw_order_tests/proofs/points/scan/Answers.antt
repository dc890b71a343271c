-- The events of the scan, as they stand in the example.
use Rattle.kw_core.specs.History.{attempt, called}
use Rattle.kw_order_tests.proofs.points.scan.Goals as goal

pub returns : goal.returns
unfolding attempt called
returns c = rw (c.in_ok-note-3.ensures, c.in_ok-note-2.ensures, c.in_ok-note.ensures, c.in_ok-push.ensures.ok, c.new-pairs.ensures, c.requires)
