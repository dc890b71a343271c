-- The events of the get that finds the put, as they stand in the example.
use Rattle.kw_core.specs.History.{attempt, called}
use Rattle.kw_order_tests.proofs.points.get_put.Goals as goal

pub returns : goal.returns
unfolding attempt called
returns c = rw (c.in_ok-note-2.ensures, c.in_ok-note.ensures, c.requires)
