-- The events of the put, as they stand in the example.
use Rattle.std.proofs.Common.{arith}
use Rattle.kw_core.specs.History.{attempt, called}
use Rattle.kw_order_tests.proofs.points.put.Goals as goal

pub note-requires-5 : goal.note-requires-5
unfolding attempt
note-requires-5 c =
    rw (c.in_ok-note-4.ensures, c.in_ok-note-3.ensures, c.in_ok-note-2.ensures, c.in_ok-note.ensures, c.requires)
    (omega arith, omega arith)

pub returns : goal.returns
unfolding attempt called
returns c =
    rw (
      c.in_ok-note-6.ensures,
      c.in_ok-note-5.ensures,
      c.in_ok-note-4.ensures,
      c.in_ok-note-3.ensures,
      c.in_ok-note-2.ensures,
      c.in_ok-note.ensures,
      c.requires,
    )
