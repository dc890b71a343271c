-- What is left of the lists, asked from the map so far, decides whether all is legal.
use Rattle.std.specs.Slice.Iter.{iter_rest}
use Rattle.std.specs.Iterator.Adapters.{zip_first, zip_second}
use Rattle.kw_model.proofs.Left.{Left}
use Rattle.kw_model.proofs.legal.is_legal.Given as goal

abbrev pub invariant-loop-seat : goal.invariant-loop-seat
invariant-loop-seat l =
    let pairs = zip_second l.seat-iterator in
    Left l.seats l.calls l.replies l.map (iter_rest (zip_first l.seat-iterator)) (iter_rest (zip_first pairs)) (iter_rest (zip_second pairs))
