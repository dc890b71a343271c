-- What came before an error is what was read so far, and then the piece that the last read gave.
use Rattle.std.proofs.Common.{arith, ◌++◌, take, length-append}
use Rattle.std.proofs.lemmas.List.{length-take-le}
use Rattle.std.proofs.lemmas.Result.{err_from_is_err_and}
use Rattle.std.proofs.KnownBytes.{Consumes-trans}
use Rattle.kw_io.proofs.reading.read_all.Goals as goal

pub returns-then-count-most-clause-stops : goal.returns-then-count-most-clause-stops
returns-then-count-most-clause-stops g c _ =
    let piece = take c.in_ok-count.count c.read.new.into in
    let whole = length-append c.loop-bytes.bytes.items piece in
    let some = length-take-le c.in_ok-count.count c.read.new.into c.in_ok-count.ensures.bound in (
      c.loop-bytes.bytes.items ++ piece,
      Consumes-trans _ _ _ _ _ c.loop-bytes.invariant.taken c.in_ok-count.ensures.taken,
      omega (arith, whole, some),
      omega (arith, whole, some, c.in_ok-count.ensures.bound),
    )

pub returns-then-count-most-clause-taken : goal.returns-then-count-most-clause-taken
returns-then-count-most-clause-taken g c =
    (_, Consumes-trans _ _ _ _ _ c.loop-bytes.invariant.taken c.in_ok-count.ensures.taken)

pub returns-in_err-extend_from_slice-clause-taken :
    goal.returns-in_err-extend_from_slice-clause-taken
returns-in_err-extend_from_slice-clause-taken g c =
    let exit = c.from_residual-in_err-extend_from_slice in
    let p = err_from_is_err_and exit.result exit.ensures.1 in
    rw p.1 (_, Consumes-trans _ _ _ _ _ c.loop-bytes.invariant.taken c.in_ok-count.ensures.taken)
