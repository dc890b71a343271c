-- No more marks are kept than are gone through.
use Rattle.std.proofs.Common.{arith, ap, length, take}
use Rattle.std.proofs.lemmas.List.{length-take-le}
use Rattle.std.proofs.lemmas.List.Sums.{length-filter, count_by-le-length}
use Rattle.kw_world.specs.Marks.{is_other}
use Rattle.kw_world.proofs.marks.Marks.keep_others.Goals as goal

pub push-requires : goal.push-requires
push-requires g c =
    let gone = take c.loop-mark.mark-index c.as_slice-marks.result.now in
    let few = count_by-le-length (is_other c.args.cell) gone in
    (omega arith, omega (arith, ap length c.loop-mark.invariant, length-filter (is_other c.args.cell) gone, few, length-take-le c.loop-mark.mark-index c.as_slice-marks.result.now c.loop-mark.auto.mark-index-end, c.loop-mark-test.true, c.as_slice-marks.ensures.fits))
