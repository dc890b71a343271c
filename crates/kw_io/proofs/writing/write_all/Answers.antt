-- A write took the first bytes of the rest, so what was written is longer by these.
use Rattle.std.proofs.Common.{arith, length-drop}
use Rattle.std.proofs.Math.Seq.{take-add}
use Rattle.std.proofs.KnownBytes.{Appends-trans}
use Rattle.std.proofs.lemmas.List.{take_rest}
use Rattle.kw_io.proofs.writing.write_all.Goals as goal

pub loop-done-preserved : goal.loop-done-preserved
loop-done-preserved g c = record {
  within = omega (arith, c.in_ok-count.ensures.bound, length-drop c.loop-done.done c.args.bytes.now);
  appended = rw (take-add c.loop-done.done c.in_ok-count.count c.args.bytes.now)
      (Appends-trans _ _ _ _ _ c.loop-done.invariant.appended
      (rw take_rest at c.in_ok-count.ensures.appended));
  never_falls = omega (arith, c.in_ok-count.ensures.never_falls);
}
