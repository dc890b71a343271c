use Rattle.std.proofs.Common.{◌∙◌, inl, inr}
use Rattle.std.proofs.lemmas.Bool.{lt-leb}
use Rattle.kw_judge.proofs.Readers.{between}
use Rattle.kw_judge.proofs.written.number_between.Goals as goal
use Rattle.kw_judge.proofs.written.number_between.Goals.{then-least-number, else-least-number}

pub returns : goal.returns
returns c =
    let read = c.in_ok-number.ensures {u = tt} in
    rw c.then_some.ensures (between c.args.least c.args.most c.in_ok-number.number c.args.bytes.now c.if-least-number.then_some c.ranges.most.fits read.0 read.1
    (elim c.if-least-number.branch [ then-least-number w ↦ inl (w.if-least-number.true, w.then_some-is) | else-least-number w ↦ inr (w.if-least-number.false, w.then_some-is ∙ lt-leb c.args.least c.in_ok-number.number w.if-least-number.false) ]))
