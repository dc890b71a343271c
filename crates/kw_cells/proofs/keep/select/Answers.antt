-- One key after the other.
use Rattle.std.proofs.Common.{arith}
use Rattle.kw_cells.proofs.Passing.{started, ended}
use Rattle.kw_cells.proofs.keep.select.Goals as goal

pub loop-from-init : goal.loop-from-init
loop-from-init c = record { so_far = rw c.clear.ensures (started c.args.ordered.now c.args.needed.now c.requires.ordered c.requires.apart); first = λ k d l e. absurd (omega arith) }

pub loop-from-preserved : goal.loop-from-preserved
loop-from-preserved c = record {
  so_far = c.select_key.ensures;
  first = λ k d l e. (let key = c.end_of_key-end.ensures in let s = key.same k d (let a = key.some in omega arith) (omega arith) in let b = key.last d l in omega arith);
}

pub returns : goal.returns
returns c = ended c.args.ordered.now c.args.needed.now c.requires.ordered c.requires.apart c.loop-from.from c.loop-from.kept c.loop-from-test.false c.loop-from.invariant.so_far
