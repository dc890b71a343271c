-- Each turn counts one row more, up to the rows that there may be.
use Rattle.std.proofs.Common.{◌<◌, ◌≤◌, ◌+◌, ◌-◌, arith, length}
use Rattle.std.proofs.lemmas.Bool.{leb-true, le-leb}
use Rattle.kw_cells.specs.Cuts.{starts_at}
use Rattle.kw_cells.proofs.Turns.{counted_first, counted_more, counted_fit}
use Rattle.kw_cells.proofs.pack.all_fit.Goals as goal
use Rattle.kw_cells.proofs.pack.all_fit.Goals.{then-loop-counted-test+else-cells-start, else-loop-counted-test}

pub loop-counted-init : goal.loop-counted-init
loop-counted-init c = record { counted = counted_first c.args.limit c.args.cells.now c.requires.rising; upto = c.requires.rows }

pub loop-counted-preserved : goal.loop-counted-preserved
loop-counted-preserved c = record {
  counted = counted_more c.args.limit c.args.cells.now c.requires.rising c.loop-counted.counted c.loop-counted.start c.first_of_key-start.result c.loop-counted.invariant.counted (let n = c.requires.no_more (omega arith) in omega arith) (omega arith) c.first_of_key-start.ensures.is;
  upto = omega arith;
}

pub returns : goal.returns
returns c = (λ t. is.0 (let l : length c.args.cells.now - c.loop-counted.start ≤ c.args.limit = leb-true _ _ t in omega arith), λ m. le-leb _ _ (let l = is.1 m in omega arith))
  where
    ended : c.loop-counted.counted < c.args.rows → c.loop-counted.start + c.args.limit < length c.args.cells.now → ⊥
    ended a b = elim c.loop-counted-test.branch [ then-loop-counted-test+else-cells-start w ↦ (let f = w.if-cells-start.false in omega arith) | else-loop-counted-test w ↦ (let f = w.loop-counted-test.false in omega arith) ]

    is : (length c.args.cells.now ≤ c.loop-counted.start + c.args.limit → length (starts_at c.args.limit c.args.cells.now) ≤ c.args.rows) × (length (starts_at c.args.limit c.args.cells.now) ≤ c.args.rows → length c.args.cells.now ≤ c.loop-counted.start + c.args.limit)
    is = counted_fit c.args.limit c.args.cells.now c.requires.rising c.args.rows c.loop-counted.counted c.loop-counted.start c.loop-counted.invariant.counted c.loop-counted.invariant.upto c.requires.no_more ended
