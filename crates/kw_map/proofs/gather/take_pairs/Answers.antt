-- A pair that was taken is the first of those that were left.
use Rattle.std.proofs.Common.{arith, Result, Ok, Err, OnErr}
use Rattle.kw_map.proofs.TakeLemmas.{handing_more, handing_end, handing_stop, taken_below}
use Rattle.kw_map.proofs.CellLemmas.{shown_is_value, pairs_of-behind}
use Rattle.kw_map.proofs.gather.take_pairs.Goals as goal

-- what holds in any case holds of an error
on_err : {X E : Type 0} (r : Result X E) (P : Type 0) → P → OnErr r P
on_err (Ok x) P p = tt
on_err (Err e) P p = p

pub take-requires-clause-value : goal.take-requires-clause-value
take-requires-clause-value g c = shown_is_value c.args.cells.now c.args.version c.in-Some.key c.in-Some.value c.requires.values (rw c.as_slice-list.ensures.cells at c.in-Some.ensures.next.shown)

pub returns-in_err-take-clause-prefix : goal.returns-in_err-take-clause-prefix
returns-in_err-take-clause-prefix g c = on_err c.from_residual.result _
    (handing_stop g.G.Gather.last g.G.Gather.stands c.args.into.now c.loop-key.into c.take.new.self _ _ c.loop-key.invariant.handing c.in_err-take.ensures.kept)

pub returns-then-key-upto-clause-all : goal.returns-then-key-upto-clause-all
returns-then-key-upto-clause-all g c =
    handing_end g.G.Gather.last g.G.Gather.stands c.args.into.now c.take.new.self _ _
    (handing_more g.G.Gather.last g.G.Gather.stands c.args.into.now c.loop-key.into c.take.new.self _ _ _ _ c.loop-key.invariant.handing (rw c.as_slice-list.ensures.cells at c.in-Some.ensures.pairs) c.in_ok-take.ensures.taken)
    (pairs_of-behind c.args.cells.now c.args.version c.in-Some.key c.args.upto c.if-key-upto.true)

pub loop-key-preserved : goal.loop-key-preserved
loop-key-preserved g c = record {
  handing = handing_more g.G.Gather.last g.G.Gather.stands c.args.into.now c.loop-key.into c.take.new.self _ _ _ _ c.loop-key.invariant.handing (rw c.as_slice-list.ensures.cells at c.in-Some.ensures.pairs) c.in_ok-take.ensures.taken;
  reached = c.in-Some.ensures.passed;
  below = taken_below g.G.Gather.last g.G.Gather.stands c.loop-key.into c.take.new.self c.in-Some.key c.in-Some.value c.in_ok-take.ensures.taken;
  in_range = omega (arith, c.in-Some.ensures.next.to, c.if-key-upto.false);
  never_falls = omega (arith, c.loop-key.invariant.never_falls, c.in_ok-take.ensures.never_falls);
}
