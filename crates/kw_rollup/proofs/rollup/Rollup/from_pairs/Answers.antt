use Rattle.std.proofs.Common.{◌≤◌, length, subst, sym, ◌∙◌, arith}
use Rattle.kw_model.specs.Map.{Pairs, IsRising}
use Rattle.kw_rollup.proofs.Pairs.{put_turn, take_whole}
use Rattle.kw_rollup.proofs.rollup.Rollup.from_pairs.Goals as goal

pub loop-key-preserved : goal.loop-key-preserved
loop-key-preserved c =
    let P : Pairs → Type 0 = λ m. IsRising m in
    record {
      width = c.in_ok-put.ensures.width ∙ c.loop-key.invariant.width;
      pairs = put_turn c.loop-key.key-index c.pairs-list.result.now _ c.loop-key.rollup.pairs c.put.new.self.pairs (subst P (sym c.pairs-list.ensures) c.requires.rising) (omega arith) c.loop-key.invariant.pairs c.in_ok-put.ensures.ok;
    }

pub returns-clause-width : goal.returns-clause-width
returns-clause-width c = c.loop-key.invariant.width

pub returns-clause-pairs : goal.returns-clause-pairs
returns-clause-pairs c =
    let past : length c.pairs-list.result.now ≤ c.loop-key.key-index = omega arith in
    c.loop-key.invariant.pairs ∙ (take_whole c.loop-key.key-index c.pairs-list.result.now past ∙ c.pairs-list.ensures)
