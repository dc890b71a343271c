use Rattle.std.proofs.Common.{◌≡◌, ◌+◌, ◌*◌, ◌∙◌, length, ap, arith}
use Rattle.std.proofs.lemmas.List.{length_push}
use Rattle.std.proofs.lemmas.Grind.{common_steps}
use Rattle.kw_beside.proofs.Counts.{one_more}
use Rattle.kw_beside.proofs.pieces.pieces.Goals as goal

pub loop-rest-preserved : goal.loop-rest-preserved
loop-rest-preserved c =
    let before = length c.loop-rest.pieces.items in
    let size = c.max-size.result in
    let one : length c.push.new.self.items ≡ before + 1 = ap length c.in_ok-push.ensures.items ∙ length_push c.loop-rest.pieces.items c.cut_behind.result.0 in
    let longer : length c.push.new.self.items * size ≡ (before + 1) * size = ap (λ n. n * size) one in
    record {
      lines = grind (arith, common_steps);
      short = grind (arith, common_steps);
      long = omega (arith, longer);
      few = omega (arith, one_more c.args.count before c.div_ceil.result size (length c.args.bytes.now) (length c.loop-rest.rest.now) (omega arith) (omega arith) (omega arith) (omega arith) (omega arith));
    }
