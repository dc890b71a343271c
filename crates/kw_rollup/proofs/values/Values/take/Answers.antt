use Rattle.std.proofs.Common.{rules, arith, refl}
use Rattle.std.proofs.lemmas.Grind.{common_steps}
use Rattle.std.proofs.lemmas.List.Sums.{sum_by-cons}
use Rattle.kw_rollup.proofs.Taken.{taken_listed, counted_then}
use Rattle.kw_rollup.proofs.values.Values.take.Goals as goal

pub returns-in-Some : goal.returns-in-Some
returns-in-Some c = taken_listed c.args.value c.in-Some.at c.swap_remove.result c.place_of.result c.deref.result.now c.args.self.now _ c.place_of.ensures c.in-Some.is c.deref.ensures.value c.swap_remove.ensures.items refl

pub returns-else-times-gt1 : goal.returns-else-times-gt1
returns-else-times-gt1 c = λ vs h. let there = counted_then c.args.value c.place_of.result c.deref.result.now c.args.self.now c.place_of.ensures c.in_default.is c.deref.ensures.value vs h in let u = c.remove.ensures.updates in let w = c.get.ensures.value in record { times = λ x. let t = h.times x in grind (arith, common_steps, sum_by-cons); some = λ x. let t = h.some x in search rules }
