-- The count follows each list that has one more pair.
use Rattle.std.proofs.Common.{arith, ap, refl}
use Rattle.kw_map.proofs.TallyLemmas.{takes_count}
use Rattle.kw_map.proofs.gather_numbers.CountGatherGather.take.Goals as goal

pub returns-clause-taken : goal.returns-clause-taken
returns-clause-taken c =
    let same = ap (λ t. t.number) c.self.view_is in
    takes_count c.args.self.now _ c.args.key c.args._value c.requires.above c.requires.value refl
    (omega (arith, same))
