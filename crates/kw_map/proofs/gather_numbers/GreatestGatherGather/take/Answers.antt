-- The greatest value follows each list that has one more pair.
use Rattle.std.proofs.Common.{rules, refl, Some, ◌≡◌}
use Rattle.kw_map.proofs.TallyLemmas.{takes_greatest, greater}
use Rattle.kw_map.proofs.gather_numbers.GreatestGatherGather.take.Goals as goal

pub returns-clause-taken : goal.returns-clause-taken
returns-clause-taken c =
    let kept : Some c.map_or.result ≡ Some (greater c.self.inside.greatest c.args.value) = search rules in
    takes_greatest c.args.self.now _ c.args.key c.args.value c.requires.above c.requires.value refl
    (rw (← c.self.view_is) kept)
