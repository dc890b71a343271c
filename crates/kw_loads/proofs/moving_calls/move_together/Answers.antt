use Rattle.std.proofs.Common.{rules}
use Rattle.kw_map.specs.Kiwi.{IsIdle}
use Rattle.kw_loads.proofs.Jobs.{all_given}
use Rattle.kw_loads.proofs.moving_calls.move_together.Goals as goal

pub returns : goal.returns
returns g c = all_given _ _ c.args.passes (IsIdle c.args.kiwi.now) c.map_vec.result c.map_vec.ensures.len c.map_vec.ensures.each (λ x r post. search rules)
