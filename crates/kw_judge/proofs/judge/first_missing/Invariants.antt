-- The order has the names so far.
use Rattle.std.proofs.Common.{Contains}
use Rattle.kw_judge.proofs.Firsts.{HoldBelow}
use Rattle.kw_judge.proofs.judge.first_missing.Given as goal

abbrev pub invariant-loop-name : goal.invariant-loop-name
invariant-loop-name l = HoldBelow (λ _ name. Contains l.order name) l.names l.name-index
