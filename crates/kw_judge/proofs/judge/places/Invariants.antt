-- The places of the names so far, and that these are known.
use Rattle.std.proofs.Common.{◌≡◌, Some, map, take, slice_get, Contains}
use Rattle.kw_judge.proofs.Firsts.{HoldBelow}
use Rattle.kw_judge.proofs.judge.places.Given as goal

abbrev pub invariant-loop-name : goal.invariant-loop-name
invariant-loop-name l = record { places : map (slice_get l.lines) l.places.items ≡ map Some (take l.name-index l.order); known : HoldBelow (λ _ name. Contains l.lines name) l.order l.name-index }
