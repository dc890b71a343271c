-- Where a seat stands that asks another one next.
use Rattle.std.proofs.Common.{◌≡◌, true}
use Rattle.std.proofs.lemmas.Bool.{false≢true}
use Rattle.kw_core.specs.Stages.{IsBalancing}
use Rattle.kw_world.specs.declared.activity.Activity.{Activity}
use Rattle.kw_follow.specs.BuildsOn.{asks_seat}
use Rattle.kw_follow.specs.Within.{IsWithinCall}

-- it is in the middle of a call
pub asks_within : (a : Activity) → asks_seat a ≡ true → IsWithinCall a
asks_within (Activity.Rebalance _) e = tt
asks_within _ e = absurd (false≢true e)

-- it rebalances
pub asks_balances : (a : Activity) → asks_seat a ≡ true → IsBalancing a
asks_balances (Activity.Rebalance _) e = tt
asks_balances _ e = absurd (false≢true e)
