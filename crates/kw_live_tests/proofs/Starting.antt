-- Where updates stand once they have entered.
use Rattle.std.proofs.Common.{◌≡◌, true, Some, refl}
use Rattle.kw_model.specs.declared.call.Call.{Call}
use Rattle.kw_model.specs.declared.call.Call.TheVariants.{Put, Del, Get, Scan, Pin, ScanAt, Unpin}
use Rattle.kw_world.specs.declared.activity.Activity.{Activity}
use Rattle.kw_world.specs.declared.activity.Activity.TheVariants as Activity
use Rattle.kw_world.specs.declared.activity.walk.Walk.TheVariants as Walk
use Rattle.kw_world.specs.declared.activity.rebalance.Rebalance.TheVariants as Rebalance
use Rattle.kw_world.specs.declared.activity.rebalance.replace.Replace.TheVariants as Replace
use Rattle.kw_core.specs.Stages.{is_put, is_walking}
use Rattle.kw_puts.proofs.Owners.{true_false}
use Rattle.kw_live.specs.Stages.{HasEntered}

-- a put or a delete that has entered is to begin its walk
pub update_starts : (call : Call) (a : Activity) → is_put (Some call) ≡ true → HasEntered call a → is_walking a ≡ true
update_starts (Put key value) (Activity.Walk Walk.Start) is h = refl
update_starts (Put key value) _ is h = absurd h
update_starts (Del key) (Activity.Walk Walk.Start) is h = refl
update_starts (Del key) _ is h = absurd h
update_starts (Get key) (Activity.Rebalance (Rebalance.Replace Replace.First)) is h = true_false is refl
update_starts (Get key) a is h = true_false is refl
update_starts (Scan from upto) a is h = true_false is refl
update_starts Pin a is h = true_false is refl
update_starts (ScanAt from upto) a is h = true_false is refl
update_starts Unpin a is h = true_false is refl
