-- Where updates stand that have arrived at their row.
use Rattle.std.proofs.Common.{◌≡◌, true, Option, Some, None, refl}
use Rattle.kw_model.specs.declared.call.Call.{Call}
use Rattle.kw_model.specs.declared.call.Call.TheVariants.{Put, Del, Get, Scan, Pin, ScanAt, Unpin}
use Rattle.kw_world.specs.declared.activity.Activity.TheVariants as Activity
use Rattle.kw_world.specs.declared.activity.put.Put.TheVariants as Put
use Rattle.kw_core.specs.Stages.{is_put}
use Rattle.kw_puts.proofs.Owners.{true_false}
use Rattle.kw_live.specs.Stages.{arrived}

-- such a one is to load the count
pub put_arrives : (call : Option Call) → is_put call ≡ true → arrived call ≡ Activity.Put Put.Count
put_arrives (Some (Put key value)) e = refl
put_arrives (Some (Del key)) e = refl
put_arrives (Some (Get key)) e = true_false e refl
put_arrives (Some (Scan from upto)) e = true_false e refl
put_arrives (Some Pin) e = true_false e refl
put_arrives (Some (ScanAt from upto)) e = true_false e refl
put_arrives (Some Unpin) e = true_false e refl
put_arrives None e = true_false e refl
