-- A seat that rebalances is not idle.
use Rattle.std.proofs.Common.{◌≡◌, false, refl}
use Rattle.kw_world.specs.declared.activity.Activity.{Activity}
use Rattle.kw_world.specs.declared.event.Choice.{Choice}
use Rattle.kw_world.specs.declared.local.Local.{Local}
use Rattle.kw_world.specs.declared.part.Part.TheVariants as part
use Rattle.kw_world.specs.Parts.{part_at}
use Rattle.kw_world.specs.Step.{is_skipped}

-- an event of a rebalance is not skipped
pub balance_not_skipped : (a : Activity) (choice : Choice) (l : Local) → part_at a choice l ≡ part.Rebalance → is_skipped a choice ≡ false
balance_not_skipped Activity.Idle choice l e = absurd (cc)
balance_not_skipped _ choice l e = refl
