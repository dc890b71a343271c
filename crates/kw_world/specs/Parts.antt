-- Which part of the table an event is of.
use Rattle.std.specs.Prelude.{if◌then◌else◌}
use Rattle.kw_world.specs.declared.activity.Activity.{Activity}
use Rattle.kw_world.specs.declared.activity.enter.Enter.TheVariants as Enter
use Rattle.kw_world.specs.declared.activity.walk.Walk.TheVariants as Walk
use Rattle.kw_world.specs.declared.local.Local.{Local}
use Rattle.kw_world.specs.declared.event.Choice.{Choice}
use Rattle.kw_world.specs.declared.part.Part.{Part}
use Rattle.kw_world.specs.declared.part.Part.TheVariants as part
use Rattle.kw_world.specs.WalkTransitions.{is_stopped}

-- the part that has the event at this activity; a walk that is stopped does not walk: the event
-- ends the scan
abbrev pub part_at : Activity → Choice → Local → Part
part_at (Activity.Walk Walk.Next) choice l = if is_stopped choice l then part.Put else part.Rows
part_at (Activity.Walk _) choice l = part.Rows
part_at Activity.Retry choice l = part.Rebalance
part_at (Activity.Enter Enter.LoadEpoch) choice l = part.Rebalance
part_at (Activity.Rebalance _) choice l = part.Rebalance
part_at _ choice l = part.Put

-- the part that has the event of a seat that knows l
abbrev pub part_of : Choice → Local → Part
part_of choice l = part_at l.activity choice l
