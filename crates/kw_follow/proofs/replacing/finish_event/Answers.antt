use Rattle.std.proofs.Common.{refl}
use Rattle.kw_world.specs.declared.event.Choice.TheVariants.{Go}
use Rattle.kw_follow.proofs.OneEvent.{follows_ranges, follows_room, asks, begins_in, moves_in, within_busy}
use Rattle.kw_follow.proofs.replacing.finish_event.Goals as goal

pub event-requires-clause-ranges : goal.event-requires-clause-ranges
event-requires-clause-ranges c = follows_ranges _ _ _ c.requires.follows

pub event-requires-clause-room : goal.event-requires-clause-room
event-requires-clause-room c = follows_room _ _ _ c.requires.follows

pub event-requires-clause-asks : goal.event-requires-clause-asks
event-requires-clause-asks c = asks _ _ Go _ _ _ _ _ c.requires.follows (begins_in _ _ _ Go c.requires.follows (within_busy _ c.requires.within)) (moves_in _ _ _ Go c.requires.follows (within_busy _ c.requires.within)) refl refl refl refl
