use Rattle.std.proofs.Common.{refl}
use Rattle.kw_follow.proofs.Moving.{went_on}
use Rattle.kw_follow.proofs.OneEvent.{follows_ranges, follows_room, asks, begins_in, moves_in, within_busy, within_goes}
use Rattle.kw_follow.proofs.going.go.Goals as goal

pub event-requires-clause-ranges : goal.event-requires-clause-ranges
event-requires-clause-ranges c = follows_ranges _ _ _ c.requires.follows

pub event-requires-clause-room : goal.event-requires-clause-room
event-requires-clause-room c = follows_room _ _ _ c.requires.follows

pub event-requires-clause-asks : goal.event-requires-clause-asks
event-requires-clause-asks c = asks _ _ c.args.choice _ _ _ _ _ c.requires.follows (begins_in _ _ _ c.args.choice c.requires.follows (within_busy _ c.requires.within)) (moves_in _ _ _ c.args.choice c.requires.follows (within_busy _ c.requires.within)) refl refl refl refl

pub returns : goal.returns
returns c = went_on c.requires.follows (within_goes _ c.requires.within) c.event.ensures
