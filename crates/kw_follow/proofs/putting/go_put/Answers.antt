use Rattle.kw_follow.proofs.Moving.{went_on}
use Rattle.kw_follow.proofs.OneEvent.{within_goes}
use Rattle.kw_follow.proofs.PutEvents.{put_within}
use Rattle.kw_follow.proofs.putting.go_put.Goals as goal

pub returns : goal.returns
returns c = went_on c.requires.follows (within_goes _ (put_within _ c.requires.putting)) c.put_event.ensures
