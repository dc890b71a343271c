use Rattle.kw_follow.proofs.Moving.{went_on}
use Rattle.kw_follow.proofs.OneEvent.{within_goes}
use Rattle.kw_follow.proofs.replacing.go_finish.Goals as goal

pub returns : goal.returns
returns c = went_on c.requires.follows (within_goes _ c.requires.within) c.finish_event.ensures
