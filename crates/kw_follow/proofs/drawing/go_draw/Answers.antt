use Rattle.kw_follow.proofs.DrawEvents.{draw_within}
use Rattle.kw_follow.proofs.Moving.{went_on}
use Rattle.kw_follow.proofs.OneEvent.{within_goes}
use Rattle.kw_follow.proofs.drawing.go_draw.Goals as goal

pub returns : goal.returns
returns c = went_on c.requires.follows (within_goes _ (draw_within _ c.requires.drawing)) c.draw_event.ensures
