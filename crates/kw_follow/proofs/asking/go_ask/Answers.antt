use Rattle.kw_follow.proofs.AskEvents.{asks_within}
use Rattle.kw_follow.proofs.Moving.{went_on}
use Rattle.kw_follow.proofs.OneEvent.{within_goes}
use Rattle.kw_follow.proofs.asking.go_ask.Goals as goal

pub returns : goal.returns
returns c = went_on c.requires.follows (within_goes _ (asks_within _ c.requires.asks)) c.ask_event.ensures
