use Rattle.std.proofs.Common.{◌∙◌}
use Rattle.kw_follow.proofs.WayEvents.{asks_guess, next_guess}
use Rattle.kw_follow.proofs.Moving.{moves}
use Rattle.kw_follow.proofs.along.load_guessed_state.Goals as goal

pub load_state-told-requires : goal.load_state-told-requires
load_state-told-requires c = asks_guess _ _ c.args.local.now c.args.row c.requires.at.follows c.requires.at.activity c.requires.in_range

pub returns : goal.returns
returns c = moves c.load_state-told.ensures (c.guess.ensures ∙ next_guess _ c.args.row c.args.local.now _ c.requires.at.activity c.requires.in_range)
