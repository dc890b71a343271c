use Rattle.std.proofs.Common.{subst, sym}
use Rattle.kw_follow.proofs.Carrying.{IsGoingOn}
use Rattle.kw_follow.proofs.Moving.{went_on}
use Rattle.kw_follow.proofs.along.go_guessed_least.Goals as goal

pub returns : goal.returns
returns c = went_on c.requires.follows (subst IsGoingOn (sym c.requires.activity) tt) c.load_guessed_least.ensures
