use Rattle.std.proofs.Common.{refl}
use Rattle.kw_live.proofs.WalkStages.{walk_goes}
use Rattle.kw_live.proofs.walking.walk_on.Goals as goal

pub returns-in-Walk-GuessedLeast : goal.returns-in-Walk-GuessedLeast
returns-in-Walk-GuessedLeast c =
    let on = walk_goes _ _ _ _ _ _ _ c.go_guessed_least.ensures.goes c.go_guessed_least.ensures.saw c.go_guessed_least.ensures.line c.requires.walking in
    record {
      goes = c.go_guessed_least.ensures.goes;
      follows = c.go_guessed_least.ensures.follows;
      calls = c.go_guessed_least.ensures.calls;
      held = c.go_guessed_least.ensures.held refl;
      walks = on.walks;
      fewer = on.fewer;
    }

pub returns-in_default : goal.returns-in_default
returns-in_default c =
    let on = walk_goes _ _ _ _ _ _ _ c.go_along.ensures.goes c.go_along.ensures.saw c.go_along.ensures.line c.requires.walking in
    record {
      goes = c.go_along.ensures.goes;
      follows = c.go_along.ensures.follows;
      calls = c.go_along.ensures.calls;
      held = c.go_along.ensures.held refl;
      walks = on.walks;
      fewer = on.fewer;
    }
