use Rattle.std.proofs.Common.{refl}
use Rattle.kw_live.proofs.LookStages.{look_goes}
use Rattle.kw_live.proofs.looking.look_on.Goals as goal

pub returns-in_default : goal.returns-in_default
returns-in_default c =
    let looked = look_goes _ _ _ _ c.go_along.ensures.line c.requires.looking in
    record {
      goes = c.go_along.ensures.goes;
      follows = c.go_along.ensures.follows;
      calls = c.go_along.ensures.calls;
      held = c.go_along.ensures.held refl;
      looks = looked.looks;
      fewer = looked.fewer;
    }
