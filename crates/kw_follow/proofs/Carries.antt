-- What follows for the seat and for code that carries its local, and the two ways of a test.
use Rattle.std.proofs.Common.{ℕ, ◌≡◌, Bool, true, false, if◌then◌else◌, List}
use Rattle.kw_world.specs.declared.event.Choice.{Choice}
use Rattle.kw_world.specs.declared.event.StepDone.TheVariants.{Moved}
use Rattle.kw_world.specs.Transition.{Outcome}
use Rattle.kw_world.specs.WalkTransitions.{is_stop}
use Rattle.kw_follow.specs.Following.{carried}

-- p is what follows for code where o follows for the seat: it carries what the seat then knows, and
-- the call goes on. The seat's pairs are then these, unless the choice is to stop
pub record Carries (c : Choice) (pairs : List (ℕ × ℕ)) (o p : Outcome) : Type 0 where
  pub local : p.local ≡ carried o.local
  pub done : p.done ≡ Moved
  pub held : is_stop c ≡ false → o.local.pairs ≡ pairs

module _ (c : Choice) where
  -- both ways of a test
  pub either : (b : Bool) (ps : List (ℕ × ℕ)) (o p o' p' : Outcome) → Carries c ps o p → Carries c ps o' p' → Carries c ps (if b then o else o') (if b then p else p')
  either true ps o p o' p' g h = g
  either false ps o p o' p' g h = h
