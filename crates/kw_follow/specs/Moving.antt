-- What one event of a pass does, said once for all code that makes one.
use Rattle.std.specs.Prelude.{◌≡◌, ℕ, [], false, Some}
use Rattle.kw_model.specs.declared.call.Call.{Call}
use Rattle.kw_world.specs.declared.activity.Activity.{Activity}
use Rattle.kw_world.specs.declared.event.Choice.{Choice}
use Rattle.kw_world.specs.declared.event.StepDone.{StepDone}
use Rattle.kw_world.specs.declared.event.StepDone.TheVariants.{Moved}
use Rattle.kw_world.specs.declared.local.Local.{Local}
use Rattle.kw_world.specs.Sizes.{product}
use Rattle.kw_world.specs.Step.{next_of}
use Rattle.kw_world.specs.Transition.{outcome}
use Rattle.kw_world.specs.WalkTransitions.{is_stop, offered}
use Rattle.kw_table.specs.declared.pass.Pass.{Pass}
use Rattle.kw_table.specs.declared.shared.Shared.{Shared}
use Rattle.kw_table.specs.Passes.{view, Makes}
use Rattle.kw_follow.specs.Calling.{KeepsCalls, Opens}
use Rattle.kw_follow.specs.Following.{Follows, GoesTo, held}
use Rattle.kw_follow.specs.OwnEvents.{SawAs, SawOnly}

-- the local follows the pass, and does this next
pub record FollowsAt (s : Shared) (p : Pass) (l : Local) (a : Activity) : Type 0 where
  pub follows : Follows s p l
  pub activity : l.activity ≡ a

-- the pass made its next event with this choice, and was told a word; by that the local went on to
-- the other one, and this was done
pub record Moves (s : Shared) (p : Pass) (l : Local) (c : Choice) (q : Pass) (m : Local) (done : StepDone) : Type 0 where
  pub told : ℕ
  pub makes : Makes s p c told q
  pub line : outcome m done ≡ next_of product s.opening.rows (offered s.opening.rows c) l told

-- the pass made its next event with this choice, by which its call goes on, and the local follows
-- it still
pub record WentOn (s : Shared) (p : Pass) (l : Local) (c : Choice) (q : Pass) (m : Local) : Type 0 where
  -- what the event was told
  pub told : ℕ
  pub goes : GoesTo s p q
  pub follows : Follows s q m
  pub line : outcome m Moved ≡ next_of product (view p).opening.rows (offered (view p).opening.rows c) l told
  pub saw : SawAs p q l c told
  pub only : SawOnly p q l.activity told
  pub calls : KeepsCalls p q
  -- the pairs stay, unless a scan is stopped
  pub held : is_stop c ≡ false → held q ≡ held p

-- the pass began this call, and the local follows it: it knows the call, has read no row and has no
-- pairs yet
pub record Begins (s : Shared) (p q : Pass) (call : Call) (m : Local) : Type 0 where
  pub goes : GoesTo s p q
  pub follows : Follows s q m
  pub opens : Opens p q call
  pub asks : m.call ≡ Some call
  pub unread : m.has_read ≡ false
  pub held : held q ≡ []
