-- What stays while a call walks to its row.
use Rattle.std.specs.Prelude.{◌≡◌, ◌⊎◌, ℕ, ◌+◌, ◌*◌, ◌-◌, ◌<◌, true, Option}
use Rattle.kw_model.specs.declared.call.Call.{Call}
use Rattle.kw_world.specs.declared.activity.Activity.{Activity}
use Rattle.kw_world.specs.declared.activity.walk.Walk.TheVariants as Walk
use Rattle.kw_world.specs.declared.local.Local.{Local}
use Rattle.kw_core.specs.Stages.{is_walking}
use Rattle.kw_table.specs.declared.pass.Pass.{Pass}
use Rattle.kw_table.specs.declared.shared.Shared.{Shared}
use Rattle.kw_follow.specs.Calling.{KeepsCalls}
use Rattle.kw_follow.specs.Following.{Follows, GoesTo, held}
use Rattle.kw_live.specs.Stages.{arrived}

-- the walk is on its way, or has arrived
abbrev pub IsUnderWay : Option Call → Activity → Type 0
IsUnderWay call a = (is_walking a ≡ true) ⊎ (a ≡ arrived call)

-- the walk is on its way or has arrived, and what the call wants is as it was
pub record WalksOn (l m : Local) : Type 0 where
  pub call : m.call ≡ l.call
  pub want : m.want ≡ l.want
  pub version : m.version ≡ l.version
  pub has_read : m.has_read ≡ l.has_read
  pub stage : IsUnderWay l.call m.activity

-- how many events a walk has yet to make at most, by the least key that it knows and the key that
-- it wants
abbrev pub walk_ahead : Activity → ℕ → ℕ → ℕ
walk_ahead (Activity.Walk Walk.Start) lower want = 2 * (want + 1) + 5
walk_ahead (Activity.Walk Walk.GuessedLeast) lower want = 2 * (want + 1) + 4
walk_ahead (Activity.Walk Walk.First) lower want = 2 * (want + 1) + 3
walk_ahead (Activity.Walk Walk.Next) lower want = 2 * (want + 1 - lower) + 2
walk_ahead (Activity.Walk Walk.NextLeast) lower want = 2 * (want + 1 - lower) + 1
walk_ahead _ lower want = 0

-- the same, of what code knows
abbrev pub walks_ahead : Local → ℕ
walks_ahead l = walk_ahead l.activity l.lower l.want

-- the walk went on by one event or more, and has fewer to make
pub record WalksFurther (s : Shared) (p : Pass) (l : Local) (q : Pass) (m : Local) : Type 0 where
  pub goes : GoesTo s p q
  pub follows : Follows s q m
  pub calls : KeepsCalls p q
  pub held : held q ≡ held p
  pub walks : WalksOn l m
  pub fewer : walks_ahead m < walks_ahead l
