-- What a rebalance has seen where it stands, and what stays while it goes on.
use Rattle.std.specs.Prelude.{◌≡◌, ℕ, Bool, true, false}
use Rattle.kw_world.specs.declared.answer.Answer.TheVariants as answer
use Rattle.kw_world.specs.declared.activity.Activity.{Activity}
use Rattle.kw_world.specs.declared.activity.rebalance.Rebalance.TheVariants as Rebalance
use Rattle.kw_world.specs.declared.activity.rebalance.replace.Replace.TheVariants as Replace
use Rattle.kw_world.specs.declared.activity.rebalance.seek.Seek.TheVariants as Seek
use Rattle.kw_world.specs.declared.event.Choice.{Choice}
use Rattle.kw_world.specs.declared.local.Local.{Local}
use Rattle.kw_world.specs.declared.rebalance.Afterwards.TheVariants.{Refuse, TryAgain}
use Rattle.kw_core.specs.Stages.{IsBalancing}
use Rattle.kw_table.specs.declared.pass.Pass.{Pass}
use Rattle.kw_table.specs.declared.shared.Shared.{Shared}
use Rattle.kw_follow.specs.Calling.{KeepsCalls}
use Rattle.kw_follow.specs.Following.{Follows, GoesTo, held}
use Rattle.kw_follow.specs.OwnEvents.{Saw}
use Rattle.kw_live_rebal.specs.Rebalancing.{SawReplaced, SawSpent, SawWon}

-- it began a search for rows
pub record SawSearch (p q : Pass) : Type 0 where
  pub choice : Choice
  pub told : ℕ
  pub saw : Saw p q (Activity.Rebalance (Rebalance.Seek Seek.First)) choice told

-- what it has seen where it stands. It stands at no activity but these, and those of a rebalance:
-- whoever makes its events sees to it that it does not come to the end of one that won
abbrev pub HasSeenCause : Pass → Pass → Activity → Local → Type 0
HasSeenCause o p (Activity.Leave answer.Spent) l = SawSpent o p
HasSeenCause o p (Activity.Leave answer.NoRows) l = SawSearch o p
HasSeenCause o p Activity.Retry l = SawReplaced o p
HasSeenCause o p (Activity.Rebalance (Rebalance.Seek Seek.Next)) l = SawSearch o p
HasSeenCause o p (Activity.Rebalance (Rebalance.Seek (Seek.Pass i))) l = SawSearch o p
HasSeenCause o p (Activity.Rebalance (Rebalance.Seek Seek.Reclaim)) l = SawSearch o p
HasSeenCause o p (Activity.Rebalance (Rebalance.Seek Seek.Take)) l = SawSearch o p
HasSeenCause o p (Activity.Rebalance (Rebalance.Seek Seek.GiveBack)) l = (l.rebalance.afterwards ≡ Refuse → SawSearch o p) × (l.rebalance.afterwards ≡ TryAgain → SawReplaced o p)
HasSeenCause o p (Activity.Rebalance (Rebalance.Replace Replace.Normalise)) l = SawWon o p
HasSeenCause o p (Activity.Rebalance (Rebalance.Replace Replace.Number)) l = ⊥
HasSeenCause o p (Activity.Rebalance (Rebalance.Replace Replace.Retire)) l = ⊥
HasSeenCause o p a l = IsBalancing a

-- the new rows are linked, or the rebalance is over without them
abbrev pub ends_rebuild : Activity → Bool
ends_rebuild (Activity.Rebalance (Rebalance.Replace Replace.Normalise)) = true
ends_rebuild Activity.Retry = true
ends_rebuild (Activity.Leave answer) = true
ends_rebuild _ = false

-- what stays through all events of a rebalance. A put that tidies is refused nothing, so it needs
-- no cause
pub record Rebalances (s : Shared) (o p : Pass) (l : Local) : Type 0 where
  pub goes : GoesTo s o p
  pub follows : Follows s p l
  pub calls : KeepsCalls o p
  pub held : held p ≡ held o
  pub saw : l.tidies ≡ false → HasSeenCause o p l.activity l

-- since whatever event it is told of, what stayed up to the one pass and local stays up to the
-- other
abbrev pub GoesOn : Shared → Pass → Local → Pass → Local → Type 0
GoesOn s p l q m = (o : Pass) → Rebalances s o p l → Rebalances s o q m
