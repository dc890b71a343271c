-- Lists of events that one seat makes, and the events that end a call, replace a row, or go on to
-- the row before it.
use Rattle.std.specs.Prelude.{ℕ, ◌≡◌, List, All}
use Rattle.kw_world.specs.declared.activity.Activity.{Activity}
use Rattle.kw_world.specs.declared.activity.rebalance.Rebalance.TheVariants as Rebalance
use Rattle.kw_world.specs.declared.activity.rebalance.engage.Engage.TheVariants as Engage
use Rattle.kw_world.specs.declared.activity.rebalance.replace.Replace.TheVariants as Replace
use Rattle.kw_world.specs.declared.answer.Answer.{Answer}
use Rattle.kw_world.specs.declared.event.Event.{Event}
use Rattle.kw_core.specs.Stages.{IsBalancing}

-- all these events are made by one seat. What the other seats know, and what they left half done,
-- is not said: they only make no event
abbrev pub AreOf : ℕ → List Event → Type 0
AreOf s events = All (λ (e : Event). e.seat ≡ s) events

-- an event that takes its seat from this activity to that one is a mark: it ends a call, it has
-- replaced the rows of its group, or it goes on from a rebalance to that of the row before. A put
-- comes to a rebalance from elsewhere, and from its first event a rebalance goes on to the second
pub data IsMark : Activity → Activity → Type 0 where
  ends : (answer : Answer) → IsMark (Activity.Leave answer) Activity.Idle
  wins : IsMark (Activity.Rebalance (Rebalance.Replace Replace.Exchange)) (Activity.Rebalance (Rebalance.Replace Replace.Normalise))
  moves : (a : Activity) → IsBalancing a → IsMark a (Activity.Rebalance (Rebalance.Engage Engage.Clock))
