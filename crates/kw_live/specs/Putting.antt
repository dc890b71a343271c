-- How a put or a delete goes through its row, and how it ends there.
use Rattle.std.specs.Prelude.{◌≡◌, Bool, true, false, ℕ, ◌+◌, ◌*◌, ◌-◌, ◌<◌}
use Rattle.kw_words.specs.declared.sizes.TheConstants.{CELLS}
use Rattle.kw_world.specs.declared.answer.Answer.TheVariants as answer
use Rattle.kw_world.specs.declared.activity.Activity.{Activity}
use Rattle.kw_world.specs.declared.activity.rebalance.engage.Engage.TheVariants as Engage
use Rattle.kw_world.specs.declared.activity.insert.Insert.TheVariants as Insert
use Rattle.kw_world.specs.declared.activity.put.Put.TheVariants as Put
use Rattle.kw_world.specs.declared.activity.rebalance.Rebalance.TheVariants as Rebalance
use Rattle.kw_world.specs.declared.local.Local.{Local}
use Rattle.kw_core.specs.Stages.{IsInserting}
use Rattle.kw_follow.specs.Calling.{KeepsCalls}
use Rattle.kw_follow.specs.Following.{Follows, GoesTo, held}
use Rattle.kw_live.specs.declared.putting.TryPut.{TryPut}
use Rattle.kw_live.specs.declared.putting.TryPut.TheVariants.{Done, Tidies, RowFull}
use Rattle.kw_table.specs.declared.pass.Pass.{Pass}
use Rattle.kw_table.specs.declared.shared.Shared.{Shared}
use Rattle.kw_live.specs.Sights.{SawFull}

-- the put is at its row, and not done
abbrev pub is_trying : Activity → Bool
is_trying (Activity.Put Put.Clear) = false
is_trying (Activity.Put _) = true
is_trying (Activity.Insert _) = true
is_trying _ = false

-- where a put or a delete stands that ended so at its row
abbrev pub stands_after : TryPut → Activity
stands_after Done = Activity.Leave answer.Done
stands_after Tidies = Activity.Rebalance (Rebalance.Engage Engage.Clock)
stands_after (RowFull row) = Activity.Rebalance (Rebalance.Engage Engage.Clock)

-- whether it tidies its row
abbrev pub tidies_after : TryPut → Bool
tidies_after Done = false
tidies_after Tidies = true
tidies_after (RowFull row) = false

-- the put found its row full
abbrev pub Tried : Pass → Pass → ℕ → TryPut → Type 0
Tried p q row Done = Unit {0}
Tried p q row Tidies = Unit {0}
Tried p q row (RowFull full) = (full ≡ row) × SawFull p q

-- how many events a put makes at most from one exchange that it loses to the next, but for the one
-- by which its walk may begin behind a cell: to load a link, and the key and the version of the
-- cell that it reaches there, for each cell; then to load the last link, to store its own, and to
-- exchange
abbrev pub each_walk : ℕ
each_walk = 3 * CELLS + 4

-- how many events a put has yet to make at most, with so many cells reached on its walk and so many
-- exchanges lost. It reaches fewer cells, and loses fewer exchanges, than the row has cells
abbrev pub put_ahead : Activity → ℕ → ℕ → ℕ
put_ahead (Activity.Put Put.Count) walked lost = CELLS * each_walk + each_walk + 8
put_ahead (Activity.Put Put.Add) walked lost = CELLS * each_walk + each_walk + 7
put_ahead (Activity.Put Put.Key) walked lost = CELLS * each_walk + each_walk + 6
put_ahead (Activity.Put Put.Value) walked lost = CELLS * each_walk + each_walk + 5
put_ahead (Activity.Put Put.Announce) walked lost = CELLS * each_walk + each_walk + 4
put_ahead (Activity.Put Put.Clock) walked lost = CELLS * each_walk + each_walk + 3
put_ahead (Activity.Put Put.Stamp) walked lost = CELLS * each_walk + each_walk + 2
put_ahead (Activity.Put Put.Version) walked lost = CELLS * each_walk + each_walk + 1
put_ahead (Activity.Insert Insert.Start) walked lost = (CELLS - lost) * each_walk + 3 * (CELLS - walked) + 4
put_ahead (Activity.Insert Insert.Link) walked lost = (CELLS - lost) * each_walk + 3 * (CELLS - walked) + 4
put_ahead (Activity.Insert Insert.Key) walked lost = (CELLS - lost) * each_walk + 3 * (CELLS - walked) + 6
put_ahead (Activity.Insert Insert.Version) walked lost = (CELLS - lost) * each_walk + 3 * (CELLS - walked) + 5
put_ahead (Activity.Insert Insert.Set) walked lost = (CELLS - lost) * each_walk + 3
put_ahead (Activity.Insert Insert.Exchange) walked lost = (CELLS - lost) * each_walk + 2
put_ahead (Activity.Put Put.Clear) walked lost = 1
put_ahead _ walked lost = 0

-- a put has made events along its row's list, one or more. It still inserts its cell there, and has
-- fewer to make
pub record InsertsFurther (s : Shared) (p : Pass) (l : Local) (q : Pass) (m : Local) : Type 0 where
  pub goes : GoesTo s p q
  pub follows : Follows s q m
  pub calls : KeepsCalls p q
  pub held : held q ≡ held p
  pub inserting : IsInserting m.activity
  pub fewer : put_ahead m.activity m.walked m.lost < put_ahead l.activity l.walked l.lost
