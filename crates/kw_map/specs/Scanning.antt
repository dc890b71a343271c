-- Where a scan stands between its rows, and what it took when it stopped.
use Rattle.std.specs.Prelude.{◌≡◌, ◌⊎◌, ◌≤◌, ◌++◌, ℕ, true, Option, List, Result, OnOk, OnErr, MatchResult, take}
use mathlib.Core.List.{IsPrefix}
use Rattle.kw_model.specs.declared.call.Call.{Call}
use Rattle.kw_world.specs.declared.answer.Answer.TheVariants as answer
use Rattle.kw_world.specs.declared.activity.Activity.TheVariants as Activity
use Rattle.kw_world.specs.declared.event.Event.{Event}
use Rattle.kw_world.specs.declared.local.Local.{Local}
use Rattle.kw_world.specs.Sizes.{product}
use Rattle.kw_core.specs.Run.{history}
use Rattle.kw_laws.specs.Laws.{IsDrawnCover}
use Rattle.kw_core.specs.Stages.{is_walking}
use Rattle.kw_table.specs.declared.pass.Pass.{Pass}
use Rattle.kw_table.specs.Passes.{view}
use Rattle.kw_follow.specs.OwnEvents.{knew}
use Rattle.kw_follow.specs.Following.{held}
use Rattle.kw_live.specs.Reading.{GoesOn}
use Rattle.kw_model.specs.Counts.{CountRose}
use Rattle.kw_model.specs.Map.{Pairs}
use Rattle.kw_map.specs.Gather.{IsBelow, Takes, TakesPrefix}
use Rattle.kw_map.specs.declared.gather.Stop.{Stop}

-- the scan is on its way to the row of the key that it wants, and the gatherer took no key from
-- there on; or it has all its pairs
abbrev pub IsBetween : {S : Type 0} → (S → Option ℕ) → S → Local → Type 0
IsBetween last s l = ((is_walking l.activity ≡ true) × IsBelow (last s) l.want) ⊎ (l.activity ≡ Activity.EndScan answer.Pairs)

-- the pairs that it had then
abbrev pub had : Pass → List Event → List (ℕ × ℕ)
had p es = (knew p es).pairs

-- the gatherer of this call stopped: after some events the seat was in the middle of the call and
-- had the pairs of its range at the version that it drew, up to some key; of these the gatherer
-- took the first ones, where Took says that it took these pairs
pub record StoppedAt (Took : List (ℕ × ℕ) → Type 0) (p q : Pass) (call : Option Call) : Type 0 where
  pub front : List Event
  pub later : IsPrefix (view p).seen front
  pub here : IsPrefix front (view q).seen
  pub asks : (knew p front).call ≡ call
  pub bound : ℕ
  pub covers : IsDrawnCover (history product (view p).opening front) (view p).number (knew p front) bound (had p front)
  pub took : (n : ℕ) × Took (take n (had p front))

-- a scan read some rows, the last of them for the keys from `low` on, and has these pairs of them:
-- the gatherer took them all, or the first of them, and stopped
pub record ReadsRows {S : Type 0} (last : S → Option ℕ) (stands : S → Pairs → Type 0) (stops : S → ℕ) (upto : ℕ) (p : Pass) (l : Local) (old : S) (q : Pass) (m : Local) (new : S) (ended : Result Unit Stop) : Type 0 where
  pub low : ℕ
  pub rises : l.want ≤ low
  pub stage : GoesOn low upto l.version m ⊎ (m.activity ≡ Activity.EndScan answer.Pairs)
  pub pairs : Pairs
  pub held : held q ≡ held p ++ pairs
  pub all : OnOk ended (Takes last stands old pairs new)
  pub between : OnOk ended (IsBetween last new m)
  pub prefix : OnErr ended (TakesPrefix last stands old pairs new)
  pub stopped : OnErr ended (CountRose (stops old) (stops new))
  pub never_falls : stops old ≤ stops new

-- a scan of this call read its rows: it is about to leave with its pairs, all of which the gatherer
-- took, or because it stopped
pub record GathersRows {S : Type 0} (last : S → Option ℕ) (stands : S → Pairs → Type 0) (stops : S → ℕ) (p : Pass) (l : Local) (old : S) (q : Pass) (m : Local) (new : S) (ended : Result Unit Stop) : Type 0 where
  pub leaves : MatchResult ended (λ done. m.activity ≡ Activity.Leave answer.Pairs) (λ stop. m.activity ≡ Activity.Leave answer.Stopped)
  pub all : OnOk ended (Takes last stands old (held q) new)
  pub prefix : OnErr ended (StoppedAt (λ pairs. Takes last stands old pairs new) p q l.call)
  pub stopped : OnErr ended (CountRose (stops old) (stops new))
