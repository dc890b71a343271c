-- Single events of a pass, as the causes of what it answers.
use Rattle.std.specs.Prelude.{◌≡◌, ◌⊎◌, ℕ, ◌≤◌, true, Option, Some, None, List, [], ◌∷◌, ◌++◌}
use mathlib.Core.List.{IsPrefix}
use Rattle.kw_words.specs.declared.count.Count.{Count}
use Rattle.kw_words.specs.declared.pend.Pend.TheVariants.{Frozen}
use Rattle.kw_words.specs.declared.sizes.TheConstants.{CELLS}
use Rattle.kw_words.specs.Count.{count_of}
use Rattle.kw_words.specs.Pend.{pend_word}
use Rattle.kw_world.specs.declared.activity.Activity.{Activity}
use Rattle.kw_world.specs.declared.activity.draw.Draw.TheVariants as Draw
use Rattle.kw_world.specs.declared.activity.put.Put.TheVariants as Put
use Rattle.kw_world.specs.declared.event.Choice.{Choice}
use Rattle.kw_world.specs.declared.event.Choice.TheVariants.{Go}
use Rattle.kw_world.specs.declared.event.Event.{Event}
use Rattle.kw_core.specs.Events.{of_seat, event}
use Rattle.kw_table.specs.declared.pass.Pass.{Pass}
use Rattle.kw_table.specs.Passes.{view}
use Rattle.kw_follow.specs.OwnEvents.{Saw}

-- the count is frozen, or all cells of its row were given
abbrev pub IsFullCount : Option Count → Type 0
IsFullCount (Some count) = (count.frozen ≡ true) ⊎ (CELLS ≤ count.given)
IsFullCount None = ⊥

-- what an event of a put at its row was told says that it gets no cell there, or no version for it:
-- the count is full, or its entry is frozen
abbrev pub TellsFull : Activity → ℕ → Type 0
TellsFull (Activity.Put Put.Count) told = IsFullCount (count_of told)
TellsFull (Activity.Put Put.Add) told = IsFullCount (count_of told)
TellsFull (Activity.Put Put.Announce) told = told ≡ pend_word Frozen
TellsFull (Activity.Put Put.Stamp) told = told ≡ pend_word Frozen
TellsFull _ told = ⊥

-- the pass found that its row is full
pub record SawFull (p q : Pass) : Type 0 where
  pub activity : Activity
  pub told : ℕ
  pub saw : Saw p q activity Go told
  pub full : TellsFull activity told

-- the clock that a scan loads first
pub record SawClock (p q : Pass) (clock : ℕ) : Type 0 where
  pub saw : Saw p q (Activity.Draw Draw.Clock) Go clock

-- the next event of the pass's own, after what it had seen, has this choice
pub record BeginsWith (p q : Pass) (c : Choice) : Type 0 where
  pub front : List Event
  pub later : IsPrefix (view p).seen front
  pub first : of_seat (view p).number front ≡ of_seat (view p).number (view p).seen
  pub here : IsPrefix (front ++ event (view p).number c ∷ []) (view q).seen
