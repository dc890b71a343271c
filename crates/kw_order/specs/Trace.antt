-- Traces: valid lists of events from an opening, with what they led to.
use Rattle.std.specs.Prelude.{ℕ, ◌≡◌, ◌≤◌, true, Option, Some, List, [], ◌∷◌, ◌++◌}
use Rattle.kw_model.specs.Map.{value_of}
use Rattle.kw_world.specs.declared.event.Event.{Event}
use Rattle.kw_world.specs.declared.event.StepDone.{StepDone}
use Rattle.kw_world.specs.declared.event.StepDone.TheVariants.{Moved, Ended, Skipped}
use Rattle.kw_world.specs.declared.opening.Opening.{Opening}
use Rattle.kw_world.specs.Opening.{IsOpening}
use Rattle.kw_world.specs.Sizes.{product}
use Rattle.kw_world.specs.WorldView.{WorldView}
use Rattle.kw_core.specs.Events.{is_valid, world}
use Rattle.kw_core.specs.History.{History, Scan, Pairs, called}
use Rattle.kw_core.specs.declared.history.Drawn.{Drawn}
use Rattle.kw_core.specs.HistoryLaws.{EndsWith, shows}
use Rattle.kw_core.specs.Recording.{Recording}
use Rattle.kw_laws.specs.Recorder.{Records}
use Rattle.kw_core.specs.Run.{Run, history}
use Rattle.kw_order.specs.Order.{IsTop}

-- a trace as contracts see it: what it began with, and the events that were not skipped
pub record TraceView : Type 0 where
  pub opening : Opening
  pub events : List Event

-- all that led to the world after the trace's events
abbrev pub run_of : TraceView → Run
run_of t = history product t.opening t.events

-- the world after them
abbrev pub world_of : TraceView → WorldView
world_of t = world product t.opening t.events

-- what happened
abbrev pub history_of : TraceView → History
history_of t = (run_of t).history

-- the events are valid from the opening, and led to this world and to this record
pub record IsTrace (t : TraceView) (w : WorldView) (k : Recording) : Type 0 where
  pub opening : IsOpening product t.opening
  pub valid : is_valid product t.opening t.events ≡ true
  pub world : w ≡ world_of t
  pub recorded : Records product k (run_of t)

-- the trace with one more event, unless the event was skipped
abbrev pub pushed : TraceView → Event → StepDone → TraceView
pushed t e Moved = record t { events = t.events ++ e ∷ [] }
pushed t e (Ended reply) = record t { events = t.events ++ e ∷ [] }
pushed t e Skipped = t

-- the trace goes on with these events
abbrev pub longer : TraceView → List Event → TraceView
longer t es = record t { events = t.events ++ es }

-- the scans that ended in one history give the tops of another, which goes on from it
abbrev pub GivesTops : History → History → Type 0
GivesTops h h' = (x from to at : ℕ) (pairs : List (ℕ × ℕ)) (d : Drawn) → EndsWith h x (Scan from to) at (Pairs pairs) → (called h x).draw ≡ Some d →
    (key : ℕ) → from ≤ key → key ≤ to → (o : Option ℕ) × IsTop h' key d.version o × (value_of key pairs ≡ shows h' o)
