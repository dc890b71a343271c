-- What is known of an event before it is made.
use Rattle.kw_words.specs.declared.layout.Name.TheVariants.{Clock}
use Rattle.kw_world.specs.declared.local.Local.{Local}
use Rattle.kw_world.specs.declared.event.Event.{Event}
use Rattle.kw_world.specs.Sizes.{Sizes}
use Rattle.kw_world.specs.WorldView.{WorldView}
use Rattle.kw_world.specs.WalkTransitions.{offered}
use Rattle.kw_world.specs.Step.{word, transition_at}
use Rattle.kw_core.specs.History.{Logged}
use Rattle.kw_core.specs.Run.{found_by, logged}
use Rattle.kw_core.specs.declared.change.Happening.{Happening}

-- the event that a seat that knows l is about to make
abbrev pub happening_at : Sizes → WorldView → Event → Local → Happening
happening_at z w e l = record { seat = e.seat; choice = offered w.rows e.choice; found = found_by z w e l; kind = (transition_at z w e l).operation.kind; clock = word z w Clock }

-- its entry in the log
abbrev pub logged_of : Happening → Logged
logged_of x = logged x.seat x.kind x.clock
