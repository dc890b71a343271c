-- Which events a simulator may make.
use Rattle.std.proofs.Common.{◌≡◌, ◌<◌, Some, length, slice_get, arith}
use Rattle.kw_model.specs.declared.call.Call.{Call}
use Rattle.kw_model.specs.declared.call.Call.TheVariants.{Put, Del, Get, Scan, Pin, ScanAt, Unpin}
use Rattle.kw_line.specs.Line.{FitsCall}
use Rattle.kw_world.specs.declared.activity.Activity.{Activity}
use Rattle.kw_world.specs.declared.activity.Activity.TheVariants as Activity
use Rattle.kw_world.specs.declared.event.Choice.{Choice}
use Rattle.kw_world.specs.declared.event.Choice.TheVariants.{Begin}
use Rattle.kw_world.specs.declared.event.Event.{Event}
use Rattle.kw_world.specs.declared.local.Local.{Local}
use Rattle.kw_world.specs.declared.limits.TheConstants.{MOST_CALLS}
use Rattle.kw_world.specs.Sizes.{product}
use Rattle.kw_world.specs.Sane.{IsCall, CanBegin, CanStep, CanBeginAt}
use Rattle.kw_order.specs.Trace.{TraceView, world_of}
use Rattle.kw_sim.specs.Meaning.{FitsChoice}
use Rattle.kw_sim.proofs.Numbers.{numbers_up_to}

-- a call whose numbers are in range is one that a seat may begin
in_range : (call : Call) → FitsCall call → IsCall (Some call)
in_range (Put key value) h = (omega (arith, h.0), omega (arith, h.1))
in_range (Del key) h = omega (arith, h)
in_range (Get key) h = omega (arith, h)
in_range (Scan from upto) h = (omega (arith, h.0), omega (arith, h.1))
in_range Pin h = absurd h
in_range (ScanAt from upto) h = absurd h
in_range Unpin h = absurd h

-- an event whose numbers are in range can be made, as long as there are few enough
pub can_step : (t : TraceView) (e : Event) → FitsChoice e.choice → length t.events < MOST_CALLS → CanStep (world_of t) e
can_step t e fits few = λ l knows. by_choice e.choice fits l (number l knows)
  where
    number : (l : Local) → slice_get (world_of t).locals e.seat ≡ Some l → l.number < MOST_CALLS
    number l knows = omega (arith, few, numbers_up_to product t.opening t.events e.seat l knows)

    by_choice : (choice : Choice) → FitsChoice choice → (l : Local) → l.number < MOST_CALLS → CanBegin choice l
    by_choice choice b l n = at l.activity choice b
      where
        at : (a : Activity) (c : Choice) → FitsChoice c → CanBeginAt a c l
        at Activity.Idle (Begin call) b = (in_range call b, n)
        at _ c b = tt
