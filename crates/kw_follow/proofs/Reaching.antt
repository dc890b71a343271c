-- How a call goes on in its middle, by single events and from one part to the next.
use Rattle.std.proofs.Common.{◌≡◌, ◌∙◌, ℕ, Some, false, refl}
use Rattle.kw_world.specs.declared.event.Choice.{Choice}
use Rattle.kw_world.specs.declared.event.Choice.TheVariants.{Go}
use Rattle.kw_world.specs.declared.event.StepDone.{StepDone}
use Rattle.kw_world.specs.declared.local.Local.{Local}
use Rattle.kw_world.specs.Sizes.{product}
use Rattle.kw_world.specs.Step.{next_of}
use Rattle.kw_world.specs.Transition.{outcome}
use Rattle.kw_world.specs.WalkTransitions.{is_stop}
use Rattle.kw_model.specs.declared.call.Call.{Call}
use Rattle.kw_table.specs.declared.pass.Pass.{Pass}
use Rattle.kw_table.specs.declared.shared.Shared.{Shared}
use Rattle.kw_table.specs.Passes.{Makes}
use Rattle.kw_table.proofs.Prefixes.{prefix_self}
use Rattle.kw_follow.specs.Following.{Follows}
use Rattle.kw_follow.specs.Moving.{Begins, WentOn}
use Rattle.kw_follow.specs.Reaching.{Advances, Reaches}
use Rattle.kw_follow.proofs.Carrying.{IsGoingOn}
use Rattle.kw_follow.proofs.Growing.{keeps}
use Rattle.kw_follow.proofs.OneEvent.{Went, goes_in, goes_stay, went, went_follows}
use Rattle.kw_follow.proofs.OwnEvents.{goes_trans}
use Rattle.kw_follow.proofs.ReadEvents.{goes_by}
use Rattle.kw_follow.proofs.RestingCall.{opens_on}

-- nothing has happened yet
pub reaches_none : {s : Shared} {p : Pass} {l : Local} → Follows s p l → Reaches s p p l
reaches_none f = record { goes = record { of_table = f.of_table; number = refl; opening = refl; seen = prefix_self _ }; follows = f; calls = refl }

-- an event in the middle of a call
pub reaches_by : {s : Shared} {p q : Pass} {c : Choice} {l m : Local} {done : StepDone} {told : ℕ} → Went s p q c l m done told → IsGoingOn l.activity → Reaches s p q m
reaches_by {s} {p} {q} {c} {l} {m} {done} {told} w going = record {
  goes = goes_by s p q c told w.makes;
  follows = went_follows w going;
  calls = keeps w.makes (goes_stay _ (goes_in s p l w.follows going));
}

-- code goes on by the table, where the choice is to go on
pub went_by : {s : Shared} {p q : Pass} {told : ℕ} (l m : Local) (done : StepDone) → Follows s p l → Makes s p Go told q → outcome m done ≡ next_of product s.opening.rows Go l told → Went s p q Go l m done told
went_by {s} {p} {q} {told} l m done f makes line = went s p q Go l m done told s.opening.rows Go f makes refl refl line

-- two parts of the way
pub reaches_trans : {s : Shared} {p q r : Pass} {l m : Local} → Reaches s p q l → Reaches s q r m → Reaches s p r m
reaches_trans {s} {p} {q} {r} {l} {m} a b = record { goes = goes_trans s p q r a.goes b.goes; follows = b.follows; calls = b.calls ∙ a.calls }

-- Where the pairs stay.

-- an event in the middle of a call that does not stop a scan
pub advances_on : {s : Shared} {p q : Pass} {c : Choice} {l m : Local} → WentOn s p l c q m → is_stop c ≡ false → Advances s p q m
advances_on w goes = record { goes = w.goes; follows = w.follows; calls = w.calls; held = w.held goes }

-- two parts of the way
pub advances_trans : {s : Shared} {p q r : Pass} {l m : Local} → Advances s p q l → Advances s q r m → Advances s p r m
advances_trans {s} {p} {q} {r} {l} {m} a b = record { goes = goes_trans s p q r a.goes b.goes; follows = b.follows; calls = b.calls ∙ a.calls; held = b.held ∙ a.held }

-- a call that has begun and goes on has begun still, as long as it knows its call and has read no
-- row
pub begins_on : {s : Shared} {p q r : Pass} {call : Call} {l m : Local} → Begins s p q call l → Advances s q r m → m.call ≡ Some call → m.has_read ≡ false → Begins s p r call m
begins_on {s} {p} {q} {r} b a asks unread = record { goes = goes_trans s p q r b.goes a.goes; follows = a.follows; opens = opens_on b.opens a.calls; asks = asks; unread = unread; held = a.held ∙ b.held }
