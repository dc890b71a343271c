-- A get that leaves its local at rest: how it begins, how it announces its epoch, and how it ends.
use Rattle.std.proofs.Common.{ℕ, ◌≡◌, ◌∙◌, refl}
use Rattle.kw_model.specs.declared.call.Call.{Call}
use Rattle.kw_model.specs.declared.call.Call.TheVariants.{Get}
use Rattle.kw_world.specs.declared.activity.Activity.TheVariants as Activity
use Rattle.kw_world.specs.declared.activity.enter.Enter.TheVariants as Enter
use Rattle.kw_world.specs.declared.event.Choice.TheVariants.{Begin, Go}
use Rattle.kw_world.specs.declared.event.StepDone.TheVariants.{Moved}
use Rattle.kw_world.specs.declared.local.Local.{Local}
use Rattle.kw_world.specs.Local.{resting}
use Rattle.kw_world.specs.Sizes.{product}
use Rattle.kw_world.specs.Step.{next_of, transition_of}
use Rattle.kw_world.specs.Transition.{outcome}
use Rattle.kw_table.specs.declared.pass.Pass.{Pass}
use Rattle.kw_table.specs.declared.shared.Shared.{Shared}
use Rattle.kw_table.specs.Passes.{Makes}
use Rattle.kw_follow.specs.Calling.{KeepsCalls, Opens}
use Rattle.kw_follow.specs.Following.{Follows}
use Rattle.kw_follow.specs.Ways.{entering, starting}
use Rattle.kw_follow.proofs.OneEvent.{Went, went}
use Rattle.kw_follow.proofs.PutEvents.{next_at}

-- a get that begins
pub enters : (rows key told : ℕ) → outcome (entering key told) Moved ≡ next_of product rows (Begin (Get key)) (resting 0) told
unfolding transition_of
enters rows key told = refl

-- and announces its epoch
pub announces : {s : Shared} {p q : Pass} {told : ℕ} (key epoch : ℕ) → Follows s p (entering key epoch) → Makes s p Go told q → Went s p q Go (entering key epoch) (starting key epoch) Moved told
announces {s} {p} {q} {told} key epoch f makes = went s p q Go _ _ Moved told s.opening.rows Go f makes refl refl (next_at s.opening.rows (Activity.Enter Enter.Announce) (entering key epoch) told refl)

-- a call that ends, whatever becomes of its local
pub leaves : {s : Shared} {p q : Pass} {told : ℕ} (l : Local) → Follows s p l → Makes s p Go told q → Went s p q Go l (next_of product s.opening.rows Go l told).local (next_of product s.opening.rows Go l told).done told
leaves {s} {p} {q} {told} l f makes = went s p q Go l _ _ told s.opening.rows Go f makes refl refl refl

-- a call that has begun has begun still when more was seen
pub opens_on : {p q r : Pass} {call : Call} → Opens p q call → KeepsCalls q r → Opens p r call
opens_on o k = record { first = o.first; number = o.number; begins = o.begins; calls = k ∙ o.calls }
