-- What is so at each of the activities that take, write and link new rows, and at each that may
-- follow them: the seat stays in its visit, for its put, and is at no row of a walk.
--
-- What a call leaves that asks of a pin, and a look at one, stands here too, and that neither comes
-- to pass as yet.
use Rattle.std.proofs.Common.{ℕ, ◌≡◌, Option, Some, None, true, false, refl, subst}
use Rattle.kw_model.specs.declared.call.Call.{Call}
use Rattle.kw_model.specs.declared.call.Call.TheVariants.{Put, Del, Get, Scan, Pin, ScanAt, Unpin}
use Rattle.kw_rows.specs.Ledger.{Ledger}
use Rattle.kw_world.specs.declared.activity.Activity.{Activity}
use Rattle.kw_world.specs.declared.activity.rebalance.engage.Engage.TheVariants as Engage
use Rattle.kw_world.specs.declared.activity.enter.Enter.TheVariants as Enter
use Rattle.kw_world.specs.declared.activity.put.Put.TheVariants as Put
use Rattle.kw_world.specs.declared.activity.rebalance.Rebalance.TheVariants as Rebalance
use Rattle.kw_world.specs.declared.answer.Answer.TheVariants.{Done, NoRows}
use Rattle.kw_world.specs.declared.local.Local.{Local}
use Rattle.kw_world.specs.declared.event.Choice.{Choice}
use Rattle.kw_world.specs.Calls.{is_pin}
use Rattle.kw_world.specs.Sane.{IsCall}
use Rattle.kw_world.specs.Sizes.{Sizes}
use Rattle.kw_core.specs.Run.{Run}
use Rattle.kw_core.specs.declared.stage.Stage.TheVariants.{Rebalancing}
use Rattle.kw_core.specs.Stages.{IsBalancing, IsBusy, IsDone, IsVisiting, IsPublished, stage_of}
use Rattle.kw_core.specs.Words.{Words}
use Rattle.kw_core.proofs.Building.{IsBuilding}
use Rattle.kw_core.proofs.BuiltNext.{IsAfterBuilding}
use Rattle.kw_core.proofs.Frame.{WritesPass}
use Rattle.kw_core.proofs.Grouping.{GroupGoes}
use Rattle.kw_core.proofs.Happens.{Happens}
use Rattle.kw_core.proofs.Pinning.{IsOfPin, NextOfPin, pins, NextPinLook, sees_pin}
use Rattle.kw_shape.specs.Hands.{IsAllFrozen}
use Rattle.kw_shape.specs.Shape.{IsAnswerOf, IsKind, IsPutCall, IsScanCall, Kinds, Shape, Walks}

-- At such an activity.

-- the seat rebalances its row
built_stage : (a : Activity) → IsBuilding a → stage_of a ≡ Rebalancing
built_stage (Activity.Rebalance (Rebalance.Seek _)) x = refl
built_stage (Activity.Rebalance (Rebalance.Write _)) x = refl
built_stage (Activity.Rebalance (Rebalance.Replace _)) x = refl
built_stage _ x = absurd x

pub built_balancing : (a : Activity) → IsBuilding a → IsBalancing a
built_balancing a x = rw (built_stage a x) tt

-- it is in its visit, and neither enters nor leaves
pub built_visits : (a : Activity) → IsBuilding a → IsVisiting a × IsBusy a
built_visits Activity.Idle x = absurd x
built_visits (Activity.Enter _) x = absurd x
built_visits _ x = (tt, tt)

pub built_pass : (a : Activity) → IsBuilding a → WritesPass a → ⊥
built_pass (Activity.Enter Enter.Announce) x w = x
built_pass (Activity.Leave answer) x w = x
built_pass Activity.Retry x w = x
built_pass _ x w = w

-- it has announced no cell
pub built_unpublished : (a : Activity) → IsBuilding a → IsPublished a → ⊥
built_unpublished (Activity.Put Put.Clock) x p = x
built_unpublished (Activity.Put Put.Stamp) x p = x
built_unpublished (Activity.Put Put.Version) x p = x
built_unpublished (Activity.Insert _) x p = x
built_unpublished (Activity.Put Put.Clear) x p = x
built_unpublished _ x p = p

-- its call is a put
pub built_kinds : (a : Activity) (l : Local) → IsBuilding a → Kinds a l → IsPutCall l.call
built_kinds (Activity.Rebalance (Rebalance.Seek _)) l x k = k.kind
built_kinds (Activity.Rebalance (Rebalance.Write _)) l x k = k.kind
built_kinds (Activity.Rebalance (Rebalance.Replace _)) l x k = k.kind
built_kinds _ l x k = absurd x

-- At what follows.

-- the seat stays in its visit
pub after_visits : (a : Activity) → IsAfterBuilding a → IsVisiting a × IsBusy a
after_visits Activity.Idle x = absurd x
after_visits (Activity.Enter _) x = absurd x
after_visits _ x = (tt, tt)

-- a put may be refused for want of rows
no_rows : (c : Option Call) → IsPutCall c → IsAnswerOf c NoRows
no_rows (Some (Put key value)) k = tt
no_rows (Some (Del key)) k = tt
no_rows (Some (Get key)) k = k
no_rows (Some (Scan from upto)) k = k
no_rows (Some Pin) k = k
no_rows (Some (ScanAt from upto)) k = k
no_rows (Some Unpin) k = k
no_rows None k = k

-- or done
is_served : (c : Option Call) → IsPutCall c → IsAnswerOf c Done
is_served (Some (Put key value)) k = tt
is_served (Some (Del key)) k = tt
is_served (Some (Get key)) k = k
is_served (Some (Scan from upto)) k = k
is_served (Some Pin) k = k
is_served (Some (ScanAt from upto)) k = k
is_served (Some Unpin) k = k
is_served None k = k

-- its activity is one of its put
pub after_kinds : (a : Activity) (l : Local) → IsAfterBuilding a → IsPutCall l.call → Kinds a l
after_kinds (Activity.Rebalance (Rebalance.Seek _)) l x p = record { kind = p; range = λ u. absurd u }
after_kinds (Activity.Rebalance (Rebalance.Write _)) l x p = record { kind = p; range = λ u. absurd u }
after_kinds (Activity.Rebalance (Rebalance.Replace _)) l x p = record { kind = p; range = λ u. absurd u }
after_kinds Activity.Retry l x p = record { kind = p; range = λ u. absurd u }
after_kinds (Activity.Rebalance (Rebalance.Engage Engage.Clock)) l x p = record { kind = p; range = λ u. absurd u }
after_kinds (Activity.Leave NoRows) l x p = record { kind = no_rows l.call p; range = λ u. absurd u }
after_kinds (Activity.Leave Done) l x p = record { kind = is_served l.call p; range = λ u. absurd u }
after_kinds _ l x p = absurd x

-- it is at no row of a walk
pub after_walks : (v : Words) (g : Ledger) (t : ℕ) (a : Activity) (l : Local) → IsAfterBuilding a → Walks v g t a l
after_walks v g t (Activity.Rebalance (Rebalance.Seek _)) l x = record { on = tt; lower = λ u. absurd u; built = λ u. absurd u; at = λ u. absurd u; begins = λ u. absurd u; wants = λ u. absurd u }
after_walks v g t (Activity.Rebalance (Rebalance.Write _)) l x = record { on = tt; lower = λ u. absurd u; built = λ u. absurd u; at = λ u. absurd u; begins = λ u. absurd u; wants = λ u. absurd u }
after_walks v g t (Activity.Rebalance (Rebalance.Replace _)) l x = record { on = tt; lower = λ u. absurd u; built = λ u. absurd u; at = λ u. absurd u; begins = λ u. absurd u; wants = λ u. absurd u }
after_walks v g t Activity.Retry l x = record { on = tt; lower = λ u. absurd u; built = λ u. absurd u; at = λ u. absurd u; begins = λ u. absurd u; wants = λ u. absurd u }
after_walks v g t (Activity.Rebalance (Rebalance.Engage Engage.Clock)) l x = record { on = tt; lower = λ u. absurd u; built = λ u. absurd u; at = λ u. absurd u; begins = λ u. absurd u; wants = λ u. absurd u }
after_walks v g t (Activity.Leave Done) l x = record { on = tt; lower = λ u. absurd u; built = λ u. absurd u; at = λ u. absurd u; begins = λ u. absurd u; wants = λ u. absurd u }
after_walks v g t (Activity.Leave NoRows) l x = record { on = tt; lower = λ u. absurd u; built = λ u. absurd u; at = λ u. absurd u; begins = λ u. absurd u; wants = λ u. absurd u }
after_walks v g t _ l x = absurd x

-- a seat that has frozen rows there builds on, so what it knows of them stays (`built_keeps`)
pub frozen_builds : (a : Activity) → IsAfterBuilding a → IsAllFrozen a → IsBuilding a
frozen_builds Activity.Retry b x = absurd x
frozen_builds (Activity.Rebalance (Rebalance.Engage Engage.Clock)) b x = absurd x
frozen_builds (Activity.Leave NoRows) b x = absurd x
frozen_builds (Activity.Leave Done) b x = absurd x
frozen_builds _ b x = b

-- Where a seat asks of a pin, or looks at one.

-- a call that asks of one goes on
pub record OfPinGoes (l k : Local) : Type 0 where
  pub call : k.call ≡ l.call
  pub number : k.number ≡ l.number
  pub epoch : k.epoch ≡ l.epoch
  pub pin : k.pin ≡ l.pin
  pub tidies : k.tidies ≡ l.tidies
  pub done : IsDone k.activity → ⊥

pub of_pin_goes : (l k : Local) → NextOfPin l k → OfPinGoes l k
of_pin_goes l k (pins e f) = record { call = refl; number = refl; epoch = refl; pin = refl; tidies = refl; done = λ d. d }
of_pin_goes l k _ = record { call = refl; number = refl; epoch = refl; pin = refl; tidies = refl; done = λ d. d }

-- a rebalance that looks at one goes on with its group
pub look_goes : (z : Sizes) (i w : ℕ) (l k : Local) → NextPinLook z i w l k → GroupGoes l k
look_goes z i w l k (sees_pin version e o) = record { call = refl; number = refl; epoch = refl; row = refl; lower = refl; gathered = refl; pairs = refl; tidies = refl; after = refl; second = refl; next = tt }
look_goes z i w l k _ = record { call = refl; number = refl; epoch = refl; row = refl; lower = refl; gathered = refl; pairs = refl; tidies = refl; after = refl; second = refl; next = tt }

-- no call asks of a pin
pub asks_of_none : {A : Type 0} (c : Option Call) → IsCall c → IsOfPin c → A
asks_of_none (Some (Put key value)) i x = absurd x
asks_of_none (Some (Del key)) i x = absurd x
asks_of_none (Some (Get key)) i x = absurd x
asks_of_none (Some (Scan from upto)) i x = absurd x
asks_of_none (Some Pin) i x = absurd i
asks_of_none (Some (ScanAt from upto)) i x = absurd i
asks_of_none (Some Unpin) i x = absurd i
asks_of_none None i x = absurd x

-- a scan is no pin
pub scan_is_no_pin : {A : Type 0} (c : Option Call) → IsScanCall c → is_pin c ≡ true → A
scan_is_no_pin (Some (Put key value)) k e = absurd k
scan_is_no_pin (Some (Del key)) k e = absurd k
scan_is_no_pin (Some (Get key)) k e = absurd k
scan_is_no_pin (Some (Scan from upto)) k e = let x : false ≡ true = e in absurd (cc)
scan_is_no_pin (Some Pin) k e = absurd k
scan_is_no_pin (Some (ScanAt from upto)) k e = absurd k
scan_is_no_pin (Some Unpin) k e = absurd k
scan_is_no_pin None k e = absurd k

module _ {z : Sizes} {r r' : Run} {s : ℕ} {choice : Choice} {l l' : Local} where
  -- the activity of the acting seat is one of its call
  pub kind_at : (a : Activity) → Happens z r r' s choice l l' a → Shape z r → IsKind a l
  kind_at a h i = subst (λ (c : Activity). IsKind c l) h.activity (i.kinds s l h.knows).kind

  -- its call asks of no pin
  pub no_call_of_pin : {A : Type 0} (a : Activity) → Happens z r r' s choice l l' a → Shape z r → IsOfPin l.call → A
  no_call_of_pin a h i x = asks_of_none l.call (i.sane.locals s l h.knows).ranges.call x
