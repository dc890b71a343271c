-- One event of a pass: from what it was told to all that is said of it.
use Rattle.std.proofs.Common.{ℕ, ◌≡◌, refl, ◌∙◌, ap, subst}
use Rattle.kw_world.specs.declared.activity.Activity.{Activity}
use Rattle.kw_world.specs.declared.event.Choice.{Choice}
use Rattle.kw_world.specs.declared.event.Choice.TheVariants.{Begin, Go}
use Rattle.kw_world.specs.declared.event.StepDone.{StepDone}
use Rattle.kw_world.specs.declared.local.Local.{Local}
use Rattle.kw_world.specs.Local.{resting}
use Rattle.kw_world.specs.Sizes.{product}
use Rattle.kw_world.specs.Step.{next_of}
use Rattle.kw_world.specs.Table.{transition}
use Rattle.kw_world.specs.Transition.{outcome}
use Rattle.kw_world.specs.WalkTransitions.{offered}
use Rattle.kw_model.specs.declared.call.Call.{Call}
use Rattle.kw_table.specs.declared.pass.Pass.{Pass}
use Rattle.kw_table.specs.declared.shared.Shared.{Shared}
use Rattle.kw_table.specs.Passes.{Makes}
use Rattle.kw_follow.specs.Following.{Follows, activity_in}
use Rattle.kw_follow.specs.Moving.{Begins, FollowsAt, Moves, WentOn}
use Rattle.kw_follow.specs.OwnEvents.{SawOnly}
use Rattle.kw_follow.proofs.Carrying.{IsGoingOn}
use Rattle.kw_follow.proofs.Ends.{begin_follows, begin_holds, begin_is}
use Rattle.kw_follow.proofs.Growing.{keeps, opens}
use Rattle.kw_follow.proofs.OneEvent.{Went, went, goes_in, goes_stay, makes_saw, same_activity, went_follows, went_held, went_line}
use Rattle.kw_follow.proofs.OwnEvents.{only_event}
use Rattle.kw_follow.proofs.PutEvents.{next_at}
use Rattle.kw_follow.proofs.ReadEvents.{goes_by}

-- the pass moved by what it was told and by what followed from that
pub moves : {s : Shared} {p q : Pass} {l m : Local} {c : Choice} {done : StepDone} {told : ℕ} → Makes s p c told q → outcome m done ≡ next_of product s.opening.rows (offered s.opening.rows c) l told → Moves s p l c q m done
moves {s} {p} {q} {l} {m} {c} {done} {told} makes line = record { told = told; makes = makes; line = line }

-- the same by the line of an activity
pub moves_at : {s : Shared} {p q : Pass} {l m : Local} {done : StepDone} {told : ℕ} (a : Activity) → FollowsAt s p l a → Makes s p Go told q → outcome m done ≡ (transition product a 0 Go l).next s.opening.rows told → Moves s p l Go q m done
moves_at {s} {p} {q} {l} {m} {done} {told} a at makes line = moves makes (line ∙ next_at s.opening.rows a l told at.activity)

module _ {s : Shared} {p q : Pass} {l m : Local} {c : Choice} {done : StepDone} where
  -- a move of a pass that the local follows
  pub went_in : Follows s p l → (w : Moves s p l c q m done) → Went s p q c l m done w.told
  went_in f w = went s p q c l m done w.told s.opening.rows (offered s.opening.rows c) f w.makes refl refl w.line

  -- the call goes on by it
  pub went_on : Follows s p l → IsGoingOn l.activity → Moves s p l c q m done → WentOn s p l c q m
  went_on f going w = record {
    told = w.told;
    goes = goes_by s p q c w.told w.makes;
    follows = went_follows (went_in f w) going;
    line = went_line (went_in f w) going;
    saw = makes_saw f w.makes;
    only = subst (λ (a : Activity). SawOnly p q a w.told) (same_activity s p l f) (only_event w.makes);
    calls = keeps w.makes (goes_stay _ (goes_in s p l f going));
    held = went_held (went_in f w) going;
  }

-- a call begins by it
pub begins_by : {s : Shared} {p q : Pass} {l m : Local} {call : Call} {done : StepDone} → activity_in p ≡ Activity.Idle → l ≡ resting 0 → Moves s p l (Begin call) q m done → Begins s p q call m
begins_by {s} {p} {q} {l} {m} {call} idle rests w = record {
  goes = goes_by s p q (Begin call) w.told w.makes;
  follows = begin_follows _ idle w.makes rests w.line;
  opens = opens w.makes idle;
  asks = ap (λ (k : Local). k.call) (begin_is _ rests w.line);
  unread = ap (λ (k : Local). k.has_read) (begin_is _ rests w.line);
  held = begin_holds idle w.makes;
}
