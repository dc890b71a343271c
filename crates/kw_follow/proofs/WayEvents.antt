-- The events that every call makes on its way: what each asks, and what follows.
use Rattle.std.proofs.Common.{◌≡◌, ◌<◌, ◌≤◌, ◌∙◌, ℕ, true, arith, refl, ap, sym, subst, length}
use Rattle.kw_words.specs.declared.kind.Kind.TheVariants as kind
use Rattle.kw_words.specs.State.{state_of}
use Rattle.kw_words.specs.declared.layout.Name.TheVariants.{Epoch, State}
use Rattle.kw_words.specs.declared.sizes.TheConstants.{SEATS}
use Rattle.kw_model.specs.declared.call.Call.{Call}
use Rattle.kw_world.specs.declared.activity.Activity.{Activity}
use Rattle.kw_world.specs.declared.activity.look.Look.TheVariants as Look
use Rattle.kw_world.specs.declared.activity.walk.Walk.TheVariants as Walk
use Rattle.kw_world.specs.declared.event.Choice.TheVariants.{Begin, Guess}
use Rattle.kw_world.specs.declared.local.Local.{Local}
use Rattle.kw_world.specs.declared.operation.Action.TheVariants.{Load}
use Rattle.kw_world.specs.Local.{resting}
use Rattle.kw_world.specs.Sane.{IsActivity, marks_by}
use Rattle.kw_world.specs.Sizes.{product}
use Rattle.kw_world.specs.Step.{is_skipped, next_of, transition_of}
use Rattle.kw_world.specs.Table.{transition}
use Rattle.kw_world.specs.WalkTransitions.{guess_seen, offered}
use Rattle.kw_core.specs.Stages.{IsBusy}
use Rattle.kw_core.specs.Events.{is_call_in_range, may_begin}
use Rattle.kw_table.specs.declared.pass.Pass.{Pass}
use Rattle.kw_table.specs.declared.shared.Shared.{Shared}
use Rattle.kw_table.specs.Passes.{view, operation, Asks, IsPassOf}
use Rattle.kw_table.specs.Views.{local_in}
use Rattle.kw_follow.specs.Following.{Follows, activity_in}
use Rattle.kw_follow.specs.Within.{IsWithinCall}
use Rattle.std.proofs.lemmas.Bool.Decides.{nat_tests}
use Rattle.kw_follow.proofs.OneEvent.{asks, begins_in, follows_ranges, follows_room, moves_in}

-- the entry at which a reader looks is one of a seat, and so many cells are remembered at most
pub entry_below : (s : Shared) (p : Pass) (l : Local) (i : ℕ) → Follows s p l → l.activity ≡ Activity.Look (Look.Entry i) → i < SEATS
entry_below s p l i f is = subst (IsActivity product) is (follows_ranges s p l f).activity

pub entry_room : (s : Shared) (p : Pass) (l : Local) (i : ℕ) → Follows s p l → l.activity ≡ Activity.Look (Look.Entry i) → length l.remembered < SEATS
entry_room s p l i f is =
    let below = entry_below s p l i f is in
    let room : length l.remembered ≤ i = subst (λ a. length l.remembered ≤ marks_by product a l) is (follows_room s p l f).remembered in
    omega (arith, below, room)

-- an idle pass loads the epoch to begin a call
pub asks_epoch : (s : Shared) (p : Pass) (call : Call) → IsPassOf s p → activity_in p ≡ Activity.Idle → is_call_in_range call ≡ true → Asks s p (Begin call) (operation kind.LoadEpoch Epoch Load)
unfolding transition_of
asks_epoch s p call of idle range = record {
  of_table = of;
  begins = ap (λ a. may_begin a (Begin call)) idle ∙ range;
  moves = ap (λ a. is_skipped a (Begin call)) idle;
  next = ap (λ a. (transition product a (view p).number (Begin call) (local_in (view p))).operation) idle;
}

-- and what follows is what the line says
pub begins_at : (rows : ℕ) (call : Call) (l : Local) (told : ℕ) → l ≡ resting 0 → (transition product Activity.Idle 0 (Begin call) l).next rows told ≡ next_of product rows (Begin call) l told
unfolding transition_of
begins_at rows call l told rests = ap (λ a. (transition product a 0 (Begin call) l).next rows told) (sym (ap (λ (k : Local). k.activity) rests))

-- a guess at a row of the table is offered
pub offered_guess : (rows r : ℕ) → r < rows → offered rows (Guess r) ≡ Guess r
offered_guess rows r below = grind (arith, nat_tests)

-- a walk that is to begin at a row of the table loads the state of that row
pub asks_guess : (s : Shared) (p : Pass) (l : Local) (r : ℕ) → Follows s p l → l.activity ≡ Activity.Walk Walk.Start → r < s.opening.rows → Asks s p (Guess r) (operation kind.LoadState (State r) Load)
unfolding transition_of
asks_guess s p l r f is below =
    let b : IsBusy l.activity = subst IsBusy (sym is) tt in
    asks s p (Guess r) l s.opening.rows (view p).number (Guess r) _ f (begins_in s p l (Guess r) f b) (moves_in s p l (Guess r) f b) refl refl (sym (offered_guess _ r below)) (ap (λ x. (transition product x (view p).number (Guess r) l).operation) (sym is))

-- and what follows is what the line says
pub next_guess : (rows r : ℕ) (l : Local) (told : ℕ) → l.activity ≡ Activity.Walk Walk.Start → r < rows → guess_seen r (state_of told) l ≡ next_of product rows (offered rows (Guess r)) l told
unfolding transition_of
next_guess rows r l told is below = ap (λ x. (transition product x 0 (Guess r) l).next rows told) (sym is) ∙ ap (λ o. next_of product rows o l told) (sym (offered_guess rows r below))

-- a walk that is yet to begin is in the middle of its call
pub starts_within : (a : Activity) → a ≡ Activity.Walk Walk.Start → IsWithinCall a
starts_within a is = subst IsWithinCall (sym is) tt
