-- One whole event of a pass and of the local that follows it.
use Rattle.std.proofs.Common.{ℕ, ◌≡◌, ◌≤◌, Bool, true, false, [], ◌∷◌, ◌++◌, nat_lt, if◌then◌else◌, refl, sym, ◌∙◌, ap, subst, length}
use Rattle.std.proofs.lemmas.List.Elements.{All-nil}
use mathlib.Core.List.{IsPrefix}
use Rattle.kw_world.specs.declared.activity.Activity.{Activity}
use Rattle.kw_world.specs.declared.activity.look.Look.TheVariants as Look
use Rattle.kw_world.specs.declared.activity.draw.Draw.TheVariants as Draw
use Rattle.kw_world.specs.declared.activity.rebalance.engage.Engage.TheVariants as Engage
use Rattle.kw_world.specs.declared.activity.enter.Enter.TheVariants as Enter
use Rattle.kw_world.specs.declared.activity.rebalance.freeze.Freeze.TheVariants as Freeze
use Rattle.kw_world.specs.declared.activity.rebalance.gather.Gather.TheVariants as Gather
use Rattle.kw_world.specs.declared.activity.insert.Insert.TheVariants as Insert
use Rattle.kw_world.specs.declared.activity.put.Put.TheVariants as Put
use Rattle.kw_world.specs.declared.activity.read.Read.TheVariants as Read
use Rattle.kw_world.specs.declared.activity.rebalance.Rebalance.TheVariants as Rebalance
use Rattle.kw_world.specs.declared.activity.rebalance.replace.Replace.TheVariants as Replace
use Rattle.kw_world.specs.declared.activity.rebalance.seek.Seek.TheVariants as Seek
use Rattle.kw_world.specs.declared.activity.walk.Walk.TheVariants as Walk
use Rattle.kw_world.specs.declared.activity.rebalance.write.Write.TheVariants as Write
use Rattle.kw_world.specs.declared.event.Choice.{Choice}
use Rattle.kw_world.specs.declared.event.Choice.TheVariants.{Begin, Go, Guess, Stop}
use Rattle.kw_world.specs.declared.event.StepDone.{StepDone}
use Rattle.kw_world.specs.declared.event.StepDone.TheVariants.{Moved}
use Rattle.kw_world.specs.declared.local.Local.{Local}
use Rattle.kw_world.specs.declared.opening.Opening.{Opening}
use Rattle.kw_world.specs.declared.operation.Operation.{Operation}
use Rattle.kw_world.specs.Operation.{told_by}
use Rattle.kw_world.specs.Transition.{Outcome, outcome}
use Rattle.kw_world.specs.WalkTransitions.{offered, is_stop}
use Rattle.kw_world.specs.Sane.{IsPair, IsLocal, HasRoom, marks_by}
use Rattle.kw_world.specs.Sizes.{Sizes, product}
use Rattle.kw_world.specs.Step.{is_skipped, next_of, transition_of, word}
use Rattle.kw_world.proofs.Transitions.{transition_of-next}
use Rattle.kw_core.specs.Events.{event, may_begin, world}
use Rattle.kw_core.specs.Stages.{IsBusy}
use Rattle.kw_table.specs.declared.pass.Pass.{Pass}
use Rattle.kw_table.specs.declared.shared.Shared.{Shared}
use Rattle.kw_table.specs.Passes.{view, Asks, IsPassOf, Makes}
use Rattle.kw_table.specs.Views.{local_in}
use Rattle.kw_table.proofs.Carried.{known_in}
use Rattle.kw_table.proofs.Prefixes.{prefix_self}
use Rattle.kw_follow.specs.Following.{Follows, activity_in, carried, held, known}
use Rattle.kw_follow.specs.OwnEvents.{SawAs}
use Rattle.kw_follow.specs.Within.{IsWithinCall}
use Rattle.kw_follow.proofs.Carries.{Carries}
use Rattle.kw_follow.proofs.Carrying.{IsGoingOn, carries, operates}
use Rattle.kw_follow.proofs.Growing.{IsStaying, first_own}

-- What code carries.

-- it is what code knows of the seat
pub known-carried : (l : Local) → known l ≡ known (carried l)
known-carried l = refl

-- a local that carries what the seat knows follows it
pub follows_from : (s : Shared) (p : Pass) (l : Local) → IsPassOf s p → l ≡ carried (local_in (view p)) → Follows s p l
follows_from s p l of is = record { of_table = of; knows = known-carried (local_in (view p)) ∙ ap known (sym is); carries = is }

-- Its ranges.

carried_in_range : (z : Sizes) (l : Local) → IsLocal z l → IsLocal z (carried l)
carried_in_range z l k = record {
  activity = k.activity;
  call = k.call;
  pin = k.pin;
  epoch = k.epoch;
  want = k.want;
  lower = k.lower;
  built = k.built;
  upper = k.upper;
  waiting = k.waiting;
  drawn = k.drawn;
  version = k.version;
  pairs = All-nil IsPair;
  looked = k.looked;
  saw = k.saw;
  helping = k.helping;
  marks = k.marks;
  place = k.place;
  place_version = k.place_version;
  place_key = k.place_key;
  copies = k.copies;
  cell = k.cell;
  link = k.link;
  held = k.held;
  walked = k.walked;
  lost = k.lost;
  rebalance = k.rebalance;
}

-- how much room a seat has does not depend on what code leaves out
carried_marks : (z : Sizes) (a : Activity) (l : Local) → marks_by z a l ≡ marks_by z a (carried l)
carried_marks z (Activity.Look Look.Key) l = refl
carried_marks z (Activity.Look Look.Clock) l = refl
carried_marks z (Activity.Look Look.Help) l = refl
carried_marks z (Activity.Enter Enter.Announce) l = refl
carried_marks z (Activity.Draw Draw.Clock) l = refl
carried_marks z (Activity.Walk Walk.First) l = refl
carried_marks z (Activity.Read Read.Link) l = refl
carried_marks z (Activity.Put Put.Count) l = refl
carried_marks z (Activity.Insert Insert.Link) l = refl
carried_marks z (Activity.Rebalance (Rebalance.Engage Engage.Clock)) l = refl
carried_marks z (Activity.Rebalance (Rebalance.Freeze Freeze.Count)) l = refl
carried_marks z (Activity.Rebalance (Rebalance.Gather Gather.Link)) l = refl
carried_marks z (Activity.Rebalance (Rebalance.Seek Seek.Next)) l = refl
carried_marks z (Activity.Rebalance (Rebalance.Write Write.Count)) l = refl
carried_marks z (Activity.Rebalance (Rebalance.Replace Replace.First)) l = refl
carried_marks z _ l = refl

carried_room : (z : Sizes) (l : Local) → HasRoom z l → HasRoom z (carried l)
carried_room z l k = record {
  remembered = subst (λ n. length l.remembered ≤ n) (carried_marks z l.activity l) k.remembered;
  gathered = k.gathered;
  rebalance = k.rebalance;
}

-- all that a local which follows a pass holds is in range
pub follows_ranges : (s : Shared) (p : Pass) (l : Local) → Follows s p l → IsLocal product l
follows_ranges s p l f = subst (IsLocal product) (sym f.carries) (carried_in_range product (local_in (view p)) (known_in p (local_in (view p)) refl).ranges)

pub follows_room : (s : Shared) (p : Pass) (l : Local) → Follows s p l → HasRoom product l
follows_room s p l f = subst (HasRoom product) (sym f.carries) (carried_room product (local_in (view p)) (known_in p (local_in (view p)) refl).room)

-- The operation.

operates_in : (n : ℕ) (c : Choice) (l : Local) → (transition_of product n c (carried l)).operation ≡ (transition_of product n c l).operation
unfolding transition_of
operates_in n c l = operates product l.activity n c l

-- the choice that code offers is the one that the pass's table does
pub offered_in : (s : Shared) (p : Pass) (c : Choice) (rows : ℕ) (o : Choice) → IsPassOf s p → rows ≡ s.opening.rows → o ≡ offered rows c → o ≡ offered (view p).opening.rows c
offered_in s p c rows o of counts offers = offers ∙ ap (λ k. offered k c) (counts ∙ ap (λ (q : Opening). q.rows) (sym of.1))

-- the number of rows that code has is that of the pass's table
rows_in : (s : Shared) (p : Pass) (rows : ℕ) → IsPassOf s p → rows ≡ s.opening.rows → rows ≡ (view p).opening.rows
rows_in s p rows of counts = counts ∙ ap (λ (q : Opening). q.rows) (sym of.1)

-- code asks for the operation that its seat makes
pub asks : (s : Shared) (p : Pass) (c : Choice) (l : Local) (rows n : ℕ) (o : Choice) (does : Operation) → Follows s p l → may_begin (activity_in p) c ≡ true → is_skipped (activity_in p) c ≡ false
    → rows ≡ s.opening.rows → n ≡ (view p).number → o ≡ offered rows c → does ≡ (transition_of product n o l).operation → Asks s p c does
asks s p c l rows n o does f begins moves counts number offers is = record {
  of_table = f.of_table;
  begins = begins;
  moves = moves;
  next = sym (is
      ∙ (ap (λ k. (transition_of product k o l).operation) number
      ∙ (ap (λ k. (transition_of product (view p).number k l).operation) (offered_in s p c rows o f.of_table counts offers)
      ∙ (ap (λ k. (transition_of product (view p).number (offered (view p).opening.rows c) k).operation) f.carries
      ∙ operates_in (view p).number (offered (view p).opening.rows c) (local_in (view p))))));
}

-- What follows.

-- code made an event of a pass that its local follows, and this is what the core's `resume` gave
pub record Went (s : Shared) (p q : Pass) (c : Choice) (l after : Local) (done : StepDone) (told : ℕ) : Type 0 where
  pub follows : Follows s p l
  pub makes : Makes s p c told q
  pub goes : outcome after done ≡ next_of product (view p).opening.rows (offered (view p).opening.rows c) l told

-- so it is, where this is what the call of `resume` gave for the choice that code offers
pub went : (s : Shared) (p q : Pass) (c : Choice) (l after : Local) (done : StepDone) (told rows : ℕ) (o : Choice) → Follows s p l → Makes s p c told q → rows ≡ s.opening.rows → o ≡ offered rows c → outcome after done ≡ next_of product rows o l told
    → Went s p q c l after done told
went s p q c l after done told rows o follows makes counts offers goes = record { follows = follows; makes = makes; goes = goes ∙ (ap (λ k. next_of product rows k l told) (offered_in s p c rows o follows.of_table counts offers) ∙ ap (λ n. next_of product n (offered (view p).opening.rows c) l told) (rows_in s p rows follows.of_table counts)) }

-- a choice that is offered is to stop where the choice is
offered_stop : (rows : ℕ) (c : Choice) → is_stop c ≡ false → is_stop (offered rows c) ≡ false
offered_stop rows (Begin call) n = refl
offered_stop rows Go n = refl
offered_stop rows (Guess r) n = saw (nat_lt r rows)
  where
    saw : (b : Bool) → is_stop (if b then Guess r else Go) ≡ false
    saw true = refl
    saw false = refl
offered_stop rows Stop n = n

-- Where a pass is, by what code knows.

-- an event of a seat that makes a call is not skipped
busy_moves : (a : Activity) (c : Choice) → IsBusy a → is_skipped a c ≡ false
busy_moves Activity.Idle c u = absurd u
busy_moves _ c u = refl

pub moves_in : (s : Shared) (p : Pass) (l : Local) (c : Choice) → Follows s p l → IsBusy l.activity → is_skipped (activity_in p) c ≡ false
moves_in s p l c f u = busy_moves (activity_in p) c (subst (λ (k : Local). IsBusy k.activity) f.carries u)

-- and begins no call
busy_begins : (a : Activity) (c : Choice) → IsBusy a → may_begin a c ≡ true
busy_begins Activity.Idle c u = absurd u
busy_begins _ c u = refl

pub begins_in : (s : Shared) (p : Pass) (l : Local) (c : Choice) → Follows s p l → IsBusy l.activity → may_begin (activity_in p) c ≡ true
begins_in s p l c f u = busy_begins (activity_in p) c (subst (λ (k : Local). IsBusy k.activity) f.carries u)

pub within_busy : (a : Activity) → IsWithinCall a → IsBusy a
within_busy Activity.Idle u = u
within_busy _ u = tt

-- a seat goes on where code does
pub within_goes : (a : Activity) → IsWithinCall a → IsGoingOn a
within_goes (Activity.EndScan answer) u = tt
within_goes _ u = u

pub goes_in : (s : Shared) (p : Pass) (l : Local) → Follows s p l → IsGoingOn l.activity → IsGoingOn (activity_in p)
goes_in s p l f u = subst (λ (k : Local). IsGoingOn k.activity) f.carries u

pub goes_stay : (a : Activity) → IsGoingOn a → IsStaying a
goes_stay Activity.Idle u = u
goes_stay (Activity.Leave answer) u = u
goes_stay _ u = tt

-- both do the same
pub same_activity : (s : Shared) (p : Pass) (l : Local) → Follows s p l → activity_in p ≡ l.activity
same_activity s p l f = sym (ap (λ (k : Local). k.activity) f.carries)

-- the event is among the pass's own since
pub makes_saw : {s : Shared} {p q : Pass} {c : Choice} {l : Local} {told : ℕ} → Follows s p l → Makes s p c told q → SawAs p q l c told
makes_saw {s} {p} {q} {c} {l} {told} f makes = record {
  saw = record {
    front = makes.step.front;
    later = makes.step.later;
    here = subst (λ es. IsPrefix (makes.step.front ++ event (view p).number c ∷ []) es) (sym makes.step.seen) (prefix_self _);
    activity = ap (λ (k : Local). k.activity) makes.step.here ∙ same_activity s p l f;
    tells = subst
        (λ (k : Local). told ≡ told_by (transition_of product (view p).number (offered (view p).opening.rows c) k).operation.action (word product (world product (view p).opening makes.step.front) (transition_of product (view p).number (offered (view p).opening.rows c) k).operation.name))
        (sym makes.step.here) makes.step.told_there;
  };
  first = first_own makes;
  knew = ap known makes.step.here ∙ f.knows;
}

-- Both after an event.

-- what follows for the seat and what follows for code
carries_in : (rows : ℕ) (c : Choice) (l : Local) (told : ℕ) → IsGoingOn l.activity → Carries c l.pairs (next_of product rows c l told) (next_of product rows c (carried l) told)
unfolding transition_of
carries_in rows c l told u = carries product l.activity 0 c l rows told u

module _ {s : Shared} {p q : Pass} {c : Choice} {l after : Local} {done : StepDone} {told : ℕ} where
  -- the seat goes on by the table
  pub seat_goes : Went s p q c l after done told → local_in (view q) ≡ (next_of product (view p).opening.rows (offered (view p).opening.rows c) (local_in (view p)) told).local
  seat_goes w = w.makes.step.local ∙ ap (λ (x : Outcome). x.local) (transition_of-next product (view p).opening.rows (view p).number (offered (view p).opening.rows c) (local_in (view p)) told)

  -- so does code, from what it carries
  pub code_goes : Went s p q c l after done told → outcome after done ≡ next_of product (view p).opening.rows (offered (view p).opening.rows c) (carried (local_in (view p))) told
  code_goes w = w.goes ∙ ap (λ k. next_of product (view p).opening.rows (offered (view p).opening.rows c) k told) w.follows.carries

  both_go : Went s p q c l after done told → IsGoingOn l.activity → Carries (offered (view p).opening.rows c) (held p) (next_of product (view p).opening.rows (offered (view p).opening.rows c) (local_in (view p)) told) (next_of product (view p).opening.rows (offered (view p).opening.rows c) (carried (local_in (view p))) told)
  both_go w u = carries_in (view p).opening.rows (offered (view p).opening.rows c) (local_in (view p)) told (goes_in s p l w.follows u)

  -- the local follows the pass after the event
  pub went_follows : Went s p q c l after done told → IsGoingOn l.activity → Follows s q after
  went_follows w u = follows_from s q after w.makes.of_table (ap (λ (x : Outcome). x.local) (code_goes w) ∙ ((both_go w u).local ∙ ap carried (sym (seat_goes w))))

  -- the call goes on
  pub went_line : Went s p q c l after done told → IsGoingOn l.activity → outcome after Moved ≡ next_of product (view p).opening.rows (offered (view p).opening.rows c) l told
  went_line w u = ap (outcome after) (sym (ap (λ (x : Outcome). x.done) (code_goes w) ∙ (both_go w u).done)) ∙ w.goes

  -- the pairs stay, unless a scan is stopped
  pub went_held : Went s p q c l after done told → IsGoingOn l.activity → is_stop c ≡ false → held q ≡ held p
  went_held w u n =
      ap (λ (k : Local). k.pairs) (seat_goes w)
      ∙ (both_go w u).held (offered_stop (view p).opening.rows c n)

  -- it is among the pass's events since
  pub went_saw : Went s p q c l after done told → IsWithinCall l.activity → SawAs p q l c told
  went_saw w u = makes_saw w.follows w.makes
