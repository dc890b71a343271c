-- Where a pass made one of its events: the laws hold there of all that came before, and what the
-- event was told is what it found.
use Rattle.std.proofs.Common.{◌≡◌, ℕ, ◌<◌, ◌≤◌, ◌++◌, [], ◌∷◌, true, Some, List, arith, refl, sym, ◌∙◌, ap, subst, length, append_assoc, slice_get}
use Rattle.std.proofs.lemmas.List.{take-append-le, take_all}
use Rattle.kw_world.specs.declared.activity.Activity.{Activity}
use Rattle.kw_world.specs.declared.event.Choice.{Choice}
use Rattle.kw_world.specs.declared.event.Event.{Event}
use Rattle.kw_world.specs.declared.local.Local.{Local}
use Rattle.kw_world.specs.declared.opening.Opening.{Opening}
use Rattle.kw_world.specs.declared.operation.Operation.{Operation}
use Rattle.kw_world.specs.Operation.{told_by}
use Rattle.kw_world.specs.Transition.{Transition}
use Rattle.kw_world.specs.WalkTransitions.{offered}
use Rattle.kw_world.specs.Sizes.{product}
use Rattle.kw_world.specs.Step.{word, transition_of}
use Rattle.kw_world.specs.Table.{transition}
use Rattle.kw_world.specs.WorldView.{WorldView}
use Rattle.kw_core.specs.Events.{local_of, world, is_valid, event}
use Rattle.kw_laws.specs.Laws.{KeepsLaws}
use Rattle.kw_laws.specs.Mirror.{Acts}
use Rattle.kw_core.specs.Run.{history}
use Rattle.kw_core.proofs.Events.{valid_front}
use Rattle.kw_laws.proofs.LawProofs.{laws_hold}
use Rattle.kw_core.proofs.Runs.{history-world}
use Rattle.kw_reads.proofs.Keeps.{inv_holds}
use Rattle.kw_shape.specs.Shape.{IsKind}
use Rattle.kw_shape.proofs.Worlds.{world-local, world-rows}
use Rattle.kw_table.specs.declared.pass.Pass.{Pass}
use Rattle.kw_table.specs.declared.shared.Shared.{Shared}
use Rattle.kw_table.specs.Passes.{view}
use Rattle.kw_follow.specs.Following.{GoesTo}
use Rattle.kw_follow.specs.OwnEvents.{Saw, transition_after}

-- what the pass's seat knows after these events
abbrev pub local_at : Pass → List Event → Local
local_at p front = local_of (world product (view p).opening front) (view p).number

-- the seat of a pass is one of the run's
pub seat_within : (p : Pass) → (view p).number < (view p).opening.seats
seat_within p = omega (arith, p.known.seats, p.known.number)

-- the events before it are a valid list
pub saw_valid : (s : Shared) (p q : Pass) (a : Activity) (c : Choice) (told : ℕ) → GoesTo s p q → (m : Saw p q a c told) → is_valid product (view p).opening m.front ≡ true
saw_valid s p q a c told goes m =
    let o : Opening = (view p).opening in
    let e : Event = event (view p).number c in
    let all : is_valid product o (view q).seen ≡ true = subst (λ (x : Opening). is_valid product x (view q).seen ≡ true) goes.opening q.known.valid in
    let with_it : is_valid product o (m.front ++ e ∷ []) ≡ true = valid_front product o (m.front ++ e ∷ []) m.here.0 (ap (is_valid product o) m.here.1 ∙ all) in
    valid_front product o m.front (e ∷ []) with_it

-- so all laws hold of them
pub saw_laws : (s : Shared) (p q : Pass) (a : Activity) (c : Choice) (told : ℕ) → GoesTo s p q → (m : Saw p q a c told) → KeepsLaws product (history product (view p).opening m.front)
saw_laws s p q a c told goes m = laws_hold product (view p).opening p.known.opens m.front (saw_valid s p q a c told goes m)

-- the seat's local is among those of that world
pub saw_local : (p q : Pass) (a : Activity) (c : Choice) (told : ℕ) → (m : Saw p q a c told) → slice_get (history product (view p).opening m.front).world.locals (view p).number ≡ Some (local_at p m.front)
saw_local p q a c told m =
    ap (λ (w : WorldView). slice_get w.locals (view p).number) (history-world product (view p).opening m.front)
    ∙ world-local product (view p).opening m.front (view p).number (seat_within p)

-- the activity fits its call
pub saw_kind : (s : Shared) (p q : Pass) (a : Activity) (c : Choice) (told : ℕ) → GoesTo s p q → (m : Saw p q a c told) → IsKind a (local_at p m.front)
saw_kind s p q a c told goes m =
    let kinds = (inv_holds product (view p).opening p.known.opens m.front (saw_valid s p q a c told goes m)).shape.kinds (view p).number (local_at p m.front) (saw_local p q a c told m) in
    subst (λ (b : Activity). IsKind b (local_at p m.front)) m.activity kinds.kind

-- the line of the event, by the activity at which it was made
pub saw_transition : (p q : Pass) (a : Activity) (c : Choice) (told : ℕ) → (m : Saw p q a c told) → transition_after (view p).opening m.front (view p).number c ≡ transition product a (view p).number (offered (view p).opening.rows c) (local_at p m.front)
unfolding transition_of
saw_transition p q a c told m = ap (λ b. transition product b (view p).number (offered (view p).opening.rows c) (local_at p m.front)) m.activity

-- what it was told, by that line
pub saw_told : (p q : Pass) (a : Activity) (c : Choice) (told : ℕ) → (m : Saw p q a c told) → (r : Transition) → transition product a (view p).number (offered (view p).opening.rows c) (local_at p m.front) ≡ r
    → told ≡ told_by r.operation.action (word product (history product (view p).opening m.front).world r.operation.name)
saw_told p q a c told m r is =
    m.tells
    ∙ (ap (λ (x : Transition). told_by x.operation.action (word product (world product (view p).opening m.front) x.operation.name)) (saw_transition p q a c told m ∙ is)
    ∙ ap (λ (w : WorldView). told_by r.operation.action (word product w r.operation.name)) (sym (history-world product (view p).opening m.front)))

-- its row is one of the table's
pub saw_row_below : (s : Shared) (p q : Pass) (a : Activity) (c : Choice) (told : ℕ) → GoesTo s p q → (m : Saw p q a c told) → (local_at p m.front).row < (history product (view p).opening m.front).world.rows
saw_row_below s p q a c told goes m = ((saw_laws s p q a c told goes m).sane.locals (view p).number (local_at p m.front) (saw_local p q a c told m)).below.row

-- what stands behind the first part of a list is at its length
get_behind : {A : Type 0} (xs : List A) (y : A) (ys : List A) → slice_get (xs ++ y ∷ ys) (length xs) ≡ Some y
get_behind [] y ys = refl
get_behind (x ∷ xs) y ys = get_behind xs y ys

-- an event of a seat acts at its place in each list that goes on from it
acts_behind : (o : Opening) (n : ℕ) (front rest : List Event) (a : Activity) (c : Choice) → n < o.seats → (local_of (world product o front) n).activity ≡ a
    → Acts product o (front ++ event n c ∷ rest) (length front) n a (transition_after o front n c).operation (word product (world product o front) (transition_after o front n c).operation.name)
acts_behind o n front rest a c seat is =
    let le : length front ≤ length front = omega arith in
    record {
      before = world product o front;
      choice = c;
      local = local_of (world product o front) n;
      occurs = record {
        stands = get_behind front (event n c) rest;
        before = ap (world product o) (take-append-le (length front) front (event n c ∷ rest) le ∙ take_all (length front) front le);
      };
      knows = world-local product o front n seat;
      activity = is;
      operates = ap (λ rows. (transition_of product n (offered rows c) (local_of (world product o front) n)).operation) (world-rows product o front);
      finds = refl;
    }

-- so it acts at its place among all that the pass has then seen
pub acts_of_saw : (s : Shared) (p q : Pass) (a : Activity) (c : Choice) (told : ℕ) → GoesTo s p q → (m : Saw p q a c told)
    → Acts product (view q).opening (view q).seen (length m.front) (view q).number a (transition_after (view p).opening m.front (view p).number c).operation
    (word product (world product (view p).opening m.front) (transition_after (view p).opening m.front (view p).number c).operation.name)
acts_of_saw s p q a c told goes m =
    let o : Opening = (view p).opening in
    let n : ℕ = (view p).number in
    let op : Operation = (transition_after o m.front n c).operation in
    let found : ℕ = word product (world product o m.front) op.name in
    let es : m.front ++ event n c ∷ m.here.0 ≡ (view q).seen = sym (append_assoc m.front (event n c ∷ []) m.here.0) ∙ m.here.1 in
    let there : Acts product o (view q).seen (length m.front) n a op found = subst (λ ys. Acts product o ys (length m.front) n a op found) es (acts_behind o n m.front m.here.0 a c (seat_within p) m.activity) in
    subst (λ k. Acts product (view q).opening (view q).seen (length m.front) k a op found) (sym goes.number)
    (subst (λ x. Acts product x (view q).seen (length m.front) n a op found) (sym goes.opening) there)
