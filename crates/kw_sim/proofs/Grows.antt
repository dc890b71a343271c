-- Each line makes at most so many events as a line may ask for, and leaves the opening as it was.
use Rattle.std.proofs.Common.{ℕ, zero, suc, ◌≡◌, ◌+◌, ◌≤◌, Bool, true, false, [], ◌∷◌, length, refl, sym, ap, subst, ◌∙◌, arith}
use Rattle.std.proofs.lemmas.List.{length-append}
use Rattle.kw_words.specs.declared.kind.Kind.{Kind}
use Rattle.kw_world.specs.declared.event.Event.{Event}
use Rattle.kw_world.specs.declared.event.Choice.TheVariants.{Guess, Stop}
use Rattle.kw_world.specs.declared.event.StepDone.{StepDone}
use Rattle.kw_world.specs.declared.event.StepDone.TheVariants.{Moved, Ended, Skipped}
use Rattle.kw_order.specs.Trace.{TraceView, pushed}
use Rattle.kw_sim.specs.declared.command.Command.{Command}
use Rattle.kw_sim.specs.declared.command.Command.TheVariants as command
use Rattle.kw_sim.specs.declared.parse.TheConstants.{MOST_STEPS}
use Rattle.kw_sim.specs.Script.{IsCommand}
use Rattle.kw_sim.specs.State.{State, queue_of}
use Rattle.kw_sim.specs.Meaning.{event, done_by, kind_at, after_event, is_idle, taken, next_event, seat_step, go, until, is_kind, after_command}
use Rattle.kw_sim.proofs.Steps.{taken-trace}

-- at most so many events more, with the same opening
pub record Grows (n : ℕ) (st next : State) : Type 0 where
  pub opening : next.trace.opening ≡ st.trace.opening
  pub events : length next.trace.events ≤ length st.trace.events + n

grows_none : (n : ℕ) (st : State) → Grows n st st
grows_none n st = record { opening = refl; events = omega arith }

grows_both : (m n k : ℕ) (a b c : State) → m + n ≤ k → Grows m a b → Grows n b c → Grows k a c
grows_both m n k a b c h g f = record { opening = f.opening ∙ g.opening; events = omega (arith, f.events, g.events) }

-- an event adds itself at most
push_grows : (t : TraceView) (e : Event) (done : StepDone) → length (pushed t e done).events ≤ length t.events + 1
push_grows t e Moved = omega (arith, length-append t.events (e ∷ []))
push_grows t e (Ended reply) = omega (arith, length-append t.events (e ∷ []))
push_grows t e Skipped = omega arith

push_opening : (t : TraceView) (e : Event) (done : StepDone) → (pushed t e done).opening ≡ t.opening
push_opening t e Moved = refl
push_opening t e (Ended reply) = refl
push_opening t e Skipped = refl

pub event_grows : (e : Event) (st : State) → Grows 1 st (after_event e st)
unfolding after_event
event_grows e st = record { opening = push_opening st.trace e (done_by e st); events = push_grows st.trace e (done_by e st) }

pub step_grows : (s : ℕ) (st : State) → Grows 1 st (seat_step s st)
unfolding seat_step
step_grows s st =
    let mid : State = taken (is_idle s st) (queue_of s st) s st in
    let same = taken-trace (is_idle s st) (queue_of s st) s st in
    grows_both 0 1 1 st mid (after_event (next_event s st) mid) (omega arith) (record { opening = ap (λ t. t.opening) same; events = omega (arith, ap (λ t. length t.events) same) }) (event_grows (next_event s st) mid)

go_grows : (n s : ℕ) (st : State) → Grows n st (go n s st)
unfolding go
go_grows zero s st = grows_none 0 st
go_grows (suc n) s st = grows_both 1 n (suc n) st (seat_step s st) (go n s (seat_step s st)) (omega arith) (step_grows s st) (go_grows n s (seat_step s st))

until_grows : (n : ℕ) (kind : Kind) (s : ℕ) (st : State) → Grows n st (until n kind s st)
unfolding until
until_grows zero kind s st = record { opening = refl; events = omega arith }
until_grows (suc n) kind s st = by_kind (is_kind kind (kind_at (next_event s st) st)) refl (until_grows n kind s (seat_step s st))
  where
    by_kind : (b : Bool) → is_kind kind (kind_at (next_event s st) st) ≡ b → Grows n (seat_step s st) (until n kind s (seat_step s st)) → Grows (suc n) st (until (suc n) kind s st)
    by_kind true h more = rw h (grows_both 1 0 (suc n) st (seat_step s st) (seat_step s st) (omega arith) (step_grows s st) (grows_none 0 (seat_step s st)))
    by_kind false h more = rw h (grows_both 1 n (suc n) st (seat_step s st) (until n kind s (seat_step s st)) (omega arith) (step_grows s st) more)

-- one step more
pub grows_step : (i s : ℕ) (st mid next : State) → next ≡ seat_step s mid → Grows i st mid → Grows (i + 1) st next
grows_step i s st mid next is g = grows_both i 1 (i + 1) st mid next (omega arith) g (subst (λ (x : State). Grows 1 mid x) (sym is) (step_grows s mid))

grows_to : (m n : ℕ) (a b : State) → m ≤ n → Grows m a b → Grows n a b
grows_to m n a b h g = record { opening = g.opening; events = omega (arith, g.events) }

pub command_grows : (rows : ℕ) (c : Command) (st : State) → IsCommand rows c → Grows MOST_STEPS st (after_command c st)
command_grows rows (command.Call s c) st h = record { opening = refl; events = omega arith }
command_grows rows (command.Puts s n k v) st h = record { opening = refl; events = omega arith }
command_grows rows (command.Go s n) st h = grows_to n MOST_STEPS st (go n s st) h.1.1 (go_grows n s st)
command_grows rows (command.Until s kind) st h = until_grows MOST_STEPS kind s st
command_grows rows (command.Guess s r) st h = grows_to 1 MOST_STEPS st (after_event (event s (Guess r)) st) (omega arith) (event_grows (event s (Guess r)) st)
command_grows rows (command.Stop s) st h = grows_to 1 MOST_STEPS st (after_event (event s Stop) st) (omega arith) (event_grows (event s Stop) st)
