-- What the code of a simulator computes is what the definitions say, piece by piece.
use Rattle.std.proofs.Common.{ℕ, suc, ◌≡◌, ◌+◌, ◌*◌, ◌<◌, ◌≤◌, Bool, true, false, not, is_some, IfNone, IfSome, Option, Some, None, List, [], ◌∷◌, ◌++◌, length, drop, get_or, refl, sym, ap, subst, ◌∙◌, arith, slice_get, unwrap_or}
use Rattle.std.specs.List.{AllByRecursion}
use Rattle.std.proofs.Math.Seq.{drop-cons}
use Rattle.std.proofs.Math.ListN.{drop_of_length-le}
use Rattle.kw_model.specs.declared.call.Call.{Call}
use Rattle.kw_words.specs.declared.kind.Kind.{Kind}
use Rattle.kw_world.specs.declared.event.Choice.TheVariants.{Go}
use Rattle.kw_world.specs.declared.event.Event.{Event}
use Rattle.kw_world.specs.declared.event.StepDone.{StepDone}
use Rattle.kw_world.specs.declared.local.Local.{Local}
use Rattle.kw_world.specs.Sizes.{product}
use Rattle.kw_world.specs.WorldView.{WorldView}
use Rattle.kw_world.specs.Step.{step, is_skipped}
use Rattle.kw_sim.specs.declared.command.Command.{Command}
use Rattle.kw_sim.specs.declared.parse.TheConstants.{MOST_LINES, MOST_STEPS}
use Rattle.kw_sim.specs.Script.{IsCommand}
use Rattle.kw_order.specs.Trace.{TraceView, world_of, pushed}
use Rattle.kw_sim.specs.State.{State, queue_of, with_queue}
use Rattle.kw_sim.specs.Meaning.{printed, call_made, done_by, after_event, kind_at, makes_none, is_idle, taken, next_event, seat_step, go, until, missed, after_command, after_commands, first_state, script_state}
use Rattle.kw_sim.specs.Printed.{done_text}
use Rattle.kw_sim.proofs.Steps.{still, go_still, until_still, queue_empty}
use Rattle.kw_sim.proofs.Grows.{command_grows}
use Rattle.std.proofs.lemmas.Option.{slice_get_read}

-- a seat that knows this is idle where it is skipped when it goes on
pub idle_is : (s : ℕ) (st : State) (w : WorldView) (l : Local) (b : Bool) → w ≡ world_of st.trace → slice_get w.locals s ≡ Some l → b ≡ is_skipped l.activity Go → b ≡ is_idle s st
idle_is s st w l b world knows is =
    is ∙ (sym (ap makes_none knows) ∙ ap (λ (x : WorldView). makes_none (slice_get x.locals s)) world)

-- an event, by a trace and a print
pub event_is : (st : State) (trace : TraceView) (text : List ℕ) (e : Event) (w : WorldView) (l : Local) (call : Call) (done : StepDone) → trace ≡ pushed st.trace e done → w ≡ world_of st.trace → slice_get w.locals e.seat ≡ Some l → call ≡ call_made l → done ≡ (step product (world_of st.trace) e).done
    → text ≡ st.text ++ done_text e.seat l.number call done → record { trace = trace; queues = st.queues; text = text } ≡ after_event e st
unfolding after_event
event_is st trace text e w l call done t world knows same_call d x =
    let there : slice_get (world_of st.trace).locals e.seat ≡ Some l = subst (λ (y : WorldView). slice_get y.locals e.seat ≡ Some l) world knows in
    let same : text ≡ st.text ++ printed e.seat (slice_get (world_of st.trace).locals e.seat) (done_by e st) = x ∙ ap (λ (y : Call). st.text ++ done_text e.seat l.number y done) same_call ∙ ap (λ (y : StepDone). st.text ++ printed e.seat (Some l) y) d ∙ ap (λ (y : Option Local). st.text ++ printed e.seat y (done_by e st)) (sym there) in
    ap (λ (y : TraceView). record { trace = y; queues = st.queues; text = text }) (t ∙ ap (pushed st.trace e) d) ∙ ap (λ (y : List ℕ). record { trace = pushed st.trace e (done_by e st); queues = st.queues; text = y }) same

-- the queue of a seat that is there
pub queue_there : (s : ℕ) (st : State) (q : List Call) → s < length st.queues → q ≡ get_or st.queues s q → queue_of s st ≡ q
queue_there s st q l e = ap (λ (x : Option (List Call)). unwrap_or x []) (slice_get_read st.queues (length st.queues) s q refl l e)

-- the first call is taken off the queue
pub take_is : (s : ℕ) (st : State) (o : Option Call) (old new : List Call) → queue_of s st ≡ old → IfNone o (old ≡ []) → IfNone o (new ≡ []) → IfSome o (λ c. old ≡ c ∷ new) → with_queue s new st ≡ taken true (queue_of s st) s st
take_is s st None old new q none same first = ap (λ (x : List Call). with_queue s x st) same ∙ (queue_empty s st (q ∙ none) ∙ sym (ap (λ (x : List Call). taken true x s st) (q ∙ none)))
take_is s st (Some c) old new q none same first = sym (ap (λ (x : List Call). taken true x s st) (q ∙ first))

-- what was none is none
pub none_by : (o : Option Kind) (b : Bool) → is_some o ≡ not b → b ≡ true → o ≡ None
none_by None b e h = refl
none_by (Some k) true e h = cc
none_by (Some k) false e h = cc

-- a seat with nothing to do ends its steps
pub go_ends : (n s : ℕ) (st next last : State) (k : Option Kind) → next ≡ seat_step s st → k ≡ kind_at (next_event s st) st → k ≡ None → go n s st ≡ last → next ≡ last
go_ends n s st next last k is kind none h =
    let no = sym kind ∙ none in
    is ∙ (still s st no ∙ (sym (go_still n s st no) ∙ h))

pub until_ends : (n : ℕ) (kind : Kind) (s : ℕ) (st next last : State) (k : Option Kind) → next ≡ seat_step s st → k ≡ kind_at (next_event s st) st → k ≡ None → until n kind s st ≡ last → last ≡ missed next
until_ends n kind s st next last k is same none h =
    let no = sym same ∙ none in
    sym h ∙ (until_still n kind s st no ∙ sym (ap missed (is ∙ still s st no)))

-- after i of the lines the state is this: what the rest does leads to where all lines lead
pub record SoFar (rows : ℕ) (commands : List Command) (i : ℕ) (st : State) : Type 0 where
  pub leads : after_commands (drop i commands) st ≡ script_state rows commands
  pub each : AllByRecursion (IsCommand rows) (drop i commands)
  pub few : length commands ≤ MOST_LINES
  pub rows_are : st.trace.opening.rows ≡ rows
  pub made : length st.trace.events ≤ i * MOST_STEPS

pub so_far_none : (rows : ℕ) (commands : List Command) (st : State) → st ≡ first_state rows → AllByRecursion (IsCommand rows) commands → length commands ≤ MOST_LINES → SoFar rows commands 0 st
so_far_none rows commands st is each few = record {
  leads = ap (after_commands commands) is;
  each = each;
  few = few;
  rows_are = ap (λ (x : State). x.trace.opening.rows) is;
  made = omega (arith, ap (λ (x : State). length x.trace.events) is);
}

-- the command at place i begins the rest
rest_is : (commands : List Command) (i : ℕ) (c : Command) → i < length commands → c ≡ get_or commands i c → drop i commands ≡ c ∷ drop (i + 1) commands
rest_is commands i c l e =
    let next : suc i ≡ i + 1 = omega arith in
    drop-cons commands i c l ∙ (ap (λ (y : Command). y ∷ drop (suc i) commands) (sym e) ∙ ap (λ (n : ℕ). c ∷ drop n commands) next)

-- the command at place i is one that a line may be, and there is room for its events
pub command_here : (rows : ℕ) (commands : List Command) (i : ℕ) (st : State) (c : Command) → SoFar rows commands i st → i < length commands → c ≡ get_or commands i c → IsCommand st.trace.opening.rows c
command_here rows commands i st c s l e = subst (λ (n : ℕ). IsCommand n c) (sym s.rows_are) (subst (AllByRecursion (IsCommand rows)) (rest_is commands i c l e) s.each).0

pub so_far_next : (rows : ℕ) (commands : List Command) (i : ℕ) (st next : State) (c : Command) → SoFar rows commands i st → i < length commands → c ≡ get_or commands i c → next ≡ after_command c st → SoFar rows commands (i + 1) next
unfolding after_commands
so_far_next rows commands i st next c s l e is =
    let rest : drop i commands ≡ c ∷ drop (i + 1) commands = rest_is commands i c l e in
    let grows = command_grows st.trace.opening.rows c st (command_here rows commands i st c s l e) in
    record {
      leads = ap (after_commands (drop (i + 1) commands)) is ∙ (ap (λ (r : List Command). after_commands r st) (sym rest) ∙ s.leads);
      each = (subst (AllByRecursion (IsCommand rows)) rest s.each).1;
      few = s.few;
      rows_are = ap (λ (x : State). x.trace.opening.rows) is ∙ (ap (λ o. o.rows) grows.opening ∙ s.rows_are);
      made = omega (arith, s.made, grows.events, ap (λ (x : State). length x.trace.events) is);
    }

pub so_far_all : (rows : ℕ) (commands : List Command) (i : ℕ) (st : State) → SoFar rows commands i st → length commands ≤ i → st ≡ script_state rows commands
unfolding after_commands
so_far_all rows commands i st s l = let none : drop i commands ≡ [] = drop_of_length-le commands l in ap (λ (r : List Command). after_commands r st) (sym none) ∙ s.leads
