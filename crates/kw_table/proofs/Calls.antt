-- What the calls of the table's steps ask and give, at a pass.
use Rattle.std.proofs.Common.{◌≡◌, ℕ, ◌+◌, ◌-◌, ◌^◌, ◌<◌, min, true, ap, sym, ◌∙◌, subst, arith}
use Rattle.atomic_table.specs.Table.{Allows}
use Rattle.kw_words.specs.Layout.{IsWithin}
use Rattle.kw_world.specs.declared.event.Choice.{Choice}
use Rattle.kw_world.specs.declared.opening.Opening.{Opening}
use Rattle.kw_world.specs.declared.operation.Action.{Action}
use Rattle.kw_world.specs.declared.operation.Operation.{Operation}
use Rattle.kw_world.specs.Opening.{IsOpening}
use Rattle.kw_world.specs.Operation.{told_by}
use Rattle.kw_world.specs.WalkTransitions.{offered}
use Rattle.kw_world.specs.Sizes.{product}
use Rattle.kw_world.specs.Step.{transition_of}
use Rattle.kw_world.specs.WorldView.{WorldView}
use Rattle.kw_world.proofs.Transitions.{in_table}
use Rattle.kw_core.specs.Events.{world, is_valid, event}
use Rattle.kw_shape.proofs.Worlds.{world-rows, world-seats, world-local, world_sane}
use Rattle.kw_table.specs.declared.pass.Pass.{Pass}
use Rattle.kw_table.specs.declared.pass.View.{View}
use Rattle.kw_table.specs.declared.shared.Shared.{Shared}
use Rattle.kw_table.specs.Known.{IsKnown}
use Rattle.kw_table.specs.Passes.{view, Asks, Makes}
use Rattle.kw_table.specs.Rules.{Rule}
use Rattle.kw_table.specs.Slots.{slot}
use Rattle.kw_table.specs.Views.{local_in, transition_in, Steps, Mine, StepsFor}
use Rattle.kw_table.specs.Walks.{walks_by, walks_in}
use Rattle.kw_table.proofs.Stepping.{IsReady, slot_in}
use Rattle.kw_table.proofs.Walks.{walks_on, counted_next}

-- the word of the next event is one of the table's
pub named_within : (s : Shared) (p : Pass) (c : Choice) (does : Operation) → Asks s p c does → IsWithin product.seats product.cells s.opening.rows does.name
named_within s p c does asks =
    let v : View = view p in
    let o : Opening = v.opening in
    let known : IsKnown p.number p.seat.me = p.known in
    let inside : v.number < o.seats = omega (arith, known.seats, known.number) in
    let w : WorldView = world product o v.seen in
    let within = in_table product w (event v.number c) (local_in v) (world_sane product o known.opens v.seen known.valid) (omega (arith, inside, world-seats product o v.seen)) (world-local product o v.seen v.number inside) in
    let named : IsWithin product.seats product.cells o.rows (transition_in v c).operation.name = subst (λ k. IsWithin product.seats product.cells k (transition_of product v.number (offered k c) (local_in v)).operation.name) (world-rows product o v.seen) within in
    subst (λ (q : Opening). IsWithin product.seats product.cells q.rows does.name) asks.of_table.1
    (subst (λ (d : Operation). IsWithin product.seats product.cells o.rows d.name) asks.next named)

-- a pass that is asked for an event is ready to make it
pub is_ready : (s : Shared) (p : Pass) (c : Choice) (does : Operation) → Asks s p c does → IsReady p.seat.me c
is_ready s p c does asks = record { one = p.known.count; opens = p.known.opens; begins = asks.begins; moves = asks.moves }

-- the law of a step, as a call asks it
pub asked : (slots id rows : ℕ) (m : Mine) (c picked : Choice) (does : Operation) (i : ℕ) (key : Opening) (f h : ℕ → ℕ) → picked ≡ c → (transition_in m.0 c).operation ≡ does
    → m.0.opening.rows ≡ rows → i ≡ slot rows does.name → m.0.opening ≡ key
    → Allows (Rule m.0.opening) slots id m (slot_in m.0 c) f (λ n. StepsFor c m (h n)) → Allows (Rule key) slots id m i f (λ n. StepsFor picked m (h n))
asked slots id rows m c picked does i key f h p is k q r law =
    let at : slot_in m.0 c ≡ i = ap (λ (d : Operation). slot m.0.opening.rows d.name) is ∙ (ap (λ n. slot n does.name) k ∙ sym q) in
    subst (λ (d : Choice). Allows (Rule key) slots id m i f (λ n. StepsFor d m (h n))) (sym p)
    (subst (λ j. Allows (Rule key) slots id m j f (λ n. StepsFor c m (h n))) at
    (subst (λ (o : Opening). Allows (Rule o) slots id m (slot_in m.0 c) f (λ n. StepsFor c m (h n))) r law))

-- the action of the next event
pub action_is : (s : Shared) (p : Pass) (c : Choice) (does : Operation) (a : Action) → Asks s p c does → does.action ≡ a → (transition_in (view p) c).operation.action ≡ a
action_is s p c does a asks is = ap (λ (d : Operation). d.action) asks.next ∙ is

-- the step that a call made, where the pass is told y
step_on : (m after : Mine) (c picked : Choice) (a : Action) (x y : ℕ) → picked ≡ c → (transition_in m.0 c).operation.action ≡ a → told_by a x ≡ y → StepsFor picked m x after → Steps m.0 c y after.0
step_on m after c picked a x y p is tells steps =
    let t : StepsFor c m x after = subst (λ (d : Choice). StepsFor d m x after) p steps in
    subst (λ n. Steps m.0 c n after.0) (ap (λ b. told_by b x) is ∙ tells) t.1

-- a pass is one after its step
pub known_on : (n : ℕ) (m after : Mine) (c picked : Choice) (a : Action) (x y : ℕ) → picked ≡ c → (transition_in m.0 c).operation.action ≡ a → told_by a x ≡ y → StepsFor picked m x after → IsKnown n m → IsKnown n after
known_on n m after c picked a x y p is tells made known =
    let steps = step_on m after c picked a x y p is tells made in record {
      number = steps.number ∙ known.number;
      count = steps.count ∙ known.count;
      empty = made.0 ∙ known.empty;
      seats = subst (λ (o : Opening). n < o.seats) (sym steps.opening) known.seats;
      opens = subst (λ (o : Opening). IsOpening product o) (sym steps.opening) known.opens;
      valid = subst (λ (o : Opening). is_valid product o after.0.seen ≡ true) (sym steps.opening) steps.valid;
    }

-- what the call gives
pub makes_on : (s : Shared) (p q : Pass) (c picked : Choice) (does : Operation) (a : Action) (x y : ℕ) → picked ≡ c → does.action ≡ a → told_by a x ≡ y
    → Asks s p c does → q.seat.table_id ≡ s.table.shared.table_id → StepsFor picked p.seat.me x q.seat.me → Makes s p c y q
makes_on s p q c picked does a x y same is tells asks at made =
    let steps = step_on p.seat.me q.seat.me c picked a x y same (action_is s p c does a asks is) tells made in
    record { of_table = (at, steps.opening ∙ asks.of_table.1); step = steps }

-- the links of rows that the pass has loaded are counted on
pub counted_on : (s : Shared) (p : Pass) (next : ℕ) (after : Mine) (c picked : Choice) (does : Operation) (a : Action) (x y : ℕ) → picked ≡ c → does.action ≡ a → told_by a x ≡ y
    → Asks s p c does → StepsFor picked p.seat.me x after → next ≡ min (2 ^ 64 - 1) (p.walked + walks_by does.kind) → next ≡ min (2 ^ 64 - 1) (walks_in after.0)
counted_on s p next after c picked does a x y same is tells asks made counts =
    let steps = step_on p.seat.me after c picked a x y same (action_is s p c does a asks is) tells made in
    let grows = walks_on (view p) after.0 c y steps ∙ ap (λ (d : Operation). walks_in (view p) + walks_by d.kind) asks.next in
    counted_next p.walked next (walks_in (view p)) (walks_in after.0) (walks_by does.kind) p.counted counts grows
