-- What the tree has of the seat is its snapshot, and one that it gets more is inserted.
use Rattle.std.proofs.Common.{true, false, ◌≡◌, Option, Some, None, refl, sym, ◌∙◌, ap, is_some}
use Rattle.std.proofs.lemmas.Bool.{false≢true}
use Rattle.std.specs.Ordering.{nat_cmp}
use Rattle.std.specs.FinMap.{FinMap, from_entries, insert}
use Rattle.kw_model.specs.Map.{Pairs}
use Rattle.kw_model.specs.Snapshots.{State, snapshot_of, pinned, pin_answer}
use Rattle.kw_model.specs.declared.call.Reply.TheVariants.{Held}
use Rattle.kw_model.proofs.Seats.{seat_is, inserted}
use Rattle.kw_model.proofs.map_state.MapState.pin.Goals as goal

-- where a snapshot is there, a pin is answered by `Held` and leaves all
held_answer : (o : Option Pairs) → is_some o ≡ true → Held ≡ pin_answer o
held_answer None e = absurd (false≢true e)
held_answer (Some m) e = refl

held_stays : (s : _) (t : State) (o : Option Pairs) → is_some o ≡ true → t ≡ pinned s t o
held_stays s t None e = absurd (false≢true e)
held_stays s t (Some m) e = refl

-- and else there is none
none_there : (o : Option Pairs) → is_some o ≡ false → o ≡ None
none_there None e = refl
none_there (Some m) e = absurd (false≢true (sym e))

pub returns-then-contains_key-clause-answer : goal.returns-then-contains_key-clause-answer
returns-then-contains_key-clause-answer c =
    let held = sym (ap (snapshot_of c.args.seat) c.self.view_is) ∙ seat_is c.args.seat c.self.inside.pins.entries in
    held_answer (snapshot_of c.args.seat c.args.self.now) (ap is_some held ∙ sym c.contains_key.ensures ∙ c.if-contains_key.true)

pub returns-then-contains_key-clause-after : goal.returns-then-contains_key-clause-after
returns-then-contains_key-clause-after c =
    let held = sym (ap (snapshot_of c.args.seat) c.self.view_is) ∙ seat_is c.args.seat c.self.inside.pins.entries in
    held_stays c.args.seat c.args.self.now (snapshot_of c.args.seat c.args.self.now) (ap is_some held ∙ sym c.contains_key.ensures ∙ c.if-contains_key.true)

pub returns-clause-answer : goal.returns-clause-answer
returns-clause-answer c =
    let held = sym (ap (snapshot_of c.args.seat) c.self.view_is) ∙ seat_is c.args.seat c.self.inside.pins.entries in
    let none = none_there (snapshot_of c.args.seat c.args.self.now) (ap is_some held ∙ sym c.contains_key.ensures ∙ c.if-contains_key.false) in
    sym (ap pin_answer none)

pub returns-clause-after : goal.returns-clause-after
returns-clause-after c =
    let held = sym (ap (snapshot_of c.args.seat) c.self.view_is) ∙ seat_is c.args.seat c.self.inside.pins.entries in
    let none = none_there (snapshot_of c.args.seat c.args.self.now) (ap is_some held ∙ sym c.contains_key.ensures ∙ c.if-contains_key.false) in
    let new = inserted c.args.seat c.in_ok-copy.copy c.self.inside.pins.entries c.insert.new.self.entries c.in_ok-insert.ensures.updates.0 in
    ap (λ (p : FinMap nat_cmp Pairs). record { map = c.self.inside.pairs.entries; pins = p }) new
    ∙ ap (λ (m : Pairs). record { map = c.self.inside.pairs.entries; pins = insert (from_entries {R = nat_cmp} c.self.inside.pins.entries) c.args.seat m }) c.in_ok-copy.ensures
    ∙ ap (λ (t : State). record { map = t.map; pins = insert t.pins c.args.seat c.args.self.now.map }) c.self.view_is
    ∙ sym (ap (pinned c.args.seat c.args.self.now) none)
