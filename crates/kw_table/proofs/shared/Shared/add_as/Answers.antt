use Rattle.std.proofs.Common.{ap, ◌+◌, ◌%◌, ◌^◌, sym, ◌∙◌, refl, subst, ◌<◌}
use Rattle.kw_world.specs.declared.opening.Opening.{Opening}
use Rattle.kw_world.specs.declared.operation.Action.TheVariants.{Add}
use Rattle.kw_table.proofs.Stepping.{steps_by_add}
use Rattle.kw_table.proofs.Calls.{named_within, is_ready, action_is, asked, known_on, counted_on, makes_on}
use Rattle.kw_table.proofs.shared.Shared.add_as.Goals as goal

pub slot-requires : goal.slot-requires
slot-requires g c = named_within c.args.self.now c.args.pass.now c.args.choice c.args.operation c.requires.asked

pub fetch_add-told-requires : goal.fetch_add-told-requires
fetch_add-told-requires g c =
    let pass = c.args.pass.now in
    let ask = c.requires.asked in
    let action = action_is c.args.self.now pass c.args.choice c.args.operation (Add c.args.number) ask c.requires.action in (
      ask.of_table.0,
      subst (λ n. c.slot.result < n) (sym c.args.self.now.words_are) c.slot.ensures.below,
      asked _ _ _ pass.seat.me c.args.choice _ c.args.operation _ _ (λ n. (n + c.args.number) % 2 ^ 64) (λ n. n) c.requires.choice ask.next (ap (λ (o : Opening). o.rows) ask.of_table.1) c.slot.ensures.slot (ask.of_table.1 ∙ sym c.args.self.now.key_is)
          (steps_by_add _ _ pass.seat.me c.args.choice (is_ready c.args.self.now pass c.args.choice c.args.operation ask) c.args.number action),
    )

pub invariant_of-pass : goal.invariant_of-pass
invariant_of-pass g c =
    let pass = c.args.pass.now in
    let action = action_is c.args.self.now pass c.args.choice c.args.operation (Add c.args.number) c.requires.asked c.requires.action in
    record {
      known = known_on _ pass.seat.me c.fetch_add-told.new.seat.me c.args.choice _ (Add c.args.number) _ _ c.requires.choice action refl c.fetch_add-told.ensures.2 pass.known;
      counted = counted_on c.args.self.now pass _ c.fetch_add-told.new.seat.me c.args.choice _ c.args.operation (Add c.args.number) _ _ c.requires.choice c.requires.action refl c.requires.asked c.fetch_add-told.ensures.2 c.walked_after-pass.ensures;
    }

pub returns : goal.returns
returns g c =
    makes_on c.args.self.now c.args.pass.now _ c.args.choice _ _ (Add c.args.number) _ _ c.requires.choice c.requires.action refl c.requires.asked (c.fetch_add-told.ensures.0 ∙ c.requires.asked.of_table.0) c.fetch_add-told.ensures.2
