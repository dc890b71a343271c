use Rattle.std.proofs.Common.{ap, ◌==◌, sym, ◌∙◌, refl, subst, ◌<◌}
use prog.Atomic.{either}
use Rattle.kw_world.specs.declared.opening.Opening.{Opening}
use Rattle.kw_world.specs.declared.operation.Action.TheVariants.{Exchange}
use Rattle.kw_table.proofs.Stepping.{steps_by_exchange}
use Rattle.kw_table.proofs.Calls.{named_within, is_ready, action_is, asked, known_on, counted_on, makes_on}
use Rattle.kw_table.proofs.shared.Shared.exchange_as.Goals as goal

pub slot-requires : goal.slot-requires
slot-requires g c = named_within c.args.self.now c.args.pass.now c.args.choice c.args.operation c.requires.asked

pub compare_exchange-told-requires : goal.compare_exchange-told-requires
compare_exchange-told-requires g c =
    let pass = c.args.pass.now in
    let ask = c.requires.asked in
    let action = action_is c.args.self.now pass c.args.choice c.args.operation (Exchange c.args.expected c.args.stored) ask c.requires.action in (
      ask.of_table.0,
      subst (λ n. c.slot.result < n) (sym c.args.self.now.words_are) c.slot.ensures.below,
      asked _ _ _ pass.seat.me c.args.choice _ c.args.operation _ _ (λ n. either (n == c.args.expected) c.args.stored n) (λ n. n) c.requires.choice ask.next (ap (λ (o : Opening). o.rows) ask.of_table.1) c.slot.ensures.slot (ask.of_table.1 ∙ sym c.args.self.now.key_is)
          (steps_by_exchange _ _ pass.seat.me c.args.choice (is_ready c.args.self.now pass c.args.choice c.args.operation ask) c.args.expected c.args.stored action),
    )

pub invariant_of-pass : goal.invariant_of-pass
invariant_of-pass g c =
    let pass = c.args.pass.now in
    let action = action_is c.args.self.now pass c.args.choice c.args.operation (Exchange c.args.expected c.args.stored) c.requires.asked c.requires.action in
    record {
      known = known_on _ pass.seat.me c.compare_exchange-told.new.seat.me c.args.choice _ (Exchange c.args.expected c.args.stored) _ _ c.requires.choice action refl c.compare_exchange-told.ensures.2 pass.known;
      counted = counted_on c.args.self.now pass _ c.compare_exchange-told.new.seat.me c.args.choice _ c.args.operation (Exchange c.args.expected c.args.stored) _ _ c.requires.choice c.requires.action refl c.requires.asked c.compare_exchange-told.ensures.2 c.walked_after-pass.ensures;
    }

pub returns : goal.returns
returns g c =
    makes_on c.args.self.now c.args.pass.now _ c.args.choice _ _ (Exchange c.args.expected c.args.stored) _ _ c.requires.choice c.requires.action refl c.requires.asked (c.compare_exchange-told.ensures.0 ∙ c.requires.asked.of_table.0) c.compare_exchange-told.ensures.2
