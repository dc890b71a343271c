-- What a pass asks by its next operation, said by the parts of the operation.
use Rattle.std.proofs.Common.{◌≡◌, ◌∙◌, ap}
use Rattle.kw_words.specs.declared.kind.Kind.{Kind}
use Rattle.kw_world.specs.declared.event.Choice.{Choice}
use Rattle.kw_world.specs.declared.operation.Action.{Action}
use Rattle.kw_world.specs.declared.operation.Operation.{Operation}
use Rattle.kw_table.specs.Passes.{Asks, operation}
use Rattle.kw_table.specs.declared.pass.Pass.{Pass}
use Rattle.kw_table.specs.declared.shared.Shared.{Shared}

-- a pass whose next operation is this one asks for the operation of its kind, its word and its
-- action
pub asks_for : (s : Shared) (p : Pass) (c : Choice) (does : Operation) (kind : Kind) (action : Action) → Asks s p c does → does.kind ≡ kind → does.action ≡ action → Asks s p c (operation kind does.name action)
asks_for s p c does kind action asks is_kind is_action = record {
  of_table = asks.of_table;
  begins = asks.begins;
  moves = asks.moves;
  next = asks.next ∙ (ap (λ (k : Kind). operation k does.name does.action) is_kind ∙ ap (λ (a : Action). operation kind does.name a) is_action);
}
