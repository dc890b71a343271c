use Rattle.std.proofs.Common.{ℕ, refl, subst}
use Rattle.kw_words.specs.declared.kind.Kind.TheVariants as kind
use Rattle.kw_words.specs.declared.layout.Name.TheVariants as name
use Rattle.kw_world.specs.declared.activity.Activity.TheVariants as Activity
use Rattle.kw_world.specs.declared.activity.look.Look.TheVariants as Look
use Rattle.kw_world.specs.declared.event.Choice.TheVariants.{Go}
use Rattle.kw_world.specs.declared.operation.Action.TheVariants.{Load}
use Rattle.kw_table.specs.Passes.{operation, Asks}
use Rattle.kw_follow.specs.Within.{looking}
use Rattle.kw_follow.proofs.PutEvents.{asks_at}
use Rattle.kw_follow.proofs.along.load_entry.Goals as goal

pub load_pend-requires : goal.load_pend-requires
load_pend-requires c = subst (λ (row : ℕ). Asks c.args.shared.now c.args.pass.now Go (operation kind.LoadPend (name.Pend row c.args.entry) Load)) c.requires.2 (asks_at _ _ (looking c.args.entry c.requires.0) (Activity.Look (Look.Entry c.args.entry)) c.requires.1 refl tt)
