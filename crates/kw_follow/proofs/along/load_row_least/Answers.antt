use Rattle.std.proofs.Common.{ℕ, refl, subst}
use Rattle.kw_words.specs.declared.kind.Kind.TheVariants as kind
use Rattle.kw_words.specs.declared.layout.Name.TheVariants as name
use Rattle.kw_world.specs.declared.activity.Activity.TheVariants as Activity
use Rattle.kw_world.specs.declared.activity.walk.Walk.TheVariants as Walk
use Rattle.kw_world.specs.declared.event.Choice.TheVariants.{Go}
use Rattle.kw_world.specs.declared.operation.Action.TheVariants.{Load}
use Rattle.kw_table.specs.Passes.{operation, Asks}
use Rattle.kw_follow.specs.Within.{walking}
use Rattle.kw_follow.proofs.PutEvents.{asks_at}
use Rattle.kw_follow.proofs.along.load_row_least.Goals as goal

pub load_least-requires : goal.load_least-requires
load_least-requires c = subst (λ (row : ℕ). Asks c.args.shared.now c.args.pass.now Go (operation kind.LoadLeast (name.Least row) Load)) c.requires.2 (asks_at _ _ (walking (Activity.Walk Walk.NextLeast) c.requires.0) (Activity.Walk Walk.NextLeast) c.requires.1 refl tt)
