-- The lines from the first table on, one after the other.
use Rattle.std.proofs.Common.{ℕ, ◌+◌, ◌-◌, List, subst, arith}
use Rattle.kw_rollup.specs.declared.item.RollItem.{RollItem}
use Rattle.kw_rollup.specs.declared.item.RollItem.TheVariants as roll
use Rattle.kw_app.specs.Rolled.{StandsBelow}
use Rattle.kw_app.proofs.TableLines.{item_at, next_inside}
use Rattle.kw_app.proofs.tables.rolled.Goals as goal

pub go-requires-clause-next : goal.go-requires-clause-next
go-requires-clause-next c up =
    let items : List RollItem = c.args.items.now in
    next_inside c.args.rolling.rollup.width items c.args.answers.now (c.args.first + c.loop-item.item-index) c.loop-item.rolling _ c.loop-item.invariant c.requires.many (item_at items c.args.first c.loop-item.item-index (roll.Put 0 0) c.loop-item-test.true) up

pub loop-item-preserved : goal.loop-item-preserved
loop-item-preserved c =
    let items : List RollItem = c.args.items.now in
    let n : ℕ = c.args.first + c.loop-item.item-index in
    subst (λ k. StandsBelow c.args.rolling.rollup.width items c.args.answers.now k c.go.new.self) (omega arith)
    (c.in_ok-go.ensures.goes c.args.rolling.rollup.width items n (item_at items c.args.first c.loop-item.item-index (roll.Put 0 0) c.loop-item-test.true) c.loop-item.invariant)
