use Rattle.std.proofs.Common.{◌∙◌, ◌+◌, List, ap, arith}
use Rattle.kw_world.specs.declared.marks.Mark.{Mark}
use Rattle.kw_world.specs.Marks.{unmarked}
use Rattle.kw_follow.proofs.row_gathering.reach.Goals as goal

pub overflow_add-hand : goal.overflow_add-hand
overflow_add-hand c = omega (arith, c.requires.hand.within, c.requires.cell)

pub returns-clause-local : goal.returns-clause-local
returns-clause-local c =
    ap (λ (ms : List Mark). record c.args.local.now { rebalance = record c.args.local.now.rebalance { marks = ms } })
    (c.forget.ensures ∙ ap (λ n. unmarked (n + c.args.cell) c.args.local.now.rebalance.marks) c.requires.hand.base)

pub returns-clause-hand : goal.returns-clause-hand
returns-clause-hand c = record { row = c.requires.hand.row; base = c.requires.hand.base; within = c.requires.hand.within }
