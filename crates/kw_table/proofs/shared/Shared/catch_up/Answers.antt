use Rattle.std.proofs.Common.{rules, sym, ◌∙◌, arith}
use Rattle.kw_table.proofs.Slots.{some_slots}
use Rattle.kw_table.proofs.Sharing.{catches_at}
use Rattle.kw_table.proofs.Walks.{counted_looked}
use Rattle.kw_table.proofs.shared.Shared.catch_up.Goals as goal

pub load-requires : goal.load-requires
load-requires c =
    let some = some_slots c.args.self.now in
    let pass = c.args.pass.now in
    (c.requires.pass.0, omega arith, catches_at _ _ pass.seat.me 0 _ pass.known.count (c.requires.pass.1 ∙ sym c.args.self.now.key_is) c.requires.longer)

pub invariant_of-pass : goal.invariant_of-pass
invariant_of-pass c = record { known = search rules; counted = counted_looked c.args.pass.now.seat.me.0 _ c.args.pass.now.walked c.args.pass.now.counted c.load.ensures.2.1 }
