use Rattle.std.proofs.Common.{arith}
use Rattle.kw_table.proofs.Slots.{some_slots}
use Rattle.kw_table.proofs.Sharing.{hears}
use Rattle.kw_table.proofs.shared.Shared.tell.Goals as goal

pub join_seat-requires : goal.join_seat-requires
join_seat-requires c = let some = some_slots c.args.self.now in (c.requires.pass.0, c.requires.note.0, c.requires.note.1, omega arith, hears _ _ _ c.args.pass.now.seat.me.0 c.args.note.me.0)
