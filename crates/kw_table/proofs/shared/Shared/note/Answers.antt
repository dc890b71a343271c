use Rattle.std.proofs.Common.{arith}
use Rattle.kw_table.proofs.Slots.{some_slots}
use Rattle.kw_table.proofs.Sharing.{notes}
use Rattle.kw_table.proofs.shared.Shared.note.Goals as goal

pub split_seat-requires : goal.split_seat-requires
split_seat-requires c = let some = some_slots c.args.self.now in (c.requires.0, omega arith, notes _ _ c.args.pass.now.seat.me.0)
