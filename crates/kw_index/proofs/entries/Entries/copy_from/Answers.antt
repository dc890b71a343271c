use Rattle.std.proofs.Common.{arith}
use Rattle.kw_index.proofs.Lawful.{length_at_most}
use Rattle.kw_index.proofs.entries.Entries.copy_from.Goals as goal

-- there is room for the other's entries, since there are at most as many as rows
pub unreachable-requires : goal.unreachable-requires
unreachable-requires c =
    let few = length_at_most _ _ c.from.invariant.lawful in
    grind (arith, c.self.invariant.room, c.self.view_is, c.from.view_is)
