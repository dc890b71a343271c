-- One more entry, and its place in the index.
use Rattle.std.proofs.Common.{◌≡◌, length, arith}
use Rattle.kw_cells.proofs.Tree.{rises_from_sorted}
use Rattle.kw_cells.proofs.Scans.{index_put}
use Rattle.kw_cells.proofs.plain.Plain.put.Goals as goal

pub invariant_of-self-in_default : goal.invariant_of-self-in_default
invariant_of-self-in_default c =
    let e = c.len-place.ensures in
    let place : c.len-place.result ≡ length c.self.inside.entries.items = omega arith in
    index_put c.self.inside.newest.entries _ c.self.inside.entries.items _ c.args.key c.len-place.result c.args.value c.self.invariant (rises_from_sorted _ c.insert.ensures.ordered) c.in_default.ensures.entries place c.in_ok-push.ensures.items
