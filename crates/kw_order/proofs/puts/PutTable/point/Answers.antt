use Rattle.std.proofs.Common.{arith, ◌<◌, length, sym, subst}
use Rattle.std.proofs.lemmas.List.{get_or_read}
use Rattle.kw_core.proofs.Attempts.{in_range}
use Rattle.kw_order.specs.Order.{IsPoint}
use Rattle.kw_order.proofs.puts.PutTable.point.Goals as goal

pub index-requires : goal.index-requires
index-requires c = omega (arith, in_range c.args.history.now c.args.place c.requires.put, c.requires.table.points.size, c.args.self.now.points.ok.0)

pub returns : goal.returns
returns c =
    let within : c.args.place < length c.args.self.now.points.items = omega (arith, in_range c.args.history.now c.args.place c.requires.put, c.requires.table.points.size) in
    subst (IsPoint c.args.history.now c.args.place) (sym (get_or_read c.args.self.now.points.items c.args.place c.index.result.now within c.index.ensures 0)) (c.requires.table.points.each c.args.place c.requires.put)
