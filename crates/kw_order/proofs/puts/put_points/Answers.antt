use Rattle.std.proofs.Common.{arith, ◌-◌}
use Rattle.kw_order.proofs.PutLists.{place_within, one_more_point}
use Rattle.kw_order.proofs.puts.put_points.Goals as goal

pub index_mut-requires : goal.index_mut-requires
index_mut-requires c = omega (arith, place_within c.args.history.now c.args.puts.now c.requires.puts.are (c.loop-i.i - 1) (omega arith), c.loop-i.invariant.size, c.loop-i.points.ok.0)

pub loop-i-preserved : goal.loop-i-preserved
loop-i-preserved c = one_more_point c.args.history.now c.args.puts.now c.requires.puts.are c.loop-i.points.items c.loop-i.i c.point_at.result (omega arith) (omega arith) c.loop-i.invariant c.point_at.ensures
