-- What is kept so far are the marks gone through but for those of the cell.
use Rattle.std.proofs.Common.{◌≡◌, take, filter}
use Rattle.kw_world.specs.Marks.{is_other}
use Rattle.kw_world.proofs.marks.Marks.keep_others.Given as goal

abbrev pub invariant-loop-mark : goal.invariant-loop-mark
invariant-loop-mark g l = l.kept.items ≡ filter (is_other l.cell) (take l.mark-index l.marks)
