-- So many waits stand at the end.
use Rattle.std.proofs.Common.{◌≡◌, ◌≤◌, ◌++◌}
use Rattle.std.specs.Prelude.{replicate}
use Rattle.kw_line.specs.declared.item.Item.TheVariants.{Wait}
use Rattle.kw_app.proofs.asked.push_waits.Given as goal

abbrev pub invariant-loop : goal.invariant-loop
invariant-loop l = (l.counter ≤ l.fn.count) × (l.asked.items ≡ l.fn.asked.items ++ replicate l.counter Wait)
