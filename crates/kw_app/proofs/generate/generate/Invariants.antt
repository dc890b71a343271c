-- So many lines are made, and the generator's number is the one after them.
use Rattle.std.proofs.Common.{◌≡◌, ◌≤◌, ◌%◌}
use Rattle.kw_app.specs.declared.generate.TheConstants.{MODULUS}
use Rattle.kw_app.specs.Generated.{lines_after}
use Rattle.kw_app.proofs.Lines.{number_after}
use Rattle.kw_app.proofs.generate.generate.Given as goal

abbrev pub invariant-loop : goal.invariant-loop
invariant-loop l = (l.counter ≤ l.fn.count) × (l.lines.items ≡ lines_after (l.fn.start % MODULUS) l.counter) × (l.generator.number ≡ number_after (l.fn.start % MODULUS) l.counter)
