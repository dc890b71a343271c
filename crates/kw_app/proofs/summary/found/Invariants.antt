-- What was found, and what is found in the lines and answers that are left, are all that is found.
use Rattle.std.proofs.Common.{◌≡◌, ◌+◌, ◌≤◌, drop}
use Rattle.kw_app.specs.Summary.{found}
use Rattle.kw_app.proofs.summary.found.Given as goal

abbrev pub invariant-loop-item : goal.invariant-loop-item
invariant-loop-item l = (l.found + found (drop l.item-index l.items) l.answers.rest.now ≡ found l.items l.fn.answers) × (l.found ≤ l.item-index)
