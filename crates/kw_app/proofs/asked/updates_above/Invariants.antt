-- No table stands among the lines so far.
use Rattle.std.proofs.Common.{◌≡◌, ◌+◌, drop}
use Rattle.kw_app.specs.Asked.{updates_above}
use Rattle.kw_app.proofs.asked.updates_above.Given as goal

abbrev pub invariant-loop-item : goal.invariant-loop-item
invariant-loop-item l = record { above : updates_above l.items ≡ l.count + updates_above (drop l.item-index l.items); place : l.count ≡ l.item-index }
