-- What the lines so far ask stands at the end.
use Rattle.std.proofs.Common.{◌≡◌, ◌++◌, map, take}
use Rattle.kw_app.specs.Asked.{item_of}
use Rattle.kw_app.proofs.asked.push_items.Given as goal

abbrev pub invariant-loop-item : goal.invariant-loop-item
invariant-loop-item l = l.asked.items ≡ l.fn.asked.items ++ map item_of (take l.item-index l.items)
