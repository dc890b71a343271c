use Rattle.kw_app.specs.Rounds.{AreOfGroups}
use Rattle.kw_app.proofs.sharing.ungrouped.Given as goal

abbrev pub invariant-loop-part : goal.invariant-loop-part
invariant-loop-part l = AreOfGroups l.yielded l.dones.items
