use Rattle.std.proofs.Common.{◌≡◌, ◌++◌, length, All}
use Rattle.kw_map.specs.Kiwi.{IsIdle}
use Rattle.kw_map.specs.Meetings.{AtEach}
use Rattle.kw_app.specs.Rounds.{IsDone}
use Rattle.kw_app.proofs.sharing.finish_in_turn.Given as goal

abbrev pub invariant-loop-pass : goal.invariant-loop-pass
invariant-loop-pass g l = record {
  len : length l.dones.items ≡ length l.yielded;
  each : AtEach (IsDone l.kiwi l.block) l.yielded l.dones.items;
  whole : l.yielded ++ l.pass-iterator.rest.items ≡ l.fn.passes.items;
  idle : All (IsIdle l.kiwi) l.pass-iterator.rest.items;
}
