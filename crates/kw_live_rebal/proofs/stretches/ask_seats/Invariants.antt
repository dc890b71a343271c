use Rattle.std.proofs.Common.{◌≡◌}
use Rattle.kw_follow.specs.Reaching.{Advances}
use Rattle.kw_live_rebal.specs.Standing.{GoesOn}
use Rattle.kw_live_rebal.proofs.stretches.ask_seats.Given as goal

abbrev pub invariant-loop : goal.invariant-loop
invariant-loop g l = record {
  can_next : (goal.iterator-loop g).can_next l.iterator';
  is_finite : (goal.iterator-loop g).is_finite l.iterator';
  on : Advances l.shared l.fn.pass l.pass l.local;
  tidies : l.local.tidies ≡ l.fn.local.tidies;
  goes_on : GoesOn l.shared l.fn.pass l.fn.local l.pass l.local;
}
