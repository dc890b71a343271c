use Rattle.std.proofs.Common.{◌≡◌, Some}
use Rattle.kw_world.specs.declared.activity.Activity.TheVariants as Activity
use Rattle.kw_world.specs.declared.activity.walk.Walk.TheVariants as Walk
use Rattle.kw_follow.specs.Calling.{Opens}
use Rattle.kw_follow.specs.Following.{Follows, GoesTo}
use Rattle.kw_map.proofs.kiwi.Kiwi.update.Given as goal

abbrev pub invariant-loop : goal.invariant-loop
invariant-loop g l = record {
  can_next : (goal.iterator-loop g).can_next l.iterator';
  is_finite : (goal.iterator-loop g).is_finite l.iterator';
  goes : GoesTo l.self-inside.shared l.fn.pass l.seat;
  follows : Follows l.self-inside.shared l.seat l.local;
  activity : l.local.activity ≡ Activity.Walk Walk.Start;
  call : l.local.call ≡ Some l.fn.call;
  opens : Opens l.fn.pass l.seat l.fn.call;
}
