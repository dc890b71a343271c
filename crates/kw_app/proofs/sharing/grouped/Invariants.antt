use Rattle.std.proofs.Common.{◌≡◌, ◌++◌}
use Rattle.kw_app.proofs.Groups.{flat}
use Rattle.kw_app.proofs.sharing.grouped.Given as goal

abbrev pub invariant-loop-pass : goal.invariant-loop-pass
invariant-loop-pass l = flat l.groups.items ++ l.group.items ≡ l.yielded
