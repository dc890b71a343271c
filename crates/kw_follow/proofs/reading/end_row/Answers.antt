use Rattle.std.proofs.Common.{ap, rules}
use Rattle.kw_world.specs.Calls.{is_scan}
use Rattle.kw_follow.proofs.ReadEvents.{answered_on}
use Rattle.kw_follow.proofs.reading.end_row.Goals.{in_default-via-in-Some+in_default, in_default-via-in_default}
use Rattle.kw_follow.proofs.reading.end_row.Goals as goal

pub returns-in_default : goal.returns-in_default
returns-in_default c = answered_on c.args.local.now _ _ (elim c.in_default.branch [ in_default-via-in-Some+in_default w ↦ search rules | in_default-via-in_default w ↦ ap is_scan w.in_default.is ]) c.first_key-key.ensures c.answer.ensures
