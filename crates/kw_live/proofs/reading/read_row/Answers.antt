use Rattle.kw_follow.proofs.Reaching.{reaches_trans}
use Rattle.kw_live.proofs.reading.read_row.Goals as goal

pub returns-clause-on : goal.returns-clause-on
returns-clause-on c = reaches_trans (record { goes = c.look_at_row.ensures.on.goes; follows = c.look_at_row.ensures.on.follows; calls = c.look_at_row.ensures.on.calls }) c.read_list.ensures.on
