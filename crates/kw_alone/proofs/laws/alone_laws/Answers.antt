use Rattle.kw_alone.proofs.Turning.{falls_after, most_after, turn_comes}
use Rattle.kw_alone.proofs.laws.alone_laws.Goals as goal

pub returns : goal.returns
returns c = record { falls = falls_after; most = most_after; turns = turn_comes }
