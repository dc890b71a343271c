use Rattle.kw_alone.proofs.Bounding.{few_to_mark, most}
use Rattle.kw_alone.proofs.Falling.{event_falls}
use Rattle.kw_alone.proofs.laws.rest_laws.Goals as goal

pub returns : goal.returns
returns c = record { falls = event_falls; most = most; few = few_to_mark }
