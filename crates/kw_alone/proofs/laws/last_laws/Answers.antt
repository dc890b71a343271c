use Rattle.kw_alone.proofs.Bounding.{few_to_end}
use Rattle.kw_alone.proofs.Lasting.{ends_at_last, lasts}
use Rattle.kw_alone.proofs.laws.last_laws.Goals as goal

pub returns : goal.returns
returns c = record { lasts = lasts; few = few_to_end; ends = ends_at_last }
