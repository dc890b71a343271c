use Rattle.kw_lists.proofs.Inserting.{reached}
use Rattle.kw_lists.proofs.Reading.{list_ends, above_range, newest}
use Rattle.kw_lists.proofs.laws.read_laws.Goals as goal

pub returns : goal.returns
returns c = record {
  reaches = λ r at to d l e b. reached r at to l d e b;
  ends = list_ends;
  above = above_range;
  newest = newest;
}
