use Rattle.kw_lists.proofs.Reaching.{reached_listed, listed_reached}
use Rattle.kw_lists.proofs.laws.path_laws.Goals as goal

pub returns : goal.returns
returns c = record { listed = listed_reached; saw = λ r d l m. reached_listed r l d m }
