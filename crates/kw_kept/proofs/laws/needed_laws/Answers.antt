use Rattle.kw_kept.proofs.NeededLists.{needed_was, all_covered, kept_of_fewer}
use Rattle.kw_kept.specs.Puts.{On, OnEach}
use Rattle.kw_kept.specs.Kept.{on_rows}
use Rattle.kw_kept.proofs.laws.needed_laws.Goals as goal

pub returns : goal.returns
returns c = record {
  shrinks = λ clock later waits after a b p q u m r n. needed_was clock later waits after (OnEach a) (OnEach b) m (OnEach p) (OnEach q) r u n;
  kept = λ puts a before now f h. kept_of_fewer puts (on_rows a) (On before) (On now) f h;
  all = λ clock a p scanned passed listed most u l f g h i n. all_covered clock (OnEach a) (OnEach p) (On scanned) (On passed) (On listed) most u l f g h i n;
}
