use Rattle.kw_kept.proofs.NeededLists.{covered_still, late_starts, late_still, goes_by_covered}
use Rattle.kw_kept.specs.Puts.{On, OnEach}
use Rattle.kw_kept.proofs.laws.scan_laws.Goals as goal

pub returns : goal.returns
returns c = record {
  covered = λ clock later waits after a b passed listed most m l h. covered_still clock later waits after (OnEach a) (OnEach b) m (On passed) (On listed) most l h;
  early = λ waits a since most f. late_starts waits (OnEach a) since most f;
  late = λ clock later waits after a b since most m l h. late_still clock later waits after (OnEach a) (OnEach b) m since most l h;
  goes_by = λ waits a passed now listed more since most s r l h. goes_by_covered since waits (OnEach a) (On passed) (On now) (On listed) (On more) most s r l h;
}
