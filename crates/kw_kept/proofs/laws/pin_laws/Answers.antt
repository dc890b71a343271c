use Rattle.kw_kept.proofs.NeededLists.{pins_still, pin_covered, more_covered, none_covered}
use Rattle.kw_kept.specs.Puts.{On, OnEach}
use Rattle.kw_kept.proofs.laws.pin_laws.Goals as goal

pub returns : goal.returns
returns c = record {
  covered = λ scans a b scanned passed listed most p f h i. pins_still (OnEach scans) (OnEach a) (OnEach b) (On scanned) (On passed) (On listed) most p f h i;
  goes_by = λ a passed now listed more most s r h. pin_covered (OnEach a) (On passed) (On now) (On listed) (On more) most s r h;
  more = λ a passed listed more most f h. more_covered (OnEach a) (On passed) (On listed) (On more) most f h;
  none = λ a passed listed most f. none_covered (OnEach a) (On passed) (On listed) most f;
}
