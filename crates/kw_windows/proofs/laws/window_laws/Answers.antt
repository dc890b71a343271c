use Rattle.kw_windows.proofs.Building.{few_builds, most_taken}
use Rattle.kw_windows.proofs.Keeping.{counted_new, counted_after, taken_most}
use Rattle.kw_windows.proofs.laws.window_laws.Goals as goal

pub returns : goal.returns
returns c = record {
  new = counted_new;
  kept = counted_after;
  lives = λ z w t k. (few_builds z.rows w (w.seats t).stage (w.seats t) (k.seats t).builds).0;
  deads = λ z w t k. (few_builds z.rows w (w.seats t).stage (w.seats t) (k.seats t).builds).1;
  seat = λ z w t few k. most_taken z w (w.seats t) few (k.seats t);
  all = taken_most;
}
