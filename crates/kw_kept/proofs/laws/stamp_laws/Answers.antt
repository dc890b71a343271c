use Rattle.std.proofs.Common.{refl}
use Rattle.kw_kept.proofs.StampKept.{now_shown, stamp_kept}
use Rattle.kw_kept.specs.Puts.{On}
use Rattle.kw_kept.specs.Kept.{on_rows}
use Rattle.kw_kept.proofs.laws.stamp_laws.Goals as goal

pub returns : goal.returns
returns c = record {
  own = λ puts later a b row o u s l. now_shown puts later (on_rows a) (on_rows b) row o s (later o).key u refl l;
  kept = λ puts later a b needed row o s h. stamp_kept puts later (on_rows a) (on_rows b) row o s (On needed) h;
}
