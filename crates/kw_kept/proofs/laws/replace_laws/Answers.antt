use Rattle.kw_kept.proofs.RebuildKept.{rebuild_shown, replace_kept}
use Rattle.kw_kept.specs.Puts.{On}
use Rattle.kw_kept.specs.Kept.{on_rows}
use Rattle.kw_kept.proofs.laws.replace_laws.Goals as goal

pub returns : goal.returns
returns c = record {
  rebuilt = λ puts old new stamped listed k u most newest r m l h. rebuild_shown puts (On old) (On new) (On stamped) (On listed) k u most newest r m l h;
  kept = λ puts a b needed listed most newest r h. replace_kept puts (on_rows a) (on_rows b) (On needed) (On listed) most newest r h;
}
