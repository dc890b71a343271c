use Rattle.kw_kept.proofs.FrontStays.{front_starts, front_stays}
use Rattle.kw_kept.specs.Puts.{On}
use Rattle.kw_kept.proofs.laws.front_laws.Goals as goal

pub returns : goal.returns
returns c = record {
  starts = λ puts row stamped a k u f g h. front_starts puts (On row) (On stamped) a k u f g h;
  stays = λ puts later row next stamped now a k u g h. front_stays puts later (On row) (On next) (On stamped) (On now) a k u g h;
}
