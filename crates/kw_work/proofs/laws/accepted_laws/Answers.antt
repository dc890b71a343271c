use Rattle.std.proofs.Common.{[]}
use Rattle.kw_work.proofs.AllKeys.{went_all-more, all_keys}
use Rattle.kw_work.proofs.QuietReplies.{accepted_whole, quiet_right}
use Rattle.kw_work.proofs.laws.accepted_laws.Goals as goal

pub returns : goal.returns
returns c = record {
  whole = λ blocks rs xs long o keeps. accepted_whole blocks rs xs long o keeps;
  quiet = λ blocks rs xs long forms o keeps legal. quiet_right blocks rs xs long o keeps forms legal;
  step = went_all-more [];
  all_keys = all_keys;
}
