use Rattle.std.proofs.Common.{[]}
use Rattle.kw_model.proofs.Answers.{answers_only}
use Rattle.kw_work.proofs.LineOrders.{line_order, legal_in_line_order}
use Rattle.kw_work.proofs.WorkerOrders.{keeps_all, keeps_keys}
use Rattle.kw_work.proofs.QuietReplies.{quiet_answered}
use Rattle.kw_work.proofs.QuietItems.{quiet_items_answered}
use Rattle.kw_work.proofs.laws.quiet_laws.Goals as goal

pub returns : goal.returns
returns c = record {
  whole = line_order;
  right = legal_in_line_order;
  answered = λ cs rs none legal. answers_only [] cs rs none legal;
  one_worker = keeps_all;
  keys = keeps_keys;
  quiet = λ blocks rs xs long forms o keeps served legal. quiet_answered blocks rs xs long o keeps forms served legal;
  items = λ n items rs xs all long o keeps served legal. quiet_items_answered n items rs xs all long o keeps served legal;
}
