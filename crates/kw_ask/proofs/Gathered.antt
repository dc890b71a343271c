-- The answer to a range line, from what its scan says.
use Rattle.std.proofs.Common.{◌≡◌, ℕ, IsTrue, [], Option, Ok, sym, ap, ◌∙◌, subst}
use Rattle.kw_model.specs.declared.call.Call.TheVariants.{Scan}
use Rattle.kw_model.specs.Map.{Pairs}
use Rattle.kw_line.specs.declared.answer.Answer.{Answer}
use Rattle.kw_line.specs.declared.item.Form.{Form}
use Rattle.kw_line.specs.Answered.{IsReplyOf, is_range, answer_for, answer_of_pairs}
use Rattle.kw_table.specs.declared.pass.Pass.{Pass}
use Rattle.kw_map.specs.Gather.{Takes}
use Rattle.kw_map.specs.Kiwi.{AnswersScan}
use Rattle.kw_ask.specs.Asking.{LineAnswered}

-- a scan whose gatherer was new answers what the gatherer says of the lists for which it stands
pub gathered : {S : Type 0} (last : S → Option ℕ) (stands : S → Pairs → Type 0) (Counted Same : Type 0) (p q : Pass) (from upto : ℕ) (old new : S) (f : Form) (answer : Answer)
    → IsTrue (is_range f) → AnswersScan (λ pairs. Takes last stands old pairs new) Counted Same p q from upto (Ok tt) → stands old [] → ((list : Pairs) → stands new list → answer ≡ answer_of_pairs f list) → LineAnswered p q (Scan from upto) f answer
gathered last stands Counted Same p q from upto old new f answer range scan start gives = record {
  reply = scan.reply;
  calls = scan.calls;
  is_reply = subst (IsReplyOf f) (sym scan.gave.1) range;
  answer_is = gives scan.gave.0 (scan.gave.2.follows [] start) ∙ sym (ap (answer_for f) scan.gave.1);
}
