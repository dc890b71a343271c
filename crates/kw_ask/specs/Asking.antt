-- What becomes of the call of one line.
use Rattle.std.specs.Prelude.{◌≡◌, ℕ}
use Rattle.kw_model.specs.declared.call.Call.{Call}
use Rattle.kw_model.specs.declared.call.Reply.{Reply}
use Rattle.kw_world.specs.Sizes.{product}
use Rattle.kw_laws.specs.Causes.{AskedAll, IsSpentBy}
use Rattle.kw_line.specs.declared.answer.Answer.{Answer}
use Rattle.kw_line.specs.declared.answer.Answer.TheVariants as answer
use Rattle.kw_line.specs.declared.item.Form.{Form}
use Rattle.kw_line.specs.Answered.{IsReplyOf, answer_for}
use Rattle.kw_table.specs.declared.pass.Pass.{Pass}
use Rattle.kw_table.specs.declared.pass.View.{View}
use Rattle.kw_table.specs.Passes.{view}
use Rattle.kw_follow.specs.Calling.{Calls}

-- the pass made this call, which was its next one, and had a reply that a line of this form may
-- have; the answer is what such a line prints for it
pub record LineAnswered (p q : Pass) (call : Call) (form : Form) (answer : Answer) : Type 0 where
  pub reply : Reply
  pub calls : Calls p q call reply
  pub is_reply : IsReplyOf form reply
  pub answer_is : answer ≡ answer_for form reply

-- what the view's seat found between the first and the last event of its call, which was answered
-- so: that it is spent, or that no rows are left
abbrev pub IsCause : Answer → View → Call → ℕ → ℕ → Type 0
IsCause answer.NoRows v call first last = AskedAll product v.opening v.seen v.number v.opening.rows first last
IsCause answer.Spent v call first last = IsSpentBy product v.opening v.seen call v.number first last
IsCause _ v call first last = Unit {0}

-- where the line was refused, the pass's seat has found why, while it made the line's call
abbrev pub HasCause : Pass → Pass → Call → Form → Answer → Type 0
HasCause p q call form given = (a : LineAnswered p q call form given) → IsCause given (view q) call a.calls.first a.calls.last
