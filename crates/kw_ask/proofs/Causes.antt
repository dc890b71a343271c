-- Why a line was refused. Nothing of the code is asked: what the pass has seen is valid, so each
-- call of its record has its reason, and the line's call stands there last.
use Rattle.std.proofs.Common.{ℕ, ◌∙◌, Option, Some, None, Result, Ok, Err, ap, length, refl, sym, subst}
use Rattle.std.specs.Prelude.{IfOk}
use Rattle.std.specs.List.{slice_get}
use Rattle.kw_model.specs.declared.memory.Memory.{Memory}
use Rattle.kw_model.specs.declared.call.Call.{Call}
use Rattle.kw_model.specs.declared.call.Reply.{Reply}
use Rattle.kw_model.specs.declared.call.Reply.TheVariants as reply
use Rattle.kw_model.specs.Map.{Pairs}
use Rattle.kw_model.specs.Values.{values, least, greatest}
use Rattle.kw_laws.specs.SeatCalls.{CallSeen, begun_at, ended_at}
use Rattle.kw_line.specs.declared.answer.Answer.{Answer}
use Rattle.kw_line.specs.declared.item.Form.{Form}
use Rattle.kw_line.specs.declared.item.Form.TheVariants as form
use Rattle.kw_line.specs.Answered.{IsReplyOf, answer_for, answer_of_pairs, number_or_nothing}
use Rattle.kw_table.specs.declared.pass.Pass.{Pass}
use Rattle.kw_table.specs.declared.pass.View.{View}
use Rattle.kw_table.specs.Passes.{view}
use Rattle.kw_follow.specs.Calling.{Calls, calls_in}
use Rattle.kw_map.specs.Refusals.{HasReason}
use Rattle.kw_map.proofs.Refusals.{last_at, seat_caused}
use Rattle.kw_ask.specs.Asking.{HasCause, IsCause}

-- the call that a pass made last has its reason in what the pass has seen
made_reason : (p q : Pass) (call : Call) (given : Reply) (c : Calls p q call given) → HasReason (view q).opening (view q).seen (view q).number (ended_at c.last given (begun_at c.first c.number call))
made_reason p q call given c =
    let made : CallSeen = ended_at c.last given (begun_at c.first c.number call) in
    seat_caused (view q).opening (view q).seen q.known.opens q.known.valid (view q).number (length (calls_in p)) made
    (ap (λ cs. slice_get cs (length (calls_in p))) c.calls ∙ last_at (calls_in p) made)

-- what a line says of pairs is no refusal
number_is_none : (v : View) (call : Call) (first last : ℕ) (n : Option ℕ) → IsCause (number_or_nothing n) v call first last
number_is_none v call first last None = tt
number_is_none v call first last (Some n) = tt

pairs_are_none : (v : View) (call : Call) (first last : ℕ) (f : Form) (ps : Pairs) → IsCause (answer_of_pairs f ps) v call first last
pairs_are_none v call first last form.Put ps = tt
pairs_are_none v call first last form.Del ps = tt
pairs_are_none v call first last form.Get ps = tt
pairs_are_none v call first last form.Sum ps = tt
pairs_are_none v call first last form.Count ps = tt
pairs_are_none v call first last form.Least ps = number_is_none v call first last (least (values ps))
pairs_are_none v call first last form.Greatest ps = number_is_none v call first last (greatest (values ps))
pairs_are_none v call first last form.List ps = tt

-- what a line says of a reply that its form may have
caused_by : (v : View) (call : Call) (first last number : ℕ) (f : Form) (given : Reply) → IsReplyOf f given → HasReason v.opening v.seen v.number (ended_at last given (begun_at first number call)) → IsCause (answer_for f given) v call first last
caused_by v call first last number f reply.Done is reason = tt
caused_by v call first last number f (reply.Value n) is reason = tt
caused_by v call first last number f reply.Absent is reason = tt
caused_by v call first last number f (reply.Pairs ps) is reason = pairs_are_none v call first last f ps
caused_by v call first last number f reply.NoRows is reason = reason.no_rows (record { at = last; reply = reply.NoRows }) refl refl
caused_by v call first last number f reply.Spent is reason = reason.spent (record { at = last; reply = reply.Spent }) refl refl
caused_by v call first last number f reply.Stopped is reason = absurd is
caused_by v call first last number f reply.Held is reason = absurd is
caused_by v call first last number f reply.NotPinned is reason = absurd is

-- a line that was refused has its cause
pub has_cause : (p q : Pass) (call : Call) (f : Form) (given : Answer) → HasCause p q call f given
has_cause p q call f given a =
    subst (λ (told : Answer). IsCause told (view q) call a.calls.first a.calls.last) (sym a.answer_is)
    (caused_by (view q) call a.calls.first a.calls.last a.calls.number f a.reply a.is_reply (made_reason p q call a.reply a.calls))

-- and so has each that has an answer
pub answered_has : (p q : Pass) (call : Call) (f : Form) (result : Result Answer Memory) → IfOk result (λ given. HasCause p q call f given)
answered_has p q call f (Ok given) = has_cause p q call f given
answered_has p q call f (Err memory) = tt
