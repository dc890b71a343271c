-- What a list of events has recorded of the calls that lines make.
use Rattle.std.specs.Prelude.{ℕ, ◌≡◌, ◌<◌, ◌≤◌, List, [], map, slice_get, Option, Some, None}
use Rattle.kw_model.specs.declared.call.Call.{Call}
use Rattle.kw_model.specs.declared.call.Call.TheVariants.{Get}
use Rattle.kw_model.specs.declared.call.Reply.{Reply}
use Rattle.kw_model.specs.declared.call.Reply.TheVariants.{Stopped}
use Rattle.kw_world.specs.declared.event.Event.{Event}
use Rattle.kw_world.specs.declared.opening.Opening.{Opening}
use Rattle.kw_world.specs.Sizes.{product}
use Rattle.kw_core.specs.declared.history.End.{End}
use Rattle.kw_laws.specs.SeatCalls.{CallSeen, calls_seen}
use Rattle.kw_line.specs.declared.answer.Answer.{Answer}
use Rattle.kw_line.specs.declared.item.Form.{Form}
use Rattle.kw_line.specs.Answered.{IsReplyOf, answers_for}
use Rattle.kw_work.specs.declared.line.Line.{Line}
use Rattle.kw_work.specs.Collecting.{merge}

-- the calls of each seat in the list
abbrev pub seat_calls : Opening → List Event → ℕ → List CallSeen
seat_calls o es seat = calls_seen product o seat es

-- what these calls ask
abbrev pub asked : List CallSeen → List Call
asked cs = map (λ (c : CallSeen). c.call) cs

-- what these lines ask
abbrev pub asks : List Line → List Call
asks ls = map (λ (l : Line). l.call) ls

-- the forms of these lines
abbrev pub line_forms : List Line → List Form
line_forms ls = map (λ (l : Line). l.form) ls

-- the reply of a call that has ended; one that has not has no reply, and is given one here only so
-- that there is always one
abbrev pub reply_at : Option End → Reply
reply_at None = Stopped
reply_at (Some e) = e.reply

abbrev pub reply_of : CallSeen → Reply
reply_of c = reply_at c.end

-- a call has ended before place n
abbrev pub EndsBefore : ℕ → Option End → Type 0
EndsBefore n None = ⊥
EndsBefore n (Some e) = e.at < n

-- the call begins at place a or later, ends before place b, and was not stopped
pub record IsWithin (a b : ℕ) (c : CallSeen) : Type 0 where
  pub begins : a ≤ c.first
  pub ends : EndsBefore b c.end
  pub unstopped : reply_of c ≡ Stopped → ⊥

-- each of these calls has a reply that the line in its place may have, which is one of the line's
-- form
abbrev pub AreReplies : List Line → List CallSeen → Type 0
AreReplies ls cs = (i : ℕ) (l : Line) (c : CallSeen) → slice_get ls i ≡ Some l → slice_get cs i ≡ Some c → IsReplyOf l.form (reply_of c)

-- what stands where a worker has too few calls
abbrev pub no_call : CallSeen
no_call = record { number = 0; call = Get 0; first = 0; end = None }

-- the replies of the lines in line order, where each of n workers has made these calls: the i-th
-- call of a worker is that of its i-th line
abbrev pub recorded : ℕ → (ℕ → List CallSeen) → List Line → List Reply
recorded n made lines = map reply_of (merge n made no_call [] lines)

-- what is printed for the lines, where each of n workers has made these calls
abbrev pub printed : ℕ → (ℕ → List CallSeen) → List Line → List Answer
printed n made lines = answers_for (line_forms lines) (recorded n made lines)
