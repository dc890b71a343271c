-- What the lines of a session ask, and what is said to each.
use Rattle.std.specs.Prelude.{ℕ, ◌≡◌, ◌≤◌, List, [], ◌∷◌, ◌++◌, length, codes, decimal, Some}
use Rattle.kw_model.specs.declared.call.Call.{Call}
use Rattle.kw_model.specs.declared.call.Reply.{Reply}
use Rattle.kw_laws.specs.SeatCalls.{CallSeen}
use Rattle.kw_line.specs.declared.answer.Answer.{Answer}
use Rattle.kw_line.specs.declared.item.Form.{Form}
use Rattle.kw_line.specs.declared.item.Item.TheVariants as item
use Rattle.kw_line.specs.declared.words.TheConstants.{LINE_FEED}
use Rattle.kw_line.specs.Line.{IsCallOf, FitsCall, item_text}
use Rattle.kw_line.specs.Answered.{IsReplyOf, answer_for, answer_text}
use Rattle.kiwid.specs.declared.request.Request.{Request}
use Rattle.kiwid.specs.declared.request.Request.TheVariants.{Plain}
use Rattle.kiwid.specs.declared.request.TheConstants.{MOST_BYTES}

-- the call that a request asks for
abbrev pub call_of : Request → Call
call_of (Plain call form) = call

-- the form in which its answer is printed
abbrev pub form_of : Request → Form
form_of (Plain call form) = form

-- the call is one of its form, and its numbers are in range
abbrev pub IsRequest : Request → Type 0
IsRequest r = IsCallOf (form_of r) (call_of r) × FitsCall (call_of r)

-- the text of a request: its line, without the byte that ends it
abbrev pub request_text : Request → List ℕ
request_text r = item_text (item.Call (call_of r) (form_of r))

-- the line is the text of a request
abbrev pub IsRequestLine : List ℕ → Type 0
IsRequestLine line = (r : Request) × IsRequest r × (line ≡ request_text r)

-- the line is one that a session serves: the text of a request, and not too long
pub record IsGood (line : List ℕ) : Type 0 where
  pub request : IsRequestLine line
  pub short : length line ≤ MOST_BYTES

-- the line is that of this request, and not too long
pub record IsRequestIn (line : List ℕ) (r : Request) : Type 0 where
  pub request : IsRequest r
  pub text : line ≡ request_text r
  pub short : length line ≤ MOST_BYTES

-- a request, the call that was made for it, and what that call replied
pub record Served : Type 0 where
  pub request : Request
  pub made : CallSeen
  pub reply : Reply

-- the line of a served request
abbrev pub line_of : Served → List ℕ
line_of s = request_text s.request

-- the call is that of the request, and has ended with the reply
pub record IsMade (s : Served) : Type 0 where
  pub call_is : s.made.call ≡ call_of s.request
  pub last : ℕ
  pub end_is : s.made.end ≡ Some (record { at = last; reply = s.reply })

-- the line was good, its call was made and has ended, and the reply is one of its form
pub record IsServed (s : Served) : Type 0 where
  pub good : IsGood (line_of s)
  pub made : IsMade s
  pub is_reply : IsReplyOf (form_of s.request) s.reply

-- an answer as a session prints it
abbrev pub answer_line : Answer → List ℕ
answer_line answer = answer_text answer ++ LINE_FEED ∷ []

-- what is printed for a served request
abbrev pub said : Served → List ℕ
said s = answer_line (answer_for (form_of s.request) s.reply)

-- what is printed for a line that is no good one
abbrev pub bad_text : ℕ → List ℕ
bad_text number = codes "bad line " ++ (decimal number ++ LINE_FEED ∷ [])
