-- The lines of a record, one by one.
use Rattle.std.specs.Prelude.{ℕ, List}
use Rattle.std.specs.List.{AllByRecursion}
use Rattle.std.specs.Prelude.{[], ◌∷◌, ◌≢◌, ◌≤◌, codes, decimal}
use Rattle.kw_judge.specs.declared.written.Entry.{Entry}
use Rattle.kw_judge.specs.declared.written.Entry.TheVariants.{Done, Open, Order}
use Rattle.kw_judge.specs.declared.written.Head.{Head}
use Rattle.kw_judge.specs.declared.written.Plain.{Plain}
use Rattle.kw_judge.specs.declared.written.Plain.TheVariants as plain
use Rattle.kw_model.specs.declared.call.Reply.{Reply}
use Rattle.kw_model.specs.declared.call.Reply.TheVariants as reply
use Rattle.kw_judge.specs.declared.record.Name.{Name}
use Rattle.kw_judge.specs.declared.record.DoneCall.{DoneCall}
use Rattle.kw_judge.specs.declared.record.TheConstants.{MOST_POSITION}
use Rattle.kw_judge.specs.declared.record.OpenCall.{OpenCall}
use Rattle.kw_judge.specs.Record.{IsName, IsRecordCall, IsDone, IsOpen}
use Rattle.kw_judge.specs.Texts.{done_text, open_text, order_text, name_text, call_words}

-- what is written in a line, its numbers in range
abbrev pub IsWritten : Entry → Type 0
IsWritten (Done call) = IsDone call
IsWritten (Open call) = IsOpen call
IsWritten (Order names) = AllByRecursion IsName names.items

-- and its text
abbrev pub written_text : Entry → List ℕ
written_text (Done call) = done_text call
written_text (Open call) = open_text call
written_text (Order names) = order_text names.items

-- what stands before the colon of an answered call
pub record IsHead (h : Head) : Type 0 where
  pub name : IsName h.name
  pub rising : h.first ≤ h.last
  pub last : h.last ≤ MOST_POSITION
  pub call : IsRecordCall h.call

-- its words
abbrev pub head_words : Head → List (List ℕ)
head_words h = codes "done" ∷ name_text h.name ∷ decimal h.first ∷ decimal h.last ∷ call_words h.call

-- the words of the line of a call that was not answered
abbrev pub open_words : OpenCall → List (List ℕ)
open_words o = codes "open" ∷ name_text o.name ∷ decimal o.first ∷ call_words o.call

-- the words of a reply that is printed so, and the reply
abbrev pub plain_text : Plain → List ℕ
plain_text plain.Done = codes "ok"
plain_text plain.Absent = codes "none"
plain_text plain.Empty = codes "empty"
plain_text plain.NoRows = codes "no rows"
plain_text plain.Spent = codes "spent"
plain_text plain.Stopped = codes "stopped"
plain_text plain.Held = codes "held"
plain_text plain.NotPinned = codes "not pinned"

abbrev pub plain_reply : Plain → Reply
plain_reply plain.Done = reply.Done
plain_reply plain.Absent = reply.Absent
plain_reply plain.Empty = reply.Pairs []
plain_reply plain.NoRows = reply.NoRows
plain_reply plain.Spent = reply.Spent
plain_reply plain.Stopped = reply.Stopped
plain_reply plain.Held = reply.Held
plain_reply plain.NotPinned = reply.NotPinned

-- the line is the text of nothing that may be written in one
pub record IsNoLine (line : List ℕ) : Type 0 where
  pub done : (d : DoneCall) → IsDone d → line ≢ done_text d
  pub open_calls : (o : OpenCall) → IsOpen o → line ≢ open_text o
  pub order : (names : List Name) → AllByRecursion IsName names → line ≢ order_text names
