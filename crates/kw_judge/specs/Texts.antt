-- The one text of calls, replies and names, and of the lines of a record.
use Rattle.std.specs.Prelude.{ℕ, List, [], ◌∷◌, ◌++◌, map, codes, decimal}
use Rattle.std.specs.List.{join_with_byte}
use Rattle.kw_model.specs.declared.call.Call.{Call}
use Rattle.kw_model.specs.declared.call.Call.TheVariants as call
use Rattle.kw_model.specs.declared.call.Reply.{Reply}
use Rattle.kw_model.specs.declared.call.Reply.TheVariants as reply
use Rattle.kw_line.specs.declared.words.TheConstants.{SPACE}
use Rattle.kw_line.specs.Line.{arguments}
use Rattle.kw_line.specs.Answered.{pairs_text}
use Rattle.kw_judge.specs.declared.parse.CallVerb.{CallVerb}
use Rattle.kw_judge.specs.declared.parse.CallVerb.TheVariants as call_verb
use Rattle.kw_judge.specs.declared.print.TheConstants.{DOT, COLON}
use Rattle.kw_judge.specs.declared.record.Name.{Name}
use Rattle.kw_judge.specs.declared.record.DoneCall.{DoneCall}
use Rattle.kw_judge.specs.declared.record.OpenCall.{OpenCall}

-- what a call does, and the word for it
abbrev pub call_verb_of : Call → CallVerb
call_verb_of (call.Put k v) = call_verb.Put
call_verb_of (call.Del k) = call_verb.Del
call_verb_of (call.Get k) = call_verb.Get
call_verb_of (call.Scan a b) = call_verb.Scan
call_verb_of call.Pin = call_verb.Pin
call_verb_of (call.ScanAt a b) = call_verb.ScanAt
call_verb_of call.Unpin = call_verb.Unpin

abbrev pub call_verb_word : CallVerb → List ℕ
call_verb_word call_verb.Put = codes "put"
call_verb_word call_verb.Del = codes "del"
call_verb_word call_verb.Get = codes "get"
call_verb_word call_verb.Scan = codes "scan"
call_verb_word call_verb.Pin = codes "pin"
call_verb_word call_verb.ScanAt = codes "scan_at"
call_verb_word call_verb.Unpin = codes "unpin"

-- the word that a call begins with
abbrev pub call_word : Call → List ℕ
call_word c = call_verb_word (call_verb_of c)

-- the words of a call: its own, and its numbers without a sign or a leading zero
abbrev pub call_words : Call → List (List ℕ)
call_words c = call_word c ∷ map decimal (arguments c)

-- a call as a script or a record has it: its words, separated by one space each
abbrev pub call_text : Call → List ℕ
call_text c = join_with_byte SPACE (call_words c)

-- a reply as it is printed
abbrev pub reply_text : Reply → List ℕ
reply_text reply.Done = codes "ok"
reply_text (reply.Value v) = decimal v
reply_text reply.Absent = codes "none"
reply_text (reply.Pairs ps) = pairs_text ps
reply_text reply.NoRows = codes "no rows"
reply_text reply.Spent = codes "spent"
reply_text reply.Stopped = codes "stopped"
reply_text reply.Held = codes "held"
reply_text reply.NotPinned = codes "not pinned"

-- the name of a call: its seat, and its number among the calls of the seat, from 1 on
abbrev pub name_text : Name → List ℕ
name_text name = decimal name.seat ++ DOT ∷ decimal name.number

-- what stands before the colon of the line of a call that was answered
unfoldable pub done_head : DoneCall → List ℕ
done_head d = join_with_byte SPACE (codes "done" ∷ name_text d.name ∷ decimal d.first ∷ decimal d.last ∷ call_words d.call)

-- the line of a call that was answered: its name, its first and its last position, the call and its
-- reply
unfoldable pub done_text : DoneCall → List ℕ
done_text d = done_head d ++ COLON ∷ SPACE ∷ reply_text d.reply

-- the line of a call that was not: its name, its first position and the call
unfoldable pub open_text : OpenCall → List ℕ
open_text o = join_with_byte SPACE (codes "open" ∷ name_text o.name ∷ decimal o.first ∷ call_words o.call)

-- the names of an order; it says where there are none
abbrev pub order_words : List Name → List (List ℕ)
order_words [] = codes "none" ∷ []
order_words (name ∷ names) = map name_text (name ∷ names)

-- the line that says in which order these calls stand
unfoldable pub order_text : List Name → List ℕ
order_text names = join_with_byte SPACE (codes "order" ∷ order_words names)
