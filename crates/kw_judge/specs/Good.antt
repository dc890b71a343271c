-- Which records are good: said of the three lists of a record alone.
use Rattle.std.specs.Prelude.{ℕ, ◌≡◌, ◌<◌, ◌==◌, ◌&&◌, Bool, Option, Some, None, unwrap_or, List, ◌++◌, map, Contains, slice_get}
use Rattle.std.specs.List.{find}
use Rattle.kw_model.specs.Snapshots.{empty}
use Rattle.kw_model.specs.LegalFor.{IsLegalFor}
use Rattle.kw_model.specs.declared.call.Call.{Call}
use Rattle.kw_model.specs.declared.call.Call.TheVariants.{Get}
use Rattle.kw_model.specs.declared.call.Reply.{Reply}
use Rattle.kw_model.specs.declared.call.Reply.TheVariants.{Done}
use Rattle.kw_judge.specs.declared.record.Name.{Name}
use Rattle.kw_judge.specs.declared.record.DoneCall.{DoneCall}
use Rattle.kw_judge.specs.declared.record.OpenCall.{OpenCall}
use Rattle.kw_judge.specs.Record.{RecordView, Once, names_of}

-- a call of a record: one that was not answered has no last position, and counts as done
pub record Recorded : Type 0 where
  pub name : Name
  pub first : ℕ
  pub last : Option ℕ
  pub call : Call
  pub reply : Reply

abbrev pub answered : DoneCall → Recorded
answered d = record { name = d.name; first = d.first; last = Some d.last; call = d.call; reply = d.reply }

abbrev pub unanswered : OpenCall → Recorded
unanswered o = record { name = o.name; first = o.first; last = None; call = o.call; reply = Done }

-- the calls of a record, line by line
abbrev pub calls_of : RecordView → List Recorded
calls_of r = map answered r.done ++ map unanswered r.open_calls

-- two names are one
abbrev pub same_name : Name → Name → Bool
same_name a b = (a.seat == b.seat) && (a.number == b.number)

-- what stands for a call that is not there
abbrev pub no_call : Recorded
no_call = record { name = record { seat = 0; number = 0 }; first = 0; last = None; call = Get 0; reply = Done }

-- the call of this name
abbrev pub call_named : RecordView → Name → Recorded
call_named r name = unwrap_or (find (λ c. same_name name c.name) (calls_of r)) no_call

-- the calls in the order that is claimed
abbrev pub calls_in_order : RecordView → List Recorded
calls_in_order r = map (call_named r) r.order

-- the first call had ended when the second one began
abbrev pub EndedBefore : Recorded → Recorded → Type 0
EndedBefore a b = (end : ℕ) × (a.last ≡ Some end) × (end < b.first)

-- the seats, the calls and the replies of calls
abbrev pub seats : List Recorded → List ℕ
seats cs = map (λ (c : Recorded). c.name.seat) cs

abbrev pub calls : List Recorded → List Call
calls cs = map (λ (c : Recorded). c.call) cs

abbrev pub replies : List Recorded → List Reply
replies cs = map (λ (c : Recorded). c.reply) cs

-- the order has the name of each line once and no other; no call stands behind one that began only
-- after it had ended; and the calls, asked in this order of the empty map of one thread, each for
-- the seat of its name, have their replies
pub record IsGood (r : RecordView) : Type 0 where
  pub once : Once r.order
  pub known : (name : Name) → Contains r.order name → Contains (names_of r) name
  pub every : (name : Name) → Contains (names_of r) name → Contains r.order name
  pub precedes : (i j : ℕ) (a b : Recorded) → slice_get (calls_in_order r) i ≡ Some a → slice_get (calls_in_order r) j ≡ Some b → j < i → EndedBefore a b → ⊥
  pub legal : IsLegalFor empty (seats (calls_in_order r)) (calls (calls_in_order r)) (replies (calls_in_order r))
