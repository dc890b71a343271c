-- What a record is: the ranges of its numbers, its lines, and the bytes that are its text.
use Rattle.std.specs.Prelude.{ℕ, ◌≡◌, ◌+◌, ◌<◌, ◌≤◌, ◌^◌, Some, List, [], ◌∷◌, ◌++◌, map, length, slice_get}
use Rattle.std.specs.List.{AllByRecursion, flat_map}
use Rattle.kw_model.specs.declared.call.Call.{Call}
use Rattle.kw_model.specs.declared.call.Call.TheVariants as call
use Rattle.kw_model.specs.declared.call.Reply.{Reply}
use Rattle.kw_model.specs.declared.call.Reply.TheVariants as reply
use Rattle.kw_line.specs.declared.words.TheConstants.{LINE_FEED}
use Rattle.kw_line.specs.Cut.{lines}
use Rattle.kw_judge.specs.declared.record.Name.{Name}
use Rattle.kw_judge.specs.declared.record.DoneCall.{DoneCall}
use Rattle.kw_judge.specs.declared.record.OpenCall.{OpenCall}
use Rattle.kw_judge.specs.declared.record.TheConstants.{RECORD_SEATS, MOST_NUMBER, MOST_POSITION, MOST_CALLS}
use Rattle.kw_judge.specs.Texts.{done_text, open_text, order_text}

-- a record as contracts see it: the calls that were answered, the puts and deletes that were not
-- and took effect, and the order that is claimed
pub record RecordView : Type 0 where
  pub done : List DoneCall
  pub open_calls : List OpenCall
  pub order : List Name

-- the ranges of names, pairs, replies and calls

abbrev pub IsName : Name → Type 0
IsName name = (name.seat < RECORD_SEATS) × (1 ≤ name.number) × (name.number ≤ MOST_NUMBER)

abbrev pub IsPair : ℕ × ℕ → Type 0
IsPair p = (p.0 < 2 ^ 32) × (p.1 < 2 ^ 63)

abbrev pub FitsReply : Reply → Type 0
FitsReply (reply.Value v) = v < 2 ^ 63
FitsReply (reply.Pairs ps) = AllByRecursion IsPair ps
FitsReply _ = Unit {0}

-- the call sets a value or takes a key away
abbrev pub IsUpdate : Call → Type 0
IsUpdate (call.Put k v) = Unit {0}
IsUpdate (call.Del k) = Unit {0}
IsUpdate (call.Get k) = ⊥
IsUpdate (call.Scan a b) = ⊥
IsUpdate call.Pin = ⊥
IsUpdate (call.ScanAt a b) = ⊥
IsUpdate call.Unpin = ⊥

-- a call that a record may have: its keys have 32 bits, and its value has 63
abbrev pub IsRecordCall : Call → Type 0
IsRecordCall (call.Put k v) = (k < 2 ^ 32) × (v < 2 ^ 63)
IsRecordCall (call.Del k) = k < 2 ^ 32
IsRecordCall (call.Get k) = k < 2 ^ 32
IsRecordCall (call.Scan a b) = (a < 2 ^ 32) × (b < 2 ^ 32)
IsRecordCall call.Pin = Unit {0}
IsRecordCall (call.ScanAt a b) = (a < 2 ^ 32) × (b < 2 ^ 32)
IsRecordCall call.Unpin = Unit {0}

pub record IsDone (d : DoneCall) : Type 0 where
  pub name : IsName d.name
  pub rising : d.first ≤ d.last
  pub last : d.last ≤ MOST_POSITION
  pub call : IsRecordCall d.call
  pub reply : FitsReply d.reply

pub record IsOpen (o : OpenCall) : Type 0 where
  pub name : IsName o.name
  pub first : o.first ≤ MOST_POSITION
  pub update : IsUpdate o.call
  pub call : IsRecordCall o.call

-- no two places have the same
abbrev pub Once : {X : Type 0} → List X → Type 0
Once {X} xs = (i j : ℕ) (x : X) → slice_get xs i ≡ Some x → slice_get xs j ≡ Some x → i ≡ j

-- the names of the lines, from the first line on
abbrev pub names_of : RecordView → List Name
names_of r = map (λ (d : DoneCall). d.name) r.done ++ map (λ (o : OpenCall). o.name) r.open_calls

-- what a record may be: its numbers are in range, no name stands in two of its lines, and these are
-- not too many
pub record IsRecord (r : RecordView) : Type 0 where
  pub each_done : AllByRecursion IsDone r.done
  pub each_open : AllByRecursion IsOpen r.open_calls
  pub each_name : AllByRecursion IsName r.order
  pub once : Once (names_of r)
  pub few : length (names_of r) ≤ MOST_CALLS

-- the lines of a record: those of the answered calls, those of the others, and the order
abbrev pub record_lines : RecordView → List (List ℕ)
record_lines r = (map done_text r.done ++ map open_text r.open_calls) ++ order_text r.order ∷ []

-- the text of a record: its lines, each with a line feed behind it
abbrev pub record_text : RecordView → List ℕ
record_text r = flat_map (λ line. line ++ LINE_FEED ∷ []) (record_lines r)

-- the lines of these bytes are those of the record
pub record IsRecordText (bytes : List ℕ) (r : RecordView) : Type 0 where
  pub fits : IsRecord r
  pub texts : lines bytes ≡ record_lines r

-- the lines begin a record: other lines may follow that make them one
pub record Begins (ls : List (List ℕ)) : Type 0 where
  pub whole : RecordView
  pub fits : IsRecord whole
  pub rest : List (List ℕ)
  pub texts : record_lines whole ≡ ls ++ rest

-- the lines after those that begin a record are bad from the first one on; where none is there,
-- what there is is no record yet
abbrev pub IsBadAfter : List (List ℕ) → List (List ℕ) → Type 0
IsBadAfter before [] = (r : RecordView) → IsRecord r → record_lines r ≡ before → ⊥
IsBadAfter before (line ∷ after) = Begins (before ++ line ∷ []) → ⊥

-- this line, counted from 1, is the first up to which the lines begin no record; or it is the one
-- after the last
pub record IsFirstBad (bytes : List ℕ) (number : ℕ) : Type 0 where
  pub before : List (List ℕ)
  pub after : List (List ℕ)
  pub number_is : number ≡ length before + 1
  pub cut : lines bytes ≡ before ++ after
  pub begins : Begins before
  pub bad : IsBadAfter before after
