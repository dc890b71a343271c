-- The calls of one seat in a list of events, in the order in which it began them.
--
-- What is seen of a call here, its number, what it asks, its first event and its end, goes by the
-- events of its seat alone. The record of a call has more, its put, which a reader of another seat
-- may settle.
use Rattle.std.specs.Prelude.{ℕ, ◌≡◌, ◌+◌, ◌==◌, ◌<◌, ◌≤◌, Option, Some, None, List, [], ◌∷◌, ◌++◌, map, filter, slice_get}
use Rattle.kw_model.specs.declared.call.Call.{Call}
use Rattle.kw_model.specs.declared.call.Reply.{Reply}
use Rattle.kw_world.specs.declared.activity.Activity.{Activity}
use Rattle.kw_world.specs.declared.event.Choice.{Choice}
use Rattle.kw_world.specs.declared.event.Choice.TheVariants.{Begin, Go, Guess, Stop}
use Rattle.kw_world.specs.declared.event.Event.{Event}
use Rattle.kw_world.specs.declared.local.Local.{Local}
use Rattle.kw_world.specs.declared.opening.Opening.{Opening}
use Rattle.kw_world.specs.Answers.{reply_of}
use Rattle.kw_world.specs.Sizes.{Sizes}
use Rattle.kw_core.specs.History.{History}
use Rattle.kw_core.specs.declared.history.CallLog.{CallLog}
use Rattle.kw_core.specs.declared.history.End.{End}
use Rattle.kw_core.specs.Run.{history}
use Rattle.kw_core.specs.Stages.{IsBusy}

-- the calls of the record whose seat is s
unfoldable pub calls_by : ℕ → History → List CallLog
calls_by s h = filter (λ (c : CallLog). c.seat == s) h.calls

-- the calls of seat s in the list
unfoldable pub calls_of : Sizes → Opening → ℕ → List Event → List CallLog
calls_of z o s es = calls_by s (history z o es).history

-- a call as its seat's own events show it
pub record CallSeen : Type 0 where
  pub number : ℕ
  pub call : Call
  pub first : ℕ
  pub end : Option End

-- what is seen of a call
abbrev pub seen : CallLog → CallSeen
seen c = record { number = c.number; call = c.call; first = c.first; end = c.end }

-- what is seen of each call
abbrev pub seen_calls : List CallLog → List CallSeen
seen_calls cs = map seen cs

-- the calls of seat s in the list, as its own events show them
unfoldable pub calls_seen : Sizes → Opening → ℕ → List Event → List CallSeen
calls_seen z o s es = seen_calls (calls_of z o s es)

-- One event of the seat.

-- the number-th call of its seat, which begins at place n
abbrev pub begun_at : ℕ → ℕ → Call → CallSeen
begun_at n number call = record { number = number; call = call; first = n; end = None }

-- the call, which ends at place n with this reply
abbrev pub ended_at : ℕ → Reply → CallSeen → CallSeen
ended_at n reply c = record c { end = Some (record { at = n; reply = reply }) }

-- the last call of the list ends
unfoldable pub end_last : ℕ → Reply → List CallSeen → List CallSeen
end_last n reply [] = []
end_last n reply (c ∷ []) = ended_at n reply c ∷ []
end_last n reply (c ∷ d ∷ cs) = c ∷ end_last n reply (d ∷ cs)

-- the calls of a seat that has begun `number` calls, after its event at place n, at this activity
-- and with this choice: an idle seat begins a call, and one that leaves ends its last call
abbrev pub seen_after : Activity → Choice → Local → ℕ → List CallSeen → List CallSeen
seen_after Activity.Idle (Begin call) l n cs = cs ++ begun_at n (l.number + 1) call ∷ []
seen_after Activity.Idle Go l n cs = cs
seen_after Activity.Idle (Guess r) l n cs = cs
seen_after Activity.Idle Stop l n cs = cs
seen_after (Activity.Leave answer) choice l n cs = end_last n (reply_of answer l.pairs) cs
seen_after _ choice l n cs = cs

-- How the calls lie.

-- all calls have ended; each begins at `low` or later and after the end of the one before it, and
-- ends below `high`
abbrev pub AreInTurn : ℕ → List CallSeen → ℕ → Type 0
AreInTurn low [] high = low ≤ high
AreInTurn low (c ∷ cs) high = (e : End) × (c.end ≡ Some e) × (low ≤ c.first) × (c.first < e.at) × AreInTurn (e.at + 1) cs high

-- all calls but the last have ended, in turn and before it began; the last one is that which the
-- seat makes
pub record HasLast (n : ℕ) (l : Local) (cs : List CallSeen) : Type 0 where
  pub before : List CallSeen
  pub last : CallSeen
  pub is : cs ≡ before ++ last ∷ []
  pub in_turn : AreInTurn 0 before last.first
  pub first : last.first < n
  pub runs : last.end ≡ None
  pub number : last.number ≡ l.number
  pub call : l.call ≡ Some last.call

-- the calls of a seat that knows l, after n events: an idle seat's have all ended, and any other
-- seat makes the last one
pub record KeepsTurns (n : ℕ) (l : Local) (cs : List CallSeen) : Type 0 where
  pub rests : l.activity ≡ Activity.Idle → AreInTurn 0 cs n
  pub makes : IsBusy l.activity → HasLast n l cs

-- the same, call by call: each begins and ends below n, ends after it began, and has ended before a
-- later one began
pub record AreApart (n : ℕ) (cs : List CallSeen) : Type 0 where
  pub first : (i : ℕ) (c : CallSeen) → slice_get cs i ≡ Some c → c.first < n
  pub end : (i : ℕ) (c : CallSeen) (e : End) → slice_get cs i ≡ Some c → c.end ≡ Some e → (c.first < e.at) × (e.at < n)
  pub apart : (i j : ℕ) (c d : CallSeen) → i < j → slice_get cs i ≡ Some c → slice_get cs j ≡ Some d → (e : End) × (c.end ≡ Some e) × (e.at < d.first)

-- Longer lists.

-- the same call, which may have ended since
pub record IsStill (c d : CallSeen) : Type 0 where
  pub number : d.number ≡ c.number
  pub call : d.call ≡ c.call
  pub first : d.first ≡ c.first
  pub end : (e : End) → c.end ≡ Some e → d.end ≡ Some e

-- the longer list begins with the calls of the shorter one; a call that had not ended may have
-- ended since
abbrev pub AreStill : List CallSeen → List CallSeen → Type 0
AreStill [] ds = Unit {0}
AreStill (c ∷ cs) [] = ⊥
AreStill (c ∷ cs) (d ∷ ds) = IsStill c d × AreStill cs ds
