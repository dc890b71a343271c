-- What a session does, however its bytes come.
use Rattle.std.specs.Prelude.{ℕ, ◌≡◌, ◌<◌, ◌≤◌, ◌⊎◌, ◌+◌, List, [], ◌∷◌, ◌++◌, map, length, take, All, Option, Some}
use Rattle.std.specs.List.{flat_map, AllByRecursion}
use Rattle.std.specs.Io.KnownBytes.{Appends, Consumes}
use Rattle.kw_model.specs.declared.call.Reply.TheVariants.{Stopped}
use Rattle.kw_io.specs.declared.reading.TheConstants.{PIECE}
use Rattle.kw_world.specs.declared.event.Event.{Event}
use Rattle.kw_world.specs.declared.opening.Opening.{Opening}
use Rattle.kw_laws.specs.SeatCalls.{CallSeen}
use Rattle.kw_line.specs.Answered.{IsReplyOf}
use Rattle.kw_line.specs.Cut.{lines}
use Rattle.kw_table.specs.declared.pass.Pass.{Pass}
use Rattle.kw_table.specs.Passes.{view}
use Rattle.kw_follow.specs.Calling.{calls_in}
use Rattle.kw_map.specs.Refusals.{HasReason}
use Rattle.kiwid.specs.Requests.{IsGood, IsMade, IsServed, Served, bad_text, form_of, line_of, said}
use Rattle.kiwid.specs.declared.request.TheConstants.{MOST_BYTES, MOST_LINES}
use Rattle.kiwid.specs.declared.session.SessionEnd.{SessionEnd}
use Rattle.kiwid.specs.declared.session.SessionEnd.TheVariants.{Ended, Bad, Limit, ReadFault, WriteFault, Memory}

-- the call of a served request
abbrev pub made_for : Served → CallSeen
made_for s = s.made

-- of the lines that are left the next one is no good line
abbrev pub IsBadNext : List (List ℕ) → Type 0
IsBadNext rest = (line : List ℕ) × (more : List (List ℕ)) × (rest ≡ line ∷ more) × (IsGood line → ⊥)

-- a line is left
abbrev pub IsMore : List (List ℕ) → Type 0
IsMore rest = (line : List ℕ) × (more : List (List ℕ)) × (rest ≡ line ∷ more)

-- the next line was asked, and so many bytes of its reply were written
abbrev pub IsCutOff : List (List ℕ) → List CallSeen → List ℕ → Type 0
IsCutOff rest calls bytes = (s : Served) × (more : List (List ℕ)) × (n : ℕ) × (rest ≡ line_of s ∷ more) × IsServed s × (calls ≡ made_for s ∷ []) × (bytes ≡ take n (said s))

-- the next line is no good one, and so many bytes were written of the text that says so
abbrev pub IsBadCutOff : ℕ → List (List ℕ) → List CallSeen → List ℕ → Type 0
IsBadCutOff count rest calls bytes = (n : ℕ) × IsBadNext rest × (calls ≡ []) × (bytes ≡ take n (bad_text (count + 1)))

-- the next line was asked; its scan was stopped for want of memory, or its reply had none
abbrev pub IsUnsaid : List (List ℕ) → List CallSeen → Type 0
IsUnsaid rest calls = (s : Served) × (more : List (List ℕ)) × (rest ≡ line_of s ∷ more) × IsGood (line_of s) × IsMade s × ((s.reply ≡ Stopped) ⊎ IsReplyOf (form_of s.request) s.reply) × (calls ≡ made_for s ∷ [])

-- what was done after so many lines were answered whole, where these lines are left: the calls that
-- were made, the bytes that were written, and why the session ended so
abbrev pub Stops : SessionEnd → ℕ → List (List ℕ) → List CallSeen → List ℕ → Type 0
Stops Ended count rest calls bytes = (calls ≡ []) × (bytes ≡ []) × (rest ≡ [])
Stops (Bad number) count rest calls bytes = (calls ≡ []) × (bytes ≡ bad_text number) × (number ≡ count + 1) × (count < MOST_LINES) × IsBadNext rest
Stops Limit count rest calls bytes = (calls ≡ []) × (bytes ≡ []) × (count ≡ MOST_LINES) × IsMore rest
Stops ReadFault count rest calls bytes = (calls ≡ []) × (bytes ≡ [])
Stops WriteFault count rest calls bytes = (count < MOST_LINES) × (IsCutOff rest calls bytes ⊎ IsBadCutOff count rest calls bytes)
Stops Memory count rest calls bytes = (bytes ≡ []) × ((calls ≡ []) ⊎ ((count < MOST_LINES) × IsUnsaid rest calls))

-- The first lines of these bytes were asked, one after the other, and each was answered whole; then
-- the session stopped so. Before, so many lines had been answered, and with them no more than a
-- session serves.
pub record Ends (all : List ℕ) (before : ℕ) (end : SessionEnd) (made made' : List CallSeen) (written written' : Option (List ℕ)) : Type 0 where
  pub served : List Served
  pub rest : List (List ℕ)
  pub calls : List CallSeen
  pub bytes : List ℕ
  pub lines_are : lines all ≡ map line_of served ++ rest
  pub each : AllByRecursion IsServed served
  pub few : before + length served ≤ MOST_LINES
  pub calls_are : made' ≡ made ++ (map made_for served ++ calls)
  pub text_is : Appends written written' (flat_map said served ++ bytes)
  pub stops : Stops end (before + length served) rest calls bytes

-- the same, of all that a source had left, where it tells that
pub record Session (left : Option (List ℕ)) (end : SessionEnd) (made made' : List CallSeen) (written written' : Option (List ℕ)) : Type 0 where
  pub all : List ℕ
  pub tells : (bytes : List ℕ) → left ≡ Some bytes → all ≡ bytes
  pub ends : Ends all 0 end made made' written written'

-- where each line is good, no more of them come than a session serves, and nothing failed, the
-- session ended well, or memory was wanted
abbrev pub IsServedWhole : SessionEnd → Type 0
IsServedWhole end = (end ≡ Ended) ⊎ (end ≡ Memory)

-- what was read: lines that were asked, and beyond them at most as many bytes as a line and a piece
-- have
pub record ReadsOn (left left' : Option (List ℕ)) (made made' : List CallSeen) : Type 0 where
  pub asked : List ℕ
  pub beyond : List ℕ
  pub taken : Consumes left left' (asked ++ beyond)
  pub made_for_each : length made + length (lines asked) ≤ length made'
  pub few : length beyond ≤ MOST_BYTES + PIECE

-- a session that ended by a fault of its source
abbrev pub IfReadFault : SessionEnd → Type 0 → Type 0
IfReadFault ReadFault Rose = Rose
IfReadFault _ Rose = Unit {0}

-- and by a fault of its sink
abbrev pub IfWriteFault : SessionEnd → Type 0 → Type 0
IfWriteFault WriteFault Rose = Rose
IfWriteFault _ Rose = Unit {0}

-- each call of the pass that was refused was so only for what its seat found while it made it, in
-- this list of events: the versions or the epochs spent, or too few rows left
abbrev pub AreCaused : Opening → List Event → Pass → Type 0
AreCaused o es p = All (HasReason o es (view p).number) (calls_in p)
