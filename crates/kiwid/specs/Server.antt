-- How a run of the program ends.
use Rattle.std.specs.Prelude.{ℕ, ◌≡◌, ◌<◌, ◌⊎◌, List, [], length, All, Option, None, Some, slice_index_or}
use Rattle.kw_model.specs.Counts.{CountRose}
use Rattle.kw_world.specs.declared.opening.Opening.{Opening}
use Rattle.kw_world.specs.Sizes.{product}
use Rattle.kw_laws.specs.SeatCalls.{calls_seen}
use Rattle.kw_table.specs.declared.pass.Pass.{Pass}
use Rattle.kw_table.specs.Passes.{IsFresh, opening_of}
use Rattle.kw_follow.specs.Calling.{calls_in}
use Rattle.kw_map.specs.declared.kiwi.Kiwi.{Kiwi}
use Rattle.kw_map.specs.Meetings.{front_seen}
use Rattle.kiwid.specs.declared.server.Status.{Status}
use Rattle.kiwid.specs.declared.server.Status.TheVariants.{Done, BadWords, Failed, OutOfMemory}
use Rattle.kiwid.specs.declared.server.TheConstants.{ROWS}
use Rattle.kiwid.specs.declared.serving.Served.{Served}
use Rattle.kiwid.specs.declared.words.Asked.{Asked}
use Rattle.kiwid.specs.Links.{ListenerState, IsNew}
use Rattle.kiwid.specs.Seats.{passes_of}
use Rattle.kiwid.specs.Serving.{HaveMet, IsSeatServed}

-- the status with which the process ends
abbrev pub status_code : Status → ℕ
status_code Done = 0
status_code BadWords = 2
status_code Failed = 4
status_code OutOfMemory = 6

-- what a new map of so many seats begins with
abbrev pub new_map : ℕ → Opening
new_map seats = record { rows = ROWS; seats = seats; clock = 1; epoch = 1 }

-- the seat with this number began with a new pass and a new listener, and served so many links, or
-- fewer where the listener failed
pub record BeganAnew {L : Type 0} (state : L → ListenerState) (kiwi : Kiwi) (sessions number : ℕ) (done : Served L) : Type 0 where
  pub pass : Pass
  pub fresh : IsFresh kiwi number pass
  pub listener : ListenerState
  pub new : IsNew listener
  pub served : IsSeatServed kiwi sessions pass done.pass listener (state done.listener) done.ends

-- so did all seats of one new map; the calls of each seat in what all passes have then seen are
-- those of its sessions, and there are no others
pub record HasServed {L : Type 0} (state : L → ListenerState) (seats sessions : ℕ) (served : List (Served L)) : Type 0 where
  pub kiwi : Kiwi
  pub opening : opening_of kiwi ≡ new_map seats
  pub len : length served ≡ seats
  pub each : (i : ℕ) (d : Served L) → i < length served → BeganAnew state kiwi sessions i (slice_index_or served i d)
  pub met : HaveMet (new_map seats) (passes_of served)
  pub all_calls : (i : ℕ) (d : Served L) → i < seats → calls_seen product (new_map seats) i (front_seen (passes_of served)) ≡ calls_in (slice_index_or served i d).pass

-- a seat served fewer links than so many, and its listener has counted why
abbrev pub SomeShort : {L : Type 0} → (L → ListenerState) → ℕ → List (Served L) → Type 0
SomeShort {L} state sessions served = (i : ℕ) × (i < length served) × ((d : Served L) → (length (slice_index_or served i d).ends < sessions) × (0 < (state (slice_index_or served i d).listener).faults))

-- how a run ends whose words ask for this, where the binder's count of faults was old and is new
abbrev pub EndsAsked : {L : Type 0} → (L → ListenerState) → ℕ → ℕ → Asked → Status → List (Served L) → Type 0
EndsAsked {L} state old new asked Done served = HasServed state asked.seats asked.sessions served × All (λ (done : Served L). length done.ends ≡ asked.sessions) served
EndsAsked {L} state old new asked BadWords served = ⊥
EndsAsked {L} state old new asked Failed served = ((served ≡ []) × CountRose old new) ⊎ (HasServed state asked.seats asked.sessions served × SomeShort state asked.sessions served)
EndsAsked {L} state old new asked OutOfMemory served = served ≡ []

-- the same, of words that ask for this or are bad
abbrev pub EndsRun : {L : Type 0} → (L → ListenerState) → ℕ → ℕ → Option Asked → Status → List (Served L) → Type 0
EndsRun state old new None status served = (status ≡ BadWords) × (served ≡ [])
EndsRun state old new (Some asked) status served = EndsAsked state old new asked status served
