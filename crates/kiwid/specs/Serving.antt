-- What seats did: the sessions of each one, one after the other, and what all passes have seen at
-- the end.
use Rattle.std.specs.Prelude.{ℕ, ◌≡◌, ◌<◌, ◌≤◌, List, [], ◌∷◌, map, length, All, Some}
use Rattle.std.specs.List.{AllByRecursion}
use Rattle.std.specs.Io.KnownBytes.{IsAtEnd}
use Rattle.kw_model.specs.Counts.{CountRose}
use Rattle.kw_line.specs.Cut.{lines}
use Rattle.kw_world.specs.declared.opening.Opening.{Opening}
use Rattle.kw_world.specs.Sizes.{product}
use Rattle.kw_laws.specs.SeatCalls.{CallSeen, calls_seen}
use Rattle.kw_table.specs.declared.pass.Pass.{Pass}
use Rattle.kw_table.specs.Passes.{view}
use Rattle.kw_follow.specs.Calling.{calls_in}
use Rattle.kw_map.specs.declared.kiwi.Kiwi.{Kiwi}
use Rattle.kw_map.specs.Kiwi.{IsOrdered}
use Rattle.kw_map.specs.Meetings.{front_seen}
use Rattle.kiwid.specs.Lines.{StaysIdle}
use Rattle.kiwid.specs.Links.{LinkState, ListenerState, Loses, Gains}
use Rattle.kiwid.specs.Requests.{IsGood}
use Rattle.kiwid.specs.Session.{AreCaused, IfReadFault, IfWriteFault, IsServedWhole, ReadsOn, Session}
use Rattle.kiwid.specs.declared.request.TheConstants.{MOST_LINES}
use Rattle.kiwid.specs.declared.session.SessionEnd.{SessionEnd}
use Rattle.kiwid.specs.declared.session.SessionEnd.TheVariants.{Ended}

-- a link that was served: what it was when it was handed out and when it was taken back, and how
-- its session ended
pub record LinkServed : Type 0 where
  pub handed : LinkState
  pub taken : LinkState
  pub end : SessionEnd

-- the calls that a pass made since are those of this link's session, which leaves the link so
pub record IsSession (s : LinkServed) (made made' : List CallSeen) : Type 0 where
  pub served : Session s.handed.left s.end made made' s.handed.written s.taken.written
  pub reads_on : ReadsOn s.handed.left s.taken.left made made'
  pub ended : s.end ≡ Ended → IsAtEnd s.taken.left
  pub read_fault : IfReadFault s.end (CountRose s.handed.read_faults s.taken.read_faults)
  pub write_fault : IfWriteFault s.end (CountRose s.handed.write_faults s.taken.write_faults)
  pub whole : (bytes : List ℕ) → s.handed.left ≡ Some bytes → AllByRecursion IsGood (lines bytes) → length (lines bytes) ≤ MOST_LINES
      → (CountRose s.handed.read_faults s.taken.read_faults → ⊥) → (CountRose s.handed.write_faults s.taken.write_faults → ⊥) → IsServedWhole s.end

-- the calls that a pass made since are those of these links' sessions, one after the other
abbrev pub Sessions : List LinkServed → List CallSeen → List CallSeen → Type 0
Sessions [] made made' = made' ≡ made
Sessions (s ∷ ss) made made' = (between : List CallSeen) × IsSession s made between × Sessions ss between made'

-- what links were when they were handed out, and when they were taken back, and the ends of their
-- sessions
abbrev pub handed_of : List LinkServed → List LinkState
handed_of ss = map (λ (s : LinkServed). s.handed) ss

abbrev pub taken_of : List LinkServed → List LinkState
taken_of ss = map (λ (s : LinkServed). s.taken) ss

abbrev pub ends_of : List LinkServed → List SessionEnd
ends_of ss = map (λ (s : LinkServed). s.end) ss

-- a listener handed out the next link and took it back, served, with this end
pub record IsServedNext (old new : ListenerState) (made made' : List CallSeen) (end : SessionEnd) : Type 0 where
  pub link : LinkServed
  pub end_is : link.end ≡ end
  pub session : IsSession link made made'
  pub coming : Loses old.coming new.coming (link.handed ∷ [])
  pub closed : Gains old.closed new.closed (link.taken ∷ [])
  pub out : new.out ≡ old.out

-- a pass served links of its listener, which handed them out in order and took each back before the
-- next one; these are the ends of their sessions
pub record Serves (kiwi : Kiwi) (p q : Pass) (old new : ListenerState) (ends : List SessionEnd) : Type 0 where
  pub stays : StaysIdle kiwi p q
  pub links : List LinkServed
  pub ends_are : ends ≡ ends_of links
  pub sessions : Sessions links (calls_in p) (calls_in q)
  pub coming : Loses old.coming new.coming (handed_of links)
  pub closed : Gains old.closed new.closed (taken_of links)
  pub out : new.out ≡ old.out
  pub never_falls : old.faults ≤ new.faults

-- the same, of so many links, or of fewer where the listener failed
pub record IsSeatServed (kiwi : Kiwi) (sessions : ℕ) (p q : Pass) (old new : ListenerState) (ends : List SessionEnd) : Type 0 where
  pub serves : Serves kiwi p q old new ends
  pub most : length ends ≤ sessions
  pub fewer : length ends < sessions → CountRose old.faults new.faults

-- All passes have seen one list of events. The calls of each pass's seat in it are those of the
-- pass, and each that was refused has its cause in it; and all calls in it, by whichever seat, have
-- one legal order that keeps precedence.
pub record HaveMet (o : Opening) (passes : List Pass) : Type 0 where
  pub seen : All (λ (p : Pass). (view p).seen ≡ front_seen passes) passes
  pub calls : All (λ (p : Pass). calls_in p ≡ calls_seen product o (view p).number (front_seen passes)) passes
  pub causes : All (AreCaused o (front_seen passes)) passes
  pub ordered : All (λ (p : Pass). IsOrdered (view p)) passes
