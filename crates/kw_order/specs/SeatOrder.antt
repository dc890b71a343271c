-- The calls of each seat, among the calls of all: which number in the record has the call that a
-- seat made as its k-th, counted from 0.
use Rattle.std.specs.Prelude.{ℕ, ◌≡◌, ◌==◌, ◌<◌, Some, List, filter, length, take, slice_get}
use Rattle.kw_world.specs.declared.event.Event.{Event}
use Rattle.kw_world.specs.declared.opening.Opening.{Opening}
use Rattle.kw_world.specs.Sizes.{Sizes}
use Rattle.kw_core.specs.declared.history.CallLog.{CallLog}
use Rattle.kw_core.specs.declared.history.End.{End}
use Rattle.kw_core.specs.History.{History, called}
use Rattle.kw_laws.specs.SeatCalls.{CallSeen, calls_seen}

-- how many of the first x calls of the record are of seat s
abbrev pub calls_before : ℕ → History → ℕ → ℕ
calls_before s h x = length (filter (λ (c : CallLog). c.seat == s) (take x h.calls))

-- x is a call of the record, of seat s, which has k calls before it
pub record IsTurn (h : History) (s k x : ℕ) : Type 0 where
  pub within : x < length h.calls
  pub seat : (called h x).seat ≡ s
  pub turn : calls_before s h x ≡ k

-- all calls of all seats have ended
abbrev pub AllEnded : Sizes → Opening → List Event → Type 0
AllEnded z o events = (s k : ℕ) (c : CallSeen) → s < o.seats → slice_get (calls_seen z o s events) k ≡ Some c → (e : End) × (c.end ≡ Some e)
