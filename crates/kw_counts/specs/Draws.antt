-- What the draws of versions come to: the clock is that of the opening and one for each draw, for
-- each wait of a scan a seat draws once at most, and a scan waits once at most.
use Rattle.std.specs.Prelude.{ℕ, ◌≡◌, ◌+◌, ◌*◌, ◌≤◌, List, [], ◌∷◌}
use Rattle.kw_words.specs.declared.layout.Name.TheVariants as name
use Rattle.kw_windows.specs.Sums.{sum_below}
use Rattle.kw_model.specs.declared.call.Call.{Call}
use Rattle.kw_model.specs.declared.call.Call.TheVariants.{Del, Get, Put, Scan, Pin, ScanAt, Unpin}
use Rattle.kw_world.specs.declared.event.Event.{Event}
use Rattle.kw_world.specs.declared.opening.Opening.{Opening}
use Rattle.kw_world.specs.Sizes.{Sizes}
use Rattle.kw_world.specs.Step.{word}
use Rattle.kw_world.specs.WorldView.{WorldView}
use Rattle.kw_core.specs.Events.{world}
use Rattle.kw_laws.specs.SeatCalls.{CallSeen, calls_seen}
use Rattle.kw_counts.specs.Counts.{Draws}

-- all draws of one seat, and of all seats
abbrev pub draws_of : Sizes → Draws → ℕ → ℕ
draws_of z d t = sum_below z.seats (d.drew t)

abbrev pub all_draws : Sizes → Draws → ℕ
all_draws z d = sum_below z.seats (draws_of z d)

-- all waits of the scans
abbrev pub all_waits : Sizes → Draws → ℕ
all_waits z d = sum_below z.seats d.waits

-- what every valid list keeps
pub record KeepsDraws (z : Sizes) (o : Opening) (w : WorldView) (d : Draws) : Type 0 where
  -- the clock is that of the opening and the draws
  pub clock : word z w name.Clock ≡ o.clock + all_draws z d
  -- a seat has drawn no more versions for the scans of a seat than these waited
  pub once : (t i : ℕ) → d.drew t i ≤ d.waits i
  -- so no more were drawn than each seat may draw for each wait
  pub few : all_draws z d ≤ z.seats * all_waits z d

-- Scans.

-- 1 for a call that waits to draw: a scan, or a pin
abbrev pub scan_one : Call → ℕ
scan_one (Put key value) = 0
scan_one (Del key) = 0
scan_one (Get key) = 0
scan_one (Scan from upto) = 1
scan_one Pin = 1
scan_one (ScanAt from upto) = 0
scan_one Unpin = 0

-- how many of these calls are
abbrev pub scans_in : List CallSeen → ℕ
scans_in [] = 0
scans_in (c ∷ cs) = scan_one c.call + scans_in cs

-- how many scans and pins one seat has begun, and all seats
abbrev pub scans_by : Sizes → Opening → List Event → ℕ → ℕ
scans_by z o es t = scans_in (calls_seen z o t es)

abbrev pub all_scans : Sizes → Opening → List Event → ℕ
all_scans z o es = sum_below z.seats (scans_by z o es)

-- what every valid list keeps
pub record KeepsScans (z : Sizes) (o : Opening) (es : List Event) (d : Draws) : Type 0 where
  -- each wait is that of another scan
  pub waits : (t : ℕ) → d.waits t ≤ scans_by z o es t
  -- so the clock has gone on by one for each scan and each seat at most
  pub clock : word z (world z o es) name.Clock ≤ o.clock + z.seats * all_scans z o es
