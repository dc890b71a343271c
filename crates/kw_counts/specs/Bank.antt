-- What pays for the rows that are replaced: the puts and deletes that were stamped, each in the row
-- of its cell. Where a row leads nearly all of its cells were, and where it is replaced they are
-- banked.
use Rattle.std.specs.Prelude.{ℕ, ◌≡◌, ◌+◌, ◌*◌, ◌≤◌, true, Option, None, Some, List, [], ◌∷◌}
use Rattle.kw_lists.specs.Counts.{count_below}
use Rattle.kw_windows.specs.Sums.{sum_below}
use Rattle.kw_model.specs.declared.call.Call.{Call}
use Rattle.kw_model.specs.declared.call.Call.TheVariants.{Del, Get, Put, Scan, Pin, ScanAt, Unpin}
use Rattle.kw_world.specs.declared.event.Event.{Event}
use Rattle.kw_world.specs.declared.opening.Opening.{Opening}
use Rattle.kw_world.specs.Sizes.{Sizes}
use Rattle.kw_world.specs.Step.{word}
use Rattle.kw_core.specs.declared.history.CallLog.{CallLog}
use Rattle.kw_core.specs.Run.{Run}
use Rattle.kw_shape.specs.ReachedRows.{IsReached}
use Rattle.kw_full.specs.Shares.{IsUntidied, is_own_stamped}
use Rattle.kw_laws.specs.SeatCalls.{CallSeen, calls_seen}
use Rattle.kw_counts.specs.Counts.{Counts}
use Rattle.kw_counts.specs.Leaders.{is_leading}

-- Puts and deletes.

-- 1 for a call that has a put
abbrev pub put_one : Option ℕ → ℕ
put_one (Some p) = 1
put_one None = 0

-- how many of these calls have one
abbrev pub puts_in : List CallLog → ℕ
puts_in [] = 0
puts_in (c ∷ cs) = put_one c.put + puts_in cs

-- 1 for a put or a delete
abbrev pub update_one : Call → ℕ
update_one (Put key value) = 1
update_one (Del key) = 1
update_one (Get key) = 0
update_one (Scan from upto) = 0
update_one Pin = 0
update_one (ScanAt from upto) = 0
update_one Unpin = 0

-- how many of these calls are
abbrev pub updates_in : List CallSeen → ℕ
updates_in [] = 0
updates_in (c ∷ cs) = update_one c.call + updates_in cs

-- how many puts and deletes one seat has begun, and all seats
abbrev pub updates_by : Sizes → Opening → List Event → ℕ → ℕ
updates_by z o es t = updates_in (calls_seen z o t es)

abbrev pub all_updates : Sizes → Opening → List Event → ℕ
all_updates z o es = sum_below z.seats (updates_by z o es)

-- Shares.

-- so many of the cells of a row are left, where those with which it may have been built are taken
-- away, and one for each seat
abbrev pub IsShare : Sizes → ℕ → Type 0
IsShare z share = z.built + z.seats + share ≤ z.cells

-- what every valid list keeps
pub record KeepsBank (z : Sizes) (o : Opening) (es : List Event) (r : Run) (c : Counts) : Type 0 where
  -- each call that has a put is counted in the row where that was stamped, or is banked
  pub stamped : c.stamps.banked + sum_below r.world.rows c.stamps.here ≡ puts_in r.history.calls
  -- and is a put or a delete that was begun
  pub begun : puts_in r.history.calls ≤ all_updates z o es
  -- no row of the list has more stamped cells of its own than are counted in it
  pub own : (q : ℕ) → IsReached (word z r.world) q → count_below z.cells (is_own_stamped r q) ≤ c.stamps.here q
  -- each exchange that replaced a row was paid for by a share
  pub over : IsUntidied z r.world → (share : ℕ) → IsShare z share → c.wins * share ≤ c.stamps.banked
  -- and the next one is, where a row leads
  pub next : IsUntidied z r.world → (share : ℕ) → IsShare z share → (x : ℕ) → is_leading z r x ≡ true → (c.wins + 1) * share ≤ puts_in r.history.calls
