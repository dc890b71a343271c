-- Why a call found no version or no number left: so many scans and pins were begun, or so many rows
-- were replaced.
use Rattle.std.specs.Prelude.{ℕ, ◌≡◌, ◌⊎◌, ◌+◌, ◌*◌, ◌<◌, ◌≤◌, List, Some, length}
use Rattle.kw_words.specs.declared.sizes.TheConstants.{MOST_GROUP, SPENT}
use Rattle.kw_model.specs.declared.call.Reply.TheVariants.{Spent}
use Rattle.kw_world.specs.declared.event.Event.{Event}
use Rattle.kw_world.specs.declared.opening.Opening.{Opening}
use Rattle.kw_world.specs.Sizes.{Sizes}
use Rattle.kw_core.specs.History.{History, called}
use Rattle.kw_core.specs.declared.history.End.{End}
use Rattle.kw_laws.specs.Clocks.{IsScan}
use Rattle.kw_counts.specs.Counts.{Counts}
use Rattle.kw_counts.specs.Draws.{all_scans}

-- the clock may have come to its bound: each scan and each pin that was begun may have cost one
-- version for each seat
abbrev pub MayEndClock : Sizes → Opening → List Event → Type 0
MayEndClock z o es = SPENT ≤ o.clock + z.seats * all_scans z o es

-- the epoch may have: each exchange that replaced rows may have cost one number for each of them
abbrev pub MayEndEpoch : Opening → Counts → Type 0
MayEndEpoch o c = SPENT ≤ o.epoch + MOST_GROUP * c.wins

-- what every valid list keeps
pub record KeepsSpent (z : Sizes) (o : Opening) (es : List Event) (c : Counts) (h : History) : Type 0 where
  -- a scan or a pin was refused as spent only where so many scans and pins were begun
  pub scans : (x : ℕ) (e : End) → x < length h.calls → IsScan (called h x).call → (called h x).end ≡ Some e → e.reply ≡ Spent → MayEndClock z o es
  -- and any call only there, or where so many rows were replaced
  pub calls : (x : ℕ) (e : End) → x < length h.calls → (called h x).end ≡ Some e → e.reply ≡ Spent → MayEndClock z o es ⊎ MayEndEpoch o c
