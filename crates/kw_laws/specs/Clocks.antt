-- What scans and pins alone do to the clock: it is that of the opening until one has begun, and a
-- scan finds no version left only where another scan or a pin began before.
use Rattle.std.specs.Prelude.{ℕ, ◌≡◌, ◌≢◌, ◌⊎◌, ◌<◌, ◌≤◌, List, length}
use Rattle.kw_words.specs.declared.layout.Name.TheVariants as name
use Rattle.kw_words.specs.declared.sizes.TheConstants.{SPENT}
use Rattle.kw_model.specs.declared.call.Call.{Call}
use Rattle.kw_model.specs.declared.call.Call.TheVariants.{Put, Del, Get, Scan, Pin, ScanAt, Unpin}
use Rattle.kw_model.specs.declared.call.Reply.TheVariants.{Spent}
use Rattle.kw_world.specs.declared.event.Event.{Event}
use Rattle.kw_world.specs.declared.opening.Opening.{Opening}
use Rattle.kw_world.specs.Sizes.{Sizes}
use Rattle.kw_world.specs.Step.{word}
use Rattle.kw_core.specs.Events.{world}
use Rattle.kw_core.specs.History.{History, called}
use Rattle.kw_core.specs.HistoryLaws.{EndsWith}

-- the call draws a version: a scan, or a pin
abbrev pub IsScan : Call → Type 0
IsScan (Scan from upto) = Unit {0}
IsScan (Put key value) = ⊥
IsScan (Del key) = ⊥
IsScan (Get key) = ⊥
IsScan Pin = Unit {0}
IsScan (ScanAt from upto) = ⊥
IsScan Unpin = ⊥

-- where no call of the record is a scan or a pin, the clock is that of the opening
abbrev pub RestsWithoutScans : Sizes → Opening → List Event → History → Type 0
RestsWithoutScans z o es h = ((x : ℕ) → x < length h.calls → IsScan (called h x).call → ⊥) → word z (world z o es) name.Clock ≡ o.clock

-- another scan than call x, or a pin, began before this position
pub record IsBehindScan (h : History) (x at : ℕ) : Type 0 where
  pub other : ℕ
  pub within : other < length h.calls
  pub scans : IsScan (called h other).call
  pub apart : other ≢ x
  pub began : (called h other).first < at

-- each scan of the record that was refused has another scan, or a pin, that began before it ended,
-- unless the clock of the opening was at its bound
abbrev pub AreRefusedBehindScans : Opening → History → Type 0
AreRefusedBehindScans o h = (x from upto at : ℕ) → x < length h.calls → EndsWith h x (Scan from upto) at Spent → (SPENT ≤ o.clock) ⊎ IsBehindScan h x at
