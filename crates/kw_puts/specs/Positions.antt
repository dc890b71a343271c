-- What holds of the clock over the log, of the calls that run, and of where readers and scans
-- looked and drew.
use Rattle.std.specs.Prelude.{ℕ, ◌≡◌, ◌⊎◌, ◌<◌, ◌≤◌, true, Some, None, length, slice_get}
use Rattle.kw_words.specs.declared.layout.Name.TheVariants as name
use Rattle.kw_words.specs.declared.kind.Kind.{Kind}
use Rattle.kw_words.specs.declared.kind.Kind.TheVariants.{Draw}
use Rattle.kw_words.specs.declared.kind.Kind.TheVariants as kind
use Rattle.kw_words.specs.declared.scan.ScanWord.TheVariants.{Quiet, Waiting, Drawn}
use Rattle.kw_words.specs.Scan.{scan_word}
use Rattle.kw_world.specs.declared.activity.Activity.{Activity}
use Rattle.kw_world.specs.declared.activity.draw.Draw.TheVariants as Draw
use Rattle.kw_world.specs.declared.activity.rebalance.freeze.Freeze.TheVariants as Freeze
use Rattle.kw_world.specs.declared.activity.rebalance.Rebalance.TheVariants as Rebalance
use Rattle.kw_world.specs.declared.local.Local.{Local}
use Rattle.kw_world.specs.Sizes.{Sizes}
use Rattle.kw_world.specs.Calls.{is_scan}
use Rattle.kw_world.specs.Step.{word}
use Rattle.kw_core.specs.History.{History, called, Stands}
use Rattle.kw_core.specs.HistoryLaws.{IsDraw}
use Rattle.kw_core.specs.declared.seat_log.SeatLog.{SeatLog}
use Rattle.kw_core.specs.Run.{Run}
use Rattle.kw_core.specs.Words.{Words}
use Rattle.kw_core.specs.Stages.{IsBusy, IsPublished, IsDone, IsWaiting, IsSettling, IsSettled, HasDrawn, IsReading}
use Rattle.kw_world.specs.Sane.{IsVersion}

-- The clock.

-- no event of the log found the clock at 0 or later than it is, and what follows a draw found a
-- later one
pub record Clocked (v : Words) (h : History) : Type 0 where
  pub positive : (x : ℕ) (k : Kind) (c : ℕ) → Stands h x k c → 1 ≤ c
  pub past : (x : ℕ) (k : Kind) (c : ℕ) → Stands h x k c → c ≤ v name.Clock
  pub drawn : (x : ℕ) (k : Kind) (c : ℕ) → IsDraw k → Stands h x k c → c < v name.Clock
  pub rises : (x y : ℕ) (k j : Kind) (c d : ℕ) → IsDraw k → Stands h x k c → Stands h y j d → x < y → c < d

-- The calls that run.

-- the call of a busy seat is in the record and has not ended. If it has a put, this is the seat's
-- own attempt, which is announced or done, also where the seat tidies; and it has one where the
-- seat is done or tidies
pub record Calling (h : History) (t : ℕ) (a : Activity) (l : Local) (g : SeatLog) : Type 0 where
  pub within : g.call < length h.calls
  pub seat : (called h g.call).seat ≡ t
  pub number : (called h g.call).number ≡ l.number
  pub call : l.call ≡ Some (called h g.call).call
  pub runs : (called h g.call).end ≡ None
  pub own : (p : ℕ) → (called h g.call).put ≡ Some p → g.own ≡ p
  pub published : (p : ℕ) → (called h g.call).put ≡ Some p → IsPublished a ⊎ IsDone a ⊎ (l.tidies ≡ true)
  pub done : IsDone a ⊎ (l.tidies ≡ true) → (p : ℕ) × ((called h g.call).put ≡ Some p)

-- no call of a seat has a greater number than the seat has begun calls
abbrev pub Numbers : History → ℕ → Local → Type 0
Numbers h t l = (x : ℕ) → x < length h.calls → (called h x).seat ≡ t → (called h x).number ≤ l.number

-- The scans.

-- the seat is at work on a scan whose word is set
abbrev pub IsScanning : Activity → Local → Type 0
IsScanning a l = IsWaiting a ⊎ (is_scan l.call ≡ true) × IsSettled a

-- at this position this version was drawn, by a scan or by a seat that helps one
pub record IsDrawnAt (h : History) (x version : ℕ) : Type 0 where
  pub kind : Kind
  pub is_draw : IsDraw kind
  pub stands : Stands h x kind version

-- another seat has drawn a version for the scan of seat t, which began to wait at `since`: the word
-- says which, and the draw stands at `at`, later
pub record IsHelped (v : Words) (h : History) (t since at : ℕ) : Type 0 where
  pub version : ℕ
  pub range : IsVersion version
  pub word : v (name.Scan t) ≡ scan_word (Drawn version)
  pub drawn : IsDrawnAt h at version
  pub after : since < at

-- a scan has loaded the clock, and has not drawn
abbrev pub HasLoaded : Activity → Type 0
HasLoaded (Activity.Draw Draw.Wait) = Unit {0}
HasLoaded (Activity.Draw Draw.Version) = Unit {0}
HasLoaded _ = ⊥

-- it is about to store that it waits
abbrev pub IsToWait : Activity → Type 0
IsToWait (Activity.Draw Draw.Wait) = Unit {0}
IsToWait _ = ⊥

-- a waiting scan, which began to wait at `since` in its call, has a word that says so, or it was
-- helped. A scan drew in its call, at an event that found its version, or was helped by such a
-- draw; once it is settled its word names this version. A reader looked at its row in its call, and
-- a scan after its draw
pub record Draws (v : Words) (h : History) (t since at : ℕ) (a : Activity) (l : Local) (g : SeatLog) : Type 0 where
  pub waits : IsWaiting a → (v (name.Scan t) ≡ scan_word (Waiting l.waiting)) ⊎ IsHelped v h t since at
  pub began : IsWaiting a → ((called h g.call).first < since) × (since < length h.log)
  pub loaded : HasLoaded a → l.waiting ≤ v name.Clock
  pub least : IsSettling a → l.waiting ≤ l.drawn
  pub settling : IsSettling a → Stands h g.drawn Draw l.drawn
  pub settling_first : IsSettling a → (called h g.call).first < g.drawn
  pub settled : is_scan l.call ≡ true → IsSettled a → v (name.Scan t) ≡ scan_word (Drawn l.version)
  pub drawn : is_scan l.call ≡ true → HasDrawn a → IsDrawnAt h g.drawn l.version
  pub drawn_first : is_scan l.call ≡ true → HasDrawn a → (called h g.call).first < g.drawn
  pub looked_first : IsReading a → (called h g.call).first < g.looked
  pub looked : IsReading a → g.looked < length h.log
  pub looked_after : is_scan l.call ≡ true → IsReading a → g.drawn < g.looked

-- Seats that help.

-- the seat helps the scan of seat t: it draws for it, or has drawn
abbrev pub HelpsScan : ℕ → Activity → Type 0
HelpsScan t (Activity.Rebalance (Rebalance.Freeze (Freeze.Draw i))) = t ≡ i
HelpsScan t (Activity.Rebalance (Rebalance.Freeze (Freeze.Settle i))) = t ≡ i
HelpsScan t _ = ⊥

-- it has drawn
abbrev pub HasDrawnFor : ℕ → Activity → Type 0
HasDrawnFor t (Activity.Rebalance (Rebalance.Freeze (Freeze.Settle i))) = t ≡ i
HasDrawnFor t _ = ⊥

-- a seat that helps the scan of seat t found that it waits since a clock. It still does, or the
-- clock has gone on; it never waits since an earlier one, and if it is about to wait again, this is
-- since a later one. A version that was drawn for it was drawn after it began to wait
pub record Helping (z : Sizes) (r : Run) (t : ℕ) (a : Activity) (l : Local) (g : SeatLog) : Type 0 where
  pub waits : HelpsScan t a → (word z r.world (name.Scan t) ≡ scan_word (Waiting l.rebalance.waiting)) ⊎ (l.rebalance.waiting < word z r.world name.Clock)
  pub least : HelpsScan t a → (clock : ℕ) → word z r.world (name.Scan t) ≡ scan_word (Waiting clock) → l.rebalance.waiting ≤ clock
  pub loads : HelpsScan t a → (k : Local) → slice_get r.world.locals t ≡ Some k → IsToWait k.activity → l.rebalance.waiting < k.waiting
  pub late : HasDrawnFor t a → l.rebalance.waiting < word z r.world name.Clock
  pub drew : HasDrawnFor t a → Stands r.history g.drawn kind.HelpDraw l.rebalance.drawn
  pub after : HasDrawnFor t a → word z r.world (name.Scan t) ≡ scan_word (Waiting l.rebalance.waiting) → r.ledger.waits t < g.drawn

-- The group.

-- what holds of the clock, the running calls and the scans; and no seat looked at a row, or drew,
-- later than now
pub record Positions (z : Sizes) (r : Run) : Type 0 where
  pub clocked : Clocked (word z r.world) r.history
  pub calling : (t : ℕ) (l : Local) → slice_get r.world.locals t ≡ Some l → IsBusy l.activity → Calling r.history t l.activity l (r.seats t)
  pub numbers : (t : ℕ) (l : Local) → slice_get r.world.locals t ≡ Some l → Numbers r.history t l
  pub scans : (t : ℕ) (l : Local) → slice_get r.world.locals t ≡ Some l → IsScanning l.activity l ⊎ (word z r.world (name.Scan t) ≡ scan_word Quiet)
  pub looks : (t : ℕ) → (r.seats t).looked ≤ length r.history.log
  pub drew : (t : ℕ) → (r.seats t).drawn ≤ length r.history.log
  pub waiting : (t clock : ℕ) → t < z.seats → word z r.world (name.Scan t) ≡ scan_word (Waiting clock) → (clock ≤ word z r.world name.Clock) × (r.ledger.waits t < length r.history.log)
  pub helping : (s : ℕ) (l : Local) → slice_get r.world.locals s ≡ Some l → (t : ℕ) → t < z.seats → Helping z r t l.activity l (r.seats s)
  pub draws : (t : ℕ) (l : Local) → slice_get r.world.locals t ≡ Some l → Draws (word z r.world) r.history t (r.ledger.waits t) (r.settled t) l.activity l (r.seats t)
