-- The rows and seats of a run, as the laws of windows have them (`kw_windows`): which rows are in
-- the list, and lead; at which full row a seat is; and what is counted of it in this window.
use Rattle.std.specs.Prelude.{ℕ, ◌==◌, Bool, true, false, if◌then◌else◌, Option, Some, None, length, slice_get}
use Rattle.kw_model.specs.declared.call.Call.{Call}
use Rattle.kw_windows.specs.Builders.{Builder, Stage, Asking, Building, Elsewhere, Refused}
use Rattle.kw_windows.specs.Windows.{Limits, Windows}
use Rattle.kw_world.specs.declared.activity.Activity.{Activity}
use Rattle.kw_world.specs.declared.activity.rebalance.Rebalance.TheVariants as Rebalance
use Rattle.kw_world.specs.declared.activity.rebalance.replace.Replace.TheVariants as Replace
use Rattle.kw_world.specs.declared.answer.Answer.{Answer}
use Rattle.kw_world.specs.declared.answer.Answer.TheVariants.{NoRows, Spent}
use Rattle.kw_world.specs.declared.local.Local.{Local}
use Rattle.kw_world.specs.Sizes.{Sizes}
use Rattle.kw_world.specs.Step.{word}
use Rattle.kw_core.specs.Run.{Run}
use Rattle.kw_core.specs.Stages.{is_put}
use Rattle.kw_core.specs.Words.{least_in}
use Rattle.kw_counts.specs.Counts.{Builds, Counts, is_live}
use Rattle.kw_counts.specs.Leaders.{is_leading}

-- Where a seat stands.

-- it takes, writes or links new rows for the full row r: its build has taken none, or took the last
-- one in some window
abbrev pub building : ℕ → ℕ → Option ℕ → Stage
building wins r (Some n) = Building r (n == wins)
building wins r None = Asking r

-- it is about to be refused, if it makes an update
abbrev pub refusing : Bool → Stage
refusing true = Refused
refusing false = Elsewhere

-- it is about to leave with this answer
abbrev pub leaving : Answer → Option Call → Stage
leaving NoRows call = refusing (is_put call)
leaving Spent call = refusing (is_put call)
leaving _ call = Elsewhere

-- its stage: it is at its full row from where it is to engage that until it has replaced it, or
-- gives it up
abbrev pub stage_at : ℕ → Option ℕ → Activity → Local → Stage
stage_at wins begun (Activity.Rebalance (Rebalance.Engage _)) l = Asking l.row
stage_at wins begun (Activity.Rebalance (Rebalance.Claim _)) l = Asking l.row
stage_at wins begun (Activity.Rebalance (Rebalance.Left _)) l = Asking l.row
stage_at wins begun (Activity.Rebalance (Rebalance.Freeze _)) l = Asking l.row
stage_at wins begun (Activity.Rebalance (Rebalance.Gather _)) l = Asking l.row
stage_at wins begun (Activity.Rebalance (Rebalance.Seek _)) l = building wins l.row begun
stage_at wins begun (Activity.Rebalance (Rebalance.Write _)) l = building wins l.row begun
stage_at wins begun (Activity.Rebalance (Rebalance.Replace Replace.Start)) l = building wins l.row begun
stage_at wins begun (Activity.Rebalance (Rebalance.Replace Replace.GuessedLeast)) l = building wins l.row begun
stage_at wins begun (Activity.Rebalance (Rebalance.Replace Replace.First)) l = building wins l.row begun
stage_at wins begun (Activity.Rebalance (Rebalance.Replace Replace.Next)) l = building wins l.row begun
stage_at wins begun (Activity.Rebalance (Rebalance.Replace Replace.NextLeast)) l = building wins l.row begun
stage_at wins begun (Activity.Rebalance (Rebalance.Replace Replace.Exchange)) l = building wins l.row begun
stage_at wins begun (Activity.Leave answer) l = leaving answer l.call
stage_at wins begun _ l = Elsewhere

-- how many rows its build has, where it knows so many
abbrev pub held_at : Stage → ℕ → ℕ
held_at (Building r begun) n = n
held_at _ n = 0

-- What is counted of it.

-- a number of builds, if it is that of this window
abbrev pub in_window : ℕ → Builds → ℕ → ℕ
in_window wins b n = if b.window == wins then n else 0

-- a seat at this stage that knows so many rows of its build, and took so many in this window
abbrev pub builder_at : Stage → ℕ → ℕ → Builds → ℕ → Builder
builder_at a n wins b taken = record { stage = a; held = held_at a n; lives = in_window wins b b.lives; deads = in_window wins b b.deads; taken = taken }

abbrev pub builder_of : ℕ → Builds → ℕ → Option Local → Builder
builder_of wins b taken (Some l) = builder_at (stage_at wins b.begun l.activity l) (length l.rebalance.taken) wins b taken
builder_of wins b taken None = builder_at Elsewhere 0 wins b taken

-- The windows of a run. How many rows the seats took in this window, and in those that are over, is
-- counted nowhere: it is whatever it is.
abbrev pub windows_of : Sizes → Run → Counts → ℕ → (ℕ → ℕ) → Windows
windows_of z r c before taken = record {
  live = λ x. is_live (r.ledger.rows.fates x).status;
  leads = is_leading z r;
  least = least_in (word z r.world);
  used = c.ever;
  seats = λ t. builder_of c.wins (c.builds t) (taken t) (slice_get r.world.locals t);
  wins = c.wins;
  before = before;
}

-- of a table with so many rows, where so many seats act and a build takes so many rows at most:
-- there are no more leaders than seats
abbrev pub limits_of : Sizes → ℕ → ℕ → ℕ → Limits
limits_of z rows seats build = record { rows = rows; seats = seats; build = build; leaders = z.seats }
