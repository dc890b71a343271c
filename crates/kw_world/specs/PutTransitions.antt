-- What follows from the events of a put or a delete at its row.
use Rattle.std.specs.Prelude.{ℕ, ◌*◌, Bool, true, false, ◌&&◌, nat_lt, ◌==◌, if◌then◌else◌, Option, Some, None}
use Rattle.kw_words.specs.declared.pend.Pend.{Pend}
use Rattle.kw_words.specs.declared.pend.Pend.TheVariants.{Idle, Pending, Stamped, Frozen}
use Rattle.kw_words.specs.declared.count.Count.{Count}
use Rattle.kw_world.specs.declared.activity.Activity.TheVariants as Activity
use Rattle.kw_world.specs.declared.activity.put.Put.TheVariants as Put
use Rattle.kw_world.specs.declared.answer.Answer.TheVariants.{Done}
use Rattle.kw_world.specs.declared.event.Choice.{Choice}
use Rattle.kw_world.specs.declared.event.Choice.TheVariants.{Begin, Go, Guess, Stop}
use Rattle.kw_world.specs.declared.limits.TheConstants.{TIDY_SHARE}
use Rattle.kw_world.specs.declared.local.Local.{Local}
use Rattle.kw_world.specs.Sizes.{Sizes}
use Rattle.kw_world.specs.Transition.{Outcome, to, leave}
use Rattle.kw_world.specs.EngageTransitions.{to_rebalance}

-- how many cells were given; a word that is no count has given none
abbrev pub given_of : Option Count → ℕ
given_of (Some count) = count.given
given_of None = 0

-- the row gives one more cell: it is not frozen, and has given fewer than it has
abbrev pub has_room : Sizes → Option Count → Bool
has_room z (Some count) = if count.frozen then false else nat_lt count.given z.cells
has_room z None = false

-- Stamp: the exchange was made, or the put's own cell was found stamped; else the row is full, and
-- is rebalanced
abbrev pub stamp_seen : Option Pend → Local → Outcome
stamp_seen (Some Idle) l = to_rebalance l
stamp_seen (Some (Pending cell)) l = if cell == l.cell then to (Activity.Put Put.Version) l else to_rebalance l
stamp_seen (Some (Stamped cell version)) l = if cell == l.cell then to (Activity.Put Put.Version) (record l { version = version }) else to_rebalance l
stamp_seen (Some Frozen) l = to_rebalance l
stamp_seen None l = to_rebalance l

-- the choice names the put's own row, and so many rows were retired before the put's visit that the
-- put may tidy it
abbrev pub tidies_row : ℕ → Choice → Local → Bool
tidies_row rows (Begin call) l = false
tidies_row rows Go l = false
tidies_row rows (Guess r) l = (r == l.row) && nat_lt rows (TIDY_SHARE * l.epoch)
tidies_row rows Stop l = false

-- Put::Clear: the put is done, and leaves; or it tidies: it rebalances its row first
abbrev pub cleared : ℕ → Choice → Local → Outcome
cleared rows choice l = if tidies_row rows choice l then to_rebalance (record l { tidies = true }) else leave Done l
