-- What follows from the events of the search for free rows, and from giving rows back.
--
-- The search goes round the table once, from row 0 or from a guessed row on. At a row that was
-- retired the visits of all seats are looked at: if none is on that began before the row went, the
-- row is freed, and then taken as any free row.
use Rattle.std.specs.Prelude.{ℕ, ◌+◌, Bool, true, false, nat_lt, nat_le, if◌then◌else◌, Option, Some, None, [], ◌∷◌, ◌++◌, length, slice_index}
use Rattle.kw_words.specs.declared.layout.Name.TheVariants as name
use Rattle.kw_words.specs.declared.kind.Kind.TheVariants as kind
use Rattle.kw_words.specs.declared.state.State.{State}
use Rattle.kw_words.specs.declared.state.State.TheVariants.{Free, Infant, Normal, Leader, Follower, Retired}
use Rattle.kw_words.specs.State.{state_of}
use Rattle.kw_world.specs.declared.answer.Answer.TheVariants.{NoRows}
use Rattle.kw_world.specs.declared.activity.Activity.TheVariants as Activity
use Rattle.kw_world.specs.declared.activity.rebalance.Rebalance.TheVariants as Rebalance
use Rattle.kw_world.specs.declared.activity.rebalance.seek.Seek.TheVariants as Seek
use Rattle.kw_world.specs.declared.activity.rebalance.write.Write.TheVariants as Write
use Rattle.kw_world.specs.declared.local.Local.{Local}
use Rattle.kw_world.specs.declared.rebalance.Afterwards.{Afterwards}
use Rattle.kw_world.specs.declared.rebalance.Afterwards.TheVariants.{TryAgain, Refuse, MoveLeft}
use Rattle.kw_world.specs.declared.event.Choice.{Choice}
use Rattle.kw_world.specs.declared.event.Choice.TheVariants.{Begin, Go, Guess, Stop}
use Rattle.kw_world.specs.declared.operation.Action.TheVariants.{Load}
use Rattle.kw_world.specs.EngageTransitions.{again, refuse, to_rebalance}
use Rattle.kw_world.specs.Sizes.{Sizes}
use Rattle.kw_world.specs.Transition.{Transition, Outcome, at_rows, to, row_or_first}

-- the taken row that is at hand
abbrev pub infant : Local → ℕ
infant l = slice_index l.rebalance.taken l.rebalance.at

-- this one of the taken rows is at hand
abbrev pub at_infant : ℕ → Local → Local
at_infant n l = record l { rebalance = record l.rebalance { at = n } }

-- another row was taken after the one at hand
abbrev pub has_more : Local → Bool
has_more l = nat_lt (l.rebalance.at + 1) (length l.rebalance.taken)

-- the full row is now the one before it
abbrev pub moved_left : Local → Local
moved_left l = record l { row = row_or_first l.rebalance.before; lower = l.rebalance.least }

-- no taken row is left
abbrev pub given_back : Afterwards → Local → Outcome
given_back TryAgain l = again l
given_back Refuse l = refuse NoRows l
given_back MoveLeft l = to_rebalance (moved_left l)

-- the taken rows are given back, one by one, and then this follows
abbrev pub give_back : Afterwards → Local → Outcome
give_back a l = if nat_lt 0 (length l.rebalance.taken) then to (Activity.Rebalance (Rebalance.Seek Seek.GiveBack)) (record l { rebalance = record l.rebalance { at = 0; afterwards = a } }) else given_back a l

-- Seek::GiveBack: the next of them
abbrev pub gave_back : Local → Outcome
gave_back l = if has_more l then to (Activity.Rebalance (Rebalance.Seek Seek.GiveBack)) (at_infant (l.rebalance.at + 1) l) else given_back l.rebalance.afterwards l

-- the row after a row, round the table
abbrev pub row_behind : ℕ → ℕ → ℕ
row_behind rows r = if nat_lt (r + 1) rows then r + 1 else 0

-- the next row is asked, until all rows were
abbrev pub to_seek : ℕ → Local → Outcome
to_seek rows l =
    if nat_lt l.rebalance.asked rows then to (Activity.Rebalance (Rebalance.Seek Seek.Next)) (record l { rebalance = record l.rebalance { sought = row_behind rows l.rebalance.sought; asked = l.rebalance.asked + 1 } })
    else give_back Refuse l

-- the number of the retired row that is asked for is known
abbrev pub numbered : ℕ → Local → Local
numbered number l = record l { rebalance = record l.rebalance { number = number } }

-- the visit of this seat is looked at; once all are, the row is freed
abbrev pub to_pass : Sizes → ℕ → Local → Outcome
to_pass z i l = if nat_lt i z.seats then to (Activity.Rebalance (Rebalance.Seek (Seek.Pass i))) l else to (Activity.Rebalance (Rebalance.Seek Seek.Reclaim)) l

-- Seek: a free row is taken, at a retired one the visits are looked at, and every other one is
-- gone by
abbrev pub seek_seen : ℕ → Option State → Local → Outcome
seek_seen rows (Some Free) l = to (Activity.Rebalance (Rebalance.Seek Seek.Take)) l
seek_seen rows (Some (Infant seat)) l = to_seek rows l
seek_seen rows (Some Normal) l = to_seek rows l
seek_seen rows (Some (Leader count)) l = to_seek rows l
seek_seen rows (Some (Follower leader)) l = to_seek rows l
seek_seen rows (Some (Retired number)) l = to (Activity.Rebalance (Rebalance.Seek (Seek.Pass 0))) (numbered number l)
seek_seen rows None l = to_seek rows l

-- this row is asked
abbrev pub seeking : ℕ → Local → Local
seeking r l = record l { rebalance = record l.rebalance { sought = r } }

-- the line of a search at a row
abbrev pub seek_transition : ℕ → Local → Transition
seek_transition r l = at_rows kind.LoadState (name.State r) Load (λ rows w. seek_seen rows (state_of w) (seeking r l))

-- Seek::First
abbrev pub seek_first_transition : Choice → Local → Transition
seek_first_transition (Begin call) l = seek_transition l.rebalance.sought l
seek_first_transition Go l = seek_transition l.rebalance.sought l
seek_first_transition (Guess r) l = seek_transition r l
seek_first_transition Stop l = seek_transition l.rebalance.sought l

-- Seek::Pass: a seat that announces an epoch up to the number may have entered before the row went,
-- and keeps it from being used; any other seat does not
abbrev pub pass_seen : Sizes → ℕ → ℕ → Option ℕ → Local → Outcome
pass_seen z i rows (Some epoch) l = if nat_le epoch l.rebalance.number then to_seek rows l else to_pass z (i + 1) l
pass_seen z i rows None l = to_pass z (i + 1) l

-- the row that was sought is taken
abbrev pub with_row : Local → Local
with_row l = record l { rebalance = record l.rebalance { taken = l.rebalance.taken ++ l.rebalance.sought ∷ [] } }

-- enough rows are taken once there is one for each start
abbrev pub row_taken : ℕ → Local → Outcome
row_taken rows l = if nat_lt (length l.rebalance.taken) (length l.rebalance.starts) then to_seek rows l else to (Activity.Rebalance (Rebalance.Write Write.Count)) (at_infant 0 l)

-- Seek::Take: the exchange was made, or somebody else took the row
abbrev pub take_row : ℕ → Bool → Local → Outcome
take_row rows true l = row_taken rows (with_row l)
take_row rows false l = to_seek rows l
