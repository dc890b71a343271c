-- The world that a run begins with.
use Rattle.std.specs.Prelude.{ℕ, zero, suc, ◌*◌, ◌<◌, ◌≤◌, List, Some, false, replicate, slice_set}
use Rattle.kw_words.specs.declared.layout.Name.{Name}
use Rattle.kw_words.specs.declared.layout.Name.TheVariants.{Clock, Epoch, Head, Turn, Pass, Scan, Pin, State, Count, Least, Next, First, Pend, Key, Value, Version, After}
use Rattle.kw_words.specs.declared.link.Link.{Link}
use Rattle.kw_words.specs.declared.state.State.TheVariants.{Free, Normal}
use Rattle.kw_words.specs.declared.sizes.TheConstants.{SPENT}
use Rattle.kw_words.specs.Layout.{IsSized, words_of, place_of}
use Rattle.kw_words.specs.Link.{link_word}
use Rattle.kw_words.specs.State.{state_word}
use Rattle.kw_world.specs.declared.opening.Opening.{Opening}
use Rattle.kw_world.specs.Sizes.{Sizes}
use Rattle.kw_world.specs.Local.{resting}
use Rattle.kw_world.specs.WorldView.{WorldView}

-- what a run may begin with
pub record IsOpening (z : Sizes) (o : Opening) : Type 0 where
  pub sized : IsSized z.seats z.cells o.rows
  pub some_seats : 1 ≤ o.seats
  pub few_seats : o.seats ≤ z.seats
  pub some_clock : 1 ≤ o.clock
  pub clock : o.clock ≤ SPENT
  pub some_epoch : 1 ≤ o.epoch
  pub epoch : o.epoch ≤ SPENT
  -- a row that is built has room for more cells of one key than scans and pins may need at once
  pub built : 2 * z.seats < z.built
  -- and it has no more than a row
  pub fits : z.built ≤ z.cells

-- an unmarked link to a row
abbrev pub link_to : ℕ → Link
link_to r = record { row = Some r; marked = false }

-- the words: the clock and the epoch are given, the list begins with row 0, which is normal, and
-- all other words are 0
abbrev pub opening_words : Sizes → Opening → List ℕ
opening_words z o =
    slice_set (slice_set (slice_set (slice_set (replicate (words_of z.seats z.cells o.rows) 0)
    (place_of z.seats z.cells Clock) o.clock)
    (place_of z.seats z.cells Epoch) o.epoch)
    (place_of z.seats z.cells Head) (link_word (link_to 0)))
    (place_of z.seats z.cells (State 0)) (state_word Normal)

-- the world that a run begins with: every seat is idle and has begun no call
abbrev pub opened : Sizes → Opening → WorldView
opened z o = record { rows = o.rows; words = opening_words z o; locals = replicate o.seats (resting 0) }

-- the state of a row: row 0 is normal, and all others are free
abbrev pub opening_state : ℕ → ℕ
opening_state zero = state_word Normal
opening_state (suc r) = state_word Free

-- the same words by name
abbrev pub opening_word : Opening → Name → ℕ
opening_word o Clock = o.clock
opening_word o Epoch = o.epoch
opening_word o Head = link_word (link_to 0)
opening_word o Turn = 0
opening_word o (Pass seat) = 0
opening_word o (Scan seat) = 0
opening_word o (Pin seat) = 0
opening_word o (State r) = opening_state r
opening_word o (Count r) = 0
opening_word o (Least r) = 0
opening_word o (Next r) = 0
opening_word o (First r) = 0
opening_word o (Pend r seat) = 0
opening_word o (Key r cell) = 0
opening_word o (Value r cell) = 0
opening_word o (Version r cell) = 0
opening_word o (After r cell) = 0
