-- What is counted beside the history, by one fold over the same events: who replaced a row, which
-- rows were taken, where cells were stamped, which versions and numbers were drawn, and for which
-- row each seat builds.
--
-- A window lies between two exchanges that replace a row, and is named by how many of these there
-- were before it. So the end of a window resets nothing: whatever is said of a seat in this window
-- is said where the window that is noted of it is the present one.
--
-- Each part of the counts goes by the activity of the acting seat, in a definition of its own, and
-- is as it was at every activity that this does not name.
use Rattle.std.specs.Prelude.{ℕ, zero, suc, ◌+◌, ◌==◌, Bool, true, false, if◌then◌else◌, Option, Some, None, List, [], ◌∷◌, slice_get}
use Rattle.kw_words.specs.declared.pend.Pend.TheVariants.{Pending}
use Rattle.kw_words.specs.declared.state.State.TheVariants.{Free, Normal}
use Rattle.kw_words.specs.Link.{link_word}
use Rattle.kw_words.specs.Pend.{pend_word}
use Rattle.kw_words.specs.State.{state_word}
use Rattle.kw_rows.specs.Ledger.{Ledger, Status}
use Rattle.kw_rows.specs.Ledger as fate
use Rattle.kw_world.specs.declared.activity.Activity.{Activity}
use Rattle.kw_world.specs.declared.activity.draw.Draw.TheVariants as Draw
use Rattle.kw_world.specs.declared.activity.look.Look.TheVariants as Look
use Rattle.kw_world.specs.declared.activity.put.Put.TheVariants as Put
use Rattle.kw_world.specs.declared.activity.walk.Walk.TheVariants as Walk
use Rattle.kw_world.specs.declared.activity.rebalance.Rebalance.TheVariants as Rebalance
use Rattle.kw_world.specs.declared.activity.rebalance.engage.Engage.TheVariants as Engage
use Rattle.kw_world.specs.declared.activity.rebalance.freeze.Freeze.TheVariants as Freeze
use Rattle.kw_world.specs.declared.activity.rebalance.left.Left.TheVariants as Left
use Rattle.kw_world.specs.declared.activity.rebalance.replace.Replace.TheVariants as Replace
use Rattle.kw_world.specs.declared.activity.rebalance.seek.Seek.TheVariants as Seek
use Rattle.kw_world.specs.declared.event.Event.{Event}
use Rattle.kw_world.specs.declared.local.Local.{Local}
use Rattle.kw_world.specs.declared.opening.Opening.{Opening}
use Rattle.kw_world.specs.Sizes.{Sizes}
use Rattle.kw_world.specs.Step.{is_skipped}
use Rattle.kw_world.specs.WriteTransitions.{unmarked_link}
use Rattle.kw_core.specs.Ledger.{group_of, is_among}
use Rattle.kw_core.specs.Run.{Run, found_by, goes_on, start}

-- What is counted.

-- the versions that seats draw for the scans of others and for their own
pub record Draws : Type 0 where
  -- how often each seat stored that its scan waits
  pub waits : ℕ → ℕ
  -- how many versions the first seat drew for the scans of the second one
  pub drew : ℕ → ℕ → ℕ
  -- for which of the second one's waits the first drew last, counted from 1; 0 where it drew for
  -- none
  pub last : ℕ → ℕ → ℕ
  -- which wait it was, of the seat whose scan a seat looked at last
  pub looked : ℕ → ℕ

-- the cells that were stamped, each at the row that it was given in
pub record Stamps : Type 0 where
  -- in each row since it was linked
  pub here : ℕ → ℕ
  -- in the rows that were replaced
  pub banked : ℕ

-- the builds of a seat. Those of one window are counted as they take a row there for the first time
pub record Builds : Type 0 where
  -- the window whose builds were counted last
  pub window : ℕ
  -- how many of them were for a row that was in the list then, and for one that was in it no more
  pub lives : ℕ
  pub deads : ℕ
  -- in which window the build at hand took a row last, if it has taken any
  pub begun : Option ℕ

-- all of it
pub record Counts : Type 0 where
  -- how many exchanges replaced a row
  pub wins : ℕ
  -- how many numbers of retired rows were drawn
  pub numbers : ℕ
  -- which rows were in use at the opening, or were taken since
  pub ever : ℕ → Bool
  pub stamps : Stamps
  -- which seat made a row a leader last
  pub engager : ℕ → ℕ
  pub builds : ℕ → Builds
  -- in which window each seat began the walk that it is on: to the row of its key, to the row
  -- before its full one, or to the leader of that one
  pub walks : ℕ → ℕ
  pub draws : Draws

-- What becomes of it.

-- a function with what it gives in one place set
abbrev pub with_at : {A : Type 0} → (ℕ → A) → ℕ → A → ℕ → A
with_at f s x t = if t == s then x else f t

-- and with one that counts there one more
abbrev pub one_more_at : (ℕ → ℕ) → ℕ → ℕ → ℕ
one_more_at f s = with_at f s (f s + 1)

-- and in one pair of places
abbrev pub with_pair : (ℕ → ℕ → ℕ) → ℕ → ℕ → ℕ → ℕ → ℕ → ℕ
with_pair f s i x = with_at f s (with_at (f s) i x)

-- seat s draws a version for this wait of seat i
abbrev pub with_draw : ℕ → ℕ → ℕ → Draws → Draws
with_draw s i wait d = record d { drew = with_pair d.drew s i (d.drew s i + 1); last = with_pair d.last s i wait }

-- a scan begins to wait, and draws for this wait itself; a seat that freezes rows looks at a scan,
-- and draws for it
abbrev pub draws_after : Activity → ℕ → Draws → Draws
draws_after (Activity.Draw Draw.Wait) s d = record d { waits = one_more_at d.waits s }
draws_after (Activity.Draw Draw.Version) s d = with_draw s s (d.waits s) d
draws_after (Activity.Rebalance (Rebalance.Freeze (Freeze.Scan i))) s d = record d { looked = with_at d.looked s (d.waits i) }
draws_after (Activity.Rebalance (Rebalance.Freeze (Freeze.Draw i))) s d = with_draw s i (d.looked s) d
draws_after _ s d = d

-- the exchange found the unmarked link to the full row of a seat that knew l: it replaced the row
abbrev pub has_replaced : Local → ℕ → Bool
has_replaced l found = found == link_word (unmarked_link (Some l.row))

-- a row is replaced
abbrev pub wins_after : Activity → Local → ℕ → ℕ → ℕ
wins_after (Activity.Rebalance (Rebalance.Replace Replace.Exchange)) l found n = if has_replaced l found then n + 1 else n
wins_after _ l found n = n

-- a number is drawn
abbrev pub numbers_after : Activity → ℕ → ℕ
numbers_after (Activity.Rebalance (Rebalance.Replace Replace.Number)) n = n + 1
numbers_after _ n = n

-- a row is taken that was found free
abbrev pub ever_after : Activity → Local → ℕ → (ℕ → Bool) → ℕ → Bool
ever_after (Activity.Rebalance (Rebalance.Seek Seek.Take)) l found f = if found == state_word Free then with_at f l.rebalance.sought true else f
ever_after _ l found f = f

-- the sum of what a function gives of the rows of a list
abbrev pub sum_of : (ℕ → ℕ) → List ℕ → ℕ
sum_of f [] = 0
sum_of f (q ∷ qs) = f q + sum_of f qs

-- the stamps of these rows are banked
abbrev pub with_banked : List ℕ → Stamps → Stamps
with_banked qs c = record { here = λ q. if is_among qs q then 0 else c.here q; banked = c.banked + sum_of c.here qs }

-- a cell is stamped, by its own seat or by a reader, where its entry was found pending; and the
-- rows of a group are replaced
abbrev pub stamps_after : Activity → Local → ℕ → Stamps → Stamps
stamps_after (Activity.Look Look.Help) l found c = if found == pend_word (Pending l.saw) then record c { here = one_more_at c.here l.row } else c
stamps_after (Activity.Put Put.Stamp) l found c = if found == pend_word (Pending l.cell) then record c { here = one_more_at c.here l.row } else c
stamps_after (Activity.Rebalance (Rebalance.Replace Replace.Exchange)) l found c = if has_replaced l found then with_banked (group_of l) c else c
stamps_after _ l found c = c

-- a row is made a leader that was found normal
abbrev pub engager_after : Activity → ℕ → Local → ℕ → (ℕ → ℕ) → ℕ → ℕ
engager_after (Activity.Rebalance (Rebalance.Engage Engage.Lead)) s l found f = if found == state_word Normal then with_at f l.row s else f
engager_after _ s l found f = f

-- a row is in the list
abbrev pub is_live : Status → Bool
is_live fate.Free = false
is_live fate.Infant = false
is_live fate.Live = true
is_live fate.Dead = false

-- a build is counted in this window, for a row that is in the list, or for one that is not: it is
-- the first one of the window, or one more
abbrev pub with_build : ℕ → Bool → Builds → Builds
with_build wins live b =
    let lives = if b.window == wins then b.lives else 0 in
    let deads = if b.window == wins then b.deads else 0 in
    record { window = wins; lives = if live then lives + 1 else lives; deads = if live then deads else deads + 1; begun = Some wins }

-- the build took a row in this window
abbrev pub has_begun : ℕ → Option ℕ → Bool
has_begun wins (Some n) = n == wins
has_begun wins None = false

-- it takes one in this window, and is counted there if it has taken none
abbrev pub build_taking : ℕ → Bool → Builds → Builds
build_taking wins live b = if has_begun wins b.begun then b else with_build wins live b

-- the build of seat s after its event in this window, where the rows have these fates: a seat that
-- gathers cells has taken no row for them, and takes a row where it finds one free
abbrev pub builds_after : Activity → ℕ → Local → ℕ → Ledger → ℕ → (ℕ → Builds) → ℕ → Builds
builds_after (Activity.Rebalance (Rebalance.Gather _)) s l found g wins f = with_at f s (record (f s) { begun = None })
builds_after (Activity.Rebalance (Rebalance.Seek Seek.Take)) s l found g wins f = if found == state_word Free then with_at f s (build_taking wins (is_live (g.fates l.row).status) (f s)) else f
builds_after _ s l found g wins f = f

-- a walk begins in this window, at a guessed row or at the first one
abbrev pub walks_after : Activity → ℕ → ℕ → (ℕ → ℕ) → ℕ → ℕ
walks_after (Activity.Walk Walk.Start) s wins f = with_at f s wins
walks_after (Activity.Walk Walk.First) s wins f = with_at f s wins
walks_after (Activity.Rebalance (Rebalance.Left Left.Start)) s wins f = with_at f s wins
walks_after (Activity.Rebalance (Rebalance.Replace Replace.Start)) s wins f = with_at f s wins
walks_after (Activity.Rebalance (Rebalance.Replace Replace.First)) s wins f = with_at f s wins
walks_after _ s wins f = f

-- the counts after the event of an activity, of the seat s that knew l and found this word, where
-- the rows had these fates
abbrev pub counts_after : Activity → ℕ → Local → ℕ → Ledger → Counts → Counts
counts_after a s l found g c = record {
  wins = wins_after a l found c.wins;
  numbers = numbers_after a c.numbers;
  ever = ever_after a l found c.ever;
  stamps = stamps_after a l found c.stamps;
  engager = engager_after a s l found c.engager;
  builds = builds_after a s l found g c.wins c.builds;
  walks = walks_after a s c.wins c.walks;
  draws = draws_after a s c.draws;
}

-- One event, and lists of events.

-- an event of a seat that knows this; an event that is skipped counts nothing
abbrev pub counts_on_of : Sizes → Run → Event → Option Local → Counts → Counts
counts_on_of z r e (Some l) c = if is_skipped l.activity e.choice then c else counts_after l.activity e.seat l (found_by z r.world e l) r.ledger.rows c
counts_on_of z r e None c = c

-- one more event, which finds what led to a world
unfoldable pub counts_on : Sizes → Run → Event → Counts → Counts
counts_on z r e c = counts_on_of z r e (slice_get r.world.locals e.seat) c

-- all events of a list
unfoldable pub counted : Sizes → Run → List Event → Counts → Counts
counted z r [] c = c
counted z r (e ∷ es) c = counted z (goes_on z r e) es (counts_on z r e c)

-- row 0 is in use, and no other one
abbrev pub is_first : ℕ → Bool
is_first zero = true
is_first (suc q) = false

-- nothing is counted
abbrev pub no_draws : Draws
no_draws = record { waits = λ t. 0; drew = λ t i. 0; last = λ t i. 0; looked = λ t. 0 }

abbrev pub no_builds : Builds
no_builds = record { window = 0; lives = 0; deads = 0; begun = None }

abbrev pub no_counts : Counts
no_counts = record { wins = 0; numbers = 0; ever = is_first; stamps = record { here = λ q. 0; banked = 0 }; engager = λ q. 0; builds = λ t. no_builds; walks = λ t. 0; draws = no_draws }

-- what is counted along these events
unfoldable pub counts : Sizes → Opening → List Event → Counts
counts z o es = counted z (start z o) es no_counts
