-- That the record of a history is what it claims to be, in the words of the events: at each
-- position that it names stands the event that it says, and no event of those kinds is left out.
--
-- A position is a place in the list of events. `Occurs` has the event at a position and the world
-- before it; `Acts` has what a seat did there: its operation on one word, and what it found in that
-- word.
use Rattle.std.specs.Prelude.{ℕ, ◌≡◌, ◌≢◌, ◌⊎◌, ◌+◌, ◌==◌, ◌&&◌, ◌<◌, ◌≤◌, Bool, true, false, if◌then◌else◌, Option, Some, None, List, [], ◌∷◌, length, slice_get, take}
use Rattle.kw_words.specs.declared.kind.Kind.{Kind}
use Rattle.kw_words.specs.declared.kind.Kind.TheVariants as kind
use Rattle.kw_words.specs.declared.layout.Name.{Name}
use Rattle.kw_words.specs.declared.layout.Name.TheVariants as name
use Rattle.kw_words.specs.declared.pend.Pend.TheVariants as pend
use Rattle.kw_words.specs.Count.{count_of}
use Rattle.kw_words.specs.Pend.{pend_word}
use Rattle.kw_world.specs.declared.activity.Activity.{Activity}
use Rattle.kw_world.specs.declared.activity.look.Look.TheVariants as Look
use Rattle.kw_world.specs.declared.activity.put.Put.TheVariants as Put
use Rattle.kw_world.specs.declared.local.Local.{Local}
use Rattle.kw_world.specs.declared.event.Choice.{Choice}
use Rattle.kw_world.specs.declared.event.Choice.TheVariants.{Begin, Go, Guess, Stop}
use Rattle.kw_world.specs.declared.event.Event.{Event}
use Rattle.kw_world.specs.declared.event.StepDone.TheVariants.{Ended}
use Rattle.kw_world.specs.declared.opening.Opening.{Opening}
use Rattle.kw_world.specs.declared.operation.Action.{Action}
use Rattle.kw_world.specs.declared.operation.Action.TheVariants.{Load, Add, Exchange}
use Rattle.kw_world.specs.declared.operation.Operation.{Operation}
use Rattle.kw_world.specs.Sizes.{Sizes}
use Rattle.kw_world.specs.WorldView.{WorldView}
use Rattle.kw_world.specs.Opening.{opened}
use Rattle.kw_world.specs.PutTransitions.{has_room, given_of}
use Rattle.kw_world.specs.Step.{word, transition_at, step, kind_of}
use Rattle.kw_core.specs.History.{History, Call, Reply, attempt, called}
use Rattle.kw_core.specs.declared.history.Logged.{Logged}
use Rattle.kw_core.specs.declared.history.Attempt.{Attempt}
use Rattle.kw_core.specs.declared.history.End.{End}
use Rattle.kw_core.specs.declared.history.Drawn.{Drawn}
use Rattle.kw_core.specs.HistoryLaws.{IsPut, IsDraw}
use Rattle.kw_core.specs.Events.{world, event}

-- Events at their positions.

-- at position x of the list stands this event, and this is the world before it
pub record Occurs (z : Sizes) (o : Opening) (es : List Event) (x : ℕ) (w : WorldView) (e : Event) : Type 0 where
  pub stands : slice_get es x ≡ Some e
  pub before : world z o (take x es) ≡ w

-- an operation, as one value
abbrev pub operation : Kind → Name → Action → Operation
operation kind name action = record { kind = kind; name = name; action = action }

-- at position x the seat, at this activity, makes this operation, and finds this word
pub record Acts (z : Sizes) (o : Opening) (es : List Event) (x s : ℕ) (a : Activity) (op : Operation) (found : ℕ) : Type 0 where
  pub before : WorldView
  pub choice : Choice
  pub local : Local
  pub occurs : Occurs z o es x before (event s choice)
  pub knows : slice_get before.locals s ≡ Some local
  pub activity : local.activity ≡ a
  pub operates : (transition_at z before (event s choice) local).operation ≡ op
  pub finds : word z before op.name ≡ found

-- the entry of the log for position x has the seat of the event there, its kind, and the clock
-- before it
pub record IsLogged (z : Sizes) (o : Opening) (es : List Event) (x : ℕ) (q : Logged) : Type 0 where
  pub activity : Activity
  pub op : Operation
  pub found : ℕ
  pub acts : Acts z o es x q.seat activity op found
  pub kind : op.kind ≡ q.kind
  pub clock : word z acts.before name.Clock ≡ q.clock

-- Calls.

-- at position x the seat is idle, and begins this call
pub record BeginsCall (z : Sizes) (o : Opening) (es : List Event) (x s : ℕ) (call : Call) : Type 0 where
  pub before : WorldView
  pub local : Local
  pub occurs : Occurs z o es x before (event s (Begin call))
  pub knows : slice_get before.locals s ≡ Some local
  pub idle : local.activity ≡ Activity.Idle

-- a seat at this activity begins a call
abbrev pub is_begun : Activity → Choice → Bool
is_begun Activity.Idle (Begin call) = true
is_begun Activity.Idle Go = false
is_begun Activity.Idle (Guess r) = false
is_begun Activity.Idle Stop = false
is_begun _ choice = false

-- the event, of a seat that knows this, is one by which seat s begins a call
abbrev pub begins_by : ℕ → Event → Option Local → Bool
begins_by s e (Some l) = (e.seat == s) && is_begun l.activity e.choice
begins_by s e None = false

-- how many calls the seat begins along the list, from this world
unfoldable pub begun_from : Sizes → WorldView → ℕ → List Event → ℕ
begun_from z w s [] = 0
begun_from z w s (e ∷ es) = (if begins_by s e (slice_get w.locals e.seat) then 1 else 0) + begun_from z (step z w e).world s es

-- how many it begins along the list, from the opening
unfoldable pub begun : Sizes → Opening → ℕ → List Event → ℕ
begun z o s es = begun_from z (opened z o) s es

-- at position x an event of the seat ends a call, with this reply
pub record EndsCall (z : Sizes) (o : Opening) (es : List Event) (x s : ℕ) (reply : Reply) : Type 0 where
  pub before : WorldView
  pub choice : Choice
  pub occurs : Occurs z o es x before (event s choice)
  pub ends : (step z before (event s choice)).done ≡ Ended reply

-- from position x on and before y no event of the seat ends a call
abbrev pub NoEnd : Sizes → Opening → List Event → ℕ → ℕ → ℕ → Type 0
NoEnd z o es s x y = (u : ℕ) (reply : Reply) → x ≤ u → u < y → EndsCall z o es u s reply → ⊥

-- a scan drew its version here: an event that adds one to the clock found it
pub record DrawsVersion (z : Sizes) (o : Opening) (es : List Event) (d : Drawn) : Type 0 where
  pub seat : ℕ
  pub activity : Activity
  pub kind : Kind
  pub is_draw : IsDraw kind
  pub acts : Acts z o es d.at seat activity (operation kind name.Clock (Add 1)) d.version

-- a call of the record: its first event begins it, and its number counts the calls of its seat up
-- to there; its end is the first event from there on that ends a call of its seat, with its reply,
-- and where it has none no event has ended it; and what it drew
pub record MirrorsCall (z : Sizes) (o : Opening) (es : List Event) (h : History) (x : ℕ) : Type 0 where
  pub begins : BeginsCall z o es (called h x).first (called h x).seat (called h x).call
  pub number : (called h x).number ≡ begun z o (called h x).seat (take ((called h x).first + 1) es)
  pub ends : (e : End) → (called h x).end ≡ Some e → EndsCall z o es e.at (called h x).seat e.reply
  pub ends_first : (e : End) → (called h x).end ≡ Some e → NoEnd z o es (called h x).seat (called h x).first e.at
  pub runs : (called h x).end ≡ None → NoEnd z o es (called h x).seat (called h x).first (length es)
  pub draws : (d : Drawn) → (called h x).draw ≡ Some d → DrawsVersion z o es d

-- Attempts.

-- at position x the seat asks the row for a cell, and is given this one
pub record TakesCell (z : Sizes) (o : Opening) (es : List Event) (x s row cell : ℕ) : Type 0 where
  pub found : ℕ
  pub acts : Acts z o es x s (Activity.Put Put.Add) (operation kind.AddCount (name.Count row) (Add 1)) found
  pub room : has_room z (count_of found) ≡ true
  pub given : given_of (count_of found) ≡ cell
  pub below : cell < z.cells

-- the exchange that announces a cell
abbrev pub announcing : ℕ → ℕ → ℕ → Operation
announcing row seat cell = operation kind.Announce (name.Pend row seat) (Exchange (pend_word pend.Idle) (pend_word (pend.Pending cell)))

-- the exchange that stamps a cell
abbrev pub stamping : Kind → ℕ → ℕ → ℕ → ℕ → Operation
stamping kind row seat cell version = operation kind (name.Pend row seat) (Exchange (pend_word (pend.Pending cell)) (pend_word (pend.Stamped cell version)))

-- no event of the seat after position x and before y loads the clock
abbrev pub NoLoad : Sizes → Opening → List Event → ℕ → ℕ → ℕ → Type 0
NoLoad z o es s x y = (u : ℕ) (w : WorldView) (choice : Choice) → x < u → u < y → Occurs z o es u w (event s choice) → kind_of z w (event s choice) ≢ Some kind.LoadClock

-- the attempt was stamped by seat s, at the first of these activities: its exchange won, and its
-- last load of the clock before it, at the other activity, found the version
pub record StampedBy (z : Sizes) (o : Opening) (es : List Event) (q : Attempt) (s : ℕ) (by from : Activity) (k : Kind) : Type 0 where
  pub stamps : Acts z o es q.at s by (stamping k q.row q.seat q.cell q.version) (pend_word (pend.Pending q.cell))
  pub loads : Acts z o es q.load s from (operation kind.LoadClock name.Clock Load) q.version
  pub last : NoLoad z o es s q.load q.at

-- by its own seat, or by a reader that helps
abbrev pub StampedAt : Sizes → Opening → List Event → Attempt → Type 0
StampedAt z o es q = StampedBy z o es q q.seat (Activity.Put Put.Stamp) (Activity.Put Put.Clock) kind.Stamp ⊎ ((s : ℕ) × StampedBy z o es q s (Activity.Look Look.Help) (Activity.Look Look.Clock) kind.HelpStamp)

-- an attempt of the record: its seat was given the cell, within its call; it was announced by the
-- exchange that won, and stamped so
pub record MirrorsAttempt (z : Sizes) (o : Opening) (es : List Event) (h : History) (p : ℕ) : Type 0 where
  pub takes : TakesCell z o es (attempt h p).add (attempt h p).seat (attempt h p).row (attempt h p).cell
  pub within : (e : End) → (called h (attempt h p).call).end ≡ Some e → (attempt h p).add < e.at
  pub announced : (attempt h p).is_announced ≡ true → Acts z o es (attempt h p).announced (attempt h p).seat (Activity.Put Put.Announce) (announcing (attempt h p).row (attempt h p).seat (attempt h p).cell) (pend_word pend.Idle)
  pub stamped : IsPut h p → StampedAt z o es (attempt h p)

-- All of it.

-- the call that begins here is in the record
pub record IsCallOf (h : History) (x : ℕ) : Type 0 where
  pub place : ℕ
  pub within : place < length h.calls
  pub first : (called h place).first ≡ x

-- the attempt that is added here is in the record
pub record IsAttemptOf (h : History) (x : ℕ) : Type 0 where
  pub place : ℕ
  pub within : place < length h.attempts
  pub add : (attempt h place).add ≡ x

-- the attempt that is announced here is in the record
pub record IsAnnouncementOf (h : History) (x : ℕ) : Type 0 where
  pub place : ℕ
  pub within : place < length h.attempts
  pub is_announced : (attempt h place).is_announced ≡ true
  pub announced : (attempt h place).announced ≡ x

-- the attempt that is stamped here is in the record
pub record IsStampOf (h : History) (x : ℕ) : Type 0 where
  pub place : ℕ
  pub within : place < length h.attempts
  pub is_put : IsPut h place
  pub at : (attempt h place).at ≡ x

-- the record says of the list what its events say
pub record Mirrors (z : Sizes) (o : Opening) (es : List Event) (h : History) : Type 0 where
  -- the log has one entry for each event: its seat, its kind, and the clock before it
  pub events : length h.log ≡ length es
  pub log : (x : ℕ) (q : Logged) → slice_get h.log x ≡ Some q → IsLogged z o es x q
  -- each call is one that its seat began and ended there
  pub calls : (x : ℕ) → x < length h.calls → MirrorsCall z o es h x
  -- each attempt was given its cell, announced and stamped there
  pub attempts : (p : ℕ) → p < length h.attempts → MirrorsAttempt z o es h p
  -- no call that begins, no cell that is given, and no exchange that announces or stamps a cell is
  -- left out
  pub all_calls : (x s : ℕ) (call : Call) → BeginsCall z o es x s call → IsCallOf h x
  pub all_attempts : (x s row cell : ℕ) → TakesCell z o es x s row cell → IsAttemptOf h x
  pub all_announced : (x s row cell : ℕ) (a : Activity) → Acts z o es x s a (announcing row s cell) (pend_word pend.Idle) → IsAnnouncementOf h x
  pub all_stamped : (x s row seat cell version : ℕ) (a : Activity) (k : Kind) → Acts z o es x s a (stamping k row seat cell version) (pend_word (pend.Pending cell)) → IsStampOf h x
