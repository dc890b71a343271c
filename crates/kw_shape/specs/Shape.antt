-- What holds of the rows and of where each seat is: the rows as a list, the room in the counts,
-- which activities a call has, and at which row a seat walks. A seat names rows that are in the
-- list, or were so in its visit (`IsFresh`, of `kw_rows`).
--
-- The words are a function of names here, so that a fact says what it reads.
use Rattle.std.specs.Prelude.{ℕ, ◌≡◌, ◌⊎◌, ◌+◌, ◌*◌, ◌<◌, ◌≤◌, true, Option, Some, None, length, slice_get}
use Rattle.kw_words.specs.declared.layout.Name.TheVariants as name
use Rattle.kw_words.specs.declared.sizes.TheConstants.{MOST_GROUP, SPENT}
use Rattle.kw_model.specs.declared.call.Call.{Call}
use Rattle.kw_model.specs.declared.call.Call.TheVariants.{Put, Del, Get, Scan}
use Rattle.kw_world.specs.declared.answer.Answer.{Answer}
use Rattle.kw_world.specs.declared.answer.Answer.TheVariants.{Done, Value, Absent, Pairs, NoRows, Spent, Stopped}
use Rattle.kw_world.specs.declared.activity.Activity.{Activity}
use Rattle.kw_world.specs.declared.activity.draw.Draw.TheVariants as Draw
use Rattle.kw_world.specs.declared.activity.rebalance.engage.Engage.TheVariants as Engage
use Rattle.kw_world.specs.declared.activity.rebalance.freeze.Freeze.TheVariants as Freeze
use Rattle.kw_world.specs.declared.activity.enter.Enter.TheVariants as Enter
use Rattle.kw_world.specs.declared.activity.rebalance.Rebalance.TheVariants as Rebalance
use Rattle.kw_world.specs.declared.activity.walk.Walk.TheVariants as Walk
use Rattle.kw_world.specs.declared.limits.TheConstants.{TIDY_SHARE}
use Rattle.kw_world.specs.declared.local.Local.{Local}
use Rattle.kw_world.specs.Sizes.{Sizes}
use Rattle.kw_world.specs.Calls.{first_key, last_key, is_scan}
use Rattle.kw_world.specs.Sane.{IsSane}
use Rattle.kw_world.specs.Step.{word}
pub use Rattle.kw_core.specs.Words.{Words, next_in, least_in, built_in, given_in}
use Rattle.kw_core.specs.declared.stage.Stage.{Stage}
use Rattle.kw_core.specs.declared.stage.Stage.TheVariants.{Rebalancing, Retrying}
use Rattle.kw_core.specs.Stages.{stage_of, IsBalancing, IsDone, IsStarting, IsCovering, IsAtRow, IsPastStart}
use Rattle.kw_core.specs.Run.{Run}
use Rattle.kw_rows.specs.Ledger.{Ledger, Free, IsFresh}
use Rattle.kw_rows.specs.RowState.{IsEngaged}
use Rattle.kw_rows.specs.Rows as rows
use Rattle.kw_rows.specs.Rows.{WasLinked}
use Rattle.kw_rows.specs.Structure.{Structure}
use Rattle.kw_shape.specs.Rooms.{adders, drawers}
use Rattle.kw_shape.specs.RowsIn.{rows_in}
use Rattle.kw_shape.specs.Visits.{Visits, Numbers}
use Rattle.kw_shape.specs.Balances.{Balances}
use Rattle.kw_shape.specs.Epochs.{numberers}
use Rattle.kw_shape.specs.Hands.{IsToRetire}
use Rattle.kw_shape.specs.Keyed.{IsRest, Keyed, Keys}
use Rattle.kw_shape.specs.Plans.{Plans}
use Rattle.kw_shape.specs.Infants.{HasLostNone, Infants}
use Rattle.kw_shape.specs.Search.{Search}
use Rattle.kw_shape.specs.Sought.{Sought}
use Rattle.kw_shape.specs.Won.{Won}

-- The rows.

-- the key is one that the row may hold: not below its least key, and below the end of its range
abbrev pub HoldsKey : Words → Ledger → ℕ → ℕ → Type 0
HoldsKey v g q key = rows.HoldsKey (rows_in v) g q key

-- Where a seat is.

-- the row n stands after the one of the seat, which knows its least key: the range of its row ends
-- there, above the wanted key
pub record IsAfterRow (v : Words) (g : Ledger) (t : ℕ) (l : Local) (n : ℕ) : Type 0 where
  pub fresh : IsFresh g t n
  pub least : l.upper ≡ least_in v n
  pub ends : (g.fates l.row).upper ≡ Some l.upper
  pub below : l.want < l.upper

-- the seat is at the row of its wanted key, which it may name, and knows the row after it
pub record IsAtItsRow (v : Words) (g : Ledger) (t : ℕ) (l : Local) : Type 0 where
  pub fresh : IsFresh g t l.row
  pub from : least_in v l.row ≤ l.want
  pub last : l.next ≡ None → (g.fates l.row).upper ≡ None
  pub next : (n : ℕ) → l.next ≡ Some n → IsAfterRow v g t l n

-- the seat may name the row that its walk is on, whose least key is at most the wanted key, and the
-- candidate, where the row's range ends
abbrev pub IsOnWalk : Activity → Words → Ledger → ℕ → Local → Type 0
IsOnWalk (Activity.Walk Walk.GuessedLeast) v g t l = IsFresh g t l.row
IsOnWalk (Activity.Walk Walk.Next) v g t l = IsFresh g t l.row × (least_in v l.row ≤ l.want)
IsOnWalk (Activity.Walk Walk.NextLeast) v g t l = IsFresh g t l.row × (least_in v l.row ≤ l.want) × IsFresh g t l.candidate × ((g.fates l.row).upper ≡ Some (least_in v l.candidate))
IsOnWalk _ v g t l = Unit {0}

-- what a seat's walk is at. A put, a delete or a get wants its key throughout; a scan wants its
-- first key, or the least key of the row to which it went on. From the first row on the seat knows
-- the least key of the row that it is at; as least keys rise along the links, so does what it knows
-- from row to row, and the walk ends. It knows no more cells with which that row was built than
-- there are
pub record Walks (v : Words) (g : Ledger) (t : ℕ) (a : Activity) (l : Local) : Type 0 where
  pub on : IsOnWalk a v g t l
  pub lower : IsPastStart a → l.lower ≡ least_in v l.row
  pub built : IsPastStart a → l.built ≤ built_in v l.row
  pub at : IsAtRow a → IsAtItsRow v g t l
  pub begins : IsStarting a → l.want ≡ first_key l.call
  pub wants : IsPastStart a → (l.want ≡ first_key l.call) ⊎ (is_scan l.call ≡ true) × (least_in v l.row ≡ l.want)

-- Which activities a call has.

-- the call is one
abbrev pub IsSomeCall : Option Call → Type 0
IsSomeCall (Some call) = Unit {0}
IsSomeCall None = ⊥

-- a put or a delete
abbrev pub IsPutCall : Option Call → Type 0
IsPutCall (Some (Put key value)) = Unit {0}
IsPutCall (Some (Del key)) = Unit {0}
IsPutCall _ = ⊥

-- a get or a scan
abbrev pub IsReadCall : Option Call → Type 0
IsReadCall (Some (Get key)) = Unit {0}
IsReadCall (Some (Scan from upto)) = Unit {0}
IsReadCall _ = ⊥

-- a scan
abbrev pub IsScanCall : Option Call → Type 0
IsScanCall (Some (Scan from upto)) = Unit {0}
IsScanCall _ = ⊥

-- the answer is one of such a call
abbrev pub IsAnswerOf : Option Call → Answer → Type 0
IsAnswerOf (Some (Put key value)) Done = Unit {0}
IsAnswerOf (Some (Put key value)) NoRows = Unit {0}
IsAnswerOf (Some (Put key value)) Spent = Unit {0}
IsAnswerOf (Some (Del key)) Done = Unit {0}
IsAnswerOf (Some (Del key)) NoRows = Unit {0}
IsAnswerOf (Some (Del key)) Spent = Unit {0}
IsAnswerOf (Some (Get key)) (Value value) = Unit {0}
IsAnswerOf (Some (Get key)) Absent = Unit {0}
IsAnswerOf (Some (Scan from upto)) Pairs = Unit {0}
IsAnswerOf (Some (Scan from upto)) Spent = Unit {0}
IsAnswerOf (Some (Scan from upto)) Stopped = Unit {0}
IsAnswerOf _ _ = ⊥

-- the answer is pairs
abbrev pub IsPairs : Answer → Type 0
IsPairs Pairs = Unit {0}
IsPairs _ = ⊥

-- a seat rebalances or tries again for a put, and walks or begins for any call
abbrev pub IsKindAt : Stage → Option Call → Type 0
IsKindAt Rebalancing call = IsPutCall call
IsKindAt Retrying call = IsPutCall call
IsKindAt _ call = IsSomeCall call

-- the activity is one of such a call. No seat stores, takes back or looks at a pin, since no call
-- asks of one as yet (`IsCall`)
abbrev pub IsKind : Activity → Local → Type 0
IsKind Activity.Idle l = Unit {0}
IsKind (Activity.Draw Draw.Pin) l = ⊥
IsKind (Activity.Draw _) l = IsScanCall l.call
IsKind (Activity.Look _) l = IsReadCall l.call
IsKind (Activity.Read _) l = IsReadCall l.call
IsKind (Activity.EndScan answer) l = IsScanCall l.call × IsPairs answer
IsKind Activity.ClearPin l = ⊥
IsKind (Activity.Put _) l = IsPutCall l.call
IsKind (Activity.Insert _) l = IsPutCall l.call
IsKind (Activity.Leave answer) l = IsAnswerOf l.call answer
IsKind (Activity.Enter Enter.LoadEpoch) l = IsPutCall l.call
IsKind (Activity.Rebalance (Rebalance.Engage (Engage.Decide count))) l = IsPutCall l.call × (1 ≤ count)
IsKind (Activity.Rebalance (Rebalance.Freeze (Freeze.Pin i))) l = ⊥
IsKind a l = IsKindAt (stage_of a) l.call

-- the activity fits the call, and a scan that walks or reads has a key
pub record Kinds (a : Activity) (l : Local) : Type 0 where
  pub kind : IsKind a l
  pub range : IsCovering a → first_key l.call ≤ last_key l.call

-- The group.

-- what holds of a run, whatever its record says of calls: the world is sane, each row has room for
-- the cells that are asked for, the clock for the versions that are drawn, the rows have the
-- structure of a list whose rows come and go, and each seat is where its call has it
pub record Shape (z : Sizes) (r : Run) : Type 0 where
  pub sane : IsSane z r.world
  -- of one key a row that is built has room for more cells than scans and pins may need at once, so
  -- the new rows of one group differ in their least keys
  pub built : 2 * z.seats < z.built
  -- and a new row is no longer than a row
  pub fits : z.built ≤ z.cells
  pub room : (q : ℕ) → q < r.world.rows → given_in (word z r.world) q + adders q r.world.locals < z.cells + z.seats
  pub clock : word z r.world name.Clock + drawers z.seats r.world.locals ≤ SPENT + z.seats * z.seats
  -- the live rows are one list, rows that a seat may name lead to such rows, and states and marks
  -- go with the fates
  pub rows : Structure (rows_in (word z r.world)) r.ledger.rows (length r.history.log)
  -- a row that the table does not have is free
  pub beyond : (q : ℕ) → r.world.rows ≤ q → (r.ledger.rows.fates q).status ≡ Free
  -- the keys that stand in a row are such as it may hold
  pub keyed : (q : ℕ) → WasLinked r.ledger.rows q → Keyed z (word z r.world) r.ledger.rows q
  -- the epoch has room for the numbers that are drawn
  pub epoch : word z r.world name.Epoch + numberers r.world.locals ≤ SPENT + MOST_GROUP * z.seats
  pub numbers : Numbers (word z r.world) r.ledger.rows
  pub kinds : (t : ℕ) (l : Local) → slice_get r.world.locals t ≡ Some l → Kinds l.activity l
  -- no seat holds a pin: so it is as long as no call of one is let in
  pub no_pin : (t : ℕ) (l : Local) → slice_get r.world.locals t ≡ Some l → l.pin ≡ None
  -- a seat that tidies, since its put was done before, rebalances its row, or is about to leave
  pub tidies : (t : ℕ) (l : Local) → slice_get r.world.locals t ≡ Some l → l.tidies ≡ true → IsBalancing l.activity ⊎ IsDone l.activity
  -- no seat tidies before so many rows were retired that the table has few for each number of the
  -- seat's visit
  pub offered : (t : ℕ) (l : Local) → slice_get r.world.locals t ≡ Some l → l.tidies ≡ true → r.world.rows < TIDY_SHARE * l.epoch
  pub visits : (t : ℕ) (l : Local) → slice_get r.world.locals t ≡ Some l → Visits (word z r.world) r.ledger.rows t l.activity l
  -- a seat that the table does not have is in no visit
  pub outside : (t : ℕ) → length r.world.locals ≤ t → r.ledger.rows.visits t ≡ None
  pub walks : (t : ℕ) (l : Local) → slice_get r.world.locals t ≡ Some l → Walks (word z r.world) r.ledger.rows t l.activity l
  pub balances : (t : ℕ) (l : Local) → slice_get r.world.locals t ≡ Some l → Balances (word z r.world) r.ledger.rows t l.activity l
  -- each seat knows keys of its row, what is left to gather, what it has planned, the rows that it
  -- took, of which none is lost, the row before its full one, and what it has replaced
  pub keys : (t : ℕ) (l : Local) → slice_get r.world.locals t ≡ Some l → Keys z (word z r.world) r.ledger.rows l.activity l
  pub rest : (t : ℕ) (l : Local) → slice_get r.world.locals t ≡ Some l → IsRest z l.activity l
  pub plans : (t : ℕ) (l : Local) → slice_get r.world.locals t ≡ Some l → Plans z l.activity l
  pub infants : (t : ℕ) (l : Local) → slice_get r.world.locals t ≡ Some l → Infants z (word z r.world) r.ledger.rows t l.activity l
  pub none_lost : (t : ℕ) (l : Local) → slice_get r.world.locals t ≡ Some l → HasLostNone r.ledger.rows t l.activity l
  pub search : (t : ℕ) (l : Local) → slice_get r.world.locals t ≡ Some l → Search (word z r.world) r.ledger.rows t l.activity l
  pub won : (t : ℕ) (l : Local) → slice_get r.world.locals t ≡ Some l → Won r.ledger.rows t l.activity l
  -- what each seat knows of the row that it asks for
  pub sought : (t : ℕ) (l : Local) → slice_get r.world.locals t ≡ Some l → Sought z (word z r.world) r.ledger.rows t l.activity l
  -- a row that a seat has replaced is not retired before it does so
  pub unretired : (t : ℕ) (l : Local) → slice_get r.world.locals t ≡ Some l → (q : ℕ) → IsToRetire l.activity l q → IsEngaged ((rows_in (word z r.world)).state q)
