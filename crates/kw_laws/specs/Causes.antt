-- Why a call was refused, in the words of the events: what its seat found within the call.
--
-- A scan loads the clock before it waits, and a put or a delete loads the clock and the epoch
-- before it rebalances a row: each is refused as spent where it finds one of them at its bound. For
-- want of rows a put or a delete is refused as it has asked each row of the table in one search,
-- and was left without as many as it needs. A row that was retired is such a one only if a visit
-- was on in which it may be named.
use Rattle.std.specs.Prelude.{ℕ, ◌≡◌, ◌≢◌, ◌⊎◌, ◌<◌, ◌≤◌, Some, List, length, slice_get}
use Rattle.kw_words.specs.declared.kind.Kind.TheVariants as kind
use Rattle.kw_words.specs.declared.layout.Name.TheVariants as name
use Rattle.kw_words.specs.declared.sizes.TheConstants.{SPENT}
use Rattle.kw_words.specs.declared.state.State.TheVariants as state
use Rattle.kw_words.specs.State.{state_of, state_word}
use Rattle.kw_model.specs.declared.call.Call.{Call}
use Rattle.kw_model.specs.declared.call.Call.TheVariants.{Put, Del, Scan, Pin}
use Rattle.kw_model.specs.declared.call.Reply.TheVariants.{NoRows, Spent}
use Rattle.kw_world.specs.declared.activity.Activity.{Activity}
use Rattle.kw_world.specs.declared.activity.draw.Draw.TheVariants as Draw
use Rattle.kw_world.specs.declared.activity.rebalance.engage.Engage.TheVariants as Engage
use Rattle.kw_world.specs.declared.activity.rebalance.Rebalance.TheVariants as Rebalance
use Rattle.kw_world.specs.declared.activity.rebalance.seek.Seek.TheVariants as Seek
use Rattle.kw_world.specs.declared.answer.Answer.TheVariants as answer
use Rattle.kw_world.specs.declared.event.Event.{Event}
use Rattle.kw_world.specs.declared.local.Local.{Local}
use Rattle.kw_world.specs.declared.opening.Opening.{Opening}
use Rattle.kw_world.specs.declared.operation.Action.TheVariants.{Load, Exchange}
use Rattle.kw_world.specs.declared.operation.Operation.{Operation}
use Rattle.kw_world.specs.Sizes.{Sizes}
use Rattle.kw_core.specs.Events.{world}
use Rattle.kw_core.specs.History.{History, called}
use Rattle.kw_core.specs.declared.history.End.{End}
use Rattle.kw_rows.specs.Events.{IsIn}
use Rattle.kw_laws.specs.Mirror.{Acts, operation}

-- No version is left.

-- by this operation a seat that makes the call asks at this activity for a version, or for a number
abbrev pub IsAsking : Call → Activity → Operation → Type 0
IsAsking (Scan from upto) (Activity.Draw Draw.Clock) op = op ≡ operation kind.LoadClock name.Clock Load
IsAsking Pin (Activity.Draw Draw.Clock) op = op ≡ operation kind.LoadClock name.Clock Load
IsAsking (Put key value) (Activity.Rebalance (Rebalance.Engage Engage.Clock)) op = op ≡ operation kind.LoadClock name.Clock Load
IsAsking (Put key value) (Activity.Rebalance (Rebalance.Engage Engage.Epoch)) op = op ≡ operation kind.LoadEpoch name.Epoch Load
IsAsking (Del key) (Activity.Rebalance (Rebalance.Engage Engage.Clock)) op = op ≡ operation kind.LoadClock name.Clock Load
IsAsking (Del key) (Activity.Rebalance (Rebalance.Engage Engage.Epoch)) op = op ≡ operation kind.LoadEpoch name.Epoch Load
IsAsking _ _ op = ⊥

-- after the first position and before the last the seat, which makes this call, asked, and found
-- none left
pub record IsSpentBy (z : Sizes) (o : Opening) (es : List Event) (call : Call) (s first last : ℕ) : Type 0 where
  pub at : ℕ
  pub after : first < at
  pub before : at < last
  pub activity : Activity
  pub op : Operation
  pub asks : IsAsking call activity op
  pub found : ℕ
  pub acts : Acts z o es at s activity op found
  pub spent : SPENT ≤ found

-- No row is left in the table.

-- the load by which a search asks for the state of a row
abbrev pub asking : ℕ → Operation
asking row = operation kind.LoadState (name.State row) Load

-- the load by which a search asks for the visit of a seat
abbrev pub asking_pass : ℕ → Operation
asking_pass seat = operation kind.LoadPass (name.Pass seat) Load

-- the exchange by which a row that is retired with this number is given free
abbrev pub reclaiming : ℕ → ℕ → Operation
reclaiming row number = operation kind.Reclaim (name.State row) (Exchange (state_word (state.Retired number)) (state_word state.Free))

-- the exchange by which the seat takes a free row
abbrev pub taking : ℕ → ℕ → Operation
taking s row = operation kind.TakeRow (name.State row) (Exchange (state_word state.Free) (state_word (state.Infant s)))

-- by this operation the search of the seat asks at this activity for the row
abbrev pub IsTrying : ℕ → ℕ → Activity → Operation → Type 0
IsTrying s row (Activity.Rebalance (Rebalance.Seek Seek.First)) op = op ≡ asking row
IsTrying s row (Activity.Rebalance (Rebalance.Seek Seek.Next)) op = op ≡ asking row
IsTrying s row (Activity.Rebalance (Rebalance.Seek Seek.Reclaim)) op = (number : ℕ) × (op ≡ reclaiming row number)
IsTrying s row (Activity.Rebalance (Rebalance.Seek Seek.Take)) op = op ≡ taking s row
IsTrying s row _ op = ⊥

-- after the first position and before the last the seat does not ask for the row
abbrev pub NotTried : Sizes → Opening → List Event → ℕ → ℕ → ℕ → ℕ → Type 0
NotTried z o es s first last row = (u found : ℕ) (a : Activity) (op : Operation) → first < u → u < last → IsTrying s row a op → Acts z o es u s a op found → ⊥

-- after the first position and before the last the search saw the visit of a seat with an epoch
-- that is not above this number
pub record SawPass (z : Sizes) (o : Opening) (es : List Event) (s first last number : ℕ) : Type 0 where
  pub at : ℕ
  pub after : first < at
  pub before : at < last
  pub seat : ℕ
  pub epoch : ℕ
  pub acts : Acts z o es at s (Activity.Rebalance (Rebalance.Seek (Seek.Pass seat))) (asking_pass seat) epoch
  pub some : 1 ≤ epoch
  pub old : epoch ≤ number

-- a row that was found retired with this number, by a seat that knew l, may be named in a visit
-- that is on: that of the seat itself, or one that the search saw after it
abbrev pub MayBeNamed : Sizes → Opening → List Event → ℕ → ℕ → ℕ → ℕ → Local → Type 0
MayBeNamed z o es s at last number l = (1 ≤ l.epoch) × (l.epoch ≤ number) ⊎ SawPass z o es s at last number

-- from the first position on and before the last the seat asked for the row, or tried to take it,
-- and did not find it free; it found it retired only if the row may be named in a visit that is on;
-- and it asked for the row no more
pub record FoundTaken (z : Sizes) (o : Opening) (es : List Event) (s first last row : ℕ) : Type 0 where
  pub at : ℕ
  pub after : first ≤ at
  pub before : at < last
  pub activity : Activity
  pub op : Operation
  pub tries : IsTrying s row activity op
  pub found : ℕ
  pub acts : Acts z o es at s activity op found
  pub taken : found ≢ state_word state.Free
  pub gone_by : (number : ℕ) → state_of found ≡ Some (state.Retired number) → MayBeNamed z o es s at last number acts.local
  pub final : NotTried z o es s at last row

-- from the first position on and before the last the seat took the row
pub record TookRow (z : Sizes) (o : Opening) (es : List Event) (s first last row : ℕ) : Type 0 where
  pub at : ℕ
  pub after : first ≤ at
  pub before : at < last
  pub acts : Acts z o es at s (Activity.Rebalance (Rebalance.Seek Seek.Take)) (taking s row) (state_word state.Free)

-- after the first position and before the last the seat begins no search
abbrev pub NoSearch : Sizes → Opening → List Event → ℕ → ℕ → ℕ → Type 0
NoSearch z o es s first last = (u found : ℕ) (op : Operation) → first < u → u < last → Acts z o es u s (Activity.Rebalance (Rebalance.Seek Seek.First)) op found → ⊥

-- after the first position and before the last the seat began a search, its last one there, which
-- asked for each row of the table: it found it taken, or took it, and it took fewer rows than the
-- cells fill that it gathered
pub record AskedAll (z : Sizes) (o : Opening) (es : List Event) (s rows first last : ℕ) : Type 0 where
  pub begun : ℕ
  pub after : first < begun
  pub before : begun < last
  pub row : ℕ
  pub found : ℕ
  pub begins : Acts z o es begun s (Activity.Rebalance (Rebalance.Seek Seek.First)) (asking row) found
  pub alone : NoSearch z o es s begun last
  pub taken : List ℕ
  pub took : (q : ℕ) → IsIn taken q → TookRow z o es s begun last q
  pub fewer : length taken < length begins.local.rebalance.starts
  pub asked : (q : ℕ) → q < rows → IsIn taken q ⊎ FoundTaken z o es s begun last q

-- each call of the record that was refused has its cause: it was found after the call's first event
-- and before its last
pub record HaveCauses (z : Sizes) (o : Opening) (es : List Event) (h : History) : Type 0 where
  pub spent : (x : ℕ) (e : End) → x < length h.calls → (called h x).end ≡ Some e → e.reply ≡ Spent → IsSpentBy z o es (called h x).call (called h x).seat (called h x).first e.at
  pub no_rows : (x : ℕ) (e : End) → x < length h.calls → (called h x).end ≡ Some e → e.reply ≡ NoRows → AskedAll z o es (called h x).seat o.rows (called h x).first e.at

-- so it is with each seat that is about to leave for want of rows: after some event of its own it
-- has found why
abbrev pub AsksWhereItStands : Sizes → Opening → List Event → Type 0
AsksWhereItStands z o es = (t : ℕ) (l : Local) → slice_get (world z o es).locals t ≡ Some l → l.activity ≡ Activity.Leave answer.NoRows → (first : ℕ) × AskedAll z o es t o.rows first (length es)
