-- Which rows a seat can reach in its visit, and what every list of events keeps of them: none is
-- used again while the visit is on.
--
-- A seat comes to a row where it works on it, and with each row to the one to which that row's link
-- leads, then or later. It has come to it until the visit ends, whether it names the row still or
-- not. It has not come to a row of which it only asks the state.
use Rattle.std.specs.Prelude.{ℕ, ◌≡◌, ◌≢◌, ◌⊎◌, ◌<◌, ◌≤◌, Some, None, List, length, slice_get, take}
use Rattle.kw_words.specs.declared.kind.Kind.TheVariants as kind
use Rattle.kw_words.specs.declared.layout.Name.{Name}
use Rattle.kw_words.specs.declared.layout.Name.TheVariants as name
use Rattle.kw_words.specs.declared.state.State.TheVariants as state
use Rattle.kw_words.specs.Plain.{pass_word}
use Rattle.kw_words.specs.State.{state_of, state_word}
use Rattle.kw_world.specs.declared.activity.Activity.{Activity}
use Rattle.kw_world.specs.declared.activity.rebalance.Rebalance.TheVariants as Rebalance
use Rattle.kw_world.specs.declared.activity.rebalance.replace.Replace.TheVariants as Replace
use Rattle.kw_world.specs.declared.activity.rebalance.seek.Seek.TheVariants as Seek
use Rattle.kw_world.specs.declared.event.Event.{Event}
use Rattle.kw_world.specs.declared.local.Local.{Local}
use Rattle.kw_world.specs.declared.opening.Opening.{Opening}
use Rattle.kw_world.specs.declared.operation.Action.TheVariants.{Add, Store}
use Rattle.kw_world.specs.declared.operation.Operation.{Operation}
use Rattle.kw_world.specs.Sizes.{Sizes}
use Rattle.kw_world.specs.Step.{word}
use Rattle.kw_world.specs.WorldView.{WorldView}
use Rattle.kw_core.specs.Events.{world}
use Rattle.kw_core.specs.Stages.{IsAtRow, IsBalancing}
use Rattle.kw_core.specs.Words.{next_in}
use Rattle.kw_shape.specs.Hands.{HasNext}
use Rattle.kw_shape.specs.Infants.{IsNursedRow}
use Rattle.kw_shape.specs.ReachedRows.{IsReached}
use Rattle.kw_shape.specs.Search.{IsSearching, HasReachedNext}
use Rattle.kw_shape.specs.Won.{IsNormalising}
use Rattle.kw_reads.specs.Contents.{HasRow, HasCandidate}
use Rattle.kw_laws.specs.Causes.{reclaiming}
use Rattle.kw_laws.specs.Live.{StoresPass}
use Rattle.kw_laws.specs.Mirror.{Acts, operation}

-- Visits and numbers, in the words of the events.

-- the seat ends its visit: it leaves, or tries again
abbrev pub IsEnding : Activity → Type 0
IsEnding (Activity.Leave answer) = Unit {0}
IsEnding Activity.Retry = Unit {0}
IsEnding _ = ⊥

-- at position x the seat ends its visit
pub record EndsVisit (z : Sizes) (o : Opening) (es : List Event) (x s : ℕ) : Type 0 where
  pub activity : Activity
  pub ends : IsEnding activity
  pub found : ℕ
  pub acts : Acts z o es x s activity (operation kind.ClearPass (name.Pass s) (Store (pass_word None))) found

-- the visit that the seat announced at position u is on after x events
pub record IsInVisit (z : Sizes) (o : Opening) (es : List Event) (s u x : ℕ) : Type 0 where
  pub begins : StoresPass z o es u s
  pub after : u < x
  pub within : x ≤ length es
  pub runs : (y : ℕ) → u < y → y < x → EndsVisit z o es y s → ⊥

-- at position x the seat draws this number
abbrev pub DrawsNumber : Sizes → Opening → List Event → ℕ → ℕ → ℕ → Type 0
DrawsNumber z o es x s number = Acts z o es x s (Activity.Rebalance (Rebalance.Replace Replace.Number)) (operation kind.Number name.Epoch (Add 1)) number

-- at position x the seat finds the row retired with this number, and gives it free
abbrev pub Reclaims : Sizes → Opening → List Event → ℕ → ℕ → ℕ → ℕ → Type 0
Reclaims z o es x s q number = Acts z o es x s (Activity.Rebalance (Rebalance.Seek Seek.Reclaim)) (reclaiming q number) (state_word (state.Retired number))

-- Rows that are reached.

-- the seat works on the row: on its walk or at its row, the row reached next, the row after its
-- own; its full row, the row that may go along with it, the row before that one, the row reached
-- behind that; and new rows that it has linked and makes normal
pub data IsNamed (a : Activity) (l : Local) (q : ℕ) : Type 0 where
  names_row : HasRow a → q ≡ l.row → IsNamed a l q
  names_candidate : HasCandidate a → q ≡ l.candidate → IsNamed a l q
  names_next : IsAtRow a → l.next ≡ Some q → IsNamed a l q
  names_full : IsBalancing a → q ≡ l.row → IsNamed a l q
  names_after : HasNext a → l.rebalance.after ≡ Some q → IsNamed a l q
  names_second : IsBalancing a → l.rebalance.second ≡ Some q → IsNamed a l q
  names_before : IsSearching a l → l.rebalance.before ≡ Some q → IsNamed a l q
  names_reached : HasReachedNext a → q ≡ l.candidate → IsNamed a l q
  names_new : IsNormalising a → (i : ℕ) → slice_get l.rebalance.taken i ≡ Some q → IsNamed a l q

-- after x events the seat t has come, in the visit that it announced at position u, to the row q
pub data HasComeTo (z : Sizes) (o : Opening) (es : List Event) (t u : ℕ) : ℕ → ℕ → Type 0 where
  is_named : (x q : ℕ) (l : Local) → u < x → x ≤ length es → slice_get (world z o (take x es)).locals t ≡ Some l → IsNamed l.activity l q → HasComeTo z o es t u x q
  is_led : (x y p q : ℕ) → HasComeTo z o es t u x p → x ≤ y → y ≤ length es → next_in (word z (world z o (take y es))) p ≡ Some q → HasComeTo z o es t u y q

-- the row is not free, nor one that another seat took and has not linked; and where it is retired,
-- its number is not below this epoch
pub record IsThere (z : Sizes) (w : WorldView) (q epoch : ℕ) : Type 0 where
  pub taken : state_of (word z w (name.State q)) ≢ Some state.Free
  pub linked : (s : ℕ) → state_of (word z w (name.State q)) ≡ Some (state.Infant s) → IsReached (word z w) q
  pub late : (n : ℕ) → state_of (word z w (name.State q)) ≡ Some (state.Retired n) → epoch ≤ n

-- the word is one of this row, but not its state
abbrev pub IsRowWord : Name → ℕ → Type 0
IsRowWord (name.Count r) q = q ≡ r
IsRowWord (name.Least r) q = q ≡ r
IsRowWord (name.Next r) q = q ≡ r
IsRowWord (name.First r) q = q ≡ r
IsRowWord (name.Pend r i) q = q ≡ r
IsRowWord (name.Key r j) q = q ≡ r
IsRowWord (name.Value r j) q = q ≡ r
IsRowWord (name.Version r j) q = q ≡ r
IsRowWord (name.After r j) q = q ≡ r
IsRowWord _ q = ⊥

-- after x events the row is an infant of the seat: one that it took, and has neither linked nor
-- given back
pub record IsOwnInfant (z : Sizes) (o : Opening) (es : List Event) (x t q : ℕ) : Type 0 where
  pub local : Local
  pub knows : slice_get (world z o (take x es)).locals t ≡ Some local
  pub nursed : IsNursedRow local.activity local q

-- after x events the seat is in a visit, and names the row, or the links of the rows that it has
-- come to in the visit lead to it
pub record HasReached (z : Sizes) (o : Opening) (es : List Event) (x t q : ℕ) : Type 0 where
  pub since : ℕ
  pub pass : IsInVisit z o es t since x
  pub reached : HasComeTo z o es t since x q

-- after x events the seat is in a visit, and has come to the row in it, now or before; it may name
-- the row no more
pub record HasBeenAt (z : Sizes) (o : Opening) (es : List Event) (x t q : ℕ) : Type 0 where
  pub since : ℕ
  pub pass : IsInVisit z o es t since x
  pub at : ℕ
  pub by : at ≤ x
  pub came : HasComeTo z o es t since at q

-- the seat can reach the row, or the row is an infant of it
abbrev pub IsWithinReach : Sizes → Opening → List Event → ℕ → ℕ → ℕ → Type 0
IsWithinReach z o es x t q = HasReached z o es x t q ⊎ IsOwnInfant z o es x t q

-- What every list keeps.
pub record KeepsRows (z : Sizes) (o : Opening) (es : List Event) : Type 0 where
  -- when a retired row is given free, each visit that is on was announced after the number of the
  -- row was drawn
  pub reclaims : (x s q number y d t u : ℕ) → Reclaims z o es x s q number → DrawsNumber z o es y d number → IsInVisit z o es t u x → y < u
  -- and no seat has come to the row in such a visit, be it that it names the row no more
  pub unreached : (x s q number t : ℕ) → Reclaims z o es x s q number → HasBeenAt z o es x t q → ⊥
  -- whatever a seat has reached in a visit that is on is there for it
  pub there : (t u x q : ℕ) (p : IsInVisit z o es t u (length es)) → HasComeTo z o es t u x q → IsThere z (world z o es) q p.begins.epoch
  -- the infants of a seat are its own
  pub infants : (t q : ℕ) → IsOwnInfant z o es (length es) t q → state_of (word z (world z o es) (name.State q)) ≡ Some (state.Infant t)
  -- no event touches a word, other than the state, of a row that its seat cannot reach
  pub touches : (x s found q : ℕ) (a : Activity) (op : Operation) → Acts z o es x s a op found → IsRowWord op.name q → IsWithinReach z o es x s q
