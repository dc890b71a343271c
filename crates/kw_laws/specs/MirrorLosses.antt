-- Which attempts the record says are lost, in the words of the events: those whose entry a seat
-- that rebalances froze while it was pending.
use Rattle.std.specs.Prelude.{ℕ, ◌≡◌, ◌<◌, ◌≤◌, true, List, length, take}
use Rattle.kw_words.specs.declared.kind.Kind.TheVariants as kind
use Rattle.kw_words.specs.declared.layout.Name.TheVariants as name
use Rattle.kw_words.specs.declared.pend.Pend.TheVariants as pend
use Rattle.kw_words.specs.Pend.{pend_word}
use Rattle.kw_world.specs.declared.activity.Activity.{Activity}
use Rattle.kw_world.specs.declared.activity.rebalance.freeze.Freeze.TheVariants as Freeze
use Rattle.kw_world.specs.declared.activity.rebalance.Rebalance.TheVariants as Rebalance
use Rattle.kw_world.specs.declared.event.Event.{Event}
use Rattle.kw_world.specs.declared.opening.Opening.{Opening}
use Rattle.kw_world.specs.declared.operation.Action.TheVariants.{Exchange}
use Rattle.kw_world.specs.declared.operation.Operation.{Operation}
use Rattle.kw_world.specs.Sizes.{Sizes}
use Rattle.kw_world.specs.Step.{word}
use Rattle.kw_core.specs.declared.history.Attempt.{Attempt}
use Rattle.kw_core.specs.Events.{world}
use Rattle.kw_core.specs.History.{History, attempt}
use Rattle.kw_laws.specs.Mirror.{Acts, operation}

-- the exchange that freezes the entry of a seat which has announced this cell
abbrev pub freezing : ℕ → ℕ → ℕ → Operation
freezing row seat cell = operation kind.FreezePend (name.Pend row seat) (Exchange (pend_word (pend.Pending cell)) (pend_word pend.Frozen))

-- at position x a seat freezes the entry of the attempt, and wins: since the attempt was announced
-- the entry was pending with its cell
pub record IsLostAt (z : Sizes) (o : Opening) (es : List Event) (q : Attempt) (x : ℕ) : Type 0 where
  pub seat : ℕ
  pub freezes : Acts z o es x seat (Activity.Rebalance (Rebalance.Freeze (Freeze.Entry q.seat))) (freezing q.row q.seat q.cell) (pend_word (pend.Pending q.cell))
  pub announced : q.is_announced ≡ true
  pub after : q.announced < x
  pub pending : (u : ℕ) → q.announced < u → u ≤ x → word z (world z o (take u es)) (name.Pend q.row q.seat) ≡ pend_word (pend.Pending q.cell)

-- the attempt that is lost here is in the record
pub record IsLossOf (z : Sizes) (o : Opening) (es : List Event) (h : History) (x : ℕ) : Type 0 where
  pub place : ℕ
  pub within : place < length h.attempts
  pub is_lost : (attempt h place).is_lost ≡ true
  pub lost : IsLostAt z o es (attempt h place) x

-- the record says of lost attempts what the events say
pub record MirrorsLosses (z : Sizes) (o : Opening) (es : List Event) (h : History) : Type 0 where
  -- an attempt that is lost was so at an event of the list
  pub lost : (p : ℕ) → p < length h.attempts → (attempt h p).is_lost ≡ true → (x : ℕ) × IsLostAt z o es (attempt h p) x
  -- no exchange that freezes a pending entry is left out
  pub all_lost : (x s row seat cell : ℕ) (a : Activity) → Acts z o es x s a (freezing row seat cell) (pend_word (pend.Pending cell)) → IsLossOf z o es h x
