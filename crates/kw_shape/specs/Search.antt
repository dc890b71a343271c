-- What a seat knows of the row before its full one, while it seeks that row and until it exchanges
-- the link there; or until it is at that row, where its own one is a follower.
--
-- The walk to it goes along rows whose least keys are below that of the full row. Where that is not
-- so, the full row is the first of the list, or was and is in it no more: a row of least key 0 has
-- none before it.
use Rattle.std.specs.Prelude.{ℕ, ◌≡◌, ◌⊎◌, ◌<◌, Some}
use Rattle.kw_rows.specs.Ledger.{Ledger, IsDead, IsFresh}
use Rattle.kw_world.specs.declared.activity.Activity.{Activity}
use Rattle.kw_world.specs.declared.activity.rebalance.Rebalance.TheVariants as Rebalance
use Rattle.kw_world.specs.declared.activity.rebalance.left.Left.TheVariants as Left
use Rattle.kw_world.specs.declared.activity.rebalance.replace.Replace.TheVariants as Replace
use Rattle.kw_world.specs.declared.activity.rebalance.seek.Seek.TheVariants as Seek
use Rattle.kw_world.specs.declared.local.Local.{Local}
use Rattle.kw_world.specs.declared.rebalance.Afterwards.TheVariants.{MoveLeft}
use Rattle.kw_core.specs.Words.{Words, least_in}

-- the seat knows a row before its own, if it knows one: on its walk and at its end, and where it is
-- about to move there
abbrev pub IsSearching : Activity → Local → Type 0
IsSearching (Activity.Rebalance (Rebalance.Replace Replace.GuessedLeast)) l = Unit {0}
IsSearching (Activity.Rebalance (Rebalance.Replace Replace.Next)) l = Unit {0}
IsSearching (Activity.Rebalance (Rebalance.Replace Replace.NextLeast)) l = Unit {0}
IsSearching (Activity.Rebalance (Rebalance.Replace Replace.Exchange)) l = Unit {0}
IsSearching (Activity.Rebalance (Rebalance.Left _)) l = Unit {0}
IsSearching (Activity.Rebalance (Rebalance.Seek Seek.GiveBack)) l = l.rebalance.afterwards ≡ MoveLeft
IsSearching _ l = ⊥

-- and its least key
abbrev pub IsMeasured : Activity → Local → Type 0
IsMeasured (Activity.Rebalance (Rebalance.Replace Replace.Next)) l = Unit {0}
IsMeasured (Activity.Rebalance (Rebalance.Replace Replace.NextLeast)) l = Unit {0}
IsMeasured (Activity.Rebalance (Rebalance.Replace Replace.Exchange)) l = Unit {0}
IsMeasured (Activity.Rebalance (Rebalance.Left Left.Next)) l = Unit {0}
IsMeasured (Activity.Rebalance (Rebalance.Left Left.NextLeast)) l = Unit {0}
IsMeasured (Activity.Rebalance (Rebalance.Seek Seek.GiveBack)) l = l.rebalance.afterwards ≡ MoveLeft
IsMeasured _ l = ⊥

-- it knows one: only the walk's end may find that there is none before the full row, which is the
-- first then
abbrev pub HasBefore : Activity → Local → Type 0
HasBefore (Activity.Rebalance (Rebalance.Replace Replace.GuessedLeast)) l = Unit {0}
HasBefore (Activity.Rebalance (Rebalance.Replace Replace.Next)) l = Unit {0}
HasBefore (Activity.Rebalance (Rebalance.Replace Replace.NextLeast)) l = Unit {0}
HasBefore (Activity.Rebalance (Rebalance.Left _)) l = Unit {0}
HasBefore (Activity.Rebalance (Rebalance.Seek Seek.GiveBack)) l = l.rebalance.afterwards ≡ MoveLeft
HasBefore _ l = ⊥

-- it has reached a row behind that one
abbrev pub HasReachedNext : Activity → Type 0
HasReachedNext (Activity.Rebalance (Rebalance.Replace Replace.NextLeast)) = Unit {0}
HasReachedNext (Activity.Rebalance (Rebalance.Left Left.NextLeast)) = Unit {0}
HasReachedNext _ = ⊥

-- the row is before the full one: its least key is below that one's, or the full row is dead and
-- its least key is 0
abbrev pub IsLeft : Words → Ledger → Local → ℕ → Type 0
IsLeft v g l p = (least_in v p < l.lower) ⊎ IsDead g l.row × (l.lower ≡ 0)

-- the seat may name the row, knows its least key, and it is before the full one; the seat may name
-- the row that it has reached behind it
pub record Search (v : Words) (g : Ledger) (t : ℕ) (a : Activity) (l : Local) : Type 0 where
  pub some : HasBefore a l → (p : ℕ) × (l.rebalance.before ≡ Some p)
  pub fresh : (p : ℕ) → IsSearching a l → l.rebalance.before ≡ Some p → IsFresh g t p
  pub least : (p : ℕ) → IsMeasured a l → l.rebalance.before ≡ Some p → l.rebalance.least ≡ least_in v p
  pub left : (p : ℕ) → IsMeasured a l → l.rebalance.before ≡ Some p → IsLeft v g l p
  pub saw : HasReachedNext a → IsFresh g t l.candidate
