-- How many puts and deletes were made and stamped in a row that leads. A put or a delete that finds
-- its row full makes it lead, and all cells of the row but those with which it was built were given
-- since. Each of these was given to an attempt, which is stamped, or which a seat is at work on.
--
-- A put that is done, and rebalances its row, makes it lead too, however few cells it has given. So
-- this holds as long as no put is offered that.
use Rattle.std.specs.Prelude.{ℕ, ◌≡◌, ◌+◌, ◌*◌, ◌≤◌, ◌&&◌, Bool, false, nat_le, Option, Some, None}
use Rattle.kw_words.specs.declared.layout.Name.TheVariants as name
use Rattle.kw_words.specs.declared.state.State.TheVariants.{Leader}
use Rattle.kw_words.specs.State.{state_of}
use Rattle.kw_lists.specs.Counts.{count_below}
use Rattle.kw_world.specs.declared.limits.TheConstants.{TIDY_SHARE}
use Rattle.kw_world.specs.Sizes.{Sizes}
use Rattle.kw_world.specs.Step.{word}
use Rattle.kw_world.specs.WorldView.{WorldView}
use Rattle.kw_core.specs.History.{History, attempt}
use Rattle.kw_core.specs.Run.{Run}
use Rattle.kw_shape.specs.ReachedRows.{IsReached}

-- the cell stands for an attempt that was made since this position, and is stamped
abbrev pub is_stamped_since : History → ℕ → Option ℕ → Bool
is_stamped_since h born (Some p) = nat_le born (attempt h p).add && (attempt h p).is_stamped
is_stamped_since h born None = false

-- the cell of a row stands for an attempt that was made in the row since it was linked, and is
-- stamped
abbrev pub is_own_stamped : Run → ℕ → ℕ → Bool
is_own_stamped r q c = is_stamped_since r.history (r.ledger.rows.fates q).born (r.origin q c)

-- how many cells do, of those with which a row is never built
abbrev pub share_of : Sizes → Run → ℕ → ℕ
share_of z r q = count_below z.cells (λ c. nat_le z.built c && is_own_stamped r q c)

-- all these cells do, but for one for each seat
abbrev pub HasShare : Sizes → Run → ℕ → Type 0
HasShare z r q = z.cells ≤ z.built + z.seats + share_of z r q

-- so many numbers of retired rows were drawn at most that the table has enough rows for each: no
-- put that is done is offered to rebalance its row
abbrev pub IsUntidied : Sizes → WorldView → Type 0
IsUntidied z w = TIDY_SHARE * word z w name.Epoch ≤ w.rows

-- what every valid list keeps: so it is in a row of the list that leads
pub record KeepsShares (z : Sizes) (r : Run) : Type 0 where
  pub shares : IsUntidied z r.world → (q count : ℕ) → IsReached (word z r.world) q → state_of (word z r.world (name.State q)) ≡ Some (Leader count) → HasShare z r q
