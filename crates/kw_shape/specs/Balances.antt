-- What a seat knows of the rows that it rebalances: it may name the full row and knows its least
-- key, and it knows how far its group is, in the words of the laws of rows (`kw_rows`).
--
-- A rebalance replaces a full row, alone or together with the row after it. Once that is decided,
-- what the seat knows of the group stays so whatever others do, also when somebody else has
-- replaced it.
use Rattle.std.specs.Prelude.{ℕ, ◌≡◌, ◌≢◌, true, Option, Some, None}
use Rattle.kw_world.specs.declared.activity.Activity.{Activity}
use Rattle.kw_world.specs.declared.activity.rebalance.claim.Claim.TheVariants as Claim
use Rattle.kw_world.specs.declared.activity.rebalance.engage.Engage.TheVariants as Engage
use Rattle.kw_world.specs.declared.activity.rebalance.Rebalance.TheVariants as Rebalance
use Rattle.kw_world.specs.declared.activity.rebalance.replace.Replace.TheVariants as Replace
use Rattle.kw_world.specs.declared.local.Local.{Local}
use Rattle.kw_core.specs.Stages.{IsBalancing}
use Rattle.kw_core.specs.Words.{Words, least_in}
use Rattle.kw_rows.specs.Ledger.{Ledger, IsFresh}
use Rattle.kw_rows.specs.Group.{View, Elsewhere, Marking, Opened, Claiming, MarkingNext, Alone, Pair, Following, Group}
use Rattle.kw_shape.specs.Hands.{Hand, HasFrozen, HasHand, HasNext, IsBeforeGroup}
use Rattle.kw_shape.specs.RowsIn.{rows_in}

-- the row after the full one is taken along
abbrev pub claiming : ℕ → Option ℕ → View
claiming r (Some c) = Claiming r c
claiming r None = Elsewhere

-- its link is marked
abbrev pub marking_next : ℕ → Option ℕ → View
marking_next r (Some c) = MarkingNext r c
marking_next r None = Elsewhere

-- the group is the full row, or that and a second one
abbrev pub led : ℕ → Option ℕ → Option ℕ → View
led r None after = Alone r after
led r (Some c) after = Pair r c after

-- how far the seat is with its group: it marks the full row's link; it knows the row after it, and
-- decides; it takes that row along; it is decided, until the group is replaced by this seat or the
-- seat gives up
abbrev pub view_of : Activity → Local → View
view_of (Activity.Rebalance (Rebalance.Engage (Engage.MarkLink count))) l = Marking l.row count
view_of (Activity.Rebalance (Rebalance.Engage (Engage.Decide count))) l = Opened l.row l.rebalance.after
view_of (Activity.Rebalance (Rebalance.Claim Claim.Count)) l = Opened l.row l.rebalance.after
view_of (Activity.Rebalance (Rebalance.Claim Claim.Exchange)) l = claiming l.row l.rebalance.after
view_of (Activity.Rebalance (Rebalance.Claim (Claim.Normal seat))) l = claiming l.row l.rebalance.after
view_of (Activity.Rebalance (Rebalance.Claim Claim.MarkLink)) l = marking_next l.row l.rebalance.after
view_of (Activity.Rebalance (Rebalance.Left _)) l = Following l.row
view_of (Activity.Rebalance (Rebalance.Freeze _)) l = led l.row l.rebalance.second l.rebalance.after
view_of (Activity.Rebalance (Rebalance.Gather _)) l = led l.row l.rebalance.second l.rebalance.after
view_of (Activity.Rebalance (Rebalance.Seek _)) l = led l.row l.rebalance.second l.rebalance.after
view_of (Activity.Rebalance (Rebalance.Write _)) l = led l.row l.rebalance.second l.rebalance.after
view_of (Activity.Rebalance (Rebalance.Replace Replace.Start)) l = led l.row l.rebalance.second l.rebalance.after
view_of (Activity.Rebalance (Rebalance.Replace Replace.GuessedLeast)) l = led l.row l.rebalance.second l.rebalance.after
view_of (Activity.Rebalance (Rebalance.Replace Replace.First)) l = led l.row l.rebalance.second l.rebalance.after
view_of (Activity.Rebalance (Rebalance.Replace Replace.Next)) l = led l.row l.rebalance.second l.rebalance.after
view_of (Activity.Rebalance (Rebalance.Replace Replace.NextLeast)) l = led l.row l.rebalance.second l.rebalance.after
view_of (Activity.Rebalance (Rebalance.Replace Replace.Exchange)) l = led l.row l.rebalance.second l.rebalance.after
view_of _ l = Elsewhere

-- what a seat that rebalances knows of its rows: the full one is fresh, and its least key known;
-- its group is as far as that, and its second row is fresh too, and another one; there is a row to
-- be taken along, and as long as that is not, no second one; which row is at hand; and the rows
-- that it has frozen are
pub record Balances (v : Words) (g : Ledger) (t : ℕ) (a : Activity) (l : Local) : Type 0 where
  pub fresh : IsBalancing a → IsFresh g t l.row
  pub lower : IsBalancing a → l.lower ≡ least_in v l.row
  pub group : Group (rows_in v) g (view_of a l)
  pub along : (q : ℕ) → IsBalancing a → l.rebalance.second ≡ Some q → IsFresh g t q
  pub apart : IsBalancing a → l.rebalance.second ≢ Some l.row
  pub next : HasNext a → (c : ℕ) × (l.rebalance.after ≡ Some c)
  pub early : IsBeforeGroup a → l.rebalance.second ≡ None
  pub hands : HasHand a → Hand l
  pub frozen : (q : ℕ) → HasFrozen a l q → (rows_in v).frozen q ≡ true
