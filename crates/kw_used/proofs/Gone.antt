-- A seat gives its row up, or lets it be, only where that has gone from the list.
use Rattle.std.proofs.Common.{ℕ, ◌≡◌, Option, None, Some, sym, ◌∙◌, ap, subst, eq-eqb}
use Rattle.kw_words.specs.declared.layout.Name.TheVariants as name
use Rattle.kw_words.specs.declared.state.State.{State}
use Rattle.kw_words.specs.declared.state.State.TheVariants.{Follower, Free, Infant, Leader, Normal, Retired}
use Rattle.kw_words.specs.State.{state_of}
use Rattle.kw_rows.specs.Ledger.{IsLive, Ledger}
use Rattle.kw_rows.specs.Rows.{Rows}
use Rattle.kw_rows.specs.RowState.{IsClaimable, IsLed}
use Rattle.kw_rows.specs.States.{HasState, IsLiveState}
use Rattle.kw_world.specs.declared.activity.Activity.{Activity}
use Rattle.kw_world.specs.declared.activity.rebalance.Rebalance.TheVariants as Rebalance
use Rattle.kw_world.specs.declared.activity.rebalance.claim.Claim.{Claim}
use Rattle.kw_world.specs.declared.activity.rebalance.engage.Engage.{Engage}
use Rattle.kw_world.specs.declared.activity.rebalance.freeze.Freeze.{Freeze}
use Rattle.kw_world.specs.declared.activity.rebalance.left.Left.{Left}
use Rattle.kw_world.specs.declared.event.Choice.{Choice}
use Rattle.kw_world.specs.declared.local.Local.{Local}
use Rattle.kw_world.specs.ClaimTransitions.{claimed, row_after}
use Rattle.kw_world.specs.EngageTransitions.{counted, decided}
use Rattle.kw_world.specs.EngageTransitions as engage
use Rattle.kw_world.specs.Sizes.{Sizes}
use Rattle.kw_world.specs.Step.{word}
use Rattle.kw_core.specs.Run.{Run}
use Rattle.kw_core.proofs.Grouping.{counted_leads, next_counted}
use Rattle.kw_core.proofs.Happens.{Happens}
use Rattle.kw_shape.specs.RowsIn.{rows_in, state_seen}
use Rattle.kw_shape.specs.Shape.{Shape}
use Rattle.kw_shape.proofs.Engaging.{claims_there}
use Rattle.kw_shape.proofs.LinkedRows.{balance_at}
use Rattle.kw_laws.specs.Laws.{IsStated}

-- the seat does not try again
abbrev GoesOn : Activity → Type 0
GoesOn a = a ≡ Activity.Retry → ⊥

engage_goes : (e : Engage) → GoesOn (Activity.Rebalance (Rebalance.Engage e))
engage_goes e q = let x : Activity.Rebalance (Rebalance.Engage e) ≡ Activity.Retry = q in cc

claim_goes : (e : Claim) → GoesOn (Activity.Rebalance (Rebalance.Claim e))
claim_goes e q = let x : Activity.Rebalance (Rebalance.Claim e) ≡ Activity.Retry = q in cc

freeze_goes : (e : Freeze) → GoesOn (Activity.Rebalance (Rebalance.Freeze e))
freeze_goes e q = let x : Activity.Rebalance (Rebalance.Freeze e) ≡ Activity.Retry = q in cc

left_goes : (e : Left) → GoesOn (Activity.Rebalance (Rebalance.Left e))
left_goes e q = let x : Activity.Rebalance (Rebalance.Left e) ≡ Activity.Retry = q in cc

-- at a row of the list it goes on, whose state is seen
state_goes : (w : Rows) (g : Ledger) (q : ℕ) (x : Option State) (l : Local) → IsLiveState w g q (state_seen x) → GoesOn (engage.state_seen x l).local.activity
state_goes w g q (Some Free) l h = absurd h
state_goes w g q (Some (Infant seat)) l h = engage_goes _
state_goes w g q (Some Normal) l h = engage_goes _
state_goes w g q (Some (Leader count)) l h = engage_goes _
state_goes w g q (Some (Follower leader)) l h = left_goes _
state_goes w g q (Some (Retired number)) l h = absurd h
state_goes w g q None l h = absurd h

counted_goes : (count : ℕ) (l : Local) → GoesOn (counted count l).local.activity
counted_goes count l = counted_leads GoesOn (claim_goes _) (freeze_goes _) count l _ (next_counted count l)

-- or where it decides
decided_goes : (w : Rows) (g : Ledger) (q count : ℕ) (x : Option State) (l : Local) → IsLiveState w g q (state_seen x) → IsLed 0 (state_seen x) → GoesOn (decided count x l).local.activity
decided_goes w g q count (Some Free) l h k = absurd h
decided_goes w g q count (Some (Infant seat)) l h k = absurd k
decided_goes w g q count (Some Normal) l h k = absurd k
decided_goes w g q count (Some (Leader found)) l h k = counted_goes _ l
decided_goes w g q count (Some (Follower leader)) l h k = absurd k
decided_goes w g q count (Some (Retired number)) l h k = absurd h
decided_goes w g q count None l h k = absurd h

-- or takes the next row along
claimed_goes : (x : Option State) (l : Local) → IsClaimable l.row (state_seen x) → GoesOn (claimed x l).local.activity
claimed_goes (Some Free) l h = absurd h
claimed_goes (Some (Infant seat)) l h = claim_goes _
claimed_goes (Some Normal) l h = claim_goes _
claimed_goes (Some (Leader count)) l h = freeze_goes _
claimed_goes (Some (Follower leader)) l h = rw (eq-eqb leader l.row h) (claim_goes _)
claimed_goes (Some (Retired number)) l h = absurd h
claimed_goes None l h = absurd h

-- the state of a row of the list
live_state : (z : Sizes) (r : Run) (q : ℕ) → Shape z r → IsLive r.ledger.rows q → IsLiveState (rows_in (word z r.world)) r.ledger.rows q ((rows_in (word z r.world)).state q)
live_state z r q i live = subst (HasState (rows_in (word z r.world)) r.ledger.rows q) live (i.rows.states q)

module _ {z : Sizes} {r r' : Run} {s : ℕ} {choice : Choice} {l l' : Local} where
  -- a seat that tries again where it looks at a state has lost its row
  pub gone_by : (a : Activity) → Happens z r r' s choice l l' a → Shape z r → IsStated a → l'.activity ≡ Activity.Retry → IsLive r.ledger.rows l.row → ⊥
  gone_by (Activity.Rebalance (Rebalance.Engage Engage.State)) h i x q live = state_goes (rows_in (word z r.world)) r.ledger.rows l.row (state_of (word z r.world (name.State l.row))) l (live_state z r l.row i live) (ap (λ (k : Local). k.activity) (sym h.next) ∙ q)
  gone_by (Activity.Rebalance (Rebalance.Engage (Engage.Decide count))) h i x q live = decided_goes (rows_in (word z r.world)) r.ledger.rows l.row count (state_of (word z r.world (name.State l.row))) l (live_state z r l.row i live) (balance_at (Activity.Rebalance (Rebalance.Engage (Engage.Decide count))) h i).group.1 (ap (λ (k : Local). k.activity) (sym h.next) ∙ q)
  gone_by (Activity.Rebalance (Rebalance.Claim Claim.Exchange)) h i x q live =
      let g = claims_there (Activity.Rebalance (Rebalance.Claim Claim.Exchange)) h i tt (balance_at (Activity.Rebalance (Rebalance.Claim Claim.Exchange)) h i).group in
      claimed_goes (state_of (word z r.world (name.State (row_after l)))) l (g.2 live) (ap (λ (k : Local). k.activity) (sym h.next) ∙ q)
  gone_by _ h i x q live = absurd x
