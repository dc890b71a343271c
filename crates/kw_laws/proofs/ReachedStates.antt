-- The state of the row that a seat is about to rebalance, or to take along. The structure says what
-- the state of a row may be that a seat may name, and the seat's group what more it knows of its
-- own rows: that leaves the states of `IsReachedState`. And a row that was found a follower is not
-- the first of the list.
use Rattle.std.proofs.Common.{ℕ, ◌≡◌, inl, inr, Option, Some, None, sym, ap, subst, slice_get, length}
use Rattle.kw_words.specs.declared.layout.Name.TheVariants as name
use Rattle.kw_words.specs.declared.state.State.{State}
use Rattle.kw_words.specs.declared.state.State.TheVariants.{Free, Infant, Normal, Leader, Follower, Retired}
use Rattle.kw_words.specs.Link.{link_of}
use Rattle.kw_words.specs.State.{state_of}
use Rattle.kw_rows.specs.Group.{Claiming, Group}
use Rattle.kw_rows.specs.Ledger as rows
use Rattle.kw_rows.specs.RowState.{IsClaimable, IsClaimed, IsLed}
use Rattle.kw_rows.specs.States.{HasState, IsDeadState, IsLiveState}
use Rattle.kw_rows.proofs.Views.{not_first}
use Rattle.kw_world.specs.declared.activity.Activity.{Activity}
use Rattle.kw_world.specs.declared.activity.rebalance.claim.Claim.TheVariants as Claim
use Rattle.kw_world.specs.declared.activity.rebalance.engage.Engage.TheVariants as Engage
use Rattle.kw_world.specs.declared.activity.rebalance.left.Left.TheVariants as Left
use Rattle.kw_world.specs.declared.activity.rebalance.Rebalance.TheVariants as Rebalance
use Rattle.kw_world.specs.declared.local.Local.{Local}
use Rattle.kw_world.specs.ClaimTransitions.{row_after}
use Rattle.kw_world.specs.Sizes.{Sizes}
use Rattle.kw_world.specs.Step.{word}
use Rattle.kw_world.specs.Transition.{row_linked, row_or_first}
use Rattle.kw_core.specs.Run.{Run}
use Rattle.kw_shape.specs.Balances.{Balances, claiming}
use Rattle.kw_shape.specs.RowsIn.{rows_in, state_seen}
use Rattle.kw_shape.specs.Shape.{Shape}
use Rattle.kw_laws.specs.Laws.{IsStated, IsReachedState, stated_row}

-- the row leads a group, or has led one
led_state : (count : ℕ) (l : Local) (c : Option State) → IsLed 0 (state_seen c) → IsReachedState (Activity.Rebalance (Rebalance.Engage (Engage.Decide count))) l c
led_state count l (Some Free) h = absurd h
led_state count l (Some (Infant seat)) h = absurd h
led_state count l (Some Normal) h = absurd h
led_state count l (Some (Leader n)) h = tt
led_state count l (Some (Follower leader)) h = absurd h
led_state count l (Some (Retired number)) h = tt
led_state count l None h = absurd h

-- the row after a leader of two, as long as that one is in the list
claimable_state : (l : Local) (c : Option State) → IsClaimable l.row (state_seen c) → IsReachedState (Activity.Rebalance (Rebalance.Claim Claim.Exchange)) l c
claimable_state l (Some Free) h = absurd h
claimable_state l (Some (Infant seat)) h = tt
claimable_state l (Some Normal) h = tt
claimable_state l (Some (Leader n)) h = tt
claimable_state l (Some (Follower leader)) h = h
claimable_state l (Some (Retired number)) h = absurd h
claimable_state l None h = absurd h

-- and once that one is gone
claimed_state : (l : Local) (c : Option State) → IsClaimed l.row (state_seen c) → IsReachedState (Activity.Rebalance (Rebalance.Claim Claim.Exchange)) l c
claimed_state l (Some Free) h = absurd h
claimed_state l (Some (Infant seat)) h = absurd h
claimed_state l (Some Normal) h = absurd h
claimed_state l (Some (Leader n)) h = tt
claimed_state l (Some (Follower leader)) h = h
claimed_state l (Some (Retired number)) h = tt
claimed_state l None h = absurd h

module _ (z : Sizes) (r : Run) (i : Shape z r) (t : ℕ) (l : Local) where
  -- a row of the list
  live_state : (c : Option State) → IsLiveState (rows_in (word z r.world)) r.ledger.rows l.row (state_seen c) → IsReachedState (Activity.Rebalance (Rebalance.Engage Engage.State)) l c
  live_state (Some Free) h = absurd h
  live_state (Some (Infant seat)) h = tt
  live_state (Some Normal) h = tt
  live_state (Some (Leader count)) h = tt
  live_state (Some (Follower leader)) h = tt
  live_state (Some (Retired number)) h = tt
  live_state None h = absurd h

  -- a row that was in it
  dead_state : (c : Option State) → IsDeadState r.ledger.rows l.row (state_seen c) → IsReachedState (Activity.Rebalance (Rebalance.Engage Engage.State)) l c
  dead_state (Some Free) h = absurd h
  dead_state (Some (Infant seat)) h = tt
  dead_state (Some Normal) h = tt
  dead_state (Some (Leader count)) h = tt
  dead_state (Some (Follower leader)) h = tt
  dead_state (Some (Retired number)) h = tt
  dead_state None h = absurd h

  -- so a row that a seat may name
  fresh_state : rows.IsFresh r.ledger.rows t l.row → IsReachedState (Activity.Rebalance (Rebalance.Engage Engage.State)) l (state_of (word z r.world (name.State l.row)))
  fresh_state (inl a) = live_state _ (subst (HasState (rows_in (word z r.world)) r.ledger.rows l.row) a (i.rows.states l.row))
  fresh_state (inr a) = dead_state _ (subst (HasState (rows_in (word z r.world)) r.ledger.rows l.row) a.dead (i.rows.states l.row))

  -- the row that is to go along, by what the seat knows of both
  next_state : rows.IsFresh r.ledger.rows t l.row → Group (rows_in (word z r.world)) r.ledger.rows (Claiming l.row (row_after l)) → IsReachedState (Activity.Rebalance (Rebalance.Claim Claim.Exchange)) l (state_of (word z r.world (name.State (row_after l))))
  next_state (inl a) g = claimable_state l _ (g.2 a)
  next_state (inr a) g = claimed_state l _ (g.3 a.dead)

  -- there is one
  claims_next : Balances (word z r.world) r.ledger.rows t (Activity.Rebalance (Rebalance.Claim Claim.Exchange)) l → Group (rows_in (word z r.world)) r.ledger.rows (Claiming l.row (row_after l))
  claims_next b =
      let n = b.next tt in
      subst (λ c. Group (rows_in (word z r.world)) r.ledger.rows (Claiming l.row c)) (sym (ap row_or_first n.1)) (subst (λ o. Group (rows_in (word z r.world)) r.ledger.rows (claiming l.row o)) n.1 b.group)

  -- whatever row the seat looks at
  reached_state : (a : Activity) → IsStated a → Balances (word z r.world) r.ledger.rows t a l → IsReachedState a l (state_of (word z r.world (name.State (stated_row a l))))
  reached_state (Activity.Rebalance (Rebalance.Engage Engage.State)) y b = fresh_state (b.fresh tt)
  reached_state (Activity.Rebalance (Rebalance.Engage (Engage.Decide count))) y b = led_state count l _ b.group.1
  reached_state (Activity.Rebalance (Rebalance.Claim Claim.Exchange)) y b = next_state (b.fresh tt) (claims_next b)
  reached_state _ y b = absurd y

module _ (z : Sizes) (r : Run) (i : Shape z r) where
  -- a seat that is to rebalance a row, or to take it along, finds it in such a state
  pub stated_by : (t : ℕ) (l : Local) → slice_get r.world.locals t ≡ Some l → IsStated l.activity → IsReachedState l.activity l (state_of (word z r.world (name.State (stated_row l.activity l))))
  stated_by t l g x = reached_state z r i t l l.activity x (i.balances t l g)

  -- a follower is not the first row
  pub first_leads_by : (t : ℕ) (l : Local) → slice_get r.world.locals t ≡ Some l → l.activity ≡ Activity.Rebalance (Rebalance.Left Left.Start) → row_linked (link_of (word z r.world name.Head)) ≡ Some l.row → ⊥
  first_leads_by t l g a e =
      let b = subst (λ c. Balances (word z r.world) r.ledger.rows t c l) a (i.balances t l g) in
      not_first (rows_in (word z r.world)) r.ledger.rows (length r.history.log) i.rows l.row b.group e
