-- A seat that has found the leader of its row, which is in the list, is at the row before that.
use Rattle.std.proofs.Common.{ℕ, ◌≡◌, ◌⊎◌, inl, inr, ◌<◌, ◌≤◌, Some, arith, refl, sym, ◌∙◌, ap, subst, slice_get, length}
use Rattle.std.proofs.lemmas.Bool.{cases_lt}
use Rattle.std.proofs.lemmas.Option.{same_Some}
use Rattle.kw_rows.specs.Ledger.{Dead, IsDead, IsFresh, IsHeld, IsLive, Ledger, Live}
use Rattle.kw_rows.specs.RowState as row
use Rattle.kw_rows.specs.RowState.{IsFollowing, State}
use Rattle.kw_rows.specs.Rows.{HoldsKey, Rows, bound}
use Rattle.kw_rows.specs.States.{HasLeader, HasState, IsLiveState}
use Rattle.kw_rows.specs.Structure.{Structure}
use Rattle.kw_rows.proofs.Named.{held_by}
use Rattle.kw_world.specs.declared.activity.Activity.{Activity}
use Rattle.kw_world.specs.declared.activity.rebalance.Rebalance.TheVariants as Rebalance
use Rattle.kw_world.specs.declared.activity.rebalance.left.Left.TheVariants as Left
use Rattle.kw_world.specs.declared.local.Local.{Local}
use Rattle.kw_world.specs.Sizes.{Sizes}
use Rattle.kw_world.specs.Step.{word}
use Rattle.kw_world.specs.Transition.{row_or_first}
use Rattle.kw_core.specs.Run.{Run}
use Rattle.kw_core.specs.Words.{Words, least_in, next_in}
use Rattle.kw_shape.specs.Balances.{Balances}
use Rattle.kw_shape.specs.RowsIn.{rows_in}
use Rattle.kw_shape.specs.Search.{Search}
use Rattle.kw_shape.specs.Shape.{Shape}
use Rattle.kw_shape.proofs.Comings.{IsGoingLeft}
use Rattle.kw_used.proofs.Facts.{GoesLeft, IsSince, IsWalkingLeft, is_at}

-- a row of the list that follows some row has a leader
pub leader_of : (w : Rows) (g : Ledger) (q : ℕ) (x : State) → IsLiveState w g q x → IsFollowing x → (p : ℕ) × (x ≡ row.Follower p) × HasLeader w g q p
leader_of w g q (row.Follower p) h f = (p, refl, h)
leader_of w g q (row.Retired m) h f = absurd h
leader_of w g q row.Free h f = absurd f
leader_of w g q (row.Infant s) h f = absurd f
leader_of w g q row.Normal h f = absurd f
leader_of w g q (row.Leader m) h f = absurd f

module _ (w : Rows) (g : Ledger) (now : ℕ) (s : Structure w g now) where
  -- a row that leads to q holds the keys from its least one up to that of q
  holds : (q x key : ℕ) → IsHeld g x → w.next x ≡ Some q → w.least x ≤ key → key < w.least q → HoldsKey w g x key
  holds q x key held next from below = record { from = from; below = λ u e. omega (arith, below, same_Some (w.least q) u (ap (bound w) (sym next) ∙ sym (s.closed.upper x held) ∙ e)) }

  -- two rows lead to the same one, of which the first is in the list; and if the second is not, it
  -- went after the first had come. So it is
  since_lives : (t q p b : ℕ) → IsLive g p → w.next p ≡ Some q → IsFresh g t b → w.next b ≡ Some q → IsSince g p b → IsLive g b
  since_lives t q p b live led fresh next (inl x) = x
  since_lives t q p b live led fresh next (inr x) = absurd (common (cases_lt (w.least p) (w.least b)))
    where
      held : IsHeld g b
      held = held_by g t b fresh

      rises_b : w.least b < w.least q
      rises_b = s.closed.rises b q held next

      rises_p : w.least p < w.least q
      rises_p = s.closed.rises p q (inl live) led

      apart : b ≡ p → ⊥
      apart e = let y : Live ≡ Dead = sym live ∙ subst (IsDead g) e x.0 in cc

      which : ((g.fates b).gone < (g.fates p).born) ⊎ IsDead g p × ((g.fates p).gone < (g.fates b).born) → ⊥
      which (inl o) = omega (arith, o, x.1)
      which (inr o) = let y : Live ≡ Dead = sym live ∙ o.0 in cc

      common : (w.least p < w.least b) ⊎ (w.least b ≤ w.least p) → ⊥
      common (inl o) = which (s.follows b p (w.least b) x.0 (inl live) (holds q b (w.least b) held next (omega arith) rises_b) (holds q p (w.least b) (inl live) led (omega (arith, o)) rises_b) apart)
      common (inr o) = which (s.follows b p (w.least p) x.0 (inl live) (holds q b (w.least p) held next o rises_p) (holds q p (w.least p) (inl live) led (omega arith) rises_p) apart)

-- the seat has found its row a follower
pub following : (v : Words) (g : Ledger) (t : ℕ) (b : Activity) (l : Local) → IsGoingLeft b → Balances v g t b l → IsFollowing ((rows_in v).state l.row)
following v g t (Activity.Rebalance (Rebalance.Left _)) l x k = k.group
following v g t _ l x k = absurd x

pub led_by_left : (z : Sizes) (r : Run) (t : ℕ) (l : Local) → slice_get r.world.locals t ≡ Some l → Shape z r → GoesLeft z r → IsGoingLeft l.activity →
    (l.activity ≡ Activity.Rebalance (Rebalance.Left Left.Start)) ⊎ (l.activity ≡ Activity.Rebalance (Rebalance.Left Left.Next)) × (next_in (word z r.world) (row_or_first l.rebalance.before) ≡ Some l.row) →
    IsLive r.ledger.rows l.row → IsLive r.ledger.rows (row_or_first l.rebalance.before) × (least_in (word z r.world) (row_or_first l.rebalance.before) < least_in (word z r.world) l.row)
led_by_left z r t l k i left x e live = which e
  where
    w : Rows
    w = rows_in (word z r.world)

    leader : (p : ℕ) × (w.state l.row ≡ row.Follower p) × HasLeader w r.ledger.rows l.row p
    leader = leader_of w r.ledger.rows l.row (w.state l.row) (subst (HasState w r.ledger.rows l.row) live (i.rows.states l.row)) (following (word z r.world) r.ledger.rows t l.activity l x (i.balances t l k))

    Before : ℕ → Type 0
    Before q = IsLive r.ledger.rows q × (least_in (word z r.world) q < least_in (word z r.world) l.row)

    which : (l.activity ≡ Activity.Rebalance (Rebalance.Left Left.Start)) ⊎ (l.activity ≡ Activity.Rebalance (Rebalance.Left Left.Next)) × (next_in (word z r.world) (row_or_first l.rebalance.before) ≡ Some l.row) → Before (row_or_first l.rebalance.before)
    which (inl q) =
        let b = left.told t l k q live leader.0 leader.1 in
        subst Before (sym (ap row_or_first b)) (leader.2.live, i.rows.chain.rises leader.0 l.row leader.2.live leader.2.link.next)
    which (inr q) = subst Before (sym (ap row_or_first b.1)) (lives, i.rows.chain.rises b.0 l.row lives next)
      where
        search : Search (word z r.world) r.ledger.rows t (Activity.Rebalance (Rebalance.Left Left.Next)) l
        search = subst (λ y. Search (word z r.world) r.ledger.rows t y l) q.0 (i.search t l k)

        b : (b : ℕ) × (l.rebalance.before ≡ Some b)
        b = search.some tt

        next : w.next b.0 ≡ Some l.row
        next = subst (λ y. next_in (word z r.world) (row_or_first y) ≡ Some l.row) b.1 q.1

        lives : IsLive r.ledger.rows b.0
        lives = since_lives w r.ledger.rows (length r.history.log) i.rows t l.row leader.0 b.0 leader.2.live leader.2.link.next (search.fresh b.0 tt b.1) next (left.names t l k (subst IsWalkingLeft (sym q.0) tt) live leader.0 leader.1 b.0 (is_at b.1))
