-- The links of rows that lead: a row that a follower names, or whose link leads to one, has a
-- marked link, and so has each row that is frozen.
use Rattle.std.proofs.Common.{ℕ, ◌≡◌, ◌⊎◌, inl, inr, true, Some, arith, sym, ◌∙◌, ap, subst}
use Rattle.std.proofs.lemmas.Option.{same_Some}
use Rattle.kw_rows.specs.Group.{WentWith}
use Rattle.kw_rows.specs.Ledger.{IsFresh, IsLive, Ledger}
use Rattle.kw_rows.specs.RowState.{Follower, Free, Infant, IsEngaged, IsFollowing, Leader, Normal, Retired, State}
use Rattle.kw_rows.specs.Rows.{IsBefore, Rows, WasLinked}
use Rattle.kw_rows.specs.States.{HasLeader, IsDeadState, IsLiveState}
use Rattle.kw_rows.specs.Structure.{Structure}
use Rattle.kw_rows.proofs.Framed.{dead_state}
use Rattle.kw_rows.proofs.Sets.{live_state}
use Rattle.kw_full.specs.Full.{IsUnled}

module _ (w : Rows) (g : Ledger) (now : ℕ) (i : Structure w g now) where
  -- a frozen row
  pub frozen_marked : (q : ℕ) → WasLinked g q → w.frozen q ≡ true → w.marked q ≡ true
  frozen_marked q (inl a) f = ((i.marks q).frozen a f).0
  frozen_marked q (inr d) f = ((i.marks q).buried d).0

  -- the row that a follower names
  pub leader_marked : (t q p : ℕ) → IsFresh g t q → w.state q ≡ Follower p → w.marked p ≡ true
  leader_marked t q p (inl a) e =
      let x : HasLeader w g q p = subst (IsLiveState w g q) e (live_state w g q i.states a) in
      x.link.marked
  leader_marked t q p (inr d) e =
      let x : WentWith g q p = (i.pairs q).together p (inr (t, d)) d.dead e in
      ((i.marks p).buried x.0).0

  -- of two rows of the list one alone leads to a row
  one_before : (p b q : ℕ) → IsLive g p → IsLive g b → w.next p ≡ Some q → w.next b ≡ Some q → p ≡ b
  one_before p b q x y e f = which (i.chain.apart p b x y)
    where
      -- a row that stands after one of them would stand before that one
      not : (m n : ℕ) → IsLive g n → w.next m ≡ Some q → w.next n ≡ Some q → IsBefore w m n → p ≡ b
      not m n live c d k =
          let same : k.next ≡ q = same_Some k.next q (sym k.follows ∙ c) in
          absurd (omega (arith, k.above, ap w.least same, i.chain.rises n q live d))

      which : (p ≡ b) ⊎ IsBefore w p b ⊎ IsBefore w b p → p ≡ b
      which (inl c) = c
      which (inr (inl k)) = not p b y e f k
      which (inr (inr k)) = not b p x f e k

  -- the row that leads to a follower
  pub before_marked : (t u b q : ℕ) → IsFresh g u b → w.next b ≡ Some q → IsFollowing (w.state q) → w.marked b ≡ true
  before_marked t u b q (inr d) e f = ((i.marks b).buried d.dead).0
  before_marked t u b q (inl a) e f = which (w.state q) f (live_state w g q i.states (i.chain.linked b q a e))
    where
      which : (x : State) → IsFollowing x → IsLiveState w g q x → w.marked b ≡ true
      which (Follower p) y k = subst (λ n. w.marked n ≡ true) (one_before p b q k.live a k.link.next e) k.link.marked
      which (Retired n) y k = absurd k
      which Free y k = absurd y
      which (Infant n) y k = absurd y
      which Normal y k = absurd y
      which (Leader n) y k = absurd y

  -- A row that nobody has engaged.

  -- it is in the list, if it was
  pub unled_live : (q : ℕ) → WasLinked g q → IsUnled (w.state q) → IsLive g q
  unled_live q (inl a) x = a
  unled_live q (inr d) x = absurd (which (w.state q) x (dead_state w g q i.states d))
    where
      which : (y : State) → IsUnled y → IsDeadState g q y → ⊥
      which (Infant n) u k = k
      which Normal u k = k
      which _ u k = u

  -- its link is not marked
  pub unled_open : {A : Type 0} (q : ℕ) → IsLive g q → IsUnled (w.state q) → w.marked q ≡ true → A
  unled_open q a x m = absurd (which (w.state q) x ((i.marks q).engaged a m))
    where
      which : (y : State) → IsUnled y → IsEngaged y → ⊥
      which (Infant n) u k = k
      which Normal u k = k
      which _ u k = u
