-- What is banked, by induction over the events: each stamp is counted where it comes, and stays
-- counted where rows are replaced. Such an exchange is of a row that leads, of which a share was
-- stamped; and this is banked then.
use Rattle.std.proofs.Common.{ℕ, ◌≡◌, ◌⊎◌, inl, inr, ◌+◌, ◌*◌, ◌<◌, ◌≤◌, nat_le, ◌&&◌, Bool, true, false, Option, None, Some, arith, refl, sym, ◌∙◌, ap, subst}
use Rattle.std.proofs.lemmas.Bool.{and_parts}
use Rattle.std.proofs.Math.Nat.{mul_comm}
use Rattle.kw_lists.specs.Counts.{count_below}
use Rattle.kw_lists.proofs.Counting.{count_grows}
use Rattle.kw_windows.proofs.Summing.{sum_most, times_one_more}
use Rattle.kw_words.specs.declared.layout.Name.TheVariants as name
use Rattle.kw_words.specs.Link.{link_word}
use Rattle.kw_words.specs.State.{state_of}
use Rattle.kw_rows.specs.Group.{Group}
use Rattle.kw_rows.specs.Ledger.{IsLive, Ledger}
use Rattle.kw_rows.specs.RowState as row
use Rattle.kw_rows.specs.RowState.{IsLeader}
use Rattle.kw_world.specs.declared.activity.Activity.{Activity}
use Rattle.kw_world.specs.declared.activity.rebalance.Rebalance.TheVariants as Rebalance
use Rattle.kw_world.specs.declared.activity.rebalance.replace.Replace.TheVariants as Replace
use Rattle.kw_world.specs.declared.event.Choice.{Choice}
use Rattle.kw_world.specs.declared.local.Local.{Local}
use Rattle.kw_world.specs.declared.opening.Opening.{Opening}
use Rattle.kw_world.specs.ReplaceTransitions.{replaced_link}
use Rattle.kw_world.specs.Sizes.{Sizes}
use Rattle.kw_world.specs.Step.{word}
use Rattle.kw_world.specs.WriteTransitions.{unmarked_link}
use Rattle.kw_core.specs.Ledger.{group_of}
use Rattle.kw_core.specs.Run.{Run, start}
use Rattle.kw_core.proofs.Arrows.{eq_from}
use Rattle.kw_core.proofs.Happens.{Happens, found_at}
use Rattle.kw_shape.specs.Balances.{led}
use Rattle.kw_shape.specs.RowsIn.{rows_in}
use Rattle.kw_shape.proofs.LinkedRows.{balance_at, full_live, live_reached, rows_live, was_below}
use Rattle.kw_full.specs.Shares.{IsUntidied, KeepsShares, is_own_stamped, share_of}
use Rattle.kw_reads.specs.Inv.{Inv}
use Rattle.kw_counts.specs.Bank.{IsShare, puts_in}
use Rattle.kw_counts.specs.Counts.{Counts, Stamps, counts_after, has_replaced, no_counts, stamps_after, wins_after, with_banked}
use Rattle.kw_counts.specs.Leaders.{is_leader}
use Rattle.kw_counts.proofs.Banked.{banked_same, banked_total, first_banked, group_apart, one_more_total, total}
use Rattle.kw_counts.proofs.Leaders.{leader_word}
use Rattle.kw_counts.proofs.OwnStamped.{AreCounted, own_keeps, own_start}
use Rattle.kw_counts.proofs.StampSteps.{StampsNow, none_now, one_now, stamps_now}
use Rattle.kw_counts.proofs.Untidied.{untidied_before}

-- what every event keeps
pub record Banking (z : Sizes) (r : Run) (c : Counts) : Type 0 where
  pub sum : total r.world.rows c.stamps ≡ puts_in r.history.calls
  pub own : AreCounted z r c.stamps
  pub over : IsUntidied z r.world → (share : ℕ) → IsShare z share → c.wins * share ≤ c.stamps.banked

-- Rows that lead.

-- a share was stamped in a row of the list that leads, and is counted in it
pub share_counted : (z : Sizes) (r : Run) (c : Stamps) → Inv z r → KeepsShares z r → AreCounted z r c → IsUntidied z r.world → (share : ℕ) → IsShare z share → (x : ℕ) → IsLive r.ledger.rows x → is_leader ((rows_in (word z r.world)).state x) ≡ true → share ≤ c.here x
share_counted z r c v shares own u share m x live leads =
    let w = leader_word (state_of (word z r.world (name.State x))) leads in
    let paid : z.cells ≤ z.built + z.seats + share_of z r x = shares.shares u x w.0 (live_reached (word z r.world) r.ledger.rows v.shape.rows.chain x live) w.1 in
    let all : share_of z r x ≤ count_below z.cells (is_own_stamped r x) = count_grows z.cells (λ d. nat_le z.built d && is_own_stamped r x d) (is_own_stamped r x) (λ d e. (and_parts (nat_le z.built d) (is_own_stamped r x d) e).1) in
    omega (arith, m, paid, all, own x live)

-- the full row of a group that is decided leads
group_leads : (z : Sizes) (r : Run) (q : ℕ) (second after : Option ℕ) → Group (rows_in (word z r.world)) r.ledger.rows (led q second after) → IsLive r.ledger.rows q → is_leader ((rows_in (word z r.world)).state q) ≡ true
group_leads z r q None after g live = by (g.1 live).either
  where
    by : ((rows_in (word z r.world)).state q ≡ row.Leader 1) ⊎ ((rows_in (word z r.world)).state q ≡ row.Leader 2) × ((c : ℕ) × (after ≡ Some c) × IsLeader ((rows_in (word z r.world)).state c)) → is_leader ((rows_in (word z r.world)).state q) ≡ true
    by (inl e) = ap is_leader e
    by (inr e) = ap is_leader e.0
group_leads z r q (Some c) after g live = ap is_leader (g.2 live).leads

module _ (z : Sizes) (r r' : Run) (s : ℕ) (choice : Choice) (l l' : Local) (v : Inv z r) (v' : Inv z r') (shares : KeepsShares z r) (g : Ledger) (c : Counts) (b : Banking z r c) where
  -- the exchange replaces the row
  abbrev Exchanges : Type 0
  Exchanges = Happens z r r' s choice l l' (Activity.Rebalance (Rebalance.Replace Replace.Exchange))

  won : has_replaced l (word z r.world (replaced_link l.rebalance.before)) ≡ true → word z r.world (replaced_link l.rebalance.before) ≡ link_word (unmarked_link (Some l.row))
  won e = eq_from _ _ e

  sum_replaced : Exchanges → has_replaced l (word z r.world (replaced_link l.rebalance.before)) ≡ true → total r.world.rows (with_banked (group_of l) c.stamps) ≡ total r.world.rows c.stamps
  sum_replaced h e = banked_total r.world.rows c.stamps (group_of l) (group_apart r.world.rows l (below l.row (inl refl)) (λ q f. (below q (inr f), λ i. (balance_at _ h v.shape).apart tt (f ∙ ap Some (sym i)))))
    where
      below : (q : ℕ) → (q ≡ l.row) ⊎ (l.rebalance.second ≡ Some q) → q < r.world.rows
      below q i = was_below z r v.shape q (inl (rows_live h v.shape (won e) q i))

  sum_keeps : (a : Activity) → Happens z r r' s choice l l' a → total r'.world.rows (stamps_after a l (found_at z (word z r.world) a s choice l) c.stamps) ≡ puts_in r'.history.calls
  sum_keeps a h = which (stamps_now z r r' s choice l l' v a h c.stamps)
    where
      after : Stamps
      after = stamps_after a l (found_at z (word z r.world) a s choice l) c.stamps

      exchange : (d : Activity) → d ≡ Activity.Rebalance (Rebalance.Replace Replace.Exchange) → Happens z r r' s choice l l' d → total r.world.rows (stamps_after d l (found_at z (word z r.world) d s choice l) c.stamps) ≡ total r.world.rows c.stamps
      exchange d e = subst (λ (q : Activity). Happens z r r' s choice l l' q → total r.world.rows (stamps_after q l (found_at z (word z r.world) q s choice l) c.stamps) ≡ total r.world.rows c.stamps) (sym e) (λ i. saw i (has_replaced l (word z r.world (replaced_link l.rebalance.before))) refl)
        where
          saw : Exchanges → (t : Bool) → has_replaced l (word z r.world (replaced_link l.rebalance.before)) ≡ t → total r.world.rows (stamps_after (Activity.Rebalance (Rebalance.Replace Replace.Exchange)) l (word z r.world (replaced_link l.rebalance.before)) c.stamps) ≡ total r.world.rows c.stamps
          saw i true f = rw f (sum_replaced i f)
          saw i false f = rw f refl

      moved : total r'.world.rows after ≡ total r.world.rows after
      moved = ap (λ n. total n after) h.rows

      which : StampsNow z r r' l a c.stamps after → total r'.world.rows after ≡ puts_in r'.history.calls
      which (one_now o y e) = omega (arith, moved, ap (total r.world.rows) e, one_more_total r.world.rows c.stamps l.row y.below, y.puts, b.sum)
      which (none_now y (inl e)) = omega (arith, moved, ap (total r.world.rows) e, y.puts, b.sum)
      which (none_now y (inr e)) = omega (arith, moved, exchange a e h, y.puts, b.sum)

  over_keeps : (a : Activity) → Happens z r r' s choice l l' a → IsUntidied z r'.world → (share : ℕ) → IsShare z share → wins_after a l (found_at z (word z r.world) a s choice l) c.wins * share ≤ (stamps_after a l (found_at z (word z r.world) a s choice l) c.stamps).banked
  over_keeps (Activity.Rebalance (Rebalance.Replace Replace.Exchange)) h u share m = saw (has_replaced l (word z r.world (replaced_link l.rebalance.before))) refl
    where
      before : IsUntidied z r.world
      before = untidied_before z r r' s choice l l' _ h u

      saw : (t : Bool) → has_replaced l (word z r.world (replaced_link l.rebalance.before)) ≡ t → wins_after (Activity.Rebalance (Rebalance.Replace Replace.Exchange)) l (word z r.world (replaced_link l.rebalance.before)) c.wins * share ≤ (stamps_after (Activity.Rebalance (Rebalance.Replace Replace.Exchange)) l (word z r.world (replaced_link l.rebalance.before)) c.stamps).banked
      saw true e =
          let live = full_live h v.shape (won e) in
          let counted : share ≤ c.stamps.here l.row = share_counted z r c.stamps v shares b.own before share m l.row live (group_leads z r l.row l.rebalance.second l.rebalance.after (balance_at _ h v.shape).group live) in
          let more : (c.wins + 1) * share ≤ (with_banked (group_of l) c.stamps).banked = omega (arith, b.over before share m, counted, first_banked l c.stamps, times_one_more share c.wins, mul_comm share c.wins, mul_comm share (c.wins + 1)) in
          rw e more
      saw false e = rw e (b.over before share m)
  over_keeps a h u share m = omega (arith, b.over (untidied_before z r r' s choice l l' a h u) share m, banked_same a l (found_at z (word z r.world) a s choice l) c.stamps (λ y. cc))

  pub banking_keeps : (a : Activity) → Happens z r r' s choice l l' a → Banking z r' (counts_after a s l (found_at z (word z r.world) a s choice l) g c)
  banking_keeps a h = record { sum = sum_keeps a h; own = own_keeps z r r' s choice l l' a h v v' c.stamps b.own; over = over_keeps a h }

-- Where a run begins nothing was stamped.
pub banking_start : (z : Sizes) (o : Opening) → Banking z (start z o) no_counts
banking_start z o = record { sum = omega (arith, sum_most (start z o).world.rows no_counts.stamps.here 0 (λ t u. omega arith)); own = own_start z o; over = λ u share m. omega arith }
