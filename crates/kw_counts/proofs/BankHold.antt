-- What is banked, after every valid list.
use Rattle.std.proofs.Common.{ℕ, ◌≡◌, ◌+◌, ◌*◌, ◌≤◌, true, inl, List, arith}
use Rattle.std.proofs.Math.Nat.{mul_comm}
use Rattle.kw_windows.specs.Sums.{sum_below}
use Rattle.kw_windows.proofs.Summing.{times_one_more}
use Rattle.kw_world.specs.declared.event.Event.{Event}
use Rattle.kw_world.specs.declared.opening.Opening.{Opening}
use Rattle.kw_world.specs.Opening.{IsOpening}
use Rattle.kw_world.specs.Sizes.{Sizes}
use Rattle.kw_world.specs.Step.{word}
use Rattle.kw_core.specs.Events.{is_valid}
use Rattle.kw_core.specs.Run.{Run, history}
use Rattle.kw_shape.proofs.LinkedRows.{reached_live, was_below}
use Rattle.kw_full.specs.Shares.{IsUntidied}
use Rattle.kw_full.proofs.SharesHold.{shares_hold}
use Rattle.kw_reads.specs.Inv.{Inv}
use Rattle.kw_reads.proofs.Keeps.{inv_holds, inv_keeps}
use Rattle.kw_counts.specs.Bank.{IsShare, KeepsBank, puts_in}
use Rattle.kw_counts.specs.Counts.{Counts, counts}
use Rattle.kw_counts.specs.Leaders.{is_leading}
use Rattle.kw_counts.proofs.Banked.{one_among}
use Rattle.kw_counts.proofs.BankKeep.{Banking, banking_keeps, banking_start, share_counted}
use Rattle.kw_counts.proofs.Fronts.{holds_of_fronts}
use Rattle.kw_counts.proofs.Leaders.{leading_parts}
use Rattle.kw_counts.proofs.UpdatesBegun.{updates_begun}

module _ (z : Sizes) (o : Opening) (opening : IsOpening z o) where
  banking_holds : (es : List Event) → is_valid z o es ≡ true → Banking z (history z o es) (counts z o es)
  banking_holds es ok = holds_of_fronts z o opening (Banking z)
      (λ xs valid r' s choice l l' a h b. let v = inv_holds z o opening xs valid in banking_keeps z (history z o xs) r' s choice l l' v (inv_keeps z (history z o xs) r' s choice l a l' h v) (shares_hold z o opening xs valid) (history z o xs).ledger.rows (counts z o xs) b a h)
      (banking_start z o) es ok

  pub bank_holds : (es : List Event) → is_valid z o es ≡ true → KeepsBank z o es (history z o es) (counts z o es)
  bank_holds es ok = record {
    stamped = b.sum;
    begun = updates_begun z o es v;
    own = λ q i. b.own q (reached_live (word z r.world) r.ledger.rows v.shape.rows.chain q i);
    over = b.over;
    next = next;
  }
    where
      r : Run
      r = history z o es

      c : Counts
      c = counts z o es

      v : Inv z r
      v = inv_holds z o opening es ok

      b : Banking z r c
      b = banking_holds es ok

      next : IsUntidied z r.world → (share : ℕ) → IsShare z share → (x : ℕ) → is_leading z r x ≡ true → (c.wins + 1) * share ≤ puts_in r.history.calls
      next u share m x e =
          let t = leading_parts z r x e in
          let here : share ≤ c.stamps.here x = share_counted z r c.stamps v (shares_hold z o opening es ok) b.own u share m x t.0 t.1 in
          let among : c.stamps.here x ≤ sum_below r.world.rows c.stamps.here = one_among r.world.rows c.stamps.here x (was_below z r v.shape x (inl t.0)) in
          omega (arith, here, among, b.sum, b.over u share m, times_one_more share c.wins, mul_comm share c.wins, mul_comm share (c.wins + 1))
