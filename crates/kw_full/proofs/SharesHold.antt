-- Where copies and lost attempts stand, and the shares of rows that lead, of every valid list, by
-- induction over the events.
use Rattle.std.proofs.Common.{◌≡◌, true, List, [], ◌∷◌, ◌++◌, sym, ◌∙◌, ap, subst}
use Rattle.kw_world.specs.declared.event.Event.{Event}
use Rattle.kw_world.specs.declared.opening.Opening.{Opening}
use Rattle.kw_world.specs.Opening.{IsOpening}
use Rattle.kw_world.specs.Sizes.{Sizes}
use Rattle.kw_world.specs.WalkTransitions.{offered}
use Rattle.kw_core.specs.Events.{is_valid, may_step}
use Rattle.kw_core.specs.Run as run
use Rattle.kw_core.specs.Run.{Run, history, noted_by, start}
use Rattle.kw_core.proofs.Events.{may_come, valid-nil, valid-snoc}
use Rattle.kw_core.proofs.Happens.{happens}
use Rattle.kw_core.proofs.Runs.{goes_on-moved, history-nil, history-snoc, history-world, holds_of_history}
use Rattle.kw_reads.specs.Inv.{Inv, lower}
use Rattle.kw_reads.proofs.HistoryKeeps.{history_step}
use Rattle.kw_reads.proofs.Keeps.{inv_holds}
use Rattle.kw_full.specs.Copies.{KeepsCopies}
use Rattle.kw_full.specs.Frozen.{KeepsFrozen}
use Rattle.kw_full.specs.Full.{KeepsFull}
use Rattle.kw_full.specs.OverFrozen.{KeepsOver}
use Rattle.kw_full.specs.Shares.{KeepsShares}
use Rattle.kw_full.proofs.CopiesKeep.{copies_keep, copies_start}
use Rattle.kw_full.proofs.FullHold.{frozen_holds, full_holds}
use Rattle.kw_full.proofs.OverKeep.{over_keeps, over_start}
use Rattle.kw_full.proofs.SharesKeep.{AreShared, shares_keep, shares_kept, shares_start}

-- all that every event keeps
record Sharing (z : Sizes) (r : Run) : Type 0 where
  copies : KeepsCopies z r
  over : KeepsOver z r
  shares : AreShared z r

sharing_goes_on : (z : Sizes) (o : Opening) (r : Run) (e : Event) → may_step o r.world e ≡ true → Inv z r → KeepsFrozen z r → KeepsFull z r → Sharing z r → Sharing z (run.goes_on z r e)
sharing_goes_on z o r e may inv frozen full x =
    let c = may_come o r.world e may in
    let h = happens z r e c.local inv.shape.sane c.begins c.knows c.moves in
    let step = history_step z r (noted_by z r e c.local) e.seat (offered r.world.rows e.choice) c.local c.local.activity _ h inv in
    subst (Sharing z) (sym (goes_on-moved z r e c.local c.knows c.moves)) (record {
      copies = copies_keep z r (noted_by z r e c.local) e.seat (offered r.world.rows e.choice) c.local _ c.local.activity h (lower inv) step x.copies;
      over = over_keeps z r (noted_by z r e c.local) e.seat (offered r.world.rows e.choice) c.local _ c.local.activity h (lower inv) step frozen x.over;
      shares = shares_keep z r (noted_by z r e c.local) e.seat (offered r.world.rows e.choice) c.local _ c.local.activity h (lower inv) step x.copies x.over full x.shares;
    })

-- and that a valid list led to the run, so that what is known of those holds of it
record Reached (z : Sizes) (o : Opening) (r : Run) : Type 0 where
  events : List Event
  valid : is_valid z o events ≡ true
  is : history z o events ≡ r
  shares : Sharing z r

reached_goes_on : (z : Sizes) (o : Opening) → IsOpening z o → (r : Run) (e : Event) → may_step o r.world e ≡ true → Reached z o r → Reached z o (run.goes_on z r e)
reached_goes_on z o opening r e may x = record {
  events = x.events ++ e ∷ [];
  valid = valid-snoc z o x.events e x.valid (subst (λ w. may_step o w e ≡ true) (sym (ap (λ (q : Run). q.world) x.is) ∙ history-world z o x.events) may);
  is = history-snoc z o x.events e ∙ ap (λ q. run.goes_on z q e) x.is;
  shares = sharing_goes_on z o r e may (subst (Inv z) x.is (inv_holds z o opening x.events x.valid)) (subst (KeepsFrozen z) x.is (frozen_holds z o opening x.events x.valid)) (subst (KeepsFull z) x.is (full_holds z o opening x.events x.valid)) x.shares;
}

sharing_holds : (z : Sizes) (o : Opening) → IsOpening z o → (es : List Event) → is_valid z o es ≡ true → Sharing z (history z o es)
sharing_holds z o opening es ok = (holds_of_history z o (Reached z o) (reached_goes_on z o opening) starts es ok).shares
  where
    starts : Reached z o (start z o)
    starts = record { events = []; valid = valid-nil z o; is = history-nil z o; shares = record { copies = copies_start z o; over = over_start z o; shares = shares_start z o opening } }

-- The laws.

pub copies_hold : (z : Sizes) (o : Opening) → IsOpening z o → (es : List Event) → is_valid z o es ≡ true → KeepsCopies z (history z o es)
copies_hold z o opening es ok = (sharing_holds z o opening es ok).copies

pub over_holds : (z : Sizes) (o : Opening) → IsOpening z o → (es : List Event) → is_valid z o es ≡ true → KeepsOver z (history z o es)
over_holds z o opening es ok = (sharing_holds z o opening es ok).over

pub shares_hold : (z : Sizes) (o : Opening) → IsOpening z o → (es : List Event) → is_valid z o es ≡ true → KeepsShares z (history z o es)
shares_hold z o opening es ok = shares_kept z (history z o es) (lower (inv_holds z o opening es ok)) (sharing_holds z o opening es ok).shares
