-- What is counted, by induction over the events.
use Rattle.std.proofs.Common.{◌*◌, refl, ap, ℕ, ◌≡◌, ◌≤◌, true, List, arith, sym, subst}
use Rattle.kw_world.specs.declared.event.Event.{Event}
use Rattle.kw_world.specs.declared.opening.Opening.{Opening}
use Rattle.kw_world.specs.Opening.{IsOpening}
use Rattle.kw_world.specs.Sizes.{Sizes}
use Rattle.kw_world.specs.WalkTransitions.{offered}
use Rattle.kw_core.specs.Events.{is_valid, may_step, world}
use Rattle.kw_core.specs.Run as run
use Rattle.kw_core.specs.Run.{Run, history, noted_by, start}
use Rattle.kw_core.proofs.Events.{may_come}
use Rattle.kw_core.proofs.Happens.{happens}
use Rattle.kw_core.proofs.Runs.{goes_on-moved, history-world}
use Rattle.kw_reads.specs.Inv.{Inv}
use Rattle.kw_reads.proofs.Keeps.{inv_keeps}
use Rattle.kw_reads.proofs.Opens.{inv_start}
use Rattle.kw_windows.proofs.Summing.{sum_grows, sum_most}
use Rattle.kw_laws.specs.SeatCalls.{calls_by, calls_of, calls_seen}
use Rattle.kw_laws.proofs.SeatLists.{seen_by}
use Rattle.kw_laws.proofs.SeatTurns.{AreLatest, latest_keeps}
use Rattle.kw_counts.specs.Counts.{Counts, counts, counts_on, no_counts}
use Rattle.kw_counts.specs.Draws.{KeepsDraws, KeepsScans, all_draws, all_scans, draws_of, scans_by, scans_in}
use Rattle.kw_counts.specs.Ever.{KeepsEver}
use Rattle.kw_counts.specs.Numbers.{KeepsNumbers}
use Rattle.kw_counts.specs.Stamps.{KeepsStamps}
use Rattle.kw_counts.specs.Walks.{KeepsWalks}
use Rattle.kw_counts.proofs.BeforeKeep.{WalkedBefore, before_keeps, before_start, walks_kept}
use Rattle.kw_counts.proofs.DrawsKeep.{Drawing, drawing_keeps, drawing_start}
use Rattle.kw_counts.proofs.EverKeep.{WereInUse, ever_keeps, ever_kept, ever_start}
use Rattle.kw_counts.proofs.Folds.{counts_on-moved, holds_of_counts}
use Rattle.kw_counts.proofs.NumbersKeep.{numbers_keep, numbers_start}
use Rattle.kw_counts.proofs.ScansWait.{Waited, waited_keeps, waited_start}
use Rattle.kw_counts.proofs.StampsKeep.{AreOfList, stamps_keep, stamps_kept, stamps_start}
use Rattle.kw_counts.proofs.Updates.{few_draws}
use Rattle.kw_counts.proofs.WalksKeep.{Walked, walked_keeps, walked_start}

-- all that every event keeps
record Counting (z : Sizes) (o : Opening) (r : Run) (c : Counts) : Type 0 where
  inv : Inv z r
  draws : Drawing z o r c.draws
  numbers : KeepsNumbers z o r.world c
  walks : Walked z r c
  before : WalkedBefore z r c
  latest : AreLatest r
  ever : WereInUse r c
  stamps : AreOfList r c.stamps
  waited : Waited r c.draws

counting_goes_on : (z : Sizes) (o : Opening) (r : Run) (e : Event) (c : Counts) → may_step o r.world e ≡ true → Counting z o r c → Counting z o (run.goes_on z r e) (counts_on z r e c)
counting_goes_on z o r e c may x =
    let come = may_come o r.world e may in
    let h = happens z r e come.local x.inv.shape.sane come.begins come.knows come.moves in
    subst (λ q. Counting z o q (counts_on z r e c)) (sym (goes_on-moved z r e come.local come.knows come.moves))
    (subst (Counting z o (noted_by z r e come.local)) (sym (counts_on-moved z r e c come.local come.knows come.moves)) (record {
      inv = inv_keeps z r _ e.seat (offered r.world.rows e.choice) come.local come.local.activity _ h x.inv;
      draws = drawing_keeps z o r _ e.seat (offered r.world.rows e.choice) come.local _ come.local.activity h x.inv c.draws x.draws;
      numbers = numbers_keep z o r _ e.seat (offered r.world.rows e.choice) come.local _ come.local.activity h r.ledger.rows c x.numbers;
      walks = walked_keeps z r _ e.seat (offered r.world.rows e.choice) come.local _ come.local.activity h x.inv.shape c x.walks;
      before = before_keeps z r _ e.seat (offered r.world.rows e.choice) come.local _ come.local.activity h x.inv.shape c x.walks x.before;
      latest = latest_keeps z r _ e.seat (offered r.world.rows e.choice) come.local _ come.local.activity h x.inv x.latest;
      waited = waited_keeps z r _ e.seat (offered r.world.rows e.choice) come.local _ come.local.activity h x.inv x.latest c.draws x.waited;
      ever = ever_keeps z r _ e.seat (offered r.world.rows e.choice) come.local _ come.local.activity h x.inv.shape c.ever x.ever;
      stamps = stamps_keep z r _ e.seat (offered r.world.rows e.choice) come.local _ come.local.activity h x.inv c.stamps x.stamps;
    }))

counting_start : (z : Sizes) (o : Opening) → IsOpening z o → Counting z o (start z o) no_counts
counting_start z o opening = record { inv = inv_start z o opening; draws = drawing_start z o opening; numbers = numbers_start z o opening; walks = walked_start z o; before = before_start z o; latest = λ t m g u y w e. absurd (omega (arith, w)); waited = waited_start z o; ever = ever_start z o; stamps = stamps_start z o }

counting_holds : (z : Sizes) (o : Opening) → IsOpening z o → (es : List Event) → is_valid z o es ≡ true → Counting z o (history z o es) (counts z o es)
counting_holds z o opening es ok = holds_of_counts z o (Counting z o) (counting_goes_on z o) (counting_start z o opening) es ok

-- The laws.

pub draws_hold : (z : Sizes) (o : Opening) → IsOpening z o → (es : List Event) → is_valid z o es ≡ true → KeepsDraws z o (world z o es) (counts z o es).draws
draws_hold z o opening es ok =
    let x = (counting_holds z o opening es ok).draws in
    let once : (t i : ℕ) → (counts z o es).draws.drew t i ≤ (counts z o es).draws.waits i = λ t i. omega (arith, x.once t i, x.past t i) in
    subst (λ w. KeepsDraws z o w (counts z o es).draws) (history-world z o es) (record { clock = x.clock; once = once; few = few_draws z (counts z o es).draws once })

pub numbers_hold : (z : Sizes) (o : Opening) → IsOpening z o → (es : List Event) → is_valid z o es ≡ true → KeepsNumbers z o (world z o es) (counts z o es)
numbers_hold z o opening es ok = subst (λ w. KeepsNumbers z o w (counts z o es)) (history-world z o es) (counting_holds z o opening es ok).numbers

pub walks_hold : (z : Sizes) (o : Opening) → IsOpening z o → (es : List Event) → is_valid z o es ≡ true → KeepsWalks z (world z o es) (counts z o es)
walks_hold z o opening es ok = let x = counting_holds z o opening es ok in subst (λ w. KeepsWalks z w (counts z o es)) (history-world z o es) (walks_kept z (history z o es) (counts z o es) x.inv.shape x.walks x.before)

-- the calls of a seat in a list are those of its record
seen_of : (z : Sizes) (o : Opening) (s : ℕ) (es : List Event) → calls_seen z o s es ≡ seen_by s (history z o es).history.calls
unfolding calls_seen calls_of calls_by
seen_of z o s es = refl

pub scans_hold : (z : Sizes) (o : Opening) → IsOpening z o → (es : List Event) → is_valid z o es ≡ true → KeepsScans z o es (counts z o es).draws
scans_hold z o opening es ok = record { waits = waits; clock = omega (arith, k.clock, draws) }
  where
    k : KeepsDraws z o (world z o es) (counts z o es).draws
    k = draws_hold z o opening es ok

    waits : (t : ℕ) → (counts z o es).draws.waits t ≤ scans_by z o es t
    waits t = omega (arith, (counting_holds z o opening es ok).waited.most t, ap scans_in (seen_of z o t es))

    draws : all_draws z (counts z o es).draws ≤ z.seats * all_scans z o es
    draws = sum_most z.seats (draws_of z (counts z o es).draws) (all_scans z o es) (λ t u. sum_grows z.seats ((counts z o es).draws.drew t) (scans_by z o es) (λ i w. omega (arith, k.once t i, waits i)))

pub ever_holds : (z : Sizes) (o : Opening) → IsOpening z o → (es : List Event) → is_valid z o es ≡ true → KeepsEver z (world z o es) (counts z o es)
ever_holds z o opening es ok = let x = counting_holds z o opening es ok in subst (λ w. KeepsEver z w (counts z o es)) (history-world z o es) (ever_kept z (history z o es) (counts z o es) x.inv.shape x.ever)

pub stamps_hold : (z : Sizes) (o : Opening) → IsOpening z o → (es : List Event) → is_valid z o es ≡ true → KeepsStamps z (world z o es) (counts z o es)
stamps_hold z o opening es ok = let x = counting_holds z o opening es ok in subst (λ w. KeepsStamps z w (counts z o es)) (history-world z o es) (stamps_kept z (history z o es) (counts z o es) x.inv x.stamps)
