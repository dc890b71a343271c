-- What an event stamps, as it is counted: one attempt, made in the row that its seat is at, or
-- none.
use Rattle.std.proofs.Common.{ℕ, ◌≡◌, ◌⊎◌, inl, inr, ◌+◌, ◌<◌, ◌==◌, Bool, true, false, arith, refl, sym, ◌∙◌, ap, subst, length}
use Rattle.kw_words.specs.declared.layout.Name.TheVariants as name
use Rattle.kw_words.specs.declared.pend.Pend.TheVariants.{Pending}
use Rattle.kw_words.specs.Pend.{pend_word}
use Rattle.kw_rows.specs.Ledger.{IsLive}
use Rattle.kw_world.specs.declared.activity.Activity.{Activity}
use Rattle.kw_world.specs.declared.activity.look.Look.TheVariants as Look
use Rattle.kw_world.specs.declared.activity.put.Put.TheVariants as Put
use Rattle.kw_world.specs.declared.activity.rebalance.Rebalance.TheVariants as Rebalance
use Rattle.kw_world.specs.declared.activity.rebalance.replace.Replace.TheVariants as Replace
use Rattle.kw_world.specs.declared.event.Choice.{Choice}
use Rattle.kw_world.specs.declared.local.Local.{Local}
use Rattle.kw_world.specs.Sizes.{Sizes}
use Rattle.kw_world.specs.Step.{word}
use Rattle.kw_core.specs.declared.history.Attempt.{Attempt}
use Rattle.kw_core.specs.declared.history.Change.{Change}
use Rattle.kw_core.specs.declared.history.Change.TheVariants.{Nothing, Stamps}
use Rattle.kw_core.specs.History.{History, attempt}
use Rattle.kw_core.specs.HistoryLaws.{IsPut}
use Rattle.kw_core.specs.Noted.{MayNote, noted}
use Rattle.kw_core.specs.Run.{Run, helping}
use Rattle.kw_core.specs.Stages.{HasSeenPending, IsAtRow, IsPutting}
use Rattle.kw_core.proofs.Arrows.{eq_from}
use Rattle.kw_core.proofs.Changes.{made}
use Rattle.kw_core.proofs.Happens.{Happens, change_at, found_at, log_entry}
use Rattle.kw_core.proofs.NotedLaws.{attempt_set_same}
use Rattle.kw_puts.proofs.Owners.{pending_cell, true_false}
use Rattle.kw_shape.proofs.LinkedRows.{was_below}
use Rattle.kw_reads.specs.Inv.{Inv, lower}
use Rattle.kw_reads.proofs.HistoryKeeps.{may_note}
use Rattle.kw_reads.proofs.Stamping.{StampStep, stamp_step, stamps_none, stamps_one}
use Rattle.kw_counts.specs.Bank.{puts_in}
use Rattle.kw_counts.specs.Counts.{Stamps as Stamped, one_more_at, stamps_after}
use Rattle.kw_counts.proofs.PutsCounted.{no_stamps, none_noted, puts_noted, stamps_of}
use Rattle.kw_counts.proofs.StampsKeep.{pending_live}

-- the attempt o is stamped now, which was made in the row that the seat is at, a row of the list;
-- and so one more call has a put
pub record IsOneStamped (z : Sizes) (r r' : Run) (l : Local) (o : ℕ) : Type 0 where
  pub within : o < length r.history.attempts
  pub row : (attempt r.history o).row ≡ l.row
  pub below : l.row < r.world.rows
  pub live : IsLive r.ledger.rows l.row
  pub was : (p : ℕ) → IsPut r'.history p → (p ≡ o) ⊎ IsPut r.history p
  pub origin : (q c : ℕ) → r'.origin q c ≡ r.origin q c
  pub puts : puts_in r'.history.calls ≡ puts_in r.history.calls + 1

-- none is
pub record IsNoneStamped (r r' : Run) : Type 0 where
  pub was : (p : ℕ) → IsPut r'.history p → IsPut r.history p
  pub puts : puts_in r'.history.calls ≡ puts_in r.history.calls

-- and what is counted: one more in that row; or nothing, unless the event is to replace a row
pub data StampsNow (z : Sizes) (r r' : Run) (l : Local) (a : Activity) (c c' : Stamped) : Type 0 where
  one_now : (o : ℕ) → IsOneStamped z r r' l o → c' ≡ record c { here = one_more_at c.here l.row } → StampsNow z r r' l a c c'
  none_now : IsNoneStamped r r' → (c' ≡ c) ⊎ (a ≡ Activity.Rebalance (Rebalance.Replace Replace.Exchange)) → StampsNow z r r' l a c c'

module _ (z : Sizes) (r r' : Run) (s : ℕ) (choice : Choice) (l l' : Local) (v : Inv z r) where
  -- the change of an event, where it is this one
  none_by : (a : Activity) (ch : Change) → Happens z r r' s choice l l' a → change_at z r a s choice l ≡ ch → stamps_of ch ≡ 0 → IsNoneStamped r r'
  none_by a ch h e n =
      let may = may_note z r r' s choice l a l' h v in
      let none : stamps_of (change_at z r a s choice l) ≡ 0 = ap stamps_of e ∙ n in
      record {
        was = λ p x. none_noted r.history (log_entry z r a s choice l) (change_at z r a s choice l) may none p (subst (λ (q : History). IsPut q p) h.history x);
        puts = omega (arith, ap (λ (q : History). puts_in q.calls) h.history, puts_noted r.history (log_entry z r a s choice l) (change_at z r a s choice l) v.history may, none);
      }

  one_by : (a : Activity) (p version load : ℕ) → Happens z r r' s choice l l' a → change_at z r a s choice l ≡ Stamps p version load → (attempt r.history p).row ≡ l.row → IsLive r.ledger.rows l.row → IsOneStamped z r r' l p
  one_by a p version load h e row live = which (stamp_step a h (lower v))
    where
      may : MayNote r.history (log_entry z r a s choice l) (Stamps p version load)
      may = subst (MayNote r.history (log_entry z r a s choice l)) e (may_note z r r' s choice l a l' h v)

      is : r'.history ≡ noted r.history (log_entry z r a s choice l) (Stamps p version load)
      is = h.history ∙ ap (noted r.history (log_entry z r a s choice l)) e

      now : IsPut r'.history p
      now = ap (λ (b : Attempt). b.is_stamped) (attempt_set_same r.history r'.history p _ (ap (λ (q : History). q.attempts) is) may.within)

      puts : puts_in r'.history.calls ≡ puts_in r.history.calls + 1
      puts = ap (λ (q : History). puts_in q.calls) is ∙ puts_noted r.history (log_entry z r a s choice l) (Stamps p version load) v.history may

      which : StampStep z r r' a → IsOneStamped z r r' l p
      which (stamps_none f) = true_false (f p now) may.not_stamped
      which (stamps_one o x) = same (x.was p now)
        where
          same : (p ≡ o) ⊎ IsPut r.history p → IsOneStamped z r r' l p
          same (inl f) = record { within = may.within; row = row; below = was_below z r v.shape l.row (inl live); live = live; was = λ q y. subst (λ k. (q ≡ k) ⊎ IsPut r.history q) (sym f) (x.was q y); origin = x.origin; puts = puts }
          same (inr y) = true_false y may.not_stamped

  -- the row at which a seat looks at entries, or puts, is in the list where it finds an entry of
  -- it pending
  live_at : (a : Activity) → IsAtRow a → Happens z r r' s choice l l' a → (j c : ℕ) → j < z.seats → word z r.world (name.Pend l.row j) ≡ pend_word (Pending c) → IsLive r.ledger.rows l.row
  live_at a y h j c w e = pending_live z r v s l.row j c ((v.shape.walks s l h.knows).at (subst IsAtRow (sym h.activity) y)).fresh w e

  pub stamps_now : (a : Activity) → Happens z r r' s choice l l' a → (c : Stamped) → StampsNow z r r' l a c (stamps_after a l (found_at z (word z r.world) a s choice l) c)
  stamps_now (Activity.Look Look.Help) h c = saw (word z r.world (name.Pend l.row l.looked) == pend_word (Pending l.saw)) refl
    where
      here : Activity
      here = Activity.Look Look.Help

      saw : (b : Bool) → (word z r.world (name.Pend l.row l.looked) == pend_word (Pending l.saw)) ≡ b → StampsNow z r r' l here c (stamps_after here l (word z r.world (name.Pend l.row l.looked)) c)
      saw true e =
          let known = v.shape.sane.locals s l h.knows in
          let found : word z r.world (name.Pend l.row l.looked) ≡ pend_word (Pending l.saw) = eq_from _ _ e in
          let helper = v.puts.helps s l h.knows (subst HasSeenPending (sym h.activity) tt) in
          let place = pending_cell v.puts l.row l.looked l.saw helper.put known.below.row known.ranges.looked found helper.origin in
          let stamps : change_at z r here s choice l ≡ Stamps helper.put l.helping (r.seats s).loaded = rw e (ap (λ x. helping x l.helping (r.seats s).loaded) helper.origin) in
          one_now helper.put (one_by here helper.put l.helping (r.seats s).loaded h stamps place.row (live_at here tt h l.looked l.saw known.ranges.looked found)) (rw e refl)
      saw false e = none_now (none_by here Nothing h (rw e refl) refl) (inl (rw e refl))
  stamps_now (Activity.Put Put.Stamp) h c = saw (word z r.world (name.Pend l.row s) == pend_word (Pending l.cell)) refl
    where
      here : Activity
      here = Activity.Put Put.Stamp

      saw : (b : Bool) → (word z r.world (name.Pend l.row s) == pend_word (Pending l.cell)) ≡ b → StampsNow z r r' l here c (stamps_after here l (word z r.world (name.Pend l.row s)) c)
      saw true e =
          let found : word z r.world (name.Pend l.row s) ≡ pend_word (Pending l.cell) = eq_from _ _ e in
          let own = v.puts.owns s l h.knows (subst IsPutting (sym h.activity) tt) in
          let stamps : change_at z r here s choice l ≡ Stamps (r.seats s).own l.version (r.seats s).loaded = rw e refl in
          one_now (r.seats s).own (one_by here (r.seats s).own l.version (r.seats s).loaded h stamps own.row (live_at here tt h s l.cell h.seat found)) (rw e refl)
      saw false e = none_now (none_by here Nothing h (rw e refl) refl) (inl (rw e refl))
  stamps_now (Activity.Rebalance (Rebalance.Replace Replace.Exchange)) h c = none_now (none_by (Activity.Rebalance (Rebalance.Replace Replace.Exchange)) Nothing h refl refl) (inr refl)
  stamps_now a h c = none_now (none_by a _ h refl (no_stamps z (word z r.world) s choice l (r.seats s) r.origin a _ (made z (word z r.world) s choice l (r.seats s) r.origin a) (λ y. cc) (λ y. cc))) (inl refl)
