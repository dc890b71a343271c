-- What an event leaves of the rows that are to go: one that was in the list before and is to go
-- after the event was to go before, but for the row that the seat makes a leader.
use Rattle.std.proofs.Common.{ℕ, ◌≡◌, ◌≢◌, ◌⊎◌, inl, inr, ◌<◌, true, false, Some, arith, refl, sym, ◌∙◌, ap, subst, length}
use Rattle.std.proofs.lemmas.Bool.{cases_eq}
use Rattle.kw_words.specs.declared.layout.Name.TheVariants as name
use Rattle.kw_words.specs.declared.state.State.{State}
use Rattle.kw_words.specs.declared.state.State.TheVariants as state
use Rattle.kw_words.specs.State.{IsState, state_of, state_word}
use Rattle.kw_rows.specs.Ledger.{Fate, Ledger, IsLive}
use Rattle.kw_rows.specs.Ledger as fate
use Rattle.kw_rows.specs.RowState as row
use Rattle.kw_rows.specs.Rows.{HoldsKey}
use Rattle.kw_world.specs.declared.activity.Activity.{Activity}
use Rattle.kw_world.specs.declared.activity.rebalance.Rebalance.TheVariants as Rebalance
use Rattle.kw_world.specs.declared.activity.rebalance.claim.Claim.TheVariants as Claim
use Rattle.kw_world.specs.declared.activity.rebalance.engage.Engage.TheVariants as Engage
use Rattle.kw_world.specs.declared.activity.rebalance.replace.Replace.TheVariants as Replace
use Rattle.kw_world.specs.declared.activity.rebalance.seek.Seek.TheVariants as Seek
use Rattle.kw_world.specs.declared.event.Choice.{Choice}
use Rattle.kw_world.specs.declared.local.Local.{Local}
use Rattle.kw_world.specs.declared.operation.Action.TheVariants.{Exchange}
use Rattle.kw_world.specs.ClaimTransitions.{row_after}
use Rattle.kw_world.specs.Operation.{word_after}
use Rattle.kw_world.specs.SeekTransitions.{infant}
use Rattle.kw_world.specs.Sizes.{Sizes}
use Rattle.kw_world.specs.Step.{word}
use Rattle.kw_core.specs.Run.{Run}
use Rattle.kw_core.proofs.Happens.{Happens, exchanged, not_exchanged}
use Rattle.kw_core.proofs.InfantFrames.{ChangesState, state_stays}
use Rattle.kw_shape.specs.RowsIn.{rows_in, state_seen}
use Rattle.kw_shape.specs.Shape.{Shape}
use Rattle.kw_shape.proofs.BuildEvents.{word_says}
use Rattle.kw_shape.proofs.LinkedRows.{ComesNow, FreesNow, GoesNow, linked_before, linked_fate, linked_keeps, linked_least, not_hand, was_below}
use Rattle.kw_shape.proofs.RowsKeep.{row_event, won_at}
use Rattle.kw_alone.specs.Wins.{is_leading, is_unled}
use Rattle.kw_alone.proofs.Leading.{leading_was, unled_was}

-- the seat is about to make its row a leader
abbrev pub IsLead : Activity → Type 0
IsLead (Activity.Rebalance (Rebalance.Engage Engage.Lead)) = Unit {0}
IsLead _ = ⊥

-- a row of the list is as it was, or was linked by this event
pub record StaysLive (g g' : Ledger) (q : ℕ) : Type 0 where
  pub live : IsLive g q
  pub fate : g'.fates q ≡ g.fates q

-- an exchange by which no row comes to lead
none_leads : (w w' : ℕ) (old new : State) → IsState new → is_leading (state_seen (Some new)) ≡ false → w' ≡ word_after (Exchange (state_word old) (state_word new)) w → state_seen (state_of w) ≡ row.Normal → is_leading (state_seen (state_of w')) ≡ true → ⊥
none_leads w w' old new k n e f t = which (cases_eq w (state_word old))
  where
    which : (w ≡ state_word old) ⊎ (w ≡ state_word old → ⊥) → ⊥
    which (inl c) = let x : true ≡ false = sym t ∙ ap is_leading (word_says w' new k (exchanged w' w (state_word old) (state_word new) e c)) ∙ n in absurd (cc)
    which (inr d) = let x : true ≡ false = sym t ∙ ap (λ u. is_leading (state_seen (state_of u))) (not_exchanged w' w (state_word old) (state_word new) e d) ∙ ap is_leading f in absurd (cc)

-- nor does a row whose word stays
none_leads_there : (w w' : ℕ) → w' ≡ w → state_seen (state_of w) ≡ row.Normal → is_leading (state_seen (state_of w')) ≡ true → ⊥
none_leads_there w w' e f t = let x : true ≡ false = sym t ∙ ap (λ u. is_leading (state_seen (state_of u))) e ∙ ap is_leading f in absurd (cc)

module _ {z : Sizes} {r r' : Run} {s : ℕ} {choice : Choice} {l l' : Local} where
  -- a row that is in the list now was so, and its fate stays; or it is linked now
  pub live_was : (a : Activity) → Happens z r r' s choice l l' a → Shape z r → (q : ℕ) → IsLive r'.ledger.rows q → StaysLive r.ledger.rows r'.ledger.rows q ⊎ ComesNow (word z r.world) r.ledger.rows r'.ledger.rows s (length r.history.log) l a q
  live_was a h i q k = which (linked_before a h i q (inl k))
    where
      here : (r'.ledger.rows.fates q ≡ r.ledger.rows.fates q) ⊎ GoesNow r.ledger.rows r'.ledger.rows s (length r.history.log) q ⊎ FreesNow r.ledger.rows r'.ledger.rows q → StaysLive r.ledger.rows r'.ledger.rows q
      here (inl e) = record { live = sym (ap (λ (f : Fate). f.status) e) ∙ k; fate = e }
      here (inr (inl x)) = let y : fate.Live ≡ fate.Dead = sym k ∙ ap (λ (f : Fate). f.status) x.fate in absurd (cc)
      here (inr (inr x)) = let y : fate.Live ≡ fate.Free = sym k ∙ ap (λ (f : Fate). f.status) x.fate in absurd (cc)

      which : (IsLive r.ledger.rows q ⊎ fate.IsDead r.ledger.rows q) ⊎ ComesNow (word z r.world) r.ledger.rows r'.ledger.rows s (length r.history.log) l a q → StaysLive r.ledger.rows r'.ledger.rows q ⊎ ComesNow (word z r.world) r.ledger.rows r'.ledger.rows s (length r.history.log) l a q
      which (inl w) = inl (here (linked_fate a h i q w))
      which (inr x) = inr x

  -- The state.

  -- the state of no other row is written
  at_other : (a : Activity) → Happens z r r' s choice l l' a → (y : ℕ) (old new : State) → IsState new → is_leading (state_seen (Some new)) ≡ false → ((q : ℕ) → q ≢ y → ChangesState a s l q → ⊥) →
      word z r'.world (name.State y) ≡ word_after (Exchange (state_word old) (state_word new)) (word z r.world (name.State y)) → (q : ℕ) → q < r.world.rows → (rows_in (word z r.world)).state q ≡ row.Normal → is_leading ((rows_in (word z r'.world)).state q) ≡ true → ⊥
  at_other a h y old new k n others e q o f t = which (cases_eq q y)
    where
      which : (q ≡ y) ⊎ (q ≡ y → ⊥) → ⊥
      which (inl c) = none_leads (word z r.world (name.State y)) (word z r'.world (name.State y)) old new k n e (subst (λ x. (rows_in (word z r.world)).state x ≡ row.Normal) c f) (subst (λ x. is_leading ((rows_in (word z r'.world)).state x) ≡ true) c t)
      which (inr d) = none_leads_there _ _ (state_stays a h q o (others q d)) f t

  -- a normal row of the list comes to lead by one event alone
  leader_by : (a : Activity) → Happens z r r' s choice l l' a → Shape z r → (IsLead a → ⊥) → (q : ℕ) → IsLive r.ledger.rows q → (rows_in (word z r.world)).state q ≡ row.Normal → is_leading ((rows_in (word z r'.world)).state q) ≡ true → ⊥
  leader_by (Activity.Rebalance (Rebalance.Engage Engage.Lead)) h i n q k f t = n tt
  leader_by (Activity.Rebalance (Rebalance.Engage (Engage.Normal seat))) h i n q k f t = at_other (Activity.Rebalance (Rebalance.Engage (Engage.Normal seat))) h l.row (state.Infant seat) state.Normal tt refl (λ x d c. d c) h.changed.same q (was_below z r i q (inl k)) f t
  leader_by (Activity.Rebalance (Rebalance.Engage (Engage.Decide count))) h i n q k f t = which (cases_eq q l.row)
    where
      undecided : (w w' : ℕ) → w' ≡ word_after (Exchange (state_word (state.Leader 0)) (state_word (state.Leader count))) w → state_seen (state_of w) ≡ row.Normal → is_leading (state_seen (state_of w')) ≡ true → ⊥
      undecided w w' e g u = there (cases_eq w (state_word (state.Leader 0)))
        where
          there : (w ≡ state_word (state.Leader 0)) ⊎ (w ≡ state_word (state.Leader 0) → ⊥) → ⊥
          there (inl c) = let x : row.Leader 0 ≡ row.Normal = sym (word_says w (state.Leader 0) (omega arith) c) ∙ g in absurd (cc)
          there (inr d) = none_leads_there w w' (not_exchanged w' w _ _ e d) g u

      which : (q ≡ l.row) ⊎ (q ≡ l.row → ⊥) → ⊥
      which (inl c) = undecided _ _ h.changed.same (subst (λ x. (rows_in (word z r.world)).state x ≡ row.Normal) c f) (subst (λ x. is_leading ((rows_in (word z r'.world)).state x) ≡ true) c t)
      which (inr d) = none_leads_there _ _ (state_stays (Activity.Rebalance (Rebalance.Engage (Engage.Decide count))) h q (was_below z r i q (inl k)) (λ c. d c)) f t
  leader_by (Activity.Rebalance (Rebalance.Claim Claim.Exchange)) h i n q k f t = at_other (Activity.Rebalance (Rebalance.Claim Claim.Exchange)) h (row_after l) state.Normal (state.Follower l.row) (omega (arith, (i.sane.locals s l h.knows).below.row, i.sane.sized.few_rows)) refl (λ x d c. d c) h.changed.same q (was_below z r i q (inl k)) f t
  leader_by (Activity.Rebalance (Rebalance.Claim (Claim.Normal seat))) h i n q k f t = at_other (Activity.Rebalance (Rebalance.Claim (Claim.Normal seat))) h (row_after l) (state.Infant seat) state.Normal tt refl (λ x d c. d c) h.changed.same q (was_below z r i q (inl k)) f t
  leader_by (Activity.Rebalance (Rebalance.Seek Seek.Take)) h i n q k f t = at_other (Activity.Rebalance (Rebalance.Seek Seek.Take)) h l.rebalance.sought state.Free (state.Infant s) (omega (arith, h.seat, i.sane.sized.few_seats)) refl (λ x d c. d c) h.changed.same q (was_below z r i q (inl k)) f t
  leader_by (Activity.Rebalance (Rebalance.Seek Seek.Reclaim)) h i n q k f t = at_other (Activity.Rebalance (Rebalance.Seek Seek.Reclaim)) h l.rebalance.sought (state.Retired l.rebalance.number) state.Free tt refl (λ x d c. d c) h.changed.same q (was_below z r i q (inl k)) f t
  leader_by (Activity.Rebalance (Rebalance.Seek Seek.GiveBack)) h i n q k f t = none_leads_there _ _ (state_stays (Activity.Rebalance (Rebalance.Seek Seek.GiveBack)) h q (was_below z r i q (inl k)) (not_hand (Activity.Rebalance (Rebalance.Seek Seek.GiveBack)) h i tt q (inl k))) f t
  leader_by (Activity.Rebalance (Rebalance.Replace Replace.Normalise)) h i n q k f t = at_other (Activity.Rebalance (Rebalance.Replace Replace.Normalise)) h (infant l) (state.Infant s) state.Normal tt refl (λ x d c. d c) h.changed.same q (was_below z r i q (inl k)) f t
  leader_by (Activity.Rebalance (Rebalance.Replace Replace.Retire)) h i n q k f t = none_leads_there _ _ (state_stays (Activity.Rebalance (Rebalance.Replace Replace.Retire)) h q (was_below z r i q (inl k)) apart) f t
    where
      apart : q ≡ l.rebalance.hand → ⊥
      apart e = let x : fate.Live ≡ fate.Dead = sym k ∙ ap (λ p. (r.ledger.rows.fates p).status) e ∙ (won_at (Activity.Rebalance (Rebalance.Replace Replace.Retire)) h i).dead l.rebalance.hand (inl refl) in absurd (cc)
  leader_by a h i n q k f t = none_leads_there _ _ (state_stays a h q (was_below z r i q (inl k)) (λ c. c)) f t

  -- so one that leads now led before
  pub still_leads : (a : Activity) → Happens z r r' s choice l l' a → Shape z r → (IsLead a → ⊥) → (q : ℕ) → IsLive r.ledger.rows q → is_leading ((rows_in (word z r'.world)).state q) ≡ true → is_leading ((rows_in (word z r.world)).state q) ≡ true
  still_leads a h i n q k t = which (leading_was (rows_in (word z r.world)) (rows_in (word z r'.world)) r.ledger.rows r'.ledger.rows (length r.history.log) q k (row_event a h i) t)
    where
      which : (is_leading ((rows_in (word z r.world)).state q) ≡ true) ⊎ ((rows_in (word z r.world)).state q ≡ row.Normal) → is_leading ((rows_in (word z r.world)).state q) ≡ true
      which (inl e) = e
      which (inr f) = absurd (leader_by a h i n q k f t)

  -- where the seat makes its row a leader, each other one did
  pub others_lead : (a : Activity) → Happens z r r' s choice l l' a → Shape z r → IsLead a → (q : ℕ) → IsLive r.ledger.rows q → q ≢ l.row → is_leading ((rows_in (word z r'.world)).state q) ≡ true → is_leading ((rows_in (word z r.world)).state q) ≡ true
  others_lead (Activity.Rebalance (Rebalance.Engage Engage.Lead)) h i x q k d t = ap (λ w. is_leading (state_seen (state_of w))) (sym (state_stays (Activity.Rebalance (Rebalance.Engage Engage.Lead)) h q (was_below z r i q (inl k)) (λ c. d c))) ∙ t
  others_lead a h i x q k d t = absurd x

  -- and nobody had engaged one that nobody has engaged
  pub still_unled : (a : Activity) → Happens z r r' s choice l l' a → Shape z r → (q : ℕ) → IsLive r.ledger.rows q → is_unled ((rows_in (word z r'.world)).state q) ≡ true → is_unled ((rows_in (word z r.world)).state q) ≡ true
  still_unled a h i q k u = unled_was (rows_in (word z r.world)) (rows_in (word z r'.world)) r.ledger.rows r'.ledger.rows (length r.history.log) q k (row_event a h i) u

  -- The range.

  -- a key that a row of the list has is one that it had
  pub still_holds : (a : Activity) → Happens z r r' s choice l l' a → Shape z r → (q key : ℕ) → IsLive r.ledger.rows q → HoldsKey (rows_in (word z r'.world)) r'.ledger.rows q key → HoldsKey (rows_in (word z r.world)) r.ledger.rows q key
  still_holds a h i q key k y = record {
    from = omega (arith, y.from, linked_least a h i q (inl k));
    below = λ u e. y.below u ((linked_keeps a h i q (inl k)).upper ∙ e);
  }
