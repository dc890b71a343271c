-- Every event keeps what holds of the positions at which rows were linked and unlinked, and of the
-- entries of dead rows.
--
-- A row is dead from the event on that replaces it, by a seat that has gone by all its entries: so
-- no attempt of the row is stamped from then on, and each one that is was stamped before.
use Rattle.std.proofs.Common.{ℕ, ◌≡◌, ◌⊎◌, inl, inr, ◌+◌, ◌<◌, ◌≤◌, true, false, Some, arith, refl, sym, ◌∙◌, ap, subst, length, slice_get}
use Rattle.std.proofs.lemmas.Bool.{cases_eq}
use Rattle.kw_words.specs.declared.layout.Name.TheVariants as name
use Rattle.kw_words.specs.declared.state.State.TheVariants as state
use Rattle.kw_words.specs.Link.{link_word}
use Rattle.kw_words.specs.State.{state_word}
use Rattle.kw_rows.specs.Events.{IsIn}
use Rattle.kw_rows.specs.Ledger.{Dead, Fate, Free, Infant, IsDead, Ledger, Live}
use Rattle.kw_rows.specs.Rows.{WasLinked}
use Rattle.kw_rows.proofs.Lists.{in_or_not}
use Rattle.kw_world.specs.declared.activity.Activity.{Activity}
use Rattle.kw_world.specs.declared.activity.rebalance.Rebalance.TheVariants as Rebalance
use Rattle.kw_world.specs.declared.activity.rebalance.replace.Replace.TheVariants as Replace
use Rattle.kw_world.specs.declared.activity.rebalance.seek.Seek.TheVariants as Seek
use Rattle.kw_world.specs.declared.event.Choice.{Choice}
use Rattle.kw_world.specs.declared.local.Local.{Local}
use Rattle.kw_world.specs.ReplaceTransitions.{replaced_link}
use Rattle.kw_world.specs.SeekTransitions.{infant}
use Rattle.kw_world.specs.Sizes.{Sizes}
use Rattle.kw_world.specs.Step.{word}
use Rattle.kw_world.specs.WriteTransitions.{unmarked_link}
use Rattle.kw_core.specs.Ledger as ledger
use Rattle.kw_core.specs.Ledger.{fate_dead, group_of}
use Rattle.kw_core.specs.declared.history.Attempt.{Attempt}
use Rattle.kw_core.specs.History.{attempt}
use Rattle.kw_core.specs.Run.{Run}
use Rattle.kw_core.specs.Stages.{IsFresh, IsPublished, IsPutting}
use Rattle.kw_core.specs.Step.{AttemptStep, Step, as_it_was, is_added, is_announced, is_lost, is_stamped}
use Rattle.kw_core.proofs.Fates.{fate_of_freed, fate_of_full, fate_of_given, fate_of_new, fate_of_taken, fate_stays, none_freed, none_replaced, none_taken}
use Rattle.kw_core.proofs.Happens.{Happens, log_entry}
use Rattle.kw_core.proofs.Steps.{now_grows}
use Rattle.kw_shape.proofs.Hands.{of_group}
use Rattle.kw_shape.proofs.LinkedRows.{ComesNow, linked_before, linked_keeps}
use Rattle.kw_puts.specs.Below.{Below}
use Rattle.kw_puts.specs.Freezes.{HasFrozen, HasPassed, IsFrozen, IsOfGroup, IsSettled}
use Rattle.kw_puts.specs.Puts.{IsCurrent, IsHere, IsOld, IsOver, OwnsAttempt, entry_of}
use Rattle.kw_puts.proofs.Freezes.{settled_stays}
use Rattle.kw_puts.proofs.FrozenRows.{not_pending}
use Rattle.kw_puts.proofs.GroupRows.{frozen_linked}
use Rattle.kw_puts.proofs.OwnAttempts.{entry_pending}
use Rattle.kw_puts.proofs.RelyEntry.{fresh_published}
use Rattle.kw_puts.proofs.HereStays.{here_was}
use Rattle.kw_puts.proofs.Owners.{true_false}

-- the row is one of the group that the event replaces: it is dead from this position on
pub record Buried (g g' : Ledger) (s now : ℕ) (l : Local) (a : Activity) (q : ℕ) : Type 0 where
  pub replaces : a ≡ Activity.Rebalance (Rebalance.Replace Replace.Exchange)
  pub full : IsOfGroup l q
  pub fate : g'.fates q ≡ fate_dead s now (g.fates q)

-- a row whose fate is as it was
dead_same : (g g' : Ledger) (q : ℕ) → g'.fates q ≡ g.fates q → IsDead g' q → IsDead g q
dead_same g g' q e d = ap (λ (f : Fate). f.status) (sym e) ∙ d

module _ {z : Sizes} {r r' : Run} {s : ℕ} {choice : Choice} {l l' : Local} where
  -- a dead row was dead, or is one of those that are replaced now
  pub dead_was : (a : Activity) → Happens z r r' s choice l l' a → (q : ℕ) → IsDead r'.ledger.rows q → IsDead r.ledger.rows q ⊎ Buried r.ledger.rows r'.ledger.rows s (length r.history.log) l a q
  dead_was (Activity.Rebalance (Rebalance.Seek Seek.Reclaim)) h q d = which (cases_eq (word z r.world (name.State l.rebalance.sought)) (state_word (state.Retired l.rebalance.number))) (cases_eq q l.rebalance.sought)
    where
      which : (word z r.world (name.State l.rebalance.sought) ≡ state_word (state.Retired l.rebalance.number)) ⊎ (word z r.world (name.State l.rebalance.sought) ≡ state_word (state.Retired l.rebalance.number) → ⊥) → (q ≡ l.rebalance.sought) ⊎ (q ≡ l.rebalance.sought → ⊥) →
          IsDead r.ledger.rows q ⊎ Buried r.ledger.rows r'.ledger.rows s (length r.history.log) l (Activity.Rebalance (Rebalance.Seek Seek.Reclaim)) q
      which (inl e) (inl c) = let x : Free ≡ Dead = ap (λ (f : Fate). f.status) (sym (fate_of_freed h e)) ∙ ap (λ x. (r'.ledger.rows.fates x).status) (sym c) ∙ d in absurd (cc)
      which (inl e) (inr n) = inl (dead_same r.ledger.rows r'.ledger.rows q (fate_stays (Activity.Rebalance (Rebalance.Seek Seek.Reclaim)) h q n) d)
      which (inr n) c = inl (dead_same r.ledger.rows r'.ledger.rows q (ap (λ (g : ledger.Ledger). g.rows.fates q) (none_freed h n)) d)
  dead_was (Activity.Rebalance (Rebalance.Seek Seek.Take)) h q d = which (cases_eq (word z r.world (name.State l.rebalance.sought)) (state_word state.Free)) (cases_eq q l.rebalance.sought)
    where
      which : (word z r.world (name.State l.rebalance.sought) ≡ state_word state.Free) ⊎ (word z r.world (name.State l.rebalance.sought) ≡ state_word state.Free → ⊥) → (q ≡ l.rebalance.sought) ⊎ (q ≡ l.rebalance.sought → ⊥) →
          IsDead r.ledger.rows q ⊎ Buried r.ledger.rows r'.ledger.rows s (length r.history.log) l (Activity.Rebalance (Rebalance.Seek Seek.Take)) q
      which (inl e) (inl c) = let x : Infant ≡ Dead = ap (λ (f : Fate). f.status) (sym (fate_of_taken h e)) ∙ ap (λ x. (r'.ledger.rows.fates x).status) (sym c) ∙ d in absurd (cc)
      which (inl e) (inr n) = inl (dead_same r.ledger.rows r'.ledger.rows q (fate_stays (Activity.Rebalance (Rebalance.Seek Seek.Take)) h q n) d)
      which (inr n) c = inl (dead_same r.ledger.rows r'.ledger.rows q (ap (λ (g : ledger.Ledger). g.rows.fates q) (none_taken h n)) d)
  dead_was (Activity.Rebalance (Rebalance.Seek Seek.GiveBack)) h q d = which (cases_eq q (infant l))
    where
      which : (q ≡ infant l) ⊎ (q ≡ infant l → ⊥) → IsDead r.ledger.rows q ⊎ Buried r.ledger.rows r'.ledger.rows s (length r.history.log) l (Activity.Rebalance (Rebalance.Seek Seek.GiveBack)) q
      which (inl c) = let x : Free ≡ Dead = ap (λ (f : Fate). f.status) (sym (fate_of_given h)) ∙ ap (λ x. (r'.ledger.rows.fates x).status) (sym c) ∙ d in absurd (cc)
      which (inr n) = inl (dead_same r.ledger.rows r'.ledger.rows q (fate_stays (Activity.Rebalance (Rebalance.Seek Seek.GiveBack)) h q n) d)
  dead_was (Activity.Rebalance (Rebalance.Replace Replace.Exchange)) h q d = which (cases_eq (word z r.world (replaced_link l.rebalance.before)) (link_word (unmarked_link (Some l.row))))
    where
      acts : (IsIn (group_of l) q → ⊥) → (IsIn l.rebalance.taken q → ⊥) → IsIn (group_of l) q ⊎ IsIn l.rebalance.taken q → ⊥
      acts n m (inl c) = n c
      acts n m (inr c) = m c

      here : word z r.world (replaced_link l.rebalance.before) ≡ link_word (unmarked_link (Some l.row)) → IsIn (group_of l) q ⊎ (IsIn (group_of l) q → ⊥) → IsIn l.rebalance.taken q ⊎ (IsIn l.rebalance.taken q → ⊥) →
          IsDead r.ledger.rows q ⊎ Buried r.ledger.rows r'.ledger.rows s (length r.history.log) l (Activity.Rebalance (Rebalance.Replace Replace.Exchange)) q
      here e (inl c) y = inr (record { replaces = refl; full = of_group l q c; fate = fate_of_full h e q c })
      here e (inr n) (inl y) = let x : Live ≡ Dead = ap (λ (f : Fate). f.status) (sym (fate_of_new h e q y n)) ∙ d in absurd (cc)
      here e (inr n) (inr m) = inl (dead_same r.ledger.rows r'.ledger.rows q (fate_stays (Activity.Rebalance (Rebalance.Replace Replace.Exchange)) h q (acts n m)) d)

      which : (word z r.world (replaced_link l.rebalance.before) ≡ link_word (unmarked_link (Some l.row))) ⊎ (word z r.world (replaced_link l.rebalance.before) ≡ link_word (unmarked_link (Some l.row)) → ⊥) →
          IsDead r.ledger.rows q ⊎ Buried r.ledger.rows r'.ledger.rows s (length r.history.log) l (Activity.Rebalance (Rebalance.Replace Replace.Exchange)) q
      which (inl e) = here e (in_or_not (group_of l) q) (in_or_not l.rebalance.taken q)
      which (inr n) = inl (dead_same r.ledger.rows r'.ledger.rows q (ap (λ (g : ledger.Ledger). g.rows.fates q) (none_replaced h n)) d)
  dead_was a h q d = inl (dead_same r.ledger.rows r'.ledger.rows q (fate_stays a h q (λ c. c)) d)

module _ (z : Sizes) (r r' : Run) (s : ℕ) (choice : Choice) (l : Local) (a : Activity) (l' : Local) (h : Happens z r r' s choice l l' a) (i : Below z r) (st : Step r.history r'.history (log_entry z r a s choice l)) where
  -- the event is one more
  now_is : length r'.history.log ≡ length r.history.log + 1
  now_is = now_grows r.history r'.history (log_entry z r a s choice l) st

  -- a row that is or was linked was linked before now
  pub born_keeps : (q : ℕ) → WasLinked r'.ledger.rows q → (r'.ledger.rows.fates q).born ≤ length r'.history.log
  born_keeps q k = which (linked_before a h i.shape q k)
    where
      which : WasLinked r.ledger.rows q ⊎ ComesNow (word z r.world) r.ledger.rows r'.ledger.rows s (length r.history.log) l a q → (r'.ledger.rows.fates q).born ≤ length r'.history.log
      which (inl w) = omega (arith, (linked_keeps a h i.shape q w).born, i.puts.born q w, now_is)
      which (inr y) = omega (arith, ap (λ (f : Fate). f.born) y.fate, now_is)

  -- Of a row that is dead after the event.

  -- it was linked and frozen, and each of its entries was settled
  record WasFull (q : ℕ) : Type 0 where
    linked : WasLinked r.ledger.rows q
    frozen : IsFrozen (word z r.world) q
    settled : (j : ℕ) → j < z.seats → IsSettled (word z r.world) (slice_get r.world.locals) q j

  -- so was each such row, whether it was dead or is replaced now
  was_full : (q : ℕ) → IsDead r'.ledger.rows q → WasFull q
  was_full q d = which (dead_was a h q d)
    where
      replaced : l.activity ≡ Activity.Rebalance (Rebalance.Replace Replace.Exchange) → IsOfGroup l q → WasFull q
      replaced e o =
          let f = i.puts.freezes s l h.knows in
          let x : HasFrozen l.activity l q = subst (λ b. HasFrozen b l q) (sym e) (tt, o) in
          record { linked = frozen_linked z r i.shape s l h.knows q x; frozen = f.count q x; settled = λ j w. f.settled q j (subst (λ b. HasPassed b l q j) (sym e) (tt, o)) w }

      which : IsDead r.ledger.rows q ⊎ Buried r.ledger.rows r'.ledger.rows s (length r.history.log) l a q → WasFull q
      which (inl w) = record { linked = inr w; frozen = ((i.shape.rows.marks q).buried w).1; settled = λ j o. i.puts.dead q j w o }
      which (inr y) = replaced (h.activity ∙ y.replaces) y.full

  -- each of its entries is settled
  pub dead_keeps : (q j : ℕ) → IsDead r'.ledger.rows q → j < z.seats → IsSettled (word z r'.world) (slice_get r'.world.locals) q j
  dead_keeps q j d o = let w = was_full q d in settled_stays z r r' s choice l a l' h i q j w.linked o w.frozen (w.settled j o)

  -- an attempt that may be stamped has a pending entry
  not_settled : (p : ℕ) → p < length r.history.attempts → (attempt r.history p).is_announced ≡ true → (attempt r.history p).is_stamped ≡ false → (attempt r.history p).is_lost ≡ false →
      IsSettled (word z r.world) (slice_get r.world.locals) (attempt r.history p).row (attempt r.history p).seat → ⊥
  not_settled p w announced unstamped kept x = which (i.puts.old p w)
    where
      current : (k : IsCurrent (slice_get r.world.locals) r.seats r.history p) → IsFresh k.local.activity ⊎ IsPublished k.local.activity ⊎ (IsPutting k.local.activity → ⊥) → ⊥
      current k b = by b
        where
          own : OwnsAttempt (word z r.world) r.history (attempt r.history p).seat k.local.activity k.local (r.seats (attempt r.history p).seat)
          own = i.puts.owns (attempt r.history p).seat k.local k.knows k.putting

          is : attempt r.history (r.seats (attempt r.history p).seat).own ≡ attempt r.history p
          is = ap (attempt r.history) k.own

          row : k.local.row ≡ (attempt r.history p).row
          row = sym own.row ∙ ap (λ (y : Attempt). y.row) is

          by : IsFresh k.local.activity ⊎ IsPublished k.local.activity ⊎ (IsPutting k.local.activity → ⊥) → ⊥
          by (inl y) = true_false announced (sym (ap (λ (q : Attempt). q.is_announced) is) ∙ own.unannounced y)
          by (inr (inl y)) = not_pending (word z r.world) (slice_get r.world.locals) (attempt r.history p).row (attempt r.history p).seat (attempt r.history p).cell x
              (ap (λ q. word z r.world (name.Pend q (attempt r.history p).seat)) (sym row) ∙ own.entry y ∙ ap entry_of is ∙ entry_pending (attempt r.history p) kept unstamped)
          by (inr (inr n)) = n k.putting

      over : IsOver r.history p → (((attempt r.history p).is_lost ≡ true) ⊎ ((attempt r.history p).is_announced ≡ false)) → ⊥
      over y (inl e) = true_false e kept
      over y (inr e) = true_false announced e

      which : IsCurrent (slice_get r.world.locals) r.seats r.history p ⊎ IsOld (word z r.world) r.ledger.rows r.history p ⊎ IsOver r.history p → ⊥
      which (inl k) = current k (fresh_published k.local.activity)
      which (inr (inl y)) = true_false y.stamped unstamped
      which (inr (inr y)) = over y y.over

  -- a stamped attempt of a dead row that was not used again was stamped before the row was replaced
  pub gone_keeps : (p : ℕ) → p < length r'.history.attempts → IsHere r'.ledger.rows r'.history p → IsDead r'.ledger.rows (attempt r'.history p).row → (attempt r'.history p).is_stamped ≡ true → (attempt r'.history p).at < (r'.ledger.rows.fates (attempt r'.history p).row).gone
  gone_keeps p w m d e = by (st.attempts p w)
    where
      before : (q n : ℕ) → q ≡ (attempt r.history p).row → n ≡ (attempt r.history p).at → p < length r.history.attempts → (attempt r.history p).is_stamped ≡ true → IsDead r'.ledger.rows q → n < (r'.ledger.rows.fates q).gone
      before q n f g u x y = which (dead_was a h q y)
        where
          which : IsDead r.ledger.rows q ⊎ Buried r.ledger.rows r'.ledger.rows s (length r.history.log) l a q → n < (r'.ledger.rows.fates q).gone
          which (inl k) =
              let same = (linked_keeps a h i.shape q (inr k)).dead k (inr y) in
              let was : (attempt r.history p).at < (r.ledger.rows.fates q).gone = subst (λ j. (attempt r.history p).at < (r.ledger.rows.fates j).gone) (sym f) (i.puts.gone p u (here_was a h i st p u m) (subst (IsDead r.ledger.rows) f k) x) in
              omega (arith, was, g, ap (λ (j : Fate). j.gone) same)
          which (inr k) = omega (arith, g, i.history.past.at p u x, ap (λ (j : Fate). j.gone) k.fate)

      by : AttemptStep r.history r'.history p → (attempt r'.history p).at < (r'.ledger.rows.fates (attempt r'.history p).row).gone
      by (as_it_was u x) = before (attempt r'.history p).row (attempt r'.history p).at (ap (λ (y : Attempt). y.row) x) (ap (λ (y : Attempt). y.at) x) u (sym (ap (λ (y : Attempt). y.is_stamped) x) ∙ e) d
      by (is_added y x u c j k n f g) = true_false e (ap (λ (b : Attempt). b.is_stamped) u ∙ g)
      by (is_announced u n x) = before (attempt r'.history p).row (attempt r'.history p).at (ap (λ (y : Attempt). y.row) x) (ap (λ (y : Attempt). y.at) x) u (sym (ap (λ (y : Attempt). y.is_stamped) x) ∙ e) d
      by (is_lost u n x) = true_false e (ap (λ (y : Attempt). y.is_stamped) x ∙ n)
      by (is_stamped version load u b n f c g y x k) =
          let full = was_full (attempt r.history p).row (subst (IsDead r'.ledger.rows) (ap (λ (y : Attempt). y.row) x) d) in
          absurd (not_settled p u b n f (full.settled (attempt r.history p).seat (i.puts.placed p u).seat))
