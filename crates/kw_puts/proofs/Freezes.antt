-- Every event keeps what holds of the rows that seats freeze: their counts stay frozen, and each
-- entry that was gone by is settled. A settled entry is never pending again: a frozen one stays so,
-- a stamped one is cleared by its seat alone, and that seat gets no other cell of a row whose count
-- is frozen.
use Rattle.std.proofs.Common.{ℕ, ◌≡◌, ◌≢◌, ◌⊎◌, inl, inr, ◌+◌, ◌<◌, ◌≤◌, true, false, Option, Some, None, List, arith, refl, sym, ◌∙◌, subst, slice_get}
use Rattle.std.proofs.lemmas.Bool.{cases_eq, cases_lt}
use Rattle.std.proofs.lemmas.Option.{same_Some}
use Rattle.kw_words.specs.declared.layout.Name.TheVariants as name
use Rattle.kw_words.specs.declared.count.Count.{Count as Counted}
use Rattle.kw_words.specs.declared.pend.Pend.{Pend}
use Rattle.kw_words.specs.declared.pend.Pend.TheVariants as pend
use Rattle.kw_words.specs.Count.{count_of}
use Rattle.kw_words.specs.Pend.{pend_of, pend_word}
use Rattle.kw_words.proofs.PendWords.{pend_word_of}
use Rattle.kw_world.specs.declared.activity.Activity.{Activity}
use Rattle.kw_world.specs.declared.activity.rebalance.freeze.Freeze.TheVariants as Freeze
use Rattle.kw_world.specs.declared.activity.rebalance.gather.Gather.TheVariants as Gather
use Rattle.kw_world.specs.declared.activity.look.Look.TheVariants as Look
use Rattle.kw_world.specs.declared.activity.put.Put.TheVariants as Put
use Rattle.kw_world.specs.declared.activity.rebalance.Rebalance.TheVariants as Rebalance
use Rattle.kw_world.specs.declared.local.Local.{Local}
use Rattle.kw_world.specs.declared.marks.Mark.{Mark}
use Rattle.kw_world.specs.declared.event.Choice.{Choice}
use Rattle.kw_world.specs.FreezeTransitions.{marking}
use Rattle.kw_world.specs.PutTransitions.{has_room}
use Rattle.kw_world.specs.Sane.{IsActivity, IsEntry, IsGiven}
use Rattle.kw_world.specs.Sizes.{Sizes}
use Rattle.kw_world.specs.Step.{word}
use Rattle.kw_core.specs.Run.{Run}
use Rattle.kw_core.specs.Stages.{IsFresh}
use Rattle.kw_core.specs.Words.{Words}
use Rattle.kw_core.proofs.Building.{Building, makes_normal, makes_last_normal, draws_number, retires_ahead, retires_row, retires_and_leaves}
use Rattle.kw_core.proofs.Arrows.{builds, Arrow, NextLook, looks, lists, NextLeftOver, goes_to_left_over, answers, ends_scan, scans_on, decides, marks_led, asks_of_pin, looks_at_pin}
use Rattle.kw_core.proofs.Arrows.{sees_stamped, sees_neither, is_gone_by, helps, finds_stamped, finds_other, list_ends, key_above, left_over_gone_by, gathers_left_over, takes_cell, stores_key, stores_value}
use Rattle.kw_core.proofs.Arrows.{freezes_count, sees_idle, sees_unstamped, remembers, remembers_last, sees_frozen, sees_frozen_last, freezes_entry, freezes_last, looks_again, sees_quiet, sees_quiet_last, helps_scan, sees_drawn, sees_drawn_last, draws_for, settles_scan, settles_last, finds_drawn, finds_drawn_last, finds_no_scan, finds_no_scan_last}
use Rattle.kw_core.proofs.Arrows.{take_leads, takes_left, takes_no_more, takes_key, takes_version, keeps_taken, takes_left_key, keeps_left, keeps_no_more, first_ends, marks_led, decides, next_leads, marks_next}
use Rattle.kw_core.proofs.FreezeFrame.{entry_frozen, entry_left, freezes_given}
use Rattle.kw_core.proofs.BuiltNext.{IsAfterBuilding, built_keeps, built_next}
use Rattle.kw_core.proofs.Grouping.{goes_alone, claims_row, NextCounted, NextFrozen, NextGathered, freezes_ahead, froze_all, gathered_all, gathers_ahead}
use Rattle.kw_rows.specs.Rows.{WasLinked}
use Rattle.kw_shape.specs.Hands.{Hand, HasHand}
use Rattle.kw_shape.specs.Shape.{Shape}
use Rattle.kw_shape.proofs.AfterBuilding.{frozen_builds, no_call_of_pin, kind_at}
use Rattle.kw_shape.proofs.LinkedRows.{linked_entry, was_below}
use Rattle.kw_core.proofs.Happens.{Happens, knows_next, knows_other, not_exchanged}
use Rattle.kw_shape.specs.RowsIn.{has_frozen}
use Rattle.kw_puts.specs.Freezes.{IsFrozen, IsToFreeze, IsUnsettled, HasFrozen, HasPassed, IsAllFrozen, IsBehind, IsOfGroup, IsSettled, settled_frozen, settled_stamped, settled_idle, Freezes}
use Rattle.kw_puts.specs.Below.{Below}
use Rattle.kw_puts.proofs.BuiltStages.{balancing_puts, counted_not, freezing_goes, gathering_goes, of_pin_is}
use Rattle.kw_puts.proofs.Owners.{true_false}
use Rattle.kw_puts.proofs.RelyEntry.{fresh_puts}
use Rattle.kw_puts.proofs.NewAttempts.{stays_frozen}
use Rattle.kw_puts.proofs.OwnAttempts.{built_puts, look_puts, cell_puts}
use Rattle.kw_puts.proofs.Entries.{idle_stays, frozen_stays}
use Rattle.kw_puts.proofs.GroupRows.{all_frozen, first_at_hand, frozen_linked, none_ahead, of_group_before, second_apart}

-- A stamped entry.

-- what stands in an entry stays, if it does at the one place that an event writes
kept_at : (v v' : Words) (row i q t x : ℕ) → (v (name.Pend row i) ≡ x → v' (name.Pend row i) ≡ x) → ((q ≡ row → t ≡ i → ⊥) → v' (name.Pend q t) ≡ v (name.Pend q t)) → v (name.Pend q t) ≡ x → v' (name.Pend q t) ≡ x
kept_at v v' row i q t x here there = which (cases_eq q row) (cases_eq t i)
  where
    which : (q ≡ row) ⊎ (q ≡ row → ⊥) → (t ≡ i) ⊎ (t ≡ i → ⊥) → v (name.Pend q t) ≡ x → v' (name.Pend q t) ≡ x
    which (inl f) (inl g) e = rw (f, g) (here (rw (f, g) at e))
    which (inl f) (inr d) e = there (λ u k. d k) ∙ e
    which (inr d) g e = there (λ u k. d u) ∙ e

-- neither an idle nor a pending entry is a stamped one
not_idle : (c n : ℕ) → pend_word (pend.Stamped c n) ≢ pend_word pend.Idle
not_idle c n e = omega (arith, e)

not_pending : (c n d : ℕ) → pend_word (pend.Stamped c n) ≢ pend_word (pend.Pending d)
not_pending c n d e = omega (arith, e)

-- nor is it one that is to be frozen
pub not_unsettled : (x : Pend) (c n : ℕ) → IsUnsettled x → pend_word (pend.Stamped c n) ≢ pend_word x
not_unsettled pend.Idle c n u e = not_idle c n e
not_unsettled (pend.Pending d) c n u e = not_pending c n d e
not_unsettled (pend.Stamped d m) c n u e = u
not_unsettled pend.Frozen c n u e = u

-- a stamped entry of a row that is or was linked stays so until its seat clears it
stamped_stays : (z : Sizes) (r r' : Run) (s : ℕ) (choice : Choice) (l : Local) (a : Activity) (l' : Local) → Happens z r r' s choice l l' a → Below z r → (q j c n : ℕ) → WasLinked r.ledger.rows q → j < z.seats → word z r.world (name.Pend q j) ≡ pend_word (pend.Stamped c n) →
    (word z r'.world (name.Pend q j) ≡ pend_word (pend.Stamped c n)) ⊎ (a ≡ Activity.Put Put.Clear) × (q ≡ l.row) × (j ≡ s) × (word z r'.world (name.Pend q j) ≡ pend_word pend.Idle)
stamped_stays z r r' s choice l (Activity.Put Put.Announce) l' h i q j c n b o e = inl (kept_at (word z r.world) (word z r'.world) l.row s q j _ (λ y. not_exchanged _ _ _ _ h.changed.same (λ u. not_idle c n (sym y ∙ u)) ∙ y) (λ d. linked_entry (Activity.Put Put.Announce) h i.shape q j b o (λ x u k. d u k) (λ x u k. x) (λ x u. x)) e)
stamped_stays z r r' s choice l (Activity.Put Put.Stamp) l' h i q j c n b o e = inl (kept_at (word z r.world) (word z r'.world) l.row s q j _ (λ y. not_exchanged _ _ _ _ h.changed.same (λ u. not_pending c n l.cell (sym y ∙ u)) ∙ y) (λ d. linked_entry (Activity.Put Put.Stamp) h i.shape q j b o (λ x u k. d u k) (λ x u k. x) (λ x u. x)) e)
stamped_stays z r r' s choice l (Activity.Look Look.Help) l' h i q j c n b o e = inl (kept_at (word z r.world) (word z r'.world) l.row l.looked q j _ (λ y. not_exchanged _ _ _ _ h.changed.same (λ u. not_pending c n l.saw (sym y ∙ u)) ∙ y) (λ d. linked_entry (Activity.Look Look.Help) h i.shape q j b o (λ x u k. x) (λ x u k. d u k) (λ x u. x)) e)
stamped_stays z r r' s choice l (Activity.Rebalance (Rebalance.Freeze (Freeze.Entry m))) l' h i q j c n b o e = inl (kept_at (word z r.world) (word z r'.world) l.rebalance.hand m q j _ (λ y. entry_left m h (λ u. not_unsettled l.rebalance.entry c n unsettled (sym y ∙ u)) ∙ y) (λ d. linked_entry (Activity.Rebalance (Rebalance.Freeze (Freeze.Entry m))) h i.shape q j b o (λ x u k. x) (λ x u k. x) (λ x u. d u x)) e)
  where
    unsettled : IsUnsettled l.rebalance.entry
    unsettled = subst (λ x. IsToFreeze x l) h.activity (i.puts.tries s l h.knows)
stamped_stays z r r' s choice l (Activity.Put Put.Clear) l' h i q j c n b o e = which (cases_eq q l.row) (cases_eq j s)
  where
    which : (q ≡ l.row) ⊎ (q ≡ l.row → ⊥) → (j ≡ s) ⊎ (j ≡ s → ⊥) → (word z r'.world (name.Pend q j) ≡ pend_word (pend.Stamped c n)) ⊎ ((Activity.Put Put.Clear) ≡ Activity.Put Put.Clear) × (q ≡ l.row) × (j ≡ s) × (word z r'.world (name.Pend q j) ≡ pend_word pend.Idle)
    which (inl f) (inl g) = inr (refl, f, g, rw (f, g) h.changed.same)
    which (inl f) (inr d) = inl (linked_entry (Activity.Put Put.Clear) h i.shape q j b o (λ x u k. d k) (λ x u k. x) (λ x u. x) ∙ e)
    which (inr d) g = inl (linked_entry (Activity.Put Put.Clear) h i.shape q j b o (λ x u k. d u) (λ x u k. x) (λ x u. x) ∙ e)
stamped_stays z r r' s choice l a l' h i q j c n b o e = inl (linked_entry a h i.shape q j b o (λ x u k. x) (λ x u k. x) (λ x u. x) ∙ e)

-- A settled entry.

-- a seat that has a cell which is not announced had it before its event, or was given it
fresh_from : (z : Sizes) (v : Words) (s : ℕ) (choice : Choice) (l : Local) (a : Activity) (l' : Local) → Arrow z v s choice l a l' → IsFresh l'.activity → (l'.row ≡ l.row) × (IsFresh a ⊎ (a ≡ Activity.Put Put.Add) × (has_room z (count_of (v (name.Count l.row))) ≡ true))
fresh_from z v s choice l a l' (builds b next y t) p = built_puts next.activity (built_next z v choice l b next t) (fresh_puts next.activity p)
fresh_from z v s choice l a l' (asks_of_pin next o n) p = absurd (of_pin_is (λ b. IsFresh b → ⊥) (λ y. y) (λ y. y) (λ y. y) (λ y. y) (λ y. y) (λ y. y) n p)
fresh_from z v s choice l a l' (takes_cell m) p = (refl, inr (refl, m))
fresh_from z v s choice l a l' stores_key p = (refl, inl tt)
fresh_from z v s choice l a l' stores_value p = (refl, inl tt)
fresh_from z v s choice l a l' (sees_stamped j c version next e n) p = look_puts z _ next n (fresh_puts next p)
fresh_from z v s choice l a l' (sees_neither j next e n) p = look_puts z _ next n (fresh_puts next p)
fresh_from z v s choice l a l' (is_gone_by next e n) p = look_puts z _ next n (fresh_puts next p)
fresh_from z v s choice l a l' (helps next e n) p = look_puts z _ next n (fresh_puts next p)
fresh_from z v s choice l a l' (finds_stamped c version next e n) p = look_puts z _ next n (fresh_puts next p)
fresh_from z v s choice l a l' (finds_other next e n) p = look_puts z _ next n (fresh_puts next p)
fresh_from z v s choice l a l' (first_ends next e n) p = cell_puts _ next n (fresh_puts next.activity p)
fresh_from z v s choice l a l' (list_ends next e n) p = cell_puts _ next n (fresh_puts next.activity p)
fresh_from z v s choice l a l' (key_above next e n) p = cell_puts _ next n (fresh_puts next.activity p)
fresh_from z v s choice l a l' (left_over_gone_by next e n) p = cell_puts _ next n (fresh_puts next.activity p)
fresh_from z v s choice l a l' (gathers_left_over next n) p = cell_puts _ next n (fresh_puts next.activity p)
fresh_from z v s choice l (Activity.Rebalance (Rebalance.Freeze f)) l' x p = balancing_puts l'.activity (freezing_goes z v s choice l f l' x) (fresh_puts l'.activity p)
fresh_from z v s choice l (Activity.Rebalance (Rebalance.Gather g)) l' x p = balancing_puts l'.activity (gathering_goes z v s choice l g l' x) (fresh_puts l'.activity p)
fresh_from z v s choice l a l' (marks_led count next d n) p = absurd (counted_not IsFresh (λ x. x) (λ x. x) n p)
fresh_from z v s choice l a l' (decides count m next e n) p = absurd (counted_not IsFresh (λ x. x) (λ x. x) n p)
fresh_from z v s choice l a l' _ p = absurd p

-- A seat that has frozen rows.

-- an entry that it has gone by is one of a row that it has frozen
pub passed_frozen : (a : Activity) (l : Local) (q j : ℕ) → HasPassed a l q j → HasFrozen a l q
passed_frozen (Activity.Rebalance (Rebalance.Freeze (Freeze.Look i))) l q j (inl x) = inl x
passed_frozen (Activity.Rebalance (Rebalance.Freeze (Freeze.Look i))) l q j (inr x) = inr x.0
passed_frozen (Activity.Rebalance (Rebalance.Freeze (Freeze.Entry i))) l q j (inl x) = inl x
passed_frozen (Activity.Rebalance (Rebalance.Freeze (Freeze.Entry i))) l q j (inr x) = inr x.0
passed_frozen _ l q j x = x

-- where all rows are frozen, it has gone by each entry of each
pub all_passed : (a : Activity) (l : Local) (q j : ℕ) → IsAllFrozen a → IsOfGroup l q → HasPassed a l q j
all_passed (Activity.Rebalance (Rebalance.Freeze Freeze.Count)) l q j x y = absurd x
all_passed (Activity.Rebalance (Rebalance.Freeze (Freeze.Look i))) l q j x y = absurd x
all_passed (Activity.Rebalance (Rebalance.Freeze (Freeze.Entry i))) l q j x y = absurd x
all_passed _ l q j x y = (x, y)

-- where it goes on to build new rows, it has frozen all
after_all : (a : Activity) (l : Local) (q : ℕ) → IsAfterBuilding a → HasFrozen a l q → IsAllFrozen a × IsOfGroup l q
after_all (Activity.Rebalance (Rebalance.Freeze Freeze.Count)) l q n x = absurd n
after_all (Activity.Rebalance (Rebalance.Freeze (Freeze.Look i))) l q n x = absurd n
after_all (Activity.Rebalance (Rebalance.Freeze (Freeze.Entry i))) l q n x = absurd n
after_all _ l q n x = x

-- where it has not replaced its group after an event, it had not before
built_frozen : (z : Sizes) (v : Words) (choice : Choice) (l : Local) (a : Activity) (k : Local) → Building z v choice l a k → IsAllFrozen k.activity → IsAllFrozen a
built_frozen z v choice l a k (makes_normal o) x = absurd x
built_frozen z v choice l a k (makes_last_normal o) x = absurd x
built_frozen z v choice l a k draws_number x = absurd x
built_frozen z v choice l a k (retires_ahead q e) x = absurd x
built_frozen z v choice l a k (retires_row e nd) x = absurd x
built_frozen z v choice l a k (retires_and_leaves e dn) x = absurd x
built_frozen z v choice l a k _ x = tt

-- a frozen row gives no cell
frozen_no_room : (z : Sizes) (x : Option Counted) → has_frozen x ≡ true → has_room z x ≡ false
frozen_no_room z (Some c) e = rw e refl
frozen_no_room z None e = refl

module _ (z : Sizes) (r r' : Run) (s : ℕ) (choice : Choice) (l : Local) (a : Activity) (l' : Local) (h : Happens z r r' s choice l l' a) (i : Below z r) where
  -- a seat that has no cell of a frozen row which it may announce gets none
  none_fresh : (q j : ℕ) → IsFrozen (word z r.world) q → ((k : Local) → slice_get r.world.locals j ≡ Some k → IsFresh k.activity → k.row ≡ q → ⊥) → (k : Local) → slice_get r'.world.locals j ≡ Some k → IsFresh k.activity → k.row ≡ q → ⊥
  none_fresh q j f n k g p e = which (cases_eq j s)
    where
      mine : j ≡ s → k ≡ l' → ⊥
      mine x y = by (fresh_from z (word z r.world) s choice l a l' h.arrow (subst (λ (b : Local). IsFresh b.activity) y p))
        where
          row : l'.row ≡ q
          row = subst (λ (b : Local). b.row ≡ q) y e

          by : (l'.row ≡ l.row) × (IsFresh a ⊎ (a ≡ Activity.Put Put.Add) × (has_room z (count_of (word z r.world (name.Count l.row))) ≡ true)) → ⊥
          by (u, inl w) = n l (rw x h.knows) (subst IsFresh (sym h.activity) w) (sym u ∙ row)
          by (u, inr w) = true_false w.1 (frozen_no_room z _ (subst (IsFrozen (word z r.world)) (sym row ∙ u) f))

      which : (j ≡ s) ⊎ (j ≡ s → ⊥) → ⊥
      which (inl x) = mine x (same_Some k l' (sym g ∙ rw x (knows_next h)))
      which (inr d) = n k (sym (knows_other h j d) ∙ g) p e

  -- a settled entry of a frozen row stays settled
  pub settled_stays : (q j : ℕ) → WasLinked r.ledger.rows q → j < z.seats → IsFrozen (word z r.world) q → IsSettled (word z r.world) (slice_get r.world.locals) q j → IsSettled (word z r'.world) (slice_get r'.world.locals) q j
  settled_stays q j b o f (settled_frozen e) = settled_frozen (frozen_stays z r r' s choice l a l' h i q j b o e)
  settled_stays q j b o f (settled_stamped c n e) = which (stamped_stays z r r' s choice l a l' h i q j c n b o e)
    where
      -- the seat that clears its entry has no other cell
      cleared : a ≡ Activity.Put Put.Clear → j ≡ s → (k : Local) → slice_get r.world.locals j ≡ Some k → IsFresh k.activity → k.row ≡ q → ⊥
      cleared x y k g p w =
          let is : k ≡ l = same_Some k l (sym g ∙ rw y h.knows) in
          subst IsFresh (h.activity ∙ x) (subst (λ (u : Local). IsFresh u.activity) is p)

      which : (word z r'.world (name.Pend q j) ≡ pend_word (pend.Stamped c n)) ⊎ (a ≡ Activity.Put Put.Clear) × (q ≡ l.row) × (j ≡ s) × (word z r'.world (name.Pend q j) ≡ pend_word pend.Idle) → IsSettled (word z r'.world) (slice_get r'.world.locals) q j
      which (inl x) = settled_stamped c n x
      which (inr x) = settled_idle x.3 (none_fresh q j f (cleared x.0 x.2))
  settled_stays q j b o f (settled_idle e n) = which (idle_stays z r r' s choice l a l' h i q j (was_below z r i.shape q b) o announces e)
    where
      announces : a ≡ Activity.Put Put.Announce → q ≡ l.row → j ≡ s → ⊥
      announces x y u = n l (rw u h.knows) (subst IsFresh (sym (h.activity ∙ x)) tt) (sym y)

      which : (word z r'.world (name.Pend q j) ≡ pend_word pend.Idle) ⊎ (word z r'.world (name.Pend q j) ≡ pend_word pend.Frozen) → IsSettled (word z r'.world) (slice_get r'.world.locals) q j
      which (inl x) = settled_idle x (none_fresh q j f n)
      which (inr x) = settled_frozen x

  frozen_still : (q : ℕ) → WasLinked r.ledger.rows q → IsFrozen (word z r.world) q → IsFrozen (word z r'.world) q
  frozen_still q b f = stays_frozen a h i.shape q b f

  -- what another seat has frozen, and what any seat has that does not act on it
  pub freezes_other : (t : ℕ) (k : Local) → slice_get r.world.locals t ≡ Some k → Freezes z (word z r'.world) (slice_get r'.world.locals) k.activity k
  freezes_other t k g =
      let b = frozen_linked z r i.shape t k g in
      let was = i.puts.freezes t k g in
      record {
        count = λ q x. frozen_still q (b q x) (was.count q x);
        settled = λ q j x o. let f = passed_frozen k.activity k q j x in settled_stays q j (b q f) o (was.count q f) (was.settled q j x o);
      }

  -- The acting seat.

  abbrev SettledNow : ℕ → ℕ → Type 0
  SettledNow q j = IsSettled (word z r'.world) (slice_get r'.world.locals) q j

  abbrev FreezesNow : Activity → Local → Type 0
  FreezesNow b k = Freezes z (word z r'.world) (slice_get r'.world.locals) b k

  -- which row it has at hand
  pub its_hand : HasHand a → Hand l
  its_hand x = (i.shape.balances s l h.knows).hands (subst HasHand (sym h.activity) x)

  -- a row that it has frozen is or was linked
  pub its_row : (q : ℕ) → HasFrozen a l q → WasLinked r.ledger.rows q
  its_row q x = frozen_linked z r i.shape s l h.knows q (subst (λ b. HasFrozen b l q) (sym h.activity) x)

  -- it was frozen, and is so
  was_frozen : (q : ℕ) → HasFrozen a l q → IsFrozen (word z r.world) q
  was_frozen q x = (i.puts.freezes s l h.knows).count q (subst (λ b. HasFrozen b l q) (sym h.activity) x)

  is_frozen : (q : ℕ) → HasFrozen a l q → IsFrozen (word z r'.world) q
  is_frozen q x = frozen_still q (its_row q x) (was_frozen q x)

  -- an entry that it had gone by
  gone_by : (q j : ℕ) → HasPassed a l q j → j < z.seats → SettledNow q j
  gone_by q j x o = let f = passed_frozen a l q j x in settled_stays q j (its_row q f) o (was_frozen q f) ((i.puts.freezes s l h.knows).settled q j (subst (λ b. HasPassed b l q j) (sym h.activity) x) o)

  -- what it knows then, where it goes by no entry
  goes_on : (b : Activity) (k : Local) → ((q : ℕ) → HasFrozen b k q → HasFrozen a l q) → ((q j : ℕ) → HasPassed b k q j → HasPassed a l q j) → FreezesNow b k
  goes_on b k f g = record { count = λ q x. is_frozen q (f q x); settled = λ q j x o. gone_by q j (g q j x) o }

  -- where it has frozen no row
  unfrozen : (b : Activity) (k : Local) → ((q : ℕ) → HasFrozen b k q → ⊥) → FreezesNow b k
  unfrozen b k n = record { count = λ q x. absurd (n q x); settled = λ q j x. absurd (n q (passed_frozen b k q j x)) }

  -- where it goes by entry m of the row at hand, which is settled after the event
  module _ (m : ℕ) (before : (q : ℕ) → IsBehind l q ⊎ (q ≡ l.rebalance.hand) → HasFrozen a l q) (passed : (q j : ℕ) → IsBehind l q ⊎ (q ≡ l.rebalance.hand) × (j < m) → HasPassed a l q j) (now : SettledNow l.rebalance.hand m) where
    one_more : (n q j : ℕ) → n ≤ m + 1 → IsBehind l q ⊎ (q ≡ l.rebalance.hand) × (j < n) → j < z.seats → SettledNow q j
    one_more n q j u (inl x) o = gone_by q j (passed q j (inl x)) o
    one_more n q j u (inr x) o = which (cases_lt j m)
      where
        which : (j < m) ⊎ (m ≤ j) → SettledNow q j
        which (inl w) = gone_by q j (passed q j (inr (x.0, w))) o
        which (inr w) = let e : j ≡ m = omega (arith, w, x.1, u) in rw (x.0, e) now

    -- the next entry of that row is next
    next_entry : (marks : List Mark) → FreezesNow (Activity.Rebalance (Rebalance.Freeze (Freeze.Look (m + 1)))) (record l { rebalance = record l.rebalance { marks = marks }; activity = Activity.Rebalance (Rebalance.Freeze (Freeze.Look (m + 1))) })
    next_entry marks = record { count = λ q x. is_frozen q (before q x); settled = λ q j x o. one_more (m + 1) q j (omega arith) x o }

    -- that was the last one, and the row is frozen
    last_entry : (marks : List Mark) (k : Local) → z.seats ≤ m + 1 → HasHand a → NextFrozen (record l { rebalance = record l.rebalance { marks = marks } }) k → FreezesNow k.activity k
    last_entry marks k u p (freezes_ahead q e) =
        let first = first_at_hand l q (its_hand p) e in
        record {
          count = λ y x. is_frozen y (before y (inr (x.1 ∙ sym first)));
          settled = λ y j x o. one_more z.seats y j u (inr (x.1 ∙ sym first, o)) o;
        }
    last_entry marks k u p (froze_all e) = record {
      count = λ y x. is_frozen y (before y (whole y x.1));
      settled = λ y j x o. one_more z.seats y j u (within y j o (whole y x.1)) o;
    }
      where
        whole : (y : ℕ) → IsOfGroup l y → IsBehind l y ⊎ (y ≡ l.rebalance.hand)
        whole y x = none_ahead l y (its_hand p) e x

        within : (y j : ℕ) → j < z.seats → IsBehind l y ⊎ (y ≡ l.rebalance.hand) → IsBehind l y ⊎ (y ≡ l.rebalance.hand) × (j < z.seats)
        within y j o (inl x) = inl x
        within y j o (inr x) = inr (x, o)

-- What a look, or a cell, leads to freezes no row.

pub look_freezes : (z : Sizes) (j : ℕ) (a : Activity) (l : Local) (q : ℕ) → NextLook z j a → HasFrozen a l q → ⊥
look_freezes z j a l q (looks o) p = p.0
look_freezes z j a l q (lists o) p = p.0

-- where it is known how many rows go, none is frozen
counted_freezes : (z : Sizes) (r : Run) → Shape z r → (t : ℕ) (n : Local) → slice_get r.world.locals t ≡ Some n → {count : ℕ} {l : Local} → NextCounted count l n → (q : ℕ) → HasFrozen n.activity n q → ⊥
counted_freezes z r i t n g (claims_row p two e) q x = x.0
counted_freezes z r i t n g (goes_alone d) q x = second_apart z r i t n g tt x.0

pub left_over_freezes : (l : Local) (n : Local) (q : ℕ) → NextLeftOver l n → HasFrozen n.activity n q → ⊥
left_over_freezes l n q (goes_to_left_over m o) p = p.0
left_over_freezes l n q (answers o e) p = p.0
left_over_freezes l n q (ends_scan o e f) p = p.0
left_over_freezes l n q (scans_on y o e f g) p = p.0

-- where a row is gathered, all rows of the group are frozen
gathered_group : (z : Sizes) (l : Local) (k : Local) (q : ℕ) → NextGathered z l k → HasFrozen k.activity k q → IsOfGroup l q
gathered_group z l k q (gathers_ahead y e) x = x.1
gathered_group z l k q (gathered_all e) x = x.1

-- a count that is frozen now
frozen_now : (z : Sizes) (r r' : Run) (s : ℕ) (choice : Choice) (l l' : Local) → Happens z r r' s choice l l' (Activity.Rebalance (Rebalance.Freeze Freeze.Count)) → Below z r → IsFrozen (word z r'.world) l.rebalance.hand
frozen_now z r r' s choice l l' h i = by _ refl (i.shape.sane.each (name.Count l.rebalance.hand) (i.shape.sane.locals s l h.knows).below.rebalance.hand)
  where
    by : (x : Option Counted) → count_of (word z r.world (name.Count l.rebalance.hand)) ≡ x → IsGiven x → IsFrozen (word z r'.world) l.rebalance.hand
    by (Some c) e g = rw (freezes_given h c e) refl
    by None e g = absurd g

-- an entry that a seat looks at, and that reads neither idle nor pending, is settled after the
-- event
looked_settled : (z : Sizes) (r r' : Run) (s : ℕ) (choice : Choice) (l l' : Local) (m : ℕ) → Happens z r r' s choice l l' (Activity.Rebalance (Rebalance.Freeze (Freeze.Look m))) → Below z r → (m < z.seats → IsSettled (word z r.world) (slice_get r.world.locals) l.rebalance.hand m) → IsSettled (word z r'.world) (slice_get r'.world.locals) l.rebalance.hand m
looked_settled z r r' s choice l l' m h i x =
    let o = subst (IsActivity z) h.activity (i.shape.sane.locals s l h.knows).ranges.activity in
    settled_stays z r r' s choice l (Activity.Rebalance (Rebalance.Freeze (Freeze.Look m))) l' h i l.rebalance.hand m (its_row z r r' s choice l (Activity.Rebalance (Rebalance.Freeze (Freeze.Look m))) l' h i l.rebalance.hand (inr refl)) o (was_frozen z r r' s choice l (Activity.Rebalance (Rebalance.Freeze (Freeze.Look m))) l' h i l.rebalance.hand (inr refl)) (x o)

saw_frozen : (z : Sizes) (r : Run) (s : ℕ) (l : Local) (m : ℕ) → Below z r → slice_get r.world.locals s ≡ Some l → (pend_of (word z r.world (name.Pend l.rebalance.hand m)) ≡ Some pend.Frozen) ⊎ (pend_of (word z r.world (name.Pend l.rebalance.hand m)) ≡ None) → m < z.seats → IsSettled (word z r.world) (slice_get r.world.locals) l.rebalance.hand m
saw_frozen z r s l m i k (inl e) o = settled_frozen (sym (pend_word_of _ _ e))
saw_frozen z r s l m i k (inr e) o = absurd (subst (IsEntry z) e (i.shape.sane.each (name.Pend l.rebalance.hand m) ((i.shape.sane.locals s l k).below.rebalance.hand, o)))

-- what the acting seat has frozen
pub freezes_own : (z : Sizes) (r r' : Run) (s : ℕ) (choice : Choice) (l : Local) (a : Activity) (l' : Local) → Arrow z (word z r.world) s choice l a l' → Happens z r r' s choice l l' a → Below z r → Shape z r' → Freezes z (word z r'.world) (slice_get r'.world.locals) l'.activity l'
freezes_own z r r' s choice l a l' (builds b next y t) h i after = record { count = λ q x. (builds_on q x).count q x; settled = λ q j x. (builds_on q (passed_frozen next.activity next q j x)).settled q j x }
  where
    builds_on : (q : ℕ) → HasFrozen next.activity next q → Freezes z (word z r'.world) (slice_get r'.world.locals) next.activity next
    builds_on q x =
        let n = built_next z (word z r.world) choice l b next t in
        let all = after_all next.activity next q n x in
        let keeps = built_keeps z (word z r.world) choice l b next t (frozen_builds next.activity n all.0) in
        let was = built_frozen z (word z r.world) choice l b next t all.0 in
        let group : (y : ℕ) → HasFrozen next.activity next y → IsOfGroup l y = λ y f. of_group_before l next y keeps.row keeps.second (after_all next.activity next y n f).1 in
        goes_on z r r' s choice l b next h i next.activity next (λ y f. all_frozen b l y was (group y f)) (λ y j f. all_passed b l y j was (group y (passed_frozen next.activity next y j f)))
freezes_own z r r' s choice l a l' (asks_of_pin next o n) h i after = no_call_of_pin _ h i.shape o
freezes_own z r r' s choice l a l' (looks_at_pin j next n) h i after = absurd (kind_at _ h i.shape)
freezes_own z r r' s choice l a l' freezes_count h i after = record { count = count; settled = settled }
  where
    count : (q : ℕ) → IsBehind l q ⊎ (q ≡ l.rebalance.hand) → IsFrozen (word z r'.world) q
    count q (inl x) = is_frozen z r r' s choice l (Activity.Rebalance (Rebalance.Freeze Freeze.Count)) l' h i q x
    count q (inr e) = subst (IsFrozen (word z r'.world)) (sym e) (frozen_now z r r' s choice l l' h i)

    settled : (q j : ℕ) → IsBehind l q ⊎ (q ≡ l.rebalance.hand) × (j < 0) → j < z.seats → IsSettled (word z r'.world) (slice_get r'.world.locals) q j
    settled q j (inl x) o = gone_by z r r' s choice l (Activity.Rebalance (Rebalance.Freeze Freeze.Count)) l' h i q j x o
    settled q j (inr x) o = absurd (omega (arith, x.1))
freezes_own z r r' s choice l a l' (sees_idle m e) h i after = goes_on z r r' s choice l (Activity.Rebalance (Rebalance.Freeze (Freeze.Look m))) l' h i _ l' (λ q x. x) (λ q j x. x)
freezes_own z r r' s choice l a l' (sees_unstamped m c e) h i after = goes_on z r r' s choice l (Activity.Rebalance (Rebalance.Freeze (Freeze.Look m))) l' h i _ l' (λ q x. x) (λ q j x. x)
freezes_own z r r' s choice l a l' (remembers m c version e u) h i after = next_entry z r r' s choice l (Activity.Rebalance (Rebalance.Freeze (Freeze.Look m))) l' h i m (λ q x. x) (λ q j x. x) (looked_settled z r r' s choice l l' m h i (λ o. settled_stamped c version (sym (pend_word_of _ _ e)))) ((marking z c version l).rebalance.marks)
freezes_own z r r' s choice l a l' (remembers_last m c version next e u n) h i after = last_entry z r r' s choice l (Activity.Rebalance (Rebalance.Freeze (Freeze.Look m))) l' h i m (λ q x. x) (λ q j x. x) (looked_settled z r r' s choice l l' m h i (λ o. settled_stamped c version (sym (pend_word_of _ _ e)))) ((marking z c version l).rebalance.marks) l' u tt n
freezes_own z r r' s choice l a l' (sees_frozen m e u) h i after = next_entry z r r' s choice l (Activity.Rebalance (Rebalance.Freeze (Freeze.Look m))) l' h i m (λ q x. x) (λ q j x. x) (looked_settled z r r' s choice l l' m h i (saw_frozen z r s l m i h.knows e)) l.rebalance.marks
freezes_own z r r' s choice l a l' (sees_frozen_last m next e u n) h i after = last_entry z r r' s choice l (Activity.Rebalance (Rebalance.Freeze (Freeze.Look m))) l' h i m (λ q x. x) (λ q j x. x) (looked_settled z r r' s choice l l' m h i (saw_frozen z r s l m i h.knows e)) (l.rebalance.marks) l' u tt n
freezes_own z r r' s choice l a l' (freezes_entry m e u) h i after = next_entry z r r' s choice l (Activity.Rebalance (Rebalance.Freeze (Freeze.Entry m))) l' h i m (λ q x. x) (λ q j x. x) (settled_frozen (entry_frozen m h e)) l.rebalance.marks
freezes_own z r r' s choice l a l' (freezes_last m next e u n) h i after = last_entry z r r' s choice l (Activity.Rebalance (Rebalance.Freeze (Freeze.Entry m))) l' h i m (λ q x. x) (λ q j x. x) (settled_frozen (entry_frozen m h e)) (l.rebalance.marks) l' u tt n
freezes_own z r r' s choice l a l' (looks_again m e) h i after = goes_on z r r' s choice l (Activity.Rebalance (Rebalance.Freeze (Freeze.Entry m))) l' h i _ l' (λ q x. x) (λ q j x. x)
freezes_own z r r' s choice l a l' (sees_quiet m e u) h i after = goes_on z r r' s choice l (Activity.Rebalance (Rebalance.Freeze (Freeze.Scan m))) l' h i _ l' (λ q x. x) (λ q j x. x)
freezes_own z r r' s choice l a l' (sees_quiet_last m e u) h i after = goes_on z r r' s choice l (Activity.Rebalance (Rebalance.Freeze (Freeze.Scan m))) l' h i _ l' (λ q x. x) (λ q j x. x)
freezes_own z r r' s choice l a l' (helps_scan m clock e) h i after = goes_on z r r' s choice l (Activity.Rebalance (Rebalance.Freeze (Freeze.Scan m))) l' h i _ l' (λ q x. x) (λ q j x. x)
freezes_own z r r' s choice l a l' (sees_drawn m version e u) h i after = goes_on z r r' s choice l (Activity.Rebalance (Rebalance.Freeze (Freeze.Scan m))) l' h i _ l' (λ q x. x) (λ q j x. x)
freezes_own z r r' s choice l a l' (sees_drawn_last m version e u) h i after = goes_on z r r' s choice l (Activity.Rebalance (Rebalance.Freeze (Freeze.Scan m))) l' h i _ l' (λ q x. x) (λ q j x. x)
freezes_own z r r' s choice l a l' (draws_for m) h i after = goes_on z r r' s choice l (Activity.Rebalance (Rebalance.Freeze (Freeze.Draw m))) l' h i _ l' (λ q x. x) (λ q j x. x)
freezes_own z r r' s choice l a l' (settles_scan m e u) h i after = goes_on z r r' s choice l (Activity.Rebalance (Rebalance.Freeze (Freeze.Settle m))) l' h i _ l' (λ q x. x) (λ q j x. x)
freezes_own z r r' s choice l a l' (settles_last m e u) h i after = goes_on z r r' s choice l (Activity.Rebalance (Rebalance.Freeze (Freeze.Settle m))) l' h i _ l' (λ q x. x) (λ q j x. x)
freezes_own z r r' s choice l a l' (finds_drawn m version e u) h i after = goes_on z r r' s choice l (Activity.Rebalance (Rebalance.Freeze (Freeze.Settle m))) l' h i _ l' (λ q x. x) (λ q j x. x)
freezes_own z r r' s choice l a l' (finds_drawn_last m version e u) h i after = goes_on z r r' s choice l (Activity.Rebalance (Rebalance.Freeze (Freeze.Settle m))) l' h i _ l' (λ q x. x) (λ q j x. x)
freezes_own z r r' s choice l a l' (finds_no_scan m e u) h i after = goes_on z r r' s choice l (Activity.Rebalance (Rebalance.Freeze (Freeze.Settle m))) l' h i _ l' (λ q x. x) (λ q j x. x)
freezes_own z r r' s choice l a l' (finds_no_scan_last m e u) h i after = goes_on z r r' s choice l (Activity.Rebalance (Rebalance.Freeze (Freeze.Settle m))) l' h i _ l' (λ q x. x) (λ q j x. x)
freezes_own z r r' s choice l a l' (take_leads c e) h i after = goes_on z r r' s choice l (Activity.Rebalance (Rebalance.Gather Gather.Link)) l' h i _ l' (λ q x. x) (λ q j x. x)
freezes_own z r r' s choice l a l' (takes_left m e u o) h i after = goes_on z r r' s choice l (Activity.Rebalance (Rebalance.Gather Gather.Link)) l' h i _ l' (λ q x. x) (λ q j x. x)
freezes_own z r r' s choice l a l' (takes_no_more next e u n) h i after = goes_on z r r' s choice l (Activity.Rebalance (Rebalance.Gather Gather.Link)) l' h i _ l' (λ q x. (tt, gathered_group z _ l' q n x)) (λ q j x. (tt, gathered_group z _ l' q n (passed_frozen l'.activity l' q j x)))
freezes_own z r r' s choice l a l' takes_key h i after = goes_on z r r' s choice l (Activity.Rebalance (Rebalance.Gather Gather.Key)) l' h i _ l' (λ q x. x) (λ q j x. x)
freezes_own z r r' s choice l a l' takes_version h i after = goes_on z r r' s choice l (Activity.Rebalance (Rebalance.Gather Gather.Version)) l' h i _ l' (λ q x. x) (λ q j x. x)
freezes_own z r r' s choice l a l' keeps_taken h i after = goes_on z r r' s choice l (Activity.Rebalance (Rebalance.Gather Gather.Value)) l' h i _ l' (λ q x. x) (λ q j x. x)
freezes_own z r r' s choice l a l' takes_left_key h i after = goes_on z r r' s choice l (Activity.Rebalance (Rebalance.Gather Gather.LeftOverKey)) l' h i _ l' (λ q x. x) (λ q j x. x)
freezes_own z r r' s choice l a l' (keeps_left m e o) h i after = goes_on z r r' s choice l (Activity.Rebalance (Rebalance.Gather Gather.LeftOverValue)) l' h i _ l' (λ q x. x) (λ q j x. x)
freezes_own z r r' s choice l a l' (keeps_no_more next u n) h i after = goes_on z r r' s choice l (Activity.Rebalance (Rebalance.Gather Gather.LeftOverValue)) l' h i _ l' (λ q x. (tt, gathered_group z _ l' q n x)) (λ q j x. (tt, gathered_group z _ l' q n (passed_frozen l'.activity l' q j x)))
freezes_own z r r' s choice l a l' (marks_led count next d n) h i after = unfrozen z r r' s choice l _ l' h i next.activity l' (λ q. counted_freezes z r' after s next (knows_next h) n q)
freezes_own z r r' s choice l a l' (decides count m next e n) h i after = unfrozen z r r' s choice l _ l' h i next.activity l' (λ q. counted_freezes z r' after s next (knows_next h) n q)
freezes_own z r r' s choice l a l' (next_leads count e) h i after = unfrozen z r r' s choice l _ l' h i _ l' (λ q x. second_apart z r' after s l' (knows_next h) tt x.0)
freezes_own z r r' s choice l a l' marks_next h i after = unfrozen z r r' s choice l _ l' h i _ l' (λ q x. second_apart z r' after s l' (knows_next h) tt x.0)
freezes_own z r r' s choice l a l' (sees_stamped j c version next e n) h i after = unfrozen z r r' s choice l _ l' h i next l' (λ q. look_freezes z _ next l' q n)
freezes_own z r r' s choice l a l' (sees_neither j next e n) h i after = unfrozen z r r' s choice l _ l' h i next l' (λ q. look_freezes z _ next l' q n)
freezes_own z r r' s choice l a l' (is_gone_by next e n) h i after = unfrozen z r r' s choice l _ l' h i next l' (λ q. look_freezes z _ next l' q n)
freezes_own z r r' s choice l a l' (helps next e n) h i after = unfrozen z r r' s choice l _ l' h i next l' (λ q. look_freezes z _ next l' q n)
freezes_own z r r' s choice l a l' (finds_stamped c version next e n) h i after = unfrozen z r r' s choice l _ l' h i next l' (λ q. look_freezes z _ next l' q n)
freezes_own z r r' s choice l a l' (finds_other next e n) h i after = unfrozen z r r' s choice l _ l' h i next l' (λ q. look_freezes z _ next l' q n)
freezes_own z r r' s choice l a l' (first_ends next e n) h i after = unfrozen z r r' s choice l _ l' h i next.activity l' (λ q. left_over_freezes _ next q n)
freezes_own z r r' s choice l a l' (list_ends next e n) h i after = unfrozen z r r' s choice l _ l' h i next.activity l' (λ q. left_over_freezes _ next q n)
freezes_own z r r' s choice l a l' (key_above next e n) h i after = unfrozen z r r' s choice l _ l' h i next.activity l' (λ q. left_over_freezes _ next q n)
freezes_own z r r' s choice l a l' (left_over_gone_by next e n) h i after = unfrozen z r r' s choice l _ l' h i next.activity l' (λ q. left_over_freezes _ next q n)
freezes_own z r r' s choice l a l' (gathers_left_over next n) h i after = unfrozen z r r' s choice l _ l' h i next.activity l' (λ q. left_over_freezes _ next q n)
freezes_own z r r' s choice l a l' _ h i after = unfrozen z r r' s choice l a l' h i l'.activity l' (λ q x. x.0)
