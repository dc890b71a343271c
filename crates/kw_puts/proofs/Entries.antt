-- Every event keeps what holds of the entries of a row, and of the attempt that a reader is to
-- help.
use Rattle.std.proofs.Common.{ℕ, ◌≡◌, ◌≢◌, ◌⊎◌, inl, inr, ◌<◌, true, Some, arith, refl, sym, ◌∙◌, ap, subst, slice_get, length}
use Rattle.std.proofs.lemmas.Bool.{cases_eq}
use Rattle.std.proofs.lemmas.Option.{same_Some}
use Rattle.kw_words.specs.declared.layout.Name.TheVariants as name
use Rattle.kw_words.specs.declared.pend.Pend.TheVariants as pend
use Rattle.kw_words.specs.Pend.{pend_word}
use Rattle.kw_words.specs.Plain.{key_of_word}
use Rattle.kw_words.proofs.PendWords.{pend_word_of}
use Rattle.kw_world.specs.declared.activity.Activity.{Activity}
use Rattle.kw_world.specs.declared.activity.rebalance.freeze.Freeze.TheVariants as Freeze
use Rattle.kw_world.specs.declared.activity.look.Look.TheVariants as Look
use Rattle.kw_world.specs.declared.activity.put.Put.TheVariants as Put
use Rattle.kw_world.specs.declared.activity.rebalance.Rebalance.TheVariants as Rebalance
use Rattle.kw_world.specs.declared.activity.rebalance.write.Write.TheVariants as Write
use Rattle.kw_world.specs.declared.activity.rebalance.replace.Replace.TheVariants as Replace
use Rattle.kw_world.specs.declared.activity.rebalance.seek.Seek.TheVariants as Seek
use Rattle.kw_world.specs.declared.local.Local.{Local}
use Rattle.kw_world.specs.declared.event.Choice.{Choice}
use Rattle.kw_world.specs.SeekTransitions.{infant}
use Rattle.kw_world.specs.Sizes.{Sizes}
use Rattle.kw_world.specs.Calls.{is_in_range}
use Rattle.kw_world.specs.Sane.{IsActivity}
use Rattle.kw_world.specs.Step.{word}
use Rattle.kw_core.specs.History.{attempt}
use Rattle.kw_core.specs.Run.{Run}
use Rattle.kw_core.specs.Stages.{IsAtRow, IsPutting, IsPublished, IsStamped, IsPutClear, HasSeenPending, IsToHelp}
use Rattle.kw_puts.specs.Puts.{OwnsAttempt, Helps, IsPublishedAt, key_in}
use Rattle.kw_puts.proofs.CellsOf.{cell_key}
use Rattle.kw_puts.specs.Freezes.{HasFrozen, IsToFreeze}
use Rattle.kw_puts.specs.Below.{Below}
use Rattle.kw_core.specs.Step.{Step}
use Rattle.kw_core.proofs.Happens.{log_entry}
use Rattle.kw_core.proofs.Steps.{announced_within, new_stands}
use Rattle.kw_core.proofs.Happens.{Happens, knows_next, knows_other, not_exchanged}
use Rattle.kw_core.proofs.Building.{IsBuilding}
use Rattle.kw_core.proofs.Grouping.{goes_alone, claims_row, NextCounted, NextFrozen, NextGathered, freezes_ahead, froze_all, gathered_all, gathers_ahead}
use Rattle.kw_core.proofs.BuiltNext.{IsAfterBuilding, built_next}
use Rattle.kw_core.proofs.Arrows.{builds, Arrow, NextLook, looks, lists, NextLeftOver, goes_to_left_over, answers, ends_scan, scans_on, announces_full, stamps_full, IsNotOwn, tidies, decides, marks_led, asks_of_pin, looks_at_pin}
use Rattle.kw_core.proofs.Arrows.{sees_pending, sees_stamped, sees_neither, is_wanted, is_gone_by, loads_to_help, helps, finds_stamped, finds_other, list_ends, key_above, left_over_gone_by, gathers_left_over, remembers_last, sees_frozen_last, freezes_last, takes_no_more, keeps_no_more, announces, loads_clock, stamps, is_stamped, stores_version, reaches_cell, sees_none, key_before, key_same, key_after, version_before, version_after, stores_after, inserts, loses, clears, first_ends, first_reaches, first_sees_none, inserts_at_first, inserts_behind}
use Rattle.kw_core.proofs.FreezeFrame.{entry_frozen, entry_left}
use Rattle.kw_core.proofs.InfantFrames.{ChangesEntry, entry_stays, entry_written}
use Rattle.kw_rows.specs.Rows.{WasLinked}
use Rattle.kw_shape.proofs.LinkedRows.{linked_frozen_entry}
use Rattle.kw_puts.proofs.GroupRows.{frozen_linked}
use Rattle.kw_puts.proofs.BuiltStages.{balancing_sees, counted_not, freezing_goes, gathering_goes, of_pin_is, pin_look_is}
use Rattle.kw_puts.proofs.Owners.{IsPendingOf, entry_owner, own_origin, published_puts, puts_linked, row_linked, was_or_not}
use Rattle.kw_puts.proofs.Rely.{SameAttempt, GoesOn}
use Rattle.kw_puts.proofs.RelyProof.{goes_on_by}
use Rattle.kw_puts.proofs.DoneAttempts.{building_puts}
use Rattle.kw_puts.proofs.OwnAttempts.{acting_own, entry_stamped, lost_frozen}
use Rattle.kw_core.proofs.Pinning.{NextOfPin, NextPinLook}
use Rattle.kw_shape.proofs.AfterBuilding.{no_call_of_pin}

-- The entries.

-- an entry that is idle stays so or is frozen, unless its own seat announces
pub idle_stays : (z : Sizes) (r r' : Run) (s : ℕ) (choice : Choice) (l : Local) (a : Activity) (l' : Local) → Happens z r r' s choice l l' a → Below z r → (q j : ℕ) → q < r.world.rows → j < z.seats → (a ≡ Activity.Put Put.Announce → q ≡ l.row → j ≡ s → ⊥) → word z r.world (name.Pend q j) ≡ pend_word pend.Idle → (word z r'.world (name.Pend q j) ≡ pend_word pend.Idle) ⊎ (word z r'.world (name.Pend q j) ≡ pend_word pend.Frozen)
idle_stays z r r' s choice l (Activity.Look Look.Help) l' h i q j w o n e = which (cases_eq q l.row) (cases_eq j l.looked)
  where
    which : (q ≡ l.row) ⊎ (q ≡ l.row → ⊥) → (j ≡ l.looked) ⊎ (j ≡ l.looked → ⊥) → (word z r'.world (name.Pend q j) ≡ pend_word pend.Idle) ⊎ (word z r'.world (name.Pend q j) ≡ pend_word pend.Frozen)
    which (inl f) (inl g) =
        let was : word z r.world (name.Pend l.row l.looked) ≡ pend_word pend.Idle = rw (f, g) at e in
        let lost : word z r.world (name.Pend l.row l.looked) ≢ pend_word (pend.Pending l.saw) = λ k. let x : pend_word pend.Idle ≡ pend_word (pend.Pending l.saw) = sym was ∙ k in omega (arith, x) in
        inl (rw (f, g) (not_exchanged _ _ _ _ h.changed.same lost ∙ was))
    which (inr d) g = inl (entry_stays (Activity.Look Look.Help) h q j w o (λ x. d x.0) ∙ e)
    which (inl f) (inr d) = inl (entry_stays (Activity.Look Look.Help) h q j w o (λ x. d x.1) ∙ e)
idle_stays z r r' s choice l (Activity.Put Put.Stamp) l' h i q j w o n e = which (cases_eq q l.row) (cases_eq j s)
  where
    which : (q ≡ l.row) ⊎ (q ≡ l.row → ⊥) → (j ≡ s) ⊎ (j ≡ s → ⊥) → (word z r'.world (name.Pend q j) ≡ pend_word pend.Idle) ⊎ (word z r'.world (name.Pend q j) ≡ pend_word pend.Frozen)
    which (inl f) (inl g) =
        let was : word z r.world (name.Pend l.row s) ≡ pend_word pend.Idle = rw (f, g) at e in
        let lost : word z r.world (name.Pend l.row s) ≢ pend_word (pend.Pending l.cell) = λ k. let x : pend_word pend.Idle ≡ pend_word (pend.Pending l.cell) = sym was ∙ k in omega (arith, x) in
        inl (rw (f, g) (not_exchanged _ _ _ _ h.changed.same lost ∙ was))
    which (inr d) g = inl (entry_stays (Activity.Put Put.Stamp) h q j w o (λ x. d x.0) ∙ e)
    which (inl f) (inr d) = inl (entry_stays (Activity.Put Put.Stamp) h q j w o (λ x. d x.1) ∙ e)
idle_stays z r r' s choice l (Activity.Put Put.Clear) l' h i q j w o n e = which (cases_eq q l.row) (cases_eq j s)
  where
    which : (q ≡ l.row) ⊎ (q ≡ l.row → ⊥) → (j ≡ s) ⊎ (j ≡ s → ⊥) → (word z r'.world (name.Pend q j) ≡ pend_word pend.Idle) ⊎ (word z r'.world (name.Pend q j) ≡ pend_word pend.Frozen)
    which (inl f) (inl g) = inl (rw (f, g) h.changed.same)
    which (inr d) g = inl (entry_stays (Activity.Put Put.Clear) h q j w o (λ x. d x.0) ∙ e)
    which (inl f) (inr d) = inl (entry_stays (Activity.Put Put.Clear) h q j w o (λ x. d x.1) ∙ e)
idle_stays z r r' s choice l (Activity.Rebalance (Rebalance.Freeze (Freeze.Entry k))) l' h i q j w o n e = which (cases_eq q l.rebalance.hand) (cases_eq j k)
  where
    which : (q ≡ l.rebalance.hand) ⊎ (q ≡ l.rebalance.hand → ⊥) → (j ≡ k) ⊎ (j ≡ k → ⊥) → (word z r'.world (name.Pend q j) ≡ pend_word pend.Idle) ⊎ (word z r'.world (name.Pend q j) ≡ pend_word pend.Frozen)
    which (inl f) (inl g) = tried (cases_eq (word z r.world (name.Pend l.rebalance.hand k)) (pend_word l.rebalance.entry))
      where
        tried : (word z r.world (name.Pend l.rebalance.hand k) ≡ pend_word l.rebalance.entry) ⊎ (word z r.world (name.Pend l.rebalance.hand k) ≡ pend_word l.rebalance.entry → ⊥) → (word z r'.world (name.Pend q j) ≡ pend_word pend.Idle) ⊎ (word z r'.world (name.Pend q j) ≡ pend_word pend.Frozen)
        tried (inl x) = inr (rw (f, g) (entry_frozen k h x))
        tried (inr x) = inl (rw (f, g) (entry_left k h x ∙ rw (f, g) at e))
    which (inr d) g = inl (entry_stays (Activity.Rebalance (Rebalance.Freeze (Freeze.Entry k))) h q j w o (λ x. d x.0) ∙ e)
    which (inl f) (inr d) = inl (entry_stays (Activity.Rebalance (Rebalance.Freeze (Freeze.Entry k))) h q j w o (λ x. d x.1) ∙ e)
idle_stays z r r' s choice l (Activity.Put Put.Announce) l' h i q j w o n e = inl (entry_stays (Activity.Put Put.Announce) h q j w o (λ x. n refl x.0 x.1) ∙ e)
idle_stays z r r' s choice l (Activity.Rebalance (Rebalance.Write (Write.Entry k))) l' h i q j w o n e = which (cases_eq q (infant l)) (cases_eq j k)
  where
    which : (q ≡ infant l) ⊎ (q ≡ infant l → ⊥) → (j ≡ k) ⊎ (j ≡ k → ⊥) → (word z r'.world (name.Pend q j) ≡ pend_word pend.Idle) ⊎ (word z r'.world (name.Pend q j) ≡ pend_word pend.Frozen)
    which (inl f) (inl g) = inl (rw (f, g) (entry_written k h))
    which (inr d) g = inl (entry_stays (Activity.Rebalance (Rebalance.Write (Write.Entry k))) h q j w o (λ x. d x.0) ∙ e)
    which (inl f) (inr d) = inl (entry_stays (Activity.Rebalance (Rebalance.Write (Write.Entry k))) h q j w o (λ x. d x.1) ∙ e)
idle_stays z r r' s choice l a l' h i q j w o n e = inl (entry_stays a h q j w o (λ x. x) ∙ e)

-- a frozen entry of a row that is or was linked stays so: a seat that is to clear its entry was
-- stamped, and its entry says so
pub frozen_stays : (z : Sizes) (r r' : Run) (s : ℕ) (choice : Choice) (l : Local) (a : Activity) (l' : Local) → Happens z r r' s choice l l' a → Below z r → (q j : ℕ) → WasLinked r.ledger.rows q → j < z.seats → word z r.world (name.Pend q j) ≡ pend_word pend.Frozen → word z r'.world (name.Pend q j) ≡ pend_word pend.Frozen
frozen_stays z r r' s choice l (Activity.Put Put.Clear) l' h i q j w o e = linked_frozen_entry (Activity.Put Put.Clear) h i.shape q j w o stamped e
  where
    own : OwnsAttempt (word z r.world) r.history s l.activity l (r.seats s)
    own = acting_own z r r' s choice l (Activity.Put Put.Clear) l' h i tt

    stamped : IsPutClear (Activity.Put Put.Clear) → q ≡ l.row → j ≡ s → ⊥
    stamped x f g =
        let at : IsStamped l.activity = subst IsStamped (sym h.activity) tt in
        let was : word z r.world (name.Pend l.row s) ≡ pend_word pend.Frozen = rw (f, g) at e in
        let entry = own.entry (subst IsPublished (sym h.activity) tt) ∙ entry_stamped (attempt r.history (r.seats s).own) (own.kept at) (own.stamped at) in
        let y : pend_word pend.Frozen ≡ pend_word (pend.Stamped (attempt r.history (r.seats s).own).cell (attempt r.history (r.seats s).own).version) = sym was ∙ entry in
        omega (arith, y)
frozen_stays z r r' s choice l a l' h i q j w o e = linked_frozen_entry a h i.shape q j w o (λ x f g. x) e

-- an event of a seat that writes no entry but one of a row which is or was linked leaves a frozen
-- entry of any row
frozen_at_row : (z : Sizes) (r r' : Run) (s : ℕ) (choice : Choice) (l : Local) (a : Activity) (l' : Local) → Happens z r r' s choice l l' a → Below z r → (x q j : ℕ) → WasLinked r.ledger.rows x → q < r.world.rows → j < z.seats → (ChangesEntry a s l q j → q ≡ x) → word z r.world (name.Pend q j) ≡ pend_word pend.Frozen → (word z r'.world (name.Pend q j) ≡ pend_word pend.Idle) ⊎ (word z r'.world (name.Pend q j) ≡ pend_word pend.Frozen)
frozen_at_row z r r' s choice l a l' h i x q j k w o f e = which (was_or_not r.ledger.rows q)
  where
    which : WasLinked r.ledger.rows q ⊎ (WasLinked r.ledger.rows q → ⊥) → (word z r'.world (name.Pend q j) ≡ pend_word pend.Idle) ⊎ (word z r'.world (name.Pend q j) ≡ pend_word pend.Frozen)
    which (inl y) = inr (frozen_stays z r r' s choice l a l' h i q j y o e)
    which (inr n) = inr (entry_stays a h q j w o (λ y. n (subst (WasLinked r.ledger.rows) (sym (f y)) k)) ∙ e)

-- so of any row it stays so, or is idle, as a new row's are
frozen_or_new : (z : Sizes) (r r' : Run) (s : ℕ) (choice : Choice) (l : Local) (a : Activity) (l' : Local) → Happens z r r' s choice l l' a → Below z r → (q j : ℕ) → q < r.world.rows → j < z.seats → word z r.world (name.Pend q j) ≡ pend_word pend.Frozen → (word z r'.world (name.Pend q j) ≡ pend_word pend.Idle) ⊎ (word z r'.world (name.Pend q j) ≡ pend_word pend.Frozen)
frozen_or_new z r r' s choice l (Activity.Rebalance (Rebalance.Write (Write.Entry k))) l' h i q j w o e = which (cases_eq q (infant l)) (cases_eq j k)
  where
    which : (q ≡ infant l) ⊎ (q ≡ infant l → ⊥) → (j ≡ k) ⊎ (j ≡ k → ⊥) → (word z r'.world (name.Pend q j) ≡ pend_word pend.Idle) ⊎ (word z r'.world (name.Pend q j) ≡ pend_word pend.Frozen)
    which (inl f) (inl g) = inl (rw (f, g) (entry_written k h))
    which (inr d) g = inr (entry_stays (Activity.Rebalance (Rebalance.Write (Write.Entry k))) h q j w o (λ x. d x.0) ∙ e)
    which (inl f) (inr d) = inr (entry_stays (Activity.Rebalance (Rebalance.Write (Write.Entry k))) h q j w o (λ x. d x.1) ∙ e)
frozen_or_new z r r' s choice l (Activity.Look Look.Help) l' h i q j w o e = frozen_at_row z r r' s choice l (Activity.Look Look.Help) l' h i l.row q j (row_linked z r i.shape s l h.knows (subst IsAtRow (sym h.activity) tt)) w o (λ x. x.0) e
frozen_or_new z r r' s choice l (Activity.Put Put.Announce) l' h i q j w o e = frozen_at_row z r r' s choice l (Activity.Put Put.Announce) l' h i l.row q j (row_linked z r i.shape s l h.knows (subst IsAtRow (sym h.activity) tt)) w o (λ x. x.0) e
frozen_or_new z r r' s choice l (Activity.Put Put.Stamp) l' h i q j w o e = frozen_at_row z r r' s choice l (Activity.Put Put.Stamp) l' h i l.row q j (row_linked z r i.shape s l h.knows (subst IsAtRow (sym h.activity) tt)) w o (λ x. x.0) e
frozen_or_new z r r' s choice l (Activity.Put Put.Clear) l' h i q j w o e = frozen_at_row z r r' s choice l (Activity.Put Put.Clear) l' h i l.row q j (row_linked z r i.shape s l h.knows (subst IsAtRow (sym h.activity) tt)) w o (λ x. x.0) e
frozen_or_new z r r' s choice l (Activity.Rebalance (Rebalance.Freeze (Freeze.Entry k))) l' h i q j w o e = frozen_at_row z r r' s choice l (Activity.Rebalance (Rebalance.Freeze (Freeze.Entry k))) l' h i l.rebalance.hand q j (frozen_linked z r i.shape s l h.knows l.rebalance.hand (subst (λ b. HasFrozen b l l.rebalance.hand) (sym h.activity) (inr refl))) w o (λ x. x.0) e
frozen_or_new z r r' s choice l a l' h i q j w o e = inr (entry_stays a h q j w o (λ x. x) ∙ e)

-- a seat whose entry is idle when it announces has announced a cell of its row then
announces_now : (z : Sizes) (r r' : Run) (s : ℕ) (choice : Choice) (l : Local) (a : Activity) (l' : Local) → Arrow z (word z r.world) s choice l a l' → Happens z r r' s choice l l' a → Below z r → a ≡ Activity.Put Put.Announce → word z r.world (name.Pend l.row s) ≡ pend_word pend.Idle → IsPublished l'.activity × (l'.row ≡ l.row)
announces_now z r r' s choice l a l' (builds b next y t) h i e f = absurd (subst IsBuilding e y)
announces_now z r r' s choice l a l' (announces x) h i e y = (tt, refl)
announces_now z r r' s choice l a l' (announces_full n) h i e y = absurd (n y)
announces_now z r r' s choice l a l' _ h i e y = absurd (cc)

-- the entry of a seat that finds it not its own is frozen
unstamped_frozen : (z : Sizes) (r r' : Run) (s : ℕ) (choice : Choice) (l : Local) (l' : Local) → IsNotOwn l.cell (word z r.world (name.Pend l.row s)) → Happens z r r' s choice l l' (Activity.Put Put.Stamp) → Below z r → word z r'.world (name.Pend l.row s) ≡ pend_word pend.Frozen
unstamped_frozen z r r' s choice l l' n h i = frozen_stays z r r' s choice l (Activity.Put Put.Stamp) l' h i l.row s (puts_linked z r i.shape s l h.knows (subst IsPutting (sym h.activity) tt)) h.seat (lost_frozen z r s l i (acting_own z r r' s choice l (Activity.Put Put.Stamp) l' h i tt) h.knows h.activity n)

-- a seat that has announced a cell goes on with it, or clears its entry, or finds it frozen
published_goes : (z : Sizes) (r r' : Run) (s : ℕ) (choice : Choice) (l : Local) (a : Activity) (l' : Local) → Arrow z (word z r.world) s choice l a l' → Happens z r r' s choice l l' a → Below z r → IsPublished a → (word z r'.world (name.Pend l.row s) ≡ pend_word pend.Idle) ⊎ (word z r'.world (name.Pend l.row s) ≡ pend_word pend.Frozen) ⊎ IsPublished l'.activity × (l'.row ≡ l.row)
published_goes z r r' s choice l a l' (builds b next y t) h i p = building_puts b y (published_puts b p)
published_goes z r r' s choice l a l' loads_clock h i p = inr (inr (tt, refl))
published_goes z r r' s choice l a l' (stamps e) h i p = inr (inr (tt, refl))
published_goes z r r' s choice l a l' (is_stamped version e) h i p = inr (inr (tt, refl))
published_goes z r r' s choice l a l' (stamps_full n) h i p = inr (inl (unstamped_frozen z r r' s choice l l' n h i))
published_goes z r r' s choice l a l' stores_version h i p = inr (inr (tt, refl))
published_goes z r r' s choice l a l' (first_reaches c y) h i p = inr (inr (tt, refl))
published_goes z r r' s choice l a l' (reaches_cell c y) h i p = inr (inr (tt, refl))
published_goes z r r' s choice l a l' (first_sees_none y) h i p = inr (inr (tt, refl))
published_goes z r r' s choice l a l' (sees_none y) h i p = inr (inr (tt, refl))
published_goes z r r' s choice l a l' (inserts_behind guess inside y) h i p = inr (inr (tt, refl))
published_goes z r r' s choice l a l' (inserts_at_first guess y) h i p = inr (inr (tt, refl))
published_goes z r r' s choice l a l' (key_before y) h i p = inr (inr (tt, refl))
published_goes z r r' s choice l a l' (key_same y) h i p = inr (inr (tt, refl))
published_goes z r r' s choice l a l' (key_after y) h i p = inr (inr (tt, refl))
published_goes z r r' s choice l a l' (version_before y) h i p = inr (inr (tt, refl))
published_goes z r r' s choice l a l' (version_after y) h i p = inr (inr (tt, refl))
published_goes z r r' s choice l a l' stores_after h i p = inr (inr (tt, refl))
published_goes z r r' s choice l a l' (inserts y) h i p = inr (inr (tt, refl))
published_goes z r r' s choice l a l' (loses y) h i p = inr (inr (tt, refl))
published_goes z r r' s choice l a l' clears h i p = inl h.changed.same
published_goes z r r' s choice l a l' (tidies rows e) h i p = inl h.changed.same
published_goes z r r' s choice l a l' _ h i p = absurd p

-- an entry is idle or frozen, or its seat has announced a cell there
pub entry_keeps : (z : Sizes) (r r' : Run) (s : ℕ) (choice : Choice) (l : Local) (a : Activity) (l' : Local) → Arrow z (word z r.world) s choice l a l' → Happens z r r' s choice l l' a → Below z r → (q j : ℕ) → q < r'.world.rows → j < z.seats → (word z r'.world (name.Pend q j) ≡ pend_word pend.Idle) ⊎ (word z r'.world (name.Pend q j) ≡ pend_word pend.Frozen) ⊎ IsPublishedAt (slice_get r'.world.locals) q j
entry_keeps z r r' s choice l a l' b h i q j o e = which (cases_eq j s) (i.puts.entry q j below e)
  where
    below : q < r.world.rows
    below = subst (λ n. q < n) h.rows o

    -- the acting seat has announced a cell of the row
    here : j ≡ s → IsPublished l'.activity → l'.row ≡ q → IsPublishedAt (slice_get r'.world.locals) q j
    here f p k = record { local = l'; knows = rw f (knows_next h); published = p; row = k }

    idle_or_frozen : (word z r'.world (name.Pend q j) ≡ pend_word pend.Idle) ⊎ (word z r'.world (name.Pend q j) ≡ pend_word pend.Frozen) → (word z r'.world (name.Pend q j) ≡ pend_word pend.Idle) ⊎ (word z r'.world (name.Pend q j) ≡ pend_word pend.Frozen) ⊎ IsPublishedAt (slice_get r'.world.locals) q j
    idle_or_frozen (inl y) = inl y
    idle_or_frozen (inr y) = inr (inl y)

    -- its entry was idle, and it announces or not
    idle : word z r.world (name.Pend q j) ≡ pend_word pend.Idle → (k : Activity) → a ≡ k → (word z r'.world (name.Pend q j) ≡ pend_word pend.Idle) ⊎ (word z r'.world (name.Pend q j) ≡ pend_word pend.Frozen) ⊎ IsPublishedAt (slice_get r'.world.locals) q j
    idle x (Activity.Put Put.Announce) f = at (cases_eq q l.row) (cases_eq j s)
      where
        at : (q ≡ l.row) ⊎ (q ≡ l.row → ⊥) → (j ≡ s) ⊎ (j ≡ s → ⊥) → (word z r'.world (name.Pend q j) ≡ pend_word pend.Idle) ⊎ (word z r'.world (name.Pend q j) ≡ pend_word pend.Frozen) ⊎ IsPublishedAt (slice_get r'.world.locals) q j
        at (inl g) (inl k) = let p = announces_now z r r' s choice l a l' b h i f (rw (g, k) at x) in inr (inr (here k p.0 (p.1 ∙ sym g)))
        at (inr d) k = idle_or_frozen (idle_stays z r r' s choice l a l' h i q j below e (λ u g m. d g) x)
        at (inl g) (inr d) = idle_or_frozen (idle_stays z r r' s choice l a l' h i q j below e (λ u g m. d m) x)
    idle x k f = idle_or_frozen (idle_stays z r r' s choice l a l' h i q j below e (λ u g m. let y : k ≡ (Activity.Put Put.Announce) = sym f ∙ u in absurd (cc)) x)

    mine : j ≡ s → IsPublishedAt (slice_get r.world.locals) q j → (word z r'.world (name.Pend q j) ≡ pend_word pend.Idle) ⊎ (word z r'.world (name.Pend q j) ≡ pend_word pend.Frozen) ⊎ IsPublishedAt (slice_get r'.world.locals) q j
    mine f p = saw (published_goes z r r' s choice l a l' b h i (subst IsPublished h.activity (subst (λ (x : Local). IsPublished x.activity) is p.published)))
      where
        is : p.local ≡ l
        is = same_Some p.local l (sym p.knows ∙ rw f h.knows)

        row : l.row ≡ q
        row = ap (λ x. x.row) (sym is) ∙ p.row

        saw : (word z r'.world (name.Pend l.row s) ≡ pend_word pend.Idle) ⊎ (word z r'.world (name.Pend l.row s) ≡ pend_word pend.Frozen) ⊎ IsPublished l'.activity × (l'.row ≡ l.row) → (word z r'.world (name.Pend q j) ≡ pend_word pend.Idle) ⊎ (word z r'.world (name.Pend q j) ≡ pend_word pend.Frozen) ⊎ IsPublishedAt (slice_get r'.world.locals) q j
        saw (inl x) = inl (rw (← row, f) x)
        saw (inr (inl x)) = inr (inl (rw (← row, f) x))
        saw (inr (inr x)) = inr (inr (here f x.0 (x.1 ∙ row)))

    which : (j ≡ s) ⊎ (j ≡ s → ⊥) → (word z r.world (name.Pend q j) ≡ pend_word pend.Idle) ⊎ (word z r.world (name.Pend q j) ≡ pend_word pend.Frozen) ⊎ IsPublishedAt (slice_get r.world.locals) q j → (word z r'.world (name.Pend q j) ≡ pend_word pend.Idle) ⊎ (word z r'.world (name.Pend q j) ≡ pend_word pend.Frozen) ⊎ IsPublishedAt (slice_get r'.world.locals) q j
    which f (inl x) = idle x a refl
    which f (inr (inl x)) = idle_or_frozen (frozen_or_new z r r' s choice l a l' h i q j below e x)
    which (inl f) (inr (inr p)) = mine f p
    which (inr d) (inr (inr p)) = inr (inr (record { local = p.local; knows = knows_other h j d ∙ p.knows; published = p.published; row = p.row }))

-- The entry that a seat is to freeze.

look_tries : (z : Sizes) (j : ℕ) (a : Activity) (k : Local) → NextLook z j a → IsToFreeze a k
look_tries z j a k (looks o) = tt
look_tries z j a k (lists o) = tt

left_over_tries : (l : Local) (n : Local) → NextLeftOver l n → IsToFreeze n.activity n
left_over_tries l n (goes_to_left_over m o) = tt
left_over_tries l n (answers o e) = tt
left_over_tries l n (ends_scan o e f) = tt
left_over_tries l n (scans_on q o e f g) = tt

-- a seat that builds new rows freezes no entry
built_tries : (a : Activity) (k : Local) → IsAfterBuilding a → IsToFreeze a k
built_tries (Activity.Rebalance (Rebalance.Freeze (Freeze.Entry i))) k n = absurd n
built_tries _ k n = tt

-- nor does one that is done with a row of its group
frozen_tries : (l k : Local) → NextFrozen l k → IsToFreeze k.activity k
frozen_tries l k (freezes_ahead q e) = tt
frozen_tries l k (froze_all e) = tt

gathered_tries : (z : Sizes) (l k : Local) → NextGathered z l k → IsToFreeze k.activity k
gathered_tries z l k (gathers_ahead q e) = tt
gathered_tries z l k (gathered_all e) = tt

-- a seat that knows how many rows go has looked at no entry
counted_tries : (count : ℕ) (l n : Local) → NextCounted count l n → IsToFreeze n.activity n
counted_tries count l n (claims_row q two e) = tt
counted_tries count l n (goes_alone d) = tt

-- nor has one that asks of a pin, or looks at pins
of_pin_tries : (l n : Local) → NextOfPin l n → IsToFreeze n.activity n
of_pin_tries l n x = of_pin_is (λ b. IsToFreeze b n) tt tt tt tt tt tt x

pin_look_tries : (z : Sizes) (m w : ℕ) (l n : Local) → NextPinLook z m w l n → IsToFreeze n.activity n
pin_look_tries z m w l n x = pin_look_is (λ b. IsToFreeze b n) (λ j. tt) tt x

-- the acting seat is to freeze an entry only where it found it idle or pending
pub tries_own : (z : Sizes) (r r' : Run) (s : ℕ) (choice : Choice) (l : Local) (a : Activity) (l' : Local) → Arrow z (word z r.world) s choice l a l' → IsToFreeze l'.activity l'
tries_own z r r' s choice l a l' (builds b next y t) = built_tries next.activity next (built_next z (word z r.world) choice l b next t)
tries_own z r r' s choice l a l' (asks_of_pin next o n) = of_pin_tries _ next n
tries_own z r r' s choice l a l' (looks_at_pin j next n) = pin_look_tries z _ _ _ next n
tries_own z r r' s choice l a l' (sees_stamped j c version next e n) = look_tries z _ next _ n
tries_own z r r' s choice l a l' (sees_neither j next e n) = look_tries z _ next _ n
tries_own z r r' s choice l a l' (is_gone_by next e n) = look_tries z _ next _ n
tries_own z r r' s choice l a l' (helps next e n) = look_tries z _ next _ n
tries_own z r r' s choice l a l' (finds_stamped c version next e n) = look_tries z _ next _ n
tries_own z r r' s choice l a l' (finds_other next e n) = look_tries z _ next _ n
tries_own z r r' s choice l a l' (first_ends next e n) = left_over_tries _ next n
tries_own z r r' s choice l a l' (list_ends next e n) = left_over_tries _ next n
tries_own z r r' s choice l a l' (key_above next e n) = left_over_tries _ next n
tries_own z r r' s choice l a l' (left_over_gone_by next e n) = left_over_tries _ next n
tries_own z r r' s choice l a l' (gathers_left_over next n) = left_over_tries _ next n
tries_own z r r' s choice l a l' (remembers_last j c version next e o n) = frozen_tries _ next n
tries_own z r r' s choice l a l' (sees_frozen_last j next e o n) = frozen_tries _ next n
tries_own z r r' s choice l a l' (freezes_last j next e o n) = frozen_tries _ next n
tries_own z r r' s choice l a l' (takes_no_more next e o n) = gathered_tries z _ next n
tries_own z r r' s choice l a l' (keeps_no_more next o n) = gathered_tries z _ next n
tries_own z r r' s choice l a l' (marks_led count next d n) = counted_tries _ _ next n
tries_own z r r' s choice l a l' (decides count m next e n) = counted_tries _ _ next n
tries_own z r r' s choice l a l' _ = tt

-- The attempt that a reader is to help.

look_sees : {A : Type 0} (z : Sizes) (j : ℕ) (a : Activity) → NextLook z j a → HasSeenPending a → A
look_sees z j a (looks o) p = absurd p
look_sees z j a (lists o) p = absurd p

cell_sees : {A : Type 0} (l : Local) (n : Local) → NextLeftOver l n → HasSeenPending n.activity → A
cell_sees l n (goes_to_left_over m o) p = absurd p
cell_sees l n (answers o e) p = absurd p
cell_sees l n (ends_scan o e f) p = absurd p
cell_sees l n (scans_on q o e f g) p = absurd p

built_sees : {A : Type 0} (a : Activity) → IsAfterBuilding a → HasSeenPending a → A
built_sees (Activity.Look Look.Key) n p = absurd n
built_sees (Activity.Look Look.Clock) n p = absurd n
built_sees (Activity.Look Look.Help) n p = absurd n
built_sees (Activity.Rebalance (Rebalance.Seek Seek.Next)) n p = absurd p
built_sees (Activity.Rebalance (Rebalance.Replace Replace.First)) n p = absurd p
built_sees _ n p = absurd p

-- a reader sees a pending entry: it is that of the seat's own attempt
pending_seen : (z : Sizes) (r r' : Run) (s : ℕ) (choice : Choice) (l : Local) (j c : ℕ) → word z r.world (name.Pend l.row j) ≡ pend_word (pend.Pending c) → Happens z r r' s choice l (record l { looked = j; saw = c; activity = Activity.Look Look.Key }) (Activity.Look (Look.Entry j)) → Below z r → Step r.history r'.history (log_entry z r (Activity.Look (Look.Entry j)) s choice l) → Helps r'.history r'.origin (Activity.Look Look.Key) (record l { looked = j; saw = c; activity = Activity.Look Look.Key }) (r'.seats s)
pending_seen z r r' s choice l j c e h i st = record {
  put = (r.seats j).own;
  origin = goes.origin l.row c (r.seats j).own linked (rw (w.row, sym own.cell ∙ w.cell) at (own_origin i.puts j w.local w.knows (published_puts w.local.activity w.published)));
  seat = same.seat ∙ own.seat;
  announced = ((goes.grows.old (r.seats j).own own.within).announced (own.announced w.published)).0;
  key = λ x. absurd x;
  after = λ x. absurd x;
  loaded = λ x. absurd x;
}
  where
    w : IsPendingOf z r l.row j c
    w = entry_owner i.puts l.row j c (i.shape.sane.locals s l h.knows).below.row (subst (IsActivity z) h.activity (i.shape.sane.locals s l h.knows).ranges.activity) e

    linked : WasLinked r.ledger.rows l.row
    linked = row_linked z r i.shape s l h.knows (subst IsAtRow (sym h.activity) tt)

    own : OwnsAttempt (word z r.world) r.history j w.local.activity w.local (r.seats j)
    own = i.puts.owns j w.local w.knows (published_puts w.local.activity w.published)

    goes : GoesOn r.history r'.history r.origin r'.origin r.ledger.rows
    goes = goes_on_by z r r' s choice l (Activity.Look (Look.Entry j)) (record l { looked = j; saw = c; activity = Activity.Look Look.Key }) h i st

    same : SameAttempt r.history r'.history (r.seats j).own
    same = goes.attempts (r.seats j).own own.within

-- a reader that has seen an entry is at a row
pub saw_at_row : (a : Activity) → HasSeenPending a → IsAtRow a
saw_at_row (Activity.Look Look.Key) m = tt
saw_at_row (Activity.Look Look.Clock) m = tt
saw_at_row (Activity.Look Look.Help) m = tt
saw_at_row (Activity.Rebalance (Rebalance.Seek Seek.Next)) m = absurd m
saw_at_row (Activity.Rebalance (Rebalance.Replace Replace.First)) m = absurd m
saw_at_row _ m = absurd m

-- the attempt that was seen, after an event of the reader
module _ (z : Sizes) (r r' : Run) (s : ℕ) (choice : Choice) (l : Local) (a : Activity) (l' : Local) (h : Happens z r r' s choice l l' a) (i : Below z r) (st : Step r.history r'.history (log_entry z r a s choice l)) (m : HasSeenPending a) where
  helped : Helps r.history r.origin l.activity l (r.seats s)
  helped = i.puts.helps s l h.knows (subst HasSeenPending (sym h.activity) m)

  saw_within : helped.put < length r.history.attempts
  saw_within = announced_within r.history helped.put helped.announced

  its_row : WasLinked r.ledger.rows l.row
  its_row = row_linked z r i.shape s l h.knows (saw_at_row l.activity (subst HasSeenPending (sym h.activity) m))

  -- the key of the attempt stands in the cell that was seen, be it its own or a copy
  saw_key : key_in (word z r.world) l.row l.saw ≡ (attempt r.history helped.put).key
  saw_key = cell_key i.puts l.row l.saw helped.put (i.puts.places.owner l.row l.saw helped.put its_row (i.shape.sane.locals s l h.knows).ranges.saw helped.origin) helped.announced

  goes : GoesOn r.history r'.history r.origin r'.origin r.ledger.rows
  goes = goes_on_by z r r' s choice l a l' h i st

  saw_origin : r'.origin l.row l.saw ≡ Some helped.put
  saw_origin = goes.origin l.row l.saw helped.put its_row helped.origin

  saw_same : SameAttempt r.history r'.history helped.put
  saw_same = goes.attempts helped.put saw_within

  saw_announced : ((attempt r'.history helped.put).is_announced ≡ true) × ((attempt r'.history helped.put).announced ≡ (attempt r.history helped.put).announced)
  saw_announced = (goes.grows.old helped.put saw_within).announced helped.announced

-- its key is one that the reader reads
key_wanted : (z : Sizes) (r r' : Run) (s : ℕ) (choice : Choice) (l : Local) → is_in_range l.call (key_of_word (word z r.world (name.Key l.row l.saw))) ≡ true → Happens z r r' s choice l (record l { activity = Activity.Look Look.Clock }) (Activity.Look Look.Key) → Below z r → Step r.history r'.history (log_entry z r (Activity.Look Look.Key) s choice l) → Helps r'.history r'.origin (Activity.Look Look.Clock) (record l { activity = Activity.Look Look.Clock }) (r'.seats s)
key_wanted z r r' s choice l e h i st =
    let l' : Local = record l { activity = Activity.Look Look.Clock } in
    let k = helped z r r' s choice l (Activity.Look Look.Key) l' h i st tt in
    let same = saw_same z r r' s choice l (Activity.Look Look.Key) l' h i st tt in
    record {
      put = k.put;
      origin = saw_origin z r r' s choice l (Activity.Look Look.Key) l' h i st tt;
      seat = same.seat ∙ k.seat;
      announced = (saw_announced z r r' s choice l (Activity.Look Look.Key) l' h i st tt).0;
      key = λ x. rw (same.key, ← saw_key z r r' s choice l (Activity.Look Look.Key) l' h i st tt) e;
      after = λ x. absurd x;
      loaded = λ x. absurd x;
    }

-- the clock is loaded after its announcement
loaded_to_help : (z : Sizes) (r r' : Run) (s : ℕ) (choice : Choice) (l : Local) → Happens z r r' s choice l (record l { helping = word z r.world name.Clock; activity = Activity.Look Look.Help }) (Activity.Look Look.Clock) → Below z r → Step r.history r'.history (log_entry z r (Activity.Look Look.Clock) s choice l) → Helps r'.history r'.origin (Activity.Look Look.Help) (record l { helping = word z r.world name.Clock; activity = Activity.Look Look.Help }) (r'.seats s)
loaded_to_help z r r' s choice l h i st =
    let l' : Local = record l { helping = word z r.world name.Clock; activity = Activity.Look Look.Help } in
    let k = helped z r r' s choice l (Activity.Look Look.Clock) l' h i st tt in
    let within = saw_within z r r' s choice l (Activity.Look Look.Clock) l' h i st tt in
    let same = saw_same z r r' s choice l (Activity.Look Look.Clock) l' h i st tt in
    let announced = saw_announced z r r' s choice l (Activity.Look Look.Clock) l' h i st tt in
    subst (Helps r'.history r'.origin (Activity.Look Look.Help) l') (sym h.log) (record {
      put = k.put;
      origin = saw_origin z r r' s choice l (Activity.Look Look.Clock) l' h i st tt;
      seat = same.seat ∙ k.seat;
      announced = announced.0;
      key = λ x. rw same.key (k.key (subst IsToHelp (sym h.activity) tt));
      after = λ x. rw announced.1 (i.history.past.announced k.put within k.announced);
      loaded = λ x. new_stands r.history r'.history _ st;
    })

-- the attempt that the acting seat is to help
pub helps_own : (z : Sizes) (r r' : Run) (s : ℕ) (choice : Choice) (l : Local) (a : Activity) (l' : Local) → Arrow z (word z r.world) s choice l a l' → Happens z r r' s choice l l' a → Below z r → Step r.history r'.history (log_entry z r a s choice l) → HasSeenPending l'.activity → Helps r'.history r'.origin l'.activity l' (r'.seats s)
helps_own z r r' s choice l a l' (builds b next y t) h i st p = built_sees next.activity (built_next z (word z r.world) choice l b next t) p
helps_own z r r' s choice l a l' (asks_of_pin next o n) h i st p = no_call_of_pin _ h i.shape o
helps_own z r r' s choice l a l' (sees_pending j c e) h i st p = pending_seen z r r' s choice l j c (sym (pend_word_of _ _ e)) h i st
helps_own z r r' s choice l a l' (is_wanted e) h i st p = key_wanted z r r' s choice l e h i st
helps_own z r r' s choice l a l' loads_to_help h i st p = loaded_to_help z r r' s choice l h i st
helps_own z r r' s choice l a l' (sees_stamped j c version next e n) h i st p = look_sees z _ next n p
helps_own z r r' s choice l a l' (sees_neither j next e n) h i st p = look_sees z _ next n p
helps_own z r r' s choice l a l' (is_gone_by next e n) h i st p = look_sees z _ next n p
helps_own z r r' s choice l a l' (helps next e n) h i st p = look_sees z _ next n p
helps_own z r r' s choice l a l' (finds_stamped c version next e n) h i st p = look_sees z _ next n p
helps_own z r r' s choice l a l' (finds_other next e n) h i st p = look_sees z _ next n p
helps_own z r r' s choice l a l' (first_ends next e n) h i st p = cell_sees _ next n p
helps_own z r r' s choice l a l' (list_ends next e n) h i st p = cell_sees _ next n p
helps_own z r r' s choice l a l' (key_above next e n) h i st p = cell_sees _ next n p
helps_own z r r' s choice l a l' (left_over_gone_by next e n) h i st p = cell_sees _ next n p
helps_own z r r' s choice l a l' (gathers_left_over next n) h i st p = cell_sees _ next n p
helps_own z r r' s choice l (Activity.Rebalance (Rebalance.Freeze f)) l' x h i st p = balancing_sees l'.activity (freezing_goes z _ s choice l f l' x) p
helps_own z r r' s choice l (Activity.Rebalance (Rebalance.Gather g)) l' x h i st p = balancing_sees l'.activity (gathering_goes z _ s choice l g l' x) p
helps_own z r r' s choice l a l' (marks_led count next d n) h i st p = absurd (counted_not HasSeenPending (λ x. x) (λ x. x) n p)
helps_own z r r' s choice l a l' (decides count m next e n) h i st p = absurd (counted_not HasSeenPending (λ x. x) (λ x. x) n p)
helps_own z r r' s choice l a l' _ h i st p = absurd p
