-- Every event keeps what holds of the cells that a seat remembers of the rows that it freezes: they
-- are those of stamped attempts, by their places in the group, and a stamped attempt whose seat's
-- entry was gone by is remembered or listed. No later event stamps an attempt whose entry was gone
-- by.
use Rattle.std.proofs.Common.{ℕ, ◌≡◌, ◌≢◌, ◌⊎◌, inl, inr, ◌+◌, ◌<◌, ◌≤◌, Bool, true, false, Some, None, List, ◌∷◌, [], ◌++◌, arith, refl, sym, ◌∙◌, ap, subst, length, get_or, slice_get}
use Rattle.std.specs.Prelude.{All}
use Rattle.std.proofs.lemmas.Bool.{cases_eq, cases_lt}
use Rattle.std.proofs.lemmas.Option.{same_Some}
use Rattle.std.proofs.lemmas.List.Elements.{All-nil, All-push}
use Rattle.kw_words.specs.declared.layout.Name.TheVariants as name
use Rattle.kw_words.specs.declared.pend.Pend.TheVariants as pend
use Rattle.kw_words.specs.Pend.{pend_of, pend_word}
use Rattle.kw_words.proofs.PendWords.{pend_of-Idle, pend_of-Pending, pend_of-Stamped, pend_of-Frozen}
use Rattle.kw_world.specs.declared.activity.Activity.{Activity}
use Rattle.kw_world.specs.declared.activity.rebalance.freeze.Freeze.TheVariants as Freeze
use Rattle.kw_world.specs.declared.activity.rebalance.gather.Gather.TheVariants as Gather
use Rattle.kw_world.specs.declared.activity.look.Look.TheVariants as Look
use Rattle.kw_world.specs.declared.activity.put.Put.TheVariants as Put
use Rattle.kw_world.specs.declared.activity.rebalance.Rebalance.TheVariants as Rebalance
use Rattle.kw_world.specs.declared.activity.rebalance.engage.Engage.TheVariants as Engage
use Rattle.kw_world.specs.declared.local.Local.{Local}
use Rattle.kw_world.specs.declared.marks.Mark.{Mark}
use Rattle.kw_world.specs.declared.event.Choice.{Choice}
use Rattle.kw_cells.specs.declared.cell.Cell.{Cell}
use Rattle.kw_world.specs.FreezeTransitions.{marking, needing}
use Rattle.kw_world.specs.GroupPlaces.{cell_at, is_row, is_second, place_in_group, places, row_at, source}
use Rattle.kw_world.specs.TakeTransitions.{to_take}
use Rattle.kw_world.specs.Marks.{mark_of, is_marked, unmarked}
use Rattle.kw_world.specs.Sane.{IsActivity, IsEntry, IsVersion}
use Rattle.kw_world.specs.Sizes.{Sizes}
use Rattle.kw_world.specs.Step.{word}
use Rattle.kw_core.specs.declared.history.Change.{Change}
use Rattle.kw_core.specs.declared.history.Change.TheVariants.{Nothing, Announces, Loses, Stamps}
use Rattle.kw_core.specs.History.{History, attempt}
use Rattle.kw_core.specs.Noted.{noted}
use Rattle.kw_core.specs.Run.{Run, Origins}
use Rattle.kw_core.specs.Stages.{IsFresh, IsPublished, IsPutting, HasSeenPending}
use Rattle.kw_core.specs.Step.{Step}
use Rattle.kw_core.proofs.Attempts.{in_range}
use Rattle.kw_core.proofs.BuiltNext.{IsAfterBuilding, built_next}
use Rattle.kw_core.proofs.Grouping.{goes_alone, claims_row, NextCounted, NextFrozen, NextGathered, freezes_ahead, froze_all, gathered_all, gathers_ahead}
use Rattle.kw_rows.specs.Ledger.{Ledger}
use Rattle.kw_rows.specs.Rows.{WasLinked}
use Rattle.kw_core.proofs.InRange.{unmarked_in_range}
use Rattle.kw_core.proofs.Marks.{marked_last, marked_more, marked_other}
use Rattle.kw_core.proofs.NotedLaws.{attempt_set_same}
use Rattle.kw_core.proofs.Changes.{Makes, makes_nothing, makes_begin, makes_add, makes_announce, makes_stamp, makes_help, makes_end, made, makes_lose}
use Rattle.kw_core.proofs.Arrows.{builds, Arrow, NextLook, looks, lists, NextLeftOver, goes_to_left_over, answers, ends_scan, scans_on, marks_led, decides, next_leads, marks_next, asks_of_pin, looks_at_pin}
use Rattle.kw_core.proofs.Arrows.{sees_stamped, sees_neither, is_gone_by, helps, finds_stamped, finds_other, list_ends, key_above, left_over_gone_by, gathers_left_over}
use Rattle.kw_core.proofs.Arrows.{freezes_count, sees_idle, sees_unstamped, remembers, remembers_last, sees_frozen, sees_frozen_last, freezes_entry, freezes_last, looks_again, sees_quiet, sees_quiet_last, helps_scan, sees_drawn, sees_drawn_last, draws_for, settles_scan, settles_last, finds_drawn, finds_drawn_last, finds_no_scan, finds_no_scan_last}
use Rattle.kw_core.proofs.Arrows.{take_leads, takes_left, takes_no_more, takes_key, takes_version, keeps_taken, takes_left_key, keeps_left, keeps_no_more, first_ends}
use Rattle.kw_core.proofs.Happens.{Happens, knows_next, log_entry}
use Rattle.kw_shape.specs.Hands.{Hand, HasHand, at_first, at_second}
use Rattle.kw_shape.specs.Keyed.{HasMarks}
use Rattle.kw_shape.specs.Shape.{Shape}
use Rattle.kw_shape.proofs.Hands.{HasGroup, hand_of_group, row_of_group}
use Rattle.kw_puts.specs.Freezes.{HasFrozen, HasPassed, IsBehind, IsMarkOf, IsOfGroup, IsRemembering, IsToFreeze, IsToWalk, IsUnsettled, Remembers, place_of}
use Rattle.kw_puts.specs.Puts.{OwnsAttempt, HasCell, Helps, IsCurrent, IsHere, IsMadeIn, IsOver, IsPublishedAt, entry_of}
use Rattle.kw_puts.specs.Below.{Below}
use Rattle.kw_shape.proofs.LinkedRows.{linked_keeps}
use Rattle.kw_puts.proofs.Owners.{true_false, made_here, own_origin, pending_cell, published_puts}
use Rattle.kw_puts.proofs.Rely.{GoesOn}
use Rattle.kw_puts.proofs.RelyEntry.{attempt_left, fresh_published}
use Rattle.kw_puts.proofs.RelyProof.{goes_on_by}
use Rattle.kw_puts.proofs.NewAttempts.{IsNew, attempt_was}
use Rattle.kw_puts.proofs.OwnAttempts.{acting_own, positive, below_end, entry_lost, entry_stamped, entry_pending}
use Rattle.kw_puts.proofs.ListSteps.{listed_stays}
use Rattle.kw_puts.proofs.FrozenRows.{not_pending}
use Rattle.kw_puts.proofs.Freezes.{its_hand, its_row, not_unsettled, passed_frozen}
use Rattle.kw_puts.proofs.GroupCells.{is_this_row, place_within, row_is, source_in_hand}
use Rattle.kw_puts.proofs.GroupRows.{first_at_hand, frozen_linked, group_linked, none_ahead, second_apart}
use Rattle.kw_shape.proofs.AfterBuilding.{no_call_of_pin, kind_at}

-- a place of the row that is ahead is none of the row at hand
ahead_apart : (z : Sizes) (l : Local) (q c d : ℕ) → Hand l → l.rebalance.second ≢ Some l.row → l.rebalance.ahead ≡ Some q → d < place_in_group z l.rebalance z.cells → place_of z l q c ≢ d
ahead_apart z l q c d (at_second e f) n x o y = let k : None ≡ Some q = sym f ∙ x in absurd (cc)
ahead_apart z l q c d (at_first e f) n x o y =
    let there : is_row l.rebalance.second q ≡ true = is_this_row l.rebalance.second q (sym f ∙ x) in
    let above : z.cells + c ≡ d = rw there at y in
    let below : d < 0 + z.cells = rw first at o in
    omega (arith, above, below)
  where
    saw : (b : Bool) → is_second l.rebalance ≡ b → is_second l.rebalance ≡ false
    saw true u = absurd (n (row_is l.rebalance.second l.rebalance.hand u ∙ ap Some e))
    saw false u = u

    first : is_second l.rebalance ≡ false
    first = saw (is_second l.rebalance) refl

-- a seat that has still to walk along a list remembers places
walk_remembers : (a : Activity) (l : Local) (q : ℕ) → IsToWalk a l q → IsRemembering a
walk_remembers (Activity.Rebalance (Rebalance.Freeze _)) l q x = tt
walk_remembers (Activity.Rebalance (Rebalance.Gather _)) l q x = tt
walk_remembers _ l q x = x

-- one that remembers places does so of its group, whose rows are or were linked
remembers_group : (a : Activity) → IsRemembering a → HasMarks a × HasGroup a
remembers_group (Activity.Rebalance (Rebalance.Freeze _)) x = (tt, tt)
remembers_group (Activity.Rebalance (Rebalance.Gather _)) x = (tt, tt)
remembers_group _ x = absurd x

module _ (z : Sizes) (r : Run) (i : Below z r) (t : ℕ) (k : Local) (g : slice_get r.world.locals t ≡ Some k) (b : Activity) (e : k.activity ≡ b) (x : IsRemembering b) where
  marks_within : All (λ m. m.cell < places z k.rebalance.second) k.rebalance.marks
  marks_within n d u = ((i.shape.keys t k g).marks (subst HasMarks (sym e) (remembers_group b x).0) n d u).0

  places_linked : (p : ℕ) → p < places z k.rebalance.second → WasLinked r.ledger.rows (row_at z k p)
  places_linked p u = group_linked z r i.shape t k g (row_at z k p) (subst HasGroup (sym e) (remembers_group b x).1) (row_of_group z k p u)

-- The places of remembered attempts.

module _ (z : Sizes) (h h' : History) (o o' : Origins) (w : Ledger) (g : GoesOn h h' o o' w) (l : Local) (linked : (p : ℕ) → p < places z l.rebalance.second → WasLinked w (row_at z l p)) where
  -- a remembered place of rows that are or were linked is still that of its attempt
  mark_lasts : (m : Mark) → m.cell < places z l.rebalance.second → IsMarkOf h (source z o l) m → IsMarkOf h' (source z o' l) m
  mark_lasts m u i = let x = (g.grows.old i.put (in_range h i.put i.stamped)).stamped i.stamped in record { put = i.put; origin = g.origin (row_at z l m.cell) (cell_at z m.cell) i.put (linked m.cell u) i.origin; stamped = x.0; version = x.1 ∙ i.version }

  -- and so is each one
  marks_last : (marks : List Mark) → All (λ m. m.cell < places z l.rebalance.second) marks → All (IsMarkOf h (source z o l)) marks → All (IsMarkOf h' (source z o' l)) marks
  marks_last marks b m n d u = mark_lasts (get_or marks n d) (b n d u) (m n d u)

-- what an entry of an announced attempt reads, where it reads stamped
module _ (z : Sizes) (r : Run) (i : Below z r) where
  -- the word of a stamped attempt reads so
  reads_stamped : (p : ℕ) → p < length r.history.attempts → (attempt r.history p).is_stamped ≡ true → pend_of (pend_word (pend.Stamped (attempt r.history p).cell (attempt r.history p).version)) ≡ Some (pend.Stamped (attempt r.history p).cell (attempt r.history p).version)
  reads_stamped p w x = pend_of-Stamped _ _ (omega (arith, (i.puts.placed p w).cell, i.shape.sane.sized.few_cells)) (positive z r i p x) (below_end z r i p x)

  -- the cell of a stamped entry is that of an attempt that is stamped with the entry's version
  stamped_mark : (q j c version : ℕ) → q < r.world.rows → j < z.seats → pend_of (word z r.world (name.Pend q j)) ≡ Some (pend.Stamped c version) → IsMarkOf r.history (r.origin q) (mark_of c version)
  stamped_mark q j c version w o e = which (i.puts.entry q j w o)
    where
      from : (p : ℕ) → p < length r.history.attempts → r.origin q (attempt r.history p).cell ≡ Some p → word z r.world (name.Pend q j) ≡ entry_of (attempt r.history p) → (b d : Bool) → (attempt r.history p).is_lost ≡ b → (attempt r.history p).is_stamped ≡ d → IsMarkOf r.history (r.origin q) (mark_of c version)
      from p u f x true d y n = let k : Some pend.Frozen ≡ Some (pend.Stamped c version) = sym (ap pend_of (x ∙ entry_lost (attempt r.history p) y) ∙ pend_of-Frozen) ∙ e in absurd (cc)
      from p u f x false true y n =
          let k : Some (pend.Stamped (attempt r.history p).cell (attempt r.history p).version) ≡ Some (pend.Stamped c version) = sym (ap pend_of (x ∙ entry_stamped (attempt r.history p) y n) ∙ reads_stamped p u n) ∙ e in
          let cell : (attempt r.history p).cell ≡ c = cc in
          record { put = p; origin = rw cell at f; stamped = n; version = cc }
      from p u f x false false y n = let k : Some (pend.Pending (attempt r.history p).cell) ≡ Some (pend.Stamped c version) = sym (ap pend_of (x ∙ entry_pending (attempt r.history p) y n) ∙ pend_of-Pending (attempt r.history p).cell (omega (arith, (i.puts.placed p u).cell, i.shape.sane.sized.few_cells))) ∙ e in absurd (cc)

      which : (word z r.world (name.Pend q j) ≡ pend_word pend.Idle) ⊎ (word z r.world (name.Pend q j) ≡ pend_word pend.Frozen) ⊎ IsPublishedAt (slice_get r.world.locals) q j → IsMarkOf r.history (r.origin q) (mark_of c version)
      which (inl x) = let y : Some pend.Idle ≡ Some (pend.Stamped c version) = sym (ap pend_of x ∙ pend_of-Idle) ∙ e in absurd (cc)
      which (inr (inl x)) = let y : Some pend.Frozen ≡ Some (pend.Stamped c version) = sym (ap pend_of x ∙ pend_of-Frozen) ∙ e in absurd (cc)
      which (inr (inr x)) =
          let own = i.puts.owns j x.local x.knows (published_puts x.local.activity x.published) in
          let puts = published_puts x.local.activity x.published in
          from (r.seats j).own own.within (rw (x.row, sym own.cell) at (own_origin i.puts j x.local x.knows puts)) (subst (λ y. word z r.world (name.Pend y j) ≡ entry_of (attempt r.history (r.seats j).own)) x.row (own.entry x.published)) _ _ refl refl

  -- the entry of its seat says that an attempt whose row was not used again is stamped, or its cell
  -- is listed
  stamped_or_listed : (p : ℕ) → p < length r.history.attempts → IsHere r.ledger.rows r.history p → (attempt r.history p).is_stamped ≡ true →
      (word z r.world (name.Pend (attempt r.history p).row (attempt r.history p).seat) ≡ pend_word (pend.Stamped (attempt r.history p).cell (attempt r.history p).version)) ⊎ (r.listed (attempt r.history p).row (attempt r.history p).cell ≡ true)
  stamped_or_listed p w here x = which (i.lists.old p w)
    where
      current : (k : IsCurrent (slice_get r.world.locals) r.seats r.history p) → IsFresh k.local.activity ⊎ IsPublished k.local.activity ⊎ (IsPutting k.local.activity → ⊥) → word z r.world (name.Pend (attempt r.history p).row (attempt r.history p).seat) ≡ pend_word (pend.Stamped (attempt r.history p).cell (attempt r.history p).version)
      current k b = by b
        where
          own : OwnsAttempt (word z r.world) r.history (attempt r.history p).seat k.local.activity k.local (r.seats (attempt r.history p).seat)
          own = i.puts.owns (attempt r.history p).seat k.local k.knows k.putting

          is : attempt r.history (r.seats (attempt r.history p).seat).own ≡ attempt r.history p
          is = ap (attempt r.history) k.own

          row : k.local.row ≡ (attempt r.history p).row
          row = sym own.row ∙ ap (λ y. y.row) is

          by : IsFresh k.local.activity ⊎ IsPublished k.local.activity ⊎ (IsPutting k.local.activity → ⊥) → word z r.world (name.Pend (attempt r.history p).row (attempt r.history p).seat) ≡ pend_word (pend.Stamped (attempt r.history p).cell (attempt r.history p).version)
          by (inl y) = true_false x (sym (ap (λ q. q.is_stamped) is) ∙ own.unstamped y)
          by (inr (inl y)) = subst (λ q. word z r.world (name.Pend q (attempt r.history p).seat) ≡ pend_word (pend.Stamped (attempt r.history p).cell (attempt r.history p).version)) row (own.entry y ∙ ap entry_of is ∙ entry_stamped (attempt r.history p) (i.history.laws.kept p x) x)
          by (inr (inr n)) = absurd (n k.putting)

      which : IsCurrent (slice_get r.world.locals) r.seats r.history p ⊎ (IsHere r.ledger.rows r.history p → r.listed (attempt r.history p).row (attempt r.history p).cell ≡ true) ⊎ IsOver r.history p → (word z r.world (name.Pend (attempt r.history p).row (attempt r.history p).seat) ≡ pend_word (pend.Stamped (attempt r.history p).cell (attempt r.history p).version)) ⊎ (r.listed (attempt r.history p).row (attempt r.history p).cell ≡ true)
      which (inl k) = inl (current k (fresh_published k.local.activity))
      which (inr (inl y)) = inr (y here)
      which (inr (inr o)) = true_false x o.unstamped

-- An attempt that is stamped by an event.

-- the seat may stamp an attempt
abbrev IsStamping : Activity → Type 0
IsStamping (Activity.Put Put.Stamp) = Unit {0}
IsStamping (Activity.Look Look.Help) = Unit {0}
IsStamping _ = ⊥

module _ (z : Sizes) (r r' : Run) (s : ℕ) (choice : Choice) (l : Local) (a : Activity) (l' : Local) (h : Happens z r r' s choice l l' a) (i : Below z r) where
  -- the attempt was stamped, or its entry is pending and its seat or a reader stamps it
  abbrev WasStamped : ℕ → Type 0
  WasStamped p = ((attempt r.history p).is_stamped ≡ true) ⊎ IsStamping a × ((c : ℕ) × (word z r.world (name.Pend (attempt r.history p).row (attempt r.history p).seat) ≡ pend_word (pend.Pending c)))

  -- of the one that is stamped, or another one
  one_stamped : (p q version load : ℕ) → p < length r.history.attempts → r'.history ≡ noted r.history (log_entry z r a s choice l) (Stamps q version load) → IsStamping a → (c : ℕ) → word z r.world (name.Pend (attempt r.history q).row (attempt r.history q).seat) ≡ pend_word (pend.Pending c) → (attempt r'.history p).is_stamped ≡ true → WasStamped p
  one_stamped p q version load w n m c e x = which (cases_eq p q)
    where
      which : (p ≡ q) ⊎ (p ≡ q → ⊥) → WasStamped p
      which (inl y) = inr (m, (c, rw y e))
      which (inr d) = inl (sym (ap (λ k. k.is_stamped) (attempt_left r.history r'.history _ p (Stamps q version load) d n w)) ∙ x)

  -- one that is lost was as unstamped
  one_lost : (p q : ℕ) → p < length r.history.attempts → r'.history ≡ noted r.history (log_entry z r a s choice l) (Loses q) → (attempt r'.history p).is_stamped ≡ true → WasStamped p
  one_lost p q w n x = inl (which (cases_eq p q))
    where
      which : (p ≡ q) ⊎ (p ≡ q → ⊥) → (attempt r.history p).is_stamped ≡ true
      which (inl y) =
          let u : p < length r.history.attempts → (attempt r'.history p).is_stamped ≡ (attempt r.history p).is_stamped = subst (λ k. k < length r.history.attempts → (attempt r'.history k).is_stamped ≡ (attempt r.history k).is_stamped) (sym y) (λ v. ap (λ k. k.is_stamped) (attempt_set_same r.history r'.history q _ (ap (λ k. k.attempts) n) v)) in
          sym (u w) ∙ x
      which (inr d) = sym (ap (λ k. k.is_stamped) (attempt_left r.history r'.history _ p (Loses q) d n w)) ∙ x

  -- so is one that is announced
  one_announced : (p q : ℕ) → p < length r.history.attempts → r'.history ≡ noted r.history (log_entry z r a s choice l) (Announces q) → (attempt r'.history p).is_stamped ≡ true → WasStamped p
  one_announced p q w n x = inl (which (cases_eq p q))
    where
      which : (p ≡ q) ⊎ (p ≡ q → ⊥) → (attempt r.history p).is_stamped ≡ true
      which (inl y) =
          let u : p < length r.history.attempts → (attempt r'.history p).is_stamped ≡ (attempt r.history p).is_stamped = subst (λ k. k < length r.history.attempts → (attempt r'.history k).is_stamped ≡ (attempt r.history k).is_stamped) (sym y) (λ v. ap (λ k. k.is_stamped) (attempt_set_same r.history r'.history q _ (ap (λ k. k.attempts) n) v)) in
          sym (u w) ∙ x
      which (inr d) = sym (ap (λ k. k.is_stamped) (attempt_left r.history r'.history _ p (Announces q) d n w)) ∙ x

  -- by the change that the event makes
  was_stamped : (p : ℕ) → p < length r.history.attempts → (attempt r'.history p).is_stamped ≡ true → WasStamped p
  was_stamped p w x = by a _ refl h.history (made z (word z r.world) s choice l (r.seats s) r.origin a)
    where
      same : (c : Change) → attempt r'.history p ≡ attempt r.history p → WasStamped p
      same c e = inl (sym (ap (λ k. k.is_stamped) e) ∙ x)

      by : (b : Activity) (c : Change) → a ≡ b → r'.history ≡ noted r.history (log_entry z r a s choice l) c → Makes z (word z r.world) s choice l (r.seats s) r.origin b c → WasStamped p
      by b c f n (makes_nothing _) = same c (attempt_left r.history r'.history _ p Nothing tt n w)
      by b c f n (makes_begin call m) = same c (attempt_left r.history r'.history _ p c tt n w)
      by b c f n (makes_add m) = same c (attempt_left r.history r'.history _ p c tt n w)
      by b c f n (makes_announce m) = one_announced p (r.seats s).own w n x
      by b c f n (makes_stamp m) =
          let own = acting_own z r r' s choice l a l' h i (subst IsPutting (sym f) tt) in
          one_stamped p (r.seats s).own l.version (r.seats s).loaded w n (subst IsStamping (sym f) tt) l.cell (rw (own.row, own.seat) m) x
      by b c f n (makes_help q m k) =
          let saw : Helps r.history r.origin l.activity l (r.seats s) = i.puts.helps s l h.knows (subst HasSeenPending (sym (h.activity ∙ f)) tt) in
          let known = i.shape.sane.locals s l h.knows in
          let place : HasCell r.ledger.rows r.history l.row l.saw q = pending_cell i.puts l.row l.looked l.saw q known.below.row known.ranges.looked m k in
          let is : saw.put ≡ q = same_Some saw.put q (sym saw.origin ∙ k) in
          one_stamped p q l.helping (r.seats s).loaded w n (subst IsStamping (sym f) tt) l.saw (rw (place.row, sym (ap (λ y. (attempt r.history y).seat) is) ∙ saw.seat) m) x
      by b c f n (makes_lose j cell q e m k) = one_lost p q w n x
      by b c f n (makes_end answer) = same c (attempt_left r.history r'.history _ p c tt n w)

  -- Stamped attempts of a row after the event.

  module _ (st : Step r.history r'.history (log_entry z r a s choice l)) where
    goes : GoesOn r.history r'.history r.origin r'.origin r.ledger.rows
    goes = goes_on_by z r r' s choice l a l' h i st

    -- they are remembered or listed, if all that were stamped were and no entry that was gone by
    -- was pending
    noted_still : (q : ℕ) (IsNoted IsGone : ℕ → Type 0) → WasLinked r.ledger.rows q → ((j c : ℕ) → j < z.seats → IsGone j → IsStamping a → word z r.world (name.Pend q j) ≡ pend_word (pend.Pending c) → ⊥) →
        ((p : ℕ) → p < length r.history.attempts → IsMadeIn r.ledger.rows r.history q p → (attempt r.history p).is_stamped ≡ true → IsGone (attempt r.history p).seat → IsNoted (attempt r.history p).cell ⊎ (r.listed q (attempt r.history p).cell ≡ true)) →
        (p : ℕ) → p < length r'.history.attempts → IsMadeIn r'.ledger.rows r'.history q p → (attempt r'.history p).is_stamped ≡ true → IsGone (attempt r'.history p).seat → IsNoted (attempt r'.history p).cell ⊎ (r'.listed q (attempt r'.history p).cell ≡ true)
    noted_still q IsNoted IsGone linked settled was p o e x b = which (attempt_was a h p o)
      where
        old : p < length r.history.attempts → IsNoted (attempt r'.history p).cell ⊎ (r'.listed q (attempt r'.history p).cell ≡ true)
        old w = by (was_stamped p w x)
          where
            row : (attempt r.history p).row ≡ q
            row = sym (goes.attempts p w).row ∙ e.row

            made : IsMadeIn r.ledger.rows r.history q p
            made = record { row = row; born = omega (arith, e.born, (goes.attempts p w).add, (linked_keeps a h i.shape q linked).born) }

            seat : IsGone (attempt r.history p).seat
            seat = subst IsGone (goes.attempts p w).seat b

            stays : IsNoted (attempt r.history p).cell ⊎ (r.listed q (attempt r.history p).cell ≡ true) → IsNoted (attempt r'.history p).cell ⊎ (r'.listed q (attempt r'.history p).cell ≡ true)
            stays (inl y) = inl (rw (goes.attempts p w).cell y)
            stays (inr y) = inr (rw (goes.attempts p w).cell (listed_stays z r r' s choice l a l' h i q (attempt r.history p).cell linked y))

            by : WasStamped p → IsNoted (attempt r'.history p).cell ⊎ (r'.listed q (attempt r'.history p).cell ≡ true)
            by (inl y) = stays (was p w made y seat)
            by (inr (m, (c, y))) = absurd (settled (attempt r.history p).seat c (i.puts.placed p w).seat seat m (rw row at y))

        which : (p < length r.history.attempts) ⊎ IsNew z r r' s l a p → IsNoted (attempt r'.history p).cell ⊎ (r'.listed q (attempt r'.history p).cell ≡ true)
        which (inl w) = old w
        which (inr y) = true_false x (ap (λ k. k.is_stamped) y.is)

    -- what a seat remembers of its group is so still
    marks_stay : (t : ℕ) (k : Local) → slice_get r.world.locals t ≡ Some k → (b : Activity) → k.activity ≡ b → IsRemembering b → All (IsMarkOf r'.history (source z r'.origin k)) k.rebalance.marks
    marks_stay t k g b e x = marks_last z r.history r'.history r.origin r'.origin r.ledger.rows goes k (places_linked z r i t k g b e x) k.rebalance.marks (marks_within z r i t k g b e x) ((i.puts.remembers t k g).marks (subst IsRemembering (sym e) x))

    -- what another seat remembers
    pub remembers_other : (t : ℕ) (k : Local) → slice_get r.world.locals t ≡ Some k → Remembers z r'.ledger.rows r'.history r'.origin r'.listed k.activity k
    remembers_other t k g = record {
      marks = marks_stay t k g k.activity refl;
      noted = λ q p u w e x b. noted_still q (λ c. is_marked (place_of z k q c) k.rebalance.marks ≡ true) (HasPassed k.activity k q) (frozen_linked z r i.shape t k g q (passed_frozen k.activity k q (attempt r'.history p).seat b)) (λ j c o y m f. not_pending (word z r.world) (slice_get r.world.locals) q j c ((i.puts.freezes t k g).settled q j y o) f) (λ y. (i.puts.remembers t k g).noted q y u) p w e x b;
    }

    -- The acting seat.

    abbrev RemembersNow : Activity → Local → Type 0
    RemembersNow b k = Remembers z r'.ledger.rows r'.history r'.origin r'.listed b k

    -- what it remembered
    own_marks : IsRemembering a → All (IsMarkOf r'.history (source z r'.origin l)) l.rebalance.marks
    own_marks = marks_stay s l h.knows a h.activity

    was_noted : (q p : ℕ) → IsToWalk a l q → HasPassed a l q (attempt r.history p).seat → p < length r.history.attempts → IsMadeIn r.ledger.rows r.history q p → (attempt r.history p).is_stamped ≡ true → (is_marked (place_of z l q (attempt r.history p).cell) l.rebalance.marks ≡ true) ⊎ (r.listed q (attempt r.history p).cell ≡ true)
    was_noted q p u b w e y = (i.puts.remembers s l h.knows).noted q p (subst (λ c. IsToWalk c l q) (sym h.activity) u) w e y (subst (λ c. HasPassed c l q (attempt r.history p).seat) (sym h.activity) b)

    -- what it remembers then, by what is remembered or listed of the stamped attempts before
    knows : (b : Activity) (k : Local) → (IsStamping a → ⊥) → (IsRemembering b → All (IsMarkOf r'.history (source z r'.origin k)) k.rebalance.marks) → ((q j : ℕ) → HasPassed b k q j → WasLinked r.ledger.rows q) →
        ((q p : ℕ) → IsToWalk b k q → HasPassed b k q (attempt r.history p).seat → p < length r.history.attempts → IsMadeIn r.ledger.rows r.history q p → (attempt r.history p).is_stamped ≡ true → (is_marked (place_of z k q (attempt r.history p).cell) k.rebalance.marks ≡ true) ⊎ (r.listed q (attempt r.history p).cell ≡ true)) →
        RemembersNow b k
    knows b k n marks linked was = record {
      marks = marks;
      noted = λ q p u w e x y. noted_still q (λ c. is_marked (place_of z k q c) k.rebalance.marks ≡ true) (HasPassed b k q) (linked q (attempt r'.history p).seat y) (λ j c o v m f. n m) (λ d v f m g. was q d u g v f m) p w e x y;
    }

    -- where it goes by no entry
    goes_on : (b : Activity) (k : Local) → (IsStamping a → ⊥) → (IsRemembering b → All (IsMarkOf r'.history (source z r'.origin k)) k.rebalance.marks) → ((q : ℕ) → IsToWalk b k q → IsToWalk a l q) → ((q j : ℕ) → HasPassed b k q j → HasPassed a l q j) →
        ((q c : ℕ) → IsToWalk b k q → is_marked (place_of z l q c) l.rebalance.marks ≡ true → is_marked (place_of z k q c) k.rebalance.marks ≡ true) → RemembersNow b k
    goes_on b k n marks walks passed more = knows b k n marks (λ q j x. its_row z r r' s choice l a l' h i q (passed_frozen a l q j (passed q j x))) was
      where
        was : (q p : ℕ) → IsToWalk b k q → HasPassed b k q (attempt r.history p).seat → p < length r.history.attempts → IsMadeIn r.ledger.rows r.history q p → (attempt r.history p).is_stamped ≡ true → (is_marked (place_of z k q (attempt r.history p).cell) k.rebalance.marks ≡ true) ⊎ (r.listed q (attempt r.history p).cell ≡ true)
        was q p u x w e y = by (was_noted q p (walks q u) (passed q (attempt r.history p).seat x) w e y)
          where
            by : (is_marked (place_of z l q (attempt r.history p).cell) l.rebalance.marks ≡ true) ⊎ (r.listed q (attempt r.history p).cell ≡ true) → (is_marked (place_of z k q (attempt r.history p).cell) k.rebalance.marks ≡ true) ⊎ (r.listed q (attempt r.history p).cell ≡ true)
            by (inl v) = inl (more q (attempt r.history p).cell u v)
            by (inr v) = inr v

    -- where it remembers nothing
    forgets : (b : Activity) (k : Local) → (IsRemembering b → ⊥) → RemembersNow b k
    forgets b k n = record { marks = λ x. absurd (n x); noted = λ q p u. absurd (n (walk_remembers b k q u)) }

    -- where it goes by entry m of the row at hand: each stamped attempt of that seat is remembered
    -- or listed
    module _ (m : ℕ) (n : IsStamping a → ⊥) (hand : Hand l) (walks : (q : ℕ) → IsOfGroup l q → IsToWalk a l q) (passed : (q j : ℕ) → IsBehind l q ⊎ (q ≡ l.rebalance.hand) × (j < m) → HasPassed a l q j) (frozen : (q : ℕ) → IsBehind l q ⊎ (q ≡ l.rebalance.hand) → HasFrozen a l q) (marks : List Mark) (known : All (IsMarkOf r'.history (source z r'.origin l)) marks)
        (more : (c : ℕ) → is_marked c l.rebalance.marks ≡ true → is_marked c marks ≡ true)
        (here : (p : ℕ) → p < length r.history.attempts → (attempt r.history p).is_stamped ≡ true → word z r.world (name.Pend l.rebalance.hand m) ≡ pend_word (pend.Stamped (attempt r.history p).cell (attempt r.history p).version) → is_marked (place_of z l l.rebalance.hand (attempt r.history p).cell) marks ≡ true) where
      one_more : (q p e : ℕ) → e ≤ m + 1 → IsBehind l q ⊎ (q ≡ l.rebalance.hand) × ((attempt r.history p).seat < e) → p < length r.history.attempts → IsMadeIn r.ledger.rows r.history q p → (attempt r.history p).is_stamped ≡ true → (is_marked (place_of z l q (attempt r.history p).cell) marks ≡ true) ⊎ (r.listed q (attempt r.history p).cell ≡ true)
      one_more q p e d x w f y = which x
        where
          before : IsBehind l q ⊎ (q ≡ l.rebalance.hand) × ((attempt r.history p).seat < m) → IsOfGroup l q → (is_marked (place_of z l q (attempt r.history p).cell) marks ≡ true) ⊎ (r.listed q (attempt r.history p).cell ≡ true)
          before u g = by (was_noted q p (walks q g) (passed q (attempt r.history p).seat u) w f y)
            where
              by : (is_marked (place_of z l q (attempt r.history p).cell) l.rebalance.marks ≡ true) ⊎ (r.listed q (attempt r.history p).cell ≡ true) → (is_marked (place_of z l q (attempt r.history p).cell) marks ≡ true) ⊎ (r.listed q (attempt r.history p).cell ≡ true)
              by (inl v) = inl (more _ v)
              by (inr v) = inr v

          now : q ≡ l.rebalance.hand → (attempt r.history p).seat ≡ m → (word z r.world (name.Pend (attempt r.history p).row (attempt r.history p).seat) ≡ pend_word (pend.Stamped (attempt r.history p).cell (attempt r.history p).version)) ⊎ (r.listed (attempt r.history p).row (attempt r.history p).cell ≡ true) → (is_marked (place_of z l q (attempt r.history p).cell) marks ≡ true) ⊎ (r.listed q (attempt r.history p).cell ≡ true)
          now u c (inl v) = inl (subst (λ t. is_marked (place_of z l t (attempt r.history p).cell) marks ≡ true) (sym u) (here p w y (rw (f.row ∙ u, c) at v)))
          now u c (inr v) = inr (rw f.row at v)

          which : IsBehind l q ⊎ (q ≡ l.rebalance.hand) × ((attempt r.history p).seat < e) → (is_marked (place_of z l q (attempt r.history p).cell) marks ≡ true) ⊎ (r.listed q (attempt r.history p).cell ≡ true)
          which (inl u) = before (inl u) (inl u.1)
          which (inr u) = split (cases_lt (attempt r.history p).seat m)
            where
              split : ((attempt r.history p).seat < m) ⊎ (m ≤ (attempt r.history p).seat) → (is_marked (place_of z l q (attempt r.history p).cell) marks ≡ true) ⊎ (r.listed q (attempt r.history p).cell ≡ true)
              split (inl c) = before (inr (u.0, c)) (subst (IsOfGroup l) (sym u.0) (hand_of_group l hand))
              split (inr c) = now u.0 (omega (arith, c, u.1, d)) (stamped_or_listed z r i p w (made_here r.ledger.rows r.history q p (its_row z r r' s choice l a l' h i q (frozen q (inr u.0))) f) y)

      -- the next entry of that row is next
      next_entry : RemembersNow (Activity.Rebalance (Rebalance.Freeze (Freeze.Look (m + 1)))) (record l { rebalance = record l.rebalance { marks = marks }; activity = Activity.Rebalance (Rebalance.Freeze (Freeze.Look (m + 1))) })
      next_entry = knows _ _ n (λ x. known) linked (λ q p u x w f y. one_more q p (m + 1) (omega arith) x w f y)
        where
          linked : (q j : ℕ) → IsBehind l q ⊎ (q ≡ l.rebalance.hand) × (j < m + 1) → WasLinked r.ledger.rows q
          linked q j (inl x) = its_row z r r' s choice l a l' h i q (frozen q (inl x))
          linked q j (inr x) = its_row z r r' s choice l a l' h i q (frozen q (inr x.0))

      -- that was the last one, and the row is frozen
      last_entry : (k : Local) → z.seats ≤ m + 1 → NextFrozen (record l { rebalance = record l.rebalance { marks = marks } }) k → RemembersNow k.activity k
      last_entry k u (freezes_ahead t e) = knows k.activity k n (λ x. known) (λ q j x. its_row z r r' s choice l a l' h i q (frozen q (inr (first q x)))) (λ q p v x w f y. one_more q p z.seats u (inr (first q x, (i.puts.placed p w).seat)) w f y)
        where
          first : (q : ℕ) → IsBehind k q → q ≡ l.rebalance.hand
          first q x = x.1 ∙ sym (first_at_hand l t hand e)
      last_entry k u (froze_all e) = knows k.activity k n (λ x. known) (λ q j x. its_row z r r' s choice l a l' h i q (frozen q (none_ahead l q hand e x.1))) (λ q p v x w f y. one_more q p z.seats u (within q (attempt r.history p).seat (i.puts.placed p w).seat (none_ahead l q hand e x.1)) w f y)
        where
          within : (q j : ℕ) → j < z.seats → IsBehind l q ⊎ (q ≡ l.rebalance.hand) → IsBehind l q ⊎ (q ≡ l.rebalance.hand) × (j < z.seats)
          within q j o (inl x) = inl x
          within q j o (inr x) = inr (x, o)

    -- Where it gathers.

    -- it takes up the first row of the group, after it has gone by the entries of all
    takes_up : (needed : List ℕ) → (IsStamping a → ⊥) → IsRemembering a → ((q : ℕ) → IsOfGroup l q → IsToWalk a l q) → ((q j : ℕ) → IsOfGroup l q → HasPassed a l q j) → RemembersNow (Activity.Rebalance (Rebalance.Gather Gather.Link)) (to_take (record l { rebalance = record l.rebalance { needed = needed } })).local
    takes_up needed n x walks passed = goes_on _ _ n (λ y. own_marks x) (λ q u. walks q (inr u)) (λ q j v. passed q j v.1) (λ q c u v. v)

    -- it goes over to the next row of the group, or has gathered all of it
    next_row : (gathered : List Cell) (k : Local) → IsRemembering a → NextGathered z (record l { rebalance = record l.rebalance { gathered = gathered } }) k → RemembersNow k.activity k
    next_row gathered k x (gathers_ahead t e) = record { marks = λ y. own_marks x; noted = λ q p u. let y : None ≡ Some q = u in absurd (cc) }
    next_row gathered k x (gathered_all e) = record { marks = λ y. absurd y; noted = λ q p u. absurd u }

    -- a place of the row ahead is remembered still, where one of the row at hand is not any more
    still_marked : HasHand a → HasGroup a → (q c d : ℕ) → l.rebalance.ahead ≡ Some q → d < place_in_group z l.rebalance z.cells → is_marked (place_of z l q c) l.rebalance.marks ≡ true → is_marked (place_of z l q c) (unmarked d l.rebalance.marks) ≡ true
    still_marked x m q c d u o v = marked_other (place_of z l q c) d l.rebalance.marks (ahead_apart z l q c d (its_hand z r r' s choice l a l' h i x) (second_apart z r i.shape s l h.knows (subst HasGroup (sym h.activity) m)) u o) ∙ v

-- What a look, or a cell, leads to remembers no place.

look_remembers : (z : Sizes) (j : ℕ) (a : Activity) → NextLook z j a → IsRemembering a → ⊥
look_remembers z j a (looks o) p = p
look_remembers z j a (lists o) p = p

left_over_remembers : (l : Local) (n : Local) → NextLeftOver l n → IsRemembering n.activity → ⊥
left_over_remembers l n (goes_to_left_over m o) p = p
left_over_remembers l n (answers o e) p = p
left_over_remembers l n (ends_scan o e f) p = p
left_over_remembers l n (scans_on q o e f g) p = p

-- nor does a seat that builds new rows
after_remembers : (a : Activity) → IsAfterBuilding a → IsRemembering a → ⊥
after_remembers (Activity.Rebalance (Rebalance.Freeze _)) n x = n
after_remembers (Activity.Rebalance (Rebalance.Gather _)) n x = n
after_remembers (Activity.Rebalance (Rebalance.Engage Engage.Clock)) n x = x
after_remembers _ n x = x

-- The entry that the acting seat goes by.

module _ (z : Sizes) (r : Run) (i : Below z r) (l : Local) (m : ℕ) where
  -- the place of the cell of a stamped entry is that of an attempt that is stamped with the entry's
  -- version, and one of the group
  hand_mark : Hand l → (c version : ℕ) → l.rebalance.hand < r.world.rows → m < z.seats → pend_of (word z r.world (name.Pend l.rebalance.hand m)) ≡ Some (pend.Stamped c version) → IsMarkOf r.history (source z r.origin l) (mark_of (place_in_group z l.rebalance c) version) × (place_in_group z l.rebalance c < places z l.rebalance.second)
  hand_mark hand c version w o e =
      let x = stamped_mark z r i l.rebalance.hand m c version w o e in
      let u : (c < z.cells) × IsVersion version = subst (IsEntry z) e (i.shape.sane.each (name.Pend l.rebalance.hand m) (w, o)) in
      (record { put = x.put; origin = source_in_hand z l r.origin hand c u.0 ∙ x.origin; stamped = x.stamped; version = x.version }, place_within z l.rebalance c u.0)

  -- a stamped entry is that of the cell whose place is remembered now
  stamped_here : (c version : ℕ) (marks : List Mark) → pend_of (word z r.world (name.Pend l.rebalance.hand m)) ≡ Some (pend.Stamped c version) → (p : ℕ) → p < length r.history.attempts → (attempt r.history p).is_stamped ≡ true → word z r.world (name.Pend l.rebalance.hand m) ≡ pend_word (pend.Stamped (attempt r.history p).cell (attempt r.history p).version) → is_marked (place_of z l l.rebalance.hand (attempt r.history p).cell) (marks ++ mark_of (place_in_group z l.rebalance c) version ∷ []) ≡ true
  stamped_here c version marks e p w y x =
      let k : Some (pend.Stamped (attempt r.history p).cell (attempt r.history p).version) ≡ Some (pend.Stamped c version) = sym (ap pend_of x ∙ reads_stamped z r i p w y) ∙ e in
      let cell : (attempt r.history p).cell ≡ c = cc in
      rw cell (marked_last (place_in_group z l.rebalance c) version marks)

  -- an entry that reads otherwise is none of a stamped attempt
  frozen_here : {A : Type 0} → (pend_of (word z r.world (name.Pend l.rebalance.hand m)) ≡ Some pend.Frozen) ⊎ (pend_of (word z r.world (name.Pend l.rebalance.hand m)) ≡ None) → (p : ℕ) → p < length r.history.attempts → (attempt r.history p).is_stamped ≡ true → word z r.world (name.Pend l.rebalance.hand m) ≡ pend_word (pend.Stamped (attempt r.history p).cell (attempt r.history p).version) → A
  frozen_here (inl e) p w y x = let k : Some (pend.Stamped (attempt r.history p).cell (attempt r.history p).version) ≡ Some pend.Frozen = sym (ap pend_of x ∙ reads_stamped z r i p w y) ∙ e in absurd (cc)
  frozen_here (inr e) p w y x = let k : Some (pend.Stamped (attempt r.history p).cell (attempt r.history p).version) ≡ None = sym (ap pend_of x ∙ reads_stamped z r i p w y) ∙ e in absurd (cc)

  -- nor is one that the seat froze
  froze_here : {A : Type 0} → IsUnsettled l.rebalance.entry → word z r.world (name.Pend l.rebalance.hand m) ≡ pend_word l.rebalance.entry → (c version : ℕ) → word z r.world (name.Pend l.rebalance.hand m) ≡ pend_word (pend.Stamped c version) → A
  froze_here u e c version x = absurd (not_unsettled l.rebalance.entry c version u (sym x ∙ e))

-- what the seat remembers with the cell of a stamped entry
knows_more : (z : Sizes) (r r' : Run) (s : ℕ) (choice : Choice) (l l' : Local) (m : ℕ) (h : Happens z r r' s choice l l' (Activity.Rebalance (Rebalance.Freeze (Freeze.Look m)))) (i : Below z r) (st : Step r.history r'.history (log_entry z r (Activity.Rebalance (Rebalance.Freeze (Freeze.Look m))) s choice l)) (c version : ℕ) → pend_of (word z r.world (name.Pend l.rebalance.hand m)) ≡ Some (pend.Stamped c version) →
    All (IsMarkOf r'.history (source z r'.origin l)) (marking z c version l).rebalance.marks
knows_more z r r' s choice l l' m h i st c version e =
    let known = i.shape.sane.locals s l h.knows in
    let hand = its_hand z r r' s choice l (Activity.Rebalance (Rebalance.Freeze (Freeze.Look m))) l' h i tt in
    let now = hand_mark z r i l m hand c version known.below.rebalance.hand (subst (IsActivity z) h.activity known.ranges.activity) e in
    All-push (IsMarkOf r'.history (source z r'.origin l)) l.rebalance.marks (mark_of (place_in_group z l.rebalance c) version)
    (own_marks z r r' s choice l (Activity.Rebalance (Rebalance.Freeze (Freeze.Look m))) l' h i st tt)
    (mark_lasts z r.history r'.history r.origin r'.origin r.ledger.rows (goes z r r' s choice l (Activity.Rebalance (Rebalance.Freeze (Freeze.Look m))) l' h i st) l (places_linked z r i s l h.knows _ h.activity tt) (mark_of (place_in_group z l.rebalance c) version) now.1 now.0)

-- a seat that knows how many rows go remembers no cell yet
counted_remembers : (z : Sizes) (r r' : Run) (s : ℕ) (choice : Choice) {l : Local} {a : Activity} (n : Local) → Happens z r r' s choice l n a → Shape z r' → {count : ℕ} {m : Local} → NextCounted count m n → Remembers z r'.ledger.rows r'.history r'.origin r'.listed n.activity n
counted_remembers z r r' s choice n h after (claims_row q two e) = record { marks = λ x. absurd x; noted = λ q p u. absurd u }
counted_remembers z r r' s choice n h after (goes_alone d) = record { marks = λ x. All-nil (IsMarkOf r'.history (source z r'.origin n)); noted = λ q p u w e y b. absurd (second_apart z r' after s n (knows_next h) tt b.0) }

-- what the acting seat remembers
pub remembers_own : (z : Sizes) (r r' : Run) (s : ℕ) (choice : Choice) (l : Local) (a : Activity) (l' : Local) → Arrow z (word z r.world) s choice l a l' → Happens z r r' s choice l l' a → Below z r → Step r.history r'.history (log_entry z r a s choice l) → Shape z r' → Remembers z r'.ledger.rows r'.history r'.origin r'.listed l'.activity l'
remembers_own z r r' s choice l a l' (builds b next y t) h i st after = forgets z r r' s choice l b next h i st next.activity next (after_remembers next.activity (built_next z (word z r.world) choice l b next t))
remembers_own z r r' s choice l a l' (asks_of_pin next o n) h i st after = no_call_of_pin _ h i.shape o
remembers_own z r r' s choice l a l' (looks_at_pin j next n) h i st after = absurd (kind_at _ h i.shape)
remembers_own z r r' s choice l a l' freezes_count h i st after = goes_on z r r' s choice l (Activity.Rebalance (Rebalance.Freeze Freeze.Count)) l' h i st _ l' (λ y. y) (λ y. own_marks z r r' s choice l (Activity.Rebalance (Rebalance.Freeze Freeze.Count)) l' h i st tt) (λ q u. u) passed (λ q c u v. v)
  where
    passed : (q j : ℕ) → IsBehind l q ⊎ (q ≡ l.rebalance.hand) × (j < 0) → IsBehind l q
    passed q j (inl x) = x
    passed q j (inr x) = absurd (omega (arith, x.1))
remembers_own z r r' s choice l a l' (sees_idle m e) h i st after = goes_on z r r' s choice l (Activity.Rebalance (Rebalance.Freeze (Freeze.Look m))) l' h i st _ l' (λ y. y) (λ y. own_marks z r r' s choice l (Activity.Rebalance (Rebalance.Freeze (Freeze.Look m))) l' h i st tt) (λ q u. u) (λ q j v. v) (λ q c u v. v)
remembers_own z r r' s choice l a l' (sees_unstamped m c e) h i st after = goes_on z r r' s choice l (Activity.Rebalance (Rebalance.Freeze (Freeze.Look m))) l' h i st _ l' (λ y. y) (λ y. own_marks z r r' s choice l (Activity.Rebalance (Rebalance.Freeze (Freeze.Look m))) l' h i st tt) (λ q u. u) (λ q j v. v) (λ q c u v. v)
remembers_own z r r' s choice l a l' (remembers m c version e u) h i st after = next_entry z r r' s choice l (Activity.Rebalance (Rebalance.Freeze (Freeze.Look m))) l' h i st m (λ y. y) (its_hand z r r' s choice l (Activity.Rebalance (Rebalance.Freeze (Freeze.Look m))) l' h i tt) (λ q x. x) (λ q j x. x) (λ q x. x) ((marking z c version l).rebalance.marks) (knows_more z r r' s choice l l' m h i st c version e) (λ d x. marked_more d l.rebalance.marks _ x) (stamped_here z r i l m c version l.rebalance.marks e)
remembers_own z r r' s choice l a l' (remembers_last m c version next e u n) h i st after = last_entry z r r' s choice l (Activity.Rebalance (Rebalance.Freeze (Freeze.Look m))) l' h i st m (λ y. y) (its_hand z r r' s choice l (Activity.Rebalance (Rebalance.Freeze (Freeze.Look m))) l' h i tt) (λ q x. x) (λ q j x. x) (λ q x. x) ((marking z c version l).rebalance.marks) (knows_more z r r' s choice l l' m h i st c version e) (λ d x. marked_more d l.rebalance.marks _ x) (stamped_here z r i l m c version l.rebalance.marks e) l' u n
remembers_own z r r' s choice l a l' (sees_frozen m e u) h i st after = next_entry z r r' s choice l (Activity.Rebalance (Rebalance.Freeze (Freeze.Look m))) l' h i st m (λ y. y) (its_hand z r r' s choice l (Activity.Rebalance (Rebalance.Freeze (Freeze.Look m))) l' h i tt) (λ q x. x) (λ q j x. x) (λ q x. x) l.rebalance.marks (own_marks z r r' s choice l (Activity.Rebalance (Rebalance.Freeze (Freeze.Look m))) l' h i st tt) (λ d x. x) (λ p w y x. frozen_here z r i l m e p w y x)
remembers_own z r r' s choice l a l' (sees_frozen_last m next e u n) h i st after = last_entry z r r' s choice l (Activity.Rebalance (Rebalance.Freeze (Freeze.Look m))) l' h i st m (λ y. y) (its_hand z r r' s choice l (Activity.Rebalance (Rebalance.Freeze (Freeze.Look m))) l' h i tt) (λ q x. x) (λ q j x. x) (λ q x. x) l.rebalance.marks (own_marks z r r' s choice l (Activity.Rebalance (Rebalance.Freeze (Freeze.Look m))) l' h i st tt) (λ d x. x) (λ p w y x. frozen_here z r i l m e p w y x) l' u n
remembers_own z r r' s choice l a l' (freezes_entry m e u) h i st after = next_entry z r r' s choice l (Activity.Rebalance (Rebalance.Freeze (Freeze.Entry m))) l' h i st m (λ y. y) (its_hand z r r' s choice l (Activity.Rebalance (Rebalance.Freeze (Freeze.Entry m))) l' h i tt) (λ q x. x) (λ q j x. x) (λ q x. x) l.rebalance.marks (own_marks z r r' s choice l (Activity.Rebalance (Rebalance.Freeze (Freeze.Entry m))) l' h i st tt) (λ d x. x) (λ p w y x. froze_here z r i l m (subst (λ x. IsToFreeze x l) h.activity (i.puts.tries s l h.knows)) e _ _ x)
remembers_own z r r' s choice l a l' (freezes_last m next e u n) h i st after = last_entry z r r' s choice l (Activity.Rebalance (Rebalance.Freeze (Freeze.Entry m))) l' h i st m (λ y. y) (its_hand z r r' s choice l (Activity.Rebalance (Rebalance.Freeze (Freeze.Entry m))) l' h i tt) (λ q x. x) (λ q j x. x) (λ q x. x) l.rebalance.marks (own_marks z r r' s choice l (Activity.Rebalance (Rebalance.Freeze (Freeze.Entry m))) l' h i st tt) (λ d x. x) (λ p w y x. froze_here z r i l m (subst (λ x. IsToFreeze x l) h.activity (i.puts.tries s l h.knows)) e _ _ x) l' u n
remembers_own z r r' s choice l a l' (looks_again m e) h i st after = goes_on z r r' s choice l (Activity.Rebalance (Rebalance.Freeze (Freeze.Entry m))) l' h i st _ l' (λ y. y) (λ y. own_marks z r r' s choice l (Activity.Rebalance (Rebalance.Freeze (Freeze.Entry m))) l' h i st tt) (λ q u. u) (λ q j v. v) (λ q c u v. v)
remembers_own z r r' s choice l a l' (sees_quiet m e u) h i st after = goes_on z r r' s choice l (Activity.Rebalance (Rebalance.Freeze (Freeze.Scan m))) l' h i st _ l' (λ y. y) (λ y. own_marks z r r' s choice l (Activity.Rebalance (Rebalance.Freeze (Freeze.Scan m))) l' h i st tt) (λ q u. u) (λ q j v. v) (λ q c u v. v)
remembers_own z r r' s choice l a l' (helps_scan m clock e) h i st after = goes_on z r r' s choice l (Activity.Rebalance (Rebalance.Freeze (Freeze.Scan m))) l' h i st _ l' (λ y. y) (λ y. own_marks z r r' s choice l (Activity.Rebalance (Rebalance.Freeze (Freeze.Scan m))) l' h i st tt) (λ q u. u) (λ q j v. v) (λ q c u v. v)
remembers_own z r r' s choice l a l' (sees_drawn m version e u) h i st after = goes_on z r r' s choice l (Activity.Rebalance (Rebalance.Freeze (Freeze.Scan m))) l' h i st _ l' (λ y. y) (λ y. own_marks z r r' s choice l (Activity.Rebalance (Rebalance.Freeze (Freeze.Scan m))) l' h i st tt) (λ q u. u) (λ q j v. v) (λ q c u v. v)
remembers_own z r r' s choice l a l' (draws_for m) h i st after = goes_on z r r' s choice l (Activity.Rebalance (Rebalance.Freeze (Freeze.Draw m))) l' h i st _ l' (λ y. y) (λ y. own_marks z r r' s choice l (Activity.Rebalance (Rebalance.Freeze (Freeze.Draw m))) l' h i st tt) (λ q u. u) (λ q j v. v) (λ q c u v. v)
remembers_own z r r' s choice l a l' (settles_scan m e u) h i st after = goes_on z r r' s choice l (Activity.Rebalance (Rebalance.Freeze (Freeze.Settle m))) l' h i st _ l' (λ y. y) (λ y. own_marks z r r' s choice l (Activity.Rebalance (Rebalance.Freeze (Freeze.Settle m))) l' h i st tt) (λ q u. u) (λ q j v. v) (λ q c u v. v)
remembers_own z r r' s choice l a l' (finds_drawn m version e u) h i st after = goes_on z r r' s choice l (Activity.Rebalance (Rebalance.Freeze (Freeze.Settle m))) l' h i st _ l' (λ y. y) (λ y. own_marks z r r' s choice l (Activity.Rebalance (Rebalance.Freeze (Freeze.Settle m))) l' h i st tt) (λ q u. u) (λ q j v. v) (λ q c u v. v)
remembers_own z r r' s choice l a l' (finds_no_scan m e u) h i st after = goes_on z r r' s choice l (Activity.Rebalance (Rebalance.Freeze (Freeze.Settle m))) l' h i st _ l' (λ y. y) (λ y. own_marks z r r' s choice l (Activity.Rebalance (Rebalance.Freeze (Freeze.Settle m))) l' h i st tt) (λ q u. u) (λ q j v. v) (λ q c u v. v)
remembers_own z r r' s choice l a l' (sees_quiet_last m e u) h i st after = takes_up z r r' s choice l (Activity.Rebalance (Rebalance.Freeze (Freeze.Scan m))) l' h i st l.rebalance.needed (λ y. y) tt (λ q u. u) (λ q j u. (tt, u))
remembers_own z r r' s choice l a l' (sees_drawn_last m version e u) h i st after = takes_up z r r' s choice l (Activity.Rebalance (Rebalance.Freeze (Freeze.Scan m))) l' h i st (needing version l).rebalance.needed (λ y. y) tt (λ q u. u) (λ q j u. (tt, u))
remembers_own z r r' s choice l a l' (settles_last m e u) h i st after = takes_up z r r' s choice l (Activity.Rebalance (Rebalance.Freeze (Freeze.Settle m))) l' h i st (needing l.rebalance.drawn l).rebalance.needed (λ y. y) tt (λ q u. u) (λ q j u. (tt, u))
remembers_own z r r' s choice l a l' (finds_drawn_last m version e u) h i st after = takes_up z r r' s choice l (Activity.Rebalance (Rebalance.Freeze (Freeze.Settle m))) l' h i st (needing version l).rebalance.needed (λ y. y) tt (λ q u. u) (λ q j u. (tt, u))
remembers_own z r r' s choice l a l' (finds_no_scan_last m e u) h i st after = takes_up z r r' s choice l (Activity.Rebalance (Rebalance.Freeze (Freeze.Settle m))) l' h i st l.rebalance.needed (λ y. y) tt (λ q u. u) (λ q j u. (tt, u))
remembers_own z r r' s choice l a l' (take_leads c e) h i st after = goes_on z r r' s choice l (Activity.Rebalance (Rebalance.Gather Gather.Link)) l' h i st _ l' (λ y. y) (λ y. unmarked_in_range (IsMarkOf r'.history (source z r'.origin l)) (place_in_group z l.rebalance c) l.rebalance.marks (own_marks z r r' s choice l (Activity.Rebalance (Rebalance.Gather Gather.Link)) l' h i st tt)) (λ q u. u) (λ q j v. v) (λ q t u v. still_marked z r r' s choice l (Activity.Rebalance (Rebalance.Gather Gather.Link)) l' h i st tt tt q t (place_in_group z l.rebalance c) u (omega (arith, (after.sane.locals s l' (knows_next h)).ranges.place)) v)
remembers_own z r r' s choice l a l' (takes_left m e u o) h i st after = goes_on z r r' s choice l (Activity.Rebalance (Rebalance.Gather Gather.Link)) l' h i st _ l' (λ y. y) (λ y. unmarked_in_range (IsMarkOf r'.history (source z r'.origin l)) m.cell l.rebalance.marks (own_marks z r r' s choice l (Activity.Rebalance (Rebalance.Gather Gather.Link)) l' h i st tt)) (λ q u. u) (λ q j v. v) (λ q t u v. still_marked z r r' s choice l (Activity.Rebalance (Rebalance.Gather Gather.Link)) l' h i st tt tt q t m.cell u o v)
remembers_own z r r' s choice l a l' (keeps_left m e o) h i st after = goes_on z r r' s choice l (Activity.Rebalance (Rebalance.Gather Gather.LeftOverValue)) l' h i st _ l' (λ y. y) (λ y. unmarked_in_range (IsMarkOf r'.history (source z r'.origin l)) m.cell l.rebalance.marks (own_marks z r r' s choice l (Activity.Rebalance (Rebalance.Gather Gather.LeftOverValue)) l' h i st tt)) (λ q u. u) (λ q j v. v) (λ q t u v. still_marked z r r' s choice l (Activity.Rebalance (Rebalance.Gather Gather.LeftOverValue)) l' h i st tt tt q t m.cell u o v)
remembers_own z r r' s choice l a l' (takes_no_more next e u n) h i st after = next_row z r r' s choice l (Activity.Rebalance (Rebalance.Gather Gather.Link)) l' h i st l.rebalance.gathered l' tt n
remembers_own z r r' s choice l a l' (keeps_no_more next u n) h i st after = next_row z r r' s choice l (Activity.Rebalance (Rebalance.Gather Gather.LeftOverValue)) l' h i st _ l' tt n
remembers_own z r r' s choice l a l' takes_key h i st after = goes_on z r r' s choice l (Activity.Rebalance (Rebalance.Gather Gather.Key)) l' h i st _ l' (λ y. y) (λ y. own_marks z r r' s choice l (Activity.Rebalance (Rebalance.Gather Gather.Key)) l' h i st tt) (λ q u. u) (λ q j v. v) (λ q c u v. v)
remembers_own z r r' s choice l a l' takes_version h i st after = goes_on z r r' s choice l (Activity.Rebalance (Rebalance.Gather Gather.Version)) l' h i st _ l' (λ y. y) (λ y. own_marks z r r' s choice l (Activity.Rebalance (Rebalance.Gather Gather.Version)) l' h i st tt) (λ q u. u) (λ q j v. v) (λ q c u v. v)
remembers_own z r r' s choice l a l' keeps_taken h i st after = goes_on z r r' s choice l (Activity.Rebalance (Rebalance.Gather Gather.Value)) l' h i st _ l' (λ y. y) (λ y. own_marks z r r' s choice l (Activity.Rebalance (Rebalance.Gather Gather.Value)) l' h i st tt) (λ q u. u) (λ q j v. v) (λ q c u v. v)
remembers_own z r r' s choice l a l' takes_left_key h i st after = goes_on z r r' s choice l (Activity.Rebalance (Rebalance.Gather Gather.LeftOverKey)) l' h i st _ l' (λ y. y) (λ y. own_marks z r r' s choice l (Activity.Rebalance (Rebalance.Gather Gather.LeftOverKey)) l' h i st tt) (λ q u. u) (λ q j v. v) (λ q c u v. v)
remembers_own z r r' s choice l a l' (marks_led count next d n) h i st after = counted_remembers z r r' s choice next h after n
remembers_own z r r' s choice l a l' (decides count m next e n) h i st after = counted_remembers z r r' s choice next h after n
remembers_own z r r' s choice l a l' (next_leads count e) h i st after = record { marks = λ x. All-nil (IsMarkOf r'.history (source z r'.origin l')); noted = λ q p u w e y b. absurd (second_apart z r' after s l' (knows_next h) tt b.0) }
remembers_own z r r' s choice l a l' marks_next h i st after = record { marks = λ x. All-nil (IsMarkOf r'.history (source z r'.origin l')); noted = λ q p u w e y b. absurd (second_apart z r' after s l' (knows_next h) tt b.0) }
remembers_own z r r' s choice l a l' (sees_stamped j c version next e n) h i st after = forgets z r r' s choice l _ l' h i st next l' (look_remembers z _ next n)
remembers_own z r r' s choice l a l' (sees_neither j next e n) h i st after = forgets z r r' s choice l _ l' h i st next l' (look_remembers z _ next n)
remembers_own z r r' s choice l a l' (is_gone_by next e n) h i st after = forgets z r r' s choice l _ l' h i st next l' (look_remembers z _ next n)
remembers_own z r r' s choice l a l' (helps next e n) h i st after = forgets z r r' s choice l _ l' h i st next l' (look_remembers z _ next n)
remembers_own z r r' s choice l a l' (finds_stamped c version next e n) h i st after = forgets z r r' s choice l _ l' h i st next l' (look_remembers z _ next n)
remembers_own z r r' s choice l a l' (finds_other next e n) h i st after = forgets z r r' s choice l _ l' h i st next l' (look_remembers z _ next n)
remembers_own z r r' s choice l a l' (first_ends next e n) h i st after = forgets z r r' s choice l _ l' h i st next.activity l' (left_over_remembers _ next n)
remembers_own z r r' s choice l a l' (list_ends next e n) h i st after = forgets z r r' s choice l _ l' h i st next.activity l' (left_over_remembers _ next n)
remembers_own z r r' s choice l a l' (key_above next e n) h i st after = forgets z r r' s choice l _ l' h i st next.activity l' (left_over_remembers _ next n)
remembers_own z r r' s choice l a l' (left_over_gone_by next e n) h i st after = forgets z r r' s choice l _ l' h i st next.activity l' (left_over_remembers _ next n)
remembers_own z r r' s choice l a l' (gathers_left_over next n) h i st after = forgets z r r' s choice l _ l' h i st next.activity l' (left_over_remembers _ next n)
remembers_own z r r' s choice l a l' _ h i st after = forgets z r r' s choice l a l' h i st l'.activity l' (λ p. p)
