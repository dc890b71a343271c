-- Every event keeps what a rebalance knows of the versions that scans and pins need: it begins to
-- ask when all entries of its rows are settled, at the clock of that event; each scan that it looks
-- at adds its version to the list, or needs none, or began to wait later; and what others do
-- changes nothing of it. A pin comes from the scan of its seat, which is gone by before the pin is.
use Rattle.std.proofs.Common.{ℕ, ◌≡◌, ◌≢◌, ◌⊎◌, inl, inr, ◌+◌, ◌<◌, ◌≤◌, Contains, Option, Some, None, List, [], ◌∷◌, ◌++◌, arith, refl, sym, ◌∙◌, ap, subst, length, slice_get, eq-eqb}
use Rattle.std.proofs.lemmas.Bool.{cases_lt}
use Rattle.std.proofs.lemmas.List.Elements.{Contains-append_left, Contains-push}
use Rattle.kw_words.specs.declared.layout.Name.TheVariants as name
use Rattle.kw_words.specs.declared.scan.ScanWord.{ScanWord}
use Rattle.kw_words.specs.declared.scan.ScanWord.TheVariants.{Quiet, Waiting, Drawn}
use Rattle.kw_words.specs.Scan.{scan_of, scan_word}
use Rattle.kw_words.proofs.ScanWords.{scan_word_of}
use Rattle.kw_rows.specs.Rows.{WasLinked}
use Rattle.kw_world.specs.declared.activity.Activity.{Activity}
use Rattle.kw_world.specs.declared.activity.draw.Draw.TheVariants as Draw
use Rattle.kw_world.specs.declared.activity.rebalance.engage.Engage.TheVariants as Engage
use Rattle.kw_world.specs.declared.activity.rebalance.freeze.Freeze.TheVariants as Freeze
use Rattle.kw_world.specs.declared.activity.rebalance.gather.Gather.TheVariants as Gather
use Rattle.kw_world.specs.declared.activity.rebalance.Rebalance.TheVariants as Rebalance
use Rattle.kw_world.specs.declared.event.Choice.{Choice}
use Rattle.kw_world.specs.declared.local.Local.{Local}
use Rattle.kw_world.specs.Sane.{IsActivity, IsKnownWord}
use Rattle.kw_world.specs.Sizes.{Sizes}
use Rattle.kw_world.specs.Step.{word}
use Rattle.kw_core.specs.History.{attempt}
use Rattle.kw_core.specs.HistoryLaws.{IsPut}
use Rattle.kw_core.specs.Ledger.{Ledger}
use Rattle.kw_core.specs.Run.{Run}
use Rattle.kw_core.specs.Step.{Step}
use Rattle.kw_core.specs.Words.{Words}
use Rattle.kw_core.proofs.Arrows.{builds, Arrow, NextLook, looks, lists, NextLeftOver, goes_to_left_over, answers, ends_scan, scans_on, sees_stamped, sees_neither, is_gone_by, helps, finds_stamped, finds_other, list_ends, key_above, left_over_gone_by, gathers_left_over, remembers_last, sees_frozen_last, freezes_last, sees_quiet, sees_quiet_last, helps_scan, sees_drawn, sees_drawn_last, draws_for, settles_scan, settles_last, finds_drawn, finds_drawn_last, finds_no_scan, finds_no_scan_last, IsNoScan, take_leads, takes_left, takes_no_more, takes_key, takes_version, keeps_taken, takes_left_key, keeps_left, keeps_no_more, first_ends, decides, marks_led, asks_of_pin, looks_at_pin}
use Rattle.kw_core.proofs.Building.{Building, IsBuilding, makes_normal, makes_last_normal, draws_number, retires_ahead, retires_row, retires_and_leaves}
use Rattle.kw_core.proofs.Frame.{unwritten}
use Rattle.kw_core.proofs.FreezeFrame.{clock_never_falls}
use Rattle.kw_core.proofs.Grouping.{NextFrozen, freezes_ahead, froze_all, NextGathered, gathers_ahead, gathered_all}
use Rattle.kw_core.proofs.Happens.{Happens, exchanged, log_entry, not_exchanged}
use Rattle.kw_core.proofs.Steps.{now_grows}
use Rattle.kw_kept.specs.Needed.{IsCovered, Moves}
use Rattle.kw_kept.specs.Puts.{Put}
use Rattle.kw_kept.proofs.NeededLists.{covered_still, late_starts, late_still, goes_by_covered, pins_still}
use Rattle.kw_puts.proofs.BuiltStages.{counted_not}
use Rattle.kw_puts.specs.Below.{Below}
use Rattle.kw_puts.specs.Freezes.{HasPassed, IsAllFrozen, IsOfGroup, IsSettled}
use Rattle.kw_puts.specs.Positions.{HelpsScan}
use Rattle.kw_puts.proofs.GroupRows.{all_frozen, frozen_linked, of_group_before}
use Rattle.kw_puts.proofs.Helpers.{ScanStep, is_kept, begins_to_wait, waits_no_more, scan_step}
use Rattle.kw_reads.specs.Contents.{Contents, Needs, Through, has_drawn, is_held, is_helped, ThroughPin, pins_by, pins_gone_by, scans_by, scans_gone_by}
use Rattle.kw_core.proofs.BuiltNext.{IsAfterBuilding, built_goes, built_keeps}
use Rattle.kw_puts.proofs.RelyProof.{waits_stay}
use Rattle.kw_reads.proofs.KeptKeeps.{same_put}
use Rattle.kw_reads.proofs.RowCells.{settled_in_row}
use Rattle.kw_reads.proofs.ScanMoves.{pinned_was, pins_move, scans_move}
use Rattle.kw_shape.proofs.AfterBuilding.{no_call_of_pin, kind_at}

-- The rows of a seat that has frozen its group.

-- the entries of a row are settled, and the row was linked
record IsGoneByRow (z : Sizes) (r : Run) (q : ℕ) : Type 0 where
  linked : WasLinked r.ledger.rows q
  settled : (j : ℕ) → j < z.seats → IsSettled (word z r.world) (slice_get r.world.locals) q j

-- a seat that has frozen its group has gone by each entry of each row of it
passed_all : (a : Activity) (l : Local) (q j : ℕ) → IsAllFrozen a → IsOfGroup l q → HasPassed a l q j
passed_all (Activity.Rebalance (Rebalance.Freeze Freeze.Count)) l q j x y = absurd x
passed_all (Activity.Rebalance (Rebalance.Freeze (Freeze.Look i))) l q j x y = absurd x
passed_all (Activity.Rebalance (Rebalance.Freeze (Freeze.Entry i))) l q j x y = absurd x
passed_all _ l q j x y = (x, y)

-- such is each of its rows
group_gone_by : (z : Sizes) (r : Run) → Below z r → (t : ℕ) (k : Local) → slice_get r.world.locals t ≡ Some k → IsAllFrozen k.activity → (q : ℕ) → IsOfGroup k q → IsGoneByRow z r q
group_gone_by z r i t k g x q y = record {
  linked = frozen_linked z r i.shape t k g q (all_frozen k.activity k q x y);
  settled = λ j o. (i.puts.freezes t k g).settled q j (passed_all k.activity k q j x y) o;
}

-- the group is the same
abbrev SameGroup : Local → Local → Type 0
SameGroup k l = (k.row ≡ l.row) × (k.rebalance.second ≡ l.rebalance.second)

-- a stamped put has a version that was on the clock
pub version_past : (z : Sizes) (r : Run) → Below z r → (p : ℕ) → IsPut r.history p → (attempt r.history p).version ≤ word z r.world name.Clock
version_past z r i p x = i.positions.clocked.past _ _ _ (i.history.laws.loaded p x)

-- What is needed through a scan, by its word.

-- its word says what it has drawn, or that it waits
through_says : (z : Sizes) (r : Run) (j u : ℕ) → Through z r j u → (word z r.world (name.Scan j) ≡ scan_word (Drawn u)) ⊎ ((c : ℕ) × (word z r.world (name.Scan j) ≡ scan_word (Waiting c)))
through_says z r j u (has_drawn o w) = inl w
through_says z r j u (is_held k o g e f w) = inr (k.waiting, w)
through_says z r j u (is_helped t k o g e f w) = inr (k.rebalance.waiting, w)

-- it is the scan of a seat
through_within : (z : Sizes) (r : Run) (j u : ℕ) → Through z r j u → j < z.seats
through_within z r j u (has_drawn o w) = o
through_within z r j u (is_held k o g e f w) = o
through_within z r j u (is_helped t k o g e f w) = o

-- What is needed through a pin.

-- whoever has gone by a pin has gone by all scans
after_scans : (z : Sizes) (a : Activity) (j : ℕ) → pins_gone_by z a j → scans_gone_by z a j
after_scans z a j p = p.1

-- a seat that goes on with this activity helps no scan, and has gone by no pin that is made
abbrev GoesOnFrom : Sizes → Run → Activity → Type 0
GoesOnFrom z r b = ((j : ℕ) → HelpsScan j b → ⊥) × ((j u : ℕ) → pins_gone_by z b j → ThroughPin z r j u → ⊥)

module _ (z : Sizes) (r r' : Run) (s : ℕ) (choice : Choice) (l : Local) (a : Activity) (l' : Local) (h : Happens z r r' s choice l l' a) (i : Below z r) (st : Step r.history r'.history (log_entry z r a s choice l)) where
  -- what is needed through scans only shrinks
  moves : Moves (word z r.world name.Clock) (word z r'.world name.Clock) r.ledger.waits r'.ledger.waits (Through z r) (Through z r')
  moves = scans_move z r r' s choice l a l' h i

  -- what is known of a row whose entries are gone by stays, whoever acts, where all is covered
  -- after the event
  needs_on : (b b' : Activity) (m m' : Local) → ((q : ℕ) → IsOfGroup m q → IsGoneByRow z r q) → SameGroup m' m → (n : Needs z r b m) → IsCovered (Through z r') (scans_gone_by z b') (Contains m'.rebalance.needed) n.most →
      IsCovered (ThroughPin z r') (pins_gone_by z b') (Contains m'.rebalance.needed) n.most → ((j clock : ℕ) → HelpsScan j b' → word z r'.world (name.Scan j) ≡ scan_word (Waiting clock) → (clock ≡ m'.rebalance.waiting) ⊎ (n.since < r'.ledger.waits j)) → Needs z r' b' m'
  needs_on b b' m m' x e n covered pinned again = record {
    most = n.most;
    since = n.since;
    past = omega (arith, n.past, now_grows r.history r'.history _ st);
    bound = λ q p o y.
        let g = x q (of_group_before m m' q e.0 e.1 o) in
        let w = settled_in_row a h i q p g.linked g.settled y in
        omega (arith, n.bound q p (of_group_before m m' q e.0 e.1 o) w, ap (λ (v : Put). v.version) (same_put z r r' s choice l a l' h i st p w.is_put));
    reached = omega (arith, n.reached, clock_never_falls a h);
    late = late_still _ _ _ _ _ _ moves n.since n.most n.reached n.late;
    covered = covered;
    pinned = pinned;
    again = again;
  }

  -- what was covered is
  still_covered : (b : Activity) (m : Local) (n : Needs z r b m) → IsCovered (Through z r') (scans_gone_by z b) (Contains m.rebalance.needed) n.most
  still_covered b m n = covered_still _ _ _ _ _ _ moves (scans_gone_by z b) (Contains m.rebalance.needed) n.most n.reached n.covered

  -- and what was pinned
  still_pinned : (b : Activity) (m : Local) (n : Needs z r b m) → IsCovered (ThroughPin z r') (pins_gone_by z b) (Contains m.rebalance.needed) n.most
  still_pinned b m n = pins_still (Through z r) (ThroughPin z r) (ThroughPin z r') (scans_gone_by z b) (pins_gone_by z b) (Contains m.rebalance.needed) n.most (pins_move z r r' s choice l a l' h i) (after_scans z b) n.covered n.pinned

  -- so of a seat that does not act
  pub needs_other : Contents z r → (t : ℕ) (k : Local) → t ≢ s → slice_get r.world.locals t ≡ Some k → IsAllFrozen k.activity → Needs z r' k.activity k
  needs_other c t k d g x = needs_on k.activity k.activity k k (group_gone_by z r i t k g x) (refl, refl) n (still_covered k.activity k n) (still_pinned k.activity k n) again
    where
      n : Needs z r k.activity k
      n = c.needs t k g x

      within : (j : ℕ) (b : Activity) → k.activity ≡ b → HelpsScan j b → j < z.seats
      within j (Activity.Rebalance (Rebalance.Freeze (Freeze.Draw m))) e y = subst (λ q. q < z.seats) (sym y) (subst (IsActivity z) e (i.shape.sane.locals t k g).ranges.activity)
      within j (Activity.Rebalance (Rebalance.Freeze (Freeze.Settle m))) e y = subst (λ q. q < z.seats) (sym y) (subst (IsActivity z) e (i.shape.sane.locals t k g).ranges.activity)
      within j _ e y = absurd y

      again : (j clock : ℕ) → HelpsScan j k.activity → word z r'.world (name.Scan j) ≡ scan_word (Waiting clock) → (clock ≡ k.rebalance.waiting) ⊎ (n.since < r'.ledger.waits j)
      again j clock y w = which (scan_step z r r' s choice l l' i a h j (within j k.activity refl y))
        where
          which : ScanStep z r r' s l a j → (clock ≡ k.rebalance.waiting) ⊎ (n.since < r'.ledger.waits j)
          which (is_kept e f) = kept (n.again j clock y (sym e ∙ w)) (waits_stay z r r' s choice l a l' h j f)
            where
              kept : (clock ≡ k.rebalance.waiting) ⊎ (n.since < r.ledger.waits j) → r'.ledger.waits j ≡ r.ledger.waits j → (clock ≡ k.rebalance.waiting) ⊎ (n.since < r'.ledger.waits j)
              kept (inl x) m = inl x
              kept (inr x) m = inr (omega (arith, x, m))
          which (begins_to_wait e is v) =
              let now : r'.ledger.waits j ≡ length r.history.log = ap (λ (b : Ledger). b.waits j) (subst (Happens z r r' s choice l l') is h).ledger ∙ rw (eq-eqb j s e) refl in
              inr (omega (arith, now, n.past))
          which (waits_no_more f m) = absurd (f clock w)

  -- The acting seat.

  -- after the event, where one more scan is gone by that needs nothing but what is listed, or began
  -- to wait late
  goes_by_one : (b : Activity) (m : Local) (listed : List ℕ) (gone_by : ℕ → Type 0) (j : ℕ) (n : Needs z r b m) → ((q : ℕ) → gone_by q → (q ≡ j) ⊎ scans_gone_by z b q) → ((u : ℕ) → Contains m.rebalance.needed u → Contains listed u) → ((u : ℕ) → Through z r' j u → Contains listed u) ⊎ (n.since < r'.ledger.waits j) →
      IsCovered (Through z r') gone_by (Contains listed) n.most
  goes_by_one b m listed gone_by j n seat old looked = goes_by_covered n.since r'.ledger.waits (Through z r') (scans_gone_by z b) gone_by (Contains m.rebalance.needed) (Contains listed) n.most j
      (record { seat = seat; old = old; looked = looked })
      (late_still _ _ _ _ _ _ moves n.since n.most n.reached n.late)
      (still_covered b m n)

-- all scans are still to be looked at
needs_start : (z : Sizes) (r r' : Run) (s : ℕ) (choice : Choice) (l : Local) (a : Activity) (l' : Local) → Happens z r r' s choice l l' a → Below z r → Step r.history r'.history (log_entry z r a s choice l) → Below z r' → Contents z r → a ≢ Activity.Draw Draw.Wait → l'.activity ≡ Activity.Rebalance (Rebalance.Freeze (Freeze.Scan 0)) → Needs z r' (Activity.Rebalance (Rebalance.Freeze (Freeze.Scan 0))) l'
needs_start z r r' s choice l a l' h i st after c d e = record {
  most = word z r'.world name.Clock;
  since = length r.history.log;
  past = omega (arith, now_grows r.history r'.history _ st);
  bound = λ q p o y. version_past z r' after p y.is_put;
  reached = omega arith;
  late = late_starts r'.ledger.waits (Through z r') (length r.history.log) (word z r'.world name.Clock) (λ j. omega (arith, waits_stay z r r' s choice l a l' h j (λ x y. d y), c.borns.waits j));
  covered = λ j u p. absurd (omega (arith, p));
  pinned = λ j u p. absurd (omega (arith, p.0));
  again = λ j clock x. absurd x;
}

-- What the word of a scan says is needed through it.

-- nothing, where none is at work
quiet_none : (z : Sizes) (r : Run) (j u : ℕ) → word z r.world (name.Scan j) ≡ scan_word Quiet → Through z r j u → ⊥
quiet_none z r j u e t = which (through_says z r j u t)
  where
    which : (word z r.world (name.Scan j) ≡ scan_word (Drawn u)) ⊎ ((c : ℕ) × (word z r.world (name.Scan j) ≡ scan_word (Waiting c))) → ⊥
    which (inl w) = let x : scan_word Quiet ≡ scan_word (Drawn u) = sym e ∙ w in omega (arith, x)
    which (inr w) = let x : scan_word Quiet ≡ scan_word (Waiting w.0) = sym e ∙ w.1 in omega (arith, x)

-- what it has drawn
drawn_only : (z : Sizes) (r : Run) (j u v : ℕ) → word z r.world (name.Scan j) ≡ scan_word (Drawn v) → Through z r j u → v ≡ u
drawn_only z r j u v e t = which (through_says z r j u t)
  where
    which : (word z r.world (name.Scan j) ≡ scan_word (Drawn u)) ⊎ ((c : ℕ) × (word z r.world (name.Scan j) ≡ scan_word (Waiting c))) → v ≡ u
    which (inl w) = let x : scan_word (Drawn v) ≡ scan_word (Drawn u) = sym e ∙ w in omega (arith, x)
    which (inr w) = let x : scan_word (Drawn v) ≡ scan_word (Waiting w.0) = sym e ∙ w.1 in absurd (omega (arith, x))

-- a word that says nothing does not stand there
is_quiet : (z : Sizes) (r : Run) (j : ℕ) → Below z r → j < z.seats → (scan_of (word z r.world (name.Scan j)) ≡ Some Quiet) ⊎ (scan_of (word z r.world (name.Scan j)) ≡ None) → word z r.world (name.Scan j) ≡ scan_word Quiet
is_quiet z r j i o (inl e) = sym (scan_word_of _ Quiet e)
is_quiet z r j i o (inr e) = absurd (subst IsKnownWord e (i.shape.sane.each (name.Scan j) o))

-- a scan that is gone by as the last of those below a bound
below_or_last : (m n q : ℕ) → n ≤ m + 1 → q < n → (q ≡ m) ⊎ (q < m)
below_or_last m n q o w = which (cases_lt q m)
  where
    which : (q < m) ⊎ (m ≤ q) → (q ≡ m) ⊎ (q < m)
    which (inl x) = inr x
    which (inr x) = inl (omega (arith, o, w, x))

-- The acting seat.

module _ (z : Sizes) (r r' : Run) (s : ℕ) (choice : Choice) (l : Local) (a : Activity) (l' : Local) (h : Happens z r r' s choice l l' a) (i : Below z r) (st : Step r.history r'.history (log_entry z r a s choice l)) (c : Contents z r) (x : IsAllFrozen a) where
  -- what it knew
  own_needs : Needs z r a l
  own_needs = subst (λ b. Needs z r b l) h.activity (c.needs s l h.knows (subst IsAllFrozen (sym h.activity) x))

  -- its entries are settled
  own_rows : (q : ℕ) → IsOfGroup l q → IsGoneByRow z r q
  own_rows = group_gone_by z r i s l h.knows (subst IsAllFrozen (sym h.activity) x)

  -- the seat goes on to no scan, and to none that waits
  goes_on : (b : Activity) (k : Local) → SameGroup k l → k.rebalance.needed ≡ l.rebalance.needed → scans_by z b ≡ scans_by z a → pins_by z b ≡ pins_by z a → ((j : ℕ) → HelpsScan j b → ⊥) → Needs z r' b k
  goes_on b k e f g o n = needs_on z r r' s choice l a l' h i st a b l k own_rows e own_needs covered pinned (λ j clock y. absurd (n j y))
    where
      covered : IsCovered (Through z r') (scans_gone_by z b) (Contains k.rebalance.needed) own_needs.most
      covered j u p t = subst (λ xs. Contains xs u ⊎ (own_needs.most ≤ u)) (sym f) (still_covered z r r' s choice l a l' h i st a l own_needs j u (omega (arith, p, g)) t)

      pinned : IsCovered (ThroughPin z r') (pins_gone_by z b) (Contains k.rebalance.needed) own_needs.most
      pinned j u p t = subst (λ xs. Contains xs u ⊎ (own_needs.most ≤ u)) (sym f) (still_pinned z r r' s choice l a l' h i st a l own_needs j u (omega (arith, p.0, o), omega (arith, p.1, g)) t)

  -- it has gone by one more scan
  goes_by_scan : (m : ℕ) (b : Activity) (k : Local) → SameGroup k l → scans_by z a ≡ m → scans_by z b ≤ m + 1 → ((u : ℕ) → Contains l.rebalance.needed u → Contains k.rebalance.needed u) → ((u : ℕ) → Through z r' m u → Contains k.rebalance.needed u) ⊎ (own_needs.since < r'.ledger.waits m) → GoesOnFrom z r' b → Needs z r' b k
  goes_by_scan m b k e f g old looked n = needs_on z r r' s choice l a l' h i st a b l k own_rows e own_needs
      (goes_by_one z r r' s choice l a l' h i st a l k.rebalance.needed (scans_gone_by z b) m own_needs seat old looked)
      (λ j u p t. absurd (n.1 j u p t))
      (λ j clock y. absurd (n.0 j y))
    where
      seat : (q : ℕ) → q < scans_by z b → (q ≡ m) ⊎ (q < scans_by z a)
      seat q p = which (below_or_last m (scans_by z b) q g p)
        where
          which : (q ≡ m) ⊎ (q < m) → (q ≡ m) ⊎ (q < scans_by z a)
          which (inl y) = inl y
          which (inr y) = inr (omega (arith, y, f))

  -- which says what it needs, by one word
  goes_by_drawn : (m version : ℕ) (b : Activity) (k : Local) → SameGroup k l → k.rebalance.needed ≡ l.rebalance.needed ++ version ∷ [] → scans_by z a ≡ m → scans_by z b ≤ m + 1 → word z r'.world (name.Scan m) ≡ scan_word (Drawn version) → GoesOnFrom z r' b → Needs z r' b k
  goes_by_drawn m version b k e needed f g w n = goes_by_scan m b k e f g (λ u y. subst (λ xs. Contains xs u) (sym needed) (Contains-append_left l.rebalance.needed (version ∷ []) u y))
      (inl (λ u t. subst (λ xs. Contains xs u) (sym needed) (subst (Contains (l.rebalance.needed ++ version ∷ [])) (drawn_only z r' m u version w t) (Contains-push l.rebalance.needed version)))) n

  -- it needs nothing, by its word
  goes_by_quiet : (m : ℕ) (b : Activity) (k : Local) → SameGroup k l → k.rebalance.needed ≡ l.rebalance.needed → scans_by z a ≡ m → scans_by z b ≤ m + 1 → word z r'.world (name.Scan m) ≡ scan_word Quiet → GoesOnFrom z r' b → Needs z r' b k
  goes_by_quiet m b k e needed f g w n = goes_by_scan m b k e f g (λ u y. subst (λ xs. Contains xs u) (sym needed) y) (inl (λ u t. absurd (quiet_none z r' m u w t))) n

-- the seats that an activity names are seats
own_seat : (z : Sizes) (r r' : Run) (s : ℕ) (choice : Choice) (l : Local) (a : Activity) (l' : Local) → Happens z r r' s choice l l' a → Below z r → IsActivity z a
own_seat z r r' s choice l a l' h i = subst (IsActivity z) h.activity (i.shape.sane.locals s l h.knows).ranges.activity

module _ (z : Sizes) (r r' : Run) (s : ℕ) (choice : Choice) (l l' : Local) (m : ℕ) (h : Happens z r r' s choice l l' (Activity.Rebalance (Rebalance.Freeze (Freeze.Settle m)))) (i : Below z r) (st : Step r.history r'.history (log_entry z r (Activity.Rebalance (Rebalance.Freeze (Freeze.Settle m))) s choice l)) (c : Contents z r) where
  -- a word that does not wait as the seat found it is left alone
  left_alone : word z r.world (name.Scan m) ≢ scan_word (Waiting l.rebalance.waiting) → word z r'.world (name.Scan m) ≡ word z r.world (name.Scan m)
  left_alone d = not_exchanged _ _ _ _ h.changed.same d

  -- a scan that waits since another clock began to wait late
  goes_by_none : (b : Activity) (k : Local) → SameGroup k l → k.rebalance.needed ≡ l.rebalance.needed → scans_by z b ≤ m + 1 → IsNoScan l.rebalance.waiting (word z r.world (name.Scan m)) → GoesOnFrom z r' b → Needs z r' b k
  goes_by_none b k e needed g w n = which (scan_of (word z r.world (name.Scan m))) refl
    where
      quiet : (scan_of (word z r.world (name.Scan m)) ≡ Some Quiet) ⊎ (scan_of (word z r.world (name.Scan m)) ≡ None) → Needs z r' b k
      quiet f =
          let q = is_quiet z r m i (own_seat z r r' s choice l (Activity.Rebalance (Rebalance.Freeze (Freeze.Settle m))) l' h i) f in
          goes_by_quiet z r r' s choice l (Activity.Rebalance (Rebalance.Freeze (Freeze.Settle m))) l' h i st c tt m b k e needed refl g (left_alone (λ y. let x : scan_word Quiet ≡ scan_word (Waiting l.rebalance.waiting) = sym q ∙ y in omega (arith, x)) ∙ q) n

      waits : (clock : ℕ) → scan_of (word z r.world (name.Scan m)) ≡ Some (Waiting clock) → (clock ≡ l.rebalance.waiting) ⊎ ((own_needs z r r' s choice l (Activity.Rebalance (Rebalance.Freeze (Freeze.Settle m))) l' h i st c tt).since < r.ledger.waits m) → Needs z r' b k
      waits clock f (inl y) = absurd (w.waiting (f ∙ ap (λ v. Some (Waiting v)) y))
      waits clock f (inr y) = goes_by_scan z r r' s choice l (Activity.Rebalance (Rebalance.Freeze (Freeze.Settle m))) l' h i st c tt m b k e refl g (λ u v. subst (λ xs. Contains xs u) (sym needed) v) (inr (omega (arith, y, waits_stay z r r' s choice l (Activity.Rebalance (Rebalance.Freeze (Freeze.Settle m))) l' h m (λ v t. cc)))) n

      which : (o : Option ScanWord) → scan_of (word z r.world (name.Scan m)) ≡ o → Needs z r' b k
      which None f = quiet (inr f)
      which (Some Quiet) f = quiet (inl f)
      which (Some (Waiting clock)) f = waits clock f ((own_needs z r r' s choice l (Activity.Rebalance (Rebalance.Freeze (Freeze.Settle m))) l' h i st c tt).again m clock refl (sym (scan_word_of _ (Waiting clock) f)))
      which (Some (Drawn version)) f = absurd (w.drawn version f)

  -- one that waits as the seat found it has now what was drawn for it
  goes_by_helped : (b : Activity) (k : Local) → SameGroup k l → k.rebalance.needed ≡ l.rebalance.needed ++ l.rebalance.drawn ∷ [] → scans_by z b ≤ m + 1 → scan_of (word z r.world (name.Scan m)) ≡ Some (Waiting l.rebalance.waiting) → GoesOnFrom z r' b → Needs z r' b k
  goes_by_helped b k e needed g w n = goes_by_drawn z r r' s choice l (Activity.Rebalance (Rebalance.Freeze (Freeze.Settle m))) l' h i st c tt m l.rebalance.drawn b k e needed refl g (exchanged _ _ _ _ h.changed.same (sym (scan_word_of _ (Waiting l.rebalance.waiting) w))) n

  -- one that has drawn keeps it
  goes_by_found : (version : ℕ) (b : Activity) (k : Local) → SameGroup k l → k.rebalance.needed ≡ l.rebalance.needed ++ version ∷ [] → scans_by z b ≤ m + 1 → scan_of (word z r.world (name.Scan m)) ≡ Some (Drawn version) → GoesOnFrom z r' b → Needs z r' b k
  goes_by_found version b k e needed g w n =
      let q = sym (scan_word_of _ (Drawn version) w) in
      goes_by_drawn z r r' s choice l (Activity.Rebalance (Rebalance.Freeze (Freeze.Settle m))) l' h i st c tt m version b k e needed refl g (left_alone (λ y. let x : scan_word (Drawn version) ≡ scan_word (Waiting l.rebalance.waiting) = sym q ∙ y in omega (arith, x)) ∙ q) n

module _ (z : Sizes) (r r' : Run) (s : ℕ) (choice : Choice) (l l' : Local) (m : ℕ) (h : Happens z r r' s choice l l' (Activity.Rebalance (Rebalance.Freeze (Freeze.Scan m)))) (i : Below z r) (st : Step r.history r'.history (log_entry z r (Activity.Rebalance (Rebalance.Freeze (Freeze.Scan m))) s choice l)) (c : Contents z r) where
  -- a look leaves the word
  same_word : word z r'.world (name.Scan m) ≡ word z r.world (name.Scan m)
  same_word = h.changed.loaded refl (name.Scan m)

  -- a scan that is not at work needs nothing
  looks_quiet : (b : Activity) (k : Local) → SameGroup k l → k.rebalance.needed ≡ l.rebalance.needed → scans_by z b ≤ m + 1 → (scan_of (word z r.world (name.Scan m)) ≡ Some Quiet) ⊎ (scan_of (word z r.world (name.Scan m)) ≡ None) → GoesOnFrom z r' b → Needs z r' b k
  looks_quiet b k e needed g w n = goes_by_quiet z r r' s choice l (Activity.Rebalance (Rebalance.Freeze (Freeze.Scan m))) l' h i st c tt m b k e needed refl g (same_word ∙ is_quiet z r m i (own_seat z r r' s choice l (Activity.Rebalance (Rebalance.Freeze (Freeze.Scan m))) l' h i) w) n

  -- one that has drawn needs that version
  looks_drawn : (version : ℕ) (b : Activity) (k : Local) → SameGroup k l → k.rebalance.needed ≡ l.rebalance.needed ++ version ∷ [] → scans_by z b ≤ m + 1 → scan_of (word z r.world (name.Scan m)) ≡ Some (Drawn version) → GoesOnFrom z r' b → Needs z r' b k
  looks_drawn version b k e needed g w n = goes_by_drawn z r r' s choice l (Activity.Rebalance (Rebalance.Freeze (Freeze.Scan m))) l' h i st c tt m version b k e needed refl g (same_word ∙ sym (scan_word_of _ (Drawn version) w)) n

-- a seat that builds after the event had frozen its group
built_frozen : {z : Sizes} {v : Words} {choice : Choice} {l : Local} (a : Activity) (k : Local) → Building z v choice l a k → IsAllFrozen k.activity → IsAllFrozen a
built_frozen a k (makes_normal o) x = absurd x
built_frozen a k (makes_last_normal o) x = absurd x
built_frozen a k draws_number x = absurd x
built_frozen a k (retires_ahead q e) x = absurd x
built_frozen a k (retires_row m nd) x = absurd x
built_frozen a k (retires_and_leaves m dn) x = absurd x
built_frozen a k b x = tt

-- such a seat builds
after_frozen : (a : Activity) → IsAfterBuilding a → IsAllFrozen a → IsBuilding a
after_frozen Activity.Retry n x = absurd x
after_frozen (Activity.Rebalance (Rebalance.Engage Engage.Clock)) n x = absurd x
after_frozen (Activity.Leave answer) n x = absurd x
after_frozen _ n x = n

-- it has looked at all scans
built_scans : (z : Sizes) (a : Activity) → IsBuilding a → scans_by z a ≡ z.seats
built_scans z (Activity.Rebalance (Rebalance.Freeze (Freeze.Scan i))) b = absurd b
built_scans z (Activity.Rebalance (Rebalance.Freeze (Freeze.Draw i))) b = absurd b
built_scans z (Activity.Rebalance (Rebalance.Freeze (Freeze.Settle i))) b = absurd b
built_scans z _ b = refl

-- and at all pins
built_pins : (z : Sizes) (a : Activity) → IsBuilding a → pins_by z a ≡ z.seats
built_pins z (Activity.Rebalance (Rebalance.Freeze (Freeze.Scan i))) b = absurd b
built_pins z (Activity.Rebalance (Rebalance.Freeze (Freeze.Draw i))) b = absurd b
built_pins z (Activity.Rebalance (Rebalance.Freeze (Freeze.Settle i))) b = absurd b
built_pins z (Activity.Rebalance (Rebalance.Freeze (Freeze.Pin i))) b = absurd b
built_pins z _ b = refl

-- and helps none
built_helps : (j : ℕ) (a : Activity) → IsBuilding a → HelpsScan j a → ⊥
built_helps j (Activity.Rebalance (Rebalance.Freeze (Freeze.Draw i))) b x = b
built_helps j (Activity.Rebalance (Rebalance.Freeze (Freeze.Settle i))) b x = b
built_helps j _ b x = x

-- a word says of one clock that a scan waits since it
waits_since : (c n : ℕ) → scan_word (Waiting c) ≡ scan_word (Waiting n) → n ≡ c
waits_since c n e = omega (arith, e)

-- a draw for a scan leaves its word, and since when it waits
still_again : (z : Sizes) (r r' : Run) (s : ℕ) (choice : Choice) (l l' : Local) (m : ℕ) (h : Happens z r r' s choice l l' (Activity.Rebalance (Rebalance.Freeze (Freeze.Draw m)))) (i : Below z r) (st : Step r.history r'.history (log_entry z r (Activity.Rebalance (Rebalance.Freeze (Freeze.Draw m))) s choice l)) (c : Contents z r) (clock : ℕ) → word z r'.world (name.Scan m) ≡ scan_word (Waiting clock) → (j : ℕ) → j ≡ m →
    (clock ≡ l.rebalance.waiting) ⊎ ((own_needs z r r' s choice l (Activity.Rebalance (Rebalance.Freeze (Freeze.Draw m))) l' h i st c tt).since < r'.ledger.waits j)
still_again z r r' s choice l l' m h i st c clock w j e = which ((own_needs z r r' s choice l (Activity.Rebalance (Rebalance.Freeze (Freeze.Draw m))) l' h i st c tt).again m clock refl (sym (unwritten (Activity.Rebalance (Rebalance.Freeze (Freeze.Draw m))) h (name.Scan m) (own_seat z r r' s choice l (Activity.Rebalance (Rebalance.Freeze (Freeze.Draw m))) l' h i) (λ y. cc)) ∙ w))
  where
    which : (clock ≡ l.rebalance.waiting) ⊎ ((own_needs z r r' s choice l (Activity.Rebalance (Rebalance.Freeze (Freeze.Draw m))) l' h i st c tt).since < r.ledger.waits m) → (clock ≡ l.rebalance.waiting) ⊎ ((own_needs z r r' s choice l (Activity.Rebalance (Rebalance.Freeze (Freeze.Draw m))) l' h i st c tt).since < r'.ledger.waits j)
    which (inl y) = inl y
    which (inr y) = inr (omega (arith, y, ap r.ledger.waits e, waits_stay z r r' s choice l (Activity.Rebalance (Rebalance.Freeze (Freeze.Draw m))) l' h j (λ v t. cc)))

-- a reader has frozen nothing
look_unfrozen : {A : Type 0} (z : Sizes) (j : ℕ) (next : Activity) → NextLook z j next → IsAllFrozen next → A
look_unfrozen z j _ (looks o) x = absurd x
look_unfrozen z j _ (lists o) x = absurd x

cell_unfrozen : {A : Type 0} (l k : Local) → NextLeftOver l k → IsAllFrozen k.activity → A
cell_unfrozen l _ (goes_to_left_over m o) x = absurd x
cell_unfrozen l _ (answers o e) x = absurd x
cell_unfrozen l _ (ends_scan o e f) x = absurd x
cell_unfrozen l _ (scans_on q o e f u) x = absurd x

-- the row at hand is frozen: where none is ahead, the scans are asked from now on
needs_frozen : (z : Sizes) (r r' : Run) (s : ℕ) (choice : Choice) (l : Local) (a : Activity) (l' m : Local) → NextFrozen m l' → Happens z r r' s choice l l' a → Below z r → Step r.history r'.history (log_entry z r a s choice l) → Below z r' → Contents z r → a ≢ Activity.Draw Draw.Wait → IsAllFrozen l'.activity → Needs z r' l'.activity l'
needs_frozen z r r' s choice l a l' m (freezes_ahead q e) h i st after c d x = absurd x
needs_frozen z r r' s choice l a l' m (froze_all e) h i st after c d x = needs_start z r r' s choice l a l' h i st after c d refl

-- the row at hand is gathered: the group is the same, and what is listed of the scans
record GathersOn (z : Sizes) (l k : Local) : Type 0 where
  group : SameGroup k l
  needed : k.rebalance.needed ≡ l.rebalance.needed
  all : scans_by z k.activity ≡ z.seats
  pins : pins_by z k.activity ≡ z.seats
  helps : (j : ℕ) → HelpsScan j k.activity → ⊥

gathers_on : (z : Sizes) (l k : Local) → NextGathered z l k → GathersOn z l k
gathers_on z l _ (gathers_ahead q e) = record { group = (refl, refl); needed = refl; all = refl; pins = refl; helps = λ j x. x }
gathers_on z l _ (gathered_all e) = record { group = (refl, refl); needed = refl; all = refl; pins = refl; helps = λ j x. x }

-- at the next scan no pin is gone by
to_next_scan : (z : Sizes) (r : Run) (m : ℕ) → GoesOnFrom z r (Activity.Rebalance (Rebalance.Freeze (Freeze.Scan (m + 1))))
to_next_scan z r m = (λ j y. y, λ j u p t. omega (arith, p.0))

-- and no pin is made that is gone by after the last
after_last_scan : (z : Sizes) (r r' : Run) (s : ℕ) (choice : Choice) (l : Local) (a : Activity) (l' : Local) → Happens z r r' s choice l l' a → Below z r → Contents z r → GoesOnFrom z r' (Activity.Rebalance (Rebalance.Gather Gather.Link))
after_last_scan z r r' s choice l a l' h i c = (λ j y. y, λ j u p t. c.unpinned j u (pinned_was z r r' s choice l a l' h i j u t))

-- what the acting seat knows
needs_by : (z : Sizes) (r r' : Run) (s : ℕ) (choice : Choice) (l : Local) (a : Activity) (l' : Local) → Arrow z (word z r.world) s choice l a l' → Happens z r r' s choice l l' a → Below z r → Step r.history r'.history (log_entry z r a s choice l) → Below z r' → Contents z r → IsAllFrozen l'.activity → Needs z r' l'.activity l'
needs_by z r r' s choice l a l' (builds b next y t) h i st after c x =
    let k = built_keeps z (word z r.world) choice l a l' t (after_frozen l'.activity (built_goes z (word z r.world) choice l a l' t).next x) in
    let d = after_frozen l'.activity (built_goes z (word z r.world) choice l a l' t).next x in
    goes_on z r r' s choice l a l' h i st c (built_frozen a l' t x) l'.activity l' (k.row, k.second) k.needed (built_scans z l'.activity d ∙ sym (built_scans z a y)) (built_pins z l'.activity d ∙ sym (built_pins z a y)) (λ j. built_helps j l'.activity d)
needs_by z r r' s choice l a l' (asks_of_pin next o n) h i st after c x = no_call_of_pin _ h i.shape o
needs_by z r r' s choice l a l' (looks_at_pin j next n) h i st after c x = absurd (kind_at _ h i.shape)
needs_by z r r' s choice l a l' (remembers_last m n version k e u f) h i st after c x = needs_frozen z r r' s choice l a k _ f h i st after c (λ y. cc) x
needs_by z r r' s choice l a l' (sees_frozen_last m k e u f) h i st after c x = needs_frozen z r r' s choice l a k _ f h i st after c (λ y. cc) x
needs_by z r r' s choice l a l' (freezes_last m k e u f) h i st after c x = needs_frozen z r r' s choice l a k _ f h i st after c (λ y. cc) x
needs_by z r r' s choice l a l' (sees_quiet m e u) h i st after c x = looks_quiet z r r' s choice l l' m h i st c (Activity.Rebalance (Rebalance.Freeze (Freeze.Scan (m + 1)))) l' (refl, refl) refl (omega arith) e (to_next_scan z r' m)
needs_by z r r' s choice l a l' (sees_quiet_last m e u) h i st after c x = looks_quiet z r r' s choice l l' m h i st c (Activity.Rebalance (Rebalance.Gather Gather.Link)) l' (refl, refl) refl u e (after_last_scan z r r' s choice l a l' h i c)
needs_by z r r' s choice l a l' (helps_scan m clock e) h i st after c x = needs_on z r r' s choice l a l' h i st a (Activity.Rebalance (Rebalance.Freeze (Freeze.Draw m))) l l' (own_rows z r r' s choice l a l' h i st c tt) (refl, refl) (own_needs z r r' s choice l a l' h i st c tt)
    (still_covered z r r' s choice l a l' h i st a l (own_needs z r r' s choice l a l' h i st c tt))
    (λ j u p. absurd (omega (arith, p.0)))
    (λ j n y w. inl (waits_since clock n (scan_word_of _ (Waiting clock) e ∙ sym (h.changed.loaded refl (name.Scan m)) ∙ subst (λ q. word z r'.world (name.Scan q) ≡ scan_word (Waiting n)) y w)))
needs_by z r r' s choice l a l' (sees_drawn m version e u) h i st after c x = looks_drawn z r r' s choice l l' m h i st c version (Activity.Rebalance (Rebalance.Freeze (Freeze.Scan (m + 1)))) l' (refl, refl) refl (omega arith) e (to_next_scan z r' m)
needs_by z r r' s choice l a l' (sees_drawn_last m version e u) h i st after c x = looks_drawn z r r' s choice l l' m h i st c version (Activity.Rebalance (Rebalance.Gather Gather.Link)) l' (refl, refl) refl u e (after_last_scan z r r' s choice l a l' h i c)
needs_by z r r' s choice l a l' (draws_for m) h i st after c x = needs_on z r r' s choice l a l' h i st a (Activity.Rebalance (Rebalance.Freeze (Freeze.Settle m))) l l' (own_rows z r r' s choice l a l' h i st c tt) (refl, refl) (own_needs z r r' s choice l a l' h i st c tt)
    (still_covered z r r' s choice l a l' h i st a l (own_needs z r r' s choice l a l' h i st c tt))
    (λ j u p. absurd (omega (arith, p.0)))
    (λ j n y w. still_again z r r' s choice l l' m h i st c n (subst (λ q. word z r'.world (name.Scan q) ≡ scan_word (Waiting n)) y w) j y)
needs_by z r r' s choice l a l' (settles_scan m e u) h i st after c x = goes_by_helped z r r' s choice l l' m h i st c (Activity.Rebalance (Rebalance.Freeze (Freeze.Scan (m + 1)))) l' (refl, refl) refl (omega arith) e (to_next_scan z r' m)
needs_by z r r' s choice l a l' (settles_last m e u) h i st after c x = goes_by_helped z r r' s choice l l' m h i st c (Activity.Rebalance (Rebalance.Gather Gather.Link)) l' (refl, refl) refl u e (after_last_scan z r r' s choice l a l' h i c)
needs_by z r r' s choice l a l' (finds_drawn m version e u) h i st after c x = goes_by_found z r r' s choice l l' m h i st c version (Activity.Rebalance (Rebalance.Freeze (Freeze.Scan (m + 1)))) l' (refl, refl) refl (omega arith) e (to_next_scan z r' m)
needs_by z r r' s choice l a l' (finds_drawn_last m version e u) h i st after c x = goes_by_found z r r' s choice l l' m h i st c version (Activity.Rebalance (Rebalance.Gather Gather.Link)) l' (refl, refl) refl u e (after_last_scan z r r' s choice l a l' h i c)
needs_by z r r' s choice l a l' (finds_no_scan m e u) h i st after c x = goes_by_none z r r' s choice l l' m h i st c (Activity.Rebalance (Rebalance.Freeze (Freeze.Scan (m + 1)))) l' (refl, refl) refl (omega arith) e (to_next_scan z r' m)
needs_by z r r' s choice l a l' (finds_no_scan_last m e u) h i st after c x = goes_by_none z r r' s choice l l' m h i st c (Activity.Rebalance (Rebalance.Gather Gather.Link)) l' (refl, refl) refl u e (after_last_scan z r r' s choice l a l' h i c)
needs_by z r r' s choice l a l' (take_leads n e) h i st after c x = goes_on z r r' s choice l a l' h i st c tt _ l' (refl, refl) refl refl refl (λ j y. y)
needs_by z r r' s choice l a l' (takes_left m e u w) h i st after c x = goes_on z r r' s choice l a l' h i st c tt _ l' (refl, refl) refl refl refl (λ j y. y)
needs_by z r r' s choice l a l' (takes_no_more k e u f) h i st after c x = let n = gathers_on z l k f in goes_on z r r' s choice l a k h i st c tt k.activity k n.group n.needed n.all n.pins n.helps
needs_by z r r' s choice l a l' takes_key h i st after c x = goes_on z r r' s choice l a l' h i st c tt _ l' (refl, refl) refl refl refl (λ j y. y)
needs_by z r r' s choice l a l' takes_version h i st after c x = goes_on z r r' s choice l a l' h i st c tt _ l' (refl, refl) refl refl refl (λ j y. y)
needs_by z r r' s choice l a l' keeps_taken h i st after c x = goes_on z r r' s choice l a l' h i st c tt _ l' (refl, refl) refl refl refl (λ j y. y)
needs_by z r r' s choice l a l' takes_left_key h i st after c x = goes_on z r r' s choice l a l' h i st c tt _ l' (refl, refl) refl refl refl (λ j y. y)
needs_by z r r' s choice l a l' (keeps_left m e u) h i st after c x = goes_on z r r' s choice l a l' h i st c tt _ l' (refl, refl) refl refl refl (λ j y. y)
needs_by z r r' s choice l a l' (keeps_no_more k u f) h i st after c x = let n = gathers_on z _ k f in goes_on z r r' s choice l a k h i st c tt k.activity k n.group n.needed n.all n.pins n.helps
needs_by z r r' s choice l a l' (sees_stamped j n version next e f) h i st after c x = look_unfrozen z _ next f x
needs_by z r r' s choice l a l' (sees_neither j next e f) h i st after c x = look_unfrozen z _ next f x
needs_by z r r' s choice l a l' (is_gone_by next e f) h i st after c x = look_unfrozen z _ next f x
needs_by z r r' s choice l a l' (helps next e f) h i st after c x = look_unfrozen z _ next f x
needs_by z r r' s choice l a l' (finds_stamped n version next e f) h i st after c x = look_unfrozen z _ next f x
needs_by z r r' s choice l a l' (finds_other next e f) h i st after c x = look_unfrozen z _ next f x
needs_by z r r' s choice l a l' (first_ends next e f) h i st after c x = cell_unfrozen _ next f x
needs_by z r r' s choice l a l' (list_ends next e f) h i st after c x = cell_unfrozen _ next f x
needs_by z r r' s choice l a l' (key_above next e f) h i st after c x = cell_unfrozen _ next f x
needs_by z r r' s choice l a l' (left_over_gone_by next e f) h i st after c x = cell_unfrozen _ next f x
needs_by z r r' s choice l a l' (gathers_left_over next f) h i st after c x = cell_unfrozen _ next f x
needs_by z r r' s choice l a l' (marks_led count next d n) h i st after c x = absurd (counted_not IsAllFrozen (λ y. y) (λ y. y) n x)
needs_by z r r' s choice l a l' (decides count m next e n) h i st after c x = absurd (counted_not IsAllFrozen (λ y. y) (λ y. y) n x)
needs_by z r r' s choice l a l' b h i st after c x = absurd x

-- so the acting seat knows it after its event
pub needs_own : (z : Sizes) (r r' : Run) (s : ℕ) (choice : Choice) (l : Local) (a : Activity) (l' : Local) → Happens z r r' s choice l l' a → Below z r → Step r.history r'.history (log_entry z r a s choice l) → Below z r' → Contents z r → IsAllFrozen l'.activity → Needs z r' l'.activity l'
needs_own z r r' s choice l a l' h i st after c x = needs_by z r r' s choice l a l' h.arrow h i st after c x
