-- Every event keeps what holds of the attempts that seats are at work on, of their entries, and of
-- the attempts that are done.
use Rattle.std.proofs.Common.{ℕ, ◌≡◌, ◌≢◌, ◌⊎◌, inl, inr, ◌<◌, ◌≤◌, Bool, true, false, Option, Some, None, arith, refl, sym, ◌∙◌, ap, subst, length, slice_get}
use Rattle.std.proofs.lemmas.Option.{same_Some}
use Rattle.kw_words.specs.declared.layout.Name.TheVariants as name
use Rattle.kw_words.specs.declared.pend.Pend.TheVariants as pend
use Rattle.kw_words.specs.declared.sizes.TheConstants.{VERSION_END, KEY_END}
use Rattle.kw_words.specs.Count.{count_of}
use Rattle.kw_words.specs.Pend.{pend_of, pend_word}
use Rattle.kw_words.specs.Plain.{key_of_word, value_of_word}
use Rattle.kw_words.proofs.PendWords.{pend_of-Pending, pend_of-Stamped, pend_word_of}
use Rattle.kw_words.proofs.PlainWords.{key_of_word-key_word, value_of_word-value_word}
use Rattle.kw_model.specs.declared.call.Call.{Call}
use Rattle.kw_model.specs.declared.call.Call.TheVariants.{Put, Del, Get, Scan, Pin, ScanAt, Unpin}
use Rattle.kw_world.specs.declared.activity.Activity.{Activity}
use Rattle.kw_world.specs.declared.activity.rebalance.freeze.Freeze.TheVariants as Freeze
use Rattle.kw_world.specs.declared.activity.insert.Insert.TheVariants as Insert
use Rattle.kw_world.specs.declared.activity.put.Put.TheVariants as Put
use Rattle.kw_world.specs.declared.activity.rebalance.Rebalance.TheVariants as Rebalance
use Rattle.kw_world.specs.declared.local.Local.{Local}
use Rattle.kw_world.specs.declared.event.Choice.{Choice}
use Rattle.kw_world.specs.Sizes.{Sizes}
use Rattle.kw_world.specs.Calls.{first_key, put_value}
use Rattle.kw_world.specs.PutTransitions.{has_room}
use Rattle.kw_world.specs.ListTransitions.{to_insert}
use Rattle.kw_world.specs.Sane.{IsCall, IsKnown}
use Rattle.kw_world.specs.Step.{word}
use Rattle.kw_core.specs.declared.history.Attempt.{Attempt}
use Rattle.kw_core.specs.History.{LoadClock, attempt}
use Rattle.kw_core.specs.declared.history.Change.TheVariants.{Nothing, Announces, Stamps}
use Rattle.kw_core.specs.Noted.{noted}
use Rattle.kw_core.specs.Run.{Run}
use Rattle.kw_core.specs.Stages.{IsPutting, IsFresh, HasKey, IsAnnounce, IsPublished, IsStamp, IsStamped, IsPutVersion, IsStored, IsInserting, IsHelp}
use Rattle.kw_core.specs.Words.{given_in}
use Rattle.kw_shape.specs.Shape.{Shape}
use Rattle.kw_puts.specs.Puts.{OwnsAttempt, IsPublishedAt, entry_of}
use Rattle.kw_core.specs.Step.{Keeps}
use Rattle.kw_puts.specs.Below.{Below}
use Rattle.kw_core.specs.Step.{Step}
use Rattle.kw_core.proofs.NotedLaws.{attempt_set_same}
use Rattle.kw_core.proofs.Steps.{new_stands}
use Rattle.kw_core.proofs.Happens.{Happens, chosen, not_chosen, exchanged, not_exchanged}
use Rattle.kw_core.proofs.BuiltNext.{IsAfterBuilding, built_next}
use Rattle.kw_core.proofs.Arrows.{builds, Arrow, NextLook, looks, lists, NextLeftOver, goes_to_left_over, answers, ends_scan, scans_on, IsNotOwn, decides, marks_led, asks_of_pin}
use Rattle.kw_core.proofs.Arrows.{sees_stamped, sees_neither, is_gone_by, helps, finds_stamped, finds_other, list_ends, key_above, left_over_gone_by, gathers_left_over, takes_cell, stores_key, stores_value, announces, loads_clock, stamps, is_stamped, stores_version, reaches_cell, sees_none, key_before, key_same, key_after, version_before, version_after, stores_after, inserts, loses, first_ends, first_reaches, first_sees_none, inserts_at_first, inserts_behind}
use Rattle.kw_core.proofs.Frame.{WritesOwnEntry}
use Rattle.kw_core.proofs.FreezeFrame.{FreezesEntry}
use Rattle.kw_core.proofs.InfantFrames.{entry_stays as entry_same, key_stays}
use Rattle.kw_rows.specs.Rows.{WasLinked}
use Rattle.kw_core.proofs.Happens.{log_entry}
use Rattle.kw_shape.proofs.LinkedRows.{linked_entry, linked_version}
use Rattle.kw_puts.proofs.BuiltStages.{balancing_puts, counted_not, freezing_goes, gathering_goes}
use Rattle.kw_puts.proofs.Owners.{pending_kept, puts_linked}
use Rattle.kw_puts.proofs.Rely.{GoesOn}
use Rattle.kw_puts.proofs.RelyEntry.{attempt_left}
use Rattle.kw_puts.proofs.RelyProof.{goes_on_by}
use Rattle.kw_puts.proofs.NewAttempts.{added, one_more_is, one_more_within}
use Rattle.kw_shape.proofs.AfterBuilding.{no_call_of_pin}

-- a seat that inserts its cell puts it, and has announced, stamped and stored it
pub inserting_puts : (a : Activity) → IsInserting a → IsPutting a
inserting_puts (Activity.Insert _) m = tt
inserting_puts _ m = absurd m

pub inserting_published : (a : Activity) → IsInserting a → IsPublished a
inserting_published (Activity.Insert _) m = tt
inserting_published _ m = absurd m

pub inserting_stamped : (a : Activity) → IsInserting a → IsStamped a
inserting_stamped (Activity.Insert _) m = tt
inserting_stamped _ m = absurd m

pub inserting_stored : (a : Activity) → IsInserting a → IsStored a
inserting_stored (Activity.Insert _) m = tt
inserting_stored _ m = absurd m

-- it freezes no entry
inserting_freezes : (t : ℕ) (a : Activity) → IsInserting a → FreezesEntry t a → ⊥
inserting_freezes t (Activity.Rebalance (Rebalance.Freeze (Freeze.Entry i))) m x = m
inserting_freezes t _ m x = x

-- What a seat with a cell knows, and what it sees.

-- its own attempt
pub acting_own : (z : Sizes) (r r' : Run) (s : ℕ) (choice : Choice) (l : Local) (a : Activity) (l' : Local) → Happens z r r' s choice l l' a → Below z r → IsPutting a → OwnsAttempt (word z r.world) r.history s l.activity l (r.seats s)
acting_own z r r' s choice l a l' h i p = i.puts.owns s l h.knows (subst IsPutting (sym h.activity) p)

-- the version of a stamped attempt is one of the clock's
pub positive : (z : Sizes) (r : Run) → Below z r → (p : ℕ) → (attempt r.history p).is_stamped ≡ true → 1 ≤ (attempt r.history p).version
positive z r i p x = i.positions.clocked.positive (attempt r.history p).load LoadClock (attempt r.history p).version (i.history.laws.loaded p x)

pub below_end : (z : Sizes) (r : Run) → Below z r → (p : ℕ) → (attempt r.history p).is_stamped ≡ true → (attempt r.history p).version < VERSION_END
below_end z r i p x =
    let y = i.positions.clocked.past (attempt r.history p).load LoadClock (attempt r.history p).version (i.history.laws.loaded p x) in
    let c = i.shape.sane.each name.Clock tt in
    omega (arith, y, c.1)

-- its entry is idle or frozen where it is about to announce its cell
pub idle_or_frozen : (z : Sizes) (r : Run) (s : ℕ) (l : Local) → Below z r → s < z.seats → slice_get r.world.locals s ≡ Some l → l.activity ≡ Activity.Put Put.Announce → (word z r.world (name.Pend l.row s) ≡ pend_word pend.Idle) ⊎ (word z r.world (name.Pend l.row s) ≡ pend_word pend.Frozen)
idle_or_frozen z r s l i o k e = which (i.puts.entry l.row s (i.shape.sane.locals s l k).below.row o)
  where
    which : (word z r.world (name.Pend l.row s) ≡ pend_word pend.Idle) ⊎ (word z r.world (name.Pend l.row s) ≡ pend_word pend.Frozen) ⊎ IsPublishedAt (slice_get r.world.locals) l.row s → (word z r.world (name.Pend l.row s) ≡ pend_word pend.Idle) ⊎ (word z r.world (name.Pend l.row s) ≡ pend_word pend.Frozen)
    which (inl x) = inl x
    which (inr (inl x)) = inr x
    which (inr (inr p)) =
        let same : p.local ≡ l = same_Some p.local l (sym p.knows ∙ k) in
        let x : IsPublished (Activity.Put Put.Announce) = subst IsPublished e (subst (λ (q : Local). IsPublished q.activity) same p.published) in
        absurd x

-- so it is frozen where the announcement fails
pub refused_frozen : (z : Sizes) (r : Run) (s : ℕ) (l : Local) → Below z r → s < z.seats → slice_get r.world.locals s ≡ Some l → l.activity ≡ Activity.Put Put.Announce → word z r.world (name.Pend l.row s) ≢ pend_word pend.Idle → word z r.world (name.Pend l.row s) ≡ pend_word pend.Frozen
refused_frozen z r s l i o k e n = which (idle_or_frozen z r s l i o k e)
  where
    which : (word z r.world (name.Pend l.row s) ≡ pend_word pend.Idle) ⊎ (word z r.world (name.Pend l.row s) ≡ pend_word pend.Frozen) → word z r.world (name.Pend l.row s) ≡ pend_word pend.Frozen
    which (inl x) = absurd (n x)
    which (inr x) = x

-- the entry of an attempt that is lost, is stamped, or is neither
pub entry_lost : (p : Attempt) → p.is_lost ≡ true → entry_of p ≡ pend_word pend.Frozen
entry_lost p x = rw x refl

pub entry_stamped : (p : Attempt) → p.is_lost ≡ false → p.is_stamped ≡ true → entry_of p ≡ pend_word (pend.Stamped p.cell p.version)
entry_stamped p k x = rw (k, x) refl

pub entry_pending : (p : Attempt) → p.is_lost ≡ false → p.is_stamped ≡ false → entry_of p ≡ pend_word (pend.Pending p.cell)
entry_pending p k x = rw (k, x) refl

-- an attempt whose entry is stamped is so with the version of the entry
stamped_entry : (p : Attempt) (c version : ℕ) → p.cell ≡ c → entry_of p ≡ pend_word (pend.Stamped c version) → (p.is_stamped ≡ true) × (p.version ≡ version)
stamped_entry p c version f e = saw p.is_lost p.is_stamped refl refl
  where
    saw : (a b : Bool) → p.is_lost ≡ a → p.is_stamped ≡ b → (p.is_stamped ≡ true) × (p.version ≡ version)
    saw true b k y = let x : pend_word pend.Frozen ≡ pend_word (pend.Stamped c version) = rw k at e in absurd (omega (arith, x))
    saw false true k y = let x : pend_word (pend.Stamped p.cell p.version) ≡ pend_word (pend.Stamped c version) = rw (k, y) at e in (y, omega (arith, x, f))
    saw false false k y = let x : pend_word (pend.Pending p.cell) ≡ pend_word (pend.Stamped c version) = rw (k, y) at e in absurd (omega (arith, x))

-- a seat that is about to stamp and whose entry is not its own has lost its attempt
pub lost_entry : (z : Sizes) (r : Run) (s : ℕ) (l : Local) → Below z r → OwnsAttempt (word z r.world) r.history s l.activity l (r.seats s) → slice_get r.world.locals s ≡ Some l → l.activity ≡ Activity.Put Put.Stamp → IsNotOwn l.cell (word z r.world (name.Pend l.row s)) → (attempt r.history (r.seats s).own).is_lost ≡ true
lost_entry z r s l i own k e n = lost (attempt r.history (r.seats s).own).is_lost refl
  where
    cell : l.cell < z.cells
    cell = (i.shape.sane.locals s l k).ranges.cell

    entry : word z r.world (name.Pend l.row s) ≡ entry_of (attempt r.history (r.seats s).own)
    entry = own.entry (subst IsPublished (sym e) tt)

    which : (attempt r.history (r.seats s).own).is_lost ≡ false → (b : Bool) → (attempt r.history (r.seats s).own).is_stamped ≡ b → ⊥
    which y true x =
        let w : word z r.world (name.Pend l.row s) ≡ pend_word (pend.Stamped l.cell (attempt r.history (r.seats s).own).version) = entry ∙ entry_stamped (attempt r.history (r.seats s).own) y x ∙ ap (λ c. pend_word (pend.Stamped c (attempt r.history (r.seats s).own).version)) own.cell in
        n.stamped (attempt r.history (r.seats s).own).version (ap pend_of w ∙ pend_of-Stamped l.cell (attempt r.history (r.seats s).own).version (omega (arith, cell, i.shape.sane.sized.few_cells)) (positive z r i (r.seats s).own x) (below_end z r i (r.seats s).own x))
    which y false x =
        let w : word z r.world (name.Pend l.row s) ≡ pend_word (pend.Pending l.cell) = entry ∙ entry_pending (attempt r.history (r.seats s).own) y x ∙ ap (λ c. pend_word (pend.Pending c)) own.cell in
        n.pending (ap pend_of w ∙ pend_of-Pending l.cell (omega (arith, cell, i.shape.sane.sized.few_cells)))

    lost : (b : Bool) → (attempt r.history (r.seats s).own).is_lost ≡ b → (attempt r.history (r.seats s).own).is_lost ≡ true
    lost true y = y
    lost false y = absurd (which y (attempt r.history (r.seats s).own).is_stamped refl)

-- and finds its entry frozen
pub lost_frozen : (z : Sizes) (r : Run) (s : ℕ) (l : Local) → Below z r → OwnsAttempt (word z r.world) r.history s l.activity l (r.seats s) → slice_get r.world.locals s ≡ Some l → l.activity ≡ Activity.Put Put.Stamp → IsNotOwn l.cell (word z r.world (name.Pend l.row s)) → word z r.world (name.Pend l.row s) ≡ pend_word pend.Frozen
lost_frozen z r s l i own k e n = own.entry (subst IsPublished (sym e) tt) ∙ entry_lost (attempt r.history (r.seats s).own) (lost_entry z r s l i own k e n)

-- the key of a call is in range
first_below : (c : Option Call) → IsCall c → first_key c < KEY_END
first_below (Some (Put key value)) h = h.0
first_below (Some (Del key)) h = h
first_below (Some (Get key)) h = h
first_below (Some (Scan from upto)) h = h.0
first_below (Some Pin) h = absurd h
first_below (Some (ScanAt from upto)) h = absurd h
first_below (Some Unpin) h = absurd h
first_below None h = omega arith

-- What the acting seat does with its own attempt, one lemma for each event of a put.

-- the key is stored
key_stored : (z : Sizes) (r r' : Run) (s : ℕ) (choice : Choice) (l : Local) → Happens z r r' s choice l (record l { activity = Activity.Put Put.Value }) (Activity.Put Put.Key) → Below z r → Step r.history r'.history (log_entry z r (Activity.Put Put.Key) s choice l) → OwnsAttempt (word z r'.world) r'.history s (Activity.Put Put.Value) (record l { activity = Activity.Put Put.Value }) (r'.seats s)
key_stored z r r' s choice l h i st = subst (OwnsAttempt (word z r'.world) r'.history s (Activity.Put Put.Value) (record l { activity = Activity.Put Put.Value })) (sym h.log) (record {
  within = omega (arith, own.within, goes.more_attempts);
  seat = rw same own.seat;
  call = rw same own.call;
  row = rw same own.row;
  cell = rw same own.cell;
  key = rw same own.key;
  value = rw same own.value;
  kept_fresh = λ x. rw same (own.kept_fresh (subst IsFresh (sym h.activity) tt));
  kept = λ x. absurd x;
  unannounced = λ x. rw same (own.unannounced (subst IsFresh (sym h.activity) tt));
  unstamped = λ x. rw same (own.unstamped (subst IsFresh (sym h.activity) tt));
  has_key = λ x. rw same (ap key_of_word h.changed.same ∙ key_of_word-key_word (first_key l.call) (first_below l.call known.ranges.call) ∙ sym own.key);
  has_value = λ x. absurd x;
  announced = λ x. absurd x;
  entry = λ x. absurd x;
  after = λ x. absurd x;
  loaded = λ x. absurd x;
  stamped = λ x. absurd x;
  version = λ x. absurd x;
  stored = λ x. absurd x;
})
  where
    own : OwnsAttempt (word z r.world) r.history s l.activity l (r.seats s)
    own = acting_own z r r' s choice l (Activity.Put Put.Key) (record l { activity = Activity.Put Put.Value }) h i tt

    goes : GoesOn r.history r'.history r.origin r'.origin r.ledger.rows
    goes = goes_on_by z r r' s choice l (Activity.Put Put.Key) (record l { activity = Activity.Put Put.Value }) h i st

    same : attempt r'.history (r.seats s).own ≡ attempt r.history (r.seats s).own
    same = attempt_left r.history r'.history _ (r.seats s).own Nothing tt h.history own.within

    known : IsKnown z r.world.rows l
    known = i.shape.sane.locals s l h.knows

-- the value is stored
value_stored : (z : Sizes) (r r' : Run) (s : ℕ) (choice : Choice) (l : Local) → Happens z r r' s choice l (record l { activity = Activity.Put Put.Announce }) (Activity.Put Put.Value) → Below z r → Step r.history r'.history (log_entry z r (Activity.Put Put.Value) s choice l) → OwnsAttempt (word z r'.world) r'.history s (Activity.Put Put.Announce) (record l { activity = Activity.Put Put.Announce }) (r'.seats s)
value_stored z r r' s choice l h i st = subst (OwnsAttempt (word z r'.world) r'.history s (Activity.Put Put.Announce) (record l { activity = Activity.Put Put.Announce })) (sym h.log) (record {
  within = omega (arith, own.within, goes.more_attempts);
  seat = rw same own.seat;
  call = rw same own.call;
  row = rw same own.row;
  cell = rw same own.cell;
  key = rw same own.key;
  value = rw same own.value;
  kept_fresh = λ x. rw same (own.kept_fresh (subst IsFresh (sym h.activity) tt));
  kept = λ x. absurd x;
  unannounced = λ x. rw same (own.unannounced (subst IsFresh (sym h.activity) tt));
  unstamped = λ x. rw same (own.unstamped (subst IsFresh (sym h.activity) tt));
  has_key = λ x. rw same (ap key_of_word (key_stays (Activity.Put Put.Value) h l.row l.cell known.below.row known.ranges.cell (λ y. y)) ∙ own.has_key (subst HasKey (sym h.activity) tt));
  has_value = λ x. rw same (ap value_of_word h.changed.same ∙ value_of_word-value_word (put_value l.call) ∙ sym own.value);
  announced = λ x. absurd x;
  entry = λ x. absurd x;
  after = λ x. absurd x;
  loaded = λ x. absurd x;
  stamped = λ x. absurd x;
  version = λ x. absurd x;
  stored = λ x. absurd x;
})
  where
    own : OwnsAttempt (word z r.world) r.history s l.activity l (r.seats s)
    own = acting_own z r r' s choice l (Activity.Put Put.Value) (record l { activity = Activity.Put Put.Announce }) h i tt

    goes : GoesOn r.history r'.history r.origin r'.origin r.ledger.rows
    goes = goes_on_by z r r' s choice l (Activity.Put Put.Value) (record l { activity = Activity.Put Put.Announce }) h i st

    same : attempt r'.history (r.seats s).own ≡ attempt r.history (r.seats s).own
    same = attempt_left r.history r'.history _ (r.seats s).own Nothing tt h.history own.within

    known : IsKnown z r.world.rows l
    known = i.shape.sane.locals s l h.knows

-- the cell is announced
cell_announced : (z : Sizes) (r r' : Run) (s : ℕ) (choice : Choice) (l : Local) → word z r.world (name.Pend l.row s) ≡ pend_word pend.Idle → Happens z r r' s choice l (record l { activity = Activity.Put Put.Clock }) (Activity.Put Put.Announce) → Below z r → Step r.history r'.history (log_entry z r (Activity.Put Put.Announce) s choice l) → OwnsAttempt (word z r'.world) r'.history s (Activity.Put Put.Clock) (record l { activity = Activity.Put Put.Clock }) (r'.seats s)
cell_announced z r r' s choice l e h i st = subst (OwnsAttempt (word z r'.world) r'.history s (Activity.Put Put.Clock) (record l { activity = Activity.Put Put.Clock })) (sym h.log) (record {
  within = omega (arith, own.within, goes.more_attempts);
  seat = rw same own.seat;
  call = rw same own.call;
  row = rw same own.row;
  cell = rw same own.cell;
  key = rw same own.key;
  value = rw same own.value;
  kept_fresh = λ x. absurd x;
  kept = λ x. absurd x;
  unannounced = λ x. absurd x;
  unstamped = λ x. absurd x;
  has_key = λ x. absurd x;
  has_value = λ x. absurd x;
  announced = λ x. rw same refl;
  entry = λ x. exchanged _ _ _ _ h.changed.same e ∙ sym pending ∙ ap entry_of (sym same);
  after = λ x. absurd x;
  loaded = λ x. absurd x;
  stamped = λ x. absurd x;
  version = λ x. absurd x;
  stored = λ x. absurd x;
})
  where
    own : OwnsAttempt (word z r.world) r.history s l.activity l (r.seats s)
    own = acting_own z r r' s choice l (Activity.Put Put.Announce) (record l { activity = Activity.Put Put.Clock }) h i tt

    goes : GoesOn r.history r'.history r.origin r'.origin r.ledger.rows
    goes = goes_on_by z r r' s choice l (Activity.Put Put.Announce) (record l { activity = Activity.Put Put.Clock }) h i st

    same : attempt r'.history (r.seats s).own ≡ record (attempt r.history (r.seats s).own) { is_announced = true; announced = length r.history.log }
    same = attempt_set_same r.history r'.history (r.seats s).own _ (ap (λ x. x.attempts) (h.history ∙ ap (λ c. noted r.history (log_entry z r (Activity.Put Put.Announce) s choice l) c) (chosen _ _ (Announces (r.seats s).own) Nothing e))) own.within

    pending : entry_of (record (attempt r.history (r.seats s).own) { is_announced = true; announced = length r.history.log }) ≡ pend_word (pend.Pending l.cell)
    pending = entry_pending (record (attempt r.history (r.seats s).own) { is_announced = true; announced = length r.history.log }) (own.kept_fresh (subst IsFresh (sym h.activity) tt)) (own.unstamped (subst IsFresh (sym h.activity) tt)) ∙ ap (λ c. pend_word (pend.Pending c)) own.cell

-- the clock is loaded
clock_loaded : (z : Sizes) (r r' : Run) (s : ℕ) (choice : Choice) (l : Local) → Happens z r r' s choice l (record l { version = word z r.world name.Clock; activity = Activity.Put Put.Stamp }) (Activity.Put Put.Clock) → Below z r → Step r.history r'.history (log_entry z r (Activity.Put Put.Clock) s choice l) → OwnsAttempt (word z r'.world) r'.history s (Activity.Put Put.Stamp) (record l { version = word z r.world name.Clock; activity = Activity.Put Put.Stamp }) (r'.seats s)
clock_loaded z r r' s choice l h i st = subst (OwnsAttempt (word z r'.world) r'.history s (Activity.Put Put.Stamp) (record l { version = word z r.world name.Clock; activity = Activity.Put Put.Stamp })) (sym h.log) (record {
  within = omega (arith, own.within, goes.more_attempts);
  seat = rw same own.seat;
  call = rw same own.call;
  row = rw same own.row;
  cell = rw same own.cell;
  key = rw same own.key;
  value = rw same own.value;
  kept_fresh = λ x. absurd x;
  kept = λ x. absurd x;
  unannounced = λ x. absurd x;
  unstamped = λ x. absurd x;
  has_key = λ x. absurd x;
  has_value = λ x. absurd x;
  announced = λ x. rw same (own.announced (subst IsPublished (sym h.activity) tt));
  entry = λ x. h.changed.loaded refl (name.Pend l.row s) ∙ own.entry (subst IsPublished (sym h.activity) tt) ∙ ap entry_of (sym same);
  after = λ x. rw same (i.history.past.announced (r.seats s).own own.within (own.announced (subst IsPublished (sym h.activity) tt)));
  loaded = λ x. new_stands r.history r'.history _ st;
  stamped = λ x. absurd x;
  version = λ x. absurd x;
  stored = λ x. absurd x;
})
  where
    own : OwnsAttempt (word z r.world) r.history s l.activity l (r.seats s)
    own = acting_own z r r' s choice l (Activity.Put Put.Clock) (record l { version = word z r.world name.Clock; activity = Activity.Put Put.Stamp }) h i tt

    goes : GoesOn r.history r'.history r.origin r'.origin r.ledger.rows
    goes = goes_on_by z r r' s choice l (Activity.Put Put.Clock) (record l { version = word z r.world name.Clock; activity = Activity.Put Put.Stamp }) h i st

    same : attempt r'.history (r.seats s).own ≡ attempt r.history (r.seats s).own
    same = attempt_left r.history r'.history _ (r.seats s).own Nothing tt h.history own.within

-- the cell is stamped
cell_stamped : (z : Sizes) (r r' : Run) (s : ℕ) (choice : Choice) (l : Local) → word z r.world (name.Pend l.row s) ≡ pend_word (pend.Pending l.cell) → Happens z r r' s choice l (record l { activity = Activity.Put Put.Version }) (Activity.Put Put.Stamp) → Below z r → Step r.history r'.history (log_entry z r (Activity.Put Put.Stamp) s choice l) → OwnsAttempt (word z r'.world) r'.history s (Activity.Put Put.Version) (record l { activity = Activity.Put Put.Version }) (r'.seats s)
cell_stamped z r r' s choice l e h i st = subst (OwnsAttempt (word z r'.world) r'.history s (Activity.Put Put.Version) (record l { activity = Activity.Put Put.Version })) (sym h.log) (record {
  within = omega (arith, own.within, goes.more_attempts);
  seat = rw same own.seat;
  call = rw same own.call;
  row = rw same own.row;
  cell = rw same own.cell;
  key = rw same own.key;
  value = rw same own.value;
  kept_fresh = λ x. absurd x;
  kept = λ x. rw same not_lost;
  unannounced = λ x. absurd x;
  unstamped = λ x. absurd x;
  has_key = λ x. absurd x;
  has_value = λ x. absurd x;
  announced = λ x. rw same (own.announced (subst IsPublished (sym h.activity) tt));
  entry = λ x. exchanged _ _ _ _ h.changed.same e ∙ ap (λ c. pend_word (pend.Stamped c l.version)) (sym own.cell) ∙ sym (entry_stamped (record (attempt r.history (r.seats s).own) { is_stamped = true; version = l.version; load = (r.seats s).loaded; at = length r.history.log }) not_lost refl) ∙ ap entry_of (sym same);
  after = λ x. absurd x;
  loaded = λ x. absurd x;
  stamped = λ x. rw same refl;
  version = λ x. rw same refl;
  stored = λ x. absurd x;
})
  where
    own : OwnsAttempt (word z r.world) r.history s l.activity l (r.seats s)
    own = acting_own z r r' s choice l (Activity.Put Put.Stamp) (record l { activity = Activity.Put Put.Version }) h i tt

    goes : GoesOn r.history r'.history r.origin r'.origin r.ledger.rows
    goes = goes_on_by z r r' s choice l (Activity.Put Put.Stamp) (record l { activity = Activity.Put Put.Version }) h i st

    not_lost : (attempt r.history (r.seats s).own).is_lost ≡ false
    not_lost = pending_kept (attempt r.history (r.seats s).own) l.cell (sym (own.entry (subst IsPublished (sym h.activity) tt)) ∙ e)

    same : attempt r'.history (r.seats s).own ≡ record (attempt r.history (r.seats s).own) { is_stamped = true; version = l.version; load = (r.seats s).loaded; at = length r.history.log }
    same = attempt_set_same r.history r'.history (r.seats s).own _ (ap (λ x. x.attempts) (h.history ∙ ap (λ c. noted r.history (log_entry z r (Activity.Put Put.Stamp) s choice l) c) (chosen _ _ (Stamps (r.seats s).own l.version (r.seats s).loaded) Nothing e))) own.within

-- the cell was stamped by a reader
found_stamped : (z : Sizes) (r r' : Run) (s : ℕ) (choice : Choice) (l : Local) (version : ℕ) → word z r.world (name.Pend l.row s) ≡ pend_word (pend.Stamped l.cell version) → Happens z r r' s choice l (record l { version = version; activity = Activity.Put Put.Version }) (Activity.Put Put.Stamp) → Below z r → Step r.history r'.history (log_entry z r (Activity.Put Put.Stamp) s choice l) → OwnsAttempt (word z r'.world) r'.history s (Activity.Put Put.Version) (record l { version = version; activity = Activity.Put Put.Version }) (r'.seats s)
found_stamped z r r' s choice l version e h i st = subst (OwnsAttempt (word z r'.world) r'.history s (Activity.Put Put.Version) (record l { version = version; activity = Activity.Put Put.Version })) (sym h.log) (record {
  within = omega (arith, own.within, goes.more_attempts);
  seat = rw same own.seat;
  call = rw same own.call;
  row = rw same own.row;
  cell = rw same own.cell;
  key = rw same own.key;
  value = rw same own.value;
  kept_fresh = λ x. absurd x;
  kept = λ x. rw same (i.history.laws.kept (r.seats s).own is.0);
  unannounced = λ x. absurd x;
  unstamped = λ x. absurd x;
  has_key = λ x. absurd x;
  has_value = λ x. absurd x;
  announced = λ x. rw same (own.announced (subst IsPublished (sym h.activity) tt));
  entry = λ x. not_exchanged _ _ _ _ h.changed.same lost ∙ e ∙ sym entry ∙ ap entry_of (sym same);
  after = λ x. absurd x;
  loaded = λ x. absurd x;
  stamped = λ x. rw same is.0;
  version = λ x. rw same is.1;
  stored = λ x. absurd x;
})
  where
    own : OwnsAttempt (word z r.world) r.history s l.activity l (r.seats s)
    own = acting_own z r r' s choice l (Activity.Put Put.Stamp) (record l { version = version; activity = Activity.Put Put.Version }) h i tt

    goes : GoesOn r.history r'.history r.origin r'.origin r.ledger.rows
    goes = goes_on_by z r r' s choice l (Activity.Put Put.Stamp) (record l { version = version; activity = Activity.Put Put.Version }) h i st

    lost : word z r.world (name.Pend l.row s) ≢ pend_word (pend.Pending l.cell)
    lost f = let x : pend_word (pend.Stamped l.cell version) ≡ pend_word (pend.Pending l.cell) = sym e ∙ f in omega (arith, x)

    same : attempt r'.history (r.seats s).own ≡ attempt r.history (r.seats s).own
    same = attempt_left r.history r'.history _ (r.seats s).own Nothing tt (h.history ∙ ap (λ c. noted r.history (log_entry z r (Activity.Put Put.Stamp) s choice l) c) (not_chosen _ _ (Stamps (r.seats s).own l.version (r.seats s).loaded) Nothing lost)) own.within

    entry : entry_of (attempt r.history (r.seats s).own) ≡ pend_word (pend.Stamped l.cell version)
    entry = sym (own.entry (subst IsPublished (sym h.activity) tt)) ∙ e

    is : ((attempt r.history (r.seats s).own).is_stamped ≡ true) × ((attempt r.history (r.seats s).own).version ≡ version)
    is = stamped_entry (attempt r.history (r.seats s).own) l.cell version own.cell entry

-- the version is stored
version_stored : (z : Sizes) (r r' : Run) (s : ℕ) (choice : Choice) (l : Local) → Happens z r r' s choice l (to_insert l).local (Activity.Put Put.Version) → Below z r → Step r.history r'.history (log_entry z r (Activity.Put Put.Version) s choice l) → OwnsAttempt (word z r'.world) r'.history s (Activity.Insert Insert.Start) (to_insert l).local (r'.seats s)
version_stored z r r' s choice l h i st = subst (OwnsAttempt (word z r'.world) r'.history s (Activity.Insert Insert.Start) (to_insert l).local) (sym h.log) (record {
  within = omega (arith, own.within, goes.more_attempts);
  seat = rw same own.seat;
  call = rw same own.call;
  row = rw same own.row;
  cell = rw same own.cell;
  key = rw same own.key;
  value = rw same own.value;
  kept_fresh = λ x. absurd x;
  kept = λ x. rw same (own.kept (subst IsStamped (sym h.activity) tt));
  unannounced = λ x. absurd x;
  unstamped = λ x. absurd x;
  has_key = λ x. absurd x;
  has_value = λ x. absurd x;
  announced = λ x. rw same (own.announced (subst IsPublished (sym h.activity) tt));
  entry = λ x. entry_same (Activity.Put Put.Version) h l.row s known.below.row h.seat (λ y. y) ∙ own.entry (subst IsPublished (sym h.activity) tt) ∙ ap entry_of (sym same);
  after = λ x. absurd x;
  loaded = λ x. absurd x;
  stamped = λ x. rw same (own.stamped (subst IsStamped (sym h.activity) tt));
  version = λ x. rw same (own.version (subst IsStamped (sym h.activity) tt));
  stored = λ x. rw same (h.changed.same ∙ sym (own.version (subst IsStamped (sym h.activity) tt)));
})
  where
    own : OwnsAttempt (word z r.world) r.history s l.activity l (r.seats s)
    own = acting_own z r r' s choice l (Activity.Put Put.Version) (to_insert l).local h i tt

    goes : GoesOn r.history r'.history r.origin r'.origin r.ledger.rows
    goes = goes_on_by z r r' s choice l (Activity.Put Put.Version) (to_insert l).local h i st

    same : attempt r'.history (r.seats s).own ≡ attempt r.history (r.seats s).own
    same = attempt_left r.history r'.history _ (r.seats s).own Nothing tt h.history own.within

    known : IsKnown z r.world.rows l
    known = i.shape.sane.locals s l h.knows

-- the cell is being inserted: nothing that the attempt says has changed
module _ (z : Sizes) (r r' : Run) (s : ℕ) (choice : Choice) (l : Local) (a : Activity) (l' : Local) (h : Happens z r r' s choice l l' a) (i : Below z r) (st : Step r.history r'.history (log_entry z r a s choice l)) (m : IsInserting a) where
  -- what the seat knows of its attempt is as it was
  insert_stays : (b : Activity) → (IsFresh b → ⊥) → (HasKey b → ⊥) → (IsAnnounce b → ⊥) → (IsStamp b → ⊥) → r'.seats s ≡ r.seats s → r'.history ≡ noted r.history (log_entry z r a s choice l) Nothing → (WritesOwnEntry a → ⊥) → (IsHelp a → ⊥) → (IsPutVersion a → ⊥) →
      l'.row ≡ l.row → l'.cell ≡ l.cell → l'.call ≡ l.call → l'.version ≡ l.version → OwnsAttempt (word z r'.world) r'.history s b l' (r'.seats s)
  insert_stays b unfresh unkeyed unvalued unclocked log adds entry help stores row cell call versions = subst (OwnsAttempt (word z r'.world) r'.history s b l') (sym log) (record {
    within = omega (arith, own.within, goes.more_attempts);
    seat = rw same own.seat;
    call = rw same own.call;
    row = rw same (own.row ∙ sym row);
    cell = rw same (own.cell ∙ sym cell);
    key = rw same (own.key ∙ ap first_key (sym call));
    value = rw same (own.value ∙ ap put_value (sym call));
    kept_fresh = λ x. absurd (unfresh x);
    kept = λ x. rw same (own.kept (subst IsStamped (sym h.activity) (inserting_stamped a m)));
    unannounced = λ x. absurd (unfresh x);
    unstamped = λ x. absurd (unfresh x);
    has_key = λ x. absurd (unkeyed x);
    has_value = λ x. absurd (unvalued x);
    announced = λ x. rw same (own.announced published);
    entry = λ x. rw row (linked_entry a h i.shape l.row s linked h.seat (λ y e f. entry y) (λ y e f. help y) (λ y e. inserting_freezes s a m y) ∙ own.entry published ∙ ap entry_of (sym same));
    after = λ x. absurd (unclocked x);
    loaded = λ x. absurd (unclocked x);
    stamped = λ x. rw same (own.stamped (subst IsStamped (sym h.activity) (inserting_stamped a m)));
    version = λ x. rw same (own.version (subst IsStamped (sym h.activity) (inserting_stamped a m)) ∙ sym versions);
    stored = λ x. rw (row, cell, same) (linked_version a h i.shape l.row l.cell linked known.ranges.cell (λ y e f. stores y) ∙ own.stored (subst IsStored (sym h.activity) (inserting_stored a m)));
  })
    where
      own : OwnsAttempt (word z r.world) r.history s l.activity l (r.seats s)
      own = acting_own z r r' s choice l a l' h i (inserting_puts a m)

      goes : GoesOn r.history r'.history r.origin r'.origin r.ledger.rows
      goes = goes_on_by z r r' s choice l a l' h i st

      same : attempt r'.history (r.seats s).own ≡ attempt r.history (r.seats s).own
      same = attempt_left r.history r'.history _ (r.seats s).own Nothing tt adds own.within

      known : IsKnown z r.world.rows l
      known = i.shape.sane.locals s l h.knows

      linked : WasLinked r.ledger.rows l.row
      linked = puts_linked z r i.shape s l h.knows (subst IsPutting (sym h.activity) (inserting_puts a m))

      published : IsPublished l.activity
      published = subst IsPublished (sym h.activity) (inserting_published a m)

-- a cell is given
cell_given : (z : Sizes) (r r' : Run) (s : ℕ) (choice : Choice) (l : Local) → has_room z (count_of (word z r.world (name.Count l.row))) ≡ true → Happens z r r' s choice l (record l { cell = given_in (word z r.world) l.row; activity = Activity.Put Put.Key }) (Activity.Put Put.Add) → OwnsAttempt (word z r'.world) r'.history s (Activity.Put Put.Key) (record l { cell = given_in (word z r.world) l.row; activity = Activity.Put Put.Key }) (r'.seats s)
cell_given z r r' s choice l m h = subst (OwnsAttempt (word z r'.world) r'.history s (Activity.Put Put.Key) (record l { cell = given_in (word z r.world) l.row; activity = Activity.Put Put.Key })) (sym (rw m at h.log)) (record {
  within = one_more_within h m;
  seat = ap (λ x. x.seat) is;
  call = ap (λ x. x.call) is;
  row = ap (λ x. x.row) is;
  cell = ap (λ x. x.cell) is;
  key = ap (λ x. x.key) is;
  value = ap (λ x. x.value) is;
  kept_fresh = λ x. ap (λ k. k.is_lost) is;
  kept = λ x. absurd x;
  unannounced = λ x. ap (λ k. k.is_announced) is;
  unstamped = λ x. ap (λ k. k.is_stamped) is;
  has_key = λ x. absurd x;
  has_value = λ x. absurd x;
  announced = λ x. absurd x;
  entry = λ x. absurd x;
  after = λ x. absurd x;
  loaded = λ x. absurd x;
  stamped = λ x. absurd x;
  version = λ x. absurd x;
  stored = λ x. absurd x;
})
  where
    is : attempt r'.history (length r.history.attempts) ≡ added r (word z r.world) s l
    is = one_more_is h m

-- What a look, or a cell, leads to is no part of a put, and has seen no entry.

pub look_puts : {A : Type 0} (z : Sizes) (j : ℕ) (a : Activity) → NextLook z j a → IsPutting a → A
look_puts z j a (looks o) p = absurd p
look_puts z j a (lists o) p = absurd p

pub cell_puts : {A : Type 0} (l : Local) (n : Local) → NextLeftOver l n → IsPutting n.activity → A
cell_puts l n (goes_to_left_over m o) p = absurd p
cell_puts l n (answers o e) p = absurd p
cell_puts l n (ends_scan o e f) p = absurd p
cell_puts l n (scans_on q o e f g) p = absurd p

-- nor is what follows where new rows are built
pub built_puts : {A : Type 0} (b : Activity) → IsAfterBuilding b → IsPutting b → A
built_puts (Activity.Put Put.Key) n p = absurd n
built_puts (Activity.Put Put.Value) n p = absurd n
built_puts (Activity.Put Put.Announce) n p = absurd n
built_puts (Activity.Put Put.Clock) n p = absurd n
built_puts (Activity.Put Put.Stamp) n p = absurd n
built_puts (Activity.Put Put.Version) n p = absurd n
built_puts (Activity.Insert _) n p = absurd n
built_puts (Activity.Put Put.Clear) n p = absurd n
built_puts _ n p = absurd p

-- the acting seat's own attempt
pub owns_own : (z : Sizes) (r r' : Run) (s : ℕ) (choice : Choice) (l : Local) (a : Activity) (l' : Local) → Arrow z (word z r.world) s choice l a l' → Happens z r r' s choice l l' a → Below z r → Step r.history r'.history (log_entry z r a s choice l) → Shape z r' → Keeps r'.history → IsPutting l'.activity → OwnsAttempt (word z r'.world) r'.history s l'.activity l' (r'.seats s)
owns_own z r r' s choice l a l' (builds b next y t) h i st after k p = built_puts next.activity (built_next z (word z r.world) choice l b next t) p
owns_own z r r' s choice l a l' (asks_of_pin next o n) h i st after k p = no_call_of_pin _ h i.shape o
owns_own z r r' s choice l a l' (takes_cell m) h i st after k p = cell_given z r r' s choice l m h
owns_own z r r' s choice l a l' stores_key h i st after k p = key_stored z r r' s choice l h i st
owns_own z r r' s choice l a l' stores_value h i st after k p = value_stored z r r' s choice l h i st
owns_own z r r' s choice l a l' (announces e) h i st after k p = cell_announced z r r' s choice l e h i st
owns_own z r r' s choice l a l' loads_clock h i st after k p = clock_loaded z r r' s choice l h i st
owns_own z r r' s choice l a l' (stamps e) h i st after k p = cell_stamped z r r' s choice l (sym (pend_word_of _ _ e)) h i st
owns_own z r r' s choice l a l' (is_stamped version e) h i st after k p = found_stamped z r r' s choice l version (sym (pend_word_of _ _ e)) h i st
owns_own z r r' s choice l a l' stores_version h i st after k p = version_stored z r r' s choice l h i st
owns_own z r r' s choice l a l' (first_reaches c y) h i st after k p = insert_stays z r r' s choice l (Activity.Insert Insert.Start) l' h i st tt (Activity.Insert Insert.Key) (λ x. x) (λ x. x) (λ x. x) (λ x. x) h.log h.history (λ x. x) (λ x. x) (λ x. x) refl refl refl refl
owns_own z r r' s choice l a l' (reaches_cell c y) h i st after k p = insert_stays z r r' s choice l (Activity.Insert Insert.Link) l' h i st tt (Activity.Insert Insert.Key) (λ x. x) (λ x. x) (λ x. x) (λ x. x) h.log h.history (λ x. x) (λ x. x) (λ x. x) refl refl refl refl
owns_own z r r' s choice l a l' (first_sees_none y) h i st after k p = insert_stays z r r' s choice l (Activity.Insert Insert.Start) l' h i st tt (Activity.Insert Insert.Set) (λ x. x) (λ x. x) (λ x. x) (λ x. x) h.log h.history (λ x. x) (λ x. x) (λ x. x) refl refl refl refl
owns_own z r r' s choice l a l' (sees_none y) h i st after k p = insert_stays z r r' s choice l (Activity.Insert Insert.Link) l' h i st tt (Activity.Insert Insert.Set) (λ x. x) (λ x. x) (λ x. x) (λ x. x) h.log h.history (λ x. x) (λ x. x) (λ x. x) refl refl refl refl
owns_own z r r' s choice l a l' (inserts_behind guess inside y) h i st after k p = insert_stays z r r' s choice l (Activity.Insert Insert.Start) l' h i st tt (Activity.Insert Insert.Link) (λ x. x) (λ x. x) (λ x. x) (λ x. x) h.log h.history (λ x. x) (λ x. x) (λ x. x) refl refl refl refl
owns_own z r r' s choice l a l' (inserts_at_first guess y) h i st after k p = insert_stays z r r' s choice l (Activity.Insert Insert.Start) l' h i st tt (Activity.Insert Insert.Link) (λ x. x) (λ x. x) (λ x. x) (λ x. x) h.log h.history (λ x. x) (λ x. x) (λ x. x) refl refl refl refl
owns_own z r r' s choice l a l' (key_before y) h i st after k p = insert_stays z r r' s choice l (Activity.Insert Insert.Key) l' h i st tt (Activity.Insert Insert.Link) (λ x. x) (λ x. x) (λ x. x) (λ x. x) h.log h.history (λ x. x) (λ x. x) (λ x. x) refl refl refl refl
owns_own z r r' s choice l a l' (key_same y) h i st after k p = insert_stays z r r' s choice l (Activity.Insert Insert.Key) l' h i st tt (Activity.Insert Insert.Version) (λ x. x) (λ x. x) (λ x. x) (λ x. x) h.log h.history (λ x. x) (λ x. x) (λ x. x) refl refl refl refl
owns_own z r r' s choice l a l' (key_after y) h i st after k p = insert_stays z r r' s choice l (Activity.Insert Insert.Key) l' h i st tt (Activity.Insert Insert.Set) (λ x. x) (λ x. x) (λ x. x) (λ x. x) h.log h.history (λ x. x) (λ x. x) (λ x. x) refl refl refl refl
owns_own z r r' s choice l a l' (version_before y) h i st after k p = insert_stays z r r' s choice l (Activity.Insert Insert.Version) l' h i st tt (Activity.Insert Insert.Link) (λ x. x) (λ x. x) (λ x. x) (λ x. x) h.log h.history (λ x. x) (λ x. x) (λ x. x) refl refl refl refl
owns_own z r r' s choice l a l' (version_after y) h i st after k p = insert_stays z r r' s choice l (Activity.Insert Insert.Version) l' h i st tt (Activity.Insert Insert.Set) (λ x. x) (λ x. x) (λ x. x) (λ x. x) h.log h.history (λ x. x) (λ x. x) (λ x. x) refl refl refl refl
owns_own z r r' s choice l a l' stores_after h i st after k p = insert_stays z r r' s choice l (Activity.Insert Insert.Set) l' h i st tt (Activity.Insert Insert.Exchange) (λ x. x) (λ x. x) (λ x. x) (λ x. x) h.log h.history (λ x. x) (λ x. x) (λ x. x) refl refl refl refl
owns_own z r r' s choice l a l' (inserts y) h i st after k p = insert_stays z r r' s choice l (Activity.Insert Insert.Exchange) l' h i st tt (Activity.Put Put.Clear) (λ x. x) (λ x. x) (λ x. x) (λ x. x) h.log h.history (λ x. x) (λ x. x) (λ x. x) refl refl refl refl
owns_own z r r' s choice l a l' (loses y) h i st after k p = insert_stays z r r' s choice l (Activity.Insert Insert.Exchange) l' h i st tt (Activity.Insert Insert.Start) (λ x. x) (λ x. x) (λ x. x) (λ x. x) h.log h.history (λ x. x) (λ x. x) (λ x. x) refl refl refl refl
owns_own z r r' s choice l a l' (sees_stamped j c version next e n) h i st after k p = look_puts z _ next n p
owns_own z r r' s choice l a l' (sees_neither j next e n) h i st after k p = look_puts z _ next n p
owns_own z r r' s choice l a l' (is_gone_by next e n) h i st after k p = look_puts z _ next n p
owns_own z r r' s choice l a l' (helps next e n) h i st after k p = look_puts z _ next n p
owns_own z r r' s choice l a l' (finds_stamped c version next e n) h i st after k p = look_puts z _ next n p
owns_own z r r' s choice l a l' (finds_other next e n) h i st after k p = look_puts z _ next n p
owns_own z r r' s choice l a l' (first_ends next e n) h i st after k p = cell_puts _ next n p
owns_own z r r' s choice l a l' (list_ends next e n) h i st after k p = cell_puts _ next n p
owns_own z r r' s choice l a l' (key_above next e n) h i st after k p = cell_puts _ next n p
owns_own z r r' s choice l a l' (left_over_gone_by next e n) h i st after k p = cell_puts _ next n p
owns_own z r r' s choice l a l' (gathers_left_over next n) h i st after k p = cell_puts _ next n p
owns_own z r r' s choice l (Activity.Rebalance (Rebalance.Freeze f)) l' x h i st after k p = balancing_puts l'.activity (freezing_goes z _ s choice l f l' x) p
owns_own z r r' s choice l (Activity.Rebalance (Rebalance.Gather g)) l' x h i st after k p = balancing_puts l'.activity (gathering_goes z _ s choice l g l' x) p
owns_own z r r' s choice l a l' (marks_led count next d n) h i st after k p = absurd (counted_not IsPutting (λ x. x) (λ x. x) n p)
owns_own z r r' s choice l a l' (decides count m next e n) h i st after k p = absurd (counted_not IsPutting (λ x. x) (λ x. x) n p)
owns_own z r r' s choice l a l' _ h i st after k p = absurd p
