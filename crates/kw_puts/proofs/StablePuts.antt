-- What is known of a seat that puts or helps survives every event of another seat.
use Rattle.std.proofs.Common.{ℕ, ◌≡◌, ◌<◌, true, false, Option, arith, refl, sym, ◌∙◌, ap, subst, length}
use Rattle.kw_world.specs.declared.activity.Activity.{Activity}
use Rattle.kw_world.specs.declared.activity.put.Put.TheVariants as Put
use Rattle.kw_world.specs.declared.local.Local.{Local}
use Rattle.kw_world.specs.Sizes.{Sizes}
use Rattle.kw_world.specs.Step.{word}
use Rattle.kw_core.specs.History.{attempt}
use Rattle.kw_core.specs.Run.{Run}
use Rattle.kw_words.specs.declared.layout.Name.TheVariants as name
use Rattle.kw_words.specs.declared.pend.Pend.TheVariants as pend
use Rattle.kw_words.specs.Pend.{pend_word}
use Rattle.kw_words.specs.Plain.{key_of_word, value_of_word}
use Rattle.kw_core.specs.History.{LoadClock}
use Rattle.kw_core.specs.Stages.{IsPutting, IsFresh, IsPublished, IsUnstamped, IsStamped, IsStored}
use Rattle.kw_core.proofs.Steps.{announced_within}
use Rattle.kw_rows.specs.Rows.{WasLinked}
use Rattle.kw_puts.specs.Puts.{OwnsAttempt, Helps, key_in, value_in, entry_of}
use Rattle.kw_puts.proofs.Owners.{pending_kept}
use Rattle.kw_puts.proofs.OwnAttempts.{entry_lost, entry_stamped}
use Rattle.kw_puts.proofs.Rely.{SameAttempt, RelyEntry, as_it_was, is_helped, is_frozen, before_announced, while_pending, Rely}

-- a seat that is not stamped has announced its cell, and does not store its version yet
not_fresh : (a : Activity) → IsUnstamped a → IsFresh a → ⊥
not_fresh (Activity.Put Put.Clock) u f = f
not_fresh (Activity.Put Put.Stamp) u f = f
not_fresh _ u f = u

unstamped_published : (a : Activity) → IsUnstamped a → IsPublished a
unstamped_published (Activity.Put Put.Clock) u = tt
unstamped_published (Activity.Put Put.Stamp) u = tt
unstamped_published _ u = absurd u

fresh_unpublished : (a : Activity) → IsFresh a → IsPublished a → ⊥
fresh_unpublished (Activity.Put Put.Key) u p = p
fresh_unpublished (Activity.Put Put.Value) u p = p
fresh_unpublished (Activity.Put Put.Announce) u p = p
fresh_unpublished _ u p = u

not_stamped : (a : Activity) → IsUnstamped a → IsStamped a → ⊥
not_stamped (Activity.Put Put.Clock) u f = f
not_stamped (Activity.Put Put.Stamp) u f = f
not_stamped _ u f = u

stored_stamped : (a : Activity) → IsStored a → IsStamped a
stored_stamped (Activity.Insert _) u = tt
stored_stamped (Activity.Put Put.Clear) u = tt
stored_stamped _ u = absurd u

-- a seat's own attempt
pub owns_stable : (z : Sizes) (r r' : Run) (t : ℕ) (k : Local) → Rely z r r' t k → IsPutting k.activity → OwnsAttempt (word z r.world) r.history t k.activity k (r.seats t) → OwnsAttempt (word z r'.world) r'.history t k.activity k (r'.seats t)
owns_stable z r r' t k y p o = subst (λ g. OwnsAttempt (word z r'.world) r'.history t k.activity k g) (sym y.log) (which y.entry)
  where
    same : SameAttempt r.history r'.history (r.seats t).own
    same = y.goes_on.attempts (r.seats t).own o.within

    within : (r.seats t).own < length r'.history.attempts
    within = omega (arith, o.within, y.goes_on.more_attempts)

    has_key : (q : ℕ) → q ≡ (attempt r.history (r.seats t).own).key → key_in (word z r.world) k.row k.cell ≡ (attempt r.history (r.seats t).own).key → key_in (word z r'.world) k.row k.cell ≡ q
    has_key q e f = ap key_of_word (y.cells.own_key p) ∙ f ∙ sym e

    has_value : (q : Option ℕ) → q ≡ (attempt r.history (r.seats t).own).value → value_in (word z r.world) k.row k.cell ≡ (attempt r.history (r.seats t).own).value → value_in (word z r'.world) k.row k.cell ≡ q
    has_value q e f = ap value_of_word (y.cells.own_value p) ∙ f ∙ sym e

    -- an attempt whose entry is pending is not lost
    kept_before : IsUnstamped k.activity → word z r.world (name.Pend k.row t) ≡ pend_word (pend.Pending k.cell) → (attempt r.history (r.seats t).own).is_lost ≡ false
    kept_before u before = pending_kept (attempt r.history (r.seats t).own) k.cell (sym (o.entry (unstamped_published k.activity u)) ∙ before)

    which : RelyEntry (word z r.world) (word z r'.world) r.history r'.history t k.activity k (r.seats t) → OwnsAttempt (word z r'.world) r'.history t k.activity k (r.seats t)
    which (as_it_was e f u) =
        let same_own = f p in
        record {
          within = within;
          seat = rw same_own o.seat;
          call = rw same_own o.call;
          row = rw same_own o.row;
          cell = rw same_own o.cell;
          key = rw same_own o.key;
          value = rw same_own o.value;
          kept_fresh = λ a. rw same_own (o.kept_fresh a);
          kept = λ a. rw same_own (o.kept a);
          unannounced = λ a. rw same_own (o.unannounced a);
          unstamped = λ a. rw same_own (o.unstamped a);
          has_key = λ a. has_key _ same.key (o.has_key a);
          has_value = λ a. has_value _ same.value (o.has_value a);
          announced = λ a. rw same_own (o.announced a);
          entry = λ a. e p ∙ o.entry a ∙ ap entry_of (sym same_own);
          after = λ a. rw same_own (o.after a);
          loaded = λ a. y.goes_on.stands _ LoadClock _ (o.loaded a);
          stamped = λ a. rw same_own (o.stamped a);
          version = λ a. rw same_own (o.version a);
          stored = λ a. y.cells.own_version p ∙ rw same_own (o.stored a);
        }
    which (is_helped version load u before after n f e put) = record {
      within = within;
      seat = rw f o.seat;
      call = rw f o.call;
      row = rw f o.row;
      cell = rw f o.cell;
      key = rw f o.key;
      value = rw f o.value;
      kept_fresh = λ a. absurd (not_fresh k.activity u a);
      kept = λ a. absurd (not_stamped k.activity u a);
      unannounced = λ a. rw f (o.unannounced a);
      unstamped = λ a. absurd (not_fresh k.activity u a);
      has_key = λ a. has_key _ same.key (o.has_key a);
      has_value = λ a. has_value _ same.value (o.has_value a);
      announced = λ a. rw f (o.announced a);
      entry = λ a. after ∙ ap (λ c. pend_word (pend.Stamped c version)) (sym o.cell) ∙ sym (entry_stamped (record (attempt r.history (r.seats t).own) { is_stamped = true; version = version; load = load; at = length r.history.log }) (kept_before u before) refl) ∙ ap entry_of (sym f);
      after = λ a. rw f (o.after a);
      loaded = λ a. y.goes_on.stands _ LoadClock _ (o.loaded a);
      stamped = λ a. rw f refl;
      version = λ a. absurd (not_stamped k.activity u a);
      stored = λ a. absurd (not_stamped k.activity u (stored_stamped k.activity a));
    }
    which (is_frozen e (before_announced u f) put) = record {
      within = within;
      seat = rw f o.seat;
      call = rw f o.call;
      row = rw f o.row;
      cell = rw f o.cell;
      key = rw f o.key;
      value = rw f o.value;
      kept_fresh = λ a. rw f (o.kept_fresh a);
      kept = λ a. rw f (o.kept a);
      unannounced = λ a. rw f (o.unannounced a);
      unstamped = λ a. rw f (o.unstamped a);
      has_key = λ a. has_key _ same.key (o.has_key a);
      has_value = λ a. has_value _ same.value (o.has_value a);
      announced = λ a. rw f (o.announced a);
      entry = λ a. absurd (fresh_unpublished k.activity u a);
      after = λ a. rw f (o.after a);
      loaded = λ a. y.goes_on.stands _ LoadClock _ (o.loaded a);
      stamped = λ a. rw f (o.stamped a);
      version = λ a. rw f (o.version a);
      stored = λ a. y.cells.own_version p ∙ rw f (o.stored a);
    }
    which (is_frozen e (while_pending u before n f) put) = record {
      within = within;
      seat = rw f o.seat;
      call = rw f o.call;
      row = rw f o.row;
      cell = rw f o.cell;
      key = rw f o.key;
      value = rw f o.value;
      kept_fresh = λ a. absurd (not_fresh k.activity u a);
      kept = λ a. absurd (not_stamped k.activity u a);
      unannounced = λ a. rw f (o.unannounced a);
      unstamped = λ a. absurd (not_fresh k.activity u a);
      has_key = λ a. has_key _ same.key (o.has_key a);
      has_value = λ a. has_value _ same.value (o.has_value a);
      announced = λ a. rw f (o.announced a);
      entry = λ a. e ∙ sym (entry_lost (record (attempt r.history (r.seats t).own) { is_lost = true }) refl) ∙ ap entry_of (sym f);
      after = λ a. rw f (o.after a);
      loaded = λ a. y.goes_on.stands _ LoadClock _ (o.loaded a);
      stamped = λ a. absurd (not_stamped k.activity u a);
      version = λ a. absurd (not_stamped k.activity u a);
      stored = λ a. absurd (not_stamped k.activity u (stored_stamped k.activity a));
    }

-- the attempt that a reader helps
pub helps_stable : (z : Sizes) (r r' : Run) (t : ℕ) (k : Local) → Rely z r r' t k → WasLinked r.ledger.rows k.row → Helps r.history r.origin k.activity k (r.seats t) → Helps r'.history r'.origin k.activity k (r'.seats t)
helps_stable z r r' t k y w o = subst (λ g. Helps r'.history r'.origin k.activity k g) (sym y.log)
    (let same = y.goes_on.attempts o.put (announced_within r.history o.put o.announced) in
    let grows = (y.goes_on.grows.old o.put (announced_within r.history o.put o.announced)).announced o.announced in
    record {
      put = o.put;
      origin = y.goes_on.origin k.row k.saw o.put w o.origin;
      seat = same.seat ∙ o.seat;
      announced = grows.0;
      key = λ a. rw same.key (o.key a);
      after = λ a. rw grows.1 (o.after a);
      loaded = λ a. y.goes_on.stands _ LoadClock _ (o.loaded a);
    })
