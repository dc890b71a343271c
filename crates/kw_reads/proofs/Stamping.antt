-- What an event does to the stamped puts: it stamps one attempt, whose entry was pending and whose
-- row is in the list, or none. All that was stamped stays as it was, and so do the cells of rows.
use Rattle.std.proofs.Common.{ℕ, ◌≡◌, ◌≢◌, ◌⊎◌, inl, inr, ◌<◌, ◌≤◌, true, false, Some, arith, refl, sym, ◌∙◌, ap, subst, length, length-append, set}
use Rattle.std.proofs.lemmas.Bool.{cases_eq, cases_lt}
use Rattle.std.proofs.lemmas.Option.{same_Some}
use Rattle.kw_words.specs.declared.layout.Name.TheVariants as name
use Rattle.kw_words.specs.declared.pend.Pend.TheVariants as pend
use Rattle.kw_words.specs.Pend.{pend_word}
use Rattle.kw_rows.specs.Ledger.{Ledger}
use Rattle.kw_world.specs.declared.activity.Activity.{Activity}
use Rattle.kw_world.specs.declared.activity.rebalance.Rebalance.TheVariants as Rebalance
use Rattle.kw_world.specs.declared.activity.rebalance.replace.Replace.TheVariants as Replace
use Rattle.kw_world.specs.declared.event.Choice.{Choice}
use Rattle.kw_world.specs.declared.local.Local.{Local}
use Rattle.kw_world.specs.Sane.{IsActivity}
use Rattle.kw_world.specs.Sizes.{Sizes}
use Rattle.kw_world.specs.Step.{word}
use Rattle.kw_core.specs.declared.history.Attempt.{Attempt}
use Rattle.kw_core.specs.declared.history.Change.{Change}
use Rattle.kw_core.specs.History.{History, LoadClock, attempt, Stands}
use Rattle.kw_core.specs.HistoryLaws.{IsPut}
use Rattle.kw_core.specs.Noted.{noted}
use Rattle.kw_core.specs.Run.{Origins, Run}
use Rattle.kw_core.specs.Stages.{IsHelp, IsPublished, IsPutting, IsStamp, HasSeenPending}
use Rattle.kw_core.proofs.Attempts.{in_range}
use Rattle.kw_core.proofs.Changes.{Makes, made, makes_nothing, makes_begin, makes_add, makes_announce, makes_stamp, makes_help, makes_lose, makes_end}
use Rattle.kw_core.proofs.Happens.{Happens, log_entry}
use Rattle.kw_core.proofs.NotedLaws.{attempt_push_new, attempt_push_old, attempt_same, attempt_set_other, attempt_set_same}
use Rattle.kw_puts.specs.Below.{Below}
use Rattle.kw_puts.specs.Here.{IsHere}
use Rattle.kw_puts.proofs.Owners.{entry_owner, pending_own, published_puts}
use Rattle.kw_puts.proofs.Rely.{GoesOn}
use Rattle.kw_reads.specs.Contents.{puts_of}

-- What was stamped.

-- a stamped put is what it was
pub put_stays : (h h' : History) (o o' : Origins) (g : Ledger) → GoesOn h h' o o' g → (p : ℕ) → IsPut h p → puts_of h' p ≡ puts_of h p
put_stays h h' o o' g e p x = let y = e.grows.old p (in_range h p x) in let s = y.stamped x in rw (y.key, s.1, y.add, s.3, y.value) refl

-- What is stamped now.

-- the attempt o is stamped now, and no other one: its entry was pending, and its version was loaded
-- after it was given its cell
pub record StampsNow (z : Sizes) (r r' : Run) (a : Activity) (o : ℕ) : Type 0 where
  pub within : o < length r.history.attempts
  -- its row was not used again
  pub here : IsHere r.ledger.rows r.history o
  pub stamps : IsPut r'.history o
  pub at : (attempt r'.history o).at ≡ length r.history.log
  pub load : ℕ
  pub after : (attempt r.history o).add < load
  pub loaded : Stands r.history load LoadClock (attempt r'.history o).version
  pub cell : ℕ
  pub entry : word z r.world (name.Pend (attempt r.history o).row (attempt r.history o).seat) ≡ pend_word (pend.Pending cell)
  pub was : (p : ℕ) → IsPut r'.history p → (p ≡ o) ⊎ IsPut r.history p
  pub other : a ≢ Activity.Rebalance (Rebalance.Replace Replace.Exchange)
  pub origin : (q c : ℕ) → r'.origin q c ≡ r.origin q c

-- one attempt is stamped, or none
pub data StampStep (z : Sizes) (r r' : Run) (a : Activity) : Type 0 where
  stamps_none : ((p : ℕ) → IsPut r'.history p → IsPut r.history p) → StampStep z r r' a
  stamps_one : (o : ℕ) → StampsNow z r r' a o → StampStep z r r' a

-- where the attempts are the same, none is stamped
same_stamped : (h h' : History) → h'.attempts ≡ h.attempts → (p : ℕ) → IsPut h' p → IsPut h p
same_stamped h h' e p x = sym (ap (λ (q : Attempt). q.is_stamped) (attempt_same h h' p e)) ∙ x

-- nor where one attempt is set that is stamped only if it was
set_stamped : (h h' : History) (p : ℕ) (a : Attempt) → h'.attempts ≡ set h.attempts p a → p < length h.attempts → a.is_stamped ≡ (attempt h p).is_stamped → (q : ℕ) → IsPut h' q → IsPut h q
set_stamped h h' p a e o k q x = which (cases_eq q p)
  where
    which : (q ≡ p) ⊎ (q ≡ p → ⊥) → IsPut h q
    which (inl y) = subst (IsPut h) (sym y) (sym k ∙ sym (ap (λ (b : Attempt). b.is_stamped) (attempt_set_same h h' p a e o)) ∙ subst (IsPut h') y x)
    which (inr d) = sym (ap (λ (b : Attempt). b.is_stamped) (attempt_set_other h h' p q a e d)) ∙ x

-- where one is set, each other one is stamped only if it was
other_stamped : (h h' : History) (p : ℕ) (a : Attempt) → h'.attempts ≡ set h.attempts p a → (q : ℕ) → IsPut h' q → (q ≡ p) ⊎ IsPut h q
other_stamped h h' p a e q x = which (cases_eq q p)
  where
    which : (q ≡ p) ⊎ (q ≡ p → ⊥) → (q ≡ p) ⊎ IsPut h q
    which (inl y) = inl y
    which (inr d) = inr (sym (ap (λ (b : Attempt). b.is_stamped) (attempt_set_other h h' p q a e d)) ∙ x)

-- the attempt for which the cell of a pending entry stands: that of the seat of the entry
record IsEntryOf (z : Sizes) (r : Run) (q t p : ℕ) : Type 0 where
  within : p < length r.history.attempts
  row : (attempt r.history p).row ≡ q
  seat : (attempt r.history p).seat ≡ t
  here : IsHere r.ledger.rows r.history p

module _ {z : Sizes} {r : Run} (i : Below z r) where
  -- an attempt was given its cell before it was announced
  add_before : (p n : ℕ) → p < length r.history.attempts → (attempt r.history p).is_announced ≡ true → (attempt r.history p).announced < n → (attempt r.history p).add < n
  add_before p n o x b = let y = (i.history.laws.attempted p o).announced x in omega (arith, y, b)

  -- it is the own attempt of that seat
  entry_of_seat : (q t c p : ℕ) → q < r.world.rows → t < z.seats → word z r.world (name.Pend q t) ≡ pend_word (pend.Pending c) → r.origin q c ≡ Some p → IsEntryOf z r q t p
  entry_of_seat q t c p o u e f =
      let w = entry_owner i.puts q t c o u e in
      let puts = published_puts w.local.activity w.published in
      let own = i.puts.owns t w.local w.knows puts in
      subst (IsEntryOf z r q t) (sym (pending_own i.puts q t c p o u e f)) (record { within = own.within; row = own.row ∙ w.row; seat = own.seat; here = i.puts.present t w.local w.knows puts })

module _ {z : Sizes} {r r' : Run} {s : ℕ} {choice : Choice} {l l' : Local} (i : Below z r) where
  -- by its change
  by_change : (a : Activity) (c : Change) → Makes z (word z r.world) s choice l (r.seats s) r.origin a c → Happens z r r' s choice l l' a → r'.history ≡ noted r.history (log_entry z r a s choice l) c → StampStep z r r' a
  by_change a c (makes_nothing b) h n = stamps_none (same_stamped r.history r'.history (ap (λ (x : History). x.attempts) n))
  by_change a c (makes_begin call e) h n = stamps_none (same_stamped r.history r'.history (ap (λ (x : History). x.attempts) n))
  by_change a c (makes_end answer) h n = stamps_none (same_stamped r.history r'.history (ap (λ (x : History). x.attempts) n))
  by_change a c (makes_add m) h n = stamps_none (λ p x. which p x (cases_lt p (length r.history.attempts)))
    where
      which : (p : ℕ) → IsPut r'.history p → (p < length r.history.attempts) ⊎ (length r.history.attempts ≤ p) → IsPut r.history p
      which p x (inl o) = sym (ap (λ (b : Attempt). b.is_stamped) (attempt_push_old r.history r'.history p _ (ap (λ (y : History). y.attempts) n) o)) ∙ x
      which p x (inr o) =
          let w = in_range r'.history p x in
          let e : p ≡ length r.history.attempts = omega (arith, o, w, ap (λ (y : History). length y.attempts) n, length-append {A = Attempt}) in
          let f : false ≡ true = sym (ap (λ (b : Attempt). b.is_stamped) (attempt_push_new r.history r'.history p _ (ap (λ (y : History). y.attempts) n) e)) ∙ x in
          absurd (cc)
  by_change a c (makes_announce e) h n =
      let own = i.puts.owns s l h.knows (subst IsPutting (sym h.activity) tt) in
      stamps_none (set_stamped r.history r'.history (r.seats s).own _ (ap (λ (x : History). x.attempts) n) own.within refl)
  by_change a c (makes_lose j cell p y m f) h n =
      let known = i.shape.sane.locals s l h.knows in
      stamps_none (set_stamped r.history r'.history p _ (ap (λ (x : History). x.attempts) n) (entry_of_seat i l.rebalance.hand j cell p known.below.rebalance.hand (subst (IsActivity z) h.activity known.ranges.activity) m f).within refl)
  by_change a c (makes_stamp e) h n =
      let own = i.puts.owns s l h.knows (subst IsPutting (sym h.activity) tt) in
      let set = ap (λ (x : History). x.attempts) n in
      let now = attempt_set_same r.history r'.history (r.seats s).own _ set own.within in
      stamps_one (r.seats s).own (record {
        within = own.within;
        here = i.puts.present s l h.knows (subst IsPutting (sym h.activity) tt);
        stamps = ap (λ (b : Attempt). b.is_stamped) now;
        at = ap (λ (b : Attempt). b.at) now;
        load = (r.seats s).loaded;
        after = add_before i (r.seats s).own (r.seats s).loaded own.within (own.announced (subst IsPublished (sym h.activity) tt)) (own.after (subst IsStamp (sym h.activity) tt));
        loaded = subst (Stands r.history (r.seats s).loaded LoadClock) (sym (ap (λ (b : Attempt). b.version) now)) (own.loaded (subst IsStamp (sym h.activity) tt));
        cell = l.cell;
        entry = rw (own.row, own.seat) e;
        was = other_stamped r.history r'.history (r.seats s).own _ set;
        other = λ x. cc;
        origin = λ q d. ap (λ (o : Origins). o q d) h.origin;
      })
  by_change a c (makes_help p e f) h n =
      let known = i.shape.sane.locals s l h.knows in
      let x = entry_of_seat i l.row l.looked l.saw p known.below.row known.ranges.looked e f in
      let helper = i.puts.helps s l h.knows (subst HasSeenPending (sym h.activity) tt) in
      let same : helper.put ≡ p = same_Some helper.put p (sym helper.origin ∙ f) in
      let set = ap (λ (y : History). y.attempts) n in
      let now = attempt_set_same r.history r'.history p _ set x.within in
      stamps_one p (record {
        within = x.within;
        here = x.here;
        stamps = ap (λ (b : Attempt). b.is_stamped) now;
        at = ap (λ (b : Attempt). b.at) now;
        load = (r.seats s).loaded;
        after = add_before i p (r.seats s).loaded x.within (subst (λ y. (attempt r.history y).is_announced ≡ true) same helper.announced) (subst (λ y. (attempt r.history y).announced < (r.seats s).loaded) same (helper.after (subst IsHelp (sym h.activity) tt)));
        loaded = subst (Stands r.history (r.seats s).loaded LoadClock) (sym (ap (λ (b : Attempt). b.version) now)) (helper.loaded (subst IsHelp (sym h.activity) tt));
        cell = l.saw;
        entry = rw (x.row, x.seat) e;
        was = other_stamped r.history r'.history p _ set;
        other = λ y. cc;
        origin = λ q d. ap (λ (o : Origins). o q d) h.origin;
      })

-- what an event stamps
pub stamp_step : {z : Sizes} {r r' : Run} {s : ℕ} {choice : Choice} {l l' : Local} (a : Activity) → Happens z r r' s choice l l' a → Below z r → StampStep z r r' a
stamp_step {z} {r} {r'} {s} {choice} {l} {l'} a h i = by_change i a _ (made z (word z r.world) s choice l (r.seats s) r.origin a) h h.history
