-- What a seat knows of its infants after each event of its own that takes, writes, links or gives
-- back rows.
--
-- Of the structure of the rows no more is asked than that a state goes with what has become of its
-- row (`States`); of the world, that the taken rows are rows of the table.
use Rattle.std.proofs.Common.{ℕ, ◌≡◌, ◌≢◌, ◌⊎◌, inl, inr, ◌+◌, ◌<◌, Bool, false, true, [], ◌∷◌, Option, Some, None, arith, refl, sym, ◌∙◌, ap, subst, length, length-append, slice_get}
use Rattle.std.proofs.lemmas.Bool.{cases_eq}
use Rattle.kw_words.specs.declared.layout.Name.{Name}
use Rattle.kw_words.specs.declared.layout.Name.TheVariants as name
use Rattle.kw_words.specs.declared.state.State.TheVariants as state
use Rattle.kw_words.specs.declared.link.Link.{Link}
use Rattle.kw_words.specs.Link.{IsLink, link_of, link_word}
use Rattle.kw_words.specs.State.{IsState, state_of, state_word}
use Rattle.kw_words.proofs.LinkWords.{link_of-link_word}
use Rattle.kw_words.proofs.StateWords.{state_of-state_word}
use Rattle.kw_rows.specs.Ledger.{Fate, Ledger}
use Rattle.kw_rows.specs.RowState as row
use Rattle.kw_rows.specs.States.{HasState, States}
use Rattle.kw_world.specs.declared.activity.Activity.{Activity}
use Rattle.kw_world.specs.declared.activity.rebalance.Rebalance.TheVariants as Rebalance
use Rattle.kw_world.specs.declared.activity.rebalance.replace.Replace.TheVariants as Replace
use Rattle.kw_world.specs.declared.activity.rebalance.seek.Seek.TheVariants as Seek
use Rattle.kw_world.specs.declared.activity.rebalance.write.Write.TheVariants as Write
use Rattle.kw_world.specs.declared.event.Choice.{Choice}
use Rattle.kw_world.specs.declared.event.Choice.TheVariants.{Begin, Go, Guess, Stop}
use Rattle.kw_world.specs.declared.local.Local.{Local}
use Rattle.kw_world.specs.ReplaceTransitions.{before_transition}
use Rattle.kw_world.specs.SeekTransitions.{at_infant, infant, seek_first_transition, with_row}
use Rattle.kw_world.specs.Sizes.{Sizes}
use Rattle.kw_world.specs.Step.{word}
use Rattle.kw_world.specs.Transition.{row_linked}
use Rattle.kw_world.specs.WriteTransitions.{unmarked_link}
use Rattle.kw_core.specs.Ledger as ledger
use Rattle.kw_core.specs.Run.{Run}
use Rattle.kw_core.specs.Words.{Words}
use Rattle.kw_core.proofs.Building.{Building, first_is_free, first_is_retired, first_is_taken, sought_is_free, sought_is_retired, sought_is_taken, pass_is_old, pass_is_young, frees_row, takes_row, loses_row, gives_one_back, gives_last_back, writes_link, begins_before, guesses_before, guess_before_fails, before_serves, before_is_above, takes_head_before, leads_to_full, leads_on_marked, leads_to_other, leads_nowhere, walks_before, walks_past, replaces_row, is_marked_before, is_replaced, makes_normal, makes_last_normal, draws_number, retires_ahead, retires_row, marked_link, retires_and_leaves}
use Rattle.kw_core.proofs.Building as built
use Rattle.kw_core.proofs.Fates.{ChangesFate, fate_of_taken, fate_stays, none_freed, none_replaced, none_taken}
use Rattle.kw_core.proofs.Happens.{Happens}
use Rattle.kw_core.proofs.InfantFrames.{IsTarget, target_of, row_stays}
use Rattle.kw_core.proofs.NextBuilt.{NextBefore, is_behind, is_first}
use Rattle.kw_shape.proofs.InfantsKeep.{Own, Wrote, at_writing, back_on, cell_on, entry_on, given_on, got_more, linking, nowhere, pass_on, seek_on, seeking, taken_on}
use Rattle.kw_shape.proofs.InfantsStay.{infant_at, infant_stays, infants_stable, written_stays}
use Rattle.kw_shape.proofs.InfantsWritten.{place_end, writes_after, writes_count, writes_entry, writes_first, writes_key, writes_least, writes_next, writes_value, writes_version, written_like}
use Rattle.kw_shape.specs.Infants.{Writes, Links, HasAll, HasAtHand, Infants, IsInfantOf, IsNursed, IsWhole, IsWriting, Written, nursing_of}
use Rattle.kw_shape.specs.RowsIn.{rows_in, state_seen}

-- the state of an infant names its seat
infant_state : (v : Words) (g : Ledger) (t q : ℕ) → States (rows_in v) g → IsInfantOf g t q → (rows_in v).state q ≡ row.Infant t
infant_state v g t q states x = let e : (rows_in v).state q ≡ row.Infant (g.fates q).owner = subst (HasState (rows_in v) g q) x.status (states q) in e ∙ ap row.Infant x.owner

-- so its word is not that of a free row
pub infant_not_free : {A : Type 0} (v : Words) (g : Ledger) (t q : ℕ) → States (rows_in v) g → IsInfantOf g t q → v (name.State q) ≡ state_word state.Free → A
infant_not_free v g t q states x e =
    let free : (rows_in v).state q ≡ row.Free = ap (λ w. state_seen (state_of w)) e ∙ ap state_seen (state_of-state_word state.Free tt) in
    let c : row.Infant t ≡ row.Free = sym (infant_state v g t q states x) ∙ free in
    absurd (cc)

-- nor that of a retired one
pub infant_not_retired : {A : Type 0} (v : Words) (g : Ledger) (t q m : ℕ) → States (rows_in v) g → IsState (state.Retired m) → IsInfantOf g t q → v (name.State q) ≡ state_word (state.Retired m) → A
infant_not_retired v g t q m states small x e =
    let retired : (rows_in v).state q ≡ row.Retired m = ap (λ w. state_seen (state_of w)) e ∙ ap state_seen (state_of-state_word (state.Retired m) small) in
    let c : row.Infant t ≡ row.Retired m = sym (infant_state v g t q states x) ∙ retired in
    absurd (cc)

-- whether a link is marked
abbrev is_marked : Option Link → Bool
is_marked (Some link) = link.marked
is_marked None = false

-- a marked link, and one to another row, is not the word of the unmarked link to the row
not_open : (w r : ℕ) → IsLink (unmarked_link (Some r)) → link_of w ≢ Some (unmarked_link (Some r)) → w ≢ link_word (unmarked_link (Some r))
not_open w r i d e = d (ap link_of e ∙ link_of-link_word (unmarked_link (Some r)) i)

marked_other : {w : ℕ} (r : ℕ) → IsLink (unmarked_link (Some r)) → link_of w ≡ Some (marked_link (Some r)) → w ≢ link_word (unmarked_link (Some r))
marked_other {w} r i e = not_open w r i (λ q. let y : Some (marked_link (Some r)) ≡ Some (unmarked_link (Some r)) = sym e ∙ q in let b : true ≡ false = ap is_marked y in cc)

-- the rows of a seat that seeks, writes or links them
own_of : (z : Sizes) (v : Words) (g : Ledger) (t : ℕ) (a : Activity) (l : Local) → ((i : ℕ) → IsNursed (nursing_of a) l i) → Infants z v g t a l → Own g t l.rebalance.taken
own_of z v g t a l n x = record { owned = λ i q f. x.owned i q (n i) f; apart = λ i j q f e. x.apart i j q (n i) (n j) f e }

-- what it has written
wrote_of : (z : Sizes) (v : Words) (g : Ledger) (t : ℕ) (a : Activity) (l : Local) → nursing_of a ≡ Writes → Infants z v g t a l → Wrote z v g t l a
wrote_of z v g t a l e x = record {
  own = own_of z v g t a l (λ i. subst (λ n. IsNursed n l i) (sym e) tt) x;
  hand = x.hand (subst HasAtHand (sym e) tt);
  enough = (x.enough (subst HasAll (sym e) tt)).1;
  whole = λ i q o f. x.whole i q (subst (λ n. IsWhole n l i) (sym e) o) f;
  words = x.words (subst IsWriting (sym e) tt);
}

module _ {z : Sizes} {r r' : Run} {s : ℕ} {choice : Choice} {l k : Local} where
  -- What an event leaves of the rows that the seat took.

  -- where no fate changes they are its infants still
  own_stays : (a : Activity) → Happens z r r' s choice l k a → ((q : ℕ) → IsInfantOf r.ledger.rows s q → ChangesFate a l q → ⊥) → Own r.ledger.rows s l.rebalance.taken → Own r'.ledger.rows s l.rebalance.taken
  own_stays a h n o = record { owned = λ i q f. let x = o.owned i q f in infant_stays r.ledger.rows r'.ledger.rows s q (fate_stays a h q (n q x)) x; apart = o.apart }

  -- an event that loads leaves what was written of a row
  load_stays : (a : Activity) → Happens z r r' s choice l k a → ((n : Name) → word z r'.world n ≡ word z r.world n) → (b : Activity) (m : Local) (q : ℕ) → q < r.world.rows → Written z (word z r.world) b m q → Written z (word z r'.world) b m q
  load_stays a h same b m q o w = written_stays z r.world.rows (word z r.world) (word z r'.world) b m q o (λ n e f i. same n) w

  -- an event that writes a word of the row at hand leaves the rows before it
  rest_stays : (a : Activity) → Happens z r r' s choice l k a → ((q : ℕ) → (q ≡ infant l → ⊥) → IsTarget (target_of a) l q → ⊥) → ((i q : ℕ) → slice_get l.rebalance.taken i ≡ Some q → q < r.world.rows) → Own r.ledger.rows s l.rebalance.taken → l.rebalance.at < length l.rebalance.taken →
      ((i q : ℕ) → i < l.rebalance.at → slice_get l.rebalance.taken i ≡ Some q → Written z (word z r.world) (Activity.Rebalance (Rebalance.Replace Replace.Start)) (at_infant i l) q) →
      (i q : ℕ) → i < l.rebalance.at → slice_get l.rebalance.taken i ≡ Some q → Written z (word z r'.world) (Activity.Rebalance (Rebalance.Replace Replace.Start)) (at_infant i l) q
  rest_stays a h target inside own hand whole i q o f =
      let apart : q ≡ infant l → ⊥ = λ e. let c : i ≡ l.rebalance.at = own.apart i l.rebalance.at q f (infant_at l hand ∙ ap Some (sym e)) in absurd (omega (arith, o, c)) in
      written_stays z r.world.rows (word z r.world) (word z r'.world) (Activity.Rebalance (Rebalance.Replace Replace.Start)) (at_infant i l) q (inside i q f) (λ n e b w. row_stays a h n q e w (target q apart)) (whole i q o f)

  -- it goes on with what it has written
  wrote_on : (a b : Activity) → Happens z r r' s choice l k a → ((q : ℕ) → (q ≡ infant l → ⊥) → IsTarget (target_of a) l q → ⊥) → ((q : ℕ) → ChangesFate a l q → ⊥) → ((i q : ℕ) → slice_get l.rebalance.taken i ≡ Some q → q < r.world.rows) →
      (infant l < r.world.rows → Written z (word z r.world) a l (infant l) → Written z (word z r'.world) b l (infant l)) → Wrote z (word z r.world) r.ledger.rows s l a → Wrote z (word z r'.world) r'.ledger.rows s l b
  wrote_on a b h target fates inside f w = record {
    own = own_stays a h (λ q x. fates q) w.own;
    hand = w.hand;
    enough = w.enough;
    whole = rest_stays a h target inside w.own w.hand w.whole;
    words = f (inside l.rebalance.at (infant l) (infant_at l w.hand)) w.words;
  }

  -- A row that was free is taken.

  -- all taken rows are infants then, that one too
  own_more : Happens z r r' s choice l k (Activity.Rebalance (Rebalance.Seek Seek.Take)) → States (rows_in (word z r.world)) r.ledger.rows → word z r.world (name.State l.rebalance.sought) ≡ state_word state.Free → Own r.ledger.rows s l.rebalance.taken → Own r'.ledger.rows s (with_row l).rebalance.taken
  own_more h states free o = record { owned = λ i q f. owned i q (got_more l.rebalance.taken l.rebalance.sought i q f); apart = λ i j q f e. apart i j q (got_more l.rebalance.taken l.rebalance.sought i q f) (got_more l.rebalance.taken l.rebalance.sought j q e) }
    where
      -- the row that was free was none of them
      fresh : {A : Type 0} (i q : ℕ) → slice_get l.rebalance.taken i ≡ Some q → q ≡ l.rebalance.sought → A
      fresh i q f e = infant_not_free (word z r.world) r.ledger.rows s q states (o.owned i q f) (ap (λ x. word z r.world (name.State x)) e ∙ free)

      owned : (i q : ℕ) → (slice_get l.rebalance.taken i ≡ Some q) ⊎ (i ≡ length l.rebalance.taken) × (q ≡ l.rebalance.sought) → IsInfantOf r'.ledger.rows s q
      owned i q (inl f) = infant_stays r.ledger.rows r'.ledger.rows s q (fate_stays (Activity.Rebalance (Rebalance.Seek Seek.Take)) h q (fresh i q f)) (o.owned i q f)
      owned i q (inr f) =
          let e = fate_of_taken h free in
          subst (IsInfantOf r'.ledger.rows s) (sym f.1) (record { status = ap (λ (x : Fate). x.status) e; owner = ap (λ (x : Fate). x.owner) e })

      apart : (i j q : ℕ) → (slice_get l.rebalance.taken i ≡ Some q) ⊎ (i ≡ length l.rebalance.taken) × (q ≡ l.rebalance.sought) → (slice_get l.rebalance.taken j ≡ Some q) ⊎ (j ≡ length l.rebalance.taken) × (q ≡ l.rebalance.sought) → i ≡ j
      apart i j q (inl f) (inl e) = o.apart i j q f e
      apart i j q (inl f) (inr e) = fresh i q f e.1
      apart i j q (inr f) (inl e) = fresh j q e f.1
      apart i j q (inr f) (inr e) = f.0 ∙ sym e.0

  -- A retired row is freed.

  -- the taken rows are infants still, since that one was dead
  own_freed : Happens z r r' s choice l k (Activity.Rebalance (Rebalance.Seek Seek.Reclaim)) → States (rows_in (word z r.world)) r.ledger.rows → IsState (state.Retired l.rebalance.number) → Own r.ledger.rows s l.rebalance.taken → Own r'.ledger.rows s l.rebalance.taken
  own_freed h states small o = which (cases_eq (word z r.world (name.State l.rebalance.sought)) (state_word (state.Retired l.rebalance.number)))
    where
      which : (word z r.world (name.State l.rebalance.sought) ≡ state_word (state.Retired l.rebalance.number)) ⊎ (word z r.world (name.State l.rebalance.sought) ≡ state_word (state.Retired l.rebalance.number) → ⊥) → Own r'.ledger.rows s l.rebalance.taken
      which (inl e) = own_stays (Activity.Rebalance (Rebalance.Seek Seek.Reclaim)) h (λ q x c. infant_not_retired (word z r.world) r.ledger.rows s q l.rebalance.number states small x (ap (λ y. word z r.world (name.State y)) c ∙ e)) o
      which (inr d) = subst (λ g. Own g s l.rebalance.taken) (sym (ap (λ (g : ledger.Ledger). g.rows) (none_freed h d))) o

  -- Each event.

  -- an event that loads
  loaded : (a : Activity) → Happens z r r' s choice l k a → ((n : Name) → word z r'.world n ≡ word z r.world n) → ((q : ℕ) → ChangesFate a l q → ⊥) → ((i q : ℕ) → slice_get l.rebalance.taken i ≡ Some q → q < r.world.rows) → Infants z (word z r.world) r.ledger.rows s a l → Infants z (word z r'.world) r'.ledger.rows s a l
  loaded a h same n inside x = infants_stable z r.world.rows (word z r.world) (word z r'.world) r.ledger.rows r'.ledger.rows s a l (record { fates = λ q i. fate_stays a h q (n q); words = λ q i o m e f w. same m }) inside x

  -- after an event of a seat that has written all, and loads
  linked : (a b : Activity) (m : Local) → Happens z r r' s choice l k a → Infants z (word z r'.world) r'.ledger.rows s a l → nursing_of a ≡ Links → nursing_of b ≡ Links → m.rebalance.taken ≡ l.rebalance.taken → m.rebalance.starts ≡ l.rebalance.starts →
      ((i q : ℕ) → Written z (word z r'.world) (Activity.Rebalance (Rebalance.Replace Replace.Start)) (at_infant i l) q → Written z (word z r'.world) (Activity.Rebalance (Rebalance.Replace Replace.Start)) (at_infant i m) q) → Infants z (word z r'.world) r'.ledger.rows s b m
  linked a b m h x e f t c like =
      let o = own_of z (word z r'.world) r'.ledger.rows s a l (λ i. subst (λ n. IsNursed n l i) (sym e) tt) x in
      let y = x.enough (subst HasAll (sym e) tt) in
      linking z (word z r'.world) r'.ledger.rows s b m f (omega (arith, y.0, ap length t), omega (arith, y.1, ap length t, ap length c)) (subst (Own r'.ledger.rows s) (sym t) o)
      (λ i q g. like i q (x.whole i q (subst (λ n. IsWhole n l i) (sym e) tt) (subst (λ ys. slice_get ys i ≡ Some q) t g)))

  -- the search along the rows begins, or the full row is the first
  first_on : (a : Activity) → Happens z r r' s choice l k a → Infants z (word z r'.world) r'.ledger.rows s a l → nursing_of a ≡ Links → {q : ℕ} (next : Local) → NextBefore q l next → Infants z (word z r'.world) r'.ledger.rows s next.activity next
  first_on a h x e next (is_first o) = linked a (Activity.Rebalance (Rebalance.Replace Replace.Exchange)) _ h x e refl refl refl (λ i q w. written_like z (word z r'.world) (Activity.Rebalance (Rebalance.Replace Replace.Start)) (at_infant i l) _ q refl refl refl w)
  first_on a h x e next (is_behind o) = linked a (Activity.Rebalance (Rebalance.Replace Replace.Next)) _ h x e refl refl refl (λ i q w. written_like z (word z r'.world) (Activity.Rebalance (Rebalance.Replace Replace.Start)) (at_infant i l) _ q refl refl refl w)

  -- whatever the seat chooses there, it loads
  before_loaded : (c : Choice) → choice ≡ c → Happens z r r' s choice l k (Activity.Rebalance (Rebalance.Replace Replace.Start)) → (n : Name) → word z r'.world n ≡ word z r.world n
  before_loaded (Begin call) e h n = h.changed.loaded (ap (λ (d : Choice). (before_transition d l).operation.action) e) n
  before_loaded Go e h n = h.changed.loaded (ap (λ (d : Choice). (before_transition d l).operation.action) e) n
  before_loaded (Guess q) e h n = h.changed.loaded (ap (λ (d : Choice). (before_transition d l).operation.action) e) n
  before_loaded Stop e h n = h.changed.loaded (ap (λ (d : Choice). (before_transition d l).operation.action) e) n

  -- the same of a search for rows
  seek_loaded : (c : Choice) → choice ≡ c → Happens z r r' s choice l k (Activity.Rebalance (Rebalance.Seek Seek.First)) → (n : Name) → word z r'.world n ≡ word z r.world n
  seek_loaded (Begin call) e h n = h.changed.loaded (ap (λ (d : Choice). (seek_first_transition d l).operation.action) e) n
  seek_loaded Go e h n = h.changed.loaded (ap (λ (d : Choice). (seek_first_transition d l).operation.action) e) n
  seek_loaded (Guess q) e h n = h.changed.loaded (ap (λ (d : Choice). (seek_first_transition d l).operation.action) e) n
  seek_loaded Stop e h n = h.changed.loaded (ap (λ (d : Choice). (seek_first_transition d l).operation.action) e) n

  -- one row is given back, and the next one is at hand
  one_back : Happens z r r' s choice l k (Activity.Rebalance (Rebalance.Seek Seek.GiveBack)) → l.rebalance.at + 1 < length l.rebalance.taken → Infants z (word z r.world) r.ledger.rows s (Activity.Rebalance (Rebalance.Seek Seek.GiveBack)) l → Infants z (word z r'.world) r'.ledger.rows s (Activity.Rebalance (Rebalance.Seek Seek.GiveBack)) (record (at_infant (l.rebalance.at + 1) l) { activity = Activity.Rebalance (Rebalance.Seek Seek.GiveBack) })
  one_back h o x = record {
    owned = λ i q n f.
        let apart : q ≡ infant l → ⊥ = λ e. let c : i ≡ l.rebalance.at = x.apart i l.rebalance.at q (omega (arith, n)) (omega arith) f (infant_at l (x.hand tt) ∙ ap Some (sym e)) in absurd (omega (arith, n, c)) in
        infant_stays r.ledger.rows r'.ledger.rows s q (fate_stays (Activity.Rebalance (Rebalance.Seek Seek.GiveBack)) h q apart) (x.owned i q (omega (arith, n)) f);
    apart = λ i j q n m f e. x.apart i j q (omega (arith, n)) (omega (arith, m)) f e;
    hand = λ n. o;
    enough = λ n. absurd n;
    whole = λ i q n f. absurd n;
    words = λ n. absurd n;
  }

module _ {z : Sizes} {r r' : Run} {s : ℕ} {choice : Choice} {l : Local} where
  -- each event of the seat
  pub infants_own : (a : Activity) (k : Local) → Building z (word z r.world) choice l a k → Happens z r r' s choice l k a → States (rows_in (word z r.world)) r.ledger.rows → IsLink (unmarked_link (Some l.row)) × IsState (state.Retired l.rebalance.number) →
      ((i q : ℕ) → slice_get l.rebalance.taken i ≡ Some q → q < r.world.rows) → Infants z (word z r.world) r.ledger.rows s a l → Infants z (word z r'.world) r'.ledger.rows s k.activity k
  infants_own a k (first_is_free q c e) h states small inside x = seeking z (word z r'.world) r'.ledger.rows s (Activity.Rebalance (Rebalance.Seek Seek.Take)) _ refl (own_of z (word z r'.world) r'.ledger.rows s (Activity.Rebalance (Rebalance.Seek Seek.First)) l (λ i. tt) (loaded (Activity.Rebalance (Rebalance.Seek Seek.First)) h (seek_loaded choice refl h) (λ q c. c) inside x))
  infants_own a k (first_is_taken q rows next c n y) h states small inside x = seek_on z (word z r'.world) r'.ledger.rows s rows _ next y (own_of z (word z r'.world) r'.ledger.rows s (Activity.Rebalance (Rebalance.Seek Seek.First)) l (λ i. tt) (loaded (Activity.Rebalance (Rebalance.Seek Seek.First)) h (seek_loaded choice refl h) (λ q c. c) inside x))
  infants_own a k (sought_is_free e) h states small inside x = seeking z (word z r'.world) r'.ledger.rows s (Activity.Rebalance (Rebalance.Seek Seek.Take)) _ refl (own_of z (word z r'.world) r'.ledger.rows s (Activity.Rebalance (Rebalance.Seek Seek.Next)) l (λ i. tt) (loaded (Activity.Rebalance (Rebalance.Seek Seek.Next)) h (h.changed.loaded refl) (λ q c. c) inside x))
  infants_own a k (sought_is_taken rows next n y) h states small inside x = seek_on z (word z r'.world) r'.ledger.rows s rows _ next y (own_of z (word z r'.world) r'.ledger.rows s (Activity.Rebalance (Rebalance.Seek Seek.Next)) l (λ i. tt) (loaded (Activity.Rebalance (Rebalance.Seek Seek.Next)) h (h.changed.loaded refl) (λ q c. c) inside x))
  infants_own a k (first_is_retired q m c e) h states small inside x = seeking z (word z r'.world) r'.ledger.rows s (Activity.Rebalance (Rebalance.Seek (Seek.Pass 0))) _ refl (own_of z (word z r'.world) r'.ledger.rows s (Activity.Rebalance (Rebalance.Seek Seek.First)) l (λ i. tt) (loaded (Activity.Rebalance (Rebalance.Seek Seek.First)) h (seek_loaded choice refl h) (λ q c. c) inside x))
  infants_own a k (sought_is_retired m e) h states small inside x = seeking z (word z r'.world) r'.ledger.rows s (Activity.Rebalance (Rebalance.Seek (Seek.Pass 0))) _ refl (own_of z (word z r'.world) r'.ledger.rows s (Activity.Rebalance (Rebalance.Seek Seek.Next)) l (λ i. tt) (loaded (Activity.Rebalance (Rebalance.Seek Seek.Next)) h (h.changed.loaded refl) (λ q c. c) inside x))
  infants_own a k (pass_is_old i epoch rows next e o y) h states small inside x = seek_on z (word z r'.world) r'.ledger.rows s rows _ next y (own_of z (word z r'.world) r'.ledger.rows s (Activity.Rebalance (Rebalance.Seek (Seek.Pass i))) l (λ i. tt) (loaded (Activity.Rebalance (Rebalance.Seek (Seek.Pass i))) h (h.changed.loaded refl) (λ q c. c) inside x))
  infants_own a k (pass_is_young i next o y) h states small inside x = pass_on z (word z r'.world) r'.ledger.rows s _ l next y (own_of z (word z r'.world) r'.ledger.rows s (Activity.Rebalance (Rebalance.Seek (Seek.Pass i))) l (λ i. tt) (loaded (Activity.Rebalance (Rebalance.Seek (Seek.Pass i))) h (h.changed.loaded refl) (λ q c. c) inside x))
  infants_own a k frees_row h states small inside x = seeking z (word z r'.world) r'.ledger.rows s (Activity.Rebalance (Rebalance.Seek Seek.Take)) _ refl (own_freed h states small.1 (own_of z (word z r.world) r.ledger.rows s (Activity.Rebalance (Rebalance.Seek Seek.Reclaim)) l (λ i. tt) x))
  infants_own a k (takes_row rows next e y) h states small inside x = taken_on z (word z r'.world) r'.ledger.rows s rows _ next y (own_more h states e (own_of z (word z r.world) r.ledger.rows s (Activity.Rebalance (Rebalance.Seek Seek.Take)) l (λ i. tt) x)) (omega (arith, length-append l.rebalance.taken (l.rebalance.sought ∷ [])))
  infants_own a k (loses_row rows next d y) h states small inside x = seek_on z (word z r'.world) r'.ledger.rows s rows _ next y (subst (λ g. Own g s l.rebalance.taken) (sym (ap (λ (g : ledger.Ledger). g.rows) (none_taken h d))) (own_of z (word z r.world) r.ledger.rows s (Activity.Rebalance (Rebalance.Seek Seek.Take)) l (λ i. tt) x))
  infants_own a k (gives_one_back o) h states small inside x = one_back h o x
  infants_own a k (gives_last_back next o y) h states small inside x = given_on z (word z r'.world) r'.ledger.rows s l.rebalance.afterwards l next y
  infants_own a k built.writes_count h states small inside x = at_writing z (word z r'.world) r'.ledger.rows s (Activity.Rebalance (Rebalance.Write Write.Least)) l refl (wrote_on (Activity.Rebalance (Rebalance.Write Write.Count)) (Activity.Rebalance (Rebalance.Write Write.Least)) h (λ q d c. d c) (λ q c. c) inside (λ i w. writes_count h i w) (wrote_of z (word z r.world) r.ledger.rows s (Activity.Rebalance (Rebalance.Write Write.Count)) l refl x))
  infants_own a k built.writes_least h states small inside x = at_writing z (word z r'.world) r'.ledger.rows s (Activity.Rebalance (Rebalance.Write Write.Next)) l refl (wrote_on (Activity.Rebalance (Rebalance.Write Write.Least)) (Activity.Rebalance (Rebalance.Write Write.Next)) h (λ q d c. d c) (λ q c. c) inside (λ i w. writes_least h i w) (wrote_of z (word z r.world) r.ledger.rows s (Activity.Rebalance (Rebalance.Write Write.Least)) l refl x))
  infants_own a k writes_link h states small inside x = at_writing z (word z r'.world) r'.ledger.rows s (Activity.Rebalance (Rebalance.Write Write.First)) l refl (wrote_on (Activity.Rebalance (Rebalance.Write Write.Next)) (Activity.Rebalance (Rebalance.Write Write.First)) h (λ q d c. d c) (λ q c. c) inside (λ i w. writes_next h i w) (wrote_of z (word z r.world) r.ledger.rows s (Activity.Rebalance (Rebalance.Write Write.Next)) l refl x))
  infants_own a k (built.writes_first next y) h states small inside x = entry_on z (word z r'.world) r'.ledger.rows s 0 l next y (wrote_on (Activity.Rebalance (Rebalance.Write Write.First)) (Activity.Rebalance (Rebalance.Write (Write.Entry 0))) h (λ q d c. d c) (λ q c. c) inside (λ i w. writes_first h i w) (wrote_of z (word z r.world) r.ledger.rows s (Activity.Rebalance (Rebalance.Write Write.First)) l refl x))
  infants_own a k (built.writes_entry j next y) h states small inside x = entry_on z (word z r'.world) r'.ledger.rows s (j + 1) l next y (wrote_on (Activity.Rebalance (Rebalance.Write (Write.Entry j))) (Activity.Rebalance (Rebalance.Write (Write.Entry (j + 1)))) h (λ q d c. d c) (λ q c. c) inside (λ i w. writes_entry j h i w) (wrote_of z (word z r.world) r.ledger.rows s (Activity.Rebalance (Rebalance.Write (Write.Entry j))) l refl x))
  infants_own a k (built.writes_key j) h states small inside x = at_writing z (word z r'.world) r'.ledger.rows s (Activity.Rebalance (Rebalance.Write (Write.Value j))) l refl (wrote_on (Activity.Rebalance (Rebalance.Write (Write.Key j))) (Activity.Rebalance (Rebalance.Write (Write.Value j))) h (λ q d c. d c) (λ q c. c) inside (λ i w. writes_key j h i w) (wrote_of z (word z r.world) r.ledger.rows s (Activity.Rebalance (Rebalance.Write (Write.Key j))) l refl x))
  infants_own a k (built.writes_value j) h states small inside x = at_writing z (word z r'.world) r'.ledger.rows s (Activity.Rebalance (Rebalance.Write (Write.Version j))) l refl (wrote_on (Activity.Rebalance (Rebalance.Write (Write.Value j))) (Activity.Rebalance (Rebalance.Write (Write.Version j))) h (λ q d c. d c) (λ q c. c) inside (λ i w. writes_value j h i w) (wrote_of z (word z r.world) r.ledger.rows s (Activity.Rebalance (Rebalance.Write (Write.Value j))) l refl x))
  infants_own a k (built.writes_version j o) h states small inside x = at_writing z (word z r'.world) r'.ledger.rows s (Activity.Rebalance (Rebalance.Write (Write.After j))) l refl (wrote_on (Activity.Rebalance (Rebalance.Write (Write.Version j))) (Activity.Rebalance (Rebalance.Write (Write.After j))) h (λ q d c. d c) (λ q c. c) inside (λ i w. writes_version j h i w) (wrote_of z (word z r.world) r.ledger.rows s (Activity.Rebalance (Rebalance.Write (Write.Version j))) l refl x))
  infants_own a k (built.writes_no_cell j next o y) h states small inside x = cell_on z (word z r'.world) r'.ledger.rows s (j + 1) l next y (wrote_on (Activity.Rebalance (Rebalance.Write (Write.Version j))) (Activity.Rebalance (Rebalance.Write (Write.Key (j + 1)))) h (λ q d c. d c) (λ q c. c) inside (λ i w. place_end z (word z r'.world) l (infant l) j o (writes_version j h i w)) (wrote_of z (word z r.world) r.ledger.rows s (Activity.Rebalance (Rebalance.Write (Write.Version j))) l refl x))
  infants_own a k (built.writes_after j next y) h states small inside x = cell_on z (word z r'.world) r'.ledger.rows s (j + 1) l next y (wrote_on (Activity.Rebalance (Rebalance.Write (Write.After j))) (Activity.Rebalance (Rebalance.Write (Write.Key (j + 1)))) h (λ q d c. d c) (λ q c. c) inside (λ i w. writes_after j h i w) (wrote_of z (word z r.world) r.ledger.rows s (Activity.Rebalance (Rebalance.Write (Write.After j))) l refl x))
  infants_own a k (begins_before next y) h states small inside x = first_on (Activity.Rebalance (Rebalance.Replace Replace.Start)) h (loaded (Activity.Rebalance (Rebalance.Replace Replace.Start)) h (before_loaded choice refl h) (λ q c. c) inside x) refl next y
  infants_own a k (guesses_before q c e) h states small inside x = linked (Activity.Rebalance (Rebalance.Replace Replace.Start)) (Activity.Rebalance (Rebalance.Replace Replace.GuessedLeast)) _ h (loaded (Activity.Rebalance (Rebalance.Replace Replace.Start)) h (before_loaded choice refl h) (λ q c. c) inside x) refl refl refl refl (λ i q w. written_like z (word z r'.world) (Activity.Rebalance (Rebalance.Replace Replace.Start)) (at_infant i l) _ q refl refl refl w)
  infants_own a k guess_before_fails h states small inside x = linked (Activity.Rebalance (Rebalance.Replace Replace.Start)) (Activity.Rebalance (Rebalance.Replace Replace.First)) _ h (loaded (Activity.Rebalance (Rebalance.Replace Replace.Start)) h (before_loaded choice refl h) (λ q c. c) inside x) refl refl refl refl (λ i q w. written_like z (word z r'.world) (Activity.Rebalance (Rebalance.Replace Replace.Start)) (at_infant i l) _ q refl refl refl w)
  infants_own a k (before_serves o) h states small inside x = linked (Activity.Rebalance (Rebalance.Replace Replace.GuessedLeast)) (Activity.Rebalance (Rebalance.Replace Replace.Next)) _ h (loaded (Activity.Rebalance (Rebalance.Replace Replace.GuessedLeast)) h (h.changed.loaded refl) (λ q c. c) inside x) refl refl refl refl (λ i q w. written_like z (word z r'.world) (Activity.Rebalance (Rebalance.Replace Replace.Start)) (at_infant i l) _ q refl refl refl w)
  infants_own a k (before_is_above o) h states small inside x = linked (Activity.Rebalance (Rebalance.Replace Replace.GuessedLeast)) (Activity.Rebalance (Rebalance.Replace Replace.First)) _ h (loaded (Activity.Rebalance (Rebalance.Replace Replace.GuessedLeast)) h (h.changed.loaded refl) (λ q c. c) inside x) refl refl refl refl (λ i q w. written_like z (word z r'.world) (Activity.Rebalance (Rebalance.Replace Replace.Start)) (at_infant i l) _ q refl refl refl w)
  infants_own a k (takes_head_before next y) h states small inside x = first_on (Activity.Rebalance (Rebalance.Replace Replace.First)) h (loaded (Activity.Rebalance (Rebalance.Replace Replace.First)) h (h.changed.loaded refl) (λ q c. c) inside x) refl next y
  infants_own a k (leads_to_full e) h states small inside x = linked (Activity.Rebalance (Rebalance.Replace Replace.Next)) (Activity.Rebalance (Rebalance.Replace Replace.Exchange)) _ h (loaded (Activity.Rebalance (Rebalance.Replace Replace.Next)) h (h.changed.loaded refl) (λ q c. c) inside x) refl refl refl refl (λ i q w. written_like z (word z r'.world) (Activity.Rebalance (Rebalance.Replace Replace.Start)) (at_infant i l) _ q refl refl refl w)
  infants_own a k (leads_on_marked next e y) h states small inside x = back_on z (word z r'.world) r'.ledger.rows s _ l next y (own_of z (word z r'.world) r'.ledger.rows s (Activity.Rebalance (Rebalance.Replace Replace.Next)) l (λ i. tt) (loaded (Activity.Rebalance (Rebalance.Replace Replace.Next)) h (h.changed.loaded refl) (λ q c. c) inside x))
  infants_own a k (leads_to_other q e d) h states small inside x = linked (Activity.Rebalance (Rebalance.Replace Replace.Next)) (Activity.Rebalance (Rebalance.Replace Replace.NextLeast)) _ h (loaded (Activity.Rebalance (Rebalance.Replace Replace.Next)) h (h.changed.loaded refl) (λ q c. c) inside x) refl refl refl refl (λ i q w. written_like z (word z r'.world) (Activity.Rebalance (Rebalance.Replace Replace.Start)) (at_infant i l) _ q refl refl refl w)
  infants_own a k (leads_nowhere next e y) h states small inside x = back_on z (word z r'.world) r'.ledger.rows s _ l next y (own_of z (word z r'.world) r'.ledger.rows s (Activity.Rebalance (Rebalance.Replace Replace.Next)) l (λ i. tt) (loaded (Activity.Rebalance (Rebalance.Replace Replace.Next)) h (h.changed.loaded refl) (λ q c. c) inside x))
  infants_own a k (walks_before o) h states small inside x = linked (Activity.Rebalance (Rebalance.Replace Replace.NextLeast)) (Activity.Rebalance (Rebalance.Replace Replace.Next)) _ h (loaded (Activity.Rebalance (Rebalance.Replace Replace.NextLeast)) h (h.changed.loaded refl) (λ q c. c) inside x) refl refl refl refl (λ i q w. written_like z (word z r'.world) (Activity.Rebalance (Rebalance.Replace Replace.Start)) (at_infant i l) _ q refl refl refl w)
  infants_own a k (walks_past next o y) h states small inside x = back_on z (word z r'.world) r'.ledger.rows s _ l next y (own_of z (word z r'.world) r'.ledger.rows s (Activity.Rebalance (Rebalance.Replace Replace.NextLeast)) l (λ i. tt) (loaded (Activity.Rebalance (Rebalance.Replace Replace.NextLeast)) h (h.changed.loaded refl) (λ q c. c) inside x))
  infants_own a k (replaces_row e) h states small inside x = nowhere z (word z r'.world) r'.ledger.rows s (Activity.Rebalance (Rebalance.Replace Replace.Normalise)) _ refl
  infants_own a k (is_marked_before next e y) h states small inside x = back_on z (word z r'.world) r'.ledger.rows s _ l next y (subst (λ g. Own g s l.rebalance.taken) (sym (ap (λ (g : ledger.Ledger). g.rows) (none_replaced h (marked_other l.row small.0 e)))) (own_of z (word z r.world) r.ledger.rows s (Activity.Rebalance (Rebalance.Replace Replace.Exchange)) l (λ i. tt) x))
  infants_own a k (is_replaced next d y) h states small inside x = back_on z (word z r'.world) r'.ledger.rows s _ l next y (subst (λ g. Own g s l.rebalance.taken) (sym (ap (λ (g : ledger.Ledger). g.rows) (none_replaced h (not_open _ l.row small.0 (λ q. d (ap row_linked q)))))) (own_of z (word z r.world) r.ledger.rows s (Activity.Rebalance (Rebalance.Replace Replace.Exchange)) l (λ i. tt) x))
  infants_own a k (makes_normal o) h states small inside x = nowhere z (word z r'.world) r'.ledger.rows s (Activity.Rebalance (Rebalance.Replace Replace.Normalise)) _ refl
  infants_own a k (makes_last_normal o) h states small inside x = nowhere z (word z r'.world) r'.ledger.rows s (Activity.Rebalance (Rebalance.Replace Replace.Number)) _ refl
  infants_own a k draws_number h states small inside x = nowhere z (word z r'.world) r'.ledger.rows s (Activity.Rebalance (Rebalance.Replace Replace.Retire)) _ refl
  infants_own a k (retires_ahead q e) h states small inside x = nowhere z (word z r'.world) r'.ledger.rows s (Activity.Rebalance (Rebalance.Replace Replace.Number)) _ refl
  infants_own a k (retires_row n nd) h states small inside x = nowhere z (word z r'.world) r'.ledger.rows s Activity.Retry _ refl
  infants_own a k (retires_and_leaves n dn) h states small inside x = nowhere z (word z r'.world) r'.ledger.rows s (Activity.Leave _) _ refl
