-- Which event of the rows it is when a seat takes a row, frees a retired one, gives one back,
-- writes one, makes one normal, draws a number, or retires a row that it replaced: each is one of
-- those of `kw_rows`, whose laws say what it keeps.
--
-- What is needed beside the words stands as a premise: that states go with what has become of the
-- rows, that the row at hand is an infant of the seat or a row that it may name, and that the
-- number was drawn after the row went.
use Rattle.std.proofs.Common.{ℕ, ◌≡◌, ◌≢◌, ◌⊎◌, inl, inr, ◌<◌, ◌≤◌, Option, Some, None, arith, refl, sym, ◌∙◌, ap, subst, length}
use Rattle.std.proofs.lemmas.Bool.{cases_eq, cases_lt}
use Rattle.kw_words.specs.declared.layout.Name.{Name}
use Rattle.kw_words.specs.declared.layout.Name.TheVariants as name
use Rattle.kw_words.specs.declared.state.State.{State}
use Rattle.kw_words.specs.declared.state.State.TheVariants as state
use Rattle.kw_words.specs.Count.{count_of}
use Rattle.kw_words.specs.Layout.{place_of, row_start, words_of}
use Rattle.kw_words.specs.Link.{link_of}
use Rattle.kw_words.specs.Plain.{key_of_word}
use Rattle.kw_words.specs.State.{IsState, state_of, state_word}
use Rattle.kw_words.proofs.StateWords.{state_of-state_word}
use Rattle.kw_rows.specs.Events.{Event, SameLedger, SameLinks, SameStates, SetsState, fills, gives_back, normalises, numbers, reclaims, rests, retires, takes}
use Rattle.kw_rows.specs.Ledger as kw_rows
use Rattle.kw_rows.specs.RowState as row
use Rattle.kw_rows.specs.Rows.{Rows}
use Rattle.kw_rows.specs.States.{HasState, IsNumbered, States}
use Rattle.kw_world.specs.declared.activity.Activity.{Activity}
use Rattle.kw_world.specs.declared.activity.rebalance.Rebalance.TheVariants as Rebalance
use Rattle.kw_world.specs.declared.activity.rebalance.replace.Replace.TheVariants as Replace
use Rattle.kw_world.specs.declared.activity.rebalance.seek.Seek.TheVariants as Seek
use Rattle.kw_world.specs.declared.activity.rebalance.write.Write.TheVariants as Write
use Rattle.kw_world.specs.declared.event.Choice.{Choice}
use Rattle.kw_world.specs.declared.local.Local.{Local}
use Rattle.kw_world.specs.Sane.{IsSane}
use Rattle.kw_world.specs.SeekTransitions.{infant}
use Rattle.kw_world.specs.Sizes.{Sizes}
use Rattle.kw_world.specs.Step.{word}
use Rattle.kw_world.specs.Transition.{row_linked}
use Rattle.kw_core.specs.Ledger as ledger
use Rattle.kw_core.specs.Run.{Run}
use Rattle.kw_core.specs.Words.{Words}
use Rattle.kw_core.proofs.Beyond.{beyond}
use Rattle.kw_core.proofs.Fates.{ChangesFate, DrawsNumber, fate_of_freed, fate_of_given, fate_of_taken, fate_stays, none_freed, none_taken, number_of_drawn, other_numbers, others_stay, visits_stay}
use Rattle.kw_core.proofs.Frame.{WritesPass}
use Rattle.kw_core.proofs.Happens.{Happens}
use Rattle.kw_core.proofs.InfantFrames.{ChangesCount, ChangesHead, ChangesLeast, ChangesNext, ChangesState, count_stays, freed, given_back, head_stays, least_stays, next_stays, normal_lost, normal_won, not_freed, retired, state_stays, taken_lost, taken_won}
use Rattle.kw_shape.specs.Infants.{IsInfantOf, IsWriting, nursing_of}
use Rattle.kw_shape.specs.Visits.{Numbers}
use Rattle.kw_shape.specs.RowsIn.{has_frozen, has_mark, rows_in, state_seen}

-- the state that a word of a state in range says
pub word_says : (w : ℕ) (t : State) → IsState t → w ≡ state_word t → state_seen (state_of w) ≡ state_seen (Some t)
word_says w t k e = ap (λ x. state_seen (state_of x)) e ∙ ap state_seen (state_of-state_word t k)

-- a row whose state is that of a free one is free
pub free_by_state : (w : Rows) (g : kw_rows.Ledger) (q : ℕ) → States w g → w.state q ≡ row.Free → (g.fates q).status ≡ kw_rows.Free
free_by_state w g q states e = by_status (g.fates q).status (states q)
  where
    by_status : (c : kw_rows.Status) → HasState w g q c → c ≡ kw_rows.Free
    by_status kw_rows.Free h = refl
    by_status kw_rows.Infant h = let f : row.Infant (g.fates q).owner ≡ row.Free = sym h ∙ e in absurd (cc)
    by_status kw_rows.Live h = absurd (rw e at h)
    by_status kw_rows.Dead h = absurd (rw e at h)

-- a row whose state is that of a retired one is dead
pub dead_by_state : (w : Rows) (g : kw_rows.Ledger) (q m : ℕ) → States w g → w.state q ≡ row.Retired m → kw_rows.IsDead g q
dead_by_state w g q m states e = by_status (g.fates q).status (states q)
  where
    by_status : (c : kw_rows.Status) → HasState w g q c → c ≡ kw_rows.Dead
    by_status kw_rows.Free h = let f : row.Free ≡ row.Retired m = sym h ∙ e in absurd (cc)
    by_status kw_rows.Infant h = let f : row.Infant (g.fates q).owner ≡ row.Retired m = sym h ∙ e in absurd (cc)
    by_status kw_rows.Live h = absurd (rw e at h)
    by_status kw_rows.Dead h = refl

-- a number at the epoch is not drawn
undrawn : (v : Words) (g : kw_rows.Ledger) (o : Option ℕ) → g.numbered (v name.Epoch) ≡ o → Numbers v g → g.numbered (v name.Epoch) ≡ None
undrawn v g None e n = e
undrawn v g (Some at) e n = absurd (omega (arith, n.below (v name.Epoch) at e))

module _ {z : Sizes} {r r' : Run} {s : ℕ} {choice : Choice} {l l' : Local} where
  -- The words.

  -- a word of a row is kept if it is in a row of the table; beyond the table both are 0
  word_of_row : {a : Activity} → Happens z r r' s choice l l' a → IsSane z r.world → (n : Name) (q : ℕ) → row_start z.seats z.cells q ≤ place_of z.seats z.cells n → (q < r.world.rows → word z r'.world n ≡ word z r.world n) → word z r'.world n ≡ word z r.world n
  word_of_row h sane n q b f = which (cases_lt q r.world.rows)
    where
      which : (q < r.world.rows) ⊎ (r.world.rows ≤ q) → word z r'.world n ≡ word z r.world n
      which (inl o) = f o
      which (inr o) = beyond z r'.world n q (h.words ∙ sane.words ∙ ap (words_of z.seats z.cells) (sym h.rows)) (omega (arith, h.rows, o)) b ∙ sym (beyond z r.world n q sane.words o b)

  pub next_word : (a : Activity) → Happens z r r' s choice l l' a → IsSane z r.world → (q : ℕ) → (ChangesNext a s l q → ⊥) → word z r'.world (name.Next q) ≡ word z r.world (name.Next q)
  next_word a h sane q f = word_of_row h sane (name.Next q) q (omega arith) (λ o. next_stays a h q o f)

  pub count_word : (a : Activity) → Happens z r r' s choice l l' a → IsSane z r.world → (q : ℕ) → (ChangesCount a s l q → ⊥) → word z r'.world (name.Count q) ≡ word z r.world (name.Count q)
  count_word a h sane q f = word_of_row h sane (name.Count q) q (omega arith) (λ o. count_stays a h q o f)

  pub least_word : (a : Activity) → Happens z r r' s choice l l' a → IsSane z r.world → (q : ℕ) → (ChangesLeast a s l q → ⊥) → word z r'.world (name.Least q) ≡ word z r.world (name.Least q)
  least_word a h sane q f = word_of_row h sane (name.Least q) q (omega arith) (λ o. least_stays a h q o f)

  pub state_kept : (a : Activity) → Happens z r r' s choice l l' a → IsSane z r.world → (q : ℕ) → (ChangesState a s l q → ⊥) → (rows_in (word z r'.world)).state q ≡ (rows_in (word z r.world)).state q
  state_kept a h sane q f = ap (λ w. state_seen (state_of w)) (word_of_row h sane (name.State q) q (omega arith) (λ o. state_stays a h q o f))

  -- an event that writes none of these words leaves all but the states
  pub links_kept : (a : Activity) → Happens z r r' s choice l l' a → IsSane z r.world → (ChangesHead a s l → ⊥) → ((q : ℕ) → ChangesNext a s l q → ⊥) → ((q : ℕ) → ChangesCount a s l q → ⊥) → ((q : ℕ) → ChangesLeast a s l q → ⊥) →
      SameLinks (rows_in (word z r.world)) (rows_in (word z r'.world))
  links_kept a h sane head next count least = record {
    head = ap (λ w. row_linked (link_of w)) (head_stays a h head);
    next = λ q. ap (λ w. row_linked (link_of w)) (next_word a h sane q (next q));
    marked = λ q. ap (λ w. has_mark (link_of w)) (next_word a h sane q (next q));
    frozen = λ q. ap (λ w. has_frozen (count_of w)) (count_word a h sane q (count q));
    least = λ q. ap key_of_word (least_word a h sane q (least q));
  }

  -- one that writes the state of this row alone
  pub sets_state : (a : Activity) → Happens z r r' s choice l l' a → IsSane z r.world → (ChangesHead a s l → ⊥) → ((q : ℕ) → ChangesNext a s l q → ⊥) → ((q : ℕ) → ChangesCount a s l q → ⊥) → ((q : ℕ) → ChangesLeast a s l q → ⊥) →
      (x : ℕ) → ((q : ℕ) → q ≢ x → ChangesState a s l q → ⊥) → (t : row.State) → (rows_in (word z r'.world)).state x ≡ t → SetsState (rows_in (word z r.world)) (rows_in (word z r'.world)) x t
  sets_state a h sane head next count least x others t e = record { links = links_kept a h sane head next count least; state = e; others = λ q d. state_kept a h sane q (others q d) }

  -- where that state is as it was, all are
  pub states_still : (a : Activity) → Happens z r r' s choice l l' a → IsSane z r.world → (x : ℕ) → ((q : ℕ) → q ≢ x → ChangesState a s l q → ⊥) → word z r'.world (name.State x) ≡ word z r.world (name.State x) → SameStates (rows_in (word z r.world)) (rows_in (word z r'.world))
  states_still a h sane x others e q = which (cases_eq q x)
    where
      which : (q ≡ x) ⊎ (q ≡ x → ⊥) → (rows_in (word z r'.world)).state q ≡ (rows_in (word z r.world)).state q
      which (inl c) = subst (λ k. (rows_in (word z r'.world)).state k ≡ (rows_in (word z r.world)).state k) (sym c) (ap (λ w. state_seen (state_of w)) e)
      which (inr d) = state_kept a h sane q (others q d)

  -- an event that changes no fate, visit or number
  pub ledger_kept : (a : Activity) → Happens z r r' s choice l l' a → ((q : ℕ) → ChangesFate a l q → ⊥) → (WritesPass a → ⊥) → (DrawsNumber a → ⊥) → SameLedger r.ledger.rows r'.ledger.rows
  ledger_kept a h fates visits drawn = record { fates = λ q. fate_stays a h q (fates q); others = visits_stay a h visits drawn }

  -- the number of a seat fits a state
  pub seat_fits : (a : Activity) → Happens z r r' s choice l l' a → IsSane z r.world → IsState (state.Infant s)
  seat_fits a h sane = omega (arith, h.seat, sane.sized.few_seats)

  -- The events.

  -- a seat that finds a row free takes it
  pub taking : Happens z r r' s choice l l' (Activity.Rebalance (Rebalance.Seek Seek.Take)) → IsSane z r.world → States (rows_in (word z r.world)) r.ledger.rows → Event (rows_in (word z r.world)) (rows_in (word z r'.world)) r.ledger.rows r'.ledger.rows (length r.history.log)
  taking h sane states = which (cases_eq (word z r.world (name.State l.rebalance.sought)) (state_word state.Free))
    where
      which : (word z r.world (name.State l.rebalance.sought) ≡ state_word state.Free) ⊎ (word z r.world (name.State l.rebalance.sought) ≡ state_word state.Free → ⊥) → Event (rows_in (word z r.world)) (rows_in (word z r'.world)) r.ledger.rows r'.ledger.rows (length r.history.log)
      which (inl e) = takes l.rebalance.sought s (record {
        free = free_by_state (rows_in (word z r.world)) r.ledger.rows l.rebalance.sought states (word_says _ state.Free tt e);
        turns = record {
          sets = sets_state (Activity.Rebalance (Rebalance.Seek Seek.Take)) h sane (λ c. c) (λ q c. c) (λ q c. c) (λ q c. c) l.rebalance.sought (λ q d c. d c) (row.Infant s) (word_says _ (state.Infant s) (seat_fits (Activity.Rebalance (Rebalance.Seek Seek.Take)) h sane) (taken_won h e));
          fates = λ q d. fate_stays (Activity.Rebalance (Rebalance.Seek Seek.Take)) h q d;
          others = visits_stay (Activity.Rebalance (Rebalance.Seek Seek.Take)) h (λ c. c) (λ c. c);
        };
        status = ap (λ (f : kw_rows.Fate). f.status) (fate_of_taken h e);
        owner = ap (λ (f : kw_rows.Fate). f.owner) (fate_of_taken h e);
      })
      which (inr d) = rests (record {
        links = links_kept (Activity.Rebalance (Rebalance.Seek Seek.Take)) h sane (λ c. c) (λ q c. c) (λ q c. c) (λ q c. c);
        states = states_still (Activity.Rebalance (Rebalance.Seek Seek.Take)) h sane l.rebalance.sought (λ q n c. n c) (taken_lost h d);
        ledger = record { fates = λ q. ap (λ (g : ledger.Ledger). g.rows.fates q) (none_taken h d); others = visits_stay (Activity.Rebalance (Rebalance.Seek Seek.Take)) h (λ c. c) (λ c. c) };
      })

  -- one that finds a row retired with the number that it knows frees it
  pub freeing : Happens z r r' s choice l l' (Activity.Rebalance (Rebalance.Seek Seek.Reclaim)) → IsSane z r.world → States (rows_in (word z r.world)) r.ledger.rows → IsState (state.Retired l.rebalance.number) →
      ((t since at : ℕ) → r.ledger.rows.visits t ≡ Some since → r.ledger.rows.numbered l.rebalance.number ≡ Some at → at < since) → Event (rows_in (word z r.world)) (rows_in (word z r'.world)) r.ledger.rows r'.ledger.rows (length r.history.log)
  freeing h sane states small young = which (cases_eq (word z r.world (name.State l.rebalance.sought)) (state_word (state.Retired l.rebalance.number)))
    where
      which : (word z r.world (name.State l.rebalance.sought) ≡ state_word (state.Retired l.rebalance.number)) ⊎ (word z r.world (name.State l.rebalance.sought) ≡ state_word (state.Retired l.rebalance.number) → ⊥) →
          Event (rows_in (word z r.world)) (rows_in (word z r'.world)) r.ledger.rows r'.ledger.rows (length r.history.log)
      which (inl e) =
          let f = word_says _ (state.Retired l.rebalance.number) small e in
          reclaims l.rebalance.sought l.rebalance.number (record {
            dead = dead_by_state (rows_in (word z r.world)) r.ledger.rows l.rebalance.sought l.rebalance.number states f;
            retired = f;
            young = young;
            turns = record {
              sets = sets_state (Activity.Rebalance (Rebalance.Seek Seek.Reclaim)) h sane (λ c. c) (λ q c. c) (λ q c. c) (λ q c. c) l.rebalance.sought (λ q d c. d c) row.Free (word_says _ state.Free tt (freed h e));
              fates = λ q d. fate_stays (Activity.Rebalance (Rebalance.Seek Seek.Reclaim)) h q d;
              others = visits_stay (Activity.Rebalance (Rebalance.Seek Seek.Reclaim)) h (λ c. c) (λ c. c);
            };
            status = ap (λ (f : kw_rows.Fate). f.status) (fate_of_freed h e);
          })
      which (inr d) = rests (record {
        links = links_kept (Activity.Rebalance (Rebalance.Seek Seek.Reclaim)) h sane (λ c. c) (λ q c. c) (λ q c. c) (λ q c. c);
        states = states_still (Activity.Rebalance (Rebalance.Seek Seek.Reclaim)) h sane l.rebalance.sought (λ q n c. n c) (not_freed h d);
        ledger = record { fates = λ q. ap (λ (g : ledger.Ledger). g.rows.fates q) (none_freed h d); others = visits_stay (Activity.Rebalance (Rebalance.Seek Seek.Reclaim)) h (λ c. c) (λ c. c) };
      })

  -- one that gives its infant at hand back
  pub giving_back : Happens z r r' s choice l l' (Activity.Rebalance (Rebalance.Seek Seek.GiveBack)) → IsSane z r.world → IsInfantOf r.ledger.rows s (infant l) → Event (rows_in (word z r.world)) (rows_in (word z r'.world)) r.ledger.rows r'.ledger.rows (length r.history.log)
  giving_back h sane x = gives_back (infant l) (record {
    infant = x.status;
    turns = record {
      sets = sets_state (Activity.Rebalance (Rebalance.Seek Seek.GiveBack)) h sane (λ c. c) (λ q c. c) (λ q c. c) (λ q c. c) (infant l) (λ q d c. d c) row.Free (word_says _ state.Free tt (given_back h));
      fates = λ q d. fate_stays (Activity.Rebalance (Rebalance.Seek Seek.GiveBack)) h q d;
      others = visits_stay (Activity.Rebalance (Rebalance.Seek Seek.GiveBack)) h (λ c. c) (λ c. c);
    };
    status = ap (λ (f : kw_rows.Fate). f.status) (fate_of_given h);
  })

  -- one that writes a word of it
  filling : (a : Activity) → Happens z r r' s choice l l' a → IsSane z r.world → IsInfantOf r.ledger.rows s (infant l) → (ChangesHead a s l → ⊥) → ((q : ℕ) → q ≢ infant l → ChangesNext a s l q → ⊥) → ((q : ℕ) → q ≢ infant l → ChangesCount a s l q → ⊥) → ((q : ℕ) → q ≢ infant l → ChangesLeast a s l q → ⊥) →
      ((q : ℕ) → ChangesState a s l q → ⊥) → ((q : ℕ) → ChangesFate a l q → ⊥) → (WritesPass a → ⊥) → (DrawsNumber a → ⊥) → Event (rows_in (word z r.world)) (rows_in (word z r'.world)) r.ledger.rows r'.ledger.rows (length r.history.log)
  filling a h sane x head next count least states fates visits drawn = fills (infant l) (record {
    infant = x.status;
    head = ap (λ w. row_linked (link_of w)) (head_stays a h head);
    next = λ q d. ap (λ w. row_linked (link_of w)) (next_word a h sane q (next q d));
    marked = λ q d. ap (λ w. has_mark (link_of w)) (next_word a h sane q (next q d));
    frozen = λ q d. ap (λ w. has_frozen (count_of w)) (count_word a h sane q (count q d));
    least = λ q d. ap key_of_word (least_word a h sane q (least q d));
    states = λ q. state_kept a h sane q (states q);
    ledger = ledger_kept a h fates visits drawn;
  })

  -- each of the events that write
  pub writing : (a : Activity) → IsWriting (nursing_of a) → Happens z r r' s choice l l' a → IsSane z r.world → IsInfantOf r.ledger.rows s (infant l) → Event (rows_in (word z r.world)) (rows_in (word z r'.world)) r.ledger.rows r'.ledger.rows (length r.history.log)
  writing (Activity.Rebalance (Rebalance.Write Write.Count)) m h sane x = filling (Activity.Rebalance (Rebalance.Write Write.Count)) h sane x (λ c. c) (λ q d c. c) (λ q d c. d c) (λ q d c. c) (λ q c. c) (λ q c. c) (λ c. c) (λ c. c)
  writing (Activity.Rebalance (Rebalance.Write Write.Least)) m h sane x = filling (Activity.Rebalance (Rebalance.Write Write.Least)) h sane x (λ c. c) (λ q d c. c) (λ q d c. c) (λ q d c. d c) (λ q c. c) (λ q c. c) (λ c. c) (λ c. c)
  writing (Activity.Rebalance (Rebalance.Write Write.Next)) m h sane x = filling (Activity.Rebalance (Rebalance.Write Write.Next)) h sane x (λ c. c) (λ q d c. d c) (λ q d c. c) (λ q d c. c) (λ q c. c) (λ q c. c) (λ c. c) (λ c. c)
  writing (Activity.Rebalance (Rebalance.Write Write.First)) m h sane x = filling (Activity.Rebalance (Rebalance.Write Write.First)) h sane x (λ c. c) (λ q d c. c) (λ q d c. c) (λ q d c. c) (λ q c. c) (λ q c. c) (λ c. c) (λ c. c)
  writing (Activity.Rebalance (Rebalance.Write (Write.Entry j))) m h sane x = filling (Activity.Rebalance (Rebalance.Write (Write.Entry j))) h sane x (λ c. c) (λ q d c. c) (λ q d c. c) (λ q d c. c) (λ q c. c) (λ q c. c) (λ c. c) (λ c. c)
  writing (Activity.Rebalance (Rebalance.Write (Write.Key j))) m h sane x = filling (Activity.Rebalance (Rebalance.Write (Write.Key j))) h sane x (λ c. c) (λ q d c. c) (λ q d c. c) (λ q d c. c) (λ q c. c) (λ q c. c) (λ c. c) (λ c. c)
  writing (Activity.Rebalance (Rebalance.Write (Write.Value j))) m h sane x = filling (Activity.Rebalance (Rebalance.Write (Write.Value j))) h sane x (λ c. c) (λ q d c. c) (λ q d c. c) (λ q d c. c) (λ q c. c) (λ q c. c) (λ c. c) (λ c. c)
  writing (Activity.Rebalance (Rebalance.Write (Write.Version j))) m h sane x = filling (Activity.Rebalance (Rebalance.Write (Write.Version j))) h sane x (λ c. c) (λ q d c. c) (λ q d c. c) (λ q d c. c) (λ q c. c) (λ q c. c) (λ c. c) (λ c. c)
  writing (Activity.Rebalance (Rebalance.Write (Write.After j))) m h sane x = filling (Activity.Rebalance (Rebalance.Write (Write.After j))) h sane x (λ c. c) (λ q d c. c) (λ q d c. c) (λ q d c. c) (λ q c. c) (λ q c. c) (λ c. c) (λ c. c)
  writing (Activity.Rebalance (Rebalance.Seek Seek.Next)) m h sane x = absurd m
  writing (Activity.Rebalance (Rebalance.Replace Replace.First)) m h sane x = absurd m
  writing _ m h sane x = absurd m

  -- one that makes a row normal which it may name, or leaves a row that was made so
  pub making_normal : Happens z r r' s choice l l' (Activity.Rebalance (Rebalance.Replace Replace.Normalise)) → IsSane z r.world → kw_rows.IsHeld r.ledger.rows (infant l) → Event (rows_in (word z r.world)) (rows_in (word z r'.world)) r.ledger.rows r'.ledger.rows (length r.history.log)
  making_normal h sane held = which (cases_eq (word z r.world (name.State (infant l))) (state_word (state.Infant s)))
    where
      which : (word z r.world (name.State (infant l)) ≡ state_word (state.Infant s)) ⊎ (word z r.world (name.State (infant l)) ≡ state_word (state.Infant s) → ⊥) → Event (rows_in (word z r.world)) (rows_in (word z r'.world)) r.ledger.rows r'.ledger.rows (length r.history.log)
      which (inl e) = normalises (infant l) s (record {
        held = held;
        infant = word_says _ (state.Infant s) (seat_fits (Activity.Rebalance (Rebalance.Replace Replace.Normalise)) h sane) e;
        sets = sets_state (Activity.Rebalance (Rebalance.Replace Replace.Normalise)) h sane (λ c. c) (λ q c. c) (λ q c. c) (λ q c. c) (infant l) (λ q d c. d c) row.Normal (word_says _ state.Normal tt (normal_won h e));
        ledger = ledger_kept (Activity.Rebalance (Rebalance.Replace Replace.Normalise)) h (λ q c. c) (λ c. c) (λ c. c);
      })
      which (inr d) = rests (record {
        links = links_kept (Activity.Rebalance (Rebalance.Replace Replace.Normalise)) h sane (λ c. c) (λ q c. c) (λ q c. c) (λ q c. c);
        states = states_still (Activity.Rebalance (Rebalance.Replace Replace.Normalise)) h sane (infant l) (λ q n c. n c) (normal_lost h d);
        ledger = ledger_kept (Activity.Rebalance (Rebalance.Replace Replace.Normalise)) h (λ q c. c) (λ c. c) (λ c. c);
      })

  -- one that draws a number, which nobody drew before
  pub numbering : Happens z r r' s choice l l' (Activity.Rebalance (Rebalance.Replace Replace.Number)) → IsSane z r.world → Numbers (word z r.world) r.ledger.rows → Event (rows_in (word z r.world)) (rows_in (word z r'.world)) r.ledger.rows r'.ledger.rows (length r.history.log)
  numbering h sane n = numbers (word z r.world name.Epoch) (record {
    new = undrawn (word z r.world) r.ledger.rows _ refl n;
    links = links_kept (Activity.Rebalance (Rebalance.Replace Replace.Number)) h sane (λ c. c) (λ q c. c) (λ q c. c) (λ q c. c);
    states = λ q. state_kept (Activity.Rebalance (Rebalance.Replace Replace.Number)) h sane q (λ c. c);
    fates = λ q. fate_stays (Activity.Rebalance (Rebalance.Replace Replace.Number)) h q (λ c. c);
    visits = λ t. others_stay (Activity.Rebalance (Rebalance.Replace Replace.Number)) h t (λ c e. c);
    drawn = number_of_drawn h;
    others = λ k d. other_numbers h k d;
  })

  -- one that retires a row that it replaced
  pub retiring : Happens z r r' s choice l l' (Activity.Rebalance (Rebalance.Replace Replace.Retire)) → IsSane z r.world → IsState (state.Retired l.rebalance.number) → kw_rows.IsDead r.ledger.rows l.rebalance.hand → IsNumbered r.ledger.rows l.rebalance.hand l.rebalance.number →
      Event (rows_in (word z r.world)) (rows_in (word z r'.world)) r.ledger.rows r'.ledger.rows (length r.history.log)
  retiring h sane small dead number = retires l.rebalance.hand l.rebalance.number (record {
    dead = dead;
    number = number;
    sets = sets_state (Activity.Rebalance (Rebalance.Replace Replace.Retire)) h sane (λ c. c) (λ q c. c) (λ q c. c) (λ q c. c) l.rebalance.hand (λ q d c. d c) (row.Retired l.rebalance.number) (word_says _ (state.Retired l.rebalance.number) small (retired h));
    ledger = ledger_kept (Activity.Rebalance (Rebalance.Replace Replace.Retire)) h (λ q c. c) (λ c. c) (λ c. c);
  })
