-- Every event keeps what each seat knows of the retired row that it asks for, and that no row of a
-- group which a seat has replaced is retired before the seat does so.
--
-- A dead row that stays dead keeps its state, unless it is retired now: each exchange of a state
-- expects one that no dead row has, but for the one that frees a retired row, after which the row
-- is not dead.
use Rattle.std.proofs.Common.{ℕ, ◌≡◌, ◌≢◌, ◌⊎◌, inl, inr, ◌+◌, ◌<◌, ◌≤◌, Option, Some, None, arith, refl, sym, ◌∙◌, ap, subst, length, length-set, get_or, slice_get}
use Rattle.std.proofs.lemmas.Bool.{cases_eq, cases_lt}
use Rattle.std.proofs.lemmas.Option.{same_Some, slice_get-get_or, slice_get_within}
use Rattle.kw_words.specs.declared.layout.Name.TheVariants as name
use Rattle.kw_words.specs.declared.state.State.{State}
use Rattle.kw_words.specs.declared.state.State.TheVariants as state
use Rattle.kw_words.specs.Link.{link_of}
use Rattle.kw_words.specs.Plain.{pass_of_word}
use Rattle.kw_words.specs.State.{IsState, state_of, state_word}
use Rattle.kw_words.proofs.LinkWords.{link_word_of}
use Rattle.kw_words.proofs.PlainWords.{number_of_word-number_word}
use Rattle.kw_words.proofs.StateWords.{state_word_of}
use Rattle.kw_rows.specs.Group.{Group}
use Rattle.kw_rows.specs.Ledger.{Dead, Fate, IsDead, IsFresh, IsHeld, IsLive, Ledger, Live, WasHeld}
use Rattle.kw_rows.specs.RowState as row
use Rattle.kw_rows.specs.RowState.{IsEngaged}
use Rattle.kw_rows.specs.Rows.{Rows}
use Rattle.kw_rows.specs.States.{IsDeadState, IsNumbered, States}
use Rattle.kw_rows.proofs.Framed as framed
use Rattle.kw_rows.proofs.Named.{held_by}
use Rattle.kw_world.specs.declared.activity.Activity.{Activity}
use Rattle.kw_world.specs.declared.activity.rebalance.claim.Claim.TheVariants as Claim
use Rattle.kw_world.specs.declared.activity.rebalance.engage.Engage.TheVariants as Engage
use Rattle.kw_world.specs.declared.activity.enter.Enter.TheVariants as Enter
use Rattle.kw_world.specs.declared.activity.rebalance.Rebalance.TheVariants as Rebalance
use Rattle.kw_world.specs.declared.activity.rebalance.replace.Replace.TheVariants as Replace
use Rattle.kw_world.specs.declared.activity.rebalance.seek.Seek.TheVariants as Seek
use Rattle.kw_world.specs.declared.activity.draw.Draw.TheVariants as Draw
use Rattle.kw_world.specs.declared.activity.look.Look.TheVariants as Look
use Rattle.kw_world.specs.declared.event.Choice.{Choice}
use Rattle.kw_world.specs.declared.local.Local.{Local}
use Rattle.kw_world.specs.declared.rebalance.Afterwards.{Afterwards}
use Rattle.kw_world.specs.ClaimTransitions.{row_after}
use Rattle.kw_world.specs.ReplaceTransitions.{replaced_link}
use Rattle.kw_world.specs.Sane.{IsActivity}
use Rattle.kw_world.specs.SeekTransitions.{infant}
use Rattle.kw_world.specs.Sizes.{Sizes}
use Rattle.kw_world.specs.Step.{word}
use Rattle.kw_world.specs.WriteTransitions.{unmarked_link}
use Rattle.kw_core.specs.Ledger as ledger
use Rattle.kw_core.specs.Run.{Run}
use Rattle.kw_core.specs.Stages.{IsVisiting}
use Rattle.kw_core.specs.Words.{Words}
use Rattle.kw_core.proofs.Arrows.{Arrow}
use Rattle.kw_core.proofs.Building.{Building, IsBuilding, IsYoung, first_is_free, first_is_retired, first_is_taken, sought_is_free, sought_is_retired, sought_is_taken, pass_is_old, pass_is_young, frees_row, takes_row, loses_row, gives_last_back, writes_first, writes_entry, writes_no_cell, writes_after, begins_before, takes_head_before, leads_on_marked, leads_nowhere, walks_past, is_marked_before, is_replaced}
use Rattle.kw_core.proofs.Fates.{ChangesFate, DrawsNumber, fate_of_freed, fate_stays, none_freed, numbers_stay, others_stay}
use Rattle.kw_core.proofs.Happens.{Happens, not_exchanged}
use Rattle.kw_core.proofs.InfantFrames.{ChangesState, normal_lost, not_freed, taken_lost}
use Rattle.kw_core.proofs.NextBuilt.{GivenBack, is_refused_rows, moves_left, tries_again, NextBack, gives_back, has_none, has_looked, looks_on, NextSeek, asks, has_asked, NextTaken, has_enough, wants_more, NextNewCell, empties, fills, has_cells, NextNewEntry, has_entries, writes_idle, NextNewRow, has_written, writes_row, NextBefore, is_behind, is_first, was_done, was_served}
use Rattle.kw_shape.proofs.BuildEvents.{dead_by_state, free_by_state, seat_fits, state_kept, states_still, word_says}
use Rattle.kw_shape.proofs.Comings.{Comes, comes, goes_on, seeks, stays_out, won_builds}
use Rattle.kw_shape.proofs.InfantsRely.{linked_not_infant}
use Rattle.kw_shape.proofs.LinkedRows.{GoesNow, balance_at, dead_before, full_live, hand_infant, held_dead, linked_keeps, linked_not_free, named_to_retire, retire_fresh, sought_at}
use Rattle.kw_shape.proofs.Hands.{ahead_other}
use Rattle.kw_shape.proofs.VisitsKeep.{old_number, visiting_busy}
use Rattle.kw_shape.proofs.RelyRows.{is_visiting}
use Rattle.kw_shape.proofs.RowsKeep.{others_kept, visit_begins, visit_ends, visit_taken_back, won_at}
use Rattle.kw_shape.proofs.WonKeep.{WonBy, has_ahead, has_next, has_number, to_retire_won, was_last, wins_now, won_by}
use Rattle.kw_shape.specs.Balances.{led}
use Rattle.kw_shape.specs.Hands.{IsOfGroup, IsToRetire}
use Rattle.kw_shape.specs.Infants.{IsInfantOf}
use Rattle.kw_shape.specs.RowsIn.{rows_in, state_seen}
use Rattle.kw_shape.specs.Shape.{Shape}
use Rattle.kw_shape.specs.Sought.{HasLooked, IsAsking, IsTaking, Sought}
use Rattle.kw_shape.specs.Won.{HasWon}

-- a dead row has no other state
not_dead_state : {A : Type 0} (w : Rows) (g : Ledger) (q : ℕ) (t : row.State) → States w g → IsDead g q → w.state q ≡ t → (IsDeadState g q t → ⊥) → A
not_dead_state w g q t states d e n = absurd (n (subst (IsDeadState g q) e (framed.dead_state w g q states d)))

-- a state that is read as retired is so
retired_seen : (x : Option State) (m : ℕ) → state_seen x ≡ row.Retired m → x ≡ Some (state.Retired m)
retired_seen (Some state.Free) m e = absurd (cc)
retired_seen (Some (state.Infant seat)) m e = absurd (cc)
retired_seen (Some state.Normal) m e = absurd (cc)
retired_seen (Some (state.Leader count)) m e = absurd (cc)
retired_seen (Some (state.Follower leader)) m e = absurd (cc)
retired_seen (Some (state.Retired number)) m e = ap (λ n. Some (state.Retired n)) (same_number number m e)
  where
    same_number : (n m : ℕ) → row.Retired n ≡ row.Retired m → n ≡ m
    same_number n m e = cc
retired_seen None m e = absurd (cc)

-- each row of a group that is in the list is led, alone or not, or goes along
group_engaged : (w : Rows) (g : Ledger) (l : Local) → IsLive g l.row → Group w g (led l.row l.rebalance.second l.rebalance.after) → (q : ℕ) → IsOfGroup l q → IsEngaged (w.state q)
group_engaged w g l live k q o = saw l.rebalance.second k o
  where
    alone : {B : Type 0} → (w.state l.row ≡ row.Leader 1) ⊎ (w.state l.row ≡ row.Leader 2) × B → q ≡ l.row → IsEngaged (w.state q)
    alone (inl f) e = subst IsEngaged (sym (ap w.state e ∙ f)) tt
    alone (inr f) e = subst IsEngaged (sym (ap w.state e ∙ f.0)) tt

    saw : (x : Option ℕ) → Group w g (led l.row x l.rebalance.after) → (q ≡ l.row) ⊎ (x ≡ Some q) → IsEngaged (w.state q)
    saw None m (inl e) = alone (m.1 live).either e
    saw None m (inr e) = let y : None ≡ Some q = e in absurd (cc)
    saw (Some c) m (inl e) = subst IsEngaged (sym (ap w.state e ∙ (m.2 live).leads)) tt
    saw (Some c) m (inr e) = subst IsEngaged (sym (ap w.state (sym (same_Some c q e)) ∙ (m.2 live).follows)) tt

-- Where a seat asks for a row.

looking_asks : (a : Activity) (j : ℕ) → HasLooked a j → IsAsking a
looking_asks (Activity.Rebalance (Rebalance.Seek (Seek.Pass i))) j x = tt
looking_asks (Activity.Rebalance (Rebalance.Seek Seek.Reclaim)) j x = tt
looking_asks (Activity.Look Look.Key) j x = absurd x
looking_asks _ j x = absurd x

asking_visits : (a : Activity) → IsAsking a → IsVisiting a
asking_visits (Activity.Rebalance (Rebalance.Seek (Seek.Pass i))) x = tt
asking_visits (Activity.Rebalance (Rebalance.Seek Seek.Reclaim)) x = tt
asking_visits (Activity.Draw Draw.Clock) x = absurd x
asking_visits (Activity.Rebalance (Rebalance.Engage Engage.Clock)) x = absurd x
asking_visits _ x = absurd x

taking_visits : (a : Activity) → IsTaking a → IsVisiting a
taking_visits (Activity.Rebalance (Rebalance.Seek Seek.Take)) x = tt
taking_visits _ x = absurd x

asking_builds : (a : Activity) → IsAsking a → IsBuilding a
asking_builds (Activity.Rebalance (Rebalance.Seek (Seek.Pass i))) x = tt
asking_builds (Activity.Rebalance (Rebalance.Seek Seek.Reclaim)) x = tt
asking_builds (Activity.Draw Draw.Clock) x = absurd x
asking_builds (Activity.Rebalance (Rebalance.Engage Engage.Clock)) x = absurd x
asking_builds _ x = absurd x

taking_builds : (a : Activity) → IsTaking a → IsBuilding a
taking_builds (Activity.Rebalance (Rebalance.Seek Seek.Take)) x = tt
taking_builds _ x = absurd x

-- Elsewhere it knows nothing.

abbrev pub IsElsewhere : Activity → Type 0
IsElsewhere a = (IsAsking a → ⊥) × (IsTaking a → ⊥)

pub unsought : (z : Sizes) (v : Words) (g : Ledger) (t : ℕ) (a : Activity) (l : Local) → IsElsewhere a → Sought z v g t a l
unsought z v g t a l n = record { drawn = λ x. absurd (n.0 x); young = λ j since at o x. absurd (n.0 (looking_asks a j x)); asked = λ x. absurd (n.0 x); taken = λ x. absurd (n.1 x) }

given_elsewhere : (c : Afterwards) (k next : Local) → GivenBack k c next → IsElsewhere next.activity
given_elsewhere c k next (tries_again nd) = (λ x. x, λ x. x)
given_elsewhere c k next (was_done dn) = (λ x. x, λ x. x)
given_elsewhere c k next (is_refused_rows nd) = (λ x. x, λ x. x)
given_elsewhere c k next (was_served dn) = (λ x. x, λ x. x)
given_elsewhere c k next moves_left = (λ x. x, λ x. x)

back_elsewhere : (c : Afterwards) (k next : Local) → NextBack c k next → IsElsewhere next.activity
back_elsewhere c k next (gives_back o) = (λ x. x, λ x. x)
back_elsewhere c k next (has_none m o y) = given_elsewhere c k next y

seek_elsewhere : (rows : ℕ) (k next : Local) → NextSeek rows k next → IsElsewhere next.activity
seek_elsewhere rows k next (asks o) = (λ x. x, λ x. x)
seek_elsewhere rows k next (has_asked m o y) = back_elsewhere _ k next y

taken_elsewhere : (rows : ℕ) (k next : Local) → NextTaken rows k next → IsElsewhere next.activity
taken_elsewhere rows k next (wants_more m o y) = seek_elsewhere rows k next y
taken_elsewhere rows k next (has_enough o) = (λ x. x, λ x. x)

row_elsewhere : (k next : Local) → NextNewRow k next → IsElsewhere next.activity
row_elsewhere k next (writes_row o) = (λ x. x, λ x. x)
row_elsewhere k next (has_written o) = (λ x. x, λ x. x)

cell_elsewhere : (z : Sizes) (j : ℕ) (k next : Local) → NextNewCell z j k next → IsElsewhere next.activity
cell_elsewhere z j k next (fills o p) = (λ x. x, λ x. x)
cell_elsewhere z j k next (empties o p) = (λ x. x, λ x. x)
cell_elsewhere z j k next (has_cells m o y) = row_elsewhere k next y

entry_elsewhere : (z : Sizes) (j : ℕ) (k next : Local) → NextNewEntry z j k next → IsElsewhere next.activity
entry_elsewhere z j k next (writes_idle o) = (λ x. x, λ x. x)
entry_elsewhere z j k next (has_entries m o y) = cell_elsewhere z 0 k next y

before_elsewhere : (q : ℕ) (k next : Local) → NextBefore q k next → IsElsewhere next.activity
before_elsewhere q k next (is_first e) = (λ x. x, λ x. x)
before_elsewhere q k next (is_behind d) = (λ x. x, λ x. x)

-- a dead row is not the one whose word says another state
other_row : (z : Sizes) (r : Run) → Shape z r → (x q : ℕ) (t : State) → IsState t → (IsDeadState r.ledger.rows q (state_seen (Some t)) → ⊥) → IsDead r.ledger.rows q → word z r.world (name.State x) ≡ state_word t → q ≡ x → ⊥
other_row z r i x q t small n d e c = not_dead_state (rows_in (word z r.world)) r.ledger.rows q (state_seen (Some t)) i.rows.states d (word_says _ t small (ap (λ y. word z r.world (name.State y)) c ∙ e)) n

-- a row that went in the visit of the seat did so, as long as its fate and the visit stay
held_still : (g g' : Ledger) (t q : ℕ) → WasHeld g t q → g'.fates q ≡ g.fates q → g'.visits t ≡ g.visits t → WasHeld g' t q
held_still g g' t q w e p = record { since = w.since; dead = ap (λ (f : Fate). f.status) e ∙ w.dead; visits = p ∙ w.visits; before = omega (arith, w.before, ap (λ (f : Fate). f.gone) e) }

module _ {z : Sizes} {r r' : Run} {s : ℕ} {choice : Choice} {l l' : Local} where
  -- an exchange of the state of the row x, which expects one that no dead row has
  exchange_leaves : (a : Activity) → Happens z r r' s choice l l' a → Shape z r → (x q : ℕ) (t : State) → IsState t → (IsDeadState r.ledger.rows q (state_seen (Some t)) → ⊥) → ((y : ℕ) → y ≢ x → ChangesState a s l y → ⊥) → ((y : ℕ) → ChangesState a s l y → y ≡ x) →
      (word z r.world (name.State x) ≢ state_word t → word z r'.world (name.State x) ≡ word z r.world (name.State x)) → IsDead r.ledger.rows q → (rows_in (word z r'.world)).state q ≡ (rows_in (word z r.world)).state q
  exchange_leaves a h i x q t small n others here lost d = which (cases_eq (word z r.world (name.State x)) (state_word t))
    where
      which : (word z r.world (name.State x) ≡ state_word t) ⊎ (word z r.world (name.State x) ≡ state_word t → ⊥) → (rows_in (word z r'.world)).state q ≡ (rows_in (word z r.world)).state q
      which (inl e) = state_kept a h i.sane q (λ c. other_row z r i x q t small n d e (here q c))
      which (inr f) = states_still a h i.sane x others (lost f) q

  -- the state of a row that is dead before and after the event stays, unless the event retires it
  pub dead_state : (a : Activity) → Happens z r r' s choice l l' a → Shape z r → (q : ℕ) → IsDead r.ledger.rows q → IsDead r'.ledger.rows q → (a ≡ Activity.Rebalance (Rebalance.Replace Replace.Retire) → q ≡ l.rebalance.hand → ⊥) → (rows_in (word z r'.world)).state q ≡ (rows_in (word z r.world)).state q
  dead_state (Activity.Rebalance (Rebalance.Engage (Engage.Normal seat))) h i q d o n = exchange_leaves (Activity.Rebalance (Rebalance.Engage (Engage.Normal seat))) h i l.row q (state.Infant seat) small (λ c. c) (λ y e c. e c) (λ y c. c) (λ f. not_exchanged _ _ _ _ h.changed.same f) d
    where
      small : IsState (state.Infant seat)
      small = let k = subst (λ b. IsActivity z b) h.activity (i.sane.locals s l h.knows).ranges.activity in omega (arith, k, i.sane.sized.few_seats)
  dead_state (Activity.Rebalance (Rebalance.Claim (Claim.Normal seat))) h i q d o n = exchange_leaves (Activity.Rebalance (Rebalance.Claim (Claim.Normal seat))) h i (row_after l) q (state.Infant seat) small (λ c. c) (λ y e c. e c) (λ y c. c) (λ f. not_exchanged _ _ _ _ h.changed.same f) d
    where
      small : IsState (state.Infant seat)
      small = let k = subst (λ b. IsActivity z b) h.activity (i.sane.locals s l h.knows).ranges.activity in omega (arith, k, i.sane.sized.few_seats)
  dead_state (Activity.Rebalance (Rebalance.Claim Claim.Exchange)) h i q d o n = exchange_leaves (Activity.Rebalance (Rebalance.Claim Claim.Exchange)) h i (row_after l) q state.Normal tt (λ c. c) (λ y e c. e c) (λ y c. c) (λ f. not_exchanged _ _ _ _ h.changed.same f) d
  dead_state (Activity.Rebalance (Rebalance.Engage Engage.Lead)) h i q d o n = exchange_leaves (Activity.Rebalance (Rebalance.Engage Engage.Lead)) h i l.row q state.Normal tt (λ c. c) (λ y e c. e c) (λ y c. c) (λ f. not_exchanged _ _ _ _ h.changed.same f) d
  dead_state (Activity.Rebalance (Rebalance.Engage (Engage.Decide count))) h i q d o n = exchange_leaves (Activity.Rebalance (Rebalance.Engage (Engage.Decide count))) h i l.row q (state.Leader 0) (omega arith) (λ c. absurd (omega (arith, c))) (λ y e c. e c) (λ y c. c) (λ f. not_exchanged _ _ _ _ h.changed.same f) d
  dead_state (Activity.Rebalance (Rebalance.Seek Seek.Take)) h i q d o n = exchange_leaves (Activity.Rebalance (Rebalance.Seek Seek.Take)) h i l.rebalance.sought q state.Free tt (λ c. c) (λ y e c. e c) (λ y c. c) (λ f. taken_lost h f) d
  dead_state (Activity.Rebalance (Rebalance.Seek Seek.Reclaim)) h i q d o n = which (cases_eq (word z r.world (name.State l.rebalance.sought)) (state_word (state.Retired l.rebalance.number)))
    where
      -- a row that is freed is dead no more
      free : word z r.world (name.State l.rebalance.sought) ≡ state_word (state.Retired l.rebalance.number) → q ≡ l.rebalance.sought → ⊥
      free e c = linked_not_free r'.ledger.rows q (inr o) (ap (λ y. (r'.ledger.rows.fates y).status) c ∙ ap (λ (f : Fate). f.status) (fate_of_freed h e))

      which : (word z r.world (name.State l.rebalance.sought) ≡ state_word (state.Retired l.rebalance.number)) ⊎ (word z r.world (name.State l.rebalance.sought) ≡ state_word (state.Retired l.rebalance.number) → ⊥) → (rows_in (word z r'.world)).state q ≡ (rows_in (word z r.world)).state q
      which (inl e) = state_kept (Activity.Rebalance (Rebalance.Seek Seek.Reclaim)) h i.sane q (free e)
      which (inr f) = states_still (Activity.Rebalance (Rebalance.Seek Seek.Reclaim)) h i.sane l.rebalance.sought (λ y d c. d c) (not_freed h f) q
  dead_state (Activity.Rebalance (Rebalance.Replace Replace.Normalise)) h i q d o n = exchange_leaves (Activity.Rebalance (Rebalance.Replace Replace.Normalise)) h i (infant l) q (state.Infant s) (seat_fits (Activity.Rebalance (Rebalance.Replace Replace.Normalise)) h i.sane) (λ c. c) (λ y e c. e c) (λ y c. c) (λ f. normal_lost h f) d
  dead_state (Activity.Rebalance (Rebalance.Seek Seek.GiveBack)) h i q d o n = state_kept (Activity.Rebalance (Rebalance.Seek Seek.GiveBack)) h i.sane q (λ c. linked_not_infant r.ledger.rows s q (inr d) (subst (IsInfantOf r.ledger.rows s) (sym c) (hand_infant (Activity.Rebalance (Rebalance.Seek Seek.GiveBack)) h i tt)))
  dead_state (Activity.Rebalance (Rebalance.Replace Replace.Retire)) h i q d o n = state_kept (Activity.Rebalance (Rebalance.Replace Replace.Retire)) h i.sane q (λ c. n refl c)
  dead_state a h i q d o n = state_kept a h i.sane q (λ c. c)

  -- The rows of a group that a seat has replaced.

  -- one that is dead and held stays engaged, where the event does not retire it
  stays_engaged : (a : Activity) → Happens z r r' s choice l l' a → Shape z r → (q : ℕ) → IsHeld r.ledger.rows q → IsDead r.ledger.rows q → (a ≡ Activity.Rebalance (Rebalance.Replace Replace.Retire) → q ≡ l.rebalance.hand → ⊥) → IsEngaged ((rows_in (word z r.world)).state q) → IsEngaged ((rows_in (word z r'.world)).state q)
  stays_engaged a h i q held d n e =
      let after : IsDead r'.ledger.rows q = ap (λ (f : Fate). f.status) (held_dead _ _ r.ledger.rows r'.ledger.rows q held d (linked_keeps a h i q (inr d))) ∙ d in
      subst IsEngaged (sym (dead_state a h i q d after n)) e

  -- what its winner has not retired is not retired: of two winners of one row the owner tells that
  -- they are one
  pub unretired_other : (a : Activity) → Happens z r r' s choice l l' a → Shape z r → (t : ℕ) (k : Local) → t ≢ s → slice_get r.world.locals t ≡ Some k → (q : ℕ) → IsToRetire k.activity k q → IsEngaged ((rows_in (word z r'.world)).state q)
  unretired_other a h i t k d g q x =
      let w = i.won t k g in
      stays_engaged a h i q (held_by r.ledger.rows t q (retire_fresh z r i t k g q x)) (w.dead q x) retires (i.unretired t k g q x)
    where
      retires : a ≡ Activity.Rebalance (Rebalance.Replace Replace.Retire) → q ≡ l.rebalance.hand → ⊥
      retires e c =
          let own = (won_at (Activity.Rebalance (Rebalance.Replace Replace.Retire)) (subst (Happens z r r' s choice l l') e h) i).owner l.rebalance.hand (inl refl) in
          d (sym ((i.won t k g).owner q x) ∙ ap (λ y. (r.ledger.rows.fates y).owner) c ∙ own)

  -- a row that is replaced is led, alone or not, or goes along
  replaced_engaged : Happens z r r' s choice l l' (Activity.Rebalance (Rebalance.Replace Replace.Exchange)) → Shape z r → link_of (word z r.world (replaced_link l.rebalance.before)) ≡ Some (unmarked_link (Some l.row)) → (q : ℕ) → IsOfGroup l q → IsEngaged ((rows_in (word z r'.world)).state q)
  replaced_engaged h i e q o =
      subst IsEngaged (sym (state_kept (Activity.Rebalance (Rebalance.Replace Replace.Exchange)) h i.sane q (λ c. c))) (group_engaged (rows_in (word z r.world)) r.ledger.rows l live (balance_at (Activity.Rebalance (Rebalance.Replace Replace.Exchange)) h i).group q o)
    where
      live : IsLive r.ledger.rows l.row
      live = full_live h i (sym (link_word_of (word z r.world (replaced_link l.rebalance.before)) (unmarked_link (Some l.row)) e))

  pub unretired_own : (a : Activity) → Arrow z (word z r.world) s choice l a l' → Happens z r r' s choice l l' a → Shape z r → (q : ℕ) → IsToRetire l'.activity l' q → IsEngaged ((rows_in (word z r'.world)).state q)
  unretired_own a b h i q x = which (comes z (word z r.world) s choice l a l' b)
    where
      stays : (c : Activity) → Happens z r r' s choice l l' c → (c ≡ Activity.Rebalance (Rebalance.Replace Replace.Retire) → q ≡ l.rebalance.hand → ⊥) → IsToRetire c l q → IsEngaged ((rows_in (word z r'.world)).state q)
      stays c y n w =
          let o = subst (λ d. IsToRetire d l q) (sym y.activity) w in
          stays_engaged c y i q (held_by r.ledger.rows s q (named_to_retire c y i q w)) ((won_at c y i).dead q w) n (i.unretired s l h.knows q o)

      -- the row ahead is not the one that is retired now
      ahead : (p : ℕ) → Happens z r r' s choice l l' (Activity.Rebalance (Rebalance.Replace Replace.Retire)) → l.rebalance.ahead ≡ Some p → q ≡ p → IsEngaged ((rows_in (word z r'.world)).state q)
      ahead p y e c = stays (Activity.Rebalance (Rebalance.Replace Replace.Retire)) y (λ f u. ahead_other l p ((balance_at (Activity.Rebalance (Rebalance.Replace Replace.Retire)) y i).hands tt) ((balance_at (Activity.Rebalance (Rebalance.Replace Replace.Retire)) y i).apart tt) e (sym c ∙ u)) (inr (e ∙ ap Some (sym c)))

      by : (c : Activity) (k : Local) → WonBy (word z r.world) l c k → Happens z r r' s choice l l' c → IsToRetire k.activity k q → IsEngaged ((rows_in (word z r'.world)).state q)
      by c k (wins_now e) y w = replaced_engaged y i e q w
      by c k (has_next o) y w = stays (Activity.Rebalance (Rebalance.Replace Replace.Normalise)) y (λ e. absurd (cc)) w
      by c k was_last y w = stays (Activity.Rebalance (Rebalance.Replace Replace.Normalise)) y (λ e. absurd (cc)) w
      by c k has_number y w = stays (Activity.Rebalance (Rebalance.Replace Replace.Number)) y (λ e. absurd (cc)) w
      by c k (has_ahead p e) y (inl w) = ahead p y e w
      by c k (has_ahead p e) y (inr w) = let f : None ≡ Some q = w in absurd (cc)

      which : Comes z (word z r.world) choice l a l' → IsEngaged ((rows_in (word z r'.world)).state q)
      which (stays_out n) = absurd (n (won_builds l'.activity (to_retire_won l'.activity l' q x)))
      which (seeks e t) = absurd (subst HasWon e (to_retire_won l'.activity l' q x))
      which (goes_on o t) = by a l' (won_by z (word z r.world) choice l a l' t (to_retire_won l'.activity l' q x)) h x

  -- A seat that the table does not have.

  -- is in no visit still
  pub outside_stays : (a : Activity) → Happens z r r' s choice l l' a → Shape z r → (t : ℕ) → length r'.world.locals ≤ t → r'.ledger.rows.visits t ≡ None
  outside_stays a h i t o = others_kept a h t (λ e. absurd (omega (arith, e, o, here, seats))) ∙ i.outside t (omega (arith, o, seats))
    where
      seats : length r'.world.locals ≡ length r.world.locals
      seats = ap length h.locals ∙ length-set r.world.locals s l'

      here : s < length r.world.locals
      here = slice_get_within r.world.locals s l h.knows

  -- The visit of the next seat.

  -- a seat that is in no visit, or whose word says an epoch above the number, has none that began
  -- before the number was drawn
  pub looked : (j : ℕ) → Happens z r r' s choice l l' (Activity.Rebalance (Rebalance.Seek (Seek.Pass j))) → Shape z r → IsYoung l.rebalance.number (pass_of_word (word z r.world (name.Pass j))) → (since at : ℕ) → r.ledger.rows.visits j ≡ Some since → r.ledger.rows.numbered l.rebalance.number ≡ Some at → at < since
  looked j h i young since at p n = which (cases_lt j (length r.world.locals))
    where
      here : (k : Local) → slice_get r.world.locals j ≡ Some k → IsVisiting k.activity ⊎ (IsVisiting k.activity → ⊥) → at < since
      here k g (inl x) =
          let q = i.visits j k g in
          let e : pass_of_word (word z r.world (name.Pass j)) ≡ Some k.epoch = ap pass_of_word (q.in_visit x).word ∙ number_of_word-number_word (Some k.epoch) (q.epoch (visiting_busy k.activity x)).0 in
          q.before l.rebalance.number at since (subst (IsYoung l.rebalance.number) e young) n p
      here k g (inr o) = let x : None ≡ Some since = sym ((i.visits j k g).in_none o).visits ∙ p in absurd (cc)

      none : length r.world.locals ≤ j → at < since
      none o = let x : None ≡ Some since = sym (i.outside j o) ∙ p in absurd (cc)

      which : (j < length r.world.locals) ⊎ (length r.world.locals ≤ j) → at < since
      which (inl o) = here (get_or r.world.locals j l) (slice_get-get_or r.world.locals j l o) (is_visiting (get_or r.world.locals j l).activity)
      which (inr o) = none o

  -- What a seat knows of the row that it asks for.

  -- a row that goes now went in each visit that is on, and was so before the event
  goes_held : (t q : ℕ) → (a : Activity) → Happens z r r' s choice l l' a → Shape z r → (since : ℕ) → r.ledger.rows.visits t ≡ Some since → r'.ledger.rows.visits t ≡ Some since → GoesNow r.ledger.rows r'.ledger.rows s (length r.history.log) q → WasHeld r'.ledger.rows t q
  goes_held t q a h i since p p' y = record {
    since = since;
    dead = ap (λ (f : Fate). f.status) y.fate;
    visits = p';
    before = omega (arith, i.rows.past.begun t since p, ap (λ (f : Fate). f.gone) y.fate);
  }

  -- the row, if it is dead, is retired with the number or went in the visit of the seat: so it is
  -- after the event
  asked_after : (a : Activity) → Happens z r r' s choice l l' a → Shape z r → (t q m since : ℕ) → r.ledger.rows.visits t ≡ Some since → r'.ledger.rows.visits t ≡ r.ledger.rows.visits t →
      (IsDead r.ledger.rows q → ((rows_in (word z r.world)).state q ≡ row.Retired m) ⊎ WasHeld r.ledger.rows t q) → IsDead r'.ledger.rows q → ((rows_in (word z r'.world)).state q ≡ row.Retired m) ⊎ WasHeld r'.ledger.rows t q
  asked_after a h i t q m since p same was d = which (dead_before a h i q d)
    where
      -- a row that is retired now was not retired before
      retires : (rows_in (word z r.world)).state q ≡ row.Retired m → a ≡ Activity.Rebalance (Rebalance.Replace Replace.Retire) → q ≡ l.rebalance.hand → ⊥
      retires e c f = let x : IsEngaged ((rows_in (word z r.world)).state q) = i.unretired s l h.knows q (subst (λ b. IsToRetire b l q) (sym (h.activity ∙ c)) (inl f)) in subst IsEngaged e x

      stays : r'.ledger.rows.fates q ≡ r.ledger.rows.fates q → ((rows_in (word z r.world)).state q ≡ row.Retired m) ⊎ WasHeld r.ledger.rows t q → IsDead r.ledger.rows q → ((rows_in (word z r'.world)).state q ≡ row.Retired m) ⊎ WasHeld r'.ledger.rows t q
      stays f (inl e) k = inl (dead_state a h i q k d (retires e) ∙ e)
      stays f (inr w) k = inr (held_still r.ledger.rows r'.ledger.rows t q w f same)

      which : IsDead r.ledger.rows q × (r'.ledger.rows.fates q ≡ r.ledger.rows.fates q) ⊎ GoesNow r.ledger.rows r'.ledger.rows s (length r.history.log) q → ((rows_in (word z r'.world)).state q ≡ row.Retired m) ⊎ WasHeld r'.ledger.rows t q
      which (inl x) = stays x.1 (was x.0) x.0
      which (inr y) = inr (goes_held t q a h i since p (same ∙ p) y)

  -- the row, if it is dead, went in the visit of the seat: so it is after the event
  taken_after : (a : Activity) → Happens z r r' s choice l l' a → Shape z r → (t q since : ℕ) → r.ledger.rows.visits t ≡ Some since → r'.ledger.rows.visits t ≡ r.ledger.rows.visits t → (IsDead r.ledger.rows q → WasHeld r.ledger.rows t q) → IsDead r'.ledger.rows q → WasHeld r'.ledger.rows t q
  taken_after a h i t q since p same was d = which (dead_before a h i q d)
    where
      which : IsDead r.ledger.rows q × (r'.ledger.rows.fates q ≡ r.ledger.rows.fates q) ⊎ GoesNow r.ledger.rows r'.ledger.rows s (length r.history.log) q → WasHeld r'.ledger.rows t q
      which (inl x) = held_still r.ledger.rows r'.ledger.rows t q (was x.0) x.1 same
      which (inr y) = goes_held t q a h i since p (same ∙ p) y

  -- a visit that is on after the event was on before, or begins now, after all numbers that were
  -- drawn
  visit_now : (a : Activity) → Happens z r r' s choice l l' a → Shape z r → (j since m at : ℕ) → r'.ledger.rows.visits j ≡ Some since → r.ledger.rows.numbered m ≡ Some at → (r.ledger.rows.visits j ≡ Some since → at < since) → at < since
  visit_now (Activity.Enter Enter.Announce) h i j since m at p n f = which (cases_eq j s)
    where
      which : (j ≡ s) ⊎ (j ≡ s → ⊥) → at < since
      which (inl c) = omega (arith, i.rows.past.drawn m at n, same_Some (length r.history.log) since (sym (visit_begins h) ∙ ap r'.ledger.rows.visits (sym c) ∙ p))
      which (inr d) = f (sym (others_kept (Activity.Enter Enter.Announce) h j d) ∙ p)
  visit_now (Activity.Leave answer) h i j since m at p n f = which (cases_eq j s)
    where
      which : (j ≡ s) ⊎ (j ≡ s → ⊥) → at < since
      which (inl c) = let x : None ≡ Some since = sym (visit_ends answer h) ∙ ap r'.ledger.rows.visits (sym c) ∙ p in absurd (cc)
      which (inr d) = f (sym (others_kept (Activity.Leave answer) h j d) ∙ p)
  visit_now Activity.Retry h i j since m at p n f = which (cases_eq j s)
    where
      which : (j ≡ s) ⊎ (j ≡ s → ⊥) → at < since
      which (inl c) = let x : None ≡ Some since = sym (visit_taken_back h) ∙ ap r'.ledger.rows.visits (sym c) ∙ p in absurd (cc)
      which (inr d) = f (sym (others_kept Activity.Retry h j d) ∙ p)
  visit_now a h i j since m at p n f = f (sym (others_stay a h j (λ x e. x)) ∙ p)

  -- What a seat knows that is in its visit before and after the event, and whose row and number
  -- stay.
  stays_known : (a : Activity) → Happens z r r' s choice l l' a → Shape z r → (t since : ℕ) (b : Activity) (k : Local) → r.ledger.rows.visits t ≡ Some since → r'.ledger.rows.visits t ≡ r.ledger.rows.visits t → Sought z (word z r.world) r.ledger.rows t b k → Sought z (word z r'.world) r'.ledger.rows t b k
  stays_known a h i t since b k p same x = record {
    drawn = λ o. let y = x.drawn o in (y.0, kept o ∙ y.1);
    young = λ j u at o c e n. let m = sym (kept (looking_asks b j c)) ∙ n in visit_now a h i j u k.rebalance.number at e m (λ f. x.young j u at o c f m);
    asked = λ o. asked_after a h i t k.rebalance.sought k.rebalance.number since p same (x.asked o);
    taken = λ o. taken_after a h i t k.rebalance.sought since p same (x.taken o);
  }
    where
      kept : IsAsking b → r'.ledger.rows.numbered k.rebalance.number ≡ r.ledger.rows.numbered k.rebalance.number
      kept o = let y = x.drawn o in old_number a h k.rebalance.number (i.numbers.below k.rebalance.number y.0 y.1)

  -- another seat
  pub sought_other : (a : Activity) → Happens z r r' s choice l l' a → Shape z r → (t : ℕ) (k : Local) → t ≢ s → slice_get r.world.locals t ≡ Some k → Sought z (word z r'.world) r'.ledger.rows t k.activity k
  sought_other a h i t k d g = which (is_visiting k.activity)
    where
      which : IsVisiting k.activity ⊎ (IsVisiting k.activity → ⊥) → Sought z (word z r'.world) r'.ledger.rows t k.activity k
      which (inl x) = let p = (i.visits t k g).in_visit x in stays_known a h i t p.since k.activity k p.visits (others_kept a h t d) (i.sought t k g)
      which (inr n) = unsought z (word z r'.world) r'.ledger.rows t k.activity k (λ o. n (asking_visits k.activity o), λ o. n (taking_visits k.activity o))

  -- The acting seat.

  -- it finds a row free
  finds_free : (a : Activity) (q : ℕ) (k : Local) → Happens z r r' s choice l l' a → Shape z r → (ChangesFate a l q → ⊥) → state_of (word z r.world (name.State q)) ≡ Some state.Free → k.rebalance.sought ≡ q → Sought z (word z r'.world) r'.ledger.rows s (Activity.Rebalance (Rebalance.Seek Seek.Take)) k
  finds_free a q k h i n e c = record {
    drawn = λ x. absurd x;
    young = λ j since at o x. absurd x;
    asked = λ x. absurd x;
    taken = λ x d.
        let free = free_by_state (rows_in (word z r.world)) r.ledger.rows q i.rows.states (ap state_seen e) in
        linked_not_free r'.ledger.rows q (inr (subst (IsDead r'.ledger.rows) c d)) (ap (λ (f : Fate). f.status) (fate_stays a h q n) ∙ free);
  }

  -- it finds one retired
  finds_retired : (a : Activity) (q m : ℕ) (k : Local) → Happens z r r' s choice l l' a → Shape z r → (ChangesState a s l q → ⊥) → (DrawsNumber a → ⊥) → state_of (word z r.world (name.State q)) ≡ Some (state.Retired m) → k.rebalance.sought ≡ q → k.rebalance.number ≡ m → Sought z (word z r'.world) r'.ledger.rows s (Activity.Rebalance (Rebalance.Seek (Seek.Pass 0))) k
  finds_retired a q m k h i n o e c f = record {
    drawn = λ x. (number.at, ap r'.ledger.rows.numbered f ∙ numbers_stay a h o m ∙ number.drawn);
    young = λ j since at u x. absurd (omega (arith, x));
    asked = λ x d. inl (ap (rows_in (word z r'.world)).state c ∙ state_kept a h i.sane q n ∙ ap state_seen e ∙ ap row.Retired (sym f));
    taken = λ x. absurd x;
  }
    where
      number : IsNumbered r.ledger.rows q m
      number =
          let d = dead_by_state (rows_in (word z r.world)) r.ledger.rows q m i.rows.states (ap state_seen e) in
          subst (IsDeadState r.ledger.rows q) (ap state_seen e) (framed.dead_state (rows_in (word z r.world)) r.ledger.rows q i.rows.states d)

  -- it has looked at one visit more, which was none, or began after the number was drawn
  looks_further : (j : ℕ) (b : Activity) → Happens z r r' s choice l l' (Activity.Rebalance (Rebalance.Seek (Seek.Pass j))) → Shape z r → IsYoung l.rebalance.number (pass_of_word (word z r.world (name.Pass j))) → IsAsking b → (IsTaking b → ⊥) → ((u : ℕ) → u < z.seats → HasLooked b u → u < j + 1) → Sought z (word z r'.world) r'.ledger.rows s b (record l { activity = b })
  looks_further j b h i y o n f = record {
    drawn = λ c. known.drawn tt;
    young = λ u since at w c p m. which u since at w p m (f u w c) (cases_eq u j);
    asked = λ c. known.asked tt;
    taken = λ c. absurd (n c);
  }
    where
      on : (since : ℕ) × (r.ledger.rows.visits s ≡ Some since)
      on = let q = (i.visits s l h.knows).in_visit (subst IsVisiting (sym h.activity) tt) in (q.since, q.visits)

      known : Sought z (word z r'.world) r'.ledger.rows s (Activity.Rebalance (Rebalance.Seek (Seek.Pass j))) l
      known = stays_known (Activity.Rebalance (Rebalance.Seek (Seek.Pass j))) h i s on.0 (Activity.Rebalance (Rebalance.Seek (Seek.Pass j))) l on.1 (others_stay (Activity.Rebalance (Rebalance.Seek (Seek.Pass j))) h s (λ c e. c)) (sought_at (Activity.Rebalance (Rebalance.Seek (Seek.Pass j))) h i)

      kept : r'.ledger.rows.numbered l.rebalance.number ≡ r.ledger.rows.numbered l.rebalance.number
      kept = numbers_stay (Activity.Rebalance (Rebalance.Seek (Seek.Pass j))) h (λ c. c) l.rebalance.number

      which : (u since at : ℕ) → u < z.seats → r'.ledger.rows.visits u ≡ Some since → r'.ledger.rows.numbered l.rebalance.number ≡ Some at → u < j + 1 → (u ≡ j) ⊎ (u ≡ j → ⊥) → at < since
      which u since at w q m c (inl d) = looked j h i y since at (ap r.ledger.rows.visits (sym d) ∙ sym (others_stay (Activity.Rebalance (Rebalance.Seek (Seek.Pass j))) h u (λ c e. c)) ∙ q) (sym kept ∙ m)
      which u since at w q m c (inr d) = known.young u since at w (omega (arith, c, d)) q m

  -- it has freed the row, or tried to
  has_freed : Happens z r r' s choice l l' (Activity.Rebalance (Rebalance.Seek Seek.Reclaim)) → Shape z r → (k : Local) → k.rebalance.sought ≡ l.rebalance.sought → Sought z (word z r'.world) r'.ledger.rows s (Activity.Rebalance (Rebalance.Seek Seek.Take)) k
  has_freed h i k c = record {
    drawn = λ x. absurd x;
    young = λ j since at o x. absurd x;
    asked = λ x. absurd x;
    taken = λ x d. subst (WasHeld r'.ledger.rows s) (sym c) (which (cases_eq (word z r.world (name.State l.rebalance.sought)) (state_word (state.Retired l.rebalance.number))) (subst (IsDead r'.ledger.rows) c d));
  }
    where
      lost : r'.ledger ≡ r.ledger → (word z r.world (name.State l.rebalance.sought) ≢ state_word (state.Retired l.rebalance.number)) → ((rows_in (word z r.world)).state l.rebalance.sought ≡ row.Retired l.rebalance.number) ⊎ WasHeld r.ledger.rows s l.rebalance.sought → WasHeld r'.ledger.rows s l.rebalance.sought
      lost e n (inl f) = absurd (n (sym (state_word_of (word z r.world (name.State l.rebalance.sought)) (state.Retired l.rebalance.number) (retired_seen (state_of (word z r.world (name.State l.rebalance.sought))) l.rebalance.number f))))
      lost e n (inr w) = held_still r.ledger.rows r'.ledger.rows s l.rebalance.sought w (ap (λ (g : ledger.Ledger). g.rows.fates l.rebalance.sought) e) (ap (λ (g : ledger.Ledger). g.rows.visits s) e)

      which : (word z r.world (name.State l.rebalance.sought) ≡ state_word (state.Retired l.rebalance.number)) ⊎ (word z r.world (name.State l.rebalance.sought) ≡ state_word (state.Retired l.rebalance.number) → ⊥) → IsDead r'.ledger.rows l.rebalance.sought → WasHeld r'.ledger.rows s l.rebalance.sought
      which (inl e) d = linked_not_free r'.ledger.rows l.rebalance.sought (inr d) (ap (λ (f : Fate). f.status) (fate_of_freed h e))
      which (inr n) d = let e = none_freed h n in lost e n ((sought_at (Activity.Rebalance (Rebalance.Seek Seek.Reclaim)) h i).asked tt (subst (λ (g : ledger.Ledger). IsDead g.rows l.rebalance.sought) e d))

  -- by the event that it makes
  sought_built : (a : Activity) (k : Local) → Building z (word z r.world) choice l a k → Happens z r r' s choice l l' a → Shape z r → Sought z (word z r'.world) r'.ledger.rows s k.activity k
  sought_built a k (first_is_free q c e) h i = finds_free (Activity.Rebalance (Rebalance.Seek Seek.First)) q _ h i (λ x. x) e refl
  sought_built a k (sought_is_free e) h i = finds_free (Activity.Rebalance (Rebalance.Seek Seek.Next)) l.rebalance.sought _ h i (λ x. x) e refl
  sought_built a k (first_is_retired q m c e) h i = finds_retired (Activity.Rebalance (Rebalance.Seek Seek.First)) q m _ h i (λ x. x) (λ x. x) e refl refl
  sought_built a k (sought_is_retired m e) h i = finds_retired (Activity.Rebalance (Rebalance.Seek Seek.Next)) l.rebalance.sought m _ h i (λ x. x) (λ x. x) e refl refl
  sought_built a k (pass_is_young j next y (looks_on o)) h i = looks_further j (Activity.Rebalance (Rebalance.Seek (Seek.Pass (j + 1)))) h i y tt (λ x. x) (λ u w c. c)
  sought_built a k (pass_is_young j next y (has_looked o)) h i = looks_further j (Activity.Rebalance (Rebalance.Seek Seek.Reclaim)) h i y tt (λ x. x) (λ u w c. omega (arith, w, o))
  sought_built a k frees_row h i = has_freed h i _ refl
  sought_built a k (first_is_taken q rows next c n y) h i = unsought z _ r'.ledger.rows s _ next (seek_elsewhere rows _ next y)
  sought_built a k (sought_is_taken rows next n y) h i = unsought z _ r'.ledger.rows s _ next (seek_elsewhere rows _ next y)
  sought_built a k (pass_is_old j epoch rows next e o y) h i = unsought z _ r'.ledger.rows s _ next (seek_elsewhere rows _ next y)
  sought_built a k (takes_row rows next e y) h i = unsought z _ r'.ledger.rows s _ next (taken_elsewhere rows _ next y)
  sought_built a k (loses_row rows next d y) h i = unsought z _ r'.ledger.rows s _ next (seek_elsewhere rows _ next y)
  sought_built a k (gives_last_back next o y) h i = unsought z _ r'.ledger.rows s _ next (given_elsewhere _ l next y)
  sought_built a k (writes_first next y) h i = unsought z _ r'.ledger.rows s _ next (entry_elsewhere z 0 l next y)
  sought_built a k (writes_entry j next y) h i = unsought z _ r'.ledger.rows s _ next (entry_elsewhere z (j + 1) l next y)
  sought_built a k (writes_no_cell j next o y) h i = unsought z _ r'.ledger.rows s _ next (cell_elsewhere z (j + 1) l next y)
  sought_built a k (writes_after j next y) h i = unsought z _ r'.ledger.rows s _ next (cell_elsewhere z (j + 1) l next y)
  sought_built a k (begins_before next y) h i = unsought z _ r'.ledger.rows s _ next (before_elsewhere _ l next y)
  sought_built a k (takes_head_before next y) h i = unsought z _ r'.ledger.rows s _ next (before_elsewhere _ l next y)
  sought_built a k (leads_on_marked next f y) h i = unsought z _ r'.ledger.rows s _ next (back_elsewhere _ l next y)
  sought_built a k (leads_nowhere next f y) h i = unsought z _ r'.ledger.rows s _ next (back_elsewhere _ l next y)
  sought_built a k (walks_past next o y) h i = unsought z _ r'.ledger.rows s _ next (back_elsewhere _ l next y)
  sought_built a k (is_marked_before next f y) h i = unsought z _ r'.ledger.rows s _ next (back_elsewhere _ l next y)
  sought_built a k (is_replaced next d y) h i = unsought z _ r'.ledger.rows s _ next (back_elsewhere _ l next y)
  sought_built a k _ h i = unsought z _ r'.ledger.rows s _ _ (λ x. x, λ x. x)

  -- so it knows what it should
  pub sought_own : (a : Activity) → Arrow z (word z r.world) s choice l a l' → Happens z r r' s choice l l' a → Shape z r → Sought z (word z r'.world) r'.ledger.rows s l'.activity l'
  sought_own a b h i = which (comes z (word z r.world) s choice l a l' b)
    where
      which : Comes z (word z r.world) choice l a l' → Sought z (word z r'.world) r'.ledger.rows s l'.activity l'
      which (stays_out n) = unsought z _ r'.ledger.rows s l'.activity l' (λ x. n (asking_builds l'.activity x), λ x. n (taking_builds l'.activity x))
      which (seeks e t) = unsought z _ r'.ledger.rows s l'.activity l' (λ x. subst IsAsking e x, λ x. subst IsTaking e x)
      which (goes_on o t) = sought_built a l' t h i

-- What is so of a retired row that a seat may name.

-- its number is not below the epoch of the seat
pub fresh_late : (z : Sizes) (r : Run) → Shape z r → (t q n : ℕ) (k : Local) → slice_get r.world.locals t ≡ Some k → IsFresh r.ledger.rows t q → (rows_in (word z r.world)).state q ≡ row.Retired n → k.epoch ≤ n
fresh_late z r i t q n k g f e = which f (cases_lt n k.epoch)
  where
    dead : IsDead r.ledger.rows q
    dead = dead_by_state (rows_in (word z r.world)) r.ledger.rows q n i.rows.states e

    number : IsNumbered r.ledger.rows q n
    number = subst (IsDeadState r.ledger.rows q) e (framed.dead_state (rows_in (word z r.world)) r.ledger.rows q i.rows.states dead)

    which : IsFresh r.ledger.rows t q → (n < k.epoch) ⊎ (k.epoch ≤ n) → k.epoch ≤ n
    which (inl a) o = let x : Live ≡ Dead = sym a ∙ dead in absurd (cc)
    which (inr w) (inl o) = absurd (omega (arith, w.before, number.after, (i.visits t k g).before n number.at w.since o number.drawn w.visits))
    which (inr w) (inr o) = o

-- so is that of a row that a seat tries to take
pub retakes : (z : Sizes) (r : Run) → Shape z r → (t n : ℕ) (k : Local) → slice_get r.world.locals t ≡ Some k → k.activity ≡ Activity.Rebalance (Rebalance.Seek Seek.Take) → (rows_in (word z r.world)).state k.rebalance.sought ≡ row.Retired n → k.epoch ≤ n
retakes z r i t n k g e f =
    let d = dead_by_state (rows_in (word z r.world)) r.ledger.rows k.rebalance.sought n i.rows.states f in
    fresh_late z r i t k.rebalance.sought n k g (inr ((i.sought t k g).taken (subst IsTaking (sym e) tt) d)) f
