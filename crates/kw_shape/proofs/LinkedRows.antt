-- What an event leaves of the rows that were linked: no fate of theirs changes but those of rows of
-- a group that is replaced, which are dead from now on, and that of a dead row that nobody may name
-- and that is freed. And which words of them an event may change that takes, writes or links new
-- rows.
--
-- The rows on which such an event acts are free, or retired and named by nobody, or infants of the
-- seat, or rows of its group, or the row before that.
use Rattle.std.proofs.Common.{ℕ, ◌≡◌, ◌<◌, ◌≤◌, true, Option, Some, ◌∙◌, ◌≢◌, ◌⊎◌, inl, inr, false, None, arith, refl, sym, ap, subst, length, slice_get, zero, suc, ◌+◌}
use Rattle.kw_words.specs.declared.count.Count.{Count as Counted}
use Rattle.kw_words.specs.declared.layout.Name.TheVariants as name
use Rattle.kw_words.specs.declared.pend.Pend.TheVariants as pend
use Rattle.kw_words.specs.Count.{count_of}
use Rattle.kw_words.specs.Pend.{pend_word}
use Rattle.kw_rows.specs.Rows.{Chain, IsBefore, WasLinked}
use Rattle.kw_world.specs.declared.activity.Activity.{Activity}
use Rattle.kw_world.specs.declared.activity.rebalance.freeze.Freeze.TheVariants as Freeze
use Rattle.kw_world.specs.declared.activity.insert.Insert.TheVariants as Insert
use Rattle.kw_world.specs.declared.activity.look.Look.TheVariants as Look
use Rattle.kw_world.specs.declared.activity.put.Put.TheVariants as Put
use Rattle.kw_world.specs.declared.activity.rebalance.Rebalance.TheVariants as Rebalance
use Rattle.kw_world.specs.declared.activity.rebalance.write.Write.TheVariants as Write
use Rattle.kw_world.specs.declared.event.Choice.{Choice}
use Rattle.kw_world.specs.declared.local.Local.{Local}
use Rattle.kw_world.specs.ListTransitions.{link_name}
use Rattle.kw_world.specs.Sane.{IsCellBelow}
use Rattle.kw_world.specs.Sizes.{Sizes}
use Rattle.kw_world.specs.Step.{word}
use Rattle.kw_core.specs.Run.{Run}
use Rattle.kw_core.specs.Stages.{IsAtRow, IsHelp, IsInsSet, IsInsert, IsPastStart, IsPutClear, IsPutVersion}
use Rattle.kw_core.specs.Words.{Words, built_in, given_in, least_in}
use Rattle.kw_core.proofs.Frame.{WritesKey, WritesOwnEntry, WritesValue, unwritten}
use Rattle.kw_core.proofs.FreezeFrame.{ChangesCount, CountStep, FreezesEntry, count_asked, count_frozen, count_frozen_now, count_more, count_same, frozen_by, frozen_entry_lasts, given_by}
use Rattle.kw_core.proofs.Happens.{Happens}
use Rattle.kw_core.proofs.InfantFrames.{count_stays, entry_stays, key_stays, link_stays, row_in, row_stays, value_stays, version_stays}
use Rattle.kw_shape.specs.Keyed.{list_row}
use Rattle.kw_shape.specs.Shape.{HoldsKey, IsAtItsRow, IsKind, IsPutCall, Shape}
use Rattle.std.proofs.lemmas.Bool.{cases_eq, cases_lt}
use Rattle.kw_words.specs.declared.layout.Name.{Name}
use Rattle.kw_words.specs.declared.state.State.TheVariants as state
use Rattle.kw_words.specs.Layout.{IsWithin}
use Rattle.kw_words.specs.Link.{link_of, link_word}
use Rattle.kw_words.specs.Plain.{built_of_word, key_of_word}
use Rattle.kw_words.specs.State.{state_word}
use Rattle.kw_words.proofs.LinkWords.{link_of-link_word}
use Rattle.kw_rows.specs.Events.{IsIn}
use Rattle.kw_rows.specs.Group.{Group}
use Rattle.kw_rows.specs.Ledger.{Dead, Fate, Free, IsDead, IsFresh, IsHeld, IsLive, Ledger, Live}
use Rattle.kw_rows.specs.RowState as row
use Rattle.kw_rows.proofs.Chains.{IsLink, leads_live}
use Rattle.kw_rows.proofs.Framed.{retired_no}
use Rattle.kw_rows.proofs.Lists.{in_or_not}
use Rattle.kw_world.specs.declared.activity.rebalance.replace.Replace.TheVariants as Replace
use Rattle.kw_world.specs.declared.activity.rebalance.seek.Seek.TheVariants as Seek
use Rattle.kw_world.specs.ReplaceTransitions.{replaced_link}
use Rattle.kw_world.specs.SeekTransitions.{infant}
use Rattle.kw_world.specs.Transition.{row_linked}
use Rattle.kw_world.specs.WriteTransitions.{unmarked_link}
use Rattle.kw_core.specs.Ledger as ledger
use Rattle.kw_core.specs.Ledger.{fate_dead, fate_free, fate_live, group_of}
use Rattle.kw_core.proofs.Building.{IsBuilding}
use Rattle.kw_core.proofs.Fates.{fate_of_freed, fate_of_full, fate_of_given, fate_of_new, fate_of_taken, fate_stays, none_freed, none_replaced, none_taken}
use Rattle.kw_shape.proofs.BuildEvents.{dead_by_state, free_by_state, least_word, word_says}
use Rattle.kw_shape.proofs.Hands.{HasGroup, group_balances, group_fresh, group_live, hand_of_group, of_group, retire_balances, retire_of_group, view_led}
use Rattle.kw_shape.proofs.InfantsStay.{infant_at, is_state, row_link}
use Rattle.kw_shape.proofs.InfantsRely.{index_of_row, linked_not_infant, no_state}
use Rattle.kw_shape.proofs.ReplaceEvent.{exchanged_head}
use Rattle.kw_shape.specs.Balances.{Balances}
use Rattle.kw_shape.specs.Hands.{HasHand, IsOfGroup, IsToRetire}
use Rattle.kw_shape.specs.Infants.{GivesBack, HasAtHand, Infants, IsInfantOf, IsNursed, Nursing, Writes, nursing_of}
use Rattle.kw_shape.specs.RowsIn.{has_frozen, has_mark, rows_in}
use Rattle.kw_shape.specs.Search.{Search}
use Rattle.kw_shape.specs.Sought.{Sought}
use Rattle.std.proofs.lemmas.Option.{same_Some}
use Rattle.kw_model.specs.declared.call.Call.{Call}
use Rattle.kw_model.specs.declared.call.Call.TheVariants.{Del, Get, Pin, Put, Scan, ScanAt, Unpin}
use Rattle.kw_world.specs.Calls.{first_key, is_scan}
use Rattle.kw_shape.specs.ReachedRows.{IsReached, is_first, is_next}

-- a row that was linked is not free
pub linked_not_free : {A : Type 0} (g : Ledger) (q : ℕ) → WasLinked g q → (g.fates q).status ≡ Free → A
linked_not_free g q (inl e) f = let x : Live ≡ Free = sym e ∙ f in absurd (cc)
linked_not_free g q (inr e) f = let x : Dead ≡ Free = sym e ∙ f in absurd (cc)

-- a row that a seat may name was linked
pub fresh_linked : (g : Ledger) (t q : ℕ) → IsFresh g t q → WasLinked g q
fresh_linked g t q (inl a) = inl a
fresh_linked g t q (inr h) = inr h.dead

-- a row that was linked is one of the table
pub was_below : (z : Sizes) (r : Run) → Shape z r → (q : ℕ) → WasLinked r.ledger.rows q → q < r.world.rows
was_below z r i q k = which (cases_lt q r.world.rows)
  where
    which : (q < r.world.rows) ⊎ (r.world.rows ≤ q) → q < r.world.rows
    which (inl o) = o
    which (inr o) = linked_not_free r.ledger.rows q k (i.beyond q o)

-- The row is dead, and nobody may name it; it is free from now on. All else that is recorded of it
-- stays until it is taken again.
pub record FreesNow (g g' : Ledger) (q : ℕ) : Type 0 where
  pub dead : IsDead g q
  pub unheld : IsHeld g q → ⊥
  pub fate : g'.fates q ≡ fate_free (g.fates q)

-- what stays of a row that was linked: the events that took and linked it, its range, its clock,
-- and that it gives no more cells. And, unless it is freed, that it was linked, and what has become
-- of it if it is dead
pub record StaysLinked (v v' : Words) (g g' : Ledger) (q : ℕ) : Type 0 where
  pub linked : WasLinked g' q ⊎ FreesNow g g' q
  pub dead : IsDead g q → WasLinked g' q → g'.fates q ≡ g.fates q
  pub taken : (g'.fates q).taken ≡ (g.fates q).taken
  pub born : (g'.fates q).born ≡ (g.fates q).born
  pub upper : (g'.fates q).upper ≡ (g.fates q).upper
  pub clock : (g'.fates q).clock ≡ (g.fates q).clock
  pub least : least_in v' q ≡ least_in v q
  pub built : built_in v' q ≡ built_in v q
  pub frozen : (rows_in v).frozen q ≡ true → (rows_in v').frozen q ≡ true

-- a row that some seat may name is not freed
pub held_linked : (v v' : Words) (g g' : Ledger) (q : ℕ) → IsHeld g q → StaysLinked v v' g g' q → WasLinked g' q
held_linked v v' g g' q o x = which x.linked
  where
    which : WasLinked g' q ⊎ FreesNow g g' q → WasLinked g' q
    which (inl k) = k
    which (inr f) = absurd (f.unheld o)

-- so if it is dead, it is as it was
pub held_dead : (v v' : Words) (g g' : Ledger) (q : ℕ) → IsHeld g q → IsDead g q → StaysLinked v v' g g' q → g'.fates q ≡ g.fates q
held_dead v v' g g' q o d x = x.dead d (held_linked v v' g g' q o x)

-- the row was in the list, and is dead from this position on
pub record GoesNow (g g' : Ledger) (s now q : ℕ) : Type 0 where
  pub live : IsLive g q
  pub fate : g'.fates q ≡ fate_dead s now (g.fates q)

-- the row is one of those that the seat took, and is in the list from this position on
pub record ComesNow (v : Words) (g g' : Ledger) (s now : ℕ) (l : Local) (a : Activity) (q : ℕ) : Type 0 where
  pub replaces : a ≡ Activity.Rebalance (Rebalance.Replace Replace.Exchange)
  pub won : v (replaced_link l.rebalance.before) ≡ link_word (unmarked_link (Some l.row))
  pub taken : IsIn l.rebalance.taken q
  pub infant : IsInfantOf g s q
  pub fate : g'.fates q ≡ fate_live v now q (g.fates q)

-- what becomes of a row that was linked: its fate stays, or it is replaced now, or freed now
abbrev pub BecomesNow : Ledger → Ledger → ℕ → ℕ → ℕ → Type 0
BecomesNow g g' s now q = (g'.fates q ≡ g.fates q) ⊎ GoesNow g g' s now q ⊎ FreesNow g g' q

-- a row whose fate is as it was
linked_same : (g g' : Ledger) (q : ℕ) → g'.fates q ≡ g.fates q → WasLinked g' q → WasLinked g q
linked_same g g' q e (inl x) = inl (sym (ap (λ (f : Fate). f.status) e) ∙ x)
linked_same g g' q e (inr x) = inr (sym (ap (λ (f : Fate). f.status) e) ∙ x)

-- a part of the fate that a row keeps which is replaced or freed
fate_part : {A : Type 0} (g g' : Ledger) (s now q : ℕ) (f : Fate → A) → f (fate_dead s now (g.fates q)) ≡ f (g.fates q) → f (fate_free (g.fates q)) ≡ f (g.fates q) → BecomesNow g g' s now q → f (g'.fates q) ≡ f (g.fates q)
fate_part g g' s now q f e o (inl x) = ap f x
fate_part g g' s now q f e o (inr (inl x)) = ap f x.fate ∙ e
fate_part g g' s now q f e o (inr (inr x)) = ap f x.fate ∙ o

-- a frozen count stays frozen
frozen_on : (v v' : Words) (q : ℕ) → CountStep v v' q → (rows_in v).frozen q ≡ true → (rows_in v').frozen q ≡ true
frozen_on v v' q (count_same e) x = ap (λ w. has_frozen (count_of w)) e ∙ x
frozen_on v v' q (count_more c e f) x = ap has_frozen f ∙ sym (ap has_frozen e) ∙ x
frozen_on v v' q (count_frozen c e f) x = ap has_frozen f

-- a seat may name each row of its group
pub group_named : (z : Sizes) (r : Run) → Shape z r → (t : ℕ) (k : Local) → slice_get r.world.locals t ≡ Some k → HasGroup k.activity → (q : ℕ) → IsOfGroup k q → IsFresh r.ledger.rows t q
group_named z r i t k g x q o = let b = i.balances t k g in group_fresh (rows_in (word z r.world)) r.ledger.rows i.rows.closed t k (b.fresh (group_balances k.activity x)) (subst (Group (rows_in (word z r.world)) r.ledger.rows) (view_led k.activity k x) b.group) q o

-- and each row that it has still to retire
pub retire_fresh : (z : Sizes) (r : Run) → Shape z r → (t : ℕ) (k : Local) → slice_get r.world.locals t ≡ Some k → (q : ℕ) → IsToRetire k.activity k q → IsFresh r.ledger.rows t q
retire_fresh z r i t k g q x = which (retire_of_group k.activity k q b.hands x)
  where
    b : Balances (word z r.world) r.ledger.rows t k.activity k
    b = i.balances t k g

    which : IsOfGroup k q → IsFresh r.ledger.rows t q
    which (inl e) = subst (IsFresh r.ledger.rows t) (sym e) (b.fresh (retire_balances k.activity k q x))
    which (inr e) = b.along q (retire_balances k.activity k q x) e

-- the infant at hand is one that the seat took and has
hand_nursed : (n : Nursing) (l : Local) → HasAtHand n → IsNursed n l l.rebalance.at
hand_nursed GivesBack l x = omega arith
hand_nursed Writes l x = tt
hand_nursed _ l x = absurd x

module _ {z : Sizes} {r r' : Run} {s : ℕ} {choice : Choice} {l l' : Local} where
  -- What the seat knows at its activity.

  pub infants_at : (a : Activity) → Happens z r r' s choice l l' a → Shape z r → Infants z (word z r.world) r.ledger.rows s a l
  infants_at a h i = subst (λ b. Infants z (word z r.world) r.ledger.rows s b l) h.activity (i.infants s l h.knows)

  pub search_at : (a : Activity) → Happens z r r' s choice l l' a → Shape z r → Search (word z r.world) r.ledger.rows s a l
  search_at a h i = subst (λ b. Search (word z r.world) r.ledger.rows s b l) h.activity (i.search s l h.knows)

  -- what it knows of the rows that it rebalances
  pub balance_at : (a : Activity) → Happens z r r' s choice l l' a → Shape z r → Balances (word z r.world) r.ledger.rows s a l
  balance_at a h i = subst (λ b. Balances (word z r.world) r.ledger.rows s b l) h.activity (i.balances s l h.knows)

  -- it may name each row of its group
  pub named_of_group : (a : Activity) → HasGroup a → Happens z r r' s choice l l' a → Shape z r → (q : ℕ) → IsOfGroup l q → IsFresh r.ledger.rows s q
  named_of_group a x h i q o = group_named z r i s l h.knows (subst HasGroup (sym h.activity) x) q o

  -- and each that it has still to retire
  pub named_to_retire : (a : Activity) → Happens z r r' s choice l l' a → Shape z r → (q : ℕ) → IsToRetire a l q → IsFresh r.ledger.rows s q
  named_to_retire a h i q x = retire_fresh z r i s l h.knows q (subst (λ b. IsToRetire b l q) (sym h.activity) x)

  -- so it may name the row at hand
  group_hand : (a : Activity) → HasHand a → HasGroup a → Happens z r r' s choice l l' a → Shape z r → IsFresh r.ledger.rows s l.rebalance.hand
  group_hand a x y h i = named_of_group a y h i l.rebalance.hand (hand_of_group l ((balance_at a h i).hands x))

  pub named_hand : (a : Activity) → HasHand a → Happens z r r' s choice l l' a → Shape z r → IsFresh r.ledger.rows s l.rebalance.hand
  named_hand (Activity.Rebalance (Rebalance.Replace Replace.Number)) x h i = named_to_retire (Activity.Rebalance (Rebalance.Replace Replace.Number)) h i l.rebalance.hand (inl refl)
  named_hand (Activity.Rebalance (Rebalance.Replace Replace.Retire)) x h i = named_to_retire (Activity.Rebalance (Rebalance.Replace Replace.Retire)) h i l.rebalance.hand (inl refl)
  named_hand (Activity.Rebalance (Rebalance.Freeze _)) x h i = group_hand (Activity.Rebalance (Rebalance.Freeze _)) x tt h i
  named_hand (Activity.Rebalance (Rebalance.Gather _)) x h i = group_hand (Activity.Rebalance (Rebalance.Gather _)) x tt h i
  named_hand a x h i = absurd x

  -- its infant at hand
  pub hand_infant : (a : Activity) → Happens z r r' s choice l l' a → Shape z r → HasAtHand (nursing_of a) → IsInfantOf r.ledger.rows s (infant l)
  hand_infant a h i x = let y = infants_at a h i in y.owned l.rebalance.at (infant l) (hand_nursed (nursing_of a) l x) (infant_at l (y.hand x))

  -- so a row that was linked is not at hand
  pub not_hand : (a : Activity) → Happens z r r' s choice l l' a → Shape z r → HasAtHand (nursing_of a) → (q : ℕ) → WasLinked r.ledger.rows q → q ≢ infant l
  not_hand a h i x q k e = linked_not_infant r.ledger.rows s q k (subst (IsInfantOf r.ledger.rows s) (sym e) (hand_infant a h i x))

  -- nor is it one of those that the seat links
  pub not_taken : Happens z r r' s choice l l' (Activity.Rebalance (Rebalance.Replace Replace.Exchange)) → Shape z r → (q : ℕ) → WasLinked r.ledger.rows q → IsIn l.rebalance.taken q → ⊥
  not_taken h i q k y = let p = index_of_row l.rebalance.taken q y in linked_not_infant r.ledger.rows s q k ((infants_at (Activity.Rebalance (Rebalance.Replace Replace.Exchange)) h i).owned p.0 q tt p.1)

  -- nor one that is free
  not_sought : Happens z r r' s choice l l' (Activity.Rebalance (Rebalance.Seek Seek.Take)) → Shape z r → word z r.world (name.State l.rebalance.sought) ≡ state_word state.Free → (q : ℕ) → WasLinked r.ledger.rows q → q ≢ l.rebalance.sought
  not_sought h i e q k f = linked_not_free r.ledger.rows q k (free_by_state (rows_in (word z r.world)) r.ledger.rows q i.rows.states (word_says _ state.Free tt (ap (λ x. word z r.world (name.State x)) f ∙ e)))

  -- Where the group is replaced.

  -- the link that is exchanged is found unmarked
  pub found_open : Happens z r r' s choice l l' (Activity.Rebalance (Rebalance.Replace Replace.Exchange)) → Shape z r → word z r.world (replaced_link l.rebalance.before) ≡ link_word (unmarked_link (Some l.row)) → link_of (word z r.world (replaced_link l.rebalance.before)) ≡ Some (unmarked_link (Some l.row))
  found_open h i e = ap link_of e ∙ link_of-link_word (unmarked_link (Some l.row)) (row_link z r.world s l i.sane h.knows)

  -- so it is that of the head, or of a row of the list
  link_live : Happens z r r' s choice l l' (Activity.Rebalance (Rebalance.Replace Replace.Exchange)) → Shape z r → (b : Option ℕ) → l.rebalance.before ≡ b → link_of (word z r.world (replaced_link b)) ≡ Some (unmarked_link (Some l.row)) → IsLink r.ledger.rows b
  link_live h i None c f = tt
  link_live h i (Some p) c f = which ((search_at (Activity.Rebalance (Rebalance.Replace Replace.Exchange)) h i).fresh p tt c)
    where
      which : IsFresh r.ledger.rows s p → IsLive r.ledger.rows p
      which (inl a) = a
      which (inr d) = let x : true ≡ false = sym ((i.rows.marks p).buried d.dead).0 ∙ ap has_mark f in absurd (cc)

  -- and the full row is one
  pub full_live : Happens z r r' s choice l l' (Activity.Rebalance (Rebalance.Replace Replace.Exchange)) → Shape z r → word z r.world (replaced_link l.rebalance.before) ≡ link_word (unmarked_link (Some l.row)) → IsLive r.ledger.rows l.row
  full_live h i e =
      let f = found_open h i e in
      leads_live (rows_in (word z r.world)) r.ledger.rows i.rows.chain l.rebalance.before l.row (link_live h i l.rebalance.before refl f) (exchanged_head (word z r.world) l.rebalance.before ∙ ap row_linked f)

  -- and so is each row of the group
  pub rows_live : Happens z r r' s choice l l' (Activity.Rebalance (Rebalance.Replace Replace.Exchange)) → Shape z r → word z r.world (replaced_link l.rebalance.before) ≡ link_word (unmarked_link (Some l.row)) → (q : ℕ) → IsOfGroup l q → IsLive r.ledger.rows q
  rows_live h i e q o = group_live (rows_in (word z r.world)) r.ledger.rows i.rows.chain l (full_live h i e) (balance_at (Activity.Rebalance (Rebalance.Replace Replace.Exchange)) h i).group q o

  -- Where a retired row is freed.

  -- what the seat knows of it
  pub sought_at : (a : Activity) → Happens z r r' s choice l l' a → Shape z r → Sought z (word z r.world) r.ledger.rows s a l
  sought_at a h i = subst (λ b. Sought z (word z r.world) r.ledger.rows s b l) h.activity (i.sought s l h.knows)

  -- each visit that is on, of whatever seat, began after the number was drawn
  pub all_young : Happens z r r' s choice l l' (Activity.Rebalance (Rebalance.Seek Seek.Reclaim)) → Shape z r → (t since at : ℕ) → r.ledger.rows.visits t ≡ Some since → r.ledger.rows.numbered l.rebalance.number ≡ Some at → at < since
  all_young h i t since at p n = which (cases_lt t z.seats)
    where
      which : (t < z.seats) ⊎ (z.seats ≤ t) → at < since
      which (inl o) = (sought_at (Activity.Rebalance (Rebalance.Seek Seek.Reclaim)) h i).young t since at o tt p n
      which (inr o) = let x : None ≡ Some since = sym (i.outside t (omega (arith, o, i.sane.seats))) ∙ p in absurd (cc)

  -- the row is found retired
  pub found_retired : Happens z r r' s choice l l' (Activity.Rebalance (Rebalance.Seek Seek.Reclaim)) → Shape z r → word z r.world (name.State l.rebalance.sought) ≡ state_word (state.Retired l.rebalance.number) → (rows_in (word z r.world)).state l.rebalance.sought ≡ row.Retired l.rebalance.number
  found_retired h i e = word_says _ (state.Retired l.rebalance.number) (i.sane.locals s l h.knows).ranges.rebalance.number e

  -- so it was dead, and nobody may name it
  pub frees : Happens z r r' s choice l l' (Activity.Rebalance (Rebalance.Seek Seek.Reclaim)) → Shape z r → word z r.world (name.State l.rebalance.sought) ≡ state_word (state.Retired l.rebalance.number) → FreesNow r.ledger.rows r'.ledger.rows l.rebalance.sought
  frees h i e =
      let f = found_retired h i e in
      let d = dead_by_state (rows_in (word z r.world)) r.ledger.rows l.rebalance.sought l.rebalance.number i.rows.states f in
      record { dead = d; unheld = retired_no (rows_in (word z r.world)) r.ledger.rows l.rebalance.sought l.rebalance.number i.rows.states d f (all_young h i); fate = fate_of_freed h e }

  -- The fate of a row that was linked stays, unless the row is replaced or freed now.

  pub linked_fate : (a : Activity) → Happens z r r' s choice l l' a → Shape z r → (q : ℕ) → WasLinked r.ledger.rows q → BecomesNow r.ledger.rows r'.ledger.rows s (length r.history.log) q
  linked_fate (Activity.Rebalance (Rebalance.Seek Seek.Take)) h i q k = which (cases_eq (word z r.world (name.State l.rebalance.sought)) (state_word state.Free))
    where
      which : (word z r.world (name.State l.rebalance.sought) ≡ state_word state.Free) ⊎ (word z r.world (name.State l.rebalance.sought) ≡ state_word state.Free → ⊥) →
          BecomesNow r.ledger.rows r'.ledger.rows s (length r.history.log) q
      which (inl e) = inl (fate_stays (Activity.Rebalance (Rebalance.Seek Seek.Take)) h q (not_sought h i e q k))
      which (inr d) = inl (ap (λ (g : ledger.Ledger). g.rows.fates q) (none_taken h d))
  linked_fate (Activity.Rebalance (Rebalance.Seek Seek.Reclaim)) h i q k = which (cases_eq (word z r.world (name.State l.rebalance.sought)) (state_word (state.Retired l.rebalance.number))) (cases_eq q l.rebalance.sought)
    where
      which : (word z r.world (name.State l.rebalance.sought) ≡ state_word (state.Retired l.rebalance.number)) ⊎ (word z r.world (name.State l.rebalance.sought) ≡ state_word (state.Retired l.rebalance.number) → ⊥) →
          (q ≡ l.rebalance.sought) ⊎ (q ≡ l.rebalance.sought → ⊥) → BecomesNow r.ledger.rows r'.ledger.rows s (length r.history.log) q
      which (inl e) (inl c) = inr (inr (subst (FreesNow r.ledger.rows r'.ledger.rows) (sym c) (frees h i e)))
      which (inl e) (inr d) = inl (fate_stays (Activity.Rebalance (Rebalance.Seek Seek.Reclaim)) h q d)
      which (inr n) c = inl (ap (λ (g : ledger.Ledger). g.rows.fates q) (none_freed h n))
  linked_fate (Activity.Rebalance (Rebalance.Seek Seek.GiveBack)) h i q k = inl (fate_stays (Activity.Rebalance (Rebalance.Seek Seek.GiveBack)) h q (not_hand (Activity.Rebalance (Rebalance.Seek Seek.GiveBack)) h i tt q k))
  linked_fate (Activity.Rebalance (Rebalance.Replace Replace.Exchange)) h i q k = which (cases_eq (word z r.world (replaced_link l.rebalance.before)) (link_word (unmarked_link (Some l.row))))
    where
      acts : (IsIn (group_of l) q → ⊥) → IsIn (group_of l) q ⊎ IsIn l.rebalance.taken q → ⊥
      acts d (inl c) = d c
      acts d (inr c) = not_taken h i q k c

      here : word z r.world (replaced_link l.rebalance.before) ≡ link_word (unmarked_link (Some l.row)) → IsIn (group_of l) q ⊎ (IsIn (group_of l) q → ⊥) →
          BecomesNow r.ledger.rows r'.ledger.rows s (length r.history.log) q
      here e (inl c) = inr (inl (record { live = rows_live h i e q (of_group l q c); fate = fate_of_full h e q c }))
      here e (inr d) = inl (fate_stays (Activity.Rebalance (Rebalance.Replace Replace.Exchange)) h q (acts d))

      which : (word z r.world (replaced_link l.rebalance.before) ≡ link_word (unmarked_link (Some l.row))) ⊎ (word z r.world (replaced_link l.rebalance.before) ≡ link_word (unmarked_link (Some l.row)) → ⊥) →
          BecomesNow r.ledger.rows r'.ledger.rows s (length r.history.log) q
      which (inl e) = here e (in_or_not (group_of l) q)
      which (inr d) = inl (ap (λ (g : ledger.Ledger). g.rows.fates q) (none_replaced h d))
  linked_fate a h i q k = inl (fate_stays a h q (λ c. c))

  -- the word of its least key stays
  least_stays_there : (a : Activity) → Happens z r r' s choice l l' a → Shape z r → (q : ℕ) → WasLinked r.ledger.rows q → word z r'.world (name.Least q) ≡ word z r.world (name.Least q)
  least_stays_there (Activity.Rebalance (Rebalance.Write Write.Least)) h i q k = least_word (Activity.Rebalance (Rebalance.Write Write.Least)) h i.sane q (not_hand (Activity.Rebalance (Rebalance.Write Write.Least)) h i tt q k)
  least_stays_there a h i q k = least_word a h i.sane q (λ c. c)

  pub linked_least : (a : Activity) → Happens z r r' s choice l l' a → Shape z r → (q : ℕ) → WasLinked r.ledger.rows q → least_in (word z r'.world) q ≡ least_in (word z r.world) q
  linked_least a h i q k = ap key_of_word (least_stays_there a h i q k)

  pub linked_built : (a : Activity) → Happens z r r' s choice l l' a → Shape z r → (q : ℕ) → WasLinked r.ledger.rows q → built_in (word z r'.world) q ≡ built_in (word z r.world) q
  linked_built a h i q k = ap built_of_word (least_stays_there a h i q k)

  -- what becomes of its count: nobody writes it anew
  pub linked_count : (a : Activity) → Happens z r r' s choice l l' a → Shape z r → (q : ℕ) → WasLinked r.ledger.rows q → CountStep (word z r.world) (word z r'.world) q
  linked_count (Activity.Put Put.Add) h i q k = let o = was_below z r i q k in count_asked h q o (i.sane.each (name.Count q) o)
  linked_count (Activity.Rebalance (Rebalance.Freeze Freeze.Count)) h i q k = let o = was_below z r i q k in count_frozen_now h q o (i.sane.each (name.Count q) o)
  linked_count (Activity.Rebalance (Rebalance.Write Write.Count)) h i q k = count_same (count_stays (Activity.Rebalance (Rebalance.Write Write.Count)) h q (was_below z r i q k) (not_hand (Activity.Rebalance (Rebalance.Write Write.Count)) h i tt q k))
  linked_count a h i q k = count_same (count_stays a h q (was_below z r i q k) (λ c. c))

  -- all at once
  pub linked_keeps : (a : Activity) → Happens z r r' s choice l l' a → Shape z r → (q : ℕ) → WasLinked r.ledger.rows q → StaysLinked (word z r.world) (word z r'.world) r.ledger.rows r'.ledger.rows q
  linked_keeps a h i q k = record {
    linked = linked fate k;
    dead = λ d w. dead fate d w;
    taken = fate_part r.ledger.rows r'.ledger.rows s (length r.history.log) q (λ (f : Fate). f.taken) refl refl fate;
    born = fate_part r.ledger.rows r'.ledger.rows s (length r.history.log) q (λ (f : Fate). f.born) refl refl fate;
    upper = fate_part r.ledger.rows r'.ledger.rows s (length r.history.log) q (λ (f : Fate). f.upper) refl refl fate;
    clock = fate_part r.ledger.rows r'.ledger.rows s (length r.history.log) q (λ (f : Fate). f.clock) refl refl fate;
    least = linked_least a h i q k;
    built = linked_built a h i q k;
    frozen = frozen_on (word z r.world) (word z r'.world) q (linked_count a h i q k);
  }
    where
      fate : BecomesNow r.ledger.rows r'.ledger.rows s (length r.history.log) q
      fate = linked_fate a h i q k

      linked : BecomesNow r.ledger.rows r'.ledger.rows s (length r.history.log) q → WasLinked r.ledger.rows q → WasLinked r'.ledger.rows q ⊎ FreesNow r.ledger.rows r'.ledger.rows q
      linked (inl e) (inl x) = inl (inl (ap (λ (f : Fate). f.status) e ∙ x))
      linked (inl e) (inr x) = inl (inr (ap (λ (f : Fate). f.status) e ∙ x))
      linked (inr (inl g)) x = inl (inr (ap (λ (f : Fate). f.status) g.fate))
      linked (inr (inr f)) x = inr f

      dead : BecomesNow r.ledger.rows r'.ledger.rows s (length r.history.log) q → IsDead r.ledger.rows q → WasLinked r'.ledger.rows q → r'.ledger.rows.fates q ≡ r.ledger.rows.fates q
      dead (inl e) d w = e
      dead (inr (inl g)) d w = let x : Live ≡ Dead = sym g.live ∙ d in absurd (cc)
      dead (inr (inr f)) d w = linked_not_free r'.ledger.rows q w (ap (λ (f : Fate). f.status) f.fate)

  -- A row that was linked after the event was so before, or is one of those that are linked now.

  pub linked_before : (a : Activity) → Happens z r r' s choice l l' a → Shape z r → (q : ℕ) → WasLinked r'.ledger.rows q → WasLinked r.ledger.rows q ⊎ ComesNow (word z r.world) r.ledger.rows r'.ledger.rows s (length r.history.log) l a q
  linked_before (Activity.Rebalance (Rebalance.Seek Seek.Take)) h i q k = which (cases_eq (word z r.world (name.State l.rebalance.sought)) (state_word state.Free)) (cases_eq q l.rebalance.sought)
    where
      which : (word z r.world (name.State l.rebalance.sought) ≡ state_word state.Free) ⊎ (word z r.world (name.State l.rebalance.sought) ≡ state_word state.Free → ⊥) → (q ≡ l.rebalance.sought) ⊎ (q ≡ l.rebalance.sought → ⊥) →
          WasLinked r.ledger.rows q ⊎ ComesNow (word z r.world) r.ledger.rows r'.ledger.rows s (length r.history.log) l (Activity.Rebalance (Rebalance.Seek Seek.Take)) q
      which (inl e) (inl c) = linked_not_infant r'.ledger.rows s q k (subst (IsInfantOf r'.ledger.rows s) (sym c) (record { status = ap (λ (f : Fate). f.status) (fate_of_taken h e); owner = ap (λ (f : Fate). f.owner) (fate_of_taken h e) }))
      which (inl e) (inr d) = inl (linked_same r.ledger.rows r'.ledger.rows q (fate_stays (Activity.Rebalance (Rebalance.Seek Seek.Take)) h q d) k)
      which (inr d) c = inl (linked_same r.ledger.rows r'.ledger.rows q (ap (λ (g : ledger.Ledger). g.rows.fates q) (none_taken h d)) k)
  linked_before (Activity.Rebalance (Rebalance.Seek Seek.Reclaim)) h i q k = which (cases_eq (word z r.world (name.State l.rebalance.sought)) (state_word (state.Retired l.rebalance.number))) (cases_eq q l.rebalance.sought)
    where
      which : (word z r.world (name.State l.rebalance.sought) ≡ state_word (state.Retired l.rebalance.number)) ⊎ (word z r.world (name.State l.rebalance.sought) ≡ state_word (state.Retired l.rebalance.number) → ⊥) →
          (q ≡ l.rebalance.sought) ⊎ (q ≡ l.rebalance.sought → ⊥) → WasLinked r.ledger.rows q ⊎ ComesNow (word z r.world) r.ledger.rows r'.ledger.rows s (length r.history.log) l (Activity.Rebalance (Rebalance.Seek Seek.Reclaim)) q
      which (inl e) (inl c) = linked_not_free r'.ledger.rows q k (ap (λ x. (r'.ledger.rows.fates x).status) c ∙ ap (λ (f : Fate). f.status) (fate_of_freed h e))
      which (inl e) (inr d) = inl (linked_same r.ledger.rows r'.ledger.rows q (fate_stays (Activity.Rebalance (Rebalance.Seek Seek.Reclaim)) h q d) k)
      which (inr n) c = inl (linked_same r.ledger.rows r'.ledger.rows q (ap (λ (g : ledger.Ledger). g.rows.fates q) (none_freed h n)) k)
  linked_before (Activity.Rebalance (Rebalance.Seek Seek.GiveBack)) h i q k = which (cases_eq q (infant l))
    where
      which : (q ≡ infant l) ⊎ (q ≡ infant l → ⊥) → WasLinked r.ledger.rows q ⊎ ComesNow (word z r.world) r.ledger.rows r'.ledger.rows s (length r.history.log) l (Activity.Rebalance (Rebalance.Seek Seek.GiveBack)) q
      which (inl c) = linked_not_free r'.ledger.rows q k (ap (λ x. (r'.ledger.rows.fates x).status) c ∙ ap (λ (f : Fate). f.status) (fate_of_given h))
      which (inr d) = inl (linked_same r.ledger.rows r'.ledger.rows q (fate_stays (Activity.Rebalance (Rebalance.Seek Seek.GiveBack)) h q d) k)
  linked_before (Activity.Rebalance (Rebalance.Replace Replace.Exchange)) h i q k = which (cases_eq (word z r.world (replaced_link l.rebalance.before)) (link_word (unmarked_link (Some l.row))))
    where
      acts : (IsIn (group_of l) q → ⊥) → (IsIn l.rebalance.taken q → ⊥) → IsIn (group_of l) q ⊎ IsIn l.rebalance.taken q → ⊥
      acts d n (inl c) = d c
      acts d n (inr c) = n c

      here : word z r.world (replaced_link l.rebalance.before) ≡ link_word (unmarked_link (Some l.row)) → IsIn (group_of l) q ⊎ (IsIn (group_of l) q → ⊥) → IsIn l.rebalance.taken q ⊎ (IsIn l.rebalance.taken q → ⊥) →
          WasLinked r.ledger.rows q ⊎ ComesNow (word z r.world) r.ledger.rows r'.ledger.rows s (length r.history.log) l (Activity.Rebalance (Rebalance.Replace Replace.Exchange)) q
      here e (inl c) y = inl (fresh_linked r.ledger.rows s q (named_of_group (Activity.Rebalance (Rebalance.Replace Replace.Exchange)) tt h i q (of_group l q c)))
      here e (inr d) (inl y) = let p = index_of_row l.rebalance.taken q y in inr (record { replaces = refl; won = e; taken = y; infant = (infants_at (Activity.Rebalance (Rebalance.Replace Replace.Exchange)) h i).owned p.0 q tt p.1; fate = fate_of_new h e q y d })
      here e (inr d) (inr n) = inl (linked_same r.ledger.rows r'.ledger.rows q (fate_stays (Activity.Rebalance (Rebalance.Replace Replace.Exchange)) h q (acts d n)) k)

      which : (word z r.world (replaced_link l.rebalance.before) ≡ link_word (unmarked_link (Some l.row))) ⊎ (word z r.world (replaced_link l.rebalance.before) ≡ link_word (unmarked_link (Some l.row)) → ⊥) →
          WasLinked r.ledger.rows q ⊎ ComesNow (word z r.world) r.ledger.rows r'.ledger.rows s (length r.history.log) l (Activity.Rebalance (Rebalance.Replace Replace.Exchange)) q
      which (inl e) = here e (in_or_not (group_of l) q) (in_or_not l.rebalance.taken q)
      which (inr d) = inl (linked_same r.ledger.rows r'.ledger.rows q (ap (λ (g : ledger.Ledger). g.rows.fates q) (none_replaced h d)) k)
  linked_before a h i q k = inl (linked_same r.ledger.rows r'.ledger.rows q (fate_stays a h q (λ c. c)) k)

  -- a row that is dead now was so, and is as it was, or goes now
  pub dead_before : (a : Activity) → Happens z r r' s choice l l' a → Shape z r → (q : ℕ) → IsDead r'.ledger.rows q → IsDead r.ledger.rows q × (r'.ledger.rows.fates q ≡ r.ledger.rows.fates q) ⊎ GoesNow r.ledger.rows r'.ledger.rows s (length r.history.log) q
  dead_before a h i q d = which (linked_before a h i q (inr d))
    where
      fate : BecomesNow r.ledger.rows r'.ledger.rows s (length r.history.log) q → IsDead r.ledger.rows q × (r'.ledger.rows.fates q ≡ r.ledger.rows.fates q) ⊎ GoesNow r.ledger.rows r'.ledger.rows s (length r.history.log) q
      fate (inl e) = inl (sym (ap (λ (f : Fate). f.status) e) ∙ d, e)
      fate (inr (inl g)) = inr g
      fate (inr (inr f)) = linked_not_free r'.ledger.rows q (inr d) (ap (λ (f : Fate). f.status) f.fate)

      which : WasLinked r.ledger.rows q ⊎ ComesNow (word z r.world) r.ledger.rows r'.ledger.rows s (length r.history.log) l a q → IsDead r.ledger.rows q × (r'.ledger.rows.fates q ≡ r.ledger.rows.fates q) ⊎ GoesNow r.ledger.rows r'.ledger.rows s (length r.history.log) q
      which (inl w) = fate (linked_fate a h i q w)
      which (inr y) = let x : Live ≡ Dead = sym (ap (λ (f : Fate). f.status) y.fate) ∙ d in absurd (cc)

  -- The words.

  -- an event that takes, writes or links new rows, or retires one of the group, writes no word of a
  -- row that was linked but a state, and the link of the row before
  pub built_leaves : (a : Activity) → IsBuilding a → Happens z r r' s choice l l' a → Shape z r → (n : Name) (q : ℕ) → WasLinked r.ledger.rows q → row_in n ≡ Some q → IsWithin z.seats z.cells r.world.rows n → is_state n ≡ false → (a ≡ Activity.Rebalance (Rebalance.Replace Replace.Exchange) → l.rebalance.before ≡ Some q → ⊥) →
      word z r'.world n ≡ word z r.world n
  built_leaves (Activity.Rebalance (Rebalance.Seek Seek.Take)) b h i n q k e o f c = unwritten (Activity.Rebalance (Rebalance.Seek Seek.Take)) h n o (no_state l.rebalance.sought n f)
  built_leaves (Activity.Rebalance (Rebalance.Seek Seek.Reclaim)) b h i n q k e o f c = unwritten (Activity.Rebalance (Rebalance.Seek Seek.Reclaim)) h n o (no_state l.rebalance.sought n f)
  built_leaves (Activity.Rebalance (Rebalance.Seek Seek.GiveBack)) b h i n q k e o f c = unwritten (Activity.Rebalance (Rebalance.Seek Seek.GiveBack)) h n o (no_state (infant l) n f)
  built_leaves (Activity.Rebalance (Rebalance.Replace Replace.Normalise)) b h i n q k e o f c = unwritten (Activity.Rebalance (Rebalance.Replace Replace.Normalise)) h n o (no_state (infant l) n f)
  built_leaves (Activity.Rebalance (Rebalance.Replace Replace.Retire)) b h i n q k e o f c = unwritten (Activity.Rebalance (Rebalance.Replace Replace.Retire)) h n o (no_state l.rebalance.hand n f)
  built_leaves (Activity.Rebalance (Rebalance.Replace Replace.Exchange)) b h i n q k e o f c = row_stays (Activity.Rebalance (Rebalance.Replace Replace.Exchange)) h n q e o (c refl)
  built_leaves (Activity.Rebalance (Rebalance.Write Write.Count)) b h i n q k e o f c = row_stays (Activity.Rebalance (Rebalance.Write Write.Count)) h n q e o (not_hand (Activity.Rebalance (Rebalance.Write Write.Count)) h i tt q k)
  built_leaves (Activity.Rebalance (Rebalance.Write Write.Least)) b h i n q k e o f c = row_stays (Activity.Rebalance (Rebalance.Write Write.Least)) h n q e o (not_hand (Activity.Rebalance (Rebalance.Write Write.Least)) h i tt q k)
  built_leaves (Activity.Rebalance (Rebalance.Write Write.Next)) b h i n q k e o f c = row_stays (Activity.Rebalance (Rebalance.Write Write.Next)) h n q e o (not_hand (Activity.Rebalance (Rebalance.Write Write.Next)) h i tt q k)
  built_leaves (Activity.Rebalance (Rebalance.Write Write.First)) b h i n q k e o f c = row_stays (Activity.Rebalance (Rebalance.Write Write.First)) h n q e o (not_hand (Activity.Rebalance (Rebalance.Write Write.First)) h i tt q k)
  built_leaves (Activity.Rebalance (Rebalance.Write (Write.Entry j))) b h i n q k e o f c = row_stays (Activity.Rebalance (Rebalance.Write (Write.Entry j))) h n q e o (not_hand (Activity.Rebalance (Rebalance.Write (Write.Entry j))) h i tt q k)
  built_leaves (Activity.Rebalance (Rebalance.Write (Write.Key j))) b h i n q k e o f c = row_stays (Activity.Rebalance (Rebalance.Write (Write.Key j))) h n q e o (not_hand (Activity.Rebalance (Rebalance.Write (Write.Key j))) h i tt q k)
  built_leaves (Activity.Rebalance (Rebalance.Write (Write.Value j))) b h i n q k e o f c = row_stays (Activity.Rebalance (Rebalance.Write (Write.Value j))) h n q e o (not_hand (Activity.Rebalance (Rebalance.Write (Write.Value j))) h i tt q k)
  built_leaves (Activity.Rebalance (Rebalance.Write (Write.Version j))) b h i n q k e o f c = row_stays (Activity.Rebalance (Rebalance.Write (Write.Version j))) h n q e o (not_hand (Activity.Rebalance (Rebalance.Write (Write.Version j))) h i tt q k)
  built_leaves (Activity.Rebalance (Rebalance.Write (Write.After j))) b h i n q k e o f c = row_stays (Activity.Rebalance (Rebalance.Write (Write.After j))) h n q e o (not_hand (Activity.Rebalance (Rebalance.Write (Write.After j))) h i tt q k)
  built_leaves (Activity.Rebalance (Rebalance.Seek Seek.First)) b h i n q k e o f c = row_stays (Activity.Rebalance (Rebalance.Seek Seek.First)) h n q e o (λ x. x)
  built_leaves (Activity.Rebalance (Rebalance.Seek Seek.Next)) b h i n q k e o f c = row_stays (Activity.Rebalance (Rebalance.Seek Seek.Next)) h n q e o (λ x. x)
  built_leaves (Activity.Rebalance (Rebalance.Seek (Seek.Pass j))) b h i n q k e o f c = row_stays (Activity.Rebalance (Rebalance.Seek (Seek.Pass j))) h n q e o (λ x. x)
  built_leaves (Activity.Rebalance (Rebalance.Replace Replace.Start)) b h i n q k e o f c = row_stays (Activity.Rebalance (Rebalance.Replace Replace.Start)) h n q e o (λ x. x)
  built_leaves (Activity.Rebalance (Rebalance.Replace Replace.GuessedLeast)) b h i n q k e o f c = row_stays (Activity.Rebalance (Rebalance.Replace Replace.GuessedLeast)) h n q e o (λ x. x)
  built_leaves (Activity.Rebalance (Rebalance.Replace Replace.First)) b h i n q k e o f c = row_stays (Activity.Rebalance (Rebalance.Replace Replace.First)) h n q e o (λ x. x)
  built_leaves (Activity.Rebalance (Rebalance.Replace Replace.Next)) b h i n q k e o f c = row_stays (Activity.Rebalance (Rebalance.Replace Replace.Next)) h n q e o (λ x. x)
  built_leaves (Activity.Rebalance (Rebalance.Replace Replace.NextLeast)) b h i n q k e o f c = row_stays (Activity.Rebalance (Rebalance.Replace Replace.NextLeast)) h n q e o (λ x. x)
  built_leaves (Activity.Rebalance (Rebalance.Replace Replace.Number)) b h i n q k e o f c = row_stays (Activity.Rebalance (Rebalance.Replace Replace.Number)) h n q e o (λ x. x)
  built_leaves _ b h i n q k e o f c = absurd b

-- What an event leaves of a row that was linked, and of the keys that it may hold; a put's row may
-- hold its key.

-- a row may hold the keys that it might, as long as the ends of its range are as they were
pub holds_stays : (v v' : Words) (g g' : Ledger) (q key : ℕ) → (g'.fates q).upper ≡ (g.fates q).upper → least_in v' q ≡ least_in v q → HoldsKey v g q key → HoldsKey v' g' q key
holds_stays v v' g g' q key e f h = record { from = omega (arith, h.from, f); below = λ u x. h.below u (sym e ∙ x) }

-- a put or a delete is no scan
put_scans : {A : Type 0} (c : Option Call) → IsPutCall c → is_scan c ≡ true → A
put_scans (Some (Put key value)) h e = let x : false ≡ true = e in absurd (cc)
put_scans (Some (Del key)) h e = let x : false ≡ true = e in absurd (cc)
put_scans (Some (Get key)) h e = absurd h
put_scans (Some (Scan from upto)) h e = absurd h
put_scans (Some Pin) h e = absurd h
put_scans (Some (ScanAt from upto)) h e = absurd h
put_scans (Some Unpin) h e = absurd h
put_scans None h e = absurd h

-- a row at which a seat has arrived may hold the wanted key
pub holds_wanted : (v : Words) (g : Ledger) (t : ℕ) (l : Local) → IsAtItsRow v g t l → HoldsKey v g l.row l.want
holds_wanted v g t l at = record { from = at.from; below = λ u e. which l.next refl u e }
  where
    which : (n : Option ℕ) → l.next ≡ n → (u : ℕ) → (g.fates l.row).upper ≡ Some u → l.want < u
    which None f u e = let x : None ≡ Some u = sym (at.last f) ∙ e in absurd (cc)
    which (Some n) f u e = let k = at.next n f in omega (arith, k.below, same_Some l.upper u (sym k.ends ∙ e))

-- the row of a put or a delete may hold its key
pub holds_put : (z : Sizes) (r : Run) (s : ℕ) (l : Local) (a : Activity) → Shape z r → slice_get r.world.locals s ≡ Some l → l.activity ≡ a → IsAtRow a → IsPastStart a → (IsKind a l → IsPutCall l.call) → HoldsKey (word z r.world) r.ledger.rows l.row (first_key l.call)
holds_put z r s l a y k e row past put = wanted ((y.walks s l k).at (subst IsAtRow (sym e) row)) ((y.walks s l k).wants (subst IsPastStart (sym e) past))
  where
    kind : IsPutCall l.call
    kind = put (subst (λ b. IsKind b l) e (y.kinds s l k).kind)

    wanted : IsAtItsRow (word z r.world) r.ledger.rows s l → (l.want ≡ first_key l.call) ⊎ (is_scan l.call ≡ true) × (least_in (word z r.world) l.row ≡ l.want) → HoldsKey (word z r.world) r.ledger.rows l.row (first_key l.call)
    wanted at (inl x) = subst (HoldsKey (word z r.world) r.ledger.rows l.row) x (holds_wanted (word z r.world) r.ledger.rows s l at)
    wanted at (inr x) = put_scans l.call kind x.0

-- so may that of a seat that asks for a cell
pub holds_first : (z : Sizes) (r : Run) (s : ℕ) (l : Local) → Shape z r → slice_get r.world.locals s ≡ Some l → l.activity ≡ Activity.Put Put.Add → HoldsKey (word z r.world) r.ledger.rows l.row (first_key l.call)
holds_first z r s l y k e = holds_put z r s l (Activity.Put Put.Add) y k e tt tt (λ x. x)

-- The rows of the list are those that are reached from Head along links.

-- a row that is reached is in the list
pub reached_live : (v : Words) (g : Ledger) → Chain (rows_in v) g → (q : ℕ) → IsReached v q → IsLive g q
reached_live v g c _ (is_first q e) = subst (IsLive g) (same_Some c.first q (sym c.leads ∙ e)) c.first_live
reached_live v g c _ (is_next p q m e) = c.linked p q (reached_live v g c p m) e

-- from a row that is reached one comes to every row of the list whose least key is not below: at
-- most as many links as least keys between them
along : (v : Words) (g : Ledger) → Chain (rows_in v) g → (n p q : ℕ) → least_in v q ≤ least_in v p + n → least_in v p ≤ least_in v q → IsLive g p → IsLive g q → IsReached v p → IsReached v q
along v g c zero p q o f a b m = which (c.apart p q a b)
  where
    which : (p ≡ q) ⊎ IsBefore (rows_in v) p q ⊎ IsBefore (rows_in v) q p → IsReached v q
    which (inl e) = subst (IsReached v) e m
    which (inr (inl x)) = absurd (omega (arith, x.above, c.rises p x.next a x.follows, o))
    which (inr (inr x)) = absurd (omega (arith, x.above, c.rises q x.next b x.follows, f))
along v g c (suc n) p q o f a b m = which (λ y k u d i. along v g c n y q k u d b i) (c.apart p q a b)
  where
    which : ((y : ℕ) → least_in v q ≤ least_in v y + n → least_in v y ≤ least_in v q → IsLive g y → IsReached v y → IsReached v q) → (p ≡ q) ⊎ IsBefore (rows_in v) p q ⊎ IsBefore (rows_in v) q p → IsReached v q
    which go (inl e) = subst (IsReached v) e m
    which go (inr (inl x)) = go x.next (omega (arith, o, c.rises p x.next a x.follows)) x.above (c.linked p x.next a x.follows) (is_next p x.next m x.follows)
    which go (inr (inr x)) = absurd (omega (arith, x.above, c.rises q x.next b x.follows, f))

-- a row of the list is reached
pub live_reached : (v : Words) (g : Ledger) → Chain (rows_in v) g → (q : ℕ) → IsLive g q → IsReached v q
live_reached v g c q a = along v g c (least_in v q) c.first q (omega (arith, c.first_least)) (omega (arith, c.first_least)) c.first_live a (is_first c.first c.leads)

-- Which words of a row that was linked an event may change, whatever its activity: as in `Frame`
-- and `FreezeFrame` of `kw_core`, but said of rows that were linked. Nobody writes such a row anew,
-- so a word is written where a put, a reader that helps or a seat that freezes does so.

module _ {z : Sizes} {r r' : Run} {s : ℕ} {choice : Choice} {l l' : Local} where
  -- a key, a value, a version is kept, unless the seat stores it there
  pub linked_key : (a : Activity) → Happens z r r' s choice l l' a → Shape z r → (q c : ℕ) → WasLinked r.ledger.rows q → c < z.cells → (WritesKey a → q ≡ l.row → c ≡ l.cell → ⊥) → word z r'.world (name.Key q c) ≡ word z r.world (name.Key q c)
  linked_key (Activity.Put Put.Key) h i q c k o f = key_stays (Activity.Put Put.Key) h q c (was_below z r i q k) o (λ x. f tt x.0 x.1)
  linked_key (Activity.Rebalance (Rebalance.Write (Write.Key j))) h i q c k o f = key_stays (Activity.Rebalance (Rebalance.Write (Write.Key j))) h q c (was_below z r i q k) o (λ x. not_hand (Activity.Rebalance (Rebalance.Write (Write.Key j))) h i tt q k x.0)
  linked_key a h i q c k o f = key_stays a h q c (was_below z r i q k) o (λ x. x)

  pub linked_value : (a : Activity) → Happens z r r' s choice l l' a → Shape z r → (q c : ℕ) → WasLinked r.ledger.rows q → c < z.cells → (WritesValue a → q ≡ l.row → c ≡ l.cell → ⊥) → word z r'.world (name.Value q c) ≡ word z r.world (name.Value q c)
  linked_value (Activity.Put Put.Value) h i q c k o f = value_stays (Activity.Put Put.Value) h q c (was_below z r i q k) o (λ x. f tt x.0 x.1)
  linked_value (Activity.Rebalance (Rebalance.Write (Write.Value j))) h i q c k o f = value_stays (Activity.Rebalance (Rebalance.Write (Write.Value j))) h q c (was_below z r i q k) o (λ x. not_hand (Activity.Rebalance (Rebalance.Write (Write.Value j))) h i tt q k x.0)
  linked_value a h i q c k o f = value_stays a h q c (was_below z r i q k) o (λ x. x)

  pub linked_version : (a : Activity) → Happens z r r' s choice l l' a → Shape z r → (q c : ℕ) → WasLinked r.ledger.rows q → c < z.cells → (IsPutVersion a → q ≡ l.row → c ≡ l.cell → ⊥) → word z r'.world (name.Version q c) ≡ word z r.world (name.Version q c)
  linked_version (Activity.Put Put.Version) h i q c k o f = version_stays (Activity.Put Put.Version) h q c (was_below z r i q k) o (λ x. f tt x.0 x.1)
  linked_version (Activity.Rebalance (Rebalance.Write (Write.Version j))) h i q c k o f = version_stays (Activity.Rebalance (Rebalance.Write (Write.Version j))) h q c (was_below z r i q k) o (λ x. not_hand (Activity.Rebalance (Rebalance.Write (Write.Version j))) h i tt q k x.0)
  linked_version a h i q c k o f = version_stays a h q c (was_below z r i q k) o (λ x. x)

  -- a link between cells is kept, unless the seat stores it or exchanges it
  pub linked_link : (a : Activity) → Happens z r r' s choice l l' a → Shape z r → (q : ℕ) (at : Option ℕ) → WasLinked r.ledger.rows q → IsCellBelow z.cells at → (IsInsSet a → q ≡ l.row → at ≡ Some l.cell → ⊥) → (IsInsert a → q ≡ l.row → at ≡ l.link → ⊥) →
      word z r'.world (link_name q at) ≡ word z r.world (link_name q at)
  linked_link (Activity.Insert Insert.Set) h i q at k o f g = link_stays (Activity.Insert Insert.Set) h q at (was_below z r i q k) o (λ x. f tt x.0 x.1)
  linked_link (Activity.Insert Insert.Exchange) h i q at k o f g = link_stays (Activity.Insert Insert.Exchange) h q at (was_below z r i q k) o (λ x. g tt x.0 x.1)
  linked_link (Activity.Rebalance (Rebalance.Write Write.First)) h i q at k o f g = link_stays (Activity.Rebalance (Rebalance.Write Write.First)) h q at (was_below z r i q k) o (λ x. not_hand (Activity.Rebalance (Rebalance.Write Write.First)) h i tt q k x.0)
  linked_link (Activity.Rebalance (Rebalance.Write (Write.After j))) h i q at k o f g = link_stays (Activity.Rebalance (Rebalance.Write (Write.After j))) h q at (was_below z r i q k) o (λ x. not_hand (Activity.Rebalance (Rebalance.Write (Write.After j))) h i tt q k x.0)
  linked_link a h i q at k o f g = link_stays a h q at (was_below z r i q k) o (λ x. x)

  -- an entry is kept, unless the seat writes its own there, helps, or freezes it
  pub linked_entry : (a : Activity) → Happens z r r' s choice l l' a → Shape z r → (q t : ℕ) → WasLinked r.ledger.rows q → t < z.seats → (WritesOwnEntry a → q ≡ l.row → t ≡ s → ⊥) → (IsHelp a → q ≡ l.row → t ≡ l.looked → ⊥) → (FreezesEntry t a → q ≡ l.rebalance.hand → ⊥) →
      word z r'.world (name.Pend q t) ≡ word z r.world (name.Pend q t)
  linked_entry (Activity.Look Look.Help) h i q t k o f g e = entry_stays (Activity.Look Look.Help) h q t (was_below z r i q k) o (λ x. g tt x.0 x.1)
  linked_entry (Activity.Put Put.Announce) h i q t k o f g e = entry_stays (Activity.Put Put.Announce) h q t (was_below z r i q k) o (λ x. f tt x.0 x.1)
  linked_entry (Activity.Put Put.Stamp) h i q t k o f g e = entry_stays (Activity.Put Put.Stamp) h q t (was_below z r i q k) o (λ x. f tt x.0 x.1)
  linked_entry (Activity.Put Put.Clear) h i q t k o f g e = entry_stays (Activity.Put Put.Clear) h q t (was_below z r i q k) o (λ x. f tt x.0 x.1)
  linked_entry (Activity.Rebalance (Rebalance.Freeze (Freeze.Entry j))) h i q t k o f g e = entry_stays (Activity.Rebalance (Rebalance.Freeze (Freeze.Entry j))) h q t (was_below z r i q k) o (λ x. e x.1 x.0)
  linked_entry (Activity.Rebalance (Rebalance.Write (Write.Entry j))) h i q t k o f g e = entry_stays (Activity.Rebalance (Rebalance.Write (Write.Entry j))) h q t (was_below z r i q k) o (λ x. not_hand (Activity.Rebalance (Rebalance.Write (Write.Entry j))) h i tt q k x.0)
  linked_entry a h i q t k o f g e = entry_stays a h q t (was_below z r i q k) o (λ x. x)

  -- a count is kept, unless the seat adds to it or freezes it
  pub linked_count_word : (a : Activity) → Happens z r r' s choice l l' a → Shape z r → (q : ℕ) → WasLinked r.ledger.rows q → (ChangesCount a → q ≡ list_row a l → ⊥) → word z r'.world (name.Count q) ≡ word z r.world (name.Count q)
  linked_count_word (Activity.Put Put.Add) h i q k f = count_stays (Activity.Put Put.Add) h q (was_below z r i q k) (λ x. f tt x)
  linked_count_word (Activity.Rebalance (Rebalance.Freeze Freeze.Count)) h i q k f = count_stays (Activity.Rebalance (Rebalance.Freeze Freeze.Count)) h q (was_below z r i q k) (λ x. f tt x)
  linked_count_word (Activity.Rebalance (Rebalance.Write Write.Count)) h i q k f = count_stays (Activity.Rebalance (Rebalance.Write Write.Count)) h q (was_below z r i q k) (not_hand (Activity.Rebalance (Rebalance.Write Write.Count)) h i tt q k)
  linked_count_word a h i q k f = count_stays a h q (was_below z r i q k) (λ x. x)

  -- What lasts.

  -- no count falls
  pub linked_given : (a : Activity) → Happens z r r' s choice l l' a → Shape z r → (q : ℕ) → WasLinked r.ledger.rows q → given_in (word z r.world) q ≤ given_in (word z r'.world) q
  linked_given a h i q k = given_by (word z r.world) (word z r'.world) q (linked_count a h i q k)

  -- a frozen count stays frozen
  pub linked_frozen : (a : Activity) → Happens z r r' s choice l l' a → Shape z r → (q : ℕ) (c : Counted) → WasLinked r.ledger.rows q → count_of (word z r.world (name.Count q)) ≡ Some c → c.frozen ≡ true → (d : Counted) × (count_of (word z r'.world (name.Count q)) ≡ Some d) × (d.frozen ≡ true)
  linked_frozen a h i q c k e f = frozen_by (word z r.world) (word z r'.world) q c (linked_count a h i q k) e f

  -- a frozen entry stays frozen, unless its seat clears it
  pub linked_frozen_entry : (a : Activity) → Happens z r r' s choice l l' a → Shape z r → (q t : ℕ) → WasLinked r.ledger.rows q → t < z.seats → (IsPutClear a → q ≡ l.row → t ≡ s → ⊥) → word z r.world (name.Pend q t) ≡ pend_word pend.Frozen → word z r'.world (name.Pend q t) ≡ pend_word pend.Frozen
  linked_frozen_entry (Activity.Put Put.Announce) h i q t k o f e = frozen_entry_lasts (Activity.Put Put.Announce) tt h q t (was_below z r i q k) o e
  linked_frozen_entry (Activity.Put Put.Stamp) h i q t k o f e = frozen_entry_lasts (Activity.Put Put.Stamp) tt h q t (was_below z r i q k) o e
  linked_frozen_entry (Activity.Look Look.Help) h i q t k o f e = frozen_entry_lasts (Activity.Look Look.Help) tt h q t (was_below z r i q k) o e
  linked_frozen_entry (Activity.Rebalance (Rebalance.Freeze (Freeze.Entry j))) h i q t k o f e = frozen_entry_lasts (Activity.Rebalance (Rebalance.Freeze (Freeze.Entry j))) tt h q t (was_below z r i q k) o e
  linked_frozen_entry (Activity.Put Put.Clear) h i q t k o f e = linked_entry (Activity.Put Put.Clear) h i q t k o (λ x u w. f tt u w) (λ x u w. x) (λ x u. x) ∙ e
  linked_frozen_entry a h i q t k o f e = linked_entry a h i q t k o (λ x u w. x) (λ x u w. x) (λ x u. x) ∙ e
