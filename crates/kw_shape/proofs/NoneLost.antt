-- No seat loses a row that it took: each row that is its infant is one of those that it has, after
-- every event.
--
-- A row becomes an infant of a seat where the seat takes it, and is put behind the others. It is
-- none any more where it is given back, which is the one that the seat steps past, or where all are
-- linked in place of the group.
use Rattle.std.proofs.Common.{ℕ, ◌≡◌, ◌≢◌, ◌⊎◌, inl, inr, ◌+◌, ◌<◌, ◌++◌, List, [], ◌∷◌, Some, arith, refl, sym, ◌∙◌, ap, subst, length, length-append, slice_get}
use Rattle.std.proofs.lemmas.Bool.{cases_eq}
use Rattle.std.proofs.lemmas.List.{get_or_append_left}
use Rattle.std.proofs.lemmas.Option.{get_or_from_slice_get, same_Some, slice_get-get_or, slice_get_within}
use Rattle.std.proofs.Math.Seq.{get_or-append_seam}
use Rattle.kw_words.specs.declared.layout.Name.TheVariants as name
use Rattle.kw_words.specs.declared.state.State.TheVariants as state
use Rattle.kw_words.specs.Link.{link_of, link_word}
use Rattle.kw_words.specs.State.{state_word}
use Rattle.kw_words.proofs.LinkWords.{link_word_of}
use Rattle.kw_rows.proofs.Lists.{in_or_not}
use Rattle.kw_rows.specs.Events.{IsIn}
use Rattle.kw_rows.specs.Ledger.{Dead, Fate, Free, Infant, Ledger, Live}
use Rattle.kw_world.specs.declared.activity.Activity.{Activity}
use Rattle.kw_world.specs.declared.activity.rebalance.Rebalance.TheVariants as Rebalance
use Rattle.kw_world.specs.declared.activity.rebalance.replace.Replace.TheVariants as Replace
use Rattle.kw_world.specs.declared.activity.rebalance.seek.Seek.TheVariants as Seek
use Rattle.kw_world.specs.declared.activity.rebalance.write.Write.TheVariants as Write
use Rattle.kw_world.specs.declared.event.Choice.{Choice}
use Rattle.kw_world.specs.declared.local.Local.{Local}
use Rattle.kw_world.specs.declared.rebalance.Afterwards.{Afterwards}
use Rattle.kw_world.specs.ReplaceTransitions.{replaced_link}
use Rattle.kw_world.specs.SeekTransitions.{infant, with_row}
use Rattle.kw_world.specs.Sizes.{Sizes}
use Rattle.kw_world.specs.Step.{word}
use Rattle.kw_world.specs.WriteTransitions.{unmarked_link}
use Rattle.kw_core.specs.Ledger as ledger
use Rattle.kw_core.specs.Ledger.{group_of}
use Rattle.kw_core.specs.Run.{Run}
use Rattle.kw_core.proofs.Arrows.{Arrow, builds}
use Rattle.kw_core.proofs.Building.{Building, IsBuilding, first_is_free, first_is_retired, first_is_taken, sought_is_free, sought_is_retired, sought_is_taken, pass_is_old, pass_is_young, frees_row, takes_row, loses_row, gives_one_back, gives_last_back, writes_link, begins_before, guesses_before, guess_before_fails, before_serves, before_is_above, takes_head_before, leads_to_full, leads_on_marked, leads_to_other, leads_nowhere, walks_before, walks_past, replaces_row, is_marked_before, is_replaced, makes_normal, makes_last_normal, draws_number, retires_ahead, retires_row, retires_and_leaves}
use Rattle.kw_core.proofs.Building as built
use Rattle.kw_core.proofs.Fates.{fate_of_freed, fate_of_full, fate_of_given, fate_of_new, fate_of_taken, fate_stays, none_freed, none_replaced, none_taken}
use Rattle.kw_core.proofs.Happens.{Happens}
use Rattle.kw_core.proofs.NextBuilt.{NextBack, gives_back, has_none, NextPass, has_looked, looks_on, NextSeek, asks, has_asked, NextTaken, has_enough, wants_more, NextNewCell, empties, fills, has_cells, NextNewEntry, has_entries, writes_idle, NextNewRow, has_written, writes_row, NextBefore, is_behind, is_first}
use Rattle.kw_shape.proofs.Comings.{unbuilt_nursing}
use Rattle.kw_shape.proofs.InfantsStay.{infant_at, infant_stays}
use Rattle.kw_shape.proofs.LinkedRows.{infants_at}
use Rattle.kw_shape.proofs.WonKeep.{in_list}
use Rattle.kw_shape.specs.Infants.{HasAtHand, HasLostNone, IsInfantOf, IsNursed, IsNursedRow, nursing_of}
use Rattle.kw_shape.specs.Shape.{Shape}

-- Lists with one more.

-- what stood in the list stands there still
got_old : (xs : List ℕ) (x i q : ℕ) → slice_get xs i ≡ Some q → slice_get (xs ++ x ∷ []) i ≡ Some q
got_old xs x i q e =
    let o = slice_get_within xs i q e in
    slice_get-get_or (xs ++ x ∷ []) i 0 (omega (arith, o, length-append xs (x ∷ []))) ∙ ap Some (get_or_append_left xs (x ∷ []) 0 i o ∙ get_or_from_slice_get xs i q 0 e)

-- the one that was put there is the last
got_new : (xs : List ℕ) (x : ℕ) → slice_get (xs ++ x ∷ []) (length xs) ≡ Some x
got_new xs x = slice_get-get_or (xs ++ x ∷ []) (length xs) 0 (omega (arith, length-append xs (x ∷ []))) ∙ ap Some (get_or-append_seam xs x [] 0)

-- What follows where a part has no event of its own.

-- the row is one of those that the seat took
abbrev IsTaken : Local → ℕ → Type 0
IsTaken k q = (i : ℕ) × (slice_get k.rebalance.taken i ≡ Some q)

-- taken rows are given back from the first on, so all are there still; where none was taken there
-- is none
on_back : (c : Afterwards) (k next : Local) (q : ℕ) → NextBack c k next → IsTaken k q → IsNursedRow next.activity next q
on_back c k next q (gives_back o) y = (y.0, omega arith, y.1)
on_back c k next q (has_none m e n) y = absurd (omega (arith, e, slice_get_within k.rebalance.taken y.0 q y.1))

-- the next row is asked, or they are given back
on_seek : (rows : ℕ) (k next : Local) (q : ℕ) → NextSeek rows k next → IsTaken k q → IsNursedRow next.activity next q
on_seek rows k next q (asks o) y = (y.0, tt, y.1)
on_seek rows k next q (has_asked m o n) y = on_back _ k next q n y

-- the next visit is looked at, or all were
on_pass : (z : Sizes) (i : ℕ) (k next : Local) (q : ℕ) → NextPass z i k next → IsTaken k q → IsNursedRow next.activity next q
on_pass z i k next q (looks_on o) y = (y.0, tt, y.1)
on_pass z i k next q (has_looked o) y = (y.0, tt, y.1)

-- one more row is sought, or they are written
on_taken : (rows : ℕ) (k next : Local) (q : ℕ) → NextTaken rows k next → IsTaken k q → IsNursedRow next.activity next q
on_taken rows k next q (wants_more m o n) y = on_seek rows k next q n y
on_taken rows k next q (has_enough o) y = (y.0, tt, y.1)

-- the next of them is written, or all are
on_row : (k next : Local) (q : ℕ) → NextNewRow k next → IsTaken k q → IsNursedRow next.activity next q
on_row k next q (writes_row o) y = (y.0, tt, y.1)
on_row k next q (has_written o) y = (y.0, tt, y.1)

-- so is the next cell of the one at hand
on_cell : (z : Sizes) (j : ℕ) (k next : Local) (q : ℕ) → NextNewCell z j k next → IsTaken k q → IsNursedRow next.activity next q
on_cell z j k next q (fills o p) y = (y.0, tt, y.1)
on_cell z j k next q (empties o p) y = (y.0, tt, y.1)
on_cell z j k next q (has_cells m o n) y = on_row k next q n y

-- and its next entry
on_entry : (z : Sizes) (j : ℕ) (k next : Local) (q : ℕ) → NextNewEntry z j k next → IsTaken k q → IsNursedRow next.activity next q
on_entry z j k next q (writes_idle o) y = (y.0, tt, y.1)
on_entry z j k next q (has_entries m o n) y = on_cell z 0 k next q n y

-- the row before the full one is sought
on_before : (p : ℕ) (k next : Local) (q : ℕ) → NextBefore p k next → IsTaken k q → IsNursedRow next.activity next q
on_before p k next q (is_first o) y = (y.0, tt, y.1)
on_before p k next q (is_behind o) y = (y.0, tt, y.1)

-- the row at the place that is at hand is the one at hand
is_at_hand : (l : Local) (i q : ℕ) → l.rebalance.at < length l.rebalance.taken → i ≡ l.rebalance.at → slice_get l.rebalance.taken i ≡ Some q → q ≡ infant l
is_at_hand l i q o c e = same_Some q (infant l) (sym e ∙ ap (slice_get l.rebalance.taken) c ∙ infant_at l o)

-- where the fate of a row is as it was, an infant was one
was_one : (g g' : Ledger) (t q : ℕ) → g'.fates q ≡ g.fates q → IsInfantOf g' t q → IsInfantOf g t q
was_one g g' t q e x = infant_stays g' g t q (sym e) x

-- where the ledger stays, each was one
ledger_stays : (r r' : Run) → r'.ledger ≡ r.ledger → (t q : ℕ) → IsInfantOf r'.ledger.rows t q → IsInfantOf r.ledger.rows t q
ledger_stays r r' e t q x = was_one r.ledger.rows r'.ledger.rows t q (ap (λ (g : ledger.Ledger). g.rows.fates q) e) x

module _ {z : Sizes} {r r' : Run} {s : ℕ} {choice : Choice} {l k : Local} where
  -- Which rows are infants after an event.

  -- a row that is given back is nobody's
  not_given : Happens z r r' s choice l k (Activity.Rebalance (Rebalance.Seek Seek.GiveBack)) → (t q : ℕ) → IsInfantOf r'.ledger.rows t q → q ≡ infant l → ⊥
  not_given h t q x e =
      let y : Free ≡ Infant = sym (ap (λ (f : Fate). f.status) (ap r'.ledger.rows.fates e ∙ fate_of_given h)) ∙ x.status in
      absurd (cc)

  -- nor is one that is freed
  not_freed_now : Happens z r r' s choice l k (Activity.Rebalance (Rebalance.Seek Seek.Reclaim)) → word z r.world (name.State l.rebalance.sought) ≡ state_word (state.Retired l.rebalance.number) → (t q : ℕ) → IsInfantOf r'.ledger.rows t q → q ≡ l.rebalance.sought → ⊥
  not_freed_now h e t q x c =
      let y : Free ≡ Infant = sym (ap (λ (f : Fate). f.status) (ap r'.ledger.rows.fates c ∙ fate_of_freed h e)) ∙ x.status in
      absurd (cc)

  -- nor is a row of a group once that is replaced, nor one that is linked in its place
  not_replaced : Happens z r r' s choice l k (Activity.Rebalance (Rebalance.Replace Replace.Exchange)) → word z r.world (replaced_link l.rebalance.before) ≡ link_word (unmarked_link (Some l.row)) → (t q : ℕ) → IsInfantOf r'.ledger.rows t q → IsIn (group_of l) q ⊎ IsIn l.rebalance.taken q → ⊥
  not_replaced h e t q x c = which (in_or_not (group_of l) q) c
    where
      which : IsIn (group_of l) q ⊎ (IsIn (group_of l) q → ⊥) → IsIn (group_of l) q ⊎ IsIn l.rebalance.taken q → ⊥
      which (inl f) d = let y : Dead ≡ Infant = sym (ap (λ (f : Fate). f.status) (fate_of_full h e q f)) ∙ x.status in absurd (cc)
      which (inr n) (inl f) = n f
      which (inr n) (inr i) = let y : Live ≡ Infant = sym (ap (λ (f : Fate). f.status) (fate_of_new h e q i n)) ∙ x.status in absurd (cc)

  -- each infant of a seat was one, unless the seat takes a row now
  was_infant : (a : Activity) → Happens z r r' s choice l k a → (t q : ℕ) → (a ≡ Activity.Rebalance (Rebalance.Seek Seek.Take) → t ≡ s → ⊥) → IsInfantOf r'.ledger.rows t q → IsInfantOf r.ledger.rows t q
  was_infant (Activity.Rebalance (Rebalance.Seek Seek.Take)) h t q d x = which (cases_eq (word z r.world (name.State l.rebalance.sought)) (state_word state.Free)) (cases_eq q l.rebalance.sought)
    where
      which : (word z r.world (name.State l.rebalance.sought) ≡ state_word state.Free) ⊎ (word z r.world (name.State l.rebalance.sought) ≡ state_word state.Free → ⊥) → (q ≡ l.rebalance.sought) ⊎ (q ≡ l.rebalance.sought → ⊥) → IsInfantOf r.ledger.rows t q
      which (inl e) (inl c) = absurd (d refl (sym x.owner ∙ ap (λ (f : Fate). f.owner) (ap r'.ledger.rows.fates c ∙ fate_of_taken h e)))
      which (inl e) (inr n) = was_one r.ledger.rows r'.ledger.rows t q (fate_stays (Activity.Rebalance (Rebalance.Seek Seek.Take)) h q n) x
      which (inr n) c = ledger_stays r r' (none_taken h n) t q x
  was_infant (Activity.Rebalance (Rebalance.Seek Seek.Reclaim)) h t q d x = which (cases_eq (word z r.world (name.State l.rebalance.sought)) (state_word (state.Retired l.rebalance.number)))
    where
      which : (word z r.world (name.State l.rebalance.sought) ≡ state_word (state.Retired l.rebalance.number)) ⊎ (word z r.world (name.State l.rebalance.sought) ≡ state_word (state.Retired l.rebalance.number) → ⊥) → IsInfantOf r.ledger.rows t q
      which (inl e) = was_one r.ledger.rows r'.ledger.rows t q (fate_stays (Activity.Rebalance (Rebalance.Seek Seek.Reclaim)) h q (not_freed_now h e t q x)) x
      which (inr n) = ledger_stays r r' (none_freed h n) t q x
  was_infant (Activity.Rebalance (Rebalance.Seek Seek.GiveBack)) h t q d x = was_one r.ledger.rows r'.ledger.rows t q (fate_stays (Activity.Rebalance (Rebalance.Seek Seek.GiveBack)) h q (not_given h t q x)) x
  was_infant (Activity.Rebalance (Rebalance.Replace Replace.Exchange)) h t q d x = which (cases_eq (word z r.world (replaced_link l.rebalance.before)) (link_word (unmarked_link (Some l.row))))
    where
      which : (word z r.world (replaced_link l.rebalance.before) ≡ link_word (unmarked_link (Some l.row))) ⊎ (word z r.world (replaced_link l.rebalance.before) ≡ link_word (unmarked_link (Some l.row)) → ⊥) → IsInfantOf r.ledger.rows t q
      which (inl e) = was_one r.ledger.rows r'.ledger.rows t q (fate_stays (Activity.Rebalance (Rebalance.Replace Replace.Exchange)) h q (not_replaced h e t q x)) x
      which (inr n) = ledger_stays r r' (none_replaced h n) t q x
  was_infant a h t q d x = was_one r.ledger.rows r'.ledger.rows t q (fate_stays a h q (λ c. c)) x

module _ {z : Sizes} {r r' : Run} {s : ℕ} {choice : Choice} {l : Local} where
  -- an event of the seat that takes no row, and after which it has all rows that it took
  goes : (a b : Activity) (k : Local) → Happens z r r' s choice l k a → (a ≡ Activity.Rebalance (Rebalance.Seek Seek.Take) → ⊥) → HasLostNone r.ledger.rows s a l → ((q : ℕ) → IsTaken l q → IsNursedRow b k q) → HasLostNone r'.ledger.rows s b k
  goes a b k h n x f q o = let y = x q (was_infant a h s q (λ c d. n c) o) in f q (y.0, y.2)

  -- where the seat has linked the rows that it took, it has none
  links : (k : Local) → Happens z r r' s choice l k (Activity.Rebalance (Rebalance.Replace Replace.Exchange)) → link_of (word z r.world (replaced_link l.rebalance.before)) ≡ Some (unmarked_link (Some l.row)) → HasLostNone r.ledger.rows s (Activity.Rebalance (Rebalance.Replace Replace.Exchange)) l → (q : ℕ) → IsInfantOf r'.ledger.rows s q → ⊥
  links k h e x q o =
      let y = x q (was_infant (Activity.Rebalance (Rebalance.Replace Replace.Exchange)) h s q (λ c. cc) o) in
      not_replaced h (sym (link_word_of (word z r.world (replaced_link l.rebalance.before)) (unmarked_link (Some l.row)) e)) s q o (inr (in_list l.rebalance.taken y.0 q y.2))

  -- each event of the seat by which rows are taken, written, linked or given back
  built_own : (a : Activity) (k : Local) → Building z (word z r.world) choice l a k → Happens z r r' s choice l k a → (HasAtHand (nursing_of a) → l.rebalance.at < length l.rebalance.taken) → HasLostNone r.ledger.rows s a l → HasLostNone r'.ledger.rows s k.activity k
  built_own a k (first_is_free q c e) h hand x = goes (Activity.Rebalance (Rebalance.Seek Seek.First)) (Activity.Rebalance (Rebalance.Seek Seek.Take)) _ h (λ c. cc) x (λ p y. (y.0, tt, y.1))
  built_own a k (first_is_taken q rows next c n y) h hand x = goes (Activity.Rebalance (Rebalance.Seek Seek.First)) next.activity next h (λ c. cc) x (λ p t. on_seek rows _ next p y t)
  built_own a k (sought_is_free e) h hand x = goes (Activity.Rebalance (Rebalance.Seek Seek.Next)) (Activity.Rebalance (Rebalance.Seek Seek.Take)) _ h (λ c. cc) x (λ p y. (y.0, tt, y.1))
  built_own a k (sought_is_taken rows next n y) h hand x = goes (Activity.Rebalance (Rebalance.Seek Seek.Next)) next.activity next h (λ c. cc) x (λ p t. on_seek rows _ next p y t)
  built_own a k (first_is_retired q m c e) h hand x = goes (Activity.Rebalance (Rebalance.Seek Seek.First)) (Activity.Rebalance (Rebalance.Seek (Seek.Pass 0))) _ h (λ c. cc) x (λ p y. (y.0, tt, y.1))
  built_own a k (sought_is_retired m e) h hand x = goes (Activity.Rebalance (Rebalance.Seek Seek.Next)) (Activity.Rebalance (Rebalance.Seek (Seek.Pass 0))) _ h (λ c. cc) x (λ p y. (y.0, tt, y.1))
  built_own a k (pass_is_old i epoch rows next e o y) h hand x = goes (Activity.Rebalance (Rebalance.Seek (Seek.Pass i))) next.activity next h (λ c. cc) x (λ p t. on_seek rows _ next p y t)
  built_own a k (pass_is_young i next o y) h hand x = goes (Activity.Rebalance (Rebalance.Seek (Seek.Pass i))) next.activity next h (λ c. cc) x (λ p t. on_pass z _ l next p y t)
  built_own a k frees_row h hand x = goes (Activity.Rebalance (Rebalance.Seek Seek.Reclaim)) (Activity.Rebalance (Rebalance.Seek Seek.Take)) _ h (λ c. cc) x (λ p y. (y.0, tt, y.1))
  built_own a k (takes_row rows next e y) h hand x = λ q o. on_taken rows _ next q y (taken q o (cases_eq q l.rebalance.sought))
    where
      taken : (q : ℕ) → IsInfantOf r'.ledger.rows s q → (q ≡ l.rebalance.sought) ⊎ (q ≡ l.rebalance.sought → ⊥) → IsTaken (with_row l) q
      taken q o (inl c) = (length l.rebalance.taken, got_new l.rebalance.taken l.rebalance.sought ∙ ap Some (sym c))
      taken q o (inr n) =
          let t = x q (was_one r.ledger.rows r'.ledger.rows s q (fate_stays (Activity.Rebalance (Rebalance.Seek Seek.Take)) h q n) o) in
          (t.0, got_old l.rebalance.taken l.rebalance.sought t.0 q t.2)
  built_own a k (loses_row rows next d y) h hand x = λ q o. let t = x q (ledger_stays r r' (none_taken h d) s q o) in on_seek rows _ next q y (t.0, t.2)
  built_own a k (gives_one_back m) h hand x = λ q o.
      let t = x q (was_infant (Activity.Rebalance (Rebalance.Seek Seek.GiveBack)) h s q (λ c. cc) o) in
      let d : t.0 ≡ l.rebalance.at → ⊥ = λ c. not_given h s q o (is_at_hand l t.0 q (hand tt) c t.2) in
      (t.0, omega (arith, t.1, d), t.2)
  built_own a k (gives_last_back next m y) h hand x = λ q o.
      let t = x q (was_infant (Activity.Rebalance (Rebalance.Seek Seek.GiveBack)) h s q (λ c. cc) o) in
      let c : t.0 ≡ l.rebalance.at = omega (arith, m, t.1, slice_get_within l.rebalance.taken t.0 q t.2) in
      absurd (not_given h s q o (is_at_hand l t.0 q (hand tt) c t.2))
  built_own a k built.writes_count h hand x = goes (Activity.Rebalance (Rebalance.Write Write.Count)) (Activity.Rebalance (Rebalance.Write Write.Least)) _ h (λ c. cc) x (λ p y. (y.0, tt, y.1))
  built_own a k built.writes_least h hand x = goes (Activity.Rebalance (Rebalance.Write Write.Least)) (Activity.Rebalance (Rebalance.Write Write.Next)) _ h (λ c. cc) x (λ p y. (y.0, tt, y.1))
  built_own a k writes_link h hand x = goes (Activity.Rebalance (Rebalance.Write Write.Next)) (Activity.Rebalance (Rebalance.Write Write.First)) _ h (λ c. cc) x (λ p y. (y.0, tt, y.1))
  built_own a k (built.writes_first next y) h hand x = goes (Activity.Rebalance (Rebalance.Write Write.First)) next.activity next h (λ c. cc) x (λ p t. on_entry z 0 l next p y t)
  built_own a k (built.writes_entry j next y) h hand x = goes (Activity.Rebalance (Rebalance.Write (Write.Entry j))) next.activity next h (λ c. cc) x (λ p t. on_entry z (j + 1) l next p y t)
  built_own a k (built.writes_key j) h hand x = goes (Activity.Rebalance (Rebalance.Write (Write.Key j))) (Activity.Rebalance (Rebalance.Write (Write.Value j))) _ h (λ c. cc) x (λ p y. (y.0, tt, y.1))
  built_own a k (built.writes_value j) h hand x = goes (Activity.Rebalance (Rebalance.Write (Write.Value j))) (Activity.Rebalance (Rebalance.Write (Write.Version j))) _ h (λ c. cc) x (λ p y. (y.0, tt, y.1))
  built_own a k (built.writes_version j o) h hand x = goes (Activity.Rebalance (Rebalance.Write (Write.Version j))) (Activity.Rebalance (Rebalance.Write (Write.After j))) _ h (λ c. cc) x (λ p y. (y.0, tt, y.1))
  built_own a k (built.writes_no_cell j next o y) h hand x = goes (Activity.Rebalance (Rebalance.Write (Write.Version j))) next.activity next h (λ c. cc) x (λ p t. on_cell z (j + 1) l next p y t)
  built_own a k (built.writes_after j next y) h hand x = goes (Activity.Rebalance (Rebalance.Write (Write.After j))) next.activity next h (λ c. cc) x (λ p t. on_cell z (j + 1) l next p y t)
  built_own a k (begins_before next y) h hand x = goes (Activity.Rebalance (Rebalance.Replace Replace.Start)) next.activity next h (λ c. cc) x (λ p t. on_before _ l next p y t)
  built_own a k (guesses_before q c e) h hand x = goes (Activity.Rebalance (Rebalance.Replace Replace.Start)) (Activity.Rebalance (Rebalance.Replace Replace.GuessedLeast)) _ h (λ c. cc) x (λ p y. (y.0, tt, y.1))
  built_own a k guess_before_fails h hand x = goes (Activity.Rebalance (Rebalance.Replace Replace.Start)) (Activity.Rebalance (Rebalance.Replace Replace.First)) _ h (λ c. cc) x (λ p y. (y.0, tt, y.1))
  built_own a k (before_serves o) h hand x = goes (Activity.Rebalance (Rebalance.Replace Replace.GuessedLeast)) (Activity.Rebalance (Rebalance.Replace Replace.Next)) _ h (λ c. cc) x (λ p y. (y.0, tt, y.1))
  built_own a k (before_is_above o) h hand x = goes (Activity.Rebalance (Rebalance.Replace Replace.GuessedLeast)) (Activity.Rebalance (Rebalance.Replace Replace.First)) _ h (λ c. cc) x (λ p y. (y.0, tt, y.1))
  built_own a k (takes_head_before next y) h hand x = goes (Activity.Rebalance (Rebalance.Replace Replace.First)) next.activity next h (λ c. cc) x (λ p t. on_before _ l next p y t)
  built_own a k (leads_to_full e) h hand x = goes (Activity.Rebalance (Rebalance.Replace Replace.Next)) (Activity.Rebalance (Rebalance.Replace Replace.Exchange)) _ h (λ c. cc) x (λ p y. (y.0, tt, y.1))
  built_own a k (leads_on_marked next e y) h hand x = goes (Activity.Rebalance (Rebalance.Replace Replace.Next)) next.activity next h (λ c. cc) x (λ p t. on_back _ l next p y t)
  built_own a k (leads_to_other q e d) h hand x = goes (Activity.Rebalance (Rebalance.Replace Replace.Next)) (Activity.Rebalance (Rebalance.Replace Replace.NextLeast)) _ h (λ c. cc) x (λ p y. (y.0, tt, y.1))
  built_own a k (leads_nowhere next e y) h hand x = goes (Activity.Rebalance (Rebalance.Replace Replace.Next)) next.activity next h (λ c. cc) x (λ p t. on_back _ l next p y t)
  built_own a k (walks_before o) h hand x = goes (Activity.Rebalance (Rebalance.Replace Replace.NextLeast)) (Activity.Rebalance (Rebalance.Replace Replace.Next)) _ h (λ c. cc) x (λ p y. (y.0, tt, y.1))
  built_own a k (walks_past next o y) h hand x = goes (Activity.Rebalance (Rebalance.Replace Replace.NextLeast)) next.activity next h (λ c. cc) x (λ p t. on_back _ l next p y t)
  built_own a k (replaces_row e) h hand x = λ q o. absurd (links _ h e x q o)
  built_own a k (is_marked_before next e y) h hand x = goes (Activity.Rebalance (Rebalance.Replace Replace.Exchange)) next.activity next h (λ c. cc) x (λ p t. on_back _ l next p y t)
  built_own a k (is_replaced next d y) h hand x = goes (Activity.Rebalance (Rebalance.Replace Replace.Exchange)) next.activity next h (λ c. cc) x (λ p t. on_back _ l next p y t)
  built_own a k (makes_normal o) h hand x = λ q i. absurd ((x q (was_infant (Activity.Rebalance (Rebalance.Replace Replace.Normalise)) h s q (λ c. cc) i)).1)
  built_own a k (makes_last_normal o) h hand x = λ q i. absurd ((x q (was_infant (Activity.Rebalance (Rebalance.Replace Replace.Normalise)) h s q (λ c. cc) i)).1)
  built_own a k draws_number h hand x = λ q i. absurd ((x q (was_infant (Activity.Rebalance (Rebalance.Replace Replace.Number)) h s q (λ c. cc) i)).1)
  built_own a k (retires_ahead p e) h hand x = λ q i. absurd ((x q (was_infant (Activity.Rebalance (Rebalance.Replace Replace.Retire)) h s q (λ c. cc) i)).1)
  built_own a k (retires_row m nd) h hand x = λ q i. absurd ((x q (was_infant (Activity.Rebalance (Rebalance.Replace Replace.Retire)) h s q (λ c. cc) i)).1)
  built_own a k (retires_and_leaves m dn) h hand x = λ q i. absurd ((x q (was_infant (Activity.Rebalance (Rebalance.Replace Replace.Retire)) h s q (λ c. cc) i)).1)

module _ {z : Sizes} {r r' : Run} {s : ℕ} {choice : Choice} {l : Local} where
  -- what the acting seat has at its activity
  lost_none_at : (a : Activity) {l' : Local} → Happens z r r' s choice l l' a → Shape z r → HasLostNone r.ledger.rows s a l
  lost_none_at a h i = subst (λ b. HasLostNone r.ledger.rows s b l) h.activity (i.none_lost s l h.knows)

  -- at any other activity it has taken none
  outside : (a : Activity) (l' : Local) → (IsBuilding a → ⊥) → Happens z r r' s choice l l' a → Shape z r → HasLostNone r'.ledger.rows s l'.activity l'
  outside a l' n h i q o =
      let y = lost_none_at a h i q (was_infant a h s q (λ c d. n (subst IsBuilding (sym c) tt)) o) in
      absurd (subst (λ m. IsNursed m l y.0) (unbuilt_nursing a n) y.1)

  -- the acting seat
  pub none_lost_own : (a : Activity) (l' : Local) → Arrow z (word z r.world) s choice l a l' → Happens z r r' s choice l l' a → Shape z r → HasLostNone r'.ledger.rows s l'.activity l'
  none_lost_own a l' (builds b next y t) h i = built_own b next t h (λ x. (infants_at b h i).hand x) (lost_none_at b h i)
  none_lost_own a l' b h i = outside _ l' (λ x. x) h i

  -- another seat
  pub none_lost_other : (a : Activity) {l' : Local} → Happens z r r' s choice l l' a → Shape z r → (t : ℕ) (k : Local) → t ≢ s → slice_get r.world.locals t ≡ Some k → HasLostNone r'.ledger.rows t k.activity k
  none_lost_other a h i t k d g q o = i.none_lost t k g q (was_infant a h t q (λ c e. d e) o)
