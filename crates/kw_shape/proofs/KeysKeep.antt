-- What each seat knows of the keys of its row, or of the rows of its group, stays so, and what
-- comes to it is so: a cell to which a link leads, or that an entry names, has a key that the row
-- may hold, and so has one that was gathered.
use Rattle.std.proofs.Common.{ℕ, ◌≡◌, ◌≢◌, ◌⊎◌, inl, inr, ◌*◌, ◌<◌, ◌≤◌, arith, ◌++◌, All, Bool, true, false, nat_lt, if◌then◌else◌, List, [], ◌∷◌, Option, Some, None, refl, sym, ◌∙◌, ap, subst, get_or, length, slice_get}
use Rattle.std.proofs.lemmas.List.Elements.{All-append, All-cons, All-nil}
use Rattle.std.proofs.lemmas.Option.{same_Some}
use Rattle.kw_words.specs.declared.layout.Name.{Name}
use Rattle.kw_words.specs.declared.layout.Name.TheVariants as name
use Rattle.kw_words.specs.declared.pend.Pend.TheVariants as pend
use Rattle.kw_words.specs.Pend.{pend_of}
use Rattle.kw_words.specs.Plain.{built_of_word, cell_of_link_word, key_of_word}
use Rattle.kw_words.specs.declared.sizes.TheConstants.{MOST_GROUP}
use Rattle.kw_cells.specs.declared.cell.Cell.{Cell}
use Rattle.kw_cells.specs.InOrder.{with_cell}
use Rattle.kw_rows.specs.Group.{Group}
use Rattle.kw_rows.specs.Ledger.{Ledger}
use Rattle.kw_rows.specs.Rows as rows
use Rattle.kw_rows.specs.Rows.{WasLinked}
use Rattle.kw_world.specs.declared.activity.Activity.{Activity}
use Rattle.kw_world.specs.declared.activity.rebalance.engage.Engage.TheVariants as Engage
use Rattle.kw_world.specs.declared.activity.rebalance.freeze.Freeze.TheVariants as Freeze
use Rattle.kw_world.specs.declared.activity.rebalance.gather.Gather.TheVariants as Gather
use Rattle.kw_world.specs.declared.activity.insert.Insert.TheVariants as Insert
use Rattle.kw_world.specs.declared.activity.put.Put.TheVariants as Put
use Rattle.kw_world.specs.declared.activity.rebalance.Rebalance.TheVariants as Rebalance
use Rattle.kw_world.specs.declared.activity.rebalance.replace.Replace.TheVariants as Replace
use Rattle.kw_world.specs.declared.answer.Answer.TheVariants.{Done, NoRows}
use Rattle.kw_world.specs.declared.event.Choice.{Choice}
use Rattle.kw_world.specs.declared.local.Local.{Local}
use Rattle.kw_world.specs.declared.marks.Mark.{Mark}
use Rattle.kw_world.specs.ListTransitions.{link_name, cell_guess}
use Rattle.kw_world.specs.ClaimTransitions.{row_after, with_second}
use Rattle.kw_world.specs.EngageTransitions.{to_group}
use Rattle.kw_world.specs.FreezeTransitions.{marking, needing}
use Rattle.kw_world.specs.GroupPlaces.{base, cell_at, place_in_group, places, row_at}
use Rattle.kw_world.specs.Marks.{least_mark, mark_of}
use Rattle.kw_world.specs.Sane.{IsActivity, IsCellBelow, IsLocal, IsSane}
use Rattle.kw_world.specs.Sizes.{Sizes}
use Rattle.kw_world.specs.Step.{word}
use Rattle.kw_world.specs.TakeTransitions.{cell_of_group, keeping, to_take}
use Rattle.kw_world.specs.Transition.{row_or_first}
use Rattle.kw_world.proofs.Transitions.{first_loads}
use Rattle.kw_core.specs.Run.{Run}
use Rattle.kw_core.specs.Stages.{IsAtRow, IsPastStart}
use Rattle.kw_core.specs.Words.{Words, built_in, next_in}
use Rattle.kw_core.proofs.Arrows.{Arrow, NextLook, looks, lists, NextLeftOver, goes_to_left_over, answers, ends_scan, scans_on, sees_stamped, sees_neither, is_gone_by, helps, finds_stamped, finds_other, list_ends, key_above, left_over_gone_by, gathers_left_over, stores_key, stores_value, announces, loads_clock, stamps, is_stamped, stores_version, reaches_cell, sees_none, key_before, key_same, key_after, version_before, version_after, stores_after, loses, freezes_count, sees_idle, sees_unstamped, remembers, remembers_last, sees_frozen, sees_frozen_last, freezes_entry, freezes_last, looks_again, marks_led, decides, next_leads, marks_next, sees_quiet, sees_quiet_last, helps_scan, sees_drawn, sees_drawn_last, draws_for, settles_scan, settles_last, finds_drawn, finds_drawn_last, finds_no_scan, finds_no_scan_last, take_leads, takes_left, takes_no_more, takes_key, takes_version, keeps_taken, takes_left_key, keeps_left, keeps_no_more, builds, first_ends, first_reaches, first_sees_none, inserts_at_first, inserts_behind, asks_of_pin, looks_at_pin}
use Rattle.kw_core.proofs.Building.{Building, IsBuilding, makes_normal, makes_last_normal, draws_number, retires_ahead, retires_row, retires_and_leaves}
use Rattle.kw_core.proofs.BuiltNext.{IsAfterBuilding, built_keeps, built_next}
use Rattle.kw_core.proofs.Grouping.{NextCounted, claims_row, goes_alone, NextFrozen, NextGathered, freezes_ahead, froze_all, gathered_all, gathers_ahead}
use Rattle.kw_core.proofs.Happens.{Happens}
use Rattle.kw_core.proofs.InRange.{least_holds, unmarked_in_range, with_cell_in_range}
use Rattle.kw_shape.proofs.KeyedKeeps.{cell_fits, cell_keeps, cell_of_entry, from_keeps, key_keeps, keyed_stays, put_key_holds, stored_leads}
use Rattle.kw_shape.proofs.Hands.{HasGroup, cell_few, group_balances, group_fresh, hand_of_group, knows_group, left_row, place_cell, place_row, place_within, places_few, row_of_group, second_base, view_led}
use Rattle.kw_shape.proofs.LinkedRows.{fresh_linked}
use Rattle.kw_shape.specs.Hands.{Hand, HasHand, IsOfGroup}
use Rattle.kw_shape.specs.Keyed.{HasGathered, HasKeyInHand, HasMarks, HasReachedCell, HasOwnKey, HoldsCell, HoldsFrom, HoldsGathered, HoldsPlace, IsGatheringRow, IsInList, IsOfCell, Keyed, Keys, Reaches, is_there, leads_on, list_row}
use Rattle.kw_shape.specs.RowsIn.{rows_in}
use Rattle.kw_shape.specs.Shape.{Shape}
use Rattle.kw_shape.proofs.AfterBuilding.{kind_at, no_call_of_pin}

-- A seat that knows of keys is at a row that was linked.

own_row : (a : Activity) → HasOwnKey a → IsAtRow a
own_row (Activity.Put Put.Count) x = tt
own_row _ x = assumption (x, tt)

list_linked : (P : ℕ → Type 0) (a : Activity) (l : Local) (c : ℕ) → (IsAtRow a → P l.row) → (HasMarks a → HasHand a → P l.rebalance.hand) → IsInList a l c → P (list_row a l)
list_linked P (Activity.Insert Insert.Start) l c f g x = f tt
list_linked P (Activity.Insert Insert.Link) l c f g x = f tt
list_linked P (Activity.Insert Insert.Key) l c f g x = f tt
list_linked P (Activity.Insert Insert.Version) l c f g x = f tt
list_linked P (Activity.Insert Insert.Set) l c f g x = f tt
list_linked P (Activity.Insert Insert.Exchange) l c f g x = f tt
list_linked P (Activity.Rebalance (Rebalance.Gather Gather.Link)) l c f g x = g tt tt
list_linked P (Activity.Rebalance (Rebalance.Gather Gather.Key)) l c f g x = g tt tt
list_linked P (Activity.Rebalance (Rebalance.Gather Gather.Version)) l c f g x = g tt tt
list_linked P (Activity.Rebalance (Rebalance.Gather Gather.Value)) l c f g x = g tt tt
list_linked P _ l c f g x = absurd x

marks_group : (a : Activity) → HasMarks a → HasGroup a
marks_group (Activity.Rebalance (Rebalance.Freeze _)) x = tt
marks_group (Activity.Rebalance (Rebalance.Gather _)) x = tt
marks_group _ x = absurd x

reached_marks : (a : Activity) → HasReachedCell a → HasMarks a
reached_marks (Activity.Rebalance (Rebalance.Gather Gather.Key)) x = tt
reached_marks (Activity.Rebalance (Rebalance.Gather Gather.LeftOverKey)) x = tt
reached_marks _ x = absurd x

key_marks : (a : Activity) → HasKeyInHand a → HasMarks a
key_marks (Activity.Rebalance (Rebalance.Gather Gather.Version)) x = tt
key_marks (Activity.Rebalance (Rebalance.Gather Gather.Value)) x = tt
key_marks (Activity.Rebalance (Rebalance.Gather Gather.LeftOverValue)) x = tt
key_marks _ x = absurd x

reached_hand : (a : Activity) → HasReachedCell a → HasHand a
reached_hand (Activity.Rebalance (Rebalance.Gather Gather.Key)) x = tt
reached_hand (Activity.Rebalance (Rebalance.Gather Gather.LeftOverKey)) x = tt
reached_hand _ x = absurd x

key_hand : (a : Activity) → HasKeyInHand a → HasHand a
key_hand (Activity.Rebalance (Rebalance.Gather Gather.Version)) x = tt
key_hand (Activity.Rebalance (Rebalance.Gather Gather.Value)) x = tt
key_hand (Activity.Rebalance (Rebalance.Gather Gather.LeftOverValue)) x = tt
key_hand _ x = absurd x

gathered_group : (a : Activity) → HasGathered a → HasGroup a
gathered_group (Activity.Rebalance (Rebalance.Gather _)) x = tt
gathered_group (Activity.Rebalance (Rebalance.Seek _)) x = tt
gathered_group (Activity.Rebalance (Rebalance.Write _)) x = tt
gathered_group (Activity.Rebalance (Rebalance.Replace Replace.Start)) x = tt
gathered_group (Activity.Rebalance (Rebalance.Replace Replace.GuessedLeast)) x = tt
gathered_group (Activity.Rebalance (Rebalance.Replace Replace.First)) x = tt
gathered_group (Activity.Rebalance (Rebalance.Replace Replace.Next)) x = tt
gathered_group (Activity.Rebalance (Rebalance.Replace Replace.NextLeast)) x = tt
gathered_group (Activity.Rebalance (Rebalance.Replace Replace.Exchange)) x = tt
gathered_group _ x = absurd x

-- What follows where new rows are built: the cells that were gathered alone are known.

after_own : (a : Activity) → IsAfterBuilding a → HasOwnKey a → ⊥
after_own (Activity.Put Put.Value) b x = b
after_own _ b x = assumption (b, x)

after_list : (a : Activity) (l : Local) (c : ℕ) → IsAfterBuilding a → IsInList a l c → ⊥
after_list (Activity.Insert Insert.Start) l c b x = b
after_list (Activity.Insert Insert.Link) l c b x = b
after_list (Activity.Insert Insert.Key) l c b x = b
after_list (Activity.Insert Insert.Version) l c b x = b
after_list (Activity.Insert Insert.Set) l c b x = b
after_list (Activity.Insert Insert.Exchange) l c b x = b
after_list (Activity.Rebalance (Rebalance.Gather Gather.Link)) l c b x = b
after_list (Activity.Rebalance (Rebalance.Gather Gather.Key)) l c b x = b
after_list (Activity.Rebalance (Rebalance.Gather Gather.Version)) l c b x = b
after_list (Activity.Rebalance (Rebalance.Gather Gather.Value)) l c b x = b
after_list _ l c b x = x

after_marks : (a : Activity) → IsAfterBuilding a → HasMarks a → ⊥
after_marks (Activity.Rebalance (Rebalance.Gather Gather.Link)) b x = b
after_marks _ b x = assumption (b, x)

after_reached : (a : Activity) → IsAfterBuilding a → HasReachedCell a → ⊥
after_reached (Activity.Rebalance (Rebalance.Gather Gather.Key)) b x = b
after_reached _ b x = assumption (b, x)

after_key : (a : Activity) → IsAfterBuilding a → HasKeyInHand a → ⊥
after_key (Activity.Rebalance (Rebalance.Gather Gather.Version)) b x = b
after_key _ b x = assumption (b, x)

after_gathered : (a : Activity) → IsAfterBuilding a → HasGathered a → IsBuilding a
after_gathered Activity.Retry b x = absurd x
after_gathered (Activity.Rebalance (Rebalance.Engage Engage.Clock)) b x = absurd x
after_gathered (Activity.Leave NoRows) b x = absurd x
after_gathered (Activity.Leave Done) b x = absurd x
after_gathered _ b x = b

-- and they were known before
gathered_before : (z : Sizes) (v : Words) (choice : Choice) (l : Local) (a : Activity) (k : Local) → Building z v choice l a k → HasGathered k.activity → HasGathered a
gathered_before z v choice l a k (makes_normal o) x = absurd x
gathered_before z v choice l a k (makes_last_normal o) x = absurd x
gathered_before z v choice l a k draws_number x = absurd x
gathered_before z v choice l a k (retires_ahead q e) x = absurd x
gathered_before z v choice l a k (retires_row n nd) x = absurd x
gathered_before z v choice l a k (retires_and_leaves n dn) x = absurd x
gathered_before z v choice l a k _ x = tt

-- a held cell is one of the row's
held_cell : {n : ℕ} (held : Option ℕ) (c : ℕ) → IsCellBelow n held → held ≡ Some c → c < n
held_cell {n} (Some d) c o e = subst (λ x. x < n) (same_Some d c e) o
held_cell {n} None c o e = let x : None ≡ Some c = e in absurd (cc)

place_or_held : {n : ℕ} (l : Local) (c : ℕ) → l.place < n → IsCellBelow n l.held → (l.place ≡ c) ⊎ (l.held ≡ Some c) → c < n
place_or_held {n} l c o p (inl e) = subst (λ x. x < n) e o
place_or_held l c o p (inr e) = held_cell l.held c p e

-- a cell from which a seat goes on in its row's list is one of the row's
list_cell : {z : Sizes} (a : Activity) (l : Local) (c : ℕ) → IsLocal z l → IsInList a l c → c < z.cells
list_cell (Activity.Insert Insert.Start) l c i x = held_cell l.link c i.link x
list_cell (Activity.Insert Insert.Link) l c i x = held_cell l.link c i.link x
list_cell (Activity.Insert Insert.Key) l c i x = place_or_held l c i.place i.held x
list_cell (Activity.Insert Insert.Version) l c i x = place_or_held l c i.place i.held x
list_cell (Activity.Insert Insert.Set) l c i x = held_cell l.held c i.held x
list_cell {z} (Activity.Insert Insert.Exchange) l c i x = subst (λ n. n < z.cells) x i.cell
list_cell (Activity.Rebalance (Rebalance.Gather Gather.Link)) l c i x = held_cell l.link c i.link x
list_cell {z} (Activity.Rebalance (Rebalance.Gather Gather.Key)) l c i x = subst (λ n. n < z.cells) x i.place
list_cell {z} (Activity.Rebalance (Rebalance.Gather Gather.Version)) l c i x = subst (λ n. n < z.cells) x i.place
list_cell {z} (Activity.Rebalance (Rebalance.Gather Gather.Value)) l c i x = subst (λ n. n < z.cells) x i.place
list_cell _ l c i x = absurd x

-- Where a part has no event of its own.

module _ (v : Words) (g : Ledger) where
  -- the cell at which a seat stands is one, and there is none where it stands at the first link
  held_list : (q b c : ℕ) → HoldsFrom v g q b → Some b ≡ Some c → HoldsFrom v g q c
  held_list q b c x e = subst (HoldsFrom v g q) (same_Some b c e) x

  none_list : (q c : ℕ) → None ≡ Some c → HoldsFrom v g q c
  none_list q c e = absurd (cc)

  -- it has just reached a cell, which it holds too
  reached_list : (q b c : ℕ) → HoldsFrom v g q b → (b ≡ c) ⊎ (Some b ≡ Some c) → HoldsFrom v g q c
  reached_list q b c x (inl e) = subst (HoldsFrom v g q) e x
  reached_list q b c x (inr e) = held_list q b c x e

  -- a reader knows of no keys
  look_keys : (z : Sizes) (j : ℕ) (next : Activity) (k : Local) → NextLook z j next → Keys z v g next k
  look_keys z j next k (looks o) = record { own = λ x. absurd x; list = λ c x. absurd x; marks = λ x. absurd x; saw = λ x. absurd x; key = λ x. absurd x; gathered = λ x. absurd x }
  look_keys z j next k (lists o) = record { own = λ x. absurd x; list = λ c x. absurd x; marks = λ x. absurd x; saw = λ x. absurd x; key = λ x. absurd x; gathered = λ x. absurd x }

  cell_keys : (z : Sizes) (l : Local) (next : Local) → NextLeftOver l next → Keys z v g next.activity next
  cell_keys z l next (goes_to_left_over m o) = record { own = λ x. absurd x; list = λ c x. absurd x; marks = λ x. absurd x; saw = λ x. absurd x; key = λ x. absurd x; gathered = λ x. absurd x }
  cell_keys z l next (answers o n) = record { own = λ x. absurd x; list = λ c x. absurd x; marks = λ x. absurd x; saw = λ x. absurd x; key = λ x. absurd x; gathered = λ x. absurd x }
  cell_keys z l next (ends_scan o y n) = record { own = λ x. absurd x; list = λ c x. absurd x; marks = λ x. absurd x; saw = λ x. absurd x; key = λ x. absurd x; gathered = λ x. absurd x }
  cell_keys z l next (scans_on q o y n w) = record { own = λ x. absurd x; list = λ c x. absurd x; marks = λ x. absurd x; saw = λ x. absurd x; key = λ x. absurd x; gathered = λ x. absurd x }

  -- What a seat knows of the rows of its group.

  module _ (z : Sizes) (l : Local) (hand : Hand l) (apart : l.rebalance.second ≢ Some l.row) where
    -- a cell of the row at hand is one of its place
    at_place : (c : ℕ) → c < z.cells → HoldsCell v g l.rebalance.hand c → HoldsPlace z v g l (place_in_group z l.rebalance c)
    at_place c o x = (place_within z l c hand apart o, subst (λ n. HoldsCell v g (row_at z l (place_in_group z l.rebalance c)) n) (sym (place_cell z l.rebalance c o)) (subst (λ q. HoldsCell v g q c) (sym (place_row z l c hand apart o)) x))

    -- one more cell is remembered
    marks_more : (marks : List Mark) (c version : ℕ) → c < z.cells → All (λ m. HoldsPlace z v g l m.cell) marks → HoldsCell v g l.rebalance.hand c → All (λ m. HoldsPlace z v g l m.cell) (marks ++ mark_of (place_in_group z l.rebalance c) version ∷ [])
    marks_more marks c version o all x = All-append (λ m. HoldsPlace z v g l m.cell) marks (mark_of (place_in_group z l.rebalance c) version ∷ []) all (All-cons (λ m. HoldsPlace z v g l m.cell) (mark_of (place_in_group z l.rebalance c) version) [] (at_place c o x) (All-nil (λ m. HoldsPlace z v g l m.cell)))

    -- one more cell is gathered
    kept_more : (value : Option ℕ) → l.place < z.cells → rows.HoldsKey (rows_in v) g l.rebalance.hand l.place_key → All (HoldsGathered z v g l) l.rebalance.gathered → All (HoldsGathered z v g l) (keeping z value l).rebalance.gathered
    kept_more value o x all = which (nat_lt (length l.rebalance.gathered) (MOST_GROUP * z.cells))
      where
        here : HoldsGathered z v g l (cell_of_group z value l)
        here = (place_within z l l.place hand apart o, subst (λ q. rows.HoldsKey (rows_in v) g q l.place_key) (sym (place_row z l l.place hand apart o)) x)

        which : (b : Bool) → All (HoldsGathered z v g l) (if b then with_cell (cell_of_group z value l) l.rebalance.gathered else l.rebalance.gathered)
        which true = with_cell_in_range (HoldsGathered z v g l) (cell_of_group z value l) l.rebalance.gathered here all
        which false = all

    -- a remembered cell of the row at hand is left
    left_over : (m : Mark) → (l.rebalance.second ≡ Some l.rebalance.hand → z.cells ≤ m.cell) → least_mark l.rebalance.marks ≡ Some m → m.cell < place_in_group z l.rebalance z.cells → All (λ n. HoldsPlace z v g l n.cell) l.rebalance.marks → HoldsCell v g l.rebalance.hand (cell_at z m.cell)
    left_over m behind e o all = subst (λ q. HoldsCell v g q (cell_at z m.cell)) (left_row z l m.cell hand apart behind o) (least_holds (λ n. HoldsPlace z v g l n.cell) l.rebalance.marks m e all).1

  -- the next row of the group is frozen, or the scans are looked at
  frozen_keys : (z : Sizes) (l next : Local) → NextFrozen l next → All (λ m. HoldsPlace z v g l m.cell) l.rebalance.marks → Keys z v g next.activity next
  frozen_keys z l next (freezes_ahead q e) all = record { own = λ x. absurd x; list = λ c x. absurd x; marks = λ x. all; saw = λ x. absurd x; key = λ x. absurd x; gathered = λ x. absurd x }
  frozen_keys z l next (froze_all e) all = record { own = λ x. absurd x; list = λ c x. absurd x; marks = λ x. all; saw = λ x. absurd x; key = λ x. absurd x; gathered = λ x. absurd x }

  -- the next row of the group is gathered, or the plan is made
  gathered_keys : (z : Sizes) (l next : Local) → NextGathered z l next → All (λ m. HoldsPlace z v g l m.cell) l.rebalance.marks → All (HoldsGathered z v g l) l.rebalance.gathered → Keys z v g next.activity next
  gathered_keys z l next (gathers_ahead q e) all cells = record { own = λ x. absurd x; list = λ c x. none_list q c x; marks = λ x. all; saw = λ x. absurd x; key = λ x. absurd x; gathered = λ x. cells }
  gathered_keys z l next (gathered_all e) all cells = record { own = λ x. absurd x; list = λ c x. absurd x; marks = λ x. absurd x; saw = λ x. absurd x; key = λ x. absurd x; gathered = λ x. cells }

  -- its group is decided, and no cell of it is remembered
  group_keys : (z : Sizes) (l : Local) → Keys z v g (to_group l).local.activity (to_group l).local
  group_keys z l = record { own = λ x. absurd x; list = λ c x. absurd x; marks = λ x. All-nil (λ m. HoldsPlace z v g l m.cell); saw = λ x. absurd x; key = λ x. absurd x; gathered = λ x. absurd x }

  counted_keys : (z : Sizes) (count : ℕ) (l next : Local) → NextCounted count l next → Keys z v g next.activity next
  counted_keys z count l next (claims_row q m e) = record { own = λ x. absurd x; list = λ c x. absurd x; marks = λ x. absurd x; saw = λ x. absurd x; key = λ x. absurd x; gathered = λ x. absurd x }
  counted_keys z count l next (goes_alone d) = group_keys z l

  -- all scans are looked at, and no cell is gathered
  take_keys : (z : Sizes) (l : Local) → All (λ m. HoldsPlace z v g l m.cell) l.rebalance.marks → Keys z v g (to_take l).local.activity (to_take l).local
  take_keys z l all = record { own = λ x. absurd x; list = λ c x. none_list l.row c x; marks = λ x. all; saw = λ x. absurd x; key = λ x. absurd x; gathered = λ x. All-nil (HoldsGathered z v g l) }

  -- new rows are built
  abbrev GatheredIn : Sizes → ℕ → Option ℕ → Cell → Type 0
  GatheredIn z row second c = (c.place < places z second) × rows.HoldsKey (rows_in v) g (if nat_lt c.place z.cells then row else row_or_first second) c.key

  built_keys : (z : Sizes) (w : Words) (choice : Choice) (l : Local) (a : Activity) (next : Local) → IsBuilding a → Building z w choice l a next → Keys z v g a l → Keys z v g next.activity next
  built_keys z w choice l a next p t k = record {
    own = λ x. absurd (after_own next.activity after x);
    list = λ c x. absurd (after_list next.activity next c after x);
    marks = λ x. absurd (after_marks next.activity after x);
    saw = λ x. absurd (after_reached next.activity after x);
    key = λ x. absurd (after_key next.activity after x);
    gathered = λ x.
        let y = built_keeps z w choice l a next t (after_gathered next.activity after x) in
        subst (λ (cells : List Cell). All (HoldsGathered z v g next) cells) (sym y.gathered)
        (subst (λ q. All (GatheredIn z q next.rebalance.second) l.rebalance.gathered) (sym y.row)
        (subst (λ o. All (GatheredIn z l.row o) l.rebalance.gathered) (sym y.second) (k.gathered (gathered_before z w choice l a next t x))));
  }
    where
      after : IsAfterBuilding next.activity
      after = built_next z w choice l a next t

module _ {z : Sizes} {r : Run} where
  -- the row of a seat that is at one
  row_linked : Shape z r → (t : ℕ) (k : Local) (a : Activity) → slice_get r.world.locals t ≡ Some k → k.activity ≡ a → IsAtRow a → WasLinked r.ledger.rows k.row
  row_linked i t k a g e x = fresh_linked r.ledger.rows t k.row ((i.walks t k g).at (subst IsAtRow (sym e) x)).fresh

  -- and each row of the group of one that rebalances
  group_linked : Shape z r → (t : ℕ) (k : Local) (a : Activity) → slice_get r.world.locals t ≡ Some k → k.activity ≡ a → HasGroup a → (q : ℕ) → IsOfGroup k q → WasLinked r.ledger.rows q
  group_linked i t k a g e x q o =
      let b = i.balances t k g in
      let y : HasGroup k.activity = subst HasGroup (sym e) x in
      fresh_linked r.ledger.rows t q (group_fresh (rows_in (word z r.world)) r.ledger.rows i.rows.closed t k (b.fresh (group_balances k.activity y)) (subst (Group (rows_in (word z r.world)) r.ledger.rows) (view_led k.activity k y) b.group) q o)

  -- so the row at hand
  hand_linked : Shape z r → (t : ℕ) (k : Local) (a : Activity) → slice_get r.world.locals t ≡ Some k → k.activity ≡ a → HasMarks a → HasHand a → WasLinked r.ledger.rows k.rebalance.hand
  hand_linked i t k a g e x y = group_linked i t k a g e (marks_group a x) k.rebalance.hand (hand_of_group k ((i.balances t k g).hands (subst HasHand (sym e) y)))

module _ {z : Sizes} {r r' : Run} {s : ℕ} {choice : Choice} {l : Local} where
  -- what a seat knows of keys is so after the event
  pub keys_stay : {l' : Local} (a : Activity) → Happens z r r' s choice l l' a → Shape z r → IsSane z r'.world → (t : ℕ) (k : Local) → slice_get r.world.locals t ≡ Some k → Keys z (word z r'.world) r'.ledger.rows k.activity k
  keys_stay a h i sane t k g = record {
    own = λ x. cell_keeps a h i k.row k.cell (at (own_row k.activity x)) ranges.cell (keys.own x);
    list = λ c x d. from_keeps a h i sane (list_row k.activity k) c d (list_linked (WasLinked r.ledger.rows) k.activity k c at hand x) (list_cell k.activity k c ranges x) (keys.list c x);
    marks = λ x j d o.
        let y = keys.marks x j d o in
        (y.0, cell_keeps a h i (row_at z k (get_or k.rebalance.marks j d).cell) (cell_at z (get_or k.rebalance.marks j d).cell) (there (marks_group k.activity x) _ y.0) (cell_few z _ (omega (arith, y.0, places_few z k.rebalance.second))) y.1);
    saw = λ x. cell_keeps a h i k.rebalance.hand k.place (hand (reached_marks k.activity x) (reached_hand k.activity x)) ranges.place (keys.saw x);
    key = λ x. key_keeps a h i k.rebalance.hand k.place_key (hand (key_marks k.activity x) (key_hand k.activity x)) (keys.key x);
    gathered = λ x j d o. let y = keys.gathered x j d o in (y.0, key_keeps a h i _ _ (there (gathered_group k.activity x) _ y.0) y.1);
  }
    where
      ranges : IsLocal z k
      ranges = (i.sane.locals t k g).ranges

      keys : Keys z (word z r.world) r.ledger.rows k.activity k
      keys = i.keys t k g

      at : IsAtRow k.activity → WasLinked r.ledger.rows k.row
      at x = row_linked i t k k.activity g refl x

      hand : HasMarks k.activity → HasHand k.activity → WasLinked r.ledger.rows k.rebalance.hand
      hand x y = hand_linked i t k k.activity g refl x y

      there : HasGroup k.activity → (p : ℕ) → p < places z k.rebalance.second → WasLinked r.ledger.rows (row_at z k p)
      there x p o = group_linked i t k k.activity g refl x (row_at z k p) (row_of_group z k p o)

  -- a cell to which the link leads that the seat loads, and one that an entry names that it loads,
  -- and what is reached from there
  led : {l' : Local} (a : Activity) → Happens z r r' s choice l l' a → (q : ℕ) → Keyed z (word z r'.world) r'.ledger.rows q → ((b : ℕ) → l.link ≡ Some b → HoldsFrom (word z r'.world) r'.ledger.rows q b) → (c : ℕ) → ((n : Name) → word z r'.world n ≡ word z r.world n) → cell_of_link_word (word z r.world (link_name q l.link)) ≡ Some c → HoldsFrom (word z r'.world) r'.ledger.rows q c
  led a h q y from c same e = by l.link refl
    where
      -- the link at which it stands
      leads : (at : Option ℕ) → l.link ≡ at → cell_of_link_word (word z r'.world (link_name q at)) ≡ Some c
      leads at f = subst (λ x. cell_of_link_word (word z r'.world (link_name q x)) ≡ Some c) f (ap cell_of_link_word (same (link_name q l.link)) ∙ e)

      by : (at : Option ℕ) → l.link ≡ at → HoldsFrom (word z r'.world) r'.ledger.rows q c
      by None f = y.first c (leads None f)
      by (Some b) f = λ d m. from b f d (leads_on b c d (leads (Some b) f) m)

  -- a guessed cell, with which the row was built
  guessed : {l' : Local} → Happens z r r' s choice l l' (Activity.Insert Insert.Start) → Shape z r → Keyed z (word z r'.world) r'.ledger.rows l.row → (c : ℕ) → c < l.built → HoldsFrom (word z r'.world) r'.ledger.rows l.row c
  guessed h i y c inside = y.built c (omega (arith, inside, within, same))
    where
      within : l.built ≤ built_in (word z r.world) l.row
      within = (i.walks s l h.knows).built (subst IsPastStart (sym h.activity) tt)

      same : built_in (word z r'.world) l.row ≡ built_in (word z r.world) l.row
      same = ap built_of_word (h.changed.loaded (first_loads (cell_guess choice l) l) (name.Least l.row))

  -- the own cell, once the link after it is stored
  own_set : {l' : Local} → Happens z r r' s choice l l' (Activity.Insert Insert.Set) → Shape z r → Keys z (word z r'.world) r'.ledger.rows (Activity.Insert Insert.Set) l → HoldsFrom (word z r'.world) r'.ledger.rows l.row l.cell
  own_set h i k d m = by l.cell d refl m
    where
      by : (c d : ℕ) → l.cell ≡ c → Reaches (word z r'.world) l.row c d → HoldsCell (word z r'.world) r'.ledger.rows l.row d
      by _ _ f (is_there c) = subst (HoldsCell (word z r'.world) r'.ledger.rows l.row) f (k.own tt)
      by _ _ f (leads_on c b e g n) =
          let there : cell_of_link_word (word z r'.world (name.After l.row l.cell)) ≡ Some b = subst (λ x. cell_of_link_word (word z r'.world (name.After l.row x)) ≡ Some b) (sym f) g in
          k.list b (stored_leads z l.held b (cell_fits l.held (i.sane.locals s l h.knows).ranges.held i.sane.sized.few_cells) (sym (ap cell_of_link_word h.changed.same) ∙ there)) e n

  named : {l' : Local} (j : ℕ) → Happens z r r' s choice l l' (Activity.Rebalance (Rebalance.Freeze (Freeze.Look j))) → Shape z r → Keyed z (word z r'.world) r'.ledger.rows l.rebalance.hand → (c version : ℕ) → ((n : Name) → word z r'.world n ≡ word z r.world n) → pend_of (word z r.world (name.Pend l.rebalance.hand j)) ≡ Some (pend.Stamped c version) → HoldsCell (word z r'.world) r'.ledger.rows l.rebalance.hand c
  named j h i y c version same e = y.named j c (subst (IsActivity z) h.activity (i.sane.locals s l h.knows).ranges.activity) (subst (IsOfCell c) (sym (ap pend_of (same (name.Pend l.rebalance.hand j)) ∙ e)) refl)

  -- so it remembers one more cell
  named_more : {l' : Local} (j : ℕ) → Happens z r r' s choice l l' (Activity.Rebalance (Rebalance.Freeze (Freeze.Look j))) → Shape z r → Keyed z (word z r'.world) r'.ledger.rows l.rebalance.hand → (c version : ℕ) → ((n : Name) → word z r'.world n ≡ word z r.world n) → pend_of (word z r.world (name.Pend l.rebalance.hand j)) ≡ Some (pend.Stamped c version) →
      All (λ m. HoldsPlace z (word z r'.world) r'.ledger.rows l m.cell) l.rebalance.marks → All (λ m. HoldsPlace z (word z r'.world) r'.ledger.rows l m.cell) (marking z c version l).rebalance.marks
  named_more j h i y c version same e all =
      let b = knows_group z r i s l h.knows (Activity.Rebalance (Rebalance.Freeze (Freeze.Look j))) h.activity in
      let known = i.sane.locals s l h.knows in
      let o = cell_of_entry z c _ (i.sane.each (name.Pend l.rebalance.hand j) (known.below.rebalance.hand, subst (IsActivity z) h.activity known.ranges.activity)) (subst (IsOfCell c) (sym e) refl) in
      marks_more (word z r'.world) r'.ledger.rows z l (b.hand tt) (b.apart tt) l.rebalance.marks c version o all (named j h i y c version same e)

  -- it reads a remembered cell of the row at hand
  left_reached : {l' : Local} (a : Activity) → Happens z r r' s choice l l' a → Shape z r → HasHand a → HasMarks a → IsGatheringRow a → (m : Mark) → least_mark l.rebalance.marks ≡ Some m → m.cell < place_in_group z l.rebalance z.cells → All (λ n. HoldsPlace z (word z r'.world) r'.ledger.rows l n.cell) l.rebalance.marks → HoldsCell (word z r'.world) r'.ledger.rows l.rebalance.hand (cell_at z m.cell)
  left_reached a h i x y w m n o all = let b = knows_group z r i s l h.knows a h.activity in left_over (word z r'.world) r'.ledger.rows z l (b.hand x) (b.apart y) m (λ e. omega (arith, least_holds (λ n. base z l.rebalance ≤ n.cell) l.rebalance.marks m n (i.rest s l h.knows (subst IsGatheringRow (sym h.activity) w)), second_base z l.rebalance e)) n o all

  -- it gathers one more cell
  one_kept : {l' : Local} (a : Activity) → Happens z r r' s choice l l' a → Shape z r → HasHand a → HasMarks a → (value : Option ℕ) → rows.HoldsKey (rows_in (word z r'.world)) r'.ledger.rows l.rebalance.hand l.place_key → All (HoldsGathered z (word z r'.world) r'.ledger.rows l) l.rebalance.gathered → All (HoldsGathered z (word z r'.world) r'.ledger.rows l) (keeping z value l).rebalance.gathered
  one_kept a h i x y value k all = let b = knows_group z r i s l h.knows a h.activity in kept_more (word z r'.world) r'.ledger.rows z l (b.hand x) (b.apart y) value (i.sane.locals s l h.knows).ranges.place k all

  -- by the arrow that the acting seat takes
  keys_by : (a : Activity) (l' : Local) → Arrow z (word z r.world) s choice l a l' → Happens z r r' s choice l l' a → Shape z r → Keys z (word z r'.world) r'.ledger.rows a l → (IsAtRow a → Keyed z (word z r'.world) r'.ledger.rows l.row) → (HasMarks a → HasHand a → Keyed z (word z r'.world) r'.ledger.rows l.rebalance.hand) → Keys z (word z r'.world) r'.ledger.rows l'.activity l'
  keys_by a l' stores_value h i k y u = record { own = λ x. k.own tt; list = λ c x. absurd x; marks = λ x. absurd x; saw = λ x. absurd x; key = λ x. absurd x; gathered = λ x. absurd x }
  keys_by a l' (announces e) h i k y u = record { own = λ x. k.own tt; list = λ c x. absurd x; marks = λ x. absurd x; saw = λ x. absurd x; key = λ x. absurd x; gathered = λ x. absurd x }
  keys_by a l' loads_clock h i k y u = record { own = λ x. k.own tt; list = λ c x. absurd x; marks = λ x. absurd x; saw = λ x. absurd x; key = λ x. absurd x; gathered = λ x. absurd x }
  keys_by a l' (stamps e) h i k y u = record { own = λ x. k.own tt; list = λ c x. absurd x; marks = λ x. absurd x; saw = λ x. absurd x; key = λ x. absurd x; gathered = λ x. absurd x }
  keys_by a l' (is_stamped version e) h i k y u = record { own = λ x. k.own tt; list = λ c x. absurd x; marks = λ x. absurd x; saw = λ x. absurd x; key = λ x. absurd x; gathered = λ x. absurd x }
  keys_by a l' stores_version h i k y u = record { own = λ x. k.own tt; list = λ c x. none_list (word z r'.world) r'.ledger.rows l.row c x; marks = λ x. absurd x; saw = λ x. absurd x; key = λ x. absurd x; gathered = λ x. absurd x }
  keys_by a l' (first_reaches c e) h i k y u = record { own = λ x. k.own tt; list = λ d x. reached_list (word z r'.world) r'.ledger.rows l.row c d (led (Activity.Insert Insert.Start) h l.row (y tt) (λ b f. k.list b f) c (h.changed.loaded (first_loads (cell_guess choice l) l)) e) x; marks = λ x. absurd x; saw = λ x. absurd x; key = λ x. absurd x; gathered = λ x. absurd x }
  keys_by a l' (reaches_cell c e) h i k y u = record { own = λ x. k.own tt; list = λ d x. reached_list (word z r'.world) r'.ledger.rows l.row c d (led (Activity.Insert Insert.Link) h l.row (y tt) (λ b f. k.list b f) c (h.changed.loaded refl) e) x; marks = λ x. absurd x; saw = λ x. absurd x; key = λ x. absurd x; gathered = λ x. absurd x }
  keys_by a l' (first_sees_none e) h i k y u = record { own = λ x. k.own tt; list = λ c x. none_list (word z r'.world) r'.ledger.rows l.row c x; marks = λ x. absurd x; saw = λ x. absurd x; key = λ x. absurd x; gathered = λ x. absurd x }
  keys_by a l' (sees_none e) h i k y u = record { own = λ x. k.own tt; list = λ c x. none_list (word z r'.world) r'.ledger.rows l.row c x; marks = λ x. absurd x; saw = λ x. absurd x; key = λ x. absurd x; gathered = λ x. absurd x }
  keys_by a l' (inserts_behind guess inside e) h i k y u = record { own = λ x. k.own tt; list = λ c x. held_list (word z r'.world) r'.ledger.rows l.row guess c (guessed h i (y tt) guess inside) x; marks = λ x. absurd x; saw = λ x. absurd x; key = λ x. absurd x; gathered = λ x. absurd x }
  keys_by a l' (inserts_at_first guess e) h i k y u = record { own = λ x. k.own tt; list = λ c x. k.list c x; marks = λ x. absurd x; saw = λ x. absurd x; key = λ x. absurd x; gathered = λ x. absurd x }
  keys_by a l' (key_before e) h i k y u = record { own = λ x. k.own tt; list = λ c x. held_list (word z r'.world) r'.ledger.rows l.row l.place c (k.list l.place (inl refl)) x; marks = λ x. absurd x; saw = λ x. absurd x; key = λ x. absurd x; gathered = λ x. absurd x }
  keys_by a l' (key_same e) h i k y u = record { own = λ x. k.own tt; list = λ c x. k.list c x; marks = λ x. absurd x; saw = λ x. absurd x; key = λ x. absurd x; gathered = λ x. absurd x }
  keys_by a l' (key_after e) h i k y u = record { own = λ x. k.own tt; list = λ c x. k.list c (inr x); marks = λ x. absurd x; saw = λ x. absurd x; key = λ x. absurd x; gathered = λ x. absurd x }
  keys_by a l' (version_before e) h i k y u = record { own = λ x. k.own tt; list = λ c x. held_list (word z r'.world) r'.ledger.rows l.row l.place c (k.list l.place (inl refl)) x; marks = λ x. absurd x; saw = λ x. absurd x; key = λ x. absurd x; gathered = λ x. absurd x }
  keys_by a l' (version_after e) h i k y u = record { own = λ x. k.own tt; list = λ c x. k.list c (inr x); marks = λ x. absurd x; saw = λ x. absurd x; key = λ x. absurd x; gathered = λ x. absurd x }
  keys_by a l' stores_after h i k y u = record { own = λ x. k.own tt; list = λ c x. subst (HoldsFrom (word z r'.world) r'.ledger.rows l.row) x (own_set h i k); marks = λ x. absurd x; saw = λ x. absurd x; key = λ x. absurd x; gathered = λ x. absurd x }
  keys_by a l' (loses e) h i k y u = record { own = λ x. k.own tt; list = λ c x. none_list (word z r'.world) r'.ledger.rows l.row c x; marks = λ x. absurd x; saw = λ x. absurd x; key = λ x. absurd x; gathered = λ x. absurd x }
  keys_by a l' (marks_led count next d n) h i k y u = counted_keys (word z r'.world) r'.ledger.rows z _ _ next n
  keys_by a l' (decides count m next e n) h i k y u = counted_keys (word z r'.world) r'.ledger.rows z _ _ next n
  keys_by a l' (next_leads count e) h i k y u = group_keys (word z r'.world) r'.ledger.rows z l
  keys_by a l' marks_next h i k y u = group_keys (word z r'.world) r'.ledger.rows z (with_second (next_in (word z r.world) (row_after l)) l)
  keys_by a l' freezes_count h i k y u = record { own = λ x. absurd x; list = λ c x. absurd x; marks = λ x. k.marks tt; saw = λ x. absurd x; key = λ x. absurd x; gathered = λ x. absurd x }
  keys_by a l' (sees_idle j e) h i k y u = record { own = λ x. absurd x; list = λ c x. absurd x; marks = λ x. k.marks tt; saw = λ x. absurd x; key = λ x. absurd x; gathered = λ x. absurd x }
  keys_by a l' (sees_unstamped j c e) h i k y u = record { own = λ x. absurd x; list = λ c x. absurd x; marks = λ x. k.marks tt; saw = λ x. absurd x; key = λ x. absurd x; gathered = λ x. absurd x }
  keys_by a l' (remembers j c version e o) h i k y u = record { own = λ x. absurd x; list = λ d x. absurd x; marks = λ x. named_more j h i (u tt tt) c version (h.changed.loaded refl) e (k.marks tt); saw = λ x. absurd x; key = λ x. absurd x; gathered = λ x. absurd x }
  keys_by a l' (remembers_last j c version next e o n) h i k y u = frozen_keys (word z r'.world) r'.ledger.rows z (marking z c version l) next n (named_more j h i (u tt tt) c version (h.changed.loaded refl) e (k.marks tt))
  keys_by a l' (sees_frozen j e o) h i k y u = record { own = λ x. absurd x; list = λ c x. absurd x; marks = λ x. k.marks tt; saw = λ x. absurd x; key = λ x. absurd x; gathered = λ x. absurd x }
  keys_by a l' (sees_frozen_last j next e o n) h i k y u = frozen_keys (word z r'.world) r'.ledger.rows z l next n (k.marks tt)
  keys_by a l' (freezes_entry j e o) h i k y u = record { own = λ x. absurd x; list = λ c x. absurd x; marks = λ x. k.marks tt; saw = λ x. absurd x; key = λ x. absurd x; gathered = λ x. absurd x }
  keys_by a l' (freezes_last j next e o n) h i k y u = frozen_keys (word z r'.world) r'.ledger.rows z l next n (k.marks tt)
  keys_by a l' (looks_again j e) h i k y u = record { own = λ x. absurd x; list = λ c x. absurd x; marks = λ x. k.marks tt; saw = λ x. absurd x; key = λ x. absurd x; gathered = λ x. absurd x }
  keys_by a l' (sees_quiet j e o) h i k y u = record { own = λ x. absurd x; list = λ c x. absurd x; marks = λ x. k.marks tt; saw = λ x. absurd x; key = λ x. absurd x; gathered = λ x. absurd x }
  keys_by a l' (helps_scan j clock e) h i k y u = record { own = λ x. absurd x; list = λ c x. absurd x; marks = λ x. k.marks tt; saw = λ x. absurd x; key = λ x. absurd x; gathered = λ x. absurd x }
  keys_by a l' (sees_drawn j version e o) h i k y u = record { own = λ x. absurd x; list = λ c x. absurd x; marks = λ x. k.marks tt; saw = λ x. absurd x; key = λ x. absurd x; gathered = λ x. absurd x }
  keys_by a l' (draws_for j) h i k y u = record { own = λ x. absurd x; list = λ c x. absurd x; marks = λ x. k.marks tt; saw = λ x. absurd x; key = λ x. absurd x; gathered = λ x. absurd x }
  keys_by a l' (settles_scan j e o) h i k y u = record { own = λ x. absurd x; list = λ c x. absurd x; marks = λ x. k.marks tt; saw = λ x. absurd x; key = λ x. absurd x; gathered = λ x. absurd x }
  keys_by a l' (finds_drawn j version e o) h i k y u = record { own = λ x. absurd x; list = λ c x. absurd x; marks = λ x. k.marks tt; saw = λ x. absurd x; key = λ x. absurd x; gathered = λ x. absurd x }
  keys_by a l' (finds_no_scan j e o) h i k y u = record { own = λ x. absurd x; list = λ c x. absurd x; marks = λ x. k.marks tt; saw = λ x. absurd x; key = λ x. absurd x; gathered = λ x. absurd x }
  keys_by a l' (sees_quiet_last j e o) h i k y u = take_keys (word z r'.world) r'.ledger.rows z l (k.marks tt)
  keys_by a l' (sees_drawn_last j version e o) h i k y u = take_keys (word z r'.world) r'.ledger.rows z (needing version l) (k.marks tt)
  keys_by a l' (settles_last j e o) h i k y u = take_keys (word z r'.world) r'.ledger.rows z (needing l.rebalance.drawn l) (k.marks tt)
  keys_by a l' (finds_drawn_last j version e o) h i k y u = take_keys (word z r'.world) r'.ledger.rows z (needing version l) (k.marks tt)
  keys_by a l' (finds_no_scan_last j e o) h i k y u = take_keys (word z r'.world) r'.ledger.rows z l (k.marks tt)
  keys_by a l' (take_leads c e) h i k y u = record { own = λ x. absurd x; list = λ d x. subst (HoldsFrom (word z r'.world) r'.ledger.rows l.rebalance.hand) x (led (Activity.Rebalance (Rebalance.Gather Gather.Link)) h l.rebalance.hand (u tt tt) (λ b f. k.list b f) c (h.changed.loaded refl) e); marks = λ x. unmarked_in_range (λ m. HoldsPlace z (word z r'.world) r'.ledger.rows l m.cell) (place_in_group z l.rebalance c) l.rebalance.marks (k.marks tt); saw = λ x. led (Activity.Rebalance (Rebalance.Gather Gather.Link)) h l.rebalance.hand (u tt tt) (λ b f. k.list b f) c (h.changed.loaded refl) e c (is_there c); key = λ x. absurd x; gathered = λ x. k.gathered tt }
  keys_by a l' (takes_left m e n o) h i k y u = record { own = λ x. absurd x; list = λ c x. absurd x; marks = λ x. unmarked_in_range (λ m. HoldsPlace z (word z r'.world) r'.ledger.rows l m.cell) m.cell l.rebalance.marks (k.marks tt); saw = λ x. left_reached (Activity.Rebalance (Rebalance.Gather Gather.Link)) h i tt tt tt m n o (k.marks tt); key = λ x. absurd x; gathered = λ x. k.gathered tt }
  keys_by a l' (takes_no_more next e f n) h i k y u = gathered_keys (word z r'.world) r'.ledger.rows z l next n (k.marks tt) (k.gathered tt)
  keys_by a l' takes_key h i k y u = record { own = λ x. absurd x; list = λ c x. k.list c x; marks = λ x. k.marks tt; saw = λ x. absurd x; key = λ x. subst (λ w. rows.HoldsKey (rows_in (word z r'.world)) r'.ledger.rows l.rebalance.hand (key_of_word w)) (h.changed.loaded refl (name.Key l.rebalance.hand l.place)) (k.saw tt); gathered = λ x. k.gathered tt }
  keys_by a l' takes_version h i k y u = record { own = λ x. absurd x; list = λ c x. k.list c x; marks = λ x. k.marks tt; saw = λ x. absurd x; key = λ x. k.key tt; gathered = λ x. k.gathered tt }
  keys_by a l' keeps_taken h i k y u = record { own = λ x. absurd x; list = λ c x. held_list (word z r'.world) r'.ledger.rows l.rebalance.hand l.place c (k.list l.place refl) x; marks = λ x. k.marks tt; saw = λ x. absurd x; key = λ x. absurd x; gathered = λ x. one_kept (Activity.Rebalance (Rebalance.Gather Gather.Value)) h i tt tt _ (k.key tt) (k.gathered tt) }
  keys_by a l' takes_left_key h i k y u = record { own = λ x. absurd x; list = λ c x. absurd x; marks = λ x. k.marks tt; saw = λ x. absurd x; key = λ x. subst (λ w. rows.HoldsKey (rows_in (word z r'.world)) r'.ledger.rows l.rebalance.hand (key_of_word w)) (h.changed.loaded refl (name.Key l.rebalance.hand l.place)) (k.saw tt); gathered = λ x. k.gathered tt }
  keys_by a l' (keeps_left m n o) h i k y u = record { own = λ x. absurd x; list = λ c x. absurd x; marks = λ x. unmarked_in_range (λ m. HoldsPlace z (word z r'.world) r'.ledger.rows l m.cell) m.cell l.rebalance.marks (k.marks tt); saw = λ x. left_reached (Activity.Rebalance (Rebalance.Gather Gather.LeftOverValue)) h i tt tt tt m n o (k.marks tt); key = λ x. absurd x; gathered = λ x. one_kept (Activity.Rebalance (Rebalance.Gather Gather.LeftOverValue)) h i tt tt _ (k.key tt) (k.gathered tt) }
  keys_by a l' (keeps_no_more next f n) h i k y u = gathered_keys (word z r'.world) r'.ledger.rows z _ next n (k.marks tt) (one_kept (Activity.Rebalance (Rebalance.Gather Gather.LeftOverValue)) h i tt tt _ (k.key tt) (k.gathered tt))
  keys_by a l' (builds b next p t) h i k y u = built_keys (word z r'.world) r'.ledger.rows z (word z r.world) choice l b next p t k
  keys_by a l' (sees_stamped j c version next e n) h i k y u = look_keys (word z r'.world) r'.ledger.rows z _ next _ n
  keys_by a l' (sees_neither j next e n) h i k y u = look_keys (word z r'.world) r'.ledger.rows z _ next _ n
  keys_by a l' (is_gone_by next e n) h i k y u = look_keys (word z r'.world) r'.ledger.rows z _ next _ n
  keys_by a l' (helps next e n) h i k y u = look_keys (word z r'.world) r'.ledger.rows z _ next _ n
  keys_by a l' (finds_stamped c version next e n) h i k y u = look_keys (word z r'.world) r'.ledger.rows z _ next _ n
  keys_by a l' (finds_other next e n) h i k y u = look_keys (word z r'.world) r'.ledger.rows z _ next _ n
  keys_by a l' (first_ends next e n) h i k y u = cell_keys (word z r'.world) r'.ledger.rows z _ next n
  keys_by a l' (list_ends next e n) h i k y u = cell_keys (word z r'.world) r'.ledger.rows z _ next n
  keys_by a l' (key_above next e n) h i k y u = cell_keys (word z r'.world) r'.ledger.rows z _ next n
  keys_by a l' (left_over_gone_by next e n) h i k y u = cell_keys (word z r'.world) r'.ledger.rows z _ next n
  keys_by a l' (gathers_left_over next n) h i k y u = cell_keys (word z r'.world) r'.ledger.rows z _ next n
  keys_by a l' stores_key h i k y u = record { own = λ x. put_key_holds h i (row_linked i s l (Activity.Put Put.Key) h.knows h.activity tt); list = λ c x. absurd x; marks = λ x. absurd x; saw = λ x. absurd x; key = λ x. absurd x; gathered = λ x. absurd x }
  keys_by a l' (asks_of_pin next c n) h i k y u = no_call_of_pin _ h i c
  keys_by a l' (looks_at_pin j next n) h i k y u = absurd (kind_at _ h i)
  keys_by a l' _ h i k y u = record { own = λ x. absurd x; list = λ c x. absurd x; marks = λ x. absurd x; saw = λ x. absurd x; key = λ x. absurd x; gathered = λ x. absurd x }

  -- what the acting seat knows
  pub keys_own : {l' : Local} (a : Activity) → Happens z r r' s choice l l' a → Shape z r → IsSane z r'.world → Keys z (word z r'.world) r'.ledger.rows l'.activity l'
  keys_own {l'} a h i sane = keys_by a l' h.arrow h i (subst (λ b. Keys z (word z r'.world) r'.ledger.rows b l) h.activity (keys_stay a h i sane s l h.knows))
      (λ x. keyed_stays a h i sane l.row (row_linked i s l a h.knows h.activity x)) (λ x y. keyed_stays a h i sane l.rebalance.hand (hand_linked i s l a h.knows h.activity x y))
