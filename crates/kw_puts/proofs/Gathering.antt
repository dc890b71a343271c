-- What a seat that rebalances knows of the cells that it gathers of its frozen rows, and of what it
-- has gathered, lasts over every event.
use Rattle.std.proofs.Common.{ℕ, ◌≡◌, ◌⊎◌, inl, inr, ◌<◌, true, Some, List, arith, refl, sym, ◌∙◌, All, length, get_or, slice_get}
use Rattle.std.proofs.lemmas.List.Elements.{All-weaker}
use Rattle.kw_cells.specs.declared.cell.Cell.{Cell}
use Rattle.kw_cells.proofs.KeptOf.{kept_of-all}
use Rattle.kw_lists.specs.Rows.{Row, Stands}
use Rattle.kw_lists.proofs.Leaving.{on_left}
use Rattle.kw_lists.proofs.Same.{stands_same, behind_same}
use Rattle.kw_lists.proofs.Walking.{gone_by_stays}
use Rattle.kw_world.specs.declared.activity.Activity.{Activity}
use Rattle.kw_world.specs.declared.activity.rebalance.gather.Gather.TheVariants as Gather
use Rattle.kw_world.specs.declared.activity.rebalance.Rebalance.TheVariants as Rebalance
use Rattle.kw_world.specs.declared.activity.rebalance.replace.Replace.TheVariants as Replace
use Rattle.kw_world.specs.declared.activity.rebalance.seek.Seek.TheVariants as Seek
use Rattle.kw_world.specs.declared.activity.walk.Walk.TheVariants as Walk
use Rattle.kw_world.specs.declared.local.Local.{Local}
use Rattle.kw_world.specs.declared.event.Choice.{Choice}
use Rattle.kw_world.specs.GroupPlaces.{cell_at, place_in_group, places, row_at, source}
use Rattle.kw_world.specs.Marks.{is_marked}
use Rattle.kw_world.specs.Sizes.{Sizes}
use Rattle.kw_world.specs.Step.{word}
use Rattle.kw_core.specs.Grows.{Grows}
use Rattle.kw_core.specs.History.{History, attempt}
use Rattle.kw_core.specs.Listed.{Listed}
use Rattle.kw_core.specs.Run.{Origins, Run}
use Rattle.kw_core.specs.Step.{Step}
use Rattle.kw_core.specs.Words.{Words}
use Rattle.kw_core.proofs.Attempts.{in_range}
use Rattle.kw_core.proofs.Happens.{Happens, log_entry}
use Rattle.kw_rows.specs.Rows.{WasLinked}
use Rattle.kw_shape.specs.Hands.{Hand, HasHand, IsAllFrozen, IsOfGroup}
use Rattle.kw_shape.specs.Infants.{HasNone, Nursing, nursing_of}
use Rattle.kw_shape.specs.Keyed.{HasGathered, HoldsGathered, IsPlanned}
use Rattle.kw_shape.proofs.Hands.{frozen_group, hand_of_group}
use Rattle.kw_puts.specs.Below.{Below}
use Rattle.kw_puts.specs.Builds.{IsCellOf, IsGathered, has_place, IsGathering, IsTakeListing, HasTakenListed, IsToTake, IsTakenOf, Gathering, HasPlanned, HoldsGroup}
use Rattle.kw_puts.specs.Freezes.{IsFrozen}
use Rattle.kw_puts.specs.Lists.{list_in}
use Rattle.kw_puts.proofs.Freezes.{all_passed}
use Rattle.kw_puts.proofs.FrozenRows.{LeavesCells, leaves_cells}
use Rattle.kw_puts.proofs.GatheredCells.{placed_below}
use Rattle.kw_puts.proofs.GroupCells.{cell_below, end_within, row_of_group}
use Rattle.kw_puts.proofs.GroupRows.{all_frozen, group_linked}
use Rattle.kw_puts.proofs.RelyProof.{frozen_same}

-- what a seat knows of what it gathers and has gathered
pub record Gathers (z : Sizes) (row : Row) (h : History) (o : Origins) (a : Activity) (l : Local) : Type 0 where
  pub gathering : IsGathering a → Gathering z row h o a l
  pub gathered : IsGathering a → All (IsGathered h (source z o l)) l.rebalance.gathered
  pub collected : HasPlanned (nursing_of a) → All (IsGathered h (source z o l)) l.rebalance.gathered
  pub kept : HasPlanned (nursing_of a) → All (IsGathered h (source z o l)) l.rebalance.kept
  pub holds : HasPlanned (nursing_of a) → HoldsGroup z h o l

-- cells that stand at places of the seat's group
abbrev pub AreOfGroup : Sizes → Local → List Cell → Type 0
AreOfGroup z l cells = All (λ c. c.place < places z l.rebalance.second) cells

-- what is left of each row of the seat's group
abbrev pub LeavesGroup : Sizes → Words → Words → Listed → Listed → History → History → Origins → Origins → Local → Type 0
LeavesGroup z v v' f f' h h' o o' l = (q : ℕ) → IsOfGroup l q → LeavesCells z.cells (list_in v f q) (list_in v' f' q) h h' o o' q

-- Over what an event leaves of the rows.

-- a seat with a cell of the list in hand walks along the list
listed_listing : (a : Activity) → HasTakenListed a → IsTakeListing a
listed_listing (Activity.Rebalance (Rebalance.Gather Gather.Key)) x = tt
listed_listing (Activity.Rebalance (Rebalance.Gather Gather.Version)) x = tt
listed_listing (Activity.Rebalance (Rebalance.Gather Gather.Value)) x = tt
listed_listing _ x = absurd x

module _ (z : Sizes) (v v' : Words) (f f' : Listed) (h h' : History) (o o' : Origins) (l : Local) (w : LeavesGroup z v v' f f' h h' o o' l) where
  grows : Grows h h' (length h.log)
  grows = (w l.row (inl refl)).grows

  -- the cell of a stamped attempt is still that
  cell_lasts : (c : Cell) (p : ℕ) → IsCellOf h c p → IsCellOf h' c p
  cell_lasts c p i =
      let a = grows.old p (in_range h p i.stamped) in
      let s = a.stamped i.stamped in
      record { stamped = s.0; key = a.key ∙ i.key; version = s.1 ∙ i.version; value = a.value ∙ i.value }

  -- each cell that was gathered is so
  pub all_last : (cells : List Cell) → AreOfGroup z l cells → All (IsGathered h (source z o l)) cells → All (IsGathered h' (source z o' l)) cells
  all_last cells b a k d u = lasts (get_or cells k d) (b k d u) (a k d u)
    where
      lasts : (c : Cell) → c.place < places z l.rebalance.second → IsGathered h (source z o l) c → IsGathered h' (source z o' l) c
      lasts c p i = record { put = i.put; origin = (w (row_at z l c.place) (row_of_group z l c.place p)).origin (cell_at z c.place) ∙ i.origin; is = cell_lasts c i.put i.is }

  -- an attempt of a cell of such a row that is stamped now was stamped
  was_stamped : (q c p : ℕ) → IsOfGroup l q → c < z.cells → o' q c ≡ Some p → (attempt h' p).is_stamped ≡ true → (o q c ≡ Some p) × ((attempt h p).is_stamped ≡ true)
  was_stamped q c p i u e x = let y : o q c ≡ Some p = sym ((w q i).origin c) ∙ e in (y, (w q i).stamped c p u y x)

  -- what is gathered holds all of the group still
  pub holds_lasts : HoldsGroup z h o l → HoldsGroup z h' o' l
  holds_lasts k p x u e s = let y = was_stamped (row_at z l p) (cell_at z p) x (row_of_group z l p u) (cell_below z l p u) e s in k p x u y.0 y.1

  -- Of the row at hand.

  module _ (hand : Hand l) where
    left : LeavesCells z.cells (list_in v f l.rebalance.hand) (list_in v' f' l.rebalance.hand) h h' o o' l.rebalance.hand
    left = w l.rebalance.hand (hand_of_group l hand)

    -- the cell in hand
    taken_lasts : (a : Activity) → IsTakenOf h o a l → IsTakenOf h' o' a l
    taken_lasts a i =
        let b = grows.old i.put (in_range h i.put i.stamped) in
        let s = b.stamped i.stamped in
        record { put = i.put; origin = left.origin l.place ∙ i.origin; stamped = s.0; version = λ x. s.1 ∙ i.version x; key = λ x. b.key ∙ i.key x }

    -- a cell from the one in hand on
    from_hand_lasts : (c : ℕ) → f l.rebalance.hand l.place ≡ true → (f l.rebalance.hand c ≡ true) × ((c ≡ l.place) ⊎ Stands (list_in v f l.rebalance.hand) l.place c) → (f' l.rebalance.hand c ≡ true) × ((c ≡ l.place) ⊎ Stands (list_in v' f' l.rebalance.hand) l.place c)
    from_hand_lasts c e (g, inl x) = (left.list.listed c g, inl x)
    from_hand_lasts c e (g, inr x) = (left.list.listed c g, inr (stands_same (list_in v f l.rebalance.hand) (list_in v' f' l.rebalance.hand) l.place c (left.list.cell l.place e) (left.list.cell c g) x))

    -- a cell that is to come
    to_take_lasts : (a : Activity) (c : ℕ) → Gathering z (list_in v f l.rebalance.hand) h o a l → IsToTake (list_in v f l.rebalance.hand) a l c → IsToTake (list_in v' f' l.rebalance.hand) a l c
    to_take_lasts (Activity.Rebalance (Rebalance.Gather Gather.Link)) c k x = (left.list.listed c x.0, behind_same (list_in v f l.rebalance.hand) (list_in v' f' l.rebalance.hand) left.list.cell l.link c (k.on tt) (left.list.cell c x.0) x.1)
    to_take_lasts (Activity.Rebalance (Rebalance.Gather Gather.LeftOverKey)) c k x = x
    to_take_lasts (Activity.Rebalance (Rebalance.Gather Gather.LeftOverValue)) c k x = x
    to_take_lasts (Activity.Rebalance (Rebalance.Gather _)) c k x = from_hand_lasts c (k.behind tt).0 x
    to_take_lasts (Activity.Walk Walk.First) c k x = absurd x
    to_take_lasts _ c k x = absurd x

    -- all that is known while the seat gathers
    pub gathering_lasts : (a : Activity) → Gathering z (list_in v f l.rebalance.hand) h o a l → Gathering z (list_in v' f' l.rebalance.hand) h' o' a l
    gathering_lasts a k = record {
      on = λ x. on_left z.cells (list_in v f l.rebalance.hand) (list_in v' f' l.rebalance.hand) l.link left.list (k.on x);
      behind = λ x. let b = k.behind x in (left.list.listed l.place b.0, behind_same (list_in v f l.rebalance.hand) (list_in v' f' l.rebalance.hand) left.list.cell l.link l.place (k.on (listed_listing a x)) (left.list.cell l.place b.0) b.1);
      found = λ c p u e x. let y = was_stamped l.rebalance.hand c p (hand_of_group l hand) u e x in which c (k.found c p u y.0 y.1);
      whole = λ q c p b u e x. let y = was_stamped q c p (inl b.1) u e x in k.whole q c p b u y.0 y.1;
      hand = λ x. taken_lasts a (k.hand x);
      few = k.few;
      below = k.below;
      unmarked = k.unmarked;
      gone_by = λ x c e. let p = k.gone_by x c e in (left.list.listed c p.0, gone_by_stays z.cells (list_in v f l.rebalance.hand) (list_in v' f' l.rebalance.hand) l.link c left.list (k.on x) p.0 p.1);
      fresh = k.fresh;
      held = k.held;
    }
      where
        which : (c : ℕ) → (has_place (place_in_group z l.rebalance c) l.rebalance.gathered ≡ true) ⊎ (is_marked (place_in_group z l.rebalance c) l.rebalance.marks ≡ true) ⊎ IsToTake (list_in v f l.rebalance.hand) a l c →
            (has_place (place_in_group z l.rebalance c) l.rebalance.gathered ≡ true) ⊎ (is_marked (place_in_group z l.rebalance c) l.rebalance.marks ≡ true) ⊎ IsToTake (list_in v' f' l.rebalance.hand) a l c
        which c (inl x) = inl x
        which c (inr (inl x)) = inr (inl x)
        which c (inr (inr x)) = inr (inr (to_take_lasts a c k x))

-- cells that are gathered at no place beyond those of the row at hand are of the group
pub gathered_of_group : (z : Sizes) (l : Local) → ((p : ℕ) → has_place p l.rebalance.gathered ≡ true → p < place_in_group z l.rebalance z.cells) → AreOfGroup z l l.rebalance.gathered
gathered_of_group z l below = placed_below (places z l.rebalance.second) l.rebalance.gathered (λ p e. omega (arith, below p e, end_within z l.rebalance))

-- so all of it lasts
pub gathers_last : (z : Sizes) (v v' : Words) (f f' : Listed) (h h' : History) (o o' : Origins) (a : Activity) (l : Local) → (IsGathering a ⊎ HasPlanned (nursing_of a) → LeavesGroup z v v' f f' h h' o o' l) → (IsGathering a → Hand l) →
    (HasPlanned (nursing_of a) → AreOfGroup z l l.rebalance.gathered) → (HasPlanned (nursing_of a) → AreOfGroup z l l.rebalance.kept) → Gathers z (list_in v f l.rebalance.hand) h o a l → Gathers z (list_in v' f' l.rebalance.hand) h' o' a l
gathers_last z v v' f f' h h' o o' a l w hand gathered kept k = record {
  gathering = λ x. gathering_lasts z v v' f f' h h' o o' l (w (inl x)) (hand x) a (k.gathering x);
  gathered = λ x. all_last z v v' f f' h h' o o' l (w (inl x)) l.rebalance.gathered (gathered_of_group z l (k.gathering x).below) (k.gathered x);
  collected = λ x. all_last z v v' f f' h h' o o' l (w (inr x)) l.rebalance.gathered (gathered x) (k.collected x);
  kept = λ x. all_last z v v' f f' h h' o o' l (w (inr x)) l.rebalance.kept (kept x) (k.kept x);
  holds = λ x. holds_lasts z v v' f f' h h' o o' l (w (inr x)) (k.holds x);
}

-- Its rows are frozen, and every entry of them is gone by.

-- the rows of a seat that gathers are frozen
pub gathering_frozen : (a : Activity) → IsGathering a → IsAllFrozen a
gathering_frozen (Activity.Rebalance (Rebalance.Gather _)) x = tt
gathering_frozen _ x = absurd x

-- and those of one that has its plan
pub planned_frozen : (a : Activity) → HasPlanned (nursing_of a) → IsAllFrozen a
planned_frozen (Activity.Rebalance (Rebalance.Seek Seek.Next)) x = tt
planned_frozen (Activity.Rebalance (Rebalance.Seek _)) x = tt
planned_frozen (Activity.Rebalance (Rebalance.Write _)) x = tt
planned_frozen (Activity.Rebalance (Rebalance.Replace Replace.Start)) x = tt
planned_frozen (Activity.Rebalance (Rebalance.Replace Replace.GuessedLeast)) x = tt
planned_frozen (Activity.Rebalance (Rebalance.Replace Replace.First)) x = tt
planned_frozen (Activity.Rebalance (Rebalance.Replace Replace.Next)) x = tt
planned_frozen (Activity.Rebalance (Rebalance.Replace Replace.NextLeast)) x = tt
planned_frozen (Activity.Rebalance (Rebalance.Replace Replace.Exchange)) x = tt
planned_frozen _ x = absurd x

-- so both have
pub gathers_frozen : (a : Activity) → IsGathering a ⊎ HasPlanned (nursing_of a) → IsAllFrozen a
gathers_frozen a (inl x) = gathering_frozen a x
gathers_frozen a (inr x) = planned_frozen a x

-- a seat that gathers has a row at hand
pub gathering_hand : (a : Activity) → IsGathering a → HasHand a
gathering_hand (Activity.Rebalance (Rebalance.Gather _)) x = tt
gathering_hand _ x = absurd x

-- one that has its plan has gathered cells
planned_here : (n : Nursing) → HasPlanned n → IsPlanned n
planned_here HasNone x = x
planned_here _ x = tt

planned_gathered : (a : Activity) → HasPlanned (nursing_of a) → HasGathered a
planned_gathered (Activity.Rebalance (Rebalance.Gather _)) x = tt
planned_gathered a x = planned_here (nursing_of a) x

module _ (z : Sizes) (r : Run) (i : Below z r) (t : ℕ) (k : Local) (g : slice_get r.world.locals t ≡ Some k) where
  -- what such a seat has gathered is of its group
  pub collected_of_group : HasPlanned (nursing_of k.activity) → AreOfGroup z k k.rebalance.gathered
  collected_of_group x = All-weaker (HoldsGathered z (word z r.world) r.ledger.rows k) (λ c. c.place < places z k.rebalance.second) (λ c y. y.0) k.rebalance.gathered ((i.shape.keys t k g).gathered (planned_gathered k.activity x))

  -- and what it keeps of that
  pub kept_of_group : HasPlanned (nursing_of k.activity) → AreOfGroup z k k.rebalance.kept
  kept_of_group x = rw ((i.shape.plans t k g).kept (planned_here (nursing_of k.activity) x)) (kept_of-all (λ c. c.place < places z k.rebalance.second) k.rebalance.gathered k.rebalance.needed (collected_of_group x))

  module _ (p : IsAllFrozen k.activity) where
    -- the rows of a group that is frozen are or were linked, and are frozen
    pub rows_linked : (q : ℕ) → IsOfGroup k q → WasLinked r.ledger.rows q
    rows_linked q y = group_linked z r i.shape t k g q (frozen_group k.activity k q (all_frozen k.activity k q p y)) y

    rows_frozen : (q : ℕ) → IsOfGroup k q → IsFrozen (word z r.world) q
    rows_frozen q y = (i.puts.freezes t k g).count q (all_frozen k.activity k q p y)

module _ (z : Sizes) (r r' : Run) (s : ℕ) (choice : Choice) (l : Local) (a : Activity) (l' : Local) (h : Happens z r r' s choice l l' a) (i : Below z r) (t : ℕ) (k : Local) (g : slice_get r.world.locals t ≡ Some k) (p : IsAllFrozen k.activity) where
  -- each cell of its group stands for the same attempt after an event
  pub source_same : (x : ℕ) → x < places z k.rebalance.second → source z r'.origin k x ≡ source z r.origin k x
  source_same x u = let y = row_of_group z k x u in frozen_same z r r' s choice l a l' h i (row_at z k x) (cell_at z x) (rows_linked z r i t k g p (row_at z k x) y) (rows_frozen z r i t k g p (row_at z k x) y)

  -- what an event leaves of the rows of such a seat
  pub leaves_group : Step r.history r'.history (log_entry z r a s choice l) → LeavesGroup z (word z r.world) (word z r'.world) r.listed r'.listed r.history r'.history r.origin r'.origin k
  leaves_group st q y = leaves_cells z r r' s choice l a l' h i st q (rows_linked z r i t k g p q y) (rows_frozen z r i t k g p q y) (λ j o. (i.puts.freezes t k g).settled q j (all_passed k.activity k q j p y) o)

module _ (z : Sizes) (r r' : Run) (s : ℕ) (choice : Choice) (l : Local) (a : Activity) (l' : Local) (h : Happens z r r' s choice l l' a) (i : Below z r) (st : Step r.history r'.history (log_entry z r a s choice l)) where
  -- what a seat knew of what it gathers it knows after an event that is not its own
  pub gathers_other : (t : ℕ) (k : Local) → slice_get r.world.locals t ≡ Some k → Gathers z (list_in (word z r'.world) r'.listed k.rebalance.hand) r'.history r'.origin k.activity k
  gathers_other t k g =
      let b = i.puts.builds t k g in
      gathers_last z (word z r.world) (word z r'.world) r.listed r'.listed r.history r'.history r.origin r'.origin k.activity k
      (λ x. leaves_group z r r' s choice l a l' h i t k g (gathers_frozen k.activity x) st)
      (λ x. (i.shape.balances t k g).hands (gathering_hand k.activity x))
      (collected_of_group z r i t k g)
      (kept_of_group z r i t k g)
      (record { gathering = b.gathering; gathered = b.gathered; collected = b.collected; kept = b.kept; holds = b.holds })
