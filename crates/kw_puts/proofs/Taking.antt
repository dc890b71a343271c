-- A seat that rebalances gathers the cells of its frozen rows, one row after the other: those that
-- it reaches in a row's list, and those that it remembers of it and did not reach. What it knows of
-- them after each event of its own, over the run before that event: the event loads a word, and
-- changes nothing.
use Rattle.std.proofs.Common.{ℕ, ◌≡◌, ◌⊎◌, inl, inr, ◌*◌, ◌<◌, ◌≤◌, ◌==◌, nat_lt, Bool, true, false, if◌then◌else◌, Option, Some, None, List, [], ◌∷◌, arith, refl, sym, ◌∙◌, ap, subst, length, All, slice_get, unwrap_or}
use Rattle.std.proofs.lemmas.Bool.{cases_eq, cases_lt}
use Rattle.std.proofs.lemmas.Option.{same_Some}
use Rattle.kw_words.specs.declared.layout.Name.TheVariants as name
use Rattle.kw_words.specs.declared.sizes.TheConstants.{MOST_GROUP}
use Rattle.kw_words.specs.Plain.{key_of_word, value_of_word, version_of_word, cell_of_link_word}
use Rattle.kw_words.proofs.PlainWords.{number_of_word-number_word}
use Rattle.kw_lists.specs.Counts.{count_below}
use Rattle.kw_lists.specs.Rows.{Row, Stands, IsBehind, IsNext, IsSound}
use Rattle.kw_lists.proofs.Inserting.{at_next}
use Rattle.kw_lists.proofs.Reading.{list_ends}
use Rattle.kw_lists.proofs.Walking.{not_behind, gone_by_next}
use Rattle.kw_world.specs.declared.activity.Activity.{Activity}
use Rattle.kw_world.specs.declared.activity.rebalance.gather.Gather.TheVariants as Gather
use Rattle.kw_world.specs.declared.activity.rebalance.Rebalance.TheVariants as Rebalance
use Rattle.kw_world.specs.declared.local.Local.{Local}
use Rattle.kw_world.specs.declared.marks.Mark.{Mark}
use Rattle.kw_world.specs.GroupPlaces.{at_last_row, base, cell_at, is_row, is_second, place_in_group, places, row_at, source}
use Rattle.kw_world.specs.Marks.{is_marked, unmarked, least_mark, lesser_of}
use Rattle.kw_world.specs.ListTransitions.{link_name}
use Rattle.kw_world.specs.Sizes.{Sizes}
use Rattle.kw_world.specs.Step.{word}
use Rattle.kw_world.specs.TakeTransitions.{cell_of_group, keeping, leaving_over, take_past, taking, to_list}
use Rattle.kw_core.specs.History.{History, attempt}
use Rattle.kw_core.specs.Run.{Origins, Run}
use Rattle.kw_core.proofs.Arrows.{below, eq_from, not_below}
use Rattle.kw_core.proofs.Attempts.{in_range}
use Rattle.kw_core.proofs.Grouping.{IsNoneLeft}
use Rattle.kw_core.proofs.InRange.{least_holds}
use Rattle.kw_core.proofs.Marks.{least_marked, least_none, marked_back, marked_none, marked_other}
use Rattle.kw_rows.specs.Rows.{WasLinked}
use Rattle.kw_shape.specs.Hands.{Hand, IsBehind as IsRowBehind}
use Rattle.kw_shape.proofs.Hands.{ahead_second, cell_in_full, hand_first, row_in_full}
use Rattle.kw_puts.specs.Below.{Below}
use Rattle.kw_puts.specs.Builds.{IsGathered, has_place, HasTakenVersion, HasTakenKey, IsTakenOf, Gathering, HoldsGroup}
use Rattle.kw_puts.specs.Freezes.{HasPassed, IsMarkOf, IsToWalk, place_of}
use Rattle.kw_puts.specs.Lists.{list_in, IsListedCell}
use Rattle.kw_puts.specs.Puts.{HasCell, IsCopyAt, key_in, value_in}
use Rattle.kw_puts.proofs.CellsOf.{cell_key, cell_value}
use Rattle.kw_puts.proofs.GatheredCells.{OneMore, gathers_one, gathered_all}
use Rattle.kw_puts.proofs.GroupCells.{cell_below, hand_or_behind, is_this_row, place_in_hand, place_within, places_few, row_at_place, row_is, source_in_hand}
use Rattle.kw_puts.proofs.ListWords.{link_is}
use Rattle.kw_puts.proofs.OwnAttempts.{positive}
use Rattle.kw_puts.proofs.Owners.{true_false}

-- a test is false where it is not true
is_not : (b : Bool) → (b ≡ true → ⊥) → b ≡ false
is_not true f = absurd (f refl)
is_not false f = refl

-- What stands in the cell of a stamped attempt, own or copy.
module _ (z : Sizes) (r : Run) (i : Below z r) (q : ℕ) (k : WasLinked r.ledger.rows q) where
  -- its key
  pub key_stands : (c p : ℕ) → c < z.cells → r.origin q c ≡ Some p → (attempt r.history p).is_stamped ≡ true → key_in (word z r.world) q c ≡ (attempt r.history p).key
  key_stands c p w o x = cell_key i.puts q c p (i.puts.places.owner q c p k w o) ((i.history.laws.attempted p (in_range r.history p x)).is_announced x)

  -- its value
  pub value_stands : (c p : ℕ) → c < z.cells → r.origin q c ≡ Some p → (attempt r.history p).is_stamped ≡ true → value_in (word z r.world) q c ≡ (attempt r.history p).value
  value_stands c p w o x = cell_value i.puts q c p (i.puts.places.owner q c p k w o) ((i.history.laws.attempted p (in_range r.history p x)).is_announced x)

  -- its version, where it is listed, as a seat loads it
  pub version_stands : (c p : ℕ) → r.origin q c ≡ Some p → r.listed q c ≡ true → (attempt r.history p).version ≡ unwrap_or (version_of_word (word z r.world (name.Version q c))) 1
  version_stands c p o e =
      let cell : IsListedCell (word z r.world) r.history r.origin q c = i.lists.cells q c k e in
      let same : cell.put ≡ p = same_Some cell.put p (sym cell.origin ∙ o) in
      let from : 1 ≤ word z r.world (name.Version q c) = omega (arith, cell.version, positive z r i cell.put cell.stamped) in
      sym (ap (λ x. unwrap_or x 1) (number_of_word-number_word (Some (word z r.world (name.Version q c))) from) ∙ cell.version ∙ ap (λ x. (attempt r.history x).version) same)

-- Where the walk along the list of a row of the group begins, and where it is over.

-- the cells of stamped attempts of the row behind are gathered, and none is of the row at hand
pub record IsBegun (z : Sizes) (h : History) (o : Origins) (l : Local) : Type 0 where
  pub whole : (q c p : ℕ) → IsRowBehind l q → c < z.cells → o q c ≡ Some p → (attempt h p).is_stamped ≡ true → has_place c l.rebalance.gathered ≡ true
  pub few : length l.rebalance.gathered ≤ count_below (places z l.rebalance.second) (λ p. has_place p l.rebalance.gathered)
  pub below : (p : ℕ) → has_place p l.rebalance.gathered ≡ true → p < base z l.rebalance
  pub unmarked : (p : ℕ) → is_marked p l.rebalance.marks ≡ true → has_place p l.rebalance.gathered ≡ false

-- each cell of a stamped attempt of the row at hand is gathered, or remembered still, and those of
-- the row behind it are gathered; none is gathered twice
pub record IsLeft (z : Sizes) (h : History) (o : Origins) (l : Local) : Type 0 where
  pub found : (c p : ℕ) → c < z.cells → o l.rebalance.hand c ≡ Some p → (attempt h p).is_stamped ≡ true → (has_place (place_in_group z l.rebalance c) l.rebalance.gathered ≡ true) ⊎ (is_marked (place_in_group z l.rebalance c) l.rebalance.marks ≡ true)
  pub whole : (q c p : ℕ) → IsRowBehind l q → c < z.cells → o q c ≡ Some p → (attempt h p).is_stamped ≡ true → has_place c l.rebalance.gathered ≡ true
  pub few : length l.rebalance.gathered ≤ count_below (places z l.rebalance.second) (λ p. has_place p l.rebalance.gathered)
  pub below : (p : ℕ) → has_place p l.rebalance.gathered ≡ true → p < place_in_group z l.rebalance z.cells
  pub unmarked : (p : ℕ) → is_marked p l.rebalance.marks ≡ true → has_place p l.rebalance.gathered ≡ false

-- of two marks the lesser one is that of no greater place
not_greater : (m n : Mark) → ((lesser_of m (Some n)).cell ≤ m.cell) × ((lesser_of m (Some n)).cell ≤ n.cell)
not_greater m n = by (nat_lt n.cell m.cell) refl
  where
    by : (b : Bool) → nat_lt n.cell m.cell ≡ b → (let k : Mark = if b then n else m in (k.cell ≤ m.cell) × (k.cell ≤ n.cell))
    by true e = (omega (arith, below n.cell m.cell e), omega arith)
    by false e = (omega arith, not_below n.cell m.cell e)

-- a remembered place is not before the least one
least_first : (p : ℕ) (ms : List Mark) (m : Mark) → least_mark ms ≡ Some m → is_marked p ms ≡ true → m.cell ≤ p
least_first p [] m e x = let y : false ≡ true = x in absurd (cc)
least_first p (n ∷ ms) m e x = which (least_mark ms) refl (n.cell == p) refl e x (λ k f u. least_first p ms k f u)
  where
    same : (k : Mark) → Some k ≡ Some m → k.cell ≡ m.cell
    same k f = ap (λ (y : Mark). y.cell) (same_Some k m f)

    which : (o : Option Mark) → least_mark ms ≡ o → (b : Bool) → (n.cell == p) ≡ b → Some (lesser_of n o) ≡ Some m → (if b then true else is_marked p ms) ≡ true → ((k : Mark) → least_mark ms ≡ Some k → is_marked p ms ≡ true → k.cell ≤ p) → m.cell ≤ p
    which None f true g y u rest = omega (arith, same n y, eq_from n.cell p g)
    which None f false g y u rest = true_false u (least_none p ms f)
    which (Some k) f true g y u rest = omega (arith, same (lesser_of n (Some k)) y, (not_greater n k).0, eq_from n.cell p g)
    which (Some k) f false g y u rest = omega (arith, same (lesser_of n (Some k)) y, (not_greater n k).1, rest k f u)

module _ (z : Sizes) (row : Row) (h : History) (o : Origins) (l : Local) (n : IsLeft z h o l) where
  -- a remembered cell of the least place is none of the row behind, whose cells are gathered
  least_of_hand : (m : Mark) → least_mark l.rebalance.marks ≡ Some m → All (IsMarkOf h (source z o l)) l.rebalance.marks → base z l.rebalance ≤ m.cell
  least_of_hand m e a = by (is_second l.rebalance) refl (cases_lt m.cell z.cells)
    where
      mark : IsMarkOf h (source z o l) m
      mark = least_holds (IsMarkOf h (source z o l)) l.rebalance.marks m e a

      by : (b : Bool) → is_second l.rebalance ≡ b → (m.cell < z.cells) ⊎ (z.cells ≤ m.cell) → (if b then z.cells else 0) ≤ m.cell
      by false x u = omega arith
      by true x (inr u) = u
      by true x (inl u) =
          let o : o l.row m.cell ≡ Some mark.put = rw (row_in_full z l m.cell u, cell_in_full z m.cell u) at mark.origin in
          true_false (n.whole l.row m.cell mark.put (row_is l.rebalance.second l.rebalance.hand x, refl) u o mark.stamped) (n.unmarked m.cell (least_marked l.rebalance.marks m e))

  -- the least of the remembered cells is taken in hand
  pub takes_least : (m : Mark) → least_mark l.rebalance.marks ≡ Some m → m.cell < place_in_group z l.rebalance z.cells → Hand l → All (IsMarkOf h (source z o l)) l.rebalance.marks →
      Gathering z row h o (Activity.Rebalance (Rebalance.Gather Gather.LeftOverKey)) (record (leaving_over z m l) { activity = Activity.Rebalance (Rebalance.Gather Gather.LeftOverKey) })
  takes_least m e u hand a = record {
    on = λ x. absurd x;
    behind = λ x. absurd x;
    found = λ c p w f x. which c (n.found c p w f x) (cases_eq c (cell_at z m.cell));
    whole = n.whole;
    hand = λ x. let q = least_holds (IsMarkOf h (source z o l)) l.rebalance.marks m e a in record { put = q.put; origin = ap (λ y. o y (cell_at z m.cell)) (sym (row_at_place z l hand m.cell (least_of_hand m e a) u)) ∙ q.origin; stamped = q.stamped; version = λ y. q.version; key = λ y. absurd y };
    few = n.few;
    below = n.below;
    unmarked = λ p x. n.unmarked p (marked_back p m.cell l.rebalance.marks x);
    gone_by = λ x. absurd x;
    fresh = λ x y. rw at.1 (n.unmarked m.cell (least_marked l.rebalance.marks m e));
    held = λ x. rw at.1 (marked_none m.cell l.rebalance.marks);
  }
    where
      at : (cell_at z m.cell < z.cells) × (place_in_group z l.rebalance (cell_at z m.cell) ≡ m.cell)
      at = place_in_hand z l.rebalance m.cell (least_of_hand m e a) u

      which : (c : ℕ) → (has_place (place_in_group z l.rebalance c) l.rebalance.gathered ≡ true) ⊎ (is_marked (place_in_group z l.rebalance c) l.rebalance.marks ≡ true) → (c ≡ cell_at z m.cell) ⊎ (c ≡ cell_at z m.cell → ⊥) →
          (has_place (place_in_group z l.rebalance c) l.rebalance.gathered ≡ true) ⊎ (is_marked (place_in_group z l.rebalance c) (unmarked m.cell l.rebalance.marks) ≡ true) ⊎ (c ≡ cell_at z m.cell)
      which c (inl x) d = inl x
      which c (inr x) (inl d) = inr (inr d)
      which c (inr x) (inr d) = inr (inl (marked_other (place_in_group z l.rebalance c) m.cell l.rebalance.marks (λ y. d (omega (arith, y, at.1))) ∙ x))

  module _ (none : IsNoneLeft z l) where
    -- once none is left, the row at hand is gathered
    hand_whole : (c p : ℕ) → c < z.cells → o l.rebalance.hand c ≡ Some p → (attempt h p).is_stamped ≡ true → has_place (place_in_group z l.rebalance c) l.rebalance.gathered ≡ true
    hand_whole c p w e x = which (n.found c p w e x)
      where
        past : (m : Option Mark) → least_mark l.rebalance.marks ≡ m → is_marked (place_in_group z l.rebalance c) l.rebalance.marks ≡ true → ⊥
        past (Some m) f y = omega (arith, w, none m f, least_first (place_in_group z l.rebalance c) l.rebalance.marks m f y)
        past None f y = true_false y (least_none (place_in_group z l.rebalance c) l.rebalance.marks f)

        which : (has_place (place_in_group z l.rebalance c) l.rebalance.gathered ≡ true) ⊎ (is_marked (place_in_group z l.rebalance c) l.rebalance.marks ≡ true) → has_place (place_in_group z l.rebalance c) l.rebalance.gathered ≡ true
        which (inl y) = y
        which (inr y) = absurd (past (least_mark l.rebalance.marks) refl y)

    -- so where no row is ahead, what is gathered holds all of the group
    pub holds_all : Hand l → l.rebalance.ahead ≡ None → HoldsGroup z h o l
    holds_all hand last p x u e s = which (hand_or_behind z l hand last p u)
      where
        which : (base z l.rebalance ≤ p) × (p < place_in_group z l.rebalance z.cells) ⊎ IsRowBehind l (row_at z l p) × (cell_at z p ≡ p) → has_place p l.rebalance.gathered ≡ true
        which (inl (b, w)) =
            let at = place_in_hand z l.rebalance p b w in
            subst (λ y. has_place y l.rebalance.gathered ≡ true) at.1 (hand_whole (cell_at z p) x at.0 (ap (λ q. o q (cell_at z p)) (sym (row_at_place z l hand p b w)) ∙ e) s)
        which (inr (b, f)) = subst (λ y. has_place y l.rebalance.gathered ≡ true) f (n.whole (row_at z l p) (cell_at z p) x b (cell_below z l p u) e s)

    -- and where one is, its turn comes
    pub begins_ahead : (q : ℕ) → Hand l → (l.rebalance.second ≡ Some l.row → ⊥) → l.rebalance.ahead ≡ Some q → IsBegun z h o (to_list (at_last_row q l)).local
    begins_ahead q hand apart ahead = record {
      whole = λ y c p b w x s. subst (λ m. has_place m l.rebalance.gathered ≡ true) (first c) (hand_whole c p w (ap (λ m. o m c) (hand_first l hand q ahead ∙ sym b.1) ∙ x) s);
      few = n.few;
      below = λ p x. rw now (omega (arith, n.below p x, first z.cells));
      unmarked = n.unmarked;
    }
      where
        -- the places of the first row are its cells, and those of the second one come after them
        first : (c : ℕ) → place_in_group z l.rebalance c ≡ c
        first c = let x : is_second l.rebalance ≡ false = is_not (is_second l.rebalance) (λ y. apart (row_is l.rebalance.second l.rebalance.hand y ∙ ap Some (hand_first l hand q ahead))) in rw x (omega arith)

        now : is_row l.rebalance.second q ≡ true
        now = is_this_row l.rebalance.second q (ahead_second l hand q ahead)

-- A seat whose walk along the list of a row begins.

module _ (z : Sizes) (r : Run) (i : Below z r) (s : ℕ) (l : Local) (g : slice_get r.world.locals s ≡ Some l) where
  -- each cell of a stamped attempt is remembered, or listed
  begun : (q : ℕ) → WasLinked r.ledger.rows q → IsToWalk l.activity l q → ((j : ℕ) → HasPassed l.activity l q j) → (c p : ℕ) → c < z.cells → r.origin q c ≡ Some p → (attempt r.history p).is_stamped ≡ true → (is_marked (place_of z l q c) l.rebalance.marks ≡ true) ⊎ (r.listed q c ≡ true)
  begun q k walk passed c p w o x = which (i.puts.places.owner q c p k w o)
    where
      own : (is_marked (place_of z l q (attempt r.history p).cell) l.rebalance.marks ≡ true) ⊎ (r.listed q (attempt r.history p).cell ≡ true) → (attempt r.history p).cell ≡ c → (is_marked (place_of z l q c) l.rebalance.marks ≡ true) ⊎ (r.listed q c ≡ true)
      own (inl y) e = inl (rw e at y)
      own (inr y) e = inr (rw e at y)

      which : HasCell r.ledger.rows r.history q c p ⊎ IsCopyAt (word z r.world) r.ledger.rows r.history q c p → (is_marked (place_of z l q c) l.rebalance.marks ≡ true) ⊎ (r.listed q c ≡ true)
      which (inl y) = own ((i.puts.remembers s l g).noted q p walk y.within (record { row = y.row; born = y.born }) x (passed (attempt r.history p).seat)) y.cell
      which (inr y) = inr (i.lists.copied q c p k w o y.earlier)

  -- so a seat that begins the walk will reach it, where it is not remembered
  pub begins_walk : (m : Local) → m.rebalance.second ≡ l.rebalance.second → m.rebalance.marks ≡ l.rebalance.marks → m.link ≡ None → WasLinked r.ledger.rows m.rebalance.hand → IsToWalk l.activity l m.rebalance.hand → ((j : ℕ) → HasPassed l.activity l m.rebalance.hand j) → IsBegun z r.history r.origin m →
      Gathering z (list_in (word z r.world) r.listed m.rebalance.hand) r.history r.origin (Activity.Rebalance (Rebalance.Gather Gather.Link)) m
  begins_walk m second marks link k walk passed n = record {
    on = λ x. rw link tt;
    behind = λ x. absurd x;
    found = λ c p w o x. which c (begun m.rebalance.hand k walk passed c p w o x);
    whole = n.whole;
    hand = λ x. absurd x;
    few = n.few;
    below = λ p x. omega (arith, n.below p x);
    unmarked = n.unmarked;
    gone_by = λ x c y. absurd (omega (arith, n.below (place_in_group z m.rebalance c) y));
    fresh = λ x. absurd x;
    held = λ x. absurd x;
  }
    where
      which : (c : ℕ) → (is_marked (place_of z l m.rebalance.hand c) l.rebalance.marks ≡ true) ⊎ (r.listed m.rebalance.hand c ≡ true) →
          (has_place (place_in_group z m.rebalance c) m.rebalance.gathered ≡ true) ⊎ (is_marked (place_in_group z m.rebalance c) m.rebalance.marks ≡ true) ⊎ (r.listed m.rebalance.hand c ≡ true) × IsBehind (list_in (word z r.world) r.listed m.rebalance.hand) m.link c
      which c (inl x) = inr (inl (rw (marks, second) x))
      which c (inr x) = inr (inr (x, rw link tt))

  -- where no cell is gathered, it begins with the first row
  pub begins_first : (m : Local) → m.rebalance.second ≡ l.rebalance.second → m.rebalance.hand ≡ l.row → m.row ≡ l.row → m.rebalance.gathered ≡ [] → (l.rebalance.second ≡ Some l.row → ⊥) → IsBegun z r.history r.origin m
  begins_first m second hand row e apart = record {
    whole = λ q c p b. absurd (apart (sym second ∙ b.0 ∙ ap Some hand));
    few = rw e (omega arith);
    below = λ p x. let y : false ≡ true = rw e at x in absurd (cc);
    unmarked = λ p x. rw e refl;
  }

-- A seat that has a row at hand.

module _ (z : Sizes) (r : Run) (i : Below z r) (s : ℕ) (l : Local) (g : slice_get r.world.locals s ≡ Some l) (k : WasLinked r.ledger.rows l.rebalance.hand) where
  -- the list of that row
  abbrev row : Row
  row = list_in (word z r.world) r.listed l.rebalance.hand

  sound : IsSound z.cells row
  sound = i.lists.leads l.rebalance.hand k

  -- the cell in hand is one of the row's
  place_below : l.place < z.cells
  place_below = (i.shape.sane.locals s l g).ranges.place

  -- what its link leads to
  leads_to : (x : Option ℕ) → cell_of_link_word (word z r.world (link_name l.rebalance.hand l.link)) ≡ x → row.link l.link ≡ x
  leads_to x e = link_is (word z r.world) l.rebalance.hand l.link ∙ e

  -- The walk goes on.

  -- the cell to which the link leads is reached
  pub takes_cell : (c : ℕ) → cell_of_link_word (word z r.world (link_name l.rebalance.hand l.link)) ≡ Some c → Gathering z row r.history r.origin (Activity.Rebalance (Rebalance.Gather Gather.Link)) l → Gathering z row r.history r.origin (Activity.Rebalance (Rebalance.Gather Gather.Key)) (record (taking z c l) { activity = Activity.Rebalance (Rebalance.Gather Gather.Key) })
  takes_cell c e n = record {
    on = λ x. n.on tt;
    behind = λ x. (next.listed, next.behind);
    found = λ d p w o x. which d (n.found d p w o x) (cases_eq d c);
    hand = λ x. let m = i.lists.cells l.rebalance.hand c k next.listed in record { put = m.put; origin = m.origin; stamped = m.stamped; version = λ y. absurd y; key = λ y. absurd y };
    whole = n.whole;
    few = n.few;
    below = n.below;
    unmarked = λ p x. n.unmarked p (marked_back p (place_in_group z l.rebalance c) l.rebalance.marks x);
    gone_by = λ x. n.gone_by tt;
    fresh = λ x y. absurd (y tt);
    held = λ x. marked_none (place_in_group z l.rebalance c) l.rebalance.marks;
  }
    where
      next : IsNext row l.link c
      next = at_next row l.link (row.link l.link) c (sound.list l.link (n.on tt)) (leads_to (Some c) e)

      which : (d : ℕ) → (has_place (place_in_group z l.rebalance d) l.rebalance.gathered ≡ true) ⊎ (is_marked (place_in_group z l.rebalance d) l.rebalance.marks ≡ true) ⊎ (r.listed l.rebalance.hand d ≡ true) × IsBehind row l.link d → (d ≡ c) ⊎ (d ≡ c → ⊥) →
          (has_place (place_in_group z l.rebalance d) l.rebalance.gathered ≡ true) ⊎ (is_marked (place_in_group z l.rebalance d) (unmarked (place_in_group z l.rebalance c) l.rebalance.marks) ≡ true) ⊎ (r.listed l.rebalance.hand d ≡ true) × ((d ≡ c) ⊎ Stands row c d)
      which d (inl x) m = inl x
      which d (inr (inl x)) (inl m) = inr (inr (rw m next.listed, inl m))
      which d (inr (inl x)) (inr m) = inr (inl (marked_other (place_in_group z l.rebalance d) (place_in_group z l.rebalance c) l.rebalance.marks (λ y. m (omega (arith, y))) ∙ x))
      which d (inr (inr x)) m = inr (inr (x.0, next.first d x.0 x.1))

  -- its key is loaded
  pub takes_its_key : Gathering z row r.history r.origin (Activity.Rebalance (Rebalance.Gather Gather.Key)) l → Gathering z row r.history r.origin (Activity.Rebalance (Rebalance.Gather Gather.Version)) (record l { place_key = key_of_word (word z r.world (name.Key l.rebalance.hand l.place)); activity = Activity.Rebalance (Rebalance.Gather Gather.Version) })
  takes_its_key n = record {
    on = n.on;
    behind = n.behind;
    found = n.found;
    hand = λ x. let m = n.hand tt in record { put = m.put; origin = m.origin; stamped = m.stamped; version = λ y. absurd y; key = λ y. sym (key_stands z r i l.rebalance.hand k l.place m.put place_below m.origin m.stamped) };
    whole = n.whole;
    few = n.few;
    below = n.below;
    unmarked = n.unmarked;
    gone_by = n.gone_by;
    fresh = λ x y. absurd (y tt);
    held = λ x. n.held tt;
  }

  -- and its version
  pub takes_its_version : Gathering z row r.history r.origin (Activity.Rebalance (Rebalance.Gather Gather.Version)) l → Gathering z row r.history r.origin (Activity.Rebalance (Rebalance.Gather Gather.Value)) (record l { place_version = unwrap_or (version_of_word (word z r.world (name.Version l.rebalance.hand l.place))) 1; activity = Activity.Rebalance (Rebalance.Gather Gather.Value) })
  takes_its_version n = record {
    on = n.on;
    behind = n.behind;
    found = n.found;
    hand = λ x. let m = n.hand tt in record { put = m.put; origin = m.origin; stamped = m.stamped; version = λ y. version_stands z r i l.rebalance.hand k l.place m.put m.origin (n.behind tt).0; key = λ y. m.key tt };
    whole = n.whole;
    few = n.few;
    below = n.below;
    unmarked = n.unmarked;
    gone_by = n.gone_by;
    fresh = λ x y. absurd (y tt);
    held = λ x. n.held tt;
  }

  -- A cell is gathered.

  -- the value of the cell in hand
  abbrev value : Option ℕ
  value = value_of_word (word z r.world (name.Value l.rebalance.hand l.place))

  -- the cell in hand, with its value, is that of a stamped attempt
  hand_gathered : Hand l → (a : Activity) → HasTakenVersion a → HasTakenKey a → IsTakenOf r.history r.origin a l → IsGathered r.history (source z r.origin l) (cell_of_group z value l)
  hand_gathered hand a x y m = record {
    put = m.put;
    origin = source_in_hand z l r.origin hand l.place place_below ∙ m.origin;
    is = record { stamped = m.stamped; key = m.key y; version = m.version x; value = sym (value_stands z r i l.rebalance.hand k l.place m.put place_below m.origin m.stamped) };
  }

  -- so what is gathered with it is so
  pub keeps_gathered : Hand l → (a : Activity) → HasTakenVersion a → HasTakenKey a → IsTakenOf r.history r.origin a l → All (IsGathered r.history (source z r.origin l)) l.rebalance.gathered → All (IsGathered r.history (source z r.origin l)) (keeping z value l).rebalance.gathered
  keeps_gathered hand a x y m b = gathered_all (MOST_GROUP * z.cells) (IsGathered r.history (source z r.origin l)) (cell_of_group z value l) l.rebalance.gathered (hand_gathered hand a x y m) b

  module _ (a : Activity) (n : Gathering z row r.history r.origin a l) (f : has_place (place_in_group z l.rebalance l.place) l.rebalance.gathered ≡ false) (m : is_marked (place_in_group z l.rebalance l.place) l.rebalance.marks ≡ false) where
    -- one cell more is there, and none twice
    one_more : OneMore (places z l.rebalance.second) (place_in_group z l.rebalance l.place) l.rebalance.gathered (keeping z value l).rebalance.gathered
    one_more = gathers_one (places z l.rebalance.second) (MOST_GROUP * z.cells) (cell_of_group z value l) l.rebalance.gathered (places_few z l.rebalance.second) (place_within z l.rebalance l.place place_below) f n.few

    -- a place that is there is not beyond the row's, and is not remembered
    more_below : (p : ℕ) → has_place p (keeping z value l).rebalance.gathered ≡ true → p < place_in_group z l.rebalance z.cells
    more_below p x = which (one_more.back p x)
      where
        which : (p ≡ place_in_group z l.rebalance l.place) ⊎ (has_place p l.rebalance.gathered ≡ true) → p < place_in_group z l.rebalance z.cells
        which (inl e) = omega (arith, e, place_below)
        which (inr e) = n.below p e

    more_unmarked : (p : ℕ) → is_marked p l.rebalance.marks ≡ true → has_place p (keeping z value l).rebalance.gathered ≡ false
    more_unmarked p x = is_not (has_place p (keeping z value l).rebalance.gathered) (λ y. which (one_more.back p y))
      where
        which : (p ≡ place_in_group z l.rebalance l.place) ⊎ (has_place p l.rebalance.gathered ≡ true) → ⊥
        which (inl e) = true_false x (rw e m)
        which (inr e) = true_false e (n.unmarked p x)

  -- a cell of the list is gathered, and gone by
  pub keeps_listed : Gathering z row r.history r.origin (Activity.Rebalance (Rebalance.Gather Gather.Value)) l → Gathering z row r.history r.origin (Activity.Rebalance (Rebalance.Gather Gather.Link)) (take_past (keeping z value l)).local
  keeps_listed n = record {
    on = λ x. saw.0;
    behind = λ x. absurd x;
    found = λ d p w o x. which d (n.found d p w o x);
    hand = λ x. absurd x;
    whole = λ q c p b u o x. more.old c (n.whole q c p b u o x);
    few = more.few;
    below = more_below (Activity.Rebalance (Rebalance.Gather Gather.Value)) n fresh (n.held tt);
    unmarked = more_unmarked (Activity.Rebalance (Rebalance.Gather Gather.Value)) n fresh (n.held tt);
    gone_by = λ x c y. past c (more.back (place_in_group z l.rebalance c) y);
    fresh = λ x. absurd x;
    held = λ x. absurd x;
  }
    where
      saw : (row.listed l.place ≡ true) × IsBehind row l.link l.place
      saw = n.behind tt

      -- what was gathered before was gone by, and the cell in hand stands behind the link
      fresh : has_place (place_in_group z l.rebalance l.place) l.rebalance.gathered ≡ false
      fresh = is_not (has_place (place_in_group z l.rebalance l.place) l.rebalance.gathered) (λ e. not_behind row l.link l.place (n.gone_by tt l.place e).1 saw.1)

      more : OneMore (places z l.rebalance.second) (place_in_group z l.rebalance l.place) l.rebalance.gathered (keeping z value l).rebalance.gathered
      more = one_more (Activity.Rebalance (Rebalance.Gather Gather.Value)) n fresh (n.held tt)

      which : (d : ℕ) → (has_place (place_in_group z l.rebalance d) l.rebalance.gathered ≡ true) ⊎ (is_marked (place_in_group z l.rebalance d) l.rebalance.marks ≡ true) ⊎ (row.listed d ≡ true) × ((d ≡ l.place) ⊎ Stands row l.place d) →
          (has_place (place_in_group z l.rebalance d) (keeping z value l).rebalance.gathered ≡ true) ⊎ (is_marked (place_in_group z l.rebalance d) l.rebalance.marks ≡ true) ⊎ (row.listed d ≡ true) × Stands row l.place d
      which d (inl x) = inl (more.old (place_in_group z l.rebalance d) x)
      which d (inr (inl x)) = inr (inl x)
      which d (inr (inr (x, inl e))) = inl (rw e more.new)
      which d (inr (inr (x, inr y))) = inr (inr (x, y))

      past : (c : ℕ) → (place_in_group z l.rebalance c ≡ place_in_group z l.rebalance l.place) ⊎ (has_place (place_in_group z l.rebalance c) l.rebalance.gathered ≡ true) → (row.listed c ≡ true) × ((c ≡ l.place) ⊎ Stands row c l.place)
      past c (inl e) = let y : c ≡ l.place = omega (arith, e) in (rw y saw.0, inl y)
      past c (inr e) = let p = n.gone_by tt c e in (p.0, gone_by_next row l.link l.place c saw.1 p.1)

  -- The list is at its end.

  -- no cell is to come: each one of a stamped attempt is gathered, or remembered
  pub walk_ended : cell_of_link_word (word z r.world (link_name l.rebalance.hand l.link)) ≡ None → Gathering z row r.history r.origin (Activity.Rebalance (Rebalance.Gather Gather.Link)) l → IsLeft z r.history r.origin l
  walk_ended e n = record { found = λ c p w o x. which c (n.found c p w o x); whole = n.whole; few = n.few; below = n.below; unmarked = n.unmarked }
    where
      which : (c : ℕ) → (has_place (place_in_group z l.rebalance c) l.rebalance.gathered ≡ true) ⊎ (is_marked (place_in_group z l.rebalance c) l.rebalance.marks ≡ true) ⊎ (row.listed c ≡ true) × IsBehind row l.link c →
          (has_place (place_in_group z l.rebalance c) l.rebalance.gathered ≡ true) ⊎ (is_marked (place_in_group z l.rebalance c) l.rebalance.marks ≡ true)
      which c (inl x) = inl x
      which c (inr (inl x)) = inr x
      which c (inr (inr x)) = absurd (list_ends row l.link (row.link l.link) c (sound.list l.link (n.on tt)) (leads_to None e) x.0 x.1)

  -- and so it is where a remembered one is gathered
  pub keeps_left_over : Gathering z row r.history r.origin (Activity.Rebalance (Rebalance.Gather Gather.LeftOverValue)) l → IsLeft z r.history r.origin (keeping z value l)
  keeps_left_over n = record {
    found = λ c p w o x. which c (n.found c p w o x);
    whole = λ q c p b u o x. more.old c (n.whole q c p b u o x);
    few = more.few;
    below = more_below (Activity.Rebalance (Rebalance.Gather Gather.LeftOverValue)) n fresh (n.held tt);
    unmarked = more_unmarked (Activity.Rebalance (Rebalance.Gather Gather.LeftOverValue)) n fresh (n.held tt);
  }
    where
      fresh : has_place (place_in_group z l.rebalance l.place) l.rebalance.gathered ≡ false
      fresh = n.fresh tt (λ x. x)

      more : OneMore (places z l.rebalance.second) (place_in_group z l.rebalance l.place) l.rebalance.gathered (keeping z value l).rebalance.gathered
      more = one_more (Activity.Rebalance (Rebalance.Gather Gather.LeftOverValue)) n fresh (n.held tt)

      which : (c : ℕ) → (has_place (place_in_group z l.rebalance c) l.rebalance.gathered ≡ true) ⊎ (is_marked (place_in_group z l.rebalance c) l.rebalance.marks ≡ true) ⊎ (c ≡ l.place) →
          (has_place (place_in_group z l.rebalance c) (keeping z value l).rebalance.gathered ≡ true) ⊎ (is_marked (place_in_group z l.rebalance c) l.rebalance.marks ≡ true)
      which c (inl x) = inl (more.old (place_in_group z l.rebalance c) x)
      which c (inr (inl x)) = inr x
      which c (inr (inr e)) = inl (rw e more.new)

  -- a remembered cell's key is loaded
  pub takes_left_over_key : Gathering z row r.history r.origin (Activity.Rebalance (Rebalance.Gather Gather.LeftOverKey)) l → Gathering z row r.history r.origin (Activity.Rebalance (Rebalance.Gather Gather.LeftOverValue)) (record l { place_key = key_of_word (word z r.world (name.Key l.rebalance.hand l.place)); activity = Activity.Rebalance (Rebalance.Gather Gather.LeftOverValue) })
  takes_left_over_key n = record {
    on = λ x. absurd x;
    behind = λ x. absurd x;
    found = n.found;
    hand = λ x. let m = n.hand tt in record { put = m.put; origin = m.origin; stamped = m.stamped; version = λ y. m.version tt; key = λ y. sym (key_stands z r i l.rebalance.hand k l.place m.put place_below m.origin m.stamped) };
    whole = n.whole;
    few = n.few;
    below = n.below;
    unmarked = n.unmarked;
    gone_by = λ x. absurd x;
    fresh = λ x y. n.fresh tt (λ u. u);
    held = λ x. n.held tt;
  }
