-- What a put knows of the list of its row, after its own events and after those of others.
use Rattle.std.proofs.Common.{ℕ, ◌≡◌, ◌≢◌, ◌⊎◌, inl, inr, ◌+◌, ◌<◌, ◌≤◌, ◌==◌, ◌&&◌, ◌||◌, nat_lt, true, false, Option, Some, None, arith, refl, sym, ◌∙◌, ap, subst}
use Rattle.std.proofs.lemmas.Bool.Decides.{nat_tests}
use Rattle.kw_words.specs.declared.layout.Name.{Name}
use Rattle.kw_words.specs.declared.layout.Name.TheVariants as name
use Rattle.kw_words.specs.Plain.{key_of_word, cell_link_word, cell_of_link_word}
use Rattle.kw_lists.specs.Rows.{Row, Stands, IsOn, IsSound}
use Rattle.kw_lists.specs.Changes.{IsAhead, Leaves}
use Rattle.kw_lists.specs.Puts.{IsFrom, IsAt, IsSet, LeavesCell, LeavesOwn}
use Rattle.kw_lists.specs.Words.{link_in}
use Rattle.kw_lists.proofs.Counting.{count_most}
use Rattle.kw_lists.proofs.Inserting.{at_next}
use Rattle.kw_lists.proofs.Putting.{put_begins, put_loads, put_goes_by, put_stops, put_loses, from_stays, at_stays, ahead_stays, set_stays}
use Rattle.kw_lists.proofs.Same.{behind_same}
use Rattle.kw_lists.proofs.Walking.{walk_begins, walk_goes_on, walk_stays, walked_fewer}
use Rattle.kw_world.specs.declared.activity.Activity.{Activity}
use Rattle.kw_world.specs.declared.activity.insert.Insert.TheVariants as Insert
use Rattle.kw_world.specs.declared.activity.put.Put.TheVariants as Put
use Rattle.kw_world.specs.declared.activity.walk.Walk.TheVariants as Walk
use Rattle.kw_world.specs.declared.activity.rebalance.Rebalance.TheVariants as Rebalance
use Rattle.kw_world.specs.declared.local.Local.{Local}
use Rattle.kw_world.specs.declared.event.Choice.{Choice}
use Rattle.kw_world.specs.Calls.{first_key}
use Rattle.kw_world.specs.ListTransitions.{link_name, cell_guess, one_more, is_newer}
use Rattle.kw_world.specs.Sane.{IsCellBelow, IsKnown}
use Rattle.kw_world.specs.Sizes.{Sizes}
use Rattle.kw_world.specs.Step.{word}
use Rattle.kw_world.proofs.Transitions.{first_loads}
use Rattle.kw_core.specs.Run.{Run}
use Rattle.kw_core.specs.Stages.{IsPublished, IsPutting, IsStamped, IsStored, IsInserting, IsUnlisted, IsAtRow}
use Rattle.kw_core.proofs.BuiltNext.{built_next}
use Rattle.kw_core.proofs.Arrows.{builds, Arrow, sees_stamped, sees_neither, is_gone_by, helps, finds_stamped, finds_other, list_ends, key_above, left_over_gone_by, gathers_left_over, stores_version, reaches_cell, sees_none, key_before, key_same, key_after, version_before, version_after, stores_after, loses, first_ends, first_sees_none, first_reaches, inserts_behind, inserts_at_first, decides, marks_led, asks_of_pin}
use Rattle.kw_core.proofs.InfantFrames.{key_stays, version_stays}
use Rattle.kw_core.proofs.Happens.{Happens}
use Rattle.kw_rows.specs.Rows.{WasLinked}
use Rattle.kw_shape.proofs.LinkedRows.{fresh_linked}
use Rattle.kw_shape.proofs.Walking.{past}
use Rattle.kw_puts.specs.Puts.{OwnsAttempt}
use Rattle.kw_puts.specs.Lists.{list_in, Inserts, WalksList}
use Rattle.kw_puts.specs.Below.{Below}
use Rattle.kw_puts.proofs.ListWords.{link_is, leads_there, leads_elsewhere}
use Rattle.kw_puts.proofs.ListSteps.{leaves, list_step, lost_listed, is_set}
use Rattle.kw_puts.proofs.BuiltStages.{balancing_puts, counted_not, freezing_goes, gathering_goes}
use Rattle.kw_puts.proofs.OwnAttempts.{acting_own, built_puts, inserting_puts, inserting_published, inserting_stamped, inserting_stored, look_puts, cell_puts}
use Rattle.kw_shape.proofs.AfterBuilding.{no_call_of_pin}

-- What events leave.

-- what a put knows it still knows, where its own cell is left as it was
pub inserts_stay : (n : ℕ) (row row' : Row) (b : Activity) (k : Local) → Leaves n row row' → (IsInserting b → LeavesOwn row row' k.cell) → Inserts n row b k → Inserts n row' b k
inserts_stay n row row' (Activity.Insert Insert.Start) k w o x = from_stays n row row' k.cell w (o tt).cell k.lost k.link x
inserts_stay n row row' (Activity.Insert Insert.Link) k w o x = from_stays n row row' k.cell w (o tt).cell k.lost k.link x
inserts_stay n row row' (Activity.Insert Insert.Key) k w o x = (at_stays n row row' k.cell w (o tt).cell k.lost k.link k.held x.0, x.1)
inserts_stay n row row' (Activity.Insert Insert.Version) k w o x =
    let saw : row.listed k.place ≡ true = subst (IsOn row) x.1 x.0.known in
    (at_stays n row row' k.cell w (o tt).cell k.lost k.link k.held x.0, x.1, (w.cell k.place saw).key ∙ x.2 ∙ sym (o tt).cell.cell.key)
inserts_stay n row row' (Activity.Insert Insert.Set) k w o x = (at_stays n row row' k.cell w (o tt).cell k.lost k.link k.held x.0, ahead_stays n row row' k.cell w (o tt).cell k.held x.0.known x.1)
inserts_stay n row row' (Activity.Insert Insert.Exchange) k w o x = set_stays n row row' k.cell w (o tt) k.lost k.link k.held x
inserts_stay n row row' _ k w o x = tt

-- so is its walk
pub walks_stay : (n : ℕ) (row row' : Row) (b : Activity) (k : Local) → Leaves n row row' → Inserts n row b k → WalksList n row b k → WalksList n row' b k
walks_stay n row row' (Activity.Insert Insert.Start) k w x y = (walk_stays n row row' k.link k.walked w y.0, y.1)
walks_stay n row row' (Activity.Insert Insert.Link) k w x y = walk_stays n row row' k.link k.walked w y
walks_stay n row row' (Activity.Insert Insert.Key) k w x y = (behind_same row row' w.cell k.link k.place x.0.from.on (w.cell k.place y.1.on) y.0, walk_stays n row row' (Some k.place) k.walked w y.1)
walks_stay n row row' (Activity.Insert Insert.Version) k w x y = (behind_same row row' w.cell k.link k.place x.0.from.on (w.cell k.place y.1.on) y.0, walk_stays n row row' (Some k.place) k.walked w y.1)
walks_stay n row row' _ k w x y = tt

-- a put that inserts is at its row, and its cell is not listed
pub inserting_at : (b : Activity) → IsInserting b → IsAtRow b
inserting_at (Activity.Insert _) m = tt
inserting_at _ m = absurd m

pub inserting_unlisted : (b : Activity) → IsInserting b → IsUnlisted b
inserting_unlisted (Activity.Insert _) m = tt
inserting_unlisted _ m = absurd m

-- a put that does not insert knows nothing of the list
pub inserts_if : (n : ℕ) (row : Row) (b : Activity) (k : Local) → (IsInserting b → Inserts n row b k) → Inserts n row b k
inserts_if n row (Activity.Insert Insert.Link) k f = f tt
inserts_if n row (Activity.Insert _) k f = f tt
inserts_if n row (Activity.Walk Walk.First) k f = tt
inserts_if n row _ k f = tt

pub walks_if : (n : ℕ) (row : Row) (b : Activity) (k : Local) → (IsInserting b → WalksList n row b k) → WalksList n row b k
walks_if n row (Activity.Insert Insert.Start) k f = f tt
walks_if n row (Activity.Insert Insert.Link) k f = f tt
walks_if n row (Activity.Insert Insert.Key) k f = f tt
walks_if n row (Activity.Insert Insert.Version) k f = f tt
walks_if n row (Activity.Walk Walk.First) k f = tt
walks_if n row _ k f = tt

-- The tests of the order.

-- a cell of the own key that is newer stands before the own one
newer_before : (row : Row) (l : Local) → row.key l.place ≡ row.key l.cell → row.version l.cell ≡ l.version → is_newer (row.version l.place) l.place l ≡ true → Stands row l.place l.cell
newer_before row l k v e = inr (k, which (newer (row.version l.place) l.version l.place l.cell e))
  where
    newer : (x own place cell : ℕ) → (nat_lt own x || x == own && nat_lt cell place) ≡ true → (own < x) ⊎ (own ≡ x) × (cell < place)
    newer x own place cell e = grind (arith, nat_tests)

    which : (l.version < row.version l.place) ⊎ (l.version ≡ row.version l.place) × (l.cell < l.place) → (row.version l.cell < row.version l.place) ⊎ (row.version l.cell ≡ row.version l.place) × (l.cell < l.place)
    which (inl x) = inl (omega (arith, v, x))
    which (inr x) = inr (v ∙ x.0, x.1)

-- and one that is not does not
not_newer : (row : Row) (l : Local) → row.key l.place ≡ row.key l.cell → row.version l.cell ≡ l.version → is_newer (row.version l.place) l.place l ≡ false → Stands row l.place l.cell → ⊥
not_newer row l k v e (inl x) = omega (arith, k, x)
not_newer row l k v e (inr (x, inl y)) = older (row.version l.place) l.version l.place l.cell e (omega (arith, v, y))
  where
    older : (x own place cell : ℕ) → (nat_lt own x || x == own && nat_lt cell place) ≡ false → own < x → ⊥
    older x own place cell e h = grind (arith, nat_tests)
not_newer row l k v e (inr (x, inr y)) = lower (row.version l.place) l.version l.place l.cell e (sym (sym v ∙ y.0)) y.1
  where
    lower : (x own place cell : ℕ) → (nat_lt own x || x == own && nat_lt cell place) ≡ false → x ≡ own → cell < place → ⊥
    lower x own place cell e h o = grind (arith, nat_tests)

-- nor does one of a greater key
key_not_before : (row : Row) (c d own : ℕ) → row.key d ≡ own → own < row.key c → Stands row c d → ⊥
key_not_before row c d own k o (inl x) = omega (arith, k, o, x)
key_not_before row c d own k o (inr x) = omega (arith, k, o, x.0)

-- what a link holds is at most as many as there are cells
link_at_most : {z : Sizes} {r : Run} → Below z r → {q : ℕ} (at : Option ℕ) → IsCellBelow z.cells at → q < r.world.rows → word z r.world (link_name q at) ≤ z.cells
link_at_most i {q} (Some c) o w = i.shape.sane.each (name.After q c) (w, o)
link_at_most i {q} None o w = i.shape.sane.each (name.First q) w

-- one more, where there is room for it
one_more_is : (z : Sizes) (n : ℕ) → n + 1 ≤ z.cells → one_more z n ≡ n + 1
one_more_is z n o = omega arith

-- The put's own events.

module _ (z : Sizes) (r r' : Run) (s : ℕ) (choice : Choice) (l : Local) (a : Activity) (l' : Local) (h : Happens z r r' s choice l l' a) (i : Below z r) where
  -- the list of its row before the event
  abbrev row : Row
  row = list_in (word z r.world) r.listed l.row

  known : IsKnown z r.world.rows l
  known = i.shape.sane.locals s l h.knows

  linked : IsAtRow a → WasLinked r.ledger.rows l.row
  linked p = fresh_linked r.ledger.rows s l.row ((i.shape.walks s l h.knows).at (subst IsAtRow (sym h.activity) p)).fresh

  knows_list : Inserts z.cells row a l
  knows_list = subst (λ q. Inserts z.cells row q l) h.activity (i.lists.inserts s l h.knows)

  walks_list : WalksList z.cells row a l
  walks_list = subst (λ q. WalksList z.cells row q l) h.activity (i.lists.walks s l h.knows)

  its_unlisted : IsUnlisted a → r.listed l.row l.cell ≡ false
  its_unlisted u = (i.lists.own s l h.knows).unlisted (subst IsUnlisted (sym h.activity) u)

  -- its own key and version stand in its cell
  module _ (m : IsInserting a) where
    its_own : OwnsAttempt (word z r.world) r.history s l.activity l (r.seats s)
    its_own = acting_own z r r' s choice l a l' h i (inserting_puts a m)

    its_key : row.key l.cell ≡ first_key l.call
    its_key = rw (its_own.row, its_own.cell) at ((i.puts.body (r.seats s).own its_own.within (i.puts.present s l h.knows (subst IsPutting (sym h.activity) (inserting_puts a m)))).key (its_own.announced (subst IsPublished (sym h.activity) (inserting_published a m)))) ∙ its_own.key

    its_version : row.version l.cell ≡ l.version
    its_version = its_own.stored (subst IsStored (sym h.activity) (inserting_stored a m)) ∙ its_own.version (subst IsStamped (sym h.activity) (inserting_stamped a m))

  -- where the event writes no word, the list is what it was for the seat itself
  loads_own : r'.listed ≡ r.listed → ((n : Name) → word z r'.world n ≡ word z r.world n) → IsUnlisted a → LeavesOwn row (list_in (word z r'.world) r'.listed l.row) l.cell
  loads_own e f u = record {
    cell = record { unlisted = ap (λ g. g l.row l.cell) e ∙ its_unlisted u; cell = record { key = ap key_of_word (f (name.Key l.row l.cell)); version = f (name.Version l.row l.cell) } };
    after = ap cell_of_link_word (f (name.After l.row l.cell));
  }

  -- and what it learned of the list it knows of the list as it is now
  learned : (b : Activity) (k : Local) → k.row ≡ l.row → k.cell ≡ l.cell → IsAtRow a → IsUnlisted a → r'.listed ≡ r.listed → ((n : Name) → word z r'.world n ≡ word z r.world n) → Inserts z.cells row b k → Inserts z.cells (list_in (word z r'.world) r'.listed k.row) b k
  learned b k e f p u g w x = subst (λ q. Inserts z.cells (list_in (word z r'.world) r'.listed q) b k) (sym e) (inserts_stay z.cells row (list_in (word z r'.world) r'.listed l.row) b k (leaves z.cells _ _ (list_step z r r' s choice l a l' h i l.row (linked p))) (λ m. subst (LeavesOwn row (list_in (word z r'.world) r'.listed l.row)) (sym f) (loads_own g w u)) x)

  walked : (b : Activity) (k : Local) → k.row ≡ l.row → IsAtRow a → Inserts z.cells row b k → WalksList z.cells row b k → WalksList z.cells (list_in (word z r'.world) r'.listed k.row) b k
  walked b k e p x y = subst (λ q. WalksList z.cells (list_in (word z r'.world) r'.listed q) b k) (sym e) (walks_stay z.cells row (list_in (word z r'.world) r'.listed l.row) b k (leaves z.cells _ _ (list_step z r r' s choice l a l' h i l.row (linked p))) x y)

  -- a cell with which the row was built is one of the list
  its_built : (c : ℕ) → IsAtRow a → c < l.built → row.listed c ≡ true
  its_built c p o = i.lists.built l.row c (linked p) (omega (arith, o, (i.shape.walks s l h.knows).built (past l.activity (subst IsAtRow (sym h.activity) p))))

  its_list : IsAtRow a → IsSound z.cells row
  its_list p = i.lists.leads l.row (linked p)

-- the put begins at the row's first link
begins_insert : (z : Sizes) (r r' : Run) (s : ℕ) (choice : Choice) (l l' : Local) → Happens z r r' s choice l l' (Activity.Put Put.Version) → Below z r → IsFrom z.cells (list_in (word z r'.world) r'.listed l.row) l.cell 0 None
begins_insert z r r' s choice l l' h i = put_begins z.cells (list_in (word z r'.world) r'.listed l.row) l.cell (ap (λ f. f l.row l.cell) h.listed ∙ its_unlisted z r r' s choice l (Activity.Put Put.Version) l' h i tt)

-- it stores what the link held in its own link
sets_insert : (z : Sizes) (r r' : Run) (s : ℕ) (choice : Choice) (l l' : Local) → Happens z r r' s choice l l' (Activity.Insert Insert.Set) → Below z r → IsSet z.cells (list_in (word z r'.world) r'.listed l.row) l.cell l.lost l.link l.held
sets_insert z r r' s choice l l' h i = record {
  saw = at_stays z.cells before after l.cell left cell l.lost l.link l.held x.0;
  ahead = ahead_stays z.cells before after l.cell left cell l.held x.0.known x.1;
  after = leads_there (word z r'.world) l.row (Some l.cell) l.held z.cells k.ranges.held i.shape.sane.sized.few_cells h.changed.same;
}
  where
    before : Row
    before = row z r r' s choice l (Activity.Insert Insert.Set) l' h i

    after : Row
    after = list_in (word z r'.world) r'.listed l.row

    k : IsKnown z r.world.rows l
    k = known z r r' s choice l (Activity.Insert Insert.Set) l' h i

    x : Inserts z.cells before (Activity.Insert Insert.Set) l
    x = knows_list z r r' s choice l (Activity.Insert Insert.Set) l' h i

    left : Leaves z.cells before after
    left = leaves z.cells before after (list_step z r r' s choice l (Activity.Insert Insert.Set) l' h i l.row (linked z r r' s choice l (Activity.Insert Insert.Set) l' h i tt))

    cell : LeavesCell before after l.cell
    cell = record {
      unlisted = ap (λ f. f l.row l.cell) h.listed ∙ its_unlisted z r r' s choice l (Activity.Insert Insert.Set) l' h i tt;
      cell = record { key = ap key_of_word (key_stays (Activity.Insert Insert.Set) h l.row l.cell k.below.row k.ranges.cell (λ y. y)); version = version_stays (Activity.Insert Insert.Set) h l.row l.cell k.below.row k.ranges.cell (λ y. y) };
    }

-- it loses its exchange
loses_insert : (z : Sizes) (r r' : Run) (s : ℕ) (choice : Choice) (l l' : Local) → word z r.world (link_name l.row l.link) ≢ cell_link_word l.held → Happens z r r' s choice l l' (Activity.Insert Insert.Exchange) → Below z r → IsFrom z.cells (list_in (word z r'.world) r'.listed l.row) l.cell (one_more z l.lost) None
loses_insert z r r' s choice l l' n h i = rw (one_more_is z l.lost (omega (arith, lost.fewer, count_most z.cells before.listed))) (from_stays z.cells before after l.cell left cell (l.lost + 1) None lost)
  where
    before : Row
    before = row z r r' s choice l (Activity.Insert Insert.Exchange) l' h i

    after : Row
    after = list_in (word z r'.world) r'.listed l.row

    k : IsKnown z r.world.rows l
    k = known z r r' s choice l (Activity.Insert Insert.Exchange) l' h i

    lost : IsFrom z.cells before l.cell (l.lost + 1) None
    lost = put_loses z.cells before l.cell l.lost l.link l.held (is_set z r r' s choice l l' h i).saw
        (leads_elsewhere (word z r.world) l.row l.link l.held z.cells (link_at_most i l.link k.ranges.link k.below.row) i.shape.sane.sized.few_cells n)

    left : Leaves z.cells before after
    left = leaves z.cells before after (list_step z r r' s choice l (Activity.Insert Insert.Exchange) l' h i l.row (linked z r r' s choice l (Activity.Insert Insert.Exchange) l' h i tt))

    cell : LeavesCell before after l.cell
    cell = record {
      unlisted = ap (λ f. f l.row l.cell) (lost_listed z r r' s choice l l' h i n) ∙ its_unlisted z r r' s choice l (Activity.Insert Insert.Exchange) l' h i tt;
      cell = record { key = ap key_of_word (key_stays (Activity.Insert Insert.Exchange) h l.row l.cell k.below.row k.ranges.cell (λ y. y)); version = version_stays (Activity.Insert Insert.Exchange) h l.row l.cell k.below.row k.ranges.cell (λ y. y) };
    }

-- what the acting seat knows of the list of its row
pub inserts_own : (z : Sizes) (r r' : Run) (s : ℕ) (choice : Choice) (l : Local) (a : Activity) (l' : Local) → Arrow z (word z r.world) s choice l a l' → Happens z r r' s choice l l' a → Below z r → IsInserting l'.activity → Inserts z.cells (list_in (word z r'.world) r'.listed l'.row) l'.activity l'
inserts_own z r r' s choice l a l' (builds b next y t) h i m = built_puts next.activity (built_next z (word z r.world) choice l b next t) (inserting_puts next.activity m)
inserts_own z r r' s choice l a l' (asks_of_pin next o n) h i m = no_call_of_pin _ h i.shape o
inserts_own z r r' s choice l a l' stores_version h i m = begins_insert z r r' s choice l l' h i
inserts_own z r r' s choice l a l' (first_reaches c e) h i m =
    let k = knows_list z r r' s choice l (Activity.Insert Insert.Start) l' h i in
    let sound = its_list z r r' s choice l (Activity.Insert Insert.Start) l' h i tt in
    let here : link_in (word z r.world) l.row l.link ≡ Some c = link_is (word z r.world) l.row l.link ∙ e in
    let at = put_loads z.cells (row z r r' s choice l (Activity.Insert Insert.Start) l' h i) l.cell l.lost l.link sound.list k in
    learned z r r' s choice l (Activity.Insert Insert.Start) l' h i (Activity.Insert Insert.Key) l' refl refl tt tt h.listed (h.changed.loaded (first_loads (cell_guess choice l) l)) (subst (IsAt z.cells (row z r r' s choice l (Activity.Insert Insert.Start) l' h i) l.cell l.lost l.link) here at, refl)
inserts_own z r r' s choice l a l' (first_sees_none e) h i m =
    let k = knows_list z r r' s choice l (Activity.Insert Insert.Start) l' h i in
    let sound = its_list z r r' s choice l (Activity.Insert Insert.Start) l' h i tt in
    let here : link_in (word z r.world) l.row l.link ≡ None = link_is (word z r.world) l.row l.link ∙ e in
    let at = put_loads z.cells (row z r r' s choice l (Activity.Insert Insert.Start) l' h i) l.cell l.lost l.link sound.list k in
    learned z r r' s choice l (Activity.Insert Insert.Start) l' h i (Activity.Insert Insert.Set) l' refl refl tt tt h.listed (h.changed.loaded (first_loads (cell_guess choice l) l)) (subst (IsAt z.cells (row z r r' s choice l (Activity.Insert Insert.Start) l' h i) l.cell l.lost l.link) here at, tt)
inserts_own z r r' s choice l a l' (inserts_behind c inside e) h i m =
    let k = knows_list z r r' s choice l (Activity.Insert Insert.Start) l' h i in
    learned z r r' s choice l (Activity.Insert Insert.Start) l' h i (Activity.Insert Insert.Link) l' refl refl tt tt h.listed (h.changed.loaded (first_loads (cell_guess choice l) l))
    (record { unlisted = k.unlisted; on = its_built z r r' s choice l (Activity.Insert Insert.Start) l' h i c tt inside; behind = inl (omega (arith, e, its_key z r r' s choice l (Activity.Insert Insert.Start) l' h i tt)); fewer = k.fewer })
inserts_own z r r' s choice l a l' (inserts_at_first guess e) h i m =
    learned z r r' s choice l (Activity.Insert Insert.Start) l' h i (Activity.Insert Insert.Link) l' refl refl tt tt h.listed (h.changed.loaded (first_loads (cell_guess choice l) l)) (knows_list z r r' s choice l (Activity.Insert Insert.Start) l' h i)
inserts_own z r r' s choice l a l' (reaches_cell c e) h i m =
    let k = knows_list z r r' s choice l (Activity.Insert Insert.Link) l' h i in
    let sound = its_list z r r' s choice l (Activity.Insert Insert.Link) l' h i tt in
    let here : link_in (word z r.world) l.row l.link ≡ Some c = link_is (word z r.world) l.row l.link ∙ e in
    let at = put_loads z.cells (row z r r' s choice l (Activity.Insert Insert.Link) l' h i) l.cell l.lost l.link sound.list k in
    learned z r r' s choice l (Activity.Insert Insert.Link) l' h i (Activity.Insert Insert.Key) l' refl refl tt tt h.listed (h.changed.loaded refl) (subst (IsAt z.cells (row z r r' s choice l (Activity.Insert Insert.Link) l' h i) l.cell l.lost l.link) here at, refl)
inserts_own z r r' s choice l a l' (sees_none e) h i m =
    let k = knows_list z r r' s choice l (Activity.Insert Insert.Link) l' h i in
    let sound = its_list z r r' s choice l (Activity.Insert Insert.Link) l' h i tt in
    let here : link_in (word z r.world) l.row l.link ≡ None = link_is (word z r.world) l.row l.link ∙ e in
    let at = put_loads z.cells (row z r r' s choice l (Activity.Insert Insert.Link) l' h i) l.cell l.lost l.link sound.list k in
    learned z r r' s choice l (Activity.Insert Insert.Link) l' h i (Activity.Insert Insert.Set) l' refl refl tt tt h.listed (h.changed.loaded refl) (subst (IsAt z.cells (row z r r' s choice l (Activity.Insert Insert.Link) l' h i) l.cell l.lost l.link) here at, tt)
inserts_own z r r' s choice l a l' (key_before e) h i m =
    let x = knows_list z r r' s choice l (Activity.Insert Insert.Key) l' h i in
    let at = subst (IsAt z.cells (row z r r' s choice l (Activity.Insert Insert.Key) l' h i) l.cell l.lost l.link) x.1 x.0 in
    learned z r r' s choice l (Activity.Insert Insert.Key) l' h i (Activity.Insert Insert.Link) l' refl refl tt tt h.listed (h.changed.loaded refl)
    (put_goes_by z.cells (row z r r' s choice l (Activity.Insert Insert.Key) l' h i) l.cell l.lost l.link l.place at (inl (omega (arith, e, its_key z r r' s choice l (Activity.Insert Insert.Key) l' h i tt))))
inserts_own z r r' s choice l a l' (key_same e) h i m =
    let x = knows_list z r r' s choice l (Activity.Insert Insert.Key) l' h i in
    learned z r r' s choice l (Activity.Insert Insert.Key) l' h i (Activity.Insert Insert.Version) l' refl refl tt tt h.listed (h.changed.loaded refl) (x.0, x.1, e ∙ sym (its_key z r r' s choice l (Activity.Insert Insert.Key) l' h i tt))
inserts_own z r r' s choice l a l' (key_after e) h i m =
    let before = row z r r' s choice l (Activity.Insert Insert.Key) l' h i in
    let x = knows_list z r r' s choice l (Activity.Insert Insert.Key) l' h i in
    let at = subst (IsAt z.cells before l.cell l.lost l.link) x.1 x.0 in
    let greater : Stands before l.place l.cell → ⊥ = key_not_before before l.place l.cell (first_key l.call) (its_key z r r' s choice l (Activity.Insert Insert.Key) l' h i tt) e in
    learned z r r' s choice l (Activity.Insert Insert.Key) l' h i (Activity.Insert Insert.Set) l' refl refl tt tt h.listed (h.changed.loaded refl)
    (x.0, subst (IsAhead before l.cell) (sym x.1) (put_stops z.cells before l.cell l.lost l.link l.place at greater))
inserts_own z r r' s choice l a l' (version_before e) h i m =
    let before = row z r r' s choice l (Activity.Insert Insert.Version) l' h i in
    let x = knows_list z r r' s choice l (Activity.Insert Insert.Version) l' h i in
    let at = subst (IsAt z.cells before l.cell l.lost l.link) x.1 x.0 in
    learned z r r' s choice l (Activity.Insert Insert.Version) l' h i (Activity.Insert Insert.Link) l' refl refl tt tt h.listed (h.changed.loaded refl)
    (put_goes_by z.cells before l.cell l.lost l.link l.place at (newer_before before l x.2 (its_version z r r' s choice l (Activity.Insert Insert.Version) l' h i tt) e))
inserts_own z r r' s choice l a l' (version_after e) h i m =
    let before = row z r r' s choice l (Activity.Insert Insert.Version) l' h i in
    let x = knows_list z r r' s choice l (Activity.Insert Insert.Version) l' h i in
    let at = subst (IsAt z.cells before l.cell l.lost l.link) x.1 x.0 in
    learned z r r' s choice l (Activity.Insert Insert.Version) l' h i (Activity.Insert Insert.Set) l' refl refl tt tt h.listed (h.changed.loaded refl)
    (x.0, subst (IsAhead before l.cell) (sym x.1) (put_stops z.cells before l.cell l.lost l.link l.place at (not_newer before l x.2 (its_version z r r' s choice l (Activity.Insert Insert.Version) l' h i tt) e)))
inserts_own z r r' s choice l a l' stores_after h i m = sets_insert z r r' s choice l l' h i
inserts_own z r r' s choice l a l' (loses n) h i m = loses_insert z r r' s choice l l' n h i
inserts_own z r r' s choice l a l' (sees_stamped j c version next e n) h i m = look_puts z _ next n (inserting_puts next m)
inserts_own z r r' s choice l a l' (sees_neither j next e n) h i m = look_puts z _ next n (inserting_puts next m)
inserts_own z r r' s choice l a l' (is_gone_by next e n) h i m = look_puts z _ next n (inserting_puts next m)
inserts_own z r r' s choice l a l' (helps next e n) h i m = look_puts z _ next n (inserting_puts next m)
inserts_own z r r' s choice l a l' (finds_stamped c version next e n) h i m = look_puts z _ next n (inserting_puts next m)
inserts_own z r r' s choice l a l' (finds_other next e n) h i m = look_puts z _ next n (inserting_puts next m)
inserts_own z r r' s choice l a l' (first_ends next e n) h i m = cell_puts _ next n (inserting_puts next.activity m)
inserts_own z r r' s choice l a l' (list_ends next e n) h i m = cell_puts _ next n (inserting_puts next.activity m)
inserts_own z r r' s choice l a l' (key_above next e n) h i m = cell_puts _ next n (inserting_puts next.activity m)
inserts_own z r r' s choice l a l' (left_over_gone_by next e n) h i m = cell_puts _ next n (inserting_puts next.activity m)
inserts_own z r r' s choice l a l' (gathers_left_over next n) h i m = cell_puts _ next n (inserting_puts next.activity m)
inserts_own z r r' s choice l (Activity.Rebalance (Rebalance.Freeze f)) l' x h i m = balancing_puts l'.activity (freezing_goes z _ s choice l f l' x) (inserting_puts l'.activity m)
inserts_own z r r' s choice l (Activity.Rebalance (Rebalance.Gather g)) l' x h i m = balancing_puts l'.activity (gathering_goes z _ s choice l g l' x) (inserting_puts l'.activity m)
inserts_own z r r' s choice l a l' (marks_led count next d n) h i o = absurd (counted_not IsInserting (λ x. x) (λ x. x) n o)
inserts_own z r r' s choice l a l' (decides count m next e n) h i o = absurd (counted_not IsInserting (λ x. x) (λ x. x) n o)
inserts_own z r r' s choice l a l' _ h i m = absurd m

-- where the acting seat's walk is
pub walks_own : (z : Sizes) (r r' : Run) (s : ℕ) (choice : Choice) (l : Local) (a : Activity) (l' : Local) → Arrow z (word z r.world) s choice l a l' → Happens z r r' s choice l l' a → Below z r → IsInserting l'.activity → WalksList z.cells (list_in (word z r'.world) r'.listed l'.row) l'.activity l'
walks_own z r r' s choice l a l' (builds b next y t) h i m = built_puts next.activity (built_next z (word z r.world) choice l b next t) (inserting_puts next.activity m)
walks_own z r r' s choice l a l' (asks_of_pin next o n) h i m = no_call_of_pin _ h i.shape o
walks_own z r r' s choice l a l' stores_version h i m = (walk_begins z.cells _, refl)
walks_own z r r' s choice l a l' (first_reaches c e) h i m =
    let before = row z r r' s choice l (Activity.Insert Insert.Start) l' h i in
    let k = knows_list z r r' s choice l (Activity.Insert Insert.Start) l' h i in
    let w = (walks_list z r r' s choice l (Activity.Insert Insert.Start) l' h i).0 in
    let sound = its_list z r r' s choice l (Activity.Insert Insert.Start) l' h i tt in
    let cell = (known z r r' s choice l (Activity.Insert Insert.Start) l' h i).ranges.cell in
    let next = at_next before l.link (before.link l.link) c (sound.list l.link k.on) (link_is (word z r.world) l.row l.link ∙ e) in
    let fewer = walked_fewer z.cells before l.link l.walked l.cell cell k.unlisted w in
    let on = walk_goes_on z.cells before l.link l.walked c (sound.below c next.listed) next.listed next.behind w in
    let left = leaves z.cells _ _ (list_step z r r' s choice l (Activity.Insert Insert.Start) l' h i l.row (linked z r r' s choice l (Activity.Insert Insert.Start) l' h i tt)) in
    (behind_same before _ left.cell l.link c k.on (left.cell c next.listed) next.behind, rw (one_more_is z l.walked (omega (arith, fewer))) (walk_stays z.cells before _ (Some c) (l.walked + 1) left on))
walks_own z r r' s choice l a l' (inserts_behind c inside e) h i m =
    let w = walks_list z r r' s choice l (Activity.Insert Insert.Start) l' h i in
    let left = leaves z.cells _ _ (list_step z r r' s choice l (Activity.Insert Insert.Start) l' h i l.row (linked z r r' s choice l (Activity.Insert Insert.Start) l' h i tt)) in
    walk_stays z.cells _ _ (Some c) l.walked left (record { on = its_built z r r' s choice l (Activity.Insert Insert.Start) l' h i c tt inside; counted = omega (arith, w.1) })
walks_own z r r' s choice l a l' (inserts_at_first guess e) h i m =
    let left = leaves z.cells _ _ (list_step z r r' s choice l (Activity.Insert Insert.Start) l' h i l.row (linked z r r' s choice l (Activity.Insert Insert.Start) l' h i tt)) in
    walk_stays z.cells _ _ l.link l.walked left (walks_list z r r' s choice l (Activity.Insert Insert.Start) l' h i).0
walks_own z r r' s choice l a l' (reaches_cell c e) h i m =
    let before = row z r r' s choice l (Activity.Insert Insert.Link) l' h i in
    let k = knows_list z r r' s choice l (Activity.Insert Insert.Link) l' h i in
    let w = walks_list z r r' s choice l (Activity.Insert Insert.Link) l' h i in
    let sound = its_list z r r' s choice l (Activity.Insert Insert.Link) l' h i tt in
    let cell = (known z r r' s choice l (Activity.Insert Insert.Link) l' h i).ranges.cell in
    let next = at_next before l.link (before.link l.link) c (sound.list l.link k.on) (link_is (word z r.world) l.row l.link ∙ e) in
    let fewer = walked_fewer z.cells before l.link l.walked l.cell cell k.unlisted w in
    let on = walk_goes_on z.cells before l.link l.walked c (sound.below c next.listed) next.listed next.behind w in
    let left = leaves z.cells _ _ (list_step z r r' s choice l (Activity.Insert Insert.Link) l' h i l.row (linked z r r' s choice l (Activity.Insert Insert.Link) l' h i tt)) in
    (behind_same before _ left.cell l.link c k.on (left.cell c next.listed) next.behind, rw (one_more_is z l.walked (omega (arith, fewer))) (walk_stays z.cells before _ (Some c) (l.walked + 1) left on))
walks_own z r r' s choice l a l' (key_before e) h i m =
    let left = leaves z.cells _ _ (list_step z r r' s choice l (Activity.Insert Insert.Key) l' h i l.row (linked z r r' s choice l (Activity.Insert Insert.Key) l' h i tt)) in
    walk_stays z.cells _ _ (Some l.place) l.walked left (walks_list z r r' s choice l (Activity.Insert Insert.Key) l' h i).1
walks_own z r r' s choice l a l' (key_same e) h i m = walked z r r' s choice l (Activity.Insert Insert.Key) l' h i (Activity.Insert Insert.Key) l refl tt (knows_list z r r' s choice l (Activity.Insert Insert.Key) l' h i) (walks_list z r r' s choice l (Activity.Insert Insert.Key) l' h i)
walks_own z r r' s choice l a l' (version_before e) h i m =
    let left = leaves z.cells _ _ (list_step z r r' s choice l (Activity.Insert Insert.Version) l' h i l.row (linked z r r' s choice l (Activity.Insert Insert.Version) l' h i tt)) in
    walk_stays z.cells _ _ (Some l.place) l.walked left (walks_list z r r' s choice l (Activity.Insert Insert.Version) l' h i).1
walks_own z r r' s choice l a l' (loses n) h i m = (walk_begins z.cells _, refl)
walks_own z r r' s choice l a l' (sees_stamped j c version next e n) h i m = look_puts z _ next n (inserting_puts next m)
walks_own z r r' s choice l a l' (sees_neither j next e n) h i m = look_puts z _ next n (inserting_puts next m)
walks_own z r r' s choice l a l' (is_gone_by next e n) h i m = look_puts z _ next n (inserting_puts next m)
walks_own z r r' s choice l a l' (helps next e n) h i m = look_puts z _ next n (inserting_puts next m)
walks_own z r r' s choice l a l' (finds_stamped c version next e n) h i m = look_puts z _ next n (inserting_puts next m)
walks_own z r r' s choice l a l' (finds_other next e n) h i m = look_puts z _ next n (inserting_puts next m)
walks_own z r r' s choice l a l' (first_ends next e n) h i m = cell_puts _ next n (inserting_puts next.activity m)
walks_own z r r' s choice l a l' (list_ends next e n) h i m = cell_puts _ next n (inserting_puts next.activity m)
walks_own z r r' s choice l a l' (key_above next e n) h i m = cell_puts _ next n (inserting_puts next.activity m)
walks_own z r r' s choice l a l' (left_over_gone_by next e n) h i m = cell_puts _ next n (inserting_puts next.activity m)
walks_own z r r' s choice l a l' (gathers_left_over next n) h i m = cell_puts _ next n (inserting_puts next.activity m)
walks_own z r r' s choice l a l' (first_sees_none e) h i m = tt
walks_own z r r' s choice l a l' (sees_none e) h i m = tt
walks_own z r r' s choice l a l' (key_after e) h i m = tt
walks_own z r r' s choice l a l' (version_after e) h i m = tt
walks_own z r r' s choice l a l' stores_after h i m = tt
walks_own z r r' s choice l (Activity.Rebalance (Rebalance.Freeze f)) l' x h i m = balancing_puts l'.activity (freezing_goes z _ s choice l f l' x) (inserting_puts l'.activity m)
walks_own z r r' s choice l (Activity.Rebalance (Rebalance.Gather g)) l' x h i m = balancing_puts l'.activity (gathering_goes z _ s choice l g l' x) (inserting_puts l'.activity m)
walks_own z r r' s choice l a l' (marks_led count next d n) h i o = absurd (counted_not IsInserting (λ x. x) (λ x. x) n o)
walks_own z r r' s choice l a l' (decides count m next e n) h i o = absurd (counted_not IsInserting (λ x. x) (λ x. x) n o)
walks_own z r r' s choice l a l' _ h i m = absurd m
