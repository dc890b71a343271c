-- Every event keeps what holds of the cells of attempts: which attempt has which cell, and what
-- stands there.
use Rattle.std.proofs.Common.{ℕ, ◌≡◌, ◌≢◌, ◌⊎◌, inl, inr, ◌+◌, ◌<◌, ◌≤◌, Bool, true, false, Option, Some, None, arith, refl, sym, ◌∙◌, ap, subst, length}
use Rattle.std.proofs.lemmas.Bool.{cases_eq, cases_lt}
use Rattle.std.proofs.lemmas.Option.{same_Some}
use Rattle.kw_words.specs.declared.layout.Name.TheVariants as name
use Rattle.kw_words.specs.Count.{count_of}
use Rattle.kw_words.specs.Plain.{key_of_word, value_of_word}
use Rattle.kw_world.specs.declared.activity.Activity.{Activity}
use Rattle.kw_world.specs.declared.activity.put.Put.TheVariants as Put
use Rattle.kw_world.specs.declared.local.Local.{Local}
use Rattle.kw_world.specs.declared.event.Choice.{Choice}
use Rattle.kw_world.specs.Sizes.{Sizes}
use Rattle.kw_world.specs.Calls.{first_key}
use Rattle.kw_world.specs.PutTransitions.{has_room}
use Rattle.kw_world.specs.Step.{word}
use Rattle.kw_core.specs.History.{History, attempt}
use Rattle.kw_core.specs.declared.history.Attempt.{Attempt}
use Rattle.kw_core.specs.Run.{Run, Origins}
use Rattle.kw_core.specs.Stages.{IsAtRow, IsPutting, IsFresh, HasKey, IsAnnounce, IsStamped, IsPutVersion}
use Rattle.kw_core.specs.Words.{Words, given_in}
use Rattle.kw_rows.specs.Ledger.{Ledger}
use Rattle.kw_rows.specs.Rows.{WasLinked}
use Rattle.kw_shape.specs.Shape.{HoldsKey, Shape}
use Rattle.kw_puts.specs.Puts.{IsHere, IsPlaced, IsGivenCell, HasCell, IsCopyAt, Places, Rises, RisesTo, HasBody, OwnsAttempt, key_in, value_in}
use Rattle.kw_puts.specs.Freezes.{IsFrozen}
use Rattle.kw_puts.specs.Below.{Below}
use Rattle.kw_core.specs.Step.{Step}
use Rattle.kw_core.proofs.Happens.{log_entry}
use Rattle.kw_core.proofs.Happens.{Happens}
use Rattle.kw_core.proofs.Arrows.{Arrow}
use Rattle.kw_core.proofs.InfantFrames.{key_stays, value_stays}
use Rattle.kw_core.proofs.RoomBelow.{room_below}
use Rattle.kw_puts.proofs.CellsOf.{cell_within}
use Rattle.kw_puts.proofs.HereStays.{here_was}
use Rattle.kw_puts.proofs.Owners.{true_false, is_own, own_origin, row_linked, was_or_not}
use Rattle.kw_puts.proofs.Rely.{SameAttempt, GoesOn}
use Rattle.kw_puts.proofs.RelyProof.{key_puts, value_puts, version_puts, goes_on_by, rely_version}
use Rattle.kw_shape.proofs.LinkedRows.{holds_first, holds_stays, linked_given, linked_keeps, linked_key, linked_value, linked_version, was_below}
use Rattle.kw_puts.proofs.Relinked.{PlacesAt, new_places}
use Rattle.kw_puts.proofs.OwnAttempts.{acting_own}
use Rattle.kw_puts.proofs.NewAttempts.{IsGiving, IsNew, attempt_was, announced_was, one_more_is, one_more_within, given_was, given_more, origin_new, origin_was, no_room_frozen, stays_frozen}

-- what an attempt is of, by its parts
placed_from : (z : Sizes) (rows : ℕ) (h : History) (p t q c : ℕ) → (attempt h p).seat ≡ t → (attempt h p).row ≡ q → (attempt h p).cell ≡ c → t < z.seats → q < rows → c < z.cells → IsPlaced z rows h p
placed_from z rows h p t q c es eq ec s b w = record { seat = rw es s; below = rw eq b; cell = rw ec w }

-- an attempt is of a seat, a row and a cell of the table: only a put that takes a cell adds one
pub placed_keeps : (z : Sizes) (r r' : Run) (s : ℕ) (choice : Choice) (l : Local) (a : Activity) (l' : Local) → Happens z r r' s choice l l' a → Below z r → Step r.history r'.history (log_entry z r a s choice l) → (p : ℕ) → p < length r'.history.attempts → IsPlaced z r'.world.rows r'.history p
placed_keeps z r r' s choice l a l' h i st p o = subst (λ n. IsPlaced z n r'.history p) (sym h.rows) (which (attempt_was a h p o))
  where
    which : (p < length r.history.attempts) ⊎ IsNew z r r' s l a p → IsPlaced z r.world.rows r'.history p
    which (inl w) =
        let c = i.puts.placed p w in
        let same = (goes_on_by z r r' s choice l a l' h i st).attempts p w in
        placed_from z r.world.rows r'.history p (attempt r.history p).seat (attempt r.history p).row (attempt r.history p).cell same.seat same.row same.cell c.seat c.below c.cell
    which (inr n) =
        let taking = subst (λ x. Happens z r r' s choice l l' x) n.gives.takes h in
        let linked = row_linked z r i.shape s l h.knows (subst IsAtRow (sym taking.activity) tt) in
        placed_from z r.world.rows r'.history p s l.row (given_in (word z r.world) l.row)
        (ap (λ x. x.seat) n.is) (ap (λ x. x.row) n.is) (ap (λ x. x.cell) n.is)
        h.seat
        (was_below z r i.shape l.row linked)
        (room_below z (count_of (word z r.world (name.Count l.row))) n.gives.room)

-- the cell of an attempt, by what the attempt is of
cell_from : (v : Words) (g : Ledger) (h : History) (o : Origins) (p q c k : ℕ) → (attempt h p).row ≡ q → (attempt h p).cell ≡ c → (attempt h p).key ≡ k → c < given_in v q → o q c ≡ Some p → HoldsKey v g q k → IsGivenCell v g h o p
cell_from v g h o p q c k eq ec ek u e y = record { given = rw (eq, ec) u; origin = rw (eq, ec) e; holds = rw (eq, ek) y }

-- the cells of attempts whose rows were not used again: only a put that takes a cell adds to them
pub given_keeps : (z : Sizes) (r r' : Run) (s : ℕ) (choice : Choice) (l : Local) (a : Activity) (l' : Local) → Arrow z (word z r.world) s choice l a l' → Happens z r r' s choice l l' a → Below z r → Step r.history r'.history (log_entry z r a s choice l) → Shape z r' → (p : ℕ) → p < length r'.history.attempts → IsHere r'.ledger.rows r'.history p → IsGivenCell (word z r'.world) r'.ledger.rows r'.history r'.origin p
given_keeps z r r' s choice l a l' b h i st after p o x = which (attempt_was a h p o)
  where
    -- a row that is or was linked may still hold a key
    holds : (q key : ℕ) → WasLinked r.ledger.rows q → HoldsKey (word z r.world) r.ledger.rows q key → HoldsKey (word z r'.world) r'.ledger.rows q key
    holds q key k = let y = linked_keeps a h i.shape q k in holds_stays (word z r.world) (word z r'.world) r.ledger.rows r'.ledger.rows q key y.upper y.least

    fresh : IsNew z r r' s l a p → IsGivenCell (word z r'.world) r'.ledger.rows r'.history r'.origin p
    fresh n =
        let taking = subst (λ x. Happens z r r' s choice l l' x) n.gives.takes h in
        let linked = row_linked z r i.shape s l h.knows (subst IsAtRow (sym taking.activity) tt) in
        let more = given_more _ _ taking.changed.same (i.shape.sane.each (name.Count l.row) (was_below z r i.shape l.row linked)) in
        cell_from (word z r'.world) r'.ledger.rows r'.history r'.origin p l.row (given_in (word z r.world) l.row) (first_key l.call)
        (ap (λ x. x.row) n.is) (ap (λ x. x.cell) n.is) (ap (λ x. x.key) n.is)
        (omega (arith, more))
        (origin_new taking n.gives.room ∙ ap Some (sym n.place))
        (holds l.row (first_key l.call) linked (holds_first z r s l i.shape h.knows taking.activity))

    which : (p < length r.history.attempts) ⊎ IsNew z r r' s l a p → IsGivenCell (word z r'.world) r'.ledger.rows r'.history r'.origin p
    which (inl w) =
        let was = here_was a h i st p w x in
        let c = i.puts.given p w was in
        let y = goes_on_by z r r' s choice l a l' h i st in
        let same = y.attempts p w in
        cell_from (word z r'.world) r'.ledger.rows r'.history r'.origin p (attempt r.history p).row (attempt r.history p).cell (attempt r.history p).key
        same.row same.cell same.key
        (omega (arith, c.given, linked_given a h i.shape (attempt r.history p).row was.linked))
        (y.origin (attempt r.history p).row (attempt r.history p).cell p was.linked c.origin)
        (holds (attempt r.history p).row (attempt r.history p).key was.linked c.holds)
    which (inr n) = fresh n

-- The places of a row.

module _ (z : Sizes) (r r' : Run) (s : ℕ) (choice : Choice) (l : Local) (a : Activity) (l' : Local) (h : Happens z r r' s choice l l' a) (i : Below z r) (st : Step r.history r'.history (log_entry z r a s choice l)) where
  -- the record goes on, and no count falls
  goes : GoesOn r.history r'.history r.origin r'.origin r.ledger.rows
  goes = goes_on_by z r r' s choice l a l' h i st

  grows : (q : ℕ) → WasLinked r.ledger.rows q → given_in (word z r.world) q ≤ given_in (word z r'.world) q
  grows q k = linked_given a h i.shape q k

  -- a seat that asks for a cell adds one to the count of its row
  taken_given : a ≡ Activity.Put Put.Add → given_in (word z r'.world) l.row ≡ given_in (word z r.world) l.row + 1
  taken_given e = given_more _ _ (subst (λ x. Happens z r r' s choice l l' x) e h).changed.same (i.shape.sane.each (name.Count l.row) (i.shape.sane.locals s l h.knows).below.row)

  -- an attempt that is added now is added after its row was linked
  fresh_born : (q p : ℕ) → WasLinked r.ledger.rows q → IsGiving z r l a → p ≡ length r.history.attempts → (r'.ledger.rows.fates q).born ≤ (attempt r'.history p).add
  fresh_born q p k n u =
      let is = one_more_is (subst (λ x. Happens z r r' s choice l l' x) n.takes h) n.room in
      let add : (attempt r'.history p).add ≡ length r.history.log = rw u (ap (λ (x : Attempt). x.add) is) in
      omega (arith, add, (linked_keeps a h i.shape q k).born, i.puts.born q k)

  -- the attempt of a cell that is given now
  fresh_cell : (q c p : ℕ) → WasLinked r.ledger.rows q → WasLinked r'.ledger.rows q → IsGiving z r l a → q ≡ l.row → c ≡ given_in (word z r.world) l.row → p ≡ length r.history.attempts → HasCell r'.ledger.rows r'.history q c p
  fresh_cell q c p k k' n f g u =
      let taking = subst (λ x. Happens z r r' s choice l l' x) n.takes h in
      let is = one_more_is taking n.room in
      record {
        within = subst (λ x. x < length r'.history.attempts) (sym u) (one_more_within taking n.room);
        row = rw u (ap (λ x. x.row) is ∙ sym f);
        cell = rw u (ap (λ x. x.cell) is ∙ sym g);
        linked = k';
        born = fresh_born q p k n u;
      }

  -- no seat writes into a copy: the cell into which it stores a key, a value or a version is its
  -- own
  not_own : (q c p : ℕ) → r.origin q c ≡ Some p → (attempt r.history p).add < (r.ledger.rows.fates q).born → IsPutting a → q ≡ l.row → c ≡ l.cell → ⊥
  not_own q c p e d y f g =
      let m : IsPutting l.activity = subst IsPutting (sym h.activity) y in
      let own = i.puts.owns s l h.knows m in
      let same : p ≡ (r.seats s).own = same_Some p (r.seats s).own (sym (rw (f, g) at e) ∙ own_origin i.puts s l h.knows m) in
      let born : (r.ledger.rows.fates q).born ≤ (attempt r.history (r.seats s).own).add = subst (λ n. (r.ledger.rows.fates n).born ≤ (attempt r.history (r.seats s).own).add) (own.row ∙ sym f) (i.puts.present s l h.knows m).born in
      omega (arith, d, born, ap (λ n. (attempt r.history n).add) same)

  -- a copy stays one
  copy_keeps : (q c p : ℕ) → WasLinked r.ledger.rows q → c < z.cells → r.origin q c ≡ Some p → IsCopyAt (word z r.world) r.ledger.rows r.history q c p → IsCopyAt (word z r'.world) r'.ledger.rows r'.history q c p
  copy_keeps q c p k o e x =
      let same = goes.attempts p x.within in
      let grows = goes.grows.old p x.within in
      let stamped = grows.stamped x.stamped in
      record {
        within = omega (arith, x.within, goes.more_attempts);
        earlier = omega (arith, x.earlier, same.add, (linked_keeps a h i.shape q k).born);
        stamped = stamped.0;
        before = omega (arith, x.before, stamped.3, (linked_keeps a h i.shape q k).born);
        key = ap key_of_word (linked_key a h i.shape q c k o (λ y f g. not_own q c p e x.earlier (key_puts a y).0 f g)) ∙ x.key ∙ sym same.key;
        value = ap value_of_word (linked_value a h i.shape q c k o (λ y f g. not_own q c p e x.earlier (value_puts a y).0 f g)) ∙ x.value ∙ sym same.value;
        version = linked_version a h i.shape q c k o (λ y f g. not_own q c p e x.earlier (version_puts a y) f g) ∙ x.version ∙ sym stamped.1;
      }

  -- what was known of the cells of the row before the event is known after it; a row that is linked
  -- now is none of these
  module _ (q : ℕ) (k : WasLinked r.ledger.rows q) where
    -- a cell is that of an attempt, or a copy
    owner_keeps : WasLinked r'.ledger.rows q → (c p : ℕ) → c < z.cells → r'.origin q c ≡ Some p → HasCell r'.ledger.rows r'.history q c p ⊎ IsCopyAt (word z r'.world) r'.ledger.rows r'.history q c p
    owner_keeps k' c p o e = which (origin_was a h i.shape q c k)
      where
        stays : r.origin q c ≡ Some p → HasCell r.ledger.rows r.history q c p ⊎ IsCopyAt (word z r.world) r.ledger.rows r.history q c p → HasCell r'.ledger.rows r'.history q c p ⊎ IsCopyAt (word z r'.world) r'.ledger.rows r'.history q c p
        stays x (inl w) =
            let same = goes.attempts p w.within in
            inl (record { within = omega (arith, w.within, goes.more_attempts); row = same.row ∙ w.row; cell = same.cell ∙ w.cell; linked = k'; born = omega (arith, w.born, same.add, (linked_keeps a h i.shape q k).born) })
        stays x (inr w) = inr (copy_keeps q c p k o x w)

        which : (r'.origin q c ≡ r.origin q c) ⊎ IsGiving z r l a × (q ≡ l.row) × (c ≡ given_in (word z r.world) l.row) × (r'.origin q c ≡ Some (length r.history.attempts)) → HasCell r'.ledger.rows r'.history q c p ⊎ IsCopyAt (word z r'.world) r'.ledger.rows r'.history q c p
        which (inl x) = stays (sym x ∙ e) (i.puts.places.owner q c p k o (sym x ∙ e))
        which (inr x) = inl (fresh_cell q c p k k' x.0 x.1 x.2 (same_Some p (length r.history.attempts) (sym e ∙ x.3)))

    -- a frozen row stays frozen
    freeze_lasts : IsFrozen (word z r.world) q → IsFrozen (word z r'.world) q
    freeze_lasts f = stays_frozen a h i.shape q k f

    -- a cell that is given has an origin, or its row is frozen
    place_keeps : (c : ℕ) → c < z.cells → c < given_in (word z r'.world) q → ((p : ℕ) × (r'.origin q c ≡ Some p)) ⊎ IsFrozen (word z r'.world) q
    place_keeps c o g = which (cases_lt c (given_in (word z r.world) q)) (given_was a h i.shape q k)
      where
        stays : ((p : ℕ) × (r.origin q c ≡ Some p)) ⊎ IsFrozen (word z r.world) q → ((p : ℕ) × (r'.origin q c ≡ Some p)) ⊎ IsFrozen (word z r'.world) q
        stays (inl was) = inl (was.0, goes.origin q c was.0 k was.1)
        stays (inr f) = inr (freeze_lasts f)

        -- the row is asked for the cell: it gives it, or is frozen
        asked : a ≡ Activity.Put Put.Add → q ≡ l.row → c ≡ given_in (word z r.world) l.row → (b : Bool) → has_room z (count_of (word z r.world (name.Count l.row))) ≡ b → ((p : ℕ) × (r'.origin q c ≡ Some p)) ⊎ IsFrozen (word z r'.world) q
        asked e f u true m = inl (length r.history.attempts, rw (f, u) (origin_new (subst (λ k. Happens z r r' s choice l l' k) e h) m))
        asked e f u false m =
            let below = (i.shape.sane.locals s l h.knows).below.row in
            let less : given_in (word z r.world) l.row < z.cells = omega (arith, u, o) in
            inr (freeze_lasts (rw f (no_room_frozen z (count_of (word z r.world (name.Count l.row))) (i.shape.sane.each (name.Count l.row) below) m less)))

        which : (c < given_in (word z r.world) q) ⊎ (given_in (word z r.world) q ≤ c) → (given_in (word z r'.world) q ≡ given_in (word z r.world) q) ⊎ (a ≡ Activity.Put Put.Add) × (q ≡ l.row) → ((p : ℕ) × (r'.origin q c ≡ Some p)) ⊎ IsFrozen (word z r'.world) q
        which (inl x) y = stays (i.puts.places.given q c k o x)
        which (inr x) (inl y) = absurd (omega (arith, x, g, y))
        which (inr x) (inr y) =
            let more = taken_given y.0 in
            let f : given_in (word z r.world) l.row ≤ c = rw y.1 at x in
            let n : c < given_in (word z r'.world) l.row = rw y.1 at g in
            asked y.0 y.1 (omega (arith, f, n, more)) _ refl

    -- a cell that is not given is nobody's
    nobody_keeps : (c : ℕ) → c < z.cells → given_in (word z r'.world) q ≤ c → r'.origin q c ≡ None
    nobody_keeps c o g = which (origin_was a h i.shape q c k)
      where
        which : (r'.origin q c ≡ r.origin q c) ⊎ IsGiving z r l a × (q ≡ l.row) × (c ≡ given_in (word z r.world) l.row) × (r'.origin q c ≡ Some (length r.history.attempts)) → r'.origin q c ≡ None
        which (inl x) = x ∙ i.puts.places.nobody q c k o (omega (arith, g, grows q k))
        which (inr x) =
            let f : given_in (word z r'.world) l.row ≤ given_in (word z r.world) l.row = rw (x.1, x.2) at g in
            absurd (omega (arith, f, taken_given x.0.takes))

    -- what is nobody's was so
    nobody_was : (c : ℕ) → r'.origin q c ≡ None → r.origin q c ≡ None
    nobody_was c e = by (r.origin q c) refl
      where
        by : (x : Option ℕ) → r.origin q c ≡ x → r.origin q c ≡ None
        by (Some p) f = let y : Some p ≡ None = sym (goes.origin q c p k f) ∙ e in absurd (cc)
        by None f = f

    -- and has no version
    unstored_keeps : (c : ℕ) → c < z.cells → r'.origin q c ≡ None → word z r'.world (name.Version q c) ≡ 0
    unstored_keeps c o n = linked_version a h i.shape q c k o (λ x e f. stores x e f) ∙ i.puts.places.unstored q c k o (nobody_was c n)
      where
        stores : IsPutVersion a → q ≡ l.row → c ≡ l.cell → ⊥
        stores x e f =
            let origin = own_origin i.puts s l h.knows (subst IsPutting (sym h.activity) (version_puts a x)) in
            let none : r.origin l.row l.cell ≡ None = rw (e, f) at (nobody_was c n) in
            let y : Some (r.seats s).own ≡ None = sym origin ∙ none in cc

    -- a copy was one before the event: a cell that is given now is its attempt's own
    pub copy_was : (c p : ℕ) → c < z.cells → r'.origin q c ≡ Some p → (attempt r'.history p).add < (r'.ledger.rows.fates q).born → (r.origin q c ≡ Some p) × (p < length r.history.attempts) × ((attempt r.history p).add < (r.ledger.rows.fates q).born)
    copy_was c p o e d = which (origin_was a h i.shape q c k)
      where
        which : (r'.origin q c ≡ r.origin q c) ⊎ IsGiving z r l a × (q ≡ l.row) × (c ≡ given_in (word z r.world) l.row) × (r'.origin q c ≡ Some (length r.history.attempts)) → (r.origin q c ≡ Some p) × (p < length r.history.attempts) × ((attempt r.history p).add < (r.ledger.rows.fates q).born)
        which (inl x) =
            let was = sym x ∙ e in
            let w = cell_within i.puts q c p (i.puts.places.owner q c p k o was) in
            (was, w, omega (arith, d, (goes.attempts p w).add, (linked_keeps a h i.shape q k).born))
        which (inr x) = absurd (omega (arith, d, fresh_born q p k x.0 (same_Some p (length r.history.attempts) (sym e ∙ x.3))))

    -- the copies stand before the own cells
    above_keeps : (c d p p' : ℕ) → c < z.cells → d < z.cells → r'.origin q c ≡ Some p → (attempt r'.history p).add < (r'.ledger.rows.fates q).born → r'.origin q d ≡ Some p' → (r'.ledger.rows.fates q).born ≤ (attempt r'.history p').add → c < d
    above_keeps c d p p' o u e n f m = which (origin_was a h i.shape q d k)
      where
        was : (r.origin q c ≡ Some p) × (p < length r.history.attempts) × ((attempt r.history p).add < (r.ledger.rows.fates q).born)
        was = copy_was c p o e n

        -- a copy is a cell that was given
        copied : c < given_in (word z r.world) q
        copied = by (cases_lt c (given_in (word z r.world) q))
          where
            by : (c < given_in (word z r.world) q) ⊎ (given_in (word z r.world) q ≤ c) → c < given_in (word z r.world) q
            by (inl x) = x
            by (inr x) = let y : None ≡ Some p = sym (i.puts.places.nobody q c k o x) ∙ was.0 in absurd (cc)

        which : (r'.origin q d ≡ r.origin q d) ⊎ IsGiving z r l a × (q ≡ l.row) × (d ≡ given_in (word z r.world) l.row) × (r'.origin q d ≡ Some (length r.history.attempts)) → c < d
        which (inl x) =
            let g = sym x ∙ f in
            let w = cell_within i.puts q d p' (i.puts.places.owner q d p' k u g) in
            i.puts.places.above q c d p p' k o u was.0 was.2 g (omega (arith, m, (goes.attempts p' w).add, (linked_keeps a h i.shape q k).born))
        which (inr x) = let y : d ≡ given_in (word z r.world) q = rw x.1 x.2 in omega (arith, copied, y)

    -- and rise
    rank_keeps : (c d p p' : ℕ) → c < d → d < z.cells → r'.origin q c ≡ Some p → (attempt r'.history p).add < (r'.ledger.rows.fates q).born → r'.origin q d ≡ Some p' → (attempt r'.history p').add < (r'.ledger.rows.fates q).born → RisesTo r'.history p p'
    rank_keeps c d p p' b u e n f m =
        let x = copy_was c p (omega (arith, b, u)) e n in
        let y = copy_was d p' u f m in
        rise x.1 (stamped_copy x (i.puts.places.owner q c p k (omega (arith, b, u)) x.0)) y.1 (stamped_copy y (i.puts.places.owner q d p' k u y.0)) (i.puts.places.rank q c d p p' k b u x.0 x.2 y.0 y.2)
      where
        stamped_copy : {c p : ℕ} → (r.origin q c ≡ Some p) × (p < length r.history.attempts) × ((attempt r.history p).add < (r.ledger.rows.fates q).born) → HasCell r.ledger.rows r.history q c p ⊎ IsCopyAt (word z r.world) r.ledger.rows r.history q c p → (attempt r.history p).is_stamped ≡ true
        stamped_copy x (inl w) = absurd (omega (arith, x.2, w.born))
        stamped_copy x (inr w) = w.stamped

        rise : p < length r.history.attempts → (attempt r.history p).is_stamped ≡ true → p' < length r.history.attempts → (attempt r.history p').is_stamped ≡ true → RisesTo r.history p p' → RisesTo r'.history p p'
        rise w s w' s' (inl g) = inl (omega (arith, g, (goes.attempts p w).key, (goes.attempts p' w').key))
        rise w s w' s' (inr g) = inr ((goes.attempts p w).key ∙ g.0 ∙ sym (goes.attempts p' w').key, omega (arith, g.1, ((goes.grows.old p w).stamped s).1, ((goes.grows.old p' w').stamped s').1))

    -- all of it
    pub places_at : WasLinked r'.ledger.rows q → PlacesAt z (word z r'.world) r'.ledger.rows r'.history r'.origin q
    places_at k' = record { owner = owner_keeps k'; given = place_keeps; nobody = nobody_keeps; unstored = unstored_keeps; above = above_keeps; rank = rank_keeps }

-- whose the cells are of each row that is or was linked: of one that was before the event, and of
-- one that the event links
pub places_keep : (z : Sizes) (r r' : Run) (s : ℕ) (choice : Choice) (l : Local) (a : Activity) (l' : Local) → Happens z r r' s choice l l' a → Below z r → Step r.history r'.history (log_entry z r a s choice l) → Places z (word z r'.world) r'.ledger.rows r'.history r'.origin
places_keep z r r' s choice l a l' h i st = record {
  owner = λ q c p k o e. (at q k).owner c p o e;
  given = λ q c k o g. (at q k).given c o g;
  nobody = λ q c k o g. (at q k).nobody c o g;
  unstored = λ q c k o e. (at q k).unstored c o e;
  above = λ q c d p p' k o u e n f m. (at q k).above c d p p' o u e n f m;
  rank = λ q c d p p' k b u e n f m. (at q k).rank c d p p' b u e n f m;
}
  where
    at : (q : ℕ) → WasLinked r'.ledger.rows q → PlacesAt z (word z r'.world) r'.ledger.rows r'.history r'.origin q
    at q k = which (was_or_not r.ledger.rows q)
      where
        which : WasLinked r.ledger.rows q ⊎ (WasLinked r.ledger.rows q → ⊥) → PlacesAt z (word z r'.world) r'.ledger.rows r'.history r'.origin q
        which (inl w) = places_at z r r' s choice l a l' h i st q w k
        which (inr n) = new_places z r r' s choice l a l' h i st q k n

-- of two attempts of one row, which was not used again, the later one has the greater cell
pub rises_keep : (z : Sizes) (r r' : Run) (s : ℕ) (choice : Choice) (l : Local) (a : Activity) (l' : Local) → Arrow z (word z r.world) s choice l a l' → Happens z r r' s choice l l' a → Below z r → Step r.history r'.history (log_entry z r a s choice l) → Rises r'.ledger.rows r'.history
rises_keep z r r' s choice l a l' b h i st p q o w e x = which (attempt_was a h q w)
  where
    y : GoesOn r.history r'.history r.origin r'.origin r.ledger.rows
    y = goes_on_by z r r' s choice l a l' h i st

    which : (q < length r.history.attempts) ⊎ IsNew z r r' s l a q → (attempt r'.history p).cell < (attempt r'.history q).cell
    which (inl u) =
        let w : p < length r.history.attempts = omega (arith, o, u) in
        let f = y.attempts p w in
        let g = y.attempts q u in
        omega (arith, f.cell, g.cell, i.puts.rises p q o u (sym f.row ∙ e ∙ g.row) (here_was a h i st p w x))
    which (inr n) =
        let u : p < length r.history.attempts = omega (arith, o, n.place) in
        let f = y.attempts p u in
        let row : (attempt r.history p).row ≡ l.row = sym f.row ∙ e ∙ ap (λ x. x.row) n.is in
        omega (arith, f.cell, ap (λ x. x.cell) n.is, subst (λ x. (attempt r.history p).cell < given_in (word z r.world) x) row (i.puts.given p u (here_was a h i st p u x)).given)

-- The words of a cell.

-- an attempt whose row was not used again has its cell
has_own : (r : Run) (p : ℕ) → p < length r.history.attempts → IsHere r.ledger.rows r.history p → HasCell r.ledger.rows r.history (attempt r.history p).row (attempt r.history p).cell p
has_own r p w x = record { within = w; row = refl; cell = refl; linked = x.linked; born = x.born }

module _ (z : Sizes) (r r' : Run) (s : ℕ) (choice : Choice) (l : Local) (a : Activity) (l' : Local) (h : Happens z r r' s choice l l' a) (i : Below z r) (p : ℕ) (w : p < length r.history.attempts) (x : IsHere r.ledger.rows r.history p) where
  -- the acting seat's cell is not that of an announced attempt
  fresh_apart : IsPutting a × IsFresh a → (attempt r.history p).is_announced ≡ true → (attempt r.history p).row ≡ l.row → (attempt r.history p).cell ≡ l.cell → ⊥
  fresh_apart n y e f =
      let m : IsPutting l.activity = subst IsPutting (sym h.activity) n.0 in
      true_false (subst (λ q. (attempt r.history q).is_announced ≡ true) (is_own i.puts s l h.knows m p (rw (e, f) at (has_own r p w x))) y) ((i.puts.owns s l h.knows m).unannounced (subst IsFresh (sym h.activity) n.1))

  -- the key and the value that stand in the cell of an announced attempt
  body_key : (attempt r.history p).is_announced ≡ true → key_in (word z r'.world) (attempt r.history p).row (attempt r.history p).cell ≡ (attempt r.history p).key
  body_key y = ap key_of_word (linked_key a h i.shape (attempt r.history p).row (attempt r.history p).cell x.linked (i.puts.placed p w).cell (λ n e f. fresh_apart (key_puts a n) y e f)) ∙ (i.puts.body p w x).key y

  body_value : (attempt r.history p).is_announced ≡ true → value_in (word z r'.world) (attempt r.history p).row (attempt r.history p).cell ≡ (attempt r.history p).value
  body_value y = ap value_of_word (linked_value a h i.shape (attempt r.history p).row (attempt r.history p).cell x.linked (i.puts.placed p w).cell (λ n e f. fresh_apart (value_puts a n) y e f)) ∙ (i.puts.body p w x).value y

-- and in the cell of the attempt that is announced now
module _ (z : Sizes) (r r' : Run) (s : ℕ) (choice : Choice) (l : Local) (l' : Local) (h : Happens z r r' s choice l l' (Activity.Put Put.Announce)) (i : Below z r) where
  own : OwnsAttempt (word z r.world) r.history s l.activity l (r.seats s)
  own = acting_own z r r' s choice l (Activity.Put Put.Announce) l' h i tt

  announced_key : key_in (word z r'.world) (attempt r.history (r.seats s).own).row (attempt r.history (r.seats s).own).cell ≡ (attempt r.history (r.seats s).own).key
  announced_key =
      let k = i.shape.sane.locals s l h.knows in
      rw (own.row, own.cell) (ap key_of_word (key_stays (Activity.Put Put.Announce) h l.row l.cell k.below.row k.ranges.cell (λ x. x)) ∙ own.has_key (subst HasKey (sym h.activity) tt))

  announced_value : value_in (word z r'.world) (attempt r.history (r.seats s).own).row (attempt r.history (r.seats s).own).cell ≡ (attempt r.history (r.seats s).own).value
  announced_value =
      let k = i.shape.sane.locals s l h.knows in
      rw (own.row, own.cell) (ap value_of_word (value_stays (Activity.Put Put.Announce) h l.row l.cell k.below.row k.ranges.cell (λ x. x)) ∙ own.has_value (subst IsAnnounce (sym h.activity) tt))

-- a version that is stored is that of the seat's own attempt, which is stamped
stored_now : (z : Sizes) (r r' : Run) (s : ℕ) (choice : Choice) (l : Local) (a : Activity) (l' : Local) → Happens z r r' s choice l l' a → Below z r → (p : ℕ) → p < length r.history.attempts → IsHere r.ledger.rows r.history p → word z r.world (name.Version (attempt r.history p).row (attempt r.history p).cell) ≡ 0 → word z r'.world (name.Version (attempt r.history p).row (attempt r.history p).cell) ≢ 0 →
    ((attempt r.history p).is_stamped ≡ true) × (word z r'.world (name.Version (attempt r.history p).row (attempt r.history p).cell) ≡ (attempt r.history p).version)
stored_now z r r' s choice l (Activity.Put Put.Version) l' h i p w x e n = which (cases_eq (attempt r.history p).row l.row) (cases_eq (attempt r.history p).cell l.cell)
  where
    own : OwnsAttempt (word z r.world) r.history s l.activity l (r.seats s)
    own = acting_own z r r' s choice l (Activity.Put Put.Version) l' h i tt

    which : ((attempt r.history p).row ≡ l.row) ⊎ ((attempt r.history p).row ≡ l.row → ⊥) → ((attempt r.history p).cell ≡ l.cell) ⊎ ((attempt r.history p).cell ≡ l.cell → ⊥) → ((attempt r.history p).is_stamped ≡ true) × (word z r'.world (name.Version (attempt r.history p).row (attempt r.history p).cell) ≡ (attempt r.history p).version)
    which (inl f) (inl g) =
        let same : p ≡ (r.seats s).own = is_own i.puts s l h.knows (subst IsPutting (sym h.activity) tt) p (rw (f, g) at (has_own r p w x)) in (
          subst (λ q. (attempt r.history q).is_stamped ≡ true) (sym same) (own.stamped (subst IsStamped (sym h.activity) tt)),
          rw (f, g) (h.changed.same ∙ sym (own.version (subst IsStamped (sym h.activity) tt)) ∙ ap (λ q. (attempt r.history q).version) (sym same)),
        )
    which (inr d) g = absurd (n (linked_version (Activity.Put Put.Version) h i.shape (attempt r.history p).row (attempt r.history p).cell x.linked (i.puts.placed p w).cell (λ m f j. d f) ∙ e))
    which (inl f) (inr d) = absurd (n (linked_version (Activity.Put Put.Version) h i.shape (attempt r.history p).row (attempt r.history p).cell x.linked (i.puts.placed p w).cell (λ m j g. d g) ∙ e))
stored_now z r r' s choice l a l' h i p w x e n = absurd (n (linked_version a h i.shape (attempt r.history p).row (attempt r.history p).cell x.linked (i.puts.placed p w).cell (λ m f g. m) ∙ e))

-- a version that stands in a cell is that of its attempt, which is stamped
stored_keeps : (z : Sizes) (r r' : Run) (s : ℕ) (choice : Choice) (l : Local) (a : Activity) (l' : Local) → Happens z r r' s choice l l' a → Below z r → (p : ℕ) → p < length r.history.attempts → IsHere r.ledger.rows r.history p → word z r'.world (name.Version (attempt r.history p).row (attempt r.history p).cell) ≢ 0 →
    ((attempt r.history p).is_stamped ≡ true) × (word z r'.world (name.Version (attempt r.history p).row (attempt r.history p).cell) ≡ (attempt r.history p).version)
stored_keeps z r r' s choice l a l' h i p w x n = which (cases_eq (word z r.world (name.Version (attempt r.history p).row (attempt r.history p).cell)) 0)
  where
    which : (word z r.world (name.Version (attempt r.history p).row (attempt r.history p).cell) ≡ 0) ⊎ (word z r.world (name.Version (attempt r.history p).row (attempt r.history p).cell) ≡ 0 → ⊥) → ((attempt r.history p).is_stamped ≡ true) × (word z r'.world (name.Version (attempt r.history p).row (attempt r.history p).cell) ≡ (attempt r.history p).version)
    which (inl e) = stored_now z r r' s choice l a l' h i p w x e n
    which (inr d) =
        let b = i.puts.body p w x in
        (b.stamped d, rely_version z r r' s choice l a l' h i (attempt r.history p).row (attempt r.history p).cell x.linked (i.puts.placed p w).cell d ∙ b.version d)

-- the words of the cell of an attempt that was there, and whose row was not used again
body_stays : (z : Sizes) (r r' : Run) (s : ℕ) (choice : Choice) (l : Local) (a : Activity) (l' : Local) → Happens z r r' s choice l l' a → Below z r → Step r.history r'.history (log_entry z r a s choice l) → (p : ℕ) → p < length r.history.attempts → IsHere r.ledger.rows r.history p → HasBody (word z r'.world) r'.history p
body_stays z r r' s choice l a l' h i st p w u = record {
  key = λ x. rw (same.row, same.cell, same.key) (has_key (announced_was a h p w x));
  value = λ x. rw (same.row, same.cell, same.value) (has_value (announced_was a h p w x));
  stamped = λ n. (stamped (stored n).0).0;
  version = λ n. rw (same.row, same.cell) ((stored n).1 ∙ sym (stamped (stored n).0).1);
}
  where
    goes : GoesOn r.history r'.history r.origin r'.origin r.ledger.rows
    goes = goes_on_by z r r' s choice l a l' h i st

    same : SameAttempt r.history r'.history p
    same = goes.attempts p w

    has_key : ((attempt r.history p).is_announced ≡ true) ⊎ (a ≡ Activity.Put Put.Announce) × (p ≡ (r.seats s).own) → key_in (word z r'.world) (attempt r.history p).row (attempt r.history p).cell ≡ (attempt r.history p).key
    has_key (inl x) = body_key z r r' s choice l a l' h i p w u x
    has_key (inr x) = rw x.1 (announced_key z r r' s choice l l' (subst (λ k. Happens z r r' s choice l l' k) x.0 h) i)

    has_value : ((attempt r.history p).is_announced ≡ true) ⊎ (a ≡ Activity.Put Put.Announce) × (p ≡ (r.seats s).own) → value_in (word z r'.world) (attempt r.history p).row (attempt r.history p).cell ≡ (attempt r.history p).value
    has_value (inl x) = body_value z r r' s choice l a l' h i p w u x
    has_value (inr x) = rw x.1 (announced_value z r r' s choice l l' (subst (λ k. Happens z r r' s choice l l' k) x.0 h) i)

    stored : word z r'.world (name.Version (attempt r'.history p).row (attempt r'.history p).cell) ≢ 0 → ((attempt r.history p).is_stamped ≡ true) × (word z r'.world (name.Version (attempt r.history p).row (attempt r.history p).cell) ≡ (attempt r.history p).version)
    stored n = stored_keeps z r r' s choice l a l' h i p w u (rw (same.row, same.cell) at n)

    stamped : (attempt r.history p).is_stamped ≡ true → ((attempt r'.history p).is_stamped ≡ true) × ((attempt r'.history p).version ≡ (attempt r.history p).version)
    stamped x = let g = (goes.grows.old p w).stamped x in (g.0, g.1)

-- the words of an attempt's cell: an announcement, and a version that is stored
pub body_keeps : (z : Sizes) (r r' : Run) (s : ℕ) (choice : Choice) (l : Local) (a : Activity) (l' : Local) → Arrow z (word z r.world) s choice l a l' → Happens z r r' s choice l l' a → Below z r → Step r.history r'.history (log_entry z r a s choice l) → (p : ℕ) → p < length r'.history.attempts → IsHere r'.ledger.rows r'.history p → HasBody (word z r'.world) r'.history p
body_keeps z r r' s choice l a l' b h i st p o u = which (attempt_was a h p o)
  where
    -- no version stands in the cell that is given
    unstored : IsNew z r r' s l a p → word z r'.world (name.Version (attempt r'.history p).row (attempt r'.history p).cell) ≡ 0
    unstored n =
        let taking = subst (λ x. Happens z r r' s choice l l' x) n.gives.takes h in
        let linked = row_linked z r i.shape s l h.knows (subst IsAtRow (sym taking.activity) tt) in
        let cell = room_below z (count_of (word z r.world (name.Count l.row))) n.gives.room in
        subst (λ (x : Attempt). word z r'.world (name.Version x.row x.cell) ≡ 0) (sym n.is)
        (linked_version (Activity.Put Put.Add) taking i.shape l.row (given_in (word z r.world) l.row) linked cell (λ x e f. x) ∙ i.puts.places.unstored l.row (given_in (word z r.world) l.row) linked cell (i.puts.places.nobody l.row (given_in (word z r.world) l.row) linked cell (omega arith)))

    which : (p < length r.history.attempts) ⊎ IsNew z r r' s l a p → HasBody (word z r'.world) r'.history p
    which (inl w) = body_stays z r r' s choice l a l' h i st p w (here_was a h i st p w u)
    which (inr n) = record {
      key = λ x. true_false x (ap (λ k. k.is_announced) n.is);
      value = λ x. true_false x (ap (λ k. k.is_announced) n.is);
      stamped = λ x. absurd (x (unstored n));
      version = λ x. absurd (x (unstored n));
    }
