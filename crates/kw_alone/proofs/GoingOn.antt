-- A row that is to go after an event was to go before, if it was in the list then: no event makes
-- it one, but that by which the seat engages it.
use Rattle.std.proofs.Common.{ℕ, ◌≡◌, ◌⊎◌, inl, inr, ◌≤◌, nat_lt, Bool, true, false, if◌then◌else◌, Option, Some, None, arith, refl, sym, ◌∙◌, ap, subst}
use Rattle.std.proofs.lemmas.Bool.{cases_Bool, cases_eq}
use Rattle.std.proofs.lemmas.Bool.Decides.{nat_tests}
use Rattle.kw_words.specs.declared.count.Count.{Count}
use Rattle.kw_words.specs.declared.layout.Name.TheVariants as name
use Rattle.kw_words.specs.declared.pend.Pend.TheVariants as pend
use Rattle.kw_words.specs.Count.{count_of}
use Rattle.kw_words.specs.Pend.{pend_word}
use Rattle.kw_rows.specs.Ledger.{IsLive}
use Rattle.kw_rows.specs.RowState as row
use Rattle.kw_rows.specs.RowState.{IsDecided, IsEngaged}
use Rattle.kw_rows.specs.Rows.{HoldsKey}
use Rattle.kw_rows.proofs.Named.{one_row}
use Rattle.kw_world.specs.declared.activity.Activity.{Activity}
use Rattle.kw_world.specs.declared.activity.put.Put.TheVariants as Put
use Rattle.kw_world.specs.declared.activity.rebalance.Rebalance.TheVariants as Rebalance
use Rattle.kw_world.specs.declared.activity.rebalance.engage.Engage.TheVariants as Engage
use Rattle.kw_world.specs.declared.activity.rebalance.freeze.Freeze.TheVariants as Freeze
use Rattle.kw_world.specs.declared.event.Choice.{Choice}
use Rattle.kw_world.specs.declared.local.Local.{Local}
use Rattle.kw_world.specs.Calls.{first_key}
use Rattle.kw_world.specs.PutTransitions.{given_of, has_room}
use Rattle.kw_world.specs.Sane.{IsGiven}
use Rattle.kw_world.specs.Sizes.{Sizes}
use Rattle.kw_world.specs.Step.{word}
use Rattle.kw_core.specs.Run.{Run}
use Rattle.kw_core.specs.Stages.{IsStaying, IsUnderway}
use Rattle.kw_core.specs.Words.{Words, given_in}
use Rattle.kw_core.proofs.Arrows.{Arrow, builds, takes_cell, takes_full}
use Rattle.kw_core.proofs.Building.{IsBuilding}
use Rattle.kw_core.proofs.Happens.{Happens}
use Rattle.kw_puts.specs.Freezes.{IsFrozen}
use Rattle.kw_shape.specs.RowsIn.{has_frozen, rows_in}
use Rattle.kw_shape.specs.Shape.{Shape}
use Rattle.kw_shape.proofs.LinkedRows.{holds_put, linked_count_word, was_below}
use Rattle.kw_shape.proofs.NextCalls.{arrow_call}
use Rattle.kw_shape.proofs.RowsKeep.{freezing}
use Rattle.kw_laws.specs.Laws.{KeepsLaws}
use Rattle.kw_alone.specs.Wins.{asks, is_leading, is_unled}
use Rattle.kw_alone.proofs.Asking.{HasLostCell, asked_before, lost_frozen, no_cell}
use Rattle.kw_alone.proofs.Going.{IsToEngage, IsToGo, engaged_led}
use Rattle.kw_alone.proofs.GoingStays.{IsLead, StaysLive, still_holds, still_unled}

-- the seat asks its row for a cell
abbrev pub IsAdd : Activity → Type 0
IsAdd (Activity.Put Put.Add) = Unit {0}
IsAdd _ = ⊥

add_not_built : (a : Activity) → IsBuilding a → IsAdd a → ⊥
add_not_built (Activity.Rebalance _) y x = x
add_not_built _ y x = y

-- a decided group is one at which a rebalance is at work
decided_engaged : (s : row.State) → IsDecided s → IsEngaged s
decided_engaged (row.Leader m) x = tt
decided_engaged (row.Follower p) x = tt
decided_engaged row.Free x = x
decided_engaged (row.Infant seat) x = x
decided_engaged row.Normal x = x
decided_engaged (row.Retired m) x = x

-- the seat is about to make its row a leader, or is not
pub lead_or_not : (a : Activity) → IsLead a ⊎ (IsLead a → ⊥)
lead_or_not (Activity.Rebalance (Rebalance.Engage Engage.Lead)) = inl tt
lead_or_not (Activity.Rebalance (Rebalance.Engage _)) = inr (λ x. x)
lead_or_not (Activity.Rebalance _) = inr (λ x. x)
lead_or_not _ = inr (λ x. x)

-- a seat that is in its call is not about to leave
pub underway_stays : (a : Activity) → IsUnderway a → IsStaying a
underway_stays Activity.Idle u = absurd u
underway_stays (Activity.Leave answer) u = absurd u
underway_stays _ u = tt

-- a row that has no room, and is not frozen, has given all its cells
no_room_full : (z : Sizes) (frozen : Bool) (given : ℕ) → frozen ≡ false → (if frozen then false else nat_lt given z.cells) ≡ false → z.cells ≤ given
no_room_full z true given f e = absurd (cc)
no_room_full z false given f e = grind (arith, nat_tests)

-- a seat that asks for a cell, and asks again, found no room
room_by : (z : Sizes) (v : Words) (s : ℕ) (choice : Choice) (l : Local) (a : Activity) (k : Local) → Arrow z v s choice l a k → IsAdd a → asks k.activity k ≡ true → has_room z (count_of (v (name.Count l.row))) ≡ false
room_by z v s choice l a k (builds b m y t) x e = absurd (add_not_built b y x)
room_by z v s choice l a k (takes_cell f) x e = absurd (no_cell l.tidies e)
room_by z v s choice l a k (takes_full f) x e = f
room_by z v s choice l a k _ x e = absurd x

-- One world.

module _ (z : Sizes) (r : Run) (i : Shape z r) where
  -- a row of the list that is frozen is engaged
  frozen_led : (q : ℕ) → IsLive r.ledger.rows q → (rows_in (word z r.world)).frozen q ≡ true → is_unled ((rows_in (word z r.world)).state q) ≡ true → ⊥
  frozen_led q k f u = engaged_led ((rows_in (word z r.world)).state q) (decided_engaged _ ((i.rows.marks q).frozen k f).1) u

  -- one that nobody has engaged, and that has no room, has given all its cells
  full_by : (q : ℕ) → IsLive r.ledger.rows q → is_unled ((rows_in (word z r.world)).state q) ≡ true → has_room z (count_of (word z r.world (name.Count q))) ≡ false → z.cells ≤ given_in (word z r.world) q
  full_by q k u e = which (count_of (word z r.world (name.Count q))) refl (i.sane.each (name.Count q) (was_below z r i q (inl k))) e
    where
      given : (c : Count) → count_of (word z r.world (name.Count q)) ≡ Some c → (if c.frozen then false else nat_lt c.given z.cells) ≡ false → (c.frozen ≡ true) ⊎ (c.frozen ≡ false) → z.cells ≤ given_in (word z r.world) q
      given c f g (inl y) = absurd (frozen_led q k (ap has_frozen f ∙ y) u)
      given c f g (inr y) = omega (arith, no_room_full z c.frozen c.given y g, ap given_of f)

      which : (x : Option Count) → count_of (word z r.world (name.Count q)) ≡ x → IsGiven x → has_room z x ≡ false → z.cells ≤ given_in (word z r.world) q
      which (Some c) f y g = given c f g (cases_Bool c.frozen)
      which None f y g = absurd y

-- One event.

module _ {z : Sizes} {r r' : Run} {s : ℕ} {choice : Choice} {l l' : Local} where
  -- a row that is full now was full
  still_full : (a : Activity) → Happens z r r' s choice l l' a → Shape z r → (q : ℕ) → IsLive r.ledger.rows q → is_unled ((rows_in (word z r.world)).state q) ≡ true → asks l'.activity l' ≡ true → z.cells ≤ given_in (word z r'.world) q → z.cells ≤ given_in (word z r.world) q
  still_full (Activity.Put Put.Add) h i q k u e o = which (cases_eq q l.row)
    where
      which : (q ≡ l.row) ⊎ (q ≡ l.row → ⊥) → z.cells ≤ given_in (word z r.world) q
      which (inl c) = full_by z r i q k u (subst (λ x. has_room z (count_of (word z r.world (name.Count x))) ≡ false) (sym c) (room_by z (word z r.world) s choice l (Activity.Put Put.Add) l' h.arrow tt e))
      which (inr d) = omega (arith, o, ap (λ w. given_of (count_of w)) (linked_count_word (Activity.Put Put.Add) h i q (inl k) (λ x c. d c)))
  still_full (Activity.Rebalance (Rebalance.Freeze Freeze.Count)) h i q k u e o = which (cases_eq q l.rebalance.hand)
    where
      which : (q ≡ l.rebalance.hand) ⊎ (q ≡ l.rebalance.hand → ⊥) → z.cells ≤ given_in (word z r.world) q
      which (inl c) = absurd (engaged_led ((rows_in (word z r.world)).state q) (decided_engaged _ (subst (λ x. IsDecided ((rows_in (word z r.world)).state x)) (sym c) ((freezing h i).decided (subst (IsLive r.ledger.rows) c k)).1)) u)
      which (inr d) = omega (arith, o, ap (λ w. given_of (count_of w)) (linked_count_word (Activity.Rebalance (Rebalance.Freeze Freeze.Count)) h i q (inl k) (λ x c. d c)))
  still_full a h i q k u e o = omega (arith, o, ap (λ w. given_of (count_of w)) (linked_count_word a h i q (inl k) (λ x c. x)))

  -- a row whose entry of the seat is frozen is engaged, where the seat has lost its cell
  lost_led : (a : Activity) → Happens z r r' s choice l l' a → Shape z r → KeepsLaws z r → (IsLive r.ledger.rows l.row → word z r.world (name.Pend l.row s) ≡ pend_word pend.Frozen → IsFrozen (word z r.world) l.row) → HasLostCell (word z r.world) s a l → IsLive r.ledger.rows l.row → is_unled ((rows_in (word z r.world)).state l.row) ≡ true → ⊥
  lost_led a h i k frozen x live u = frozen_led z r i l.row live (frozen live (lost_frozen a h k x)) u

  -- where it has lost it, the row holds the key of its call, and is in the list
  lost_holds : (a : Activity) → Happens z r r' s choice l l' a → Shape z r → HasLostCell (word z r.world) s a l → HoldsKey (rows_in (word z r.world)) r.ledger.rows l.row (first_key l.call)
  lost_holds (Activity.Put Put.Announce) h i x = holds_put z r s l (Activity.Put Put.Announce) i h.knows h.activity tt tt (λ y. y)
  lost_holds (Activity.Put Put.Stamp) h i x = holds_put z r s l (Activity.Put Put.Stamp) i h.knows h.activity tt tt (λ y. y)
  lost_holds a h i x = absurd x

  -- the row that the seat may yet engage is one that it might
  engage_was : (a : Activity) → Happens z r r' s choice l l' a → Shape z r → KeepsLaws z r → (IsLive r.ledger.rows l.row → word z r.world (name.Pend l.row s) ≡ pend_word pend.Frozen → IsFrozen (word z r.world) l.row) → (HasLostCell (word z r.world) s a l → IsLive r.ledger.rows l.row) → IsUnderway a → IsStaying l'.activity → (q : ℕ) → IsLive r.ledger.rows q →
      asks l'.activity l' ≡ true → IsToEngage z (word z r'.world) r'.ledger.rows (first_key l'.call) q → (asks a l ≡ true) × IsToEngage z (word z r.world) r.ledger.rows (first_key l.call) q
  engage_was a h i k frozen live st st' q c e t = which (asked_before a h i (underway_stays a st) st' e)
    where
      unled : is_unled ((rows_in (word z r.world)).state q) ≡ true
      unled = still_unled a h i q c t.unled

      holds : HoldsKey (rows_in (word z r.world)) r.ledger.rows q (first_key l.call)
      holds = subst (λ x. HoldsKey (rows_in (word z r.world)) r.ledger.rows q (first_key x)) (arrow_call z (word z r.world) s choice l a l' h.arrow st).0 (still_holds a h i q (first_key l'.call) c t.holds)

      which : (asks a l ≡ true) ⊎ HasLostCell (word z r.world) s a l → (asks a l ≡ true) × IsToEngage z (word z r.world) r.ledger.rows (first_key l.call) q
      which (inl d) = (d, record { unled = unled; full = still_full a h i q c unled e t.full; holds = holds })
      which (inr x) =
          let same : q ≡ l.row = one_row (rows_in (word z r.world)) r.ledger.rows i.rows.closed q l.row (first_key l.call) i.rows.chain c (live x) holds (lost_holds a h i x) in
          absurd (lost_led a h i k frozen x (live x) (subst (λ y. is_unled ((rows_in (word z r.world)).state y) ≡ true) same unled))

  -- a row that is to go was to go, if it was in the list, and led where it leads
  pub going_was : (a : Activity) → Happens z r r' s choice l l' a → Shape z r → KeepsLaws z r → (IsLive r.ledger.rows l.row → word z r.world (name.Pend l.row s) ≡ pend_word pend.Frozen → IsFrozen (word z r.world) l.row) → (HasLostCell (word z r.world) s a l → IsLive r.ledger.rows l.row) → IsUnderway a → IsStaying l'.activity → (q : ℕ) → StaysLive r.ledger.rows r'.ledger.rows q → (is_leading ((rows_in (word z r'.world)).state q) ≡ true → is_leading ((rows_in (word z r.world)).state q) ≡ true) →
      IsToGo z (word z r'.world) r'.ledger.rows l'.activity l' q → IsToGo z (word z r.world) r.ledger.rows a l q
  going_was a h i k frozen live st st' q c leads t = (c.live, which t.1)
    where
      which : (is_leading ((rows_in (word z r'.world)).state q) ≡ true) ⊎ (asks l'.activity l' ≡ true) × IsToEngage z (word z r'.world) r'.ledger.rows (first_key l'.call) q → (is_leading ((rows_in (word z r.world)).state q) ≡ true) ⊎ (asks a l ≡ true) × IsToEngage z (word z r.world) r.ledger.rows (first_key l.call) q
      which (inl e) = inl (leads e)
      which (inr (e, t)) = inr (engage_was a h i k frozen live st st' q c.live e t)
