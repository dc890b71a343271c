-- Every event of another seat is one that a seat may rely on.
use Rattle.std.proofs.Common.{ℕ, ◌≡◌, ◌≢◌, ◌⊎◌, inl, inr, ◌<◌, Bool, true, false, Option, Some, None, arith, refl, sym, ◌∙◌, ap, subst, length, slice_get, ne_eqb, eq-eqb}
use Rattle.kw_words.specs.declared.layout.Name.TheVariants as name
use Rattle.kw_world.specs.declared.activity.Activity.{Activity}
use Rattle.kw_world.specs.declared.activity.draw.Draw.TheVariants as Draw
use Rattle.kw_world.specs.declared.activity.rebalance.freeze.Freeze.TheVariants as Freeze
use Rattle.kw_world.specs.declared.activity.insert.Insert.TheVariants as Insert
use Rattle.kw_world.specs.declared.activity.look.Look.TheVariants as Look
use Rattle.kw_world.specs.declared.activity.put.Put.TheVariants as Put
use Rattle.kw_world.specs.declared.activity.rebalance.Rebalance.TheVariants as Rebalance
use Rattle.kw_world.specs.declared.activity.rebalance.replace.Replace.TheVariants as Replace
use Rattle.kw_world.specs.declared.activity.rebalance.seek.Seek.TheVariants as Seek
use Rattle.kw_world.specs.declared.activity.rebalance.write.Write.TheVariants as Write
use Rattle.kw_world.specs.declared.activity.rebalance.engage.Engage.TheVariants as Engage
use Rattle.kw_world.specs.declared.activity.enter.Enter.TheVariants as Enter
use Rattle.kw_world.specs.declared.activity.rebalance.gather.Gather.TheVariants as Gather
use Rattle.kw_world.specs.declared.activity.read.Read.TheVariants as Read
use Rattle.kw_world.specs.declared.activity.walk.Walk.TheVariants as Walk
use Rattle.kw_world.specs.declared.local.Local.{Local}
use Rattle.kw_world.specs.declared.event.Choice.{Choice}
use Rattle.kw_world.specs.Sizes.{Sizes}
use Rattle.std.proofs.lemmas.Option.{slice_get_within, same_Some}
use Rattle.std.proofs.Common.{◌==◌, if◌then◌else◌}
use Rattle.std.proofs.lemmas.Bool.{cases_eq}
use Rattle.kw_words.specs.Count.{count_of}
use Rattle.kw_words.specs.Plain.{key_of_word, cell_of_link_word}
use Rattle.kw_world.specs.declared.answer.Answer.{Answer}
use Rattle.kw_world.specs.PutTransitions.{has_room}
use Rattle.kw_world.specs.Sane.{IsLocal, IsKnown}
use Rattle.kw_core.specs.Step.{AttemptStep, as_it_was, is_added, is_announced, is_lost, is_stamped}
use Rattle.kw_core.specs.Run.{with_origin, with_settled}
use Rattle.kw_core.specs.Stages.{IsAtRow, IsBusy, IsFresh, IsStamped, IsPutVersion, IsUnlisted, IsInsSet, IsInsert}
use Rattle.kw_lists.specs.Rows.{IsOn}
use Rattle.kw_lists.specs.Puts.{LeavesOwn}
use Rattle.kw_puts.specs.Lists.{list_in}
use Rattle.kw_puts.proofs.ListSteps.{leaves, list_step, listed_was, is_set}
use Rattle.kw_puts.specs.Puts.{OwnsAttempt}
use Rattle.kw_puts.specs.Positions.{Calling, Helping}
use Rattle.kw_core.proofs.Steps.{stands_lasts, now_grows, old_call, step_grows}
use Rattle.kw_core.proofs.Happens.{exchanged, not_exchanged}
use Rattle.kw_core.proofs.Copies.{ChangesListed, ChangesOrigin, listed_stays, origin_stays}
use Rattle.kw_core.proofs.Frame.{WritesKey, WritesValue}
use Rattle.kw_core.proofs.FreezeFrame.{clock_never_falls, SettlesScan, scan_stays as scan_word_stays}
use Rattle.kw_core.proofs.RoomBelow.{room_below}
use Rattle.kw_rows.specs.Rows.{WasLinked}
use Rattle.kw_shape.proofs.InfantsRely.{linked_not_infant}
use Rattle.kw_shape.proofs.RowsKeep.{others_kept, rely_rows}
use Rattle.kw_shape.specs.Infants.{HasAtHand, IsInfantOf, nursing_of}
use Rattle.kw_shape.specs.RowsIn.{has_frozen}
use Rattle.kw_shape.proofs.LinkedRows.{hand_infant, linked_given, linked_key, linked_link, linked_value, linked_version, not_hand}
use Rattle.kw_puts.proofs.Owners.{true_false, cells_apart, puts_linked, row_linked}
use Rattle.kw_core.proofs.Changes.{made}
use Rattle.kw_puts.proofs.RelyEntry.{change_apart, entry_apart, entry_helped, entry_freezes}
use Rattle.kw_core.proofs.Happens.{log_entry}
use Rattle.kw_puts.proofs.Rely.{SameAttempt}
use Rattle.kw_world.specs.Step.{word}
use Rattle.kw_core.specs.History.{History, attempt}
use Rattle.kw_core.specs.Run.{Run, Origins}
use Rattle.kw_core.specs.Stages.{IsPutting}
use Rattle.kw_puts.specs.Below.{Below}
use Rattle.kw_core.specs.Step.{Step}
use Rattle.kw_core.proofs.Happens.{Happens}
use Rattle.kw_puts.proofs.Rely.{RelyWords, RelyScan, scan_stays, is_settled, RelyCells, RelyLists, GoesOn, RelyHistory, RelyEntry, Rely}
use Rattle.kw_core.specs.Ledger.{Ledger, fate_free, fate_taken, with_fate, with_replaced}
use Rattle.kw_core.specs.Words.{given_in}
use Rattle.kw_words.specs.declared.count.Count.{Count as Counted}
use Rattle.kw_words.specs.declared.state.State.TheVariants.{Free, Retired}
use Rattle.kw_words.specs.Link.{link_word}
use Rattle.kw_words.specs.State.{state_word}
use Rattle.kw_world.specs.ReplaceTransitions.{replaced_link}
use Rattle.kw_world.specs.SeekTransitions.{infant}
use Rattle.kw_world.specs.WriteTransitions.{unmarked_link}
use Rattle.kw_puts.specs.Freezes.{IsFrozen}
use Rattle.kw_words.specs.declared.scan.ScanWord.TheVariants.{Waiting}
use Rattle.kw_words.specs.Scan.{scan_word}
use Rattle.kw_words.specs.declared.kind.Kind.TheVariants as kind

-- The words.

-- a seat that stores a key, a value or a version has a cell
pub key_puts : (a : Activity) → WritesKey a → IsPutting a × IsFresh a
key_puts (Activity.Put Put.Key) x = (tt, tt)
key_puts _ x = absurd x

pub value_puts : (a : Activity) → WritesValue a → IsPutting a × IsFresh a
value_puts (Activity.Put Put.Value) x = (tt, tt)
value_puts _ x = absurd x

set_puts : (a : Activity) → IsInsSet a → IsPutting a
set_puts (Activity.Insert Insert.Set) x = tt
set_puts _ x = absurd x

insert_is : (a : Activity) → IsInsert a → a ≡ Activity.Insert Insert.Exchange
insert_is (Activity.Insert Insert.Exchange) x = refl
insert_is _ x = absurd x

pub version_puts : (a : Activity) → IsPutVersion a → IsPutting a
version_puts (Activity.Put Put.Version) x = tt
version_puts _ x = absurd x

-- a version that stands in a row that is or was linked is the one that is stored there
pub rely_version : (z : Sizes) (r r' : Run) (s : ℕ) (choice : Choice) (l : Local) (a : Activity) (l' : Local) → Happens z r r' s choice l l' a → Below z r → (q c : ℕ) → WasLinked r.ledger.rows q → c < z.cells → word z r.world (name.Version q c) ≢ 0 → word z r'.world (name.Version q c) ≡ word z r.world (name.Version q c)
rely_version z r r' s choice l (Activity.Put Put.Version) l' h i q c o w n = which (cases_eq q l.row) (cases_eq c l.cell)
  where
    own : OwnsAttempt (word z r.world) r.history s l.activity l (r.seats s)
    own = i.puts.owns s l h.knows (subst IsPutting (sym h.activity) tt)

    stands : q ≡ l.row → c ≡ l.cell → word z r.world (name.Version q c) ≡ l.version
    stands e f =
        let b = i.puts.body (r.seats s).own own.within (i.puts.present s l h.knows (subst IsPutting (sym h.activity) tt)) in
        let x : word z r.world (name.Version (attempt r.history (r.seats s).own).row (attempt r.history (r.seats s).own).cell) ≢ 0 = rw (own.row, own.cell) (rw (e, f) at n) in
        let y : word z r.world (name.Version l.row l.cell) ≡ (attempt r.history (r.seats s).own).version = rw (own.row, own.cell) at (b.version x) in
        rw (e, f) (y ∙ own.version (subst IsStamped (sym h.activity) tt))

    which : (q ≡ l.row) ⊎ (q ≡ l.row → ⊥) → (c ≡ l.cell) ⊎ (c ≡ l.cell → ⊥) → word z r'.world (name.Version q c) ≡ word z r.world (name.Version q c)
    which (inl e) (inl f) = subst (λ x. word z r'.world (name.Version x c) ≡ word z r.world (name.Version q c)) (sym e) (subst (λ x. word z r'.world (name.Version l.row x) ≡ word z r.world (name.Version q c)) (sym f) (h.changed.same ∙ sym (stands e f)))
    which (inr d) f = linked_version (Activity.Put Put.Version) h i.shape q c o w (λ x e g. d e)
    which (inl e) (inr d) = linked_version (Activity.Put Put.Version) h i.shape q c o w (λ x g f. d f)
rely_version z r r' s choice l a l' h i q c o w n = linked_version a h i.shape q c o w (λ x e f. x)

-- the words that concern another seat
pub rely_words : (z : Sizes) (r r' : Run) (s : ℕ) (choice : Choice) (l : Local) (a : Activity) (l' : Local) → Happens z r r' s choice l l' a → Below z r → RelyWords z (word z r.world) (word z r'.world) r.ledger.rows
rely_words z r r' s choice l a l' h i = record {
  clock = clock_never_falls a h;
  given = λ q w. linked_given a h i.shape q w;
  version = rely_version z r r' s choice l a l' h i;
}

-- The scan of another seat.

-- only a seat that stores that it waits changes since when it does
pub waits_stay : (z : Sizes) (r r' : Run) (s : ℕ) (choice : Choice) (l : Local) (a : Activity) (l' : Local) → Happens z r r' s choice l l' a → (t : ℕ) → (t ≡ s → a ≢ Activity.Draw Draw.Wait) → r'.ledger.waits t ≡ r.ledger.waits t
waits_stay z r r' s choice l (Activity.Draw Draw.Wait) l' h t f = ap (λ (g : Ledger). g.waits t) h.ledger ∙ rw (ne_eqb t s (λ e. f e refl)) refl
waits_stay z r r' s choice l (Activity.Rebalance (Rebalance.Seek Seek.Reclaim)) l' h t f = ap (λ (g : Ledger). g.waits t) h.ledger ∙ saw (word z r.world (name.State l.rebalance.sought) == state_word (Retired l.rebalance.number))
  where
    saw : (b : Bool) → (let g : Ledger = if b then record r.ledger { rows = with_fate r.ledger.rows l.rebalance.sought (fate_free (r.ledger.rows.fates l.rebalance.sought)) } else r.ledger in g.waits t) ≡ r.ledger.waits t
    saw true = refl
    saw false = refl
waits_stay z r r' s choice l (Activity.Rebalance (Rebalance.Seek Seek.Take)) l' h t f = ap (λ (g : Ledger). g.waits t) h.ledger ∙ saw (word z r.world (name.State l.rebalance.sought) == state_word Free)
  where
    saw : (b : Bool) → (let g : Ledger = if b then record r.ledger { rows = with_fate r.ledger.rows l.rebalance.sought (fate_taken s (length r.history.log) (r.ledger.rows.fates l.rebalance.sought)) } else r.ledger in g.waits t) ≡ r.ledger.waits t
    saw true = refl
    saw false = refl
waits_stay z r r' s choice l (Activity.Rebalance (Rebalance.Replace Replace.Exchange)) l' h t f = ap (λ (g : Ledger). g.waits t) h.ledger ∙ saw (word z r.world (replaced_link l.rebalance.before) == link_word (unmarked_link (Some l.row)))
  where
    saw : (b : Bool) → (let g : Ledger = if b then record r.ledger { rows = with_replaced (word z r.world) s (length r.history.log) l r.ledger.rows } else r.ledger in g.waits t) ≡ r.ledger.waits t
    saw true = refl
    saw false = refl
waits_stay z r r' s choice l (Activity.Enter Enter.Announce) l' h t f = ap (λ (g : Ledger). g.waits t) h.ledger
waits_stay z r r' s choice l (Activity.Walk Walk.First) l' h t f = ap (λ (g : Ledger). g.waits t) h.ledger
waits_stay z r r' s choice l (Activity.Look Look.Key) l' h t f = ap (λ (g : Ledger). g.waits t) h.ledger
waits_stay z r r' s choice l (Activity.Read Read.Link) l' h t f = ap (λ (g : Ledger). g.waits t) h.ledger
waits_stay z r r' s choice l (Activity.Put Put.Count) l' h t f = ap (λ (g : Ledger). g.waits t) h.ledger
waits_stay z r r' s choice l (Activity.Insert Insert.Link) l' h t f = ap (λ (g : Ledger). g.waits t) h.ledger
waits_stay z r r' s choice l (Activity.Rebalance (Rebalance.Engage Engage.Clock)) l' h t f = ap (λ (g : Ledger). g.waits t) h.ledger
waits_stay z r r' s choice l (Activity.Rebalance (Rebalance.Freeze Freeze.Count)) l' h t f = ap (λ (g : Ledger). g.waits t) h.ledger
waits_stay z r r' s choice l (Activity.Rebalance (Rebalance.Gather Gather.Link)) l' h t f = ap (λ (g : Ledger). g.waits t) h.ledger
waits_stay z r r' s choice l (Activity.Rebalance (Rebalance.Write Write.Count)) l' h t f = ap (λ (g : Ledger). g.waits t) h.ledger
waits_stay z r r' s choice l a l' h t f = ap (λ (g : Ledger). g.waits t) h.ledger

-- an event that settles no scan of another seat leaves where the version in it was drawn
pub draw_stays : (z : Sizes) (r r' : Run) (s : ℕ) (choice : Choice) (l : Local) (a : Activity) (l' : Local) → Happens z r r' s choice l l' a → (t : ℕ) → t ≢ s → (SettlesScan t a → ⊥) → r'.settled t ≡ r.settled t
draw_stays z r r' s choice l (Activity.Draw Draw.Settle) l' h t d f = ap (λ (g : ℕ → ℕ). g t) h.settled ∙ own (word z r.world (name.Scan s) == scan_word (Waiting l.waiting))
  where
    own : (b : Bool) → with_settled (if b then Some (record { seat = s; at = (r.seats s).drawn }) else None) r.settled t ≡ r.settled t
    own true = rw (ne_eqb t s d) refl
    own false = refl
draw_stays z r r' s choice l (Activity.Rebalance (Rebalance.Freeze (Freeze.Settle i))) l' h t d f = ap (λ (g : ℕ → ℕ). g t) h.settled ∙ other (word z r.world (name.Scan i) == scan_word (Waiting l.rebalance.waiting))
  where
    other : (b : Bool) → with_settled (if b then Some (record { seat = i; at = (r.seats s).drawn }) else None) r.settled t ≡ r.settled t
    other true = rw (ne_eqb t i f) refl
    other false = refl
draw_stays z r r' s choice l a l' h t d f = ap (λ (g : ℕ → ℕ). g t) h.settled

-- a scan that another seat settles which waits since the clock that this seat found: it gets the
-- version that was drawn for it, after it began to wait. Any other scan stays
helped_scan : (z : Sizes) (r r' : Run) (s : ℕ) (choice : Choice) (l : Local) (t : ℕ) (l' : Local) → Happens z r r' s choice l l' (Activity.Rebalance (Rebalance.Freeze (Freeze.Settle t))) → Below z r → Step r.history r'.history (log_entry z r (Activity.Rebalance (Rebalance.Freeze (Freeze.Settle t))) s choice l) → t < z.seats → RelyScan (word z r.world) (word z r'.world) r'.history t (r.ledger.waits t) (r.settled t) (r'.settled t)
helped_scan z r r' s choice l t l' h i st o = which (cases_eq (word z r.world (name.Scan t)) (scan_word (Waiting l.rebalance.waiting)))
  where
    n : Helping z r t (Activity.Rebalance (Rebalance.Freeze (Freeze.Settle t))) l (r.seats s)
    n = subst (λ b. Helping z r t b l (r.seats s)) h.activity (i.positions.helping s l h.knows t o)

    which : (word z r.world (name.Scan t) ≡ scan_word (Waiting l.rebalance.waiting)) ⊎ (word z r.world (name.Scan t) ≡ scan_word (Waiting l.rebalance.waiting) → ⊥) → RelyScan (word z r.world) (word z r'.world) r'.history t (r.ledger.waits t) (r.settled t) (r'.settled t)
    which (inl e) =
        let draw : r'.settled t ≡ (r.seats s).drawn = ap (λ (g : ℕ → ℕ). g t) h.settled ∙ rw (eq-eqb _ _ e, eq-eqb t t refl) refl in
        is_settled l.rebalance.waiting l.rebalance.drawn e (exchanged _ _ _ _ h.changed.same e) (i.shape.sane.locals s l h.knows).ranges.rebalance.drawn
        (record { kind = kind.HelpDraw; is_draw = tt; stands = rw draw (stands_lasts r.history r'.history _ st _ kind.HelpDraw _ (n.drew refl)) })
        (omega (arith, draw, n.after refl e))
    which (inr d) = scan_stays (not_exchanged _ _ _ _ h.changed.same d) (ap (λ (g : ℕ → ℕ). g t) h.settled ∙ rw (ne_eqb _ _ d) refl)

-- the scan of another seat
pub rely_scan : (z : Sizes) (r r' : Run) (s : ℕ) (choice : Choice) (l : Local) (a : Activity) (l' : Local) → Happens z r r' s choice l l' a → Below z r → Step r.history r'.history (log_entry z r a s choice l) → (t : ℕ) → t < z.seats → t ≢ s → RelyScan (word z r.world) (word z r'.world) r'.history t (r.ledger.waits t) (r.settled t) (r'.settled t)
rely_scan z r r' s choice l (Activity.Rebalance (Rebalance.Freeze (Freeze.Settle j))) l' h i st t o d = which (cases_eq t j)
  where
    which : (t ≡ j) ⊎ (t ≡ j → ⊥) → RelyScan (word z r.world) (word z r'.world) r'.history t (r.ledger.waits t) (r.settled t) (r'.settled t)
    which (inl e) = subst (λ q. RelyScan (word z r.world) (word z r'.world) r'.history q (r.ledger.waits q) (r.settled q) (r'.settled q)) (sym e) (helped_scan z r r' s choice l j l' h i st (subst (λ q. q < z.seats) e o))
    which (inr n) = scan_stays (scan_word_stays (Activity.Rebalance (Rebalance.Freeze (Freeze.Settle j))) h t o d n) (draw_stays z r r' s choice l (Activity.Rebalance (Rebalance.Freeze (Freeze.Settle j))) l' h t d n)
rely_scan z r r' s choice l a l' h i st t o d = scan_stays (scan_word_stays a h t o d (λ u. u)) (draw_stays z r r' s choice l a l' h t d (λ u. u))

-- The cells.

-- the cells that concern another seat
pub rely_cells : (z : Sizes) (r r' : Run) (s : ℕ) (choice : Choice) (l : Local) (a : Activity) (l' : Local) → Happens z r r' s choice l l' a → Below z r → (t : ℕ) (k : Local) → t ≢ s → slice_get r.world.locals t ≡ Some k → RelyCells (word z r.world) (word z r'.world) k.activity k
rely_cells z r r' s choice l a l' h i t k d g = record {
  own_key = λ y. linked_key a h i.shape k.row k.cell (puts_linked z r i.shape t k g y) ranges.cell (λ x e f. apart (key_puts a x).0 y e f);
  own_value = λ y. linked_value a h i.shape k.row k.cell (puts_linked z r i.shape t k g y) ranges.cell (λ x e f. apart (value_puts a x).0 y e f);
  own_version = λ y. linked_version a h i.shape k.row k.cell (puts_linked z r i.shape t k g y) ranges.cell (λ x e f. apart (version_puts a x) y e f);
}
  where
    ranges : IsLocal z k
    ranges = (i.shape.sane.locals t k g).ranges

    apart : IsPutting a → IsPutting k.activity → k.row ≡ l.row → k.cell ≡ l.cell → ⊥
    apart x y e f = cells_apart i.puts t s k l d g h.knows y (subst IsPutting (sym h.activity) x) e f

-- The lists.

-- a put whose cell is not listed puts
pub unlisted_puts : (a : Activity) → IsUnlisted a → IsPutting a
unlisted_puts (Activity.Put Put.Clear) u = absurd u
unlisted_puts a u = u

module _ (z : Sizes) (r r' : Run) (s : ℕ) (choice : Choice) (l : Local) (a : Activity) (l' : Local) (h : Happens z r r' s choice l l' a) (i : Below z r) (t : ℕ) (k : Local) (d : t ≢ s) (g : slice_get r.world.locals t ≡ Some k) (u : IsUnlisted k.activity) where
  -- the row of that seat is or was linked
  its_row : WasLinked r.ledger.rows k.row
  its_row = puts_linked z r i.shape t k g (unlisted_puts k.activity u)

  -- the own cell of another seat is not that of the acting one
  others_cell : IsPutting a → k.row ≡ l.row → k.cell ≡ l.cell → ⊥
  others_cell y e f = cells_apart i.puts t s k l d g h.knows (unlisted_puts k.activity u) (subst IsPutting (sym h.activity) y) e f

  -- it is not listed by the event
  others_unlisted : r'.listed k.row k.cell ≡ false
  others_unlisted = which (r'.listed k.row k.cell) refl
    where
      not_now : (r.listed k.row k.cell ≡ true) ⊎ (a ≡ Activity.Insert Insert.Exchange) × (k.row ≡ l.row) × (k.cell ≡ l.cell) → ⊥
      not_now (inl x) = true_false x ((i.lists.own t k g).unlisted u)
      not_now (inr x) = others_cell (subst IsPutting (sym x.0) tt) x.1 x.2

      which : (b : Bool) → r'.listed k.row k.cell ≡ b → r'.listed k.row k.cell ≡ false
      which true e = absurd (not_now (listed_was z r r' s choice l a l' h i k.row k.cell its_row e))
      which false e = e

  -- nor is its link exchanged, which is none of the list
  others_link : IsInsert a → Some k.cell ≡ l.link → k.row ≡ l.row → ⊥
  others_link x e f =
      let inserting = subst (λ q. Happens z r r' s choice l l' q) (insert_is a x) h in
      let on : IsOn (list_in (word z r.world) r.listed l.row) (Some k.cell) = subst (IsOn (list_in (word z r.world) r.listed l.row)) (sym e) (is_set z r r' s choice l l' inserting i).saw.from.on in
      true_false (subst (λ q. r.listed q k.cell ≡ true) (sym f) on) ((i.lists.own t k g).unlisted u)

  -- so it is as it was
  rely_own : LeavesOwn (list_in (word z r.world) r.listed k.row) (list_in (word z r'.world) r'.listed k.row) k.cell
  rely_own = record {
    cell = record { unlisted = others_unlisted; cell = record { key = ap key_of_word (cells.own_key (unlisted_puts k.activity u)); version = cells.own_version (unlisted_puts k.activity u) } };
    after = ap cell_of_link_word (linked_link a h i.shape k.row (Some k.cell) its_row known.ranges.cell (λ x e f. others_cell (set_puts a x) e (same_Some k.cell l.cell f)) (λ x e f. others_link x f e));
  }
    where
      known : IsKnown z r.world.rows k
      known = i.shape.sane.locals t k g

      cells : RelyCells (word z r.world) (word z r'.world) k.activity k
      cells = rely_cells z r r' s choice l a l' h i t k d g

-- the lists, for another seat
pub rely_lists : (z : Sizes) (r r' : Run) (s : ℕ) (choice : Choice) (l : Local) (a : Activity) (l' : Local) → Happens z r r' s choice l l' a → Below z r → (t : ℕ) (k : Local) → t ≢ s → slice_get r.world.locals t ≡ Some k → RelyLists z (word z r.world) (word z r'.world) r.ledger.rows r.listed r'.listed k.activity k
rely_lists z r r' s choice l a l' h i t k d g = record {
  leaves = λ q n. leaves z.cells _ _ (list_step z r r' s choice l a l' h i q n);
  own = λ u. rely_own z r r' s choice l a l' h i t k d g u;
}

-- The record.

-- an attempt that was there
same_attempt : (h h' : History) (p : ℕ) → p < length h.attempts → AttemptStep h h' p → SameAttempt h h' p
same_attempt h h' p w (as_it_was v e) = record { call = rw e refl; seat = rw e refl; key = rw e refl; value = rw e refl; row = rw e refl; cell = rw e refl; add = rw e refl }
same_attempt h h' p w (is_added a n e c s m x y z) = absurd (omega (arith, w, n))
same_attempt h h' p w (is_announced v n e) = record { call = rw e refl; seat = rw e refl; key = rw e refl; value = rw e refl; row = rw e refl; cell = rw e refl; add = rw e refl }
same_attempt h h' p w (is_lost v n e) = record { call = rw e refl; seat = rw e refl; key = rw e refl; value = rw e refl; row = rw e refl; cell = rw e refl; add = rw e refl }
same_attempt h h' p w (is_stamped version load v a n k x y u e put) = record { call = rw e refl; seat = rw e refl; key = rw e refl; value = rw e refl; row = rw e refl; cell = rw e refl; add = rw e refl }

-- Whose cells are.

-- a cell that is given where there is room
given_else : (b : Bool) (o : Origins) (r d p q c : ℕ) → (b ≡ true → q ≡ r → c ≡ d → ⊥) → (let k : Origins = if b then with_origin o r d p else o in k q c) ≡ o q c
given_else true o r d p q c n = which (cases_eq q r) (cases_eq c d)
  where
    which : (q ≡ r) ⊎ (q ≡ r → ⊥) → (c ≡ d) ⊎ (c ≡ d → ⊥) → with_origin o r d p q c ≡ o q c
    which (inl e) (inl f) = absurd (n refl e f)
    which (inl e) (inr f) = rw (eq-eqb q r e, ne_eqb c d f) refl
    which (inr e) f = rw (ne_eqb q r e) refl
given_else false o r d p q c n = refl

-- in a row that is or was linked a cell stands for what it did, unless it is the one that is given
pub origin_same : (z : Sizes) (r r' : Run) (s : ℕ) (choice : Choice) (l : Local) (a : Activity) (l' : Local) → Happens z r r' s choice l l' a → Below z r → (q c : ℕ) → WasLinked r.ledger.rows q → (a ≡ Activity.Put Put.Add → has_room z (count_of (word z r.world (name.Count l.row))) ≡ true → q ≡ l.row → c ≡ given_in (word z r.world) l.row → ⊥) → r'.origin q c ≡ r.origin q c
origin_same z r r' s choice l (Activity.Put Put.Add) l' h i q c k n = ap (λ (o : Origins). o q c) h.origin ∙ given_else (has_room z (count_of (word z r.world (name.Count l.row)))) r.origin l.row (given_in (word z r.world) l.row) (length r.history.attempts) q c (n refl)
origin_same z r r' s choice l (Activity.Rebalance (Rebalance.Write (Write.Version j))) l' h i q c k n = origin_stays (Activity.Rebalance (Rebalance.Write (Write.Version j))) h q c (λ x. not_hand (Activity.Rebalance (Rebalance.Write (Write.Version j))) h i.shape tt q k x.0)
origin_same z r r' s choice l a l' h i q c k n = ap (λ (o : Origins). o q c) h.origin

-- a cell that is given was nobody's
pub origins_go_on : (z : Sizes) (r r' : Run) (s : ℕ) (choice : Choice) (l : Local) (a : Activity) (l' : Local) → Happens z r r' s choice l l' a → Below z r → (q c p : ℕ) → WasLinked r.ledger.rows q → r.origin q c ≡ Some p → r'.origin q c ≡ Some p
origins_go_on z r r' s choice l a l' h i q c p k e = origin_same z r r' s choice l a l' h i q c k given ∙ e
  where
    given : a ≡ Activity.Put Put.Add → has_room z (count_of (word z r.world (name.Count l.row))) ≡ true → q ≡ l.row → c ≡ given_in (word z r.world) l.row → ⊥
    given x m f g =
        let u : r.origin q c ≡ None = rw (f, g) (i.puts.places.nobody l.row (given_in (word z r.world) l.row) (subst (WasLinked r.ledger.rows) f k) (room_below z (count_of (word z r.world (name.Count l.row))) m) (omega arith)) in
        let y : None ≡ Some p = sym u ∙ e in cc

-- no cell of a frozen row is given
pub frozen_same : (z : Sizes) (r r' : Run) (s : ℕ) (choice : Choice) (l : Local) (a : Activity) (l' : Local) → Happens z r r' s choice l l' a → Below z r → (q c : ℕ) → WasLinked r.ledger.rows q → IsFrozen (word z r.world) q → r'.origin q c ≡ r.origin q c
frozen_same z r r' s choice l a l' h i q c k x = origin_same z r r' s choice l a l' h i q c k (λ e m f g. no_room_there (count_of (word z r.world (name.Count l.row))) m (subst (IsFrozen (word z r.world)) f x))
  where
    no_room_there : (w : Option Counted) → has_room z w ≡ true → has_frozen w ≡ true → ⊥
    no_room_there (Some c) m y = let b : false ≡ true = rw y at m in cc
    no_room_there None m y = let b : false ≡ true = y in cc

-- nor is a cell of an infant of another seat given, written or listed
infant_same : (z : Sizes) (r r' : Run) (s : ℕ) (choice : Choice) (l : Local) (a : Activity) (l' : Local) → Happens z r r' s choice l l' a → Below z r → (t : ℕ) → t ≢ s → (q c : ℕ) → IsInfantOf r.ledger.rows t q → (r'.origin q c ≡ r.origin q c) × (r'.listed q c ≡ r.listed q c)
infant_same z r r' s choice l a l' h i t d q c x = (origin_stays a h q c (not_origin a h), listed_stays a h q c (not_listed a h))
  where
    -- the row is not one at which a seat is
    not_row : (b : Activity) → Happens z r r' s choice l l' b → IsAtRow b → q ≡ l.row → ⊥
    not_row b h y e = linked_not_infant r.ledger.rows t q (subst (WasLinked r.ledger.rows) (sym e) (row_linked z r i.shape s l h.knows (subst IsAtRow (sym h.activity) y))) x

    -- nor one of the acting seat's
    not_its : (b : Activity) → Happens z r r' s choice l l' b → HasAtHand (nursing_of b) → q ≡ infant l → ⊥
    not_its b h y e = d (sym x.owner ∙ subst (λ n. (r.ledger.rows.fates n).owner ≡ s) (sym e) (hand_infant b h i.shape y).owner)

    not_origin : (b : Activity) → Happens z r r' s choice l l' b → ChangesOrigin b l q c → ⊥
    not_origin (Activity.Put Put.Add) h y = not_row (Activity.Put Put.Add) h tt y
    not_origin (Activity.Rebalance (Rebalance.Write (Write.Version j))) h y = not_its (Activity.Rebalance (Rebalance.Write (Write.Version j))) h tt y.0
    not_origin _ h y = y

    not_listed : (b : Activity) → Happens z r r' s choice l l' b → ChangesListed b l q c → ⊥
    not_listed (Activity.Insert Insert.Exchange) h y = not_row (Activity.Insert Insert.Exchange) h tt y.0
    not_listed (Activity.Rebalance (Rebalance.Write Write.Count)) h y = not_its (Activity.Rebalance (Rebalance.Write Write.Count)) h tt y
    not_listed (Activity.Rebalance (Rebalance.Write (Write.After j))) h y = not_its (Activity.Rebalance (Rebalance.Write (Write.After j))) h tt y.0
    not_listed _ h y = y

-- The record, whoever acts.

-- the record, whoever acts
pub goes_on_by : (z : Sizes) (r r' : Run) (s : ℕ) (choice : Choice) (l : Local) (a : Activity) (l' : Local) → Happens z r r' s choice l l' a → Below z r → Step r.history r'.history (log_entry z r a s choice l) → GoesOn r.history r'.history r.origin r'.origin r.ledger.rows
goes_on_by z r r' s choice l a l' h i st =
    let step = st in
    let e = log_entry z r a s choice l in
    record {
      now = omega (arith, now_grows r.history r'.history e step);
      stands = stands_lasts r.history r'.history e step;
      grows = step_grows r.history r'.history e step;
      more_attempts = step.more_attempts;
      more_calls = step.more_calls;
      attempts = λ p w. same_attempt r.history r'.history p w (step.attempts p (omega (arith, w, step.more_attempts)));
      calls = λ x w. let c = old_call r.history r'.history e step x w in record { seat = c.seat; number = c.number; call = c.call; first = c.first };
      origin = origins_go_on z r r' s choice l a l' h i;
    }

-- the record, for another seat
pub rely_history : (z : Sizes) (r r' : Run) (s : ℕ) (choice : Choice) (l : Local) (a : Activity) (l' : Local) → Happens z r r' s choice l l' a → Below z r → (t : ℕ) → t ≢ s → RelyHistory r.history r'.history t
rely_history z r r' s choice l a l' h i t d =
    change_apart r.history r'.history _ z (word z r.world) s choice l (r.seats s) r.origin a _ (made z (word z r.world) s choice l (r.seats s) r.origin a)
    (λ answer e. (calling answer e).seat) h.history t d
  where
    calling : (answer : Answer) → a ≡ Activity.Leave answer → Calling r.history s l.activity l (r.seats s)
    calling answer e = i.positions.calling s l h.knows (subst IsBusy (sym (h.activity ∙ e)) tt)

-- The entry.

-- the entry of another seat
pub rely_entry : (z : Sizes) (r r' : Run) (s : ℕ) (choice : Choice) (l : Local) (a : Activity) (l' : Local) → Happens z r r' s choice l l' a → Below z r → (t : ℕ) (k : Local) → t ≢ s → slice_get r.world.locals t ≡ Some k → RelyEntry (word z r.world) (word z r'.world) r.history r'.history t k.activity k (r.seats t)
rely_entry z r r' s choice l (Activity.Look Look.Help) l' h i t k d g = entry_helped z r r' s choice l l' i t k d g h
rely_entry z r r' s choice l (Activity.Rebalance (Rebalance.Freeze (Freeze.Entry j))) l' h i t k d g = entry_freezes z r r' s choice l l' i t k d g j h
rely_entry z r r' s choice l a l' h i t k d g = entry_apart z r r' s choice l l' i t k d g a h (λ x. x) (λ x. x)

-- all of it
pub rely : (z : Sizes) (r r' : Run) (s : ℕ) (choice : Choice) (l : Local) (a : Activity) (l' : Local) → Happens z r r' s choice l l' a → Below z r → Step r.history r'.history (log_entry z r a s choice l) → (t : ℕ) (k : Local) → t ≢ s → slice_get r.world.locals t ≡ Some k → Rely z r r' t k
rely z r r' s choice l a l' h i st t k d g =
    let o : t < z.seats = omega (arith, slice_get_within r.world.locals t k g, i.shape.sane.seats) in
    record {
      seat = o;
      rows = h.rows;
      log = h.logs t d;
      fresh = λ x. let p = (i.shape.visits t k g).in_visit x in rely_rows a h i.shape t p.since p.visits (others_kept a h t d ∙ p.visits);
      words = rely_words z r r' s choice l a l' h i;
      since = waits_stay z r r' s choice l a l' h t (λ e. absurd (d e));
      scan = rely_scan z r r' s choice l a l' h i st t o d;
      cells = rely_cells z r r' s choice l a l' h i t k d g;
      lists = rely_lists z r r' s choice l a l' h i t k d g;
      infants = infant_same z r r' s choice l a l' h i t d;
      frozen = frozen_same z r r' s choice l a l' h i;
      goes_on = goes_on_by z r r' s choice l a l' h i st;
      history = rely_history z r r' s choice l a l' h i t d;
      entry = rely_entry z r r' s choice l a l' h i t k d g;
    }
