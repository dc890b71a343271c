-- Every event keeps what holds of the lists of the rows: the group, from one lemma for each part of
-- it.
use Rattle.std.proofs.Common.{ℕ, ◌≡◌, ◌≢◌, ◌⊎◌, inl, inr, ◌<◌, true, false, Some, None, arith, refl, sym, ◌∙◌, ap, subst, slice_get, length}
use Rattle.kw_words.specs.declared.layout.Name.TheVariants as name
use Rattle.kw_lists.proofs.Agreeing.{empty_sound}
use Rattle.kw_world.specs.declared.activity.Activity.{Activity}
use Rattle.kw_world.specs.declared.activity.insert.Insert.TheVariants as Insert
use Rattle.kw_world.specs.declared.activity.put.Put.TheVariants as Put
use Rattle.kw_world.specs.declared.local.Local.{Local}
use Rattle.kw_world.specs.declared.event.Choice.{Choice}
use Rattle.kw_world.specs.declared.opening.Opening.{Opening}
use Rattle.kw_world.specs.Opening.{IsOpening, opened}
use Rattle.kw_world.specs.Sizes.{Sizes}
use Rattle.kw_world.specs.Step.{word}
use Rattle.kw_core.specs.History.{attempt}
use Rattle.kw_core.specs.Run.{Run, start}
use Rattle.kw_core.specs.Listed.{none_listed}
use Rattle.kw_words.specs.Plain.{built_of_word, cell_of_link_word}
use Rattle.kw_words.proofs.PlainWords.{built_of_word-zero}
use Rattle.kw_core.specs.Stages.{IsPutting, IsStamped, IsStored, IsPutClear, IsInserting}
use Rattle.kw_core.specs.Step.{Step}
use Rattle.kw_core.proofs.Happens.{Happens, log_entry, each_seat}
use Rattle.kw_shape.proofs.ShapeOpens.{each_rests, opens, shape_starts}
use Rattle.kw_puts.specs.Here.{IsHere}
use Rattle.kw_puts.specs.Puts.{IsCurrent, IsOver, Puts}
use Rattle.kw_puts.proofs.CellsOf.{cell_key}
use Rattle.kw_rows.specs.Rows.{WasLinked}
use Rattle.kw_shape.proofs.LinkedRows.{fresh_linked, linked_built, was_below}
use Rattle.kw_core.proofs.Attempts.{in_range}
use Rattle.kw_puts.proofs.AttemptCells.{copy_was}
use Rattle.kw_puts.proofs.Relinked.{ListAt, new_list}
use Rattle.kw_puts.proofs.HereStays.{here_was}
use Rattle.kw_puts.proofs.Owners.{own_origin, puts_linked, was_or_not}
use Rattle.kw_puts.specs.Lists.{list_in, IsListedCell, IsOwnListed, Inserts, WalksList, Lists}
use Rattle.kw_puts.specs.Below.{Below}
use Rattle.kw_puts.proofs.Rely.{GoesOn, Rely}
use Rattle.kw_puts.proofs.RelyProof.{goes_on_by, rely}
use Rattle.kw_puts.proofs.NewAttempts.{IsNew, attempt_was}
use Rattle.kw_puts.proofs.OwnAttempts.{acting_own}
use Rattle.kw_puts.proofs.DoneAttempts.{new_current, current_goes, over_goes}
use Rattle.kw_puts.proofs.ListSteps.{list_step, stays_sound, listed_was, listed_stays, listed_words, not_listed, insert_words}
use Rattle.kw_puts.proofs.OwnInserts.{inserts_stay, walks_stay, inserts_if, walks_if, inserting_at, inserting_unlisted, inserts_own, walks_own}
use Rattle.kw_puts.proofs.OwnListed.{clear_puts, own_listed}

module _ (z : Sizes) (r r' : Run) (s : ℕ) (choice : Choice) (l : Local) (a : Activity) (l' : Local) (h : Happens z r r' s choice l l' a) (i : Below z r) (st : Step r.history r'.history (log_entry z r a s choice l)) (p : Puts z r') where
  goes : GoesOn r.history r'.history r.origin r'.origin r.ledger.rows
  goes = goes_on_by z r r' s choice l a l' h i st

  -- a cell of a row that is or was linked which is that of a stamped attempt, or a copy, with this
  -- version in it after the event
  stamped_cell : (q c put : ℕ) → WasLinked r.ledger.rows q → WasLinked r'.ledger.rows q → c < z.cells → r.origin q c ≡ Some put → (attempt r.history put).is_stamped ≡ true → word z r'.world (name.Version q c) ≡ (attempt r.history put).version → IsListedCell (word z r'.world) r'.history r'.origin q c
  stamped_cell q c put k k' o origin stamped version =
      let within = in_range r.history put stamped in
      let g = (goes.grows.old put within).stamped stamped in
      let then = goes.origin q c put k origin in
      let announced = (goes.grows.old put within).announced ((i.history.laws.attempted put within).is_announced stamped) in
      record {
        put = put;
        origin = then;
        stamped = g.0;
        key = cell_key p q c put (p.places.owner q c put k' o then) announced.0;
        version = version ∙ sym g.1;
      }

  -- a listed cell of a row that was linked before stays that of its attempt, and so is the one that
  -- is listed now
  cells_keep : (q c : ℕ) → WasLinked r.ledger.rows q → WasLinked r'.ledger.rows q → r'.listed q c ≡ true → IsListedCell (word z r'.world) r'.history r'.origin q c
  cells_keep q c k k' t = which (listed_was z r r' s choice l a l' h i q c k t)
    where
      which : (r.listed q c ≡ true) ⊎ (a ≡ Activity.Insert Insert.Exchange) × (q ≡ l.row) × (c ≡ l.cell) → IsListedCell (word z r'.world) r'.history r'.origin q c
      which (inl x) =
          let cell = i.lists.cells q c k x in
          let inside : c < z.cells = (i.lists.leads q k).below c x in
          stamped_cell q c cell.put k k' inside cell.origin cell.stamped ((listed_words z r r' s choice l a l' h i q c k inside (λ u e f. not_listed z r r' s choice l a l' h i u q c x e f)).version ∙ cell.version)
      which (inr x) =
          let inserting = subst (λ b. Happens z r r' s choice l l' b) x.0 h in
          let own = acting_own z r r' s choice l (Activity.Insert Insert.Exchange) l' inserting i tt in
          let known = i.shape.sane.locals s l h.knows in
          let here : WasLinked r.ledger.rows l.row = subst (WasLinked r.ledger.rows) x.1 k in
          let then : WasLinked r'.ledger.rows l.row = subst (WasLinked r'.ledger.rows) x.1 k' in
          let origin = own_origin i.puts s l h.knows (subst IsPutting (sym inserting.activity) tt) in
          let stored = (insert_words z r r' s choice l l' inserting i l.row l.cell here known.ranges.cell).version ∙ own.stored (subst IsStored (sym inserting.activity) tt) in
          rw (x.1, x.2) (stamped_cell l.row l.cell (r.seats s).own here then known.ranges.cell origin (own.stamped (subst IsStamped (sym inserting.activity) tt)) stored)

  -- a copy is listed
  copied_keep : (q c put : ℕ) → WasLinked r.ledger.rows q → c < z.cells → r'.origin q c ≡ Some put → (attempt r'.history put).add < (r'.ledger.rows.fates q).born → r'.listed q c ≡ true
  copied_keep q c put k o e d =
      let was = copy_was z r r' s choice l a l' h i st q k c put o e d in
      listed_stays z r r' s choice l a l' h i q c k (i.lists.copied q c put k o was.0 was.2)

  -- an attempt is current, or its cell is listed unless its row was used again, or it never gets a
  -- version
  old_listed : (p : ℕ) → p < length r'.history.attempts → IsCurrent (slice_get r'.world.locals) r'.seats r'.history p ⊎ (IsHere r'.ledger.rows r'.history p → r'.listed (attempt r'.history p).row (attempt r'.history p).cell ≡ true) ⊎ IsOver r'.history p
  old_listed p o = which (attempt_was a h p o)
    where
      stays : (p : ℕ) → p < length r.history.attempts → (IsHere r.ledger.rows r.history p → r.listed (attempt r.history p).row (attempt r.history p).cell ≡ true) → IsHere r'.ledger.rows r'.history p → r'.listed (attempt r'.history p).row (attempt r'.history p).cell ≡ true
      stays p w x y =
          let same = goes.attempts p w in
          let was = here_was a h i st p w y in
          rw (same.row, same.cell) (listed_stays z r r' s choice l a l' h i (attempt r.history p).row (attempt r.history p).cell was.linked (x was))

      cleared : a ≡ Activity.Put Put.Clear → (IsHere r'.ledger.rows r'.history (r.seats s).own → r'.listed (attempt r'.history (r.seats s).own).row (attempt r'.history (r.seats s).own).cell ≡ true) ⊎ IsOver r'.history (r.seats s).own
      cleared e =
          let clearing = subst (λ b. Happens z r r' s choice l l' b) e h in
          let own = acting_own z r r' s choice l (Activity.Put Put.Clear) l' clearing i tt in
          inl (stays (r.seats s).own own.within (λ y. rw (own.row, own.cell) ((i.lists.own s l h.knows).listed (subst IsPutClear (sym clearing.activity) tt))))

      was : p < length r.history.attempts → IsCurrent (slice_get r.world.locals) r.seats r.history p ⊎ (IsHere r.ledger.rows r.history p → r.listed (attempt r.history p).row (attempt r.history p).cell ≡ true) ⊎ IsOver r.history p → IsCurrent (slice_get r'.world.locals) r'.seats r'.history p ⊎ (IsHere r'.ledger.rows r'.history p → r'.listed (attempt r'.history p).row (attempt r'.history p).cell ≡ true) ⊎ IsOver r'.history p
      was w (inl k) = current_goes z r r' s choice l a l' h i st (λ p. (IsHere r'.ledger.rows r'.history p → r'.listed (attempt r'.history p).row (attempt r'.history p).cell ≡ true) ⊎ IsOver r'.history p) cleared (λ x. inr x) p w k
      was w (inr (inl x)) = inr (inl (stays p w x))
      was w (inr (inr x)) = over_goes z r r' s choice l a l' h i st (λ p. (IsHere r'.ledger.rows r'.history p → r'.listed (attempt r'.history p).row (attempt r'.history p).cell ≡ true) ⊎ IsOver r'.history p) cleared (λ q x. inr x) p w x

      which : (p < length r.history.attempts) ⊎ IsNew z r r' s l a p → IsCurrent (slice_get r'.world.locals) r'.seats r'.history p ⊎ (IsHere r'.ledger.rows r'.history p → r'.listed (attempt r'.history p).row (attempt r'.history p).cell ≡ true) ⊎ IsOver r'.history p
      which (inl w) = was w (i.lists.old p w)
      which (inr n) = inl (new_current z r r' s choice l a l' h i st p n)

  -- the list of each row that is or was linked: of one that was before the event, and of one that
  -- the event links
  list_at : (q : ℕ) → WasLinked r'.ledger.rows q → ListAt z (word z r'.world) r'.ledger.rows r'.history r'.origin r'.listed q
  list_at q k = which (was_or_not r.ledger.rows q)
    where
      which : WasLinked r.ledger.rows q ⊎ (WasLinked r.ledger.rows q → ⊥) → ListAt z (word z r'.world) r'.ledger.rows r'.history r'.origin r'.listed q
      which (inl w) = record {
        cells = λ c t. cells_keep q c w k t;
        leads = stays_sound z.cells _ _ (list_step z r r' s choice l a l' h i q w) (i.lists.leads q w);
        copied = λ c put o e d. copied_keep q c put w o e d;
        built = λ c u. listed_stays z r r' s choice l a l' h i q c w (i.lists.built q c w (omega (arith, u, linked_built a h i.shape q w)));
      }
      which (inr n) = new_list z r r' s choice l a l' h i st q k n

  -- what another seat knows
  module _ (t : ℕ) (k : Local) (d : t ≢ s) (g : slice_get r.world.locals t ≡ Some k) where
    relies : Rely z r r' t k
    relies = rely z r r' s choice l a l' h i st t k d g

    its_row : IsInserting k.activity → WasLinked r.ledger.rows k.row
    its_row m = fresh_linked r.ledger.rows t k.row ((i.shape.walks t k g).at (inserting_at k.activity m)).fresh

    inserts_other : Inserts z.cells (list_in (word z r'.world) r'.listed k.row) k.activity k
    inserts_other = inserts_if z.cells _ k.activity k (λ m. inserts_stay z.cells _ _ k.activity k (relies.lists.leaves k.row (its_row m)) (λ n. relies.lists.own (inserting_unlisted k.activity m)) (i.lists.inserts t k g))

    walks_other : WalksList z.cells (list_in (word z r'.world) r'.listed k.row) k.activity k
    walks_other = walks_if z.cells _ k.activity k (λ m. walks_stay z.cells _ _ k.activity k (relies.lists.leaves k.row (its_row m)) (i.lists.inserts t k g) (i.lists.walks t k g))

    own_other : IsOwnListed r'.listed k.activity k
    own_other = record {
      unlisted = λ u. (relies.lists.own u).cell.unlisted;
      listed = λ u. listed_stays z r r' s choice l a l' h i k.row k.cell (puts_linked z r i.shape t k g (clear_puts k.activity u)) ((i.lists.own t k g).listed u);
    }

  -- all of it
  pub lists_keep : Lists z r'
  lists_keep = record {
    cells = λ q c k t. (list_at q k).cells c t;
    leads = λ q k. (list_at q k).leads;
    copied = λ q c put k o e d. (list_at q k).copied c put o e d;
    built = λ q c k u. (list_at q k).built c u;
    own = each_seat h (λ t k. IsOwnListed r'.listed k.activity k) (own_listed z r r' s choice l a l' h.arrow h i) own_other;
    old = old_listed;
    inserts = each_seat h (λ t k. Inserts z.cells (list_in (word z r'.world) r'.listed k.row) k.activity k) (inserts_if z.cells _ l'.activity l' (inserts_own z r r' s choice l a l' h.arrow h i)) inserts_other;
    walks = each_seat h (λ t k. WalksList z.cells (list_in (word z r'.world) r'.listed k.row) k.activity k) (walks_if z.cells _ l'.activity l' (walks_own z r r' s choice l a l' h.arrow h i)) walks_other;
  }

-- Where nothing happened.

no_link : cell_of_link_word 0 ≡ None
unfolding cell_of_link_word
no_link = refl

pub lists_start : (z : Sizes) (o : Opening) → IsOpening z o → Lists z (start z o)
lists_start z o i = record {
  cells = λ q c k t. let x : false ≡ true = t in absurd (cc);
  copied = λ q c p k o e d. let x : None ≡ Some p = e in absurd (cc);
  built = λ q c k u. absurd (omega (arith, u, ap built_of_word (opens z o i (name.Least q) (was_below z (start z o) (shape_starts z o i) q k)), built_of_word-zero));
  leads = λ q k. empty_sound z.cells (list_in (word z (opened z o)) none_listed q) (record { none = λ c. refl; first = ap cell_of_link_word (opens z o i (name.First q) (was_below z (start z o) (shape_starts z o i) q k)) ∙ no_link });
  own = each_rests z o (λ t l. IsOwnListed none_listed l.activity l) (λ t. record { unlisted = λ u. refl; listed = λ u. absurd u });
  old = λ p w. absurd (omega arith);
  inserts = each_rests z o (λ t l. Inserts z.cells (list_in (word z (opened z o)) none_listed l.row) l.activity l) (λ t. tt);
  walks = each_rests z o (λ t l. WalksList z.cells (list_in (word z (opened z o)) none_listed l.row) l.activity l) (λ t. tt);
}
