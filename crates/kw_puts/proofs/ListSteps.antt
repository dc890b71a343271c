-- What an event leaves of the list of a row: all that the list has is as it was, or a cell is
-- linked in. Which of the two it is does not hang on the seat that asks, so that this is what each
-- seat may rely on.
use Rattle.std.proofs.Common.{ℕ, ◌≡◌, ◌≢◌, ◌⊎◌, inl, inr, ◌<◌, Bool, true, false, nat_lt, if◌then◌else◌, Option, Some, None, length, refl, sym, ◌∙◌, ap, subst, eq-eqb, ne_eqb}
use Rattle.std.proofs.lemmas.Bool.{cases_eq}
use Rattle.std.proofs.lemmas.Option.{same_Some}
use Rattle.kw_words.specs.Plain.{cell_link_word}
use Rattle.kw_lists.specs.Rows.{Row, IsSound}
use Rattle.kw_lists.specs.Changes.{MayInsert, Agree, Leaves, inserted, with_cell}
use Rattle.kw_lists.specs.Puts.{IsSet}
use Rattle.kw_lists.specs.Words.{row_in, SameWords, KeepsList, LinksIn}
use Rattle.kw_lists.proofs.Places.{cell_or, cell_old}
use Rattle.kw_lists.proofs.ReadOff.{keeping_agrees, linking_agrees}
use Rattle.kw_lists.proofs.Leaving.{agree_leaves, insert_leaves}
use Rattle.kw_lists.proofs.Agreeing.{agreeing_sound}
use Rattle.kw_lists.proofs.Inserting.{inserted_sound}
use Rattle.kw_lists.proofs.Putting.{put_inserts}
use Rattle.kw_world.specs.declared.activity.Activity.{Activity}
use Rattle.kw_world.specs.declared.activity.insert.Insert.TheVariants as Insert
use Rattle.kw_world.specs.declared.activity.put.Put.TheVariants as Put
use Rattle.kw_world.specs.declared.activity.rebalance.Rebalance.TheVariants as Rebalance
use Rattle.kw_world.specs.declared.activity.rebalance.write.Write.TheVariants as Write
use Rattle.kw_world.specs.declared.local.Local.{Local}
use Rattle.kw_world.specs.declared.event.Choice.{Choice}
use Rattle.kw_world.specs.ListTransitions.{link_name}
use Rattle.kw_world.specs.Sane.{IsCellBelow, IsKnown}
use Rattle.kw_world.specs.SeekTransitions.{infant}
use Rattle.kw_world.specs.Sizes.{Sizes}
use Rattle.kw_world.specs.Step.{word}
use Rattle.kw_world.specs.WriteTransitions.{infant_cells}
use Rattle.kw_core.specs.Listed.{Listed, with_listed, without_listed}
use Rattle.kw_core.specs.Run.{Run}
use Rattle.kw_core.specs.Stages.{IsUnlisted, IsInsert, IsInsSet, IsPutVersion}
use Rattle.kw_core.proofs.Frame.{WritesKey}
use Rattle.kw_core.proofs.Happens.{Happens, chosen, not_chosen, exchanged, not_exchanged}
use Rattle.kw_rows.specs.Rows.{WasLinked}
use Rattle.kw_puts.specs.Lists.{list_in, Inserts}
use Rattle.kw_puts.specs.Below.{Below}
use Rattle.kw_shape.proofs.LinkedRows.{linked_key, linked_link, linked_version, not_hand}
use Rattle.kw_puts.proofs.Owners.{true_false}
use Rattle.kw_puts.proofs.ListWords.{link_or, leads_there}

-- the cells of the row that gains one, and of another row
pub with_listed_here : (f : Listed) (r c : ℕ) → with_listed f r c r ≡ with_cell (f r) c
with_listed_here f r c = rw (eq-eqb r r refl) refl

with_listed_else : (f : Listed) (r c q : ℕ) → q ≢ r → with_listed f r c q ≡ f q
with_listed_else f r c q d = rw (ne_eqb q r d) refl

without_listed_else : (f : Listed) (r q : ℕ) → q ≢ r → without_listed f r q ≡ f q
without_listed_else f r q d = rw (ne_eqb q r d) refl

-- a list of n cells, over an event: as it was where it is listed, or one cell more is linked in,
-- which might be
pub data ListStep (n : ℕ) (row row' : Row) : Type 0 where
  stays : Agree row row' → ListStep n row row'
  gains : (at : Option ℕ) (c : ℕ) → MayInsert row at c → c < n → Agree (inserted row at c) row' → ListStep n row row'

-- what it leaves to those who walk along it
pub leaves : (n : ℕ) (row row' : Row) → ListStep n row row' → Leaves n row row'
leaves n row row' (stays a) = agree_leaves n row row' a
leaves n row row' (gains at c m o a) = insert_leaves n row row' at c m o a

-- it is a list still
pub stays_sound : (n : ℕ) (row row' : Row) → ListStep n row row' → IsSound n row → IsSound n row'
stays_sound n row row' (stays a) s = agreeing_sound row row' a n s
stays_sound n row row' (gains at c m o a) s = agreeing_sound (inserted row at c) row' a n (inserted_sound row s.list at c m n o s)

-- The events that write a word of a cell whose key, version or link may be listed are those of a
-- put whose own cell is not listed.

writes_key_unlisted : (a : Activity) → WritesKey a → IsUnlisted a
writes_key_unlisted (Activity.Put Put.Key) x = tt
writes_key_unlisted _ x = absurd x

stores_version_unlisted : (a : Activity) → IsPutVersion a → IsUnlisted a
stores_version_unlisted (Activity.Put Put.Version) x = tt
stores_version_unlisted _ x = absurd x

stores_after_unlisted : (a : Activity) → IsInsSet a → IsUnlisted a
stores_after_unlisted (Activity.Insert Insert.Set) x = tt
stores_after_unlisted _ x = absurd x

module _ (z : Sizes) (r r' : Run) (s : ℕ) (choice : Choice) (l : Local) (a : Activity) (l' : Local) (h : Happens z r r' s choice l l' a) (i : Below z r) where
  -- so a listed cell is not one that the event writes
  pub not_listed : IsUnlisted a → (q c : ℕ) → r.listed q c ≡ true → q ≡ l.row → c ≡ l.cell → ⊥
  not_listed u q c t e f = true_false t (rw (e, f) ((i.lists.own s l h.knows).unlisted (subst IsUnlisted (sym h.activity) u)))

  -- the words of a listed cell are what they were, and so are the words of another cell that is not
  -- the seat's
  pub listed_words : (q c : ℕ) → WasLinked r.ledger.rows q → c < z.cells → (IsUnlisted a → q ≡ l.row → c ≡ l.cell → ⊥) → SameWords (word z r.world) (word z r'.world) q c
  listed_words q c k o d = record {
    key = linked_key a h i.shape q c k o (λ x e f. d (writes_key_unlisted a x) e f);
    version = linked_version a h i.shape q c k o (λ x e f. d (stores_version_unlisted a x) e f);
  }

  -- a link that is not the one that the seat exchanges
  listed_link : (q : ℕ) (at : Option ℕ) → WasLinked r.ledger.rows q → IsCellBelow z.cells at → (IsUnlisted a → q ≡ l.row → at ≡ Some l.cell → ⊥) → (IsInsert a → q ≡ l.row → at ≡ l.link → ⊥) → word z r'.world (link_name q at) ≡ word z r.world (link_name q at)
  listed_link q at k o d f = linked_link a h i.shape q at k o (λ x e g. d (stores_after_unlisted a x) e g) f

  -- the words of a row's list, where the seat exchanges none of its links
  list_kept : (q : ℕ) → WasLinked r.ledger.rows q → ((at : Option ℕ) → IsInsert a → q ≡ l.row → at ≡ l.link → ⊥) → KeepsList (word z r.world) (word z r'.world) q (r.listed q)
  list_kept q k f = record {
    first = listed_link q None k tt (λ u e g. let x : None ≡ Some l.cell = g in cc) (f None);
    after = λ c t. listed_link q (Some c) k (sound.below c t) (λ u e g. not_listed u q c t e (same_Some c l.cell g)) (f (Some c));
    cell = λ c t. listed_words q c k (sound.below c t) (λ u e g. not_listed u q c t e g);
  }
    where
      sound : IsSound z.cells (list_in (word z r.world) r.listed q)
      sound = i.lists.leads q k

-- The exchange of a put that inserts its cell.

module _ (z : Sizes) (r r' : Run) (s : ℕ) (choice : Choice) (l : Local) (l' : Local) (h : Happens z r r' s choice l l' (Activity.Insert Insert.Exchange)) (i : Below z r) where
  -- what the put knows there
  pub is_set : IsSet z.cells (list_in (word z r.world) r.listed l.row) l.cell l.lost l.link l.held
  is_set = subst (λ q. Inserts z.cells (list_in (word z r.world) r.listed l.row) q l) h.activity (i.lists.inserts s l h.knows)

  -- no cell's key or version changes
  pub insert_words : (q c : ℕ) → WasLinked r.ledger.rows q → c < z.cells → SameWords (word z r.world) (word z r'.world) q c
  insert_words q c k o = record { key = linked_key (Activity.Insert Insert.Exchange) h i.shape q c k o (λ x e f. x); version = linked_version (Activity.Insert Insert.Exchange) h i.shape q c k o (λ x e f. x) }

  -- where the exchange is lost, every link is what it was
  lost_link : word z r.world (link_name l.row l.link) ≢ cell_link_word l.held → (q : ℕ) (at : Option ℕ) → WasLinked r.ledger.rows q → IsCellBelow z.cells at → word z r'.world (link_name q at) ≡ word z r.world (link_name q at)
  lost_link n q at k o = which (cases_eq q l.row) (link_or at l.link)
    where
      which : (q ≡ l.row) ⊎ (q ≡ l.row → ⊥) → (at ≡ l.link) ⊎ (at ≢ l.link) → word z r'.world (link_name q at) ≡ word z r.world (link_name q at)
      which (inl e) (inl f) = rw (e, f) (not_exchanged _ _ _ _ h.changed.same n)
      which (inr d) f = linked_link (Activity.Insert Insert.Exchange) h i.shape q at k o (λ x e g. x) (λ x e g. d e)
      which (inl e) (inr d) = linked_link (Activity.Insert Insert.Exchange) h i.shape q at k o (λ x e g. x) (λ x e g. d g)

  lost_list : word z r.world (link_name l.row l.link) ≢ cell_link_word l.held → (q : ℕ) → WasLinked r.ledger.rows q → KeepsList (word z r.world) (word z r'.world) q (r.listed q)
  lost_list n q k = record {
    first = lost_link n q None k tt;
    after = λ c t. lost_link n q (Some c) k ((i.lists.leads q k).below c t);
    cell = λ c t. insert_words q c k ((i.lists.leads q k).below c t);
  }

  -- where it is made, one link leads to the cell, and all else is what it was
  made_links : word z r.world (link_name l.row l.link) ≡ cell_link_word l.held → WasLinked r.ledger.rows l.row → LinksIn (word z r.world) (word z r'.world) l.row (r.listed l.row) l.link l.cell
  made_links e k = record {
    new = leads_there (word z r'.world) l.row l.link (Some l.cell) z.cells known.ranges.cell i.shape.sane.sized.few_cells (exchanged _ _ _ _ h.changed.same e);
    first = λ a f. linked_link (Activity.Insert Insert.Exchange) h i.shape l.row None k tt (λ x u g. x) (λ x u g. let y : None ≡ Some a = g ∙ f in cc);
    after = λ d t n. linked_link (Activity.Insert Insert.Exchange) h i.shape l.row (Some d) k (inside d (cell_or (r.listed l.row) l.cell d t)) (λ x u g. x) (λ x u g. n (sym g));
    cell = λ d t. insert_words l.row d k (inside d (cell_or (r.listed l.row) l.cell d t));
  }
    where
      known : IsKnown z r.world.rows l
      known = i.shape.sane.locals s l h.knows

      inside : (d : ℕ) → (d ≡ l.cell) ⊎ (r.listed l.row d ≡ true) → d < z.cells
      inside d (inl f) = rw f known.ranges.cell
      inside d (inr t) = (i.lists.leads l.row k).below d t

  -- the cells that are listed then
  pub lost_listed : word z r.world (link_name l.row l.link) ≢ cell_link_word l.held → r'.listed ≡ r.listed
  lost_listed n = h.listed ∙ not_chosen _ _ _ _ n

  pub made_listed : word z r.world (link_name l.row l.link) ≡ cell_link_word l.held → r'.listed ≡ with_listed r.listed l.row l.cell
  made_listed e = h.listed ∙ chosen _ _ _ _ e

  -- so a list is as it was, or gains the cell
  insert_step : (q : ℕ) → WasLinked r.ledger.rows q → ListStep z.cells (list_in (word z r.world) r.listed q) (list_in (word z r'.world) r'.listed q)
  insert_step q k = which (cases_eq (word z r.world (link_name l.row l.link)) (cell_link_word l.held)) (cases_eq q l.row)
    where
      known : IsKnown z r.world.rows l
      known = i.shape.sane.locals s l h.knows

      gained : word z r.world (link_name l.row l.link) ≡ cell_link_word l.held → WasLinked r.ledger.rows l.row → ListStep z.cells (list_in (word z r.world) r.listed l.row) (list_in (word z r'.world) r'.listed l.row)
      gained e k = gains l.link l.cell
          (put_inserts z.cells (list_in (word z r.world) r.listed l.row) l.cell l.lost l.link l.held is_set (leads_there (word z r.world) l.row l.link l.held z.cells known.ranges.held i.shape.sane.sized.few_cells e))
          known.ranges.cell
          (subst (λ f. Agree (inserted (list_in (word z r.world) r.listed l.row) l.link l.cell) (row_in (word z r'.world) l.row f)) (sym (ap (λ f. f l.row) (made_listed e) ∙ with_listed_here r.listed l.row l.cell))
          (linking_agrees (word z r.world) (word z r'.world) l.row (r.listed l.row) l.link l.cell (made_links e k)))

      which : (word z r.world (link_name l.row l.link) ≡ cell_link_word l.held) ⊎ (word z r.world (link_name l.row l.link) ≡ cell_link_word l.held → ⊥) → (q ≡ l.row) ⊎ (q ≡ l.row → ⊥) → ListStep z.cells (list_in (word z r.world) r.listed q) (list_in (word z r'.world) r'.listed q)
      which (inl e) (inl f) = subst (λ x. ListStep z.cells (list_in (word z r.world) r.listed x) (list_in (word z r'.world) r'.listed x)) (sym f) (gained e (subst (WasLinked r.ledger.rows) f k))
      which (inl e) (inr d) = subst (λ f. ListStep z.cells (list_in (word z r.world) r.listed q) (row_in (word z r'.world) q f)) (sym (ap (λ f. f q) (made_listed e) ∙ with_listed_else r.listed l.row l.cell q d))
          (stays (keeping_agrees (word z r.world) (word z r'.world) q (r.listed q) (list_kept z r r' s choice l (Activity.Insert Insert.Exchange) l' h i q k (λ at x u g. d u))))
      which (inr n) f = subst (λ f. ListStep z.cells (list_in (word z r.world) r.listed q) (row_in (word z r'.world) q f)) (sym (ap (λ f. f q) (lost_listed n))) (stays (keeping_agrees (word z r.world) (word z r'.world) q (r.listed q) (lost_list n q k)))

-- which cells of a row that is or was linked are listed changes by an insertion alone: new rows are
-- none of them
listed_same : (z : Sizes) (r r' : Run) (s : ℕ) (choice : Choice) (l : Local) (a : Activity) (l' : Local) → Happens z r r' s choice l l' a → Below z r → (q : ℕ) → WasLinked r.ledger.rows q → (a ≡ Activity.Insert Insert.Exchange → ⊥) → r'.listed q ≡ r.listed q
listed_same z r r' s choice l (Activity.Insert Insert.Exchange) l' h i q k n = absurd (n refl)
listed_same z r r' s choice l (Activity.Rebalance (Rebalance.Write Write.Count)) l' h i q k n = ap (λ f. f q) h.listed ∙ without_listed_else r.listed (infant l) q (not_hand (Activity.Rebalance (Rebalance.Write Write.Count)) h i.shape tt q k)
listed_same z r r' s choice l (Activity.Rebalance (Rebalance.Write (Write.After j))) l' h i q k n = ap (λ f. f q) h.listed ∙ copies (nat_lt j (length (infant_cells l)))
  where
    copies : (b : Bool) → (let f : Listed = if b then with_listed r.listed (infant l) j else r.listed in f q) ≡ r.listed q
    copies true = with_listed_else r.listed (infant l) j q (not_hand (Activity.Rebalance (Rebalance.Write (Write.After j))) h i.shape tt q k)
    copies false = refl
listed_same z r r' s choice l a l' h i q k n = ap (λ f. f q) h.listed

-- what an event leaves of the list of a row that is or was linked
pub list_step : (z : Sizes) (r r' : Run) (s : ℕ) (choice : Choice) (l : Local) (a : Activity) (l' : Local) → Happens z r r' s choice l l' a → Below z r → (q : ℕ) → WasLinked r.ledger.rows q → ListStep z.cells (list_in (word z r.world) r.listed q) (list_in (word z r'.world) r'.listed q)
list_step z r r' s choice l (Activity.Insert Insert.Exchange) l' h i q k = insert_step z r r' s choice l l' h i q k
list_step z r r' s choice l a l' h i q k = subst (λ f. ListStep z.cells (list_in (word z r.world) r.listed q) (row_in (word z r'.world) q f)) (sym (listed_same z r r' s choice l a l' h i q k (λ e. cc)))
    (stays (keeping_agrees (word z r.world) (word z r'.world) q (r.listed q) (list_kept z r r' s choice l a l' h i q k (λ at x e g. x))))

-- a cell of such a row that is listed after the event was listed, or it is that of a put which
-- inserts it now
pub listed_was : (z : Sizes) (r r' : Run) (s : ℕ) (choice : Choice) (l : Local) (a : Activity) (l' : Local) → Happens z r r' s choice l l' a → Below z r → (q c : ℕ) → WasLinked r.ledger.rows q → r'.listed q c ≡ true → (r.listed q c ≡ true) ⊎ (a ≡ Activity.Insert Insert.Exchange) × (q ≡ l.row) × (c ≡ l.cell)
listed_was z r r' s choice l (Activity.Insert Insert.Exchange) l' h i q c k t = which (cases_eq (word z r.world (link_name l.row l.link)) (cell_link_word l.held)) (cases_eq q l.row)
  where
    which : (word z r.world (link_name l.row l.link) ≡ cell_link_word l.held) ⊎ (word z r.world (link_name l.row l.link) ≡ cell_link_word l.held → ⊥) → (q ≡ l.row) ⊎ (q ≡ l.row → ⊥) → (r.listed q c ≡ true) ⊎ ((Activity.Insert Insert.Exchange) ≡ Activity.Insert Insert.Exchange) × (q ≡ l.row) × (c ≡ l.cell)
    which (inr n) f = inl (sym (ap (λ f. f q c) (h.listed ∙ not_chosen _ _ _ _ n)) ∙ t)
    which (inl e) (inr d) = inl (sym (ap (λ f. f c) (ap (λ f. f q) (h.listed ∙ chosen _ _ _ _ e) ∙ with_listed_else r.listed l.row l.cell q d)) ∙ t)
    which (inl e) (inl f) = saw (cell_or (r.listed l.row) l.cell c (sym (ap (λ f. f c) (ap (λ f. f l.row) (h.listed ∙ chosen _ _ _ _ e) ∙ with_listed_here r.listed l.row l.cell)) ∙ subst (λ x. r'.listed x c ≡ true) f t))
      where
        saw : (c ≡ l.cell) ⊎ (r.listed l.row c ≡ true) → (r.listed q c ≡ true) ⊎ ((Activity.Insert Insert.Exchange) ≡ Activity.Insert Insert.Exchange) × (q ≡ l.row) × (c ≡ l.cell)
        saw (inl x) = inr (refl, f, x)
        saw (inr x) = inl (rw f x)
listed_was z r r' s choice l a l' h i q c k t = inl (sym (ap (λ f. f c) (listed_same z r r' s choice l a l' h i q k (λ e. cc))) ∙ t)

-- a cell of such a row that is listed stays listed
pub listed_stays : (z : Sizes) (r r' : Run) (s : ℕ) (choice : Choice) (l : Local) (a : Activity) (l' : Local) → Happens z r r' s choice l l' a → Below z r → (q c : ℕ) → WasLinked r.ledger.rows q → r.listed q c ≡ true → r'.listed q c ≡ true
listed_stays z r r' s choice l (Activity.Insert Insert.Exchange) l' h i q c k t = which (cases_eq (word z r.world (link_name l.row l.link)) (cell_link_word l.held)) (cases_eq q l.row)
  where
    which : (word z r.world (link_name l.row l.link) ≡ cell_link_word l.held) ⊎ (word z r.world (link_name l.row l.link) ≡ cell_link_word l.held → ⊥) → (q ≡ l.row) ⊎ (q ≡ l.row → ⊥) → r'.listed q c ≡ true
    which (inr n) f = ap (λ f. f q c) (h.listed ∙ not_chosen _ _ _ _ n) ∙ t
    which (inl e) (inr d) = ap (λ f. f c) (ap (λ f. f q) (h.listed ∙ chosen _ _ _ _ e) ∙ with_listed_else r.listed l.row l.cell q d) ∙ t
    which (inl e) (inl f) = rw f (ap (λ f. f c) (ap (λ f. f l.row) (h.listed ∙ chosen _ _ _ _ e) ∙ with_listed_here r.listed l.row l.cell) ∙ cell_old (r.listed l.row) l.cell c (subst (λ x. r.listed x c ≡ true) f t))
listed_stays z r r' s choice l a l' h i q c k t = ap (λ f. f c) (listed_same z r r' s choice l a l' h i q k (λ e. cc)) ∙ t
