-- Where a group is replaced: what holds from then on of each new row, whose cells are copies,
-- all listed.
--
-- Of a row that is or was linked each lemma says what `Places` and `Lists` say of every one. What
-- the seat knew of its new row makes it true.
use Rattle.std.proofs.Common.{ℕ, ◌≡◌, ◌⊎◌, inl, inr, ◌<◌, ◌≤◌, true, Option, Some, None, arith, refl, sym, ◌∙◌, ap, subst, length, get_or, slice_get}
use Rattle.std.specs.Prelude.{All}
use Rattle.std.proofs.lemmas.Bool.{cases_lt}
use Rattle.std.proofs.lemmas.Option.{get_or_from_slice_get, same_Some, slice_get-get_or, slice_get_past, slice_get_within}
use Rattle.kw_words.specs.declared.layout.Name.TheVariants as name
use Rattle.kw_words.specs.declared.sizes.TheConstants.{MOST_CELLS}
use Rattle.kw_words.specs.Count.{count_of}
use Rattle.kw_words.specs.Plain.{built_of_word, value_of_word, version_word}
use Rattle.kw_words.proofs.CountWords.{count_of-count_word}
use Rattle.kw_words.proofs.PlainWords.{built_of_word-least_word, value_of_word-value_word}
use Rattle.kw_cells.specs.Cells as cells
use Rattle.kw_cells.specs.Kept.{is_below, AreRising, kept_of}
use Rattle.kw_cells.specs.declared.cell.Cell.{Cell}
use Rattle.kw_cells.proofs.KeptOf.{kept_of-rising}
use Rattle.kw_cells.proofs.Rising.{any_cell}
use Rattle.kw_lists.specs.Rows.{IsSound}
use Rattle.kw_lists.specs.Words.{row_in}
use Rattle.kw_rows.specs.Ledger.{Fate, Ledger}
use Rattle.kw_rows.specs.Rows.{WasLinked}
use Rattle.kw_world.specs.declared.activity.Activity.{Activity}
use Rattle.kw_world.specs.declared.activity.rebalance.Rebalance.TheVariants as Rebalance
use Rattle.kw_world.specs.declared.activity.rebalance.replace.Replace.TheVariants as Replace
use Rattle.kw_world.specs.declared.event.Choice.{Choice}
use Rattle.kw_world.specs.declared.local.Local.{Local}
use Rattle.kw_world.specs.GroupPlaces.{cell_at, row_at}
use Rattle.kw_world.specs.PutTransitions.{given_of}
use Rattle.kw_world.specs.Sane.{IsCopy}
use Rattle.kw_world.specs.SeekTransitions.{at_infant}
use Rattle.kw_world.specs.Sizes.{Sizes}
use Rattle.kw_world.specs.Step.{word}
use Rattle.kw_world.specs.WriteTransitions.{infant_cells, infant_count, infant_least, version_in}
use Rattle.kw_core.specs.declared.history.Attempt.{Attempt}
use Rattle.kw_core.specs.declared.history.Logged.{Logged}
use Rattle.kw_core.specs.History.{History, attempt}
use Rattle.kw_core.specs.Listed.{Listed}
use Rattle.kw_core.specs.Run.{Origins, Run}
use Rattle.kw_core.specs.Step.{AttemptStep, Step, as_it_was, is_added, is_announced, is_lost, is_stamped}
use Rattle.kw_core.specs.Words.{Words, built_in, given_in}
use Rattle.kw_core.proofs.Attempts.{in_range}
use Rattle.kw_core.proofs.Copies.{listed_stays, origin_stays}
use Rattle.kw_core.proofs.Happens.{Happens, log_entry}
use Rattle.kw_core.proofs.InfantFrames.{row_stays}
use Rattle.kw_core.proofs.Steps.{old_stays}
use Rattle.kw_shape.specs.Infants.{Written}
use Rattle.kw_shape.specs.Plans.{Plans}
use Rattle.kw_shape.proofs.InfantsStay.{infant_counts, taken_below, written_stays}
use Rattle.kw_shape.proofs.InfantsRely.{linked_not_infant, index_of_row}
use Rattle.kw_shape.proofs.MayReplace.{least_fits}
use Rattle.kw_shape.proofs.LinkedRows.{ComesNow, fresh_linked, infants_at, linked_before, search_at}
use Rattle.kw_puts.specs.Below.{Below}
use Rattle.kw_puts.specs.Builds.{Copied, IsCellOf}
use Rattle.kw_puts.specs.Freezes.{IsFrozen}
use Rattle.kw_puts.specs.Lists.{IsListedCell, list_in}
use Rattle.kw_puts.specs.Puts.{HasCell, IsCopyAt, RisesTo}
use Rattle.kw_puts.proofs.BuiltLists.{IsWrittenFrom, all_part, below_rises, rising_part, written_from, written_sound}
use Rattle.kw_puts.proofs.Copying.{builds_at, cell_lasts, cells_short, copied_goes}

-- What `Places` says of one row.

pub record PlacesAt (z : Sizes) (v : Words) (g : Ledger) (h : History) (o : Origins) (r : ℕ) : Type 0 where
  pub owner : (c p : ℕ) → c < z.cells → o r c ≡ Some p → HasCell g h r c p ⊎ IsCopyAt v g h r c p
  pub given : (c : ℕ) → c < z.cells → c < given_in v r → ((p : ℕ) × (o r c ≡ Some p)) ⊎ IsFrozen v r
  pub nobody : (c : ℕ) → c < z.cells → given_in v r ≤ c → o r c ≡ None
  pub unstored : (c : ℕ) → c < z.cells → o r c ≡ None → v (name.Version r c) ≡ 0
  pub above : (c d p q : ℕ) → c < z.cells → d < z.cells → o r c ≡ Some p → (attempt h p).add < (g.fates r).born → o r d ≡ Some q → (g.fates r).born ≤ (attempt h q).add → c < d
  pub rank : (c d p q : ℕ) → c < d → d < z.cells → o r c ≡ Some p → (attempt h p).add < (g.fates r).born → o r d ≡ Some q → (attempt h q).add < (g.fates r).born → RisesTo h p q

-- What `Lists` says of one.

pub record ListAt (z : Sizes) (v : Words) (g : Ledger) (h : History) (o : Origins) (f : Listed) (q : ℕ) : Type 0 where
  pub cells : (c : ℕ) → f q c ≡ true → IsListedCell v h o q c
  pub leads : IsSound z.cells (list_in v f q)
  pub copied : (c p : ℕ) → c < z.cells → o q c ≡ Some p → (attempt h p).add < (g.fates q).born → f q c ≡ true
  pub built : (c : ℕ) → c < built_in v q → f q c ≡ true

-- Attempts over an event.

-- an attempt is given its cell once
pub add_lasts : (h h' : History) (e : Logged) → Step h h' e → (p : ℕ) → p < length h.attempts → (attempt h' p).add ≡ (attempt h p).add
add_lasts h h' e st p w = by (st.attempts p (omega (arith, w, st.more_attempts)))
  where
    by : AttemptStep h h' p → (attempt h' p).add ≡ (attempt h p).add
    by (as_it_was u x) = ap (λ (y : Attempt). y.add) x
    by (is_added y x u c m k n f g) = absurd (omega (arith, w, x))
    by (is_announced u m x) = ap (λ (y : Attempt). y.add) x
    by (is_lost u m x) = ap (λ (y : Attempt). y.add) x
    by (is_stamped version load u m n f c d y x k) = ap (λ (y : Attempt). y.add) x

-- one that is stamped was stamped once
pub at_lasts : (h h' : History) (e : Logged) → Step h h' e → (p : ℕ) → (attempt h p).is_stamped ≡ true → (attempt h' p).at ≡ (attempt h p).at
at_lasts h h' e st p x = ((old_stays h h' e st p (in_range h p x)).grows.stamped x).3

-- A row that is linked now.

module _ {z : Sizes} {r r' : Run} {s : ℕ} {choice : Choice} {l l' : Local} {e : Logged} (h : Happens z r r' s choice l l' (Activity.Rebalance (Rebalance.Replace Replace.Exchange))) (i : Below z r) (st : Step r.history r'.history e) (q : ℕ) (y : ComesNow (word z r.world) r.ledger.rows r'.ledger.rows s (length r.history.log) l (Activity.Rebalance (Rebalance.Replace Replace.Exchange)) q) where
  -- its place among the taken ones
  place : (n : ℕ) × (slice_get l.rebalance.taken n ≡ Some q)
  place = index_of_row l.rebalance.taken q y.taken

  -- the seat, with it at hand
  k : Local
  k = at_infant place.0 l

  -- it is a row of the table
  q_below : q < r.world.rows
  q_below = taken_below z r.world s l i.shape.sane h.knows place.0 q place.1

  -- a row's cells fit the words of links
  few : z.cells ≤ MOST_CELLS
  few = i.shape.sane.sized.few_cells

  -- there are no more than a row has
  short : length (infant_cells k) ≤ z.cells
  unfolding k
  short = cells_short z r.world s l i.shape.sane h.knows place.0 (slice_get_within l.rebalance.taken place.0 q place.1)

  -- they are in range
  sound : All IsCopy (infant_cells k)
  unfolding k
  sound = all_part IsCopy _ _ l.rebalance.kept (i.shape.sane.locals s l h.knows).ranges.rebalance.kept

  -- its cells rise
  rising : AreRising (infant_cells k)
  unfolding k
  rising = rising_part _ _ l.rebalance.kept (subst AreRising (sym kept) (kept_of-rising l.rebalance.gathered l.rebalance.needed))
    where
      kept : l.rebalance.kept ≡ kept_of l.rebalance.gathered l.rebalance.needed
      kept = (subst (λ b. Plans z b l) h.activity (i.shape.plans s l h.knows)).kept tt

  -- its words stand after the event
  written : Written z (word z r'.world) (Activity.Rebalance (Rebalance.Replace Replace.Start)) k q
  unfolding k
  written = written_stays z r.world.rows (word z r.world) (word z r'.world) (Activity.Rebalance (Rebalance.Replace Replace.Start)) (at_infant place.0 l) q q_below (λ n f b w. row_stays (Activity.Rebalance (Rebalance.Replace Replace.Exchange)) h n q f w not_before) ((infants_at (Activity.Rebalance (Rebalance.Replace Replace.Exchange)) h i.shape).whole place.0 q tt place.1)
    where
      not_before : l.rebalance.before ≡ Some q → ⊥
      not_before f = linked_not_infant r.ledger.rows s q (fresh_linked r.ledger.rows s q ((search_at (Activity.Rebalance (Rebalance.Replace Replace.Exchange)) h i.shape).fresh q tt f)) y.infant

  -- so does what is known of its cells
  copied_before : Copied z r.history r.origin r.listed (Activity.Rebalance (Rebalance.Replace Replace.Start)) k q
  unfolding k
  copied_before = (builds_at i st (Activity.Rebalance (Rebalance.Replace Replace.Exchange)) h).whole place.0 q tt place.1

  -- and after the event
  copied_after : Copied z r'.history r'.origin r'.listed (Activity.Rebalance (Rebalance.Replace Replace.Start)) k q
  copied_after = copied_goes z r.history r'.history e r.origin r'.origin r.listed r'.listed (Activity.Rebalance (Rebalance.Replace Replace.Start)) (Activity.Rebalance (Rebalance.Replace Replace.Start)) k k q st refl refl refl (λ j n m. m) (λ j n m. m) (λ n. (tt, λ j m. m)) (λ j. origin_stays (Activity.Rebalance (Rebalance.Replace Replace.Exchange)) h q j (λ x. x)) (λ j c g. origin_stays (Activity.Rebalance (Rebalance.Replace Replace.Exchange)) h (row_at z k c.place) (cell_at z c.place) (λ x. x)) (λ j. listed_stays (Activity.Rebalance (Rebalance.Replace Replace.Exchange)) h q j (λ x. x)) copied_before

  -- the row as its list
  from_cells : IsWrittenFrom (infant_cells k) (row_in (word z r'.world) q (r'.listed q))
  from_cells = written_from z (word z r'.world) k q written few short sound (r'.listed q) (λ j u. copied_after.listed j u tt) (λ j m. (copied_after.unlisted tt j m).0)

  -- A cell of it.

  -- what stands at a place of it that has a cell
  record IsCopied (c : ℕ) (d : Cell) (p : ℕ) : Type 0 where
    is : slice_get (infant_cells k) c ≡ Some d
    within : c < length (infant_cells k)
    was : IsCellOf r.history d p
    earlier : (attempt r'.history p).add < (r'.ledger.rows.fates q).born

  -- each place with an origin has one
  of_cell : (c p : ℕ) → c < z.cells → r'.origin q c ≡ Some p → (d : Cell) × IsCopied c d p
  of_cell c p u f = which (slice_get (infant_cells k) c) refl
    where
      same : r.origin q c ≡ Some p
      same = sym (origin_stays (Activity.Rebalance (Rebalance.Replace Replace.Exchange)) h q c (λ x. x)) ∙ f

      which : (x : Option Cell) → slice_get (infant_cells k) c ≡ x → (d : Cell) × IsCopied c d p
      which (Some d) g =
          let w = copied_before.origin c d u tt g in
          let t : w.0 ≡ p = same_Some w.0 p (sym w.1 ∙ same) in
          let was : IsCellOf r.history d p = subst (IsCellOf r.history d) t w.2 in
          let within = in_range r.history p was.stamped in (
            d,
            record {
              is = g;
              within = slice_get_within (infant_cells k) c d g;
              was = was;
              earlier = omega (arith, add_lasts r.history r'.history e st p within, i.history.past.add p within, ap (λ (f : Fate). f.born) y.fate);
            },
          )
      which None g = let x : Some p ≡ None = sym same ∙ copied_before.rest c u tt g in absurd (cc)

  -- a place that has a cell has an origin
  has_origin : (c : ℕ) → c < z.cells → c < length (infant_cells k) → (p : ℕ) × (r'.origin q c ≡ Some p)
  has_origin c u w = let x = copied_after.origin c (get_or (infant_cells k) c any_cell) u tt (slice_get-get_or (infant_cells k) c any_cell w) in (x.0, x.1)

  -- and one that has none has none
  no_origin : (c : ℕ) → c < z.cells → length (infant_cells k) ≤ c → r'.origin q c ≡ None
  no_origin c u w = copied_after.rest c u tt (slice_get_past (infant_cells k) c w)

  -- the row has given as many cells
  gives : given_in (word z r'.world) q ≡ length (infant_cells k)
  unfolding k
  gives = ap (λ x. given_of (count_of x)) (written.count tt) ∙ ap given_of (count_of-count_word (infant_count (at_infant place.0 l)) (infant_counts z r.world s l i.shape.sane h.knows place.0))

  -- it was built with as many, as the word of its least key says
  built_with : built_in (word z r'.world) q ≡ length (infant_cells k)
  unfolding k
  built_with = ap built_of_word (written.least tt) ∙ built_of_word-least_word (infant_least (at_infant place.0 l)) (length (infant_cells (at_infant place.0 l))) (least_fits h i.shape place.0 q place.1)

  -- it is a copy
  is_copy : (c p : ℕ) (d : Cell) → c < z.cells → IsCopied c d p → IsCopyAt (word z r'.world) r'.ledger.rows r'.history q c p
  is_copy c p d u x =
      let now = cell_lasts r.history r'.history e st d p x.was in
      let at : get_or (infant_cells k) c any_cell ≡ d = get_or_from_slice_get (infant_cells k) c d any_cell x.is in
      record {
        within = in_range r'.history p now.stamped;
        earlier = x.earlier;
        stamped = now.stamped;
        before = omega (arith, at_lasts r.history r'.history e st p x.was.stamped, i.history.past.at p (in_range r.history p x.was.stamped) x.was.stamped, ap (λ (f : Fate). f.born) y.fate);
        key = from_cells.keys c x.within ∙ ap (λ (b : Cell). b.key) at ∙ sym now.key;
        value = ap value_of_word (written.values c u x.within tt) ∙ value_of_word-value_word (cells.value_in (slice_get (infant_cells k) c)) ∙ ap cells.value_in x.is ∙ sym now.value;
        version = from_cells.versions c x.within ∙ ap (λ (b : Cell). b.version) at ∙ sym now.version;
      }

  -- all that `Places` says of it
  pub places_relinked : PlacesAt z (word z r'.world) r'.ledger.rows r'.history r'.origin q
  places_relinked = record {
    owner = λ c p u f. let x = of_cell c p u f in inr (is_copy c p x.0 u x.1);
    given = λ c u g. inl (has_origin c u (omega (arith, g, gives)));
    nobody = λ c u g. no_origin c u (omega (arith, g, gives));
    unstored = λ c u f. unstored c u f (cases_lt c (length (infant_cells k)));
    above = λ c d p t u w f m g n. absurd (omega (arith, n, (of_cell d t w g).1.earlier));
    rank = λ c d p t o w f m g n. rank c d p t o w (of_cell c p (omega (arith, o, w)) f) (of_cell d t w g);
  }
    where
      unstored : (c : ℕ) → c < z.cells → r'.origin q c ≡ None → (c < length (infant_cells k)) ⊎ (length (infant_cells k) ≤ c) → word z r'.world (name.Version q c) ≡ 0
      unstored c u f (inl w) = let x = has_origin c u w in let m : Some x.0 ≡ None = sym x.1 ∙ f in absurd (cc)
      unstored c u f (inr w) = written.versions c u tt ∙ ap (λ b. version_word (version_in b)) (slice_get_past (infant_cells k) c w)

      rank : (c d p t : ℕ) → c < d → d < z.cells → (a : Cell) × IsCopied c a p → (b : Cell) × IsCopied d b t → RisesTo r'.history p t
      rank c d p t o w (a, x) (b, n) =
          let at : get_or (infant_cells k) c any_cell ≡ a = get_or_from_slice_get (infant_cells k) c a any_cell x.is in
          let on : get_or (infant_cells k) d any_cell ≡ b = get_or_from_slice_get (infant_cells k) d b any_cell n.is in
          let below : is_below a b ≡ true = subst (λ m. is_below m b ≡ true) at (subst (λ m. is_below (get_or (infant_cells k) c any_cell) m ≡ true) on (rising c d any_cell o n.within)) in
          let f = cell_lasts r.history r'.history e st a p x.was in
          let g = cell_lasts r.history r'.history e st b t n.was in
          rw (f.key, f.version, g.key, g.version) (below_rises a b below)

  -- and all that `Lists` says of it
  pub list_relinked : ListAt z (word z r'.world) r'.ledger.rows r'.history r'.origin r'.listed q
  list_relinked = record {
    cells = λ c m. listed c (copied_after.unlisted tt c m).0;
    leads = written_sound z (word z r'.world) k q written few short sound (r'.listed q) rising (λ j u. copied_after.listed j u tt) (λ j m. (copied_after.unlisted tt j m).0);
    copied = λ c p u f m. copied_after.listed c (of_cell c p u f).1.within tt;
    built = λ c u. copied_after.listed c (omega (arith, u, built_with)) tt;
  }
    where
      listed : (c : ℕ) → c < length (infant_cells k) → IsListedCell (word z r'.world) r'.history r'.origin q c
      listed c w =
          let u : c < z.cells = omega (arith, w, short) in
          let o = has_origin c u w in
          let x = of_cell c o.0 u o.1 in
          let copy = is_copy c o.0 x.0 u x.1 in
          record { put = o.0; origin = o.1; stamped = copy.stamped; key = copy.key; version = copy.version }

-- Over an event, of a row that is linked, and was not.

module _ (z : Sizes) (r r' : Run) (s : ℕ) (choice : Choice) (l : Local) (a : Activity) (l' : Local) (h : Happens z r r' s choice l l' a) (i : Below z r) (st : Step r.history r'.history (log_entry z r a s choice l)) where
  -- its places
  pub new_places : (q : ℕ) → WasLinked r'.ledger.rows q → (WasLinked r.ledger.rows q → ⊥) → PlacesAt z (word z r'.world) r'.ledger.rows r'.history r'.origin q
  new_places q k n = which (linked_before a h i.shape q k)
    where
      comes : (b : Activity) → Happens z r r' s choice l l' b → b ≡ Activity.Rebalance (Rebalance.Replace Replace.Exchange) → ComesNow (word z r.world) r.ledger.rows r'.ledger.rows s (length r.history.log) l b q → PlacesAt z (word z r'.world) r'.ledger.rows r'.history r'.origin q
      comes b x e y = places_relinked (subst (λ c. Happens z r r' s choice l l' c) e x) i st q (subst (λ c. ComesNow (word z r.world) r.ledger.rows r'.ledger.rows s (length r.history.log) l c q) e y)

      which : WasLinked r.ledger.rows q ⊎ ComesNow (word z r.world) r.ledger.rows r'.ledger.rows s (length r.history.log) l a q → PlacesAt z (word z r'.world) r'.ledger.rows r'.history r'.origin q
      which (inl w) = absurd (n w)
      which (inr y) = comes a h y.replaces y

  -- and its list
  pub new_list : (q : ℕ) → WasLinked r'.ledger.rows q → (WasLinked r.ledger.rows q → ⊥) → ListAt z (word z r'.world) r'.ledger.rows r'.history r'.origin r'.listed q
  new_list q k n = which (linked_before a h i.shape q k)
    where
      comes : (b : Activity) → Happens z r r' s choice l l' b → b ≡ Activity.Rebalance (Rebalance.Replace Replace.Exchange) → ComesNow (word z r.world) r.ledger.rows r'.ledger.rows s (length r.history.log) l b q → ListAt z (word z r'.world) r'.ledger.rows r'.history r'.origin r'.listed q
      comes b x e y = list_relinked (subst (λ c. Happens z r r' s choice l l' c) e x) i st q (subst (λ c. ComesNow (word z r.world) r.ledger.rows r'.ledger.rows s (length r.history.log) l c q) e y)

      which : WasLinked r.ledger.rows q ⊎ ComesNow (word z r.world) r.ledger.rows r'.ledger.rows s (length r.history.log) l a q → ListAt z (word z r'.world) r'.ledger.rows r'.history r'.origin r'.listed q
      which (inl w) = absurd (n w)
      which (inr y) = comes a h y.replaces y
