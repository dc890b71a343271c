-- What is written of a row at hand: how each event that writes a word of it adds that word and
-- leaves the others, and what follows where the entries or the cells are all written.
use Rattle.std.proofs.Common.{ℕ, ◌≡◌, ◌⊎◌, inl, inr, ◌+◌, ◌<◌, ◌≤◌, List, Some, None, arith, sym, ◌∙◌, ap, subst, length, slice_get}
use Rattle.std.proofs.lemmas.Bool.{cases_eq}
use Rattle.std.proofs.lemmas.Option.{same_Some}
use Rattle.kw_words.specs.declared.layout.Name.TheVariants as name
use Rattle.kw_words.specs.declared.pend.Pend.TheVariants as pend
use Rattle.kw_words.specs.Count.{count_word}
use Rattle.kw_words.specs.Link.{link_word}
use Rattle.kw_words.specs.Pend.{pend_word}
use Rattle.kw_words.specs.Plain.{cell_link_word, key_word, least_word, value_word, version_word}
use Rattle.kw_cells.specs.Cells.{value_in}
use Rattle.kw_cells.specs.declared.cell.Cell.{Cell}
use Rattle.kw_world.specs.declared.activity.Activity.{Activity}
use Rattle.kw_world.specs.declared.activity.rebalance.Rebalance.TheVariants as Rebalance
use Rattle.kw_world.specs.declared.activity.rebalance.replace.Replace.TheVariants as Replace
use Rattle.kw_world.specs.declared.activity.rebalance.write.Write.TheVariants as Write
use Rattle.kw_world.specs.declared.event.Choice.{Choice}
use Rattle.kw_world.specs.declared.local.Local.{Local}
use Rattle.kw_world.specs.SeekTransitions.{infant}
use Rattle.kw_world.specs.Sizes.{Sizes}
use Rattle.kw_world.specs.Step.{word}
use Rattle.kw_world.specs.WriteTransitions.{first_listed, infant_cells, infant_count, infant_least, infant_link, key_in, listed_after, version_in}
use Rattle.kw_core.specs.Run.{Run}
use Rattle.kw_core.specs.Words.{Words}
use Rattle.kw_core.proofs.Happens.{Happens}
use Rattle.kw_core.proofs.InfantFrames.{after_written, count_stays, count_written, entry_stays, entry_written, first_written, key_stays, key_written, least_stays, least_written, link_stays, next_stays, next_written, value_stays, value_written, version_stays, version_written}
use Rattle.kw_shape.specs.Infants.{Written}

-- it stands too for a seat that has the same cells for the row, and the same least key and link
pub written_like : (z : Sizes) (v : Words) (a : Activity) (l k : Local) (q : ℕ) → infant_cells k ≡ infant_cells l → infant_least k ≡ infant_least l → infant_link k ≡ infant_link l → Written z v a l q → Written z v a k q
written_like z v a l k q e m n w = record {
  count = λ x. subst (λ (xs : List Cell). v (name.Count q) ≡ count_word (record { given = length xs; frozen = (infant_count l).frozen })) (sym e) (w.count x);
  least = λ x. w.least x ∙ ap (λ (key : ℕ). least_word key (length (infant_cells l))) (sym m) ∙ ap (λ (xs : List Cell). least_word (infant_least k) (length xs)) (sym e);
  next = λ x. w.next x ∙ ap link_word (sym n);
  first = λ x. subst (λ (xs : List Cell). v (name.First q) ≡ cell_link_word (first_listed xs)) (sym e) (w.first x);
  entries = w.entries;
  keys = λ j o p x. subst (λ (xs : List Cell). v (name.Key q j) ≡ key_word (key_in (slice_get xs j))) (sym e) (w.keys j o (subst (λ (xs : List Cell). j < length xs) e p) x);
  values = λ j o p x. subst (λ (xs : List Cell). v (name.Value q j) ≡ value_word (value_in (slice_get xs j))) (sym e) (w.values j o (subst (λ (xs : List Cell). j < length xs) e p) x);
  versions = λ j o x. subst (λ (xs : List Cell). v (name.Version q j) ≡ version_word (version_in (slice_get xs j))) (sym e) (w.versions j o x);
  afters = λ j o p x. subst (λ (xs : List Cell). v (name.After q j) ≡ cell_link_word (listed_after xs j)) (sym e) (w.afters j o (subst (λ (xs : List Cell). j < length xs) e p) x);
}

-- all entries are written, and no cell
pub entries_done : (z : Sizes) (v : Words) (l : Local) (q i : ℕ) → z.seats ≤ i → Written z v (Activity.Rebalance (Rebalance.Write (Write.Entry i))) l q → Written z v (Activity.Rebalance (Rebalance.Write (Write.Key 0))) l q
entries_done z v l q i s w = record {
  count = w.count;
  least = w.least;
  next = w.next;
  first = w.first;
  entries = λ k o x. w.entries k o (omega (arith, o, s));
  keys = λ j o p x. absurd (omega (arith, x));
  values = λ j o p x. absurd (omega (arith, x));
  versions = λ j o x. absurd (omega (arith, x));
  afters = λ j o p x. absurd (omega (arith, x));
}

-- a place beyond the row's cells has no key and no value
pub cells_end : (z : Sizes) (v : Words) (l : Local) (q j : ℕ) → length (infant_cells l) ≤ j → Written z v (Activity.Rebalance (Rebalance.Write (Write.Key j))) l q → Written z v (Activity.Rebalance (Rebalance.Write (Write.Version j))) l q
cells_end z v l q j s w = record {
  count = w.count;
  least = w.least;
  next = w.next;
  first = w.first;
  entries = w.entries;
  keys = λ k o p x. w.keys k o p (omega (arith, p, s));
  values = λ k o p x. w.values k o p (omega (arith, p, s));
  versions = w.versions;
  afters = w.afters;
}

-- nor a link behind it
pub place_end : (z : Sizes) (v : Words) (l : Local) (q j : ℕ) → length (infant_cells l) ≤ j → Written z v (Activity.Rebalance (Rebalance.Write (Write.After j))) l q → Written z v (Activity.Rebalance (Rebalance.Write (Write.Key (j + 1)))) l q
place_end z v l q j s w = record {
  count = w.count;
  least = w.least;
  next = w.next;
  first = w.first;
  entries = w.entries;
  keys = λ k o p x. w.keys k o p (omega (arith, x));
  values = λ k o p x. w.values k o p (omega (arith, x));
  versions = λ k o x. w.versions k o (omega (arith, x));
  afters = λ k o p x. w.afters k o p (omega (arith, p, s));
}

-- all cells are written
pub cells_done : (z : Sizes) (v : Words) (l : Local) (q j : ℕ) → z.cells ≤ j → Written z v (Activity.Rebalance (Rebalance.Write (Write.Key j))) l q → Written z v (Activity.Rebalance (Rebalance.Replace Replace.Start)) l q
cells_done z v l q j s w = record {
  count = w.count;
  least = w.least;
  next = w.next;
  first = w.first;
  entries = w.entries;
  keys = λ k o p x. w.keys k o p (omega (arith, o, s));
  values = λ k o p x. w.values k o p (omega (arith, o, s));
  versions = λ k o x. w.versions k o (omega (arith, o, s));
  afters = λ k o p x. w.afters k o p (omega (arith, o, s));
}

module _ {z : Sizes} {r r' : Run} {s : ℕ} {choice : Choice} {l l' : Local} where
  -- its count is written
  pub writes_count : Happens z r r' s choice l l' (Activity.Rebalance (Rebalance.Write Write.Count)) → infant l < r.world.rows → Written z (word z r.world) (Activity.Rebalance (Rebalance.Write Write.Count)) l (infant l) → Written z (word z r'.world) (Activity.Rebalance (Rebalance.Write Write.Least)) l (infant l)
  writes_count h i w = record {
    count = λ x. count_written h;
    least = λ x. absurd x;
    next = λ x. absurd x;
    first = λ x. absurd x;
    entries = λ k o x. absurd x;
    keys = λ k o p x. absurd x;
    values = λ k o p x. absurd x;
    versions = λ k o x. absurd x;
    afters = λ k o p x. absurd x;
  }

  -- its least key
  pub writes_least : Happens z r r' s choice l l' (Activity.Rebalance (Rebalance.Write Write.Least)) → infant l < r.world.rows → Written z (word z r.world) (Activity.Rebalance (Rebalance.Write Write.Least)) l (infant l) → Written z (word z r'.world) (Activity.Rebalance (Rebalance.Write Write.Next)) l (infant l)
  writes_least h i w = record {
    count = λ x. count_stays (Activity.Rebalance (Rebalance.Write Write.Least)) h (infant l) i (λ y. y) ∙ w.count tt;
    least = λ x. least_written h;
    next = λ x. absurd x;
    first = λ x. absurd x;
    entries = λ k o x. absurd x;
    keys = λ k o p x. absurd x;
    values = λ k o p x. absurd x;
    versions = λ k o x. absurd x;
    afters = λ k o p x. absurd x;
  }

  -- its link
  pub writes_next : Happens z r r' s choice l l' (Activity.Rebalance (Rebalance.Write Write.Next)) → infant l < r.world.rows → Written z (word z r.world) (Activity.Rebalance (Rebalance.Write Write.Next)) l (infant l) → Written z (word z r'.world) (Activity.Rebalance (Rebalance.Write Write.First)) l (infant l)
  writes_next h i w = record {
    count = λ x. count_stays (Activity.Rebalance (Rebalance.Write Write.Next)) h (infant l) i (λ y. y) ∙ w.count tt;
    least = λ x. least_stays (Activity.Rebalance (Rebalance.Write Write.Next)) h (infant l) i (λ y. y) ∙ w.least tt;
    next = λ x. next_written h;
    first = λ x. absurd x;
    entries = λ k o x. absurd x;
    keys = λ k o p x. absurd x;
    values = λ k o p x. absurd x;
    versions = λ k o x. absurd x;
    afters = λ k o p x. absurd x;
  }

  -- the link to its first cell
  pub writes_first : Happens z r r' s choice l l' (Activity.Rebalance (Rebalance.Write Write.First)) → infant l < r.world.rows → Written z (word z r.world) (Activity.Rebalance (Rebalance.Write Write.First)) l (infant l) → Written z (word z r'.world) (Activity.Rebalance (Rebalance.Write (Write.Entry 0))) l (infant l)
  writes_first h i w = record {
    count = λ x. count_stays (Activity.Rebalance (Rebalance.Write Write.First)) h (infant l) i (λ y. y) ∙ w.count tt;
    least = λ x. least_stays (Activity.Rebalance (Rebalance.Write Write.First)) h (infant l) i (λ y. y) ∙ w.least tt;
    next = λ x. next_stays (Activity.Rebalance (Rebalance.Write Write.First)) h (infant l) i (λ y. y) ∙ w.next tt;
    first = λ x. first_written h;
    entries = λ k o x. absurd (omega (arith, x));
    keys = λ k o p x. absurd x;
    values = λ k o p x. absurd x;
    versions = λ k o x. absurd x;
    afters = λ k o p x. absurd x;
  }

  -- one more entry
  pub writes_entry : (j : ℕ) → Happens z r r' s choice l l' (Activity.Rebalance (Rebalance.Write (Write.Entry j))) → infant l < r.world.rows → Written z (word z r.world) (Activity.Rebalance (Rebalance.Write (Write.Entry j))) l (infant l) → Written z (word z r'.world) (Activity.Rebalance (Rebalance.Write (Write.Entry (j + 1)))) l (infant l)
  writes_entry j h i w = record {
    count = λ x. count_stays (Activity.Rebalance (Rebalance.Write (Write.Entry j))) h (infant l) i (λ y. y) ∙ w.count tt;
    least = λ x. least_stays (Activity.Rebalance (Rebalance.Write (Write.Entry j))) h (infant l) i (λ y. y) ∙ w.least tt;
    next = λ x. next_stays (Activity.Rebalance (Rebalance.Write (Write.Entry j))) h (infant l) i (λ y. y) ∙ w.next tt;
    first = λ x. link_stays (Activity.Rebalance (Rebalance.Write (Write.Entry j))) h (infant l) None i tt (λ y. y) ∙ w.first tt;
    entries = λ k o x. which k o x (cases_eq k j);
    keys = λ k o p x. absurd x;
    values = λ k o p x. absurd x;
    versions = λ k o x. absurd x;
    afters = λ k o p x. absurd x;
  }
    where
      which : (k : ℕ) → k < z.seats → k < j + 1 → (k ≡ j) ⊎ (k ≡ j → ⊥) → word z r'.world (name.Pend (infant l) k) ≡ pend_word pend.Idle
      which k o x (inl e) = subst (λ (y : ℕ). word z r'.world (name.Pend (infant l) y) ≡ pend_word pend.Idle) (sym e) (entry_written j h)
      which k o x (inr d) = entry_stays (Activity.Rebalance (Rebalance.Write (Write.Entry j))) h (infant l) k i o (λ y. d y.1) ∙ w.entries k o (omega (arith, x, d))

  -- the key of one more cell
  pub writes_key : (j : ℕ) → Happens z r r' s choice l l' (Activity.Rebalance (Rebalance.Write (Write.Key j))) → infant l < r.world.rows → Written z (word z r.world) (Activity.Rebalance (Rebalance.Write (Write.Key j))) l (infant l) → Written z (word z r'.world) (Activity.Rebalance (Rebalance.Write (Write.Value j))) l (infant l)
  writes_key j h i w = record {
    count = λ x. count_stays (Activity.Rebalance (Rebalance.Write (Write.Key j))) h (infant l) i (λ y. y) ∙ w.count tt;
    least = λ x. least_stays (Activity.Rebalance (Rebalance.Write (Write.Key j))) h (infant l) i (λ y. y) ∙ w.least tt;
    next = λ x. next_stays (Activity.Rebalance (Rebalance.Write (Write.Key j))) h (infant l) i (λ y. y) ∙ w.next tt;
    first = λ x. link_stays (Activity.Rebalance (Rebalance.Write (Write.Key j))) h (infant l) None i tt (λ y. y) ∙ w.first tt;
    entries = λ k o x. entry_stays (Activity.Rebalance (Rebalance.Write (Write.Key j))) h (infant l) k i o (λ y. y) ∙ w.entries k o tt;
    keys = λ k o p x. which k o p x (cases_eq k j);
    values = λ k o p x. value_stays (Activity.Rebalance (Rebalance.Write (Write.Key j))) h (infant l) k i o (λ y. y) ∙ w.values k o p x;
    versions = λ k o x. version_stays (Activity.Rebalance (Rebalance.Write (Write.Key j))) h (infant l) k i o (λ y. y) ∙ w.versions k o x;
    afters = λ k o p x. link_stays (Activity.Rebalance (Rebalance.Write (Write.Key j))) h (infant l) (Some k) i o (λ y. y) ∙ w.afters k o p x;
  }
    where
      which : (k : ℕ) → k < z.cells → k < length (infant_cells l) → k ≤ j → (k ≡ j) ⊎ (k ≡ j → ⊥) → word z r'.world (name.Key (infant l) k) ≡ key_word (key_in (slice_get (infant_cells l) k))
      which k o p x (inl e) = subst (λ (y : ℕ). word z r'.world (name.Key (infant l) y) ≡ key_word (key_in (slice_get (infant_cells l) y))) (sym e) (key_written j h)
      which k o p x (inr d) = key_stays (Activity.Rebalance (Rebalance.Write (Write.Key j))) h (infant l) k i o (λ y. d y.1) ∙ w.keys k o p (omega (arith, x, d))

  -- its value
  pub writes_value : (j : ℕ) → Happens z r r' s choice l l' (Activity.Rebalance (Rebalance.Write (Write.Value j))) → infant l < r.world.rows → Written z (word z r.world) (Activity.Rebalance (Rebalance.Write (Write.Value j))) l (infant l) → Written z (word z r'.world) (Activity.Rebalance (Rebalance.Write (Write.Version j))) l (infant l)
  writes_value j h i w = record {
    count = λ x. count_stays (Activity.Rebalance (Rebalance.Write (Write.Value j))) h (infant l) i (λ y. y) ∙ w.count tt;
    least = λ x. least_stays (Activity.Rebalance (Rebalance.Write (Write.Value j))) h (infant l) i (λ y. y) ∙ w.least tt;
    next = λ x. next_stays (Activity.Rebalance (Rebalance.Write (Write.Value j))) h (infant l) i (λ y. y) ∙ w.next tt;
    first = λ x. link_stays (Activity.Rebalance (Rebalance.Write (Write.Value j))) h (infant l) None i tt (λ y. y) ∙ w.first tt;
    entries = λ k o x. entry_stays (Activity.Rebalance (Rebalance.Write (Write.Value j))) h (infant l) k i o (λ y. y) ∙ w.entries k o tt;
    keys = λ k o p x. key_stays (Activity.Rebalance (Rebalance.Write (Write.Value j))) h (infant l) k i o (λ y. y) ∙ w.keys k o p x;
    values = λ k o p x. which k o p x (cases_eq k j);
    versions = λ k o x. version_stays (Activity.Rebalance (Rebalance.Write (Write.Value j))) h (infant l) k i o (λ y. y) ∙ w.versions k o x;
    afters = λ k o p x. link_stays (Activity.Rebalance (Rebalance.Write (Write.Value j))) h (infant l) (Some k) i o (λ y. y) ∙ w.afters k o p x;
  }
    where
      which : (k : ℕ) → k < z.cells → k < length (infant_cells l) → k ≤ j → (k ≡ j) ⊎ (k ≡ j → ⊥) → word z r'.world (name.Value (infant l) k) ≡ value_word (value_in (slice_get (infant_cells l) k))
      which k o p x (inl e) = subst (λ (y : ℕ). word z r'.world (name.Value (infant l) y) ≡ value_word (value_in (slice_get (infant_cells l) y))) (sym e) (value_written j h)
      which k o p x (inr d) = value_stays (Activity.Rebalance (Rebalance.Write (Write.Value j))) h (infant l) k i o (λ y. d y.1) ∙ w.values k o p (omega (arith, x, d))

  -- its version
  pub writes_version : (j : ℕ) → Happens z r r' s choice l l' (Activity.Rebalance (Rebalance.Write (Write.Version j))) → infant l < r.world.rows → Written z (word z r.world) (Activity.Rebalance (Rebalance.Write (Write.Version j))) l (infant l) → Written z (word z r'.world) (Activity.Rebalance (Rebalance.Write (Write.After j))) l (infant l)
  writes_version j h i w = record {
    count = λ x. count_stays (Activity.Rebalance (Rebalance.Write (Write.Version j))) h (infant l) i (λ y. y) ∙ w.count tt;
    least = λ x. least_stays (Activity.Rebalance (Rebalance.Write (Write.Version j))) h (infant l) i (λ y. y) ∙ w.least tt;
    next = λ x. next_stays (Activity.Rebalance (Rebalance.Write (Write.Version j))) h (infant l) i (λ y. y) ∙ w.next tt;
    first = λ x. link_stays (Activity.Rebalance (Rebalance.Write (Write.Version j))) h (infant l) None i tt (λ y. y) ∙ w.first tt;
    entries = λ k o x. entry_stays (Activity.Rebalance (Rebalance.Write (Write.Version j))) h (infant l) k i o (λ y. y) ∙ w.entries k o tt;
    keys = λ k o p x. key_stays (Activity.Rebalance (Rebalance.Write (Write.Version j))) h (infant l) k i o (λ y. y) ∙ w.keys k o p x;
    values = λ k o p x. value_stays (Activity.Rebalance (Rebalance.Write (Write.Version j))) h (infant l) k i o (λ y. y) ∙ w.values k o p x;
    versions = λ k o x. which k o x (cases_eq k j);
    afters = λ k o p x. link_stays (Activity.Rebalance (Rebalance.Write (Write.Version j))) h (infant l) (Some k) i o (λ y. y) ∙ w.afters k o p x;
  }
    where
      which : (k : ℕ) → k < z.cells → k ≤ j → (k ≡ j) ⊎ (k ≡ j → ⊥) → word z r'.world (name.Version (infant l) k) ≡ version_word (version_in (slice_get (infant_cells l) k))
      which k o x (inl e) = subst (λ (y : ℕ). word z r'.world (name.Version (infant l) y) ≡ version_word (version_in (slice_get (infant_cells l) y))) (sym e) (version_written j h)
      which k o x (inr d) = version_stays (Activity.Rebalance (Rebalance.Write (Write.Version j))) h (infant l) k i o (λ y. d y.1) ∙ w.versions k o (omega (arith, x, d))

  -- and the link behind it
  pub writes_after : (j : ℕ) → Happens z r r' s choice l l' (Activity.Rebalance (Rebalance.Write (Write.After j))) → infant l < r.world.rows → Written z (word z r.world) (Activity.Rebalance (Rebalance.Write (Write.After j))) l (infant l) → Written z (word z r'.world) (Activity.Rebalance (Rebalance.Write (Write.Key (j + 1)))) l (infant l)
  writes_after j h i w = record {
    count = λ x. count_stays (Activity.Rebalance (Rebalance.Write (Write.After j))) h (infant l) i (λ y. y) ∙ w.count tt;
    least = λ x. least_stays (Activity.Rebalance (Rebalance.Write (Write.After j))) h (infant l) i (λ y. y) ∙ w.least tt;
    next = λ x. next_stays (Activity.Rebalance (Rebalance.Write (Write.After j))) h (infant l) i (λ y. y) ∙ w.next tt;
    first = λ x. link_stays (Activity.Rebalance (Rebalance.Write (Write.After j))) h (infant l) None i tt (λ y. let c : None ≡ Some j = y.1 in cc) ∙ w.first tt;
    entries = λ k o x. entry_stays (Activity.Rebalance (Rebalance.Write (Write.After j))) h (infant l) k i o (λ y. y) ∙ w.entries k o tt;
    keys = λ k o p x. key_stays (Activity.Rebalance (Rebalance.Write (Write.After j))) h (infant l) k i o (λ y. y) ∙ w.keys k o p (omega (arith, x));
    values = λ k o p x. value_stays (Activity.Rebalance (Rebalance.Write (Write.After j))) h (infant l) k i o (λ y. y) ∙ w.values k o p (omega (arith, x));
    versions = λ k o x. version_stays (Activity.Rebalance (Rebalance.Write (Write.After j))) h (infant l) k i o (λ y. y) ∙ w.versions k o (omega (arith, x));
    afters = λ k o p x. which k o p x (cases_eq k j);
  }
    where
      which : (k : ℕ) → k < z.cells → k < length (infant_cells l) → k < j + 1 → (k ≡ j) ⊎ (k ≡ j → ⊥) → word z r'.world (name.After (infant l) k) ≡ cell_link_word (listed_after (infant_cells l) k)
      which k o p x (inl e) = subst (λ (y : ℕ). word z r'.world (name.After (infant l) y) ≡ cell_link_word (listed_after (infant_cells l) y)) (sym e) (after_written j h)
      which k o p x (inr d) = link_stays (Activity.Rebalance (Rebalance.Write (Write.After j))) h (infant l) (Some k) i o (λ y. d (same_Some k j y.1)) ∙ w.afters k o p (omega (arith, x, d))
