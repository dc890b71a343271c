-- What an event of another seat leaves to a seat of its infants and of the row before its full one:
-- they are its infants still, each word that it wrote stands, and the row before is as it was.
use Rattle.std.proofs.Common.{ℕ, ◌≡◌, ◌+◌, ◌-◌, ◌<◌, ◌≤◌, All, List, Option, Some, None, arith, refl, subst, drop, length, slice_get, slice_index, take, inl, inr, Bool, false, true, sym, ◌∙◌, ap}
use Rattle.std.proofs.lemmas.List.{length-drop, length-take}
use Rattle.std.proofs.lemmas.List.Elements.{All-get_or}
use Rattle.std.proofs.lemmas.Option.{get_or_from_slice_get, slice_get-get_or, slice_get_within}
use Rattle.kw_cells.specs.Cuts.{end_of}
use Rattle.kw_words.specs.declared.sizes.TheConstants.{MOST_ROWS}
use Rattle.kw_words.specs.Count.{IsCount}
use Rattle.kw_words.specs.Link.{IsLink, IsRow}
use Rattle.kw_world.specs.declared.local.Local.{Local}
use Rattle.kw_world.specs.Sane.{IsRowBelow, IsSane}
use Rattle.kw_world.specs.SeekTransitions.{at_infant, infant}
use Rattle.kw_world.specs.Sizes.{Sizes}
use Rattle.kw_world.specs.WorldView.{WorldView}
use Rattle.kw_world.specs.WriteTransitions.{infant_count, infant_link, row_or, unmarked_link}
use Rattle.kw_words.specs.declared.layout.Name.{Name}
use Rattle.kw_words.specs.declared.layout.Name.TheVariants as name
use Rattle.kw_words.specs.Layout.{IsWithin}
use Rattle.kw_rows.specs.Ledger.{Fate, IsDead, Ledger}
use Rattle.kw_world.specs.declared.activity.Activity.{Activity}
use Rattle.kw_world.specs.declared.activity.rebalance.Rebalance.TheVariants as Rebalance
use Rattle.kw_world.specs.declared.activity.rebalance.replace.Replace.TheVariants as Replace
use Rattle.kw_world.specs.declared.activity.rebalance.seek.Seek.TheVariants as Seek
use Rattle.kw_core.specs.Words.{Words, least_in}
use Rattle.kw_core.proofs.InfantFrames.{row_in}
use Rattle.kw_shape.proofs.RelyRows.{RelyRows}
use Rattle.kw_shape.specs.Infants.{HasAtHand, Infants, IsInfantOf, IsNursed, IsWhole, IsWriting, Links, Nursing, Writes, Written, nursing_of}
use Rattle.kw_shape.specs.Search.{IsLeft, IsMeasured, IsSearching, Search}

-- The rows that a seat took are rows of the table, and what it writes of them fits its words: so a
-- sane world gives what `InfantsOwn` and `ReplaceEvent` ask for.

-- an element of a list of rows of the table is one
pub row_below : (rows : ℕ) (xs : List ℕ) → All (λ x. x < rows) xs → (i q : ℕ) → slice_get xs i ≡ Some q → q < rows
row_below rows xs all i q e = subst (λ x. x < rows) (get_or_from_slice_get xs i q 0 e) (All-get_or (λ x. x < rows) xs i 0 (slice_get_within xs i q e) all)

-- a row of the table fits a link, and so does none
pub row_fits : (rows : ℕ) (o a : Option ℕ) → ((q : ℕ) → o ≡ Some q → q < rows) → IsRowBelow rows a → rows ≤ MOST_ROWS → IsRow (row_or o a)
row_fits rows (Some q) a f b m = omega (arith, f q refl, m)
row_fits rows None (Some q) f b m = omega (arith, b, m)
row_fits rows None None f b m = tt

-- a part of a list is not longer
pub part_length : {A : Type 0} (n m : ℕ) (xs : List A) → length (take n (drop m xs)) ≤ length xs
part_length n m xs = omega (arith, length-take n (drop m xs), length-drop m xs)

module _ (z : Sizes) (w : WorldView) (s : ℕ) (l : Local) (sane : IsSane z w) (knows : slice_get w.locals s ≡ Some l) where
  -- the rows that the seat took are rows of the table
  pub taken_below : (i q : ℕ) → slice_get l.rebalance.taken i ≡ Some q → q < w.rows
  taken_below i q e = row_below w.rows l.rebalance.taken (sane.locals s l knows).below.rebalance.taken i q e

  -- the link to its full row fits its word
  pub row_link : IsLink (unmarked_link (Some l.row))
  row_link = omega (arith, (sane.locals s l knows).below.row, sane.sized.few_rows)

  -- that of each new row does
  pub infant_links : (i : ℕ) → IsLink (infant_link (at_infant i l))
  infant_links i = row_fits w.rows (slice_get l.rebalance.taken (i + 1)) l.rebalance.after (λ q e. taken_below (i + 1) q e) (sane.locals s l knows).below.rebalance.after sane.sized.few_rows

  -- and how many cells it has
  pub infant_counts : (i : ℕ) → IsCount (infant_count (at_infant i l))
  infant_counts i = omega (arith, part_length (end_of l.rebalance.kept l.rebalance.starts i - slice_index l.rebalance.starts i) (slice_index l.rebalance.starts i) l.rebalance.kept, (sane.locals s l knows).ranges.rebalance.few, sane.sized.few_cells)

-- the word is the state of a row
abbrev pub is_state : Name → Bool
is_state (name.State q) = true
is_state _ = false

-- what stays of the infants of seat t, in a table of so many rows: their fates, and their words but
-- for their states, of which the laws of rows say what they are
pub record RelyInfants (z : Sizes) (rows : ℕ) (v v' : Words) (g g' : Ledger) (t : ℕ) : Type 0 where
  pub fates : (q : ℕ) → IsInfantOf g t q → g'.fates q ≡ g.fates q
  pub words : (q : ℕ) → IsInfantOf g t q → q < rows → (n : Name) → row_in n ≡ Some q → is_state n ≡ false → IsWithin z.seats z.cells rows n → v' n ≡ v n

-- where the words of a row stay, what was written of it stands
pub written_stays : (z : Sizes) (rows : ℕ) (v v' : Words) (a : Activity) (l : Local) (q : ℕ) → q < rows → ((n : Name) → row_in n ≡ Some q → is_state n ≡ false → IsWithin z.seats z.cells rows n → v' n ≡ v n) → Written z v a l q → Written z v' a l q
written_stays z rows v v' a l q i same w = record {
  count = λ x. same (name.Count q) refl refl i ∙ w.count x;
  least = λ x. same (name.Least q) refl refl i ∙ w.least x;
  next = λ x. same (name.Next q) refl refl i ∙ w.next x;
  first = λ x. same (name.First q) refl refl i ∙ w.first x;
  entries = λ k o x. same (name.Pend q k) refl refl (i, o) ∙ w.entries k o x;
  keys = λ j o y x. same (name.Key q j) refl refl (i, o) ∙ w.keys j o y x;
  values = λ j o y x. same (name.Value q j) refl refl (i, o) ∙ w.values j o y x;
  versions = λ j o x. same (name.Version q j) refl refl (i, o) ∙ w.versions j o x;
  afters = λ j o y x. same (name.After q j) refl refl (i, o) ∙ w.afters j o y x;
}

-- a row is still an infant of the seat
pub infant_stays : (g g' : Ledger) (t q : ℕ) → g'.fates q ≡ g.fates q → IsInfantOf g t q → IsInfantOf g' t q
infant_stays g g' t q e x = record { status = ap (λ (f : Fate). f.status) e ∙ x.status; owner = ap (λ (f : Fate). f.owner) e ∙ x.owner }

-- rows that are written whole, and the one that is being written, are infants of the seat
pub whole_nursed : (n : Nursing) (l : Local) (i : ℕ) → IsWhole n l i → IsNursed n l i
whole_nursed Writes l i x = tt
whole_nursed Links l i x = tt
whole_nursed _ l i x = absurd x

pub writing_nursed : (n : Nursing) (l : Local) (i : ℕ) → IsWriting n → IsNursed n l i
writing_nursed Writes l i x = tt
writing_nursed _ l i x = absurd x

pub writing_hand : (n : Nursing) → IsWriting n → HasAtHand n
writing_hand Writes x = tt
writing_hand _ x = absurd x

-- the row at hand is the taken one at that place
pub infant_at : (l : Local) → l.rebalance.at < length l.rebalance.taken → slice_get l.rebalance.taken l.rebalance.at ≡ Some (infant l)
infant_at l i = slice_get-get_or l.rebalance.taken l.rebalance.at 0 i

-- the infants of a seat stay
pub infants_stable : (z : Sizes) (rows : ℕ) (v v' : Words) (g g' : Ledger) (t : ℕ) (a : Activity) (l : Local) → RelyInfants z rows v v' g g' t → ((i q : ℕ) → slice_get l.rebalance.taken i ≡ Some q → q < rows) → Infants z v g t a l → Infants z v' g' t a l
infants_stable z rows v v' g g' t a l y inside x = record {
  owned = λ i q n e. let o = x.owned i q n e in infant_stays g g' t q (y.fates q o) o;
  apart = x.apart;
  hand = x.hand;
  enough = x.enough;
  whole = λ i q n e. written_stays z rows v v' (Activity.Rebalance (Rebalance.Replace Replace.Start)) (at_infant i l) q (inside i q e) (y.words q (x.owned i q (whole_nursed (nursing_of a) l i n) e) (inside i q e)) (x.whole i q n e);
  words = λ n.
      let e = infant_at l (x.hand (writing_hand (nursing_of a) n)) in
      let i = inside l.rebalance.at (infant l) e in
      written_stays z rows v v' a l (infant l) i (y.words (infant l) (x.owned l.rebalance.at (infant l) (writing_nursed (nursing_of a) l l.rebalance.at n) e) i) (x.words n);
}

-- a row whose least key the seat knows is one that it may name
pub measured : (a : Activity) (l : Local) → IsMeasured a l → IsSearching a l
measured (Activity.Rebalance (Rebalance.Replace Replace.Next)) l m = tt
measured (Activity.Rebalance (Rebalance.Replace Replace.NextLeast)) l m = tt
measured (Activity.Rebalance (Rebalance.Replace Replace.Exchange)) l m = tt
measured (Activity.Rebalance (Rebalance.Left _)) l m = tt
measured (Activity.Rebalance (Rebalance.Seek Seek.GiveBack)) l m = m
measured _ l m = absurd m

-- the row before the full one stays: it and the full row may be named still, their least keys are
-- as they were, and a dead full row is dead
pub search_stable : (v v' : Words) (g g' : Ledger) (t : ℕ) (a : Activity) (l : Local) → RelyRows v v' g g' t → (IsMeasured a l → IsDead g l.row → IsDead g' l.row) → Search v g t a l → Search v' g' t a l
search_stable v v' g g' t a l y dead x = record {
  some = x.some;
  fresh = λ p s e. y.fresh p (x.fresh p s e);
  least = λ p m e. x.least p m e ∙ sym (y.least p (x.fresh p (measured a l m) e));
  left = λ p m e. which p m (y.least p (x.fresh p (measured a l m) e)) (x.left p m e);
  saw = λ m. y.fresh l.candidate (x.saw m);
}
  where
    which : (p : ℕ) → IsMeasured a l → least_in v' p ≡ least_in v p → IsLeft v g l p → IsLeft v' g' l p
    which p m e (inl o) = inl (omega (arith, e, o))
    which p m e (inr o) = inr (dead m o.0, o.1)
