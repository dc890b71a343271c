-- What a seat knows of its infants after each event of its own that takes, writes, links or gives
-- back rows.
use Rattle.std.proofs.Common.{ℕ, ◌≡◌, ◌⊎◌, inl, inr, ◌<◌, ◌≤◌, ◌++◌, List, [], ◌∷◌, Some, arith, refl, sym, ◌∙◌, ap, subst, length, length-append, slice_get, get_or}
use Rattle.std.proofs.lemmas.Bool.{cases_eq, cases_lt}
use Rattle.std.proofs.lemmas.List.{get_or_append_left}
use Rattle.std.proofs.lemmas.Option.{get_or_from_slice_get, same_Some, slice_get-get_or, slice_get_within}
use Rattle.std.proofs.Math.Seq.{get_or-append_seam}
use Rattle.kw_rows.specs.Ledger.{Ledger}
use Rattle.kw_world.specs.declared.activity.Activity.{Activity}
use Rattle.kw_world.specs.declared.activity.rebalance.engage.Engage.TheVariants as Engage
use Rattle.kw_world.specs.declared.activity.rebalance.Rebalance.TheVariants as Rebalance
use Rattle.kw_world.specs.declared.activity.rebalance.replace.Replace.TheVariants as Replace
use Rattle.kw_world.specs.declared.activity.rebalance.seek.Seek.TheVariants as Seek
use Rattle.kw_world.specs.declared.activity.rebalance.write.Write.TheVariants as Write
use Rattle.kw_world.specs.declared.local.Local.{Local}
use Rattle.kw_world.specs.declared.rebalance.Afterwards.{Afterwards}
use Rattle.kw_world.specs.SeekTransitions.{at_infant, infant}
use Rattle.kw_world.specs.Sizes.{Sizes}
use Rattle.kw_core.specs.Words.{Words}
use Rattle.kw_core.proofs.NextBuilt.{GivenBack, is_refused_rows, moves_left, tries_again, NextBack, gives_back, has_none, NextPass, has_looked, looks_on, NextSeek, asks, has_asked, NextTaken, has_enough, wants_more, NextNewCell, empties, fills, has_cells, NextNewEntry, has_entries, writes_idle, NextNewRow, has_written, writes_row, was_done, was_served}
use Rattle.kw_shape.proofs.InfantsStay.{infant_at}
use Rattle.kw_shape.proofs.InfantsWritten.{cells_done, cells_end, entries_done, written_like}
use Rattle.kw_shape.specs.Infants.{HasNone, Takes, Writes, Links, HasAtHand, HasAll, Infants, IsInfantOf, IsNursed, IsWhole, IsWriting, Written, nursing_of}

-- an element of a list with one more is one of the list, or that one
pub got_more : (xs : List ℕ) (x i q : ℕ) → slice_get (xs ++ x ∷ []) i ≡ Some q → (slice_get xs i ≡ Some q) ⊎ (i ≡ length xs) × (q ≡ x)
got_more xs x i q e = which (cases_lt i (length xs))
  where
    there : get_or (xs ++ x ∷ []) i 0 ≡ q
    there = get_or_from_slice_get (xs ++ x ∷ []) i q 0 e

    last : length xs ≤ i → i ≡ length xs
    last o = omega (arith, o, slice_get_within (xs ++ x ∷ []) i q e, length-append xs (x ∷ []))

    which : (i < length xs) ⊎ (length xs ≤ i) → (slice_get xs i ≡ Some q) ⊎ (i ≡ length xs) × (q ≡ x)
    which (inl o) = inl (slice_get-get_or xs i 0 o ∙ ap Some (sym (get_or_append_left xs (x ∷ []) 0 i o) ∙ there))
    which (inr o) = inr (last o, sym there ∙ ap (λ (n : ℕ). get_or (xs ++ x ∷ []) n 0) (last o) ∙ get_or-append_seam xs x [] 0)

-- The rows that a seat took.

-- all of them are its infants, and differ
pub record Own (g : Ledger) (t : ℕ) (taken : List ℕ) : Type 0 where
  pub owned : (i q : ℕ) → slice_get taken i ≡ Some q → IsInfantOf g t q
  pub apart : (i j q : ℕ) → slice_get taken i ≡ Some q → slice_get taken j ≡ Some q → i ≡ j

-- and those before the one at hand are written whole, and of that one so much
pub record Wrote (z : Sizes) (v : Words) (g : Ledger) (t : ℕ) (l : Local) (b : Activity) : Type 0 where
  pub own : Own g t l.rebalance.taken
  pub hand : l.rebalance.at < length l.rebalance.taken
  pub enough : length l.rebalance.starts ≤ length l.rebalance.taken
  pub whole : (i q : ℕ) → i < l.rebalance.at → slice_get l.rebalance.taken i ≡ Some q → Written z v (Activity.Rebalance (Rebalance.Replace Replace.Start)) (at_infant i l) q
  pub words : Written z v b l (infant l)

module _ (z : Sizes) (v : Words) (g : Ledger) (t : ℕ) where
  -- a seat that has none
  pub nowhere : (b : Activity) (k : Local) → nursing_of b ≡ HasNone → Infants z v g t b k
  nowhere b k e = record {
    owned = λ i q n f. absurd (subst (λ m. IsNursed m k i) e n);
    apart = λ i j q n m f h. absurd (subst (λ x. IsNursed x k i) e n);
    hand = λ n. absurd (subst HasAtHand e n);
    enough = λ n. absurd (subst HasAll e n);
    whole = λ i q n f. absurd (subst (λ m. IsWhole m k i) e n);
    words = λ n. absurd (subst IsWriting e n);
  }

  -- one that seeks rows
  pub seeking : (b : Activity) (k : Local) → nursing_of b ≡ Takes → Own g t k.rebalance.taken → Infants z v g t b k
  seeking b k e o = record {
    owned = λ i q n f. o.owned i q f;
    apart = λ i j q n m f h. o.apart i j q f h;
    hand = λ n. absurd (subst HasAtHand e n);
    enough = λ n. absurd (subst HasAll e n);
    whole = λ i q n f. absurd (subst (λ m. IsWhole m k i) e n);
    words = λ n. absurd (subst IsWriting e n);
  }

  -- one that gives them back
  pub giving : (k : Local) → k.rebalance.at < length k.rebalance.taken → Own g t k.rebalance.taken → Infants z v g t (Activity.Rebalance (Rebalance.Seek Seek.GiveBack)) k
  giving k h o = record {
    owned = λ i q n f. o.owned i q f;
    apart = λ i j q n m f e. o.apart i j q f e;
    hand = λ n. h;
    enough = λ n. absurd n;
    whole = λ i q n f. absurd n;
    words = λ n. absurd n;
  }

  -- one that begins to write the row at hand
  pub begins_row : (k : Local) → k.rebalance.at < length k.rebalance.taken → length k.rebalance.starts ≤ length k.rebalance.taken → Own g t k.rebalance.taken →
      ((i q : ℕ) → i < k.rebalance.at → slice_get k.rebalance.taken i ≡ Some q → Written z v (Activity.Rebalance (Rebalance.Replace Replace.Start)) (at_infant i k) q) → Infants z v g t (Activity.Rebalance (Rebalance.Write Write.Count)) k
  begins_row k h m o w = record {
    owned = λ i q n f. o.owned i q f;
    apart = λ i j q n c f e. o.apart i j q f e;
    hand = λ n. h;
    enough = λ n. (omega (arith, h), m);
    whole = λ i q n f. w i q n f;
    words = λ n. record { count = λ x. absurd x; least = λ x. absurd x; next = λ x. absurd x; first = λ x. absurd x; entries = λ i c x. absurd x; keys = λ j c p x. absurd x; values = λ j c p x. absurd x; versions = λ j c x. absurd x; afters = λ j c p x. absurd x };
  }

  -- one that goes on to write it
  pub at_writing : (b : Activity) (l : Local) → nursing_of b ≡ Writes → Wrote z v g t l b → Infants z v g t b (record l { activity = b })
  at_writing b l e w = record {
    owned = λ i q n f. w.own.owned i q f;
    apart = λ i j q n m f h. w.own.apart i j q f h;
    hand = λ n. w.hand;
    enough = λ n. (omega (arith, w.hand), w.enough);
    whole = λ i q n f. written_like z v (Activity.Rebalance (Rebalance.Replace Replace.Start)) (at_infant i l) (at_infant i (record l { activity = b })) q refl refl refl (w.whole i q (subst (λ m. IsWhole m (record l { activity = b }) i) e n) f);
    words = λ n. written_like z v b l (record l { activity = b }) (infant l) refl refl refl w.words;
  }

  -- one that has written all
  pub linking : (b : Activity) (k : Local) → nursing_of b ≡ Links → (0 < length k.rebalance.taken) × (length k.rebalance.starts ≤ length k.rebalance.taken) → Own g t k.rebalance.taken →
      ((i q : ℕ) → slice_get k.rebalance.taken i ≡ Some q → Written z v (Activity.Rebalance (Rebalance.Replace Replace.Start)) (at_infant i k) q) → Infants z v g t b k
  linking b k e m o w = record {
    owned = λ i q n f. o.owned i q f;
    apart = λ i j q n c f h. o.apart i j q f h;
    hand = λ n. absurd (subst HasAtHand e n);
    enough = λ n. m;
    whole = λ i q n f. w i q f;
    words = λ n. absurd (subst IsWriting e n);
  }

  -- What follows where a part has no event of its own.

  pub given_on : (c : Afterwards) (k next : Local) → GivenBack k c next → Infants z v g t next.activity next
  given_on c k next (tries_again nd) = nowhere Activity.Retry _ refl
  given_on c k next (was_done dn) = nowhere (Activity.Leave _) _ refl
  given_on c k next (is_refused_rows nd) = nowhere (Activity.Leave _) _ refl
  given_on c k next (was_served dn) = nowhere (Activity.Leave _) _ refl
  given_on c k next moves_left = nowhere (Activity.Rebalance (Rebalance.Engage Engage.Clock)) _ refl

  pub back_on : (c : Afterwards) (k next : Local) → NextBack c k next → Own g t k.rebalance.taken → Infants z v g t next.activity next
  back_on c k next (gives_back o) x = giving _ o x
  back_on c k next (has_none m o y) x = given_on c k next y

  pub seek_on : (rows : ℕ) (k next : Local) → NextSeek rows k next → Own g t k.rebalance.taken → Infants z v g t next.activity next
  seek_on rows k next (asks o) x = seeking (Activity.Rebalance (Rebalance.Seek Seek.Next)) _ refl x
  seek_on rows k next (has_asked m o y) x = back_on _ k next y x

  pub pass_on : (i : ℕ) (k next : Local) → NextPass z i k next → Own g t k.rebalance.taken → Infants z v g t next.activity next
  pass_on i k next (looks_on o) x = seeking (Activity.Rebalance (Rebalance.Seek (Seek.Pass i))) _ refl x
  pass_on i k next (has_looked o) x = seeking (Activity.Rebalance (Rebalance.Seek Seek.Reclaim)) _ refl x

  pub taken_on : (rows : ℕ) (k next : Local) → NextTaken rows k next → Own g t k.rebalance.taken → 0 < length k.rebalance.taken → Infants z v g t next.activity next
  taken_on rows k next (wants_more m o y) x c = seek_on rows k next y x
  taken_on rows k next (has_enough o) x c = begins_row _ c o x (λ i q n f. absurd (omega (arith, n)))

  -- a row up to the one at hand, which is whole now
  up_to : (l : Local) → Wrote z v g t l (Activity.Rebalance (Rebalance.Replace Replace.Start)) → (i q : ℕ) → i ≤ l.rebalance.at → slice_get l.rebalance.taken i ≡ Some q → Written z v (Activity.Rebalance (Rebalance.Replace Replace.Start)) (at_infant i l) q
  up_to l w i q o f = which (cases_eq i l.rebalance.at)
    where
      which : (i ≡ l.rebalance.at) ⊎ (i ≡ l.rebalance.at → ⊥) → Written z v (Activity.Rebalance (Rebalance.Replace Replace.Start)) (at_infant i l) q
      which (inl e) =
          let s : slice_get l.rebalance.taken l.rebalance.at ≡ Some q = subst (λ n. slice_get l.rebalance.taken n ≡ Some q) e f in
          let y : infant l ≡ q = same_Some (infant l) q (sym (infant_at l w.hand) ∙ s) in
          subst (λ n. Written z v (Activity.Rebalance (Rebalance.Replace Replace.Start)) (at_infant n l) q) (sym e) (subst (Written z v (Activity.Rebalance (Rebalance.Replace Replace.Start)) (at_infant l.rebalance.at l)) y (written_like z v (Activity.Rebalance (Rebalance.Replace Replace.Start)) l (at_infant l.rebalance.at l) (infant l) refl refl refl w.words))
      which (inr d) = w.whole i q (omega (arith, o, d)) f

  pub row_on : (l next : Local) → NextNewRow l next → Wrote z v g t l (Activity.Rebalance (Rebalance.Replace Replace.Start)) → Infants z v g t next.activity next
  row_on l next (writes_row o) w = begins_row _ o w.enough w.own (λ i q n f. written_like z v (Activity.Rebalance (Rebalance.Replace Replace.Start)) (at_infant i l) _ q refl refl refl (up_to l w i q (omega (arith, n)) f))
  row_on l next (has_written o) w = linking (Activity.Rebalance (Rebalance.Replace Replace.Start)) _ refl (omega (arith, w.hand), w.enough) w.own
      (λ i q f. written_like z v (Activity.Rebalance (Rebalance.Replace Replace.Start)) (at_infant i l) _ q refl refl refl (up_to l w i q (omega (arith, o, slice_get_within l.rebalance.taken i q f)) f))

  -- so much of the row at hand is written, by other words
  wrote_more : (l : Local) (b c : Activity) → (Written z v b l (infant l) → Written z v c l (infant l)) → Wrote z v g t l b → Wrote z v g t l c
  wrote_more l b c f w = record { own = w.own; hand = w.hand; enough = w.enough; whole = w.whole; words = f w.words }

  pub cell_on : (j : ℕ) (l next : Local) → NextNewCell z j l next → Wrote z v g t l (Activity.Rebalance (Rebalance.Write (Write.Key j))) → Infants z v g t next.activity next
  cell_on j l next (fills o p) w = at_writing (Activity.Rebalance (Rebalance.Write (Write.Key j))) l refl w
  cell_on j l next (empties o p) w = at_writing (Activity.Rebalance (Rebalance.Write (Write.Version j))) l refl (wrote_more l (Activity.Rebalance (Rebalance.Write (Write.Key j))) (Activity.Rebalance (Rebalance.Write (Write.Version j))) (cells_end z v l (infant l) j p) w)
  cell_on j l next (has_cells m o y) w = row_on l next y (wrote_more l (Activity.Rebalance (Rebalance.Write (Write.Key j))) (Activity.Rebalance (Rebalance.Replace Replace.Start)) (cells_done z v l (infant l) j o) w)

  pub entry_on : (i : ℕ) (l next : Local) → NextNewEntry z i l next → Wrote z v g t l (Activity.Rebalance (Rebalance.Write (Write.Entry i))) → Infants z v g t next.activity next
  entry_on i l next (writes_idle o) w = at_writing (Activity.Rebalance (Rebalance.Write (Write.Entry i))) l refl w
  entry_on i l next (has_entries m o y) w = cell_on 0 l next y (wrote_more l (Activity.Rebalance (Rebalance.Write (Write.Entry i))) (Activity.Rebalance (Rebalance.Write (Write.Key 0))) (entries_done z v l (infant l) i o) w)
