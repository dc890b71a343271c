-- A stamp keeps what rows show of the stamped puts. At a version that does not show the new put
-- nothing changes. At one that does, the greatest of all is the new put, or a put above it, which
-- has a cell in the row.
use Rattle.std.proofs.Common.{ℕ, ◌≡◌, ◌⊎◌, inl, inr, ◌<◌, ◌≤◌, Some, None, arith, refl, sym, ◌∙◌, ap, subst}
use Rattle.std.proofs.lemmas.Bool.{cases_eq, cases_lt}
use Rattle.kw_kept.specs.Puts.{Puts, StandsBefore, StandsUpTo, Shows}
use Rattle.kw_kept.specs.Kept.{Rows, Kept, Stamps}
use Rattle.kw_kept.proofs.PutOrder.{never_both}
use Rattle.kw_kept.proofs.GreatestPut.{greatest_of_larger, greatest_of_same}
use Rattle.kw_kept.proofs.Shown.{shows_still}

module _ (puts puts' : Puts) (rows rows' : Rows) (row o : ℕ) (s : Stamps puts puts' rows rows' row o) where
  -- each cell is still of a rows.stamped put
  of_row' : (q p : ℕ) → rows'.in_row q p → rows'.stamped p
  of_row' q p i = which (s.row_was q p i)
    where
      which : (p ≡ o) ⊎ rows.in_row q p → rows'.stamped p
      which (inl e) = subst rows'.stamped (sym e) s.new
      which (inr j) = s.old p (s.of_row q p j)

  -- at a version that shows the new put, the row shows what all show
  pub now_shown : (k u : ℕ) → (puts' o).key ≡ k → (puts' o).version ≤ u → Shows puts' (rows'.in_row row) rows'.stamped k u
  now_shown k u e l b None x y = absurd (y.greatest o s.new e l)
  now_shown k u e l b (Some q) x y = inl (greatest_of_larger puts' (rows'.in_row row) rows'.stamped k u b (Some q) x y (of_row' row) q refl (which (s.was q (y.among q refl).0)))
    where
      beyond : StandsUpTo puts' (Some q) o → rows.in_row row q ⊎ StandsBefore puts' q o → rows'.in_row row q
      beyond a (inl i) = s.row_old row q i
      beyond (inl f) (inr c) = let x : StandsBefore puts' o o = subst (λ z. StandsBefore puts' z o) (sym f) c in absurd (never_both puts' o o x x)
      beyond (inr a) (inr c) = absurd (never_both puts' q o c a)

      which : (q ≡ o) ⊎ rows.stamped q → rows'.in_row row q
      which (inl f) = subst (rows'.in_row row) (sym f) s.row_new
      which (inr i) = beyond (y.greatest o s.new e l) (s.elsewhere q i ((y.among q refl).1 ∙ sym e))

  -- where the new put does not show, a row shows what it did
  still_shown : (q k u : ℕ) → ((p : ℕ) → (puts' p).key ≡ k → (puts' p).version ≤ u → p ≡ o → ⊥) → Shows puts (rows.in_row q) rows.stamped k u → Shows puts' (rows'.in_row q) rows'.stamped k u
  still_shown q k u d h b t x y = shows_still puts puts' rows.stamped s.unchanged (rows.in_row q) rows.stamped k u (s.of_row q) (λ p i. i) h b t
      (greatest_of_same puts' (rows'.in_row q) (rows.in_row q) k u u b (λ p e i l. (other (rows.in_row q) p e l (s.row_was q p i), l)) (λ p e i l. (s.row_old q p i, l)) x)
      (greatest_of_same puts' rows'.stamped rows.stamped k u u t (λ p e i l. (other rows.stamped p e l (s.was p i), l)) (λ p e i l. (s.old p i, l)) y)
    where
      other : (P : ℕ → Type 0) (p : ℕ) → (puts' p).key ≡ k → (puts' p).version ≤ u → (p ≡ o) ⊎ P p → P p
      other P p e l (inl f) = absurd (d p e l f)
      other P p e l (inr i) = i

  -- a row that rows.holds a key shows it at a version after the stamp, if it did before
  pub stamp_shown : (q k u : ℕ) → rows'.holds q k → Shows puts (rows.in_row q) rows.stamped k u → Shows puts' (rows'.in_row q) rows'.stamped k u
  stamp_shown q k u m h = which (cases_eq k (puts' o).key) (cases_lt u (puts' o).version)
    where
      which : (k ≡ (puts' o).key) ⊎ (k ≡ (puts' o).key → ⊥) → (u < (puts' o).version) ⊎ ((puts' o).version ≤ u) → Shows puts' (rows'.in_row q) rows'.stamped k u
      which (inl e) (inr l) = subst (λ x. Shows puts' (rows'.in_row x) rows'.stamped k u) (sym (s.alone q (subst (rows'.holds q) e m))) (now_shown k u (sym e) l)
      which (inl e) (inl l) = still_shown q k u (λ p f g i. omega (arith, g, l, ap (λ x. (puts' x).version) i)) h
      which (inr d) l = still_shown q k u (λ p f g i. d (sym f ∙ ap (λ x. (puts' x).key) i)) h

  -- rows that have kept what is needed still have after a stamp
  pub stamp_kept : (needed : ℕ → Type 0) → Kept puts rows needed → Kept puts' rows' needed
  stamp_kept needed h q k u m n = stamp_shown q k u m (h q k u (s.held q k m) n)
