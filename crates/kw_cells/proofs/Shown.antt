-- What a version shows of the kept cells is what it shows of all.
use Rattle.std.proofs.Common.{ℕ, true, false, ◌≡◌, ◌<◌, ◌≤◌, Option, Some, None, List, refl, sym, ap, subst, ◌∙◌, arith, All, Any, Contains, is_some, get_or, inl, inr, ◌⊎◌}
use Rattle.std.proofs.lemmas.List.Elements.{All-contains, Contains-get_or}
use Rattle.std.proofs.lemmas.Bool.Decides.{nat_tests}
use Rattle.kw_cells.specs.Cells.{is_later, IsBest, best_of, AreApart, value_in, shown_at}
use Rattle.kw_cells.specs.Kept.{IsNewest, IsChosen, IsKept, IsKeptList, ShowsTheSame}
use Rattle.kw_cells.specs.declared.cell.Cell.{Cell}
use Rattle.kw_cells.proofs.Best.{best_is, best_of-best, best_of-none, none_fits}

-- each kept cell is a given one
pub kept_given : (cells : List Cell) (needed : List ℕ) (kept : List Cell) → IsKeptList cells needed kept → All (Contains cells) kept
kept_given cells needed kept list i d l = ((list.exactly (get_or kept i d)).0 (Contains-get_or kept i d l)).0.0

-- at a needed version, and at one that no cell is above, each key shows the same, or no value in
-- both
pub shows_the_same : (cells : List Cell) (needed : List ℕ) (kept : List Cell) → AreApart cells → IsKeptList cells needed kept → (key u : ℕ) → Contains needed u ⊎ All (λ c. c.version ≤ u) cells → ShowsTheSame cells kept key u
shows_the_same cells needed kept apart list key u at = go (best_of cells key u) refl (best_of kept key u) refl
  where
    in_cells : (c : Cell) → Contains kept c → Contains cells c
    in_cells c h = ((list.exactly c).0 h).0.0

    -- what holds of each cell holds of each kept one
    all_kept : (P : Cell → Type 0) → All P cells → All P kept
    all_kept P h k d l = All-contains P cells (get_or kept k d) h (in_cells (get_or kept k d) (Contains-get_or kept k d l))

    chosen : (b : Cell) → IsBest cells key u b → IsChosen cells needed b
    chosen b i = (i.among, which at)
      where
        which : Contains needed u ⊎ All (λ c. c.version ≤ u) cells → IsNewest cells b ⊎ Any (λ v. IsBest cells b.key v b) needed
        which (inl (k, l, e)) = inr (k, u, l, e, subst (λ (q : ℕ). IsBest cells q u b) (sym i.of_key) i)
        which (inr all) = inl (λ k d l same. i.greatest k d l (same ∙ i.of_key) (all k d l))

    best_kept : (b : Cell) → IsBest cells key u b → IsKept cells needed b → best_of kept key u ≡ Some b
    best_kept b i h =
        let greatest : All (λ d. d.key ≡ key → d.version ≤ u → is_later d b ≡ false) kept = all_kept (λ d. d.key ≡ key → d.version ≤ u → is_later d b ≡ false) i.greatest in
        best_of-best kept key u b (λ c d p q. apart c d (in_cells c p) (in_cells d q)) (record { among = (list.exactly b).1 h; of_key = i.of_key; in_bound = i.in_bound; greatest = greatest })

    go : (o : Option Cell) → best_of cells key u ≡ o → (p : Option Cell) → best_of kept key u ≡ p → (best_of kept key u ≡ best_of cells key u) ⊎ ((shown_at kept u key ≡ None) × (shown_at cells u key ≡ None))
    go None e p f = inl (best_of-none kept key u (all_kept (λ c. c.key ≡ key → u < c.version) (none_fits cells key u e)) ∙ sym e)
    go (Some b) e None f = inr (ap value_in f, ap value_in e ∙ bare b.value refl)
      where
        bare : (v : Option ℕ) → b.value ≡ v → b.value ≡ None
        bare None g = g
        bare (Some v) g =
            let i = best_is cells key u b e in
            let c = chosen b i in
            let r = best_kept b i (c, (i.among.0, b, i.among.1, i.among.2, (refl, omega arith, c, ap is_some g))) in
            absurd (let n : None ≡ Some b = sym f ∙ r in cc)
    go (Some b) e (Some k) f =
        let i = best_is cells key u b e in
        let j = best_is kept key u k f in
        inl (best_kept b i (chosen b i, low i j ((list.exactly k).0 j.among).1) ∙ sym e)
      where
        low : IsBest cells key u b → IsBest kept key u k → Any (λ d. (d.key ≡ k.key) × (d.version ≤ k.version) × IsChosen cells needed d × (is_some d.value ≡ true)) cells → Any (λ d. (d.key ≡ b.key) × (d.version ≤ b.version) × IsChosen cells needed d × (is_some d.value ≡ true)) cells
        low i j (m, d, l, s, (same, le, ch, val)) =
            let of_key : d.key ≡ key = same ∙ j.of_key in
            let bound : d.version ≤ u = let w = j.in_bound in omega arith in
            let g : is_later d b ≡ false = All-contains (λ x. x.key ≡ key → x.version ≤ u → is_later x b ≡ false) cells d i.greatest (m, l, s) of_key bound in
            let v : d.version ≤ b.version = grind (arith, nat_tests) in
            (m, d, l, s, (of_key ∙ sym i.of_key, v, ch, val))
