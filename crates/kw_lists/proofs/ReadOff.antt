-- Rows that are read off the words.
use Rattle.std.proofs.Common.{ℕ, ◌≡◌, ◌⊎◌, inl, inr, Bool, true, false, Option, Some, None, refl, sym, ◌∙◌, ap, subst}
use Rattle.kw_words.specs.declared.layout.Name.{Name}
use Rattle.kw_words.specs.Plain.{key_of_word, cell_of_link_word}
use Rattle.kw_lists.specs.Rows.{IsOn}
use Rattle.kw_lists.specs.Changes.{is_same, with_link, with_cell, inserted, SameCell, Agree}
use Rattle.kw_lists.specs.Words.{link_in, row_in, SameWords, KeepsList, LinksIn}
use Rattle.kw_lists.proofs.Places.{same_or, same_self, link_here, link_else}

module _ (v w : Name → ℕ) (r : ℕ) (listed : ℕ → Bool) where
  -- words that are what they were make the cell that it was
  same_words : (later : ℕ → Bool) (c : ℕ) → SameWords v w r c → SameCell (row_in v r listed) (row_in w r later) c
  same_words later c s = record { key = ap key_of_word s.key; version = s.version }

  -- rows whose words of the list are what they were agree
  pub keeping_agrees : KeepsList v w r listed → Agree (row_in v r listed) (row_in w r listed)
  keeping_agrees k = record { listed = λ c. refl; link = links; cell = λ c e. same_words listed c (k.cell c e) }
    where
      links : (at : Option ℕ) → IsOn (row_in v r listed) at → link_in w r at ≡ link_in v r at
      links None o = ap cell_of_link_word k.first
      links (Some c) o = ap cell_of_link_word (k.after c o)

  module _ (at : Option ℕ) (c : ℕ) (k : LinksIn v w r listed at c) where
    -- every other link is what it was
    other_link : (x : Option ℕ) → IsOn (inserted (row_in v r listed) at c) x → is_same x at ≡ false → link_in w r x ≡ link_in v r x
    other_link None o e = which at refl
      where
        which : (y : Option ℕ) → at ≡ y → link_in w r None ≡ link_in v r None
        which None q = let f : true ≡ false = ap (is_same None) (sym q) ∙ e in absurd (cc)
        which (Some a) q = ap cell_of_link_word (k.first a q)
    other_link (Some d) o e = ap cell_of_link_word (k.after d o (λ q. let f : true ≡ false = sym (same_self (Some d)) ∙ ap (is_same (Some d)) (sym q) ∙ e in absurd (cc)))

    -- a link to one cell more makes the row in which this is linked in
    pub linking_agrees : Agree (inserted (row_in v r listed) at c) (row_in w r (with_cell listed c))
    linking_agrees = record { listed = λ d. refl; link = λ x o. which x o (same_or x at); cell = λ d e. let s = same_words (with_cell listed c) d (k.cell d e) in record { key = s.key; version = s.version } }
      where
        which : (x : Option ℕ) → IsOn (inserted (row_in v r listed) at c) x → (x ≡ at) ⊎ (is_same x at ≡ false) → link_in w r x ≡ with_link (link_in v r) at (Some c) x
        which x o (inl q) = subst (λ y. link_in w r y ≡ with_link (link_in v r) at (Some c) y) (sym q) (k.new ∙ sym (link_here (link_in v r) at (Some c)))
        which x o (inr q) = other_link x o q ∙ sym (link_else (link_in v r) at (Some c) x q)
