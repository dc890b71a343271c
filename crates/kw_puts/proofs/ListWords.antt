-- Links between the cells of a row, as words and as what they lead to.
use Rattle.std.proofs.Common.{ℕ, ◌≡◌, ◌≢◌, ◌⊎◌, inl, inr, ◌-◌, ◌≤◌, ◌==◌, nat_le, Bool, true, false, if◌then◌else◌, Option, Some, None, arith, refl, sym, ◌∙◌, ap}
use Rattle.std.proofs.lemmas.Bool.Decides.{nat_tests}
use Rattle.kw_words.specs.declared.sizes.TheConstants.{MOST_CELLS}
use Rattle.kw_words.specs.Plain.{IsCell, cell_link_word, cell_of_link_word}
use Rattle.kw_words.proofs.PlainWords.{cell_of_link_word-cell_link_word}
use Rattle.kw_lists.specs.Changes.{is_same}
use Rattle.kw_lists.specs.Words.{link_in}
use Rattle.kw_lists.proofs.Places.{same_or, same_true}
use Rattle.kw_world.specs.ListTransitions.{link_name}
use Rattle.kw_world.specs.Sane.{IsCellBelow}
use Rattle.kw_core.specs.Words.{Words}

-- what a link holds is what its word leads to
pub link_is : (v : Words) (q : ℕ) (at : Option ℕ) → link_in v q at ≡ cell_of_link_word (v (link_name q at))
link_is v q (Some c) = refl
link_is v q None = refl

-- two links are one, or two
pub link_or : (at x : Option ℕ) → (at ≡ x) ⊎ (at ≢ x)
link_or at x = which (same_or at x)
  where
    which : (at ≡ x) ⊎ (is_same at x ≡ false) → (at ≡ x) ⊎ (at ≢ x)
    which (inl e) = inl e
    which (inr d) = inr (λ e. let f : true ≡ false = sym (same_true at x e) ∙ d in cc)

-- a cell of a row is one that a link may lead to
pub cell_linked : (n : ℕ) (cell : Option ℕ) → IsCellBelow n cell → n ≤ MOST_CELLS → IsCell cell
cell_linked n (Some c) o m = omega (arith, o, m)
cell_linked n None o m = tt

-- a link's word that is no greater than there are cells is that of what it leads to
pub cell_link_word-cell_of_link_word : (w n : ℕ) → w ≤ n → n ≤ MOST_CELLS → cell_link_word (cell_of_link_word w) ≡ w
unfolding cell_of_link_word
cell_link_word-cell_of_link_word w n o m = saw (w == 0) (nat_le w MOST_CELLS) refl refl
  where
    saw : (a b : Bool) → (w == 0) ≡ a → nat_le w MOST_CELLS ≡ b → cell_link_word (if a then None else if b then Some (w - 1) else None) ≡ w
    saw true b e f = grind (arith, nat_tests)
    saw false true e f = grind (arith, nat_tests)
    saw false false e f = absurd (grind (arith, nat_tests))

-- a word that is that of a cell leads there
pub leads_there : (v : Words) (q : ℕ) (at cell : Option ℕ) (n : ℕ) → IsCellBelow n cell → n ≤ MOST_CELLS → v (link_name q at) ≡ cell_link_word cell → link_in v q at ≡ cell
leads_there v q at cell n o m e = link_is v q at ∙ ap cell_of_link_word e ∙ cell_of_link_word-cell_link_word cell (cell_linked n cell o m)

-- and any other word leads elsewhere
pub leads_elsewhere : (v : Words) (q : ℕ) (at cell : Option ℕ) (n : ℕ) → v (link_name q at) ≤ n → n ≤ MOST_CELLS → v (link_name q at) ≢ cell_link_word cell → link_in v q at ≢ cell
leads_elsewhere v q at cell n o m d e = d (sym (cell_link_word-cell_of_link_word (v (link_name q at)) n o m) ∙ ap cell_link_word (sym (link_is v q at) ∙ e))
