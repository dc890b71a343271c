-- A marked link of a row that is or was in the list stays marked: it is exchanged by nobody, since
-- only an unmarked one is replaced.
use Rattle.std.proofs.Common.{ℕ, ◌≡◌, ◌⊎◌, inl, inr, true, false, Option, None, Some, refl, sym, ◌∙◌, ap, bit_or}
use Rattle.std.proofs.lemmas.Bool.{cases_eq}
use Rattle.std.proofs.lemmas.Option.{same_Some}
use Rattle.kw_words.specs.declared.layout.Name.TheVariants as name
use Rattle.kw_words.specs.declared.link.Link.{Link}
use Rattle.kw_words.specs.declared.sizes.TheConstants.{MARK_BIT}
use Rattle.kw_words.specs.Link.{link_of, link_word}
use Rattle.kw_words.proofs.LinkWords.{link_of_marked}
use Rattle.kw_rows.specs.Rows.{WasLinked}
use Rattle.kw_world.specs.declared.activity.Activity.{Activity}
use Rattle.kw_world.specs.declared.activity.rebalance.claim.Claim.TheVariants as Claim
use Rattle.kw_world.specs.declared.activity.rebalance.engage.Engage.TheVariants as Engage
use Rattle.kw_world.specs.declared.activity.rebalance.Rebalance.TheVariants as Rebalance
use Rattle.kw_world.specs.declared.activity.rebalance.replace.Replace.TheVariants as Replace
use Rattle.kw_world.specs.declared.activity.rebalance.write.Write.TheVariants as Write
use Rattle.kw_world.specs.declared.event.Choice.{Choice}
use Rattle.kw_world.specs.declared.local.Local.{Local}
use Rattle.kw_world.specs.ClaimTransitions.{row_after}
use Rattle.kw_world.specs.ReplaceTransitions.{replaced_link}
use Rattle.kw_world.specs.Sizes.{Sizes}
use Rattle.kw_world.specs.Step.{word}
use Rattle.kw_world.specs.WriteTransitions.{unmarked_link}
use Rattle.kw_core.specs.Run.{Run}
use Rattle.kw_core.proofs.Happens.{Happens, not_exchanged}
use Rattle.kw_core.proofs.InfantFrames.{next_stays}
use Rattle.kw_shape.specs.RowsIn.{has_mark, rows_in}
use Rattle.kw_shape.specs.Shape.{Shape}
use Rattle.kw_shape.proofs.LinkedRows.{found_open, not_hand, was_below}
use Rattle.kw_shape.proofs.RowsKeep.{row_marked}

-- a marked link that is marked again
marked_again : (w : ℕ) (x : Option Link) → link_of w ≡ x → has_mark x ≡ true → has_mark (link_of (bit_or w MARK_BIT)) ≡ true
marked_again w (Some link) e m = ap has_mark (link_of_marked w link e)
marked_again w None e m = let y : false ≡ true = m in absurd (cc)

-- the link of the row is marked
abbrev pub IsMarked : Sizes → Run → ℕ → Type 0
IsMarked z r q = (rows_in (word z r.world)).marked q ≡ true

-- it is, as long as the word of that link stays
kept : (z : Sizes) (r r' : Run) (q : ℕ) → word z r'.world (name.Next q) ≡ word z r.world (name.Next q) → IsMarked z r q → IsMarked z r' q
kept z r r' q e m = ap (λ w. has_mark (link_of w)) e ∙ m

module _ {z : Sizes} {r r' : Run} {s : ℕ} {choice : Choice} {l l' : Local} where
  pub mark_lasts : (a : Activity) → Happens z r r' s choice l l' a → Shape z r → (q : ℕ) → WasLinked r.ledger.rows q → IsMarked z r q → IsMarked z r' q
  mark_lasts (Activity.Rebalance (Rebalance.Engage (Engage.MarkLink count))) h i q k m = which (cases_eq q l.row)
    where
      which : (q ≡ l.row) ⊎ (q ≡ l.row → ⊥) → IsMarked z r' q
      which (inl e) = ap (rows_in (word z r'.world)).marked e ∙ row_marked count h i
      which (inr d) = kept z r r' q (next_stays _ h q (was_below z r i q k) d) m
  mark_lasts (Activity.Rebalance (Rebalance.Claim Claim.MarkLink)) h i q k m = which (cases_eq q (row_after l))
    where
      which : (q ≡ row_after l) ⊎ (q ≡ row_after l → ⊥) → IsMarked z r' q
      which (inl e) =
          let again : IsMarked z r' (row_after l) = ap (λ w. has_mark (link_of w)) h.changed.same ∙ marked_again (word z r.world (name.Next (row_after l))) _ refl (ap (rows_in (word z r.world)).marked (sym e) ∙ m) in
          ap (rows_in (word z r'.world)).marked e ∙ again
      which (inr d) = kept z r r' q (next_stays _ h q (was_below z r i q k) d) m
  mark_lasts (Activity.Rebalance (Rebalance.Write Write.Next)) h i q k m = kept z r r' q (next_stays _ h q (was_below z r i q k) (not_hand _ h i tt q k)) m
  mark_lasts (Activity.Rebalance (Rebalance.Replace Replace.Exchange)) h i q k m = which l.rebalance.before refl
    where
      -- the link that is exchanged is none that is marked
      lost : l.rebalance.before ≡ Some q → word z r.world (replaced_link l.rebalance.before) ≡ link_word (unmarked_link (Some l.row)) → ⊥
      lost e w =
          let unmarked : has_mark (link_of (word z r.world (replaced_link l.rebalance.before))) ≡ false = ap has_mark (found_open h i w) in
          let marked : has_mark (link_of (word z r.world (replaced_link l.rebalance.before))) ≡ true = ap (λ b. has_mark (link_of (word z r.world (replaced_link b)))) e ∙ m in
          let x : false ≡ true = sym unmarked ∙ marked in cc

      same : l.rebalance.before ≡ Some q → word z r'.world (name.Next q) ≡ word z r.world (name.Next q)
      same e = ap (λ b. word z r'.world (replaced_link b)) (sym e) ∙ not_exchanged _ _ _ _ h.changed.same (lost e) ∙ ap (λ b. word z r.world (replaced_link b)) e

      here : (n : ℕ) → l.rebalance.before ≡ Some n → (n ≡ q) ⊎ (n ≡ q → ⊥) → IsMarked z r' q
      here n e (inl f) = kept z r r' q (same (e ∙ ap Some f)) m
      here n e (inr d) = kept z r r' q (next_stays _ h q (was_below z r i q k) (λ u. d (same_Some n q (sym e ∙ u)))) m

      which : (b : Option ℕ) → l.rebalance.before ≡ b → IsMarked z r' q
      which None e = kept z r r' q (next_stays _ h q (was_below z r i q k) (λ u. let y : None ≡ Some q = sym e ∙ u in cc)) m
      which (Some n) e = here n e (cases_eq n q)
  mark_lasts a h i q k m = kept z r r' q (next_stays a h q (was_below z r i q k) (λ u. u)) m
