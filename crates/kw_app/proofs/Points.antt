-- Lines of metric points: an input has items or a first bad line, and one first bad line at most.
use Rattle.std.proofs.Common.{ℕ, suc, ◌≡◌, List, [], ◌∷◌, ◌++◌, map, length, refl, sym, ap, ◌∙◌, arith}
use Rattle.std.specs.List.{AllByRecursion}
use Rattle.kw_rollup.specs.declared.item.RollItem.{RollItem}
use Rattle.kw_rollup.specs.Lines.{AreRollLines, IsFirstBadRollLine, IsRollItem, IsRollText, roll_text}

-- lines that are texts, as far as a line that is none
bad_among : (is before : List RollItem) (line : List ℕ) (after : List (List ℕ)) → AllByRecursion IsRollItem is → (IsRollText line → ⊥) → map roll_text is ≡ map roll_text before ++ line ∷ after → ⊥
bad_among [] [] line after h b e = cc
bad_among [] (j ∷ js) line after h b e = cc
bad_among (i ∷ is) [] line after h b e = let first : line ≡ roll_text i = cc in b (i, h.0, first)
bad_among (i ∷ is) (j ∷ js) line after h b e = let others : map roll_text is ≡ map roll_text js ++ line ∷ after = cc in bad_among is js line after h.1 b others

-- no bytes have both items and a bad line
pub roll_items_or_bad : (bytes : List ℕ) (is : List RollItem) (number : ℕ) → AreRollLines bytes is → IsFirstBadRollLine bytes number → ⊥
roll_items_or_bad bytes is number h k = bad_among is k.before k.line k.after h.each k.bad (sym h.texts ∙ k.cut)

-- two lists of lines that are texts, each before a line that is none, are equally long
same_place : (is js : List RollItem) (x y : List ℕ) (xs ys : List (List ℕ)) → AllByRecursion IsRollItem is → AllByRecursion IsRollItem js → (IsRollText x → ⊥) → (IsRollText y → ⊥)
    → map roll_text is ++ x ∷ xs ≡ map roll_text js ++ y ∷ ys → length is ≡ length js
same_place [] [] x y xs ys h k b d e = refl
same_place [] (j ∷ js) x y xs ys h k b d e = let first : x ≡ roll_text j = cc in absurd (b (j, k.0, first))
same_place (i ∷ is) [] x y xs ys h k b d e = let first : y ≡ roll_text i = cc in absurd (d (i, h.0, first))
same_place (i ∷ is) (j ∷ js) x y xs ys h k b d e =
    let others : map roll_text is ++ x ∷ xs ≡ map roll_text js ++ y ∷ ys = cc in
    ap suc (same_place is js x y xs ys h.1 k.1 b d others)

-- there is one first bad line at most
pub same_bad_roll_line : (bytes : List ℕ) (m n : ℕ) → IsFirstBadRollLine bytes m → IsFirstBadRollLine bytes n → m ≡ n
same_bad_roll_line bytes m n h k =
    let place = same_place h.before k.before h.line k.line h.after k.after h.each k.each h.bad k.bad (sym h.cut ∙ k.cut) in
    omega (arith, place, h.number_is, k.number_is)
