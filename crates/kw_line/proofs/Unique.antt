-- Bytes are the lines of one list of items at most.
use Rattle.std.proofs.Common.{ℕ, suc, ◌≡◌, List, [], ◌∷◌, ◌++◌, map, length, codes, refl, sym, ap, ◌∙◌, arith}
use Rattle.std.specs.Fmt.{decimal}
use Rattle.std.specs.List.{AllByRecursion}
use Rattle.std.proofs.lemmas.Fmt.{decimal_injective}
use Rattle.kw_model.specs.declared.call.Call.{Call}
use Rattle.kw_model.specs.declared.call.Call.TheVariants as call
use Rattle.kw_line.specs.declared.item.Form.{Form}
use Rattle.kw_line.specs.declared.item.Form.TheVariants as form
use Rattle.kw_line.specs.declared.item.Item.{Item}
use Rattle.kw_line.specs.declared.item.Item.TheVariants as item
use Rattle.kw_line.specs.Cut.{words}
use Rattle.kw_line.specs.Line.{form_word, arguments, IsCallOf, FitsCall, IsItem, item_words, item_text, IsText, AreLinesOf, IsFirstBadLine}
use Rattle.kw_line.proofs.Texts.{words-item_text, form_word_injective, form_word_not_wait}

-- which call a line makes, by its form
kind : Call → ℕ
kind (call.Put k v) = 0
kind (call.Del k) = 1
kind (call.Get k) = 2
kind (call.Scan a b) = 3
kind call.Pin = 4
kind (call.ScanAt a b) = 5
kind call.Unpin = 6

kind_of : Form → ℕ
kind_of form.Put = 0
kind_of form.Del = 1
kind_of form.Get = 2
kind_of _ = 3

kind_is : (f : Form) (c : Call) → IsCallOf f c → kind c ≡ kind_of f
unfolding kind kind_of
kind_is form.Put (call.Put k v) h = refl
kind_is form.Del (call.Del k) h = refl
kind_is form.Get (call.Get k) h = refl
kind_is form.Sum (call.Scan a b) h = refl
kind_is form.Count (call.Scan a b) h = refl
kind_is form.Least (call.Scan a b) h = refl
kind_is form.Greatest (call.Scan a b) h = refl
kind_is form.List (call.Scan a b) h = refl
kind_is _ _ h = absurd h

-- calls of one kind with the same numbers are one
same_call : (c d : Call) → kind c ≡ kind d → FitsCall c → FitsCall d → map decimal (arguments c) ≡ map decimal (arguments d) → c ≡ d
unfolding kind
same_call (call.Put k v) (call.Put m w) s h g e =
    let a : decimal k ≡ decimal m = cc in
    let b : decimal v ≡ decimal w = cc in
    let x = decimal_injective k m (omega (arith, h.0)) (omega (arith, g.0)) a in
    let y = decimal_injective v w (omega (arith, h.1)) (omega (arith, g.1)) b in
    cc
same_call (call.Del k) (call.Del m) s h g e =
    let a : decimal k ≡ decimal m = cc in
    let x = decimal_injective k m (omega (arith, h)) (omega (arith, g)) a in
    cc
same_call (call.Get k) (call.Get m) s h g e =
    let a : decimal k ≡ decimal m = cc in
    let x = decimal_injective k m (omega (arith, h)) (omega (arith, g)) a in
    cc
same_call (call.Scan a b) (call.Scan m w) s h g e =
    let i : decimal a ≡ decimal m = cc in
    let j : decimal b ≡ decimal w = cc in
    let x = decimal_injective a m (omega (arith, h.0)) (omega (arith, g.0)) i in
    let y = decimal_injective b w (omega (arith, h.1)) (omega (arith, g.1)) j in
    cc
same_call call.Pin d s h g e = absurd h
same_call (call.ScanAt a b) d s h g e = absurd h
same_call call.Unpin d s h g e = absurd h
same_call _ _ s h g e = absurd (omega (arith, s))

-- two items with one text are one
same_words : (i j : Item) → IsItem i → IsItem j → item_words i ≡ item_words j → i ≡ j
same_words (item.Call c f) (item.Call d g) h k e =
    let word : form_word f ≡ form_word g = cc in
    let numbers : map decimal (arguments c) ≡ map decimal (arguments d) = cc in
    let forms = form_word_injective f g word in
    let kinds : kind c ≡ kind d = kind_is f c h.0 ∙ (ap kind_of forms ∙ sym (kind_is g d k.0)) in
    let calls = same_call c d kinds h.1 k.1 numbers in
    cc
same_words (item.Call c f) item.Wait h k e = let word : form_word f ≡ codes "wait" = cc in absurd (form_word_not_wait f word)
same_words item.Wait (item.Call d g) h k e = let word : form_word g ≡ codes "wait" = cc in absurd (form_word_not_wait g word)
same_words item.Wait item.Wait h k e = refl

pub item_text_injective : (i j : Item) → IsItem i → IsItem j → item_text i ≡ item_text j → i ≡ j
item_text_injective i j h k e = same_words i j h k (sym (words-item_text i h) ∙ (ap words e ∙ words-item_text j k))

-- lists of items whose texts are the same lines are one
same_texts : (is js : List Item) → AllByRecursion IsItem is → AllByRecursion IsItem js → map item_text is ≡ map item_text js → is ≡ js
same_texts [] [] h k e = refl
same_texts [] (j ∷ js) h k e = cc
same_texts (i ∷ is) [] h k e = cc
same_texts (i ∷ is) (j ∷ js) h k e =
    let first : item_text i ≡ item_text j = cc in
    let others : map item_text is ≡ map item_text js = cc in
    let a = item_text_injective i j h.0 k.0 first in
    let b = same_texts is js h.1 k.1 others in
    cc

-- bytes have one list of items at most
pub same_items : (bytes : List ℕ) (is js : List Item) → AreLinesOf bytes is → AreLinesOf bytes js → is ≡ js
same_items bytes is js h k = same_texts is js h.each k.each (sym h.texts ∙ k.texts)

-- lines that are texts, as far as a line that is none
bad_among : (is before : List Item) (line : List ℕ) (after : List (List ℕ)) → AllByRecursion IsItem is → (IsText line → ⊥) → map item_text is ≡ map item_text before ++ line ∷ after → ⊥
bad_among [] [] line after h b e = cc
bad_among [] (j ∷ js) line after h b e = cc
bad_among (i ∷ is) [] line after h b e = let first : line ≡ item_text i = cc in b (i, h.0, first)
bad_among (i ∷ is) (j ∷ js) line after h b e = let others : map item_text is ≡ map item_text js ++ line ∷ after = cc in bad_among is js line after h.1 b others

-- no bytes have both items and a bad line
pub items_or_bad : (bytes : List ℕ) (is : List Item) (number : ℕ) → AreLinesOf bytes is → IsFirstBadLine bytes number → ⊥
items_or_bad bytes is number h k = bad_among is k.before k.line k.after h.each k.bad (sym h.texts ∙ k.cut)

-- and there is one first bad line at most
same_place : (is js : List Item) (x y : List ℕ) (xs ys : List (List ℕ)) → AllByRecursion IsItem is → AllByRecursion IsItem js → (IsText x → ⊥) → (IsText y → ⊥) → map item_text is ++ x ∷ xs ≡ map item_text js ++ y ∷ ys → length is ≡ length js
same_place [] [] x y xs ys h k b d e = refl
same_place [] (j ∷ js) x y xs ys h k b d e = let first : x ≡ item_text j = cc in absurd (b (j, k.0, first))
same_place (i ∷ is) [] x y xs ys h k b d e = let first : y ≡ item_text i = cc in absurd (d (i, h.0, first))
same_place (i ∷ is) (j ∷ js) x y xs ys h k b d e =
    let others : map item_text is ++ x ∷ xs ≡ map item_text js ++ y ∷ ys = cc in
    ap suc (same_place is js x y xs ys h.1 k.1 b d others)

pub same_bad : (bytes : List ℕ) (m n : ℕ) → IsFirstBadLine bytes m → IsFirstBadLine bytes n → m ≡ n
same_bad bytes m n h k =
    let place = same_place h.before k.before h.line k.line h.after k.after h.each k.each h.bad k.bad (sym h.cut ∙ k.cut) in
    omega (arith, place, h.number_is, k.number_is)
