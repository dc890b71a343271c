-- The words of an item's text, and which lines are texts.
use Rattle.std.proofs.Common.{ℕ, ◌≡◌, ◌≢◌, ◌<◌, ◌≤◌, ◌+◌, ◌-◌, ◌^◌, List, [], ◌∷◌, ◌++◌, map, take, drop, get_or, Option, Some, None, Bool, true, false, not, cond, eqb, length, MatchOption, ◌↔◌, codes, IsTrue, ◌⊎◌, inl, inr, subst, refl, sym, ap, ◌∙◌, arith}
use Rattle.std.specs.Fmt.{decimal}
use Rattle.std.specs.Bool.{then_some}
use Rattle.std.specs.Str.{bytes_eq}
use Rattle.std.specs.List.{join_with_byte, AllByRecursion, list_all}
use Rattle.std.proofs.lemmas.List.{append-nil, take_all, get_or_default, length-append, length-map, nil_from_length}
use Rattle.std.proofs.lemmas.List.Splits.{join_with_byte-slice_split}
use Rattle.std.proofs.lemmas.List.Elements.{All-from_recursion}
use Rattle.std.proofs.lemmas.Bool.{false≢true, eqb-false, and_parts, not-true}
use Rattle.std.proofs.lemmas.Str.Parse.{not_in_digits}
use Rattle.std.proofs.lemmas.Fmt.{digits_decimal}
use Rattle.kw_model.specs.declared.call.Call.{Call}
use Rattle.kw_model.specs.declared.call.Call.TheVariants as call
use Rattle.kw_line.specs.declared.item.Form.{Form}
use Rattle.kw_line.specs.declared.item.Form.TheVariants as form
use Rattle.kw_line.specs.declared.item.Item.{Item}
use Rattle.kw_line.specs.declared.item.Item.TheVariants as item
use Rattle.kw_line.specs.declared.words.TheConstants.{SPACE}
use Rattle.kw_line.specs.Cut.{words, lines}
use Rattle.kw_line.specs.Line.{form_word, arguments, IsCallOf, FitsCall, IsItem, item_words, item_text, IsText}
use Rattle.kw_line.specs.Answered.{is_range}
use Rattle.kw_line.proofs.Decimals.{own}
use Rattle.kw_line.proofs.Parts.{length-lines-le, HasNo, words_cut, words_one}

-- no space stands in a number or in the word of a form
no_space_in : (bytes : List ℕ) → list_all (λ b. not (eqb b SPACE)) bytes ≡ true → AllByRecursion (λ b. b ≢ SPACE) bytes
no_space_in [] e = tt
no_space_in (b ∷ bs) e = let h = and_parts (not (eqb b SPACE)) (list_all (λ c. not (eqb c SPACE)) bs) e in (eqb-false b SPACE (not-true _ h.0), no_space_in bs h.1)

no_space : (bytes : List ℕ) → list_all (λ b. not (eqb b SPACE)) bytes ≡ true → HasNo SPACE bytes
no_space bytes e = All-from_recursion (λ b. b ≢ SPACE) bytes (no_space_in bytes e)

no_space_form : (f : Form) → HasNo SPACE (form_word f)
no_space_form form.Put = no_space (form_word form.Put) refl
no_space_form form.Del = no_space (form_word form.Del) refl
no_space_form form.Get = no_space (form_word form.Get) refl
no_space_form form.Sum = no_space (form_word form.Sum) refl
no_space_form form.Count = no_space (form_word form.Count) refl
no_space_form form.Least = no_space (form_word form.Least) refl
no_space_form form.Greatest = no_space (form_word form.Greatest) refl
no_space_form form.List = no_space (form_word form.List) refl

pub no_space_decimal : (n : ℕ) → n < 2 ^ 64 → HasNo SPACE (decimal n)
no_space_decimal n h k d l e = not_in_digits own (decimal n) SPACE (digits_decimal own n h) (λ r. omega (arith, r.0, r.1)) k l (get_or_default (decimal n) k 0 d l ∙ e)

-- a number that stands first in a line is its first word, where nothing or a space stands behind it
pub number_alone : (line behind : List ℕ) (n : ℕ) → n < 2 ^ 64 → line ≡ decimal n ++ behind → behind ≡ [] → words line ≡ decimal n ∷ []
number_alone line behind n l e none = ap words (e ∙ ap (λ t. decimal n ++ t) none ∙ append-nil (decimal n)) ∙ words_one (decimal n) (no_space_decimal n l)

pub number_before_space : (line behind : List ℕ) (n : ℕ) → n < 2 ^ 64 → line ≡ decimal n ++ behind → 0 < length behind → get_or behind 0 0 ≡ SPACE → words line ≡ decimal n ∷ words (take (length behind - 1) (drop 1 behind))
number_before_space line [] n l e some space = absurd (omega arith)
number_before_space line (b ∷ rest) n l e some space =
    let whole : take (length (b ∷ rest) - 1) (drop 1 (b ∷ rest)) ≡ rest = take_all (length (b ∷ rest) - 1) rest (omega arith) in
    ap words (e ∙ ap (λ t. decimal n ++ t ∷ rest) space) ∙ words_cut (decimal n) rest (no_space_decimal n l) ∙ ap (λ t. decimal n ∷ words t) (sym whole)

-- words without spaces, separated by one space each, are cut into these words again
pub words_join : (word : List ℕ) (more : List (List ℕ)) → AllByRecursion (HasNo SPACE) (word ∷ more) → words (join_with_byte SPACE (word ∷ more)) ≡ word ∷ more
words_join word [] h = words_one word h.0
words_join word (next ∷ more) h = words_cut word (join_with_byte SPACE (next ∷ more)) h.0 ∙ ap (λ ws. word ∷ ws) (words_join next more h.1)

-- a line is its words, separated by one space each
pub join_words : (line : List ℕ) → join_with_byte SPACE (words line) ≡ line
unfolding words
join_words line = join_with_byte-slice_split SPACE line

-- the text of an item has the item's words
no_space_item : (i : Item) → IsItem i → AllByRecursion (HasNo SPACE) (item_words i)
no_space_item (item.Call (call.Put k v) f) h = (no_space_form f, (no_space_decimal k (omega (arith, h.1.0)), (no_space_decimal v (omega (arith, h.1.1)), tt)))
no_space_item (item.Call (call.Del k) f) h = (no_space_form f, (no_space_decimal k (omega (arith, h.1)), tt))
no_space_item (item.Call (call.Get k) f) h = (no_space_form f, (no_space_decimal k (omega (arith, h.1)), tt))
no_space_item (item.Call (call.Scan a b) f) h = (no_space_form f, (no_space_decimal a (omega (arith, h.1.0)), (no_space_decimal b (omega (arith, h.1.1)), tt)))
no_space_item (item.Call call.Pin f) h = absurd h.1
no_space_item (item.Call (call.ScanAt a b) f) h = absurd h.1
no_space_item (item.Call call.Unpin f) h = absurd h.1
no_space_item item.Wait h = (no_space (codes "wait") refl, tt)

pub words-item_text : (i : Item) → IsItem i → words (item_text i) ≡ item_words i
unfolding item_text
words-item_text (item.Call c f) h = words_join (form_word f) (map decimal (arguments c)) (no_space_item (item.Call c f) h)
words-item_text item.Wait h = words_join (codes "wait") [] (no_space_item item.Wait h)

-- and only that line has them
pub text_from_words : (line : List ℕ) (i : Item) → words line ≡ item_words i → line ≡ item_text i
unfolding item_text
text_from_words line i e = sym (join_words line) ∙ ap (join_with_byte SPACE) e

-- the form that a word names
abbrev named : List ℕ → Option Form
named w = cond (bytes_eq w (codes "put")) (Some form.Put) (cond (bytes_eq w (codes "del")) (Some form.Del) (cond (bytes_eq w (codes "get")) (Some form.Get) (cond (bytes_eq w (codes "sum")) (Some form.Sum) (cond (bytes_eq w (codes "count")) (Some form.Count) (cond (bytes_eq w (codes "least")) (Some form.Least) (cond (bytes_eq w (codes "greatest")) (Some form.Greatest) (cond (bytes_eq w (codes "list")) (Some form.List) None)))))))

named-form_word : (f : Form) → named (form_word f) ≡ Some f
named-form_word form.Put = refl
named-form_word form.Del = refl
named-form_word form.Get = refl
named-form_word form.Sum = refl
named-form_word form.Count = refl
named-form_word form.Least = refl
named-form_word form.Greatest = refl
named-form_word form.List = refl

pub form_word_injective : (f g : Form) → form_word f ≡ form_word g → f ≡ g
form_word_injective f g e = let s : Some f ≡ Some g = sym (named-form_word f) ∙ (ap named e ∙ named-form_word g) in cc

pub form_word_not_wait : (f : Form) → form_word f ≢ codes "wait"
form_word_not_wait f e = let s : None ≡ Some f = ap named (sym e) ∙ named-form_word f in cc

-- how many numbers a line of a form has
abbrev count_of : Form → ℕ
count_of form.Del = 1
count_of form.Get = 1
count_of _ = 2

length-arguments : (f : Form) (c : Call) → IsCallOf f c → length (arguments c) ≡ count_of f
length-arguments form.Put (call.Put k v) h = refl
length-arguments form.Del (call.Del k) h = refl
length-arguments form.Get (call.Get k) h = refl
length-arguments form.Sum (call.Scan a b) h = refl
length-arguments form.Count (call.Scan a b) h = refl
length-arguments form.Least (call.Scan a b) h = refl
length-arguments form.Greatest (call.Scan a b) h = refl
length-arguments form.List (call.Scan a b) h = refl
length-arguments _ _ h = absurd h

-- what is to be shown of a line that is read
abbrev pub Reads : List ℕ → Option Item → Type 0
Reads line o = MatchOption o (IsText line → ⊥) (λ i. IsItem i × (line ≡ item_text i))

text_words : (line : List ℕ) (i : Item) → IsItem i → line ≡ item_text i → words line ≡ item_words i
text_words line i h e = ap words e ∙ words-item_text i h

-- no words
pub none_is_text : (line : List ℕ) → words line ≡ [] → IsText line → ⊥
none_is_text line e (item.Call c f, h, t) = let x : words line ≡ form_word f ∷ map decimal (arguments c) = text_words line (item.Call c f) h t in cc
none_is_text line e (item.Wait, h, t) = let x : words line ≡ codes "wait" ∷ [] = text_words line item.Wait h t in cc

-- the word of a wait, and what follows it
nothing_after_wait : (line : List ℕ) (rest : List (List ℕ)) → words line ≡ codes "wait" ∷ rest → IsText line → rest ≡ []
nothing_after_wait line rest e (item.Call c f, h, t) =
    let x : words line ≡ form_word f ∷ map decimal (arguments c) = text_words line (item.Call c f) h t in
    let same : form_word f ≡ codes "wait" = cc in
    absurd (form_word_not_wait f same)
nothing_after_wait line rest e (item.Wait, h, t) = let x : words line ≡ codes "wait" ∷ [] = text_words line item.Wait h t in cc

pub wait_is_read : (line word : List ℕ) (rest : List (List ℕ)) (b : Bool) → words line ≡ word ∷ rest → word ≡ codes "wait" → (b ≡ true) ↔ (rest ≡ []) → Reads line (then_some b item.Wait)
wait_is_read line word rest true e w h = let none = h.0 refl in (tt, text_from_words line item.Wait cc)
wait_is_read line word rest false e w h = λ t. false≢true (h.1 (nothing_after_wait line rest (e ∙ ap (λ q. q ∷ rest) w) t))

-- a word that begins no line
pub other_word : (line word : List ℕ) (rest : List (List ℕ)) → words line ≡ word ∷ rest → word ≢ codes "wait" → ((f : Form) → word ≢ form_word f) → IsText line → ⊥
other_word line word rest e w o (item.Call c f, h, t) =
    let x : words line ≡ form_word f ∷ map decimal (arguments c) = text_words line (item.Call c f) h t in
    let same : word ≡ form_word f = cc in
    o f same
other_word line word rest e w o (item.Wait, h, t) =
    let x : words line ≡ codes "wait" ∷ [] = text_words line item.Wait h t in
    let same : word ≡ codes "wait" = cc in
    w same

-- the form is that of the first word
same_form : (line : List ℕ) (f : Form) (rest : List (List ℕ)) → words line ≡ form_word f ∷ rest → IsText line → (c : Call) × IsCallOf f c × FitsCall c × (rest ≡ map decimal (arguments c))
same_form line f rest e (item.Call c g, h, t) =
    let x : words line ≡ form_word g ∷ map decimal (arguments c) = text_words line (item.Call c g) h t in
    let word : form_word g ≡ form_word f = cc in
    let numbers : rest ≡ map decimal (arguments c) = cc in
    let P : Form → Type 0 = λ q. IsCallOf q c in
    (c, subst P (form_word_injective g f word) h.0, h.1, numbers)
same_form line f rest e (item.Wait, h, t) =
    let x : words line ≡ codes "wait" ∷ [] = text_words line item.Wait h t in
    let word : form_word f ≡ codes "wait" = cc in
    absurd (form_word_not_wait f word)

-- numbers that make no call of the form
pub no_call : (line word : List ℕ) (f : Form) (rest : List (List ℕ)) → words line ≡ word ∷ rest → word ≡ form_word f → ((c : Call) (after : List (List ℕ)) → IsCallOf f c → FitsCall c → rest ≢ map decimal (arguments c) ++ after) → IsText line → ⊥
no_call line word f rest e w o t = let s = same_form line f rest (e ∙ ap (λ q. q ∷ rest) w) t in o s.0 [] s.1 s.2 (s.3 ∙ sym (append-nil _))

-- numbers that make one, and what follows them
pub call_is_read : (line word : List ℕ) (f : Form) (c : Call) (rest after : List (List ℕ)) (b : Bool) → words line ≡ word ∷ rest → word ≡ form_word f → IsCallOf f c → FitsCall c → rest ≡ map decimal (arguments c) ++ after → (b ≡ true) ↔ (after ≡ []) → Reads line (then_some b (item.Call c f))
call_is_read line word f c rest after true e w of fits n h =
    let none = h.0 refl in
    let numbers : rest ≡ map decimal (arguments c) = n ∙ (rw none (append-nil _)) in
    ((of, fits), text_from_words line (item.Call c f) cc)
call_is_read line word f c rest after false e w of fits n h = λ t.
    let s = same_form line f rest (e ∙ ap (λ q. q ∷ rest) w) t in
    let long = ap length (sym n ∙ s.3) in
    let lengths : length after ≡ 0 = omega (arith, simp (length-append, length-map) at long, length-arguments f c of, length-arguments f s.0 s.1) in
    false≢true (h.1 (nil_from_length after lengths))

-- what a comparison that fails says
pub not_same : {X : Type 0} {b : Bool} → (b ≡ true) ↔ X → b ≡ false → X → ⊥
not_same h f same = false≢true (sym f ∙ h.1 same)

-- a range line whose second number is missing or is no key
pub no_end : (f : Form) (from : ℕ) (rest after : List (List ℕ)) → IsTrue (is_range f) → rest ≡ decimal from ∷ after → ((k : ℕ) (more : List (List ℕ)) → k < 2 ^ 32 → after ≢ decimal k ∷ more) → (c : Call) (more : List (List ℕ)) → IsCallOf f c → FitsCall c → rest ≢ map decimal (arguments c) ++ more
no_end f from rest after r e o (call.Scan a b) more of fits n = let same : after ≡ decimal b ∷ more = cc in o b more fits.1 same
no_end f from rest after r e o call.Pin more of fits n = absurd fits
no_end f from rest after r e o (call.ScanAt a b) more of fits n = absurd fits
no_end f from rest after r e o call.Unpin more of fits n = absurd fits
no_end form.Put from rest after r e o (call.Put k v) more of fits n = cc
no_end form.Del from rest after r e o (call.Del k) more of fits n = cc
no_end form.Get from rest after r e o (call.Get k) more of fits n = cc
no_end _ from rest after r e o _ more of fits n = absurd of

-- the forms of range lines
pub range_forms : (f : Form) → (f ≡ form.Sum) ⊎ ((f ≡ form.Count) ⊎ ((f ≡ form.Least) ⊎ ((f ≡ form.Greatest) ⊎ (f ≡ form.List)))) → IsTrue (is_range f)
range_forms f (inl e) = rw e refl
range_forms f (inr (inl e)) = rw e refl
range_forms f (inr (inr (inl e))) = rw e refl
range_forms f (inr (inr (inr (inl e)))) = rw e refl
range_forms f (inr (inr (inr (inr e)))) = rw e refl

-- items whose texts begin the lines of bytes are no more than the bytes
pub few_items : (bytes : List ℕ) (items : List Item) (rest : List (List ℕ)) → lines bytes ≡ map item_text items ++ rest → length items + length rest ≤ length bytes
few_items bytes items rest e = omega (arith, length-lines-le bytes, simp (length-append, length-map) at (ap length e))
