-- The words of an item's text, and which lines are texts.
use Rattle.std.proofs.Common.{ℕ, ◌≡◌, ◌≢◌, ◌<◌, ◌≤◌, ◌+◌, ◌*◌, ◌^◌, List, [], ◌∷◌, ◌++◌, map, get_or, Option, Some, None, Bool, true, false, not, eqb, ltb, length, MatchOption, ◌↔◌, codes, ◌⊎◌, inl, inr, refl, sym, ap, ◌∙◌, arith}
use Rattle.std.specs.Fmt.{decimal}
use Rattle.std.specs.Bool.{then_some}
use Rattle.std.specs.List.{join_with_byte, AllByRecursion, list_all}
use Rattle.std.proofs.lemmas.List.{append-nil, length-append, length-map}
use Rattle.std.proofs.lemmas.List.Elements.{All-from_recursion}
use Rattle.std.proofs.lemmas.Bool.{false≢true, eqb-false, and_parts, not-true, cases_lt, lt-ltb, le-ltb}
use Rattle.kw_line.specs.declared.words.TheConstants.{SPACE}
use Rattle.kw_line.specs.Cut.{words, lines}
use Rattle.kw_line.proofs.Parts.{length-lines-le, HasNo}
use Rattle.kw_line.proofs.Texts.{no_space_decimal, words_join, join_words}
use Rattle.kw_rollup.specs.declared.item.RollItem.{RollItem}
use Rattle.kw_rollup.specs.declared.item.RollItem.TheVariants.{Put, Del, Table}
use Rattle.kw_rollup.specs.declared.item.TheConstants.{MINUTES, SERIES}
use Rattle.kw_rollup.specs.Buckets.{series_of, minute_of}
use Rattle.kw_rollup.specs.Lines.{IsRollItem, key_words, roll_words, roll_text, IsRollText}

-- no space stands in a word
no_space_in : (bytes : List ℕ) → list_all (λ b. not (eqb b SPACE)) bytes ≡ true → AllByRecursion (λ b. b ≢ SPACE) bytes
no_space_in [] e = tt
no_space_in (b ∷ bs) e = let h = and_parts (not (eqb b SPACE)) (list_all (λ c. not (eqb c SPACE)) bs) e in (eqb-false b SPACE (not-true _ h.0), no_space_in bs h.1)

no_space : (bytes : List ℕ) → list_all (λ b. not (eqb b SPACE)) bytes ≡ true → HasNo SPACE bytes
no_space bytes e = All-from_recursion (λ b. b ≢ SPACE) bytes (no_space_in bytes e)

no_space_item : (i : RollItem) → IsRollItem i → AllByRecursion (HasNo SPACE) (roll_words i)
unfolding key_words
no_space_item (Put k v) h = let a = h.0 in let b = h.1 in (no_space (codes "put") refl, (no_space_decimal (series_of k) (omega (arith, a)), (no_space_decimal (minute_of k) (omega (arith, a)), (no_space_decimal v (omega (arith, b)), tt))))
no_space_item (Del k) h = (no_space (codes "del") refl, (no_space_decimal (series_of k) (omega (arith, h)), (no_space_decimal (minute_of k) (omega (arith, h)), tt)))
no_space_item Table h = (no_space (codes "table") refl, tt)

-- the text of an item has the item's words, and only that line has them
pub words-roll_text : (i : RollItem) → IsRollItem i → words (roll_text i) ≡ roll_words i
unfolding roll_text key_words
words-roll_text (Put k v) h = words_join (codes "put") (key_words k ++ decimal v ∷ []) (no_space_item (Put k v) h)
words-roll_text (Del k) h = words_join (codes "del") (key_words k) (no_space_item (Del k) h)
words-roll_text Table h = words_join (codes "table") [] (no_space_item Table h)

text_from_words : (line : List ℕ) (i : RollItem) → words line ≡ roll_words i → line ≡ roll_text i
unfolding roll_text
text_from_words line i e = sym (join_words line) ∙ ap (join_with_byte SPACE) e

text_words : (line : List ℕ) (i : RollItem) → IsRollItem i → line ≡ roll_text i → words line ≡ roll_words i
text_words line i h e = ap words e ∙ words-roll_text i h

-- the words that lines begin with are three
abbrev first_byte : List ℕ → ℕ
first_byte word = get_or word 0 0

put_not_del : codes "put" ≢ codes "del"
put_not_del e = let b = ap first_byte e in absurd (omega (arith, b))

put_not_table : codes "put" ≢ codes "table"
put_not_table e = let b = ap first_byte e in absurd (omega (arith, b))

del_not_table : codes "del" ≢ codes "table"
del_not_table e = let b = ap first_byte e in absurd (omega (arith, b))

-- what is to be shown of a line that is read
abbrev pub Reads : List ℕ → Option RollItem → Type 0
Reads line o = MatchOption o (IsRollText line → ⊥) (λ i. IsRollItem i × (line ≡ roll_text i))

-- no words
pub none_is_text : (line : List ℕ) → words line ≡ [] → IsRollText line → ⊥
none_is_text line e (Put k v, h, t) = let x = text_words line (Put k v) h t in cc
none_is_text line e (Del k, h, t) = let x = text_words line (Del k) h t in cc
none_is_text line e (Table, h, t) = let x = text_words line Table h t in cc

-- a word that begins no line
pub other_word : (line word : List ℕ) (rest : List (List ℕ)) → words line ≡ word ∷ rest → word ≢ codes "table" → word ≢ codes "del" → word ≢ codes "put" → IsRollText line → ⊥
other_word line word rest e a b c (Put k v, h, t) = let x = text_words line (Put k v) h t in let same : word ≡ codes "put" = cc in c same
other_word line word rest e a b c (Del k, h, t) = let x = text_words line (Del k) h t in let same : word ≡ codes "del" = cc in b same
other_word line word rest e a b c (Table, h, t) = let x = text_words line Table h t in let same : word ≡ codes "table" = cc in a same

-- what follows the word of a line that is a text
after_table : (line word : List ℕ) (rest : List (List ℕ)) → words line ≡ word ∷ rest → word ≡ codes "table" → IsRollText line → rest ≡ []
after_table line word rest e w (Put k v, h, t) = let x = text_words line (Put k v) h t in let same : codes "put" ≡ codes "table" = cc in absurd (put_not_table same)
after_table line word rest e w (Del k, h, t) = let x = text_words line (Del k) h t in let same : codes "del" ≡ codes "table" = cc in absurd (del_not_table same)
after_table line word rest e w (Table, h, t) = let x = text_words line Table h t in cc

after_del : (line word : List ℕ) (rest : List (List ℕ)) → words line ≡ word ∷ rest → word ≡ codes "del" → IsRollText line → (k : ℕ) × (k < 2 ^ 32) × (rest ≡ key_words k)
after_del line word rest e w (Put k v, h, t) = let x = text_words line (Put k v) h t in let same : codes "put" ≡ codes "del" = cc in absurd (put_not_del same)
after_del line word rest e w (Del k, h, t) = let x = text_words line (Del k) h t in let same : rest ≡ key_words k = cc in (k, h, same)
after_del line word rest e w (Table, h, t) = let x = text_words line Table h t in let same : codes "del" ≡ codes "table" = cc in absurd (del_not_table same)

after_put : (line word : List ℕ) (rest : List (List ℕ)) → words line ≡ word ∷ rest → word ≡ codes "put" → IsRollText line → (k : ℕ) × (v : ℕ) × (k < 2 ^ 32) × (v < 2 ^ 63) × (rest ≡ key_words k ++ decimal v ∷ [])
after_put line word rest e w (Put k v, h, t) = let x = text_words line (Put k v) h t in let same : rest ≡ key_words k ++ decimal v ∷ [] = cc in (k, v, h.0, h.1, same)
after_put line word rest e w (Del k, h, t) = let x = text_words line (Del k) h t in let same : codes "put" ≡ codes "del" = cc in absurd (put_not_del same)
after_put line word rest e w (Table, h, t) = let x = text_words line Table h t in let same : codes "put" ≡ codes "table" = cc in absurd (put_not_table same)

-- a line that asks for a table
pub table_is_read : (line word : List ℕ) (rest : List (List ℕ)) (b : Bool) → words line ≡ word ∷ rest → word ≡ codes "table" → (b ≡ true) ↔ (rest ≡ []) → Reads line (then_some b Table)
table_is_read line word rest true e w h = let none = h.0 refl in (tt, text_from_words line Table cc)
table_is_read line word rest false e w h = λ t. false≢true (h.1 (after_table line word rest e w t))

-- a line that takes a point away
pub no_key_of_del : (line word : List ℕ) (rest : List (List ℕ)) → words line ≡ word ∷ rest → word ≡ codes "del" → ((k : ℕ) (after : List (List ℕ)) → k < 2 ^ 32 → rest ≢ key_words k ++ after) → IsRollText line → ⊥
no_key_of_del line word rest e w o t = let s = after_del line word rest e w t in o s.0 [] s.1 (s.2 ∙ sym (append-nil _))

pub del_is_read : (line word : List ℕ) (k : ℕ) (rest after : List (List ℕ)) (b : Bool) → words line ≡ word ∷ rest → word ≡ codes "del" → k < 2 ^ 32 → rest ≡ key_words k ++ after → (b ≡ true) ↔ (after ≡ []) → Reads line (then_some b (Del k))
unfolding key_words
del_is_read line word k rest after true e w l n h = let none = h.0 refl in (l, text_from_words line (Del k) cc)
del_is_read line word k rest after false e w l n h = λ t. let s = after_del line word rest e w t in let same = s.2 in let none : after ≡ [] = cc in false≢true (h.1 none)

-- a line that sets a value
pub no_key_of_put : (line word : List ℕ) (rest : List (List ℕ)) → words line ≡ word ∷ rest → word ≡ codes "put" → ((k : ℕ) (after : List (List ℕ)) → k < 2 ^ 32 → rest ≢ key_words k ++ after) → IsRollText line → ⊥
no_key_of_put line word rest e w o t = let s = after_put line word rest e w t in o s.0 (decimal s.1 ∷ []) s.2 s.4

pub no_value_of_put : (line word : List ℕ) (k : ℕ) (rest after : List (List ℕ)) → words line ≡ word ∷ rest → word ≡ codes "put" → rest ≡ key_words k ++ after → ((v : ℕ) (more : List (List ℕ)) → v < 2 ^ 63 → after ≢ decimal v ∷ more) → IsRollText line → ⊥
unfolding key_words
no_value_of_put line word k rest after e w n o t = let s = after_put line word rest e w t in let same = s.4 in let value : after ≡ decimal s.1 ∷ [] = cc in o s.1 [] s.3 value

pub put_is_read : (line word : List ℕ) (k v : ℕ) (rest mid after : List (List ℕ)) (b : Bool) → words line ≡ word ∷ rest → word ≡ codes "put" → k < 2 ^ 32 → v < 2 ^ 63 → rest ≡ key_words k ++ mid → mid ≡ decimal v ∷ after → (b ≡ true) ↔ (after ≡ []) → Reads line (then_some b (Put k v))
unfolding key_words
put_is_read line word k v rest mid after true e w l g n m h = let none = h.0 refl in ((l, g), text_from_words line (Put k v) cc)
put_is_read line word k v rest mid after false e w l g n m h = λ t. let s = after_put line word rest e w t in let same = s.4 in let none : after ≡ [] = cc in false≢true (h.1 none)

-- a key is read from its series and its minute
pub no_series : (old : List (List ℕ)) → ((n : ℕ) (rest : List (List ℕ)) → n < SERIES → old ≢ decimal n ∷ rest) → (k : ℕ) (rest : List (List ℕ)) → k < 2 ^ 32 → old ≢ key_words k ++ rest
unfolding key_words
no_series old o k rest l e = o (series_of k) (decimal (minute_of k) ∷ rest) (omega (arith, l)) e

pub no_minute : (old mid : List (List ℕ)) (s : ℕ) → old ≡ decimal s ∷ mid → ((n : ℕ) (rest : List (List ℕ)) → n < MINUTES → mid ≢ decimal n ∷ rest) → (k : ℕ) (rest : List (List ℕ)) → k < 2 ^ 32 → old ≢ key_words k ++ rest
unfolding key_words
no_minute old mid s h o k rest l e = let same : mid ≡ decimal (minute_of k) ∷ rest = cc in o (minute_of k) rest (omega arith) same

pub key_is_read : (old mid new : List (List ℕ)) (s n k : ℕ) → s < SERIES → n < MINUTES → k ≡ s * MINUTES + n → old ≡ decimal s ∷ mid → mid ≡ decimal n ∷ new → (k < 2 ^ 32) × (old ≡ key_words k ++ new)
unfolding key_words
key_is_read old mid new s n k a b e f g =
    let series : series_of k ≡ s = omega (arith, a, b, e) in
    let minute : minute_of k ≡ n = omega (arith, a, b, e) in
    let whole : old ≡ decimal s ∷ (decimal n ∷ new) = cc in
    (omega (arith, a, b, e), whole ∙ (ap (λ q. decimal q ∷ (decimal n ∷ new)) (sym series) ∙ ap (λ q. decimal (series_of k) ∷ (decimal q ∷ new)) (sym minute)))

-- a test that a number is below a limit, by cases
pub from_limit : (limit n : ℕ) → ((n < limit) × (then_some (ltb n limit) n ≡ Some n)) ⊎ ((limit ≤ n) × (then_some (ltb n limit) n ≡ None))
from_limit limit n = elim (cases_lt n limit) [ inl l ↦ inl (l, rw (lt-ltb n limit l) refl) | inr l ↦ inr (l, rw (le-ltb n limit l) refl) ]

-- items whose texts begin the lines of bytes are no more than the bytes
pub few_items : (bytes : List ℕ) (items : List RollItem) (rest : List (List ℕ)) → lines bytes ≡ map roll_text items ++ rest → length items + length rest ≤ length bytes
few_items bytes items rest e = omega (arith, length-lines-le bytes, simp (length-append, length-map) at (ap length e))
