-- The lines of bytes and the words of a line, from the first one on.
use Rattle.std.proofs.Common.{ℕ, suc, ◌≡◌, ◌≢◌, ◌<◌, ◌≤◌, ◌+◌, ◌-◌, add-one, drop-cons, take, drop, get_or, List, [], ◌∷◌, ◌++◌, Option, Some, None, Bool, true, false, cond, eqb, length, All, MatchOption, ◌↔◌, is_some, not, unwrap_or, refl, sym, ap, ◌∙◌, arith}
use Rattle.std.specs.Borrow.{Bor}
use Rattle.std.specs.List.{slice_split, onto_first}
use Rattle.std.proofs.lemmas.List.Splits.{slice_split_at, slice_split_none}
use Rattle.std.proofs.lemmas.List.{nil_from_length, get_or-take, get_or_default, length-drop, length-take-le, take_all, take-append-drop}
use Rattle.std.proofs.lemmas.Bool.{ne_eqb, eq-eqb, eqb-true}
use Rattle.memchr.specs.Find.{Nowhere, Passes, is_byte}
use Rattle.kw_line.specs.declared.words.TheConstants.{LINE_FEED, SPACE}
use Rattle.kw_line.specs.Cut.{lines, words, words_of, without_empty_end}

-- no byte is the mark
abbrev pub HasNo : ℕ → List ℕ → Type 0
HasNo mark bytes = All (λ byte. byte ≢ mark) bytes

passes_none : (mark : ℕ) (bytes : List ℕ) → HasNo mark bytes → All (λ byte. eqb byte mark ≡ false) bytes
passes_none mark bytes h k d l = ne_eqb _ mark (h k d l)

-- a mark that is found at no place is none of the bytes, and the first place where it is found cuts
-- them
pub has_none : (mark : ℕ) (bytes : List ℕ) → Nowhere (Passes (is_byte mark) bytes) 0 (length bytes) → HasNo mark bytes
has_none mark bytes none k d l e = none k (omega arith) l (eq-eqb _ mark (get_or_default bytes k 0 d l ∙ e))

pub cut_at_first : (mark : ℕ) (bytes : List ℕ) (end : ℕ) → end < length bytes → Nowhere (Passes (is_byte mark) bytes) 0 end → Passes (is_byte mark) bytes end → (bytes ≡ take end bytes ++ mark ∷ take (length bytes - (end + 1)) (drop (end + 1) bytes)) × HasNo mark (take end bytes)
cut_at_first mark bytes end within none found =
    let is_mark : get_or bytes end 0 ≡ mark = eqb-true _ mark found in
    let whole = take_all (length bytes - (end + 1)) (drop (end + 1) bytes) (omega (arith, length-drop (end + 1) bytes)) in
    let behind : drop end bytes ≡ mark ∷ drop (end + 1) bytes = rw (add-one end) (drop-cons bytes end 0 within ∙ ap (λ b. b ∷ drop (suc end) bytes) is_mark) in
    let size = length-take-le end bytes (omega arith) in
    (sym (take-append-drop end bytes) ∙ ap (λ t. take end bytes ++ t) (behind ∙ ap (λ t. mark ∷ t) (sym whole)), λ k d l e. let low : k < end = omega (arith, l, size) in none k (omega arith) low (eq-eqb _ mark (sym (get_or-take end bytes k 0 low) ∙ get_or_default (take end bytes) k 0 d l ∙ e)))

-- there is always a first part
pub first_part : (p : ℕ → Bool) (bytes : List ℕ) → (part : List ℕ) × (parts : List (List ℕ)) × (slice_split p bytes ≡ part ∷ parts)
first_part p [] = ([], [], refl)
first_part p (b ∷ bs) = let i = first_part p bs in elim (p b) as (λ t. (part : List ℕ) × (parts : List (List ℕ)) × (cond t ([] ∷ slice_split p bs) (onto_first b (slice_split p bs)) ≡ part ∷ parts)) [ true ↦ ([], slice_split p bs, refl) | false ↦ (b ∷ i.0, i.1, ap (onto_first b) i.2) ]

-- the words: before the first space and after it, or the one word
pub words_cut : (word rest : List ℕ) → HasNo SPACE word → words (word ++ SPACE ∷ rest) ≡ word ∷ words rest
unfolding words
words_cut word rest h = slice_split_at (λ b. eqb b SPACE) word SPACE rest (passes_none SPACE word h) refl

pub words_one : (word : List ℕ) → HasNo SPACE word → words word ≡ word ∷ []
unfolding words
words_one word h = slice_split_none (λ b. eqb b SPACE) word (passes_none SPACE word h)

-- the lines: likewise, but nothing is no line
pub lines_none : lines [] ≡ []
unfolding lines
lines_none = refl

pub lines_empty : (bytes : List ℕ) → length bytes ≡ 0 → lines bytes ≡ []
lines_empty bytes e = ap lines (nil_from_length bytes e) ∙ lines_none

pub lines_cut : (line rest : List ℕ) → HasNo LINE_FEED line → lines (line ++ LINE_FEED ∷ rest) ≡ line ∷ lines rest
unfolding lines
lines_cut line rest h =
    let e = slice_split_at (λ b. eqb b LINE_FEED) line LINE_FEED rest (passes_none LINE_FEED line h) refl in
    let f = first_part (λ b. eqb b LINE_FEED) rest in
    ap without_empty_end (e ∙ ap (λ parts. line ∷ parts) f.2) ∙ ap (λ parts. line ∷ without_empty_end parts) (sym f.2)

only_part : (part : List ℕ) → 0 < length part → without_empty_end (part ∷ []) ≡ part ∷ []
only_part part l = rw (ne_eqb (length part) 0 (λ e. absurd (omega arith))) refl

pub lines_one : (line : List ℕ) → 0 < length line → HasNo LINE_FEED line → lines line ≡ line ∷ []
unfolding lines
lines_one line l h = ap without_empty_end (slice_split_none (λ b. eqb b LINE_FEED) line (passes_none LINE_FEED line h)) ∙ only_part line l

-- there are no more lines than bytes
longer_first : (b : ℕ) (part : List ℕ) (parts : List (List ℕ)) → length (without_empty_end ((b ∷ part) ∷ parts)) ≤ suc (length (without_empty_end (part ∷ parts)))
longer_first b part [] = rw (only_part (b ∷ part) (omega arith)) (omega arith)
longer_first b part (next ∷ parts) = omega arith

few_parts : (bytes : List ℕ) → length (without_empty_end (slice_split (λ b. eqb b LINE_FEED) bytes)) ≤ length bytes
few_parts [] = omega arith
few_parts (b ∷ bs) = go (eqb b LINE_FEED) (few_parts bs) (first_part (λ c. eqb c LINE_FEED) bs)
  where
    go : (t : Bool) → length (without_empty_end (slice_split (λ c. eqb c LINE_FEED) bs)) ≤ length bs → (part : List ℕ) × (parts : List (List ℕ)) × (slice_split (λ c. eqb c LINE_FEED) bs ≡ part ∷ parts) → length (without_empty_end (cond t ([] ∷ slice_split (λ c. eqb c LINE_FEED) bs) (onto_first b (slice_split (λ c. eqb c LINE_FEED) bs)))) ≤ suc (length bs)
    go true few f = let few' : length (without_empty_end (f.0 ∷ f.1)) ≤ length bs = rw f.2 at few in rw f.2 (omega (arith, few'))
    go false few f = let few' : length (without_empty_end (f.0 ∷ f.1)) ≤ length bs = rw f.2 at few in rw f.2 (omega (arith, few', longer_first b f.0 f.1))

pub length-lines-le : (bytes : List ℕ) → length (lines bytes) ≤ length bytes
unfolding lines
length-lines-le bytes = few_parts bytes

-- one turn over the lines: what is cut off at the first line feed, or all that is left
pub lines_turn : (bytes : List ℕ) (o : Option (Bor (List ℕ) × Bor (List ℕ))) (d : Bor (List ℕ) × Bor (List ℕ)) → d.0.now ≡ bytes → d.1.now ≡ [] → 0 < length bytes → MatchOption o (HasNo LINE_FEED bytes) (λ parts. (bytes ≡ parts.0.now ++ LINE_FEED ∷ parts.1.now) × HasNo LINE_FEED parts.0.now) → lines bytes ≡ (unwrap_or o d).0.now ∷ lines (unwrap_or o d).1.now
lines_turn bytes None d whole none l h = lines_one bytes l h ∙ (rw (whole, none, lines_none) refl)
lines_turn bytes (Some parts) d whole none l h = ap lines h.0 ∙ lines_cut parts.0.now parts.1.now h.1

-- one turn over the words: what is cut off at the first space, or all that is left
pub words_turn : (line : List ℕ) (o : Option (Bor (List ℕ) × Bor (List ℕ))) (word rest : Bor (List ℕ)) → o ≡ Some (word, rest) → MatchOption o (HasNo SPACE line) (λ parts. (line ≡ parts.0.now ++ SPACE ∷ parts.1.now) × HasNo SPACE parts.0.now) → words line ≡ word.now ∷ words rest.now
words_turn line o word rest e h = let g : (line ≡ word.now ++ SPACE ∷ rest.now) × HasNo SPACE word.now = rw e at h in ap words g.0 ∙ words_cut word.now rest.now g.1

-- a line has a word, so no word is left only where no line is
has_word : (line : List ℕ) → words line ≡ [] → ⊥
unfolding words
has_word line e = let f = first_part (λ b. eqb b SPACE) line in cc (f.2)

pub none_left : (o : Option (Bor (List ℕ))) (b : Bool) → is_some o ≡ not b → (b ≡ true) ↔ (words_of o ≡ [])
none_left None true e = (λ _. refl, λ _. refl)
none_left None false e = cc
none_left (Some line) true e = cc
none_left (Some line) false e = (λ f. cc, λ f. absurd (has_word line.now f))
