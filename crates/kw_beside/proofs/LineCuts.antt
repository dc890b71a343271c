-- Where bytes may be cut so that no line is: behind a line feed.
use Rattle.std.proofs.Common.{ℕ, ◌≡◌, ◌<◌, ◌≤◌, ◌+◌, List, [], ◌∷◌, ◌++◌, Bool, true, false, cond, eqb, length, take, drop, get_or, refl, sym, ap, ◌∙◌, arith, append-nil, ◌-◌, Option, Some, None, MatchOption, IfSome}
use Rattle.std.specs.List.{slice_split, onto_first, HoldsAt}
use Rattle.std.proofs.lemmas.List.{take_all, drop_all, take-append-drop, take_more, drop_more, take_rest, length-drop, get_or-drop}
use Rattle.kw_line.specs.declared.words.TheConstants.{LINE_FEED}
use Rattle.kw_line.specs.Cut.{lines, without_empty_end}
use Rattle.kw_line.proofs.Parts.{first_part, lines_none}

-- a byte before some parts goes onto the first one
onto_first-append : (b : ℕ) (parts more : List (List ℕ)) (part : List ℕ) (rest : List (List ℕ)) → parts ≡ part ∷ rest → onto_first b (parts ++ more) ≡ onto_first b parts ++ more
onto_first-append b parts more part rest e = rw e refl

-- the parts before a mark, and those behind it
slice_split-append_mark : (p : ℕ → Bool) (a : List ℕ) (mark : ℕ) (b : List ℕ) → p mark ≡ true → slice_split p (a ++ mark ∷ b) ≡ slice_split p a ++ slice_split p b
slice_split-append_mark p [] mark b e = rw e refl
slice_split-append_mark p (x ∷ a) mark b e = go (p x) (slice_split-append_mark p a mark b e) (first_part p a)
  where
    go : (t : Bool) → slice_split p (a ++ mark ∷ b) ≡ slice_split p a ++ slice_split p b → (part : List ℕ) × (parts : List (List ℕ)) × (slice_split p a ≡ part ∷ parts) → cond t ([] ∷ slice_split p (a ++ mark ∷ b)) (onto_first x (slice_split p (a ++ mark ∷ b))) ≡ cond t ([] ∷ slice_split p a) (onto_first x (slice_split p a)) ++ slice_split p b
    go true i f = ap (λ parts. [] ∷ parts) i
    go false i f = ap (onto_first x) i ∙ onto_first-append x (slice_split p a) (slice_split p b) f.0 f.1 f.2

-- only the last part is left out where it is empty
without_empty_end-append : (parts : List (List ℕ)) (part : List ℕ) (rest : List (List ℕ)) → without_empty_end (parts ++ part ∷ rest) ≡ parts ++ without_empty_end (part ∷ rest)
without_empty_end-append [] part rest = refl
without_empty_end-append (one ∷ []) part rest = refl
without_empty_end-append (one ∷ two ∷ parts) part rest = ap (λ all. one ∷ all) (without_empty_end-append (two ∷ parts) part rest)

-- the lines up to a line feed, and those behind it
lines-append_feed : (a b : List ℕ) → lines (a ++ LINE_FEED ∷ b) ≡ slice_split (λ c. eqb c LINE_FEED) a ++ lines b
unfolding lines
lines-append_feed a b =
    let f = first_part (λ c. eqb c LINE_FEED) b in
    ap without_empty_end (slice_split-append_mark (λ c. eqb c LINE_FEED) a LINE_FEED b refl)
    ∙ (ap (λ parts. without_empty_end (slice_split (λ c. eqb c LINE_FEED) a ++ parts)) f.2
    ∙ (without_empty_end-append (slice_split (λ c. eqb c LINE_FEED) a) f.0 f.1
    ∙ ap (λ parts. slice_split (λ c. eqb c LINE_FEED) a ++ without_empty_end parts) (sym f.2)))

-- bytes that are cut behind a line feed have the lines of both parts
pub lines-cut_behind_feed : (a b : List ℕ) → lines (a ++ LINE_FEED ∷ b) ≡ lines (a ++ LINE_FEED ∷ []) ++ lines b
lines-cut_behind_feed a b =
    let e : lines (a ++ LINE_FEED ∷ []) ≡ slice_split (λ c. eqb c LINE_FEED) a = lines-append_feed a [] ∙ (ap (λ more. slice_split (λ c. eqb c LINE_FEED) a ++ more) lines_none ∙ append-nil _) in
    lines-append_feed a b ∙ ap (λ parts. parts ++ lines b) (sym e)

-- bytes that are cut behind a place at which a line feed stands have the lines of both parts
pub lines-take_drop_feed : (bytes : List ℕ) (at d : ℕ) → at < length bytes → get_or bytes at d ≡ LINE_FEED → lines bytes ≡ lines (take (at + 1) bytes) ++ lines (drop (at + 1) bytes)
lines-take_drop_feed bytes at d within feed =
    let rest = drop (at + 1) bytes in
    let first = take at bytes in
    let left : take (at + 1) bytes ≡ first ++ LINE_FEED ∷ [] = take_more bytes at d within ∙ ap (λ (b : ℕ). first ++ b ∷ []) feed in
    let whole : bytes ≡ first ++ LINE_FEED ∷ rest = sym (take-append-drop at bytes) ∙ (ap (λ more. first ++ more) (drop_more bytes at d within) ∙ ap (λ (b : ℕ). first ++ b ∷ rest) feed) in
    ap lines whole ∙ (lines-cut_behind_feed first rest ∙ ap (λ part. lines part ++ lines rest) (sym left))

-- bytes that are cut at their end have the lines of the first part
pub lines-take_drop_all : (bytes : List ℕ) (end : ℕ) → end ≡ length bytes → lines bytes ≡ lines (take end bytes) ++ lines (drop end bytes)
lines-take_drop_all bytes end e =
    let all = take_all end bytes (omega arith) in
    let none = drop_all end bytes (omega arith) in
    sym (rw (all, none, lines_none) (append-nil (lines bytes)))

-- bytes that are cut behind the first line feed at or behind a place, or else at their end, have
-- the lines of both parts
pub lines-cut_at : (bytes : List ℕ) (found : Option ℕ) (least end : ℕ) → 0 < least → least ≤ length bytes → MatchOption found (end ≡ length bytes) (λ at. end ≡ least + at) → IfSome found (λ at. (at < length (drop (least - 1) bytes)) × HoldsAt (λ byte. byte ≡ LINE_FEED) (drop (least - 1) bytes) at) → lines bytes ≡ lines (take end bytes) ++ lines (take (length bytes - end) (drop end bytes))
lines-cut_at bytes None least end some within e f = rw (take_rest bytes end) (lines-take_drop_all bytes end e)
lines-cut_at bytes (Some at) least end some within e f =
    let place : ℕ = least - 1 + at in
    let short : place < length bytes = omega (arith, simp length-drop at f.0) in
    let feed : get_or bytes place 0 ≡ LINE_FEED = sym (get_or-drop (least - 1) bytes at 0) ∙ f.1 0 in
    let same : end ≡ place + 1 = omega arith in
    rw (take_rest bytes end, same) (lines-take_drop_feed bytes place 0 short feed)
