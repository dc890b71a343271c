-- Texts that grow at their end.
use Rattle.std.proofs.Common.{ℕ, ◌≡◌, ◌<◌, ◌≤◌, ◌+◌, List, [], ◌∷◌, ◌++◌, map, take, get_or, length, refl, sym, ap, ◌∙◌, arith}
use Rattle.std.specs.List.{join_with_byte}
use Rattle.std.proofs.lemmas.List.{append-nil, append_assoc, length-append, length-map, length-take-le, take-take, take_at, take_more, map_push}
use Rattle.kw_line.specs.declared.words.TheConstants.{SPACE}
use Rattle.kw_line.specs.Answered.{pair_text}
use Rattle.kw_model.specs.Map.{Pairs}

-- what a longer text keeps in front, a shorter one that it began with keeps too
pub kept_through : (old mid new more : List ℕ) (m n : ℕ) → m ≡ length old → n ≡ length mid → mid ≡ old ++ more → take n new ≡ mid → take m new ≡ old
kept_through old mid new more m n a b e k =
    let within : m ≤ n = omega (arith, length-append old more, ap length e) in
    sym (take-take m n new within) ∙ ap (take m) (k ∙ e) ∙ take_at old more m (sym a)

-- one more piece
join_push : (c : ℕ) (piece : List ℕ) (pieces : List (List ℕ)) (last : List ℕ) → join_with_byte c ((piece ∷ pieces) ++ last ∷ []) ≡ join_with_byte c (piece ∷ pieces) ++ c ∷ last
join_push c piece [] last = refl
join_push c piece (next ∷ pieces) last = ap (λ t. piece ++ (c ∷ t)) (join_push c next pieces last) ∙ sym (append_assoc piece (c ∷ join_with_byte c (next ∷ pieces)) (c ∷ last))

join_longer : (c : ℕ) (pieces : List (List ℕ)) (last : List ℕ) → 0 < length pieces → join_with_byte c (pieces ++ last ∷ []) ≡ join_with_byte c pieces ++ c ∷ last
join_longer c [] last l = absurd (omega arith)
join_longer c (piece ∷ pieces) last l = join_push c piece pieces last

-- one more pair: the first one, and a later one
pub first_pair : (old out new : List ℕ) (ps : Pairs) (i : ℕ) (d : ℕ × ℕ) → i ≤ 0 → i < length ps → out ≡ old ++ join_with_byte SPACE (map pair_text (take i ps)) → new ≡ out ++ pair_text (get_or ps i d) → new ≡ old ++ join_with_byte SPACE (map pair_text (take (i + 1) ps))
first_pair old out new ps i d low l e n =
    let none : take i ps ≡ [] = rw (eq_zero) refl in
    let none_yet : out ≡ old = e ∙ ap (λ t. old ++ join_with_byte SPACE (map pair_text t)) none ∙ append-nil old in
    let more : take (i + 1) ps ≡ get_or ps i d ∷ [] = take_more ps i d l ∙ ap (λ t. t ++ get_or ps i d ∷ []) none in
    n ∙ ap (λ t. t ++ pair_text (get_or ps i d)) none_yet ∙ ap (λ t. old ++ join_with_byte SPACE (map pair_text t)) (sym more)
  where
    eq_zero : i ≡ 0
    eq_zero = omega arith

pub later_pair : (old out mid new : List ℕ) (ps : Pairs) (i : ℕ) (d : ℕ × ℕ) → 0 < i → i < length ps → out ≡ old ++ join_with_byte SPACE (map pair_text (take i ps)) → mid ≡ out ++ SPACE ∷ [] → new ≡ mid ++ pair_text (get_or ps i d) → new ≡ old ++ join_with_byte SPACE (map pair_text (take (i + 1) ps))
later_pair old out mid new ps i d low l e m n =
    let text = pair_text (get_or ps i d) in
    let before = map pair_text (take i ps) in
    let some : 0 < length before = simp (length-map, length-take-le i ps (omega arith)) (omega arith) in
    let more : map pair_text (take (i + 1) ps) ≡ before ++ text ∷ [] = ap (map pair_text) (take_more ps i d l) ∙ map_push pair_text (take i ps) (get_or ps i d) in
    let whole : join_with_byte SPACE (map pair_text (take (i + 1) ps)) ≡ join_with_byte SPACE before ++ SPACE ∷ text = ap (join_with_byte SPACE) more ∙ join_longer SPACE before text some in
    let grown : new ≡ ((old ++ join_with_byte SPACE before) ++ SPACE ∷ []) ++ text = cc in
    grown ∙ append_assoc (old ++ join_with_byte SPACE before) (SPACE ∷ []) text ∙ append_assoc old (join_with_byte SPACE before) (SPACE ∷ text) ∙ ap (λ t. old ++ t) (sym whole)
