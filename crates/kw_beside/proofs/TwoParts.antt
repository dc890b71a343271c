-- What readers give for two pieces, as the tests have it.
use Rattle.std.proofs.Common.{ℕ, ◌≡◌, ◌<◌, ◌+◌, ◌^◌, List, [], ◌∷◌, ◌++◌, length, sym, ap, ◌∙◌, subst, arith, append-nil, length-append}
use Rattle.kw_line.specs.declared.words.TheConstants.{LINE_FEED}
use Rattle.kw_line.specs.Cut.{lines}
use Rattle.kw_beside.specs.Pieces.{IsRead, AreReadOf}
use Rattle.kw_beside.proofs.LineCuts.{lines-cut_behind_feed}
use Rattle.kw_beside.proofs.ReadParts.{Part}

-- there are bytes whose pieces are two that were read, the first of which ends with a line feed
pub two_read : (front second : List ℕ) (none first both : List Part) (one two : Part) → none ≡ [] → first ≡ none ++ one ∷ [] → both ≡ first ++ two ∷ [] → IsRead (front ++ LINE_FEED ∷ []) one → IsRead second two → length front + length second + 1 < 2 ^ 32 → (bytes : List ℕ) × AreReadOf bytes both × (length bytes < 2 ^ 32)
two_read front second none first both one two at_first pushed pushed_next read read_next short =
    let whole : both ≡ one ∷ two ∷ [] = pushed_next ∙ ap (λ parts. parts ++ two ∷ []) (pushed ∙ ap (λ parts. parts ++ one ∷ []) at_first) in
    let is : AreReadOf (front ++ LINE_FEED ∷ second) (one ∷ two ∷ []) = record {
      pieces = (front ++ LINE_FEED ∷ []) ∷ second ∷ [];
      cut = lines-cut_behind_feed front second ∙ ap (λ more. lines (front ++ LINE_FEED ∷ []) ++ more) (sym (append-nil (lines second)));
      each = (read, (read_next, tt));
    } in
    (front ++ LINE_FEED ∷ second, subst (AreReadOf (front ++ LINE_FEED ∷ second)) (sym whole) is, omega (arith, length-append front (LINE_FEED ∷ second)))
