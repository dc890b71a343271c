-- Which bytes have no byte of a kind: words and numbers.
use Rattle.std.proofs.Common.{ℕ, ◌≡◌, ◌≢◌, ◌<◌, ◌≤◌, ◌^◌, List, [], ◌∷◌, true, not, eqb, ◌∙◌, arith}
use Rattle.std.specs.Fmt.{decimal}
use Rattle.std.specs.List.{AllByRecursion, list_all}
use Rattle.std.proofs.lemmas.List.{get_or_default}
use Rattle.std.proofs.lemmas.List.Elements.{All-from_recursion}
use Rattle.std.proofs.lemmas.Bool.{eqb-false, and_parts, not-true}
use Rattle.std.proofs.lemmas.Str.Parse.{not_in_digits}
use Rattle.std.proofs.lemmas.Fmt.{digits_decimal}
use Rattle.kw_line.proofs.Decimals.{own}
use Rattle.kw_line.proofs.Parts.{HasNo}

-- bytes of which a test computes that none is the mark
no_mark_in : (mark : ℕ) (bytes : List ℕ) → list_all (λ b. not (eqb b mark)) bytes ≡ true → AllByRecursion (λ b. b ≢ mark) bytes
no_mark_in mark [] e = tt
no_mark_in mark (b ∷ bs) e = let h = and_parts (not (eqb b mark)) (list_all (λ c. not (eqb c mark)) bs) e in (eqb-false b mark (not-true _ h.0), no_mark_in mark bs h.1)

pub no_mark : (mark : ℕ) (bytes : List ℕ) → list_all (λ b. not (eqb b mark)) bytes ≡ true → HasNo mark bytes
no_mark mark bytes e = All-from_recursion (λ b. b ≢ mark) bytes (no_mark_in mark bytes e)

-- a number has digits alone
pub no_mark_decimal : (mark n : ℕ) → (48 ≤ mark → mark < 58 → ⊥) → n < 2 ^ 64 → HasNo mark (decimal n)
no_mark_decimal mark n other h k d l e = not_in_digits own (decimal n) mark (digits_decimal own n h) (λ r. other (omega (arith, r.0)) (omega (arith, r.1))) k l (get_or_default (decimal n) k 0 d l ∙ e)
