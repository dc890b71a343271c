-- The lines that the generator makes, one after the other.
use Rattle.std.proofs.Common.{◌≡◌, ℕ, zero, suc, ◌+◌, ◌<◌, ◌^◌, ◌%◌, Bool, true, false, cond, List, [], ◌∷◌, ◌++◌, refl, sym, ◌∙◌, ap, arith}
use Rattle.std.specs.Prelude.{nat_lt, nat_eq}
use Rattle.std.specs.List.{AllByRecursion}
use Rattle.kw_model.specs.declared.call.Call.TheVariants as call
use Rattle.kw_line.specs.declared.item.Form.TheVariants as form
use Rattle.kw_line.specs.declared.item.Item.{Item}
use Rattle.kw_line.specs.declared.item.Item.TheVariants as item
use Rattle.kw_line.specs.Line.{IsItem}
use Rattle.kw_app.specs.declared.generate.TheConstants.{MODULUS, KEYS, KINDS, DELETE_KIND}
use Rattle.kw_app.specs.Generated.{next, drawn, line_of, line_after, lines_after, last_lines, generated}

-- the number after so many lines
abbrev pub number_after : ℕ → ℕ → ℕ
number_after x zero = x
number_after x (suc n) = number_after (next (next (next x))) n

-- one more line at the end
pub lines_after-suc : (n x : ℕ) → lines_after x (suc n) ≡ lines_after x n ++ line_after (number_after x n) ∷ []
lines_after-suc zero x = refl
lines_after-suc (suc n) x = ap (λ (l : List Item). line_after x ∷ l) (lines_after-suc n (next (next (next x))))

pub number_after-suc : (n x : ℕ) → number_after x (suc n) ≡ next (next (next (number_after x n)))
number_after-suc zero x = refl
number_after-suc (suc n) x = number_after-suc n (next (next (next x)))

-- a line of draws below 2^15 is in the grammar
line_is_item : (a b c : ℕ) → c < 2 ^ 15 → IsItem (line_of a b c)
line_is_item a b c h = at (nat_lt (a % KINDS) DELETE_KIND) (nat_eq (a % KINDS) DELETE_KIND)
  where
    key : b % KEYS < 2 ^ 32
    key = omega arith

    at : (p q : Bool) → IsItem (cond p (item.Call (call.Put (b % KEYS) c) form.Put) (cond q (item.Call (call.Del (b % KEYS)) form.Del) (item.Call (call.Get (b % KEYS)) form.Get)))
    at true q = (tt, (key, omega arith))
    at false true = (tt, key)
    at false false = (tt, key)

drawn_is_small : (x : ℕ) → drawn (next x) < 2 ^ 15
drawn_is_small x = omega arith

lines_are_items : (n x : ℕ) → AllByRecursion IsItem (lines_after x n)
lines_are_items zero x = tt
lines_are_items (suc n) x = (line_is_item (drawn (next x)) (drawn (next (next x))) (drawn (next (next (next x)))) (drawn_is_small (next (next x))), lines_are_items n (next (next (next x))))

and_last : (items : List Item) → AllByRecursion IsItem items → AllByRecursion IsItem (items ++ last_lines)
and_last [] h = (tt, ((tt, (omega arith, omega arith)), ((tt, (omega arith, omega arith)), ((tt, (omega arith, omega arith)), ((tt, (omega arith, omega arith)), tt)))))
and_last (i ∷ items) h = (h.0, and_last items h.1)

-- generated lines are in the grammar
pub generated_are_items : (start count : ℕ) → AllByRecursion IsItem (generated start count)
generated_are_items start count = and_last (lines_after (start % MODULUS) count) (lines_are_items count (start % MODULUS))

-- a line is made, and the generator goes on
pub one_more : (n x : ℕ) (old new : List Item) (line : Item) (number after : ℕ) → old ≡ lines_after x n → number ≡ number_after x n → new ≡ old ++ line ∷ [] → line ≡ line_after number
    → after ≡ next (next (next number)) → (new ≡ lines_after x (n + 1)) × (after ≡ number_after x (n + 1))
one_more n x old new line number after h i j k l =
    let e : suc n ≡ n + 1 = omega arith in (
      j ∙ (ap (λ (o : List Item). o ++ line ∷ []) h ∙ (ap (λ (m : Item). lines_after x n ++ m ∷ []) (k ∙ ap line_after i) ∙ (sym (lines_after-suc n x) ∙ ap (lines_after x) e))),
      l ∙ (ap (λ (m : ℕ). next (next (next m))) i ∙ (sym (number_after-suc n x) ∙ ap (number_after x) e)),
    )
