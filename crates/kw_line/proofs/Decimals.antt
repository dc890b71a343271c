-- Decimal texts of numbers, and what `parse` reads of them.
use Rattle.std.proofs.Common.{ℕ, ◌≡◌, ◌≢◌, ◌<◌, ◌≤◌, ◌+◌, ◌-◌, ◌*◌, ◌^◌, leb, ◌⊎◌, List, ◌∷◌, ◌++◌, take, drop, Option, Some, None, Result, Ok, Err, length, get_or, MatchOption, MatchResult, inl, inr, refl, sym, ◌∙◌, subst, ap, arith, rules}
use Rattle.std.specs.Result.{OkIff, result_ok}
use Rattle.std.proofs.lemmas.Bool.{cases_eq, cases_lt, le-leb, lt-leb}
use Rattle.std.specs.Bool.{then_some}
use Rattle.std.specs.Fmt.{decimal}
use Rattle.std.specs.Str.{IsUtf8}
use Rattle.std.specs.Str.Parse.{AllDigits, digits_value, ParsesUnsigned}
use Rattle.std.proofs.lemmas.Str.Parse.{IsNumeralModel, numerals_by_value, tells_digits, parse_plain, not_in_digits}
use Rattle.std.proofs.lemmas.Fmt.{digits_decimal, first_decimal, decimal_nonempty, decimal_digit, decimal_injective, decimal-digits_value, IsAscii-decimal, parse-decimal}
use Rattle.std.proofs.lemmas.Str.{IsUtf8-from_ascii, digit_value_digit}
use Rattle.std.proofs.lemmas.Int.Digits.{digits_more, digits_value_more}
use Rattle.std.proofs.lemmas.List.{get_or-take, length-take-le, length-drop, take-take, take_all, take-append-drop}
use Rattle.std.proofs.lemmas.Grind.{pow_more}
use Rattle.std.proofs.Math.Nat.{pow-le-pow_right}

-- digits and their value are std's
pub own : IsNumeralModel (AllDigits 10) (digits_value 10)
own = numerals_by_value (AllDigits 10) tells_digits

-- no decimal text has a plus sign in front
pub no_plus : (n : ℕ) → n < 2 ^ 64 → get_or (decimal n) 0 0 ≢ 43
no_plus n h = not_in_digits own (decimal n) 43 (digits_decimal own n h) (λ r. omega (arith, r.0, r.1)) 0 (decimal_nonempty n h)

-- only 0 has a zero in front
pub no_leading_zero : (n : ℕ) → n < 2 ^ 64 → get_or (decimal n) 0 0 ≡ 48 → length (decimal n) ≡ 1
no_leading_zero n h e = elim (cases_eq n 0) [ inl z ↦ rw (z, decimal_digit 0 (omega arith)) refl | inr z ↦ absurd (omega (arith, first_decimal n (omega arith) h)) ]

-- a decimal text is text
pub IsUtf8-decimal : (n : ℕ) → n < 2 ^ 64 → IsUtf8 (decimal n)
IsUtf8-decimal n h = search (rules, IsUtf8-from_ascii, IsAscii-decimal n h)

-- what `parse` reads of bytes without a plus sign and a leading zero is the number whose text they
-- are
pub number-from_parse : {E : Type 0} (bytes : List ℕ) (r : Result ℕ E) → ParsesUnsigned 64 10 bytes r → get_or bytes 0 0 ≢ 43 → (get_or bytes 0 0 ≡ 48 → length bytes ≡ 1) → MatchOption (result_ok r) ((n : ℕ) → n < 2 ^ 64 → bytes ≢ decimal n) (λ n. (n < 2 ^ 64) × (bytes ≡ decimal n))
number-from_parse {E} bytes (Ok n) h plus zeros =
    let k = parse_plain own {E = E} 64 bytes (Ok n) h plus in
    let e = decimal-digits_value own bytes k.0.0 k.0.1 zeros k.0.2 in (rw k.1 k.0.2, sym e ∙ ap decimal (sym k.1))
number-from_parse {E} bytes (Err e) h plus zeros = λ n l f. cc (parse-decimal 64 n bytes (Err e) l l f h)

-- bytes that have one of them are no decimal text
pub not_a_number : (bytes : List ℕ) → (get_or bytes 0 0 ≡ 43) ⊎ ((get_or bytes 0 0 ≡ 48) × (1 < length bytes)) → (n : ℕ) → n < 2 ^ 64 → bytes ≡ decimal n → ⊥
not_a_number bytes (inl p) n l e = no_plus n l (rw e at p)
not_a_number bytes (inr z) n l e = let one = no_leading_zero n l (rw e at z.0) in absurd (omega (arith, z.1, ap length e))

-- what stands of a result whose value is gone, and of one whose value is there
pub from_no_value : {X E : Type 0} (r : Result X E) (P : X → Type 0) (Q : E → Type 0) (G : Type 0) → result_ok r ≡ None → MatchResult r P Q → ((e : E) → Q e → G) → G
from_no_value (Ok x) P Q G n m g = cc
from_no_value (Err e) P Q G n m g = g e m

pub from_value : {X E : Type 0} (r : Result X E) (P : X → Type 0) (Q : E → Type 0) (x : X) → result_ok r ≡ Some x → MatchResult r P Q → P x
from_value (Ok y) P Q x s m = let e : y ≡ x = cc in subst P e m
from_value (Err e) P Q x s m = cc

-- a number that stands first among words, where only those below a limit are wanted
pub below_limit : (limit n : ℕ) (words after : List (List ℕ)) (o : Option ℕ) → limit ≤ 2 ^ 64 → n < 2 ^ 64 → words ≡ decimal n ∷ after → ((n < limit) × (o ≡ Some n)) ⊎ ((limit ≤ n) × (o ≡ None)) → MatchOption o ((k : ℕ) (rest : List (List ℕ)) → k < limit → words ≢ decimal k ∷ rest) (λ k. (k < limit) × (words ≡ decimal k ∷ after))
below_limit limit n words after o high h e (inl s) = rw s.1 (s.0, e)
below_limit limit n words after o high h e (inr s) = rw s.1 (λ k rest l f.
    let same : decimal k ≡ decimal n = cc in
    let k_is = decimal_injective k n (omega arith) h same in
    absurd (omega (arith, k_is, s.0)))

-- what `try_from` and `then_some` make of a number, by cases
pub from_try : {E : Type 0} (limit n : ℕ) (r : Result ℕ E) → OkIff r (n < limit) n → ((n < limit) × (result_ok r ≡ Some n)) ⊎ ((limit ≤ n) × (result_ok r ≡ None))
from_try limit n (Ok x) h = inl (h.0, ap Some h.1)
from_try limit n (Err e) h = elim (cases_lt n limit) [ inl l ↦ absurd (h l) | inr l ↦ inr (l, refl) ]

pub from_test : (most n : ℕ) → ((n < most + 1) × (then_some (leb n most) n ≡ Some n)) ⊎ ((most + 1 ≤ n) × (then_some (leb n most) n ≡ None))
from_test most n = elim (cases_lt n (most + 1)) [ inl l ↦ inl (l, rw (le-leb n most (omega arith)) refl) | inr l ↦ inr (l, rw (lt-leb n most (omega arith)) refl) ]

-- one byte more that is a digit: what is read so far is digits, and this is their value
pub digits_read_on : (bytes : List ℕ) (i value byte : ℕ) → i < length bytes → byte ≡ get_or bytes i 0 → 48 ≤ byte → byte ≤ 57 → AllDigits 10 (take i bytes) → value ≡ digits_value 10 (take i bytes) → AllDigits 10 (take (i + 1) bytes) × (value * 10 + (byte - 48) ≡ digits_value 10 (take (i + 1) bytes))
digits_read_on bytes i value byte l b low high digits v =
    let d = digit_value_digit (get_or bytes i 0) (omega (arith, b), omega (arith, b)) in
    (digits_more 10 bytes i l digits (omega (arith, b, d)), omega (arith, digits_value_more 10 bytes i l, v, b, d))

-- a number below ten to the i, and one digit behind it: below ten to the i + 1
pub tens_more : (i value byte : ℕ) → value < 10 ^ i → 48 ≤ byte → byte ≤ 57 → value * 10 + (byte - 48) < 10 ^ (i + 1)
tens_more i value byte l low high = omega (arith, pow_more 10 i, l)

-- fewer than 19 digits, and one more behind them, fit
pub tens_fit : (i value : ℕ) → i < 19 → value < 10 ^ i → value * 10 + 9 < 2 ^ 64
tens_fit i value l h = let p : 10 ^ i ≤ 10 ^ 18 = pow-le-pow_right {n = 10} (omega arith) {i = i} {j = 18} (omega arith) in omega (arith, p, h)

-- so many bytes in front are digits, and this is their value
pub record IsRead (bytes : List ℕ) (count value : ℕ) : Type 0 where
  pub digits : AllDigits 10 (take count bytes)
  pub worth : value ≡ digits_value 10 (take count bytes)
  pub below : value < 10 ^ count

-- no bytes are read
pub none_read : (bytes : List ℕ) → IsRead bytes 0 0
none_read bytes = record { digits = search rules; worth = search rules; below = omega arith }

-- one digit more is read
pub read_on : (bytes : List ℕ) (i value byte more : ℕ) → i < length bytes → byte ≡ get_or bytes i 0 → IsRead bytes i value → (48 ≤ byte) × (byte ≤ 57) × (more ≡ value * 10 + (byte - 48)) → IsRead bytes (i + 1) more
read_on bytes i value byte more lt at read digit =
    let on = digits_read_on bytes i value byte lt at digit.0 digit.1 read.digits read.worth in
    record { digits = on.0; worth = digit.2 ∙ on.1; below = subst (λ n. n < 10 ^ (i + 1)) (sym digit.2) (tens_more i value byte read.below digit.0 digit.1) }

-- what is read of up to 19 bytes fits
pub read_fits : (bytes : List ℕ) (i value : ℕ) → i ≤ 19 → IsRead bytes i value → value < 2 ^ 64
read_fits bytes i value le read = let p : 10 ^ i ≤ 10 ^ 19 = pow-le-pow_right {n = 10} (omega arith) {i = i} {j = 19} le in let b = read.below in omega (arith, p, b)

-- digits in front without a leading zero are the decimal text of their value, and the rest stands
-- behind it
pub split_decimal : (bytes : List ℕ) (most count value : ℕ) → AllDigits 10 (take count (take most bytes)) → value ≡ digits_value 10 (take count (take most bytes)) → count ≤ length (take most bytes) → most ≤ length bytes → value < 2 ^ 64 → (0 < count) × (get_or bytes 0 0 ≡ 48 → count ≡ 1) → bytes ≡ decimal value ++ take (length bytes - count) (drop count bytes)
split_decimal bytes most count value digits v within room fits plain =
    let low : count ≤ most = omega (arith, within, length-take-le most bytes room) in
    let same = take-take count most bytes low in
    let size = length-take-le count bytes (omega (arith, low, room)) in
    let first = get_or-take count bytes 0 0 plain.0 in
    let worth : value ≡ digits_value 10 (take count bytes) = v ∙ ap (digits_value 10) same in
    let text = decimal-digits_value own (take count bytes) (rw same at digits) (omega (arith, size, plain.0)) (λ z. size ∙ plain.1 (sym first ∙ z)) (omega (arith, worth, fits)) in
    let behind = take_all (length bytes - count) (drop count bytes) (omega (arith, length-drop count bytes)) in
    sym (take-append-drop count bytes) ∙ ap (λ t. t ++ drop count bytes) (sym text ∙ ap decimal (sym worth)) ∙ ap (λ t. decimal value ++ t) (sym behind)
