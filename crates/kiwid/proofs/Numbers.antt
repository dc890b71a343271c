-- A word of digits has its number, and the words of a server ask for numbers in range.
use Rattle.std.proofs.Common.{ℕ, ◌≡◌, ◌<◌, ◌≤◌, ◌^◌, ◌⊎◌, Bool, true, false, ◌&&◌, cond, Option, Some, None, Result, Ok, Err, is_some, is_ok, List, [], ◌∷◌, length, zero, suc, inr, refl, sym, ap, ◌∙◌, arith}
use Rattle.std.specs.Prelude.{nat_le, nat_lt}
use Rattle.std.specs.Char.{is_ascii_digit}
use Rattle.std.specs.List.{list_all}
use Rattle.std.specs.Str.{all_ascii_digits}
use Rattle.std.specs.Str.Parse.{digits_value, ParsesUnsigned}
use Rattle.std.proofs.lemmas.Bool.{false≢true}
use Rattle.std.proofs.lemmas.Bool.Decides.{nat_tests}
use Rattle.std.proofs.lemmas.Str.Parse.{parse_digits}
use Rattle.kw_command.specs.declared.words.TheConstants.{MOST_DIGITS}
use Rattle.kw_command.specs.Words.{is_digits, number_in}
use Rattle.kw_command.proofs.Numbers.{all_digits, own}
use Rattle.kiwid.specs.declared.words.Asked.{Asked}
use Rattle.kiwid.specs.declared.words.TheConstants.{MOST_PORT, MOST_SEATS, MOST_SESSIONS}
use Rattle.kiwid.specs.Words.{asked, asked_by}

-- a word that is not one digit to ten has no number
unwritten : (least most : ℕ) (w : List ℕ) → is_digits w ≡ false → None ≡ number_in least most w
unwritten least most w e = sym (ap (λ (b : Bool). cond (b && (nat_le least (digits_value 10 w) && nat_le (digits_value 10 w) most)) (Some (digits_value 10 w)) None) e)

no_word : (least most : ℕ) (w : List ℕ) → length w ≡ 0 → None ≡ number_in least most w
no_word least most w none = unwritten least most w (at (list_all is_ascii_digit w) (nat_lt 0 (length w)) (nat_le (length w) MOST_DIGITS) (grind (arith, nat_tests)))
  where
    at : (a b c : Bool) → b ≡ false → (a && (b && c)) ≡ false
    at true true c e = absurd cc
    at true false c e = refl
    at false b c e = refl

-- the number of a word of digits, by the tests of its range
written : (least most : ℕ) (w : List ℕ) → list_all is_ascii_digit w ≡ true → 0 < length w → length w ≤ MOST_DIGITS
    → number_in least most w ≡ cond (nat_le least (digits_value 10 w) && nat_le (digits_value 10 w) most) (Some (digits_value 10 w)) None
written least most w each some few =
    let a : nat_lt 0 (length w) ≡ true = grind (arith, nat_tests) in
    let b : nat_le (length w) MOST_DIGITS ≡ true = grind (arith, nat_tests) in
    rw (each, a, b)

-- what is read of a word of at most ten digits
module _ (most : ℕ) (w : List ℕ) (each : list_all is_ascii_digit w ≡ true) (few : length w ≤ MOST_DIGITS) where
  all_are : all_ascii_digits w ≡ true
  all_are = sym (all_digits w) ∙ each

  outside : 0 < length w → (digits_value 10 w < 1) ⊎ (most < digits_value 10 w) → None ≡ number_in 1 most w
  outside some out = at (nat_le 1 (digits_value 10 w)) refl (nat_le (digits_value 10 w) most) refl ∙ sym (written 1 most w each some few)
    where
      at : (a : Bool) → nat_le 1 (digits_value 10 w) ≡ a → (b : Bool) → nat_le (digits_value 10 w) most ≡ b → None ≡ cond (a && b) (Some (digits_value 10 w)) None
      at true f true g = absurd (grind (arith, nat_tests))
      at true f false g = refl
      at false f b g = refl

  -- a word that is not read has no number of 32 bits
  pub unread : {E : Type 0} (r : Result ℕ E) (o : Option ℕ) → ParsesUnsigned 32 10 w r → o ≡ None → is_some o ≡ is_ok r → most < 2 ^ 32 → None ≡ number_in 1 most w
  unread {E} (Ok n) o parsed none same fits = absurd (false≢true (ap is_some (sym none) ∙ same))
  unread {E} (Err e) o parsed none same fits = at (length w) refl
    where
      bad : (0 < length w) × (digits_value 10 w < 2 ^ 32) → ⊥
      bad = parse_digits own {E = E} 32 w (Err e) parsed all_are

      great : 0 < length w → (b : Bool) → nat_lt (digits_value 10 w) (2 ^ 32) ≡ b → most < digits_value 10 w
      great some true f = let small : digits_value 10 w < 2 ^ 32 = grind (arith, nat_tests) in absurd (bad (some, small))
      great some false f = let large : 2 ^ 32 ≤ digits_value 10 w = grind (arith, nat_tests) in omega arith

      at : (n : ℕ) → length w ≡ n → None ≡ number_in 1 most w
      at zero none = no_word 1 most w none
      at (suc n) more = let some : 0 < length w = omega arith in outside some (inr (great some (nat_lt (digits_value 10 w) (2 ^ 32)) refl))

-- a number that words have is in range
number_within : (least most n : ℕ) (w : List ℕ) → number_in least most w ≡ Some n → (least ≤ n) × (n ≤ most)
number_within least most n w e = at (is_digits w) (nat_le least (digits_value 10 w)) refl (nat_le (digits_value 10 w) most) refl e
  where
    at : (a b : Bool) → nat_le least (digits_value 10 w) ≡ b → (c : Bool) → nat_le (digits_value 10 w) most ≡ c → cond (a && (b && c)) (Some (digits_value 10 w)) None ≡ Some n → (least ≤ n) × (n ≤ most)
    at true true f true g e =
        let is : digits_value 10 w ≡ n = cc in
        (grind (arith, nat_tests), grind (arith, nat_tests))
    at true true f false g e = absurd cc
    at true false f c g e = absurd cc
    at false b f c g e = absurd cc

-- what words ask for is in range
pub record IsInRange (a : Asked) : Type 0 where
  pub port : a.port ≤ MOST_PORT
  pub some_seats : 1 ≤ a.seats
  pub seats : a.seats ≤ MOST_SEATS

pub asked_in_range : (words : List (List ℕ)) (a : Asked) → asked_by words ≡ Some a → IsInRange a
asked_in_range (port ∷ seats ∷ sessions ∷ []) a e = at (number_in 1 MOST_PORT port) refl (number_in 1 MOST_SEATS seats) refl (number_in 1 MOST_SESSIONS sessions) e
  where
    at : (p : Option ℕ) → number_in 1 MOST_PORT port ≡ p → (s : Option ℕ) → number_in 1 MOST_SEATS seats ≡ s → (n : Option ℕ) → asked p s n ≡ Some a → IsInRange a
    at (Some p) f (Some s) g (Some n) e =
        let port_is : p ≡ a.port = cc in
        let seats_are : s ≡ a.seats = cc in
        record { port = let h = (number_within 1 MOST_PORT p port f).1 in omega arith; some_seats = let h = (number_within 1 MOST_SEATS s seats g).0 in omega arith; seats = let h = (number_within 1 MOST_SEATS s seats g).1 in omega arith }
    at (Some p) f (Some s) g None e = absurd cc
    at (Some p) f None g n e = absurd cc
    at None f s g n e = absurd cc
asked_in_range [] a e = absurd cc
asked_in_range (port ∷ []) a e = absurd cc
asked_in_range (port ∷ seats ∷ []) a e = absurd cc
asked_in_range (port ∷ seats ∷ sessions ∷ more ∷ words) a e = absurd cc
