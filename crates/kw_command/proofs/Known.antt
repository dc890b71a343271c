-- Words that are tested one by one: each is the name of an option, the flag, or a word that `clap`
-- takes for a number just where it is one.
use Rattle.std.proofs.Common.{◌≡◌, ◌==◌, ℕ, ◌<◌, ◌≤◌, ◌^◌, Bool, true, false, ◌&&◌, ◌||◌, cond, Some, None, is_some, List, [], ◌∷◌, length, codes, refl, sym, ◌∙◌, ap, arith}
use Rattle.std.specs.Prelude.{nat_le, nat_lt, ℤ, pos, neg_ℤ, int_le}
use Rattle.std.specs.Char.{is_ascii_digit, digit_value}
use Rattle.std.specs.List.{list_all, AllByRecursion}
use Rattle.std.specs.Str.{all_ascii_digits, bytes_eq}
use Rattle.std.specs.Str.Parse.{digits_value, signed_digits_value, without_leading_sign}
use Rattle.std.proofs.lemmas.Bool.Decides.{nat_tests}
use Rattle.std.proofs.lemmas.Slice.Eq.{bytes_eq-Decides}
use Rattle.std.proofs.lemmas.Str.Parse.{digits_value_short}
use Rattle.kw_command.specs.declared.words.TheConstants.{MOST_DIGITS}
use Rattle.kw_command.specs.Words.{is_digits, is_known, number_in}
use Rattle.kw_command.specs.Clap.{least_of, most_of}
use Rattle.kw_command.proofs.Numbers.{all_digits, own}
use Rattle.kw_command.proofs.Walk.{workers_name, rows_name, bucket_name}
use Rattle.kw_command.proofs.Tokens.{Token, named, flag_name, plain, token_word, words_of, IsToken}
use Rattle.clap.specs.ValueTests.{is_numeral, is_signed_in, fits_i64}

-- the parts of the test for digits
pub record AreDigits (w : List ℕ) : Type 0 where
  pub each : list_all is_ascii_digit w ≡ true
  pub some : 0 < length w
  pub few : length w ≤ MOST_DIGITS

pub are_digits : (w : List ℕ) → is_digits w ≡ true → AreDigits w
are_digits w e = at (list_all is_ascii_digit w) refl (nat_lt 0 (length w)) refl (nat_le (length w) MOST_DIGITS) refl e
  where
    at : (a : Bool) → list_all is_ascii_digit w ≡ a → (b : Bool) → nat_lt 0 (length w) ≡ b → (c : Bool) → nat_le (length w) MOST_DIGITS ≡ c → (a && (b && c)) ≡ true → AreDigits w
    at true f true g true h e = record { each = f; some = grind (arith, nat_tests); few = grind (arith, nat_tests) }
    at true f true g false h e = absurd cc
    at true f false g c h e = absurd cc
    at false f b g c h e = absurd cc

-- each digit is one to `clap` too
digit_agrees : (c : ℕ) → is_ascii_digit c ≡ true → nat_lt (digit_value c) 10 ≡ true
digit_agrees c e = grind (arith, nat_tests)

numeral_agrees : (w : List ℕ) → list_all is_ascii_digit w ≡ true → list_all (λ d. nat_lt (digit_value d) 10) w ≡ true
numeral_agrees [] e = refl
numeral_agrees (c ∷ w) e = at (is_ascii_digit c) refl e (numeral_agrees w)
  where
    at : (b : Bool) → is_ascii_digit c ≡ b → (b && list_all is_ascii_digit w) ≡ true → (list_all is_ascii_digit w ≡ true → list_all (λ d. nat_lt (digit_value d) 10) w ≡ true)
        → (nat_lt (digit_value c) 10 && list_all (λ d. nat_lt (digit_value d) 10) w) ≡ true
    at true f e g = ap (λ (b : Bool). b && list_all (λ d. nat_lt (digit_value d) 10) w) (digit_agrees c f) ∙ g e
    at false f e g = absurd cc

pub first_digit : (x : ℕ) (xs : List ℕ) → list_all is_ascii_digit (x ∷ xs) ≡ true → is_ascii_digit x ≡ true
first_digit x xs e = at (is_ascii_digit x) e
  where
    at : (b : Bool) → (b && list_all is_ascii_digit xs) ≡ true → b ≡ true
    at true e = refl
    at false e = absurd cc

-- a digit is no sign
pub no_minus : (x : ℕ) → is_ascii_digit x ≡ true → (x == 45) ≡ false
no_minus x e = grind (arith, nat_tests)

no_plus : (x : ℕ) → is_ascii_digit x ≡ true → (x == 43) ≡ false
no_plus x e = grind (arith, nat_tests)

no_sign : (x : ℕ) (xs : List ℕ) → (x == 45) ≡ false → (x == 43) ≡ false → without_leading_sign (x ∷ xs) ≡ x ∷ xs
no_sign x xs h k = rw (h, k)

value_is : (x : ℕ) (xs : List ℕ) → (x == 45) ≡ false → (x == 43) ≡ false → signed_digits_value 10 (x ∷ xs) ≡ pos (digits_value 10 (x ∷ xs))
value_is x xs h k =
    ap (λ (b : Bool). cond b (neg_ℤ (pos (digits_value 10 (without_leading_sign (x ∷ xs))))) (pos (digits_value 10 (without_leading_sign (x ∷ xs))))) h
    ∙ ap (λ (s : List ℕ). pos (digits_value 10 s)) (no_sign x xs h k)

abbrev in_range : ℕ → ℕ → ℕ → Bool
in_range least most n = nat_le least n && nat_le n most

abbrev signed_test : ℕ → ℕ → List ℕ → ℤ → Bool
signed_test least most s z = is_numeral s && (fits_i64 z && (int_le (pos least) z && int_le z (pos most)))

accepts_digits : (least most x : ℕ) (xs : List ℕ) → AreDigits (x ∷ xs) → is_signed_in (pos least) (pos most) (x ∷ xs) ≡ in_range least most (digits_value 10 (x ∷ xs))
accepts_digits least most x xs d =
    let digit = first_digit x xs d.each in
    let h = no_minus x digit in
    let k = no_plus x digit in
    let long : 0 < length (x ∷ xs) = d.some in
    let some : nat_lt 0 (length (x ∷ xs)) ≡ true = grind (arith, nat_tests) in
    let numeral : is_numeral (x ∷ xs) ≡ true = ap (λ (b : Bool). b && list_all (λ e. nat_lt (digit_value e) 10) (x ∷ xs)) some ∙ numeral_agrees (x ∷ xs) d.each in
    let all : all_ascii_digits (x ∷ xs) ≡ true = sym (all_digits (x ∷ xs)) ∙ d.each in
    let small : digits_value 10 (x ∷ xs) < 10 ^ 10 = digits_value_short own (x ∷ xs) 10 all d.few in
    let fits : fits_i64 (pos (digits_value 10 (x ∷ xs))) ≡ true = grind (arith, nat_tests) in
    ap (λ (s : List ℕ). signed_test least most s (signed_digits_value 10 (x ∷ xs))) (no_sign x xs h k)
    ∙ (ap (signed_test least most (x ∷ xs)) (value_is x xs h k)
    ∙ (ap (λ (b : Bool). b && (fits_i64 (pos (digits_value 10 (x ∷ xs))) && in_range least most (digits_value 10 (x ∷ xs)))) numeral
    ∙ ap (λ (b : Bool). b && in_range least most (digits_value 10 (x ∷ xs))) fits))

number_digits : (least most : ℕ) (w : List ℕ) → is_digits w ≡ true → is_some (number_in least most w) ≡ in_range least most (digits_value 10 w)
number_digits least most w e =
    ap (λ (b : Bool). is_some (cond (b && in_range least most (digits_value 10 w)) (Some (digits_value 10 w)) None)) e ∙ at (in_range least most (digits_value 10 w))
  where
    at : (b : Bool) → is_some (cond b (Some (digits_value 10 w)) None) ≡ b
    at true = refl
    at false = refl

-- ---- the tokens of words

pub record IsTokenOf (w : List ℕ) : Type 0 where
  pub token : Token
  pub word : w ≡ token_word token
  pub is : IsToken token

digits_token : (w : List ℕ) → is_digits w ≡ true → IsTokenOf w
digits_token [] e = absurd cc
digits_token (x ∷ xs) e =
    let d = are_digits (x ∷ xs) e in
    record {
      token = plain x xs;
      word = refl;
      is = (no_minus x (first_digit x xs d.each), λ f. accepts_digits (least_of f) (most_of f) x xs d ∙ sym (number_digits (least_of f) (most_of f) (x ∷ xs) e));
    }

token_of : (w : List ℕ) → is_known w ≡ true → IsTokenOf w
token_of w e = at (bytes_eq w (codes "replay")) refl (bytes_eq w (codes "simulate")) refl (bytes_eq w (codes "judge")) refl (bytes_eq w (codes "gen")) refl (bytes_eq w (codes "rollup")) refl
    (bytes_eq w (codes "--workers")) refl (bytes_eq w (codes "--rows")) refl (bytes_eq w (codes "--bucket")) refl (bytes_eq w (codes "--record")) refl e
  where
    same : (other : List ℕ) → bytes_eq w other ≡ true → w ≡ other
    same other e = (bytes_eq-Decides w other).0 e

    at : (a : Bool) → bytes_eq w (codes "replay") ≡ a → (b : Bool) → bytes_eq w (codes "simulate") ≡ b → (j : Bool) → bytes_eq w (codes "judge") ≡ j → (c : Bool) → bytes_eq w (codes "gen") ≡ c → (u : Bool) → bytes_eq w (codes "rollup") ≡ u
        → (d : Bool) → bytes_eq w (codes "--workers") ≡ d → (r : Bool) → bytes_eq w (codes "--rows") ≡ r → (t : Bool) → bytes_eq w (codes "--bucket") ≡ t → (s : Bool) → bytes_eq w (codes "--record") ≡ s
        → (a || (b || (j || (c || (u || (d || (r || (t || (s || is_digits w))))))))) ≡ true → IsTokenOf w
    at true f b g j k c h u q d i r l t v s m e = record { token = plain 114 (codes "eplay"); word = same (codes "replay") f; is = (refl, λ f. refl) }
    at false f true g j k c h u q d i r l t v s m e = record { token = plain 115 (codes "imulate"); word = same (codes "simulate") g; is = (refl, λ f. refl) }
    at false f false g true k c h u q d i r l t v s m e = record { token = plain 106 (codes "udge"); word = same (codes "judge") k; is = (refl, λ f. refl) }
    at false f false g false k true h u q d i r l t v s m e = record { token = plain 103 (codes "en"); word = same (codes "gen") h; is = (refl, λ f. refl) }
    at false f false g false k false h true q d i r l t v s m e = record { token = plain 114 (codes "ollup"); word = same (codes "rollup") q; is = (refl, λ f. refl) }
    at false f false g false k false h false q true i r l t v s m e = record { token = named workers_name; word = same (codes "--workers") i; is = tt }
    at false f false g false k false h false q false i true l t v s m e = record { token = named rows_name; word = same (codes "--rows") l; is = tt }
    at false f false g false k false h false q false i false l true v s m e = record { token = named bucket_name; word = same (codes "--bucket") v; is = tt }
    at false f false g false k false h false q false i false l false v true m e = record { token = flag_name; word = same (codes "--record") m; is = tt }
    at false f false g false k false h false q false i false l false v false m e = digits_token w e

pub record AreTokensOf (ws : List (List ℕ)) : Type 0 where
  pub tokens : List Token
  pub words : ws ≡ words_of tokens
  pub are : AllByRecursion IsToken tokens

pub first_known : (w : List ℕ) (ws : List (List ℕ)) → list_all is_known (w ∷ ws) ≡ true → (is_known w ≡ true) × (list_all is_known ws ≡ true)
first_known w ws e = at (is_known w) e
  where
    at : (b : Bool) → (b && list_all is_known ws) ≡ true → (b ≡ true) × (list_all is_known ws ≡ true)
    at true e = (refl, e)
    at false e = absurd cc

pub tokens_of : (ws : List (List ℕ)) → list_all is_known ws ≡ true → AreTokensOf ws
tokens_of [] e = record { tokens = []; words = refl; are = tt }
tokens_of (w ∷ ws) e =
    let known = first_known w ws e in
    let one = token_of w known.0 in
    let more = tokens_of ws known.1 in
    record {
      tokens = one.token ∷ more.tokens;
      words = ap (λ (x : List ℕ). x ∷ ws) one.word ∙ ap (λ (x : List (List ℕ)). token_word one.token ∷ x) more.words;
      are = (one.is, more.are);
    }
