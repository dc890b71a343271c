-- What the program reads of `clap`'s parse.
use Rattle.std.proofs.Common.{◌≡◌, ℕ, ◌<◌, ◌≤◌, ◌^◌, Bool, true, false, ◌&&◌, ◌⊎◌, cond, Option, Some, None, List, [], ◌∷◌, map, codes, length, drop, refl, sym, ◌∙◌, ap, ap₂, subst, arith}
use mathlib.Core.Logic.{⊎_elim}
use Rattle.std.specs.Prelude.{nat_le, option_map, Result, Ok, Err}
use Rattle.std.specs.List.{list_all}
use Rattle.std.specs.Str.{all_ascii_digits}
use Rattle.std.specs.Str.Parse.{ParsesUnsigned, digits_value}
use Rattle.std.proofs.lemmas.Bool.Decides.{nat_tests}
use Rattle.std.proofs.lemmas.Str.Parse.{parse_digits}
use Rattle.kw_command.specs.declared.words.Arguments.{Arguments}
use Rattle.kw_command.specs.Words.{is_digits, is_known, number_in}
use Rattle.kw_command.specs.Reading.{no_arguments, reads}
use Rattle.kw_command.specs.Clap.{Field, start, count, workers, rows, bucket, id_of, flag_id, least_of, most_of, kiwi}
use Rattle.kw_command.proofs.Numbers.{all_digits, own}
use Rattle.kw_command.proofs.Walk.{Use, row_for, value_in, flag_in, flag_text, one_of-uses, one_of-flag, stands, kinds_from, fault_of-kiwi}
use Rattle.kw_command.proofs.Parsed.{field_of, Fits, HasNumbers}
use Rattle.kw_command.proofs.Tokens.{first, read_all, IsRead, IsRefused}
use Rattle.kw_command.proofs.Known.{are_digits, first_digit, no_minus, first_known, tokens_of}
use Rattle.clap.specs.Lexer.{without_minus}
use Rattle.clap.specs.Matches.{found_of, one_text, ReadsOne}
use Rattle.clap.specs.Walk.{one_of, rows_of}
use Rattle.clap.specs.Simple.{App, is_simple, matches_of}
use Rattle.clap.specs.Faults.{fault_of, is_simple_and_free}
use Rattle.clap.specs.Kinds.{Kinds, HasKind, IsAmong}
use Rattle.clap.specs.Values.{kind_of}
use Rattle.clap.specs.declared.error.Error.{Error}
use Rattle.clap.specs.declared.error.kind.ErrorKind.TheVariants.{OutOfMemory}
use Rattle.clap.specs.declared.parser.matches.ArgMatches.{ArgMatches}
use Rattle.clap.proofs.WalkLemmas.{one_text-rows}

-- a number that is in range is digits, and has their value
pub number_parts : (least most n : ℕ) (w : List ℕ) → number_in least most w ≡ Some n → (is_digits w ≡ true) × (digits_value 10 w ≡ n) × (n ≤ most)
number_parts least most n w e = at (is_digits w) refl (nat_le least (digits_value 10 w)) (nat_le (digits_value 10 w) most) refl e
  where
    at : (a : Bool) → is_digits w ≡ a → (b c : Bool) → nat_le (digits_value 10 w) most ≡ c → cond (a && (b && c)) (Some (digits_value 10 w)) None ≡ Some n → (is_digits w ≡ true) × (digits_value 10 w ≡ n) × (n ≤ most)
    at true f true true g e =
        let is : digits_value 10 w ≡ n = cc in
        (f, is, grind (arith, nat_tests))
    at true f true false g e = absurd cc
    at true f false c g e = absurd cc
    at false f b c g e = absurd cc

no_minus_first : (w : List ℕ) → is_digits w ≡ true → without_minus w ≡ w
no_minus_first [] e = refl
no_minus_first (x ∷ xs) e = rw (no_minus x (first_digit x xs (are_digits (x ∷ xs) e).each))

most_fits : (f : Field) → most_of f < 2 ^ 32
most_fits start = omega arith
most_fits count = omega arith
most_fits workers = omega arith
most_fits rows = omega arith
most_fits bucket = omega arith

-- what is read of a word that writes a number in range
read_of : {E : Type 0} (least most n : ℕ) (w : List ℕ) (gives : List ℕ → Result ℕ E → Type 0) → ((t : List ℕ) (x : Result ℕ E) → gives t x → ParsesUnsigned 32 10 t x) → most < 2 ^ 32
    → number_in least most w ≡ Some n → (r : Option ℕ) → ReadsOne gives w r → r ≡ Some n
read_of {E} least most n w gives parses fits is (Some k) h =
    let parts = number_parts least most n w is in
    let d = are_digits w parts.0 in
    let all : all_ascii_digits w ≡ true = sym (all_digits w) ∙ d.each in
    let ok = parse_digits own {E = E} 32 w (Ok k) (parses w (Ok k) h) all in
    ap (λ (m : ℕ). Some m) (ok.1 ∙ parts.1)
read_of {E} least most n w gives parses fits is None h =
    let parts = number_parts least most n w is in
    let d = are_digits w parts.0 in
    let all : all_ascii_digits w ≡ true = sym (all_digits w) ∙ d.each in
    let bad = parse_digits own {E = E} 32 w (Err h.0) (parses w (Err h.0) h.1) all in
    let some : 0 < length w = d.some in
    let value : digits_value 10 w ≡ n = parts.1 in
    let most_is : n ≤ most = parts.2 in
    absurd (bad (some, omega arith))

-- what the program reads of an argument
pub gets : {E : Type 0} (f : Field) (us : List Use) (a : Arguments) (m : ArgMatches) (r : Option ℕ) (gives : List ℕ → Result ℕ E → Type 0) → ((t : List ℕ) (x : Result ℕ E) → gives t x → ParsesUnsigned 32 10 t x)
    → rows_of (found_of m) ≡ map row_for us → HasNumbers us a → (one_text (found_of m) (id_of f) ≡ None → r ≡ None) → ((t : List ℕ) → one_text (found_of m) (id_of f) ≡ Some t → ReadsOne gives t r) → r ≡ field_of f a
gets f us a m r gives parses rows_are holds none some =
    let text : one_text (found_of m) (id_of f) ≡ option_map without_minus (value_in f us) = one_text-rows (found_of m) (id_of f) ∙ (ap (one_of (id_of f)) rows_are ∙ one_of-uses f us) in
    at (value_in f us) refl (field_of f a) (holds f) text
  where
    at : (o : Option (List ℕ)) → value_in f us ≡ o → (n : Option ℕ) → Fits f o n → one_text (found_of m) (id_of f) ≡ option_map without_minus o → r ≡ n
    at None e None h t = none t
    at None e (Some n) h t = absurd h
    at (Some w) e None h t = absurd h
    at (Some w) e (Some n) h t =
        let plain : without_minus w ≡ w = no_minus_first w (number_parts (least_of f) (most_of f) n w h).0 in
        read_of (least_of f) (most_of f) n w gives parses (most_fits f) h r (some w (t ∙ ap (λ (x : List ℕ). Some x) plain))

-- whether the program finds the flag
pub gets_flag : (us : List Use) (a : Arguments) (m : ArgMatches) (r : Bool) → rows_of (found_of m) ≡ map row_for us → flag_in us ≡ Some a.recorded
    → (one_text (found_of m) flag_id ≡ Some (codes "true") → r ≡ true) → (one_text (found_of m) flag_id ≡ Some (codes "false") → r ≡ false) → r ≡ a.recorded
gets_flag us a m r rows_are is if_true if_false =
    at a.recorded (one_text-rows (found_of m) flag_id ∙ (ap (one_of flag_id) rows_are ∙ (one_of-flag us ∙ ap (option_map flag_text) is)))
  where
    at : (b : Bool) → one_text (found_of m) flag_id ≡ Some (flag_text b) → r ≡ b
    at true e = if_true e
    at false e = if_false e

-- ---- the parse of all words

known_rest : (ws : List (List ℕ)) → list_all is_known ws ≡ true → list_all is_known (drop 1 ws) ≡ true
known_rest [] e = refl
known_rest (w ∷ ws) e = (first_known w ws e).1

parsed : (ws : List (List ℕ)) → list_all is_known ws ≡ true → IsRead [] None no_arguments 1 ws ⊎ IsRefused [] None no_arguments 1 ws
parsed ws e =
    let t = tokens_of ws e in
    subst (λ (x : List (List ℕ)). IsRead [] None no_arguments 1 x ⊎ IsRefused [] None no_arguments 1 x) (sym t.words)
    (read_all t.tokens [] None no_arguments first t.are ((λ f. fits f), refl) tt (λ b e. let is : no_arguments ≡ b = cc in (ap (λ (x : Arguments). x.start) (sym is), ap (λ (x : Arguments). x.count) (sym is))))
  where
    fits : (f : Field) → Fits f None (field_of f no_arguments)
    fits start = tt
    fits count = tt
    fits workers = tt
    fits rows = tt
    fits bucket = tt

is_simple_kiwi : (is_simple kiwi ≡ true) × (is_simple_and_free kiwi ≡ true)
is_simple_kiwi = (refl, refl)

pub record IsParse (ws : List (List ℕ)) (m : ArgMatches) : Type 0 where
  pub found : List Use
  pub after : Arguments
  pub rows_are : rows_of (found_of m) ≡ map row_for found
  pub numbers : HasNumbers found after
  pub flag_is : flag_in found ≡ Some after.recorded
  pub reads_are : reads (Some no_arguments) (drop 1 ws) ≡ Some after

-- a parse that succeeds has found what reading the words gives
pub parse_is : (app : App) (texts ws : List (List ℕ)) (m : ArgMatches) → app ≡ kiwi → texts ≡ ws → list_all is_known ws ≡ true
    → (is_simple app ≡ true → rows_of (found_of m) ≡ matches_of app texts) → (is_simple_and_free app ≡ true → fault_of app texts ≡ []) → IsParse ws m
parse_is app texts ws m is same known matches kinds =
    let none : kinds_from (stands [] None 1) (drop 1 ws) ≡ [] = sym (ap₂ fault_of is same ∙ fault_of-kiwi ws) ∙ kinds (ap is_simple_and_free is ∙ is_simple_kiwi.1) in
    let found : rows_of (found_of m) ≡ matches_of kiwi ws = matches (ap is_simple is ∙ is_simple_kiwi.0) ∙ ap₂ matches_of is same in
    ⊎_elim (λ r. record { found = r.found; after = r.after; rows_are = found ∙ r.rows_are; numbers = r.numbers; flag_is = r.flag_is; reads_are = r.reads_are }) (λ r. absurd (r.kinds none)) (parsed (drop 1 ws) (known_rest ws known))

-- a parse that fails, and not for memory, was of words that are no arguments
pub refused_is : (app : App) (texts ws : List (List ℕ)) (e : Error) → app ≡ kiwi → texts ≡ ws → list_all is_known ws ≡ true
    → (is_simple_and_free app ≡ true → HasKind (fault_of app texts) e) → (kind_of e ≡ OutOfMemory → ⊥) → None ≡ reads (Some no_arguments) (drop 1 ws)
refused_is app texts ws e is same known kinds other =
    let has : HasKind (kinds_from (stands [] None 1) (drop 1 ws)) e = subst (λ (k : Kinds). HasKind k e) (ap₂ fault_of is same ∙ fault_of-kiwi ws) (kinds (ap is_simple_and_free is ∙ is_simple_kiwi.1)) in
    ⊎_elim (λ r. absurd (⊎_elim other (λ a. at (kinds_from (stands [] None 1) (drop 1 ws)) r.no_kinds a) has)) (λ r. sym r.none) (parsed (drop 1 ws) (known_rest ws known))
  where
    at : (k : Kinds) → k ≡ [] → IsAmong (kind_of e) k → ⊥
    at [] f a = a
    at (k ∷ ks) f a = absurd cc
