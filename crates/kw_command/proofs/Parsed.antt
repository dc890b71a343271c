-- What the walk over the words leaves is what reading them adds: each word that `clap` takes adds
-- what the definition says, and where it finds a fault the words are no arguments.
use Rattle.std.proofs.Common.{◌≡◌, ℕ, Bool, true, false, ◌&&◌, ◌||◌, ◌⊎◌, inl, inr, cond, Option, Some, None, is_some, List, [], ◌∷◌, ◌++◌, codes, drop, map, take, refl, sym, ◌∙◌, ap, subst}
use Rattle.std.specs.Prelude.{option_map, fold}
use Rattle.std.specs.List.{AllByRecursion}
use Rattle.std.proofs.lemmas.List.{append-nil, map-append}
use Rattle.kw_command.specs.declared.words.Arguments.{Arguments}
use Rattle.kw_command.specs.Words.{number_in}
use Rattle.kw_command.specs.Reading.{once}
use Rattle.kw_command.specs.Clap.{Field, start, count, workers, rows, bucket, id_of, flag_id, least_of, most_of, parser_of}
use Rattle.kw_command.proofs.Walk.{rules, Use, given, flag, Open, row_for, same, value_in, flag_in, has_row-uses, has_row-flag, value_in-snoc, value_in-flag, flag_in-snoc, flag_in-flag, row_added, open_use, Named, workers_name, rows_name, bucket_name, named_field, stands, waits, open_kinds, end_kinds}
use Rattle.clap.specs.ValueTests.{accepts}
use Rattle.clap.specs.Kinds.{Kinds, or_else}
use Rattle.clap.specs.Walk.{Row, Rule, Text, finished, has_row, settled_rows, default_rows, is_empty, more_values, reading_by, with_default, with_values, without}
use Rattle.clap.specs.Faults.{defaults_fault, given_default_fault}
use Rattle.clap.specs.declared.builder.value_parser.Reading.TheVariants as reading
use Rattle.clap.specs.declared.error.kind.ErrorKind.TheVariants as kind
use Rattle.clap.specs.declared.parser.matches.ValueSource.TheVariants.{CommandLine, DefaultValue}

-- ---- the arguments that uses give

abbrev pub field_of : Field → Arguments → Option ℕ
field_of start a = a.start
field_of count a = a.count
field_of workers a = a.workers
field_of rows a = a.rows
field_of bucket a = a.bucket

abbrev pub with_value : Field → ℕ → Arguments → Arguments
with_value start n a = record a { start = Some n }
with_value count n a = record a { count = Some n }
with_value workers n a = record a { workers = Some n }
with_value rows n a = record a { rows = Some n }
with_value bucket n a = record a { bucket = Some n }

-- the arguments with the open use
abbrev pub add : Arguments → Option Open → Option Arguments
add a None = Some a
add a (Some u) = option_map (λ n. with_value u.0 n a) (once (field_of u.0 a) (least_of u.0) (most_of u.0) u.1)

-- the argument has the number that its word writes
abbrev pub Fits : Field → Option Text → Option ℕ → Type 0
Fits f None None = Unit {0}
Fits f None (Some n) = ⊥
Fits f (Some v) None = ⊥
Fits f (Some v) (Some n) = number_in (least_of f) (most_of f) v ≡ Some n

abbrev pub HasNumbers : List Use → Arguments → Type 0
HasNumbers us a = (f : Field) → Fits f (value_in f us) (field_of f a)

-- the flag is among the uses just where the arguments have it
abbrev pub flag_use : Bool → Option Bool
flag_use b = cond b (Some true) None

abbrev pub Holds : List Use → Arguments → Type 0
Holds us a = HasNumbers us a × (flag_in us ≡ flag_use a.recorded)

field-with : (f g : Field) (n : ℕ) (a : Arguments) → field_of g (with_value f n a) ≡ cond (same f g) (Some n) (field_of g a)
field-with start start n a = refl
field-with start count n a = refl
field-with start workers n a = refl
field-with start rows n a = refl
field-with start bucket n a = refl
field-with count start n a = refl
field-with count count n a = refl
field-with count workers n a = refl
field-with count rows n a = refl
field-with count bucket n a = refl
field-with workers start n a = refl
field-with workers count n a = refl
field-with workers workers n a = refl
field-with workers rows n a = refl
field-with workers bucket n a = refl
field-with rows start n a = refl
field-with rows count n a = refl
field-with rows workers n a = refl
field-with rows rows n a = refl
field-with rows bucket n a = refl
field-with bucket start n a = refl
field-with bucket count n a = refl
field-with bucket workers n a = refl
field-with bucket rows n a = refl
field-with bucket bucket n a = refl

same_flag : (f : Field) (n : ℕ) (a : Arguments) → (with_value f n a).recorded ≡ a.recorded
same_flag start n a = refl
same_flag count n a = refl
same_flag workers n a = refl
same_flag rows n a = refl
same_flag bucket n a = refl

same_is : (f g : Field) → same f g ≡ true → f ≡ g
same_is start start e = refl
same_is start count e = absurd cc
same_is start workers e = absurd cc
same_is start rows e = absurd cc
same_is start bucket e = absurd cc
same_is count start e = absurd cc
same_is count count e = refl
same_is count workers e = absurd cc
same_is count rows e = absurd cc
same_is count bucket e = absurd cc
same_is workers start e = absurd cc
same_is workers count e = absurd cc
same_is workers workers e = refl
same_is workers rows e = absurd cc
same_is workers bucket e = absurd cc
same_is rows start e = absurd cc
same_is rows count e = absurd cc
same_is rows workers e = absurd cc
same_is rows rows e = refl
same_is rows bucket e = absurd cc
same_is bucket start e = absurd cc
same_is bucket count e = absurd cc
same_is bucket workers e = absurd cc
same_is bucket rows e = absurd cc
same_is bucket bucket e = refl

-- one more use, of an argument that had none
fits-more : (f g : Field) (v : Text) (n : ℕ) (us : List Use) (a : Arguments) → value_in f us ≡ None → number_in (least_of f) (most_of f) v ≡ Some n → Fits g (value_in g us) (field_of g a)
    → Fits g (value_in g (us ++ given f v ∷ [])) (field_of g (with_value f n a))
fits-more f g v n us a none is h =
    subst (λ (o : Option Text). Fits g o (field_of g (with_value f n a))) (sym (value_in-snoc g f v us))
    (subst (Fits g (cond (is_some (value_in g us)) (value_in g us) (cond (same f g) (Some v) None))) (sym (field-with f g n a))
    (at (same f g) refl (value_in g us) refl (field_of g a) h))
  where
    at : (b : Bool) → same f g ≡ b → (o : Option Text) → value_in g us ≡ o → (m : Option ℕ) → Fits g o m → Fits g (cond (is_some o) o (cond b (Some v) None)) (cond b (Some n) m)
    at true e None k m h = subst (λ (d : Field). number_in (least_of d) (most_of d) v ≡ Some n) (same_is f g e) is
    at true e (Some w) k m h = let bad : None ≡ Some w = sym none ∙ (ap (λ (d : Field). value_in d us) (same_is f g e) ∙ k) in absurd cc
    at false e None k m h = h
    at false e (Some w) k m h = h

-- ---- settling the open use

-- the word passes the argument's parser just where it writes a number in range
abbrev pub Agrees : Text → Type 0
Agrees v = (f : Field) → accepts false (parser_of f) v ≡ is_some (number_in (least_of f) (most_of f) v)

abbrev pub OpenAgrees : Option Open → Type 0
OpenAgrees None = Unit {0}
OpenAgrees (Some u) = Agrees u.1

abbrev use_kinds : Field → Text → List Use → Kinds
use_kinds f v us = or_else (cond (has_row (id_of f) (map row_for us) && true) (kind.ArgumentConflict ∷ []) [])
    (or_else (cond (accepts false (parser_of f) v) [] (kind.ValueValidation ∷ [])) [])

open_kinds-use : (f : Field) (v : Text) (us : List Use) → open_kinds us (Some (f, v)) ≡ use_kinds f v us
open_kinds-use start v us = refl
open_kinds-use count v us = refl
open_kinds-use workers v us = refl
open_kinds-use rows v us = refl
open_kinds-use bucket v us = refl

settled_rows-use : (f : Field) (v : Text) (us : List Use) → settled_rows rules (open_use (Some (f, v))) (map row_for us)
    ≡ with_values (id_of f) reading.WithoutMinus CommandLine (v ∷ []) (without (id_of f) (map row_for us))
settled_rows-use start v us = refl
settled_rows-use count v us = refl
settled_rows-use workers v us = refl
settled_rows-use rows v us = refl
settled_rows-use bucket v us = refl

pub record IsFine (us : List Use) (o : Option Open) (a : Arguments) : Type 0 where
  pub found : List Use
  pub after : Arguments
  pub rows_are : settled_rows rules (open_use o) (map row_for us) ≡ map row_for found
  pub no_kinds : open_kinds us o ≡ []
  pub adds : add a o ≡ Some after
  pub holds : Holds found after

pub record IsBad (us : List Use) (o : Option Open) (a : Arguments) : Type 0 where
  pub kinds : open_kinds us o ≡ [] → ⊥
  pub none : add a o ≡ None

rows_with : (f : Field) (v : Text) (us : List Use) → value_in f us ≡ None → settled_rows rules (open_use (Some (f, v))) (map row_for us) ≡ map row_for (us ++ given f v ∷ [])
rows_with f v us none =
    let no_row : has_row (id_of f) (map row_for us) ≡ false = has_row-uses f us ∙ ap is_some none in
    settled_rows-use f v us
    ∙ (ap (with_values (id_of f) reading.WithoutMinus CommandLine (v ∷ [])) (row_added (id_of f) (λ _. []) [] (map row_for us) no_row ∙ append-nil (map row_for us))
    ∙ (row_added (id_of f) (more_values CommandLine (v ∷ [])) (row_for (given f v) ∷ []) (map row_for us) no_row ∙ sym (map-append row_for us (given f v ∷ []))))

settle_use : (f : Field) (v : Text) (us : List Use) (a : Arguments) (o : Option Text) (m k : Option ℕ) → value_in f us ≡ o → field_of f a ≡ m → number_in (least_of f) (most_of f) v ≡ k → Fits f o m → Holds us a → Agrees v
    → IsFine us (Some (f, v)) a ⊎ IsBad us (Some (f, v)) a
settle_use f v us a None None (Some n) none free is fits h agrees = inl (record {
  found = us ++ given f v ∷ [];
  after = with_value f n a;
  rows_are = rows_with f v us none;
  no_kinds = open_kinds-use f v us ∙ (ap (λ (b : Bool). or_else (cond (b && true) (kind.ArgumentConflict ∷ []) []) (or_else (cond (accepts false (parser_of f) v) [] (kind.ValueValidation ∷ [])) [])) (has_row-uses f us ∙ ap is_some none)
      ∙ ap (λ (b : Bool). or_else (cond b [] (kind.ValueValidation ∷ [])) []) (agrees f ∙ ap is_some is));
  adds = ap (λ (m : Option ℕ). option_map (λ n. with_value f n a) (once m (least_of f) (most_of f) v)) free ∙ ap (option_map (λ n. with_value f n a)) is;
  holds = ((λ g. fits-more f g v n us a none is (h.0 g)), flag_in-snoc f v us ∙ (h.1 ∙ ap flag_use (sym (same_flag f n a))));
})
settle_use f v us a None None None none free is fits h agrees = inr (record {
  kinds = λ e.
      let bad : kind.ValueValidation ∷ [] ≡ [] = sym (open_kinds-use f v us ∙ (ap (λ (b : Bool). or_else (cond (b && true) (kind.ArgumentConflict ∷ []) []) (or_else (cond (accepts false (parser_of f) v) [] (kind.ValueValidation ∷ [])) [])) (has_row-uses f us ∙ ap is_some none)
      ∙ ap (λ (b : Bool). or_else (cond b [] (kind.ValueValidation ∷ [])) []) (agrees f ∙ ap is_some is))) ∙ e in
      cc;
  none = ap (λ (m : Option ℕ). option_map (λ n. with_value f n a) (once m (least_of f) (most_of f) v)) free ∙ ap (option_map (λ n. with_value f n a)) is;
})
settle_use f v us a (Some w) (Some n) k some taken is fits h agrees = inr (record {
  kinds = λ e.
      let bad : kind.ArgumentConflict ∷ [] ≡ [] = sym (open_kinds-use f v us ∙ ap (λ (b : Bool). or_else (cond (b && true) (kind.ArgumentConflict ∷ []) []) (or_else (cond (accepts false (parser_of f) v) [] (kind.ValueValidation ∷ [])) [])) (has_row-uses f us ∙ ap is_some some)) ∙ e in
      cc;
  none = ap (λ (m : Option ℕ). option_map (λ n. with_value f n a) (once m (least_of f) (most_of f) v)) taken;
})
settle_use f v us a None (Some n) k none taken is fits h agrees = absurd fits
settle_use f v us a (Some w) None k some free is fits h agrees = absurd fits

pub settle : (us : List Use) (o : Option Open) (a : Arguments) → Holds us a → OpenAgrees o → IsFine us o a ⊎ IsBad us o a
settle us None a h agrees = inl (record { found = us; after = a; rows_are = refl; no_kinds = refl; adds = refl; holds = h })
settle us (Some (f, v)) a h agrees = settle_use f v us a (value_in f us) (field_of f a) (number_in (least_of f) (most_of f) v) refl refl refl (h.0 f) h agrees

-- the flag, where it had not been given
pub holds_flag : (us : List Use) (a : Arguments) → Holds us a → a.recorded ≡ false → Holds (us ++ flag true ∷ []) (record a { recorded = true })
holds_flag us a h e = (numbers, flag_in-flag true us (h.1 ∙ ap flag_use e))
  where
    same_field : (f : Field) → field_of f a ≡ field_of f (record a { recorded = true })
    same_field start = refl
    same_field count = refl
    same_field workers = refl
    same_field rows = refl
    same_field bucket = refl

    numbers : HasNumbers (us ++ flag true ∷ []) (record a { recorded = true })
    numbers f = subst (λ (o : Option Text). Fits f o (field_of f (record a { recorded = true }))) (sym (value_in-flag f true us)) (subst (Fits f (value_in f us)) (same_field f) (h.0 f))

-- ---- the end of the words

-- the uses at the end, where a flag that was not given is not given by default
abbrev pub ended : List Use → List Use
ended us = cond (is_some (flag_in us)) us (us ++ flag false ∷ [])

-- the rules of the numbers, which have no default, and that of the flag
abbrev number_rules : List Rule
number_rules = take 5 rules

abbrev flag_rules : List Rule
flag_rules = drop 5 rules

no_defaults : (all rest : List Rule) → AllByRecursion (λ r. r.defaults ≡ []) all → (made : List Row)
    → (defaults_fault made (all ++ rest) ≡ defaults_fault made rest) × (fold with_default made (all ++ rest) ≡ fold with_default made rest)
unfolding defaults_fault
no_defaults [] rest h made = (refl, refl)
no_defaults (r ∷ all) rest h made =
    let stays : with_default made r ≡ made = same_rows (has_row r.id made) in
    let more = no_defaults all rest h.1 made in (
      ap (λ (k : Kinds). or_else k (defaults_fault (with_default made r) (all ++ rest))) (no_fault (has_row r.id made)) ∙ (ap (λ (x : List Row). defaults_fault x (all ++ rest)) stays ∙ more.0),
      ap (λ (x : List Row). fold with_default x (all ++ rest)) stays ∙ more.1,
    )
  where
    same_rows : (b : Bool) → cond b made (default_rows r.id (reading_by r) r.defaults made) ≡ made
    same_rows true = refl
    same_rows false = ap (λ (d : List Text). default_rows r.id (reading_by r) d made) h.0

    no_fault : (b : Bool) → cond (b || is_empty r.defaults) [] (given_default_fault r r.defaults) ≡ []
    no_fault true = refl
    no_fault false = rw h.0

rules_have_none : AllByRecursion (λ r. r.defaults ≡ []) number_rules
rules_have_none = (refl, (refl, (refl, (refl, (refl, tt)))))

-- the flag's default is a value that it may have
flag_fault : (made : List Row) → defaults_fault made flag_rules ≡ []
unfolding defaults_fault
flag_fault made = at (has_row flag_id made)
  where
    at : (b : Bool) → or_else (cond (b || false) [] []) [] ≡ []
    at true = refl
    at false = refl

flag_default : (us : List Use) → fold with_default (map row_for us) flag_rules ≡ map row_for (ended us)
flag_default us = ap (λ (b : Bool). cond b (map row_for us) (with_values flag_id reading.AsWritten DefaultValue (codes "false" ∷ []) (map row_for us))) (has_row-flag us) ∙ at (is_some (flag_in us)) refl
  where
    at : (b : Bool) → is_some (flag_in us) ≡ b
        → cond b (map row_for us) (with_values flag_id reading.AsWritten DefaultValue (codes "false" ∷ []) (map row_for us)) ≡ map row_for (cond b us (us ++ flag false ∷ []))
    at true e = refl
    at false e = row_added flag_id (more_values DefaultValue (codes "false" ∷ [])) (row_for (flag false) ∷ []) (map row_for us) (has_row-flag us ∙ e) ∙ sym (map-append row_for us (flag false ∷ []))

-- what is wrong at the end is what is wrong with the open use
pub end-stands : (us : List Use) (o : Option Open) (p : ℕ) → end_kinds (stands us o p) ≡ open_kinds us o
end-stands us o p =
    ap (λ (k : Kinds). or_else (open_kinds us o) (or_else k [])) ((no_defaults number_rules flag_rules rules_have_none (settled_rows rules (open_use o) (map row_for us))).0 ∙ flag_fault (settled_rows rules (open_use o) (map row_for us))) ∙ at (open_kinds us o)
  where
    at : (k : Kinds) → or_else k [] ≡ k
    at [] = refl
    at (k ∷ ks) = refl

pub finished-stands : (us found : List Use) (o : Option Open) (p : ℕ) → settled_rows rules (open_use o) (map row_for us) ≡ map row_for found → finished rules (stands us o p).held ≡ map row_for (ended found)
finished-stands us found o p e =
    (no_defaults number_rules flag_rules rules_have_none (settled_rows rules (open_use o) (map row_for us))).1
    ∙ (ap (λ (r : List Row). fold with_default r flag_rules) e ∙ flag_default found)

-- what the uses at the end have
pub ended_numbers : (us : List Use) (a : Arguments) → Holds us a → HasNumbers (ended us) a
ended_numbers us a h = λ f. subst (λ (o : Option Text). Fits f o (field_of f a)) (sym (at f (is_some (flag_in us)))) (h.0 f)
  where
    at : (f : Field) (b : Bool) → value_in f (cond b us (us ++ flag false ∷ [])) ≡ value_in f us
    at f true = refl
    at f false = value_in-flag f false us

pub ended_flag : (us : List Use) (a : Arguments) → Holds us a → flag_in (ended us) ≡ Some a.recorded
ended_flag us a h = at a.recorded refl
  where
    at : (b : Bool) → a.recorded ≡ b → flag_in (ended us) ≡ Some b
    at true e =
        let is : flag_in us ≡ Some true = h.1 ∙ ap flag_use e in
        ap (λ (o : Option Bool). flag_in (cond (is_some o) us (us ++ flag false ∷ []))) is ∙ is
    at false e =
        let is : flag_in us ≡ None = h.1 ∙ ap flag_use e in
        ap (λ (o : Option Bool). flag_in (cond (is_some o) us (us ++ flag false ∷ []))) is ∙ flag_in-flag false us is

-- an option's name at the end has no value
pub end-waits : (n : Named) (us : List Use) (p : ℕ) → end_kinds (waits us (named_field n) p) ≡ kind.InvalidValue ∷ []
end-waits workers_name us p = refl
end-waits rows_name us p = refl
end-waits bucket_name us p = refl
