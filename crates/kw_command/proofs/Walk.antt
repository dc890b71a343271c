-- What `clap` makes of the words after a command's own word: its own definitions, computed at the
-- one set of arguments that the program has. A walk over the words stands between two of them with
-- the uses that are settled, and one that is still open, which the next word or the end settles.
use Rattle.std.proofs.Common.{◌≡◌, ◌==◌, ℕ, Bool, true, false, ◌&&◌, ◌||◌, cond, Option, Some, None, is_some, List, [], ◌∷◌, ◌++◌, map, drop, codes, refl, sym, ◌∙◌, ap}
use Rattle.std.specs.Prelude.{option_map, option_and_then, find, fold}
use Rattle.std.specs.Str.{bytes_eq}
use Rattle.std.proofs.lemmas.List.{append-nil, map-append}
use Rattle.kw_command.specs.Clap.{Field, start, count, workers, rows, bucket, id_of, flag_id, kiwi}
use Rattle.clap.specs.Lexer.{without_minus}
use Rattle.clap.specs.Kinds.{Kinds, or_else}
use Rattle.clap.specs.Walk.{Row, Rule, Text, Walk, at_row, finished, has_row, idle, more_values, one_of, option, row_text, settled, settled_rows, walked, with_values, without}
use Rattle.clap.specs.Simple.{Shape, built}
use Rattle.clap.specs.Simple.{entered}
use Rattle.clap.specs.Faults.{check_fault, defaults_fault, entered_fault, fault_of, settle_fault, turn_fault, walk_fault}
use Rattle.clap.specs.declared.error.kind.ErrorKind.TheVariants as kind
use Rattle.clap.specs.declared.builder.value_parser.Reading.TheVariants as reading
use Rattle.clap.specs.declared.parser.matches.ValueSource.TheVariants.{CommandLine, DefaultValue}
use Rattle.clap.proofs.OnLiterals.{clap_on_literals}

-- ---- the program's arguments, built

abbrev pub shape : Shape
shape = (built kiwi).top

abbrev pub rules : List Rule
rules = shape.rules

-- ---- uses

-- one use of an argument: a number that it is given, or whether the flag is given, which is so by
-- default not
pub data Use : Type 0 where
  given : Field → Text → Use
  flag : Bool → Use

abbrev pub flag_text : Bool → Text
flag_text b = cond b (codes "true") (codes "false")

abbrev pub row_for : Use → Row
row_for (given f v) = record { id = id_of f; values = v ∷ []; count = None; source = Some CommandLine; reading = reading.WithoutMinus }
row_for (flag b) = record { id = flag_id; values = flag_text b ∷ []; count = None; source = Some (cond b CommandLine DefaultValue); reading = reading.AsWritten }

abbrev pub same : Field → Field → Bool
same start start = true
same count count = true
same workers workers = true
same rows rows = true
same bucket bucket = true
same _ _ = false

pub ids : (f g : Field) → bytes_eq (id_of f) (id_of g) ≡ same f g
ids start start = refl
ids start count = refl
ids start workers = refl
ids start rows = refl
ids start bucket = refl
ids count start = refl
ids count count = refl
ids count workers = refl
ids count rows = refl
ids count bucket = refl
ids workers start = refl
ids workers count = refl
ids workers workers = refl
ids workers rows = refl
ids workers bucket = refl
ids rows start = refl
ids rows count = refl
ids rows workers = refl
ids rows rows = refl
ids rows bucket = refl
ids bucket start = refl
ids bucket count = refl
ids bucket workers = refl
ids bucket rows = refl
ids bucket bucket = refl

no_flag : (f : Field) → (bytes_eq flag_id (id_of f) ≡ false) × (bytes_eq (id_of f) flag_id ≡ false)
no_flag start = (refl, refl)
no_flag count = (refl, refl)
no_flag workers = (refl, refl)
no_flag rows = (refl, refl)
no_flag bucket = (refl, refl)

-- the value of an argument, and of the flag
abbrev pub value_in : Field → List Use → Option Text
value_in f [] = None
value_in f (given g v ∷ us) = cond (same g f) (Some v) (value_in f us)
value_in f (flag b ∷ us) = value_in f us

abbrev pub flag_in : List Use → Option Bool
flag_in [] = None
flag_in (given g v ∷ us) = flag_in us
flag_in (flag b ∷ us) = Some b

pub has_row-uses : (f : Field) (us : List Use) → has_row (id_of f) (map row_for us) ≡ is_some (value_in f us)
has_row-uses f [] = refl
has_row-uses f (given g v ∷ us) = ap (λ (b : Bool). b || has_row (id_of f) (map row_for us)) (ids g f) ∙ at (same g f) (has_row-uses f us)
  where
    at : (b : Bool) → has_row (id_of f) (map row_for us) ≡ is_some (value_in f us) → (b || has_row (id_of f) (map row_for us)) ≡ is_some (cond b (Some v) (value_in f us))
    at true h = refl
    at false h = h
has_row-uses f (flag b ∷ us) = ap (λ (c : Bool). c || has_row (id_of f) (map row_for us)) (no_flag f).0 ∙ has_row-uses f us

pub has_row-flag : (us : List Use) → has_row flag_id (map row_for us) ≡ is_some (flag_in us)
has_row-flag [] = refl
has_row-flag (given g v ∷ us) = ap (λ (c : Bool). c || has_row flag_id (map row_for us)) (no_flag g).1 ∙ has_row-flag us
has_row-flag (flag b ∷ us) = refl

pub one_of-uses : (f : Field) (us : List Use) → one_of (id_of f) (map row_for us) ≡ option_map without_minus (value_in f us)
one_of-uses f [] = refl
one_of-uses f (given g v ∷ us) = ap (λ (b : Bool). option_and_then row_text (cond b (Some (row_for (given g v))) (find (λ r. bytes_eq r.id (id_of f)) (map row_for us)))) (ids g f) ∙ at (same g f) (one_of-uses f us)
  where
    at : (b : Bool) → one_of (id_of f) (map row_for us) ≡ option_map without_minus (value_in f us)
        → option_and_then row_text (cond b (Some (row_for (given g v))) (find (λ r. bytes_eq r.id (id_of f)) (map row_for us))) ≡ option_map without_minus (cond b (Some v) (value_in f us))
    at true h = refl
    at false h = h
one_of-uses f (flag c ∷ us) = ap (λ (b : Bool). option_and_then row_text (cond b (Some (row_for (flag c))) (find (λ r. bytes_eq r.id (id_of f)) (map row_for us)))) (no_flag f).0 ∙ one_of-uses f us

pub one_of-flag : (us : List Use) → one_of flag_id (map row_for us) ≡ option_map flag_text (flag_in us)
one_of-flag [] = refl
one_of-flag (given g v ∷ us) = ap (λ (b : Bool). option_and_then row_text (cond b (Some (row_for (given g v))) (find (λ r. bytes_eq r.id flag_id) (map row_for us)))) (no_flag g).1 ∙ one_of-flag us
one_of-flag (flag b ∷ us) = refl

pub value_in-snoc : (f g : Field) (v : Text) (us : List Use) → value_in f (us ++ given g v ∷ []) ≡ cond (is_some (value_in f us)) (value_in f us) (cond (same g f) (Some v) None)
value_in-snoc f g v [] = refl
value_in-snoc f g v (given h w ∷ us) = at (same h f) (value_in-snoc f g v us)
  where
    at : (b : Bool) → value_in f (us ++ given g v ∷ []) ≡ cond (is_some (value_in f us)) (value_in f us) (cond (same g f) (Some v) None)
        → cond b (Some w) (value_in f (us ++ given g v ∷ [])) ≡ cond (is_some (cond b (Some w) (value_in f us))) (cond b (Some w) (value_in f us)) (cond (same g f) (Some v) None)
    at true h = refl
    at false h = h
value_in-snoc f g v (flag b ∷ us) = value_in-snoc f g v us

pub value_in-flag : (f : Field) (b : Bool) (us : List Use) → value_in f (us ++ flag b ∷ []) ≡ value_in f us
value_in-flag f b [] = refl
value_in-flag f b (given h w ∷ us) = ap (cond (same h f) (Some w)) (value_in-flag f b us)
value_in-flag f b (flag c ∷ us) = value_in-flag f b us

pub flag_in-snoc : (g : Field) (v : Text) (us : List Use) → flag_in (us ++ given g v ∷ []) ≡ flag_in us
flag_in-snoc g v [] = refl
flag_in-snoc g v (given h w ∷ us) = flag_in-snoc g v us
flag_in-snoc g v (flag c ∷ us) = refl

pub flag_in-flag : (b : Bool) (us : List Use) → flag_in us ≡ None → flag_in (us ++ flag b ∷ []) ≡ Some b
flag_in-flag b [] e = refl
flag_in-flag b (given h w ∷ us) e = flag_in-flag b us e
flag_in-flag b (flag c ∷ us) e = absurd cc

-- where no row has the id, one is added at the end
pub row_added : (id : Text) (change : Row → List Row) (missing found : List Row) → has_row id found ≡ false → at_row id change missing found ≡ found ++ missing
row_added id change missing [] h = refl
row_added id change missing (r ∷ found) h = at (bytes_eq r.id id) h (row_added id change missing found)
  where
    at : (b : Bool) → (b || has_row id found) ≡ false → (has_row id found ≡ false → at_row id change missing found ≡ found ++ missing)
        → cond b (change r ++ found) (r ∷ at_row id change missing found) ≡ r ∷ found ++ missing
    at true h k = absurd cc
    at false h k = ap (λ (l : List Row). r ∷ l) (k h)

-- ---- options

-- an argument that has a name, which stands before its number
pub data Named : Type 0 where
  workers_name : Named
  rows_name : Named
  bucket_name : Named

abbrev pub named_word : Named → Text
named_word workers_name = codes "--workers"
named_word rows_name = codes "--rows"
named_word bucket_name = codes "--bucket"

abbrev pub named_field : Named → Field
named_field workers_name = workers
named_field rows_name = rows
named_field bucket_name = bucket

-- ---- where the walk stands

-- an argument that may get a number, with the word that it was given
abbrev pub Open : Type 0
Open = Field × Text

abbrev pub open_use : Option Open → Option (Text × List Text)
open_use = option_map (λ u. (id_of u.0, u.1 ∷ []))

abbrev pub stands : List Use → Option Open → ℕ → Walk
stands us o p = record {
  held = record { rows = map row_for us; pending = open_use o; skip = 0 };
  waiting = idle;
  position = p;
  is_trailing = false;
  stopped = None;
}

-- an option's name was met, and its value is still to come
abbrev pub waits : List Use → Field → ℕ → Walk
waits us f p = record {
  held = record { rows = map row_for us; pending = Some (id_of f, []); skip = 0 };
  waiting = option (id_of f);
  position = p;
  is_trailing = false;
  stopped = None;
}

-- what is wrong with the open use
abbrev pub open_kinds : List Use → Option Open → Kinds
open_kinds us o = settle_fault rules false (stands us o 1).held

or_nothing : (k : Kinds) → or_else k [] ≡ k
or_nothing [] = refl
or_nothing (k ∷ ks) = refl

-- the name of an option settles the open use
pub name_met : (n : Named) (us found : List Use) (o : Option Open) (p : ℕ) → settled_rows rules (open_use o) (map row_for us) ≡ map row_for found → walked rules [] (stands us o p) (named_word n) ≡ waits found (named_field n) p
unfolding clap_on_literals
name_met workers_name us found o p e = ap (λ (r : List Row). record { held = record { rows = r; pending = Some (codes "workers", []); skip = 0 }; waiting = option (codes "workers"); position = p; is_trailing = false; stopped = None }) e
name_met rows_name us found o p e = ap (λ (r : List Row). record { held = record { rows = r; pending = Some (codes "rows", []); skip = 0 }; waiting = option (codes "rows"); position = p; is_trailing = false; stopped = None }) e
name_met bucket_name us found o p e = ap (λ (r : List Row). record { held = record { rows = r; pending = Some (codes "bucket", []); skip = 0 }; waiting = option (codes "bucket"); position = p; is_trailing = false; stopped = None }) e

pub name_kinds : (n : Named) (us : List Use) (o : Option Open) (p : ℕ) → turn_fault shape [] (stands us o p) (named_word n) ≡ open_kinds us o
unfolding clap_on_literals
name_kinds workers_name us o p = or_nothing (open_kinds us o)
name_kinds rows_name us o p = or_nothing (open_kinds us o)
name_kinds bucket_name us o p = or_nothing (open_kinds us o)

-- the flag settles the open use, and is a use itself
abbrev flag_row_added : List Row → List Row
flag_row_added made = with_values flag_id reading.AsWritten CommandLine (codes "true" ∷ []) (without flag_id made)

pub flag_rows : (us : List Use) → flag_in us ≡ None → flag_row_added (map row_for us) ≡ map row_for (us ++ flag true ∷ [])
flag_rows us none =
    let no_row : has_row flag_id (map row_for us) ≡ false = has_row-flag us ∙ ap is_some none in
    ap (with_values flag_id reading.AsWritten CommandLine (codes "true" ∷ [])) (row_added flag_id (λ _. []) [] (map row_for us) no_row ∙ append-nil (map row_for us))
    ∙ (row_added flag_id (more_values CommandLine (codes "true" ∷ [])) (row_for (flag true) ∷ []) (map row_for us) no_row ∙ sym (map-append row_for us (flag true ∷ [])))

flag_rows_reached : (us : List Use) (o : Option Open) (p : ℕ) → walked rules [] (stands us o p) (codes "--record") ≡ record {
  held = record { rows = flag_row_added (settled_rows rules (open_use o) (map row_for us)); pending = None; skip = 0 };
  waiting = idle;
  position = p;
  is_trailing = false;
  stopped = None;
}
unfolding clap_on_literals
flag_rows_reached us o p = refl

pub flag_word_reached : (us found : List Use) (o : Option Open) (p : ℕ) → settled_rows rules (open_use o) (map row_for us) ≡ map row_for found → flag_in found ≡ None
    → walked rules [] (stands us o p) (codes "--record") ≡ stands (found ++ flag true ∷ []) None p
flag_word_reached us found o p e none =
    flag_rows_reached us o p
    ∙ ap (λ (r : List Row). record { held = record { rows = r; pending = None; skip = 0 }; waiting = idle; position = p; is_trailing = false; stopped = None }) (ap flag_row_added e ∙ flag_rows found none)

-- a flag that was given is refused
abbrev pub repeat_kinds : Bool → Kinds
repeat_kinds b = cond b (kind.ArgumentConflict ∷ []) []

flag_kinds_are : (k : Kinds) (b : Bool) → or_else (or_else k (or_else (cond (b && true) (kind.ArgumentConflict ∷ []) []) [])) [] ≡ or_else k (repeat_kinds b)
flag_kinds_are [] true = refl
flag_kinds_are [] false = refl
flag_kinds_are (k ∷ ks) b = refl

pub flag_kinds : (us found : List Use) (o : Option Open) (p : ℕ) → settled_rows rules (open_use o) (map row_for us) ≡ map row_for found
    → turn_fault shape [] (stands us o p) (codes "--record") ≡ or_else (open_kinds us o) (repeat_kinds (is_some (flag_in found)))
unfolding clap_on_literals
flag_kinds us found o p e =
    flag_kinds_are (open_kinds us o) (has_row flag_id (settled_rows rules (open_use o) (map row_for us)))
    ∙ ap (λ (b : Bool). or_else (open_kinds us o) (repeat_kinds b)) (ap (has_row flag_id) e ∙ has_row-flag found)

-- where the open use is refused the flag is too
pub flag_kinds_first : (us : List Use) (o : Option Open) (p : ℕ) → turn_fault shape [] (stands us o p) (codes "--record") ≡ [] → open_kinds us o ≡ []
unfolding clap_on_literals
flag_kinds_first us o p e = at (open_kinds us o) (has_row flag_id (settled_rows rules (open_use o) (map row_for us))) (sym (flag_kinds_are (open_kinds us o) (has_row flag_id (settled_rows rules (open_use o) (map row_for us)))) ∙ e)
  where
    at : (k : Kinds) (b : Bool) → or_else k (repeat_kinds b) ≡ [] → k ≡ []
    at [] b e = refl
    at (k ∷ ks) b e = absurd cc

-- the word after it is its value, unless it is an option's name or the flag
pub value_met : (n : Named) (us : List Use) (p x : ℕ) (xs : Text) → (x == 45) ≡ false → walked rules [] (waits us (named_field n) p) (x ∷ xs) ≡ stands us (Some (named_field n, x ∷ xs)) p
unfolding clap_on_literals
value_met workers_name us p x xs h = rw (h, h)
value_met rows_name us p x xs h = rw (h, h)
value_met bucket_name us p x xs h = rw (h, h)

pub value_kinds : (n : Named) (us : List Use) (p x : ℕ) (xs : Text) → (x == 45) ≡ false → turn_fault shape [] (waits us (named_field n) p) (x ∷ xs) ≡ []
unfolding clap_on_literals
value_kinds workers_name us p x xs h = rw (h, h)
value_kinds rows_name us p x xs h = rw (h, h)
value_kinds bucket_name us p x xs h = rw (h, h)

pub name_then_name : (n m : Named) (us : List Use) (p : ℕ) → turn_fault shape [] (waits us (named_field n) p) (named_word m) ≡ kind.InvalidValue ∷ []
unfolding clap_on_literals
name_then_name workers_name workers_name us p = refl
name_then_name workers_name rows_name us p = refl
name_then_name workers_name bucket_name us p = refl
name_then_name rows_name workers_name us p = refl
name_then_name rows_name rows_name us p = refl
name_then_name rows_name bucket_name us p = refl
name_then_name bucket_name workers_name us p = refl
name_then_name bucket_name rows_name us p = refl
name_then_name bucket_name bucket_name us p = refl

pub name_then_flag : (n : Named) (us : List Use) (p : ℕ) → turn_fault shape [] (waits us (named_field n) p) (codes "--record") ≡ kind.InvalidValue ∷ []
unfolding clap_on_literals
name_then_flag workers_name us p = refl
name_then_flag rows_name us p = refl
name_then_flag bucket_name us p = refl

-- any other word settles the open use, and is the next number
pub first_number : (us found : List Use) (o : Option Open) (x : ℕ) (xs : Text) → (x == 45) ≡ false → settled_rows rules (open_use o) (map row_for us) ≡ map row_for found
    → walked rules [] (stands us o 1) (x ∷ xs) ≡ stands found (Some (start, x ∷ xs)) 2
unfolding clap_on_literals
first_number us found None x xs h e = rw (h, h) (ap (λ (r : List Row). record { held = record { rows = r; pending = Some (codes "start", (x ∷ xs) ∷ []); skip = 0 }; waiting = idle; position = 2; is_trailing = false; stopped = None }) e)
first_number us found (Some (start, v)) x xs h e = rw (h, h) (ap (λ (r : List Row). record { held = record { rows = r; pending = Some (codes "start", (x ∷ xs) ∷ []); skip = 0 }; waiting = idle; position = 2; is_trailing = false; stopped = None }) e)
first_number us found (Some (count, v)) x xs h e = rw (h, h) (ap (λ (r : List Row). record { held = record { rows = r; pending = Some (codes "start", (x ∷ xs) ∷ []); skip = 0 }; waiting = idle; position = 2; is_trailing = false; stopped = None }) e)
first_number us found (Some (workers, v)) x xs h e = rw (h, h) (ap (λ (r : List Row). record { held = record { rows = r; pending = Some (codes "start", (x ∷ xs) ∷ []); skip = 0 }; waiting = idle; position = 2; is_trailing = false; stopped = None }) e)
first_number us found (Some (rows, v)) x xs h e = rw (h, h) (ap (λ (r : List Row). record { held = record { rows = r; pending = Some (codes "start", (x ∷ xs) ∷ []); skip = 0 }; waiting = idle; position = 2; is_trailing = false; stopped = None }) e)
first_number us found (Some (bucket, v)) x xs h e = rw (h, h) (ap (λ (r : List Row). record { held = record { rows = r; pending = Some (codes "start", (x ∷ xs) ∷ []); skip = 0 }; waiting = idle; position = 2; is_trailing = false; stopped = None }) e)

pub second_number : (us found : List Use) (o : Option Open) (x : ℕ) (xs : Text) → (x == 45) ≡ false → settled_rows rules (open_use o) (map row_for us) ≡ map row_for found
    → walked rules [] (stands us o 2) (x ∷ xs) ≡ stands found (Some (count, x ∷ xs)) 3
unfolding clap_on_literals
second_number us found None x xs h e = rw (h, h) (ap (λ (r : List Row). record { held = record { rows = r; pending = Some (codes "count", (x ∷ xs) ∷ []); skip = 0 }; waiting = idle; position = 3; is_trailing = false; stopped = None }) e)
second_number us found (Some (start, v)) x xs h e = rw (h, h) (ap (λ (r : List Row). record { held = record { rows = r; pending = Some (codes "count", (x ∷ xs) ∷ []); skip = 0 }; waiting = idle; position = 3; is_trailing = false; stopped = None }) e)
second_number us found (Some (count, v)) x xs h e = rw (h, h) (ap (λ (r : List Row). record { held = record { rows = r; pending = Some (codes "count", (x ∷ xs) ∷ []); skip = 0 }; waiting = idle; position = 3; is_trailing = false; stopped = None }) e)
second_number us found (Some (workers, v)) x xs h e = rw (h, h) (ap (λ (r : List Row). record { held = record { rows = r; pending = Some (codes "count", (x ∷ xs) ∷ []); skip = 0 }; waiting = idle; position = 3; is_trailing = false; stopped = None }) e)
second_number us found (Some (rows, v)) x xs h e = rw (h, h) (ap (λ (r : List Row). record { held = record { rows = r; pending = Some (codes "count", (x ∷ xs) ∷ []); skip = 0 }; waiting = idle; position = 3; is_trailing = false; stopped = None }) e)
second_number us found (Some (bucket, v)) x xs h e = rw (h, h) (ap (λ (r : List Row). record { held = record { rows = r; pending = Some (codes "count", (x ∷ xs) ∷ []); skip = 0 }; waiting = idle; position = 3; is_trailing = false; stopped = None }) e)

pub first_kinds : (us : List Use) (o : Option Open) (x : ℕ) (xs : Text) → (x == 45) ≡ false → turn_fault shape [] (stands us o 1) (x ∷ xs) ≡ open_kinds us o
unfolding clap_on_literals
first_kinds us None x xs h = rw (h, h)
first_kinds us (Some (start, v)) x xs h = rw (h, h)
first_kinds us (Some (count, v)) x xs h = rw (h, h)
first_kinds us (Some (workers, v)) x xs h = rw (h, h)
first_kinds us (Some (rows, v)) x xs h = rw (h, h)
first_kinds us (Some (bucket, v)) x xs h = rw (h, h)

pub second_kinds : (us : List Use) (o : Option Open) (x : ℕ) (xs : Text) → (x == 45) ≡ false → turn_fault shape [] (stands us o 2) (x ∷ xs) ≡ open_kinds us o
unfolding clap_on_literals
second_kinds us None x xs h = rw (h, h)
second_kinds us (Some (start, v)) x xs h = rw (h, h)
second_kinds us (Some (count, v)) x xs h = rw (h, h)
second_kinds us (Some (workers, v)) x xs h = rw (h, h)
second_kinds us (Some (rows, v)) x xs h = rw (h, h)
second_kinds us (Some (bucket, v)) x xs h = rw (h, h)

-- a third number is one too many
pub third_kinds : (us : List Use) (o : Option Open) (x : ℕ) (xs : Text) → (x == 45) ≡ false → turn_fault shape [] (stands us o 3) (x ∷ xs) ≡ kind.UnknownArgument ∷ []
unfolding clap_on_literals
third_kinds us o x xs h = rw (h, h)

-- ---- the end of the words

abbrev pub end_kinds : Walk → Kinds
end_kinds w = or_else (entered_fault (built kiwi) w.stopped) (or_else (settle_fault rules false w.held)
    (or_else (defaults_fault (settled rules w.held).rows rules) (check_fault shape (finished rules w.held) (is_some (entered (built kiwi) w.stopped)))))

-- what is wrong with these words, from here on
abbrev pub kinds_from : Walk → List Text → Kinds
kinds_from w [] = end_kinds w
kinds_from w (x ∷ xs) = or_else (turn_fault shape [] w x) (kinds_from (walked rules [] w x) xs)

or_else-assoc : (a b c : Kinds) → or_else (or_else a b) c ≡ or_else a (or_else b c)
or_else-assoc [] b c = refl
or_else-assoc (a ∷ as_) b c = refl

kinds_are : (ws : List Text) (w : Walk) → or_else (walk_fault shape [] w ws) (end_kinds (fold (walked rules []) w ws)) ≡ kinds_from w ws
unfolding walk_fault
kinds_are [] w = refl
kinds_are (x ∷ xs) w = or_else-assoc (turn_fault shape [] w x) (walk_fault shape [] (walked rules [] w x) xs) (end_kinds (fold (walked rules []) (walked rules [] w x) xs)) ∙ ap (or_else (turn_fault shape [] w x)) (kinds_are xs (walked rules [] w x))

pub fault_of-kiwi : (ws : List Text) → fault_of kiwi ws ≡ kinds_from (stands [] None 1) (drop 1 ws)
fault_of-kiwi ws = kinds_are (drop 1 ws) (stands [] None 1)
