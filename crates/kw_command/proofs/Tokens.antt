-- The words one after the other: what `clap` makes of them all is what reading them all gives.
use Rattle.std.proofs.Common.{◌≡◌, ◌==◌, ℕ, Bool, true, false, ◌⊎◌, inl, inr, cond, Option, Some, None, is_some, List, [], ◌∷◌, ◌++◌, map, codes, refl, sym, ◌∙◌, ap}
use mathlib.Core.Logic.{⊎_elim}
use Rattle.std.specs.Prelude.{option_map, fold}
use Rattle.std.specs.List.{AllByRecursion}
use Rattle.kw_command.specs.declared.words.Arguments.{Arguments}
use Rattle.kw_command.specs.declared.command.TheConstants.{MOST_START, MOST_LINES}
use Rattle.kw_command.specs.Words.{number_in}
use Rattle.kw_command.specs.Reading.{once, with_workers, with_rows, with_bucket, with_second, with_number, then_with, reads}
use Rattle.kw_command.proofs.Meaning.{reads_none, then_flag, alone_number}
use Rattle.kw_command.proofs.Commands.{IsPlain, reads-number, reads-flag}
use Rattle.kw_command.specs.Clap.{start, count, least_of, most_of}
use Rattle.kw_command.proofs.Walk.{shape, rules, Use, Open, flag, row_for, flag_in, flag_word_reached, flag_kinds, flag_kinds_first, repeat_kinds, Named, workers_name, rows_name, bucket_name, named_word, named_field, stands, waits, open_kinds, name_met, name_kinds, value_met, value_kinds, name_then_name, name_then_flag, first_number, second_number, first_kinds, second_kinds, third_kinds, kinds_from}
use Rattle.kw_command.proofs.Parsed.{field_of, with_value, add, HasNumbers, Holds, holds_flag, flag_use, ended, ended_numbers, ended_flag, Agrees, OpenAgrees, IsFine, IsBad, settle, end-stands, finished-stands, end-waits}
use Rattle.clap.specs.Kinds.{Kinds, or_else}
use Rattle.clap.specs.Walk.{Text, Walk, finished, walked}
use Rattle.clap.specs.Faults.{turn_fault}
use Rattle.clap.specs.declared.error.kind.ErrorKind.TheVariants as kind

-- the name of an option, the flag, or another word, which does not begin with a hyphen
pub data Token : Type 0 where
  named : Named → Token
  flag_name : Token
  plain : ℕ → List ℕ → Token

abbrev pub token_word : Token → Text
token_word (named n) = named_word n
token_word flag_name = codes "--record"
token_word (plain x xs) = x ∷ xs

abbrev pub IsToken : Token → Type 0
IsToken (named n) = Unit {0}
IsToken flag_name = Unit {0}
IsToken (plain x xs) = ((x == 45) ≡ false) × Agrees (x ∷ xs)

abbrev pub words_of : List Token → List Text
words_of ts = map token_word ts

-- ---- which of the two numbers is next

pub data Place : Type 0 where
  first : Place
  second : Place
  third : Place

abbrev pub place_number : Place → ℕ
place_number first = 1
place_number second = 2
place_number third = 3

abbrev pub IsAt : Place → Arguments → Type 0
IsAt first b = (b.start ≡ None) × (b.count ≡ None)
IsAt second b = (is_some b.start ≡ true) × (b.count ≡ None)
IsAt third b = (is_some b.start ≡ true) × (is_some b.count ≡ true)

abbrev pub Placed : Place → Arguments → Option Open → Type 0
Placed p a o = (b : Arguments) → add a o ≡ Some b → IsAt p b

still_at : (p : Place) (a b : Arguments) → b.start ≡ a.start → b.count ≡ a.count → IsAt p a → IsAt p b
still_at first a b e f h = (e ∙ h.0, f ∙ h.1)
still_at second a b e f h = (ap is_some e ∙ h.0, f ∙ h.1)
still_at third a b e f h = (ap is_some e ∙ h.0, ap is_some f ∙ h.1)

-- an option leaves the two numbers as they are
numbers_stay : (n : Named) (m : ℕ) (a : Arguments) → ((with_value (named_field n) m a).start ≡ a.start) × ((with_value (named_field n) m a).count ≡ a.count)
numbers_stay workers_name m a = (refl, refl)
numbers_stay rows_name m a = (refl, refl)
numbers_stay bucket_name m a = (refl, refl)

after_name : (n : Named) (p : Place) (a : Arguments) (v : Text) → IsAt p a → Placed p a (Some (named_field n, v))
after_name n p a v h b e = at (once (field_of (named_field n) a) (least_of (named_field n)) (most_of (named_field n)) v) e
  where
    at : (k : Option ℕ) → option_map (λ m. with_value (named_field n) m a) k ≡ Some b → IsAt p b
    at None e = absurd cc
    at (Some m) e =
        let is : with_value (named_field n) m a ≡ b = cc in
        let stay = numbers_stay n m a in
        still_at p a b (ap (λ (x : Arguments). x.start) (sym is) ∙ stay.0) (ap (λ (x : Arguments). x.count) (sym is) ∙ stay.1) h

after_first : (a : Arguments) (v : Text) → IsAt first a → Placed second a (Some (start, v))
after_first a v h b e = at (once a.start 0 MOST_START v) e
  where
    at : (k : Option ℕ) → option_map (λ n. with_value start n a) k ≡ Some b → IsAt second b
    at None e = absurd cc
    at (Some n) e = let is : with_value start n a ≡ b = cc in (ap (λ (x : Arguments). is_some x.start) (sym is), ap (λ (x : Arguments). x.count) (sym is) ∙ h.1)

after_second : (a : Arguments) (v : Text) → IsAt second a → Placed third a (Some (count, v))
after_second a v h b e = at (once a.count 1 MOST_LINES v) e
  where
    at : (k : Option ℕ) → option_map (λ n. with_value count n a) k ≡ Some b → IsAt third b
    at None e = absurd cc
    at (Some n) e = let is : with_value count n a ≡ b = cc in (ap (λ (x : Arguments). is_some x.start) (sym is) ∙ h.0, ap (λ (x : Arguments). is_some x.count) (sym is))

-- ---- what reading adds at each word

number_first : (a : Arguments) (v : Text) → IsAt first a → with_number a v ≡ add a (Some (start, v))
number_first a v h = rw h.0

number_second : (a : Arguments) (v : Text) → IsAt second a → with_number a v ≡ add a (Some (count, v))
number_second a v h = rw h.0

number_third : (a : Arguments) (v : Text) → IsAt third a → with_number a v ≡ None
number_third a v h = rw h.0 (at a.count h.1)
  where
    at : (m : Option ℕ) → is_some m ≡ true → option_map (λ n. record a { count = Some n }) (once m 1 MOST_LINES v) ≡ None
    at None e = absurd cc
    at (Some m) e = refl

-- the number of an option
abbrev with_named : Named → Arguments → Text → Option Arguments
with_named workers_name = with_workers
with_named rows_name = with_rows
with_named bucket_name = with_bucket

with_named-adds : (n : Named) (a : Arguments) (v : Text) → with_named n a v ≡ add a (Some (named_field n, v))
with_named-adds workers_name a v = refl
with_named-adds rows_name a v = refl
with_named-adds bucket_name a v = refl

-- the name of an option is no number, nor is the flag
name_is_none : (n : Named) (o : Option ℕ) (least most : ℕ) → once o least most (named_word n) ≡ None
name_is_none workers_name None least most = refl
name_is_none rows_name None least most = refl
name_is_none bucket_name None least most = refl
name_is_none n (Some m) least most = refl

flag_is_none : (o : Option ℕ) (least most : ℕ) → once o least most (codes "--record") ≡ None
flag_is_none None least most = refl
flag_is_none (Some m) least most = refl

-- so an option is given none where a name or the flag stands for its number
given_none : (n : Named) (a : Arguments) (v : Text) → ((o : Option ℕ) (least most : ℕ) → once o least most v ≡ None) → with_named n a v ≡ None
given_none n a v none =
    let f = named_field n in
    with_named-adds n a v ∙ ap (option_map (λ m. with_value f m a)) (none (field_of f a) (least_of f) (most_of f))

no_number : (n : Named) (a : Arguments) → with_number a (named_word n) ≡ None
no_number n a = at a.start
  where
    none_second : with_second a (named_word n) ≡ None
    none_second = ap (option_map (λ m. record a { count = Some m })) (name_is_none n a.count 1 MOST_LINES)

    at : (s : Option ℕ) → cond (is_some s) (with_second a (named_word n)) (option_map (λ m. record a { start = Some m }) (number_in 0 MOST_START (named_word n))) ≡ None
    at None = ap (option_map (λ m. record a { start = Some m })) (name_is_none n None 0 MOST_START)
    at (Some s) = none_second

plain_word : (x : ℕ) (xs : Text) → (x == 45) ≡ false → IsPlain (x ∷ xs)
plain_word x xs h = (rw h, rw h, rw h, rw h)

-- ---- the walk and the reading, side by side

pub record IsRead (us : List Use) (o : Option Open) (a : Arguments) (p : ℕ) (ws : List Text) : Type 0 where
  pub found : List Use
  pub after : Arguments
  pub no_kinds : kinds_from (stands us o p) ws ≡ []
  pub rows_are : finished rules (fold (walked rules []) (stands us o p) ws).held ≡ map row_for found
  pub numbers : HasNumbers found after
  pub flag_is : flag_in found ≡ Some after.recorded
  pub reads_are : reads (add a o) ws ≡ Some after

pub record IsRefused (us : List Use) (o : Option Open) (a : Arguments) (p : ℕ) (ws : List Text) : Type 0 where
  pub kinds : kinds_from (stands us o p) ws ≡ [] → ⊥
  pub none : reads (add a o) ws ≡ None

first_none : (k l : Kinds) → or_else k l ≡ [] → k ≡ []
first_none [] l e = refl
first_none (k ∷ ks) l e = absurd cc

goes_on : (w v : Walk) (x : Text) (ws : List Text) → turn_fault shape [] w x ≡ [] → walked rules [] w x ≡ v → kinds_from w (x ∷ ws) ≡ kinds_from v ws
goes_on w v x ws e f = ap (λ (k : Kinds). or_else k (kinds_from (walked rules [] w x) ws)) e ∙ ap (λ (u : Walk). kinds_from u ws) f

walks_on : (w v : Walk) (x : Text) (ws : List Text) → walked rules [] w x ≡ v → finished rules (fold (walked rules []) w (x ∷ ws)).held ≡ finished rules (fold (walked rules []) v ws).held
walks_on w v x ws f = ap (λ (u : Walk). finished rules (fold (walked rules []) u ws).held) f

moved : (us vs : List Use) (o q : Option Open) (a b : Arguments) (m n : ℕ) (ws xs : List Text) → kinds_from (stands us o m) ws ≡ kinds_from (stands vs q n) xs
    → finished rules (fold (walked rules []) (stands us o m) ws).held ≡ finished rules (fold (walked rules []) (stands vs q n) xs).held → reads (add a o) ws ≡ reads (add b q) xs
    → (IsRead vs q b n xs ⊎ IsRefused vs q b n xs) → IsRead us o a m ws ⊎ IsRefused us o a m ws
moved us vs o q a b m n ws xs e f g (inl r) = inl (record { found = r.found; after = r.after; no_kinds = e ∙ r.no_kinds; rows_are = f ∙ r.rows_are; numbers = r.numbers; flag_is = r.flag_is; reads_are = g ∙ r.reads_are })
moved us vs o q a b m n ws xs e f g (inr r) = inr (record { kinds = λ h. r.kinds (sym e ∙ h); none = g ∙ r.none })

-- a word at which the open use is refused
refused_at : (us : List Use) (o : Option Open) (a : Arguments) (n : ℕ) (x : Text) (ws : List Text) → turn_fault shape [] (stands us o n) x ≡ open_kinds us o → IsBad us o a → IsRefused us o a n (x ∷ ws)
refused_at us o a n x ws e b = record {
  kinds = λ h. b.kinds (sym e ∙ first_none (turn_fault shape [] (stands us o n) x) _ h);
  none = ap (λ (s : Option Arguments). reads s (x ∷ ws)) b.none ∙ reads_none (x ∷ ws);
}

-- a name settles the open use and waits for its value
name_to : (n : Named) (us : List Use) (o : Option Open) (a : Arguments) (p : ℕ) (ws : List Text) (f : IsFine us o a) → kinds_from (stands us o p) (named_word n ∷ ws) ≡ kinds_from (waits f.found (named_field n) p) ws
name_to n us o a p ws f = goes_on (stands us o p) (waits f.found (named_field n) p) (named_word n) ws (name_kinds n us o p ∙ f.no_kinds) (name_met n us f.found o p f.rows_are)

reads-name_end : (n : Named) (s : Option Arguments) → reads s (named_word n ∷ []) ≡ then_with with_number s (named_word n)
reads-name_end workers_name s = alone_number s (codes "--workers") refl
reads-name_end rows_name s = alone_number s (codes "--rows") refl
reads-name_end bucket_name s = alone_number s (codes "--bucket") refl

name_end : (n : Named) (us : List Use) (o : Option Open) (a : Arguments) (p : ℕ) → IsFine us o a → IsRefused us o a p (named_word n ∷ [])
name_end n us o a p f = record {
  kinds = λ h. let bad : kind.InvalidValue ∷ [] ≡ [] = sym (name_to n us o a p [] f ∙ end-waits n f.found p) ∙ h in cc;
  none = reads-name_end n (add a o) ∙ (ap (λ (s : Option Arguments). then_with with_number s (named_word n)) f.adds ∙ no_number n f.after);
}

refused_value : (us : List Use) (o : Option Open) (a : Arguments) (n : ℕ) (x y : Text) (ws : List Text) (v : Walk) → kinds_from (stands us o n) (x ∷ y ∷ ws) ≡ kinds_from v (y ∷ ws) → turn_fault shape [] v y ≡ kind.InvalidValue ∷ []
    → reads (add a o) (x ∷ y ∷ ws) ≡ None → IsRefused us o a n (x ∷ y ∷ ws)
refused_value us o a n x y ws v e f g = record {
  kinds = λ h. let bad : kind.InvalidValue ∷ [] ≡ [] = sym f ∙ first_none (turn_fault shape [] v y) _ (sym e ∙ h) in cc;
  none = g;
}

reads-name : (n : Named) (s : Option Arguments) (y : Text) (ws : List Text) → reads s (named_word n ∷ y ∷ ws) ≡ reads (then_with (with_named n) s y) ws
reads-name workers_name s y ws = refl
reads-name rows_name s y ws = refl
reads-name bucket_name s y ws = refl

-- a name, and a word for its value, after arguments that are known
reads-value : (n : Named) (o : Option Open) (a after : Arguments) (y : Text) (ws : List Text) → add a o ≡ Some after → reads (add a o) (named_word n ∷ y ∷ ws) ≡ reads (with_named n after y) ws
reads-value n o a after y ws e = reads-name n (add a o) y ws ∙ ap (λ (s : Option Arguments). reads (then_with (with_named n) s y) ws) e

no_value : (n : Named) (o : Option Open) (a after : Arguments) (y : Text) (ws : List Text) → add a o ≡ Some after → with_named n after y ≡ None → reads (add a o) (named_word n ∷ y ∷ ws) ≡ None
no_value n o a after y ws e f = reads-value n o a after y ws e ∙ (ap (λ (s : Option Arguments). reads s ws) f ∙ reads_none ws)

third_refused : (us : List Use) (o : Option Open) (a : Arguments) (x : ℕ) (xs : Text) (ws : List Text) → (x == 45) ≡ false → Placed third a o → IsRefused us o a 3 ((x ∷ xs) ∷ ws)
third_refused us o a x xs ws h l = record {
  kinds = λ e. let bad : kind.UnknownArgument ∷ [] ≡ [] = sym (third_kinds us o x xs h) ∙ first_none (turn_fault shape [] (stands us o 3) (x ∷ xs)) _ e in cc;
  none = reads-number (add a o) (x ∷ xs) ws (plain_word x xs h) ∙ (ap (λ (s : Option Arguments). reads s ws) (at (add a o) refl) ∙ reads_none ws);
}
  where
    at : (s : Option Arguments) → add a o ≡ s → then_with with_number s (x ∷ xs) ≡ None
    at None e = refl
    at (Some b) e = number_third b (x ∷ xs) (l b e)

at_end : (us : List Use) (o : Option Open) (a : Arguments) (n : ℕ) → (IsFine us o a ⊎ IsBad us o a) → IsRead us o a n [] ⊎ IsRefused us o a n []
at_end us o a n (inl f) = inl (record { found = ended f.found; after = f.after; no_kinds = end-stands us o n ∙ f.no_kinds; rows_are = finished-stands us f.found o n f.rows_are; numbers = ended_numbers f.found f.after f.holds; flag_is = ended_flag f.found f.after f.holds; reads_are = f.adds })
at_end us o a n (inr b) = inr (record { kinds = λ e. b.kinds (sym (end-stands us o n) ∙ e); none = b.none })

-- the flag, where it may stand, and where it stood before
flag_refused : (us : List Use) (o : Option Open) (a : Arguments) (n : ℕ) (ws : List Text) → IsBad us o a → IsRefused us o a n (codes "--record" ∷ ws)
flag_refused us o a n ws b = record {
  kinds = λ h. b.kinds (flag_kinds_first us o n (first_none (turn_fault shape [] (stands us o n) (codes "--record")) _ h));
  none = ap (λ (s : Option Arguments). reads s (codes "--record" ∷ ws)) b.none ∙ reads_none (codes "--record" ∷ ws);
}

flag_again : (us : List Use) (o : Option Open) (a : Arguments) (n : ℕ) (ws : List Text) (f : IsFine us o a) → f.after.recorded ≡ true → IsRefused us o a n (codes "--record" ∷ ws)
flag_again us o a n ws f e =
    let stood : flag_in f.found ≡ Some true = f.holds.1 ∙ ap flag_use e in
    let fault : turn_fault shape [] (stands us o n) (codes "--record") ≡ kind.ArgumentConflict ∷ [] =
    flag_kinds us f.found o n f.rows_are ∙ (ap (λ (k : Kinds). or_else k (repeat_kinds (is_some (flag_in f.found)))) f.no_kinds ∙ ap (λ (x : Option Bool). repeat_kinds (is_some x)) stood) in
    record {
      kinds = λ h. let bad : kind.ArgumentConflict ∷ [] ≡ [] = sym fault ∙ first_none (turn_fault shape [] (stands us o n) (codes "--record")) _ h in cc;
      none = reads-flag (add a o) ws ∙ (ap (λ (s : Option Arguments). reads (then_flag s) ws) f.adds
          ∙ (ap (λ (b : Bool). reads (cond b None (Some (record f.after { recorded = true }))) ws) e ∙ reads_none ws));
    }

flag_added : (us : List Use) (o : Option Open) (a : Arguments) (n : ℕ) (ws : List Text) (f : IsFine us o a) → f.after.recorded ≡ false
    → (IsRead (f.found ++ flag true ∷ []) None (record f.after { recorded = true }) n ws ⊎ IsRefused (f.found ++ flag true ∷ []) None (record f.after { recorded = true }) n ws)
    → IsRead us o a n (codes "--record" ∷ ws) ⊎ IsRefused us o a n (codes "--record" ∷ ws)
flag_added us o a n ws f e rest =
    let none : flag_in f.found ≡ None = f.holds.1 ∙ ap flag_use e in
    let fault : turn_fault shape [] (stands us o n) (codes "--record") ≡ [] =
    flag_kinds us f.found o n f.rows_are ∙ (ap (λ (k : Kinds). or_else k (repeat_kinds (is_some (flag_in f.found)))) f.no_kinds ∙ ap (λ (x : Option Bool). repeat_kinds (is_some x)) none) in
    let met = flag_word_reached us f.found o n f.rows_are none in
    moved us (f.found ++ flag true ∷ []) o None a (record f.after { recorded = true }) n n (codes "--record" ∷ ws) ws
    (goes_on (stands us o n) (stands (f.found ++ flag true ∷ []) None n) (codes "--record") ws fault met)
    (walks_on (stands us o n) (stands (f.found ++ flag true ∷ []) None n) (codes "--record") ws met)
    (reads-flag (add a o) ws ∙ (ap (λ (s : Option Arguments). reads (then_flag s) ws) f.adds ∙ ap (λ (b : Bool). reads (cond b None (Some (record f.after { recorded = true }))) ws) e))
    rest

flag_reached : (us : List Use) (o : Option Open) (a : Arguments) (n : ℕ) (ws : List Text) (f : IsFine us o a) (b : Bool) → f.after.recorded ≡ b
    → (f.after.recorded ≡ false → IsRead (f.found ++ flag true ∷ []) None (record f.after { recorded = true }) n ws ⊎ IsRefused (f.found ++ flag true ∷ []) None (record f.after { recorded = true }) n ws)
    → IsRead us o a n (codes "--record" ∷ ws) ⊎ IsRefused us o a n (codes "--record" ∷ ws)
flag_reached us o a n ws f true e rest = inr (flag_again us o a n ws f e)
flag_reached us o a n ws f false e rest = flag_added us o a n ws f e (rest e)

placed_flag : (p : Place) (a : Arguments) → IsAt p a → Placed p (record a { recorded = true }) None
placed_flag p a h b e = let is : record a { recorded = true } ≡ b = cc in still_at p a b (ap (λ (x : Arguments). x.start) (sym is)) (ap (λ (x : Arguments). x.count) (sym is)) h

-- all the words
pub read_all : (ts : List Token) (us : List Use) (o : Option Open) (a : Arguments) (p : Place) → AllByRecursion IsToken ts → Holds us a → OpenAgrees o → Placed p a o
    → IsRead us o a (place_number p) (words_of ts) ⊎ IsRefused us o a (place_number p) (words_of ts)
read_all [] us o a p t h g l = at_end us o a (place_number p) (settle us o a h g)
read_all (named n ∷ []) us o a p t h g l = ⊎_elim (λ f. inr (name_end n us o a (place_number p) f)) (λ b. inr (refused_at us o a (place_number p) (named_word n) [] (name_kinds n us o (place_number p)) b)) (settle us o a h g)
read_all (named n ∷ named m ∷ ts) us o a p t h g l = ⊎_elim
    (λ f. inr (refused_value us o a (place_number p) (named_word n) (named_word m) (words_of ts) (waits f.found (named_field n) (place_number p)) (name_to n us o a (place_number p) (named_word m ∷ words_of ts) f) (name_then_name n m f.found (place_number p)) (no_value n o a f.after (named_word m) (words_of ts) f.adds (given_none n f.after (named_word m) (name_is_none m)))))
    (λ b. inr (refused_at us o a (place_number p) (named_word n) (named_word m ∷ words_of ts) (name_kinds n us o (place_number p)) b)) (settle us o a h g)
read_all (named n ∷ flag_name ∷ ts) us o a p t h g l = ⊎_elim
    (λ f. inr (refused_value us o a (place_number p) (named_word n) (codes "--record") (words_of ts) (waits f.found (named_field n) (place_number p)) (name_to n us o a (place_number p) (codes "--record" ∷ words_of ts) f) (name_then_flag n f.found (place_number p)) (no_value n o a f.after (codes "--record") (words_of ts) f.adds (given_none n f.after (codes "--record") flag_is_none))))
    (λ b. inr (refused_at us o a (place_number p) (named_word n) (codes "--record" ∷ words_of ts) (name_kinds n us o (place_number p)) b)) (settle us o a h g)
read_all (flag_name ∷ ts) us o a p t h g l = ⊎_elim
    (λ f. flag_reached us o a (place_number p) (words_of ts) f f.after.recorded refl
    (λ e. read_all ts (f.found ++ flag true ∷ []) None (record f.after { recorded = true }) p t.1 (holds_flag f.found f.after f.holds e) tt (placed_flag p f.after (l f.after f.adds))))
    (λ b. inr (flag_refused us o a (place_number p) (words_of ts) b)) (settle us o a h g)
read_all (named n ∷ plain x xs ∷ ts) us o a p t h g l = ⊎_elim
    (λ f. moved us f.found o (Some (named_field n, x ∷ xs)) a f.after (place_number p) (place_number p) (named_word n ∷ (x ∷ xs) ∷ words_of ts) (words_of ts)
    (name_to n us o a (place_number p) ((x ∷ xs) ∷ words_of ts) f ∙ goes_on (waits f.found (named_field n) (place_number p)) (stands f.found (Some (named_field n, x ∷ xs)) (place_number p)) (x ∷ xs) (words_of ts) (value_kinds n f.found (place_number p) x xs t.1.0.0) (value_met n f.found (place_number p) x xs t.1.0.0))
    (walks_on (stands us o (place_number p)) (waits f.found (named_field n) (place_number p)) (named_word n) ((x ∷ xs) ∷ words_of ts) (name_met n us f.found o (place_number p) f.rows_are) ∙ walks_on (waits f.found (named_field n) (place_number p)) (stands f.found (Some (named_field n, x ∷ xs)) (place_number p)) (x ∷ xs) (words_of ts) (value_met n f.found (place_number p) x xs t.1.0.0))
    (reads-value n o a f.after (x ∷ xs) (words_of ts) f.adds ∙ ap (λ (s : Option Arguments). reads s (words_of ts)) (with_named-adds n f.after (x ∷ xs)))
    (read_all ts f.found (Some (named_field n, x ∷ xs)) f.after p t.1.1 f.holds t.1.0.1 (after_name n p f.after (x ∷ xs) (l f.after f.adds))))
    (λ b. inr (refused_at us o a (place_number p) (named_word n) ((x ∷ xs) ∷ words_of ts) (name_kinds n us o (place_number p)) b)) (settle us o a h g)
read_all (plain x xs ∷ ts) us o a first t h g l = ⊎_elim
    (λ f. moved us f.found o (Some (start, x ∷ xs)) a f.after 1 2 ((x ∷ xs) ∷ words_of ts) (words_of ts)
    (goes_on (stands us o 1) (stands f.found (Some (start, x ∷ xs)) 2) (x ∷ xs) (words_of ts) (first_kinds us o x xs t.0.0 ∙ f.no_kinds) (first_number us f.found o x xs t.0.0 f.rows_are))
    (walks_on (stands us o 1) (stands f.found (Some (start, x ∷ xs)) 2) (x ∷ xs) (words_of ts) (first_number us f.found o x xs t.0.0 f.rows_are))
    (reads-number (add a o) (x ∷ xs) (words_of ts) (plain_word x xs t.0.0) ∙ (ap (λ (s : Option Arguments). reads (then_with with_number s (x ∷ xs)) (words_of ts)) f.adds ∙ ap (λ (s : Option Arguments). reads s (words_of ts)) (number_first f.after (x ∷ xs) (l f.after f.adds))))
    (read_all ts f.found (Some (start, x ∷ xs)) f.after second t.1 f.holds t.0.1 (after_first f.after (x ∷ xs) (l f.after f.adds))))
    (λ b. inr (refused_at us o a 1 (x ∷ xs) (words_of ts) (first_kinds us o x xs t.0.0) b)) (settle us o a h g)
read_all (plain x xs ∷ ts) us o a second t h g l = ⊎_elim
    (λ f. moved us f.found o (Some (count, x ∷ xs)) a f.after 2 3 ((x ∷ xs) ∷ words_of ts) (words_of ts)
    (goes_on (stands us o 2) (stands f.found (Some (count, x ∷ xs)) 3) (x ∷ xs) (words_of ts) (second_kinds us o x xs t.0.0 ∙ f.no_kinds) (second_number us f.found o x xs t.0.0 f.rows_are))
    (walks_on (stands us o 2) (stands f.found (Some (count, x ∷ xs)) 3) (x ∷ xs) (words_of ts) (second_number us f.found o x xs t.0.0 f.rows_are))
    (reads-number (add a o) (x ∷ xs) (words_of ts) (plain_word x xs t.0.0) ∙ (ap (λ (s : Option Arguments). reads (then_with with_number s (x ∷ xs)) (words_of ts)) f.adds ∙ ap (λ (s : Option Arguments). reads s (words_of ts)) (number_second f.after (x ∷ xs) (l f.after f.adds))))
    (read_all ts f.found (Some (count, x ∷ xs)) f.after third t.1 f.holds t.0.1 (after_second f.after (x ∷ xs) (l f.after f.adds))))
    (λ b. inr (refused_at us o a 2 (x ∷ xs) (words_of ts) (second_kinds us o x xs t.0.0) b)) (settle us o a h g)
read_all (plain x xs ∷ ts) us o a third t h g l = inr (third_refused us o a x xs (words_of ts) t.0.0 l)
