-- What parts add, option by option, and which command that makes.
use Rattle.std.proofs.Common.{◌≡◌, ℕ, Bool, true, false, Option, Some, None, List, [], ◌∷◌, refl, sym, ◌∙◌, ap, subst}
use Rattle.std.specs.Prelude.{option_map, unwrap_or}
use Rattle.kw_words.specs.declared.sizes.TheConstants.{MOST_ROWS}
use Rattle.kw_command.specs.declared.command.Command.{Command}
use Rattle.kw_command.specs.declared.command.Command.TheVariants as command
use Rattle.kw_command.specs.declared.command.Name.{Name}
use Rattle.kw_command.specs.declared.command.Name.TheVariants as name
use Rattle.kw_command.specs.declared.command.TheConstants.{MOST_WORKERS, DEFAULT_WORKERS, FEWEST_ROWS, DEFAULT_ROWS, SIMULATED_ROWS, MOST_START, MOST_LINES, MOST_BUCKET}
use Rattle.kw_command.specs.declared.words.Arguments.{Arguments}
use Rattle.kw_command.specs.Words.{Part, number, workers, rows, bucket, recorded, numbers, all_workers, all_rows, all_buckets, all_flags, number_in, IsOption, IsGiven, IsFlag, AreNumbers, Makes}
use Rattle.kw_command.specs.Reading.{once, with_workers, with_rows, with_bucket, with_number, then_with, no_arguments, picked, picked_from}
use Rattle.kw_command.proofs.Meaning.{adds, then_flag}

-- what is known of an option after one more word that it is given, or none where it is one too many
-- or a bad one
abbrev pub fill : Option (Option ℕ) → ℕ → ℕ → List ℕ → Option (Option ℕ)
fill None least most w = None
fill (Some o) least most w = option_map (λ n. Some n) (once o least most w)

abbrev pub filled : Option (Option ℕ) → ℕ → ℕ → List (List ℕ) → Option (Option ℕ)
filled o least most [] = o
filled o least most (w ∷ ws) = filled (fill o least most w) least most ws

-- and of the two numbers that stand by themselves
abbrev pub fill_pair : Option (Option ℕ × Option ℕ) → List ℕ → Option (Option ℕ × Option ℕ)
fill_pair None w = None
fill_pair (Some (None, n)) w = option_map (λ s. (Some s, n)) (number_in 0 MOST_START w)
fill_pair (Some (Some s, n)) w = option_map (λ m. (Some s, Some m)) (once n 1 MOST_LINES w)

abbrev pub filled_pair : Option (Option ℕ × Option ℕ) → List (List ℕ) → Option (Option ℕ × Option ℕ)
filled_pair o [] = o
filled_pair o (w ∷ ws) = filled_pair (fill_pair o w) ws

-- and of the flag, after one more word that is it
abbrev pub fill_flag : Option Bool → Option Bool
fill_flag None = None
fill_flag (Some true) = None
fill_flag (Some false) = Some true

abbrev pub filled_flag : Option Bool → List (List ℕ) → Option Bool
filled_flag o [] = o
filled_flag o (w ∷ ws) = filled_flag (fill_flag o) ws

-- the arguments with what is known of each
abbrev pub joined : Option (Option ℕ × Option ℕ) → Option (Option ℕ) → Option (Option ℕ) → Option (Option ℕ) → Option Bool → Option Arguments
joined None w r g b = None
joined (Some n) None r g b = None
joined (Some n) (Some w) None g b = None
joined (Some n) (Some w) (Some r) None b = None
joined (Some n) (Some w) (Some r) (Some g) None = None
joined (Some n) (Some w) (Some r) (Some g) (Some b) = Some (record { start = n.0; count = n.1; workers = w; rows = r; bucket = g; recorded = b })

no_workers : (n : Option (Option ℕ × Option ℕ)) (r g : Option (Option ℕ)) (b : Option Bool) → None ≡ joined n None r g b
no_workers None r g b = refl
no_workers (Some n) r g b = refl

no_rows : (n : Option (Option ℕ × Option ℕ)) (w g : Option (Option ℕ)) (b : Option Bool) → None ≡ joined n w None g b
no_rows None w g b = refl
no_rows (Some n) None g b = refl
no_rows (Some n) (Some w) g b = refl

no_bucket : (n : Option (Option ℕ × Option ℕ)) (w r : Option (Option ℕ)) (b : Option Bool) → None ≡ joined n w r None b
no_bucket None w r b = refl
no_bucket (Some n) None r b = refl
no_bucket (Some n) (Some w) None b = refl
no_bucket (Some n) (Some w) (Some r) b = refl

no_flag : (n : Option (Option ℕ × Option ℕ)) (w r g : Option (Option ℕ)) → None ≡ joined n w r g None
no_flag None w r g = refl
no_flag (Some n) None r g = refl
no_flag (Some n) (Some w) None g = refl
no_flag (Some n) (Some w) (Some r) None = refl
no_flag (Some n) (Some w) (Some r) (Some g) = refl

-- one more word, for each kind of part
add_workers : (n : Option (Option ℕ × Option ℕ)) (w r g : Option (Option ℕ)) (b : Option Bool) (x : List ℕ) → then_with with_workers (joined n w r g b) x ≡ joined n (fill w 1 MOST_WORKERS x) r g b
add_workers None w r g b x = refl
add_workers (Some n) None r g b x = refl
add_workers (Some n) (Some w) None g b x = no_rows (Some n) (fill (Some w) 1 MOST_WORKERS x) g b
add_workers (Some n) (Some w) (Some r) None b x = no_bucket (Some n) (fill (Some w) 1 MOST_WORKERS x) (Some r) b
add_workers (Some n) (Some w) (Some r) (Some g) None x = no_flag (Some n) (fill (Some w) 1 MOST_WORKERS x) (Some r) (Some g)
add_workers (Some n) (Some w) (Some r) (Some g) (Some b) x = at (once w 1 MOST_WORKERS x)
  where
    at : (o : Option ℕ) → option_map (λ k. record { start = n.0; count = n.1; workers = Some k; rows = r; bucket = g; recorded = b }) o ≡ joined (Some n) (option_map (λ k. Some k) o) (Some r) (Some g) (Some b)
    at None = refl
    at (Some k) = refl

add_rows : (n : Option (Option ℕ × Option ℕ)) (w r g : Option (Option ℕ)) (b : Option Bool) (x : List ℕ) → then_with with_rows (joined n w r g b) x ≡ joined n w (fill r FEWEST_ROWS MOST_ROWS x) g b
add_rows None w r g b x = refl
add_rows (Some n) None r g b x = refl
add_rows (Some n) (Some w) None g b x = refl
add_rows (Some n) (Some w) (Some r) None b x = no_bucket (Some n) (Some w) (fill (Some r) FEWEST_ROWS MOST_ROWS x) b
add_rows (Some n) (Some w) (Some r) (Some g) None x = no_flag (Some n) (Some w) (fill (Some r) FEWEST_ROWS MOST_ROWS x) (Some g)
add_rows (Some n) (Some w) (Some r) (Some g) (Some b) x = at (once r FEWEST_ROWS MOST_ROWS x)
  where
    at : (o : Option ℕ) → option_map (λ k. record { start = n.0; count = n.1; workers = w; rows = Some k; bucket = g; recorded = b }) o ≡ joined (Some n) (Some w) (option_map (λ k. Some k) o) (Some g) (Some b)
    at None = refl
    at (Some k) = refl

add_bucket : (n : Option (Option ℕ × Option ℕ)) (w r g : Option (Option ℕ)) (b : Option Bool) (x : List ℕ) → then_with with_bucket (joined n w r g b) x ≡ joined n w r (fill g 1 MOST_BUCKET x) b
add_bucket None w r g b x = refl
add_bucket (Some n) None r g b x = refl
add_bucket (Some n) (Some w) None g b x = refl
add_bucket (Some n) (Some w) (Some r) None b x = refl
add_bucket (Some n) (Some w) (Some r) (Some g) None x = no_flag (Some n) (Some w) (Some r) (fill (Some g) 1 MOST_BUCKET x)
add_bucket (Some n) (Some w) (Some r) (Some g) (Some b) x = at (once g 1 MOST_BUCKET x)
  where
    at : (o : Option ℕ) → option_map (λ k. record { start = n.0; count = n.1; workers = w; rows = r; bucket = Some k; recorded = b }) o ≡ joined (Some n) (Some w) (Some r) (option_map (λ k. Some k) o) (Some b)
    at None = refl
    at (Some k) = refl

add_number : (n : Option (Option ℕ × Option ℕ)) (w r g : Option (Option ℕ)) (b : Option Bool) (x : List ℕ) → then_with with_number (joined n w r g b) x ≡ joined (fill_pair n x) w r g b
add_number None w r g b x = refl
add_number (Some n) None r g b x = no_workers (fill_pair (Some n) x) r g b
add_number (Some n) (Some w) None g b x = no_rows (fill_pair (Some n) x) (Some w) g b
add_number (Some n) (Some w) (Some r) None b x = no_bucket (fill_pair (Some n) x) (Some w) (Some r) b
add_number (Some n) (Some w) (Some r) (Some g) None x = no_flag (fill_pair (Some n) x) (Some w) (Some r) (Some g)
add_number (Some (None, m)) (Some w) (Some r) (Some g) (Some b) x = at (number_in 0 MOST_START x)
  where
    at : (o : Option ℕ) → option_map (λ k. record { start = Some k; count = m; workers = w; rows = r; bucket = g; recorded = b }) o ≡ joined (option_map (λ s. (Some s, m)) o) (Some w) (Some r) (Some g) (Some b)
    at None = refl
    at (Some k) = refl
add_number (Some (Some s, m)) (Some w) (Some r) (Some g) (Some b) x = at (once m 1 MOST_LINES x)
  where
    at : (o : Option ℕ) → option_map (λ k. record { start = Some s; count = Some k; workers = w; rows = r; bucket = g; recorded = b }) o ≡ joined (option_map (λ k. (Some s, Some k)) o) (Some w) (Some r) (Some g) (Some b)
    at None = refl
    at (Some k) = refl

add_flag : (n : Option (Option ℕ × Option ℕ)) (w r g : Option (Option ℕ)) (b : Option Bool) → then_flag (joined n w r g b) ≡ joined n w r g (fill_flag b)
add_flag None w r g b = refl
add_flag (Some n) None r g b = refl
add_flag (Some n) (Some w) None g b = refl
add_flag (Some n) (Some w) (Some r) None b = refl
add_flag (Some n) (Some w) (Some r) (Some g) None = refl
add_flag (Some n) (Some w) (Some r) (Some g) (Some true) = refl
add_flag (Some n) (Some w) (Some r) (Some g) (Some false) = refl

-- parts add to each option what it is given
pub adds-joined : (n : Option (Option ℕ × Option ℕ)) (w r g : Option (Option ℕ)) (b : Option Bool) (parts : List Part)
    → adds (joined n w r g b) parts
    ≡ joined (filled_pair n (numbers parts)) (filled w 1 MOST_WORKERS (all_workers parts)) (filled r FEWEST_ROWS MOST_ROWS (all_rows parts)) (filled g 1 MOST_BUCKET (all_buckets parts)) (filled_flag b (all_flags parts))
adds-joined n w r g b [] = refl
adds-joined n w r g b (number x ∷ parts) = ap (λ (o : Option Arguments). adds o parts) (add_number n w r g b x) ∙ adds-joined (fill_pair n x) w r g b parts
adds-joined n w r g b (workers x ∷ parts) = ap (λ (o : Option Arguments). adds o parts) (add_workers n w r g b x) ∙ adds-joined n (fill w 1 MOST_WORKERS x) r g b parts
adds-joined n w r g b (rows x ∷ parts) = ap (λ (o : Option Arguments). adds o parts) (add_rows n w r g b x) ∙ adds-joined n w (fill r FEWEST_ROWS MOST_ROWS x) g b parts
adds-joined n w r g b (bucket x ∷ parts) = ap (λ (o : Option Arguments). adds o parts) (add_bucket n w r g b x) ∙ adds-joined n w r (fill g 1 MOST_BUCKET x) b parts
adds-joined n w r g b (recorded ∷ parts) = ap (λ (o : Option Arguments). adds o parts) (add_flag n w r g b) ∙ adds-joined n w r g (fill_flag b) parts

-- ---- which words an option may be given

filled_none : (least most : ℕ) (ws : List (List ℕ)) → filled None least most ws ≡ None
filled_none least most [] = refl
filled_none least most (w ∷ ws) = filled_none least most ws

pair_none : (ws : List (List ℕ)) → filled_pair None ws ≡ None
pair_none [] = refl
pair_none (w ∷ ws) = pair_none ws

-- an option whose number is known was given it once, or not at all
pub option_is : (least most default : ℕ) (ws : List (List ℕ)) (o : Option ℕ) → filled (Some None) least most ws ≡ Some o → IsOption least most default ws (unwrap_or o default)
option_is least most default [] o e = cc
option_is least most default (w ∷ []) o e = at (number_in least most w) e
  where
    at : (m : Option ℕ) → option_map (λ n. Some n) m ≡ Some o → m ≡ Some (unwrap_or o default)
    at None e = cc
    at (Some n) e = let is : Some n ≡ o = cc in ap (λ (x : Option ℕ). Some (unwrap_or x default)) is
option_is least most default (w ∷ x ∷ ws) o e = absurd (at (number_in least most w) e)
  where
    at : (m : Option ℕ) → filled (fill (option_map (λ n. Some n) m) least most x) least most ws ≡ Some o → ⊥
    at None e = let none : filled None least most ws ≡ None = filled_none least most ws in cc
    at (Some n) e = let none : filled None least most ws ≡ None = filled_none least most ws in cc

-- and the other way round
pub known_of : (least most default : ℕ) (ws : List (List ℕ)) (n : ℕ) → IsOption least most default ws n → (o : Option ℕ) × (filled (Some None) least most ws ≡ Some o) × (n ≡ unwrap_or o default)
known_of least most default [] n h = (None, refl, h)
known_of least most default (w ∷ []) n h = (Some n, ap (option_map (λ k. Some k)) h, refl)
known_of least most default (w ∷ x ∷ ws) n h = absurd h

-- an option that must stand was given once where its number is known, and the other way round
pub given_is : (least most : ℕ) (ws : List (List ℕ)) (n : ℕ) → filled (Some None) least most ws ≡ Some (Some n) → IsGiven least most ws n
given_is least most [] n e = cc
given_is least most (w ∷ ws) n e = at ws (option_is least most 0 (w ∷ ws) (Some n) e)
  where
    at : (vs : List (List ℕ)) → IsOption least most 0 (w ∷ vs) n → IsGiven least most (w ∷ vs) n
    at [] h = h
    at (v ∷ vs) h = h

pub given_known : (least most : ℕ) (ws : List (List ℕ)) (n : ℕ) → IsGiven least most ws n → filled (Some None) least most ws ≡ Some (Some n)
given_known least most [] n h = absurd h
given_known least most (w ∷ []) n h = ap (option_map (λ k. Some k)) h
given_known least most (w ∷ x ∷ ws) n h = absurd h

-- an option that was not given is not known, and one that is not known was not given
pub none_given : (least most : ℕ) (ws : List (List ℕ)) → filled (Some None) least most ws ≡ Some None → ws ≡ []
none_given least most [] e = refl
none_given least most (w ∷ ws) e = absurd (at (number_in least most w) e)
  where
    stays : (n : ℕ) (vs : List (List ℕ)) → filled (Some (Some n)) least most vs ≡ Some None → ⊥
    stays n [] e = cc
    stays n (v ∷ vs) e = let none : filled None least most vs ≡ None = filled_none least most vs in cc

    at : (m : Option ℕ) → filled (option_map (λ n. Some n) m) least most ws ≡ Some None → ⊥
    at None e = let none : filled None least most ws ≡ None = filled_none least most ws in cc
    at (Some n) e = stays n ws e

-- a flag of which it is known whether it is given stands once, or not at all
no_flags : (ws : List (List ℕ)) (b : Bool) → filled_flag None ws ≡ Some b → ⊥
no_flags [] b e = cc
no_flags (w ∷ ws) b e = no_flags ws b e

flag_is : (ws : List (List ℕ)) (b : Bool) → filled_flag (Some false) ws ≡ Some b → IsFlag ws b
flag_is [] b e = cc
flag_is (w ∷ []) b e = cc
flag_is (w ∷ x ∷ ws) b e = no_flags ws b e

-- and the other way round
flag_known : (ws : List (List ℕ)) (b : Bool) → IsFlag ws b → filled_flag (Some false) ws ≡ Some b
flag_known [] b h = ap (λ (x : Bool). Some x) (sym h)
flag_known (w ∷ []) b h = ap (λ (x : Bool). Some x) (sym h)
flag_known (w ∷ x ∷ ws) b h = absurd h

-- a flag that is not given does not stand
no_flag_given : (ws : List (List ℕ)) → filled_flag (Some false) ws ≡ Some false → ws ≡ []
no_flag_given [] e = refl
no_flag_given (w ∷ []) e = absurd cc
no_flag_given (w ∷ x ∷ ws) e = absurd (no_flags ws false e)

-- the first and the second number that are known
abbrev first_of : Option (Option ℕ × Option ℕ) → Option ℕ
first_of None = None
first_of (Some p) = p.0

abbrev second_of : Option (Option ℕ × Option ℕ) → Option ℕ
second_of None = None
second_of (Some p) = p.1

pair_stays : (ws : List (List ℕ)) (a : ℕ) (b n : Option ℕ) → filled_pair (Some (Some a, b)) ws ≡ Some (None, n) → ⊥
pair_stays [] a b n e = let bad : Some a ≡ None = ap first_of e in cc
pair_stays (w ∷ ws) a b n e = at (once b 1 MOST_LINES w) e (λ k f. pair_stays ws a (Some k) n f)
  where
    at : (o : Option ℕ) → filled_pair (option_map (λ m. (Some a, Some m)) o) ws ≡ Some (None, n) → ((k : ℕ) → filled_pair (Some (Some a, Some k)) ws ≡ Some (None, n) → ⊥) → ⊥
    at None e f = let none : filled_pair None ws ≡ None = pair_none ws in cc
    at (Some k) e f = f k e

-- where no first number is known none stands
pub none_stand : (ws : List (List ℕ)) (n : Option ℕ) → filled_pair (Some (None, None)) ws ≡ Some (None, n) → ws ≡ []
none_stand [] n e = refl
none_stand (w ∷ ws) n e = absurd (at (number_in 0 MOST_START w) e)
  where
    at : (o : Option ℕ) → filled_pair (option_map (λ s. (Some s, None)) o) ws ≡ Some (None, n) → ⊥
    at None e = let none : filled_pair None ws ≡ None = pair_none ws in cc
    at (Some s) e = pair_stays ws s None n e

no_pair : (ws : List (List ℕ)) (p : Option ℕ × Option ℕ) → filled_pair None ws ≡ Some p → ⊥
no_pair ws p e = let none : filled_pair None ws ≡ None = pair_none ws in cc

both_given : (w x : List ℕ) (ws : List (List ℕ)) (s n a : ℕ) (k : Option ℕ) → number_in 0 MOST_START w ≡ Some a → number_in 1 MOST_LINES x ≡ k
    → filled_pair (option_map (λ m. (Some a, Some m)) k) ws ≡ Some (Some s, Some n) → AreNumbers (w ∷ x ∷ ws) s n
both_given w x ws s n a None f g e = absurd (no_pair ws (Some s, Some n) e)
both_given w x [] s n a (Some k) f g e =
    let start : Some a ≡ Some s = ap first_of e in
    let count : Some k ≡ Some n = ap second_of e in
    (f ∙ start, g ∙ count)
both_given w x (y ∷ ws) s n a (Some k) f g e = absurd (no_pair ws (Some s, Some n) e)

first_given : (w : List ℕ) (ws : List (List ℕ)) (s n : ℕ) (o : Option ℕ) → number_in 0 MOST_START w ≡ o
    → filled_pair (option_map (λ s. (Some s, None)) o) ws ≡ Some (Some s, Some n) → AreNumbers (w ∷ ws) s n
first_given w ws s n None f e = absurd (no_pair ws (Some s, Some n) e)
first_given w [] s n (Some a) f e = let bad : None ≡ Some n = ap second_of e in absurd cc
first_given w (x ∷ ws) s n (Some a) f e = both_given w x ws s n a (number_in 1 MOST_LINES x) f refl e

-- where both numbers are known just two stand
pub numbers_are : (ws : List (List ℕ)) (s n : ℕ) → filled_pair (Some (None, None)) ws ≡ Some (Some s, Some n) → AreNumbers ws s n
numbers_are [] s n e = let bad : None ≡ Some s = ap first_of e in absurd cc
numbers_are (w ∷ ws) s n e = first_given w ws s n (number_in 0 MOST_START w) refl e

-- and the other way round
pub numbers_known : (ws : List (List ℕ)) (s n : ℕ) → AreNumbers ws s n → filled_pair (Some (None, None)) ws ≡ Some (Some s, Some n)
numbers_known [] s n h = absurd h
numbers_known (w ∷ []) s n h = absurd h
numbers_known (w ∷ x ∷ []) s n h = ap (λ (o : Option ℕ). fill_pair (option_map (λ s. (Some s, None)) o) x) h.0 ∙ ap (option_map (λ m. (Some s, Some m))) h.1
numbers_known (w ∷ x ∷ y ∷ ws) s n h = absurd h

-- ---- which command parts make

-- the name of a command
abbrev pub command_name : Command → Name
command_name (command.Replay w r) = name.Replay
command_name (command.Simulate r b) = name.Simulate
command_name command.Judge = name.Judge
command_name (command.Gen s n w r) = name.Gen
command_name (command.Rollup g w r) = name.Rollup

-- what parts add, where each option is known
adds_known : (parts : List Part) (n : Option ℕ × Option ℕ) (w r g : Option ℕ) (b : Bool) → filled_pair (Some (None, None)) (numbers parts) ≡ Some n
    → filled (Some None) 1 MOST_WORKERS (all_workers parts) ≡ Some w → filled (Some None) FEWEST_ROWS MOST_ROWS (all_rows parts) ≡ Some r → filled (Some None) 1 MOST_BUCKET (all_buckets parts) ≡ Some g
    → filled_flag (Some false) (all_flags parts) ≡ Some b → adds (Some no_arguments) parts ≡ Some (record { start = n.0; count = n.1; workers = w; rows = r; bucket = g; recorded = b })
adds_known parts n w r g b e f h i j = adds-joined (Some (None, None)) (Some None) (Some None) (Some None) (Some false) parts ∙ rw (e, f, h, i, j)

-- parts that make a command add the arguments of which it is picked
pub record IsPicked (parts : List Part) (c : Command) : Type 0 where
  pub arguments : Arguments
  pub adds_are : adds (Some no_arguments) parts ≡ Some arguments
  pub picked_is : picked (command_name c) arguments ≡ Some c

pub picks : (parts : List Part) (c : Command) → Makes parts c → IsPicked parts c
picks parts (command.Replay w r) h =
    let known_workers = known_of 1 MOST_WORKERS DEFAULT_WORKERS (all_workers parts) w h.1 in
    let known_rows = known_of FEWEST_ROWS MOST_ROWS DEFAULT_ROWS (all_rows parts) r h.2 in
    record {
      arguments = record { start = None; count = None; workers = known_workers.0; rows = known_rows.0; bucket = None; recorded = false };
      adds_are = adds_known parts (None, None) known_workers.0 known_rows.0 None false (ap (filled_pair (Some (None, None))) h.0) known_workers.1 known_rows.1 (ap (filled (Some None) 1 MOST_BUCKET) h.3) (ap (filled_flag (Some false)) h.4);
      picked_is = ap (λ (x : ℕ). Some (command.Replay x (unwrap_or known_rows.0 DEFAULT_ROWS))) (sym known_workers.2) ∙ ap (λ (x : ℕ). Some (command.Replay w x)) (sym known_rows.2);
    }
picks parts (command.Simulate r b) h =
    let known_rows = known_of FEWEST_ROWS MOST_ROWS SIMULATED_ROWS (all_rows parts) r h.2 in
    record {
      arguments = record { start = None; count = None; workers = None; rows = known_rows.0; bucket = None; recorded = b };
      adds_are = adds_known parts (None, None) None known_rows.0 None b (ap (filled_pair (Some (None, None))) h.0) (ap (filled (Some None) 1 MOST_WORKERS) h.1) known_rows.1 (ap (filled (Some None) 1 MOST_BUCKET) h.3) (flag_known (all_flags parts) b h.4);
      picked_is = ap (λ (x : ℕ). Some (command.Simulate x b)) (sym known_rows.2);
    }
picks parts command.Judge h = record { arguments = no_arguments; adds_are = ap (adds (Some no_arguments)) h; picked_is = refl }
picks parts (command.Gen s n w r) h =
    let known_workers = known_of 1 MOST_WORKERS DEFAULT_WORKERS (all_workers parts) w h.1 in
    let known_rows = known_of FEWEST_ROWS MOST_ROWS DEFAULT_ROWS (all_rows parts) r h.2 in
    record {
      arguments = record { start = Some s; count = Some n; workers = known_workers.0; rows = known_rows.0; bucket = None; recorded = false };
      adds_are = adds_known parts (Some s, Some n) known_workers.0 known_rows.0 None false (numbers_known (numbers parts) s n h.0) known_workers.1 known_rows.1 (ap (filled (Some None) 1 MOST_BUCKET) h.3) (ap (filled_flag (Some false)) h.4);
      picked_is = ap (λ (x : ℕ). Some (command.Gen s n x (unwrap_or known_rows.0 DEFAULT_ROWS))) (sym known_workers.2) ∙ ap (λ (x : ℕ). Some (command.Gen s n w x)) (sym known_rows.2);
    }
picks parts (command.Rollup g w r) h =
    let known_workers = known_of 1 MOST_WORKERS DEFAULT_WORKERS (all_workers parts) w h.1 in
    let known_rows = known_of FEWEST_ROWS MOST_ROWS DEFAULT_ROWS (all_rows parts) r h.2 in
    record {
      arguments = record { start = None; count = None; workers = known_workers.0; rows = known_rows.0; bucket = Some g; recorded = false };
      adds_are = adds_known parts (None, None) known_workers.0 known_rows.0 (Some g) false (ap (filled_pair (Some (None, None))) h.0) known_workers.1 known_rows.1 (given_known 1 MOST_BUCKET (all_buckets parts) g h.3) (ap (filled_flag (Some false)) h.4);
      picked_is = ap (λ (x : ℕ). Some (command.Rollup g x (unwrap_or known_rows.0 DEFAULT_ROWS))) (sym known_workers.2) ∙ ap (λ (x : ℕ). Some (command.Rollup g w x)) (sym known_rows.2);
    }

-- what is known of each option in arguments that parts add
record Known (parts : List Part) (a : Arguments) : Type 0 where
  pub pair : filled_pair (Some (None, None)) (numbers parts) ≡ Some (a.start, a.count)
  pub of_workers : filled (Some None) 1 MOST_WORKERS (all_workers parts) ≡ Some a.workers
  pub of_rows : filled (Some None) FEWEST_ROWS MOST_ROWS (all_rows parts) ≡ Some a.rows
  pub of_bucket : filled (Some None) 1 MOST_BUCKET (all_buckets parts) ≡ Some a.bucket
  pub of_flag : filled_flag (Some false) (all_flags parts) ≡ Some a.recorded

known_if : (parts : List Part) (a : Arguments) (n : Option (Option ℕ × Option ℕ)) (w r g : Option (Option ℕ)) (b : Option Bool) → filled_pair (Some (None, None)) (numbers parts) ≡ n
    → filled (Some None) 1 MOST_WORKERS (all_workers parts) ≡ w → filled (Some None) FEWEST_ROWS MOST_ROWS (all_rows parts) ≡ r → filled (Some None) 1 MOST_BUCKET (all_buckets parts) ≡ g
    → filled_flag (Some false) (all_flags parts) ≡ b → joined n w r g b ≡ Some a → Known parts a
known_if parts a None w r g b e f i j k h = absurd cc
known_if parts a (Some n) None r g b e f i j k h = absurd cc
known_if parts a (Some n) (Some w) None g b e f i j k h = absurd cc
known_if parts a (Some n) (Some w) (Some r) None b e f i j k h = absurd cc
known_if parts a (Some n) (Some w) (Some r) (Some g) None e f i j k h = absurd cc
known_if parts a (Some n) (Some w) (Some r) (Some g) (Some b) e f i j k h =
    let is : record { start = n.0; count = n.1; workers = w; rows = r; bucket = g; recorded = b } ≡ a = cc in
    record {
      pair = e ∙ ap (λ (x : Arguments). Some (x.start, x.count)) is;
      of_workers = f ∙ ap (λ (x : Arguments). Some x.workers) is;
      of_rows = i ∙ ap (λ (x : Arguments). Some x.rows) is;
      of_bucket = j ∙ ap (λ (x : Arguments). Some x.bucket) is;
      of_flag = k ∙ ap (λ (x : Arguments). Some x.recorded) is;
    }

-- where nothing of any kind stands there are no parts
nothing : (parts : List Part) → numbers parts ≡ [] → all_workers parts ≡ [] → all_rows parts ≡ [] → all_buckets parts ≡ [] → all_flags parts ≡ [] → parts ≡ []
nothing [] e f g h i = refl
nothing (number w ∷ parts) e f g h i = absurd cc
nothing (workers w ∷ parts) e f g h i = absurd cc
nothing (rows w ∷ parts) e f g h i = absurd cc
nothing (bucket w ∷ parts) e f g h i = absurd cc
nothing (recorded ∷ parts) e f g h i = absurd cc

makes_from : (parts : List Part) (n : Name) (s m w r g : Option ℕ) (b : Bool) (c : Command) → filled_pair (Some (None, None)) (numbers parts) ≡ Some (s, m)
    → filled (Some None) 1 MOST_WORKERS (all_workers parts) ≡ Some w → filled (Some None) FEWEST_ROWS MOST_ROWS (all_rows parts) ≡ Some r → filled (Some None) 1 MOST_BUCKET (all_buckets parts) ≡ Some g
    → filled_flag (Some false) (all_flags parts) ≡ Some b → picked_from n s m w r g b ≡ Some c → Makes parts c × (command_name c ≡ n)
makes_from parts name.Replay None None w r None false c e f i j k h =
    let is : command.Replay (unwrap_or w DEFAULT_WORKERS) (unwrap_or r DEFAULT_ROWS) ≡ c = cc in
    subst (λ (x : Command). Makes parts x × (command_name x ≡ name.Replay)) is
    ((none_stand (numbers parts) None e, option_is 1 MOST_WORKERS DEFAULT_WORKERS (all_workers parts) w f, option_is FEWEST_ROWS MOST_ROWS DEFAULT_ROWS (all_rows parts) r i, none_given 1 MOST_BUCKET (all_buckets parts) j, no_flag_given (all_flags parts) k), refl)
makes_from parts name.Replay None None w r None true c e f i j k h = absurd cc
makes_from parts name.Replay None None w r (Some g) b c e f i j k h = absurd cc
makes_from parts name.Replay None (Some m) w r g b c e f i j k h = absurd cc
makes_from parts name.Replay (Some s) m w r g b c e f i j k h = absurd cc
makes_from parts name.Simulate None None None r None b c e f i j k h =
    let is : command.Simulate (unwrap_or r SIMULATED_ROWS) b ≡ c = cc in
    subst (λ (x : Command). Makes parts x × (command_name x ≡ name.Simulate)) is
    ((none_stand (numbers parts) None e, none_given 1 MOST_WORKERS (all_workers parts) f, option_is FEWEST_ROWS MOST_ROWS SIMULATED_ROWS (all_rows parts) r i, none_given 1 MOST_BUCKET (all_buckets parts) j, flag_is (all_flags parts) b k), refl)
makes_from parts name.Simulate None None None r (Some g) b c e f i j k h = absurd cc
makes_from parts name.Simulate None None (Some w) r g b c e f i j k h = absurd cc
makes_from parts name.Simulate None (Some m) w r g b c e f i j k h = absurd cc
makes_from parts name.Simulate (Some s) m w r g b c e f i j k h = absurd cc
makes_from parts name.Judge None None None None None false c e f i j k h =
    let is : command.Judge ≡ c = cc in
    subst (λ (x : Command). Makes parts x × (command_name x ≡ name.Judge)) is
    (nothing parts (none_stand (numbers parts) None e) (none_given 1 MOST_WORKERS (all_workers parts) f) (none_given FEWEST_ROWS MOST_ROWS (all_rows parts) i) (none_given 1 MOST_BUCKET (all_buckets parts) j) (no_flag_given (all_flags parts) k), refl)
makes_from parts name.Judge None None None None None true c e f i j k h = absurd cc
makes_from parts name.Judge None None None None (Some g) b c e f i j k h = absurd cc
makes_from parts name.Judge None None None (Some r) g b c e f i j k h = absurd cc
makes_from parts name.Judge None None (Some w) r g b c e f i j k h = absurd cc
makes_from parts name.Judge None (Some m) w r g b c e f i j k h = absurd cc
makes_from parts name.Judge (Some s) m w r g b c e f i j k h = absurd cc
makes_from parts name.Gen (Some s) (Some m) w r None false c e f i j k h =
    let is : command.Gen s m (unwrap_or w DEFAULT_WORKERS) (unwrap_or r DEFAULT_ROWS) ≡ c = cc in
    subst (λ (x : Command). Makes parts x × (command_name x ≡ name.Gen)) is
    ((numbers_are (numbers parts) s m e, option_is 1 MOST_WORKERS DEFAULT_WORKERS (all_workers parts) w f, option_is FEWEST_ROWS MOST_ROWS DEFAULT_ROWS (all_rows parts) r i, none_given 1 MOST_BUCKET (all_buckets parts) j, no_flag_given (all_flags parts) k), refl)
makes_from parts name.Gen (Some s) (Some m) w r None true c e f i j k h = absurd cc
makes_from parts name.Gen (Some s) (Some m) w r (Some g) b c e f i j k h = absurd cc
makes_from parts name.Gen (Some s) None w r g b c e f i j k h = absurd cc
makes_from parts name.Gen None m w r g b c e f i j k h = absurd cc
makes_from parts name.Rollup None None w r (Some g) false c e f i j k h =
    let is : command.Rollup g (unwrap_or w DEFAULT_WORKERS) (unwrap_or r DEFAULT_ROWS) ≡ c = cc in
    subst (λ (x : Command). Makes parts x × (command_name x ≡ name.Rollup)) is
    ((none_stand (numbers parts) None e, option_is 1 MOST_WORKERS DEFAULT_WORKERS (all_workers parts) w f, option_is FEWEST_ROWS MOST_ROWS DEFAULT_ROWS (all_rows parts) r i, given_is 1 MOST_BUCKET (all_buckets parts) g j, no_flag_given (all_flags parts) k), refl)
makes_from parts name.Rollup None None w r (Some g) true c e f i j k h = absurd cc
makes_from parts name.Rollup None None w r None b c e f i j k h = absurd cc
makes_from parts name.Rollup None (Some m) w r g b c e f i j k h = absurd cc
makes_from parts name.Rollup (Some s) m w r g b c e f i j k h = absurd cc

-- parts that add the arguments of which a command is picked make it
pub makes : (parts : List Part) (n : Name) (a : Arguments) (c : Command) → adds (Some no_arguments) parts ≡ Some a → picked n a ≡ Some c → Makes parts c × (command_name c ≡ n)
makes parts n a c e h =
    let known = known_if parts a _ _ _ _ _ refl refl refl refl refl (sym (adds-joined (Some (None, None)) (Some None) (Some None) (Some None) (Some false) parts) ∙ e) in
    makes_from parts n a.start a.count a.workers a.rows a.bucket a.recorded c known.pair known.of_workers known.of_rows known.of_bucket known.of_flag h
