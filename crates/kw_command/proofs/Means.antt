-- Words that mean a command are known, each by itself.
use Rattle.std.proofs.Common.{◌≡◌, ℕ, Bool, true, false, ◌&&◌, ◌||◌, Some, List, [], ◌∷◌, codes, refl, sym, ◌∙◌, ap, subst}
use Rattle.std.specs.List.{flat_map, list_all, AllByRecursion}
use Rattle.std.specs.Str.{bytes_eq}
use Rattle.kw_words.specs.declared.sizes.TheConstants.{MOST_ROWS}
use Rattle.kw_command.specs.declared.command.Command.{Command}
use Rattle.kw_command.specs.declared.command.Command.TheVariants as command
use Rattle.kw_command.specs.declared.command.TheConstants.{MOST_WORKERS, DEFAULT_WORKERS, FEWEST_ROWS, DEFAULT_ROWS, SIMULATED_ROWS, MOST_START, MOST_LINES, MOST_BUCKET}
use Rattle.kw_command.specs.Words.{Part, number, workers, rows, bucket, recorded, part_words, numbers, all_workers, all_rows, all_buckets, is_known, number_in, IsOption, IsGiven, AreNumbers, Makes, Means, command_word}
use Rattle.kw_command.proofs.Getters.{number_parts}

abbrev IsKnown : List ℕ → Type 0
IsKnown w = is_known w ≡ true

number_known : (least most n : ℕ) (w : List ℕ) → number_in least most w ≡ Some n → IsKnown w
number_known least most n w e =
    ap (λ (b : Bool). bytes_eq w (codes "replay") || (bytes_eq w (codes "simulate") || (bytes_eq w (codes "judge") || (bytes_eq w (codes "gen") || (bytes_eq w (codes "rollup")
    || (bytes_eq w (codes "--workers") || (bytes_eq w (codes "--rows") || (bytes_eq w (codes "--bucket") || (bytes_eq w (codes "--record") || b))))))))) (number_parts least most n w e).0
    ∙ at (bytes_eq w (codes "replay")) (bytes_eq w (codes "simulate")) (bytes_eq w (codes "judge")) (bytes_eq w (codes "gen")) (bytes_eq w (codes "rollup")) (bytes_eq w (codes "--workers")) (bytes_eq w (codes "--rows")) (bytes_eq w (codes "--bucket")) (bytes_eq w (codes "--record"))
  where
    or_true : (b : Bool) → (b || true) ≡ true
    or_true true = refl
    or_true false = refl

    or_stays : (a b : Bool) → b ≡ true → (a || b) ≡ true
    or_stays true b e = refl
    or_stays false b e = e

    at : (a b j c u d r t f : Bool) → (a || (b || (j || (c || (u || (d || (r || (t || (f || true))))))))) ≡ true
    at a b j c u d r t f = or_stays a _ (or_stays b _ (or_stays j _ (or_stays c _ (or_stays u _ (or_stays d _ (or_stays r _ (or_stays t _ (or_true f))))))))

option_known : (least most default n : ℕ) (ws : List (List ℕ)) → IsOption least most default ws n → AllByRecursion IsKnown ws
option_known least most default n [] h = tt
option_known least most default n (w ∷ []) h = (number_known least most n w h, tt)
option_known least most default n (w ∷ x ∷ ws) h = absurd h

given_known : (least most n : ℕ) (ws : List (List ℕ)) → IsGiven least most ws n → AllByRecursion IsKnown ws
given_known least most n [] h = absurd h
given_known least most n (w ∷ []) h = (number_known least most n w h, tt)
given_known least most n (w ∷ x ∷ ws) h = absurd h

both_known : (s n : ℕ) (ws : List (List ℕ)) → AreNumbers ws s n → AllByRecursion IsKnown ws
both_known s n [] h = absurd h
both_known s n (w ∷ []) h = absurd h
both_known s n (w ∷ x ∷ []) h = (number_known 0 MOST_START s w h.0, (number_known 1 MOST_LINES n x h.1, tt))
both_known s n (w ∷ x ∷ y ∷ ws) h = absurd h

none_known : (ws : List (List ℕ)) → ws ≡ [] → AllByRecursion IsKnown ws
none_known ws e = subst (AllByRecursion IsKnown) (sym e) tt

both : (a b : Bool) → a ≡ true → b ≡ true → (a && b) ≡ true
both a b e f = rw (e, f)

parts_known : (parts : List Part) → AllByRecursion IsKnown (numbers parts) → AllByRecursion IsKnown (all_workers parts) → AllByRecursion IsKnown (all_rows parts) → AllByRecursion IsKnown (all_buckets parts)
    → list_all is_known (flat_map part_words parts) ≡ true
parts_known [] n w r g = refl
parts_known (number x ∷ parts) n w r g = both (is_known x) (list_all is_known (flat_map part_words parts)) n.0 (parts_known parts n.1 w r g)
parts_known (workers x ∷ parts) n w r g = both (is_known x) (list_all is_known (flat_map part_words parts)) w.0 (parts_known parts n w.1 r g)
parts_known (rows x ∷ parts) n w r g = both (is_known x) (list_all is_known (flat_map part_words parts)) r.0 (parts_known parts n w r.1 g)
parts_known (bucket x ∷ parts) n w r g = both (is_known x) (list_all is_known (flat_map part_words parts)) g.0 (parts_known parts n w r g.1)
parts_known (recorded ∷ parts) n w r g = parts_known parts n w r g

makes_known : (parts : List Part) (c : Command) → Makes parts c → list_all is_known (flat_map part_words parts) ≡ true
makes_known parts (command.Replay w r) h =
    parts_known parts (none_known (numbers parts) h.0) (option_known 1 MOST_WORKERS DEFAULT_WORKERS w (all_workers parts) h.1) (option_known FEWEST_ROWS MOST_ROWS DEFAULT_ROWS r (all_rows parts) h.2) (none_known (all_buckets parts) h.3)
makes_known parts command.Judge h = ap (λ (x : List Part). list_all is_known (flat_map part_words x)) h
makes_known parts (command.Simulate r b) h =
    parts_known parts (none_known (numbers parts) h.0) (none_known (all_workers parts) h.1) (option_known FEWEST_ROWS MOST_ROWS SIMULATED_ROWS r (all_rows parts) h.2) (none_known (all_buckets parts) h.3)
makes_known parts (command.Gen s n w r) h =
    parts_known parts (both_known s n (numbers parts) h.0) (option_known 1 MOST_WORKERS DEFAULT_WORKERS w (all_workers parts) h.1) (option_known FEWEST_ROWS MOST_ROWS DEFAULT_ROWS r (all_rows parts) h.2) (none_known (all_buckets parts) h.3)
makes_known parts (command.Rollup g w r) h =
    parts_known parts (none_known (numbers parts) h.0) (option_known 1 MOST_WORKERS DEFAULT_WORKERS w (all_workers parts) h.1) (option_known FEWEST_ROWS MOST_ROWS DEFAULT_ROWS r (all_rows parts) h.2) (given_known 1 MOST_BUCKET g (all_buckets parts) h.3)

word_known : (c : Command) → is_known (command_word c) ≡ true
word_known (command.Replay w r) = refl
word_known (command.Simulate r b) = refl
word_known command.Judge = refl
word_known (command.Gen s n w r) = refl
word_known (command.Rollup g w r) = refl

pub means_known : (ws : List (List ℕ)) (c : Command) → Means ws c → list_all is_known ws ≡ true
means_known ws c m = ap (list_all is_known) m.cut ∙ both (is_known (command_word c)) (list_all is_known (flat_map part_words m.parts)) (word_known c) (makes_known m.parts c m.makes)
