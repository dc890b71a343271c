-- Which command words mean, as a function of them: it gives just the command that the definition
-- gives, and so words mean one command at most.
use Rattle.std.proofs.Common.{◌≡◌, ℕ, Bool, true, false, cond, Option, Some, None, List, [], ◌∷◌, codes, drop, refl, sym, ◌∙◌, ap, subst}
use Rattle.std.specs.Prelude.{MatchOption}
use Rattle.std.specs.List.{flat_map, AllByRecursion}
use Rattle.std.specs.Str.{bytes_eq}
use Rattle.std.proofs.lemmas.Slice.Eq.{bytes_eq-Decides}
use Rattle.kw_command.specs.declared.command.Command.{Command}
use Rattle.kw_command.specs.declared.command.Command.TheVariants as command
use Rattle.kw_command.specs.declared.command.Name.{Name}
use Rattle.kw_command.specs.declared.command.Name.TheVariants as name
use Rattle.kw_command.specs.declared.command.TheConstants.{MOST_START, MOST_LINES}
use Rattle.kw_command.specs.declared.words.Arguments.{Arguments}
use Rattle.kw_command.specs.Words.{Part, number, workers, rows, bucket, recorded, part_words, numbers, number_in, AreNumbers, Makes, Means, command_word}
use Rattle.kw_command.specs.Reading.{with_number, then_with, reads, no_arguments, first_name, name_of, picked}
use Rattle.kw_command.proofs.Meaning.{adds, cut_of, then_flag, alone_flag, alone_number}
use Rattle.kw_command.proofs.Options.{picks, makes, command_name}

-- ---- a number is no option's name, and not the flag

abbrev pub IsPlain : List ℕ → Type 0
IsPlain w = (bytes_eq w (codes "--workers") ≡ false) × (bytes_eq w (codes "--rows") ≡ false) × (bytes_eq w (codes "--bucket") ≡ false) × (bytes_eq w (codes "--record") ≡ false)

no_name : (least most n : ℕ) (w : List ℕ) → number_in least most w ≡ Some n → IsPlain w
no_name least most n w h = (
  at (codes "--workers") refl (bytes_eq w (codes "--workers")) refl,
  at (codes "--rows") refl (bytes_eq w (codes "--rows")) refl,
  at (codes "--bucket") refl (bytes_eq w (codes "--bucket")) refl,
  at (codes "--record") refl (bytes_eq w (codes "--record")) refl,
)
  where
    at : (other : List ℕ) → number_in least most other ≡ None → (b : Bool) → bytes_eq w other ≡ b → b ≡ false
    at other e false f = refl
    at other e true f =
        let same : w ≡ other = (bytes_eq-Decides w other).0 f in
        let bad : Some n ≡ None = sym h ∙ (ap (number_in least most) same ∙ e) in
        absurd cc

are_plain : (ws : List (List ℕ)) (s n : ℕ) → AreNumbers ws s n → AllByRecursion IsPlain ws
are_plain [] s n h = absurd h
are_plain (w ∷ []) s n h = absurd h
are_plain (w ∷ x ∷ []) s n h = (no_name 0 MOST_START s w h.0, (no_name 1 MOST_LINES n x h.1, tt))
are_plain (w ∷ x ∷ y ∷ ws) s n h = absurd h

none_plain : (ws : List (List ℕ)) → ws ≡ [] → AllByRecursion IsPlain ws
none_plain ws e = subst (AllByRecursion IsPlain) (sym e) tt

numbers_plain : (parts : List Part) (c : Command) → Makes parts c → AllByRecursion IsPlain (numbers parts)
numbers_plain parts (command.Replay w r) h = none_plain (numbers parts) h.0
numbers_plain parts (command.Simulate r b) h = none_plain (numbers parts) h.0
numbers_plain parts command.Judge h = none_plain (numbers parts) (ap numbers h)
numbers_plain parts (command.Gen s n w r) h = are_plain (numbers parts) s n h.0
numbers_plain parts (command.Rollup g w r) h = none_plain (numbers parts) h.0

-- ---- the words of parts are read as these parts

pub reads-number : (o : Option Arguments) (w : List ℕ) (ws : List (List ℕ)) → IsPlain w → reads o (w ∷ ws) ≡ reads (then_with with_number o w) ws
reads-number o w [] h = alone_number o w h.3
reads-number o w (x ∷ ws) h = rw (h.0, h.1, h.2) (ap (λ (s : Option Arguments). reads s (x ∷ ws)) (alone_number o w h.3))

pub reads-flag : (o : Option Arguments) (ws : List (List ℕ)) → reads o (codes "--record" ∷ ws) ≡ reads (then_flag o) ws
reads-flag o [] = alone_flag o (codes "--record") refl
reads-flag o (x ∷ ws) = ap (λ (s : Option Arguments). reads s (x ∷ ws)) (alone_flag o (codes "--record") refl)

reads-parts : (o : Option Arguments) (parts : List Part) → AllByRecursion IsPlain (numbers parts) → reads o (flat_map part_words parts) ≡ adds o parts
reads-parts o [] h = refl
reads-parts o (number w ∷ parts) h = reads-number o w (flat_map part_words parts) h.0 ∙ reads-parts (then_with with_number o w) parts h.1
reads-parts o (workers w ∷ parts) h = reads-parts _ parts h
reads-parts o (rows w ∷ parts) h = reads-parts _ parts h
reads-parts o (bucket w ∷ parts) h = reads-parts _ parts h
reads-parts o (recorded ∷ parts) h = reads-flag o (flat_map part_words parts) ∙ reads-parts (then_flag o) parts h

-- ---- the command of words

abbrev chosen : Option Name → Option Arguments → Option Command
chosen None a = None
chosen (Some n) None = None
chosen (Some n) (Some a) = picked n a

abbrev pub meaning : List (List ℕ) → Option Command
meaning [] = None
meaning (w ∷ ws) = chosen (name_of w) (reads (Some no_arguments) ws)

name_of-command_word : (c : Command) → name_of (command_word c) ≡ Some (command_name c)
name_of-command_word (command.Replay w r) = refl
name_of-command_word (command.Simulate r b) = refl
name_of-command_word command.Judge = refl
name_of-command_word (command.Gen s n w r) = refl
name_of-command_word (command.Rollup g w r) = refl

meaning_if : (ws : List (List ℕ)) (c : Command) → Means ws c → meaning ws ≡ Some c
meaning_if ws c m =
    let p = picks m.parts c m.makes in
    ap meaning m.cut
    ∙ (ap (λ (n : Option Name). chosen n (reads (Some no_arguments) (flat_map part_words m.parts))) (name_of-command_word c)
    ∙ (ap (chosen (Some (command_name c))) (reads-parts (Some no_arguments) m.parts (numbers_plain m.parts c m.makes) ∙ p.adds_are) ∙ p.picked_is))

-- the word of a name
abbrev name_word : Name → List ℕ
name_word name.Replay = codes "replay"
name_word name.Simulate = codes "simulate"
name_word name.Judge = codes "judge"
name_word name.Gen = codes "gen"
name_word name.Rollup = codes "rollup"

name_word-command_name : (c : Command) → name_word (command_name c) ≡ command_word c
name_word-command_name (command.Replay w r) = refl
name_word-command_name (command.Simulate r b) = refl
name_word-command_name command.Judge = refl
name_word-command_name (command.Gen s n w r) = refl
name_word-command_name (command.Rollup g w r) = refl

-- a word that names a command is its own word
word_of_name : (w : List ℕ) (c : Command) → name_of w ≡ Some (command_name c) → w ≡ command_word c
word_of_name w c e = at (bytes_eq w (codes "replay")) refl (bytes_eq w (codes "simulate")) refl (bytes_eq w (codes "judge")) refl (bytes_eq w (codes "gen")) refl (bytes_eq w (codes "rollup")) refl e ∙ name_word-command_name c
  where
    is : (n : Name) → w ≡ name_word n → Some n ≡ Some (command_name c) → w ≡ name_word (command_name c)
    is n f e = let same : n ≡ command_name c = cc in f ∙ ap name_word same

    at : (p : Bool) → bytes_eq w (codes "replay") ≡ p → (q : Bool) → bytes_eq w (codes "simulate") ≡ q → (j : Bool) → bytes_eq w (codes "judge") ≡ j → (r : Bool) → bytes_eq w (codes "gen") ≡ r → (u : Bool) → bytes_eq w (codes "rollup") ≡ u
        → cond p (Some name.Replay) (cond q (Some name.Simulate) (cond j (Some name.Judge) (cond r (Some name.Gen) (cond u (Some name.Rollup) None)))) ≡ Some (command_name c) → w ≡ name_word (command_name c)
    at true f q g j k r h u i e = is name.Replay ((bytes_eq-Decides w (codes "replay")).0 f) e
    at false f true g j k r h u i e = is name.Simulate ((bytes_eq-Decides w (codes "simulate")).0 g) e
    at false f false g true k r h u i e = is name.Judge ((bytes_eq-Decides w (codes "judge")).0 k) e
    at false f false g false k true h u i e = is name.Gen ((bytes_eq-Decides w (codes "gen")).0 h) e
    at false f false g false k false h true i e = is name.Rollup ((bytes_eq-Decides w (codes "rollup")).0 i) e
    at false f false g false k false h false i e = absurd cc

means_if : (w : List ℕ) (ws : List (List ℕ)) (n : Name) (a : Arguments) (c : Command) → name_of w ≡ Some n → reads (Some no_arguments) ws ≡ Some a → picked n a ≡ Some c → Means (w ∷ ws) c
means_if w ws n a c e f h =
    let cut = cut_of (Some no_arguments) ws in
    let made = makes cut.parts n a c (cut.adds_are ∙ f) h in
    let word : w ≡ command_word c = word_of_name w c (e ∙ ap (λ (x : Name). Some x) (sym made.1)) in
    record {
      parts = cut.parts;
      cut = ap (λ (x : List ℕ). x ∷ ws) word ∙ ap (λ (x : List (List ℕ)). command_word c ∷ x) cut.cut;
      makes = made.0;
    }

-- words whose first one names no command, or whose other ones are no arguments, mean nothing
pub no_meaning : (w : List ℕ) (ws : List (List ℕ)) → reads (Some no_arguments) ws ≡ None → meaning (w ∷ ws) ≡ None
no_meaning w ws e = at (name_of w)
  where
    at : (n : Option Name) → chosen n (reads (Some no_arguments) ws) ≡ None
    at None = refl
    at (Some n) = ap (chosen (Some n)) e

pub picked_meaning : (w : List ℕ) (ws : List (List ℕ)) (n : Name) (a : Arguments) → name_of w ≡ Some n → reads (Some no_arguments) ws ≡ Some a → meaning (w ∷ ws) ≡ picked n a
picked_meaning w ws n a e f = ap (λ (m : Option Name). chosen m (reads (Some no_arguments) ws)) e ∙ ap (chosen (Some n)) f

-- what is told of words by their meaning
pub told : (ws : List (List ℕ)) (r : Option Command) → meaning ws ≡ r → MatchOption r ((c : Command) → Means ws c → ⊥) (Means ws)
told ws None e = λ c m. let bad : None ≡ Some c = sym e ∙ meaning_if ws c m in cc
told [] (Some c) e = absurd cc
told (w ∷ ws) (Some c) e = at (name_of w) refl (reads (Some no_arguments) ws) refl e
  where
    at : (n : Option Name) → name_of w ≡ n → (a : Option Arguments) → reads (Some no_arguments) ws ≡ a → chosen n a ≡ Some c → Means (w ∷ ws) c
    at None f a g h = absurd cc
    at (Some n) f None g h = absurd cc
    at (Some n) f (Some a) g h = means_if w ws n a c f g h

-- words mean one command at most
pub same_command : (ws : List (List ℕ)) (c d : Command) → Means ws c → Means ws d → c ≡ d
same_command ws c d h k =
    let both : Some c ≡ Some d = sym (meaning_if ws c h) ∙ meaning_if ws d k in
    cc

-- what holds of the command of words holds of each command that they mean
pub at_command : (P : Command → Type 0) (ws : List (List ℕ)) (c d : Command) → Means ws c → Means ws d → P c → P d
at_command P ws c d e f h = subst P (same_command ws c d e f) h

-- ---- the meaning by the first word and the rest

pub meaning_by : (ws : List (List ℕ)) (n : Name) (a : Arguments) → first_name ws ≡ Some n → reads (Some no_arguments) (drop 1 ws) ≡ Some a → meaning ws ≡ picked n a
meaning_by [] n a e f = absurd cc
meaning_by (w ∷ ws) n a e f = picked_meaning w ws n a e f

pub no_meaning_by : (ws : List (List ℕ)) → reads (Some no_arguments) (drop 1 ws) ≡ None → meaning ws ≡ None
no_meaning_by [] f = refl
no_meaning_by (w ∷ ws) f = no_meaning w ws f

pub no_name_meaning : (ws : List (List ℕ)) → first_name ws ≡ None → meaning ws ≡ None
no_name_meaning [] f = refl
no_name_meaning (w ∷ ws) f = ap (λ (n : Option Name). chosen n (reads (Some no_arguments) ws)) f
