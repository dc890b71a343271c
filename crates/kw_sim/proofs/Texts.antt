-- The words of a command's text, and which lines are texts.
use Rattle.std.proofs.Common.{ℕ, ◌≡◌, ◌≢◌, ◌<◌, ◌≤◌, ◌+◌, ◌^◌, List, [], ◌∷◌, ◌++◌, Option, Some, None, Bool, true, false, not, cond, eqb, MatchOption, ◌↔◌, codes, refl, sym, ap, ◌∙◌, arith}
use Rattle.std.specs.Fmt.{decimal}
use Rattle.std.specs.Bool.{then_some}
use Rattle.std.specs.Str.{bytes_eq}
use Rattle.std.specs.List.{join_with_byte, AllByRecursion, list_all}
use Rattle.std.proofs.lemmas.List.{append-nil}
use Rattle.std.proofs.lemmas.Bool.{false≢true}
use Rattle.kw_words.specs.declared.kind.Kind.{Kind}
use Rattle.kw_words.specs.declared.kind.Kind.TheVariants.{LoadEpoch, StorePass, ClearPass, LoadCount, AddCount, StoreKey, StoreValue, Announce, LoadClock, Stamp, StoreVersion, ClearPend, LoadPend, LoadKey, LoadValue, LoadVersion, HelpStamp, StoreWaiting, Draw, Settle, ClearScan, LoadHead, LoadLink, LoadLeast, LoadState, Engage, FreezeCount, FreezePend, LoadScan, HelpDraw, HelpSettle, TakeRow, StoreInfant, Replace, Normalise, GiveBack, Number, StoreRetired, LoadPass, Reclaim, MarkLink, LoadNextCount, Decide, EngageNext, LoadAfter, StoreAfter, Insert, StorePin, LoadPin, ClearPin}
use Rattle.kw_words.specs.declared.sizes.TheConstants.{SEATS}
use Rattle.kw_words.specs.Kind.{name_of}
use Rattle.kw_line.specs.declared.words.TheConstants.{SPACE}
use Rattle.kw_line.specs.Cut.{words}
use Rattle.kw_line.proofs.Parts.{HasNo}
use Rattle.kw_line.proofs.Texts.{no_space_decimal, words_join, join_words}
use Rattle.kw_judge.proofs.Marks.{no_mark}
use Rattle.kw_judge.proofs.Calls.{space_is_mark, no_mark_call, call_left, record_call_from_fits}
use Rattle.kw_sim.specs.declared.command.Command.{Command}
use Rattle.kw_sim.specs.declared.command.Command.TheVariants as command
use Rattle.kw_sim.specs.declared.parse.Verb.{Verb}
use Rattle.kw_sim.specs.declared.parse.Verb.TheVariants as verb
use Rattle.kw_sim.specs.Script.{verb_of, verb_word, seat_of, rest_words, command_words, command_text, HasRange, IsCommand, IsText}

-- No space stands in a word of a command.

no_space_verb : (v : Verb) → HasNo SPACE (verb_word v)
no_space_verb verb.Call = no_mark SPACE (verb_word verb.Call) refl
no_space_verb verb.Puts = no_mark SPACE (verb_word verb.Puts) refl
no_space_verb verb.Go = no_mark SPACE (verb_word verb.Go) refl
no_space_verb verb.Until = no_mark SPACE (verb_word verb.Until) refl
no_space_verb verb.Guess = no_mark SPACE (verb_word verb.Guess) refl
no_space_verb verb.Stop = no_mark SPACE (verb_word verb.Stop) refl

no_space_kind : (k : Kind) → list_all (λ b. not (eqb b SPACE)) (name_of k) ≡ true
no_space_kind LoadEpoch = refl
no_space_kind StorePass = refl
no_space_kind ClearPass = refl
no_space_kind LoadCount = refl
no_space_kind AddCount = refl
no_space_kind StoreKey = refl
no_space_kind StoreValue = refl
no_space_kind Announce = refl
no_space_kind LoadClock = refl
no_space_kind Stamp = refl
no_space_kind StoreVersion = refl
no_space_kind ClearPend = refl
no_space_kind LoadPend = refl
no_space_kind LoadKey = refl
no_space_kind LoadValue = refl
no_space_kind LoadVersion = refl
no_space_kind HelpStamp = refl
no_space_kind StoreWaiting = refl
no_space_kind Draw = refl
no_space_kind Settle = refl
no_space_kind ClearScan = refl
no_space_kind LoadHead = refl
no_space_kind LoadLink = refl
no_space_kind LoadLeast = refl
no_space_kind LoadState = refl
no_space_kind Engage = refl
no_space_kind FreezeCount = refl
no_space_kind FreezePend = refl
no_space_kind LoadScan = refl
no_space_kind HelpDraw = refl
no_space_kind HelpSettle = refl
no_space_kind TakeRow = refl
no_space_kind StoreInfant = refl
no_space_kind Replace = refl
no_space_kind Normalise = refl
no_space_kind GiveBack = refl
no_space_kind Number = refl
no_space_kind StoreRetired = refl
no_space_kind LoadPass = refl
no_space_kind Reclaim = refl
no_space_kind MarkLink = refl
no_space_kind LoadNextCount = refl
no_space_kind Decide = refl
no_space_kind EngageNext = refl
no_space_kind LoadAfter = refl
no_space_kind StoreAfter = refl
no_space_kind Insert = refl
no_space_kind StorePin = refl
no_space_kind LoadPin = refl
no_space_kind ClearPin = refl

no_space_rest : (rows : ℕ) (c : Command) → rows < 2 ^ 32 → HasRange rows c → AllByRecursion (HasNo SPACE) (rest_words c)
no_space_rest rows (command.Call s c) r h = no_mark_call SPACE c space_is_mark (record_call_from_fits c h)
no_space_rest rows (command.Puts s n k v) r h = (no_space_decimal n (omega (arith, h.0.1)), (no_space_decimal k (omega (arith, h.1.0)), (no_space_decimal v (omega (arith, h.1.1)), tt)))
no_space_rest rows (command.Go s n) r h = (no_space_decimal n (omega (arith, h.1)), tt)
no_space_rest rows (command.Until s k) r h = (no_mark SPACE (name_of k) (no_space_kind k), tt)
no_space_rest rows (command.Guess s q) r h = (no_space_decimal q (omega (arith, h, r)), tt)
no_space_rest rows (command.Stop s) r h = tt

-- the text of a command has the command's words
pub words-command_text : (rows : ℕ) (c : Command) → rows < 2 ^ 32 → IsCommand rows c → words (command_text c) ≡ command_words c
unfolding command_text
words-command_text rows c r h = words_join (verb_word (verb_of c)) (decimal (seat_of c) ∷ rest_words c) (no_space_verb (verb_of c), (no_space_decimal (seat_of c) (omega (arith, h.0)), no_space_rest rows c r h.1))

-- and only that line has them
text_from_words : (line : List ℕ) (c : Command) → words line ≡ command_words c → line ≡ command_text c
unfolding command_text
text_from_words line c e = sym (join_words line) ∙ ap (join_with_byte SPACE) e

-- Verbs are told apart by their words.

abbrev verb_named : List ℕ → Option Verb
verb_named w = cond (bytes_eq w (codes "call")) (Some verb.Call) (cond (bytes_eq w (codes "puts")) (Some verb.Puts) (cond (bytes_eq w (codes "go")) (Some verb.Go) (cond (bytes_eq w (codes "until")) (Some verb.Until) (cond (bytes_eq w (codes "guess")) (Some verb.Guess) (cond (bytes_eq w (codes "stop")) (Some verb.Stop) None)))))

verb_named-word : (v : Verb) → verb_named (verb_word v) ≡ Some v
verb_named-word verb.Call = refl
verb_named-word verb.Puts = refl
verb_named-word verb.Go = refl
verb_named-word verb.Until = refl
verb_named-word verb.Guess = refl
verb_named-word verb.Stop = refl

pub verb_word_injective : (u v : Verb) → verb_word u ≡ verb_word v → u ≡ v
verb_word_injective u v e = let s : Some u ≡ Some v = sym (verb_named-word u) ∙ (ap verb_named e ∙ verb_named-word v) in cc

-- Lines.

-- what is to be shown of a line that is read
abbrev pub Reads : ℕ → List ℕ → Option Command → Type 0
Reads rows line o = MatchOption o (IsText rows line → ⊥) (λ c. IsCommand rows c × (line ≡ command_text c))

text_words : (rows : ℕ) (line : List ℕ) (c : Command) → rows < 2 ^ 32 → IsCommand rows c → line ≡ command_text c → words line ≡ command_words c
text_words rows line c r h e = ap words e ∙ words-command_text rows c r h

-- no words
pub none_is_text : (rows : ℕ) (line : List ℕ) → rows < 2 ^ 32 → words line ≡ [] → IsText rows line → ⊥
none_is_text rows line r e (c, h, t) = let x : words line ≡ verb_word (verb_of c) ∷ (decimal (seat_of c) ∷ rest_words c) = text_words rows line c r h t in cc

-- a word that is no verb
pub other_verb : (rows : ℕ) (line word : List ℕ) (rest : List (List ℕ)) → rows < 2 ^ 32 → words line ≡ word ∷ rest → ((v : Verb) → word ≢ verb_word v) → IsText rows line → ⊥
other_verb rows line word rest r e o (c, h, t) =
    let x : words line ≡ verb_word (verb_of c) ∷ (decimal (seat_of c) ∷ rest_words c) = text_words rows line c r h t in
    let same : word ≡ verb_word (verb_of c) = cc in
    o (verb_of c) same

-- a word that is no seat
pub other_seat : (rows most : ℕ) (line word : List ℕ) (rest : List (List ℕ)) → rows < 2 ^ 32 → most + 1 ≡ SEATS → words line ≡ word ∷ rest → ((n : ℕ) (left : List (List ℕ)) → 0 ≤ n → n ≤ most → rest ≢ decimal n ∷ left) → IsText rows line → ⊥
other_seat rows most line word rest r m e o (c, h, t) =
    let x : words line ≡ verb_word (verb_of c) ∷ (decimal (seat_of c) ∷ rest_words c) = text_words rows line c r h t in
    let same : rest ≡ decimal (seat_of c) ∷ rest_words c = cc in
    o (seat_of c) (rest_words c) (omega arith) (omega (arith, h.0, m)) same

-- what is after the seat is nothing that the verb has
pub other_rest : (rows : ℕ) (line word : List ℕ) (v : Verb) (s : ℕ) (rest after : List (List ℕ)) → rows < 2 ^ 32 → words line ≡ word ∷ rest → word ≡ verb_word v → rest ≡ decimal s ∷ after → ((c : Command) (left : List (List ℕ)) → verb_of c ≡ v → HasRange rows c → after ≢ rest_words c ++ left) → IsText rows line → ⊥
other_rest rows line word v s rest after r e w n o (c, h, t) =
    let x : words line ≡ verb_word (verb_of c) ∷ (decimal (seat_of c) ∷ rest_words c) = text_words rows line c r h t in
    let first : verb_word (verb_of c) ≡ verb_word v = cc in
    let others : after ≡ rest_words c = cc in
    o c [] (verb_word_injective (verb_of c) v first) h.1 (others ∙ sym (append-nil (rest_words c)))

-- commands of one verb whose words after the seat are the same have as many
nothing_left : (c d : Command) (left : List (List ℕ)) → verb_of d ≡ verb_of c → rest_words c ++ left ≡ rest_words d → left ≡ []
nothing_left (command.Call s c) (command.Call t d) left same g = call_left c d left g
nothing_left (command.Puts s n k v) (command.Puts t m j u) left same g = cc
nothing_left (command.Go s n) (command.Go t m) left same g = cc
nothing_left (command.Until s k) (command.Until t j) left same g = cc
nothing_left (command.Guess s q) (command.Guess t r) left same g = cc
nothing_left (command.Stop s) (command.Stop t) left same g = g
nothing_left _ _ left same g = absurd (cc)

-- a command is read, and no word is left, or one is
pub command_is_read : (rows most : ℕ) (line word : List ℕ) (v : Verb) (s : ℕ) (c : Command) (rest after left : List (List ℕ)) (b : Bool) → rows < 2 ^ 32 → most + 1 ≡ SEATS → s ≤ most → words line ≡ word ∷ rest → word ≡ verb_word v → rest ≡ decimal s ∷ after
    → verb_of c ≡ v → seat_of c ≡ s → HasRange rows c → after ≡ rest_words c ++ left → (b ≡ true) ↔ (left ≡ []) → Reads rows line (then_some b c)
command_is_read rows most line word v s c rest after left true r m within e w n is seat range f h =
    let none = h.0 refl in
    let last : after ≡ rest_words c = f ∙ (rw none (append-nil (rest_words c))) in
    let all : words line ≡ verb_word (verb_of c) ∷ (decimal (seat_of c) ∷ rest_words c) = e ∙ (ap (λ q. q ∷ rest) (w ∙ ap verb_word (sym is)) ∙ ap (λ q. verb_word (verb_of c) ∷ q) (n ∙ (ap (λ q. decimal q ∷ after) (sym seat) ∙ ap (λ q. decimal (seat_of c) ∷ q) last))) in
    ((omega (arith, seat, m, within), range), text_from_words line c all)
command_is_read rows most line word v s c rest after left false r m within e w n is seat range f h = λ t.
    longer t
  where
    longer : IsText rows line → ⊥
    longer (d, k, t) =
        let x : words line ≡ verb_word (verb_of d) ∷ (decimal (seat_of d) ∷ rest_words d) = text_words rows line d r k t in
        let first : verb_word (verb_of d) ≡ verb_word v = cc in
        let others : after ≡ rest_words d = cc in
        let same : verb_of d ≡ verb_of c = verb_word_injective (verb_of d) v first ∙ sym is in
        false≢true (h.1 (nothing_left c d left same (sym f ∙ others)))
