-- A script has commands or a first bad line, and one first bad line at most; and it has one list of
-- commands at most.
use Rattle.std.proofs.Common.{◌≡◌, ℕ, Bool, true, false, suc, ◌+◌, ◌≤◌, ◌<◌, ◌^◌, inl, inr, List, [], ◌∷◌, ◌++◌, map, length, decimal, refl, sym, ◌∙◌, ap, subst, arith}
use Rattle.std.proofs.lemmas.Fmt.{decimal_injective}
use Rattle.std.specs.List.{AllByRecursion}
use Rattle.kw_model.specs.declared.call.Call.{Call}
use Rattle.kw_model.specs.declared.call.Call.TheVariants as call
use Rattle.kw_words.specs.Kind.{name_of}
use Rattle.kw_words.proofs.KindNames.{name_of-same}
use Rattle.kw_line.specs.Cut.{words}
use Rattle.kw_line.specs.Line.{FitsCall, arguments}
use Rattle.kw_judge.specs.Texts.{call_verb_of, call_verb_word, call_words}
use Rattle.kw_judge.proofs.Calls.{call_word_injective}
use Rattle.kw_sim.specs.declared.command.Command.{Command}
use Rattle.kw_sim.specs.declared.command.Command.TheVariants as command
use Rattle.kw_sim.specs.Meaning.{script_state}
use Rattle.kw_sim.specs.Recorded.{IsRecordOf, IsTooLong, IsTooMany}
use Rattle.kw_app.specs.Simulating.{IsOutsideScript, IsSimulated}
use Rattle.kw_sim.proofs.Texts.{words-command_text, verb_word_injective}
use Rattle.kw_sim.specs.declared.parse.TheConstants.{MOST_LINES}
use Rattle.kw_sim.specs.Script.{HasRange, IsCommand, IsText, AreLinesOf, IsFirstBadCommand, command_text, command_words, rest_words, seat_of, verb_of, verb_word}

-- lines that are texts reach a line that is none, or is one too many, only at the most that a
-- script may have
bad_at : (rows most : ℕ) (cs before : List Command) (line : List ℕ) (after : List (List ℕ)) → AllByRecursion (IsCommand rows) cs → map command_text cs ≡ map command_text before ++ line ∷ after
    → (n : ℕ) → (IsText rows line → n + length before ≡ most) → (most < n + length cs)
bad_at rows most [] [] line after h e n b = cc
bad_at rows most [] (d ∷ ds) line after h e n b = cc
bad_at rows most (c ∷ cs) [] line after h e n b =
    let first : line ≡ command_text c = cc in
    let at : n + length {A = Command} [] ≡ most = b (c, h.0, first) in
    omega arith
bad_at rows most (c ∷ cs) (d ∷ ds) line after h e n b =
    let others : map command_text cs ≡ map command_text ds ++ line ∷ after = cc in
    let r : most < suc n + length cs = bad_at rows most cs ds line after h.1 others (suc n) (λ t. let at : n + length (d ∷ ds) ≡ most = b t in omega arith) in
    omega arith

-- no bytes have both commands and a bad line
pub commands_or_bad : (rows : ℕ) (bytes : List ℕ) (cs : List Command) (at : ℕ) → AreLinesOf rows bytes cs → IsFirstBadCommand rows bytes at → ⊥
commands_or_bad rows bytes cs at h k =
    let long : MOST_LINES < 0 + length cs = bad_at rows MOST_LINES cs k.before k.line k.after h.each (sym h.texts ∙ k.cut) 0 (λ t. let e : length k.before ≡ MOST_LINES = k.bad t in omega arith) in
    let few : length cs ≤ MOST_LINES = h.few in
    omega arith

-- two lists of lines that are texts, each before a line that is none or is one too many, are
-- equally long
same_place : (rows most : ℕ) (cs ds : List Command) (x y : List ℕ) (xs ys : List (List ℕ)) → AllByRecursion (IsCommand rows) cs → AllByRecursion (IsCommand rows) ds
    → map command_text cs ++ x ∷ xs ≡ map command_text ds ++ y ∷ ys → (n : ℕ) → n + length cs ≤ most → n + length ds ≤ most → (IsText rows x → n + length cs ≡ most) → (IsText rows y → n + length ds ≡ most)
    → length cs ≡ length ds
same_place rows most [] [] x y xs ys h k e n l m b d = refl
same_place rows most [] (j ∷ js) x y xs ys h k e n l m b d =
    let first : x ≡ command_text j = cc in
    let at : n + length {A = Command} [] ≡ most = b (j, k.0, first) in
    absurd (omega arith)
same_place rows most (i ∷ is) [] x y xs ys h k e n l m b d =
    let first : y ≡ command_text i = cc in
    let at : n + length {A = Command} [] ≡ most = d (i, h.0, first) in
    absurd (omega arith)
same_place rows most (i ∷ is) (j ∷ js) x y xs ys h k e n l m b d =
    let others : map command_text is ++ x ∷ xs ≡ map command_text js ++ y ∷ ys = cc in
    ap suc (same_place rows most is js x y xs ys h.1 k.1 others (suc n) (omega arith) (omega arith)
    (λ t. let at : n + length (i ∷ is) ≡ most = b t in omega arith) (λ t. let at : n + length (j ∷ js) ≡ most = d t in omega arith))

-- there is one first bad line at most
pub same_bad_line : (rows : ℕ) (bytes : List ℕ) (m n : ℕ) → IsFirstBadCommand rows bytes m → IsFirstBadCommand rows bytes n → m ≡ n
same_bad_line rows bytes m n h k =
    let place : length h.before ≡ length k.before = same_place rows MOST_LINES h.before k.before h.line k.line h.after k.after h.each k.each (sym h.cut ∙ k.cut) 0
    (let few : length h.before ≤ MOST_LINES = h.few in omega arith) (let few : length k.before ≤ MOST_LINES = k.few in omega arith)
    (λ t. let e : length h.before ≡ MOST_LINES = h.bad t in omega arith) (λ t. let e : length k.before ≡ MOST_LINES = k.bad t in omega arith) in
    omega (arith, place, h.number_is, k.number_is)

-- ---- one list of commands

-- calls of one verb with the same numbers are one
same_call : (c d : Call) → call_verb_of c ≡ call_verb_of d → FitsCall c → FitsCall d → map decimal (arguments c) ≡ map decimal (arguments d) → c ≡ d
same_call (call.Put k v) (call.Put m w) s h g e =
    let i : decimal k ≡ decimal m = cc in
    let j : decimal v ≡ decimal w = cc in
    let x = decimal_injective k m (omega (arith, h.0)) (omega (arith, g.0)) i in
    let y = decimal_injective v w (omega (arith, h.1)) (omega (arith, g.1)) j in
    cc
same_call (call.Del k) (call.Del m) s h g e =
    let i : decimal k ≡ decimal m = cc in
    let x = decimal_injective k m (omega (arith, h)) (omega (arith, g)) i in
    cc
same_call (call.Get k) (call.Get m) s h g e =
    let i : decimal k ≡ decimal m = cc in
    let x = decimal_injective k m (omega (arith, h)) (omega (arith, g)) i in
    cc
same_call (call.Scan a b) (call.Scan m w) s h g e =
    let i : decimal a ≡ decimal m = cc in
    let j : decimal b ≡ decimal w = cc in
    let x = decimal_injective a m (omega (arith, h.0)) (omega (arith, g.0)) i in
    let y = decimal_injective b w (omega (arith, h.1)) (omega (arith, g.1)) j in
    cc
same_call call.Pin d s h g e = absurd h
same_call (call.ScanAt a b) d s h g e = absurd h
same_call call.Unpin d s h g e = absurd h
same_call _ _ s h g e = absurd cc

same_call_words : (c d : Call) → FitsCall c → FitsCall d → call_words c ≡ call_words d → c ≡ d
same_call_words c d h k e =
    let first : call_verb_word (call_verb_of c) ≡ call_verb_word (call_verb_of d) = cc in
    let others : map decimal (arguments c) ≡ map decimal (arguments d) = cc in
    same_call c d (call_word_injective (call_verb_of c) (call_verb_of d) first) h k others

-- commands of one verb for one seat with the same words after it are one
same_rest : (rows : ℕ) (c d : Command) → rows < 2 ^ 32 → verb_of c ≡ verb_of d → seat_of c ≡ seat_of d → HasRange rows c → HasRange rows d → rest_words c ≡ rest_words d → c ≡ d
same_rest rows (command.Call s c) (command.Call t d) r v seat h k e = let same = same_call_words c d h k e in cc
same_rest rows (command.Puts s n k v) (command.Puts t m j w) r verb seat h g e =
    let a : decimal n ≡ decimal m = cc in
    let b : decimal k ≡ decimal j = cc in
    let c : decimal v ≡ decimal w = cc in
    let x = decimal_injective n m (omega (arith, h.0.1)) (omega (arith, g.0.1)) a in
    let y = decimal_injective k j (omega (arith, h.1.0)) (omega (arith, g.1.0)) b in
    let z = decimal_injective v w (omega (arith, h.1.1)) (omega (arith, g.1.1)) c in
    cc
same_rest rows (command.Go s n) (command.Go t m) r v seat h g e =
    let a : decimal n ≡ decimal m = cc in
    let x = decimal_injective n m (omega (arith, h.1)) (omega (arith, g.1)) a in
    cc
same_rest rows (command.Until s i) (command.Until t j) r v seat h g e =
    let a : name_of i ≡ name_of j = cc in
    let x = name_of-same i j a in
    cc
same_rest rows (command.Guess s i) (command.Guess t j) r v seat h g e =
    let a : decimal i ≡ decimal j = cc in
    let x = decimal_injective i j (omega (arith, h, r)) (omega (arith, g, r)) a in
    cc
same_rest rows (command.Stop s) (command.Stop t) r v seat h g e = cc
same_rest rows _ _ r v seat h g e = absurd cc

same_command : (rows : ℕ) (c d : Command) → rows < 2 ^ 32 → IsCommand rows c → IsCommand rows d → command_text c ≡ command_text d → c ≡ d
same_command rows c d r h k e =
    let all : command_words c ≡ command_words d = sym (words-command_text rows c r h) ∙ (ap words e ∙ words-command_text rows d r k) in
    let first : verb_word (verb_of c) ≡ verb_word (verb_of d) = cc in
    let second : decimal (seat_of c) ≡ decimal (seat_of d) = cc in
    let others : rest_words c ≡ rest_words d = cc in
    same_rest rows c d r (verb_word_injective (verb_of c) (verb_of d) first) (decimal_injective (seat_of c) (seat_of d) (omega (arith, h.0)) (omega (arith, k.0)) second) h.1 k.1 others

same_texts : (rows : ℕ) (cs ds : List Command) → rows < 2 ^ 32 → AllByRecursion (IsCommand rows) cs → AllByRecursion (IsCommand rows) ds → map command_text cs ≡ map command_text ds → cs ≡ ds
same_texts rows [] [] r h k e = refl
same_texts rows [] (d ∷ ds) r h k e = absurd cc
same_texts rows (c ∷ cs) [] r h k e = absurd cc
same_texts rows (c ∷ cs) (d ∷ ds) r h k e =
    let first : command_text c ≡ command_text d = cc in
    let others : map command_text cs ≡ map command_text ds = cc in
    let same = same_command rows c d r h.0 k.0 first in
    let more = same_texts rows cs ds r h.1 k.1 others in
    cc

-- no script has both a record and too many calls for one
pub fits_or_too_long : (rows : ℕ) (script printed : List ℕ) → rows < 2 ^ 32 → IsRecordOf rows script printed → IsTooLong rows script → ⊥
fits_or_too_long rows script printed r fits long =
    let same : long.commands ≡ fits.commands = same_texts rows long.commands fits.commands r long.lines.each fits.lines.each (sym long.lines.texts ∙ fits.lines.texts) in
    let many = subst (λ (cs : List Command). IsTooMany (script_state rows cs).trace) same long.many in
    let few = fits.output.few in
    omega (arith, many, few)

-- the first bad line of a script, or line 0, is one line
pub same_outside : (recorded : Bool) (rows : ℕ) (script : List ℕ) (m n : ℕ) → IsOutsideScript recorded rows script m → IsOutsideScript recorded rows script n → m ≡ n
same_outside false rows script m n h k = same_bad_line rows script m n h k
same_outside true rows script m n (inl h) (inl k) = same_bad_line rows script m n h k
same_outside true rows script m n (inl h) (inr k) = absurd (commands_or_bad rows script k.1.commands m k.1.lines h)
same_outside true rows script m n (inr h) (inl k) = absurd (commands_or_bad rows script h.1.commands n h.1.lines k)
same_outside true rows script m n (inr h) (inr k) = h.0 ∙ sym k.0

-- no script has both a text and a bad line
pub simulated_or_bad : (recorded : Bool) (rows : ℕ) (script printed : List ℕ) (at : ℕ) → rows < 2 ^ 32 → IsSimulated recorded rows script printed → IsOutsideScript recorded rows script at → ⊥
simulated_or_bad false rows script printed at r good bad = commands_or_bad rows script good.commands at good.lines bad
simulated_or_bad true rows script printed at r good (inl bad) = commands_or_bad rows script good.commands at good.lines bad
simulated_or_bad true rows script printed at r good (inr long) = fits_or_too_long rows script printed r good long.1
