-- The words of a call.
use Rattle.std.proofs.Common.{ℕ, ◌≡◌, ◌≢◌, ◌<◌, ◌≤◌, ◌^◌, ◌⊎◌, inl, inr, List, [], ◌∷◌, ◌++◌, map, Option, Some, None, Bool, true, false, not, MatchOption, cond, length, codes, refl, sym, ap, ◌∙◌, arith}
use Rattle.std.specs.Bool.{then_some}
use Rattle.std.proofs.lemmas.Bool.{false≢true}
use Rattle.std.specs.Fmt.{decimal}
use Rattle.std.specs.Str.{bytes_eq}
use Rattle.std.specs.List.{AllByRecursion}
use Rattle.std.proofs.lemmas.List.{length-append, length-map, nil_from_length}
use Rattle.kw_model.specs.declared.call.Call.{Call}
use Rattle.kw_model.specs.declared.call.Call.TheVariants as call
use Rattle.kw_line.specs.Line.{arguments, FitsCall}
use Rattle.kw_model.specs.LegalFor.{is_of_snapshots}
use Rattle.kw_judge.specs.Record.{IsRecordCall}
use Rattle.kw_line.proofs.Parts.{HasNo}
use Rattle.kw_judge.specs.declared.parse.CallVerb.{CallVerb}
use Rattle.kw_judge.specs.declared.parse.CallVerb.TheVariants as call_verb
use Rattle.kw_judge.specs.Texts.{call_verb_of, call_verb_word, call_words}
use Rattle.kw_judge.proofs.Marks.{no_mark, no_mark_decimal}

-- no mark other than a digit or a letter stands in a word of a call
pub record IsMark (mark : ℕ) : Type 0 where
  pub no_digit : 48 ≤ mark → mark < 58 → ⊥
  pub no_letter : (v : CallVerb) → HasNo mark (call_verb_word v)

-- a call of a line is one that a record may have
pub record_call_from_fits : (c : Call) → FitsCall c → IsRecordCall c
record_call_from_fits (call.Put k v) h = h
record_call_from_fits (call.Del k) h = h
record_call_from_fits (call.Get k) h = h
record_call_from_fits (call.Scan a b) h = h
record_call_from_fits call.Pin h = absurd h
record_call_from_fits (call.ScanAt a b) h = absurd h
record_call_from_fits call.Unpin h = absurd h

-- and so is one that a record may have, unless it is of snapshots
pub fits_from_record_call : (c : Call) → is_of_snapshots c ≡ false → IsRecordCall c → FitsCall c
fits_from_record_call (call.Put k v) n h = h
fits_from_record_call (call.Del k) n h = h
fits_from_record_call (call.Get k) n h = h
fits_from_record_call (call.Scan a b) n h = h
fits_from_record_call call.Pin n h = cc
fits_from_record_call (call.ScanAt a b) n h = cc
fits_from_record_call call.Unpin n h = cc

-- no call of a line is of snapshots
pub no_snapshots : (c : Call) → FitsCall c → is_of_snapshots c ≡ false
no_snapshots (call.Put k v) h = refl
no_snapshots (call.Del k) h = refl
no_snapshots (call.Get k) h = refl
no_snapshots (call.Scan a b) h = refl
no_snapshots call.Pin h = absurd h
no_snapshots (call.ScanAt a b) h = absurd h
no_snapshots call.Unpin h = absurd h

no_mark_numbers : (mark : ℕ) (c : Call) → (48 ≤ mark → mark < 58 → ⊥) → IsRecordCall c → AllByRecursion (HasNo mark) (map decimal (arguments c))
no_mark_numbers mark (call.Put k v) o h = (no_mark_decimal mark k o (omega (arith, h.0)), (no_mark_decimal mark v o (omega (arith, h.1)), tt))
no_mark_numbers mark (call.Del k) o h = (no_mark_decimal mark k o (omega (arith, h)), tt)
no_mark_numbers mark (call.Get k) o h = (no_mark_decimal mark k o (omega (arith, h)), tt)
no_mark_numbers mark (call.Scan a b) o h = (no_mark_decimal mark a o (omega (arith, h.0)), (no_mark_decimal mark b o (omega (arith, h.1)), tt))
no_mark_numbers mark call.Pin o h = tt
no_mark_numbers mark (call.ScanAt a b) o h = (no_mark_decimal mark a o (omega (arith, h.0)), (no_mark_decimal mark b o (omega (arith, h.1)), tt))
no_mark_numbers mark call.Unpin o h = tt

pub no_mark_call : (mark : ℕ) (c : Call) → IsMark mark → IsRecordCall c → AllByRecursion (HasNo mark) (call_words c)
no_mark_call mark c m h = (m.no_letter (call_verb_of c), no_mark_numbers mark c m.no_digit h)

no_space_verb : (v : CallVerb) → HasNo 32 (call_verb_word v)
no_space_verb call_verb.Put = no_mark 32 (call_verb_word call_verb.Put) refl
no_space_verb call_verb.Del = no_mark 32 (call_verb_word call_verb.Del) refl
no_space_verb call_verb.Get = no_mark 32 (call_verb_word call_verb.Get) refl
no_space_verb call_verb.Scan = no_mark 32 (call_verb_word call_verb.Scan) refl
no_space_verb call_verb.Pin = no_mark 32 (call_verb_word call_verb.Pin) refl
no_space_verb call_verb.ScanAt = no_mark 32 (call_verb_word call_verb.ScanAt) refl
no_space_verb call_verb.Unpin = no_mark 32 (call_verb_word call_verb.Unpin) refl

no_colon_verb : (v : CallVerb) → HasNo 58 (call_verb_word v)
no_colon_verb call_verb.Put = no_mark 58 (call_verb_word call_verb.Put) refl
no_colon_verb call_verb.Del = no_mark 58 (call_verb_word call_verb.Del) refl
no_colon_verb call_verb.Get = no_mark 58 (call_verb_word call_verb.Get) refl
no_colon_verb call_verb.Scan = no_mark 58 (call_verb_word call_verb.Scan) refl
no_colon_verb call_verb.Pin = no_mark 58 (call_verb_word call_verb.Pin) refl
no_colon_verb call_verb.ScanAt = no_mark 58 (call_verb_word call_verb.ScanAt) refl
no_colon_verb call_verb.Unpin = no_mark 58 (call_verb_word call_verb.Unpin) refl

pub space_is_mark : IsMark 32
space_is_mark = record { no_digit = λ a b. omega arith; no_letter = no_space_verb }

pub colon_is_mark : IsMark 58
colon_is_mark = record { no_digit = λ a b. omega arith; no_letter = no_colon_verb }

-- Calls are told apart by their words.

abbrev call_named : List ℕ → Option CallVerb
call_named w = cond (bytes_eq w (codes "put")) (Some call_verb.Put) (cond (bytes_eq w (codes "del")) (Some call_verb.Del) (cond (bytes_eq w (codes "get")) (Some call_verb.Get) (cond (bytes_eq w (codes "scan")) (Some call_verb.Scan) (cond (bytes_eq w (codes "pin")) (Some call_verb.Pin) (cond (bytes_eq w (codes "scan_at")) (Some call_verb.ScanAt) (cond (bytes_eq w (codes "unpin")) (Some call_verb.Unpin) None))))))

call_named-word : (v : CallVerb) → call_named (call_verb_word v) ≡ Some v
call_named-word call_verb.Put = refl
call_named-word call_verb.Del = refl
call_named-word call_verb.Get = refl
call_named-word call_verb.Scan = refl
call_named-word call_verb.Pin = refl
call_named-word call_verb.ScanAt = refl
call_named-word call_verb.Unpin = refl

-- no two verbs have one word
pub call_word_injective : (u v : CallVerb) → call_verb_word u ≡ call_verb_word v → u ≡ v
call_word_injective u v e = let s : Some u ≡ Some v = sym (call_named-word u) ∙ (ap call_named e ∙ call_named-word v) in cc

-- how many numbers a call has
abbrev count_of : CallVerb → ℕ
count_of call_verb.Put = 2
count_of call_verb.Del = 1
count_of call_verb.Get = 1
count_of call_verb.Scan = 2
count_of call_verb.Pin = 0
count_of call_verb.ScanAt = 2
count_of call_verb.Unpin = 0

length-arguments : (c : Call) → length (arguments c) ≡ count_of (call_verb_of c)
length-arguments (call.Put k v) = refl
length-arguments (call.Del k) = refl
length-arguments (call.Get k) = refl
length-arguments (call.Scan a b) = refl
length-arguments call.Pin = refl
length-arguments (call.ScanAt a b) = refl
length-arguments call.Unpin = refl

-- calls that begin with the same words have as many
pub call_left : (c d : Call) (left : List (List ℕ)) → call_words c ++ left ≡ call_words d → left ≡ []
call_left c d left g =
    let x : call_verb_word (call_verb_of c) ∷ (map decimal (arguments c) ++ left) ≡ call_verb_word (call_verb_of d) ∷ map decimal (arguments d) = g in
    let first : call_verb_word (call_verb_of c) ≡ call_verb_word (call_verb_of d) = cc in
    let others : map decimal (arguments c) ++ left ≡ map decimal (arguments d) = cc in
    let same = ap count_of (call_word_injective (call_verb_of c) (call_verb_of d) first) in
    nil_from_length left (omega (arith, simp (length-append, length-map) at (ap length others), length-arguments c, length-arguments d, same))

-- whether a call with this word is of snapshots
abbrev verb_of_snapshots : CallVerb → Bool
verb_of_snapshots call_verb.Put = false
verb_of_snapshots call_verb.Del = false
verb_of_snapshots call_verb.Get = false
verb_of_snapshots call_verb.Scan = false
verb_of_snapshots call_verb.Pin = true
verb_of_snapshots call_verb.ScanAt = true
verb_of_snapshots call_verb.Unpin = true

of_verb : (c : Call) → is_of_snapshots c ≡ verb_of_snapshots (call_verb_of c)
of_verb (call.Put k v) = refl
of_verb (call.Del k) = refl
of_verb (call.Get k) = refl
of_verb (call.Scan a b) = refl
of_verb call.Pin = refl
of_verb (call.ScanAt a b) = refl
of_verb call.Unpin = refl

-- calls whose words begin alike are both of snapshots, or none is
pub alike_of_snapshots : (c d : Call) (left more : List (List ℕ)) → call_words c ++ left ≡ call_words d ++ more → is_of_snapshots c ≡ is_of_snapshots d
alike_of_snapshots c d left more g =
    let x : call_verb_word (call_verb_of c) ∷ (map decimal (arguments c) ++ left) ≡ call_verb_word (call_verb_of d) ∷ (map decimal (arguments d) ++ more) = g in
    let first : call_verb_word (call_verb_of c) ≡ call_verb_word (call_verb_of d) = cc in
    of_verb c ∙ ap verb_of_snapshots (call_word_injective (call_verb_of c) (call_verb_of d) first) ∙ sym (of_verb d)

-- what is read of a call of a record, where one of snapshots is not to be read
pub plain_read : (ws after : List (List ℕ)) (c : Call) (b : Bool) → IsRecordCall c → ws ≡ call_words c ++ after → b ≡ is_of_snapshots c → MatchOption (then_some (not b) c) ((d : Call) (left : List (List ℕ)) → FitsCall d → ws ≢ call_words d ++ left) (λ d. FitsCall d × (ws ≡ call_words d ++ after))
plain_read ws after c true fits e is = λ d left f g. false≢true (sym (no_snapshots d f) ∙ (sym (alike_of_snapshots c d after left (sym e ∙ g)) ∙ sym is))
plain_read ws after c false fits e is = (fits_from_record_call c (sym is) fits, e)

-- a range whose second number is missing or is no key
pub no_second_key : (from : ℕ) (ws after : List (List ℕ)) → ws ≡ decimal from ∷ after → ((k : ℕ) (more : List (List ℕ)) → k < 2 ^ 32 → after ≢ decimal k ∷ more) → (d : Call) (left : List (List ℕ)) → (call_verb_of d ≡ call_verb.Scan) ⊎ (call_verb_of d ≡ call_verb.ScanAt) → IsRecordCall d → ws ≢ map decimal (arguments d) ++ left
no_second_key from ws after e none (call.Scan a b) left v h g = let same : after ≡ decimal b ∷ left = cc in none b left h.1 same
no_second_key from ws after e none (call.ScanAt a b) left v h g = let same : after ≡ decimal b ∷ left = cc in none b left h.1 same
no_second_key from ws after e none (call.Put k v) left (inl u) h g = cc
no_second_key from ws after e none (call.Put k v) left (inr u) h g = cc
no_second_key from ws after e none (call.Del k) left (inl u) h g = cc
no_second_key from ws after e none (call.Del k) left (inr u) h g = cc
no_second_key from ws after e none (call.Get k) left (inl u) h g = cc
no_second_key from ws after e none (call.Get k) left (inr u) h g = cc
no_second_key from ws after e none call.Pin left (inl u) h g = cc
no_second_key from ws after e none call.Pin left (inr u) h g = cc
no_second_key from ws after e none call.Unpin left (inl u) h g = cc
no_second_key from ws after e none call.Unpin left (inr u) h g = cc
