-- What the readers of numbers and of kinds make of a word.
use Rattle.std.proofs.Common.{ℕ, ◌≡◌, ◌≢◌, ◌<◌, ◌≤◌, ◌^◌, leb, ltb, ◌⊎◌, inl, inr, List, [], ◌∷◌, ◌++◌, Bool, true, false, Option, MatchOption, refl, sym, subst, arith}
use Rattle.std.specs.Bool.{then_some}
use Rattle.std.specs.Fmt.{decimal}
use Rattle.std.specs.Str.{IsUtf8}
use Rattle.std.specs.List.{AllByRecursion, list_all}
use Rattle.std.proofs.lemmas.List.Elements.{All-from_recursion}
use Rattle.std.proofs.lemmas.Str.{IsUtf8-from_ascii}
use Rattle.std.proofs.lemmas.Str.Ascii.{IsAscii-from_all}
use Rattle.std.proofs.lemmas.Fmt.{decimal_injective}
use Rattle.std.proofs.lemmas.Bool.{cases_lt, le-leb, lt-leb, lt-ltb, le-ltb, ltb-true, and_parts}
use Rattle.kw_words.specs.declared.kind.Kind.{Kind}
use Rattle.kw_words.specs.declared.kind.Kind.TheVariants.{LoadEpoch, StorePass, ClearPass, LoadCount, AddCount, StoreKey, StoreValue, Announce, LoadClock, Stamp, StoreVersion, ClearPend, LoadPend, LoadKey, LoadValue, LoadVersion, HelpStamp, StoreWaiting, Draw, Settle, ClearScan, LoadHead, LoadLink, LoadLeast, LoadState, Engage, FreezeCount, FreezePend, LoadScan, HelpDraw, HelpSettle, TakeRow, StoreInfant, Replace, Normalise, GiveBack, Number, StoreRetired, LoadPass, Reclaim, MarkLink, LoadNextCount, Decide, EngageNext, LoadAfter, StoreAfter, Insert, StorePin, LoadPin, ClearPin}
use Rattle.kw_words.specs.Kind.{name_of}
use Rattle.kw_sim.specs.declared.command.Command.{Command}
use Rattle.kw_sim.specs.declared.command.Command.TheVariants as command
use Rattle.kw_sim.specs.declared.parse.Verb.{Verb}
use Rattle.kw_sim.specs.declared.parse.Verb.TheVariants as verb
use Rattle.kw_sim.specs.Script.{verb_of, seat_of, rest_words, HasRange}

-- no other number has this text
same_number : (n k : ℕ) (words left after : List (List ℕ)) → n < 2 ^ 32 → k < 2 ^ 32 → words ≡ decimal k ∷ after → words ≡ decimal n ∷ left → n ≡ k
same_number n k words left after h g e f = let same : decimal n ≡ decimal k = cc in decimal_injective n k (omega arith) (omega arith) same

-- what is to be shown of a number that is wanted between two others
abbrev pub Between : ℕ → ℕ → List (List ℕ) → List (List ℕ) → Option ℕ → Type 0
Between least most old new o = MatchOption o ((n : ℕ) (left : List (List ℕ)) → least ≤ n → n ≤ most → old ≢ decimal n ∷ left) (λ n. (least ≤ n) × (n ≤ most) × (old ≡ decimal n ∷ new))

pub between : (least most k : ℕ) (old after : List (List ℕ)) (b : Bool) → most < 2 ^ 32 → k < 2 ^ 32 → old ≡ decimal k ∷ after → ((least ≤ k) × (b ≡ leb k most)) ⊎ ((k < least) × (b ≡ false)) → Between least most old after (then_some b k)
between least most k old after b m h e (inl s) = elim (cases_lt most k) as (λ _. Between least most old after (then_some b k)) [
  | inl above ↦ rw (s.1, lt-leb k most above) (λ n left lo hi f. absurd (omega (arith, same_number n k old left after (omega arith) h e f, hi, above)))
  | inr within ↦ rw (s.1, le-leb k most within) (s.0, within, e)
]
between least most k old after b m h e (inr s) = rw s.1 (λ n left lo hi f. absurd (omega (arith, same_number n k old left after (omega arith) h e f, lo, s.0)))

-- the name of a kind is ASCII, and so it is text
name_is_ascii : (k : Kind) → list_all (λ b. ltb b 128) (name_of k) ≡ true
name_is_ascii LoadEpoch = refl
name_is_ascii StorePass = refl
name_is_ascii ClearPass = refl
name_is_ascii LoadCount = refl
name_is_ascii AddCount = refl
name_is_ascii StoreKey = refl
name_is_ascii StoreValue = refl
name_is_ascii Announce = refl
name_is_ascii LoadClock = refl
name_is_ascii Stamp = refl
name_is_ascii StoreVersion = refl
name_is_ascii ClearPend = refl
name_is_ascii LoadPend = refl
name_is_ascii LoadKey = refl
name_is_ascii LoadValue = refl
name_is_ascii LoadVersion = refl
name_is_ascii HelpStamp = refl
name_is_ascii StoreWaiting = refl
name_is_ascii Draw = refl
name_is_ascii Settle = refl
name_is_ascii ClearScan = refl
name_is_ascii LoadHead = refl
name_is_ascii LoadLink = refl
name_is_ascii LoadLeast = refl
name_is_ascii LoadState = refl
name_is_ascii Engage = refl
name_is_ascii FreezeCount = refl
name_is_ascii FreezePend = refl
name_is_ascii LoadScan = refl
name_is_ascii HelpDraw = refl
name_is_ascii HelpSettle = refl
name_is_ascii TakeRow = refl
name_is_ascii StoreInfant = refl
name_is_ascii Replace = refl
name_is_ascii Normalise = refl
name_is_ascii GiveBack = refl
name_is_ascii Number = refl
name_is_ascii StoreRetired = refl
name_is_ascii LoadPass = refl
name_is_ascii Reclaim = refl
name_is_ascii MarkLink = refl
name_is_ascii LoadNextCount = refl
name_is_ascii Decide = refl
name_is_ascii EngageNext = refl
name_is_ascii LoadAfter = refl
name_is_ascii StoreAfter = refl
name_is_ascii Insert = refl
name_is_ascii StorePin = refl
name_is_ascii LoadPin = refl
name_is_ascii ClearPin = refl

ascii_in : (bytes : List ℕ) → list_all (λ b. ltb b 128) bytes ≡ true → AllByRecursion (λ b. b < 128) bytes
ascii_in [] e = tt
ascii_in (b ∷ bs) e = let h = and_parts (ltb b 128) (list_all (λ c. ltb c 128) bs) e in (ltb-true b 128 h.0, ascii_in bs h.1)

pub name_is_text : (k : Kind) → IsUtf8 (name_of k)
name_is_text k = IsUtf8-from_ascii (name_of k) (IsAscii-from_all (name_of k) (All-from_recursion (λ b. b < 128) (name_of k) (ascii_in (name_of k) (name_is_ascii k))))

-- a word that is no text is the name of no kind
pub no_name : (old rest : List (List ℕ)) (word : List ℕ) → old ≡ word ∷ rest → ¬ (IsUtf8 word) → (k : Kind) (left : List (List ℕ)) → old ≢ name_of k ∷ left
no_name old rest word e not_text k left f = let same : name_of k ≡ word = cc in not_text (subst IsUtf8 same (name_is_text k))

-- what is to be shown of words that are read as what stands after the seat
abbrev pub ReadsRest : ℕ → Verb → ℕ → List (List ℕ) → List (List ℕ) → Option Command → Type 0
ReadsRest rows v s old new o = MatchOption o ((c : Command) (left : List (List ℕ)) → verb_of c ≡ v → HasRange rows c → old ≢ rest_words c ++ left) (λ c. (verb_of c ≡ v) × (seat_of c ≡ s) × HasRange rows c × (old ≡ rest_words c ++ new))

-- puts whose value is missing
pub no_value : (rows n k : ℕ) (v : Verb) (old second third : List (List ℕ)) → v ≡ verb.Puts → old ≡ decimal n ∷ second → second ≡ decimal k ∷ third → ((w : ℕ) (left : List (List ℕ)) → w < 2 ^ 63 → third ≢ decimal w ∷ left) → (c : Command) (left : List (List ℕ)) → verb_of c ≡ v → HasRange rows c → old ≢ rest_words c ++ left
no_value rows n k v old second third is e g o (command.Puts s m j w) left same h f = let last : third ≡ decimal w ∷ left = cc in o w left h.1.1 last
no_value rows n k v old second third is e g o (command.Call s c) left same h f = cc
no_value rows n k v old second third is e g o (command.Go s m) left same h f = cc
no_value rows n k v old second third is e g o (command.Until s m) left same h f = cc
no_value rows n k v old second third is e g o (command.Guess s m) left same h f = cc
no_value rows n k v old second third is e g o (command.Stop s) left same h f = cc

-- a guess at a row
pub guess_read : (rows k s : ℕ) (v : Verb) (old after : List (List ℕ)) → rows < 2 ^ 32 → k < 2 ^ 32 → v ≡ verb.Guess → old ≡ decimal k ∷ after → ReadsRest rows v s old after (then_some (ltb k rows) (command.Guess s k))
guess_read rows k s v old after r h is e = elim (cases_lt k rows) as (λ _. ReadsRest rows v s old after (then_some (ltb k rows) (command.Guess s k))) [
  | inl below ↦ rw (lt-ltb k rows below) (sym is, refl, below, e)
  | inr above ↦ rw (le-ltb k rows above) (no_row above)
]
  where
    no_row : rows ≤ k → (c : Command) (left : List (List ℕ)) → verb_of c ≡ v → HasRange rows c → old ≢ rest_words c ++ left
    no_row above (command.Guess t q) left same g f = absurd (omega (arith, same_number q k old left after (omega arith) h e f, g, above))
    no_row above (command.Call t c) left same g f = cc
    no_row above (command.Puts t n j w) left same g f = cc
    no_row above (command.Go t n) left same g f = cc
    no_row above (command.Until t n) left same g f = cc
    no_row above (command.Stop t) left same g f = cc
