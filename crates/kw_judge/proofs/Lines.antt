-- The words of a record's lines, and lines that are none.
use Rattle.std.proofs.Common.{ℕ, ◌≡◌, ◌≢◌, ◌≤◌, ◌<◌, ◌^◌, List, [], ◌∷◌, ◌++◌, Option, Bool, true, false, MatchOption, codes, map, refl, sym, ap, subst, ◌∙◌, arith, ◌⊎◌, inl, inr, ◌↔◌, leb}
use Rattle.std.specs.Fmt.{decimal}
use Rattle.std.specs.Bool.{then_some}
use Rattle.std.proofs.lemmas.Bool.{cases_lt, le-leb, lt-leb, false≢true}
use Rattle.std.proofs.lemmas.List.{append-nil}
use Rattle.std.proofs.lemmas.Fmt.{decimal_injective}
use Rattle.kw_model.specs.declared.call.Call.{Call}
use Rattle.kw_model.specs.declared.call.Call.TheVariants as call
use Rattle.kw_line.specs.Line.{arguments}
use Rattle.kw_judge.specs.declared.parse.CallVerb.{CallVerb}
use Rattle.kw_judge.specs.declared.parse.CallVerb.TheVariants as call_verb
use Rattle.kw_judge.specs.declared.record.Name.{Name}
use Rattle.kw_judge.specs.declared.record.OpenCall.{OpenCall}
use Rattle.kw_judge.specs.declared.record.TheConstants.{MOST_POSITION}
use Rattle.kw_judge.specs.declared.written.Head.{Head}
use Rattle.kw_judge.specs.Record.{IsName, IsRecordCall, IsOpen, IsUpdate}
use Rattle.kw_judge.specs.Written.{IsHead, head_words, open_words}
use Rattle.kw_judge.specs.Texts.{name_text, call_words, call_verb_of, call_verb_word}
use Rattle.kw_judge.proofs.Calls.{call_left, call_word_injective}

-- what is to be shown of words that are read as what stands before the colon
abbrev pub ReadsHead : List (List ℕ) → Option Head → Type 0
ReadsHead ws o = MatchOption o ((h : Head) → IsHead h → ws ≢ head_words h) (λ h. IsHead h × (ws ≡ head_words h))

-- and as an open call
abbrev pub ReadsOpen : List (List ℕ) → Option OpenCall → Type 0
ReadsOpen ws o = MatchOption o ((c : OpenCall) → IsOpen c → ws ≢ open_words c) (λ c. IsOpen c × (ws ≡ open_words c))

-- Before the colon.

pub no_start : (ws : List (List ℕ)) → ((n : Name) (f : ℕ) (left : List (List ℕ)) → IsName n → f ≤ MOST_POSITION → ws ≢ codes "done" ∷ (name_text n ∷ (decimal f ∷ left))) → (h : Head) → IsHead h → ws ≢ head_words h
no_start ws none h is e = none h.name h.first (decimal h.last ∷ call_words h.call) is.name (omega (arith, is.rising, is.last)) e

pub no_last : (ws left : List (List ℕ)) (n : Name) (f : ℕ) → ws ≡ codes "done" ∷ (name_text n ∷ (decimal f ∷ left)) → ((v : ℕ) (rest : List (List ℕ)) → v < 2 ^ 63 → left ≢ decimal v ∷ rest) → (h : Head) → IsHead h → ws ≢ head_words h
no_last ws left n f e none h is g =
    let same : left ≡ decimal h.last ∷ call_words h.call = cc in
    none h.last (call_words h.call) (omega (arith, is.last)) same

pub no_head_call : (ws left more : List (List ℕ)) (n : Name) (f l : ℕ) → ws ≡ codes "done" ∷ (name_text n ∷ (decimal f ∷ left)) → left ≡ decimal l ∷ more → ((c : Call) (rest : List (List ℕ)) → IsRecordCall c → more ≢ call_words c ++ rest) → (h : Head) → IsHead h → ws ≢ head_words h
no_head_call ws left more n f l e d none h is g =
    let same : left ≡ decimal h.last ∷ call_words h.call = cc in
    let rest : more ≡ call_words h.call = cc in
    none h.call [] is.call (rest ∙ sym (append-nil (call_words h.call)))

pub head_read : (ws left more after : List (List ℕ)) (n : Name) (f l : ℕ) (c : Call) (b e : Bool) → ws ≡ codes "done" ∷ (name_text n ∷ (decimal f ∷ left)) → left ≡ decimal l ∷ more → more ≡ call_words c ++ after → IsName n → f ≤ MOST_POSITION → l ≤ MOST_POSITION → IsRecordCall c → (e ≡ true) ↔ (after ≡ []) → ((e ≡ true) × (b ≡ leb f l)) ⊎ ((e ≡ false) × (b ≡ false)) → ReadsHead ws (then_some b (record { name = n; first = f; last = l; call = c }))
head_read ws left more after n f l c b e g d k name small last fits h (inr s) = rw s.1 (λ o is q.
    let same : left ≡ decimal o.last ∷ call_words o.call = cc in
    let rest : more ≡ call_words o.call = cc in
    false≢true (sym s.0 ∙ h.1 (call_left c o.call after (sym k ∙ rest))))
head_read ws left more after n f l c b e g d k name small last fits h (inl s) = elim (cases_lt l f) as (λ _. ReadsHead ws (then_some b (record { name = n; first = f; last = l; call = c }))) [
  | inl falls ↦ rw (s.1, lt-leb f l falls) (λ o is q.
      let same : left ≡ decimal o.last ∷ call_words o.call = cc in
      let one : decimal l ≡ decimal o.last = cc in
      let two : decimal f ≡ decimal o.first = cc in
      absurd (omega (arith, is.rising, is.last, falls, decimal_injective l o.last (omega arith) (omega (arith, is.last)) one, decimal_injective f o.first (omega arith) (omega (arith, is.rising, is.last)) two)))
  | inr rises ↦ rw (s.1, le-leb f l rises)
      (let none = h.0 s.0 in
      let whole : more ≡ call_words c = k ∙ (rw none (append-nil (call_words c))) in
      (record { name = name; rising = rises; last = last; call = fits }, g ∙ ap (λ t. codes "done" ∷ (name_text n ∷ (decimal f ∷ t))) (d ∙ ap (λ t. decimal l ∷ t) whole)))
]

-- Open calls.

pub no_open_start : (ws : List (List ℕ)) → ((n : Name) (f : ℕ) (left : List (List ℕ)) → IsName n → f ≤ MOST_POSITION → ws ≢ codes "open" ∷ (name_text n ∷ (decimal f ∷ left))) → (c : OpenCall) → IsOpen c → ws ≢ open_words c
no_open_start ws none c is e = none c.name c.first (call_words c.call) is.name (omega (arith, is.first)) e

pub no_open_call : (ws left : List (List ℕ)) (n : Name) (f : ℕ) → ws ≡ codes "open" ∷ (name_text n ∷ (decimal f ∷ left)) → ((c : Call) (rest : List (List ℕ)) → IsRecordCall c → left ≢ call_words c ++ rest) → (c : OpenCall) → IsOpen c → ws ≢ open_words c
no_open_call ws left n f e none c is g =
    let rest : left ≡ call_words c.call = cc in
    none c.call [] is.call (rest ∙ sym (append-nil (call_words c.call)))

-- the call with this word is an update
abbrev IsUpdateVerb : CallVerb → Type 0
IsUpdateVerb call_verb.Put = Unit {0}
IsUpdateVerb call_verb.Del = Unit {0}
IsUpdateVerb call_verb.Get = ⊥
IsUpdateVerb call_verb.Scan = ⊥
IsUpdateVerb call_verb.Pin = ⊥
IsUpdateVerb call_verb.ScanAt = ⊥
IsUpdateVerb call_verb.Unpin = ⊥

to_verb : (c : Call) → IsUpdate c → IsUpdateVerb (call_verb_of c)
to_verb (call.Put k v) u = u
to_verb (call.Del k) u = u
to_verb (call.Get k) u = u
to_verb (call.Scan a b) u = u
to_verb call.Pin u = u
to_verb (call.ScanAt a b) u = u
to_verb call.Unpin u = u

from_verb : (c : Call) → IsUpdateVerb (call_verb_of c) → IsUpdate c
from_verb (call.Put k v) u = u
from_verb (call.Del k) u = u
from_verb (call.Get k) u = u
from_verb (call.Scan a b) u = u
from_verb call.Pin u = u
from_verb (call.ScanAt a b) u = u
from_verb call.Unpin u = u

-- a call that is an update has another word than one that is none
update_word : (c d : Call) → call_words c ≡ call_words d → IsUpdate d → IsUpdate c
update_word c d e u =
    let x : call_verb_word (call_verb_of c) ∷ map decimal (arguments c) ≡ call_verb_word (call_verb_of d) ∷ map decimal (arguments d) = e in
    let word : call_verb_word (call_verb_of c) ≡ call_verb_word (call_verb_of d) = cc in
    from_verb c (subst IsUpdateVerb (sym (call_word_injective (call_verb_of c) (call_verb_of d) word)) (to_verb d u))

pub open_read : (ws left after : List (List ℕ)) (n : Name) (f : ℕ) (c : Call) (b e u : Bool) → ws ≡ codes "open" ∷ (name_text n ∷ (decimal f ∷ left)) → left ≡ call_words c ++ after → IsName n → f ≤ MOST_POSITION → IsRecordCall c → (e ≡ true) ↔ (after ≡ []) → (u ≡ true) ↔ IsUpdate c → ((e ≡ true) × (b ≡ u)) ⊎ ((e ≡ false) × (b ≡ false)) → ReadsOpen ws (then_some b (record { name = n; first = f; call = c }))
open_read ws left after n f c b e u g k name small fits h update (inr s) = rw s.1 (λ o is q.
    let rest : left ≡ call_words o.call = cc in
    false≢true (sym s.0 ∙ h.1 (call_left c o.call after (sym k ∙ rest))))
open_read ws left after n f c b e true g k name small fits h update (inl s) = rw s.1
    (let none = h.0 s.0 in
    let whole : left ≡ call_words c = k ∙ (rw none (append-nil (call_words c))) in
    (record { name = name; first = omega arith; update = update.0 refl; call = fits }, g ∙ ap (λ t. codes "open" ∷ (name_text n ∷ (decimal f ∷ t))) whole))
open_read ws left after n f c b e false g k name small fits h update (inl s) = rw s.1 (λ o is q.
    let none = h.0 s.0 in
    let whole : left ≡ call_words c = k ∙ (rw none (append-nil (call_words c))) in
    let rest : left ≡ call_words o.call = cc in
    false≢true (update.1 (update_word c o.call (sym whole ∙ rest) is.update)))

-- a position is missing
pub no_position : (ws after more : List (List ℕ)) (word one two : List ℕ) → ws ≡ one ∷ after → after ≡ two ∷ more → ((v : ℕ) (rest : List (List ℕ)) → v < 2 ^ 63 → more ≢ decimal v ∷ rest) → (n : Name) (f : ℕ) (left : List (List ℕ)) → IsName n → f ≤ MOST_POSITION → ws ≢ word ∷ (name_text n ∷ (decimal f ∷ left))
no_position ws after more word one two a b none n f left is small e =
    let same : more ≡ decimal f ∷ left = cc in
    none f left (omega arith) same
