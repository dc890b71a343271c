-- Bytes are the text of one record at most.
use Rattle.std.proofs.Common.{ℕ, ◌≡◌, ◌≢◌, ◌<◌, ◌≤◌, ◌^◌, Option, Some, None, Result, IfOk, MatchOption, cond, List, [], ◌∷◌, ◌++◌, map, codes, get_or, length, refl, sym, ap, ◌∙◌, arith, append_assoc}
use Rattle.std.specs.Fmt.{decimal}
use Rattle.std.specs.Option.{ok_or}
use Rattle.std.specs.Str.{bytes_eq}
use Rattle.std.specs.List.{AllByRecursion, join_with_byte}
use Rattle.std.proofs.lemmas.Fmt.{decimal_injective}
use Rattle.std.proofs.lemmas.List.{append-nil}
use Rattle.kw_line.specs.declared.words.TheConstants.{SPACE}
use Rattle.kw_line.specs.declared.print.TheConstants.{EQUALS}
use Rattle.kw_line.specs.Answered.{pair_text, pairs_text}
use Rattle.kw_line.specs.Cut.{words, lines}
use Rattle.kw_line.specs.Line.{arguments}
use Rattle.kw_line.proofs.Parts.{HasNo, words_one, words_cut}
use Rattle.kw_model.specs.declared.call.Call.{Call}
use Rattle.kw_model.specs.declared.call.Call.TheVariants as call
use Rattle.kw_model.specs.declared.call.Reply.{Reply}
use Rattle.kw_model.specs.declared.call.Reply.TheVariants as reply
use Rattle.kw_judge.specs.declared.parse.CallVerb.{CallVerb}
use Rattle.kw_judge.specs.declared.parse.CallVerb.TheVariants as call_verb
use Rattle.kw_judge.specs.declared.print.TheConstants.{COLON, DOT}
use Rattle.kw_judge.specs.declared.written.Plain.{Plain}
use Rattle.kw_judge.specs.declared.written.Plain.TheVariants as plain
use Rattle.kw_judge.specs.declared.record.Name.{Name}
use Rattle.kw_judge.specs.declared.record.DoneCall.{DoneCall}
use Rattle.kw_judge.specs.declared.record.OpenCall.{OpenCall}
use Rattle.kw_line.specs.declared.error.LineError.{LineError}
use Rattle.kw_judge.specs.Record.{RecordView, IsRecord, IsRecordText, IsRecordCall, IsName, IsPair, FitsReply, IsDone, IsOpen, IsBadAfter, IsFirstBad, record_lines}
use Rattle.kw_judge.specs.Written.{plain_text, plain_reply, head_words}
use Rattle.kw_judge.specs.Texts.{call_verb_of, call_verb_word, call_words, reply_text, name_text, done_head, done_text, open_text, order_text}
use Rattle.kw_judge.proofs.Marks.{no_mark, no_mark_decimal}
use Rattle.kw_judge.proofs.Calls.{call_word_injective}
use Rattle.kw_judge.proofs.Readers.{one_cut, no_cut}
use Rattle.kw_judge.proofs.LineTexts.{no_mark_two, no_mark_join, words-pairs, words-order, words-head, words-open, head_of, no_names, no_colon_in_head}
use Rattle.kw_judge.proofs.Prefixes.{name_injective, open_not_order, not_done}

-- Calls.

-- the call of a verb and numbers
abbrev made : CallVerb → List ℕ → Option Call
made call_verb.Put (k ∷ v ∷ []) = Some (call.Put k v)
made call_verb.Del (k ∷ []) = Some (call.Del k)
made call_verb.Get (k ∷ []) = Some (call.Get k)
made call_verb.Scan (a ∷ b ∷ []) = Some (call.Scan a b)
made call_verb.Pin [] = Some call.Pin
made call_verb.ScanAt (a ∷ b ∷ []) = Some (call.ScanAt a b)
made call_verb.Unpin [] = Some call.Unpin
made _ _ = None

made-call : (c : Call) → made (call_verb_of c) (arguments c) ≡ Some c
made-call (call.Put k v) = refl
made-call (call.Del k) = refl
made-call (call.Get k) = refl
made-call (call.Scan a b) = refl
made-call call.Pin = refl
made-call (call.ScanAt a b) = refl
made-call call.Unpin = refl

fits_arguments : (c : Call) → IsRecordCall c → AllByRecursion (λ n. n < 2 ^ 64) (arguments c)
fits_arguments (call.Put k v) h = (omega (arith, h.0), (omega (arith, h.1), tt))
fits_arguments (call.Del k) h = (omega (arith, h), tt)
fits_arguments (call.Get k) h = (omega (arith, h), tt)
fits_arguments (call.Scan a b) h = (omega (arith, h.0), (omega (arith, h.1), tt))
fits_arguments call.Pin h = tt
fits_arguments (call.ScanAt a b) h = (omega (arith, h.0), (omega (arith, h.1), tt))
fits_arguments call.Unpin h = tt

decimals_injective : (ms ns : List ℕ) → AllByRecursion (λ n. n < 2 ^ 64) ms → AllByRecursion (λ n. n < 2 ^ 64) ns → map decimal ms ≡ map decimal ns → ms ≡ ns
decimals_injective [] [] h j e = refl
decimals_injective [] (n ∷ ns) h j e = cc
decimals_injective (m ∷ ms) [] h j e = cc
decimals_injective (m ∷ ms) (n ∷ ns) h j e =
    let a : decimal m ≡ decimal n = cc in
    let b : map decimal ms ≡ map decimal ns = cc in
    let same = decimal_injective m n h.0 j.0 a in
    let rest = decimals_injective ms ns h.1 j.1 b in
    cc

same_call : (c d : Call) → call_verb_of c ≡ call_verb_of d → arguments c ≡ arguments d → c ≡ d
same_call c d u v = let s : Some c ≡ Some d = sym (made-call c) ∙ (ap (λ w. made w (arguments c)) u ∙ (ap (made (call_verb_of d)) v ∙ made-call d)) in cc

call_injective : (c d : Call) → IsRecordCall c → IsRecordCall d → call_words c ≡ call_words d → c ≡ d
call_injective c d h j e =
    let x : call_verb_word (call_verb_of c) ∷ map decimal (arguments c) ≡ call_verb_word (call_verb_of d) ∷ map decimal (arguments d) = e in
    let word : call_verb_word (call_verb_of c) ≡ call_verb_word (call_verb_of d) = cc in
    let numbers : map decimal (arguments c) ≡ map decimal (arguments d) = cc in
    same_call c d (call_word_injective (call_verb_of c) (call_verb_of d) word) (decimals_injective (arguments c) (arguments d) (fits_arguments c h) (fits_arguments d j) numbers)

-- Replies: some are words, and the others are numbers with other marks between them.

abbrev plain_named : List ℕ → Option Plain
plain_named w = cond (bytes_eq w (codes "ok")) (Some plain.Done) (cond (bytes_eq w (codes "none")) (Some plain.Absent) (cond (bytes_eq w (codes "empty")) (Some plain.Empty) (cond (bytes_eq w (codes "no rows")) (Some plain.NoRows) (cond (bytes_eq w (codes "spent")) (Some plain.Spent) (cond (bytes_eq w (codes "stopped")) (Some plain.Stopped) (cond (bytes_eq w (codes "held")) (Some plain.Held) (cond (bytes_eq w (codes "not pinned")) (Some plain.NotPinned) None)))))))

plain_named-text : (p : Plain) → plain_named (plain_text p) ≡ Some p
plain_named-text plain.Done = refl
plain_named-text plain.Absent = refl
plain_named-text plain.Empty = refl
plain_named-text plain.NoRows = refl
plain_named-text plain.Spent = refl
plain_named-text plain.Stopped = refl
plain_named-text plain.Held = refl
plain_named-text plain.NotPinned = refl

plain_injective : (p q : Plain) → plain_text p ≡ plain_text q → p ≡ q
plain_injective p q e = let s : Some p ≡ Some q = sym (plain_named-text p) ∙ (ap plain_named e ∙ plain_named-text q) in cc

-- a word begins with a letter
letter : (p : Plain) → (97 ≤ get_or (plain_text p) 0 0) × (0 < length (plain_text p))
letter plain.Done = (omega arith, omega arith)
letter plain.Absent = (omega arith, omega arith)
letter plain.Empty = (omega arith, omega arith)
letter plain.NoRows = (omega arith, omega arith)
letter plain.Spent = (omega arith, omega arith)
letter plain.Stopped = (omega arith, omega arith)
letter plain.Held = (omega arith, omega arith)
letter plain.NotPinned = (omega arith, omega arith)

not_plain : (p : Plain) (text : List ℕ) → ((mark : ℕ) → 97 ≤ mark → HasNo mark text) → plain_text p ≢ text
not_plain p text h e =
    let l = letter p in
    h (get_or (plain_text p) 0 0) l.0 0 0 (omega (arith, l.1, ap length e)) (ap (λ t. get_or t 0 0) (sym e))

no_letters : (ps : List (ℕ × ℕ)) (mark : ℕ) → 97 ≤ mark → AllByRecursion IsPair ps → AllByRecursion (HasNo mark) (map pair_text ps)
no_letters [] mark l h = tt
no_letters (p ∷ ps) mark l h = (no_mark_two mark EQUALS p.0 p.1 (λ a b. omega arith) (λ e. omega (arith, e)) (omega (arith, h.0.0)) (omega (arith, h.0.1)), no_letters ps mark l h.1)

pairs_not_plain : (p : Plain) (q : ℕ × ℕ) (qs : List (ℕ × ℕ)) → AllByRecursion IsPair (q ∷ qs) → plain_text p ≢ pairs_text (q ∷ qs)
pairs_not_plain p q qs h = not_plain p (pairs_text (q ∷ qs)) (λ mark l. no_mark_join mark (pair_text q) (map pair_text qs) (λ e. omega (arith, e)) (no_letters (q ∷ qs) mark l h))

value_not_plain : (p : Plain) (v : ℕ) → v < 2 ^ 63 → plain_text p ≢ decimal v
value_not_plain p v h = not_plain p (decimal v) (λ mark l. no_mark_decimal mark v (λ a b. omega arith) (omega arith))

value_not_pairs : (v : ℕ) (q : ℕ × ℕ) (qs : List (ℕ × ℕ)) → v < 2 ^ 63 → decimal v ≢ pairs_text (q ∷ qs)
value_not_pairs v q [] h e = no_cut EQUALS (decimal v) (decimal q.0) (decimal q.1) (no_mark_decimal EQUALS v (λ a b. omega arith) (omega arith)) e
value_not_pairs v q (r ∷ qs) h e = no_cut EQUALS (decimal v) (decimal q.0) (decimal q.1 ++ SPACE ∷ join_with_byte SPACE (map pair_text (r ∷ qs))) (no_mark_decimal EQUALS v (λ a b. omega arith) (omega arith)) (e ∙ append_assoc (decimal q.0) (EQUALS ∷ decimal q.1) (SPACE ∷ join_with_byte SPACE (map pair_text (r ∷ qs))))

pair_injective : (p q : ℕ × ℕ) → IsPair p → IsPair q → pair_text p ≡ pair_text q → p ≡ q
pair_injective p q h j e =
    let parts = one_cut EQUALS (decimal p.0) (decimal q.0) (decimal p.1) (decimal q.1) (no_mark_decimal EQUALS p.0 (λ a b. omega arith) (omega (arith, h.0))) (no_mark_decimal EQUALS q.0 (λ a b. omega arith) (omega (arith, j.0))) e in
    both p.0 p.1 q.0 q.1 (decimal_injective p.0 q.0 (omega (arith, h.0)) (omega (arith, j.0)) parts.0) (decimal_injective p.1 q.1 (omega (arith, h.1)) (omega (arith, j.1)) parts.1)
  where
    both : (a b c d : ℕ) → a ≡ c → b ≡ d → let x : ℕ × ℕ = (a, b) in let y : ℕ × ℕ = (c, d) in x ≡ y
    both a b c d e f = cc

pairs_injective : (ps qs : List (ℕ × ℕ)) → AllByRecursion IsPair ps → AllByRecursion IsPair qs → map pair_text ps ≡ map pair_text qs → ps ≡ qs
pairs_injective [] [] h j e = refl
pairs_injective [] (q ∷ qs) h j e = cc
pairs_injective (p ∷ ps) [] h j e = cc
pairs_injective (p ∷ ps) (q ∷ qs) h j e =
    let a : pair_text p ≡ pair_text q = cc in
    let b : map pair_text ps ≡ map pair_text qs = cc in
    let same = pair_injective p q h.0 j.0 a in
    let rest = pairs_injective ps qs h.1 j.1 b in
    cc

-- a reply is a word, a number, or pairs
data Form : Reply → Type 0 where
  word : (p : Plain) → Form (plain_reply p)
  number : (v : ℕ) → v < 2 ^ 63 → Form (reply.Value v)
  pairs : (p : ℕ × ℕ) (ps : List (ℕ × ℕ)) → AllByRecursion IsPair (p ∷ ps) → Form (reply.Pairs (p ∷ ps))

form_of : (r : Reply) → FitsReply r → Form r
form_of reply.Done h = word plain.Done
form_of (reply.Value v) h = number v h
form_of reply.Absent h = word plain.Absent
form_of (reply.Pairs []) h = word plain.Empty
form_of (reply.Pairs (p ∷ ps)) h = pairs p ps h
form_of reply.NoRows h = word plain.NoRows
form_of reply.Spent h = word plain.Spent
form_of reply.Stopped h = word plain.Stopped
form_of reply.Held h = word plain.Held
form_of reply.NotPinned h = word plain.NotPinned

plain_reply-text : (p : Plain) → reply_text (plain_reply p) ≡ plain_text p
plain_reply-text plain.Done = refl
plain_reply-text plain.Absent = refl
plain_reply-text plain.Empty = refl
plain_reply-text plain.NoRows = refl
plain_reply-text plain.Spent = refl
plain_reply-text plain.Stopped = refl
plain_reply-text plain.Held = refl
plain_reply-text plain.NotPinned = refl

by_forms : (r s : Reply) → Form r → Form s → reply_text r ≡ reply_text s → r ≡ s
by_forms r s (word p) (word q) e = ap plain_reply (plain_injective p q (sym (plain_reply-text p) ∙ (e ∙ plain_reply-text q)))
by_forms r s (word p) (number v h) e = absurd (value_not_plain p v h (sym (plain_reply-text p) ∙ e))
by_forms r s (word p) (pairs q qs h) e = absurd (pairs_not_plain p q qs h (sym (plain_reply-text p) ∙ e))
by_forms r s (number v h) (word p) e = absurd (value_not_plain p v h (sym (plain_reply-text p) ∙ sym e))
by_forms r s (number v h) (number w j) e = ap reply.Value (decimal_injective v w (omega arith) (omega arith) e)
by_forms r s (number v h) (pairs q qs j) e = absurd (value_not_pairs v q qs h e)
by_forms r s (pairs q qs h) (word p) e = absurd (pairs_not_plain p q qs h (sym (plain_reply-text p) ∙ sym e))
by_forms r s (pairs q qs h) (number v j) e = absurd (value_not_pairs v q qs j (sym e))
by_forms r s (pairs p ps h) (pairs q qs j) e = ap reply.Pairs (pairs_injective (p ∷ ps) (q ∷ qs) h j (sym (words-pairs (p ∷ ps) (omega arith) h) ∙ (ap words e ∙ words-pairs (q ∷ qs) (omega arith) j)))

reply_injective : (r s : Reply) → FitsReply r → FitsReply s → reply_text r ≡ reply_text s → r ≡ s
reply_injective r s h j e = by_forms r s (form_of r h) (form_of s j) e

-- Lines.

done_injective : (d e : DoneCall) → IsDone d → IsDone e → done_text d ≡ done_text e → d ≡ e
unfolding done_text
done_injective d e h j t =
    let parts = one_cut COLON (done_head d) (done_head e) (SPACE ∷ reply_text d.reply) (SPACE ∷ reply_text e.reply) (no_colon_in_head d h) (no_colon_in_head e j) t in
    let heads : head_words (head_of d) ≡ head_words (head_of e) = sym (words-head d h) ∙ (ap words parts.0 ∙ words-head e j) in
    let replies = parts.1 in
    let a : name_text d.name ≡ name_text e.name = cc in
    let b : decimal d.first ≡ decimal e.first = cc in
    let c : decimal d.last ≡ decimal e.last = cc in
    let f : call_words d.call ≡ call_words e.call = cc in
    let g : reply_text d.reply ≡ reply_text e.reply = cc in
    all d.name e.name d.first e.first d.last e.last d.call e.call d.reply e.reply (name_injective d.name e.name h.name j.name a) (decimal_injective d.first e.first (omega (arith, h.rising, h.last)) (omega (arith, j.rising, j.last)) b) (decimal_injective d.last e.last (omega (arith, h.last)) (omega (arith, j.last)) c) (call_injective d.call e.call h.call j.call f) (reply_injective d.reply e.reply h.reply j.reply g)
  where
    all : (m n : Name) (f g k l : ℕ) (c x : Call) (r s : Reply) → m ≡ n → f ≡ g → k ≡ l → c ≡ x → r ≡ s → let u : DoneCall = record { name = m; first = f; last = k; call = c; reply = r } in let v : DoneCall = record { name = n; first = g; last = l; call = x; reply = s } in u ≡ v
    all m n f g k l c x r s e1 e2 e3 e4 e5 = cc

open_injective : (d e : OpenCall) → IsOpen d → IsOpen e → open_text d ≡ open_text e → d ≡ e
open_injective d e h j t =
    let heads = sym (words-open d h) ∙ (ap words t ∙ words-open e j) in
    let a : name_text d.name ≡ name_text e.name = cc in
    let b : decimal d.first ≡ decimal e.first = cc in
    let f : call_words d.call ≡ call_words e.call = cc in
    all d.name e.name d.first e.first d.call e.call (name_injective d.name e.name h.name j.name a) (decimal_injective d.first e.first (omega (arith, h.first)) (omega (arith, j.first)) b) (call_injective d.call e.call h.call j.call f)
  where
    all : (m n : Name) (f g : ℕ) (c x : Call) → m ≡ n → f ≡ g → c ≡ x → let u : OpenCall = record { name = m; first = f; call = c } in let v : OpenCall = record { name = n; first = g; call = x } in u ≡ v
    all m n f g c x e1 e2 e3 = cc

names_injective : (ms ns : List Name) → AllByRecursion IsName ms → AllByRecursion IsName ns → map name_text ms ≡ map name_text ns → ms ≡ ns
names_injective [] [] h j e = refl
names_injective [] (n ∷ ns) h j e = cc
names_injective (m ∷ ms) [] h j e = cc
names_injective (m ∷ ms) (n ∷ ns) h j e =
    let a : name_text m ≡ name_text n = cc in
    let b : map name_text ms ≡ map name_text ns = cc in
    let same = name_injective m n h.0 j.0 a in
    let rest = names_injective ms ns h.1 j.1 b in
    cc

-- `none` is no name
no_name_none : (n : Name) (ns : List Name) → AllByRecursion IsName (n ∷ ns) → order_text [] ≡ order_text (n ∷ ns) → ⊥
no_name_none n ns h e =
    let left : words (order_text []) ≡ codes "order" ∷ codes "none" ∷ [] = ap words no_names ∙ (words_cut (codes "order") (codes "none") (no_mark SPACE (codes "order") refl) ∙ ap (λ ws. codes "order" ∷ ws) (words_one (codes "none") (no_mark SPACE (codes "none") refl))) in
    let both : codes "order" ∷ codes "none" ∷ [] ≡ codes "order" ∷ (name_text n ∷ map name_text ns) = sym left ∙ (ap words e ∙ words-order n ns h) in
    let same : codes "none" ≡ name_text n = cc in
    not_plain plain.Absent (name_text n) (λ mark l. no_mark_two mark DOT n.seat n.number (λ a b. omega arith) (λ f. omega (arith, f)) (omega (arith, h.0.0)) (omega (arith, h.0.2))) same

order_injective : (ms ns : List Name) → AllByRecursion IsName ms → AllByRecursion IsName ns → order_text ms ≡ order_text ns → ms ≡ ns
order_injective [] [] h j e = refl
order_injective [] (n ∷ ns) h j e = absurd (no_name_none n ns j e)
order_injective (m ∷ ms) [] h j e = absurd (no_name_none m ms h (sym e))
order_injective (m ∷ ms) (n ∷ ns) h j e =
    let both : codes "order" ∷ map name_text (m ∷ ms) ≡ codes "order" ∷ map name_text (n ∷ ns) = sym (words-order m ms h) ∙ (ap words e ∙ words-order n ns j) in
    let same : map name_text (m ∷ ms) ≡ map name_text (n ∷ ns) = cc in
    names_injective (m ∷ ms) (n ∷ ns) h j same

-- Records.

same_opens : (os ps : List OpenCall) (a b : List Name) → AllByRecursion IsOpen os → AllByRecursion IsOpen ps → AllByRecursion IsName a → AllByRecursion IsName b → map open_text os ++ order_text a ∷ [] ≡ map open_text ps ++ order_text b ∷ [] → (os ≡ ps) × (a ≡ b)
same_opens [] [] a b h j m n e = let x : order_text a ≡ order_text b = cc in (refl, order_injective a b m n x)
same_opens [] (p ∷ ps) a b h j m n e = let x : order_text a ≡ open_text p = cc in absurd (open_not_order p a j.0 m (sym x))
same_opens (o ∷ os) [] a b h j m n e = let x : open_text o ≡ order_text b = cc in absurd (open_not_order o b h.0 n x)
same_opens (o ∷ os) (p ∷ ps) a b h j m n e =
    let x : open_text o ≡ open_text p = cc in
    let y : map open_text os ++ order_text a ∷ [] ≡ map open_text ps ++ order_text b ∷ [] = cc in
    let same = open_injective o p h.0 j.0 x in
    let rest = same_opens os ps a b h.1 j.1 m n y in
    (let t = rest.0 in cc, rest.1)

same_lines : (ds es : List DoneCall) (os ps : List OpenCall) (a b : List Name) → AllByRecursion IsDone ds → AllByRecursion IsDone es → AllByRecursion IsOpen os → AllByRecursion IsOpen ps → AllByRecursion IsName a → AllByRecursion IsName b → map done_text ds ++ (map open_text os ++ order_text a ∷ []) ≡ map done_text es ++ (map open_text ps ++ order_text b ∷ []) → (ds ≡ es) × (os ≡ ps) × (a ≡ b)
same_lines [] [] os ps a b h j u v m n e = let rest = same_opens os ps a b u v m n e in (refl, rest.0, rest.1)
same_lines [] (x ∷ es) os ps a b h j u v m n e = absurd (not_done x os a (map done_text es ++ (map open_text ps ++ order_text b ∷ [])) j.0 u m (sym e))
same_lines (d ∷ ds) [] os ps a b h j u v m n e = absurd (not_done d ps b (map done_text ds ++ (map open_text os ++ order_text a ∷ [])) h.0 v n e)
same_lines (d ∷ ds) (x ∷ es) os ps a b h j u v m n e =
    let first : done_text d ≡ done_text x = cc in
    let others : map done_text ds ++ (map open_text os ++ order_text a ∷ []) ≡ map done_text es ++ (map open_text ps ++ order_text b ∷ []) = cc in
    let same = done_injective d x h.0 j.0 first in
    let rest = same_lines ds es os ps a b h.1 j.1 u v m n others in
    (let t = rest.0 in cc, rest.1, rest.2)

-- two records whose text the bytes are, are one
pub one_record : (bytes : List ℕ) (r s : RecordView) → IsRecordText bytes r → IsRecordText bytes s → r ≡ s
one_record bytes r s h j =
    let e = sym (append_assoc (map done_text r.done) (map open_text r.open_calls) (order_text r.order ∷ [])) ∙ (sym h.texts ∙ (j.texts ∙ append_assoc (map done_text s.done) (map open_text s.open_calls) (order_text s.order ∷ []))) in
    let same = same_lines r.done s.done r.open_calls s.open_calls r.order s.order h.fits.each_done j.fits.each_done h.fits.each_open j.fits.each_open h.fits.each_name j.fits.each_name e in
    all r.done s.done r.open_calls s.open_calls r.order s.order same.0 same.1 same.2
  where
    all : (ds es : List DoneCall) (os ps : List OpenCall) (a b : List Name) → ds ≡ es → os ≡ ps → a ≡ b → let x : RecordView = record { done = ds; open_calls = os; order = a } in let y : RecordView = record { done = es; open_calls = ps; order = b } in x ≡ y
    all ds es os ps a b e f g = cc

-- bytes with a bad line are the text of no record
pub bad_or_record : (bytes : List ℕ) (line : ℕ) (r : RecordView) → IsFirstBad bytes line → IsRecordText bytes r → ⊥
bad_or_record bytes line r b h = at b.after b.bad (sym h.texts ∙ b.cut)
  where
    at : (after : List (List ℕ)) → IsBadAfter b.before after → record_lines r ≡ b.before ++ after → ⊥
    at [] bad e = bad r h.fits (e ∙ append-nil b.before)
    at (first ∷ after) bad e = bad (record { whole = r; fits = h.fits; rest = after; texts = e ∙ sym (append_assoc b.before (first ∷ []) after) })

-- what was read is the only record
pub only_one : (bytes : List ℕ) (taken : List (List ℕ)) (o : Option RecordView) (e : LineError) (told : Result RecordView LineError) → told ≡ ok_or o e → lines bytes ≡ taken → MatchOption o ((w : RecordView) → IsRecord w → record_lines w ≡ taken → ⊥) (λ w. IsRecord w × (record_lines w ≡ taken)) → IfOk told (λ one. (r : RecordView) → IsRecordText bytes r → r ≡ one)
only_one bytes taken None e told is cut m = rw is tt
only_one bytes taken (Some w) e told is cut m = rw is (λ r h. one_record bytes r w h (record { fits = m.0; texts = cut ∙ sym m.1 }))
