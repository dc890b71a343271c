-- The words of the texts of names, pairs and lines.
use Rattle.std.proofs.Common.{ℕ, ◌≡◌, ◌≢◌, ◌+◌, ◌<◌, ◌≤◌, ◌^◌, List, [], ◌∷◌, ◌++◌, map, Bool, true, false, MatchOption, not, ◌⊎◌, inl, inr, length, codes, refl, sym, ap, ◌∙◌, arith, eqb}
use Rattle.std.specs.Fmt.{decimal}
use Rattle.std.specs.Bool.{then_some}
use Rattle.std.specs.List.{AllByRecursion, join_with_byte}
use Rattle.std.proofs.lemmas.List.Elements.{All-append, All-cons}
use Rattle.std.proofs.lemmas.Bool.{ne_eqb}
use Rattle.kw_model.specs.declared.call.Reply.{Reply}
use Rattle.kw_model.specs.declared.call.Reply.TheVariants as reply
use Rattle.kw_judge.specs.declared.written.Plain.{Plain}
use Rattle.kw_judge.specs.declared.written.Plain.TheVariants as plain
use Rattle.kw_line.specs.Cut.{words}
use Rattle.kw_line.specs.declared.words.TheConstants.{SPACE}
use Rattle.kw_line.specs.declared.print.TheConstants.{EQUALS}
use Rattle.kw_line.specs.Answered.{pair_text, pairs_text}
use Rattle.kw_line.proofs.Parts.{HasNo, words_one}
use Rattle.kw_line.proofs.Texts.{words_join, join_words}
use Rattle.kw_judge.specs.declared.print.TheConstants.{COLON, DOT}
use Rattle.kw_judge.specs.declared.record.Name.{Name}
use Rattle.kw_judge.specs.declared.record.DoneCall.{DoneCall}
use Rattle.kw_judge.specs.declared.record.OpenCall.{OpenCall}
use Rattle.kw_judge.specs.declared.written.Head.{Head}
use Rattle.kw_judge.specs.Record.{IsName, IsPair, FitsReply, IsDone, IsOpen}
use Rattle.kw_judge.specs.Written.{IsHead, head_words, open_words, plain_text, plain_reply, IsNoLine}
use Rattle.kw_judge.specs.Texts.{name_text, reply_text, call_words, done_head, done_text, open_text, order_text}
use Rattle.kw_judge.proofs.Readers.{one_cut, no_cut}
use Rattle.kw_judge.proofs.Marks.{no_mark, no_mark_decimal}
use Rattle.kw_judge.proofs.Calls.{space_is_mark, colon_is_mark, no_mark_call}

-- no mark stands in two numbers with another mark between them
pub no_mark_two : (mark between m n : ℕ) → (48 ≤ mark → mark < 58 → ⊥) → between ≢ mark → m < 2 ^ 64 → n < 2 ^ 64 → HasNo mark (decimal m ++ between ∷ decimal n)
no_mark_two mark between m n o other h k = All-append (λ b. b ≢ mark) (decimal m) (between ∷ decimal n) (no_mark_decimal mark m o h) (All-cons (λ b. b ≢ mark) between (decimal n) other (no_mark_decimal mark n o k))

pub no_space_name : (n : Name) → IsName n → HasNo SPACE (name_text n)
no_space_name n h = no_mark_two SPACE DOT n.seat n.number (λ a b. omega arith) (λ e. omega (arith, e)) (omega (arith, h.0)) (omega (arith, h.2))

no_colon_name : (n : Name) → IsName n → HasNo COLON (name_text n)
no_colon_name n h = no_mark_two COLON DOT n.seat n.number (λ a b. omega arith) (λ e. omega (arith, e)) (omega (arith, h.0)) (omega (arith, h.2))

no_space_pair : (p : ℕ × ℕ) → IsPair p → HasNo SPACE (pair_text p)
no_space_pair p h = no_mark_two SPACE EQUALS p.0 p.1 (λ a b. omega arith) (λ e. omega (arith, e)) (omega (arith, h.0)) (omega (arith, h.1))

-- a line has a word
pub some_word : (line : List ℕ) → words line ≡ [] → ⊥
some_word line e =
    let none : [] ≡ line = ap (join_with_byte SPACE) (sym e) ∙ join_words line in
    let one : words [] ≡ [] ∷ [] = words_one [] (λ k d l. absurd (omega arith)) in
    let two : words [] ≡ [] = ap words none ∙ e in
    cc

-- Pairs.

no_spaces : (ps : List (ℕ × ℕ)) → AllByRecursion IsPair ps → AllByRecursion (HasNo SPACE) (map pair_text ps)
no_spaces [] h = tt
no_spaces (p ∷ ps) h = (no_space_pair p h.0, no_spaces ps h.1)

pub words-pairs : (ps : List (ℕ × ℕ)) → 0 < length ps → AllByRecursion IsPair ps → words (pairs_text ps) ≡ map pair_text ps
words-pairs [] l h = absurd (omega arith)
words-pairs (p ∷ ps) l h = words_join (pair_text p) (map pair_text ps) (no_spaces (p ∷ ps) h)

bad_pair : (ps before : List (ℕ × ℕ)) (word : List ℕ) (rest : List (List ℕ)) → AllByRecursion IsPair ps → ((p : ℕ × ℕ) → IsPair p → word ≢ pair_text p) → map pair_text ps ≡ map pair_text before ++ word ∷ rest → ⊥
bad_pair [] [] word rest h bad e = cc
bad_pair [] (q ∷ qs) word rest h bad e = cc
bad_pair (p ∷ ps) [] word rest h bad e = let same : word ≡ pair_text p = cc in bad p h.0 same
bad_pair (p ∷ ps) (q ∷ qs) word rest h bad e = let others : map pair_text ps ≡ map pair_text qs ++ word ∷ rest = cc in bad_pair ps qs word rest h.1 bad others

-- a word that is no pair
pub no_pairs : (text : List ℕ) (before : List (ℕ × ℕ)) (word : List ℕ) (rest : List (List ℕ)) → words text ≡ map pair_text before ++ word ∷ rest → ((p : ℕ × ℕ) → IsPair p → word ≢ pair_text p) → (ps : List (ℕ × ℕ)) → 0 < length ps → AllByRecursion IsPair ps → text ≢ pairs_text ps
no_pairs text before word rest e bad ps l h f = bad_pair ps before word rest h bad (sym (words-pairs ps l h) ∙ (ap words (sym f) ∙ e))

-- all words are pairs
pub pairs_are : (text : List ℕ) (ps : List (ℕ × ℕ)) → words text ≡ map pair_text ps → text ≡ pairs_text ps
pairs_are text [] e = absurd (some_word text e)
pairs_are text (p ∷ ps) e = sym (join_words text) ∙ ap (join_with_byte SPACE) e

-- The order line.

no_space_names : (ns : List Name) → AllByRecursion IsName ns → AllByRecursion (HasNo SPACE) (map name_text ns)
no_space_names [] h = tt
no_space_names (n ∷ ns) h = (no_space_name n h.0, no_space_names ns h.1)

pub words-order : (n : Name) (ns : List Name) → AllByRecursion IsName (n ∷ ns) → words (order_text (n ∷ ns)) ≡ codes "order" ∷ map name_text (n ∷ ns)
unfolding order_text
words-order n ns h = words_join (codes "order") (map name_text (n ∷ ns)) (no_mark SPACE (codes "order") refl, no_space_names (n ∷ ns) h)

-- the text of an order without names
pub no_names : order_text [] ≡ codes "order none"
unfolding order_text
no_names = refl

-- the words of one with names
pub order_are : (line : List ℕ) (ns : List Name) → 0 < length ns → words line ≡ codes "order" ∷ map name_text ns → line ≡ order_text ns
unfolding order_text
order_are line [] l e = absurd (omega arith)
order_are line (n ∷ ns) l e = sym (join_words line) ∙ ap (join_with_byte SPACE) e

-- a first word that is another
pub no_order : (line : List ℕ) (word : List ℕ) (rest : List (List ℕ)) → line ≢ codes "order none" → words line ≡ word ∷ rest → word ≢ codes "order" → (ns : List Name) → AllByRecursion IsName ns → line ≢ order_text ns
no_order line word rest none e other [] h f = none (f ∙ no_names)
no_order line word rest none e other (n ∷ ns) h f =
    let all : words line ≡ codes "order" ∷ map name_text (n ∷ ns) = ap words f ∙ words-order n ns h in
    let same : word ≡ codes "order" = cc in
    other same

-- no name at all
pub no_name_there : (line : List ℕ) → line ≢ codes "order none" → words line ≡ codes "order" ∷ [] → (ns : List Name) → AllByRecursion IsName ns → line ≢ order_text ns
no_name_there line none e [] h f = none (f ∙ no_names)
no_name_there line none e (n ∷ ns) h f = let all : words line ≡ codes "order" ∷ map name_text (n ∷ ns) = ap words f ∙ words-order n ns h in cc

bad_name_in : (ns before : List Name) (word : List ℕ) (rest : List (List ℕ)) → AllByRecursion IsName ns → ((n : Name) → IsName n → word ≢ name_text n) → map name_text ns ≡ map name_text before ++ word ∷ rest → ⊥
bad_name_in [] [] word rest h bad e = cc
bad_name_in [] (q ∷ qs) word rest h bad e = cc
bad_name_in (p ∷ ps) [] word rest h bad e = let same : word ≡ name_text p = cc in bad p h.0 same
bad_name_in (p ∷ ps) (q ∷ qs) word rest h bad e = let others : map name_text ps ≡ map name_text qs ++ word ∷ rest = cc in bad_name_in ps qs word rest h.1 bad others

-- a word that is no name
pub bad_name : (line : List ℕ) (before : List Name) (word : List ℕ) (rest : List (List ℕ)) → line ≢ codes "order none" → words line ≡ codes "order" ∷ (map name_text before ++ word ∷ rest) → ((n : Name) → IsName n → word ≢ name_text n) → (ns : List Name) → AllByRecursion IsName ns → line ≢ order_text ns
bad_name line before word rest none e bad [] h f = none (f ∙ no_names)
bad_name line before word rest none e bad (n ∷ ns) h f =
    let all : words line ≡ codes "order" ∷ map name_text (n ∷ ns) = ap words f ∙ words-order n ns h in
    let others : map name_text (n ∷ ns) ≡ map name_text before ++ word ∷ rest = cc in
    bad_name_in (n ∷ ns) before word rest h bad others

-- Lines of calls.

no_space_head : (h : Head) → IsHead h → AllByRecursion (HasNo SPACE) (head_words h)
no_space_head h is = (no_mark SPACE (codes "done") refl, (no_space_name h.name is.name, (no_mark_decimal SPACE h.first (λ a b. omega arith) (omega (arith, is.rising, is.last)), (no_mark_decimal SPACE h.last (λ a b. omega arith) (omega (arith, is.last)), no_mark_call SPACE h.call space_is_mark is.call))))

no_colon_head : (h : Head) → IsHead h → AllByRecursion (HasNo COLON) (head_words h)
no_colon_head h is = (no_mark COLON (codes "done") refl, (no_colon_name h.name is.name, (no_mark_decimal COLON h.first (λ a b. omega arith) (omega (arith, is.rising, is.last)), (no_mark_decimal COLON h.last (λ a b. omega arith) (omega (arith, is.last)), no_mark_call COLON h.call colon_is_mark is.call))))

no_space_open : (o : OpenCall) → IsOpen o → AllByRecursion (HasNo SPACE) (open_words o)
no_space_open o is = (no_mark SPACE (codes "open") refl, (no_space_name o.name is.name, (no_mark_decimal SPACE o.first (λ a b. omega arith) (omega (arith, is.first)), no_mark_call SPACE o.call space_is_mark is.call)))

-- the head of an answered call
abbrev pub head_of : DoneCall → Head
head_of d = record { name = d.name; first = d.first; last = d.last; call = d.call }

pub is_head : (d : DoneCall) → IsDone d → IsHead (head_of d)
is_head d h = record { name = h.name; rising = h.rising; last = omega (arith, h.last); call = h.call }

pub words-head : (d : DoneCall) → IsDone d → words (done_head d) ≡ head_words (head_of d)
unfolding done_head
words-head d h = words_join (codes "done") _ (no_space_head (head_of d) (is_head d h))

pub head_is : (bytes : List ℕ) (d : DoneCall) → words bytes ≡ head_words (head_of d) → bytes ≡ done_head d
unfolding done_head
head_is bytes d e = sym (join_words bytes) ∙ ap (join_with_byte SPACE) e

pub words-open : (o : OpenCall) → IsOpen o → words (open_text o) ≡ open_words o
unfolding open_text
words-open o h = words_join (codes "open") _ (no_space_open o h)

pub open_is : (line : List ℕ) (o : OpenCall) → words line ≡ open_words o → line ≡ open_text o
unfolding open_text
open_is line o e = sym (join_words line) ∙ ap (join_with_byte SPACE) e

-- words without a mark, separated by another byte, have none of it
pub no_mark_join : (mark : ℕ) (word : List ℕ) (more : List (List ℕ)) → SPACE ≢ mark → AllByRecursion (HasNo mark) (word ∷ more) → HasNo mark (join_with_byte SPACE (word ∷ more))
no_mark_join mark word [] o h = h.0
no_mark_join mark word (next ∷ more) o h = All-append (λ b. b ≢ mark) word (SPACE ∷ join_with_byte SPACE (next ∷ more)) h.0 (All-cons (λ b. b ≢ mark) SPACE (join_with_byte SPACE (next ∷ more)) o (no_mark_join mark next more o h.1))

pub no_colon_in_head : (d : DoneCall) → IsDone d → HasNo COLON (done_head d)
unfolding done_head
no_colon_in_head d h = no_mark_join COLON (codes "done") (name_text d.name ∷ decimal d.first ∷ decimal d.last ∷ call_words d.call) (λ e. omega (arith, e)) (no_colon_head (head_of d) (is_head d h))

-- the names so far, where these are all words
pub order_read : (line : List ℕ) (names : List Name) (b : Bool) → AllByRecursion IsName names → line ≢ codes "order none" → words line ≡ codes "order" ∷ map name_text names → b ≡ not (eqb (length names) 0) → ((b ≡ true) × (line ≡ order_text names)) ⊎ ((b ≡ false) × ((ns : List Name) → AllByRecursion IsName ns → line ≢ order_text ns))
order_read line [] b h none e t = inr (t, no_name_there line none e)
order_read line (n ∷ ns) b h none e t = inl (t ∙ (rw (ne_eqb (length (n ∷ ns)) 0 (λ f. absurd (omega (arith, f)))) refl), order_are line (n ∷ ns) (omega arith) e)

-- what a test picks
pub pick : {T : Type 0} (b : Bool) (x : T) (P : Type 0) (Q : T → Type 0) → ((b ≡ true) × Q x) ⊎ ((b ≡ false) × P) → MatchOption (then_some b x) P Q
pick b x P Q (inl h) = rw h.0 h.1
pick b x P Q (inr h) = rw h.0 h.1

-- Lines of answered calls, part by part.

pub no_colon : (line : List ℕ) → HasNo COLON line → (d : DoneCall) → IsDone d → line ≢ done_text d
unfolding done_text
no_colon line h d is e = no_cut COLON line (done_head d) (SPACE ∷ reply_text d.reply) h e

cut_done : (line before after : List ℕ) (d : DoneCall) → line ≡ before ++ COLON ∷ after → HasNo COLON before → IsDone d → line ≡ done_text d → (before ≡ done_head d) × (after ≡ SPACE ∷ reply_text d.reply)
unfolding done_text
cut_done line before after d cut h is e = one_cut COLON before (done_head d) after (SPACE ∷ reply_text d.reply) h (no_colon_in_head d is) (sym cut ∙ e)

pub no_head : (line before after : List ℕ) → line ≡ before ++ COLON ∷ after → HasNo COLON before → ((h : Head) → IsHead h → words before ≢ head_words h) → (d : DoneCall) → IsDone d → line ≢ done_text d
no_head line before after cut h none d is e = let parts = cut_done line before after d cut h is e in none (head_of d) (is_head d is) (ap words parts.0 ∙ words-head d is)

pub no_space_there : (line before after : List ℕ) → line ≡ before ++ COLON ∷ after → HasNo COLON before → ((rest : List ℕ) → after ≢ SPACE ∷ rest) → (d : DoneCall) → IsDone d → line ≢ done_text d
no_space_there line before after cut h none d is e = none (reply_text d.reply) (cut_done line before after d cut h is e).1

pub no_reply : (line before after text : List ℕ) → line ≡ before ++ COLON ∷ after → HasNo COLON before → after ≡ SPACE ∷ text → ((r : Reply) → FitsReply r → text ≢ reply_text r) → (d : DoneCall) → IsDone d → line ≢ done_text d
no_reply line before after text cut h space none d is e =
    let parts = cut_done line before after d cut h is e in
    let two : SPACE ∷ text ≡ SPACE ∷ reply_text d.reply = sym space ∙ parts.1 in
    let same : text ≡ reply_text d.reply = cc in
    none d.reply is.reply same

pub done_is : (line before after text : List ℕ) (d : DoneCall) → line ≡ before ++ COLON ∷ after → words before ≡ head_words (head_of d) → after ≡ SPACE ∷ text → text ≡ reply_text d.reply → line ≡ done_text d
unfolding done_text
done_is line before after text d cut head space reply = cut ∙ ap (λ t. t ++ COLON ∷ after) (head_is before d head) ∙ ap (λ t. done_head d ++ COLON ∷ t) (space ∙ ap (λ t. SPACE ∷ t) reply)

pub is_done : (h : Head) (r : Reply) → IsHead h → FitsReply r → IsDone (record { name = h.name; first = h.first; last = h.last; call = h.call; reply = r })
is_done h r is fits = record { name = is.name; rising = is.rising; last = omega (arith, is.last); call = is.call; reply = fits }

-- Replies.

pub plain_is : (text : List ℕ) (p : Plain) → text ≡ plain_text p → FitsReply (plain_reply p) × (text ≡ reply_text (plain_reply p))
plain_is text plain.Done e = (tt, e)
plain_is text plain.Absent e = (tt, e)
plain_is text plain.Empty e = (tt, e)
plain_is text plain.NoRows e = (tt, e)
plain_is text plain.Spent e = (tt, e)
plain_is text plain.Stopped e = (tt, e)
plain_is text plain.Held e = (tt, e)
plain_is text plain.NotPinned e = (tt, e)

pub no_such_reply : (text : List ℕ) (most : ℕ) → most + 1 ≡ 2 ^ 63 → ((p : Plain) → text ≢ plain_text p) → ((n : ℕ) → 0 ≤ n → n ≤ most → text ≢ decimal n) → ((ps : List (ℕ × ℕ)) → 0 < length ps → AllByRecursion IsPair ps → text ≢ pairs_text ps) → (r : Reply) → FitsReply r → text ≢ reply_text r
no_such_reply text most m words value pairs reply.Done h e = words plain.Done e
no_such_reply text most m words value pairs (reply.Value v) h e = value v (omega arith) (omega (arith, h, m)) e
no_such_reply text most m words value pairs reply.Absent h e = words plain.Absent e
no_such_reply text most m words value pairs (reply.Pairs []) h e = words plain.Empty e
no_such_reply text most m words value pairs (reply.Pairs (p ∷ ps)) h e = pairs (p ∷ ps) (omega arith) h e
no_such_reply text most m words value pairs reply.NoRows h e = words plain.NoRows e
no_such_reply text most m words value pairs reply.Spent h e = words plain.Spent e
no_such_reply text most m words value pairs reply.Stopped h e = words plain.Stopped e
no_such_reply text most m words value pairs reply.Held h e = words plain.Held e
no_such_reply text most m words value pairs reply.NotPinned h e = words plain.NotPinned e

-- a line of no kind
pub no_line : (line : List ℕ) → ((d : DoneCall) → IsDone d → line ≢ done_text d) → ((o : OpenCall) → IsOpen o → words line ≢ open_words o) → ((ns : List Name) → AllByRecursion IsName ns → line ≢ order_text ns) → IsNoLine line
no_line line none_done none_open none_order = record { done = none_done; open_calls = λ o h e. none_open o h (ap words e ∙ words-open o h); order = none_order }
