-- How the ways of one line, and of some lines, make up those of many.
use Rattle.std.proofs.Common.{ℕ, ◌≡◌, ◌<◌, ◌≤◌, ◌+◌, inl, inr, List, [], ◌∷◌, ◌++◌, map, length, take, drop, Bool, true, false, eqb, Option, Result, Ok, Err, OnOk, IfErr, refl, sym, ap, subst, ◌∙◌, arith, append_assoc, append-nil, length-append}
use Rattle.std.specs.List.{flat_map, AllByRecursion}
use Rattle.std.specs.Io.KnownBytes.{Appends}
use Rattle.std.proofs.KnownBytes.{Appends-nil, Appends-trans}
use Rattle.std.proofs.lemmas.List.{map-append, drop-drop}
use Rattle.std.proofs.lemmas.Bool.{eqb-true, eqb-false}
use Rattle.std.proofs.lemmas.Grind.{flat_map-append}
use Rattle.std.proofs.Math.Seq.{drop-append_seam}
use Rattle.kw_model.specs.declared.call.Call.{Call}
use Rattle.kw_model.specs.declared.call.Reply.{Reply}
use Rattle.kw_model.specs.declared.call.Reply.TheVariants.{Stopped}
use Rattle.kw_ask.specs.Asking.{LineAnswered}
use Rattle.kw_follow.specs.Calling.{Calls, calls_in}
use Rattle.kw_laws.specs.SeatCalls.{CallSeen, begun_at, ended_at}
use Rattle.kw_line.specs.Cut.{lines}
use Rattle.kw_line.specs.declared.answer.Answer.{Answer}
use Rattle.kw_line.specs.declared.item.Form.{Form}
use Rattle.kw_line.specs.declared.words.TheConstants.{LINE_FEED}
use Rattle.kw_line.proofs.Parts.{HasNo, lines_cut, lines_one, lines_none}
use Rattle.kw_table.specs.declared.pass.Pass.{Pass}
use Rattle.kiwid.specs.declared.request.Request.{Request}
use Rattle.kiwid.specs.declared.request.Request.TheVariants.{Plain}
use Rattle.kiwid.specs.declared.request.TheConstants.{MOST_BYTES, MOST_LINES}
use Rattle.kiwid.specs.declared.session.SessionEnd.{SessionEnd}
use Rattle.kiwid.specs.declared.session.SessionEnd.TheVariants.{Ended, Bad, Limit, ReadFault, WriteFault, Memory}
use Rattle.kiwid.specs.Requests.{IsGood, IsMade, IsRequestIn, IsServed, Served, answer_line, bad_text, call_of, form_of, line_of, said}
use Rattle.kiwid.specs.Session.{Ends, Stops, made_for}
use Rattle.kiwid.specs.Lines.{IsCutShort, LineDone, LineStops, Refuses, Took}
use Rattle.kiwid.proofs.Cuts.{longer, some_line}

-- the bytes that a sink tells
abbrev Bytes : Type 0
Bytes = Option (List ℕ)

pub on_both : {X E : Type 0} {P Q R : Type 0} (r : Result X E) → (P → Q → R) → OnOk r P → OnOk r Q → OnOk r R
on_both (Ok x) f h k = f h k
on_both (Err e) f h k = tt

pub if_err : {X E : Type 0} {P Q : E → Type 0} (r : Result X E) → ((e : E) → P e → Q e) → IfErr r P → IfErr r Q
if_err (Ok x) f h = tt
if_err (Err e) f h = f e h

all_append : (xs ys : List Served) → AllByRecursion IsServed xs → AllByRecursion IsServed ys → AllByRecursion IsServed (xs ++ ys)
all_append [] ys h k = k
all_append (x ∷ xs) ys h k = (h.0, all_append xs ys h.1 k)

-- One line.

-- a request is its call and its form
pub plain_is : (r : Request) → r ≡ Plain (call_of r) (form_of r)
plain_is (Plain call form) = refl

-- the call that a pass made for a line of this form, and its reply
abbrev served_by : (p q : Pass) (call : Call) (form : Form) (reply : Reply) → Calls p q call reply → Served
served_by p q call form reply c = record { request = Plain call form; made = ended_at c.last reply (begun_at c.first c.number call); reply = reply }

is_made : (p q : Pass) (call : Call) (form : Form) (reply : Reply) (c : Calls p q call reply) → IsMade (served_by p q call form reply c)
is_made p q call form reply c = record { call_is = refl; last = c.last; end_is = refl }

good_in : (line : List ℕ) (call : Call) (form : Form) (s : Served) → s.request ≡ Plain call form → IsRequestIn line (Plain call form) → IsGood (line_of s)
good_in line call form s e h = subst (λ r. IsGood (line_of (record s { request = r }))) (sym e) (record { request = (Plain call form, h.request, refl); short = subst (λ l. length l ≤ MOST_BYTES) h.text h.short })

is_served : (line : List ℕ) (p q : Pass) (call : Call) (form : Form) (answer : Answer) (a : LineAnswered p q call form answer) → IsRequestIn line (Plain call form) → IsServed (served_by p q call form a.reply a.calls)
is_served line p q call form answer a h = record { good = good_in line call form (served_by p q call form a.reply a.calls) refl h; made = is_made p q call form a.reply a.calls; is_reply = a.is_reply }

-- a line that was refused
pub refused : (line : List ℕ) (count : ℕ) (end : SessionEnd) (made : List CallSeen) (w w' : Bytes) → count < MOST_LINES → (IsGood line → ⊥) → Refuses count end w w' → LineStops line count end made made w w'
refused line count (Bad number) made w w' more_may bad h = record { calls = []; bytes = bad_text number; calls_are = sym (append-nil made); text_is = h.1; stops = λ more. (refl, refl, h.0, more_may, (line, more, refl, bad)) }
refused line count WriteFault made w w' more_may bad h = record { calls = []; bytes = take h.0 (bad_text (count + 1)); calls_are = sym (append-nil made); text_is = h.1; stops = λ more. (more_may, inr (h.0, (line, more, refl, bad), refl, refl)) }
refused line count Memory made w w' more_may bad h = record { calls = []; bytes = []; calls_are = sym (append-nil made); text_is = h; stops = λ more. (refl, inl refl) }
refused line count Ended made w w' more_may bad h = absurd h
refused line count Limit made w w' more_may bad h = absurd h
refused line count ReadFault made w w' more_may bad h = absurd h

-- a line that was answered whole
pub line_done : (line : List ℕ) (p q : Pass) (call : Call) (form : Form) (answer : Answer) (w w' : Bytes) → IsRequestIn line (Plain call form) → LineAnswered p q call form answer → Appends w w' (answer_line answer) → LineDone line (calls_in p) (calls_in q) w w'
line_done line p q call form answer w w' h a t = record {
  it = served_by p q call form a.reply a.calls;
  line_is = sym h.text;
  served = is_served line p q call form answer a h;
  calls_are = a.calls.calls;
  text_is = subst (λ x. Appends w w' (answer_line x)) a.answer_is t;
}

-- a line whose answer was not written whole
pub line_cut : (line : List ℕ) (count : ℕ) (end : SessionEnd) (p q : Pass) (call : Call) (form : Form) (answer : Answer) (w w' : Bytes) → count < MOST_LINES → IsRequestIn line (Plain call form) → LineAnswered p q call form answer → IsCutShort end (answer_line answer) w w' → LineStops line count end (calls_in p) (calls_in q) w w'
line_cut line count end p q call form answer w w' more_may h a t = go end (subst (λ x. IsCutShort end (answer_line x) w w') a.answer_is t)
  where
    go : (e : SessionEnd) → IsCutShort e (said (served_by p q call form a.reply a.calls)) w w' → LineStops line count e (calls_in p) (calls_in q) w w'
    go WriteFault k = record { calls = made_for (served_by p q call form a.reply a.calls) ∷ []; bytes = take k.0 (said (served_by p q call form a.reply a.calls)); calls_are = a.calls.calls; text_is = k.1; stops = λ more. (more_may, inl (served_by p q call form a.reply a.calls, more, k.0, ap (λ l. l ∷ more) h.text, is_served line p q call form answer a h, refl, refl)) }
    go Memory k = record { calls = made_for (served_by p q call form a.reply a.calls) ∷ []; bytes = []; calls_are = a.calls.calls; text_is = k; stops = λ more. (refl, inr (more_may, (served_by p q call form a.reply a.calls, more, ap (λ l. l ∷ more) h.text, good_in line call form (served_by p q call form a.reply a.calls) refl h, is_made p q call form a.reply a.calls, inr a.is_reply, refl))) }
    go Ended k = absurd k
    go (Bad number) k = absurd k
    go Limit k = absurd k
    go ReadFault k = absurd k

-- a line whose scan was stopped
pub line_stopped : (line : List ℕ) (count : ℕ) (p q : Pass) (call : Call) (form : Form) (w : Bytes) → count < MOST_LINES → IsRequestIn line (Plain call form) → Calls p q call Stopped → LineStops line count Memory (calls_in p) (calls_in q) w w
line_stopped line count p q call form w more_may h c =
    record { calls = made_for (served_by p q call form Stopped c) ∷ []; bytes = []; calls_are = c.calls; text_is = Appends-nil w; stops = λ more. (refl, inr (more_may, (served_by p q call form Stopped c, more, ap (λ l. l ∷ more) h.text, good_in line call form (served_by p q call form Stopped c) refl h, is_made p q call form Stopped c, inl refl, refl))) }

-- Some lines at the front of what is held.

-- nothing happened yet
pub took_none : (held : List ℕ) (made : List CallSeen) (w : Bytes) (count : ℕ) → Took held held made made w w count count
took_none held made w count = record { served = []; front = []; front_is = refl; cut = λ more. refl; each = tt; calls_are = sym (append-nil made); text_is = Appends-nil w; count_is = omega arith }

-- the lines of all that is held, and of what comes behind
pub took_cut : (held rest : List ℕ) (made m : List CallSeen) (w v : Bytes) (count n : ℕ) (t : Took held rest made m w v count n) (more : List ℕ) → lines (held ++ more) ≡ map line_of t.served ++ lines (rest ++ more)
took_cut held rest made m w v count n t more = ap (λ h. lines (h ++ more)) t.front_is ∙ (ap lines (append_assoc t.front rest more) ∙ t.cut (rest ++ more))

-- a list of lines behind others
lines_behind : (xs ys : List Served) (rest : List (List ℕ)) → map line_of xs ++ (map line_of ys ++ rest) ≡ map line_of (xs ++ ys) ++ rest
lines_behind xs ys rest = sym (append_assoc (map line_of xs) (map line_of ys) rest) ∙ ap (λ ls. ls ++ rest) (sym (map-append line_of xs ys))

-- one more line
pub took_more : (held rest line behind : List ℕ) (made m m' : List CallSeen) (w v v' : Bytes) (count n : ℕ) → Took held rest made m w v count n → rest ≡ line ++ LINE_FEED ∷ behind → HasNo LINE_FEED line → LineDone line m m' v v' → Took held behind made m' w v' count (n + 1)
took_more held rest line behind made m m' w v v' count n t e clean d =
    let fed : List ℕ = line ++ LINE_FEED ∷ [] in
    record {
      served = t.served ++ d.it ∷ [];
      front = t.front ++ fed;
      front_is = t.front_is ∙ (ap (λ x. t.front ++ x) (e ∙ sym (append_assoc line (LINE_FEED ∷ []) behind)) ∙ sym (append_assoc t.front fed behind));
      cut = λ more.
          let one : lines (fed ++ more) ≡ line_of d.it ∷ lines more = ap lines (append_assoc line (LINE_FEED ∷ []) more) ∙ (lines_cut line more clean ∙ ap (λ l. l ∷ lines more) (sym d.line_is)) in
          ap lines (append_assoc t.front fed more) ∙ (t.cut (fed ++ more) ∙ (ap (λ ls. map line_of t.served ++ ls) one ∙ lines_behind t.served (d.it ∷ []) (lines more)));
      each = all_append t.served (d.it ∷ []) t.each (d.served, tt);
      calls_are = d.calls_are ∙ (ap (λ c. c ++ made_for d.it ∷ []) t.calls_are ∙ (append_assoc made (map made_for t.served) (made_for d.it ∷ []) ∙ ap (λ c. made ++ c) (sym (map-append made_for t.served (d.it ∷ [])))));
      text_is = subst (Appends w v') (sym (flat_map-append said t.served (d.it ∷ []) ∙ ap (λ x. flat_map said t.served ++ x) (append-nil (said d.it)))) (Appends-trans w v v' (flat_map said t.served) (said d.it) t.text_is d.text_is);
      count_is = omega (arith, t.count_is, length-append t.served (d.it ∷ []));
    }

-- lines that were answered, and then others
pub took_trans : (held rest left : List ℕ) (made m m' : List CallSeen) (w v v' : Bytes) (count n n' : ℕ) → Took held rest made m w v count n → Took rest left m m' v v' n n' → Took held left made m' w v' count n'
took_trans held rest left made m m' w v v' count n n' t d = record {
  served = t.served ++ d.served;
  front = t.front ++ d.front;
  front_is = t.front_is ∙ (ap (λ x. t.front ++ x) d.front_is ∙ sym (append_assoc t.front d.front left));
  cut = λ more. ap lines (append_assoc t.front d.front more) ∙ (t.cut (d.front ++ more) ∙ (ap (λ ls. map line_of t.served ++ ls) (d.cut more) ∙ lines_behind t.served d.served (lines more)));
  each = all_append t.served d.served t.each d.each;
  calls_are = d.calls_are ∙ (ap (λ c. c ++ map made_for d.served) t.calls_are ∙ (append_assoc made (map made_for t.served) (map made_for d.served) ∙ ap (λ c. made ++ c) (sym (map-append made_for t.served d.served))));
  text_is = subst (Appends w v') (sym (flat_map-append said t.served d.served)) (Appends-trans w v v' (flat_map said t.served) (flat_map said d.served) t.text_is d.text_is);
  count_is = omega (arith, t.count_is, d.count_is, length-append t.served d.served);
}

-- more bytes come behind what is held
pub took_behind : (held rest more : List ℕ) (made m : List CallSeen) (w v : Bytes) (count n : ℕ) → Took held rest made m w v count n → Took (held ++ more) (rest ++ more) made m w v count n
took_behind held rest more made m w v count n t = record {
  served = t.served;
  front = t.front;
  front_is = ap (λ h. h ++ more) t.front_is ∙ append_assoc t.front rest more;
  cut = t.cut;
  each = t.each;
  calls_are = t.calls_are;
  text_is = t.text_is;
  count_is = t.count_is;
}

-- Ends.

-- lines that were answered, and then an end
pub took_ends : (held rest more : List ℕ) (made m m' : List CallSeen) (w v v' : Bytes) (count n : ℕ) (end : SessionEnd) → Took held rest made m w v count n → Ends (rest ++ more) n end m m' v v' → Ends (held ++ more) count end made m' w v'
took_ends held rest more made m m' w v v' count n end t d = record {
  served = t.served ++ d.served;
  rest = d.rest;
  calls = d.calls;
  bytes = d.bytes;
  lines_are = took_cut held rest made m w v count n t more ∙ (ap (λ ls. map line_of t.served ++ ls) d.lines_are ∙ lines_behind t.served d.served d.rest);
  each = all_append t.served d.served t.each d.each;
  few = subst (λ k. k ≤ MOST_LINES) counted d.few;
  calls_are = d.calls_are ∙ (ap (λ c. c ++ (map made_for d.served ++ d.calls)) t.calls_are ∙ (append_assoc made (map made_for t.served) (map made_for d.served ++ d.calls) ∙ ap (λ c. made ++ c) (sym (append_assoc (map made_for t.served) (map made_for d.served) d.calls) ∙ ap (λ c. c ++ d.calls) (sym (map-append made_for t.served d.served)))));
  text_is = subst (Appends w v') (sym (append_assoc (flat_map said t.served) (flat_map said d.served) d.bytes) ∙ ap (λ x. x ++ d.bytes) (sym (flat_map-append said t.served d.served))) (Appends-trans w v v' (flat_map said t.served) (flat_map said d.served ++ d.bytes) t.text_is d.text_is);
  stops = subst (λ k. Stops end k d.rest d.calls d.bytes) counted d.stops;
}
  where
    counted : n + length d.served ≡ count + length (t.served ++ d.served)
    counted = omega (arith, t.count_is, length-append t.served d.served)

-- an end with no line answered before
at_once : (all : List ℕ) (count : ℕ) (end : SessionEnd) (made m : List CallSeen) (w v : Bytes) (calls : List CallSeen) (bytes : List ℕ) → count ≤ MOST_LINES → m ≡ made ++ calls → Appends w v bytes → Stops end count (lines all) calls bytes → Ends all count end made m w v
at_once all count end made m w v calls bytes few c t s = record { served = []; rest = lines all; calls = calls; bytes = bytes; lines_are = refl; each = tt; few = subst (λ k. k ≤ MOST_LINES) counted few; calls_are = c; text_is = t; stops = subst (λ k. Stops end k (lines all) calls bytes) counted s }
  where
    counted : count ≡ count + 0
    counted = omega arith

pub nothing_left : (count : ℕ) (made : List CallSeen) (w : Bytes) (all : List ℕ) → count ≤ MOST_LINES → all ≡ [] → Ends all count Ended made made w w
nothing_left count made w all few e = at_once all count Ended made made w w [] [] few (sym (append-nil made)) (Appends-nil w) (refl, refl, ap lines e ∙ lines_none)

pub read_failed : (count : ℕ) (made : List CallSeen) (w : Bytes) (all : List ℕ) → count ≤ MOST_LINES → Ends all count ReadFault made made w w
read_failed count made w all few = at_once all count ReadFault made made w w [] [] few (sym (append-nil made)) (Appends-nil w) (refl, refl)

pub no_memory : (count : ℕ) (made : List CallSeen) (w : Bytes) (all : List ℕ) → count ≤ MOST_LINES → Ends all count Memory made made w w
no_memory count made w all few = at_once all count Memory made made w w [] [] few (sym (append-nil made)) (Appends-nil w) (refl, inl refl)

pub limit_reached : (count : ℕ) (made : List CallSeen) (w : Bytes) (all : List ℕ) → count ≡ MOST_LINES → 0 < length all → Ends all count Limit made made w w
limit_reached count made w all e some = at_once all count Limit made made w w [] [] (omega (arith, e)) (sym (append-nil made)) (Appends-nil w) (refl, refl, e, some_line all some)

-- an end at the first line
line_ends : (all line : List ℕ) (rest : List (List ℕ)) (count : ℕ) (end : SessionEnd) (made m : List CallSeen) (w v : Bytes) → count < MOST_LINES → lines all ≡ line ∷ rest → LineStops line count end made m w v → Ends all count end made m w v
line_ends all line rest count end made m w v more_may e d = at_once all count end made m w v d.calls d.bytes (omega arith) d.calls_are d.text_is (subst (λ ls. Stops end count ls d.calls d.bytes) (sym e) (d.stops rest))

-- a line that is held is one that a session still serves
pub still_serves : (count : ℕ) (held : List ℕ) → count ≤ MOST_LINES → (count ≡ MOST_LINES → held ≡ []) → 0 < length held → count < MOST_LINES
still_serves count held few room some = go (eqb count MOST_LINES) refl
  where
    go : (t : Bool) → eqb count MOST_LINES ≡ t → count < MOST_LINES
    go true e = absurd (omega (arith, some, ap length (room (eqb-true count MOST_LINES e))))
    go false e = let other = eqb-false count MOST_LINES e in omega (arith, few)

-- the last line, without its line feed
pub last_done : (line : List ℕ) (count : ℕ) (made m : List CallSeen) (w v : Bytes) → count < MOST_LINES → 0 < length line → HasNo LINE_FEED line → LineDone line made m w v → Ends line count Ended made m w v
last_done line count made m w v more_may some clean d = record { served = d.it ∷ []; rest = []; calls = []; bytes = []; lines_are = lines_one line some clean ∙ ap (λ l. l ∷ []) (sym d.line_is); each = (d.served, tt); few = omega arith; calls_are = d.calls_are; text_is = subst (Appends w v) (sym (append-nil (said d.it ++ []) ∙ append-nil (said d.it))) d.text_is; stops = (refl, refl, refl) }

pub last_stops : (line : List ℕ) (count : ℕ) (end : SessionEnd) (made m : List CallSeen) (w v : Bytes) → count < MOST_LINES → 0 < length line → HasNo LINE_FEED line → LineStops line count end made m w v → Ends line count end made m w v
last_stops line count end made m w v more_may some clean d = line_ends line line [] count end made m w v more_may (lines_one line some clean) d

-- the next whole line
pub whole_stops : (rest line behind more : List ℕ) (count : ℕ) (end : SessionEnd) (made m : List CallSeen) (w v : Bytes) → count < MOST_LINES → rest ≡ line ++ LINE_FEED ∷ behind → HasNo LINE_FEED line → LineStops line count end made m w v → Ends (rest ++ more) count end made m w v
whole_stops rest line behind more count end made m w v more_may e clean d = line_ends (rest ++ more) line (lines (behind ++ more)) count end made m w v more_may (ap (λ l. lines (l ++ more)) e ∙ (ap lines (append_assoc line (LINE_FEED ∷ behind) more) ∙ lines_cut line (behind ++ more) clean)) d

-- what is held is too long for a line
pub too_long : (rest more : List ℕ) (count : ℕ) (end : SessionEnd) (made : List CallSeen) (w v : Bytes) → count < MOST_LINES → HasNo LINE_FEED rest → MOST_BYTES < length rest → Refuses count end w v → Ends (rest ++ more) count end made made w v
too_long rest more count end made w v more_may clean long h =
    let l = longer more rest clean (omega arith) in
    line_ends (rest ++ more) l.line l.rest count end made made w v more_may l.lines_are (refused l.line count end made w v more_may (λ good. absurd (omega (arith, good.short, l.long))) h)

-- the rest behind one more line
pub rest_behind : (held line behind : List ℕ) (at : ℕ) → drop at held ≡ line ++ LINE_FEED ∷ behind → drop (at + (length line + 1)) held ≡ behind
rest_behind held line behind at e =
    let f : line ++ LINE_FEED ∷ behind ≡ (line ++ LINE_FEED ∷ []) ++ behind = sym (append_assoc line (LINE_FEED ∷ []) behind) in
    let n : length line + 1 ≡ length (line ++ LINE_FEED ∷ []) = omega (arith, length-append line (LINE_FEED ∷ [])) in
    sym (drop-drop (length line + 1) at held) ∙ (ap (drop (length line + 1)) (e ∙ f) ∙ (ap (λ k. drop k ((line ++ LINE_FEED ∷ []) ++ behind)) n ∙ drop-append_seam (line ++ LINE_FEED ∷ []) behind))
