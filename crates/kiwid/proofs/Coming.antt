-- What came of a source so far, and what a session is once it ends.
use Rattle.std.proofs.Common.{ℕ, ◌≡◌, ◌≤◌, ◌+◌, inl, inr, List, [], ◌∷◌, ◌++◌, map, length, take, drop, Option, Some, Result, Ok, Err, is_err, is_ok, false, refl, sym, ap, subst, ◌∙◌, arith, append-nil, length-append}
use Rattle.std.specs.Prelude.{if◌then◌else◌}
use Rattle.std.specs.List.{AllByRecursion}
use Rattle.std.specs.Io.KnownBytes.{Consumes, IsAtEnd, Keeps}
use Rattle.std.proofs.KnownBytes.{Consumes-kept, Consumes-nil, Consumes-trans}
use Rattle.std.proofs.lemmas.List.{length-map}
use Rattle.std.proofs.lemmas.Bool.{false≢true}
use Rattle.kw_io.specs.declared.reading.TheConstants.{PIECE}
use Rattle.kw_laws.specs.SeatCalls.{CallSeen}
use Rattle.kw_line.specs.Cut.{lines}
use Rattle.kw_line.proofs.Parts.{lines_none}
use Rattle.kiwid.specs.declared.request.TheConstants.{MOST_BYTES, MOST_LINES}
use Rattle.kiwid.specs.declared.session.SessionEnd.{SessionEnd}
use Rattle.kiwid.specs.declared.session.SessionEnd.TheVariants.{Ended, Bad, Limit, ReadFault, WriteFault, Memory}
use Rattle.kiwid.specs.Requests.{IsGood, line_of}
use Rattle.kiwid.specs.Session.{Ends, IfReadFault, IfWriteFault, IsServedWhole, ReadsOn, Session, made_for}
use Rattle.kiwid.specs.Lines.{Took}
use Rattle.kiwid.proofs.Cuts.{told}
use Rattle.kiwid.proofs.Ways.{took_behind, took_ends, took_none, took_trans}

-- the bytes that a stream tells
abbrev Bytes : Type 0
Bytes = Option (List ℕ)

-- what came so far: its whole lines were answered, and the rest is held
pub record Sofar (left now : Bytes) (held : List ℕ) (made m : List CallSeen) (w v : Bytes) (count : ℕ) : Type 0 where
  pub came : List ℕ
  pub consumed : Consumes left now came
  pub took : Took came held made m w v 0 count

pub at_first : (left : Bytes) (held : List ℕ) (made : List CallSeen) (w : Bytes) (count : ℕ) → held ≡ [] → count ≡ 0 → Sofar left left held made made w w count
at_first left held made w count e f = record { came = held; consumed = subst (Consumes left left) (sym e) (Consumes-nil left); took = subst (λ n. Took held held made made w w 0 n) (sym f) (took_none held made w 0) }

pub more_came : (left now now' : Bytes) (held bytes held' : List ℕ) (made m : List CallSeen) (w v : Bytes) (count : ℕ) → Sofar left now held made m w v count → Consumes now now' bytes → held' ≡ held ++ bytes → Sofar left now' held' made m w v count
more_came left now now' held bytes held' made m w v count s c e = record { came = s.came ++ bytes; consumed = Consumes-trans left now now' s.came bytes s.consumed c; took = subst (λ h. Took (s.came ++ bytes) h made m w v 0 count) (sym e) (took_behind s.came held bytes made m w v 0 count s.took) }

pub more_answered : (left now : Bytes) (held held' : List ℕ) (made m m' : List CallSeen) (w v v' : Bytes) (count n : ℕ) → Sofar left now held made m w v count → Took held held' m m' v v' count n → Sofar left now held' made m' w v' n
more_answered left now held held' made m m' w v v' count n s t = record { came = s.came; consumed = s.consumed; took = took_trans s.came held held' made m m' w v v' 0 count n s.took t }

pub kept_all : (left now now' : Bytes) (held : List ℕ) (made m : List CallSeen) (w v : Bytes) (count : ℕ) → Sofar left now held made m w v count → Keeps now now' → Sofar left now' held made m w v count
kept_all left now now' held made m w v count s k = record { came = s.came; consumed = Consumes-kept left now now' s.came s.consumed k; took = s.took }

pub session_ends : (left now : Bytes) (held : List ℕ) (made m m' : List CallSeen) (w v v' : Bytes) (count : ℕ) (end : SessionEnd) → Sofar left now held made m w v count → ((more : List ℕ) → Ends (held ++ more) count end m m' v v') → Session left end made m' w v'
session_ends left now held made m m' w v v' count end s h =
    let t = told left now s.came s.consumed in
    record { all = s.came ++ t.more; tells = t.tells; ends = took_ends s.came held t.more made m m' w v v' 0 count end s.took (h t.more) }

pub session_last : (left now : Bytes) (held : List ℕ) (made m m' : List CallSeen) (w v v' : Bytes) (count : ℕ) (end : SessionEnd) → Sofar left now held made m w v count → IsAtEnd now → Ends held count end m m' v v' → Session left end made m' w v'
session_last left now held made m m' w v v' count end s e h =
    let t = told left now s.came s.consumed in
    let here : held ≡ held ++ t.more = sym (append-nil held) ∙ ap (λ x. held ++ x) (sym (t.ends e)) in
    record { all = s.came ++ t.more; tells = t.tells; ends = took_ends s.came held t.more made m m' w v v' 0 count end s.took (subst (λ x. Ends x count end m m' v v') here h) }

-- the same, of what a borrow shows of the held bytes
pub session_ends_at : (left now : Bytes) (held shown : List ℕ) (made m m' : List CallSeen) (w v v' : Bytes) (count : ℕ) (end : SessionEnd) → Sofar left now held made m w v count → shown ≡ held → ((more : List ℕ) → Ends (shown ++ more) count end m m' v v') → Session left end made m' w v'
session_ends_at left now held shown made m m' w v v' count end s e h = session_ends left now held made m m' w v v' count end s (λ more. subst (λ x. Ends (x ++ more) count end m m' v v') e (h more))

pub session_last_at : (left now : Bytes) (held shown : List ℕ) (made m m' : List CallSeen) (w v v' : Bytes) (count : ℕ) (end : SessionEnd) → Sofar left now held made m w v count → IsAtEnd now → shown ≡ held → Ends shown count end m m' v v' → Session left end made m' w v'
session_last_at left now held shown made m m' w v v' count end s z e h = session_last left now held made m m' w v v' count end s z (subst (λ x. Ends x count end m m' v v') e h)

pub more_answered_at : (left now : Bytes) (held shown held' : List ℕ) (at : ℕ) (made m m' : List CallSeen) (w v v' : Bytes) (count n : ℕ) → Sofar left now held made m w v count → shown ≡ held → held' ≡ drop at shown → Took shown (drop at shown) m m' v v' count n → Sofar left now held' made m' w v' n
more_answered_at left now held shown held' at made m m' w v v' count n s e f t = more_answered left now held held' made m m' w v v' count n s (subst (λ x. Took x held' m m' v v' count n) e (subst (λ x. Took shown x m m' v v' count n) (sym f) t))

-- calls that went on are not fewer
calls_grow : (made m more : List CallSeen) → m ≡ made ++ more → length made ≤ length m
calls_grow made m more e = omega (arith, ap length e, length-append made more)

pub ends_grow : (all : List ℕ) (count : ℕ) (end : SessionEnd) (made m : List CallSeen) (w v : Bytes) → Ends all count end made m w v → length made ≤ length m
ends_grow all count end made m w v d = calls_grow made m _ d.calls_are

-- what was read beyond the lines that were answered is what is held
pub reads_on : (left now : Bytes) (held : List ℕ) (made m m' : List CallSeen) (w v : Bytes) (count : ℕ) → Sofar left now held made m w v count → length held ≤ MOST_BYTES + PIECE → length m ≤ length m' → ReadsOn left now made m'
reads_on left now held made m m' w v count s short later =
    let t = s.took in
    let asked : lines t.front ≡ map line_of t.served = ap lines (sym (append-nil t.front)) ∙ (t.cut [] ∙ (ap (λ ls. map line_of t.served ++ ls) lines_none ∙ append-nil (map line_of t.served))) in
    let many : length m ≡ length made + length t.served = ap length t.calls_are ∙ (length-append made (map made_for t.served) ∙ ap (λ n. length made + n) (length-map t.served made_for)) in
    let lined : length (lines t.front) ≡ length t.served = ap length asked ∙ length-map t.served line_of in
    record { asked = t.front; beyond = held; taken = subst (Consumes left now) t.front_is s.consumed; made_for_each = omega (arith, many, lined, later); few = short }

-- a read of no byte adds none
pub none_came : (held into : List ℕ) (n : ℕ) → n ≡ 0 → held ≡ held ++ take n into
none_came held into n e = sym (append-nil held) ∙ ap (λ k. held ++ take k into) (sym e)

-- bytes that went behind others
pub grown : {X E : Type 0} (r : Result X E) (new front back : List ℕ) → is_err r ≡ false → new ≡ (if is_ok r then front else back) → new ≡ front
grown (Ok x) new front back e h = h
grown (Err x) new front back e h = absurd (false≢true (sym e))

-- the good lines behind others
good_behind : (xs ys : List (List ℕ)) → AllByRecursion IsGood (xs ++ ys) → AllByRecursion IsGood ys
good_behind [] ys h = h
good_behind (x ∷ xs) ys h = good_behind xs ys h.1

-- where every line is good and none is too many, a session ends well or for want of memory
pub whole : (left : Bytes) (end : SessionEnd) (made made' : List CallSeen) (w w' : Bytes) (bytes : List ℕ) (Read Wrote : Type 0) → Session left end made made' w w' → IfReadFault end Read → IfWriteFault end Wrote → left ≡ Some bytes → AllByRecursion IsGood (lines bytes) → length (lines bytes) ≤ MOST_LINES → (Read → ⊥) → (Wrote → ⊥) → IsServedWhole end
whole left Ended made made' w w' bytes Read Wrote s r k e good few unread unwritten = inl refl
whole left Memory made made' w w' bytes Read Wrote s r k e good few unread unwritten = inr refl
whole left ReadFault made made' w w' bytes Read Wrote s r k e good few unread unwritten = absurd (unread r)
whole left WriteFault made made' w w' bytes Read Wrote s r k e good few unread unwritten = absurd (unwritten k)
whole left (Bad number) made made' w w' bytes Read Wrote s r k e good few unread unwritten =
    let bad = s.ends.stops.4 in
    let cut : lines bytes ≡ map line_of s.ends.served ++ bad.0 ∷ bad.1 = ap lines (sym (s.tells bytes e)) ∙ (s.ends.lines_are ∙ ap (λ ls. map line_of s.ends.served ++ ls) bad.2) in
    let rest = good_behind (map line_of s.ends.served) (bad.0 ∷ bad.1) (subst (AllByRecursion IsGood) cut good) in
    absurd (bad.3 rest.0)
whole left Limit made made' w w' bytes Read Wrote s r k e good few unread unwritten =
    let more = s.ends.stops.3 in
    let cut : lines bytes ≡ map line_of s.ends.served ++ more.0 ∷ more.1 = ap lines (sym (s.tells bytes e)) ∙ (s.ends.lines_are ∙ ap (λ ls. map line_of s.ends.served ++ ls) more.2) in
    let long = simp (length-append, length-map) at (ap length cut) in
    absurd (omega (arith, long, few, s.ends.stops.2))
