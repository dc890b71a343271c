-- What lines that begin a record say of the whole record.
use Rattle.std.proofs.Common.{ℕ, ◌≡◌, ◌≢◌, List, [], ◌∷◌, ◌++◌, map, codes, refl, sym, ap, ◌∙◌, arith, append_assoc}
use Rattle.std.specs.Fmt.{decimal}
use Rattle.std.specs.List.{AllByRecursion}
use Rattle.std.specs.Str.{bytes_eq}
use Rattle.std.proofs.lemmas.Fmt.{decimal_injective}
use Rattle.std.proofs.lemmas.List.{append-nil}
use Rattle.std.proofs.lemmas.Bool.{false≢true}
use Rattle.kw_line.specs.Cut.{words}
use Rattle.kw_line.specs.declared.words.TheConstants.{SPACE}
use Rattle.kw_line.proofs.Parts.{words_cut, words_one}
use Rattle.kw_judge.specs.declared.print.TheConstants.{COLON, DOT}
use Rattle.kw_judge.specs.declared.record.Name.{Name}
use Rattle.kw_judge.specs.declared.record.DoneCall.{DoneCall}
use Rattle.kw_judge.specs.declared.record.OpenCall.{OpenCall}
use Rattle.kw_judge.specs.Record.{RecordView, IsRecord, IsName, IsDone, IsOpen, names_of, record_lines}
use Rattle.kw_judge.specs.Written.{IsNoLine}
use Rattle.kw_judge.specs.Texts.{name_text, call_text, reply_text, done_head, done_text, open_text, order_text}
use Rattle.kw_judge.proofs.Marks.{no_mark, no_mark_decimal}
use Rattle.kw_judge.proofs.Grows.{behind_three}
use Rattle.kw_judge.proofs.Readers.{one_cut}
use Rattle.kw_judge.proofs.LineTexts.{no_space_name, words-open, words-order, no_names}

-- Lines are told apart by their first two words.

done_words : (d : DoneCall) → IsDone d → (more : List (List ℕ)) × (words (done_text d) ≡ codes "done" ∷ (name_text d.name ∷ more))
unfolding done_text done_head
done_words d h =
    let x = COLON ∷ SPACE ∷ reply_text d.reply in
    let rest = decimal d.first ++ SPACE ∷ (decimal d.last ++ SPACE ∷ (call_text d.call ++ x)) in
    let text : done_text d ≡ codes "done" ++ SPACE ∷ (name_text d.name ++ SPACE ∷ rest) = ap (λ t. codes "done " ++ t) (behind_three (name_text d.name) (decimal d.first) (decimal d.last) (call_text d.call) x) in
    (words rest, ap words text ∙ (words_cut (codes "done") (name_text d.name ++ SPACE ∷ rest) (no_mark SPACE (codes "done") refl) ∙ ap (λ ws. codes "done" ∷ ws) (words_cut (name_text d.name) rest (no_space_name d.name h.name))))

order_words_are : (ns : List Name) → AllByRecursion IsName ns → (more : List (List ℕ)) × (words (order_text ns) ≡ codes "order" ∷ more)
order_words_are [] h = (codes "none" ∷ [], ap words no_names ∙ (words_cut (codes "order") (codes "none") (no_mark SPACE (codes "order") refl) ∙ ap (λ ws. codes "order" ∷ ws) (words_one (codes "none") (no_mark SPACE (codes "none") refl))))
order_words_are (n ∷ ns) h = (map name_text (n ∷ ns), words-order n ns h)

pub name_injective : (a b : Name) → IsName a → IsName b → name_text a ≡ name_text b → a ≡ b
name_injective a b h k e =
    let parts = one_cut DOT (decimal a.seat) (decimal b.seat) (decimal a.number) (decimal b.number) (no_mark_decimal DOT a.seat (λ p q. omega arith) (omega (arith, h.0))) (no_mark_decimal DOT b.seat (λ p q. omega arith) (omega (arith, k.0))) e in
    both a.seat b.seat a.number b.number (decimal_injective a.seat b.seat (omega (arith, h.0)) (omega (arith, k.0)) parts.0) (decimal_injective a.number b.number (omega (arith, h.2)) (omega (arith, k.2)) parts.1)
  where
    both : (s t m n : ℕ) → s ≡ t → m ≡ n → let x : Name = record { seat = s; number = m } in let y : Name = record { seat = t; number = n } in x ≡ y
    both s t m n e f = cc

same_done : (d e : DoneCall) → IsDone d → IsDone e → done_text d ≡ done_text e → d.name ≡ e.name
same_done d e h k t =
    let p = done_words d h in
    let q = done_words e k in
    let all : codes "done" ∷ (name_text d.name ∷ p.0) ≡ codes "done" ∷ (name_text e.name ∷ q.0) = sym p.1 ∙ (ap words t ∙ q.1) in
    let same : name_text d.name ≡ name_text e.name = cc in
    name_injective d.name e.name h.name k.name same

same_open : (d e : OpenCall) → IsOpen d → IsOpen e → open_text d ≡ open_text e → d.name ≡ e.name
same_open d e h k t =
    let all = sym (words-open d h) ∙ (ap words t ∙ words-open e k) in
    let same : name_text d.name ≡ name_text e.name = cc in
    name_injective d.name e.name h.name k.name same

pub done_not_open : (d : DoneCall) (o : OpenCall) → IsDone d → IsOpen o → done_text d ≢ open_text o
done_not_open d o h k t =
    let p = done_words d h in
    let all = sym p.1 ∙ (ap words t ∙ words-open o k) in
    let same : codes "done" ≡ codes "open" = cc in
    false≢true (sym (ap (λ w. bytes_eq w (codes "done")) same))

pub done_not_order : (d : DoneCall) (ns : List Name) → IsDone d → AllByRecursion IsName ns → done_text d ≢ order_text ns
done_not_order d ns h k t =
    let p = done_words d h in
    let q = order_words_are ns k in
    let all = sym p.1 ∙ (ap words t ∙ q.1) in
    let same : codes "done" ≡ codes "order" = cc in
    false≢true (sym (ap (λ w. bytes_eq w (codes "done")) same))

pub open_not_order : (o : OpenCall) (ns : List Name) → IsOpen o → AllByRecursion IsName ns → open_text o ≢ order_text ns
open_not_order o ns h k t =
    let q = order_words_are ns k in
    let all = sym (words-open o h) ∙ (ap words t ∙ q.1) in
    let same : codes "open" ≡ codes "order" = cc in
    false≢true (sym (ap (λ w. bytes_eq w (codes "open")) same))

-- The lines of calls that begin a record's lines are those of its first calls.

abbrev done_names : List DoneCall → List Name
done_names ds = map (λ (d : DoneCall). d.name) ds

abbrev open_names : List OpenCall → List Name
open_names os = map (λ (o : OpenCall). o.name) os

-- what is left of open calls and the order, after lines of open calls
pub record OpensLeft (names : List Name) (order : List Name) (os : List OpenCall) (rest : List (List ℕ)) : Type 0 where
  pub more : List OpenCall
  pub each : AllByRecursion IsOpen more
  pub named : names ≡ open_names os ++ open_names more
  pub left : rest ≡ map open_text more ++ order_text order ∷ []

open_prefix : (os ps : List OpenCall) (order : List Name) (rest : List (List ℕ)) → AllByRecursion IsOpen os → AllByRecursion IsOpen ps → AllByRecursion IsName order → map open_text os ++ rest ≡ map open_text ps ++ order_text order ∷ [] → OpensLeft (open_names ps) order os rest
open_prefix [] ps order rest h k n e = record { more = ps; each = k; named = refl; left = e }
open_prefix (o ∷ os) [] order rest h k n e = let same : open_text o ≡ order_text order = cc in absurd (open_not_order o order h.0 n same)
open_prefix (o ∷ os) (p ∷ ps) order rest h k n e =
    let same : open_text o ≡ open_text p = cc in
    let others : map open_text os ++ rest ≡ map open_text ps ++ order_text order ∷ [] = cc in
    let i = open_prefix os ps order rest h.1 k.1 n others in
    let name = same_open o p h.0 k.0 same in
    record { more = i.more; each = i.each; named = ap (λ m. m ∷ open_names ps) (sym name) ∙ ap (λ ns. o.name ∷ ns) i.named; left = i.left }

pub record DonesLeft (names : List Name) (tail : List (List ℕ)) (ds : List DoneCall) (rest : List (List ℕ)) : Type 0 where
  pub more : List DoneCall
  pub each : AllByRecursion IsDone more
  pub named : names ≡ done_names ds ++ done_names more
  pub left : rest ≡ map done_text more ++ tail

-- no answered call's line begins what follows the answered calls
pub not_done : (d : DoneCall) (ps : List OpenCall) (order : List Name) (ys : List (List ℕ)) → IsDone d → AllByRecursion IsOpen ps → AllByRecursion IsName order → done_text d ∷ ys ≡ map open_text ps ++ order_text order ∷ [] → ⊥
not_done d [] order ys h k n e = let same : done_text d ≡ order_text order = cc in done_not_order d order h n same
not_done d (p ∷ ps) order ys h k n e = let same : done_text d ≡ open_text p = cc in done_not_open d p h k.0 same

done_prefix : (ds es : List DoneCall) (ps : List OpenCall) (order : List Name) (rest : List (List ℕ)) → AllByRecursion IsDone ds → AllByRecursion IsDone es → AllByRecursion IsOpen ps → AllByRecursion IsName order → map done_text ds ++ rest ≡ map done_text es ++ (map open_text ps ++ order_text order ∷ []) → DonesLeft (done_names es) (map open_text ps ++ order_text order ∷ []) ds rest
done_prefix [] es ps order rest h k l n e = record { more = es; each = k; named = refl; left = e }
done_prefix (d ∷ ds) [] ps order rest h k l n e = absurd (not_done d ps order (map done_text ds ++ rest) h.0 l n e)
done_prefix (d ∷ ds) (c ∷ es) ps order rest h k l n e =
    let same : done_text d ≡ done_text c = cc in
    let others : map done_text ds ++ rest ≡ map done_text es ++ (map open_text ps ++ order_text order ∷ []) = cc in
    let i = done_prefix ds es ps order rest h.1 k.1 l n others in
    let name = same_done d c h.0 k.0 same in
    record { more = i.more; each = i.each; named = ap (λ m. m ∷ done_names es) (sym name) ∙ ap (λ ns. d.name ∷ ns) i.named; left = i.left }

-- the calls that are begun with, in range
pub record Begun (ds : List DoneCall) (os : List OpenCall) : Type 0 where
  pub done : AllByRecursion IsDone ds
  pub open_calls : AllByRecursion IsOpen os

-- what is left of a whole record, where what follows does not go on with an answered call
split : (w : RecordView) (ds : List DoneCall) (os : List OpenCall) (x : List (List ℕ)) → IsRecord w → Begun ds os → record_lines w ≡ (map done_text ds ++ map open_text os) ++ x → ((d : DoneCall) (ys : List (List ℕ)) → IsDone d → map open_text os ++ x ≡ done_text d ∷ ys → ⊥) → (l : OpensLeft (open_names w.open_calls) w.order os x) × (done_names w.done ≡ done_names ds)
split w ds os x h b e none = go (done_prefix ds w.done w.open_calls w.order (map open_text os ++ x) b.done h.each_done h.each_open h.each_name (sym (append_assoc (map done_text ds) (map open_text os) x) ∙ (sym e ∙ append_assoc (map done_text w.done) (map open_text w.open_calls) (order_text w.order ∷ []))))
  where
    go : DonesLeft (done_names w.done) (map open_text w.open_calls ++ order_text w.order ∷ []) ds (map open_text os ++ x) → (l : OpensLeft (open_names w.open_calls) w.order os x) × (done_names w.done ≡ done_names ds)
    go l = at l.more l.each l.named l.left
      where
        at : (more : List DoneCall) → AllByRecursion IsDone more → done_names w.done ≡ done_names ds ++ done_names more → map open_text os ++ x ≡ map done_text more ++ (map open_text w.open_calls ++ order_text w.order ∷ []) → (l : OpensLeft (open_names w.open_calls) w.order os x) × (done_names w.done ≡ done_names ds)
        at [] each named left = (open_prefix os w.open_calls w.order x b.open_calls h.each_open h.each_name left, named ∙ append-nil (done_names ds))
        at (d ∷ more) each named left = absurd (none d (map done_text more ++ (map open_text w.open_calls ++ order_text w.order ∷ [])) each.0 left)

-- an answered call more: the names of the record go on with its name
pub done_follows : (w : RecordView) (ds : List DoneCall) (d : DoneCall) (rest : List (List ℕ)) → IsRecord w → AllByRecursion IsDone ds → IsDone d → record_lines w ≡ map done_text ds ++ done_text d ∷ rest → (more : List Name) × (names_of w ≡ done_names ds ++ d.name ∷ more)
done_follows w ds d rest h each is e = go (done_prefix ds w.done w.open_calls w.order (done_text d ∷ rest) each h.each_done h.each_open h.each_name (sym e ∙ append_assoc (map done_text w.done) (map open_text w.open_calls) (order_text w.order ∷ [])))
  where
    go : DonesLeft (done_names w.done) (map open_text w.open_calls ++ order_text w.order ∷ []) ds (done_text d ∷ rest) → (more : List Name) × (names_of w ≡ done_names ds ++ d.name ∷ more)
    go l = at l.more l.each l.named l.left
      where
        at : (more : List DoneCall) → AllByRecursion IsDone more → done_names w.done ≡ done_names ds ++ done_names more → done_text d ∷ rest ≡ map done_text more ++ (map open_text w.open_calls ++ order_text w.order ∷ []) → (more : List Name) × (names_of w ≡ done_names ds ++ d.name ∷ more)
        at [] k named left = absurd (not_done d w.open_calls w.order rest is h.each_open h.each_name left)
        at (c ∷ more) k named left =
            let same : done_text d ≡ done_text c = cc in
            let name = same_done d c is k.0 same in
            (done_names more ++ open_names w.open_calls, ap (λ ns. ns ++ open_names w.open_calls) (named ∙ ap (λ n. done_names ds ++ n ∷ done_names more) (sym name)) ∙ append_assoc (done_names ds) (d.name ∷ done_names more) (open_names w.open_calls))

-- lines that begin with an open call's do not begin with an answered one's
open_first : (o : OpenCall) (os : List OpenCall) (x : List (List ℕ)) → IsOpen o → (d : DoneCall) (ys : List (List ℕ)) → IsDone d → map open_text (o ∷ os) ++ x ≡ done_text d ∷ ys → ⊥
open_first o os x h d ys k e = let same : done_text d ≡ open_text o = cc in done_not_open d o k h same

-- an open call more
pub open_follows : (w : RecordView) (ds : List DoneCall) (os : List OpenCall) (o : OpenCall) (rest : List (List ℕ)) → IsRecord w → Begun ds os → IsOpen o → record_lines w ≡ (map done_text ds ++ map open_text os) ++ open_text o ∷ rest → (more : List Name) × (names_of w ≡ (done_names ds ++ open_names os) ++ o.name ∷ more)
open_follows w ds os o rest h b is e = go (split w ds os (open_text o ∷ rest) h b e (none os b.open_calls))
  where
    none : (ps : List OpenCall) → AllByRecursion IsOpen ps → (d : DoneCall) (ys : List (List ℕ)) → IsDone d → map open_text ps ++ (open_text o ∷ rest) ≡ done_text d ∷ ys → ⊥
    none [] k d ys l f = let same : done_text d ≡ open_text o = cc in done_not_open d o l is same
    none (p ∷ ps) k d ys l f = open_first p ps (open_text o ∷ rest) k.0 d ys l f

    go : (l : OpensLeft (open_names w.open_calls) w.order os (open_text o ∷ rest)) × (done_names w.done ≡ done_names ds) → (more : List Name) × (names_of w ≡ (done_names ds ++ open_names os) ++ o.name ∷ more)
    go (l, dones) = at l.more l.each l.named l.left
      where
        at : (more : List OpenCall) → AllByRecursion IsOpen more → open_names w.open_calls ≡ open_names os ++ open_names more → open_text o ∷ rest ≡ map open_text more ++ order_text w.order ∷ [] → (more : List Name) × (names_of w ≡ (done_names ds ++ open_names os) ++ o.name ∷ more)
        at [] k named left = let same : open_text o ≡ order_text w.order = cc in absurd (open_not_order o w.order is h.each_name same)
        at (c ∷ more) k named left =
            let same : open_text o ≡ open_text c = cc in
            let name = same_open o c is k.0 same in
            (open_names more, ap (λ ns. ns ++ open_names w.open_calls) dones ∙ (ap (λ ns. done_names ds ++ ns) (named ∙ ap (λ n. open_names os ++ n ∷ open_names more) (sym name)) ∙ sym (append_assoc (done_names ds) (open_names os) (o.name ∷ open_names more))))

-- no answered call after an open one
pub no_done_after : (w : RecordView) (ds : List DoneCall) (o : OpenCall) (os : List OpenCall) (d : DoneCall) (rest : List (List ℕ)) → IsRecord w → Begun ds (o ∷ os) → IsDone d → record_lines w ≡ (map done_text ds ++ map open_text (o ∷ os)) ++ done_text d ∷ rest → ⊥
no_done_after w ds o os d rest h b is e = go (split w ds (o ∷ os) (done_text d ∷ rest) h b e (open_first o os (done_text d ∷ rest) b.open_calls.0))
  where
    go : (l : OpensLeft (open_names w.open_calls) w.order (o ∷ os) (done_text d ∷ rest)) × (done_names w.done ≡ done_names ds) → ⊥
    go (l, dones) = not_done d l.more w.order rest is l.each h.each_name l.left

-- nothing after the order
pub no_line_after : (w : RecordView) (ds : List DoneCall) (os : List OpenCall) (order : List Name) (line : List ℕ) (rest : List (List ℕ)) → IsRecord w → Begun ds os → AllByRecursion IsName order → record_lines w ≡ (map done_text ds ++ map open_text os) ++ (order_text order ∷ (line ∷ rest)) → ⊥
no_line_after w ds os order line rest h b n e = go (split w ds os (order_text order ∷ (line ∷ rest)) h b e (none os b.open_calls))
  where
    none : (ps : List OpenCall) → AllByRecursion IsOpen ps → (d : DoneCall) (ys : List (List ℕ)) → IsDone d → map open_text ps ++ (order_text order ∷ (line ∷ rest)) ≡ done_text d ∷ ys → ⊥
    none [] k d ys l f = let same : done_text d ≡ order_text order = cc in done_not_order d order l n same
    none (p ∷ ps) k d ys l f = open_first p ps (order_text order ∷ (line ∷ rest)) k.0 d ys l f

    go : (l : OpensLeft (open_names w.open_calls) w.order os (order_text order ∷ (line ∷ rest))) × (done_names w.done ≡ done_names ds) → ⊥
    go (l, dones) = at l.more l.each l.left
      where
        at : (more : List OpenCall) → AllByRecursion IsOpen more → order_text order ∷ (line ∷ rest) ≡ map open_text more ++ order_text w.order ∷ [] → ⊥
        at [] k left = cc
        at (c ∷ more) k left = let same : open_text c ≡ order_text order = cc in open_not_order c order k.0 n same

-- no whole record without an order
pub no_whole : (w : RecordView) (ds : List DoneCall) (os : List OpenCall) → IsRecord w → Begun ds os → record_lines w ≡ (map done_text ds ++ map open_text os) ++ [] → ⊥
no_whole w ds os h b e = go (split w ds os [] h b e (none os b.open_calls))
  where
    none : (ps : List OpenCall) → AllByRecursion IsOpen ps → (d : DoneCall) (ys : List (List ℕ)) → IsDone d → map open_text ps ++ [] ≡ done_text d ∷ ys → ⊥
    none [] k d ys l f = cc
    none (p ∷ ps) k d ys l f = open_first p ps [] k.0 d ys l f

    go : (l : OpensLeft (open_names w.open_calls) w.order os []) × (done_names w.done ≡ done_names ds) → ⊥
    go (l, dones) = at l.more l.left
      where
        at : (more : List OpenCall) → [] ≡ map open_text more ++ order_text w.order ∷ [] → ⊥
        at [] left = cc
        at (c ∷ more) left = cc

-- no line that is none
none_in_opens : (ls rest : List (List ℕ)) (line : List ℕ) (os : List OpenCall) (order : List Name) → IsNoLine line → AllByRecursion IsOpen os → AllByRecursion IsName order → map open_text os ++ order_text order ∷ [] ≡ ls ++ line ∷ rest → ⊥
none_in_opens [] rest line [] order nothing h n e = let same : line ≡ order_text order = cc in nothing.order order n same
none_in_opens [] rest line (o ∷ os) order nothing h n e = let same : line ≡ open_text o = cc in nothing.open_calls o h.0 same
none_in_opens (l ∷ []) rest line [] order nothing h n e = cc
none_in_opens (l ∷ (m ∷ ls)) rest line [] order nothing h n e = cc
none_in_opens (l ∷ ls) rest line (o ∷ os) order nothing h n e = let others : map open_text os ++ order_text order ∷ [] ≡ ls ++ line ∷ rest = cc in none_in_opens ls rest line os order nothing h.1 n others

none_in : (ls rest : List (List ℕ)) (line : List ℕ) (ds : List DoneCall) (os : List OpenCall) (order : List Name) → IsNoLine line → AllByRecursion IsDone ds → AllByRecursion IsOpen os → AllByRecursion IsName order → map done_text ds ++ (map open_text os ++ order_text order ∷ []) ≡ ls ++ line ∷ rest → ⊥
none_in ls rest line [] os order nothing h k n e = none_in_opens ls rest line os order nothing k n e
none_in [] rest line (d ∷ ds) os order nothing h k n e = let same : line ≡ done_text d = cc in nothing.done d h.0 same
none_in (l ∷ ls) rest line (d ∷ ds) os order nothing h k n e = let others : map done_text ds ++ (map open_text os ++ order_text order ∷ []) ≡ ls ++ line ∷ rest = cc in none_in ls rest line ds os order nothing h.1 k n others

pub no_such_line : (w : RecordView) (ls rest : List (List ℕ)) (line : List ℕ) → IsRecord w → IsNoLine line → record_lines w ≡ ls ++ line ∷ rest → ⊥
no_such_line w ls rest line h nothing e = none_in ls rest line w.done w.open_calls w.order nothing h.each_done h.each_open h.each_name (sym (append_assoc (map done_text w.done) (map open_text w.open_calls) (order_text w.order ∷ [])) ∙ e)
