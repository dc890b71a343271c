-- What a worker has done, line by line.
use Rattle.std.proofs.Common.{◌≡◌, ◌≢◌, ℕ, zero, suc, ◌+◌, ◌≤◌, take, slice_get, subst, List, [], ◌∷◌, ◌++◌, length, map, refl, ap, sym, ◌∙◌, arith, append-nil, append_assoc, length-append, Option, Some, None}
use Rattle.std.proofs.lemmas.List.{map-append, length-map}
use Rattle.std.proofs.lemmas.Option.{same_Some}
use mathlib.Core.List.{IsPrefix}
use Rattle.std.proofs.lemmas.List.Elements.{All-nil, All-cons, All-append, All-weaker}
use Rattle.kw_model.specs.declared.call.Reply.{Reply}
use Rattle.kw_model.specs.declared.call.Reply.TheVariants.{Stopped}
use Rattle.kw_core.specs.declared.history.End.{End}
use Rattle.kw_laws.specs.SeatCalls.{CallSeen, begun_at, ended_at}
use Rattle.kw_line.specs.declared.answer.Answer.{Answer}
use Rattle.kw_line.specs.declared.item.Form.{Form}
use Rattle.kw_line.specs.Answered.{IsReplyOf, answer_for, answers_for}
use Rattle.kw_table.specs.declared.pass.Pass.{Pass}
use Rattle.kw_follow.specs.Calling.{calls_in, now_in, Calls}
use Rattle.kw_work.specs.declared.line.Line.{Line}
use Rattle.kw_work.specs.Dealing.{part, worker_of}
use Rattle.kw_work.proofs.Shares.{part-nil, line_in, line_out}
use Rattle.kw_app.specs.Recorded.{asked, asks, line_forms, reply_of, AreReplies, EndsBefore, IsWithin}
use Rattle.kw_ask.specs.Asking.{LineAnswered}
use Rattle.kw_app.specs.Working.{Works}

-- the answers to more lines
pub answers_for-append : (ls ms : List Line) (cs ds : List CallSeen) → length cs ≡ length ls
    → answers_for (line_forms (ls ++ ms)) (map reply_of (cs ++ ds)) ≡ answers_for (line_forms ls) (map reply_of cs) ++ answers_for (line_forms ms) (map reply_of ds)
answers_for-append [] ms [] ds same = refl
answers_for-append [] ms (c ∷ cs) ds same = absurd (omega arith)
answers_for-append (l ∷ ls) ms [] ds same = absurd (omega arith)
answers_for-append (l ∷ ls) ms (c ∷ cs) ds same = ap (λ x. answer_for l.form (reply_of c) ∷ x) (answers_for-append ls ms cs ds (omega arith))

-- calls that ask what lines ask are as many
pub as_many : (cs : List CallSeen) (ls : List Line) → asked cs ≡ asks ls → length cs ≡ length ls
as_many cs ls same = sym (length-map cs (λ (c : CallSeen). c.call)) ∙ (ap length same ∙ length-map ls (λ (l : Line). l.call))

-- what has ended before a place has ended before a later one
pub ends_later : (a b : ℕ) (e : Option End) → a ≤ b → EndsBefore a e → EndsBefore b e
ends_later a b None le h = h
ends_later a b (Some x) le h = omega arith

-- a call within some places is within wider ones
pub within_wider : (a b c d : ℕ) → c ≤ a → b ≤ d → (x : CallSeen) → IsWithin a b x → IsWithin c d x
within_wider a b c d p q x h = record { begins = let k = h.begins in omega arith; ends = ends_later b d x.end q h.ends; unstopped = h.unstopped }

-- a reply of a line is not that of a stopped scan
reply_unstopped : (f : Form) (r : Reply) → IsReplyOf f r → r ≡ Stopped → ⊥
reply_unstopped f r h e = subst (IsReplyOf f) e h

-- one line more at the front, and its call
replies_cons : (l : Line) (c : CallSeen) (ls : List Line) (cs : List CallSeen) → IsReplyOf l.form (reply_of c) → AreReplies ls cs → AreReplies (l ∷ ls) (c ∷ cs)
replies_cons l c ls cs h rest zero x y e f = subst (λ (z : Line). IsReplyOf z.form (reply_of y)) (same_Some l x e) (subst (λ (z : CallSeen). IsReplyOf l.form (reply_of z)) (same_Some c y f) h)
replies_cons l c ls cs h rest (suc i) x y e f = rest i x y e f

-- the calls of some lines, and then those of others, each by a reply that its line may have
pub replies_append : (ls ms : List Line) (cs ds : List CallSeen) → length cs ≡ length ls → AreReplies ls cs → AreReplies ms ds → AreReplies (ls ++ ms) (cs ++ ds)
replies_append [] ms [] ds same a b = b
replies_append [] ms (c ∷ cs) ds same a b = absurd (omega arith)
replies_append (l ∷ ls) ms [] ds same a b = absurd (omega arith)
replies_append (l ∷ ls) ms (c ∷ cs) ds same a b = replies_cons l c (ls ++ ms) (cs ++ ds) (a 0 l c refl refl) (replies_append ls ms cs ds (omega arith) (λ i. a (suc i)) b)

-- a longer list is not shorter
pub prefix_length : {A : Type 0} (xs ys : List A) → IsPrefix xs ys → length xs ≤ length ys
prefix_length xs ys p = let e : length xs + length p.0 ≡ length ys = sym (length-append xs p.0) ∙ ap length p.1 in omega arith

-- no line is answered yet
pub works_none : (p : Pass) → Works p p [] []
works_none p = record { made = []; calls = sym (append-nil (calls_in p)); asks_are = refl; within = All-nil (IsWithin (now_in p) (now_in p)); are_replies = λ i l c e f. absurd (cc); answers_are = refl }

-- one line more is answered
pub works_more : (p q r : Pass) (ls : List Line) (l : Line) (done : List Answer) (reply : Reply) → now_in p ≤ now_in q → now_in q ≤ now_in r → Works p q ls done → Calls q r l.call reply → IsReplyOf l.form reply
    → Works p r (ls ++ l ∷ []) (done ++ answer_for l.form reply ∷ [])
works_more p q r ls l done reply before later w c is_reply =
    let one : CallSeen = ended_at c.last reply (begun_at c.first c.number l.call) in
    record {
      made = w.made ++ one ∷ [];
      calls = c.calls ∙ (ap (λ x. x ++ one ∷ []) w.calls ∙ append_assoc (calls_in p) w.made (one ∷ []));
      asks_are = map-append (λ (x : CallSeen). x.call) w.made (one ∷ []) ∙ (ap (λ x. x ++ l.call ∷ []) w.asks_are ∙ sym (map-append (λ (x : Line). x.call) ls (l ∷ [])));
      within = All-append (IsWithin (now_in p) (now_in r)) w.made (one ∷ [])
          (All-weaker (IsWithin (now_in p) (now_in q)) (IsWithin (now_in p) (now_in r)) (λ x h. within_wider (now_in p) (now_in q) (now_in p) (now_in r) (omega arith) later x h) w.made w.within)
          (All-cons (IsWithin (now_in p) (now_in r)) one [] record { begins = let k = c.begins in omega arith; ends = c.ends; unstopped = reply_unstopped l.form reply is_reply } (All-nil (IsWithin (now_in p) (now_in r))));
      are_replies = replies_append ls (l ∷ []) w.made (one ∷ []) (as_many w.made ls w.asks_are) w.are_replies (replies_cons l one [] [] is_reply (λ i x y e f. absurd (cc)));
      answers_are = ap (λ x. x ++ answer_for l.form reply ∷ []) w.answers_are ∙ sym (answers_for-append ls (l ∷ []) w.made (one ∷ []) (as_many w.made ls w.asks_are));
    }

-- so goes the loop over the lines of a block: one of the worker's own is answered
pub works_taken : (p q r : Pass) (n w : ℕ) (lines : List Line) (i : ℕ) (l : Line) (done more : List Answer) (a : Answer) → slice_get lines i ≡ Some l → worker_of n l ≡ w → now_in p ≤ now_in q → now_in q ≤ now_in r
    → Works p q (part n w (take i lines)) done → LineAnswered q r l.call l.form a → more ≡ done ++ a ∷ []
    → Works p r (part n w (take (i + 1) lines)) more
works_taken p q r n w lines i l done more a at own before later works c push =
    let ls : List Line = part n w (take i lines) in
    subst (λ x. Works p r x more) (line_in n w lines ls i l at own refl)
    (subst (λ x. Works p r (ls ++ l ∷ []) x) (sym (push ∙ ap (λ (y : Answer). done ++ y ∷ []) c.answer_is))
    (works_more p q r ls l done c.reply before later works c.calls c.is_reply))

-- and one of another worker is passed
pub works_passed : (p q : Pass) (n w : ℕ) (lines : List Line) (i : ℕ) (l : Line) (done : List Answer) → slice_get lines i ≡ Some l → worker_of n l ≢ w
    → Works p q (part n w (take i lines)) done → Works p q (part n w (take (i + 1) lines)) done
works_passed p q n w lines i l done at other works =
    subst (λ x. Works p q x done) (line_out n w lines (part n w (take i lines)) i l at other refl) works

-- before the first line nothing is done
pub works_at_first : (p : Pass) (n w : ℕ) → Works p p (part n w []) []
works_at_first p n w = subst (λ x. Works p p x []) (sym (part-nil n w)) (works_none p)
