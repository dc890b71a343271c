-- What an answer tells of the reply that it stands for.
use Rattle.std.proofs.Common.{ℕ, zero, suc, true, false, not, ◌≡◌, IsTrue, List, [], ◌∷◌, length, Option, Some, None, refl, sym, ap, ◌∙◌, arith}
use Rattle.std.specs.List.{slice_get}
use Rattle.std.proofs.lemmas.Bool.{false≢true}
use Rattle.std.proofs.lemmas.Option.{same_Some}
use Rattle.kw_model.specs.Map.{Pairs, value_of, found}
use Rattle.kw_model.specs.Legal.{IsRight, is_refusal, may_refuse}
use Rattle.kw_model.specs.declared.call.Call.{Call}
use Rattle.kw_model.specs.declared.call.Call.TheVariants.{Put, Del, Get, Scan, Pin, ScanAt, Unpin}
use Rattle.kw_model.specs.declared.call.Reply.{Reply}
use Rattle.kw_model.specs.declared.call.Reply.TheVariants as reply
use Rattle.kw_line.specs.declared.answer.Answer.{Answer}
use Rattle.kw_line.specs.declared.answer.Answer.TheVariants as answer
use Rattle.kw_line.specs.declared.item.Form.{Form}
use Rattle.kw_line.specs.declared.item.Form.TheVariants as form
use Rattle.kw_model.specs.Values.{least, greatest, values}
use Rattle.kw_line.specs.Answered.{IsReplyOf, answer_for, answer_of_pairs, answers_for, number_or_nothing, is_update, is_get, is_range}
use Rattle.kw_line.specs.Line.{IsCallOf}
use Rattle.kw_work.proofs.LineCalls.{no_pin, no_scan_at, no_unpin}
use Rattle.kw_laws.specs.Clocks.{IsScan}
use Rattle.kw_app.specs.Running.{is_refused}

-- the answer at a place is that of the reply there
pub answers_at : (fs : List Form) (rs : List Reply) (i : ℕ) (f : Form) (r : Reply) → slice_get fs i ≡ Some f → slice_get rs i ≡ Some r → slice_get (answers_for fs rs) i ≡ Some (answer_for f r)
answers_at [] rs i f r e g = absurd (cc)
answers_at (h ∷ fs) [] i f r e g = absurd (cc)
answers_at (h ∷ fs) (q ∷ rs) zero f r e g = ap (λ x. Some (answer_for x q)) (same_Some h f e) ∙ ap (λ x. Some (answer_for f x)) (same_Some q r g)
answers_at (h ∷ fs) (q ∷ rs) (suc i) f r e g = answers_at fs rs i f r e g

-- answers that agree at each line are the same
pub same_answers : (fs : List Form) (rs ss : List Reply) → length rs ≡ length fs → length ss ≡ length fs
    → ((i : ℕ) (f : Form) → slice_get fs i ≡ Some f → slice_get (answers_for fs rs) i ≡ slice_get (answers_for fs ss) i) → answers_for fs rs ≡ answers_for fs ss
same_answers [] rs ss l m each = refl
same_answers (f ∷ fs) [] ss l m each = absurd (cc)
same_answers (f ∷ fs) (r ∷ rs) [] l m each = absurd (cc)
same_answers (f ∷ fs) (r ∷ rs) (s ∷ ss) l m each =
    let rest = same_answers fs rs ss (omega arith) (omega arith) (λ i g e. each (suc i) g e) in
    ap (λ a. a ∷ answers_for fs rs) (same_Some (answer_for f r) (answer_for f s) (each 0 f refl)) ∙ ap (λ l. answer_for f s ∷ l) rest

-- an answer that is no refusal stands for no refusal
pub unrefused : (f : Form) (r : Reply) → IsReplyOf f r → is_refused (answer_for f r) ≡ false → is_refusal r ≡ false
unrefused f reply.Done h n = refl
unrefused f (reply.Value v) h n = refl
unrefused f reply.Absent h n = refl
unrefused f (reply.Pairs ps) h n = refl
unrefused f reply.NoRows h n = absurd (false≢true (sym n))
unrefused f reply.Spent h n = absurd (false≢true (sym n))
unrefused f reply.Stopped h n = absurd h
unrefused f reply.Held h n = refl
unrefused f reply.NotPinned h n = refl

-- a scan that is refused is answered so
scan_refused : (f : Form) (a b : ℕ) (r : Reply) → IsReplyOf f r → may_refuse (Scan a b) r ≡ true → answer_for f r ≡ answer.Spent
scan_refused f a b reply.Spent g h = refl
scan_refused f a b reply.Stopped g h = absurd g
scan_refused f a b _ g h = absurd (false≢true h)

-- and so is every range line that is refused
pub range_refused : (f : Form) (c : Call) (r : Reply) → IsReplyOf f r → IsCallOf f c → IsTrue (is_range f) → may_refuse c r ≡ true → answer_for f r ≡ answer.Spent
range_refused f (Scan a b) r g i t h = scan_refused f a b r g h
range_refused f Pin r g i t h = absurd (no_pin f i)
range_refused f (ScanAt a b) r g i t h = absurd (no_scan_at f a b i)
range_refused f Unpin r g i t h = absurd (no_unpin f i)
range_refused form.Put (Put k v) r g i t h = absurd (false≢true t)
range_refused form.Del (Del k) r g i t h = absurd (false≢true t)
range_refused form.Get (Get k) r g i t h = absurd (false≢true t)
range_refused _ _ r g i t h = absurd i

-- a number or nothing is no refusal for want of rows
number_served : (n : Option ℕ) → number_or_nothing n ≡ answer.NoRows → ⊥
number_served None e = cc
number_served (Some n) e = cc

-- nor is what a line says of pairs
pairs_served : (f : Form) (ps : Pairs) → answer_of_pairs f ps ≡ answer.NoRows → ⊥
pairs_served form.Sum ps e = cc
pairs_served form.Count ps e = cc
pairs_served form.Least ps e = number_served (least (values ps)) e
pairs_served form.Greatest ps e = number_served (greatest (values ps)) e
pairs_served _ ps e = cc

-- nor is either a refusal for want of versions
number_unspent : (n : Option ℕ) → number_or_nothing n ≡ answer.Spent → ⊥
number_unspent None e = cc
number_unspent (Some n) e = cc

pairs_unspent : (f : Form) (ps : Pairs) → answer_of_pairs f ps ≡ answer.Spent → ⊥
pairs_unspent form.Sum ps e = cc
pairs_unspent form.Count ps e = cc
pairs_unspent form.Least ps e = number_unspent (least (values ps)) e
pairs_unspent form.Greatest ps e = number_unspent (greatest (values ps)) e
pairs_unspent _ ps e = cc

-- what is answered so was refused so
pub spent_reply : (f : Form) (r : Reply) → IsReplyOf f r → answer_for f r ≡ answer.Spent → r ≡ reply.Spent
spent_reply f reply.Spent h e = refl
spent_reply f reply.Done h e = absurd (cc)
spent_reply f (reply.Value v) h e = absurd (cc)
spent_reply f reply.Absent h e = absurd (cc)
spent_reply f (reply.Pairs ps) h e = absurd (pairs_unspent f ps e)
spent_reply f reply.NoRows h e = absurd (cc)
spent_reply f reply.Stopped h e = absurd h
spent_reply f reply.Held h e = absurd h
spent_reply f reply.NotPinned h e = absurd h

-- the calls of lines that ask for a range are the scans
pub range_scan : (f : Form) (c : Call) → IsCallOf f c → IsTrue (is_range f) → (from : ℕ) × (upto : ℕ) × (c ≡ Scan from upto)
range_scan f (Scan a b) i t = (a, b, refl)
range_scan f Pin i t = absurd (no_pin f i)
range_scan f (ScanAt a b) i t = absurd (no_scan_at f a b i)
range_scan f Unpin i t = absurd (no_unpin f i)
range_scan form.Put (Put k v) i t = absurd (false≢true t)
range_scan form.Del (Del k) i t = absurd (false≢true t)
range_scan form.Get (Get k) i t = absurd (false≢true t)
range_scan _ _ i t = absurd i

pub scan_range : (f : Form) (c : Call) → IsCallOf f c → IsScan c → IsTrue (is_range f)
scan_range form.Sum (Scan a b) i s = refl
scan_range form.Count (Scan a b) i s = refl
scan_range form.Least (Scan a b) i s = refl
scan_range form.Greatest (Scan a b) i s = refl
scan_range form.List (Scan a b) i s = refl
scan_range form.Put (Put k v) i s = absurd s
scan_range form.Del (Del k) i s = absurd s
scan_range form.Get (Get k) i s = absurd s
scan_range _ _ i s = absurd i

-- a scan is not refused for want of rows
scan_served : (f : Form) (a b : ℕ) (m : Pairs) (r : Reply) → IsRight m (Scan a b) r → answer_for f r ≡ answer.NoRows → ⊥
scan_served f a b m (reply.Pairs ps) h e = pairs_served f ps e
scan_served f a b m reply.NoRows h e = cc
scan_served f a b m _ h e = cc

-- a value or none, as it is found
get_served : (f : Form) (o : Option ℕ) → is_refused (answer_for f (found o)) ≡ false
get_served f None = refl
get_served f (Some v) = refl

-- the two refusals of a right reply: want of rows stands only for a put or a delete, and want of
-- numbers never for a get
abbrev pub MayBeRefused : Form → Answer → Type 0
MayBeRefused f a = (a ≡ answer.NoRows → IsTrue (is_update f)) × (a ≡ answer.Spent → IsTrue (not (is_get f)))

-- a get is not refused
get_refusal : (f : Form) (k : ℕ) (m : Pairs) (r : Reply) → IsRight m (Get k) r → MayBeRefused f (answer_for f r)
get_refusal f k m r h =
    let n : is_refused (answer_for f r) ≡ false = ap (λ q. is_refused (answer_for f q)) h ∙ get_served f (value_of k m) in
    (λ e. absurd (false≢true (sym n ∙ ap is_refused e)), λ e. absurd (false≢true (sym n ∙ ap is_refused e)))

pub right_refusal : (f : Form) (c : Call) (r : Reply) (m : Pairs) → IsCallOf f c → IsRight m c r → MayBeRefused f (answer_for f r)
right_refusal form.Put (Put k v) r m i h = (λ e. refl, λ e. refl)
right_refusal form.Del (Del k) r m i h = (λ e. refl, λ e. refl)
right_refusal form.Get (Get k) r m i h = get_refusal form.Get k m r h
right_refusal form.Sum (Scan a b) r m i h = (λ e. absurd (scan_served form.Sum a b m r h e), λ e. refl)
right_refusal form.Count (Scan a b) r m i h = (λ e. absurd (scan_served form.Count a b m r h e), λ e. refl)
right_refusal form.Least (Scan a b) r m i h = (λ e. absurd (scan_served form.Least a b m r h e), λ e. refl)
right_refusal form.Greatest (Scan a b) r m i h = (λ e. absurd (scan_served form.Greatest a b m r h e), λ e. refl)
right_refusal form.List (Scan a b) r m i h = (λ e. absurd (scan_served form.List a b m r h e), λ e. refl)
right_refusal _ _ r m i h = absurd i

-- a number or nothing is no refusal, nor is what a line says of pairs
number_answers : (n : Option ℕ) → is_refused (number_or_nothing n) ≡ false
number_answers None = refl
number_answers (Some n) = refl

pairs_answer : (f : Form) (ps : Pairs) → is_refused (answer_of_pairs f ps) ≡ false
pairs_answer form.Sum ps = refl
pairs_answer form.Count ps = refl
pairs_answer form.Least ps = number_answers (least (values ps))
pairs_answer form.Greatest ps = number_answers (greatest (values ps))
pairs_answer _ ps = refl

-- so an answer that stands for no refusal is none
pub served_answer : (f : Form) (r : Reply) → is_refusal r ≡ false → is_refused (answer_for f r) ≡ false
served_answer f reply.Done n = refl
served_answer f (reply.Value v) n = refl
served_answer f reply.Absent n = refl
served_answer f (reply.Pairs ps) n = pairs_answer f ps
served_answer f reply.NoRows n = absurd (false≢true (sym n))
served_answer f reply.Spent n = absurd (false≢true (sym n))
served_answer f reply.Stopped n = absurd (false≢true (sym n))
served_answer f reply.Held n = refl
served_answer f reply.NotPinned n = refl
