-- What the form of a line tells of its call.
use Rattle.std.proofs.Common.{ℕ, Bool, true, false, not, ◌&&◌, cond, ◌≡◌, [], ◌∷◌, Some, refl, sym, ap, ◌∙◌, arith, IsTrue}
use Rattle.std.proofs.lemmas.Bool.{false≢true}
use Rattle.std.proofs.lemmas.Bool.Decides.{nat_tests}
use Rattle.std.proofs.lemmas.List.Elements.{All-cons, All-nil}
use Rattle.kw_model.specs.Map.{Pairs, answer, answers, after}
use Rattle.kw_model.specs.Legal as legal
use Rattle.kw_model.specs.Legal.{IsLegal, may_refuse, is_refusal, went}
use Rattle.kw_model.specs.declared.call.Call.{Call}
use Rattle.kw_model.specs.declared.call.Call.TheVariants.{Put, Del, Get, Scan, Pin, ScanAt, Unpin}
use Rattle.kw_model.specs.declared.call.Reply.{Reply}
use Rattle.kw_model.proofs.Answers.{answers_only}
use Rattle.kw_model.proofs.Replies.{answer_not_refused}
use Rattle.kw_line.specs.declared.item.Form.{Form}
use Rattle.kw_line.specs.declared.item.Form.TheVariants as form
use Rattle.kw_line.specs.Line.{IsCallOf}
use Rattle.kw_line.specs.Answered.{is_update, is_range}
use Rattle.kw_work.specs.LineOrder.{key_of}

-- no test is passed with false
never : (b : Bool) → (b && false) ≡ true → ⊥
never true e = false≢true e
never false e = false≢true e

-- a reply that is no refusal is none of this call's: the call with this reply would be legal, and
-- so the reply the map's answer
not_allowed : (c : Call) (r : Reply) → is_refusal r ≡ false → may_refuse c r ≡ false
not_allowed c r f = go (may_refuse c r) refl
  where
    go : (b : Bool) → may_refuse c r ≡ b → may_refuse c r ≡ false
    go false e = e
    go true e =
        let h : IsLegal [] (c ∷ []) (r ∷ []) = (rw e tt, tt) in
        let only : r ∷ [] ≡ answers [] (c ∷ []) = answers_only [] (c ∷ []) (r ∷ []) (All-cons (λ r. is_refusal r ≡ false) r [] f (All-nil (λ r. is_refusal r ≡ false))) h in
        let is : r ≡ answer [] c = cc in
        ap (may_refuse c) is ∙ answer_not_refused [] c

-- a put is of the one form
put_form : (f : Form) (k v : ℕ) → IsCallOf f (Put k v) → is_update f ≡ true
put_form form.Put k v i = refl
put_form _ k v i = absurd i

-- and so is a delete
del_form : (f : Form) (k : ℕ) → IsCallOf f (Del k) → is_update f ≡ true
del_form form.Del k i = refl
del_form _ k i = absurd i

-- a scan is of the form of a range
pub scan_form : (f : Form) (a b : ℕ) → IsCallOf f (Scan a b) → is_range f ≡ true
scan_form form.Put a b i = absurd i
scan_form form.Del a b i = absurd i
scan_form form.Get a b i = absurd i
scan_form _ a b i = refl

-- no line makes a call of pins
pub no_pin : (f : Form) → IsCallOf f Pin → ⊥
no_pin form.Put i = i
no_pin _ i = i

pub no_scan_at : (f : Form) (a b : ℕ) → IsCallOf f (ScanAt a b) → ⊥
no_scan_at form.Put a b i = i
no_scan_at _ a b i = i

pub no_unpin : (f : Form) → IsCallOf f Unpin → ⊥
no_unpin form.Put i = i
no_unpin _ i = i

-- a call that updates a key has the form of an update
pub update_form : (f : Form) (c : Call) (k : ℕ) (r : Reply) → IsCallOf f c → legal.is_update k c r ≡ true → is_update f ≡ true
update_form f (Put q v) k r i u = put_form f q v i
update_form f (Del q) k r i u = del_form f q i
update_form f (Get q) k r i u = absurd (false≢true u)
update_form f (Scan a b) k r i u = absurd (never (not (may_refuse (Scan a b) r)) u)
update_form f Pin k r i u = absurd (no_pin f i)
update_form f (ScanAt a b) k r i u = absurd (no_scan_at f a b i)
update_form f Unpin k r i u = absurd (no_unpin f i)

-- and is on that key
pub update_key : (c : Call) (k : ℕ) (r : Reply) → legal.is_update k c r ≡ true → key_of c ≡ Some k
update_key (Put q v) k r u = let e : q ≡ k = grind (arith, nat_tests) in ap Some e
update_key (Del q) k r u = let e : q ≡ k = grind (arith, nat_tests) in ap Some e
update_key (Get q) k r u = absurd (false≢true u)
update_key (Scan a b) k r u = absurd (never (not (may_refuse (Scan a b) r)) u)
update_key Pin k r u = absurd (never (not (may_refuse Pin r)) u)
update_key (ScanAt a b) k r u = absurd (never (not (may_refuse (ScanAt a b) r)) u)
update_key Unpin k r u = absurd (never (not (may_refuse Unpin r)) u)

-- where no update is refused, a call leaves the map as if it was answered
pub went_after : (f : Form) (c : Call) (r : Reply) (m : Pairs) → IsCallOf f c → (IsTrue (is_update f) → is_refusal r ≡ false) → went m c r ≡ after m c
went_after f (Put k v) r m i n = ap (λ b. cond b m (after m (Put k v))) (not_allowed (Put k v) r (n (put_form f k v i)))
went_after f (Del k) r m i n = ap (λ b. cond b m (after m (Del k))) (not_allowed (Del k) r (n (del_form f k i)))
went_after f (Get k) r m i n = refl
went_after f (Scan a b) r m i n = go (may_refuse (Scan a b) r)
  where
    go : (b : Bool) → cond b m m ≡ m
    go true = refl
    go false = refl
went_after f Pin r m i n = absurd (no_pin f i)
went_after f (ScanAt a b) r m i n = absurd (no_scan_at f a b i)
went_after f Unpin r m i n = absurd (no_unpin f i)

-- and only a range line is refused
pub refused_range : (f : Form) (c : Call) (r : Reply) → IsCallOf f c → (IsTrue (is_update f) → is_refusal r ≡ false) → may_refuse c r ≡ true → is_range f ≡ true
refused_range f (Put k v) r i n e = absurd (false≢true (sym (not_allowed (Put k v) r (n (put_form f k v i))) ∙ e))
refused_range f (Del k) r i n e = absurd (false≢true (sym (not_allowed (Del k) r (n (del_form f k i))) ∙ e))
refused_range f (Get k) r i n e = absurd (false≢true e)
refused_range f (Scan a b) r i n e = scan_form f a b i
refused_range f Pin r i n e = absurd (no_pin f i)
refused_range f (ScanAt a b) r i n e = absurd (no_scan_at f a b i)
refused_range f Unpin r i n e = absurd (no_unpin f i)
