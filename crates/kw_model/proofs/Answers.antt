-- Legal replies without a refusal are the map's answers, one after the other.
use Rattle.std.proofs.Common.{suc, false, ◌≡◌, List, [], ◌∷◌, refl, ap, ◌∙◌, arith, All}
use Rattle.kw_model.specs.Map.{Pairs, answer, answers, after}
use Rattle.kw_model.specs.Legal.{IsLegal, may_refuse, is_refusal}
use Rattle.kw_model.specs.declared.call.Call.{Call}
use Rattle.kw_model.specs.declared.call.Call.TheVariants.{Put, Del, Get, Scan, Pin, ScanAt, Unpin}
use Rattle.kw_model.specs.declared.call.Reply.{Reply}
use Rattle.kw_model.specs.declared.call.Reply.TheVariants.{NoRows, Spent, Stopped}
use Rattle.kw_model.proofs.Replies.{answer_not_refused}

-- a reply that is no refusal is none of any call's refusals
not_allowed : (c : Call) (r : Reply) → is_refusal r ≡ false → may_refuse c r ≡ false
not_allowed (Put k v) NoRows f = f
not_allowed (Put k v) Spent f = f
not_allowed (Put k v) _ f = refl
not_allowed (Del k) NoRows f = f
not_allowed (Del k) Spent f = f
not_allowed (Del k) _ f = refl
not_allowed (Get k) r f = refl
not_allowed (Scan a b) Spent f = f
not_allowed (Scan a b) Stopped f = f
not_allowed (Scan a b) _ f = refl
not_allowed Pin Spent f = f
not_allowed Pin _ f = refl
not_allowed (ScanAt a b) Stopped f = f
not_allowed (ScanAt a b) _ f = refl
not_allowed Unpin r f = refl

-- the map's own answers are legal
pub answers_legal : (m : Pairs) (cs : List Call) → IsLegal m cs (answers m cs)
answers_legal m [] = tt
answers_legal m (c ∷ cs) = let f = answer_not_refused m c in (rw f refl, rw f (answers_legal (after m c) cs))

-- where none is a refusal, legal replies are the map's answers
pub answers_only : (m : Pairs) (cs : List Call) (rs : List Reply) → All (λ r. is_refusal r ≡ false) rs → IsLegal m cs rs → rs ≡ answers m cs
answers_only m [] [] n h = refl
answers_only m [] (r ∷ rs) n h = absurd h
answers_only m (c ∷ cs) [] n h = absurd h
answers_only m (c ∷ cs) (r ∷ rs) n h =
    let f = not_allowed c r (n 0 r (omega arith)) in
    let first : r ≡ answer m c = rw f at h.0 in
    let rest = answers_only (after m c) cs rs (λ k d l. n (suc k) d (omega arith)) (rw f at h.1) in
    ap (λ q. q ∷ rs) first ∙ ap (λ qs. answer m c ∷ qs) rest
