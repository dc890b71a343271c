-- Replies that are right one after the other, and those that are legal in all.
use Rattle.std.proofs.Common.{ℕ, zero, suc, ◌≡◌, ◌+◌, List, [], ◌∷◌, Some, take, slice_get, refl, ap, ◌∙◌, subst, arith}
use Rattle.kw_model.specs.Snapshots.{State, empty}
use Rattle.kw_model.specs.LegalFor.{IsLegalFor, IsRightFor, state_went, state_went_all}
use Rattle.kw_judge.specs.Good.{Recorded, seats, calls, replies}
use Rattle.kw_judge.specs.Verdict.{state_before, IsRightAt}

-- the state after a call that came to this one
abbrev pub went_one : State → Recorded → State
went_one t c = state_went t c.name.seat c.call c.reply

-- the reply to it is right there
abbrev pub IsRightOne : State → Recorded → Type 0
IsRightOne t c = IsRightFor t c.name.seat c.call c.reply

-- the state after calls that came to this one, and whether they are legal from there
abbrev went_by : State → List Recorded → State
went_by t cs = state_went_all t (seats cs) (calls cs) (replies cs)

abbrev AreLegal : State → List Recorded → Type 0
AreLegal t cs = IsLegalFor t (seats cs) (calls cs) (replies cs)

one_more : (t : State) (cs : List Recorded) (n : ℕ) (c : Recorded) → slice_get cs n ≡ Some c → went_by t (take (suc n) cs) ≡ went_one (went_by t (take n cs)) c
one_more t [] n c e = cc
one_more t (d ∷ ds) zero c e = let is : d ≡ c = cc in ap (went_one t) is
one_more t (d ∷ ds) (suc n) c e = one_more (went_one t d) ds n c e

-- the state after one more call
pub state_more : (cs : List Recorded) (n : ℕ) (c : Recorded) → slice_get cs n ≡ Some c → state_before cs (n + 1) ≡ went_one (state_before cs n) c
state_more cs n c e = ap (state_before cs) (plus n) ∙ one_more empty cs n c e
  where
    plus : (k : ℕ) → k + 1 ≡ suc k
    plus k = omega arith

legal_in : (t : State) (cs : List Recorded) → ((k : ℕ) (c : Recorded) → slice_get cs k ≡ Some c → IsRightOne (went_by t (take k cs)) c) → AreLegal t cs
legal_in t [] h = tt
legal_in t (c ∷ cs) h = (h 0 c refl, legal_in (went_one t c) cs (λ k d e. h (suc k) d e))

-- where each reply is right, all are legal
pub legal_from_right : (cs : List Recorded) → ((k : ℕ) (c : Recorded) → slice_get cs k ≡ Some c → IsRightAt cs k c) → AreLegal empty cs
legal_from_right cs h = legal_in empty cs h

right_in : (t : State) (cs : List Recorded) (k : ℕ) (c : Recorded) → AreLegal t cs → slice_get cs k ≡ Some c → IsRightOne (went_by t (take k cs)) c
right_in t [] k c h e = cc
right_in t (d ∷ ds) zero c h e = let is : d ≡ c = cc in subst (IsRightOne t) is h.0
right_in t (d ∷ ds) (suc k) c h e = right_in (went_one t d) ds k c h.1 e

-- where all are legal, each is right
pub right_from_legal : (cs : List Recorded) (k : ℕ) (c : Recorded) → AreLegal empty cs → slice_get cs k ≡ Some c → IsRightAt cs k c
right_from_legal cs k c h e = right_in empty cs k c h e
