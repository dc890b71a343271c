-- Where no call is of snapshots, the map alone decides which replies are right.
use Rattle.std.proofs.Common.{ℕ, suc, false, ◌≡◌, List, [], ◌∷◌, refl, sym, subst, arith, All, ◌↔◌, length}
use Rattle.std.proofs.lemmas.Bool.{false≢true}
use Rattle.kw_model.specs.Map.{answer}
use Rattle.kw_model.specs.Legal.{IsLegal, IsRight, may_refuse}
use Rattle.kw_model.specs.Snapshots.{State, state_answer}
use Rattle.kw_model.specs.LegalFor.{IsRightFor, IsLegalFor, state_went, is_of_snapshots}
use Rattle.kw_model.specs.declared.call.Call.{Call}
use Rattle.kw_model.specs.declared.call.Call.TheVariants.{Put, Del, Get, Scan, Pin, ScanAt, Unpin}
use Rattle.kw_model.specs.declared.call.Reply.{Reply}
use Rattle.kw_model.proofs.Snapshots.{map-went}
use Rattle.std.specs.Prelude.{MatchBool}

-- what is answered is what the map answers
pub answer_of_map : (t : State) (s : ℕ) (c : Call) → is_of_snapshots c ≡ false → state_answer t s c ≡ answer t.map c
answer_of_map t s (Put k v) n = refl
answer_of_map t s (Del k) n = refl
answer_of_map t s (Get k) n = refl
answer_of_map t s (Scan a b) n = refl
answer_of_map t s Pin n = absurd (false≢true (sym n))
answer_of_map t s (ScanAt a b) n = absurd (false≢true (sym n))
answer_of_map t s Unpin n = absurd (false≢true (sym n))

-- a reply is right by the state where it is by the map
pub right_by_map : (t : State) (s : ℕ) (c : Call) (r : Reply) → is_of_snapshots c ≡ false → IsRightFor t s c r ↔ IsRight t.map c r
right_by_map t s c r n =
    let e = answer_of_map t s c n in
    let P = λ (a : Reply). MatchBool (may_refuse c r) (Unit {0}) (r ≡ a) in
    (λ h. subst P e h, λ h. subst P (sym e) h)

-- where no call is of snapshots, replies are legal with seats, whatever these are, where they are
-- legal for the map alone
pub legal_without_pins : (t : State) (ss : List ℕ) (cs : List Call) (rs : List Reply) → length ss ≡ length cs → All (λ c. is_of_snapshots c ≡ false) cs → IsLegalFor t ss cs rs ↔ IsLegal t.map cs rs
legal_without_pins t [] [] [] l n = (λ h. h, λ h. h)
legal_without_pins t [] [] (r ∷ rs) l n = (λ h. h, λ h. h)
legal_without_pins t [] (c ∷ cs) rs l n = absurd (omega arith)
legal_without_pins t (s ∷ ss) [] rs l n = absurd (omega arith)
legal_without_pins t (s ∷ ss) (c ∷ cs) [] l n = (λ h. h, λ h. h)
legal_without_pins t (s ∷ ss) (c ∷ cs) (r ∷ rs) l n =
    let first = right_by_map t s c r (n 0 c (omega arith)) in
    let rest = legal_without_pins (state_went t s c r) ss cs rs (omega arith) (λ k d i. n (suc k) d (omega arith)) in
    let e = map-went t s c r in (
      λ h. (first.0 h.0, subst (λ m. IsLegal m cs rs) e (rest.0 h.1)),
      λ h. (first.1 h.0, rest.1 (subst (λ m. IsLegal m cs rs) (sym e) h.1)),
    )
