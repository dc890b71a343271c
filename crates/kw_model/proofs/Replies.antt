-- Equal replies and right ones: that `==` on replies decides whether they are equal, and what it
-- decides of a reply.
use Rattle.std.proofs.Common.{ℕ, Bool, true, false, ◌≡◌, List, refl, sym, ap, ◌∙◌, arith, Decides, IsTrue, ◌↔◌, ◌⊎◌, inl, inr, MatchBool}
use Rattle.std.specs.Cmp.Lexicographic.{pointwise_decides}
use Rattle.std.proofs.lemmas.Bool.Decides.{nat_tests, Decides-eqb}
use Rattle.std.proofs.lemmas.Bool.{false≢true}
use Rattle.kw_model.proofs.Pairs.{pair_same}
use Rattle.kw_model.specs.Same.{same_pair, same_pairs}
use Rattle.kw_model.specs.Map as map
use Rattle.kw_model.specs.Legal.{may_refuse, IsRight}
use Rattle.kw_model.specs.declared.call.Call.{Call}
use Rattle.kw_model.specs.declared.call.Call.TheVariants.{Put, Del, Get, Scan, Pin, ScanAt, Unpin}
use Rattle.kw_model.specs.declared.call.Reply.{Reply}
use Rattle.kw_model.specs.declared.call.Reply.TheVariants.{Done, Value, Absent, Pairs, NoRows, Spent, Stopped, Held, NotPinned}
use Rattle.kw_model.specs.contracts.call.ReplyPartialEq.TheImpl as impl

-- the test on two pairs decides whether they are equal
same_pair_decides : (p q : ℕ × ℕ) → Decides (same_pair p q) (p ≡ q)
same_pair_decides p q = (λ e. pair_same p q (grind (arith, nat_tests, e)) (grind (arith, nat_tests, e)), λ e. let k : p.0 ≡ q.0 = ap (λ r. r.0) e in let l : p.1 ≡ q.1 = ap (λ r. r.1) e in grind (arith, nat_tests))

-- the test on two lists of pairs decides whether they are equal
pub same_pairs_decides : (m n : List (ℕ × ℕ)) → Decides (same_pairs m n) (m ≡ n)
same_pairs_decides m n = pointwise_decides same_pair_decides m n

-- the test on two replies decides whether they are equal
abbrev Same : Reply → Reply → Type 0
Same a b = Decides (impl.ghosts.eq a b) (a ≡ b)

-- where the first is `Done`
at_done : (b : Reply) → Same Done b
at_done Done = (λ _. refl, λ _. refl)
at_done _ = (λ e. absurd (false≢true e), λ e. cc)

-- where the first is `Absent`
at_absent : (b : Reply) → Same Absent b
at_absent Absent = (λ _. refl, λ _. refl)
at_absent _ = (λ e. absurd (false≢true e), λ e. cc)

-- where the first is `NoRows`
at_norows : (b : Reply) → Same NoRows b
at_norows NoRows = (λ _. refl, λ _. refl)
at_norows _ = (λ e. absurd (false≢true e), λ e. cc)

-- where the first is `Spent`
at_spent : (b : Reply) → Same Spent b
at_spent Spent = (λ _. refl, λ _. refl)
at_spent _ = (λ e. absurd (false≢true e), λ e. cc)

-- where the first is `Stopped`
at_stopped : (b : Reply) → Same Stopped b
at_stopped Stopped = (λ _. refl, λ _. refl)
at_stopped _ = (λ e. absurd (false≢true e), λ e. cc)

-- where the first is `Held`
at_held : (b : Reply) → Same Held b
at_held Held = (λ _. refl, λ _. refl)
at_held _ = (λ e. absurd (false≢true e), λ e. cc)

-- where the first is `NotPinned`
at_not_pinned : (b : Reply) → Same NotPinned b
at_not_pinned NotPinned = (λ _. refl, λ _. refl)
at_not_pinned _ = (λ e. absurd (false≢true e), λ e. cc)

-- where the first is a value
at_value : (v : ℕ) (b : Reply) → Same (Value v) b
at_value v (Value w) = (λ e. ap Value ((Decides-eqb v w).0 e), λ e. (Decides-eqb v w).1 cc)
at_value v _ = (λ e. absurd (false≢true e), λ e. cc)

-- where the first is pairs
at_pairs : (m : List (ℕ × ℕ)) (b : Reply) → Same (Pairs m) b
at_pairs m (Pairs n) = (λ e. ap Pairs ((same_pairs_decides m n).0 e), λ e. (same_pairs_decides m n).1 cc)
at_pairs m _ = (λ e. absurd (false≢true e), λ e. cc)

-- `==` on two replies decides whether they are equal
pub same_reply_decides : (a b : Reply) → Decides (impl.ghosts.eq a b) (a ≡ b)
same_reply_decides Done b = at_done b
same_reply_decides (Value v) b = at_value v b
same_reply_decides Absent b = at_absent b
same_reply_decides (Pairs m) b = at_pairs m b
same_reply_decides NoRows b = at_norows b
same_reply_decides Spent b = at_spent b
same_reply_decides Stopped b = at_stopped b
same_reply_decides Held b = at_held b
same_reply_decides NotPinned b = at_not_pinned b

-- whether what was answered is the reply decides whether the reply is right, where it is no refusal
pub right_from_same : (c : Call) (a r right : Reply) (b : Bool) → may_refuse c r ≡ false → a ≡ right → Decides b (a ≡ r) → IsTrue b ↔ MatchBool (may_refuse c r) (Unit {0}) (r ≡ right)
right_from_same c a r right true refused asked same = (λ _. rw refused (sym (same.0 refl) ∙ asked), λ _. refl)
right_from_same c a r right false refused asked same = (λ f. absurd (false≢true f), λ h. absurd (false≢true (same.1 (asked ∙ sym (rw refused at h)))))

-- no answer of the map is a refusal
pub answer_not_refused : (m : map.Pairs) (c : Call) → may_refuse c (map.answer m c) ≡ false
answer_not_refused m (Put k v) = refl
answer_not_refused m (Del k) = refl
answer_not_refused m (Get k) = refl
answer_not_refused m (Scan a b) = refl
answer_not_refused m Pin = refl
answer_not_refused m (ScanAt a b) = refl
answer_not_refused m Unpin = refl

-- a right reply is the map's answer or a refusal in its place, and nothing else
pub right_is : (m : map.Pairs) (c : Call) (r : Reply) → IsRight m c r ↔ ((r ≡ map.answer m c) ⊎ (may_refuse c r ≡ true))
right_is m c r = go (may_refuse c r) refl
  where
    go : (b : Bool) → may_refuse c r ≡ b → MatchBool b (Unit {0}) (r ≡ map.answer m c) ↔ ((r ≡ map.answer m c) ⊎ (may_refuse c r ≡ true))
    go true e = (λ _. inr e, λ _. tt)
    go false e = (λ h. inl h, λ h. which h)
      where
        which : (r ≡ map.answer m c) ⊎ (may_refuse c r ≡ true) → r ≡ map.answer m c
        which (inl h) = h
        which (inr f) = absurd (false≢true (sym e ∙ f))
