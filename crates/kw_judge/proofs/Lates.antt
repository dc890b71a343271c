-- Calls that stand behind one that began after they had ended.
use Rattle.std.proofs.Common.{ℕ, ◌≡◌, ◌+◌, ◌<◌, ◌≤◌, ◌⊎◌, inl, inr, max, List, Some, slice_get, sym, ◌∙◌, arith}
use Rattle.std.proofs.lemmas.Bool.{cases_lt}
use Rattle.kw_judge.specs.Good.{Recorded}
use Rattle.kw_judge.specs.Verdict.{IsFirst, AllHold, InTime, IsFirstAfter}
use Rattle.kw_judge.proofs.Firsts.{HoldBelow, more_hold}

-- a call before this place of the order began at this position, or it is 0
abbrev pub IsReached : List Recorded → ℕ → ℕ → Type 0
IsReached cs n greatest = (greatest ≡ 0) ⊎ ((k : ℕ) × (c : Recorded) × (k < n) × (slice_get cs k ≡ Some c) × (c.first ≡ greatest))

-- a call that had not ended before the greatest of these began is in time
pub in_time : (cs : List Recorded) (n greatest : ℕ) (a : Recorded) → HoldBelow (λ _ (c : Recorded). c.first ≤ greatest) cs n → ((last : ℕ) → a.last ≡ Some last → greatest ≤ last) → InTime cs n a
in_time cs n greatest a most late j b l w (end, e, before) = absurd (omega (arith, most j b l w, late end e, before))

-- one more call
pub more_most : (cs : List Recorded) (n greatest : ℕ) (a : Recorded) → slice_get cs n ≡ Some a → HoldBelow (λ _ (c : Recorded). c.first ≤ greatest) cs n → HoldBelow (λ _ (c : Recorded). c.first ≤ max greatest a.first) cs (n + 1)
more_most cs n greatest a there most = more_hold (λ _ (c : Recorded). c.first ≤ max greatest a.first) cs n a there (λ k x l w. let m = most k x l w in omega arith) (omega arith)

pub more_reached : (cs : List Recorded) (n greatest : ℕ) (a : Recorded) → slice_get cs n ≡ Some a → IsReached cs n greatest → IsReached cs (n + 1) (max greatest a.first)
more_reached cs n greatest a there h = elim (cases_lt greatest a.first) [
  | inl more ↦ inr (n, a, omega arith, there, omega arith)
  | inr less ↦ older h (omega arith)
]
  where
    older : IsReached cs n greatest → max greatest a.first ≡ greatest → IsReached cs (n + 1) (max greatest a.first)
    older (inl zero) e = inl (e ∙ zero)
    older (inr (k, c, l, w, f)) e = inr (k, c, omega arith, w, f ∙ sym e)

-- a call that had ended before the greatest of these began: the first that began after its end
-- stands in front of it
pub first_of : (cs : List Recorded) (n greatest last : ℕ) (a b : Recorded) → a.last ≡ Some last → last < greatest → IsReached cs n greatest → IsFirst (λ _ (d : Recorded). d.first ≤ last) (λ _ (d : Recorded). last < d.first) cs b → IsFirstAfter cs b n a
first_of cs n greatest last a b e l (inl zero) f = absurd (omega arith)
first_of cs n greatest last a b e l (inr (k, c, below, w, first)) f = record {
  place = f.place;
  there = f.there;
  fails = (in_front, (last, e, f.fails));
  before = λ j d m v (end, g, h). let is : Some last ≡ Some end = sym e ∙ g in let same : last ≡ end = cc in absurd (omega (arith, f.before j d m v, h, same));
}
  where
    in_front : f.place < n
    in_front = elim (cases_lt k f.place) [
      | inl above ↦ absurd (omega (arith, f.before k c above w, first))
      | inr within ↦ omega arith
    ]

-- there is one
pub none_after : (cs : List Recorded) (n greatest last : ℕ) → last < greatest → IsReached cs n greatest → AllHold (λ _ (d : Recorded). d.first ≤ last) cs → ⊥
none_after cs n greatest last l (inl zero) all = omega arith
none_after cs n greatest last l (inr (k, c, below, w, first)) all = omega (arith, all k c w)
