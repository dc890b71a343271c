-- What the five walks over a record make of it, and that a record has one verdict.
use Rattle.std.proofs.Common.{ℕ, Result, Ok, Err, IfOk, ◌↔◌, zero, suc, ◌≡◌, ◌<◌, List, [], ◌∷◌, ◌++◌, Some, map, slice_get, Contains, refl, sym, ap, ◌∙◌, subst, arith, inl, inr}
use Rattle.std.specs.List.{AllByRecursion}
use Rattle.std.proofs.lemmas.Bool.{cases_lt}
use Rattle.std.proofs.lemmas.Option.{slice_get-get_or, slice_get_within, get_or_from_slice_get}
use Rattle.kw_judge.specs.declared.record.Name.{Name}
use Rattle.kw_judge.specs.declared.record.DoneCall.{DoneCall}
use Rattle.kw_judge.specs.declared.record.OpenCall.{OpenCall}
use Rattle.kw_judge.specs.declared.verdict.Verdict.{Verdict}
use Rattle.kw_judge.specs.declared.verdict.Verdict.TheVariants.{Yes, Twice, Unknown, Missing, Late, Wrong}
use Rattle.kw_judge.specs.Record.{RecordView, IsRecord, IsDone, IsOpen, IsName, Once, names_of}
use Rattle.kw_judge.specs.Good.{Recorded, calls_in_order, EndedBefore, IsGood}
use Rattle.kw_judge.specs.Index.{AreNames}
use Rattle.kw_judge.specs.Verdict.{IsFirst, AllHold, IsNew, StoodBefore, IsTwice, IsUnknown, IsMissing, InTime, IsFirstAfter, IsLate, IsRightAt, IsWrong, AllOnce, AllKnown, NoneMissing, AllInTime, IsVerdict}
use Rattle.kw_judge.proofs.Firsts.{one_first, one_place, not_all}
use Rattle.kw_judge.proofs.Rights.{legal_from_right, right_from_legal}

-- names that are in range one by one are so at each place
pub are_names : (ns : List Name) → AllByRecursion IsName ns → AreNames ns
are_names [] h k n e = cc
are_names (m ∷ ms) h zero n e = let is : m ≡ n = cc in subst IsName is h.0
are_names (m ∷ ms) h (suc k) n e = are_names ms h.1 k n e

line_names : (ds : List DoneCall) (os : List OpenCall) → AllByRecursion IsDone ds → AllByRecursion IsOpen os → AllByRecursion IsName (map (λ (d : DoneCall). d.name) ds ++ map (λ (o : OpenCall). o.name) os)
line_names [] [] h k = tt
line_names [] (o ∷ os) h k = (k.0.name, line_names [] os h k.1)
line_names (d ∷ ds) os h k = (h.0.name, line_names ds os h.1 k)

-- the names of a record's lines are in range
pub named_lines : (r : RecordView) → IsRecord r → AreNames (names_of r)
named_lines r h = are_names (names_of r) (line_names r.done r.open_calls h.each_done h.each_open)

-- what a list has stands at a place of it
at_place : (ns : List Name) (n : Name) → Contains ns n → (k : ℕ) × (slice_get ns k ≡ Some n)
at_place ns n (k, l, e) = (k, slice_get-get_or ns k n l ∙ ap Some e)

has_place : (ns : List Name) (n : Name) (k : ℕ) → slice_get ns k ≡ Some n → Contains ns n
has_place ns n k e = (k, slice_get_within ns k n e, get_or_from_slice_get ns k n n e)

-- each reply is that of the map
abbrev pub AllRight : RecordView → Type 0
AllRight r = AllHold (IsRightAt (calls_in_order r)) (calls_in_order r)

-- a record of which nothing is wrong is good
pub good : (r : RecordView) → AllOnce r → AllKnown r → NoneMissing r → AllInTime r → AllRight r → IsGood r
good r once known missing time right = record {
  once = twice;
  known = λ n h. let p = at_place r.order n h in known p.0 n p.1;
  every = λ n h. let p = at_place (names_of r) n h in missing p.0 n p.1;
  precedes = λ i j a b w v l e. time i a w j b l v e;
  legal = legal_from_right (calls_in_order r) right;
}
  where
    twice : Once r.order
    twice i j n w v = elim (cases_lt i j) [
      | inl below ↦ absurd (once j n v i below w)
      | inr above ↦ elim (cases_lt j i) [
        | inl below ↦ absurd (once i n w j below v)
        | inr same ↦ omega arith
      ]
    ]

-- and of a good record nothing is
good_once : (r : RecordView) → IsGood r → AllOnce r
good_once r g i n w j l v = absurd (omega (arith, g.once i j n w v))

good_known : (r : RecordView) → IsGood r → AllKnown r
good_known r g i n w = g.known n (has_place r.order n i w)

good_missing : (r : RecordView) → IsGood r → NoneMissing r
good_missing r g i n w = g.every n (has_place (names_of r) n i w)

good_time : (r : RecordView) → IsGood r → AllInTime r
good_time r g i a w j b l v e = g.precedes i j a b w v l e

good_right : (r : RecordView) → IsGood r → AllRight r
good_right r g i c w = right_from_legal (calls_in_order r) i c g.legal w

-- What is not wrong is not wrong anywhere.

not_twice : (r : RecordView) (n : Name) → AllOnce r → IsTwice r n → ⊥
not_twice r n all f = not_all (IsNew r.order) (StoodBefore r.order) r.order n (λ k m w new (j, l, v). new j l v) all f

not_unknown : (r : RecordView) (n : Name) → AllKnown r → IsUnknown r n → ⊥
not_unknown r n all f = not_all (λ i m. Contains (names_of r) m) (λ i m. Contains (names_of r) m → ⊥) r.order n (λ k m w h g. g h) all f

not_missing : (r : RecordView) (n : Name) → NoneMissing r → IsMissing r n → ⊥
not_missing r n all f = not_all (λ i m. Contains r.order m) (λ i m. Contains r.order m → ⊥) (names_of r) n (λ k m w h g. g h) all f

-- a call that stands behind one which began after it had ended is not in time
late_is : (cs : List Recorded) (b : Recorded) (i : ℕ) (a : Recorded) → IsFirstAfter cs b i a → InTime cs i a → ⊥
late_is cs b i a f time = time f.place b f.fails.0 f.there f.fails.1

late_first : (cs : List Recorded) (a b : Recorded) → IsFirst (InTime cs) (IsFirstAfter cs b) cs a → IsFirst (InTime cs) (λ i c. InTime cs i c → ⊥) cs a
late_first cs a b f = record { place = f.place; there = f.there; fails = late_is cs b f.place a f.fails; before = f.before }

not_late : (r : RecordView) (m n : Name) → AllInTime r → IsLate r m n → ⊥
not_late r m n all (x, y, e, g, f) = not_all (InTime (calls_in_order r)) (λ i c. InTime (calls_in_order r) i c → ⊥) (calls_in_order r) x (λ k c w h q. q h) all (late_first (calls_in_order r) x y f)

not_wrong : (r : RecordView) (n : Name) → AllRight r → IsWrong r n → ⊥
not_wrong r n all (x, e, f) = not_all (IsRightAt (calls_in_order r)) (λ i (c : Recorded). IsRightAt (calls_in_order r) i c → ⊥) (calls_in_order r) x (λ k c w h q. q h) all f

-- And it is wrong at one place.

one_twice : (r : RecordView) (m n : Name) → IsTwice r m → IsTwice r n → m ≡ n
one_twice r m n f g = one_first (IsNew r.order) (StoodBefore r.order) r.order m n (λ k q w new (j, l, v). new j l v) f g

one_unknown : (r : RecordView) (m n : Name) → IsUnknown r m → IsUnknown r n → m ≡ n
one_unknown r m n f g = one_first (λ i q. Contains (names_of r) q) (λ i q. Contains (names_of r) q → ⊥) r.order m n (λ k q w h o. o h) f g

one_missing : (r : RecordView) (m n : Name) → IsMissing r m → IsMissing r n → m ≡ n
one_missing r m n f g = one_first (λ i q. Contains r.order q) (λ i q. Contains r.order q → ⊥) (names_of r) m n (λ k q w h o. o h) f g

one_after : (cs : List Recorded) (i j : ℕ) (a b c d : Recorded) → i ≡ j → a ≡ b → IsFirstAfter cs c i a → IsFirstAfter cs d j b → c ≡ d
one_after cs i j a b c d e f g h = one_first (λ k q. EndedBefore b q → ⊥) (λ k q. (k < j) × EndedBefore b q) cs c d (λ k q w no yes. no yes.1) (subst (λ (q : Recorded). IsFirstAfter cs c j q) f (subst (λ k. IsFirstAfter cs c k a) e g)) h

late_parts : (a b c d : Name) → a ≡ c → b ≡ d → Late a b ≡ Late c d
late_parts a b c d e f = cc

one_late : (r : RecordView) (a b c d : Name) → IsLate r a b → IsLate r c d → Late a b ≡ Late c d
unfolding late_first
one_late r a b c d (x, y, e, f, h) (v, w, g, k, l) =
    let cs = calls_in_order r in
    let apart : (n : ℕ) (q : Recorded) → slice_get cs n ≡ Some q → InTime cs n q → (InTime cs n q → ⊥) → ⊥ = λ n q s yes no. no yes in
    let first = one_first (InTime cs) (λ i q. InTime cs i q → ⊥) cs x v apart (late_first cs x y h) (late_first cs v w l) in
    let place : h.place ≡ l.place = one_place (InTime cs) (λ i q. InTime cs i q → ⊥) cs x v apart (late_first cs x y h) (late_first cs v w l) in
    let second = one_after cs h.place l.place x v y w place first h.fails l.fails in
    late_parts a b c d (sym e ∙ (ap (λ (q : Recorded). q.name) first ∙ g)) (sym f ∙ (ap (λ (q : Recorded). q.name) second ∙ k))

one_wrong : (r : RecordView) (m n : Name) → IsWrong r m → IsWrong r n → m ≡ n
one_wrong r m n (x, e, f) (y, g, h) = sym e ∙ (ap (λ (q : Recorded). q.name) (one_first (IsRightAt (calls_in_order r)) (λ i (c : Recorded). IsRightAt (calls_in_order r) i c → ⊥) (calls_in_order r) x y (λ k c w yes no. no yes) f h) ∙ g)

-- a record has one verdict
pub one_verdict : (r : RecordView) (v w : Verdict) → IsVerdict r v → IsVerdict r w → v ≡ w
one_verdict r (Twice a) (Twice c) h k = ap Twice (one_twice r a c h k)
one_verdict r (Twice a) (Unknown c) h k = absurd (not_twice r a k.0 h)
one_verdict r (Twice a) (Missing c) h k = absurd (not_twice r a k.0 h)
one_verdict r (Twice a) (Late c d) h k = absurd (not_twice r a k.0 h)
one_verdict r (Twice a) (Wrong c) h k = absurd (not_twice r a k.0 h)
one_verdict r (Twice a) Yes h k = absurd (not_twice r a (good_once r k) h)
one_verdict r (Unknown a) (Twice c) h k = absurd (not_twice r c h.0 k)
one_verdict r (Unknown a) (Unknown c) h k = ap Unknown (one_unknown r a c h.1 k.1)
one_verdict r (Unknown a) (Missing c) h k = absurd (not_unknown r a k.1 h.1)
one_verdict r (Unknown a) (Late c d) h k = absurd (not_unknown r a k.1 h.1)
one_verdict r (Unknown a) (Wrong c) h k = absurd (not_unknown r a k.1 h.1)
one_verdict r (Unknown a) Yes h k = absurd (not_unknown r a (good_known r k) h.1)
one_verdict r (Missing a) (Twice c) h k = absurd (not_twice r c h.0 k)
one_verdict r (Missing a) (Unknown c) h k = absurd (not_unknown r c h.1 k.1)
one_verdict r (Missing a) (Missing c) h k = ap Missing (one_missing r a c h.2 k.2)
one_verdict r (Missing a) (Late c d) h k = absurd (not_missing r a k.2 h.2)
one_verdict r (Missing a) (Wrong c) h k = absurd (not_missing r a k.2 h.2)
one_verdict r (Missing a) Yes h k = absurd (not_missing r a (good_missing r k) h.2)
one_verdict r (Late a b) (Twice c) h k = absurd (not_twice r c h.0 k)
one_verdict r (Late a b) (Unknown c) h k = absurd (not_unknown r c h.1 k.1)
one_verdict r (Late a b) (Missing c) h k = absurd (not_missing r c h.2 k.2)
one_verdict r (Late a b) (Late c d) h k = one_late r a b c d h.3 k.3
one_verdict r (Late a b) (Wrong c) h k = absurd (not_late r a b k.3 h.3)
one_verdict r (Late a b) Yes h k = absurd (not_late r a b (good_time r k) h.3)
one_verdict r (Wrong a) (Twice c) h k = absurd (not_twice r c h.0 k)
one_verdict r (Wrong a) (Unknown c) h k = absurd (not_unknown r c h.1 k.1)
one_verdict r (Wrong a) (Missing c) h k = absurd (not_missing r c h.2 k.2)
one_verdict r (Wrong a) (Late c d) h k = absurd (not_late r c d h.3 k.3)
one_verdict r (Wrong a) (Wrong c) h k = ap Wrong (one_wrong r a c h.4 k.4)
one_verdict r (Wrong a) Yes h k = absurd (not_wrong r a (good_right r k) h.4)
one_verdict r Yes (Twice c) h k = absurd (not_twice r c (good_once r h) k)
one_verdict r Yes (Unknown c) h k = absurd (not_unknown r c (good_known r h) k.1)
one_verdict r Yes (Missing c) h k = absurd (not_missing r c (good_missing r h) k.2)
one_verdict r Yes (Late c d) h k = absurd (not_late r c d (good_time r h) k.3)
one_verdict r Yes (Wrong c) h k = absurd (not_wrong r c (good_right r h) k.4)
one_verdict r Yes Yes h k = refl

-- what is told is the verdict
pub exactly : {E : Type 0} (r : RecordView) (told : Result Verdict E) → IfOk told (IsVerdict r) → IfOk told (λ v. (other : Verdict) → (v ≡ other) ↔ IsVerdict r other)
exactly r (Ok v) h = λ other. (λ e. subst (λ (q : Verdict). IsVerdict r q) e h, λ k. one_verdict r v other h k)
exactly r (Err e) h = tt
