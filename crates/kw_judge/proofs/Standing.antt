-- The calls of an order, by the places of their lines.
use Rattle.std.proofs.Common.{ℕ, zero, suc, ◌≡◌, ◌<◌, List, [], ◌∷◌, ◌++◌, Option, Some, None, option_map, Bool, true, false, cond, eqb, length, map, get_or, slice_get, unwrap_or, Contains, refl, sym, ap, ◌∙◌, subst, arith}
use Rattle.std.specs.List.{find}
use Rattle.std.proofs.lemmas.Bool.{and_parts, eqb-true}
use Rattle.std.proofs.lemmas.Bool.Decides.{nat_tests}
use Rattle.std.proofs.lemmas.Option.{slice_get-map, slice_get-get_or, slice_get_within, get_or_from_slice_get}
use Rattle.std.proofs.lemmas.List.{length-map}
use Rattle.kw_judge.specs.declared.record.Name.{Name}
use Rattle.kw_judge.specs.declared.record.DoneCall.{DoneCall}
use Rattle.kw_judge.specs.declared.record.OpenCall.{OpenCall}
use Rattle.kw_judge.specs.Record.{RecordView, Once, names_of}
use Rattle.kw_judge.specs.Good.{Recorded, answered, unanswered, calls_of, same_name, no_call, call_named, calls_in_order}
use Rattle.kw_judge.specs.Index.{ArePlaces, call_at, StandInOrder}

-- the names of the lines are those of the calls
names_in : (ds : List DoneCall) (os : List OpenCall) → map (λ (d : DoneCall). d.name) ds ++ map (λ (o : OpenCall). o.name) os ≡ map (λ (c : Recorded). c.name) (map answered ds ++ map unanswered os)
names_in [] [] = refl
names_in [] (o ∷ os) = ap (λ t. o.name ∷ t) (names_in [] os)
names_in (d ∷ ds) os = ap (λ t. d.name ∷ t) (names_in ds os)

pub names_are : (r : RecordView) → names_of r ≡ map (λ (c : Recorded). c.name) (calls_of r)
names_are r = names_in r.done r.open_calls

-- the test of names
same_is : (a b : Name) → same_name a b ≡ true → a ≡ b
same_is a b e = let h = and_parts (eqb a.seat b.seat) (eqb a.number b.number) e in parts a.seat b.seat a.number b.number (eqb-true _ _ h.0) (eqb-true _ _ h.1)
  where
    parts : (s t m n : ℕ) → s ≡ t → m ≡ n → let x : Name = record { seat = s; number = m } in let y : Name = record { seat = t; number = n } in x ≡ y
    parts s t m n e f = cc

same_self : (a : Name) → same_name a a ≡ true
same_self a = grind (arith, nat_tests)

-- the call of a name that stands once is the one at its place
pub found_at : (cs : List Recorded) (name : Name) (p : ℕ) → ((i j : ℕ) (n : Name) → slice_get (map (λ (c : Recorded). c.name) cs) i ≡ Some n → slice_get (map (λ (c : Recorded). c.name) cs) j ≡ Some n → i ≡ j) → slice_get (map (λ (c : Recorded). c.name) cs) p ≡ Some name → find (λ c. same_name name c.name) cs ≡ Some (get_or cs p no_call)
found_at [] name p once w = cc
found_at (c ∷ cs) name zero once w = let is : c.name ≡ name = cc in rw is (rw (same_self name) refl)
found_at (c ∷ cs) name (suc p) once w = go (same_name name c.name) refl (found_at cs name p (λ i j n v u. let s = once (suc i) (suc j) n v u in omega arith) w)
  where
    go : (b : Bool) → same_name name c.name ≡ b → find (λ d. same_name name d.name) cs ≡ Some (get_or cs p no_call) → cond b (Some c) (find (λ d. same_name name d.name) cs) ≡ Some (get_or cs p no_call)
    go true e f = let is = same_is name c.name e in absurd (omega (arith, once 0 (suc p) name (ap Some (sym is)) w))
    go false e f = f

-- the places of an order's names are the places of its calls
pub stand : (r : RecordView) (places : List ℕ) → Once (names_of r) → ArePlaces (names_of r) r.order places → StandInOrder r places
stand r places once h = record { calls = calls r.order places h; within = within }
  where
    once_in : Once (map (λ (c : Recorded). c.name) (calls_of r))
    once_in = subst (λ (ns : List Name). Once ns) (names_are r) once

    within : (k p : ℕ) → slice_get places k ≡ Some p → p < length (calls_of r)
    within k p w =
        let named = sym (slice_get-map (slice_get (names_of r)) places k) ∙ (ap (λ xs. slice_get xs k) h ∙ slice_get-map Some r.order k) in
        there (slice_get r.order k) (slice_get (names_of r) p) (sym (ap (λ o. option_map (slice_get (names_of r)) o) w) ∙ named) refl
      where
        there : (o : Option Name) (v : Option Name) → Some v ≡ option_map Some o → slice_get (names_of r) p ≡ v → p < length (calls_of r)
        there None v e f = cc
        there (Some n) v e f =
            let at : slice_get (names_of r) p ≡ Some n = cc in
            omega (arith, slice_get_within (names_of r) p n at, simp length-map at (ap length (names_are r)))

    calls : (ns : List Name) (ps : List ℕ) → map (slice_get (names_of r)) ps ≡ map Some ns → map (call_named r) ns ≡ map (call_at r) ps
    calls [] [] e = refl
    calls [] (p ∷ ps) e = cc
    calls (n ∷ ns) [] e = cc
    calls (n ∷ ns) (p ∷ ps) e =
        let at : slice_get (names_of r) p ≡ Some n = cc in
        let others : map (slice_get (names_of r)) ps ≡ map Some ns = cc in
        let found = found_at (calls_of r) n p once_in (ap (λ (xs : List Name). slice_get xs p) (sym (names_are r)) ∙ at) in
        let first : call_named r n ≡ call_at r p = ap (λ o. unwrap_or o no_call) found in
        let rest = calls ns ps others in
        cc

-- the call that stands at a place of the order
pub stands_at : (r : RecordView) (places : List ℕ) (k d : ℕ) → StandInOrder r places → k < length places → slice_get (calls_in_order r) k ≡ Some (call_at r (get_or places k d))
stands_at r places k d h l = ap (λ xs. slice_get xs k) h.calls ∙ (slice_get-map (call_at r) places k ∙ ap (λ o. option_map (call_at r) o) (slice_get-get_or places k d l))

pub within_at : (r : RecordView) (places : List ℕ) (k d : ℕ) → StandInOrder r places → k < length places → get_or places k d < length (calls_of r)
within_at r places k d h l = h.within k (get_or places k d) (slice_get-get_or places k d l)

pub as_long : (r : RecordView) (places : List ℕ) → StandInOrder r places → length (calls_in_order r) ≡ length places
as_long r places h = ap length h.calls ∙ length-map places (call_at r)

-- names of which each has a place are there
pub known_from : (names order : List Name) (places : List ℕ) → ArePlaces names order places → (k : ℕ) (n : Name) → slice_get order k ≡ Some n → Contains names n
known_from names order places h k n w = at (slice_get places k) (sym (slice_get-map (slice_get names) places k) ∙ (ap (λ xs. slice_get xs k) h ∙ (slice_get-map Some order k ∙ ap (λ o. option_map Some o) w)))
  where
    at : (o : Option ℕ) → option_map (slice_get names) o ≡ Some (Some n) → Contains names n
    at None e = cc
    at (Some p) e = let there : slice_get names p ≡ Some n = cc in (p, slice_get_within names p n there, get_or_from_slice_get names p n n there)
