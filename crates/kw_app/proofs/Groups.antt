-- Lists in groups, and what holds of their elements one group after the other.
use Rattle.std.proofs.Common.{◌≡◌, ℕ, zero, suc, ◌+◌, ◌-◌, ◌<◌, ◌≤◌, List, [], ◌∷◌, ◌++◌, length, map, slice_index_or, All, IfOk, Ok, Err, Vec, refl, sym, ap, subst, arith, length-append}
use Rattle.std.specs.List.{flat_map}
use Rattle.std.specs.declared.alloc.Global.{Global}
use Rattle.std.specs.declared.alloc.AllocError.{AllocError}
use Rattle.std.specs.declared.result.Result.{Result}
use Rattle.std.proofs.lemmas.Bool.{cases_lt}
use Rattle.std.proofs.lemmas.List.{get_or_append_left, get_or-append-add, get_or-append_right, length-map}
use mathlib.Core.Logic.{⊎_elim}
use Rattle.kw_table.specs.declared.pass.Pass.{Pass}
use Rattle.kw_map.specs.declared.kiwi.Kiwi.{Kiwi}
use Rattle.kw_map.specs.Meetings.{AtEach}
use Rattle.kw_work.specs.Dealing.{Dealt}
use Rattle.kw_app.specs.declared.rounds.Done.{Done}
use Rattle.kw_app.specs.Rounds.{AreDone, AreOfGroups, IsDone}
use Rattle.kw_app.proofs.Each.{each_none}

-- the elements of all groups, one group after the other
abbrev pub flat : {X : Type 0} → List (Vec X Global) → List X
flat {X} gs = flat_map (λ (g : Vec X Global). g.items) gs

-- what holds at each place of two pairs of lists holds where they are put together
pub each_append : {X Y : Type 0} (R : X → Y → Type 0) (xs us : List X) (ys vs : List Y) → length ys ≡ length xs → AtEach R xs ys → AtEach R us vs → AtEach R (xs ++ us) (ys ++ vs)
each_append {X} {Y} R xs us ys vs same a b i d e lt = ⊎_elim
    (λ (l : i < length xs).
    subst (λ (x : X). R x (slice_index_or (ys ++ vs) i e)) (sym (get_or_append_left xs us d i l)) (subst (λ (y : Y). R (slice_index_or xs i d) y) (sym (get_or_append_left ys vs e i (omega arith))) (a i d e l)))
    (λ (ge : length xs ≤ i).
    subst (λ (x : X). R x (slice_index_or (ys ++ vs) i e)) (sym (get_or-append_right xs us (length xs) i d refl ge))
    (subst (λ (y : Y). R (slice_index_or us (i - length xs) d) y) (sym (get_or-append_right ys vs (length xs) i e same ge)) (b (i - length xs) d e (omega (arith, length-append xs us)))))
    (cases_lt i (length xs))

-- what holds of all elements holds of those of each group
pub all_of_group : {X : Type 0} (P : X → Type 0) (gs : List (Vec X Global)) → All P (flat gs) → (i : ℕ) (d : Vec X Global) → i < length gs → All P (slice_index_or gs i d).items
all_of_group P [] all i d lt = absurd (omega arith)
all_of_group P (g ∷ gs) all zero d lt = λ k e lt'. subst P (get_or_append_left g.items (flat gs) e k lt') (all k e (omega (arith, length-append g.items (flat gs))))
all_of_group P (g ∷ gs) all (suc i) d lt =
    all_of_group P gs (λ k e lt'. subst P (get_or-append-add g.items (flat gs) k e) (all (length g.items + k) e (omega (arith, length-append g.items (flat gs))))) i d (omega arith)

-- where the passes of each group are done, all are
pub flat_done : (m : Kiwi) (b : Dealt) (gs : List (Vec Pass Global)) (vs : List (Vec Done Global)) → length vs ≡ length gs
    → AtEach (λ (g : Vec Pass Global) (r : Result (Vec Done Global) AllocError). IfOk r (λ v. AreDone m b g.items v.items)) gs (map Ok vs) → AreDone m b (flat gs) (flat vs)
flat_done m b [] [] same each = record { len = refl; each = each_none (IsDone m b) [] }
flat_done m b [] (v ∷ vs) same each = absurd (omega arith)
flat_done m b (g ∷ gs) [] same each = absurd (omega arith)
flat_done m b (g ∷ gs) (v ∷ vs) same each =
    let here : AreDone m b g.items v.items = each 0 g (Ok v) (omega arith) in
    let rest : AreDone m b (flat gs) (flat vs) = flat_done m b gs vs (omega arith) (λ i d e lt. each (suc i) d e (omega arith)) in
    record {
      len = omega (arith, length-append g.items (flat gs), length-append v.items (flat vs), here.len, rest.len);
      each = each_append (IsDone m b) g.items (flat gs) v.items (flat vs) here.len here.each rest.each;
    }

-- so are the passes that were put in groups, by what is put together of the groups
pub done_of_groups : (m : Kiwi) (b : Dealt) (ps : List Pass) (gs : List (Vec Pass Global)) (parts : List (Result (Vec Done Global) AllocError)) (made : Result (Vec Done Global) AllocError) → flat gs ≡ ps → length parts ≡ length gs
    → AtEach (λ (g : Vec Pass Global) (r : Result (Vec Done Global) AllocError). IfOk r (λ v. AreDone m b g.items v.items)) gs parts
    → IfOk made (λ v. AreOfGroups parts v.items) → IfOk made (λ v. AreDone m b ps v.items)
done_of_groups m b ps gs parts (Err x) is len each of = of
done_of_groups m b ps gs parts (Ok v) is len each of =
    let same : length of.groups ≡ length gs = omega (arith, length-map {B = Result (Vec Done Global) AllocError} of.groups Ok, ap length of.parts_are, len) in
    subst (λ (x : List Pass). AreDone m b x v.items) is (subst (AreDone m b (flat gs)) (sym of.dones_are)
    (flat_done m b gs of.groups same (subst (AtEach (λ (g : Vec Pass Global) (r : Result (Vec Done Global) AllocError). IfOk r (λ v. AreDone m b g.items v.items)) gs) of.parts_are each)))
