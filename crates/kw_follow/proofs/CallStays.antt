-- The call that a seat makes, as long as its pass begins and ends none.
use Rattle.std.proofs.Common.{◌≡◌, ◌++◌, [], ◌∷◌, List, Some, arith, sym, ◌∙◌, ap, subst, length, length-append}
use Rattle.kw_world.specs.declared.local.Local.{Local}
use Rattle.kw_core.specs.Stages.{IsBusy}
use Rattle.kw_laws.specs.SeatCalls.{CallSeen, HasLast}
use Rattle.kw_laws.proofs.SeatCalls.{calls_in_turn}
use Rattle.kw_world.specs.Sizes.{product}
use Rattle.kw_table.specs.declared.pass.Pass.{Pass}
use Rattle.kw_table.specs.declared.shared.Shared.{Shared}
use Rattle.kw_table.specs.Passes.{view}
use Rattle.kw_table.specs.Views.{local_in}
use Rattle.kw_follow.specs.Calling.{KeepsCalls, calls_in, now_in}
use Rattle.kw_follow.specs.Following.{Follows}
use Rattle.kw_follow.proofs.Fronts.{seat_within}
use Rattle.kw_follow.proofs.OneEvent.{same_activity}

-- lists that are equal have the same last element
same_last : {A : Type 0} (xs ys : List A) (x y : A) → xs ++ x ∷ [] ≡ ys ++ y ∷ [] → x ≡ y
same_last [] [] x y e = cc
same_last [] (b ∷ ys) x y e = absurd (omega (arith, ap length e, length-append ys (y ∷ [])))
same_last (a ∷ xs) [] x y e = absurd (omega (arith, ap length e, length-append xs (x ∷ [])))
same_last (a ∷ xs) (b ∷ ys) x y e =
    let t : xs ++ x ∷ [] ≡ ys ++ y ∷ [] = cc in
    same_last xs ys x y t

-- the call that a busy seat makes is the last one that its pass has seen
makes_last : (s : Shared) (p : Pass) (l : Local) → Follows s p l → IsBusy l.activity → HasLast (now_in p) (local_in (view p)) (calls_in p)
makes_last s p l f busy =
    (calls_in_turn product (view p).opening (view p).number (view p).seen p.known.opens p.known.valid (seat_within p)).makes (subst IsBusy (sym (same_activity s p l f)) busy)

-- a pass that keeps its calls makes the same call, where it makes one before and after
pub call_stays : (s : Shared) (p q : Pass) (l m : Local) → Follows s p l → Follows s q m → KeepsCalls p q → IsBusy l.activity → IsBusy m.activity → m.call ≡ l.call
call_stays s p q l m f g keeps a b =
    let x = makes_last s p l f a in
    let y = makes_last s q m g b in
    let same : x.last ≡ y.last = same_last x.before y.before x.last y.last (sym x.is ∙ (sym keeps ∙ y.is)) in
    ap (λ (k : Local). k.call) g.carries ∙ (y.call ∙ (ap (λ (c : CallSeen). Some c.call) (sym same) ∙ (sym x.call ∙ sym (ap (λ (k : Local). k.call) f.carries))))
