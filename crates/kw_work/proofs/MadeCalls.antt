-- Calls that were made, by their numbers, and the order of their lines.
use Rattle.std.proofs.Common.{ℕ, zero, suc, ◌≡◌, ◌<◌, List, [], ◌∷◌, length, map, Some, refl, sym, ap, ◌∙◌, subst}
use Rattle.std.specs.List.{slice_get}
use Rattle.std.specs.Option.{option_map}
use Rattle.std.proofs.lemmas.Option.{same_Some, slice_get-map, slice_get_within, get_or_from_slice_get}
use Rattle.kw_model.specs.Legal.{IsLegal}
use Rattle.kw_model.specs.declared.call.Call.{Call}
use Rattle.kw_model.specs.declared.call.Reply.{Reply}
use Rattle.kw_work.specs.LineOrder.{IsOrderOf, StandsBefore, IsLegalIn, call_at, reply_at, AreOfLines, StandsBeforeBy}

-- an element of what a function gives for each element
from_map : {X Y : Type 0} (f : X → Y) (xs : List X) (k : ℕ) (y : Y) → slice_get (map f xs) k ≡ Some y → (x : X) × (slice_get xs k ≡ Some x) × (f x ≡ y)
from_map f [] k y e = absurd (cc)
from_map f (x ∷ xs) zero y e = (x, refl, same_Some (f x) y e)
from_map f (x ∷ xs) (suc k) y e = from_map f xs k y e

-- two functions, one after the other, which give for each element what a third gives
map_through : {X Y Z : Type 0} (f : X → Y) (g : Y → Z) (h : X → Z) (xs : List X) → ((k : ℕ) (x : X) → slice_get xs k ≡ Some x → g (f x) ≡ h x) → map g (map f xs) ≡ map h xs
map_through f g h [] same = refl
map_through f g h (x ∷ xs) same = ap (λ z. z ∷ map g (map f xs)) (same 0 x refl) ∙ ap (λ zs. h x ∷ zs) (map_through f g h xs (λ k y e. same (suc k) y e))

module _ (cs : List Call) (rs : List Reply) (call_of : ℕ → Call) (reply_of : ℕ → Reply) (line_of : ℕ → ℕ) (ys : List ℕ) (are : AreOfLines cs rs call_of reply_of line_of ys) where
  -- their lines are an order of all lines
  pub lines_in_order : IsOrderOf (length cs) (map line_of ys)
  lines_in_order = record {
    every = λ i l. let w = are.every i l in (w.0, slice_get-map line_of ys w.0 ∙ ap (option_map line_of) w.2 ∙ ap Some w.3);
    within = λ a i e. let w = from_map line_of ys a i e in subst (λ q. q < length cs) w.2 (slice_get_within cs (line_of w.0) (call_of w.0) (are.calls a w.0 w.1));
    once = λ a b i e f. let w = from_map line_of ys a i e in let v = from_map line_of ys b i f in are.once a b w.0 v.0 w.1 v.1 (w.2 ∙ sym v.2);
  }

  -- and their replies, where they are right, are right in this order of the lines
  pub lines_legal : IsLegal [] (map call_of ys) (map reply_of ys) → IsLegalIn cs rs (map line_of ys)
  lines_legal h =
      let c = map_through line_of (call_at cs) call_of ys (λ k y e. get_or_from_slice_get cs (line_of y) (call_of y) _ (are.calls k y e)) in
      let r = map_through line_of (reply_at rs) reply_of ys (λ k y e. get_or_from_slice_get rs (line_of y) (reply_of y) _ (are.replies k y e)) in
      subst (λ ds. IsLegal [] ds (map (reply_at rs) (map line_of ys))) (sym c) (subst (λ ss. IsLegal [] (map call_of ys) ss) (sym r) h)

-- a line stands before another where its calls do
pub lines_before_by : (line_of : ℕ → ℕ) (ys : List ℕ) (i j : ℕ) → StandsBeforeBy line_of ys i j → StandsBefore (map line_of ys) i j
lines_before_by line_of ys i j keeps a b e f = let w = from_map line_of ys a i e in let v = from_map line_of ys b j f in keeps a b w.0 v.0 w.1 v.1 w.2 v.2
