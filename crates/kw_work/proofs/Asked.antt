-- Lines asked in some order: what the map is where one of them is asked, and what it answers there.
use Rattle.std.proofs.Common.{ℕ, zero, suc, ◌≡◌, ◌<◌, ◌&&◌, cond, leb, List, [], ◌∷◌, length, map, take, Some, None, refl, sym, ap, ◌∙◌, subst, arith}
use Rattle.std.specs.List.{slice_get}
use Rattle.std.proofs.lemmas.Option.{same_Some}
use Rattle.kw_model.specs.Map.{Pairs, IsRising, value_of, after, answer, answers, between}
use Rattle.kw_model.specs.Legal.{IsLegal, IsRight, went, went_all}
use Rattle.kw_model.specs.declared.call.Call.{Call}
use Rattle.kw_model.specs.declared.call.Reply.{Reply}
use Rattle.kw_model.proofs.Pairs.{same_from_values, rises-between, value-between}
use Rattle.kw_model.proofs.Lookups.{rises-went, value-went_all}
use Rattle.kw_work.proofs.LastShown.{AreAlike, same_shown}

-- a member of the first elements
pub from_take : {X : Type 0} (a p : ℕ) (xs : List X) (x : X) → slice_get (take a xs) p ≡ Some x → (p < a) × (slice_get xs p ≡ Some x)
from_take zero p xs x e = absurd (cc)
from_take (suc a) p [] x e = absurd (cc)
from_take (suc a) zero (y ∷ xs) x e = (omega arith, e)
from_take (suc a) (suc p) (y ∷ xs) x e = let w = from_take a p xs x e in (omega arith, w.1)

-- and back
pub in_take : {X : Type 0} (a p : ℕ) (xs : List X) (x : X) → p < a → slice_get xs p ≡ Some x → slice_get (take a xs) p ≡ Some x
in_take zero p xs x l e = absurd (omega arith)
in_take (suc a) p [] x l e = absurd (cc)
in_take (suc a) zero (y ∷ xs) x l e = e
in_take (suc a) (suc p) (y ∷ xs) x l e = in_take a p xs x (omega arith) e

-- the element at a place within a list
pub element_at : {X : Type 0} (xs : List X) (i : ℕ) → i < length xs → (x : X) × (slice_get xs i ≡ Some x)
element_at {X} [] i l = let e : length {A = X} [] ≡ 0 = refl in absurd (omega arith)
element_at (x ∷ xs) zero l = (x, refl)
element_at (x ∷ xs) (suc i) l = element_at xs i (omega arith)

-- the map after calls with replies rises
pub rises-went_all : (m : Pairs) (cs : List Call) (rs : List Reply) → IsRising m → IsRising (went_all m cs rs)
rises-went_all m [] rs h = h
rises-went_all m (c ∷ cs) [] h = h
rises-went_all m (c ∷ cs) (r ∷ rs) h = rises-went_all (went m c r) cs rs (rises-went m c r h)

-- maps that rise and show the same at each key have the same pairs in a range
pub same-between : (a b : ℕ) (m n : Pairs) → IsRising m → IsRising n → ((k : ℕ) → value_of k m ≡ value_of k n) → between a b m ≡ between a b n
same-between a b m n r s h =
    same_from_values 0 0 (between a b m) (between a b n) (rises-between 0 a b m r) (rises-between 0 a b n s)
    (λ k. value-between k a b m ∙ ap (λ v. cond (leb a k && leb k b) v None) (h k) ∙ sym (value-between k a b n))

module _ (call : ℕ → Call) (reply_of : ℕ → Reply) where
  -- the map after these lines, which had their replies
  abbrev pub map_after : Pairs → List ℕ → Pairs
  map_after m zs = went_all m (map call zs) (map reply_of zs)

  -- in a legal order each reply is right where it stands
  pub right_at : (m : Pairs) (xs : List ℕ) (a i : ℕ) → IsLegal m (map call xs) (map reply_of xs) → slice_get xs a ≡ Some i → IsRight (map_after m (take a xs)) (call i) (reply_of i)
  right_at m [] a i h e = absurd (cc)
  right_at m (x ∷ xs) zero i h e = subst (λ z. IsRight m (call z) (reply_of z)) (same_Some x i e) h.0
  right_at m (x ∷ xs) (suc a) i h e = right_at (went m (call x) (reply_of x)) xs a i h.1 e

  -- where each line leaves the map as if it was answered, the map answers each line as the map does
  -- that the lines before it leave
  pub answered_at : (m : Pairs) (xs : List ℕ) (a i : ℕ) → ((u : ℕ) (n : Pairs) → went n (call u) (reply_of u) ≡ after n (call u)) → slice_get xs a ≡ Some i
      → slice_get (answers m (map call xs)) a ≡ Some (answer (map_after m (take a xs)) (call i))
  answered_at m [] a i h e = absurd (cc)
  answered_at m (x ∷ xs) zero i h e = ap (λ z. Some (answer m (call z))) (same_Some x i e)
  answered_at m (x ∷ xs) (suc a) i h e =
      answered_at (after m (call x)) xs a i h e ∙ ap (λ n. Some (answer (map_after n (take a xs)) (call i))) (sym (h x m))

  -- lists of lines that are alike for a key leave the same value there
  pub same_value : (k : ℕ) (zs ws : List ℕ) → AreAlike call reply_of k zs ws → value_of k (map_after [] zs) ≡ value_of k (map_after [] ws)
  same_value k zs ws s =
      value-went_all k [] (map call zs) (map reply_of zs) ∙ same_shown call reply_of k zs ws None s ∙ sym (value-went_all k [] (map call ws) (map reply_of ws))

  -- lists of lines that are alike for each key leave the same map
  pub same_map : (zs ws : List ℕ) → ((k : ℕ) → AreAlike call reply_of k zs ws) → map_after [] zs ≡ map_after [] ws
  same_map zs ws s =
      same_from_values 0 0 (map_after [] zs) (map_after [] ws) (rises-went_all [] (map call zs) (map reply_of zs) tt) (rises-went_all [] (map call ws) (map reply_of ws) tt) (λ k. same_value k zs ws (s k))

  -- lists of lines that are alike for each key leave the same pairs in a range
  pub same_range : (a b : ℕ) (zs ws : List ℕ) → ((k : ℕ) → AreAlike call reply_of k zs ws) → between a b (map_after [] zs) ≡ between a b (map_after [] ws)
  same_range a b zs ws s =
      same-between a b (map_after [] zs) (map_after [] ws) (rises-went_all [] (map call zs) (map reply_of zs) tt) (rises-went_all [] (map call ws) (map reply_of ws) tt) (λ k. same_value k zs ws (s k))
