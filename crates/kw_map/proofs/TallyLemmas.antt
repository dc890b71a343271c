-- For which lists a gatherer of a number stands after it took a pair.
use Rattle.std.proofs.Common.{ℕ, zero, suc, ◌≡◌, ◌≤◌, ◌<◌, ◌+◌, ◌++◌, List, [], ◌∷◌, Option, Some, None, refl, sym, ap, ◌∙◌, subst, arith, length, min, max, length-append}
use Rattle.std.specs.Prelude.{All, sum}
use Rattle.std.proofs.lemmas.List.{map-append}
use Rattle.std.proofs.lemmas.List.Elements.{All-append}
use Rattle.std.proofs.lemmas.List.Sums.{fold-append, sum-map, sum_by_push}
use Rattle.kw_words.specs.declared.sizes.TheConstants.{VALUE_END}
use Rattle.kw_model.specs.Map.{Pairs, RisesFrom}
use Rattle.kw_model.specs.Values.{values, least, greatest}
use Rattle.kw_map.specs.Gather.{last_key, IsBelow, Takes}
use Rattle.kw_map.specs.GatherNumbers.{Tally, IsTallyOf, Sums, Counts, HaveLeast, HaveGreatest}
use Rattle.kw_map.proofs.TakeLemmas.{last_key-append}

-- a key below the pairs that follow it is below each key above the last of them
below_last : (q : ℕ) (ps : Pairs) (key : ℕ) → RisesFrom (suc q) ps → IsBelow (last_key (Some q) ps) key → suc q ≤ key
below_last q [] key r h = h q refl
below_last q (p ∷ ps) key r h = let i = below_last p.0 ps key r.1 h in let j = r.0 in omega arith

-- pairs go on rising with a key above their last one
rises_more : (low : ℕ) (before : Option ℕ) (ps : Pairs) (key value : ℕ) → RisesFrom low ps → low ≤ key → IsBelow (last_key before ps) key → RisesFrom low (ps ++ (key, value) ∷ [])
rises_more low before [] key value r l h = (l, tt)
rises_more low before (p ∷ ps) key value r l h = (r.0, rises_more (suc p.0) (Some p.0) ps key value r.1 (below_last p.0 ps key r.1 h) h)

-- what holds of one element holds of each of a list of one
all_one : {X : Type 0} (P : X → Type 0) (x : X) → P x → All P (x ∷ [])
all_one P x h zero d i = h
all_one P x h (suc k) d i = absurd (omega arith)

-- the pair goes to the end of each list for which the gatherer stands, where the number follows
pub IsTallyOf-more : {X : Type 0} (number_of : Pairs → X) (old new : Tally X) (key value : ℕ) (list : Pairs) → IsBelow old.last key → value < VALUE_END → new.last ≡ Some key → (old.number ≡ number_of list → new.number ≡ number_of (list ++ (key, value) ∷ [])) → IsTallyOf number_of old list → IsTallyOf number_of new (list ++ (key, value) ∷ [])
IsTallyOf-more number_of old new key value list below fits last_is step t = record {
  rising = rises_more 0 None list key value t.rising (omega arith) (subst (λ (o : Option ℕ). IsBelow o key) t.last below);
  in_range = All-append (λ p. p.1 < VALUE_END) list ((key, value) ∷ []) t.in_range (all_one (λ p. p.1 < VALUE_END) (key, value) fits);
  last = last_is ∙ sym (last_key-append None list ((key, value) ∷ []));
  number = step t.number;
}

-- a gatherer of a number takes a pair
pub takes_pair : {X : Type 0} (number_of : Pairs → X) (old new : Tally X) (key value : ℕ) → IsBelow old.last key → value < VALUE_END → new.last ≡ Some key → ((list : Pairs) → old.number ≡ number_of list → new.number ≡ number_of (list ++ (key, value) ∷ [])) → Takes (λ t. t.last) (IsTallyOf number_of) old ((key, value) ∷ []) new
takes_pair number_of old new key value below fits last_is step = record {
  last_is = last_is;
  follows = λ list t. IsTallyOf-more number_of old new key value list below fits last_is (step list) t;
}

-- the values of a list with one more pair
pub values-more : (list : Pairs) (key value : ℕ) → values (list ++ (key, value) ∷ []) ≡ values list ++ value ∷ []
values-more list key value = map-append (λ (p : ℕ × ℕ). p.1) list ((key, value) ∷ [])

-- the sum of the values of a list with one more pair
pub sum-more : (list : Pairs) (key value : ℕ) → sum (values (list ++ (key, value) ∷ [])) ≡ sum (values list) + value
sum-more list key value = sum-map (λ (p : ℕ × ℕ). p.1) (list ++ (key, value) ∷ []) ∙ sum_by_push (λ (p : ℕ × ℕ). p.1) list (key, value) ∙ ap (λ n. n + value) (sym (sum-map (λ (p : ℕ × ℕ). p.1) list))

-- the lesser of a number that there may be and another
abbrev pub lesser : Option ℕ → ℕ → ℕ
lesser None v = v
lesser (Some n) v = min n v

-- the greater of a number that there may be and another
abbrev pub greater : Option ℕ → ℕ → ℕ
greater None v = v
greater (Some n) v = max n v

least_of-more : (ns : List ℕ) (v : ℕ) → least (ns ++ v ∷ []) ≡ Some (lesser (least ns) v)
least_of-more [] v = refl
least_of-more (n ∷ ns) v = ap Some (fold-append min n ns (v ∷ []))

greatest_of-more : (ns : List ℕ) (v : ℕ) → greatest (ns ++ v ∷ []) ≡ Some (greater (greatest ns) v)
greatest_of-more [] v = refl
greatest_of-more (n ∷ ns) v = ap Some (fold-append max n ns (v ∷ []))

-- the least value of a list with one more pair
pub least-more : (list : Pairs) (key value : ℕ) → least (values (list ++ (key, value) ∷ [])) ≡ Some (lesser (least (values list)) value)
least-more list key value = ap least (values-more list key value) ∙ least_of-more (values list) value

-- the greatest value of a list with one more pair
pub greatest-more : (list : Pairs) (key value : ℕ) → greatest (values (list ++ (key, value) ∷ [])) ≡ Some (greater (greatest (values list)) value)
greatest-more list key value = ap greatest (values-more list key value) ∙ greatest_of-more (values list) value

-- a gatherer takes a pair whose value it adds
pub takes_sum : (old new : Tally ℕ) (key value : ℕ) → IsBelow old.last key → value < VALUE_END → new.last ≡ Some key → new.number ≡ old.number + value → Takes (λ t. t.last) Sums old ((key, value) ∷ []) new
takes_sum old new key value below fits last_is adds =
    takes_pair (λ list. sum (values list)) old new key value below fits last_is
    (λ list e. adds ∙ ap (λ n. n + value) e ∙ sym (sum-more list key value))

-- a gatherer takes a pair that it counts
pub takes_count : (old new : Tally ℕ) (key value : ℕ) → IsBelow old.last key → value < VALUE_END → new.last ≡ Some key → new.number ≡ old.number + 1 → Takes (λ t. t.last) Counts old ((key, value) ∷ []) new
takes_count old new key value below fits last_is adds =
    takes_pair (λ list. length list) old new key value below fits last_is
    (λ list e. adds ∙ ap (λ n. n + 1) e ∙ sym (length-append list ((key, value) ∷ [])))

-- a gatherer takes a pair and keeps the lesser value
pub takes_least : (old new : Tally (Option ℕ)) (key value : ℕ) → IsBelow old.last key → value < VALUE_END → new.last ≡ Some key → new.number ≡ Some (lesser old.number value) → Takes (λ t. t.last) HaveLeast old ((key, value) ∷ []) new
takes_least old new key value below fits last_is keeps =
    takes_pair (λ list. least (values list)) old new key value below fits last_is
    (λ list e. keeps ∙ ap (λ (o : Option ℕ). Some (lesser o value)) e ∙ sym (least-more list key value))

-- a gatherer takes a pair and keeps the greater value
pub takes_greatest : (old new : Tally (Option ℕ)) (key value : ℕ) → IsBelow old.last key → value < VALUE_END → new.last ≡ Some key → new.number ≡ Some (greater old.number value) → Takes (λ t. t.last) HaveGreatest old ((key, value) ∷ []) new
takes_greatest old new key value below fits last_is keeps =
    takes_pair (λ list. greatest (values list)) old new key value below fits last_is
    (λ list e. keeps ∙ ap (λ (o : Option ℕ). Some (greater o value)) e ∙ sym (greatest-more list key value))
