-- What follows from taking pairs: nothing, one list after another, and all or the first of some
-- pairs.
use Rattle.std.proofs.Common.{ℕ, ◌≡◌, ◌≤◌, ◌+◌, ◌++◌, [], ◌∷◌, Option, Some, take, length, refl, sym, ap, ◌∙◌, subst, arith, append_assoc, append-nil}
use Rattle.std.proofs.lemmas.List.{take-append-le}
use Rattle.std.proofs.Math.Seq.{take-length}
use Rattle.kw_model.specs.Map.{Pairs}
use Rattle.kw_map.specs.Gather.{last_key, IsBelow, Takes, TakesPrefix, StandsAsBefore}

-- the last key of pairs behind others
pub last_key-append : (before : Option ℕ) (ps qs : Pairs) → last_key before (ps ++ qs) ≡ last_key (last_key before ps) qs
last_key-append before [] qs = refl
last_key-append before (p ∷ ps) qs = last_key-append (Some p.0) ps qs

-- what is below a key is below each key from there on
pub IsBelow-le : (o : Option ℕ) (low next : ℕ) → low ≤ next → IsBelow o low → IsBelow o next
IsBelow-le o low next l h = λ k e. let i = h k e in omega arith

-- where nothing changes, nothing is taken
pub takes_nothing : {S : Type 0} (last : S → Option ℕ) (stands : S → Pairs → Type 0) (s : S) → Takes last stands s [] s
takes_nothing last stands s = record {
  last_is = refl;
  follows = λ list h. subst (stands s) (sym (append-nil list)) h;
}

-- pairs are taken, and then more pairs
pub Takes-append : {S : Type 0} (last : S → Option ℕ) (stands : S → Pairs → Type 0) (a b c : S) (ps qs : Pairs) → Takes last stands a ps b → Takes last stands b qs c → Takes last stands a (ps ++ qs) c
Takes-append last stands a b c ps qs t u = record {
  last_is = u.last_is ∙ ap (λ (o : Option ℕ). last_key o qs) t.last_is ∙ sym (last_key-append (last a) ps qs);
  follows = λ list h. subst (stands c) (append_assoc list ps qs) (u.follows (list ++ ps) (t.follows list h));
}

-- after a pair the last key is below each key above that of the pair
pub taken_below : {S : Type 0} (last : S → Option ℕ) (stands : S → Pairs → Type 0) (a b : S) (key value : ℕ) → Takes last stands a ((key, value) ∷ []) b → IsBelow (last b) (key + 1)
taken_below last stands a b key value t = λ x e.
    let same : Some key ≡ Some x = sym t.last_is ∙ e in
    let it : key ≡ x = cc in
    omega arith

-- pairs stay taken where the gatherer stays as it is
pub Takes-kept : {S : Type 0} (last : S → Option ℕ) (stands : S → Pairs → Type 0) (a b c : S) (ps : Pairs) → Takes last stands a ps b → StandsAsBefore last stands b c → Takes last stands a ps c
Takes-kept last stands a b c ps t k = record {
  last_is = k.same_last ∙ t.last_is;
  follows = λ list h. (k.same_lists (list ++ ps)).1 (t.follows list h);
}

-- of all pairs the first were taken, and these are left
pub record IsHanding {S : Type 0} (last : S → Option ℕ) (stands : S → Pairs → Type 0) (old new : S) (all left : Pairs) : Type 0 where
  pub done : Pairs
  pub split : done ++ left ≡ all
  pub takes : Takes last stands old done new

-- at first all are left
pub handing_start : {S : Type 0} (last : S → Option ℕ) (stands : S → Pairs → Type 0) (s : S) (all : Pairs) → IsHanding last stands s s all all
handing_start last stands s all = record { done = []; split = refl; takes = takes_nothing last stands s }

-- the first of those that are left is taken
pub handing_more : {S : Type 0} (last : S → Option ℕ) (stands : S → Pairs → Type 0) (a b c : S) (all left rest : Pairs) (p : ℕ × ℕ) → IsHanding last stands a b all left → left ≡ p ∷ rest → Takes last stands b (p ∷ []) c → IsHanding last stands a c all rest
handing_more last stands a b c all left rest p h e t = record {
  done = h.done ++ p ∷ [];
  split = append_assoc h.done (p ∷ []) rest ∙ ap (λ (ps : Pairs). h.done ++ ps) (sym e) ∙ h.split;
  takes = Takes-append last stands a b c h.done (p ∷ []) h.takes t;
}

-- where none is left, all were taken
pub handing_end : {S : Type 0} (last : S → Option ℕ) (stands : S → Pairs → Type 0) (a b : S) (all left : Pairs) → IsHanding last stands a b all left → left ≡ [] → Takes last stands a all b
handing_end last stands a b all left h e =
    let whole : h.done ≡ all = sym (append-nil h.done) ∙ ap (λ (ps : Pairs). h.done ++ ps) (sym e) ∙ h.split in
    subst (λ (ps : Pairs). Takes last stands a ps b) whole h.takes

-- where the gatherer stops, the first of the pairs were taken
pub handing_stop : {S : Type 0} (last : S → Option ℕ) (stands : S → Pairs → Type 0) (a b c : S) (all left : Pairs) → IsHanding last stands a b all left → StandsAsBefore last stands b c → TakesPrefix last stands a all c
handing_stop last stands a b c all left h k =
    let within : length h.done ≤ length h.done = omega arith in
    let first : take (length h.done) (h.done ++ left) ≡ h.done = rw take-append-le (take-length h.done) in
    let whole : h.done ≡ take (length h.done) all = sym first ∙ ap (take (length h.done)) h.split in
    (length h.done, subst (λ (ps : Pairs). Takes last stands a ps c) whole (Takes-kept last stands a b c h.done h.takes k))
