-- Calls in turn are apart, call by call.
use Rattle.std.proofs.Common.{ℕ, zero, suc, ◌≡◌, ◌⊎◌, inl, inr, ◌+◌, ◌<◌, ◌≤◌, Some, None, List, [], ◌∷◌, ◌++◌, arith, refl, sym, ◌∙◌, ap, subst, slice_get, length}
use Rattle.std.proofs.lemmas.Option.{same_Some, slice_get_within}
use Rattle.kw_world.specs.declared.activity.Activity.{Activity}
use Rattle.kw_world.specs.declared.local.Local.{Local}
use Rattle.kw_core.specs.declared.history.End.{End}
use Rattle.kw_core.specs.Stages.{IsBusy}
use Rattle.kw_laws.specs.SeatCalls.{CallSeen, AreInTurn, HasLast, KeepsTurns, AreApart}
use Rattle.kw_laws.proofs.Occurs.{get_was}

-- a call that has ended between two bounds
record IsBetween (low high : ℕ) (c : CallSeen) : Type 0 where
  end : End
  ended : c.end ≡ Some end
  begins : low ≤ c.first
  ends : c.first < end.at
  below : end.at < high

-- each call in turn has
between : (low : ℕ) (cs : List CallSeen) (high i : ℕ) (c : CallSeen) → AreInTurn low cs high → slice_get cs i ≡ Some c → IsBetween low high c
between low [] high i c h g = let x : None ≡ Some c = g in absurd (cc)
between low (b ∷ cs) high zero c h g = subst (IsBetween low high) (same_Some b c g) (record { end = h.0; ended = h.1; begins = h.2; ends = h.3; below = let n = bound (h.0.at + 1) cs h.4 in omega (arith, n) })
  where
    bound : (low : ℕ) (cs : List CallSeen) → AreInTurn low cs high → low ≤ high
    bound low [] h = h
    bound low (c ∷ cs) h = let n = bound (h.0.at + 1) cs h.4 in omega (arith, n, h.2, h.3)
between low (b ∷ cs) high (suc i) c h g =
    let x = between (h.0.at + 1) cs high i c h.4 g in
    record { end = x.end; ended = x.ended; begins = omega (arith, x.begins, h.2, h.3); ends = x.ends; below = x.below }

-- and has ended before a later one began
before_later : (low : ℕ) (cs : List CallSeen) (high i j : ℕ) (c d : CallSeen) → AreInTurn low cs high → i < j → slice_get cs i ≡ Some c → slice_get cs j ≡ Some d → (e : End) × (c.end ≡ Some e) × (e.at < d.first)
before_later low [] high i j c d h o f g = let x : None ≡ Some c = f in absurd (cc)
before_later low (b ∷ cs) high zero zero c d h o f g = absurd (omega (arith, o))
before_later low (b ∷ cs) high zero (suc j) c d h o f g =
    let x = between (h.0.at + 1) cs high j d h.4 g in
    (h.0, ap (λ (q : CallSeen). q.end) (sym (same_Some b c f)) ∙ h.1, omega (arith, x.begins))
before_later low (b ∷ cs) high (suc i) zero c d h o f g = absurd (omega (arith, o))
before_later low (b ∷ cs) high (suc i) (suc j) c d h o f g = before_later (h.0.at + 1) cs high i j c d h.4 (omega (arith, o)) f g

-- where all have ended
apart_ended : (n : ℕ) (cs : List CallSeen) → AreInTurn 0 cs n → AreApart n cs
apart_ended n cs h = record {
  first = λ i c g. let x = between 0 cs n i c h g in omega (arith, x.ends, x.below);
  end = λ i c e g f. let x = between 0 cs n i c h g in let y : x.end ≡ e = same_Some x.end e (sym x.ended ∙ f) in subst (λ (q : End). (c.first < q.at) × (q.at < n)) y (x.ends, x.below);
  apart = λ i j c d o f g. before_later 0 cs n i j c d h o f g;
}

-- where the last one has not
apart_last : (n : ℕ) (l : Local) (cs : List CallSeen) → HasLast n l cs → AreApart n cs
apart_last n l cs h = subst (AreApart n) (sym h.is) (record { first = first; end = end; apart = apart })
  where
    all : List CallSeen
    all = h.before ++ h.last ∷ []

    first : (i : ℕ) (c : CallSeen) → slice_get (h.before ++ h.last ∷ []) i ≡ Some c → c.first < n
    first i c g = which (get_was h.before h.last i c g)
      where
        which : (slice_get h.before i ≡ Some c) ⊎ ((i ≡ length h.before) × (h.last ≡ c)) → c.first < n
        which (inl f) = let x = between 0 h.before h.last.first i c h.in_turn f in omega (arith, x.ends, x.below, h.first)
        which (inr f) = subst (λ (q : CallSeen). q.first < n) f.1 h.first

    end : (i : ℕ) (c : CallSeen) (e : End) → slice_get (h.before ++ h.last ∷ []) i ≡ Some c → c.end ≡ Some e → (c.first < e.at) × (e.at < n)
    end i c e g k = which (get_was h.before h.last i c g)
      where
        which : (slice_get h.before i ≡ Some c) ⊎ ((i ≡ length h.before) × (h.last ≡ c)) → (c.first < e.at) × (e.at < n)
        which (inl f) =
            let x = between 0 h.before h.last.first i c h.in_turn f in
            let y : x.end ≡ e = same_Some x.end e (sym x.ended ∙ k) in
            subst (λ (q : End). (c.first < q.at) × (q.at < n)) y (x.ends, omega (arith, x.below, h.first))
        which (inr f) = let y : None ≡ Some e = sym h.runs ∙ ap (λ (q : CallSeen). q.end) f.1 ∙ k in absurd (cc)

    apart : (i j : ℕ) (c d : CallSeen) → i < j → slice_get (h.before ++ h.last ∷ []) i ≡ Some c → slice_get (h.before ++ h.last ∷ []) j ≡ Some d → (e : End) × (c.end ≡ Some e) × (e.at < d.first)
    apart i j c d o f g = which (get_was h.before h.last i c f) (get_was h.before h.last j d g)
      where
        which : (slice_get h.before i ≡ Some c) ⊎ ((i ≡ length h.before) × (h.last ≡ c)) → (slice_get h.before j ≡ Some d) ⊎ ((j ≡ length h.before) × (h.last ≡ d)) → (e : End) × (c.end ≡ Some e) × (e.at < d.first)
        which (inl x) (inl y) = before_later 0 h.before h.last.first i j c d h.in_turn o x y
        which (inl x) (inr y) =
            let b = between 0 h.before h.last.first i c h.in_turn x in
            (b.end, b.ended, subst (λ (q : CallSeen). b.end.at < q.first) y.1 b.below)
        which (inr x) (inl y) = let w = slice_get_within h.before j d y in absurd (omega (arith, w, x.0, o))
        which (inr x) (inr y) = absurd (omega (arith, x.0, y.0, o))

-- the calls of a seat that keeps its turns
pub apart : (n : ℕ) (l : Local) (cs : List CallSeen) → KeepsTurns n l cs → AreApart n cs
apart n l cs k = which l.activity refl
  where
    which : (a : Activity) → l.activity ≡ a → AreApart n cs
    which Activity.Idle e = apart_ended n cs (k.rests e)
    which a e = apart_last n l cs (k.makes (subst IsBusy (sym e) tt))
