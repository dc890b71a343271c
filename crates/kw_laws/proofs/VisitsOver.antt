-- Visits that are on, and rows that a seat has come to, over one more event: what was so at a
-- position of the list is so in a longer one, and the other way round.
use Rattle.std.proofs.Common.{ℕ, ◌≡◌, ◌⊎◌, inl, inr, ◌+◌, ◌<◌, ◌≤◌, Some, List, [], ◌∷◌, ◌++◌, arith, sym, subst, length, slice_get, length-append}
use Rattle.std.proofs.lemmas.Bool.{cases_lt}
use Rattle.std.proofs.lemmas.List.{take-append-le}
use Rattle.kw_world.specs.declared.activity.Activity.{Activity}
use Rattle.kw_world.specs.declared.event.Event.{Event}
use Rattle.kw_world.specs.declared.opening.Opening.{Opening}
use Rattle.kw_world.specs.declared.operation.Operation.{Operation}
use Rattle.kw_world.specs.Sizes.{Sizes}
use Rattle.kw_world.specs.Step.{word}
use Rattle.kw_core.specs.Events.{world}
use Rattle.kw_core.specs.Words.{next_in}
use Rattle.kw_laws.specs.Mirror.{Acts}
use Rattle.kw_laws.specs.Reach.{EndsVisit, HasBeenAt, HasComeTo, HasReached, IsInVisit, IsOwnInfant, IsWithinReach, is_led, is_named}
use Rattle.kw_laws.proofs.CausesLast.{acts_on, acts_was}

-- a row is come to after its visit began
pub come_after : (z : Sizes) (o : Opening) (es : List Event) (t u x q : ℕ) → HasComeTo z o es t u x q → u < x
come_after z o es t u _ _ (is_named x q l f g k n) = f
come_after z o es t u _ _ (is_led x y p q c f g n) = omega (arith, come_after z o es t u x p c, f)

module _ (z : Sizes) (o : Opening) (es : List Event) (e : Event) where
  pub longer : length (es ++ e ∷ []) ≡ length es + 1
  longer = omega (arith, length-append es (e ∷ []))

  -- what a seat did at a position of the shorter list
  pub acts_before : (x s : ℕ) (a : Activity) (op : Operation) (found : ℕ) → x < length es → Acts z o (es ++ e ∷ []) x s a op found → Acts z o es x s a op found
  acts_before x s a op found i t = which (acts_was z o es e x s a op found t)
    where
      which : Acts z o es x s a op found ⊎ (x ≡ length es) → Acts z o es x s a op found
      which (inl c) = c
      which (inr c) = absurd (omega (arith, i, c))

  -- Visits.

  pub ends_lasts : (x t : ℕ) → EndsVisit z o es x t → EndsVisit z o (es ++ e ∷ []) x t
  ends_lasts x t d = record { activity = d.activity; ends = d.ends; found = d.found; acts = acts_on z o es e x t d.activity _ d.found d.acts }

  ends_before : (x t : ℕ) → x < length es → EndsVisit z o (es ++ e ∷ []) x t → EndsVisit z o es x t
  ends_before x t i d = record { activity = d.activity; ends = d.ends; found = d.found; acts = acts_before x t d.activity _ d.found i d.acts }

  -- a visit that is on at a position of the shorter list
  pub in_visit_lasts : (t u x : ℕ) → IsInVisit z o es t u x → IsInVisit z o (es ++ e ∷ []) t u x
  in_visit_lasts t u x p = record {
    begins = record { epoch = p.begins.epoch; found = p.begins.found; acts = acts_on z o es e u t _ _ p.begins.found p.begins.acts };
    after = p.after;
    within = omega (arith, p.within, longer);
    runs = λ y f g d. p.runs y f g (ends_before y t (omega (arith, g, p.within)) d);
  }

  abbrev pub in_visit_was : (t u x : ℕ) → x ≤ length es → IsInVisit z o (es ++ e ∷ []) t u x → IsInVisit z o es t u x
  in_visit_was t u x i p = record {
    begins = record { epoch = p.begins.epoch; found = p.begins.found; acts = acts_before u t _ _ p.begins.found (omega (arith, p.after, i)) p.begins.acts };
    after = p.after;
    within = i;
    runs = λ y f g d. p.runs y f g (ends_lasts y t d);
  }

  -- it is on after one more event, by which the seat does not take it back
  pub in_visit_next : (t u : ℕ) → (EndsVisit z o (es ++ e ∷ []) (length es) t → ⊥) → IsInVisit z o es t u (length es) → IsInVisit z o (es ++ e ∷ []) t u (length (es ++ e ∷ []))
  in_visit_next t u n p = record {
    begins = record { epoch = p.begins.epoch; found = p.begins.found; acts = acts_on z o es e u t _ _ p.begins.found p.begins.acts };
    after = omega (arith, p.after, longer);
    within = omega arith;
    runs = λ y f g d. which y f d (cases_lt y (length es)) g;
  }
    where
      which : (y : ℕ) → u < y → EndsVisit z o (es ++ e ∷ []) y t → (y < length es) ⊎ (length es ≤ y) → y < length (es ++ e ∷ []) → ⊥
      which y f d (inl i) g = p.runs y f i (ends_before y t i d)
      which y f d (inr i) g = n (subst (λ x. EndsVisit z o (es ++ e ∷ []) x t) (omega (arith, i, g, longer)) d)

  -- and was on before the last event
  abbrev pub in_visit_one_less : (t u : ℕ) → u < length es → IsInVisit z o (es ++ e ∷ []) t u (length (es ++ e ∷ [])) → IsInVisit z o (es ++ e ∷ []) t u (length es)
  in_visit_one_less t u i p = record {
    begins = p.begins;
    after = i;
    within = omega (arith, longer);
    runs = λ y f g d. p.runs y f (omega (arith, g, longer)) d;
  }

  -- Rows that are come to.

  pub come_lasts : (t u x q : ℕ) → HasComeTo z o es t u x q → HasComeTo z o (es ++ e ∷ []) t u x q
  come_lasts t u _ _ (is_named x q l f g k n) = is_named x q l f (omega (arith, g, longer)) (subst (λ xs. slice_get (world z o xs).locals t ≡ Some l) (sym (take-append-le x es (e ∷ []) g)) k) n
  come_lasts t u _ _ (is_led x y p q c f g n) = is_led x y p q (come_lasts t u x p c) f (omega (arith, g, longer)) (subst (λ xs. next_in (word z (world z o xs)) p ≡ Some q) (sym (take-append-le y es (e ∷ []) g)) n)

  pub come_was : (t u x q : ℕ) → x ≤ length es → HasComeTo z o (es ++ e ∷ []) t u x q → HasComeTo z o es t u x q
  come_was t u _ _ i (is_named x q l f g k n) = is_named x q l f i (subst (λ xs. slice_get (world z o xs).locals t ≡ Some l) (take-append-le x es (e ∷ []) i) k) n
  come_was t u _ _ i (is_led x y p q c f g n) = is_led x y p q (come_was t u x p (omega (arith, f, i)) c) f i (subst (λ xs. next_in (word z (world z o xs)) p ≡ Some q) (take-append-le y es (e ∷ []) i) n)

  -- Rows within reach.

  reached_lasts : (x t q : ℕ) → HasReached z o es x t q → HasReached z o (es ++ e ∷ []) x t q
  reached_lasts x t q d = record { since = d.since; pass = in_visit_lasts t d.since x d.pass; reached = come_lasts t d.since x q d.reached }

  pub been_was : (x t q : ℕ) → x ≤ length es → HasBeenAt z o (es ++ e ∷ []) x t q → HasBeenAt z o es x t q
  been_was x t q i d = record { since = d.since; pass = in_visit_was t d.since x i d.pass; at = d.at; by = d.by; came = come_was t d.since d.at q (omega (arith, d.by, i)) d.came }

  own_lasts : (x t q : ℕ) → x ≤ length es → IsOwnInfant z o es x t q → IsOwnInfant z o (es ++ e ∷ []) x t q
  own_lasts x t q i d = record { local = d.local; knows = subst (λ xs. slice_get (world z o xs).locals t ≡ Some d.local) (sym (take-append-le x es (e ∷ []) i)) d.knows; nursed = d.nursed }

  pub within_reach_lasts : (x t q : ℕ) → x ≤ length es → IsWithinReach z o es x t q → IsWithinReach z o (es ++ e ∷ []) x t q
  within_reach_lasts x t q i (inl d) = inl (reached_lasts x t q d)
  within_reach_lasts x t q i (inr d) = inr (own_lasts x t q i d)
