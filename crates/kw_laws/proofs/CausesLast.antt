-- What a refused call found stays found as the list of events goes on.
use Rattle.std.proofs.Common.{ℕ, ◌≡◌, ◌⊎◌, inl, inr, ◌<◌, ◌≤◌, List, [], ◌∷◌, ◌++◌, arith, length}
use Rattle.std.proofs.lemmas.Bool.{cases_lt}
use Rattle.kw_model.specs.declared.call.Call.{Call}
use Rattle.kw_world.specs.declared.activity.Activity.{Activity}
use Rattle.kw_world.specs.declared.activity.rebalance.Rebalance.TheVariants as Rebalance
use Rattle.kw_world.specs.declared.activity.rebalance.seek.Seek.TheVariants as Seek
use Rattle.kw_world.specs.declared.event.Event.{Event}
use Rattle.kw_world.specs.declared.opening.Opening.{Opening}
use Rattle.kw_world.specs.declared.operation.Operation.{Operation}
use Rattle.kw_world.specs.Sizes.{Sizes}
use Rattle.kw_core.specs.Events.{event, world}
use Rattle.kw_rows.specs.Events.{IsIn}
use Rattle.kw_laws.specs.Causes.{IsSpentBy, IsTrying, NotTried, MayBeNamed, FoundTaken, TookRow, NoSearch, AskedAll}
use Rattle.kw_laws.specs.Mirror.{Occurs, Acts}
use Rattle.kw_laws.proofs.Occurs.{occurs_lasts, occurs_was}

-- a seat at this activity asks for rows
abbrev pub IsSearching : Activity → Type 0
IsSearching (Activity.Rebalance (Rebalance.Seek Seek.First)) = Unit {0}
IsSearching (Activity.Rebalance (Rebalance.Seek Seek.Next)) = Unit {0}
IsSearching (Activity.Rebalance (Rebalance.Seek Seek.Reclaim)) = Unit {0}
IsSearching (Activity.Rebalance (Rebalance.Seek Seek.Take)) = Unit {0}
IsSearching _ = ⊥

-- only such a seat does
pub trying_searches : (s q : ℕ) (a : Activity) (op : Operation) → IsTrying s q a op → IsSearching a
trying_searches s q (Activity.Rebalance (Rebalance.Seek Seek.First)) op t = tt
trying_searches s q (Activity.Rebalance (Rebalance.Seek Seek.Next)) op t = tt
trying_searches s q (Activity.Rebalance (Rebalance.Seek Seek.Reclaim)) op t = tt
trying_searches s q (Activity.Rebalance (Rebalance.Seek Seek.Take)) op t = tt
trying_searches s q _ op t = absurd t

-- what a seat did in a longer list it did before, or does now
pub acts_was : (z : Sizes) (o : Opening) (es : List Event) (e : Event) (x s : ℕ) (a : Activity) (op : Operation) (found : ℕ) → Acts z o (es ++ e ∷ []) x s a op found → Acts z o es x s a op found ⊎ (x ≡ length es)
acts_was z o es e x s a op found t = which (occurs_was z o es e x t.before (event s t.choice) t.occurs)
  where
    which : Occurs z o es x t.before (event s t.choice) ⊎ ((x ≡ length es) × (e ≡ event s t.choice) × (world z o es ≡ t.before)) → Acts z o es x s a op found ⊎ (x ≡ length es)
    which (inl c) = inl (record { before = t.before; choice = t.choice; local = t.local; occurs = c; knows = t.knows; activity = t.activity; operates = t.operates; finds = t.finds })
    which (inr c) = inr c.0

-- what a seat did in a list it did in a longer one, where it knew the same
abbrev pub acts_on : (z : Sizes) (o : Opening) (es : List Event) (e : Event) (x s : ℕ) (a : Activity) (op : Operation) (found : ℕ) → Acts z o es x s a op found → Acts z o (es ++ e ∷ []) x s a op found
acts_on z o es e x s a op found t = record { before = t.before; choice = t.choice; local = t.local; occurs = occurs_lasts z o es e x t.before (event s t.choice) t.occurs; knows = t.knows; activity = t.activity; operates = t.operates; finds = t.finds }

-- Over one more event, up to a later position.

module _ (z : Sizes) (o : Opening) (es : List Event) (e : Event) (s last last' : ℕ) (w : last ≤ last') where
  pub spent_lasts : (call : Call) (first : ℕ) → IsSpentBy z o es call s first last → IsSpentBy z o (es ++ e ∷ []) call s first last'
  spent_lasts call first t = record { at = t.at; after = t.after; before = omega (arith, w, t.before); activity = t.activity; op = t.op; asks = t.asks; found = t.found; acts = acts_on z o es e t.at s t.activity t.op t.found t.acts; spent = t.spent }

  pub took_lasts : (first q : ℕ) → TookRow z o es s first last q → TookRow z o (es ++ e ∷ []) s first last' q
  took_lasts first q t = record { at = t.at; after = t.after; before = omega (arith, w, t.before); acts = acts_on z o es e t.at s _ _ _ t.acts }

  -- where the seat asks no more for the row between them
  pub not_tried_lasts : last ≤ length es → (at q : ℕ) → ((u found : ℕ) (a : Activity) (op : Operation) → last ≤ u → u < last' → IsTrying s q a op → Acts z o (es ++ e ∷ []) u s a op found → ⊥) → NotTried z o es s at last q → NotTried z o (es ++ e ∷ []) s at last' q
  not_tried_lasts inside at q untried n u found a op f g d c = where_at (cases_lt u last) (acts_was z o es e u s a op found c)
    where
      where_at : (u < last) ⊎ (last ≤ u) → Acts z o es u s a op found ⊎ (u ≡ length es) → ⊥
      where_at (inr x) y = untried u found a op x g d c
      where_at (inl x) (inl y) = n u found a op f x d y
      where_at (inl x) (inr y) = omega (arith, x, y, inside)

  pub taken_lasts : last ≤ length es → (first q : ℕ) → ((u found : ℕ) (a : Activity) (op : Operation) → last ≤ u → u < last' → IsTrying s q a op → Acts z o (es ++ e ∷ []) u s a op found → ⊥) → FoundTaken z o es s first last q → FoundTaken z o (es ++ e ∷ []) s first last' q
  taken_lasts inside first q untried t = record {
    at = t.at;
    after = t.after;
    before = omega (arith, w, t.before);
    activity = t.activity;
    op = t.op;
    tries = t.tries;
    found = t.found;
    acts = acts_on z o es e t.at s t.activity t.op t.found t.acts;
    taken = t.taken;
    gone_by = λ n f. named n (t.gone_by n f);
    final = not_tried_lasts inside t.at q untried t.final;
  }
    where
      named : (n : ℕ) → MayBeNamed z o es s t.at last n t.acts.local → MayBeNamed z o (es ++ e ∷ []) s t.at last' n t.acts.local
      named n (inl x) = inl x
      named n (inr x) = inr (record { at = x.at; after = x.after; before = omega (arith, w, x.before); seat = x.seat; epoch = x.epoch; acts = acts_on z o es e x.at s _ _ x.epoch x.acts; some = x.some; old = x.old })

  -- where it begins no search between them
  pub search_lasts : last ≤ length es → (first : ℕ) → ((u found : ℕ) (op : Operation) → last ≤ u → u < last' → Acts z o (es ++ e ∷ []) u s (Activity.Rebalance (Rebalance.Seek Seek.First)) op found → ⊥) → NoSearch z o es s first last → NoSearch z o (es ++ e ∷ []) s first last'
  search_lasts inside first quiet n u found op f g t = where_at (cases_lt u last) (acts_was z o es e u s (Activity.Rebalance (Rebalance.Seek Seek.First)) op found t)
    where
      where_at : (u < last) ⊎ (last ≤ u) → Acts z o es u s (Activity.Rebalance (Rebalance.Seek Seek.First)) op found ⊎ (u ≡ length es) → ⊥
      where_at (inr x) y = quiet u found op x g t
      where_at (inl x) (inl y) = n u found op f x y
      where_at (inl x) (inr y) = omega (arith, x, y, inside)

  -- where it asks for no row between them
  module _ (inside : last ≤ length es) (idle : (u found : ℕ) (a : Activity) (op : Operation) → IsSearching a → last ≤ u → u < last' → Acts z o (es ++ e ∷ []) u s a op found → ⊥) where
    pub asked_lasts : (rows first : ℕ) → AskedAll z o es s rows first last → AskedAll z o (es ++ e ∷ []) s rows first last'
    asked_lasts rows first t = record {
      begun = t.begun;
      after = t.after;
      before = omega (arith, w, t.before);
      row = t.row;
      found = t.found;
      begins = acts_on z o es e t.begun s _ _ _ t.begins;
      alone = search_lasts inside t.begun (λ u found op f g c. idle u found (Activity.Rebalance (Rebalance.Seek Seek.First)) op tt f g c) t.alone;
      taken = t.taken;
      took = λ q x. took_lasts t.begun q (t.took q x);
      fewer = t.fewer;
      asked = λ q x. either q (t.asked q x);
    }
      where
        either : (q : ℕ) → IsIn t.taken q ⊎ FoundTaken z o es s t.begun last q → IsIn t.taken q ⊎ FoundTaken z o (es ++ e ∷ []) s t.begun last' q
        either q (inl x) = inl x
        either q (inr x) = inr (taken_lasts inside t.begun q (λ u found a op f g d c. idle u found a op (trying_searches s q a op d) f g c) x)
