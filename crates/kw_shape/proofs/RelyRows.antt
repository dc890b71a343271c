-- What an event leaves to a seat of the rows that it may name: it may name them still, and their
-- ranges are as they were. So where a seat is along the rows survives.
use Rattle.std.proofs.Common.{ℕ, ◌≡◌, ◌⊎◌, inl, inr, true, Some, arith, sym, ◌∙◌, ap}
use Rattle.kw_rows.specs.Ledger.{Ledger, IsFresh}
use Rattle.kw_world.specs.declared.activity.Activity.{Activity}
use Rattle.kw_world.specs.declared.activity.walk.Walk.TheVariants as Walk
use Rattle.kw_world.specs.declared.local.Local.{Local}
use Rattle.kw_world.specs.Calls.{first_key, is_scan}
use Rattle.kw_core.specs.Stages.{IsVisiting, IsPastStart}
use Rattle.kw_core.specs.Words.{Words, least_in, built_in}
use Rattle.kw_shape.specs.Shape.{IsAtItsRow, IsOnWalk, Walks}

pub record RelyRows (v v' : Words) (g g' : Ledger) (t : ℕ) : Type 0 where
  pub fresh : (q : ℕ) → IsFresh g t q → IsFresh g' t q
  pub taken : (q : ℕ) → IsFresh g t q → (g'.fates q).taken ≡ (g.fates q).taken
  pub born : (q : ℕ) → IsFresh g t q → (g'.fates q).born ≡ (g.fates q).born
  pub upper : (q : ℕ) → IsFresh g t q → (g'.fates q).upper ≡ (g.fates q).upper
  pub least : (q : ℕ) → IsFresh g t q → least_in v' q ≡ least_in v q
  pub built : (q : ℕ) → IsFresh g t q → built_in v' q ≡ built_in v q

-- a seat past the start of its walk may name its row
pub fresh_past : (v : Words) (g : Ledger) (t : ℕ) (a : Activity) (l : Local) → Walks v g t a l → IsPastStart a → IsFresh g t l.row
fresh_past v g t (Activity.Walk Walk.Next) l w x = w.on.0
fresh_past v g t (Activity.Walk Walk.NextLeast) l w x = w.on.0
fresh_past v g t _ l w x = (w.at x).fresh

-- a seat is in a visit or in none
pub is_visiting : (a : Activity) → IsVisiting a ⊎ (IsVisiting a → ⊥)
is_visiting Activity.Idle = inr (λ x. x)
is_visiting (Activity.Enter _) = inr (λ x. x)
is_visiting _ = inl tt

-- a seat that is in no visit is nowhere along the rows
pub walks_outside : (v : Words) (g : Ledger) (t : ℕ) (a : Activity) (l : Local) → (IsVisiting a → ⊥) → Walks v g t a l
walks_outside v g t Activity.Idle l n = record { on = tt; lower = λ x. absurd x; built = λ x. absurd x; at = λ x. absurd x; begins = λ x. absurd x; wants = λ x. absurd x }
walks_outside v g t (Activity.Enter _) l n = record { on = tt; lower = λ x. absurd x; built = λ x. absurd x; at = λ x. absurd x; begins = λ x. absurd x; wants = λ x. absurd x }
walks_outside v g t _ l n = absurd (n tt)

module _ (v v' : Words) (g g' : Ledger) (t : ℕ) (y : RelyRows v v' g g' t) where
  -- the row of its key
  pub row_stable : (l : Local) → IsAtItsRow v g t l → IsAtItsRow v' g' t l
  row_stable l x = record {
    fresh = y.fresh l.row x.fresh;
    from = omega (arith, x.from, y.least l.row x.fresh);
    last = λ e. y.upper l.row x.fresh ∙ x.last e;
    next = λ n e.
        let k = x.next n e in
        record { fresh = y.fresh n k.fresh; least = k.least ∙ sym (y.least n k.fresh); ends = y.upper l.row x.fresh ∙ k.ends; below = k.below };
  }

  on_stable : (a : Activity) (l : Local) → IsOnWalk a v g t l → IsOnWalk a v' g' t l
  on_stable (Activity.Walk Walk.GuessedLeast) l x = y.fresh l.row x
  on_stable (Activity.Walk Walk.Next) l x = (y.fresh l.row x.0, omega (arith, x.1, y.least l.row x.0))
  on_stable (Activity.Walk Walk.NextLeast) l x = (y.fresh l.row x.0, omega (arith, x.1, y.least l.row x.0), y.fresh l.candidate x.2, y.upper l.row x.0 ∙ x.3 ∙ ap Some (sym (y.least l.candidate x.2)))
  on_stable _ l x = tt

  -- where a seat is
  pub walks_stable : (a : Activity) (l : Local) → Walks v g t a l → Walks v' g' t a l
  walks_stable a l w = record {
    on = on_stable a l w.on;
    lower = λ x. w.lower x ∙ sym (y.least l.row (fresh_past v g t a l w x));
    built = λ x. omega (arith, w.built x, y.built l.row (fresh_past v g t a l w x));
    at = λ x. row_stable l (w.at x);
    begins = w.begins;
    wants = λ x. which (y.least l.row (fresh_past v g t a l w x)) (w.wants x);
  }
    where
      which : least_in v' l.row ≡ least_in v l.row → (l.want ≡ first_key l.call) ⊎ (is_scan l.call ≡ true) × (least_in v l.row ≡ l.want) → (l.want ≡ first_key l.call) ⊎ (is_scan l.call ≡ true) × (least_in v' l.row ≡ l.want)
      which e (inl x) = inl x
      which e (inr x) = inr (x.0, e ∙ x.1)
