-- The event at the end of a list, as what a seat does there: it makes the operation of its line of
-- the table.
use Rattle.std.proofs.Common.{ℕ, ◌≡◌, ◌⊎◌, inl, inr, Some, List, [], ◌∷◌, ◌++◌, arith, refl, sym, ◌∙◌, ap, subst, length, slice_get}
use Rattle.std.proofs.lemmas.Option.{same_Some}
use Rattle.kw_world.specs.declared.activity.Activity.{Activity}
use Rattle.kw_world.specs.declared.event.Event.{Event}
use Rattle.kw_world.specs.declared.local.Local.{Local}
use Rattle.kw_world.specs.declared.opening.Opening.{Opening}
use Rattle.kw_world.specs.declared.operation.Operation.{Operation}
use Rattle.kw_world.specs.Sizes.{Sizes}
use Rattle.kw_world.specs.Step.{transition_at, word}
use Rattle.kw_world.specs.Table.{transition}
use Rattle.kw_world.specs.Transition.{Transition}
use Rattle.kw_world.specs.WalkTransitions.{offered}
use Rattle.kw_world.specs.WorldView.{WorldView}
use Rattle.kw_world.proofs.Steps.{transition_of-transition}
use Rattle.kw_core.specs.Events.{event, world}
use Rattle.kw_core.specs.Run.{Run}
use Rattle.kw_core.proofs.Happens.{Happens}
use Rattle.kw_laws.specs.Mirror.{Acts, Occurs}
use Rattle.kw_laws.proofs.Occurs.{occurs_now, occurs_was, occurs_within}

module _ (z : Sizes) (o : Opening) (es : List Event) (e : Event) (r r' : Run) (l l' : Local) (a : Activity) (h : Happens z r r' e.seat (offered r.world.rows e.choice) l l' a) (led : world z o es ≡ r.world) where
  -- its line
  line_here : transition_at z r.world e l ≡ transition z a e.seat (offered r.world.rows e.choice) l
  line_here = transition_of-transition z e.seat (offered r.world.rows e.choice) l ∙ ap (λ b. transition z b e.seat (offered r.world.rows e.choice) l) h.activity

  -- what its seat does
  pub acts_now : (b : Activity) (op : Operation) → a ≡ b → (transition z b e.seat (offered r.world.rows e.choice) l).operation ≡ op → Acts z o (es ++ e ∷ []) (length es) e.seat b op (word z r.world op.name)
  acts_now b op is f =
      let t = occurs_now z o es e in
      record {
        before = r.world;
        choice = e.choice;
        local = l;
        occurs = record { stands = t.stands; before = t.before ∙ led };
        knows = h.knows;
        activity = h.activity ∙ is;
        operates = ap (λ (x : Transition). x.operation) (line_here ∙ ap (λ c. transition z c e.seat (offered r.world.rows e.choice) l) is) ∙ f;
        finds = refl;
      }

  -- what is said of the seat that acts there is said of this event
  pub record IsActing (s : ℕ) (b : Activity) (op : Operation) (found : ℕ) : Type 0 where
    pub seat : e.seat ≡ s
    pub activity : a ≡ b
    pub operates : (transition z a e.seat (offered r.world.rows e.choice) l).operation ≡ op
    pub finds : word z r.world op.name ≡ found

  pub acting_now : (x s : ℕ) (b : Activity) (op : Operation) (found : ℕ) → x ≡ length es → Acts z o (es ++ e ∷ []) x s b op found → IsActing s b op found
  acting_now x s b op found at t = which (occurs_was z o es e x t.before (event s t.choice) t.occurs)
    where
      here : e ≡ event s t.choice → world z o es ≡ t.before → IsActing s b op found
      here f g =
          let before : r.world ≡ t.before = sym led ∙ g in
          let knows : slice_get r.world.locals e.seat ≡ Some t.local = subst (λ (w : WorldView). slice_get w.locals e.seat ≡ Some t.local) (sym before) (subst (λ (d : Event). slice_get t.before.locals d.seat ≡ Some t.local) (sym f) t.knows) in
          let same : l ≡ t.local = same_Some l t.local (sym h.knows ∙ knows) in
          record {
            seat = ap (λ (d : Event). d.seat) f;
            activity = sym h.activity ∙ ap (λ (m : Local). m.activity) same ∙ t.activity;
            operates = sym (ap (λ (y : Transition). y.operation) line_here) ∙ subst (λ (d : Event). (transition_at z r.world d l).operation ≡ op) (sym f) (rw (before, same) t.operates);
            finds = ap (λ (w : WorldView). word z w op.name) before ∙ t.finds;
          }

      which : Occurs z o es x t.before (event s t.choice) ⊎ ((x ≡ length es) × (e ≡ event s t.choice) × (world z o es ≡ t.before)) → IsActing s b op found
      which (inl f) = absurd (omega (arith, at, occurs_within z o es x t.before (event s t.choice) f))
      which (inr f) = here f.1 f.2
