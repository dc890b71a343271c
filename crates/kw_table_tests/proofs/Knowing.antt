-- What a pass's seat knows after a step is what follows from what the step told.
use Rattle.std.proofs.Common.{◌≡◌, ℕ, refl, ◌∙◌, ap, sym}
use Rattle.kw_world.specs.declared.event.Choice.{Choice}
use Rattle.kw_world.specs.declared.event.StepDone.{StepDone}
use Rattle.kw_world.specs.declared.local.Local.{Local}
use Rattle.kw_world.specs.declared.opening.Opening.{Opening}
use Rattle.kw_world.specs.Transition.{Outcome, Transition, outcome}
use Rattle.kw_world.specs.WalkTransitions.{offered}
use Rattle.kw_world.specs.Sizes.{product}
use Rattle.kw_world.specs.Step.{transition_of, next_of}
use Rattle.kw_world.proofs.Transitions.{transition_of-next}
use Rattle.kw_table.specs.declared.pass.Pass.{Pass}
use Rattle.kw_table.specs.declared.shared.Shared.{Shared}
use Rattle.kw_table.specs.Passes.{view, IsPassOf, Makes}
use Rattle.kw_table.specs.Views.{local_in, transition_in}

-- the line of the next event, by the number and the rows that the program has at hand and by what
-- the seat knows
pub line_is : (s : Shared) (p : Pass) (c : Choice) (l : Local) (n : ℕ) (o : Choice) → IsPassOf s p → l ≡ local_in (view p) → n ≡ (view p).number → o ≡ offered s.opening.rows c → transition_of product n o l ≡ transition_in (view p) c
line_is s p c l n o of knows number offers =
    ap (λ k. transition_of product k o l) number
    ∙ (ap (λ k. transition_of product (view p).number k l) (offers ∙ ap (λ (q : Opening). offered q.rows c) (sym of.1))
    ∙ ap (λ k. transition_of product (view p).number (offered (view p).opening.rows c) k) knows)

-- what the seat then knows is what the core's `resume` gives
pub knows_after : (s : Shared) (p q : Pass) (c : Choice) (l after : Local) (done : StepDone) (rows : ℕ) (o : Choice) (told : ℕ) → IsPassOf s p → l ≡ local_in (view p) → rows ≡ s.opening.rows → o ≡ offered s.opening.rows c
    → Makes s p c told q → outcome after done ≡ next_of product rows o l told → after ≡ local_in (view q)
knows_after s p q c l after done rows o told of knows counts offers makes is =
    ap (λ (x : Outcome). x.local) (is ∙ (sym (transition_of-next product rows (view p).number o l told) ∙ (ap (λ (t : Transition). t.next rows told) (line_is s p c l (view p).number o of knows refl offers)
    ∙ ap (λ k. (transition_in (view p) c).next k told) (counts ∙ ap (λ (q : Opening). q.rows) (sym of.1)))))
    ∙ sym makes.step.local
