-- What holds of a list of events and of all that led to its world, by induction over the events
-- from the front.
use Rattle.std.proofs.Common.{◌≡◌, true, List, [], ◌∷◌, ◌++◌, refl, sym, ◌∙◌, ap, subst, append_assoc, append-nil}
use Rattle.std.proofs.lemmas.Bool.{and_parts}
use Rattle.kw_world.specs.declared.event.Event.{Event}
use Rattle.kw_world.specs.declared.opening.Opening.{Opening}
use Rattle.kw_world.specs.Opening.{opened}
use Rattle.kw_world.specs.Sizes.{Sizes}
use Rattle.kw_world.specs.Step.{step}
use Rattle.kw_world.specs.WorldView.{WorldView}
use Rattle.kw_core.specs.Events.{is_valid, is_valid_from, may_step}
use Rattle.kw_core.specs.Run.{Run, goes_on, history, run, start}
use Rattle.kw_core.proofs.Runs.{goes_on-world}

module _ (z : Sizes) (o : Opening) (P : List Event → Run → Type 0) (keeps : (es : List Event) (e : Event) (r : Run) → may_step o r.world e ≡ true → P es r → P (es ++ e ∷ []) (goes_on z r e)) where
  along : (xs : List Event) (r : Run) (w : WorldView) (es : List Event) → r.world ≡ w → is_valid_from z o w es ≡ true → P xs r → P (xs ++ es) (run z r es)
  unfolding run is_valid_from
  along xs r w [] is ok p = subst (λ q. P q r) (sym (append-nil xs)) p
  along xs r w (e ∷ es) is ok p =
      let t = and_parts (may_step o w e) (is_valid_from z o (step z w e).world es) ok in
      let may : may_step o r.world e ≡ true = subst (λ x. may_step o x e ≡ true) (sym is) t.0 in
      subst (λ q. P q (run z (goes_on z r e) es)) (append_assoc xs (e ∷ []) es)
      (along (xs ++ e ∷ []) (goes_on z r e) (step z w e).world es (goes_on-world z r e ∙ ap (λ x. (step z x e).world) is) t.1 (keeps xs e r may p))

  -- what holds of no event, and goes on by each that may come, holds of every valid list
  pub holds_along : P [] (start z o) → (es : List Event) → is_valid z o es ≡ true → P es (history z o es)
  unfolding history is_valid
  holds_along p es ok = along [] (start z o) (opened z o) es refl ok p
