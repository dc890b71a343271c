use Rattle.std.proofs.Common.{◌≡◌, ◌<◌, Some, length, slice_get, arith, refl, sym, ◌∙◌, ap, subst}
use Rattle.std.proofs.lemmas.List.{length-replicate}
use Rattle.std.proofs.lemmas.Result.{IfOk-weaker}
use Rattle.kw_model.specs.declared.call.Call.{Call}
use Rattle.kw_world.specs.declared.event.Choice.{Choice}
use Rattle.kw_world.specs.declared.event.Choice.TheVariants as choice
use Rattle.kw_world.specs.declared.local.Local.{Local}
use Rattle.kw_world.specs.declared.opening.Opening.{Opening}
use Rattle.kw_world.specs.declared.part.Part.TheVariants as part
use Rattle.kw_world.specs.Local.{resting}
use Rattle.kw_world.specs.Opening.{opened}
use Rattle.kw_world.specs.Parts.{part_of}
use Rattle.kw_world.specs.Sane.{IsCall, IsOfPart, CanStep, CanBegin}
use Rattle.kw_world.specs.Sizes.{product}
use Rattle.kw_world.specs.WorldView.{WorldView}
use Rattle.kw_world.proofs.Opens.{all_resting}
use Rattle.kw_core_tests.proofs.put.idle.Goals as goal

-- the world that was opened
abbrev small : Opening
small = record { rows = 3; seats = 2; clock = 7; epoch = 9 }

-- what the seat knows at the opening
rested : (w : WorldView) (l : Local) → w ≡ opened product small → slice_get w.locals 1 ≡ Some l → l ≡ resting 0
rested w l opens known = all_resting 2 1 l (sym (ap (λ (v : WorldView). slice_get v.locals 1) opens) ∙ known)

inside : (w : WorldView) → w ≡ opened product small → 1 < length w.locals
inside w opens = omega (arith, ap (λ (v : WorldView). length v.locals) opens, length-replicate 2 (resting 0))

begins : (w : WorldView) → w ≡ opened product small → (call : Call) → IsCall (Some call) → CanStep w (record { seat = 1; choice = choice.Begin call })
begins w opens call range = λ l known. subst (λ (x : Local). CanBegin (choice.Begin call) x) (sym (rested w l opens known)) (range, omega arith)

goes : (w : WorldView) → w ≡ opened product small → CanStep w (record { seat = 1; choice = choice.Go })
goes w opens = λ l known. subst (λ (x : Local). CanBegin choice.Go x) (sym (rested w l opens known)) tt

rests : (w : WorldView) → w ≡ opened product small → (c : Choice) → IsOfPart part.Put w (record { seat = 1; choice = c })
rests w opens c = λ l known. subst (λ (x : Local). part_of c x ≡ part.Put) (sym (rested w l opens known)) refl

pub returns-clause-seat : goal.returns-clause-seat
returns-clause-seat c = IfOk-weaker c.open.result _ (λ w. 1 < length w.locals) (λ w. inside w) c.open.ensures.world

pub returns-clause-begin : goal.returns-clause-begin
returns-clause-begin c = IfOk-weaker c.open.result _ (λ w. (call : Call) → IsCall (Some call) → CanStep w (record { seat = 1; choice = choice.Begin call })) (λ w. begins w) c.open.ensures.world

pub returns-clause-go : goal.returns-clause-go
returns-clause-go c = IfOk-weaker c.open.result _ (λ w. CanStep w (record { seat = 1; choice = choice.Go })) (λ w. goes w) c.open.ensures.world

pub returns-clause-part : goal.returns-clause-part
returns-clause-part c = IfOk-weaker c.open.result _ (λ w. (d : Choice) → IsOfPart part.Put w (record { seat = 1; choice = d })) (λ w. rests w) c.open.ensures.world
