use Rattle.std.proofs.Common.{◌≡◌, ◌∙◌, sym, ap, subst, arith, length, slice_get, Some, take, vec_len, ◌-◌, ◌<◌, ℕ, true, false, List, ◌++◌, ◌∷◌, []}
use Rattle.kw_world.specs.Sizes.{product}
use Rattle.kw_world.specs.Sane.{CanStep}
use Rattle.kw_world.specs.WorldView.{WorldView}
use Rattle.kw_world.specs.declared.local.Local.{Local}
use Rattle.kw_world.specs.declared.event.Event.{Event}
use Rattle.kw_world.specs.Step.{step, Stepped, is_skipped, IsMade}
use Rattle.kw_world.proofs.Steps.{step-skipped}
use Rattle.kw_laws.specs.Laws.{KeepsLaws}
use Rattle.kw_laws.specs.Live.{AreLive}
use Rattle.kw_laws.specs.Reach.{KeepsRows}
use Rattle.kw_world.proofs.Skipping.{step-made}
use Rattle.std.proofs.lemmas.Option.{same_Some}
use Rattle.std.proofs.Math.Seq.{take-append_seam}
use Rattle.kw_order.specs.Bounded.{IsBounded}
use Rattle.kw_order.specs.Trace.{TraceView, IsTrace, run_of, world_of, pushed}
use Rattle.kw_order.proofs.Traces.{trace_bounded, trace_laws, trace_live, trace_reach, trace_seats, trace_run, trace_more, kept}
use Rattle.kw_order.proofs.trace.Trace.push.Goals as goal

pub local-requires : goal.local-requires
local-requires c =
    let t : TraceView = record { opening = c.self.inside.opening; events = c.self.inside.events.items } in
    let w = c.self.inside.world in
    let k = c.self.inside.recorder in
    let i : IsTrace t w k = c.self.invariant in
    let seat : c.args.event.seat < t.opening.seats = subst (λ (v : TraceView). c.args.event.seat < v.opening.seats) (sym c.self.view_is) c.requires.seat in
    omega (arith, seat, trace_seats t w k i)

pub returns-then-skips-clause-step : goal.returns-then-skips-clause-step
returns-then-skips-clause-step c =
    let t : TraceView = record { opening = c.self.inside.opening; events = c.self.inside.events.items } in
    let w = c.self.inside.world in
    let k = c.self.inside.recorder in
    let i : IsTrace t w k = c.self.invariant in
    let skips = step-skipped product w c.args.event c.local.result.now c.local.ensures (sym c.skips.ensures ∙ c.if-skips.true) in
    sym (ap (λ (x : Stepped). x.done) (ap (λ (x : WorldView). step product x c.args.event) (ap world_of (sym c.self.view_is) ∙ sym i.world) ∙ skips))

pub returns-then-skips-clause-laws : goal.returns-then-skips-clause-laws
returns-then-skips-clause-laws c =
    let t : TraceView = record { opening = c.self.inside.opening; events = c.self.inside.events.items } in
    let w = c.self.inside.world in
    let k = c.self.inside.recorder in
    let i : IsTrace t w k = c.self.invariant in
    subst (λ (v : TraceView). KeepsLaws product (run_of v)) c.self.view_is (trace_laws t w k i)

pub returns-then-skips-clause-live : goal.returns-then-skips-clause-live
returns-then-skips-clause-live c =
    let t : TraceView = record { opening = c.self.inside.opening; events = c.self.inside.events.items } in
    let w = c.self.inside.world in
    let k = c.self.inside.recorder in
    let i : IsTrace t w k = c.self.invariant in
    subst (λ (v : TraceView). AreLive product v.opening v.events) c.self.view_is (trace_live t w k i)

pub returns-then-skips-clause-rows : goal.returns-then-skips-clause-rows
returns-then-skips-clause-rows c =
    let t : TraceView = record { opening = c.self.inside.opening; events = c.self.inside.events.items } in
    let w = c.self.inside.world in
    let k = c.self.inside.recorder in
    let i : IsTrace t w k = c.self.invariant in
    subst (λ (v : TraceView). KeepsRows product v.opening v.events) c.self.view_is (trace_reach t w k i)

pub returns-then-skips-clause-bound : goal.returns-then-skips-clause-bound
returns-then-skips-clause-bound c =
    let t : TraceView = record { opening = c.self.inside.opening; events = c.self.inside.events.items } in
    let w = c.self.inside.world in
    let k = c.self.inside.recorder in
    let i : IsTrace t w k = c.self.invariant in
    subst (λ (v : TraceView). IsBounded v.opening v.events) c.self.view_is (trace_bounded t w k i)

pub returns-in_err-push-clause-laws : goal.returns-in_err-push-clause-laws
returns-in_err-push-clause-laws c =
    let t : TraceView = record { opening = c.self.inside.opening; events = c.self.inside.events.items } in
    let w = c.self.inside.world in
    let k = c.self.inside.recorder in
    let i : IsTrace t w k = c.self.invariant in
    let same : c.push.new.self.items ≡ t.events = c.in_err-push.ensures.items in
    subst (λ (es : List Event). KeepsLaws product (run_of (record t { events = es }))) (sym same) (trace_laws t w k i)

pub returns-in_err-push-clause-live : goal.returns-in_err-push-clause-live
returns-in_err-push-clause-live c =
    let t : TraceView = record { opening = c.self.inside.opening; events = c.self.inside.events.items } in
    let w = c.self.inside.world in
    let k = c.self.inside.recorder in
    let i : IsTrace t w k = c.self.invariant in
    let same : c.push.new.self.items ≡ t.events = c.in_err-push.ensures.items in
    subst (λ (es : List Event). AreLive product t.opening es) (sym same) (trace_live t w k i)

pub returns-in_err-push-clause-rows : goal.returns-in_err-push-clause-rows
returns-in_err-push-clause-rows c =
    let t : TraceView = record { opening = c.self.inside.opening; events = c.self.inside.events.items } in
    let w = c.self.inside.world in
    let k = c.self.inside.recorder in
    let i : IsTrace t w k = c.self.invariant in
    let same : c.push.new.self.items ≡ t.events = c.in_err-push.ensures.items in
    subst (λ (es : List Event). KeepsRows product t.opening es) (sym same) (trace_reach t w k i)

pub returns-in_err-push-clause-bound : goal.returns-in_err-push-clause-bound
returns-in_err-push-clause-bound c =
    let t : TraceView = record { opening = c.self.inside.opening; events = c.self.inside.events.items } in
    let w = c.self.inside.world in
    let k = c.self.inside.recorder in
    let i : IsTrace t w k = c.self.invariant in
    let same : c.push.new.self.items ≡ t.events = c.in_err-push.ensures.items in
    subst (λ (es : List Event). IsBounded t.opening es) (sym same) (trace_bounded t w k i)

pub step_recorded-requires-clause-seat : goal.step_recorded-requires-clause-seat
step_recorded-requires-clause-seat c =
    let t : TraceView = record { opening = c.self.inside.opening; events = c.self.inside.events.items } in
    let w = c.self.inside.world in
    let k = c.self.inside.recorder in
    let i : IsTrace t w k = c.self.invariant in
    let seat : c.args.event.seat < t.opening.seats = subst (λ (v : TraceView). c.args.event.seat < v.opening.seats) (sym c.self.view_is) c.requires.seat in
    omega (arith, seat, trace_seats t w k i)

pub step_recorded-requires-clause-kept : goal.step_recorded-requires-clause-kept
step_recorded-requires-clause-kept c =
    let t : TraceView = record { opening = c.self.inside.opening; events = c.self.inside.events.items } in
    let w = c.self.inside.world in
    let k = c.self.inside.recorder in
    let i : IsTrace t w k = c.self.invariant in
    trace_run t w k i

pub invariant_of-self-in-Ok : goal.invariant_of-self-in-Ok
invariant_of-self-in-Ok c =
    let t : TraceView = record { opening = c.self.inside.opening; events = c.self.inside.events.items } in
    let w = c.self.inside.world in
    let k = c.self.inside.recorder in
    let i : IsTrace t w k = c.self.invariant in
    let e = c.args.event in
    let l = c.local.result.now in
    let knows : slice_get w.locals e.seat ≡ Some l = c.local.ensures in
    let moves : is_skipped l.activity e.choice ≡ false = sym c.skips.ensures ∙ c.if-skips.false in
    let more : IsTrace (record t { events = t.events ++ e ∷ [] }) c.step_recorded.new.world c.step_recorded.new.recorder =
    trace_more t w c.step_recorded.new.world k c.step_recorded.new.recorder e l c.in-Ok.done i (subst (λ (v : TraceView). e.seat < v.opening.seats) (sym c.self.view_is) c.requires.seat)
    ((subst (λ (x : WorldView). CanStep x e) (sym i.world) (subst (λ (v : TraceView). CanStep (world_of v) e) (sym c.self.view_is) c.requires.begin)) l knows) knows moves c.in-Ok.ensures.ok c.in-Ok.ensures.recorded in
    let events : c.push.new.self.items ≡ t.events ++ e ∷ [] = c.in_ok-push.ensures.items in
    subst (λ (es : List Event). IsTrace (record t { events = es }) c.step_recorded.new.world c.step_recorded.new.recorder) (sym events) more

pub returns-in-Ok-clause-ok : goal.returns-in-Ok-clause-ok
returns-in-Ok-clause-ok c =
    let t : TraceView = record { opening = c.self.inside.opening; events = c.self.inside.events.items } in
    let w = c.self.inside.world in
    let k = c.self.inside.recorder in
    let i : IsTrace t w k = c.self.invariant in
    let e = c.args.event in
    let l = c.local.result.now in
    let knows : slice_get w.locals e.seat ≡ Some l = c.local.ensures in
    let moves : is_skipped l.activity e.choice ≡ false = sym c.skips.ensures ∙ c.if-skips.false in
    let more : IsTrace (record t { events = t.events ++ e ∷ [] }) c.step_recorded.new.world c.step_recorded.new.recorder =
    trace_more t w c.step_recorded.new.world k c.step_recorded.new.recorder e l c.in-Ok.done i (subst (λ (v : TraceView). e.seat < v.opening.seats) (sym c.self.view_is) c.requires.seat)
    ((subst (λ (x : WorldView). CanStep x e) (sym i.world) (subst (λ (v : TraceView). CanStep (world_of v) e) (sym c.self.view_is) c.requires.begin)) l knows) knows moves c.in-Ok.ensures.ok c.in-Ok.ensures.recorded in
    let events : c.push.new.self.items ≡ t.events ++ e ∷ [] = c.in_ok-push.ensures.items in
    let done : IsMade c.in-Ok.done = subst IsMade (sym (ap (λ (x : Stepped). x.done) c.in-Ok.ensures.ok)) (step-made product w e l knows moves) in
    ap (λ (es : List Event). record t { events = es }) events ∙ sym (kept t e c.in-Ok.done done) ∙ ap (λ (v : TraceView). pushed v e c.in-Ok.done) c.self.view_is

pub returns-in-Ok-clause-skipped : goal.returns-in-Ok-clause-skipped
returns-in-Ok-clause-skipped c =
    let t : TraceView = record { opening = c.self.inside.opening; events = c.self.inside.events.items } in
    let w = c.self.inside.world in
    let k = c.self.inside.recorder in
    let i : IsTrace t w k = c.self.invariant in
    let e = c.args.event in
    let l = c.local.result.now in
    let knows : slice_get w.locals e.seat ≡ Some l = c.local.ensures in
    let moves : is_skipped l.activity e.choice ≡ false = sym c.skips.ensures ∙ c.if-skips.false in
    let done : IsMade c.in-Ok.done = subst IsMade (sym (ap (λ (x : Stepped). x.done) c.in-Ok.ensures.ok)) (step-made product w e l knows moves) in
    λ other known.
    let here : slice_get w.locals e.seat ≡ Some other = subst (λ (x : WorldView). slice_get x.locals e.seat ≡ Some other) (ap world_of (sym c.self.view_is) ∙ sym i.world) known in
    let same : l ≡ other = same_Some l other (sym knows ∙ here) in
    (λ skipped. absurd (subst IsMade skipped done), λ skips. let never : false ≡ true = sym moves ∙ ap (λ (x : Local). is_skipped x.activity e.choice) same ∙ skips in absurd (cc))

pub returns-in-Ok-clause-laws : goal.returns-in-Ok-clause-laws
returns-in-Ok-clause-laws c =
    let t : TraceView = record { opening = c.self.inside.opening; events = c.self.inside.events.items } in
    let w = c.self.inside.world in
    let k = c.self.inside.recorder in
    let i : IsTrace t w k = c.self.invariant in
    let e = c.args.event in
    let l = c.local.result.now in
    let knows : slice_get w.locals e.seat ≡ Some l = c.local.ensures in
    let moves : is_skipped l.activity e.choice ≡ false = sym c.skips.ensures ∙ c.if-skips.false in
    let more : IsTrace (record t { events = t.events ++ e ∷ [] }) c.step_recorded.new.world c.step_recorded.new.recorder =
    trace_more t w c.step_recorded.new.world k c.step_recorded.new.recorder e l c.in-Ok.done i (subst (λ (v : TraceView). e.seat < v.opening.seats) (sym c.self.view_is) c.requires.seat)
    ((subst (λ (x : WorldView). CanStep x e) (sym i.world) (subst (λ (v : TraceView). CanStep (world_of v) e) (sym c.self.view_is) c.requires.begin)) l knows) knows moves c.in-Ok.ensures.ok c.in-Ok.ensures.recorded in
    let events : c.push.new.self.items ≡ t.events ++ e ∷ [] = c.in_ok-push.ensures.items in
    subst (λ (es : List Event). KeepsLaws product (run_of (record t { events = es }))) (sym events) (trace_laws _ _ _ more)

pub returns-in-Ok-clause-live : goal.returns-in-Ok-clause-live
returns-in-Ok-clause-live c =
    let t : TraceView = record { opening = c.self.inside.opening; events = c.self.inside.events.items } in
    let w = c.self.inside.world in
    let k = c.self.inside.recorder in
    let i : IsTrace t w k = c.self.invariant in
    let e = c.args.event in
    let l = c.local.result.now in
    let knows : slice_get w.locals e.seat ≡ Some l = c.local.ensures in
    let moves : is_skipped l.activity e.choice ≡ false = sym c.skips.ensures ∙ c.if-skips.false in
    let more : IsTrace (record t { events = t.events ++ e ∷ [] }) c.step_recorded.new.world c.step_recorded.new.recorder =
    trace_more t w c.step_recorded.new.world k c.step_recorded.new.recorder e l c.in-Ok.done i (subst (λ (v : TraceView). e.seat < v.opening.seats) (sym c.self.view_is) c.requires.seat)
    ((subst (λ (x : WorldView). CanStep x e) (sym i.world) (subst (λ (v : TraceView). CanStep (world_of v) e) (sym c.self.view_is) c.requires.begin)) l knows) knows moves c.in-Ok.ensures.ok c.in-Ok.ensures.recorded in
    let events : c.push.new.self.items ≡ t.events ++ e ∷ [] = c.in_ok-push.ensures.items in
    subst (λ (es : List Event). AreLive product t.opening es) (sym events) (trace_live _ _ _ more)

pub returns-in-Ok-clause-rows : goal.returns-in-Ok-clause-rows
returns-in-Ok-clause-rows c =
    let t : TraceView = record { opening = c.self.inside.opening; events = c.self.inside.events.items } in
    let w = c.self.inside.world in
    let k = c.self.inside.recorder in
    let i : IsTrace t w k = c.self.invariant in
    let e = c.args.event in
    let l = c.local.result.now in
    let knows : slice_get w.locals e.seat ≡ Some l = c.local.ensures in
    let moves : is_skipped l.activity e.choice ≡ false = sym c.skips.ensures ∙ c.if-skips.false in
    let more : IsTrace (record t { events = t.events ++ e ∷ [] }) c.step_recorded.new.world c.step_recorded.new.recorder =
    trace_more t w c.step_recorded.new.world k c.step_recorded.new.recorder e l c.in-Ok.done i (subst (λ (v : TraceView). e.seat < v.opening.seats) (sym c.self.view_is) c.requires.seat)
    ((subst (λ (x : WorldView). CanStep x e) (sym i.world) (subst (λ (v : TraceView). CanStep (world_of v) e) (sym c.self.view_is) c.requires.begin)) l knows) knows moves c.in-Ok.ensures.ok c.in-Ok.ensures.recorded in
    let events : c.push.new.self.items ≡ t.events ++ e ∷ [] = c.in_ok-push.ensures.items in
    subst (λ (es : List Event). KeepsRows product t.opening es) (sym events) (trace_reach _ _ _ more)

pub returns-in-Ok-clause-bound : goal.returns-in-Ok-clause-bound
returns-in-Ok-clause-bound c =
    let t : TraceView = record { opening = c.self.inside.opening; events = c.self.inside.events.items } in
    let w = c.self.inside.world in
    let k = c.self.inside.recorder in
    let i : IsTrace t w k = c.self.invariant in
    let e = c.args.event in
    let l = c.local.result.now in
    let knows : slice_get w.locals e.seat ≡ Some l = c.local.ensures in
    let moves : is_skipped l.activity e.choice ≡ false = sym c.skips.ensures ∙ c.if-skips.false in
    let more : IsTrace (record t { events = t.events ++ e ∷ [] }) c.step_recorded.new.world c.step_recorded.new.recorder =
    trace_more t w c.step_recorded.new.world k c.step_recorded.new.recorder e l c.in-Ok.done i (subst (λ (v : TraceView). e.seat < v.opening.seats) (sym c.self.view_is) c.requires.seat)
    ((subst (λ (x : WorldView). CanStep x e) (sym i.world) (subst (λ (v : TraceView). CanStep (world_of v) e) (sym c.self.view_is) c.requires.begin)) l knows) knows moves c.in-Ok.ensures.ok c.in-Ok.ensures.recorded in
    let events : c.push.new.self.items ≡ t.events ++ e ∷ [] = c.in_ok-push.ensures.items in
    subst (λ (es : List Event). IsBounded t.opening es) (sym events) (trace_bounded _ _ _ more)

pub returns-in-Err-clause-laws : goal.returns-in-Err-clause-laws
returns-in-Err-clause-laws c =
    let t : TraceView = record { opening = c.self.inside.opening; events = c.self.inside.events.items } in
    let w = c.self.inside.world in
    let k = c.self.inside.recorder in
    let i : IsTrace t w k = c.self.invariant in
    let pushed_on : c.push.new.self.items ≡ t.events ++ c.args.event ∷ [] = c.in_ok-push.ensures.items in
    let last : vec_len c.push.new.self - 1 ≡ length t.events = omega (arith, c.in_ok-push.ensures.len) in
    let same : c.pop.new.self.items ≡ t.events = c.pop.ensures.rest ∙ ap (λ (n : ℕ). take n c.push.new.self.items) last ∙ ap (take (length t.events)) pushed_on ∙ take-append_seam t.events (c.args.event ∷ []) in
    subst (λ (es : List Event). KeepsLaws product (run_of (record t { events = es }))) (sym same) (trace_laws t w k i)

pub returns-in-Err-clause-live : goal.returns-in-Err-clause-live
returns-in-Err-clause-live c =
    let t : TraceView = record { opening = c.self.inside.opening; events = c.self.inside.events.items } in
    let w = c.self.inside.world in
    let k = c.self.inside.recorder in
    let i : IsTrace t w k = c.self.invariant in
    let pushed_on : c.push.new.self.items ≡ t.events ++ c.args.event ∷ [] = c.in_ok-push.ensures.items in
    let last : vec_len c.push.new.self - 1 ≡ length t.events = omega (arith, c.in_ok-push.ensures.len) in
    let same : c.pop.new.self.items ≡ t.events = c.pop.ensures.rest ∙ ap (λ (n : ℕ). take n c.push.new.self.items) last ∙ ap (take (length t.events)) pushed_on ∙ take-append_seam t.events (c.args.event ∷ []) in
    subst (λ (es : List Event). AreLive product t.opening es) (sym same) (trace_live t w k i)

pub returns-in-Err-clause-rows : goal.returns-in-Err-clause-rows
returns-in-Err-clause-rows c =
    let t : TraceView = record { opening = c.self.inside.opening; events = c.self.inside.events.items } in
    let w = c.self.inside.world in
    let k = c.self.inside.recorder in
    let i : IsTrace t w k = c.self.invariant in
    let pushed_on : c.push.new.self.items ≡ t.events ++ c.args.event ∷ [] = c.in_ok-push.ensures.items in
    let last : vec_len c.push.new.self - 1 ≡ length t.events = omega (arith, c.in_ok-push.ensures.len) in
    let same : c.pop.new.self.items ≡ t.events = c.pop.ensures.rest ∙ ap (λ (n : ℕ). take n c.push.new.self.items) last ∙ ap (take (length t.events)) pushed_on ∙ take-append_seam t.events (c.args.event ∷ []) in
    subst (λ (es : List Event). KeepsRows product t.opening es) (sym same) (trace_reach t w k i)

pub returns-in-Err-clause-bound : goal.returns-in-Err-clause-bound
returns-in-Err-clause-bound c =
    let t : TraceView = record { opening = c.self.inside.opening; events = c.self.inside.events.items } in
    let w = c.self.inside.world in
    let k = c.self.inside.recorder in
    let i : IsTrace t w k = c.self.invariant in
    let pushed_on : c.push.new.self.items ≡ t.events ++ c.args.event ∷ [] = c.in_ok-push.ensures.items in
    let last : vec_len c.push.new.self - 1 ≡ length t.events = omega (arith, c.in_ok-push.ensures.len) in
    let same : c.pop.new.self.items ≡ t.events = c.pop.ensures.rest ∙ ap (λ (n : ℕ). take n c.push.new.self.items) last ∙ ap (take (length t.events)) pushed_on ∙ take-append_seam t.events (c.args.event ∷ []) in
    subst (λ (es : List Event). IsBounded t.opening es) (sym same) (trace_bounded t w k i)
