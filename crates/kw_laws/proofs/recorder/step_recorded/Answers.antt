use Rattle.std.proofs.Common.{◌≡◌, ◌∙◌, sym, ap, subst, arith, length, length-set, slice_get, Some}
use Rattle.kw_world.specs.Sizes.{product}
use Rattle.kw_world.specs.WorldView.{WorldView}
use Rattle.kw_world.specs.declared.activity.Activity.{Activity}
use Rattle.kw_world.specs.declared.local.Local.{Local}
use Rattle.kw_world.specs.Sane.{IsSane}
use Rattle.kw_world.specs.Step.{step, stepped, Stepped, is_skipped}
use Rattle.kw_world.proofs.Steps.{step-skipped, step-moved}
use Rattle.kw_core.specs.Run.{Run, goes_on}
use Rattle.kw_core.specs.Appended.{appended}
use Rattle.kw_core.specs.Recording.{Recording}
use Rattle.kw_laws.specs.Recorder.{Records, CanSettle, happening_at, logged_of, entry_of, settled_by}
use Rattle.kw_core.specs.declared.change.Happening.{Happening}
use Rattle.kw_laws.specs.declared.recorder.Entry.{Entry}
use Rattle.kw_core.proofs.Runs.{goes_on-moved}
use Rattle.kw_laws.proofs.Recorded.{goes_on-skipped, prepared, next_activity, next_known, records_on}
use Rattle.kw_laws.proofs.CanRecord.{can_settle, can_offer, begun_of}
use Rattle.kw_laws.proofs.recorder.step_recorded.Goals as goal

-- a record with an event appended that is about to be made
abbrev with_happening : Recording → Local → Happening → Recording
with_happening k l x = record k { history = appended k.history (logged_of x) (entry_of product k l x).change }

pub returns-then-skips-clause-ok : goal.returns-then-skips-clause-ok
returns-then-skips-clause-ok c = sym (step-skipped product c.args.world.now c.args.event c.local-local.result.now c.local-local.ensures (sym c.skips.ensures ∙ c.if-skips.true))

pub returns-then-skips-clause-recorded : goal.returns-then-skips-clause-recorded
returns-then-skips-clause-recorded c = λ r w i.
    let knows : slice_get r.world.locals c.args.event.seat ≡ Some c.local-local.result.now = subst (λ (x : WorldView). slice_get x.locals c.args.event.seat ≡ Some c.local-local.result.now) (sym w) c.local-local.ensures in
    subst (Records product c.args.recorder.now) (sym (goes_on-skipped product r c.args.event c.local-local.result.now knows (sym c.skips.ensures ∙ c.if-skips.true))) i

pub prepare-requires-clause-seat : goal.prepare-requires-clause-seat
prepare-requires-clause-seat c =
    let k = c.requires.kept in
    let seat = ap (λ (x : Happening). x.seat) (c.of.ensures c.local-local.result.now c.local-local.ensures) in
    omega (arith, seat, k.2.seats, ap (λ (x : WorldView). length x.locals) k.1, c.requires.seat)

pub prepare-requires-clause-scans : goal.prepare-requires-clause-scans
prepare-requires-clause-scans c =
    let k = c.requires.kept in
    let seat = ap (λ (x : Happening). x.seat) (c.of.ensures c.local-local.result.now c.local-local.ensures) in
    omega (arith, seat, k.2.scans, k.3.shape.sane.seats, ap (λ (x : WorldView). length x.locals) k.1, c.requires.seat)

pub prepare-requires-clause-ranges : goal.prepare-requires-clause-ranges
prepare-requires-clause-ranges c =
    let k = c.requires.kept in
    ((subst (IsSane product) k.1 k.3.shape.sane).locals _ _ c.local-local.ensures).ranges

pub prepare-requires-clause-begin : goal.prepare-requires-clause-begin
prepare-requires-clause-begin c =
    rw (c.of.ensures c.local-local.result.now c.local-local.ensures) (can_offer c.args.world.now.rows c.args.event.choice c.local-local.result.now (c.requires.begin c.local-local.result.now c.local-local.ensures))

pub prepare-requires-clause-origins : goal.prepare-requires-clause-origins
prepare-requires-clause-origins c =
    let k = c.requires.kept in
    let row = ((subst (IsSane product) k.1 k.3.shape.sane).locals _ _ c.local-local.ensures).below.row in
    omega (arith, row, k.2.cells, ap (λ (x : WorldView). x.rows) k.1)

pub local-requires : goal.local-requires
local-requires c =
    let moved = step-moved product c.args.world.now c.args.event c.local-local.result.now c.local-local.ensures (sym c.skips.ensures ∙ c.if-skips.false) in
    let same = ap (λ (x : Stepped). length x.world.locals) (c.in-Ok.ensures.ok ∙ moved) in
    omega (arith, same, c.requires.seat, length-set {A = Local})

pub settle-requires : goal.settle-requires
settle-requires c =
    let k = c.requires.kept in
    let l = c.local-local.result.now in
    let e = c.args.event in
    let knows : slice_get k.0.world.locals e.seat ≡ Some l = subst (λ (x : WorldView). slice_get x.locals e.seat ≡ Some l) (sym k.1) c.local-local.ensures in
    let happening : c.of.result ≡ happening_at product k.0.world e l = c.of.ensures l c.local-local.ensures ∙ ap (λ (x : WorldView). happening_at product x e l) (sym k.1) in
    let is_prepared : c.prepare.new.self ≡ prepared product c.args.recorder.now k.0 e l = c.in_ok-entry.ensures.ok ∙ ap (with_happening c.args.recorder.now l) happening in
    let is_entry : c.in_ok-entry.entry ≡ entry_of product c.args.recorder.now l (happening_at product k.0.world e l) = c.in_ok-entry.ensures.entry ∙ ap (entry_of product c.args.recorder.now l) happening in
    subst (λ (x : Recording). CanSettle product x c.in_ok-entry.entry) (sym is_prepared)
    (subst (λ (x : Entry). CanSettle product (prepared product c.args.recorder.now k.0 e l) x) (sym is_entry)
    (can_settle product c.args.recorder.now k.0 e l k.2 k.3 (begun_of e.choice l (c.requires.begin l c.local-local.ensures)) knows (sym c.skips.ensures ∙ c.if-skips.false)))

pub returns-in-Ok-clause-recorded : goal.returns-in-Ok-clause-recorded
returns-in-Ok-clause-recorded c = λ r w i.
    let k = c.requires.kept in
    let l = c.local-local.result.now in
    let e = c.args.event in
    let moves : is_skipped l.activity e.choice ≡ _ = sym c.skips.ensures ∙ c.if-skips.false in
    let knows : slice_get r.world.locals e.seat ≡ Some l = subst (λ (x : WorldView). slice_get x.locals e.seat ≡ Some l) (sym w) c.local-local.ensures in
    let happening : c.of.result ≡ happening_at product r.world e l = c.of.ensures l c.local-local.ensures ∙ ap (λ (x : WorldView). happening_at product x e l) (sym w) in
    let sane : IsSane product r.world = subst (IsSane product) (k.1 ∙ sym w) k.3.shape.sane in
    let next : c.local.result.now.activity ≡ next_activity product r e l =
    next_known product r e l c.local.result.now c.step.new.world c.in-Ok.done knows moves (subst (λ (x : WorldView). stepped c.step.new.world c.in-Ok.done ≡ step product x e) (sym w) c.in-Ok.ensures.ok) c.local.ensures in
    let is_prepared : c.prepare.new.self ≡ prepared product c.args.recorder.now r e l = c.in_ok-entry.ensures.ok ∙ ap (with_happening c.args.recorder.now l) happening in
    let is_entry : c.in_ok-entry.entry ≡ entry_of product c.args.recorder.now l (happening_at product r.world e l) = c.in_ok-entry.ensures.entry ∙ ap (entry_of product c.args.recorder.now l) happening in
    let settles : c.settle.new.self ≡ settled_by product (prepared product c.args.recorder.now r e l) (entry_of product c.args.recorder.now l (happening_at product r.world e l)) (next_activity product r e l) =
    c.settle.ensures ∙ ap (λ (x : Recording). settled_by product x c.in_ok-entry.entry c.local.result.now.activity) is_prepared ∙
    ap (λ (x : Entry). settled_by product (prepared product c.args.recorder.now r e l) x c.local.result.now.activity) is_entry ∙
    ap (λ (x : Activity). settled_by product (prepared product c.args.recorder.now r e l) (entry_of product c.args.recorder.now l (happening_at product r.world e l)) x) next in
    subst (λ (x : Recording). Records product x (goes_on product r e)) (sym settles)
    (subst (λ (x : Run). Records product (settled_by product (prepared product c.args.recorder.now r e l) (entry_of product c.args.recorder.now l (happening_at product r.world e l)) (next_activity product r e l)) x) (sym (goes_on-moved product r e l knows moves))
    (records_on product c.args.recorder.now r e l i sane knows))
