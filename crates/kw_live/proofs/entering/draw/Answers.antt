use Rattle.std.proofs.Common.{ap, refl, subst, sym}
use Rattle.kw_world.specs.declared.activity.draw.Draw.TheVariants as Draw
use Rattle.kw_world.specs.declared.local.Local.{Local}
use Rattle.kw_table.proofs.Prefixes.{prefix_self, prefix_trans}
use Rattle.kw_follow.specs.Within.{IsDrawing}
use Rattle.kw_follow.proofs.Reaching.{advances_on, advances_trans}
use Rattle.kw_live.proofs.Drawing.{draws, saw_clock, settles_on, settles_spent, still_waits, waits}
use Rattle.kw_live.proofs.entering.draw.Goals as goal

pub go_draw-requires-in-Draw-clause-drawing : goal.go_draw-requires-in-Draw-clause-drawing
go_draw-requires-in-Draw-clause-drawing c = subst IsDrawing (sym (still_waits _ _ _ _ _ c.requires.activity c.go_draw.ensures.line c.in-Draw.is)) tt

pub go_draw-requires-in-Draw-2-clause-drawing : goal.go_draw-requires-in-Draw-2-clause-drawing
go_draw-requires-in-Draw-2-clause-drawing c = subst (λ (k : Local). IsDrawing k.activity) (sym (waits _ _ _ _ (still_waits _ _ _ _ _ c.requires.activity c.go_draw.ensures.line c.in-Draw.is) c.go_draw-in-Draw.ensures.line)) tt

pub go_draw-requires-in-Draw-3-clause-drawing : goal.go_draw-requires-in-Draw-3-clause-drawing
go_draw-requires-in-Draw-3-clause-drawing c = subst (λ (k : Local). IsDrawing k.activity) (sym (draws _ _ _ _ (ap (λ (k : Local). k.activity) (waits _ _ _ _ (still_waits _ _ _ _ _ c.requires.activity c.go_draw.ensures.line c.in-Draw.is) c.go_draw-in-Draw.ensures.line)) c.go_draw-in-Draw-2.ensures.line)) tt

pub returns-in-Draw-clause-on : goal.returns-in-Draw-clause-on
returns-in-Draw-clause-on c =
    let waits = advances_trans (advances_on c.go_draw.ensures refl) (advances_on c.go_draw-in-Draw.ensures refl) in
    advances_trans waits (advances_trans (advances_on c.go_draw-in-Draw-2.ensures refl) (advances_on c.go_draw-in-Draw-3.ensures refl))

pub returns-in-Draw-clause-entered : goal.returns-in-Draw-clause-entered
returns-in-Draw-clause-entered c = (settles_on _ _ _ _ _ _ _ _ _ _ _ _ _ c.requires.scan c.requires.activity c.go_draw.ensures.line (still_waits _ _ _ _ _ c.requires.activity c.go_draw.ensures.line c.in-Draw.is) c.go_draw-in-Draw.ensures.line c.go_draw-in-Draw-2.ensures.line c.go_draw-in-Draw-3.ensures.line).entered c.requires.scan

pub returns-in-Draw-clause-call : goal.returns-in-Draw-clause-call
returns-in-Draw-clause-call c = (settles_on _ _ _ _ _ _ _ _ _ _ _ _ _ c.requires.scan c.requires.activity c.go_draw.ensures.line (still_waits _ _ _ _ _ c.requires.activity c.go_draw.ensures.line c.in-Draw.is) c.go_draw-in-Draw.ensures.line c.go_draw-in-Draw-2.ensures.line c.go_draw-in-Draw-3.ensures.line).call

pub returns-in-Draw-clause-unread : goal.returns-in-Draw-clause-unread
returns-in-Draw-clause-unread c = (settles_on _ _ _ _ _ _ _ _ _ _ _ _ _ c.requires.scan c.requires.activity c.go_draw.ensures.line (still_waits _ _ _ _ _ c.requires.activity c.go_draw.ensures.line c.in-Draw.is) c.go_draw-in-Draw.ensures.line c.go_draw-in-Draw-2.ensures.line c.go_draw-in-Draw-3.ensures.line).has_read

pub returns-in-Draw-clause-spent : goal.returns-in-Draw-clause-spent
returns-in-Draw-clause-spent c = (
  c.go_draw.ensures.told,
  saw_clock c.requires.activity c.go_draw.ensures.saw (prefix_trans _ _ _ c.go_draw-in-Draw.ensures.goes.seen (prefix_trans _ _ _ c.go_draw-in-Draw-2.ensures.goes.seen c.go_draw-in-Draw-3.ensures.goes.seen)),
  (settles_on _ _ _ _ _ _ _ _ _ _ _ _ _ c.requires.scan c.requires.activity c.go_draw.ensures.line (still_waits _ _ _ _ _ c.requires.activity c.go_draw.ensures.line c.in-Draw.is) c.go_draw-in-Draw.ensures.line c.go_draw-in-Draw-2.ensures.line c.go_draw-in-Draw-3.ensures.line).spent,
)

pub returns-in_default-clause-on : goal.returns-in_default-clause-on
returns-in_default-clause-on c = advances_on c.go_draw.ensures refl

pub returns-in_default-clause-entered : goal.returns-in_default-clause-entered
returns-in_default-clause-entered c = (settles_spent _ _ _ _ c.requires.activity c.go_draw.ensures.line (c.in_default.not-Draw Draw.Wait)).entered c.requires.scan

pub returns-in_default-clause-call : goal.returns-in_default-clause-call
returns-in_default-clause-call c = (settles_spent _ _ _ _ c.requires.activity c.go_draw.ensures.line (c.in_default.not-Draw Draw.Wait)).call

pub returns-in_default-clause-unread : goal.returns-in_default-clause-unread
returns-in_default-clause-unread c = (settles_spent _ _ _ _ c.requires.activity c.go_draw.ensures.line (c.in_default.not-Draw Draw.Wait)).has_read

pub returns-in_default-clause-spent : goal.returns-in_default-clause-spent
returns-in_default-clause-spent c = (c.go_draw.ensures.told, saw_clock c.requires.activity c.go_draw.ensures.saw (prefix_self _), (settles_spent _ _ _ _ c.requires.activity c.go_draw.ensures.line (c.in_default.not-Draw Draw.Wait)).spent)
