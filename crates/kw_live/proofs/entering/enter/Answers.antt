use Rattle.std.proofs.Common.{refl, ◌≡◌, ◌∙◌, ap, subst, sym, false, true, Some}
use Rattle.std.specs.Prelude.{IfSome}
use Rattle.kw_world.specs.Calls.{is_scan}
use Rattle.kw_live.specs.Stages.{HasEntered}
use Rattle.kw_follow.proofs.Reaching.{advances_on, advances_trans, begins_on}
use Rattle.kw_live.proofs.Drawing.{enters, saw_clock_earlier}
use Rattle.kw_live.proofs.entering.enter.Goals as goal

pub draw-requires-clause-activity : goal.draw-requires-clause-activity
draw-requires-clause-activity c =
    let e = enters _ c.args.call _ _ _ c.requires.range c.begin.ensures.activity c.begin.ensures.begins.asks c.begin.ensures.begins.unread c.go_along.ensures.line in
    (e.scan _ c.in-Draw.is).0

pub draw-requires-clause-scan : goal.draw-requires-clause-scan
draw-requires-clause-scan c =
    let e = enters _ c.args.call _ _ _ c.requires.range c.begin.ensures.activity c.begin.ensures.begins.asks c.begin.ensures.begins.unread c.go_along.ensures.line in
    ap is_scan e.call_is ∙ (e.scan _ c.in-Draw.is).1

pub returns-in-Draw-clause-begins : goal.returns-in-Draw-clause-begins
returns-in-Draw-clause-begins c =
    let e = enters _ c.args.call _ _ _ c.requires.range c.begin.ensures.activity c.begin.ensures.begins.asks c.begin.ensures.begins.unread c.go_along.ensures.line in
    begins_on c.begin.ensures.begins (advances_trans (advances_on c.go_along.ensures refl) c.draw.ensures.on) (c.draw.ensures.call ∙ e.call_is) (c.draw.ensures.unread ∙ e.unread)

pub returns-in-Draw-clause-entered : goal.returns-in-Draw-clause-entered
returns-in-Draw-clause-entered c =
    let e = enters _ c.args.call _ _ _ c.requires.range c.begin.ensures.activity c.begin.ensures.begins.asks c.begin.ensures.begins.unread c.go_along.ensures.line in
    subst (λ x. IfSome x (λ k. HasEntered k c.draw.new.local.activity)) e.call_is c.draw.ensures.entered

pub returns-in-Draw-clause-spent : goal.returns-in-Draw-clause-spent
returns-in-Draw-clause-spent c = λ scan.
    let m = c.draw.ensures.spent in
    (m.0, saw_clock_earlier c.begin.ensures.begins.goes (saw_clock_earlier c.go_along.ensures.goes m.1), m.2)

pub returns-in_default-clause-begins : goal.returns-in_default-clause-begins
returns-in_default-clause-begins c =
    let e = enters _ c.args.call _ _ _ c.requires.range c.begin.ensures.activity c.begin.ensures.begins.asks c.begin.ensures.begins.unread c.go_along.ensures.line in
    begins_on c.begin.ensures.begins (advances_on c.go_along.ensures refl) e.call_is e.unread

pub returns-in_default-clause-entered : goal.returns-in_default-clause-entered
returns-in_default-clause-entered c =
    let e = enters _ c.args.call _ _ _ c.requires.range c.begin.ensures.activity c.begin.ensures.begins.asks c.begin.ensures.begins.unread c.go_along.ensures.line in
    (e.starts c.in_default.not-Draw).1

pub returns-in_default-clause-spent : goal.returns-in_default-clause-spent
returns-in_default-clause-spent c = λ scan.
    let e = enters _ c.args.call _ _ _ c.requires.range c.begin.ensures.activity c.begin.ensures.begins.asks c.begin.ensures.begins.unread c.go_along.ensures.line in
    let no : is_scan (Some c.args.call) ≡ false = (e.starts c.in_default.not-Draw).0 in
    let x : true ≡ false = sym scan ∙ no in
    absurd (cc)
