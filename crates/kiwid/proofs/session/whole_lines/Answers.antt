use Rattle.std.proofs.Common.{◌≡◌, ◌++◌, ◌∷◌, ◌+◌, ◌∙◌, length, drop, ap, arith, length-append, length-drop}
use Rattle.std.proofs.lemmas.List.{take_rest}
use Rattle.kw_line.specs.declared.words.TheConstants.{LINE_FEED}
use Rattle.kiwid.specs.declared.session.SessionEnd.TheVariants.{Limit}
use Rattle.kiwid.proofs.Passes.{stays_idle, stays_trans}
use Rattle.kiwid.proofs.Ways.{limit_reached, rest_behind, too_long, took_ends, took_more, took_none, whole_stops}
use Rattle.kiwid.proofs.session.whole_lines.Goals as goal

pub loop-at-init : goal.loop-at-init
loop-at-init g c = record { stays = stays_idle _ _ c.requires.idle; within = omega arith; few = c.requires.few; took = took_none c.args.held.now _ _ _; never_falls = omega arith }

pub returns-then-count-eq-MOST_LINES-clause-ends : goal.returns-then-count-eq-MOST_LINES-clause-ends
returns-then-count-eq-MOST_LINES-clause-ends g c = λ more.
    let rest = drop c.loop-at.at c.args.held.now in
    took_ends c.args.held.now rest more _ _ _ _ _ _ _ _ Limit c.loop-at.invariant.took (limit_reached c.loop-at.replies.count _ _ (rest ++ more) c.if-count-eq-MOST_LINES.true (omega (arith, length-append rest more, length-drop c.loop-at.at c.args.held.now, c.loop-at-test.true)))

pub returns-then-rest-gt-MOST_BYTES-clause-ends : goal.returns-then-rest-gt-MOST_BYTES-clause-ends
returns-then-rest-gt-MOST_BYTES-clause-ends g c = λ more.
    let rest = drop c.loop-at.at c.args.held.now in
    took_ends c.args.held.now rest more _ _ _ _ _ _ _ _ c.refuse.result c.loop-at.invariant.took (too_long rest more c.loop-at.replies.count c.refuse.result _ _ _ (omega (arith, c.loop-at.invariant.few, c.if-count-eq-MOST_LINES.false)) (rw take_rest at c.in_default.ensures) (omega (arith, length-drop c.loop-at.at c.args.held.now, c.if-rest-gt-MOST_BYTES.true)) c.refuse.ensures.refuses)

pub returns-in-Err-clause-ends : goal.returns-in-Err-clause-ends
returns-in-Err-clause-ends g c = λ more.
    let rest = drop c.loop-at.at c.args.held.now in
    took_ends c.args.held.now rest more _ _ _ _ _ _ _ _ c.in-Err.end c.loop-at.invariant.took (whole_stops rest c.in-Some.line.now _ more c.loop-at.replies.count c.in-Err.end _ _ _ _ (omega (arith, c.loop-at.invariant.few, c.if-count-eq-MOST_LINES.false)) (rw take_rest at c.in-Some.ensures.0) c.in-Some.ensures.1 c.in-Err.ensures.stops)

pub returns-in-Err-clause-stays : goal.returns-in-Err-clause-stays
returns-in-Err-clause-stays g c = stays_trans _ _ _ _ c.loop-at.invariant.stays c.one_line.ensures.stays

pub loop-at-preserved : goal.loop-at-preserved
loop-at-preserved g c =
    let held = c.args.held.now in
    let at = c.loop-at.at in
    let line = c.in-Some.line.now in
    let behind = c.in-Some.field-0-1.now in
    let cut : drop at held ≡ line ++ LINE_FEED ∷ behind = rw take_rest at c.in-Some.ensures.0 in
    let long : length (drop at held) ≡ length line + (1 + length behind) = ap length cut ∙ (omega (arith, length-append line (LINE_FEED ∷ behind))) in
    let done = (c.in_default-one_line.ensures {u = tt}) in
    record {
      stays = stays_trans _ _ _ _ c.loop-at.invariant.stays done.stays;
      within = omega (arith, long, length-drop at held);
      few = done.few;
      took = rw (rest_behind held line behind at cut) (rw done.done.1 (took_more held (drop at held) line behind _ _ _ _ _ _ _ _ c.loop-at.invariant.took cut c.in-Some.ensures.1 done.done.0));
      never_falls = omega (arith, c.loop-at.invariant.never_falls, done.never_falls);
    }
