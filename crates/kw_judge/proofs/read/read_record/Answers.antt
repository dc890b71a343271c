use Rattle.std.proofs.Common.{ap, ◌+◌, ◌++◌, ◌∷◌, ◌∙◌}
use Rattle.std.proofs.lemmas.List.{append-nil}
use Rattle.kw_judge.specs.Reader.{lines_taken}
use Rattle.kw_judge.proofs.OneRecord.{bad_or_record, only_one}
use Rattle.kw_judge.proofs.Readings.{begins, finished}
use Rattle.kw_judge.proofs.read.read_record.Goals as goal

pub returns-then-not-branch-clause-bad : goal.returns-then-not-branch-clause-bad
returns-then-not-branch-clause-bad c =
    let r = c.loop-line.reader in
    let next = c.in-Some.ensures {u = tt} in
    record {
      before = lines_taken r;
      after = c.in-Some.line.now ∷ c.next.new.self;
      number_is = ap (λ n. n + 1) c.count-next.ensures;
      cut = c.loop-line.invariant.taken ∙ ap (λ t. lines_taken r ++ t) next.steps;
      begins = begins r c.loop-line.invariant.reading;
      bad = rw c.if-not-branch.true at (c.in_ok-take.ensures {u = tt});
    }

pub returns-then-not-branch-clause-none : goal.returns-then-not-branch-clause-none
returns-then-not-branch-clause-none c = λ line r e h. bad_or_record c.args.bytes.now _ r (returns-then-not-branch-clause-bad c) h

pub returns-clause-only : goal.returns-clause-only
returns-clause-only c =
    let last = c.in-None.ensures {u = tt} in
    only_one c.args.bytes.now (lines_taken c.loop-line.reader) c.finish.result _ c.ok_or.result c.ok_or.ensures.value (c.loop-line.invariant.taken ∙ (ap (λ t. lines_taken c.loop-line.reader ++ t) last.steps.0 ∙ append-nil _)) c.finish.ensures

pub returns-clause-bad : goal.returns-clause-bad
returns-clause-bad c =
    let last = c.in-None.ensures {u = tt} in
    finished c.args.bytes.now c.loop-line.reader c.count-next-2.result c.finish.result c.ok_or.result c.ok_or.ensures.value c.loop-line.invariant.reading (c.loop-line.invariant.taken ∙ (ap (λ t. lines_taken c.loop-line.reader ++ t) last.steps.0 ∙ append-nil _)) c.count-next-2.ensures c.finish.ensures
