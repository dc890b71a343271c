use Rattle.std.proofs.Common.{◌≡◌, List, length, sym, subst, arith}
use Rattle.kw_table.specs.declared.pass.Pass.{Pass}
use Rattle.kw_map.specs.Meetings.{AtEach, MeetsAt, front_seen}
use Rattle.kiwid.proofs.Meetings.{written_over}
use Rattle.kiwid.proofs.serving.met.Goals as goal

pub returns-clause-each : goal.returns-clause-each
returns-clause-each c =
    let v = c.args.passes in
    let same : length c.meet_all.new.passes ≡ c.args.passes.len = omega (arith, c.as_mut_slice.ensures.len) in
    subst (λ (l : List Pass). AtEach (MeetsAt c.args.kiwi.now (front_seen l)) c.args.passes.items l) (sym (written_over c.meet_all.new.passes c.args.passes.items c.args.passes.len same (omega arith)))
    (subst (λ (l : List Pass). AtEach (MeetsAt c.args.kiwi.now (front_seen c.meet_all.new.passes)) l c.meet_all.new.passes) c.as_mut_slice.ensures.value c.meet_all.ensures)
