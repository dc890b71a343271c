use Rattle.std.proofs.Common.{ap, ◌∙◌, arith, subst, sym}
use Rattle.kw_core.specs.Stages.{is_walking_stage}
use Rattle.kw_model.specs.Map.{Pairs}
use Rattle.kw_follow.proofs.OwnEvents.{goes_trans}
use Rattle.kw_map.specs.Gather.{Takes, TakesPrefix}
use Rattle.kw_map.proofs.RowStages.{fewer_rows, prefix_behind, rose_later, stopped_here}
use Rattle.kw_map.proofs.TakeLemmas.{Takes-append}
use Rattle.kw_map.proofs.scanning.gather_rows.Goals as goal

pub returns-in-Err-clause-gathers : goal.returns-in-Err-clause-gathers
returns-in-Err-clause-gathers g c =
    let i = c.loop-guess.invariant in
    let r = c.in-Err.ensures in
    let took = subst (λ (ps : Pairs). TakesPrefix g.G.Gather.last g.G.Gather.stands c.args.into.now ps c.gather_row.new.into) (sym r.reads.held)
    (prefix_behind g.G.Gather.last g.G.Gather.stands c.args.into.now c.loop-guess.into c.gather_row.new.into _ _ i.takes r.reads.prefix) in
    let prefix = stopped_here (λ (ps : Pairs). Takes g.G.Gather.last g.G.Gather.stands c.args.into.now ps c.gather_row.new.into) c.args.shared.now c.args.pass.now c.gather_row.new.pass c.stop_scan.new.pass c.gather_row.new.local c.args.local.now.call
    r.reads.low c.args.upto c.loop-guess.local.version (goes_trans _ _ _ _ i.goes r.on.goes) c.stop_scan.ensures.on.goes r.on.follows (r.call ∙ i.asks) (c.requires.scan.0, (r.call ∙ i.asks) ∙ c.requires.scan.1) r.reads.stage took in
    record { leaves = c.stop_scan.ensures.activity; all = tt; prefix = prefix; stopped = rose_later _ _ _ i.counts r.reads.stopped }

pub loop-guess-smaller : goal.loop-guess-smaller
loop-guess-smaller g c =
    let r = c.in_default.ensures in
    fewer_rows r.reads.low c.args.upto c.loop-guess.local.version c.loop-guess.local c.gather_row.new.local (ap is_walking_stage (sym c.of.ensures) ∙ sym c.is_walking.ensures ∙ c.loop-guess-test.true) r.reads.rises r.reads.stage

pub loop-guess-preserved : goal.loop-guess-preserved
loop-guess-preserved g c =
    let i = c.loop-guess.invariant in
    let r = c.in_default.ensures in
    record {
      goes = goes_trans _ _ _ _ i.goes r.on.goes;
      follows = r.on.follows;
      asks = r.call ∙ i.asks;
      calls = r.on.calls ∙ i.calls;
      takes = subst (λ (ps : Pairs). Takes g.G.Gather.last g.G.Gather.stands c.args.into.now ps c.gather_row.new.into) (sym r.reads.held)
          (Takes-append g.G.Gather.last g.G.Gather.stands c.args.into.now c.loop-guess.into c.gather_row.new.into _ _ i.takes r.reads.all);
      counts = omega (arith, i.counts, r.reads.never_falls);
      between = r.reads.between;
    }
