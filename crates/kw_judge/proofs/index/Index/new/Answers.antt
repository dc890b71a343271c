use Rattle.std.proofs.Common.{Some, subst, nat_cmp, arith}
use Rattle.std.proofs.lemmas.Option.{slice_get-get_or}
use Rattle.std.specs.BTreeMap.{Updates}
use Rattle.kw_judge.proofs.Indexes.{one_more}
use Rattle.kw_judge.proofs.index.Index.new.Goals as goal

pub loop-place-preserved : goal.loop-place-preserved
loop-place-preserved c =
    one_more c.args.names.now c.loop-place.place c.loop-place.places c.insert.new.self _ c.requires.fits (slice_get-get_or c.args.names.now c.loop-place.place _ (omega arith)) c.loop-place.invariant
    (subst (λ q. Updates nat_cmp c.loop-place.places c.insert.new.self q (Some c.loop-place.place)) c.key_of.ensures c.in_ok-insert.ensures.updates)
