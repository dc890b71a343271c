use Rattle.std.proofs.Common.{ap, ◌∙◌, arith}
use Rattle.std.specs.Option.{is_some}
use Rattle.kw_model.specs.Map.{Pairs, put}
use Rattle.kw_model.proofs.Tree.{insert_is}
use Rattle.kw_rollup.specs.Kept.{Rolled}
use Rattle.kw_rollup.proofs.Changes.{can_put, put_made, undone, kept_undone, rises_inserted}
use Rattle.kw_rollup.proofs.rollup.Rollup.put.Goals as goal

pub put_point-requires : goal.put_point-requires
put_point-requires c =
    let s = c.self.inside in
    can_put s.width c.args.key c.first_key-first.result c.in_ok-old.old s.points.entries s.buckets c.self.invariant c.first_key-first.ensures c.in_ok-old.ensures.old

pub invariant_of-self-in-Ok : goal.invariant_of-self-in-Ok
invariant_of-self-in-Ok c =
    let s = c.self.inside in
    put_made s.width c.args.key c.args.value c.first_key-first.result c.in_ok-old.old s.points.entries c.insert.new.self.entries s.buckets c.put_point.new.buckets (omega arith) (omega arith) c.self.invariant c.first_key-first.ensures c.in_ok-old.ensures.old c.in_ok-old.ensures.entries c.in-Ok.ensures.ok c.in-Ok.ensures.others

pub restore-requires : goal.restore-requires
restore-requires c = record {
  there = ap is_some c.in_ok-old.ensures.updates.1;
  rising = rises_inserted c.self.inside.width c.args.key c.args.value c.self.inside.points.entries c.insert.new.self.entries c.self.inside.buckets c.self.invariant c.in_ok-old.ensures.entries;
}

pub invariant_of-self-in-Err : goal.invariant_of-self-in-Err
invariant_of-self-in-Err c =
    let s = c.self.inside in
    let first = c.first_key-first.result in
    let m = s.points.entries in
    let back = undone s.width c.args.key c.args.value first c.in_ok-old.old m c.insert.new.self.entries c.restore.new.points.entries s.buckets c.put_point.new.buckets c.self.invariant c.first_key-first.ensures c.in_ok-old.ensures.old c.in_ok-old.ensures.entries c.restore.ensures in
    kept_undone s.width first c.args.key m c.restore.new.points.entries s.buckets c.put_point.new.buckets c.self.invariant c.first_key-first.ensures back c.in-Err.ensures.err c.in-Err.ensures.others

pub returns-in-Err-clause-err : goal.returns-in-Err-clause-err
returns-in-Err-clause-err c =
    let s = c.self.inside in
    let back = undone s.width c.args.key c.args.value c.first_key-first.result c.in_ok-old.old s.points.entries c.insert.new.self.entries c.restore.new.points.entries s.buckets c.put_point.new.buckets c.self.invariant c.first_key-first.ensures c.in_ok-old.ensures.old c.in_ok-old.ensures.entries c.restore.ensures in
    let seen : Pairs → Rolled = λ m. record { width = s.width; pairs = m } in
    ap seen back ∙ c.self.view_is

pub returns-in-Ok-clause-ok : goal.returns-in-Ok-clause-ok
returns-in-Ok-clause-ok c =
    c.in_ok-old.ensures.entries ∙ (insert_is c.args.key c.args.value c.self.inside.points.entries ∙ ap (λ (r : Rolled). put c.args.key c.args.value r.pairs) c.self.view_is)
