use Rattle.std.proofs.Common.{◌≡◌, sym, ap, ◌∙◌}
use Rattle.std.specs.Ordering.{nat_cmp}
use Rattle.std.specs.BTreeMap.{get, insert_entry}
use Rattle.kw_model.proofs.Tree.{insert_is, remove_is}
use Rattle.kw_rollup.specs.Kept.{restored}
use Rattle.kw_rollup.proofs.Changes.{there}
use Rattle.kw_rollup.proofs.rollup.restore.Goals as goal

pub returns-in-Some : goal.returns-in-Some
returns-in-Some c =
    let m = c.args.points.now.entries in
    let made : c.insert.new.self.entries ≡ insert_entry nat_cmp m c.args.key c.in-Some.old = there c.insert.result _ (get nat_cmp c.args.points.now c.args.key) c.requires.there c.insert.ensures.absent c.insert.ensures.entries in
    made ∙ (insert_is c.args.key c.in-Some.old m ∙ sym (ap (λ w. restored c.args.key w m) c.in-Some.is))

pub returns-in-None : goal.returns-in-None
returns-in-None c =
    let m = c.args.points.now.entries in
    c.remove.ensures.entries ∙ (remove_is c.args.key 0 m c.requires.rising ∙ sym (ap (λ w. restored c.args.key w m) c.in-None.is))
