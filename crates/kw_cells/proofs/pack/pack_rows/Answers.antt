-- The rows are those of the least limit.
use Rattle.std.proofs.Common.{◌≡◌, sym, subst, ◌∙◌, ap, arith}
use Rattle.kw_cells.specs.Cuts.{AreEven, AreFilled, starts_at, starts_of}
use Rattle.kw_cells.specs.Kept.{AreRising, HasFew}
use Rattle.kw_words.specs.declared.sizes.TheConstants.{BUILT}
use Rattle.kw_cells.proofs.Even.{limit_bounded, are_even, are_filled, starts_are}
use Rattle.kw_cells.proofs.Enough.{even_rows}
use Rattle.kw_cells.proofs.pack.pack_rows.Goals as goal

pub starts_at-requires-clause-limit : goal.starts_at-requires-clause-limit
starts_at-requires-clause-limit c = let b = limit_bounded BUILT c.as_slice-cells.result.now in let e = c.least_limit.ensures in omega arith

pub starts_at-requires-clause-rows : goal.starts_at-requires-clause-rows
starts_at-requires-clause-rows c =
    let e : starts_at c.least_limit.result c.as_slice-cells.result.now ≡ starts_of BUILT c.as_slice-cells.result.now = starts_are BUILT c.as_slice-cells.result.now c.least_limit.result c.least_limit.ensures in
    rw e (even_rows c.as_slice-cells.result.now (subst AreRising (sym c.as_slice-cells.ensures.values) c.requires.rising) (subst (HasFew BUILT) (sym c.as_slice-cells.ensures.values) c.requires.few) (rw c.as_slice-cells.ensures.values c.as_slice-cells.ensures.few))

pub returns-clause-is : goal.returns-clause-is
returns-clause-is c = c.starts_at.ensures ∙ (starts_are BUILT c.as_slice-cells.result.now c.least_limit.result c.least_limit.ensures ∙ ap (starts_of BUILT) c.as_slice-cells.ensures.values)

pub returns-clause-even : goal.returns-clause-even
returns-clause-even c = subst (AreEven BUILT c.args.kept.now) (sym (returns-clause-is c)) (are_even BUILT c.args.kept.now c.requires.rising c.requires.few)

pub returns-clause-filled : goal.returns-clause-filled
returns-clause-filled c = subst (AreFilled BUILT c.args.kept.now) (sym (returns-clause-is c)) (are_filled BUILT c.args.kept.now c.requires.rising c.requires.few)

pub least_limit-requires-clause-few : goal.least_limit-requires-clause-few
least_limit-requires-clause-few c = subst (HasFew BUILT) (sym c.as_slice-cells.ensures.values) c.requires.few
