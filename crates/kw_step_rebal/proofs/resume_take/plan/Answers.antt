use Rattle.std.proofs.Common.{ℕ, ◌≡◌, List, length, sym, ap, subst, ◌∙◌, arith}
use Rattle.kw_cells.specs.Cells.{AreApart}
use Rattle.kw_cells.specs.Cuts.{starts_of}
use Rattle.kw_cells.specs.Kept.{kept_of}
use Rattle.kw_cells.specs.declared.cell.Cell.{Cell}
use Rattle.kw_words.specs.declared.sizes.TheConstants.{BUILT}
use Rattle.kw_step_rebal.proofs.Gathering.{in_order_apart}
use Rattle.kw_step_rebal.proofs.resume_take.plan.Goals as goal

pub keep-requires-clause-apart : goal.keep-requires-clause-apart
keep-requires-clause-apart c = subst AreApart (sym c.as_slice.ensures.cells) (in_order_apart c.args.local.now.rebalance.gathered c.as_slice.ensures.in_order)

pub pack_rows-starts-requires-clause-few : goal.pack_rows-starts-requires-clause-few
pack_rows-starts-requires-clause-few c =
    λ key. omega (arith, c.keep.ensures.few key, ap (λ (versions : List ℕ). length versions) c.as_slice-2.ensures.values, c.requires.needed)

pub returns : goal.returns
returns c =
    let cells : List Cell = c.args.local.now.rebalance.gathered in
    let needed : List ℕ = c.args.local.now.rebalance.needed in
    let kept : c.keep.new.kept ≡ kept_of cells needed = rw (c.as_slice.ensures.cells, c.as_slice-2.ensures.values) at c.keep.ensures.is in
    let starts : c.of-local.result ≡ starts_of BUILT (kept_of cells needed) = c.of-local.ensures ∙ c.pack_rows-starts.ensures.is ∙ ap (starts_of BUILT) kept in
    cc (kept, starts, c.clear.ensures)
