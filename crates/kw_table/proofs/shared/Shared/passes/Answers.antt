use Rattle.std.proofs.Common.{◌∙◌, ◌+◌, ap, sym, subst, slice_index_or}
use Rattle.kw_table.specs.Passes.{IsFresh}
use Rattle.kw_table.proofs.Fresh.{each_pushed}
use Rattle.kw_table.proofs.shared.Shared.passes.Goals as goal

pub loop-number-preserved : goal.loop-number-preserved
loop-number-preserved c =
    let invariant = c.loop-number.invariant in (
      c.deal-pass.ensures.rest.0 ∙ invariant.0,
      c.deal-pass.ensures.rest.1,
      c.in_ok-push.ensures.len ∙ ap (λ n. n + 1) invariant.2,
      λ i d o.
          subst (λ xs. IsFresh c.args.self.now i (slice_index_or xs i d)) (sym c.in_ok-push.ensures.items)
          (each_pushed (IsFresh c.args.self.now) c.loop-number.passes.items c.deal-pass.result c.loop-number.number (sym c.loop-number.passes.ok.0 ∙ invariant.2) invariant.3 c.deal-pass.ensures.pass i d o),
    )
