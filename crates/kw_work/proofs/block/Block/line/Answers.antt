use Rattle.std.proofs.Common.{◌≡◌, ◌+◌, ap, ◌∙◌, subst, Some, slice_get, arith}
use Rattle.kw_work.specs.Dealing.{Dealt, line_at}
use Rattle.kw_work.proofs.Cuts.{within_items, slice_get-lines_of}
use Rattle.kw_work.proofs.block.Block.line.Goals as goal

pub prove-unreachable-requires : goal.prove-unreachable-requires
prove-unreachable-requires c = let lt = within_items _ _ _ _ c.self.invariant.calls (ap (λ (d : Dealt). d.lines) c.self.view_is) c.requires in omega arith

pub returns : goal.returns
returns c =
    let is : slice_get c.args.self.now.lines c.args.at ≡ Some (line_at (c.self.inside.before + 1 + c.args.at) c.in-Call.call c.in-Call.form) =
    subst (λ (d : Dealt). slice_get d.lines c.args.at ≡ Some (line_at (c.self.inside.before + 1 + c.args.at) c.in-Call.call c.in-Call.form)) c.self.view_is
    (slice_get-lines_of _ _ _ _ _ _ c.self.invariant.calls c.if-prove.false c.in-Call.is) in
    is ∙ ap (λ n. Some (line_at n c.in-Call.call c.in-Call.form)) (omega arith)
