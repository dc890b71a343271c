use Rattle.std.proofs.Common.{length, sym, ap, ◌∙◌, ◌+◌}
use Rattle.kw_work.specs.Dealing.{Dealt}
use Rattle.kw_work.proofs.Cuts.{length-lines_of}
use Rattle.kw_work.proofs.block.Block.len.Goals as goal

pub returns : goal.returns
returns c = sym (length-lines_of (c.self.inside.before + 1) c.self.inside.items.now c.self.invariant.calls) ∙ ap (λ (d : Dealt). length d.lines) c.self.view_is
