use Rattle.std.proofs.Common.{◌≡◌, ◌+◌, length, sym, ap, ◌∙◌, arith, rules}
use Rattle.std.proofs.lemmas.List.{nil_from_length}
use Rattle.kw_work.specs.Dealing.{Dealt}
use Rattle.kw_work.proofs.Cuts.{length-lines_of}
use Rattle.kw_work.proofs.block.Block.is_empty.Goals as goal

pub returns : goal.returns
returns c =
    let long : length c.self.inside.items.now ≡ length c.args.self.now.lines =
    sym (length-lines_of (c.self.inside.before + 1) c.self.inside.items.now c.self.invariant.calls) ∙ ap (λ (d : Dealt). length d.lines) c.self.view_is in
    (λ is. nil_from_length c.args.self.now.lines (search (rules, arith)), λ none. search (rules, arith))
