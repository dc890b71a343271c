use Rattle.std.proofs.Common.{sym, subst}
use Rattle.kw_core.specs.History.{History}
use Rattle.kw_core.specs.Noted.{IsWithin}
use Rattle.kw_core.proofs.Appended.{within_appended, settled_noted}
use Rattle.kw_core.proofs.history.History.note.Goals as goal

pub settle-requires-clause-within : goal.settle-requires-clause-within
settle-requires-clause-within c = subst (λ (h : History). IsWithin h c.args.change) (sym c.in_ok-append.ensures.ok) (within_appended c.args.self.now c.args.logged c.args.change c.requires)

pub returns-clause-ok : goal.returns-clause-ok
returns-clause-ok c = settled_noted c.args.self.now c.append.new.self c.settle.new.self c.args.logged c.args.change c.in_ok-append.ensures.ok c.settle.ensures.log c.settle.ensures.attempts c.settle.ensures.calls
