use Rattle.std.proofs.Common.{ap, ◌∙◌, ◌++◌, ◌∷◌, []}
use Rattle.kw_judge.proofs.Readings.{open_refused, open_taken}
use Rattle.kw_judge.proofs.read.Reader.take_open.Goals as goal

pub returns-then-not-branch : goal.returns-then-not-branch
returns-then-not-branch c = open_refused c.args.self.now c.args.call c.requires.reading c.requires.no_order c.requires.fits (rw c.if-not-branch.true at (c.in_ok-take_name.ensures {u = tt}).taken)

pub returns : goal.returns
returns c =
    let told = c.in_ok-take_name.ensures {u = tt} in
    let taken = rw c.if-not-branch.false at told.taken in
    open_taken c.args.self.now _ c.args.call c.requires.reading c.requires.no_order c.requires.fits told.lists.done ((c.in_ok-push.ensures {u = tt}).items ∙ ap (λ v. v.items ++ c.args.call ∷ []) told.lists.open_calls) told.lists.order taken.0 taken.1 taken.2
