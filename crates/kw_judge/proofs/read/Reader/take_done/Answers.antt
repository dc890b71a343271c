use Rattle.std.proofs.Common.{ap, ◌∙◌, ◌++◌, ◌∷◌, []}
use Rattle.kw_judge.proofs.Readings.{done_late, done_refused, done_taken, some_open, no_open}
use Rattle.kw_judge.proofs.read.Reader.take_done.Goals as goal
use Rattle.kw_judge.proofs.read.Reader.take_done.Goals.{then-not-is_empty-via-then-not-is_empty, then-not-is_empty-via-else-not-is_empty+in_ok-take_name+then-not-branch}

pub returns-then-not-is_empty : goal.returns-then-not-is_empty
returns-then-not-is_empty c = elim c.then-not-is_empty.branch [
  | then-not-is_empty-via-then-not-is_empty w ↦ done_late c.args.self.now c.args.call c.requires.reading c.requires.no_order (some_open c.args.self.now.open_calls c.is_empty.result c.is_empty.ensures w.if-not-is_empty.true) c.requires.fits
  | then-not-is_empty-via-else-not-is_empty+in_ok-take_name+then-not-branch w ↦ done_refused c.args.self.now c.args.call c.requires.reading c.requires.no_order (no_open c.args.self.now.open_calls c.is_empty.result c.is_empty.ensures w.if-not-is_empty.false) c.requires.fits (rw w.if-not-branch.true at (w.in_ok-take_name.ensures {u = tt}).taken)
]

pub returns : goal.returns
returns c =
    let told = c.in_ok-take_name.ensures {u = tt} in
    let taken = rw c.if-not-branch.false at told.taken in
    done_taken c.args.self.now _ c.args.call c.requires.reading c.requires.no_order (no_open c.args.self.now.open_calls c.is_empty.result c.is_empty.ensures c.if-not-is_empty.false) c.requires.fits ((c.in_ok-push.ensures {u = tt}).items ∙ ap (λ v. v.items ++ c.args.call ∷ []) told.lists.done) told.lists.open_calls told.lists.order taken.0 taken.1 taken.2
