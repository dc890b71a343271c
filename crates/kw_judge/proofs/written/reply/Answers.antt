use Rattle.std.proofs.Common.{refl}
use Rattle.kw_judge.proofs.LineTexts.{no_such_reply}
use Rattle.kw_judge.proofs.written.reply.Goals as goal

pub returns-in_default-2 : goal.returns-in_default-2
returns-in_default-2 c = no_such_reply c.args.text.now _ refl (c.in_default.ensures {u = tt}) (c.in_default-number_between.ensures {u = tt}) (rw c.in_default-2.is at (c.in_ok-pairs.ensures {u = tt}))
