use Rattle.kw_judge.proofs.Verdicts.{exactly}
use Rattle.kw_judge.proofs.judge.judge.Goals as goal

pub returns : goal.returns
returns c = exactly c.args.written.now c.verdict.result c.verdict.ensures
