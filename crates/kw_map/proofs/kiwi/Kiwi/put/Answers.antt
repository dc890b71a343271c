use Rattle.kw_map.proofs.Ordering.{pass_ordered}
use Rattle.kw_map.proofs.Refusals.{refused_by}
use Rattle.kw_map.proofs.kiwi.Kiwi.put.Goals as goal

pub returns-clause-ordered : goal.returns-clause-ordered
returns-clause-ordered g c = pass_ordered c.update.new.pass

pub returns-clause-cause : goal.returns-clause-cause
returns-clause-cause g c = refused_by c.args.pass.now c.update.new.pass _ c.update.result
