-- Each line that was refused has its cause.
use Rattle.kw_ask.proofs.Causes.{answered_has, has_cause}
use Rattle.kw_ask.proofs.asking.ask.Goals as goal

pub returns-in-Put-clause-cause : goal.returns-in-Put-clause-cause
returns-in-Put-clause-cause g c = has_cause c.args.pass.now c.put.new.pass _ _ c.put.result

pub returns-in-Del-clause-cause : goal.returns-in-Del-clause-cause
returns-in-Del-clause-cause g c = has_cause c.args.pass.now c.delete.new.pass _ _ c.delete.result

pub returns-in-Get-clause-cause : goal.returns-in-Get-clause-cause
returns-in-Get-clause-cause g c = has_cause c.args.pass.now c.get.new.pass _ _ c.get.result

pub returns-in-Sum-clause-cause : goal.returns-in-Sum-clause-cause
returns-in-Sum-clause-cause g c = has_cause c.args.pass.now c.sum.new.pass _ _ c.sum.result

pub returns-in-Count-clause-cause : goal.returns-in-Count-clause-cause
returns-in-Count-clause-cause g c = has_cause c.args.pass.now c.count.new.pass _ _ c.count.result

pub returns-in-Least-clause-cause : goal.returns-in-Least-clause-cause
returns-in-Least-clause-cause g c = has_cause c.args.pass.now c.least.new.pass _ _ c.least.result

pub returns-in-Greatest-clause-cause : goal.returns-in-Greatest-clause-cause
returns-in-Greatest-clause-cause g c = has_cause c.args.pass.now c.greatest.new.pass _ _ c.greatest.result

pub returns-in-List-clause-cause : goal.returns-in-List-clause-cause
returns-in-List-clause-cause g c = answered_has c.args.pass.now c.list.new.pass _ _ c.list.result
