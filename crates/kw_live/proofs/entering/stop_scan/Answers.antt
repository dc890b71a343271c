use Rattle.kw_live.proofs.Drawing.{stopping_in, stops, walking}
use Rattle.kw_live.proofs.entering.stop_scan.Goals as goal

pub returns-in_default-clause-activity : goal.returns-in_default-clause-activity
returns-in_default-clause-activity c =
    let w = walking c.requires.stage c.in_default.not-EndScan in
    stops _ _ _ _ w.0 c.requires.scan w.1 c.go.ensures.line

pub returns-in_default-clause-leaves : goal.returns-in_default-clause-leaves
returns-in_default-clause-leaves c =
    let w = walking c.requires.stage c.in_default.not-EndScan in
    stopping_in c.go.ensures.follows (stops _ _ _ _ w.0 c.requires.scan w.1 c.go.ensures.line)
