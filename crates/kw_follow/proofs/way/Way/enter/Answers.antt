use Rattle.kw_follow.proofs.OwnEvents.{goes_trans}
use Rattle.kw_follow.proofs.RestingCall.{opens_on}
use Rattle.kw_follow.proofs.way.Way.enter.Goals as goal

pub returns-clause-goes : goal.returns-clause-goes
returns-clause-goes c = goes_trans _ _ _ _ c.load_call_epoch-epoch.ensures.goes c.store_call_epoch.ensures.goes

pub returns-clause-follows : goal.returns-clause-follows
returns-clause-follows c = c.store_call_epoch.ensures.follows

pub returns-clause-opens : goal.returns-clause-opens
returns-clause-opens c = opens_on c.load_call_epoch-epoch.ensures.opens c.store_call_epoch.ensures.calls
