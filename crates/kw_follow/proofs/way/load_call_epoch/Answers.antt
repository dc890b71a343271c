use Rattle.std.proofs.Common.{arith, refl}
use Rattle.std.proofs.lemmas.Bool.Decides.{nat_tests}
use Rattle.kw_follow.proofs.Ends.{begin_follows}
use Rattle.kw_follow.proofs.Growing.{opens}
use Rattle.kw_follow.proofs.ReadEvents.{goes_by}
use Rattle.kw_follow.proofs.RestingCall.{enters}
use Rattle.kw_follow.proofs.WayEvents.{asks_epoch}
use Rattle.kw_follow.proofs.way.load_call_epoch.Goals as goal

pub load_epoch-requires : goal.load_epoch-requires
load_epoch-requires c = asks_epoch _ _ _ c.requires.table c.requires.idle (grind (arith, nat_tests, c.ranges.key.fits))

pub returns-clause-goes : goal.returns-clause-goes
returns-clause-goes c = goes_by _ _ _ _ _ c.load_epoch.ensures

pub returns-clause-follows : goal.returns-clause-follows
returns-clause-follows c = begin_follows 0 c.requires.idle c.load_epoch.ensures refl (enters 0 c.args.key _)

pub returns-clause-opens : goal.returns-clause-opens
returns-clause-opens c = opens c.load_epoch.ensures c.requires.idle
