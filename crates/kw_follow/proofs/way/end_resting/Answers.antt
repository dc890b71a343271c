use Rattle.std.proofs.Common.{ap, refl}
use Rattle.kw_words.specs.declared.layout.Name.TheVariants.{Pass}
use Rattle.kw_world.specs.declared.activity.Activity.TheVariants as Activity
use Rattle.kw_follow.proofs.Ends.{end_idles}
use Rattle.kw_follow.proofs.Growing.{closes}
use Rattle.kw_follow.proofs.PutEvents.{asks_stored_at}
use Rattle.kw_follow.proofs.ReadEvents.{goes_by}
use Rattle.kw_follow.proofs.RestingCall.{leaves}
use Rattle.kw_follow.proofs.way.end_resting.Goals as goal

pub clear_pass-requires : goal.clear_pass-requires
clear_pass-requires c = asks_stored_at _ _ c.requires.0 (Activity.Leave c.requires.1) _ _ _ _ _ c.requires.2 c.requires.3 tt (ap Pass c.number.ensures) c.pack_pass.ensures.value refl

pub returns-clause-goes : goal.returns-clause-goes
returns-clause-goes c = goes_by _ _ _ _ _ c.clear_pass.ensures

pub returns-clause-idle : goal.returns-clause-idle
returns-clause-idle c = end_idles (leaves c.requires.0 c.requires.2 c.clear_pass.ensures) c.requires.1 c.requires.3

pub returns-clause-closes : goal.returns-clause-closes
returns-clause-closes c = λ answer is. closes answer c.clear_pass.ensures is
