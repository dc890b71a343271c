use Rattle.kw_laws.proofs.Clocks.{refusals_hold, rests_hold}
use Rattle.kw_laws.proofs.laws.clock_laws.Goals as goal

pub returns : goal.returns
returns c = record { rests = λ z o es i v. rests_hold z o i es v; refused = λ z o es i v. refusals_hold z o i es v }
