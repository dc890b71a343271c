use Rattle.kw_laws.proofs.MirrorLosses.{losses_mirrored}
use Rattle.kw_laws.proofs.MirrorKeeps.{mirrors_hold, reads_mirrored, gets_mirrored}
use Rattle.kw_laws.proofs.laws.mirror_laws.Goals as goal

pub returns : goal.returns
returns c = record { events = λ z o es i v. mirrors_hold z o i es v; reads = λ z o es i v. reads_mirrored z o i es v; gets = λ z o es i v. gets_mirrored z o i es v; losses = λ z o es i v. losses_mirrored z o i es v }
