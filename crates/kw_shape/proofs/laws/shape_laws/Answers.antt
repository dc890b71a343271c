use Rattle.kw_shape.proofs.Worlds.{shape_holds}
use Rattle.kw_shape.proofs.laws.shape_laws.Goals as goal

pub returns : goal.returns
returns c = λ z o events i v. shape_holds z o events i v
