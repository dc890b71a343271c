use Rattle.std.proofs.Common.{◌∷◌}
use Rattle.kw_rollup.proofs.Bags.{both_there}
use Rattle.kw_rollup.proofs.bucket.Bucket.put.Goals as goal

pub take-requires : goal.take-requires
take-requires c = (c.args.value ∷ c.requires.sound.0, both_there c.args.value c.args.old c.in-Some.old c.args.self.now c.add.new.self c.in-Some.is c.in_ok-add.ensures.ok c.requires.sound.0 c.requires.sound.1)

pub returns-in-Some-clause-ok : goal.returns-in-Some-clause-ok
returns-in-Some-clause-ok c = λ vs h. c.take.ensures (c.args.value ∷ vs) (both_there c.args.value c.args.old c.in-Some.old c.args.self.now c.add.new.self c.in-Some.is c.in_ok-add.ensures.ok vs h)
