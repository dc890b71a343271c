-- A kind of the name is the one at its own place.
use Rattle.std.proofs.Common.{Some, ◌∙◌, sym, ap}
use Rattle.kw_words.proofs.KindNames.{name_of-same, one_more}
use Rattle.kw_words.proofs.kind.Kind.named.Goals as goal

pub returns-then-has_name-clause-every : goal.returns-then-has_name-clause-every
returns-then-has_name-clause-every c = λ kind e. ap Some (name_of-same _ kind (c.has_name.ensures.0 c.if-has_name.true ∙ sym e))

pub loop-kind-preserved : goal.loop-kind-preserved
loop-kind-preserved c = one_more _ _ c.loop-kind.invariant (λ e. let t = c.has_name.ensures.1 e in let f = c.if-has_name.false in cc)
