-- Different words have different places.
use Rattle.std.proofs.Common.{◌∙◌}
use Rattle.kw_words.proofs.Places.{same_name}
use Rattle.kw_words.proofs.layout.Layout.place.Goals as goal

pub returns-clause-distinct : goal.returns-clause-distinct
returns-clause-distinct g c = λ other w e. same_name _ _ _ _ other c.requires.within w (e ∙ c.placed.ensures.value)
