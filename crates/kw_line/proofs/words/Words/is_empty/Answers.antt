use Rattle.kw_line.proofs.Parts.{none_left}
use Rattle.kw_line.proofs.words.Words.is_empty.Goals as goal

pub returns : goal.returns
returns c = let empty = none_left c.self.inside.rest c.is_none.result c.is_none.ensures in rw (← c.self.view_is) empty
