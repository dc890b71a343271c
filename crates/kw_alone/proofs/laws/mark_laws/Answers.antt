use Rattle.kw_alone.proofs.Ending.{read_ends}
use Rattle.kw_alone.proofs.Marking.{mark_comes, product_marks}
use Rattle.kw_alone.proofs.laws.mark_laws.Goals as goal

pub returns : goal.returns
returns c = record { lasts = mark_comes; marks = product_marks; reads = read_ends }
