use Rattle.kw_work.specs.Collecting.{no_answer}
use Rattle.kw_work.proofs.Collected.{collected_in_order, merge-part, part-one_worker, merge-one_worker}
use Rattle.kw_work.proofs.laws.collecting_laws.Goals as goal

pub returns : goal.returns
returns c = record { order = collected_in_order; back = merge-part; one_part = part-one_worker; one = λ lines given len. merge-one_worker given no_answer lines len }
