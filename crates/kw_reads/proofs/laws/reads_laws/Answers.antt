use Rattle.kw_reads.proofs.HistoryKeeps.{may_take}
use Rattle.kw_reads.proofs.Keeps.{inv_holds}
use Rattle.kw_reads.proofs.laws.reads_laws.Goals as goal

pub returns : goal.returns
returns c = record { notes = λ z o r e i may. may_take z o r e i may; keeps = λ z o events i v. inv_holds z o i events v }
