use Rattle.kw_counts.proofs.BankHold.{bank_holds}
use Rattle.kw_counts.proofs.EngagersHold.{engagers_hold}
use Rattle.kw_used.proofs.NoRowsLeft.{none_is_short}
use Rattle.kw_used.proofs.TidyingLate.{untidied_holds}
use Rattle.kw_used.proofs.laws.room_laws.Goals as goal

pub returns : goal.returns
returns c = record {
  no_rows = λ z o es build share price i cost v room. record { none = λ p t l g e. none_is_short z o i es v t l g e (engagers_hold z o i) (bank_holds z o i) build share price cost room p };
  untidied = λ z o es share i cells some v late. untidied_holds z o share some i cells (bank_holds z o i) es v late;
}
