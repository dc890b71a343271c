use Rattle.kw_counts.proofs.BankHold.{bank_holds}
use Rattle.kw_counts.proofs.EngagersHold.{engagers_hold}
use Rattle.kw_used.proofs.BuildsHold.{few_builds_hold, rows_paid}
use Rattle.kw_used.proofs.laws.used_laws.Goals as goal

pub returns : goal.returns
returns c = record {
  builds = λ z o es build i most v. few_builds_hold z o i (engagers_hold z o i) build most es v;
  rows = λ z o es i v. record { rows = λ p build share price cost. rows_paid z o i (engagers_hold z o i) build cost.most (bank_holds z o i) share price cost es v p };
}
