use Rattle.kw_windows.proofs.Paying.{updates_pay, row_left}
use Rattle.kw_windows.proofs.laws.price_laws.Goals as goal

pub returns : goal.returns
returns c = record { paid = updates_pay; left = row_left }
