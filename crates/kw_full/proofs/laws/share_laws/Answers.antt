use Rattle.kw_full.proofs.SharesHold.{copies_hold, over_holds, shares_hold}
use Rattle.kw_full.proofs.laws.share_laws.Goals as goal

pub returns : goal.returns
returns c = record { copies = λ z o es i v. copies_hold z o i es v; over = λ z o es i v. over_holds z o i es v; shares = λ z o es i v. shares_hold z o i es v }
