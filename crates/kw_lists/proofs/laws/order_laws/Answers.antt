use Rattle.kw_lists.proofs.Orders.{stands_trans, stands_apart, stands_or, stands_yes, stands_other}
use Rattle.kw_lists.proofs.laws.order_laws.Goals as goal

pub returns : goal.returns
returns c = record { trans = stands_trans; apart = stands_apart; one = stands_or; yes = stands_yes; no = stands_other }
