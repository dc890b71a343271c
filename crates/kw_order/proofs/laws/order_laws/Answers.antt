use Rattle.kw_order.proofs.OneOrder.{order_exists, order_unique}
use Rattle.kw_order.proofs.OrderProofs.{order_has_laws}
use Rattle.kw_order.proofs.LegalOrder.{order_is_legal}
use Rattle.kw_order.proofs.MapOrders.{legal_of_map}
use Rattle.kw_order.proofs.laws.order_laws.Goals as goal

pub returns : goal.returns
returns c = record { exists = order_exists; one = order_unique; legal = order_is_legal; laws = order_has_laws; alone = λ h xs legal none. legal_of_map h xs none legal }
