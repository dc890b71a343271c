-- The history that is made is the example, which keeps the laws.
use Rattle.kw_laws.proofs.Example.{example_has_laws}
use Rattle.kw_order_tests.proofs.points.four_calls.Goals as goal

pub returns : goal.returns
returns c = rw c.in_ok-get_none.ensures example_has_laws
