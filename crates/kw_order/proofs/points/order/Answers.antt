use Rattle.std.proofs.Common.{sym, subst}
use Rattle.std.proofs.lemmas.Result.{IfOk-weaker}
use Rattle.kw_order.specs.Points.{AreNames, ArePoints}
use Rattle.kw_order.proofs.RankedCalls.{point_names}
use Rattle.kw_order.proofs.points.order.Goals as goal

pub returns : goal.returns
returns c =
    let points = subst (ArePoints c.args.history.now) (sym c.deref.ensures.value) c.in_ok-points.ensures in
    IfOk-weaker c.names_of.result _ _ (λ names e. subst (AreNames c.args.history.now) (sym e) (point_names c.args.history.now c.deref.result.now points)) c.names_of.ensures
