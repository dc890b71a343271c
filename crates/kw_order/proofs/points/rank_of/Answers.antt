use Rattle.std.proofs.Common.{arith, length, ap, sym, ◌∙◌, refl}
use Rattle.kw_core.specs.declared.history.CallLog.{CallLog}
use Rattle.kw_core.proofs.Attempts.{in_range, attempt_at}
use Rattle.kw_order.specs.Order.{of_put}
use Rattle.kw_order.proofs.CallRanks.{read_called, not_placed}
use Rattle.kw_order.proofs.points.rank_of.Goals as goal

pub point-requires-clause-put : goal.point-requires-clause-put
point-requires-clause-put c =
    let read = read_called c.args.history.now c.calls.result.now c.args.place c.index-calls-place.result c.calls.ensures c.index-calls-place.is c.requires.within in
    let put = c.requires.laws.is_put c.args.place c.in-Some.put (sym (ap (λ (q : CallLog). q.put) read) ∙ c.in-Some.is) in put.0

pub offset_bounds-attempts-put : goal.offset_bounds-attempts-put
offset_bounds-attempts-put c =
    let read = read_called c.args.history.now c.calls.result.now c.args.place c.index-calls-place.result c.calls.ensures c.index-calls-place.is c.requires.within in
    let put = c.requires.laws.is_put c.args.place c.in-Some.put (sym (ap (λ (q : CallLog). q.put) read) ∙ c.in-Some.is) in
    omega (arith, in_range c.args.history.now c.in-Some.put put.0, ap length c.attempts.ensures, c.attempts.type_inv)

pub bounds-attempts-put : goal.bounds-attempts-put
bounds-attempts-put c =
    let read = read_called c.args.history.now c.calls.result.now c.args.place c.index-calls-place.result c.calls.ensures c.index-calls-place.is c.requires.within in
    let put = c.requires.laws.is_put c.args.place c.in-Some.put (sym (ap (λ (q : CallLog). q.put) read) ∙ c.in-Some.is) in
    omega (arith, in_range c.args.history.now c.in-Some.put put.0, ap length c.attempts.ensures)

pub returns-in-Some : goal.returns-in-Some
returns-in-Some c =
    let read = read_called c.args.history.now c.calls.result.now c.args.place c.index-calls-place.result c.calls.ensures c.index-calls-place.is c.requires.within in
    rw (attempt_at c.args.history.now c.attempts.result.now c.in-Some.put c.attempts.ensures) (of_put c.in-Some.put c.point.result (sym (ap (λ (q : CallLog). q.put) read) ∙ c.in-Some.is) c.point.ensures)

pub rank_of_ended-requires-clause-ended : goal.rank_of_ended-requires-clause-ended
rank_of_ended-requires-clause-ended c =
    let read = read_called c.args.history.now c.calls.result.now c.args.place c.index-calls-place.result c.calls.ensures c.index-calls-place.is c.requires.within in
    (c.in-Some-end.end.at, (refl, sym (ap (λ (q : CallLog). q.end) read) ∙ c.in-Some-end.is))

pub rank_of_ended-requires-clause-no_put : goal.rank_of_ended-requires-clause-no_put
rank_of_ended-requires-clause-no_put c =
    let read = read_called c.args.history.now c.calls.result.now c.args.place c.index-calls-place.result c.calls.ensures c.index-calls-place.is c.requires.within in
    sym (ap (λ (q : CallLog). q.put) read) ∙ c.in_default.is

pub returns-in-None : goal.returns-in-None
returns-in-None c =
    let read = read_called c.args.history.now c.calls.result.now c.args.place c.index-calls-place.result c.calls.ensures c.index-calls-place.is c.requires.within in
    not_placed c.args.history.now c.args.place (sym (ap (λ (q : CallLog). q.end) read) ∙ c.in-None.is) (sym (ap (λ (q : CallLog). q.put) read) ∙ c.in_default.is)
