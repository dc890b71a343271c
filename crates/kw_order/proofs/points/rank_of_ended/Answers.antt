use Rattle.std.proofs.Common.{arith, ap, sym, ◌∙◌}
use Rattle.kw_core.specs.declared.history.CallLog.{CallLog}
use Rattle.kw_order.proofs.CallRanks.{read_called, first_within, value_answered, value_rank, absent_is_get, absent_serves, absent_rank, other_rank}
use Rattle.kw_order.proofs.points.rank_of_ended.Goals as goal

pub prove-unreachable-requires : goal.prove-unreachable-requires
prove-unreachable-requires c =
    let read = read_called c.args.history.now c.calls.result.now c.args.place c.index-calls-place.result c.calls.ensures c.index-calls-place.is c.requires.within in
    omega (arith, first_within c.args.history.now c.requires.laws c.args.place c.requires.within, ap (λ (q : CallLog). q.first) read)

pub rank_behind-requires-clause-put : goal.rank_behind-requires-clause-put
rank_behind-requires-clause-put c =
    let read = read_called c.args.history.now c.calls.result.now c.args.place c.index-calls-place.result c.calls.ensures c.index-calls-place.is c.requires.within in
    let ended = rw c.in-Value.is at c.requires.ended in
    rw read (value_answered c.args.history.now c.requires.laws c.args.place ended.0 c.in-Value.field-0 ended.1 c.requires.no_put)

pub gap-gap-requires-clause-serving : goal.gap-gap-requires-clause-serving
gap-gap-requires-clause-serving c =
    let read = read_called c.args.history.now c.calls.result.now c.args.place c.index-calls-place.result c.calls.ensures c.index-calls-place.is c.requires.within in
    let ended = rw c.in-Absent.is at c.requires.ended in
    rw read (absent_serves c.args.history.now c.requires.laws c.args.place c.in-Get.key ended.0 (sym (ap (λ (q : CallLog). q.call) read) ∙ c.in-Get.is, ended.1.1))

pub returns-in-Value : goal.returns-in-Value
returns-in-Value c =
    let read = read_called c.args.history.now c.calls.result.now c.args.place c.index-calls-place.result c.calls.ensures c.index-calls-place.is c.requires.within in
    let ended = rw c.in-Value.is at c.requires.ended in
    value_rank c.args.history.now c.requires.laws c.args.place ended.0 c.in-Value.field-0 c.rank_behind.result ended.1 c.requires.no_put (rw read at c.rank_behind.ensures)

pub returns-in-Get : goal.returns-in-Get
returns-in-Get c =
    let read = read_called c.args.history.now c.calls.result.now c.args.place c.index-calls-place.result c.calls.ensures c.index-calls-place.is c.requires.within in
    let ended = rw c.in-Absent.is at c.requires.ended in
    absent_rank c.args.history.now c.requires.laws c.args.place c.in-Get.key ended.0 c.gap-gap.result c.rank_behind-in-Get.result (sym (ap (λ (q : CallLog). q.call) read) ∙ c.in-Get.is, ended.1.1)
    (rw read at c.gap-gap.ensures) (rw read at c.rank_behind-in-Get.ensures)

pub returns-in_default-call : goal.returns-in_default-call
returns-in_default-call c =
    let read = read_called c.args.history.now c.calls.result.now c.args.place c.index-calls-place.result c.calls.ensures c.index-calls-place.is c.requires.within in
    let ended = rw c.in-Absent.is at c.requires.ended in
    let get = absent_is_get c.args.history.now c.requires.laws c.args.place ended.0 ended.1 c.requires.no_put in
    absurd (c.in_default-call.not-Get get.0 (ap (λ (q : CallLog). q.call) read ∙ get.1))

pub returns-in_default : goal.returns-in_default
returns-in_default c =
    let read = read_called c.args.history.now c.calls.result.now c.args.place c.index-calls-place.result c.calls.ensures c.index-calls-place.is c.requires.within in
    rw (c.rank_drawn.ensures, c.draw_of.ensures, read)
    (other_rank c.args.history.now c.requires.laws c.args.place c.requires.ended.0 c.args.reply.now c.requires.ended.1 c.requires.no_put c.in_default.not-Value c.in_default.not-Absent)
