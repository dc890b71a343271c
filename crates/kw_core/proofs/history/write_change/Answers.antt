use Rattle.std.proofs.Common.{arith, ◌-◌, ◌<◌, length, set, ap, subst, sym, true, Some}
use Rattle.kw_core.specs.History.{History, Attempt, CallLog, called}
use Rattle.kw_core.proofs.Attempts.{attempt_read, called_read}
use Rattle.kw_core.proofs.history.write_change.Goals as goal

pub index_mut-requires-in-Stamps : goal.index_mut-requires-in-Stamps
index_mut-requires-in-Stamps c =
    let within = rw c.in-Stamps.is at c.requires.within in
    let same = attempt_read (record { log = c.args.log.now; attempts = c.args.attempts.now.items; calls = c.args.calls.now.items }) c.in-Stamps.attempt c.index_mut-stamped.result.now c.index_mut-stamped.ensures.value within.0 in
    let there : c.index_mut-stamped.result.now.call < length c.args.calls.now.items = subst (λ (a : Attempt). a.call < length c.args.calls.now.items) (sym same) within.1 in
    omega (arith, there, c.args.calls.now.ok.0)

pub returns-in-Announces-clause-attempts : goal.returns-in-Announces-clause-attempts
returns-in-Announces-clause-attempts c =
    let within = rw c.in-Announces.is at c.requires.within in
    let same = attempt_read (record { log = c.args.log.now; attempts = c.args.attempts.now.items; calls = c.args.calls.now.items }) c.in-Announces.attempt c.index_mut-announced.result.now c.index_mut-announced.ensures.value within in
    rw c.in-Announces.is (ap (λ (a : Attempt). set c.args.attempts.now.items c.in-Announces.attempt (record a { is_announced = true; announced = length c.args.log.now - 1 })) same)

pub returns-in-Loses-clause-attempts : goal.returns-in-Loses-clause-attempts
returns-in-Loses-clause-attempts c =
    let within = rw c.in-Loses.is at c.requires.within in
    let same = attempt_read (record { log = c.args.log.now; attempts = c.args.attempts.now.items; calls = c.args.calls.now.items }) c.in-Loses.attempt c.index_mut.result.now c.index_mut.ensures.value within in
    rw c.in-Loses.is (ap (λ (a : Attempt). set c.args.attempts.now.items c.in-Loses.attempt (record a { is_lost = true })) same)

pub returns-in-Stamps-clause-attempts : goal.returns-in-Stamps-clause-attempts
returns-in-Stamps-clause-attempts c =
    let within = rw c.in-Stamps.is at c.requires.within in
    let same = attempt_read (record { log = c.args.log.now; attempts = c.args.attempts.now.items; calls = c.args.calls.now.items }) c.in-Stamps.attempt c.index_mut-stamped.result.now c.index_mut-stamped.ensures.value within.0 in
    rw c.in-Stamps.is (ap (λ (a : Attempt). set c.args.attempts.now.items c.in-Stamps.attempt (record a { is_stamped = true; version = c.in-Stamps.version; load = c.in-Stamps.load; at = length c.args.log.now - 1 })) same)

pub returns-in-Stamps-clause-calls : goal.returns-in-Stamps-clause-calls
returns-in-Stamps-clause-calls c =
    let h : History = record { log = c.args.log.now; attempts = c.args.attempts.now.items; calls = c.args.calls.now.items } in
    let within = rw c.in-Stamps.is at c.requires.within in
    let same = attempt_read h c.in-Stamps.attempt c.index_mut-stamped.result.now c.index_mut-stamped.ensures.value within.0 in
    let there : c.index_mut-stamped.result.now.call < length c.args.calls.now.items = subst (λ (a : Attempt). a.call < length c.args.calls.now.items) (sym same) within.1 in
    let its = called_read h c.index_mut-stamped.result.now.call c.index_mut-in-Stamps.result.now c.index_mut-in-Stamps.ensures.value there in
    rw (c.in-Stamps.is, its) (ap (λ (a : Attempt). set h.calls a.call (record (called h a.call) { put = Some c.in-Stamps.attempt })) same)

pub returns-in-Ends-clause-calls : goal.returns-in-Ends-clause-calls
returns-in-Ends-clause-calls c =
    let within = rw c.in-Ends.is at c.requires.within in
    let same = called_read (record { log = c.args.log.now; attempts = c.args.attempts.now.items; calls = c.args.calls.now.items }) c.in-Ends.call c.index_mut-ended.result.now c.index_mut-ended.ensures.value within in
    rw c.in-Ends.is (ap (λ (a : CallLog). set c.args.calls.now.items c.in-Ends.call (record a { end = Some (record { at = length c.args.log.now - 1; reply = c.in-Ends.reply }); answer = c.in-Ends.answer; draw = c.in-Ends.draw })) same)
