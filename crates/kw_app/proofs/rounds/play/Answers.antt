use Rattle.std.proofs.Common.{◌≡◌, Ok, length, arith}
use Rattle.kw_map.specs.Meetings.{front_seen}
use Rattle.kw_app.specs.Rounds.{WorkedEach}
use Rattle.kw_app.proofs.Blocks.{grew, grew_by_none, together_again, answers_each, worked_each}
use Rattle.kw_app.proofs.Each.{element_at}
use Rattle.kw_app.proofs.rounds.play.Goals as goal

pub returns-then-is_empty-clause-grew : goal.returns-then-is_empty-clause-grew
returns-then-is_empty-clause-grew g c =
    grew_by_none c.args.kiwi.now.opening c.args.block.now.workers c.args.block.now.lines (front_seen c.args.passes.items) c.new.result.items
    (c.is_empty.ensures.0 c.if-is_empty.true) c.new.ensures.items

pub finish_all-requires-clause-idle : goal.finish_all-requires-clause-idle
finish_all-requires-clause-idle g c lives outlives = λ k d lt.
    let len = c.requires.together.len in
    (c.requires.together.each k d (omega arith)).idle

pub met-passes-requires : goal.met-passes-requires
met-passes-requires g c = λ k d lt.
    let a = c.args.passes in
    let e = c.in_ok-passes.passes in
    let done = c.in_ok-dones.dones in
    let as_many : length done.items ≡ length c.args.passes.items = omega (arith, c.in_ok-dones.ensures.len) in
    let each : WorkedEach c.args.kiwi.now c.args.block.now c.args.passes.items e.items c.in_ok-passes.parts.items =
    worked_each c.args.kiwi.now c.args.block.now c.args.passes.items done.items (Ok (e, c.in_ok-passes.parts)) done.len (omega arith) as_many c.in_ok-dones.ensures.each
    c.in_ok-passes.ensures.len c.in_ok-passes.ensures.passes c.in_ok-passes.ensures.parts in
    let p = element_at c.args.passes.items k (omega (arith, c.in_ok-passes.ensures.len.0, as_many)) in
    (each k p.0 d (omega (arith, c.in_ok-passes.ensures.len.0, as_many))).idle.of_map

pub collect-requires-clause-each : goal.collect-requires-clause-each
collect-requires-clause-each g c =
    let a = c.args.passes in
    let e = c.in_ok-passes.passes in
    let done = c.in_ok-dones.dones in
    let as_many : length done.items ≡ length c.args.passes.items = omega (arith, c.in_ok-dones.ensures.len) in
    let each : WorkedEach c.args.kiwi.now c.args.block.now c.args.passes.items e.items c.in_ok-passes.parts.items =
    worked_each c.args.kiwi.now c.args.block.now c.args.passes.items done.items (Ok (e, c.in_ok-passes.parts)) done.len (omega arith) as_many c.in_ok-dones.ensures.each
    c.in_ok-passes.ensures.len c.in_ok-passes.ensures.passes c.in_ok-passes.ensures.parts in
    answers_each c.args.kiwi.now c.args.block.now c.args.passes.items c.in_ok-passes.passes.items c.in_ok-passes.parts.items _ c.requires.together (omega (arith, c.in_ok-passes.ensures.len.0, as_many)) each

pub returns-clause-together : goal.returns-clause-together
returns-clause-together g c =
    let a = c.args.passes in
    let e = c.in_ok-passes.passes in
    let r = c.met-passes.result in
    let done = c.in_ok-dones.dones in
    let as_many : length done.items ≡ length c.args.passes.items = omega (arith, c.in_ok-dones.ensures.len) in
    let each : WorkedEach c.args.kiwi.now c.args.block.now c.args.passes.items e.items c.in_ok-passes.parts.items =
    worked_each c.args.kiwi.now c.args.block.now c.args.passes.items done.items (Ok (e, c.in_ok-passes.parts)) done.len (omega arith) as_many c.in_ok-dones.ensures.each
    c.in_ok-passes.ensures.len c.in_ok-passes.ensures.passes c.in_ok-passes.ensures.parts in
    together_again c.args.kiwi.now c.args.block.now c.args.passes.items c.in_ok-passes.passes.items c.met-passes.result.items c.in_ok-passes.parts.items _ _ c.requires.together (omega (arith, c.in_ok-passes.ensures.len.0, as_many)) (omega (arith, c.met-passes.ensures.len))
    each c.met-passes.ensures.each

pub returns-clause-grew : goal.returns-clause-grew
returns-clause-grew g c =
    let a = c.args.passes in
    let e = c.in_ok-passes.passes in
    let r = c.met-passes.result in
    let done = c.in_ok-dones.dones in
    let as_many : length done.items ≡ length c.args.passes.items = omega (arith, c.in_ok-dones.ensures.len) in
    let each : WorkedEach c.args.kiwi.now c.args.block.now c.args.passes.items e.items c.in_ok-passes.parts.items =
    worked_each c.args.kiwi.now c.args.block.now c.args.passes.items done.items (Ok (e, c.in_ok-passes.parts)) done.len (omega arith) as_many c.in_ok-dones.ensures.each
    c.in_ok-passes.ensures.len c.in_ok-passes.ensures.passes c.in_ok-passes.ensures.parts in
    grew c.args.kiwi.now c.args.block.now c.args.passes.items c.in_ok-passes.passes.items c.met-passes.result.items c.in_ok-passes.parts.items _ _ _ c.requires.together (omega (arith, c.in_ok-passes.ensures.len.0, as_many)) each c.met-passes.ensures.each c.in_ok-answers.ensures
