use Rattle.std.proofs.Common.{Some}
use Rattle.std.proofs.lemmas.List.Elements.{All-pop}
use Rattle.kw_map.specs.Kiwi.{IsIdle}
use Rattle.kw_many_tests.proofs.threads.open_three.Goals as goal

pub returns : goal.returns
returns c =
    let last = All-pop (IsIdle c.in_ok-kiwi.kiwi) _ _ (Some c.in-Some-Some-Some.third) c.in-Some-Some-Some.ensures.items c.in_ok-kiwi.ensures.idle in
    let one_more = All-pop (IsIdle c.in_ok-kiwi.kiwi) _ _ (Some c.in-Some-Some-Some.second) c.in-Some-Some-Some.ensures'.items last.0 in
    let two_more = All-pop (IsIdle c.in_ok-kiwi.kiwi) _ _ (Some c.in-Some-Some-Some.first) c.in-Some-Some-Some.ensures''.items one_more.0 in
    (two_more.1, one_more.1, last.1)
