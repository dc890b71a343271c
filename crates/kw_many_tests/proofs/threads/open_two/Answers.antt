use Rattle.std.proofs.Common.{Some}
use Rattle.std.proofs.lemmas.List.Elements.{All-pop}
use Rattle.kw_map.specs.Kiwi.{IsIdle}
use Rattle.kw_many_tests.proofs.threads.open_two.Goals as goal

pub returns : goal.returns
returns c =
    let last = All-pop (IsIdle c.in_ok-kiwi.kiwi) _ _ (Some c.in-Some-Some.second) c.in-Some-Some.ensures.items c.in_ok-kiwi.ensures.idle in
    let one_more = All-pop (IsIdle c.in_ok-kiwi.kiwi) _ _ (Some c.in-Some-Some.first) c.in-Some-Some.ensures'.items last.0 in
    (one_more.1, last.1)
