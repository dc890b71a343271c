use Rattle.std.proofs.Common.{Some}
use Rattle.std.proofs.lemmas.List.Elements.{All-pop}
use Rattle.kw_map.specs.Kiwi.{IsIdle}
use Rattle.kw_many_tests.proofs.threads.open_all.Goals as goal

pub returns : goal.returns
returns c = All-pop (IsIdle c.in_ok-kiwi.kiwi) _ _ (Some c.in-Some.reader) c.in-Some.ensures.items c.in_ok-kiwi.ensures.idle
