use Rattle.std.proofs.Common.{rules, ◌≡◌, ◌<◌, length, ◌-◌, ◌+◌, MatchOption, IfSome, drop, ◌∙◌}
use Rattle.std.specs.List.{HoldsAt}
use Rattle.std.proofs.lemmas.List.{take_rest}
use Rattle.std.proofs.lemmas.Iterator.{YieldsList-from_slice, IsFirst-from_position}
use Rattle.kw_line.specs.declared.words.TheConstants.{LINE_FEED}
use Rattle.kw_beside.proofs.LineCuts.{lines-cut_at}
use Rattle.kw_beside.proofs.pieces.cut_behind.Goals as goal
use borrow.Author.Tests.{tests}

pub returns-clause-lines : goal.returns-clause-lines
returns-clause-lines c =
    let found = IsFirst-from_position _ _ c.position-feed.result (λ byte. byte ≡ LINE_FEED) (λ _. Unit {0}) c.position-feed.ensures.ran (YieldsList-from_slice (drop (c.args.least - 1) c.args.bytes.now) (c.iter.ensures.rest ∙ take_rest c.args.bytes.now (c.args.least - 1))) (λ x q k. search (rules, tests)) (λ x q k. search (rules, tests)) in
    let feed : IfSome c.position-feed.result (λ at. (at < length (drop (c.args.least - 1) c.args.bytes.now)) × HoldsAt (λ byte. byte ≡ LINE_FEED) (drop (c.args.least - 1) c.args.bytes.now) at) = search (rules, found) in
    let end : MatchOption c.position-feed.result (c.map_or-end.result ≡ length c.args.bytes.now) (λ at. c.map_or-end.result ≡ c.args.least + at) = search rules in
    lines-cut_at c.args.bytes.now c.position-feed.result c.args.least c.map_or-end.result c.requires.some c.requires.within end feed
