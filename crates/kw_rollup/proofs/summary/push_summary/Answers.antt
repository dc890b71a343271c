use Rattle.std.proofs.Common.{ap, codes, ◌∷◌, [], ◌++◌, ◌∙◌}
use Rattle.std.specs.Fmt.{decimal}
use Rattle.kw_line.specs.declared.words.TheConstants.{LINE_FEED, SPACE}
use Rattle.kw_rollup.proofs.Ends.{line_is}
use Rattle.kw_rollup.proofs.summary.push_summary.Goals as goal

pub returns : goal.returns
returns c =
    let s = c.args.summary.now in
    let o0 = c.args.out.now.items in
    let o1 = c.push_number.new.out.items in
    let o2 = c.push_next.new.out.items in
    let o3 = c.push_named.new.out.items in
    let o4 = c.push_named-2.new.out.items in
    let o5 = c.push_named-3.new.out.items in
    line_is o0 o1 o2 o3 o4 o5 c.push_named-4.new.out.items c.push.new.self.items
    (decimal s.series) (SPACE ∷ decimal s.start) (SPACE ∷ codes "count") (SPACE ∷ decimal s.count) (SPACE ∷ codes "sum") (SPACE ∷ decimal s.sum) (SPACE ∷ codes "least") (SPACE ∷ decimal s.least) (SPACE ∷ codes "greatest") (SPACE ∷ decimal s.greatest) (LINE_FEED ∷ [])
    (c.in_ok-push_number.ensures.ok ∙ ap (λ n. o0 ++ decimal n) c.from.ensures)
    (c.in_ok-push_next.ensures {u = tt} ∙ ap (λ n. o1 ++ SPACE ∷ decimal n) c.from-2.ensures)
    (c.in_ok-push_named.ensures {u = tt} ∙ ap (λ n. (o2 ++ SPACE ∷ codes "count") ++ SPACE ∷ decimal n) c.from-3.ensures)
    (c.in_ok-push_named-2.ensures {u = tt})
    (c.in_ok-push_named-3.ensures {u = tt} ∙ ap (λ n. (o4 ++ SPACE ∷ codes "least") ++ SPACE ∷ decimal n) c.from-4.ensures)
    (c.in_ok-push_named-4.ensures {u = tt} ∙ ap (λ n. (o5 ++ SPACE ∷ codes "greatest") ++ SPACE ∷ decimal n) c.from-5.ensures)
    c.in_ok-push.ensures.items
