use Rattle.std.proofs.Common.{ℕ, ◌≡◌, ◌+◌, List, length, Err, rules, arith}
use Rattle.kw_line.specs.declared.error.LineError.TheVariants as error
use Rattle.kw_line.specs.Line.{IsFirstBadLine}
use Rattle.kw_beside.specs.Pieces.{AreReadOf}
use Rattle.kw_beside.proofs.ReadParts.{left_more, each_more, left_bad, bad_within, left_none}
use Rattle.kw_beside.proofs.together.together.Goals.{After-len-before}
use Rattle.kw_beside.proofs.together.together.Goals as goal

pub loop-part-preserved : goal.loop-part-preserved
loop-part-preserved c =
    let inv = c.loop-part.invariant in
    let first = c.in-Some.ensures {u = tt} in
    let joined = c.in_ok-all-in-Ok.ensures {u = tt} in
    let read = inv.left c.requires.0 c.requires.1 in
    record {
      each = each_more _ _ _ _ _ _ c.in-Ok.items first.steps.0 c.in-Ok.is joined read inv.each;
      left = λ bytes of. left_more _ _ _ _ _ _ c.in-Ok.items first.steps.0 c.in-Ok.is joined (inv.left bytes of);
    }

-- the line that is named is the first bad one
first_bad : (c : After-len-before) (bytes : List ℕ) → AreReadOf bytes c.args.parts.items → IsFirstBadLine bytes (c.len-before.result + c.in-Err-Bad.line)
first_bad c bytes of =
    let inv = c.loop-part.invariant in
    let first = c.in-Some.ensures {u = tt} in
    let all = c.loop-part.all in
    let count : c.len-before.result ≡ length c.loop-part.all.items = omega arith in
    let bad : c.in-Some.part ≡ Err (error.Bad c.in-Err-Bad.line) = search rules in
    left_bad bytes _ _ _ _ _ c.in-Err-Bad.line first.steps.0 bad count inv.each (inv.left bytes of)

pub overflow_cast-before : goal.overflow_cast-before
overflow_cast-before c = omega (arith, bad_within _ _ (first_bad c c.requires.0 c.requires.1), c.requires.2)

pub overflow_add-result : goal.overflow_add-result
overflow_add-result c = omega (arith, bad_within _ _ (first_bad c c.requires.0 c.requires.1), c.requires.2)

pub returns-in-Err-Bad-clause-bad : goal.returns-in-Err-Bad-clause-bad
returns-in-Err-Bad-clause-bad c = first_bad (goal.at.returns-in-Err-Bad-clause-bad c).After-len-before

pub returns-clause-items : goal.returns-clause-items
returns-clause-items c =
    let inv = c.loop-part.invariant in
    let none = c.in-None.ensures {u = tt} in
    let rest = c.loop-part.part-iterator.rest in
    let empty : length c.loop-part.part-iterator.rest.items ≡ 0 = omega (arith, none.steps.0) in
    λ bytes of. left_none bytes _ _ empty inv.each (inv.left bytes of)
