use Rattle.std.proofs.Common.{arith}
use Rattle.std.proofs.lemmas.List.{nil_from_length}
use Rattle.kw_line.proofs.Texts.{number_alone, number_before_space}
use Rattle.kw_line.proofs.words.first_number.Goals as goal

pub returns-in-empty : goal.returns-in-empty
returns-in-empty c =
    let read = c.in_ok-number.ensures {u = tt} in
    (read.0, number_alone c.args.line.now c.in_ok-number.behind.now c.in_ok-number.number read.0 read.1 (nil_from_length c.in_ok-number.behind.now (omega (arith, c.in-empty.len_below))))

pub returns-in-32 : goal.returns-in-32
returns-in-32 c =
    let read = c.in_ok-number.ensures {u = tt} in
    (read.0, number_before_space c.args.line.now c.in_ok-number.behind.now c.in_ok-number.number read.0 read.1 (omega (arith, c.in-32.len_at_least)) (omega arith))
