use Rattle.std.proofs.Common.{◌≡◌, ◌<◌, ◌≤◌, ◌+◌, ◌-◌, ◌*◌, ◌/◌, ℕ, List, length, get_or, refl, subst, arith}
use Rattle.kw_line.proofs.Decimals.{IsRead, none_read, read_on, read_fits, tens_fit}
use Rattle.kw_line.proofs.number.leading_digits.Goals as goal

-- the first byte of a pair is read
first_read : (bytes : List ℕ) (pair value more : ℕ) → pair < length bytes / 2 → IsRead bytes (2 * pair) value → (48 ≤ get_or bytes (2 * pair) 0) × (get_or bytes (2 * pair) 0 ≤ 57) × (more ≡ value * 10 + (get_or bytes (2 * pair) 0 - 48)) → IsRead bytes (2 * pair + 1) more
first_read bytes pair value more lt read digit = read_on bytes (2 * pair) value (get_or bytes (2 * pair) 0) more (omega arith) refl read digit

-- all pairs are read
pairs_read : (bytes : List ℕ) (pair value : ℕ) → pair ≡ length bytes / 2 → IsRead bytes (2 * pair) value → IsRead bytes (length bytes / 2 * 2) value
pairs_read bytes pair value all read = let same : 2 * pair ≡ length bytes / 2 * 2 = omega (arith, all) in subst (λ n. IsRead bytes n value) same read

pub loop-pair-init : goal.loop-pair-init
loop-pair-init c = none_read c.args.bytes.now

pub with_digit-requires : goal.with_digit-requires
with_digit-requires c = omega (arith, tens_fit (2 * c.loop-pair.pair) c.loop-pair.value (omega arith) c.loop-pair.invariant.below)

pub returns-in_default-clause-digits : goal.returns-in_default-clause-digits
returns-in_default-clause-digits c = c.loop-pair.invariant.digits

pub returns-in_default-clause-value : goal.returns-in_default-clause-value
returns-in_default-clause-value c = c.loop-pair.invariant.worth

pub returns-in_default-clause-fits : goal.returns-in_default-clause-fits
returns-in_default-clause-fits c = omega (arith, read_fits c.args.bytes.now (2 * c.loop-pair.pair) c.loop-pair.value (omega arith) c.loop-pair.invariant)

pub with_digit-requires-in-loop-pair : goal.with_digit-requires-in-loop-pair
with_digit-requires-in-loop-pair c =
    let one = first_read c.args.bytes.now c.loop-pair.pair c.loop-pair.value c.in-Some.one_more c.loop-pair-test.true c.loop-pair.invariant (c.in-Some.ensures {u = tt}) in
    omega (arith, tens_fit (2 * c.loop-pair.pair + 1) c.in-Some.one_more (omega arith) one.below)

pub returns-in_default-with_digit-clause-digits : goal.returns-in_default-with_digit-clause-digits
returns-in_default-with_digit-clause-digits c =
    let one = first_read c.args.bytes.now c.loop-pair.pair c.loop-pair.value c.in-Some.one_more c.loop-pair-test.true c.loop-pair.invariant (c.in-Some.ensures {u = tt}) in
    one.digits

pub returns-in_default-with_digit-clause-value : goal.returns-in_default-with_digit-clause-value
returns-in_default-with_digit-clause-value c =
    let one = first_read c.args.bytes.now c.loop-pair.pair c.loop-pair.value c.in-Some.one_more c.loop-pair-test.true c.loop-pair.invariant (c.in-Some.ensures {u = tt}) in
    one.worth

pub loop-pair-preserved : goal.loop-pair-preserved
loop-pair-preserved c =
    let bytes = c.args.bytes.now in
    let pair = c.loop-pair.pair in
    let one = first_read bytes pair c.loop-pair.value c.in-Some.one_more c.loop-pair-test.true c.loop-pair.invariant (c.in-Some.ensures {u = tt}) in
    let two = read_on bytes (2 * pair + 1) c.in-Some.one_more (get_or bytes (2 * pair + 1) 0) c.in-Some-with_digit.two_more (omega arith) refl one (c.in-Some-with_digit.ensures {u = tt}) in
    let same : 2 * pair + 1 + 1 ≡ 2 * (pair + 1) = omega arith in
    subst (λ n. IsRead bytes n c.in-Some-with_digit.two_more) same two

pub returns-then-paired-bytes-clause-digits : goal.returns-then-paired-bytes-clause-digits
returns-then-paired-bytes-clause-digits c = (pairs_read c.args.bytes.now c.loop-pair.pair c.loop-pair.value (omega arith) c.loop-pair.invariant).digits

pub returns-then-paired-bytes-clause-value : goal.returns-then-paired-bytes-clause-value
returns-then-paired-bytes-clause-value c = (pairs_read c.args.bytes.now c.loop-pair.pair c.loop-pair.value (omega arith) c.loop-pair.invariant).worth

pub returns-then-paired-bytes-clause-fits : goal.returns-then-paired-bytes-clause-fits
returns-then-paired-bytes-clause-fits c = omega (arith, read_fits c.args.bytes.now (2 * c.loop-pair.pair) c.loop-pair.value (omega arith) c.loop-pair.invariant)

pub with_digit-requires-2 : goal.with_digit-requires-2
with_digit-requires-2 c = omega (arith, tens_fit (2 * c.loop-pair.pair) c.loop-pair.value (omega (arith, c.if-paired-bytes.false)) c.loop-pair.invariant.below)

pub returns-in-Some-with_digit-2-clause-digits : goal.returns-in-Some-with_digit-2-clause-digits
returns-in-Some-with_digit-2-clause-digits c =
    let bytes = c.args.bytes.now in
    let pairs = pairs_read bytes c.loop-pair.pair c.loop-pair.value (omega arith) c.loop-pair.invariant in
    let last = read_on bytes (length bytes / 2 * 2) c.loop-pair.value (get_or bytes (length bytes / 2 * 2) 0) c.in-Some-with_digit-2.one_more (omega (arith, c.if-paired-bytes.false)) refl pairs (c.in-Some-with_digit-2.ensures {u = tt}) in
    last.digits

pub returns-in-Some-with_digit-2-clause-value : goal.returns-in-Some-with_digit-2-clause-value
returns-in-Some-with_digit-2-clause-value c =
    let bytes = c.args.bytes.now in
    let pairs = pairs_read bytes c.loop-pair.pair c.loop-pair.value (omega arith) c.loop-pair.invariant in
    let last = read_on bytes (length bytes / 2 * 2) c.loop-pair.value (get_or bytes (length bytes / 2 * 2) 0) c.in-Some-with_digit-2.one_more (omega (arith, c.if-paired-bytes.false)) refl pairs (c.in-Some-with_digit-2.ensures {u = tt}) in
    last.worth

pub returns-in-None-clause-digits : goal.returns-in-None-clause-digits
returns-in-None-clause-digits c = (pairs_read c.args.bytes.now c.loop-pair.pair c.loop-pair.value (omega arith) c.loop-pair.invariant).digits

pub returns-in-None-clause-value : goal.returns-in-None-clause-value
returns-in-None-clause-value c = (pairs_read c.args.bytes.now c.loop-pair.pair c.loop-pair.value (omega arith) c.loop-pair.invariant).worth

pub returns-in-None-clause-fits : goal.returns-in-None-clause-fits
returns-in-None-clause-fits c = omega (arith, read_fits c.args.bytes.now (2 * c.loop-pair.pair) c.loop-pair.value (omega arith) c.loop-pair.invariant)
