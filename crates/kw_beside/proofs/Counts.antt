-- How many pieces an input is cut into.
use Rattle.std.proofs.Common.{◌≡◌, ℕ, ◌+◌, ◌*◌, ◌/◌, ◌%◌, ◌<◌, ◌≤◌, min, arith}
use Rattle.std.proofs.lemmas.Bool.{cases_lt}
use Rattle.std.proofs.lemmas.Nat.{mul-le}
use mathlib.Core.Logic.{⊎_elim}
use Rattle.kw_beside.proofs.Chunks.{covered}

-- where more than a piece is left behind some pieces, one more is not yet the last one that was
-- asked for
pub one_more : (count pieces part size whole left : ℕ) → 0 < count → part ≡ whole / count + min 1 (whole % count) → part ≤ size → pieces * size + left ≤ whole → size < left → pieces + 1 < count
one_more count pieces part size whole left some is most long more =
    ⊎_elim
    (λ h. h)
    (λ h. absurd (omega (arith, covered part whole count some is, mul-le part count size count most (omega arith), mul-le count size (pieces + 1) size h (omega arith))))
    (cases_lt (pieces + 1) count)
