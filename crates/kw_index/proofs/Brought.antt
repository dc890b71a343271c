-- Entries that have all changes of a log are left as they are where they are brought up by it.
use Rattle.std.proofs.Common.{ℕ, ◌≡◌, ◌+◌, ◌-◌, ◌%◌, ◌<◌, arith, refl, ap}
use Rattle.kw_index.specs.Entries.{Listing}
use Rattle.kw_index.specs.Logs.{Account, after, behind, numbers}

-- no change was made behind the last number
pub nothing_made : (account : Account) (seen : ℕ) (listing : Listing) → seen ≡ account.number → seen < numbers → after account seen (behind account seen) listing ≡ listing
unfolding after
nothing_made account seen listing e w =
    let all : account.number + (numbers - seen) ≡ numbers = omega (arith, e, w) in
    let none : behind account seen ≡ 0 = ap (λ n. n % numbers) all in
    rw none refl
