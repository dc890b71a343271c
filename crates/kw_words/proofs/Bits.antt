-- Setting the bit of a mark in a number that has no bit above it.
use Rattle.std.proofs.Common.{ℕ, ◌≡◌, ◌+◌, ◌-◌, ◌*◌, ◌<◌, ◌≤◌, bit_or, bit_and, arith, refl, subst}
use Rattle.std.proofs.lemmas.Grind.{or_numeral}
use Rattle.std.proofs.lemmas.Nat.{and_or_self}
use Rattle.std.specs.Int.Bits.{or_add_and}

-- the bit above the lowest 32, which marks a link and freezes a count
abbrev pub mark : ℕ
mark = 4294967296

-- a number below the mark gains it
pub or-below : (word : ℕ) → word < mark → bit_or word mark ≡ word + mark
or-below word h = let e : bit_or word mark ≡ mark + word = or_numeral word 4294967295 refl h in omega arith

-- a number that has the mark has it in common with the mark
and-above : (word : ℕ) → mark ≤ word → word < 2 * mark → bit_and word mark ≡ mark
and-above word l h =
    let e : bit_or (word - mark) mark ≡ word - mark + mark = or-below (word - mark) (omega arith) in
    let f : word - mark + mark ≡ word = omega arith in
    subst (λ w. bit_and w mark ≡ mark) f (subst (λ w. bit_and w mark ≡ mark) e (and_or_self mark (word - mark)))

-- a number that has the mark keeps it
pub or-above : (word : ℕ) → mark ≤ word → word < 2 * mark → bit_or word mark ≡ word
or-above word l h = let a = and-above word l h in let b = or_add_and word mark in omega arith
