-- A triple that falls weighs less.
use Rattle.std.proofs.Common.{ℕ, ◌≡◌, ◌⊎◌, inl, inr, ◌+◌, ◌*◌, ◌<◌, ◌≤◌, arith, ap}
use Rattle.std.proofs.Math.Nat.{mul-le-mul_right}
use Rattle.kw_windows.specs.Triples.{Triple, Falls, IsWithin, weight}

-- a pair of which the first falls, or stays and the second falls, weighs less
pair_falls : (most a b c d : ℕ) → d ≤ most → (c < a) ⊎ (c ≡ a) × (d < b) → c * (most + 1) + d < a * (most + 1) + b
pair_falls most a b c d h (inl x) =
    let y : (c + 1) * (most + 1) ≤ a * (most + 1) = mul-le-mul_right (most + 1) (omega (arith, x)) in
    let e : (c + 1) * (most + 1) ≡ c * (most + 1) + most + 1 = grind arith in
    omega (arith, y, e, h)
pair_falls most a b c d h (inr x) = let e : c * (most + 1) ≡ a * (most + 1) = ap (λ n. n * (most + 1)) x.0 in omega (arith, e, x.1)

-- a pair within bounds weighs less than those have room for
pair_most : (most bound a b : ℕ) → a ≤ bound → b ≤ most → a * (most + 1) + b < (bound + 1) * (most + 1)
pair_most most bound a b x y =
    let more : a * (most + 1) ≤ bound * (most + 1) = mul-le-mul_right (most + 1) x in
    let e : (bound + 1) * (most + 1) ≡ bound * (most + 1) + most + 1 = grind arith in
    omega (arith, more, e, y)

module _ (moves rest : ℕ) where
  pub weighs_less : (x y : Triple) → IsWithin moves rest y → Falls x y → weight moves rest y < weight moves rest x
  weighs_less x y w f = pair_falls rest (x.wins * (moves + 1) + x.moves) x.rest (y.wins * (moves + 1) + y.moves) y.rest w.rest (which f)
    where
      front : (y.wins < x.wins) ⊎ (y.wins ≡ x.wins) × (y.moves < x.moves) → y.wins * (moves + 1) + y.moves < x.wins * (moves + 1) + x.moves
      front g = pair_falls moves x.wins x.moves y.wins y.moves w.moves g

      which : Falls x y → (y.wins * (moves + 1) + y.moves < x.wins * (moves + 1) + x.moves) ⊎ (y.wins * (moves + 1) + y.moves ≡ x.wins * (moves + 1) + x.moves) × (y.rest < x.rest)
      which (inl a) = inl (front (inl a))
      which (inr (a, inl b)) = inl (front (inr (a, b)))
      which (inr (a, inr (b, c))) = let e : y.wins * (moves + 1) ≡ x.wins * (moves + 1) = ap (λ n. n * (moves + 1)) a in inr (omega (arith, e, b), c)

  -- the most that a triple weighs
  pub weighs_most : (wins : ℕ) (x : Triple) → x.wins ≤ wins → IsWithin moves rest x → weight moves rest x < (wins + 1) * (moves + 1) * (rest + 1)
  weighs_most wins x few w =
      let front : x.wins * (moves + 1) + x.moves < (wins + 1) * (moves + 1) = pair_most moves wins x.wins x.moves few w.moves in
      let more : (x.wins * (moves + 1) + x.moves + 1) * (rest + 1) ≤ (wins + 1) * (moves + 1) * (rest + 1) = mul-le-mul_right (rest + 1) (omega (arith, front)) in
      let e : (x.wins * (moves + 1) + x.moves + 1) * (rest + 1) ≡ (x.wins * (moves + 1) + x.moves) * (rest + 1) + rest + 1 = grind arith in
      omega (arith, more, e, w.rest)
