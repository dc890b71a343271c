-- How triples compare: one falls where a number falls and those before it do not rise.
use Rattle.std.proofs.Common.{◌⊎◌, inl, inr, ◌<◌, ◌≤◌, arith}
use Rattle.std.proofs.lemmas.Bool.{cases_lt}
use Rattle.kw_windows.specs.Triples.{Triple, Falls}

-- the first number falls
pub falls_first : (x y : Triple) → y.wins < x.wins → Falls x y
falls_first x y h = inl h

-- the first does not rise, and the second falls
pub falls_second : (x y : Triple) → y.wins ≤ x.wins → y.moves < x.moves → Falls x y
falls_second x y h o = which (cases_lt y.wins x.wins)
  where
    which : (y.wins < x.wins) ⊎ (x.wins ≤ y.wins) → Falls x y
    which (inl k) = inl k
    which (inr k) = inr (omega (arith, h, k), inl o)

-- neither of both rises, and the third falls
pub falls_third : (x y : Triple) → y.wins ≤ x.wins → y.moves ≤ x.moves → y.rest < x.rest → Falls x y
falls_third x y h o u = which (cases_lt y.wins x.wins) (cases_lt y.moves x.moves)
  where
    which : (y.wins < x.wins) ⊎ (x.wins ≤ y.wins) → (y.moves < x.moves) ⊎ (x.moves ≤ y.moves) → Falls x y
    which (inl k) m = inl k
    which (inr k) (inl m) = inr (omega (arith, h, k), inl m)
    which (inr k) (inr m) = inr (omega (arith, h, k), inr (omega (arith, o, m), u))
