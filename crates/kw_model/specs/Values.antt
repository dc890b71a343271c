-- What a range of the map says as one number: the values of its pairs, and the least and the
-- greatest of them.
use Rattle.std.specs.Prelude.{ℕ, min, max, List, [], ◌∷◌, map, fold, Option, Some, None}
use Rattle.kw_model.specs.Map.{Pairs}

-- the values of pairs
abbrev pub values : Pairs → List ℕ
values ps = map (λ p. p.1) ps

-- the least of numbers, where there are any
abbrev pub least : List ℕ → Option ℕ
least [] = None
least (n ∷ ns) = Some (fold min n ns)

-- the greatest of numbers, where there are any
abbrev pub greatest : List ℕ → Option ℕ
greatest [] = None
greatest (n ∷ ns) = Some (fold max n ns)
