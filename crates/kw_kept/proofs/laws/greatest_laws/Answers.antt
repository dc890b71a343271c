use Rattle.std.proofs.Common.{ℕ, ◌≡◌, ◌⊎◌, inl, inr, Bool, true, false}
use Rattle.kw_kept.proofs.GreatestPut.{one_greatest}
use Rattle.kw_kept.proofs.GreatestFound.{greatest_found}
use Rattle.kw_kept.proofs.Shown.{shows_through}
use Rattle.kw_kept.specs.Puts.{On}
use Rattle.std.proofs.lemmas.Bool.{cases_Bool}
use Rattle.kw_kept.proofs.laws.greatest_laws.Goals as goal

-- a test passes or does not
passes_or_not : (a : ℕ → Bool) (p : ℕ) → On a p ⊎ (On a p → ⊥)
passes_or_not a p = which (cases_Bool (a p))
  where
    which : (a p ≡ true) ⊎ (a p ≡ false) → On a p ⊎ (On a p → ⊥)
    which (inl e) = inl e
    which (inr e) = inr (λ f. cc)

pub returns : goal.returns
returns c = record {
  found = λ puts a n k u b apart. greatest_found puts (On a) k u (passes_or_not a) apart n b;
  one = λ puts a k u o q g h. one_greatest puts (On a) k u o q g h;
  through = λ puts a b c k u g f h. shows_through puts (On a) (On b) (On c) k u g f h;
}
