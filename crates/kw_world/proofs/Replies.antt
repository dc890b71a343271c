-- The replies that answers make.
use Rattle.std.proofs.Common.{ℕ, ◌≡◌, Option, Some, None, List, refl}
use Rattle.kw_model.specs.Map.{found}
use Rattle.kw_world.specs.Answers.{answer_found, reply_of}

-- what was found is replied, whatever pairs there are
pub reply_of-found : (value : Option ℕ) (pairs : List (ℕ × ℕ)) → reply_of (answer_found value) pairs ≡ found value
reply_of-found (Some value) pairs = refl
reply_of-found None pairs = refl
