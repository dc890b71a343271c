-- When an optional value is none.
use Rattle.std.proofs.Common.{◌≡◌, Option, Some, None, refl}

-- what cannot be any value is none
pub none_unless : {A : Type 0} (o : Option A) → ((x : A) → o ≡ Some x → ⊥) → o ≡ None
none_unless None h = refl
none_unless (Some x) h = absurd (h x refl)
