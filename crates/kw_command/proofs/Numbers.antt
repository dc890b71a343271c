-- Words of digits.
use Rattle.std.proofs.Common.{◌≡◌, ℕ, Bool, true, ◌&&◌, List, [], ◌∷◌, refl, ap}
use Rattle.std.specs.Char.{is_ascii_digit}
use Rattle.std.specs.List.{list_all}
use Rattle.std.specs.Str.{all_ascii_digits}
use Rattle.std.specs.Str.Parse.{digits_value}
use Rattle.std.proofs.lemmas.Str.Parse.{IsNumeralModel, numerals_by_value, tells_all_ascii_digits}

-- two ways to say that each byte is a digit
pub all_digits : (w : List ℕ) → list_all is_ascii_digit w ≡ all_ascii_digits w
all_digits [] = refl
all_digits (c ∷ w) = ap (λ (b : Bool). is_ascii_digit c && b) (all_digits w)

pub own : IsNumeralModel (λ ds. all_ascii_digits ds ≡ true) (digits_value 10)
own = numerals_by_value _ tells_all_ascii_digits
