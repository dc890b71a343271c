-- What is true of each pass.
use Rattle.std.specs.Prelude.{◌≡◌, ℕ, ◌<◌, true, []}
use Rattle.kw_world.specs.Opening.{IsOpening}
use Rattle.kw_world.specs.Sizes.{product}
use Rattle.kw_core.specs.Events.{is_valid}
use Rattle.kw_table.specs.Views.{Mine}

-- it acts for the seat with its number, which is one of the run's, and what it has seen is valid
pub record IsKnown (n : ℕ) (m : Mine) : Type 0 where
  pub number : m.0.number ≡ n
  pub count : m.0.count ≡ 1
  pub empty : m.1 ≡ []
  pub seats : n < m.0.opening.seats
  pub opens : IsOpening product m.0.opening
  pub valid : is_valid product m.0.opening m.0.seen ≡ true
