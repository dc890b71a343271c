-- Which rows were ever in use.
use Rattle.std.specs.Prelude.{ℕ, ◌≡◌, ◌≢◌, ◌<◌, true, Some}
use Rattle.kw_words.specs.declared.layout.Name.TheVariants as name
use Rattle.kw_words.specs.declared.state.State.TheVariants.{Free}
use Rattle.kw_words.specs.State.{state_of}
use Rattle.kw_world.specs.Sizes.{Sizes}
use Rattle.kw_world.specs.Step.{word}
use Rattle.kw_world.specs.WorldView.{WorldView}
use Rattle.kw_counts.specs.Counts.{Counts}

-- what every valid list keeps: a row that is not free was in use at the opening, or was taken since
pub record KeepsEver (z : Sizes) (w : WorldView) (c : Counts) : Type 0 where
  pub rows : (q : ℕ) → q < w.rows → state_of (word z w (name.State q)) ≢ Some Free → c.ever q ≡ true
