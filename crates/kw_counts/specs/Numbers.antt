-- What the numbers of retired rows come to: the epoch is that of the opening and one for each
-- number, and each exchange that replaces the rows of a group gives these one number each.
use Rattle.std.specs.Prelude.{ℕ, ◌≡◌, ◌+◌, ◌*◌, ◌≤◌, List, [], ◌∷◌}
use Rattle.kw_words.specs.declared.layout.Name.TheVariants as name
use Rattle.kw_words.specs.declared.sizes.TheConstants.{MOST_GROUP}
use Rattle.kw_shape.specs.Epochs.{one_ahead}
use Rattle.kw_world.specs.declared.activity.Activity.{Activity}
use Rattle.kw_world.specs.declared.activity.rebalance.Rebalance.TheVariants as Rebalance
use Rattle.kw_world.specs.declared.activity.rebalance.replace.Replace.TheVariants as Replace
use Rattle.kw_world.specs.declared.local.Local.{Local}
use Rattle.kw_world.specs.declared.opening.Opening.{Opening}
use Rattle.kw_world.specs.Sizes.{Sizes}
use Rattle.kw_world.specs.Step.{word}
use Rattle.kw_world.specs.WorldView.{WorldView}
use Rattle.kw_counts.specs.Counts.{Counts}

-- how many numbers a seat that has replaced a group may still draw for its rows
abbrev pub owing : Activity → Local → ℕ
owing (Activity.Rebalance (Rebalance.Replace Replace.Normalise)) l = MOST_GROUP
owing (Activity.Rebalance (Rebalance.Replace Replace.Number)) l = 1 + one_ahead l.rebalance.ahead
owing (Activity.Rebalance (Rebalance.Replace Replace.Retire)) l = one_ahead l.rebalance.ahead
owing _ l = 0

-- how many all seats may
abbrev pub owed : List Local → ℕ
owed [] = 0
owed (l ∷ locals) = owing l.activity l + owed locals

-- what every valid list keeps
pub record KeepsNumbers (z : Sizes) (o : Opening) (w : WorldView) (c : Counts) : Type 0 where
  -- the epoch is that of the opening and the numbers that were drawn
  pub epoch : word z w name.Epoch ≡ o.epoch + c.numbers
  -- these, and those that seats may still draw, are no more than the rows of the groups that were
  -- replaced
  pub paid : c.numbers + owed w.locals ≤ MOST_GROUP * c.wins
