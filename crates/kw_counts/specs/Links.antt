-- Where a seat is about to replace a row, and where it has sought the row before it in vain.
use Rattle.std.specs.Prelude.{ℕ, ◌≡◌, Some, slice_get}
use Rattle.kw_words.specs.Link.{link_of}
use Rattle.kw_world.specs.declared.activity.Activity.{Activity}
use Rattle.kw_world.specs.declared.activity.rebalance.Rebalance.TheVariants as Rebalance
use Rattle.kw_world.specs.declared.activity.rebalance.replace.Replace.TheVariants as Replace
use Rattle.kw_world.specs.declared.activity.rebalance.seek.Seek.TheVariants as Seek
use Rattle.kw_world.specs.declared.local.Local.{Local}
use Rattle.kw_world.specs.declared.rebalance.Afterwards.TheVariants.{TryAgain}
use Rattle.kw_world.specs.ReplaceTransitions.{replaced_link}
use Rattle.kw_world.specs.Sizes.{Sizes}
use Rattle.kw_world.specs.Step.{word}
use Rattle.kw_world.specs.Transition.{row_linked}
use Rattle.kw_world.specs.WorldView.{WorldView}
use Rattle.kw_shape.specs.ReachedRows.{IsReached}

-- what every valid list keeps
pub record KeepsLinks (z : Sizes) (w : WorldView) : Type 0 where
  -- the link that a seat is about to exchange leads to its row, if that is in the list
  pub leads : (t : ℕ) (l : Local) → slice_get w.locals t ≡ Some l → l.activity ≡ Activity.Rebalance (Rebalance.Replace Replace.Exchange) → IsReached (word z w) l.row → row_linked (link_of (word z w (replaced_link l.rebalance.before))) ≡ Some l.row
  -- the row of a seat that gives its new rows back to try again is in the list no more
  pub gone : (t : ℕ) (l : Local) → slice_get w.locals t ≡ Some l → l.activity ≡ Activity.Rebalance (Rebalance.Seek Seek.GiveBack) → l.rebalance.afterwards ≡ TryAgain → IsReached (word z w) l.row → ⊥
