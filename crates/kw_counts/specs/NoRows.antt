-- Why a put or a delete found too few rows free: each row of the table was in use before.
use Rattle.std.specs.Prelude.{ℕ, ◌≡◌, ◌<◌, true, Some, length}
use Rattle.kw_model.specs.declared.call.Reply.TheVariants.{NoRows}
use Rattle.kw_world.specs.declared.opening.Opening.{Opening}
use Rattle.kw_core.specs.History.{History, called}
use Rattle.kw_core.specs.declared.history.End.{End}
use Rattle.kw_counts.specs.Counts.{Counts}

-- what every valid list keeps
pub record KeepsNoRows (o : Opening) (c : Counts) (h : History) : Type 0 where
  -- a call was refused for want of rows only where every row of the table was in use at the
  -- opening, or was taken since
  pub calls : (x : ℕ) (e : End) → x < length h.calls → (called h x).end ≡ Some e → e.reply ≡ NoRows → (q : ℕ) → q < o.rows → c.ever q ≡ true
