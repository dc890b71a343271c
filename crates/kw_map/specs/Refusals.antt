-- Why a call of a seat was refused, in a list of events.
use Rattle.std.specs.Prelude.{ℕ, ◌≡◌, Some, List}
use Rattle.kw_model.specs.declared.call.Reply.TheVariants.{NoRows, Spent}
use Rattle.kw_world.specs.declared.event.Event.{Event}
use Rattle.kw_world.specs.declared.opening.Opening.{Opening}
use Rattle.kw_world.specs.Sizes.{product}
use Rattle.kw_core.specs.declared.history.End.{End}
use Rattle.kw_laws.specs.Causes.{AskedAll, IsSpentBy}
use Rattle.kw_laws.specs.SeatCalls.{CallSeen}

-- where the seat's call was answered as spent, its seat, after the call's first event and before
-- its last, loaded the clock or the epoch and found it at its bound; and where it was answered that
-- no rows are left, its last search for rows asked for each row of the map, and took too few
pub record HasReason (o : Opening) (es : List Event) (seat : ℕ) (c : CallSeen) : Type 0 where
  pub spent : (e : End) → c.end ≡ Some e → e.reply ≡ Spent → IsSpentBy product o es c.call seat c.first e.at
  pub no_rows : (e : End) → c.end ≡ Some e → e.reply ≡ NoRows → AskedAll product o es seat o.rows c.first e.at
