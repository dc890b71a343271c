-- What a seat that goes on alone finds from the beginning of a walk on: the rows to which a put
-- comes are in the list, and stay there until it replaces them itself. So no rebalance of its own
-- begins anew.
use Rattle.std.specs.Prelude.{◌≡◌, ◌≢◌, true, Some}
use Rattle.kw_rows.specs.Ledger.{Ledger, IsLive}
use Rattle.kw_words.specs.Link.{link_of}
use Rattle.kw_world.specs.declared.activity.Activity.{Activity}
use Rattle.kw_world.specs.declared.activity.rebalance.Rebalance.TheVariants as Rebalance
use Rattle.kw_world.specs.declared.activity.rebalance.replace.Replace.TheVariants as Replace
use Rattle.kw_world.specs.declared.activity.rebalance.seek.Seek.TheVariants as Seek
use Rattle.kw_world.specs.declared.activity.walk.Walk.TheVariants as Walk
use Rattle.kw_world.specs.declared.local.Local.{Local}
use Rattle.kw_world.specs.declared.rebalance.Afterwards.TheVariants.{TryAgain}
use Rattle.kw_world.specs.ReplaceTransitions.{replaced_link}
use Rattle.kw_world.specs.Transition.{row_linked}
use Rattle.kw_core.specs.Stages.{is_put}
use Rattle.kw_core.specs.Words.{Words}

-- the seat is at the beginning of a walk
abbrev pub IsStart : Activity → Type 0
IsStart (Activity.Walk Walk.Start) = Unit {0}
IsStart _ = ⊥

-- A put walks along rows that are in the list, and so are its own row and its full one. A walk to
-- the row before that ends at the link to it, and what was taken is not given back to begin anew.
-- Of a reader nothing is asked at its row, as it rebalances none. Where a call begins, or tries
-- again, or has replaced a row, the seat is not between the beginning of a walk and the next mark;
-- nor is it at that beginning itself.
abbrev pub IsFair : Words → Ledger → Activity → Local → Type 0
IsFair v g Activity.Idle l = ⊥
IsFair v g (Activity.Enter _) l = ⊥
IsFair v g (Activity.Draw _) l = ⊥
IsFair v g Activity.Retry l = ⊥
IsFair v g (Activity.Walk Walk.Start) l = ⊥
IsFair v g (Activity.Walk Walk.First) l = Unit {0}
IsFair v g (Activity.Walk Walk.GuessedLeast) l = IsLive g l.row
IsFair v g (Activity.Walk Walk.Next) l = is_put l.call ≡ true → IsLive g l.row
IsFair v g (Activity.Walk Walk.NextLeast) l = is_put l.call ≡ true → IsLive g l.row × IsLive g l.candidate
IsFair v g (Activity.Put _) l = IsLive g l.row
IsFair v g (Activity.Insert _) l = IsLive g l.row
IsFair v g (Activity.Rebalance (Rebalance.Seek Seek.GiveBack)) l = l.rebalance.afterwards ≢ TryAgain
IsFair v g (Activity.Rebalance (Rebalance.Replace Replace.Exchange)) l = row_linked (link_of (v (replaced_link l.rebalance.before))) ≡ Some l.row
IsFair v g (Activity.Rebalance (Rebalance.Replace Replace.Normalise)) l = ⊥
IsFair v g (Activity.Rebalance (Rebalance.Replace Replace.Number)) l = ⊥
IsFair v g (Activity.Rebalance (Rebalance.Replace Replace.Retire)) l = ⊥
IsFair v g (Activity.Rebalance _) l = IsLive g l.row
IsFair v g _ l = Unit {0}
