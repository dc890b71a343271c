-- Where a seat is not that rebalances, or that builds new rows or has just done so: it is on no way
-- to a row, reads none, puts nothing, and is no scan that waits, settles or has its version. And
-- where one goes on to that asks of a pin, as no seat does yet.
use Rattle.std.proofs.Common.{ℕ, ◌≡◌, ◌≢◌, Option, Some, None}
use Rattle.kw_words.specs.declared.layout.Name.TheVariants as name
use Rattle.kw_world.specs.declared.activity.Activity.{Activity}
use Rattle.kw_world.specs.declared.activity.draw.Draw.TheVariants as Draw
use Rattle.kw_world.specs.declared.activity.rebalance.claim.Claim.TheVariants as Claim
use Rattle.kw_world.specs.declared.activity.rebalance.engage.Engage.TheVariants as Engage
use Rattle.kw_world.specs.declared.activity.rebalance.freeze.Freeze.{Freeze}
use Rattle.kw_world.specs.declared.activity.rebalance.freeze.Freeze.TheVariants as Freeze
use Rattle.kw_world.specs.declared.activity.rebalance.gather.Gather.{Gather}
use Rattle.kw_world.specs.declared.activity.rebalance.Rebalance.TheVariants as Rebalance
use Rattle.kw_world.specs.declared.activity.walk.Walk.TheVariants as Walk
use Rattle.kw_world.specs.declared.answer.Answer.TheVariants.{Held, NotPinned, Pairs}
use Rattle.kw_world.specs.declared.event.Choice.{Choice}
use Rattle.kw_world.specs.declared.local.Local.{Local}
use Rattle.kw_world.specs.ReplaceTransitions.{replaced_link}
use Rattle.kw_world.specs.Sizes.{Sizes}
use Rattle.kw_core.specs.Stages.{IsAtRead, IsBalancing, IsCovering, IsPutting, IsReading, IsSettled, IsSettling, IsUnderway, IsWaiting, HasDrawn, HasSeenPending}
use Rattle.kw_core.specs.Words.{Words}
use Rattle.kw_core.proofs.Arrows.{Arrow, builds, freezes_last, keeps_no_more, looks_at_pin, remembers_last, sees_frozen_last, takes_no_more}
use Rattle.kw_core.proofs.Building.{IsBuilding}
use Rattle.kw_core.proofs.BuiltNext.{IsAfterBuilding}
use Rattle.kw_core.proofs.Grouping.{NextCounted, claims_row, frozen_goes, gathered_goes, goes_alone}
use Rattle.kw_core.proofs.Pinning.{NextOfPin, NextPinLook, is_held, pins, reads_at_pin, reads_no_key, reads_no_pin, sees_no_pin, sees_no_pin_last, sees_pin, sees_pin_last, unpins, unpins_none}
use Rattle.kw_shape.proofs.AfterBuilding.{look_goes}
use Rattle.kw_puts.specs.Positions.{HasLoaded, HelpsScan}

-- A seat that asks of a pin, or looks at one.

-- what holds wherever it goes on to after its question
pub of_pin_is : {l k : Local} (P : Activity → Type 0) → P (Activity.Draw Draw.Clock) → P (Activity.Leave Held) → P (Activity.Leave NotPinned) → P (Activity.Leave Pairs) → P (Activity.Walk Walk.Start) → P Activity.ClearPin → NextOfPin l k → P k.activity
of_pin_is P draws held none pairs starts clears (pins c e) = draws
of_pin_is P draws held none pairs starts clears (is_held version c e) = held
of_pin_is P draws held none pairs starts clears (reads_no_pin from upto c e) = none
of_pin_is P draws held none pairs starts clears (reads_no_key from upto version c e f) = pairs
of_pin_is P draws held none pairs starts clears (reads_at_pin from upto version c e f) = starts
of_pin_is P draws held none pairs starts clears (unpins version c e) = clears
of_pin_is P draws held none pairs starts clears (unpins_none c e) = none

-- and after a look
pub pin_look_is : {z : Sizes} {m w : ℕ} {l k : Local} (P : Activity → Type 0) → ((j : ℕ) → P (Activity.Rebalance (Rebalance.Freeze (Freeze.Pin j)))) → P (Activity.Rebalance (Rebalance.Gather Gather.Link)) → NextPinLook z m w l k → P k.activity
pin_look_is P looks takes (sees_pin version e o) = looks _
pin_look_is P looks takes (sees_pin_last version e o) = takes
pin_look_is P looks takes (sees_no_pin e o) = looks _
pin_look_is P looks takes (sees_no_pin_last e o) = takes

-- A seat that goes through the rows of its group.

-- one that freezes them, or gathers their cells, rebalances on
pub freezing_goes : (z : Sizes) (v : Words) (s : ℕ) (choice : Choice) (l : Local) (f : Freeze) (k : Local) → Arrow z v s choice l (Activity.Rebalance (Rebalance.Freeze f)) k → IsBalancing k.activity
freezing_goes z v s choice l f k (builds c next y t) = absurd y
freezing_goes z v s choice l f k (looks_at_pin j next n) = (look_goes z _ _ _ next n).next
freezing_goes z v s choice l f k (remembers_last j c version next e o n) = (frozen_goes _ next n).next
freezing_goes z v s choice l f k (sees_frozen_last j next e o n) = (frozen_goes _ next n).next
freezing_goes z v s choice l f k (freezes_last j next e o n) = (frozen_goes _ next n).next
freezing_goes z v s choice l f k _ = tt

-- one that knows how many rows go claims the next one, or freezes its own
pub counted_not : {count : ℕ} {l k : Local} (P : Activity → Type 0) → (P (Activity.Rebalance (Rebalance.Claim Claim.Exchange)) → ⊥) → (P (Activity.Rebalance (Rebalance.Freeze Freeze.Count)) → ⊥) → NextCounted count l k → P k.activity → ⊥
counted_not P n m (claims_row r two e) = n
counted_not P n m (goes_alone d) = m

pub gathering_goes : (z : Sizes) (v : Words) (s : ℕ) (choice : Choice) (l : Local) (g : Gather) (k : Local) → Arrow z v s choice l (Activity.Rebalance (Rebalance.Gather g)) k → IsBalancing k.activity
gathering_goes z v s choice l g k (builds c next y t) = absurd y
gathering_goes z v s choice l g k (takes_no_more next e o n) = (gathered_goes z _ next n).next
gathering_goes z v s choice l g k (keeps_no_more next o n) = (gathered_goes z _ next n).next
gathering_goes z v s choice l g k _ = tt

-- it puts nothing, and reads nothing
pub balancing_puts : {A : Type 0} (a : Activity) → IsBalancing a → IsPutting a → A
balancing_puts (Activity.Rebalance _) n x = absurd x
balancing_puts _ n x = absurd n

pub balancing_sees : {A : Type 0} (a : Activity) → IsBalancing a → HasSeenPending a → A
balancing_sees (Activity.Rebalance _) n x = absurd x
balancing_sees _ n x = absurd n

pub balancing_reading : {A : Type 0} (a : Activity) → IsBalancing a → IsReading a → A
balancing_reading (Activity.Rebalance _) n x = absurd x
balancing_reading _ n x = absurd n

-- nor is it a scan
pub balancing_waiting : {A : Type 0} (a : Activity) → IsBalancing a → IsWaiting a → A
balancing_waiting (Activity.Rebalance _) n x = absurd x
balancing_waiting _ n x = absurd n

pub balancing_loaded : {A : Type 0} (a : Activity) → IsBalancing a → HasLoaded a → A
balancing_loaded (Activity.Rebalance _) n x = absurd x
balancing_loaded _ n x = absurd n

pub balancing_settled : {A : Type 0} (a : Activity) → IsBalancing a → IsSettled a → A
balancing_settled (Activity.Rebalance _) n x = absurd x
balancing_settled _ n x = absurd n

pub balancing_drawn : {A : Type 0} (a : Activity) → IsBalancing a → HasDrawn a → A
balancing_drawn (Activity.Rebalance _) n x = absurd x
balancing_drawn _ n x = absurd n

-- A seat that builds new rows.

-- it is among those that do so or have just done so
pub building_after : (a : Activity) → IsBuilding a → IsAfterBuilding a
building_after Activity.Retry y = absurd y
building_after (Activity.Rebalance (Rebalance.Engage Engage.Clock)) y = absurd y
building_after (Activity.Leave answer) y = absurd y
building_after _ y = y

-- it is in its call
pub building_underway : (a : Activity) → IsBuilding a → IsUnderway a
building_underway Activity.Idle y = absurd y
building_underway (Activity.Leave answer) y = absurd y
building_underway _ y = tt

-- neither is on its way or at a row
pub after_covers : {A : Type 0} (a : Activity) → IsAfterBuilding a → IsCovering a → A
after_covers (Activity.Walk _) n x = absurd n
after_covers (Activity.Look _) n x = absurd n
after_covers (Activity.Read _) n x = absurd n
after_covers _ n x = absurd x

read_covers : (a : Activity) → IsAtRead a → IsCovering a
read_covers (Activity.Look _) x = tt
read_covers (Activity.Read _) x = tt
read_covers _ x = absurd x

reading_read : (a : Activity) → IsReading a → IsAtRead a
reading_read (Activity.Look _) x = tt
reading_read (Activity.Read _) x = tt
reading_read _ x = absurd x

-- so neither reads a row
pub after_at_read : {A : Type 0} (a : Activity) → IsAfterBuilding a → IsAtRead a → A
after_at_read a n x = after_covers a n (read_covers a x)

pub after_reading : {A : Type 0} (a : Activity) → IsAfterBuilding a → IsReading a → A
after_reading a n x = after_at_read a n (reading_read a x)

-- nor is a scan
pub after_waiting : {A : Type 0} (a : Activity) → IsAfterBuilding a → IsWaiting a → A
after_waiting (Activity.Draw Draw.Version) n x = absurd n
after_waiting (Activity.Draw Draw.Settle) n x = absurd n
after_waiting _ n x = absurd x

pub after_settling : {A : Type 0} (a : Activity) → IsAfterBuilding a → IsSettling a → A
after_settling (Activity.Draw Draw.Settle) n x = absurd n
after_settling _ n x = absurd x

pub after_loaded : {A : Type 0} (a : Activity) → IsAfterBuilding a → HasLoaded a → A
after_loaded (Activity.Draw Draw.Wait) n x = absurd n
after_loaded (Activity.Draw Draw.Version) n x = absurd n
after_loaded _ n x = absurd x

pub after_settled : {A : Type 0} (a : Activity) → IsAfterBuilding a → IsSettled a → A
after_settled (Activity.EndScan answer) n x = absurd n
after_settled (Activity.Rebalance (Rebalance.Engage Engage.Clock)) n x = after_covers (Activity.Rebalance (Rebalance.Engage Engage.Clock)) n x
after_settled a n x = after_covers a n x

pub after_drawn : {A : Type 0} (a : Activity) → IsAfterBuilding a → HasDrawn a → A
after_drawn (Activity.EndScan answer) n x = absurd n
after_drawn (Activity.Leave Pairs) n x = absurd n
after_drawn (Activity.Rebalance (Rebalance.Engage Engage.Clock)) n x = after_covers (Activity.Rebalance (Rebalance.Engage Engage.Clock)) n x
after_drawn a n x = after_covers a n x

-- nor does either help one
pub after_helps : {A : Type 0} (t : ℕ) (a : Activity) → IsAfterBuilding a → HelpsScan t a → A
after_helps t (Activity.Rebalance (Rebalance.Freeze (Freeze.Draw i))) n x = absurd n
after_helps t (Activity.Rebalance (Rebalance.Freeze (Freeze.Settle i))) n x = absurd n
after_helps t _ n x = absurd x

-- the link that is exchanged where a row is replaced is no word of a scan
pub no_scan_replaced : (before : Option ℕ) (t : ℕ) → Some (replaced_link before) ≢ Some (name.Scan t)
no_scan_replaced (Some q) t e = let x : Some (name.Next q) ≡ Some (name.Scan t) = e in cc
no_scan_replaced None t e = let x : Some name.Head ≡ Some (name.Scan t) = e in cc
