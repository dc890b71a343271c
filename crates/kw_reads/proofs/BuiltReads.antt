-- A seat that rebalances, or has just done so, reads no row: nothing is said of it that is said of
-- readers; and of what it read for its call nothing changes.
use Rattle.std.proofs.Common.{ℕ, ◌≡◌, ◌⊎◌, inl, inr, refl, ap}
use Rattle.kw_lists.specs.Rows.{Row}
use Rattle.kw_world.specs.declared.activity.Activity.{Activity}
use Rattle.kw_world.specs.declared.activity.rebalance.engage.Engage.TheVariants as Engage
use Rattle.kw_world.specs.declared.activity.rebalance.freeze.Freeze.TheVariants as Freeze
use Rattle.kw_world.specs.declared.activity.read.Read.TheVariants as Read
use Rattle.kw_world.specs.declared.activity.rebalance.Rebalance.{Rebalance}
use Rattle.kw_world.specs.declared.activity.rebalance.Rebalance.TheVariants as Rebalance
use Rattle.kw_world.specs.declared.activity.rebalance.seek.Seek.TheVariants as Seek
use Rattle.kw_world.specs.declared.activity.walk.Walk.TheVariants as Walk
use Rattle.kw_world.specs.declared.answer.Answer.TheVariants.{Done, NoRows, Spent}
use Rattle.kw_world.specs.declared.event.Choice.{Choice}
use Rattle.kw_world.specs.declared.local.Local.{Local}
use Rattle.kw_world.specs.Sizes.{Sizes}
use Rattle.kw_core.specs.History.{History}
use Rattle.kw_core.specs.Run.{Run}
use Rattle.kw_core.specs.Stages.{IsAtRead, IsBalancing, IsCovering, IsEarly, IsLooking, IsReading, IsTaking}
use Rattle.kw_core.specs.Words.{Words}
use Rattle.kw_core.specs.declared.seat_log.SeatLog.{SeatLog}
use Rattle.kw_core.proofs.Arrows.{Arrow, builds, freezes_last, keeps_no_more, remembers_last, sees_frozen_last, takes_no_more, decides, marks_led, looks_at_pin}
use Rattle.kw_core.proofs.BuiltNext.{IsAfterBuilding, built_goes}
use Rattle.kw_core.proofs.Grouping.{GroupGoes, frozen_goes, gathered_goes, counted_goes}
use Rattle.kw_core.proofs.Happens.{Happens}
use Rattle.kw_reads.specs.Readers.{ReadsList}
use Rattle.kw_reads.specs.Replies.{HasPairs, IsCovered}
use Rattle.kw_shape.proofs.AfterBuilding.{look_goes}

-- a reader that looks at entries or reads cells is at its row
pub looking_reads : (a : Activity) → IsLooking a → IsAtRead a
looking_reads (Activity.Look _) x = tt
looking_reads _ x = absurd x

pub taking_reads : (a : Activity) → IsTaking a → IsAtRead a
taking_reads (Activity.Read _) x = tt
taking_reads (Activity.Rebalance (Rebalance.Seek Seek.Next)) x = absurd x
taking_reads _ x = absurd x

pub reader_reads : (a : Activity) → IsLooking a ⊎ IsTaking a → IsAtRead a
reader_reads a (inl x) = looking_reads a x
reader_reads a (inr x) = taking_reads a x

-- what follows an event of a rebalance: the rebalance goes on, or the put tries again, is refused,
-- or is done
abbrev pub IsAfterRebalance : Activity → Type 0
IsAfterRebalance Activity.Retry = Unit {0}
IsAfterRebalance (Activity.Leave Spent) = Unit {0}
IsAfterRebalance (Activity.Leave NoRows) = Unit {0}
IsAfterRebalance (Activity.Leave Done) = Unit {0}
IsAfterRebalance (Activity.Rebalance _) = Unit {0}
IsAfterRebalance _ = ⊥

after_balancing : (a : Activity) → IsBalancing a → IsAfterRebalance a
after_balancing (Activity.Rebalance _) x = tt
after_balancing _ x = absurd x

-- so it is after one that takes, writes and links new rows
after_built : (a : Activity) → IsAfterBuilding a → IsAfterRebalance a
after_built Activity.Retry x = tt
after_built (Activity.Leave NoRows) x = tt
after_built (Activity.Leave Done) x = tt
after_built (Activity.Rebalance _) x = tt
after_built _ x = absurd x

-- and after any; and the call goes on with what it read
pub record RebalanceGoes (l k : Local) : Type 0 where
  pub call : k.call ≡ l.call
  pub gathered : k.gathered ≡ l.gathered
  pub pairs : k.pairs ≡ l.pairs
  pub next : IsAfterRebalance k.activity

group_on : (m k : Local) → GroupGoes m k → RebalanceGoes m k
group_on m k n = record { call = n.call; gathered = n.gathered; pairs = n.pairs; next = after_balancing k.activity n.next }

pub rebalance_goes : (z : Sizes) (v : Words) (s : ℕ) (choice : Choice) (l : Local) (b : Rebalance) (k : Local) → Arrow z v s choice l (Activity.Rebalance b) k → RebalanceGoes l k
rebalance_goes z v s choice l b k (builds c next y t) = let n = built_goes z v choice l c next t in record { call = n.call; gathered = n.gathered; pairs = n.pairs; next = after_built next.activity n.next }
rebalance_goes z v s choice l b k (looks_at_pin i next n) = group_on l next (look_goes z _ _ l next n)
rebalance_goes z v s choice l b k (remembers_last i c version next e o n) = let x = group_on _ next (frozen_goes _ next n) in record { call = x.call; gathered = x.gathered; pairs = x.pairs; next = x.next }
rebalance_goes z v s choice l b k (sees_frozen_last i next e o n) = group_on l next (frozen_goes l next n)
rebalance_goes z v s choice l b k (freezes_last i next e o n) = group_on l next (frozen_goes l next n)
rebalance_goes z v s choice l b k (takes_no_more next e none n) = group_on l next (gathered_goes z l next n)
rebalance_goes z v s choice l b k (keeps_no_more next none n) = let x = group_on _ next (gathered_goes z _ next n) in record { call = x.call; gathered = x.gathered; pairs = x.pairs; next = x.next }
rebalance_goes z v s choice l b k (marks_led count next d n) = let x = group_on _ next (counted_goes _ _ next n) in record { call = x.call; gathered = x.gathered; pairs = x.pairs; next = x.next }
rebalance_goes z v s choice l b k (decides count m next e n) = group_on l next (counted_goes _ l next n)
rebalance_goes z v s choice l b k x = record { call = refl; gathered = refl; pairs = refl; next = tt }

pub rebalance_next : (z : Sizes) (v : Words) (s : ℕ) (choice : Choice) (l : Local) (b : Rebalance) (k : Local) → Arrow z v s choice l (Activity.Rebalance b) k → IsAfterRebalance k.activity
rebalance_next z v s choice l b k x = (rebalance_goes z v s choice l b k x).next

-- such a seat is neither on its way nor at a row
after_covers : {A : Type 0} (a : Activity) → IsAfterRebalance a → IsCovering a → A
after_covers (Activity.Walk _) n x = absurd n
after_covers (Activity.Look _) n x = absurd n
after_covers (Activity.Read _) n x = absurd n
after_covers _ n x = absurd x

-- so it reads none
pub after_rests : {A : Type 0} (a : Activity) → IsAfterRebalance a → IsLooking a ⊎ IsTaking a → A
after_rests (Activity.Look _) n x = absurd n
after_rests (Activity.Read _) n x = absurd n
after_rests _ n (inl x) = absurd x
after_rests _ n (inr x) = absurd x

pub after_reading : {A : Type 0} (a : Activity) → IsAfterRebalance a → IsReading a → A
after_reading (Activity.Look _) n x = absurd n
after_reading (Activity.Read _) n x = absurd n
after_reading _ n x = absurd x

-- it is nowhere in the list of a row
pub after_walks : (n : ℕ) (row : Row) (a : Activity) (l : Local) → IsAfterRebalance a → ReadsList n row a l
after_walks n row (Activity.Look _) l b = absurd b
after_walks n row (Activity.Read Read.Start) l b = absurd b
after_walks n row (Activity.Read Read.Link) l b = absurd b
after_walks n row (Activity.Read Read.Key) l b = absurd b
after_walks n row (Activity.Read Read.Version) l b = absurd b
after_walks n row (Activity.Read Read.Value) l b = absurd b
after_walks n row (Activity.Walk Walk.First) l b = tt
after_walks n row _ l b = tt

-- it has entered
pub after_enters : {A : Type 0} (a : Activity) → IsAfterRebalance a → IsEarly a → A
after_enters Activity.Idle b x = absurd b
after_enters (Activity.Enter _) b x = absurd b
after_enters (Activity.Draw _) b x = absurd b
after_enters _ b x = absurd x

-- a scan that is over is none
pub after_covered : (a : Activity) (h : History) (l : Local) (g : SeatLog) → IsAfterRebalance a → IsCovered a h l g
after_covered (Activity.EndScan answer) h l g b = absurd b
after_covered (Activity.Leave Spent) h l g b = tt
after_covered (Activity.Leave NoRows) h l g b = tt
after_covered (Activity.Leave Done) h l g b = tt
after_covered (Activity.Leave answer) h l g b = absurd b
after_covered _ h l g b = tt

-- so of its pairs nothing is said
pub after_pairs : (h : History) (a : Activity) (l : Local) (g : SeatLog) → IsAfterRebalance a → HasPairs h a l g
after_pairs h a l g b = record { early = λ x. after_enters a b x; from = λ e x. after_covers a b x; upto = λ e x. after_covers a b x; covers = λ e x. after_covers a b x; covered = after_covered a h l g b }

-- what its log says of the row that it read stays
pub record KeepsRead (g g' : SeatLog) : Type 0 where
  pub looked : g'.looked ≡ g.looked
  pub ids : g'.ids ≡ g.ids
  pub read : g'.read ≡ g.read

pub rebalance_log : {z : Sizes} {r r' : Run} {s : ℕ} {choice : Choice} {l l' : Local} (b : Rebalance) → Happens z r r' s choice l l' (Activity.Rebalance b) → KeepsRead (r.seats s) (r'.seats s)
rebalance_log (Rebalance.Engage Engage.Clock) h = record { looked = ap (λ g. g.looked) h.log; ids = ap (λ g. g.ids) h.log; read = ap (λ g. g.read) h.log }
rebalance_log (Rebalance.Freeze (Freeze.Draw i)) h = record { looked = ap (λ g. g.looked) h.log; ids = ap (λ g. g.ids) h.log; read = ap (λ g. g.read) h.log }
rebalance_log _ h = record { looked = ap (λ g. g.looked) h.log; ids = ap (λ g. g.ids) h.log; read = ap (λ g. g.read) h.log }
