-- The rows that a walk names were not gone when its call drew, or began: each is in the list when
-- the walk comes to it, or follows one that was not gone.
use Rattle.std.proofs.Common.{ℕ, ◌≡◌, inl, inr, ◌<◌, ◌≤◌, Some, None, arith, refl, sym, ◌∙◌, ap, subst}
use Rattle.std.proofs.lemmas.Option.{same_Some}
use Rattle.kw_world.specs.declared.activity.Activity.{Activity}
use Rattle.kw_world.specs.declared.activity.insert.Insert.TheVariants as Insert
use Rattle.kw_world.specs.declared.activity.look.Look.TheVariants as Look
use Rattle.kw_world.specs.declared.activity.put.Put.TheVariants as Put
use Rattle.kw_world.specs.declared.activity.read.Read.TheVariants as Read
use Rattle.kw_world.specs.declared.activity.walk.Walk.TheVariants as Walk
use Rattle.kw_world.specs.declared.local.Local.{Local}
use Rattle.kw_world.specs.declared.event.Choice.{Choice}
use Rattle.kw_world.specs.Sizes.{Sizes}
use Rattle.kw_world.specs.Transition.{row_or_first}
use Rattle.kw_core.specs.Stages.{IsAtRow}
use Rattle.kw_core.specs.Words.{Words, next_in}
use Rattle.kw_core.proofs.Arrows.{Arrow, starts_at_head, guesses, takes_head, guess_serves, puts_in_last, reads_last, reaches_next, walks_on, puts_before, reads_before, sees_pending, sees_stamped, sees_neither, is_wanted, is_gone_by, loads_to_help, helps, finds_stamped, finds_other, list_leads, list_ends, key_below, key_within, key_above, loads_version, gathers_listed, left_over_wanted, left_over_gone_by, gathers_left_over, finds_room, takes_cell, stores_key, stores_value, announces, loads_clock, stamps, is_stamped, stores_version, reaches_cell, sees_none, key_before, key_same, key_after, version_before, version_after, stores_after, inserts, loses, NextLook, looks, lists, NextLeftOver, goes_to_left_over, answers, ends_scan, scans_on, builds, begins_at_first, begins_behind, first_ends, first_leads, first_reaches, first_sees_none, inserts_at_first, inserts_behind, asks_of_pin}
use Rattle.kw_rows.specs.Ledger.{Dead, IsDead, IsFresh, IsHeld, IsLive, Ledger, Live}
use Rattle.kw_rows.specs.Rows.{Closed}
use Rattle.kw_rows.specs.Structure.{Structure}
use Rattle.kw_rows.proofs.Named.{held_by, normal_live}
use Rattle.kw_shape.specs.RowsIn.{rows_in, state_seen}
use Rattle.kw_shape.specs.Shape.{Walks}
use Rattle.kw_reads.specs.Contents.{HasCandidate, HasRow, IsLater, IsSince}
use Rattle.kw_reads.proofs.BuiltReads.{IsAfterRebalance, rebalance_next}
use Rattle.kw_puts.proofs.BuiltStages.{of_pin_is}

-- Along the arrows; the ledger is that before the event.

-- a seat at its row has no candidate, and has a row
pub at_row_has : (a : Activity) → IsAtRow a → HasRow a
at_row_has (Activity.Walk Walk.GuessedLeast) x = absurd x
at_row_has (Activity.Walk Walk.Next) x = absurd x
at_row_has (Activity.Walk Walk.NextLeast) x = absurd x
at_row_has _ x = x

no_candidate : {A : Type 0} (a : Activity) → IsAtRow a → HasCandidate a → A
no_candidate (Activity.Walk Walk.NextLeast) x y = absurd x
no_candidate _ x y = absurd y

-- a seat with a candidate has a row
pub candidate_has : (a : Activity) → HasCandidate a → HasRow a
candidate_has (Activity.Walk Walk.NextLeast) x = tt
candidate_has _ x = absurd x

-- a seat that rebalances, or has done so, is at no row of a walk
pub after_rebalance : {A : Type 0} (a : Activity) → IsAfterRebalance a → HasRow a → A
after_rebalance (Activity.Walk Walk.GuessedLeast) x y = absurd x
after_rebalance (Activity.Walk Walk.Next) x y = absurd x
after_rebalance (Activity.Walk Walk.NextLeast) x y = absurd x
after_rebalance (Activity.Look _) x y = absurd x
after_rebalance (Activity.Read _) x y = absurd x
after_rebalance (Activity.Put _) x y = absurd x
after_rebalance (Activity.Insert _) x y = absurd x
after_rebalance _ x y = absurd y

module _ (g : Ledger) (d : ℕ) where
  -- a seat that is at no row of a walk names none
  nowhere : (a : Activity) (l : Local) → (HasRow a → ⊥) → (HasCandidate a → ⊥) → (IsAtRow a → ⊥) → IsLater g d a l
  nowhere a l x y u = record { row = λ q. absurd (x q); saw = λ q. absurd (y q); next = λ q. absurd (u q) }

  -- a seat that stays at its row
  stays : (a : Activity) (l : Local) (b : Activity) (k : Local) → IsAtRow a → IsAtRow b → k.row ≡ l.row → k.next ≡ l.next → IsLater g d a l → IsLater g d b k
  stays a l b k x y row next w = record { row = λ q. subst (IsSince g d) (sym row) (w.row (at_row_has a x)); saw = λ q. no_candidate b y q; next = λ q n e. w.next x n (sym next ∙ e) }

  -- the next look of a reader
  look_stays : (z : Sizes) (j : ℕ) (a : Activity) (l : Local) (next : Activity) (k : Local) → NextLook z j next → IsAtRow a → k.row ≡ l.row → k.next ≡ l.next → IsLater g d a l → IsLater g d next k
  look_stays z j a l next k (looks o) x row after w = stays a l (Activity.Look (Look.Entry j)) k x tt row after w
  look_stays z j a l next k (lists o) x row after w = stays a l (Activity.Read Read.Start) k x tt row after w

  -- the next cell of a reader, or the next row of a scan
  cell_goes : (a : Activity) (l : Local) (k next : Local) → NextLeftOver k next → IsAtRow a → k.row ≡ l.row → k.next ≡ l.next → IsLater g d a l → IsLater g d next.activity next
  cell_goes a l k next (goes_to_left_over m o) x row after w = stays a l (Activity.Read Read.LeftOverKey) next x tt row after w
  cell_goes a l k next (answers o n) x row after w = nowhere _ next (λ u. u) (λ u. u) (λ u. u)
  cell_goes a l k next (ends_scan o y n) x row after w = nowhere _ next (λ u. u) (λ u. u) (λ u. u)
  cell_goes a l k next (scans_on q o y n u) x row after w = record { row = λ c. w.next x q (sym after ∙ n); saw = λ c. absurd c; next = λ c. absurd c }

  -- a seat that has come to the row before its candidate
  arrives_before : (b : Activity) (l k : Local) → IsAtRow b → k.row ≡ l.row → k.next ≡ Some l.candidate → IsLater g d (Activity.Walk Walk.NextLeast) l → IsLater g d b k
  arrives_before b l k y row next w = record { row = λ q. subst (IsSince g d) (sym row) (w.row tt); saw = λ q. no_candidate b y q; next = λ q n e. subst (IsSince g d) (same_Some l.candidate n (sym next ∙ e)) (w.saw tt) }

  -- or to the last one
  arrives_last : (b : Activity) (l k : Local) → IsAtRow b → k.row ≡ l.row → k.next ≡ None → IsLater g d (Activity.Walk Walk.Next) l → IsLater g d b k
  arrives_last b l k y row next w = record { row = λ q. subst (IsSince g d) (sym row) (w.row tt); saw = λ q. no_candidate b y q; next = λ q n e. let x : None ≡ Some n = sym next ∙ e in absurd (cc) }

  -- a row of the list is later than any position
  in_list : (a : Activity) (l : Local) → IsLive g l.row → (HasCandidate a → ⊥) → (IsAtRow a → ⊥) → IsLater g d a l
  in_list a l e y u = record { row = λ q. inl e; saw = λ q. absurd (y q); next = λ q. absurd (u q) }

  -- the row after one that was not gone then was not either
  next_since : (v : Words) (t x y : ℕ) → Closed (rows_in v) g → IsFresh g t x → next_in v x ≡ Some y → IsSince g d x → IsSince g d y
  next_since v t x y c f e w = which (c.linked x y (held_by g t x f) e)
    where
      after : IsSince g d x → IsDead g x × ((g.fates x).gone ≤ (g.fates y).gone) → d < (g.fates y).gone
      after (inl a) o = let q : Live ≡ Dead = sym a ∙ o.0 in absurd (cc)
      after (inr a) o = omega (arith, a.1, o.1)

      which : IsHeld g y → IsSince g d y
      which (inl a) = inl a
      which (inr h) = inr (h.1.dead, after w (c.later x y (held_by g t x f) e h.1.dead))

-- by the arrow that the seat takes
pub later_by : (z : Sizes) (v : Words) (g : Ledger) {now : ℕ} (s : ℕ) (choice : Choice) (l : Local) (a : Activity) (l' : Local) (d : ℕ) → Arrow z v s choice l a l' → Structure (rows_in v) g now → Walks v g s a l → IsLater g d a l → IsLater g d l'.activity l'
later_by z v g s choice l (Activity.Rebalance b) l' d u c k w =
    let x = rebalance_next z v s choice l b l' u in
    record { row = λ q. after_rebalance l'.activity x q; saw = λ q. after_rebalance l'.activity x (candidate_has l'.activity q); next = λ q. after_rebalance l'.activity x (at_row_has l'.activity q) }
later_by z v g s choice l a l' d (builds b next y t) c k w = absurd y
later_by z v g s choice l a l' d (asks_of_pin next o n) c k w = nowhere g d next.activity next (of_pin_is (λ b. HasRow b → ⊥) (λ y. y) (λ y. y) (λ y. y) (λ y. y) (λ y. y) (λ y. y) n) (of_pin_is (λ b. HasCandidate b → ⊥) (λ y. y) (λ y. y) (λ y. y) (λ y. y) (λ y. y) (λ y. y) n) (of_pin_is (λ b. IsAtRow b → ⊥) (λ y. y) (λ y. y) (λ y. y) (λ y. y) (λ y. y) (λ y. y) n)
later_by z v g s choice l a l' d starts_at_head c k w = in_list g d (Activity.Walk Walk.Next) _ (subst (IsLive g) (sym (ap row_or_first c.chain.leads)) c.chain.first_live) (λ x. x) (λ x. x)
later_by z v g s choice l a l' d takes_head c k w = in_list g d (Activity.Walk Walk.Next) _ (subst (IsLive g) (sym (ap row_or_first c.chain.leads)) c.chain.first_live) (λ x. x) (λ x. x)
later_by z v g s choice l a l' d (guesses q y n) c k w = in_list g d (Activity.Walk Walk.GuessedLeast) _ (normal_live (rows_in v) g q c.states (ap state_seen n)) (λ x. x) (λ x. x)
later_by z v g s choice l a l' d (guess_serves o) c k w = record { row = λ x. w.row tt; saw = λ x. absurd x; next = λ x. absurd x }
later_by z v g s choice l a l' d (reaches_next q n) c k w = record { row = λ x. w.row tt; saw = λ x. next_since g d v s l.row q c.closed k.on.0 n (w.row tt); next = λ x. absurd x }
later_by z v g s choice l a l' d (walks_on o) c k w = record { row = λ x. w.saw tt; saw = λ x. absurd x; next = λ x. absurd x }
later_by z v g s choice l a l' d (puts_in_last y n) c k w = arrives_last g d (Activity.Put Put.Count) l _ tt refl refl w
later_by z v g s choice l a l' d (reads_last y n) c k w = arrives_last g d (Activity.Look (Look.Entry 0)) l _ tt refl refl w
later_by z v g s choice l a l' d (puts_before y o) c k w = arrives_before g d (Activity.Put Put.Count) l _ tt refl refl w
later_by z v g s choice l a l' d (reads_before y o) c k w = arrives_before g d (Activity.Look (Look.Entry 0)) l _ tt refl refl w
later_by z v g s choice l a l' d (sees_pending j x y) c k w = stays g d (Activity.Look (Look.Entry j)) l (Activity.Look Look.Key) _ tt tt refl refl w
later_by z v g s choice l a l' d (sees_stamped j x version next y n) c k w = look_stays g d z _ (Activity.Look (Look.Entry j)) l next _ n tt refl refl w
later_by z v g s choice l a l' d (sees_neither j next y n) c k w = look_stays g d z _ (Activity.Look (Look.Entry j)) l next _ n tt refl refl w
later_by z v g s choice l a l' d (is_wanted y) c k w = stays g d (Activity.Look Look.Key) l (Activity.Look Look.Clock) _ tt tt refl refl w
later_by z v g s choice l a l' d (is_gone_by next y n) c k w = look_stays g d z _ (Activity.Look Look.Key) l next _ n tt refl refl w
later_by z v g s choice l a l' d loads_to_help c k w = stays g d (Activity.Look Look.Clock) l (Activity.Look Look.Help) _ tt tt refl refl w
later_by z v g s choice l a l' d (helps next y n) c k w = look_stays g d z _ (Activity.Look Look.Help) l next _ n tt refl refl w
later_by z v g s choice l a l' d (finds_stamped x version next y n) c k w = look_stays g d z _ (Activity.Look Look.Help) l next _ n tt refl refl w
later_by z v g s choice l a l' d (finds_other next y n) c k w = look_stays g d z _ (Activity.Look Look.Help) l next _ n tt refl refl w
later_by z v g s choice l a l' d (first_ends next e n) c k w = cell_goes g d (Activity.Read Read.Start) l _ next n tt refl refl w
later_by z v g s choice l a l' d (list_ends next e n) c k w = cell_goes g d (Activity.Read Read.Link) l _ next n tt refl refl w
later_by z v g s choice l a l' d (first_leads x y) c k w = stays g d (Activity.Read Read.Start) l (Activity.Read Read.Key) _ tt tt refl refl w
later_by z v g s choice l a l' d (list_leads x y) c k w = stays g d (Activity.Read Read.Link) l (Activity.Read Read.Key) _ tt tt refl refl w
later_by z v g s choice l a l' d (begins_behind guess inside y) c k w = stays g d (Activity.Read Read.Start) l (Activity.Read Read.Link) _ tt tt refl refl w
later_by z v g s choice l a l' d (begins_at_first guess y) c k w = stays g d (Activity.Read Read.Start) l (Activity.Read Read.Link) _ tt tt refl refl w
later_by z v g s choice l a l' d (key_below y) c k w = stays g d (Activity.Read Read.Key) l (Activity.Read Read.Link) _ tt tt refl refl w
later_by z v g s choice l a l' d (key_within y u) c k w = stays g d (Activity.Read Read.Key) l (Activity.Read Read.Version) _ tt tt refl refl w
later_by z v g s choice l a l' d loads_version c k w = stays g d (Activity.Read Read.Version) l (Activity.Read Read.Value) _ tt tt refl refl w
later_by z v g s choice l a l' d gathers_listed c k w = stays g d (Activity.Read Read.Value) l (Activity.Read Read.Link) _ tt tt refl refl w
later_by z v g s choice l a l' d (left_over_wanted y) c k w = stays g d (Activity.Read Read.LeftOverKey) l (Activity.Read Read.LeftOverValue) _ tt tt refl refl w
later_by z v g s choice l a l' d (key_above next y n) c k w = cell_goes g d (Activity.Read Read.Key) l _ next n tt refl refl w
later_by z v g s choice l a l' d (left_over_gone_by next y n) c k w = cell_goes g d (Activity.Read Read.LeftOverKey) l _ next n tt refl refl w
later_by z v g s choice l a l' d (gathers_left_over next n) c k w = cell_goes g d (Activity.Read Read.LeftOverValue) l _ next n tt refl refl w
later_by z v g s choice l a l' d (finds_room y) c k w = stays g d (Activity.Put Put.Count) l (Activity.Put Put.Add) _ tt tt refl refl w
later_by z v g s choice l a l' d (takes_cell y) c k w = stays g d (Activity.Put Put.Add) l (Activity.Put Put.Key) _ tt tt refl refl w
later_by z v g s choice l a l' d stores_key c k w = stays g d (Activity.Put Put.Key) l (Activity.Put Put.Value) _ tt tt refl refl w
later_by z v g s choice l a l' d stores_value c k w = stays g d (Activity.Put Put.Value) l (Activity.Put Put.Announce) _ tt tt refl refl w
later_by z v g s choice l a l' d (announces y) c k w = stays g d (Activity.Put Put.Announce) l (Activity.Put Put.Clock) _ tt tt refl refl w
later_by z v g s choice l a l' d loads_clock c k w = stays g d (Activity.Put Put.Clock) l (Activity.Put Put.Stamp) _ tt tt refl refl w
later_by z v g s choice l a l' d (stamps y) c k w = stays g d (Activity.Put Put.Stamp) l (Activity.Put Put.Version) _ tt tt refl refl w
later_by z v g s choice l a l' d (is_stamped version y) c k w = stays g d (Activity.Put Put.Stamp) l (Activity.Put Put.Version) _ tt tt refl refl w
later_by z v g s choice l a l' d stores_version c k w = stays g d (Activity.Put Put.Version) l (Activity.Insert Insert.Start) _ tt tt refl refl w
later_by z v g s choice l a l' d (first_reaches x y) c k w = stays g d (Activity.Insert Insert.Start) l (Activity.Insert Insert.Key) _ tt tt refl refl w
later_by z v g s choice l a l' d (reaches_cell x y) c k w = stays g d (Activity.Insert Insert.Link) l (Activity.Insert Insert.Key) _ tt tt refl refl w
later_by z v g s choice l a l' d (first_sees_none y) c k w = stays g d (Activity.Insert Insert.Start) l (Activity.Insert Insert.Set) _ tt tt refl refl w
later_by z v g s choice l a l' d (sees_none y) c k w = stays g d (Activity.Insert Insert.Link) l (Activity.Insert Insert.Set) _ tt tt refl refl w
later_by z v g s choice l a l' d (inserts_behind guess inside y) c k w = stays g d (Activity.Insert Insert.Start) l (Activity.Insert Insert.Link) _ tt tt refl refl w
later_by z v g s choice l a l' d (inserts_at_first guess y) c k w = stays g d (Activity.Insert Insert.Start) l (Activity.Insert Insert.Link) _ tt tt refl refl w
later_by z v g s choice l a l' d (key_before y) c k w = stays g d (Activity.Insert Insert.Key) l (Activity.Insert Insert.Link) _ tt tt refl refl w
later_by z v g s choice l a l' d (key_same y) c k w = stays g d (Activity.Insert Insert.Key) l (Activity.Insert Insert.Version) _ tt tt refl refl w
later_by z v g s choice l a l' d (key_after y) c k w = stays g d (Activity.Insert Insert.Key) l (Activity.Insert Insert.Set) _ tt tt refl refl w
later_by z v g s choice l a l' d (version_before y) c k w = stays g d (Activity.Insert Insert.Version) l (Activity.Insert Insert.Link) _ tt tt refl refl w
later_by z v g s choice l a l' d (version_after y) c k w = stays g d (Activity.Insert Insert.Version) l (Activity.Insert Insert.Set) _ tt tt refl refl w
later_by z v g s choice l a l' d stores_after c k w = stays g d (Activity.Insert Insert.Set) l (Activity.Insert Insert.Exchange) _ tt tt refl refl w
later_by z v g s choice l a l' d (inserts y) c k w = stays g d (Activity.Insert Insert.Exchange) l (Activity.Put Put.Clear) _ tt tt refl refl w
later_by z v g s choice l a l' d (loses y) c k w = stays g d (Activity.Insert Insert.Exchange) l (Activity.Insert Insert.Start) _ tt tt refl refl w
later_by z v g s choice l a l' d _ c k w = record { row = λ x. absurd x; saw = λ x. absurd x; next = λ x. absurd x }
