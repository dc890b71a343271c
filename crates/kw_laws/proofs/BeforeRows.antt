-- Where the walk to the row before a full one ends, or that to the leader of a follower, the seat's
-- own row is in the list no more. Both walks are spoken of as one here, and the own row as the full
-- one.
--
-- Each row that the walk names was in the list after the full row came to it, or the full row is in
-- it no more: a row that was reached along the link of a dead one went no sooner than that one. Of
-- two rows that hold one key one went before the other came. So as long as the full row is in the
-- list, each row of the walk whose range ends behind the full row's least key is in the list too,
-- and there the row before the full one leads to it.
use Rattle.std.proofs.Common.{ℕ, ◌≡◌, ◌≢◌, ◌⊎◌, inl, inr, ◌<◌, ◌≤◌, true, Some, None, List, arith, refl, sym, ◌∙◌, ap, subst, slice_get, length}
use Rattle.std.proofs.lemmas.Bool.{cases_lt}
use Rattle.std.proofs.lemmas.Option.{same_Some}
use Rattle.kw_words.specs.declared.layout.Name.TheVariants as name
use Rattle.kw_words.specs.declared.state.State.TheVariants.{Normal}
use Rattle.kw_words.specs.Link.{link_of}
use Rattle.kw_words.specs.State.{state_of}
use Rattle.kw_rows.specs.Ledger.{Dead, Fate, IsDead, IsFresh, IsLive, Ledger, Live}
use Rattle.kw_rows.specs.Rows as rows
use Rattle.kw_rows.specs.Rows.{Chain, HoldsKey, IsBefore, WasLinked}
use Rattle.kw_rows.specs.Structure.{Structure}
use Rattle.kw_rows.proofs.Named.{above_least, ends_at, held_by, normal_live, one_beginning}
use Rattle.kw_world.specs.declared.activity.Activity.{Activity}
use Rattle.kw_world.specs.declared.activity.rebalance.left.Left.TheVariants as Left
use Rattle.kw_world.specs.declared.activity.rebalance.Rebalance.TheVariants as Rebalance
use Rattle.kw_world.specs.declared.activity.rebalance.replace.Replace.TheVariants as Replace
use Rattle.kw_world.specs.declared.event.Choice.{Choice}
use Rattle.kw_world.specs.declared.event.Event.{Event}
use Rattle.kw_world.specs.declared.local.Local.{Local}
use Rattle.kw_world.specs.declared.opening.Opening.{Opening}
use Rattle.kw_world.specs.declared.rebalance.Afterwards.{Afterwards}
use Rattle.kw_world.specs.declared.rebalance.Afterwards.TheVariants.{TryAgain, Refuse, MoveLeft}
use Rattle.kw_world.specs.Opening.{IsOpening, opened}
use Rattle.kw_world.specs.ReplaceTransitions.{at_before}
use Rattle.kw_world.specs.Sizes.{Sizes}
use Rattle.kw_world.specs.Step.{word}
use Rattle.kw_world.specs.Transition.{row_linked, row_or_first}
use Rattle.kw_core.specs.Events.{is_valid, may_step}
use Rattle.kw_core.specs.Ledger.{ledger_at_first}
use Rattle.kw_core.specs.Run.{Run, goes_on, history, start}
use Rattle.kw_core.specs.Stages.{IsBalancing}
use Rattle.kw_core.specs.Words.{Words, least_in, next_in}
use Rattle.kw_core.proofs.Building.{Building, IsBuilding, first_is_taken, sought_is_taken, pass_is_old, pass_is_young, takes_row, loses_row, gives_last_back, writes_first, writes_entry, writes_no_cell, writes_after, begins_before, guesses_before, before_serves, takes_head_before, leads_on_marked, leads_to_other, leads_nowhere, walks_before, walks_past, is_marked_before, is_replaced}
use Rattle.kw_core.proofs.Events.{may_come}
use Rattle.kw_core.proofs.Happens.{Happens, each_seat, happens}
use Rattle.kw_core.proofs.NextBuilt.{GivenBack, is_refused_rows, moves_left, tries_again, NextBack, gives_back, has_none, NextPass, has_looked, looks_on, NextSeek, asks, has_asked, NextTaken, has_enough, wants_more, NextNewCell, empties, fills, has_cells, NextNewEntry, has_entries, writes_idle, NextNewRow, has_written, writes_row, NextBefore, is_behind, is_first, was_done, was_served}
use Rattle.kw_core.proofs.Runs.{goes_on-moved, holds_of_history}
use Rattle.kw_shape.specs.ReachedRows.{IsReached, is_first as reached_first, is_next as reached_next}
use Rattle.kw_shape.specs.RowsIn.{rows_in, state_seen}
use Rattle.kw_shape.specs.Search.{HasBefore, HasReachedNext, IsLeft, IsMeasured, IsSearching, Search}
use Rattle.kw_shape.specs.Shape.{Shape}
use Rattle.kw_shape.proofs.AfterBuilding.{built_balancing}
use Rattle.kw_shape.proofs.Comings.{Comes, IsGoingLeft, LeftBy, comes, goes_by, goes_on as builds_on, is_at_first, knows_leader, left_by, left_search, saw_next, seeks, stays_out}
use Rattle.kw_shape.proofs.LinkedRows.{GoesNow, balance_at, dead_before, fresh_linked, linked_keeps, search_at}
use Rattle.kw_shape.proofs.SearchKeep.{search_by}
use Rattle.kw_shape.proofs.ShapeOpens.{each_rests}
use Rattle.kw_shape.proofs.WonKeep.{head_open}
use Rattle.kw_reads.specs.Inv.{Inv, lower}
use Rattle.kw_reads.proofs.Keeps.{inv_goes_on}
use Rattle.kw_reads.proofs.KeptKeeps.{live_was}
use Rattle.kw_reads.proofs.Opens.{inv_start}
use Rattle.kw_laws.specs.Laws.{IsLeavingBefore, IsReachingNext}

-- What a seat knows of the rows of its walk.

-- the seat knows a row on the way to that before its full one; a leader that a state named is none
-- of a walk
abbrev IsWalkingBefore : Activity → Type 0
IsWalkingBefore (Activity.Rebalance (Rebalance.Replace Replace.GuessedLeast)) = Unit {0}
IsWalkingBefore (Activity.Rebalance (Rebalance.Replace Replace.Next)) = Unit {0}
IsWalkingBefore (Activity.Rebalance (Rebalance.Replace Replace.NextLeast)) = Unit {0}
IsWalkingBefore (Activity.Rebalance (Rebalance.Left Left.Next)) = Unit {0}
IsWalkingBefore (Activity.Rebalance (Rebalance.Left Left.NextLeast)) = Unit {0}
IsWalkingBefore _ = ⊥

-- if the full row q is in the list, and x is so no more, x went after q came
abbrev IsLate : Ledger → ℕ → ℕ → Type 0
IsLate g q x = IsLive g q → IsDead g x → (g.fates q).born ≤ (g.fates x).gone

-- the row of the walk and the one that it reached behind it are such ones; the range of the first
-- ends where the second begins, which is not the full one
record WalksBefore (v : Words) (g : Ledger) (a : Activity) (l : Local) : Type 0 where
  late : (p : ℕ) → IsWalkingBefore a → l.rebalance.before ≡ Some p → IsLate g l.row p
  late_next : HasReachedNext a → IsLate g l.row l.candidate
  ends : (p : ℕ) → HasReachedNext a → l.rebalance.before ≡ Some p → (g.fates p).upper ≡ Some (least_in v l.candidate)
  other : HasReachedNext a → l.candidate ≢ l.row

reached_walks : (a : Activity) → HasReachedNext a → IsWalkingBefore a
reached_walks (Activity.Rebalance (Rebalance.Replace Replace.NextLeast)) x = tt
reached_walks (Activity.Rebalance (Rebalance.Left Left.NextLeast)) x = tt
reached_walks _ x = absurd x

reached_searches : (a : Activity) (l : Local) → HasReachedNext a → IsSearching a l
reached_searches (Activity.Rebalance (Rebalance.Replace Replace.NextLeast)) l x = tt
reached_searches (Activity.Rebalance (Rebalance.Left Left.NextLeast)) l x = tt
reached_searches _ l x = absurd x

walking_balances : (a : Activity) → IsWalkingBefore a → IsBalancing a
walking_balances (Activity.Rebalance (Rebalance.Replace Replace.GuessedLeast)) x = tt
walking_balances (Activity.Rebalance (Rebalance.Replace Replace.Next)) x = tt
walking_balances (Activity.Rebalance (Rebalance.Replace Replace.NextLeast)) x = tt
walking_balances (Activity.Rebalance (Rebalance.Left Left.Next)) x = tt
walking_balances (Activity.Rebalance (Rebalance.Left Left.NextLeast)) x = tt
walking_balances _ x = absurd x

-- it builds rows, or goes left
walking_builds : (a : Activity) → IsWalkingBefore a → (IsBuilding a → ⊥) → IsGoingLeft a
walking_builds (Activity.Rebalance (Rebalance.Replace Replace.GuessedLeast)) x n = absurd (n tt)
walking_builds (Activity.Rebalance (Rebalance.Replace Replace.Next)) x n = absurd (n tt)
walking_builds (Activity.Rebalance (Rebalance.Replace Replace.NextLeast)) x n = absurd (n tt)
walking_builds (Activity.Rebalance (Rebalance.Left Left.Next)) x n = tt
walking_builds (Activity.Rebalance (Rebalance.Left Left.NextLeast)) x n = tt
walking_builds _ x n = absurd x

-- a seat is on its walk, or is not
is_walking : (a : Activity) → IsWalkingBefore a ⊎ (IsWalkingBefore a → ⊥)
is_walking (Activity.Rebalance (Rebalance.Replace Replace.GuessedLeast)) = inl tt
is_walking (Activity.Rebalance (Rebalance.Replace Replace.Next)) = inl tt
is_walking (Activity.Rebalance (Rebalance.Replace Replace.NextLeast)) = inl tt
is_walking (Activity.Rebalance (Rebalance.Left Left.Next)) = inl tt
is_walking (Activity.Rebalance (Rebalance.Left Left.NextLeast)) = inl tt
is_walking _ = inr (λ x. x)

-- elsewhere it knows nothing of it
elsewhere : (v : Words) (g : Ledger) (a : Activity) (l : Local) → (IsWalkingBefore a → ⊥) → WalksBefore v g a l
elsewhere v g a l n = record { late = λ p x. absurd (n x); late_next = λ x. absurd (n (reached_walks a x)); ends = λ p x. absurd (n (reached_walks a x)); other = λ x. absurd (n (reached_walks a x)) }

-- The steps of the walk.

-- how a seat comes to a row of its walk, or goes on there: at the first row, at one that it
-- guessed, and along links
data StepsBefore (v : Words) (l : Local) : Activity → Local → Type 0 where
  from_first : (a : Activity) → StepsBefore v l a (record (at_before (Some (row_or_first (row_linked (link_of (v name.Head))))) 0 l) { activity = Activity.Rebalance (Rebalance.Replace Replace.Next) })
  from_guess : (q : ℕ) → state_of (v (name.State q)) ≡ Some Normal → StepsBefore v l (Activity.Rebalance (Rebalance.Replace Replace.Start)) (record l { rebalance = record l.rebalance { before = Some q }; activity = Activity.Rebalance (Rebalance.Replace Replace.GuessedLeast) })
  serves : StepsBefore v l (Activity.Rebalance (Rebalance.Replace Replace.GuessedLeast)) (record l { rebalance = record l.rebalance { least = least_in v (row_or_first l.rebalance.before) }; activity = Activity.Rebalance (Rebalance.Replace Replace.Next) })
  reaches : (q : ℕ) → next_in v (row_or_first l.rebalance.before) ≡ Some q → q ≢ l.row → StepsBefore v l (Activity.Rebalance (Rebalance.Replace Replace.Next)) (record l { candidate = q; activity = Activity.Rebalance (Rebalance.Replace Replace.NextLeast) })
  moves : StepsBefore v l (Activity.Rebalance (Rebalance.Replace Replace.NextLeast)) (record (at_before (Some l.candidate) (least_in v l.candidate) l) { activity = Activity.Rebalance (Rebalance.Replace Replace.Next) })
  left_from_first : (q : ℕ) → row_or_first (row_linked (link_of (v name.Head))) ≡ q → StepsBefore v l (Activity.Rebalance (Rebalance.Left Left.Start)) (record (at_before (Some q) 0 l) { activity = Activity.Rebalance (Rebalance.Left Left.Next) })
  left_reaches : (q : ℕ) → next_in v (row_or_first l.rebalance.before) ≡ Some q → q ≢ l.row → StepsBefore v l (Activity.Rebalance (Rebalance.Left Left.Next)) (record l { candidate = q; activity = Activity.Rebalance (Rebalance.Left Left.NextLeast) })
  left_moves : StepsBefore v l (Activity.Rebalance (Rebalance.Left Left.NextLeast)) (record (at_before (Some l.candidate) (least_in v l.candidate) l) { activity = Activity.Rebalance (Rebalance.Left Left.Next) })

-- its full row stays the same
row_same : (v : Words) (l : Local) (a : Activity) (k : Local) → StepsBefore v l a k → k.row ≡ l.row
row_same v l a k (from_first b) = refl
row_same v l a k (from_guess q e) = refl
row_same v l a k serves = refl
row_same v l a k (reaches q e d) = refl
row_same v l a k moves = refl
row_same v l a k (left_from_first q e) = refl
row_same v l a k (left_reaches q e d) = refl
row_same v l a k left_moves = refl

-- no other part of a rebalance leads there

given_off : (c : Afterwards) (k next : Local) → GivenBack k c next → IsWalkingBefore next.activity → ⊥
given_off c k next (tries_again nd) x = x
given_off c k next (was_done dn) x = x
given_off c k next (is_refused_rows nd) x = x
given_off c k next (was_served dn) x = x
given_off c k next moves_left x = x

back_off : (c : Afterwards) (k next : Local) → NextBack c k next → IsWalkingBefore next.activity → ⊥
back_off c k next (gives_back o) x = x
back_off c k next (has_none m o y) x = given_off c k next y x

seek_off : (rows : ℕ) (k next : Local) → NextSeek rows k next → IsWalkingBefore next.activity → ⊥
seek_off rows k next (asks o) x = x
seek_off rows k next (has_asked m o y) x = back_off Refuse k next y x

pass_off : (z : Sizes) (i : ℕ) (k next : Local) → NextPass z i k next → IsWalkingBefore next.activity → ⊥
pass_off z i k next (looks_on o) x = x
pass_off z i k next (has_looked o) x = x

taken_off : (rows : ℕ) (k next : Local) → NextTaken rows k next → IsWalkingBefore next.activity → ⊥
taken_off rows k next (wants_more m o y) x = seek_off rows k next y x
taken_off rows k next (has_enough o) x = x

row_off : (k next : Local) → NextNewRow k next → IsWalkingBefore next.activity → ⊥
row_off k next (writes_row o) x = x
row_off k next (has_written o) x = x

cell_off : (z : Sizes) (j : ℕ) (k next : Local) → NextNewCell z j k next → IsWalkingBefore next.activity → ⊥
cell_off z j k next (fills o p) x = x
cell_off z j k next (empties o p) x = x
cell_off z j k next (has_cells m o y) x = row_off k next y x

entry_off : (z : Sizes) (i : ℕ) (k next : Local) → NextNewEntry z i k next → IsWalkingBefore next.activity → ⊥
entry_off z i k next (writes_idle o) x = x
entry_off z i k next (has_entries m o y) x = cell_off z 0 k next y x

-- at the first row the walk begins, unless that is the full one
first_step : (v : Words) (l : Local) (a : Activity) (next : Local) → NextBefore (row_or_first (row_linked (link_of (v name.Head)))) l next → IsWalkingBefore next.activity → StepsBefore v l a next
first_step v l a next (is_first e) x = absurd x
first_step v l a next (is_behind d) x = from_first a

-- so an event that leaves a seat on its walk is one of these steps
steps_by : (z : Sizes) (v : Words) (choice : Choice) (l : Local) (a : Activity) (k : Local) → Building z v choice l a k → IsWalkingBefore k.activity → StepsBefore v l a k
steps_by z v choice l a k (first_is_taken q rows next f n y) x = absurd (seek_off rows _ next y x)
steps_by z v choice l a k (sought_is_taken rows next n y) x = absurd (seek_off rows _ next y x)
steps_by z v choice l a k (pass_is_old j epoch rows next f o y) x = absurd (seek_off rows _ next y x)
steps_by z v choice l a k (pass_is_young j next o y) x = absurd (pass_off z _ l next y x)
steps_by z v choice l a k (takes_row rows next f y) x = absurd (taken_off rows _ next y x)
steps_by z v choice l a k (loses_row rows next d y) x = absurd (seek_off rows _ next y x)
steps_by z v choice l a k (gives_last_back next o y) x = absurd (given_off l.rebalance.afterwards l next y x)
steps_by z v choice l a k (writes_first next y) x = absurd (entry_off z 0 l next y x)
steps_by z v choice l a k (writes_entry j next y) x = absurd (entry_off z _ l next y x)
steps_by z v choice l a k (writes_no_cell j next o y) x = absurd (cell_off z _ l next y x)
steps_by z v choice l a k (writes_after j next y) x = absurd (cell_off z _ l next y x)
steps_by z v choice l a k (begins_before next y) x = first_step v l a next y x
steps_by z v choice l a k (guesses_before q f e) x = from_guess q e
steps_by z v choice l a k (before_serves o) x = serves
steps_by z v choice l a k (takes_head_before next y) x = first_step v l a next y x
steps_by z v choice l a k (leads_on_marked next e y) x = absurd (back_off MoveLeft l next y x)
steps_by z v choice l a k (leads_to_other q e d) x = reaches q e d
steps_by z v choice l a k (leads_nowhere next e y) x = absurd (back_off TryAgain l next y x)
steps_by z v choice l a k (walks_before o) x = moves
steps_by z v choice l a k (walks_past next o y) x = absurd (back_off TryAgain l next y x)
steps_by z v choice l a k (is_marked_before next e y) x = absurd (back_off MoveLeft l next y x)
steps_by z v choice l a k (is_replaced next d y) x = absurd (back_off TryAgain l next y x)
steps_by z v choice l a k _ x = absurd x

-- and so on the way left
left_steps : (v : Words) (l : Local) (a : Activity) (k : Local) → LeftBy v l a k → IsWalkingBefore k.activity → StepsBefore v l a k
left_steps v l a k (knows_leader leader e) x = absurd x
left_steps v l a k (is_at_first q e d) x = left_from_first q e
left_steps v l a k (saw_next q e d) x = left_reaches q e d
left_steps v l a k (goes_by o) x = left_moves

-- on that way it rebalances a row
left_balancing : (v : Words) (l : Local) (a : Activity) (k : Local) → LeftBy v l a k → IsBalancing a
left_balancing v l a k (knows_leader leader e) = tt
left_balancing v l a k (is_at_first q e d) = tt
left_balancing v l a k (saw_next q e d) = tt
left_balancing v l a k (goes_by o) = tt

-- What it knows by the step that it takes, in the words and the ledger before.

-- no row is in the list and dead
dead_live : {A : Type 0} (g : Ledger) (q : ℕ) → IsLive g q → IsDead g q → A
dead_live g q a d = let x : Live ≡ Dead = sym a ∙ d in absurd (cc)

module _ (v : Words) (g : Ledger) (t now : ℕ) (i : Structure (rows_in v) g now) (l : Local) where
  -- a row of the list is such a one
  live_late : (x : ℕ) → IsLive g x → IsLate g l.row x
  live_late x a = λ c d. dead_live g x a d

  -- so is the row behind such a one
  next_late : (p q : ℕ) → IsFresh g t p → next_in v p ≡ Some q → IsLate g l.row p → IsLate g l.row q
  next_late p q f e late = λ c d. let k = i.closed.later p q (held_by g t p f) e d in let o = late c k.0 in omega (arith, o, k.1)

  -- it is at a row that went late, if it went, and has reached none behind that
  is_at : (a : Activity) (k : Local) (q : ℕ) → (HasReachedNext a → ⊥) → k.row ≡ l.row → k.rebalance.before ≡ Some q → IsLate g l.row q → WalksBefore v g a k
  is_at a k q n same b late = record {
    late = λ p x e. subst (λ y. IsLate g y p) (sym same) (subst (λ y. IsLate g l.row y) (same_Some q p (sym b ∙ e)) late);
    late_next = λ x. absurd (n x);
    ends = λ p x. absurd (n x);
    other = λ x. absurd (n x);
  }

  -- it has reached one behind that
  reached : (a : Activity) (k : Local) (q : ℕ) → k.row ≡ l.row → k.candidate ≡ q → k.rebalance.before ≡ l.rebalance.before → (p : ℕ) × (l.rebalance.before ≡ Some p) × IsFresh g t p × IsLate g l.row p → next_in v (row_or_first l.rebalance.before) ≡ Some q → q ≢ l.row → WalksBefore v g a k
  reached a k q same c b p e d = record {
    late = λ o x f. subst (λ y. IsLate g y o) (sym same) (subst (λ y. IsLate g l.row y) (same_Some p.0 o (sym p.1 ∙ sym b ∙ f)) p.3);
    late_next = λ x. subst (λ y. IsLate g y k.candidate) (sym same) (subst (λ y. IsLate g l.row y) (sym c) (next_late p.0 q p.2 next p.3));
    ends = λ o x f. subst (λ y. (g.fates y).upper ≡ Some (least_in v k.candidate)) (same_Some p.0 o (sym p.1 ∙ sym b ∙ f)) (ends_at (rows_in v) g i.closed p.0 q (held_by g t p.0 p.2) next ∙ ap (λ y. Some (least_in v y)) (sym c));
    other = λ x f. d (sym c ∙ f ∙ same);
  }
    where
      next : next_in v p.0 ≡ Some q
      next = subst (λ o. next_in v (row_or_first o) ≡ Some q) p.1 e

  -- the first row is such a one
  first_late : (q : ℕ) → row_or_first (row_linked (link_of (v name.Head))) ≡ q → IsLate g l.row q
  first_late q e = subst (λ x. IsLate g l.row x) (sym (ap row_or_first i.chain.leads) ∙ e) (live_late i.chain.first i.chain.first_live)

  knows : (a : Activity) (k : Local) → StepsBefore v l a k → Search v g t a l → WalksBefore v g a l → WalksBefore v g k.activity k
  knows a k (from_first b) s w = is_at k.activity k _ (λ x. x) refl refl (first_late _ refl)
  knows a k (from_guess q e) s w = is_at k.activity k q (λ x. x) refl refl (live_late q (normal_live (rows_in v) g q i.states (ap state_seen e)))
  knows a k serves s w = let p = s.some tt in is_at k.activity k p.0 (λ x. x) refl p.1 (w.late p.0 tt p.1)
  knows a k (reaches q e d) s w = let p = s.some tt in reached k.activity k q refl refl refl (p.0, p.1, s.fresh p.0 tt p.1, w.late p.0 tt p.1) e d
  knows a k moves s w = is_at k.activity k l.candidate (λ x. x) refl refl (w.late_next tt)
  knows a k (left_from_first q e) s w = is_at k.activity k q (λ x. x) refl refl (first_late q e)
  knows a k (left_reaches q e d) s w = let p = s.some tt in reached k.activity k q refl refl refl (p.0, p.1, s.fresh p.0 tt p.1, w.late p.0 tt p.1) e d
  knows a k left_moves s w = is_at k.activity k l.candidate (λ x. x) refl refl (w.late_next tt)

-- It stays so over an event.

module _ {z : Sizes} {r r' : Run} {s : ℕ} {choice : Choice} {l l' : Local} (a : Activity) (h : Happens z r r' s choice l l' a) (i : Inv z r) where
  -- a row that goes now goes after the full one came
  late_stays : (q x : ℕ) → WasLinked r.ledger.rows q → IsLate r.ledger.rows q x → IsLate r'.ledger.rows q x
  late_stays q x k late = λ c d. which c (dead_before a h i.shape x d)
    where
      which : IsLive r'.ledger.rows q → IsDead r.ledger.rows x × (r'.ledger.rows.fates x ≡ r.ledger.rows.fates x) ⊎ GoesNow r.ledger.rows r'.ledger.rows s (length r.history.log) x → (r'.ledger.rows.fates q).born ≤ (r'.ledger.rows.fates x).gone
      which c (inl y) = let o = late (live_was a h (lower i) q k c) y.0 in omega (arith, o, (linked_keeps a h i.shape q k).born, ap (λ (f : Fate). f.gone) y.1)
      which c (inr y) = omega (arith, i.puts.born q k, (linked_keeps a h i.shape q k).born, ap (λ (f : Fate). f.gone) y.fate)

  -- what a seat knows
  walk_stays : (t : ℕ) (k : Local) → Search (word z r.world) r.ledger.rows t k.activity k → (IsWalkingBefore k.activity → WasLinked r.ledger.rows k.row) → WalksBefore (word z r.world) r.ledger.rows k.activity k → WalksBefore (word z r'.world) r'.ledger.rows k.activity k
  walk_stays t k y linked w = record {
    late = λ p x e. late_stays k.row p (linked x) (w.late p x e);
    late_next = λ x. late_stays k.row k.candidate (linked (reached_walks k.activity x)) (w.late_next x);
    ends = λ p x e.
        let u = linked_keeps a h i.shape p (fresh_linked r.ledger.rows t p (y.fresh p (reached_searches k.activity k x) e)) in
        let n = linked_keeps a h i.shape k.candidate (fresh_linked r.ledger.rows t k.candidate (y.saw x)) in
        u.upper ∙ w.ends p x e ∙ ap Some (sym n.least);
    other = w.other;
  }

  -- the acting seat
  walk_own : WalksBefore (word z r.world) r.ledger.rows a l → WalksBefore (word z r'.world) r'.ledger.rows l'.activity l'
  walk_own w = which (is_walking l'.activity) (left_by z (word z r.world) s choice l a l' h.arrow) (comes z (word z r.world) s choice l a l' h.arrow)
    where
      -- by a step of the walk, in the rebalance of the full row
      stays : StepsBefore (word z r.world) l a l' → IsFresh r.ledger.rows s l.row → Search (word z r.world) r.ledger.rows s l'.activity l' → WalksBefore (word z r'.world) r'.ledger.rows l'.activity l'
      stays step fresh search = walk_stays s l' search (λ u. subst (WasLinked r.ledger.rows) (sym (row_same (word z r.world) l a l' step)) (fresh_linked r.ledger.rows s l.row fresh)) (knows (word z r.world) r.ledger.rows s _ i.shape.rows l a l' step (search_at a h i.shape) w)

      which : IsWalkingBefore l'.activity ⊎ (IsWalkingBefore l'.activity → ⊥) → LeftBy (word z r.world) l a l' ⊎ (IsGoingLeft l'.activity → ⊥) → Comes z (word z r.world) choice l a l' → WalksBefore (word z r'.world) r'.ledger.rows l'.activity l'
      which (inr n) y t = elsewhere _ _ l'.activity l' n
      which (inl x) (inl y) t =
          let b = balance_at a h i.shape in
          let fresh = b.fresh (left_balancing (word z r.world) l a l' y) in
          stays (left_steps (word z r.world) l a l' y x) fresh (left_search (word z r.world) r.ledger.rows s _ i.shape.rows l fresh (b.lower (left_balancing (word z r.world) l a l' y)) a l' y (search_at a h i.shape))
      which (inl x) (inr y) (stays_out n) = absurd (y (walking_builds l'.activity x n))
      which (inl x) (inr y) (seeks e t) = absurd (subst IsWalkingBefore e x)
      which (inl x) (inr y) (builds_on o t) =
          let b = balance_at a h i.shape in
          let fresh = b.fresh (built_balancing a o) in
          stays (steps_by z (word z r.world) choice l a l' t x) fresh (search_by (word z r.world) r.ledger.rows s _ i.shape.rows l fresh (b.lower (built_balancing a o)) z choice a l' t (head_open z r i.shape l.row) (search_at a h i.shape))

  -- any other seat
  walk_other : (t : ℕ) (k : Local) → slice_get r.world.locals t ≡ Some k → WalksBefore (word z r.world) r.ledger.rows k.activity k → WalksBefore (word z r'.world) r'.ledger.rows k.activity k
  walk_other t k g w = walk_stays t k (i.shape.search t k g) (λ x. fresh_linked r.ledger.rows t k.row ((i.shape.balances t k g).fresh (walking_balances k.activity x))) w

-- Where the walk ends.

-- a row of the list is live
reached_live : (v : Words) (g : Ledger) → Chain (rows_in v) g → (q : ℕ) → IsReached v q → IsLive g q
reached_live v g c x (reached_first q e) = subst (IsLive g) (same_Some c.first q (sym c.leads ∙ e)) c.first_live
reached_live v g c x (reached_next p q m e) = c.linked p q (reached_live v g c p m) e

module _ (v : Words) (g : Ledger) (t now : ℕ) (i : Structure (rows_in v) g now) (l : Local) (lower : l.lower ≡ least_in v l.row) (live : IsLive g l.row) where
  -- the full row holds its least key
  full_holds : HoldsKey (rows_in v) g l.row l.lower
  full_holds = record { from = omega (arith, lower); below = λ u e. omega (arith, lower, above_least (rows_in v) g i.closed l.row u (inl live) e) }

  -- no row of the walk that went holds that key
  none_holds : {A : Type 0} (x : ℕ) → IsDead g x → IsLate g l.row x → HoldsKey (rows_in v) g x l.lower → A
  none_holds {A = A} x d late y = which (i.follows x l.row l.lower d (inl live) y full_holds (λ e. dead_live g x (subst (IsLive g) (sym e) live) d))
    where
      which : ((g.fates x).gone < (g.fates l.row).born) ⊎ IsDead g l.row × ((g.fates l.row).gone < (g.fates x).born) → A
      which (inl o) = let k = late live d in absurd (omega (arith, o, k))
      which (inr o) = dead_live g l.row live o.0

  -- a row of the list with a lower least key has a next one, which begins at the full row or before
  -- it
  goes_before : (p : ℕ) → IsLive g p → least_in v p < l.lower → IsBefore (rows_in v) p l.row
  goes_before p a o = which (i.chain.apart p l.row a live)
    where
      which : (p ≡ l.row) ⊎ IsBefore (rows_in v) p l.row ⊎ IsBefore (rows_in v) l.row p → IsBefore (rows_in v) p l.row
      which (inl e) = absurd (omega (arith, o, lower, ap (least_in v) e))
      which (inr (inl b)) = b
      which (inr (inr b)) = absurd (omega (arith, o, lower, i.chain.rises l.row b.next live b.follows, b.above))

  -- the row of the walk begins below the full one
  left_of : (p : ℕ) → IsLeft v g l p → least_in v p < l.lower
  left_of p (inl o) = o
  left_of p (inr o) = dead_live g l.row live o.0

  -- so its link leads to some row
  none_ends : (p : ℕ) → IsFresh g t p → least_in v p < l.lower → IsLate g l.row p → next_in v p ≡ None → ⊥
  none_ends p (inl a) o late e = let b = goes_before p a o in let x : None ≡ Some b.next = sym e ∙ b.follows in cc
  none_ends p (inr a) o late e = none_holds p a.dead late (record {
    from = omega (arith, o);
    below = λ u f. let x : None ≡ Some u = sym (i.closed.upper p (inr (t, a)) ∙ ap (λ n. rows.bound (rows_in v) n) e) ∙ f in absurd (cc);
  })

  -- and its range does not end behind the full row's least key
  none_spans : (p u : ℕ) → IsFresh g t p → least_in v p < l.lower → IsLate g l.row p → (g.fates p).upper ≡ Some u → l.lower < u → ⊥
  none_spans p u (inl a) o late e w =
      let b = goes_before p a o in
      let same : least_in v b.next ≡ u = same_Some _ u (sym (ends_at (rows_in v) g i.closed p b.next (inl a) b.follows) ∙ e) in
      omega (arith, same, b.above, lower, w)
  none_spans p u (inr a) o late e w = none_holds p a.dead late (record { from = omega (arith, o); below = λ n f. let same : u ≡ n = same_Some u n (sym e ∙ f) in omega (arith, same, w) })

  -- nor is there another row that begins with the full one
  none_shares : (q : ℕ) → IsFresh g t q → IsLate g l.row q → q ≢ l.row → least_in v q ≡ l.lower → ⊥
  none_shares q (inl a) late d e = d (one_beginning (rows_in v) g q l.row i.chain a live (e ∙ lower))
  none_shares q (inr a) late d e = none_holds q a.dead late (record { from = omega (arith, e); below = λ u f. omega (arith, e, above_least (rows_in v) g i.closed q u (inr (t, a)) f) })

-- where the seat is on the walk, and has the least key of its row
record Measures (a : Activity) (l : Local) : Type 0 where
  some : HasBefore a l
  searches : IsSearching a l
  measured : IsMeasured a l
  walks : IsWalkingBefore a

-- so it is where it loads the link of its row
leaving_measures : (a : Activity) (l : Local) → IsLeavingBefore a → Measures a l
leaving_measures (Activity.Rebalance (Rebalance.Replace Replace.Next)) l x = record { some = tt; searches = tt; measured = tt; walks = tt }
leaving_measures (Activity.Rebalance (Rebalance.Left Left.Next)) l x = record { some = tt; searches = tt; measured = tt; walks = tt }
leaving_measures _ l x = absurd x

-- and where it has reached the row behind that
reaching_measures : (a : Activity) (l : Local) → IsReachingNext a → Measures a l
reaching_measures (Activity.Rebalance (Rebalance.Replace Replace.NextLeast)) l x = record { some = tt; searches = tt; measured = tt; walks = tt }
reaching_measures (Activity.Rebalance (Rebalance.Left Left.NextLeast)) l x = record { some = tt; searches = tt; measured = tt; walks = tt }
reaching_measures _ l x = absurd x

reaching_reached : (a : Activity) → IsReachingNext a → HasReachedNext a
reaching_reached (Activity.Rebalance (Rebalance.Replace Replace.NextLeast)) x = tt
reaching_reached (Activity.Rebalance (Rebalance.Left Left.NextLeast)) x = tt
reaching_reached _ x = absurd x

-- at the end of the list that the walk reaches the full row is reached no more
abbrev pub EndsBefore : Sizes → Run → Type 0
EndsBefore z r = (t : ℕ) (l : Local) → slice_get r.world.locals t ≡ Some l → IsLeavingBefore l.activity → next_in (word z r.world) (row_or_first l.rebalance.before) ≡ None → IsReached (word z r.world) l.row → ⊥

-- nor is it where the walk reaches a row whose least key is not below that of the full one
abbrev pub GoesByFull : Sizes → Run → Type 0
GoesByFull z r = (t : ℕ) (l : Local) → slice_get r.world.locals t ≡ Some l → IsReachingNext l.activity → l.lower ≤ least_in (word z r.world) l.candidate → IsReached (word z r.world) l.row → ⊥

-- the invariant, and what each seat knows of the rows of its walk
record Walking (z : Sizes) (r : Run) : Type 0 where
  inv : Inv z r
  walks : (t : ℕ) (l : Local) → slice_get r.world.locals t ≡ Some l → WalksBefore (word z r.world) r.ledger.rows l.activity l

-- what the seat knows of the row of its walk
record AtRow (z : Sizes) (r : Run) (t : ℕ) (l : Local) : Type 0 where
  row : ℕ
  is : l.rebalance.before ≡ Some row
  fresh : IsFresh r.ledger.rows t row
  left : IsLeft (word z r.world) r.ledger.rows l row
  late : IsLate r.ledger.rows l.row row
  lower : l.lower ≡ least_in (word z r.world) l.row

row_known : (z : Sizes) (r : Run) → Walking z r → (t : ℕ) (l : Local) → slice_get r.world.locals t ≡ Some l → Measures l.activity l → AtRow z r t l
row_known z r k t l g x =
    let s = k.inv.shape.search t l g in
    let p = s.some x.some in
    record {
      row = p.0;
      is = p.1;
      fresh = s.fresh p.0 x.searches p.1;
      left = s.left p.0 x.measured p.1;
      late = (k.walks t l g).late p.0 x.walks p.1;
      lower = (k.inv.shape.balances t l g).lower (walking_balances l.activity x.walks);
    }

ends_by : (z : Sizes) (r : Run) → Walking z r → EndsBefore z r
ends_by z r k t l g a e m =
    let i = k.inv.shape in
    let p = row_known z r k t l g (leaving_measures l.activity l a) in
    let live = reached_live (word z r.world) r.ledger.rows i.rows.chain l.row m in
    let o = left_of (word z r.world) r.ledger.rows t _ i.rows l p.lower live p.row p.left in
    none_ends (word z r.world) r.ledger.rows t _ i.rows l p.lower live p.row p.fresh o p.late (subst (λ c. next_in (word z r.world) (row_or_first c) ≡ None) p.is e)

full_goes_by : (z : Sizes) (r : Run) → Walking z r → GoesByFull z r
full_goes_by z r k t l g a o m = which (cases_lt l.lower (least_in (word z r.world) l.candidate))
  where
    i : Shape z r
    i = k.inv.shape

    p : AtRow z r t l
    p = row_known z r k t l g (reaching_measures l.activity l a)

    w : WalksBefore (word z r.world) r.ledger.rows l.activity l
    w = k.walks t l g

    live : IsLive r.ledger.rows l.row
    live = reached_live (word z r.world) r.ledger.rows i.rows.chain l.row m

    saw : HasReachedNext l.activity
    saw = reaching_reached l.activity a

    which : (l.lower < least_in (word z r.world) l.candidate) ⊎ (least_in (word z r.world) l.candidate ≤ l.lower) → ⊥
    which (inl y) =
        let u = left_of (word z r.world) r.ledger.rows t _ i.rows l p.lower live p.row p.left in
        none_spans (word z r.world) r.ledger.rows t _ i.rows l p.lower live p.row _ p.fresh u p.late (w.ends p.row saw p.is) y
    which (inr y) =
        let same : least_in (word z r.world) l.candidate ≡ l.lower = omega (arith, o, y) in
        none_shares (word z r.world) r.ledger.rows t _ i.rows l p.lower live l.candidate ((i.search t l g).saw saw) (w.late_next saw) (w.other saw) same

-- All of it holds of every list.

walking_on : (z : Sizes) (o : Opening) (r : Run) (e : Event) → may_step o r.world e ≡ true → Walking z r → Walking z (goes_on z r e)
walking_on z o r e may k =
    let c = may_come o r.world e may in
    let h = happens z r e c.local k.inv.shape.sane c.begins c.knows c.moves in
    record {
      inv = inv_goes_on z o r e may k.inv;
      walks = subst (λ (x : Run). (t : ℕ) (l : Local) → slice_get x.world.locals t ≡ Some l → WalksBefore (word z x.world) x.ledger.rows l.activity l) (sym (goes_on-moved z r e c.local c.knows c.moves))
          (each_seat h (λ t l. WalksBefore _ _ l.activity l) (walk_own _ h k.inv (k.walks e.seat c.local c.knows)) (λ t l d g. walk_other _ h k.inv t l g (k.walks t l g)));
    }

walking_holds : (z : Sizes) (o : Opening) → IsOpening z o → (es : List Event) → is_valid z o es ≡ true → Walking z (history z o es)
walking_holds z o i es v = holds_of_history z o (Walking z) (walking_on z o) starts es v
  where
    starts : Walking z (start z o)
    starts = record { inv = inv_start z o i; walks = each_rests z o (λ t l. WalksBefore (word z (opened z o)) (ledger_at_first o).rows l.activity l) (λ t. elsewhere _ _ _ _ (λ x. x)) }

pub ends_before_holds : (z : Sizes) (o : Opening) → IsOpening z o → (es : List Event) → is_valid z o es ≡ true → EndsBefore z (history z o es)
ends_before_holds z o i es v = ends_by z (history z o es) (walking_holds z o i es v)

pub goes_by_full_holds : (z : Sizes) (o : Opening) → IsOpening z o → (es : List Event) → is_valid z o es ≡ true → GoesByFull z (history z o es)
goes_by_full_holds z o i es v = full_goes_by z (history z o es) (walking_holds z o i es v)
