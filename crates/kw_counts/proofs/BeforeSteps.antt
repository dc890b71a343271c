-- How a seat comes to a row of its walk to the row before its full one, or to the leader of that:
-- at the first row, at one that it guessed, and along links.
use Rattle.std.proofs.Common.{ℕ, ◌≡◌, ◌⊎◌, inl, inr, None, Some, refl}
use Rattle.kw_words.specs.declared.layout.Name.TheVariants as name
use Rattle.kw_words.specs.declared.state.State.TheVariants.{Normal}
use Rattle.kw_words.specs.Link.{link_of}
use Rattle.kw_words.specs.State.{state_of}
use Rattle.kw_world.specs.declared.activity.Activity.{Activity}
use Rattle.kw_world.specs.declared.activity.walk.Walk.TheVariants as Walk
use Rattle.kw_world.specs.declared.activity.rebalance.Rebalance.TheVariants as Rebalance
use Rattle.kw_world.specs.declared.activity.rebalance.left.Left.TheVariants as Left
use Rattle.kw_world.specs.declared.activity.rebalance.replace.Replace.TheVariants as Replace
use Rattle.kw_world.specs.declared.activity.rebalance.seek.Seek.TheVariants as Seek
use Rattle.kw_world.specs.declared.event.Choice.{Choice}
use Rattle.kw_world.specs.declared.local.Local.{Local}
use Rattle.kw_world.specs.declared.rebalance.Afterwards.{Afterwards}
use Rattle.kw_world.specs.declared.rebalance.Afterwards.TheVariants.{MoveLeft, Refuse, TryAgain}
use Rattle.kw_world.specs.Sizes.{Sizes}
use Rattle.kw_world.specs.Transition.{row_linked, row_or_first}
use Rattle.kw_core.specs.Words.{Words, next_in}
use Rattle.kw_core.proofs.Building.{Building, IsBuilding, first_is_taken, sought_is_taken, pass_is_old, pass_is_young, takes_row, loses_row, gives_one_back, gives_last_back, writes_first, writes_entry, writes_no_cell, writes_after, begins_before, guesses_before, guess_before_fails, before_serves, before_is_above, takes_head_before, leads_to_full, leads_on_marked, leads_to_other, leads_nowhere, walks_before, walks_past, is_marked_before, is_replaced}
use Rattle.kw_core.proofs.NextBuilt.{GivenBack, is_refused_rows, moves_left, tries_again, was_done, was_served, NextBack, gives_back, has_none, NextPass, has_looked, looks_on, NextSeek, asks, has_asked, NextTaken, has_enough, wants_more, NextNewCell, empties, fills, has_cells, NextNewEntry, has_entries, writes_idle, NextNewRow, has_written, writes_row, NextBefore, is_behind, is_first}
use Rattle.kw_shape.proofs.Comings.{IsGoingLeft, LeftBy, goes_by, is_at_first, knows_leader, saw_next}
use Rattle.kw_shape.specs.Search.{HasBefore, HasReachedNext}
use Rattle.kw_counts.specs.Walks.{IsAtBefore, IsSeeking}

-- the seat begins a walk: to the row of its key, to the leader of its row, or to the row before it
abbrev pub IsBeginning : Activity → Type 0
IsBeginning (Activity.Walk Walk.Start) = Unit {0}
IsBeginning (Activity.Walk Walk.First) = Unit {0}
IsBeginning (Activity.Rebalance (Rebalance.Left Left.Start)) = Unit {0}
IsBeginning (Activity.Rebalance (Rebalance.Replace Replace.Start)) = Unit {0}
IsBeginning (Activity.Rebalance (Rebalance.Replace Replace.First)) = Unit {0}
IsBeginning _ = ⊥

-- the first row, or one that is found normal
abbrev pub IsBeginAt : Words → ℕ → Type 0
IsBeginAt v q = (row_or_first (row_linked (link_of (v name.Head))) ≡ q) ⊎ (state_of (v (name.State q)) ≡ Some Normal)

-- from an activity of a seat that knows l to one where it knows k and seeks the row before its own
pub data StepsBefore (v : Words) (l : Local) (a : Activity) (k : Local) : Type 0 where
  begins_at : (q : ℕ) → IsBeginning a → IsBeginAt v q → k.rebalance.before ≡ Some q → (HasReachedNext k.activity → ⊥) → StepsBefore v l a k
  begins_none : IsBeginning a → k.rebalance.before ≡ None → (HasReachedNext k.activity → ⊥) → StepsBefore v l a k
  begins_anew : IsSeeking a l ⊎ IsBeginning a → (IsAtBefore k.activity k → ⊥) → StepsBefore v l a k
  stays_at : IsAtBefore a l → k.rebalance.before ≡ l.rebalance.before → (HasReachedNext k.activity → ⊥) → StepsBefore v l a k
  reaches : (q : ℕ) → IsAtBefore a l → HasBefore a l → k.rebalance.before ≡ l.rebalance.before → next_in v (row_or_first l.rebalance.before) ≡ Some q → k.candidate ≡ q → StepsBefore v l a k
  goes_behind : IsAtBefore a l → HasReachedNext a → k.rebalance.before ≡ Some l.candidate → (HasReachedNext k.activity → ⊥) → StepsBefore v l a k

-- No other part of a rebalance leads there.

pub given_off : (c : Afterwards) (k next : Local) → GivenBack k c next → IsSeeking next.activity next → ⊥
given_off c k next (tries_again nd) x = x
given_off c k next (was_done dn) x = x
given_off c k next (is_refused_rows nd) x = x
given_off c k next (was_served dn) x = x
given_off c k next moves_left x = x

refused_off : (k next : Local) → NextBack Refuse k next → IsSeeking next.activity next → ⊥
refused_off k next (gives_back o) x = x
refused_off k next (has_none m o y) x = given_off Refuse k next y x

pub seek_off : (rows : ℕ) (k next : Local) → NextSeek rows k next → IsSeeking next.activity next → ⊥
seek_off rows k next (asks o) x = x
seek_off rows k next (has_asked m o y) x = refused_off k next y x

pub pass_off : (z : Sizes) (i : ℕ) (k next : Local) → NextPass z i k next → IsSeeking next.activity next → ⊥
pass_off z i k next (looks_on o) x = x
pass_off z i k next (has_looked o) x = x

pub taken_off : (rows : ℕ) (k next : Local) → NextTaken rows k next → IsSeeking next.activity next → ⊥
taken_off rows k next (wants_more m o y) x = seek_off rows k next y x
taken_off rows k next (has_enough o) x = x

row_off : (k next : Local) → NextNewRow k next → IsSeeking next.activity next → ⊥
row_off k next (writes_row o) x = x
row_off k next (has_written o) x = x

pub cell_off : (z : Sizes) (j : ℕ) (k next : Local) → NextNewCell z j k next → IsSeeking next.activity next → ⊥
cell_off z j k next (fills o p) x = x
cell_off z j k next (empties o p) x = x
cell_off z j k next (has_cells m o y) x = row_off k next y x

pub entry_off : (z : Sizes) (i : ℕ) (k next : Local) → NextNewEntry z i k next → IsSeeking next.activity next → ⊥
entry_off z i k next (writes_idle o) x = x
entry_off z i k next (has_entries m o y) x = cell_off z 0 k next y x

-- The steps.

-- at the first row, unless that is the full one
first_steps : (v : Words) (l : Local) (a : Activity) (next : Local) → IsBeginning a → NextBefore (row_or_first (row_linked (link_of (v name.Head)))) l next → StepsBefore v l a next
first_steps v l a next b (is_first e) = begins_none b refl (λ y. y)
first_steps v l a next b (is_behind d) = begins_at _ b (inl refl) refl (λ y. y)

-- where the walk ends the seat may give rows back
back_steps : (v : Words) (l : Local) (a : Activity) (c : Afterwards) (next : Local) → IsAtBefore a l → NextBack c l next → IsSeeking next.activity next → StepsBefore v l a next
back_steps v l a c next n (gives_back o) x = stays_at n refl (λ y. y)
back_steps v l a c next n (has_none m o y) x = absurd (given_off c l next y x)

pub steps_before : (z : Sizes) (v : Words) (choice : Choice) (l : Local) (a : Activity) (k : Local) → Building z v choice l a k → IsSeeking k.activity k → StepsBefore v l a k
steps_before z v choice l a k (first_is_taken q rows next f n y) x = absurd (seek_off rows _ next y x)
steps_before z v choice l a k (sought_is_taken rows next n y) x = absurd (seek_off rows _ next y x)
steps_before z v choice l a k (pass_is_old j epoch rows next f o y) x = absurd (seek_off rows _ next y x)
steps_before z v choice l a k (pass_is_young j next o y) x = absurd (pass_off z _ l next y x)
steps_before z v choice l a k (takes_row rows next f y) x = absurd (taken_off rows _ next y x)
steps_before z v choice l a k (loses_row rows next d y) x = absurd (seek_off rows _ next y x)
steps_before z v choice l a k (gives_one_back o) x = stays_at x refl (λ y. y)
steps_before z v choice l a k (gives_last_back next o y) x = absurd (given_off l.rebalance.afterwards l next y x)
steps_before z v choice l a k (writes_first next y) x = absurd (entry_off z 0 l next y x)
steps_before z v choice l a k (writes_entry j next y) x = absurd (entry_off z _ l next y x)
steps_before z v choice l a k (writes_no_cell j next o y) x = absurd (cell_off z _ l next y x)
steps_before z v choice l a k (writes_after j next y) x = absurd (cell_off z _ l next y x)
steps_before z v choice l a k (begins_before next y) x = first_steps v l a next tt y
steps_before z v choice l a k (guesses_before q f e) x = begins_at q tt (inr e) refl (λ y. y)
steps_before z v choice l a k guess_before_fails x = begins_anew (inr tt) (λ y. y)
steps_before z v choice l a k (before_serves o) x = stays_at tt refl (λ y. y)
steps_before z v choice l a k (before_is_above o) x = begins_anew (inl tt) (λ y. y)
steps_before z v choice l a k (takes_head_before next y) x = first_steps v l a next tt y
steps_before z v choice l a k (leads_to_full e) x = stays_at tt refl (λ y. y)
steps_before z v choice l a k (leads_on_marked next e y) x = back_steps v l a MoveLeft next tt y x
steps_before z v choice l a k (leads_to_other q e d) x = reaches q tt tt refl e refl
steps_before z v choice l a k (leads_nowhere next e y) x = back_steps v l a TryAgain next tt y x
steps_before z v choice l a k (walks_before o) x = goes_behind tt tt refl (λ y. y)
steps_before z v choice l a k (walks_past next o y) x = back_steps v l a TryAgain next tt y x
steps_before z v choice l a k (is_marked_before next e y) x = back_steps v l a MoveLeft next tt y x
steps_before z v choice l a k (is_replaced next d y) x = back_steps v l a TryAgain next tt y x
steps_before z v choice l a k _ x = absurd x

-- so it is on the way left
pub left_before : (v : Words) (l : Local) (a : Activity) (k : Local) → LeftBy v l a k → IsAtBefore k.activity k → StepsBefore v l a k
left_before v l a k (knows_leader leader e) x = absurd x
left_before v l a k (is_at_first q e d) x = begins_at q tt (inl e) refl (λ y. y)
left_before v l a k (saw_next q e d) x = reaches q tt tt refl e refl
left_before v l a k (goes_by o) x = goes_behind tt tt refl (λ y. y)

-- Families.

-- a seat that names a row of the walk seeks the row before its own, or goes left
pub at_seeks : (a : Activity) (l : Local) → IsAtBefore a l → IsSeeking a l ⊎ IsGoingLeft a
at_seeks (Activity.Rebalance (Rebalance.Left Left.Next)) l x = inr tt
at_seeks (Activity.Rebalance (Rebalance.Left Left.NextLeast)) l x = inr tt
at_seeks (Activity.Rebalance (Rebalance.Replace Replace.First)) l x = absurd x
at_seeks (Activity.Rebalance (Rebalance.Replace Replace.GuessedLeast)) l x = inl tt
at_seeks (Activity.Rebalance (Rebalance.Replace Replace.Next)) l x = inl tt
at_seeks (Activity.Rebalance (Rebalance.Replace Replace.NextLeast)) l x = inl tt
at_seeks (Activity.Rebalance (Rebalance.Replace Replace.Exchange)) l x = inl tt
at_seeks (Activity.Rebalance (Rebalance.Seek Seek.GiveBack)) l x = inl x
at_seeks _ l x = absurd x

-- one that does builds new rows
pub seeking_builds : (a : Activity) (l : Local) → IsSeeking a l → IsBuilding a
seeking_builds (Activity.Rebalance (Rebalance.Replace _)) l x = tt
seeking_builds (Activity.Rebalance (Rebalance.Seek _)) l x = tt
seeking_builds _ l x = absurd x

-- one that begins a walk names none of it
pub begins_not_at : (a : Activity) (l : Local) → IsAtBefore a l → IsBeginning a → ⊥
begins_not_at (Activity.Rebalance (Rebalance.Left Left.Start)) l x b = x
begins_not_at (Activity.Rebalance (Rebalance.Replace Replace.Start)) l x b = x
begins_not_at (Activity.Rebalance (Rebalance.Replace Replace.First)) l x b = x
begins_not_at (Activity.Walk Walk.Start) l x b = x
begins_not_at (Activity.Walk Walk.First) l x b = x
begins_not_at (Activity.Rebalance (Rebalance.Seek Seek.GiveBack)) l x b = b
begins_not_at _ l x b = b

-- one that has reached a row is on the walk
pub reached_at : (a : Activity) (l : Local) → HasReachedNext a → IsAtBefore a l
reached_at (Activity.Rebalance (Rebalance.Left Left.NextLeast)) l x = tt
reached_at (Activity.Rebalance (Rebalance.Replace Replace.NextLeast)) l x = tt
reached_at _ l x = absurd x

-- in a build it seeks the row before its own
at_builds : (a : Activity) (l : Local) → IsBuilding a → IsAtBefore a l → IsSeeking a l ⊎ IsBeginning a
at_builds a l o x = which a (at_seeks a l x) o
  where
    which : (b : Activity) → IsSeeking a l ⊎ IsGoingLeft b → IsBuilding b → IsSeeking a l ⊎ IsBeginning a
    which b (inl y) o = inl y
    which (Activity.Rebalance (Rebalance.Left c)) (inr y) o = absurd o
    which _ (inr y) o = absurd y

-- in a build a step on the walk comes from its beginning, or from the walk
pub step_seeks : (v : Words) (l : Local) (a : Activity) (k : Local) → IsBuilding a → StepsBefore v l a k → IsSeeking a l ⊎ IsBeginning a
step_seeks v l a k o (begins_at q b f e n) = inr b
step_seeks v l a k o (begins_none b e n) = inr b
step_seeks v l a k o (begins_anew b n) = b
step_seeks v l a k o (stays_at x e n) = at_builds a l o x
step_seeks v l a k o (reaches q x y e f g) = at_builds a l o x
step_seeks v l a k o (goes_behind x y e n) = at_builds a l o x
