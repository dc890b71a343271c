-- A row that a seat has reached on its walk to the row before its own, or left to its leader, has a
-- greater least key than the row behind which it stands.
use Rattle.std.proofs.Common.{ℕ, ◌≡◌, ◌≢◌, ◌⊎◌, inl, inr, ◌<◌, Some, arith, refl, ◌∙◌, ap, subst, slice_get}
use Rattle.kw_words.specs.declared.layout.Name.TheVariants as name
use Rattle.kw_words.specs.Plain.{key_of_word}
use Rattle.kw_rows.proofs.Named.{held_by}
use Rattle.kw_world.specs.declared.activity.Activity.{Activity}
use Rattle.kw_world.specs.declared.activity.rebalance.Rebalance.TheVariants as Rebalance
use Rattle.kw_world.specs.declared.activity.rebalance.left.Left.TheVariants as Left
use Rattle.kw_world.specs.declared.activity.rebalance.replace.Replace.TheVariants as Replace
use Rattle.kw_world.specs.declared.event.Choice.{Choice}
use Rattle.kw_world.specs.declared.local.Local.{Local}
use Rattle.kw_world.specs.declared.rebalance.Afterwards.{Afterwards}
use Rattle.kw_world.specs.Sizes.{Sizes}
use Rattle.kw_world.specs.Step.{word}
use Rattle.kw_world.specs.Transition.{row_or_first}
use Rattle.kw_core.specs.Run.{Run}
use Rattle.kw_core.specs.Stages.{IsVisiting}
use Rattle.kw_core.specs.Words.{Words, next_in, least_in}
use Rattle.kw_core.proofs.Arrows.{Arrow}
use Rattle.kw_core.proofs.Building.{Building, IsBuilding, first_is_taken, sought_is_taken, pass_is_old, pass_is_young, takes_row, loses_row, gives_last_back, writes_first, writes_entry, writes_no_cell, writes_after, begins_before, takes_head_before, leads_on_marked, leads_to_other, leads_nowhere, walks_past, is_marked_before, is_replaced}
use Rattle.kw_core.proofs.Happens.{Happens}
use Rattle.kw_core.proofs.NextBuilt.{GivenBack, tries_again, was_done, is_refused_rows, was_served, moves_left, NextBack, gives_back, has_none, NextSeek, asks, has_asked, NextPass, looks_on, has_looked, NextTaken, wants_more, has_enough, NextNewRow, writes_row, has_written, NextNewCell, fills, empties, has_cells, NextNewEntry, writes_idle, has_entries, NextBefore, is_first, is_behind}
use Rattle.kw_shape.specs.Search.{HasBefore, HasReachedNext, IsMeasured, IsSearching}
use Rattle.kw_shape.specs.Shape.{Shape}
use Rattle.kw_shape.proofs.Comings.{IsGoingLeft, Comes, stays_out, seeks, goes_on, LeftBy, saw_next, comes, left_by}
use Rattle.kw_shape.proofs.LinkedRows.{search_at}
use Rattle.kw_shape.proofs.RowsKeep.{others_kept, rely_rows}
use Rattle.kw_alone.specs.Facts.{IsBeforeNext}

-- the seat's walk comes to a row: by the link of the row before which it looked for its own
pub data NextBy (v : Words) (l : Local) : Activity → Local → Type 0 where
  on_walk : (q : ℕ) → next_in v (row_or_first l.rebalance.before) ≡ Some q → NextBy v l (Activity.Rebalance (Rebalance.Replace Replace.Next)) (record l { candidate = q; activity = Activity.Rebalance (Rebalance.Replace Replace.NextLeast) })
  on_way_left : (q : ℕ) → next_in v (row_or_first l.rebalance.before) ≡ Some q → NextBy v l (Activity.Rebalance (Rebalance.Left Left.Next)) (record l { candidate = q; activity = Activity.Rebalance (Rebalance.Left Left.NextLeast) })

-- Where a part of what follows has no event of its own, it does not.

given_out : (b : Afterwards) (m k : Local) → GivenBack m b k → IsBeforeNext k.activity → ⊥
given_out b m k (tries_again t) x = x
given_out b m k (was_done t) x = x
given_out b m k (is_refused_rows t) x = x
given_out b m k (was_served t) x = x
given_out b m k moves_left x = x

back_out : (b : Afterwards) (m k : Local) → NextBack b m k → IsBeforeNext k.activity → ⊥
back_out b m k (gives_back h) x = x
back_out b m k (has_none n h g) x = given_out b m k g x

seek_out : (r : ℕ) (m k : Local) → NextSeek r m k → IsBeforeNext k.activity → ⊥
seek_out r m k (asks h) x = x
seek_out r m k (has_asked n h b) x = back_out _ m k b x

pass_out : (z : Sizes) (i : ℕ) (m k : Local) → NextPass z i m k → IsBeforeNext k.activity → ⊥
pass_out z i m k (looks_on h) x = x
pass_out z i m k (has_looked h) x = x

taken_out : (r : ℕ) (m k : Local) → NextTaken r m k → IsBeforeNext k.activity → ⊥
taken_out r m k (wants_more n h s) x = seek_out r m k s x
taken_out r m k (has_enough h) x = x

row_out : (m k : Local) → NextNewRow m k → IsBeforeNext k.activity → ⊥
row_out m k (writes_row h) x = x
row_out m k (has_written h) x = x

cell_out : (z : Sizes) (j : ℕ) (m k : Local) → NextNewCell z j m k → IsBeforeNext k.activity → ⊥
cell_out z j m k (fills h i) x = x
cell_out z j m k (empties h i) x = x
cell_out z j m k (has_cells n h r) x = row_out m k r x

entry_out : (z : Sizes) (i : ℕ) (m k : Local) → NextNewEntry z i m k → IsBeforeNext k.activity → ⊥
entry_out z i m k (writes_idle h) x = x
entry_out z i m k (has_entries n h c) x = cell_out z 0 m k c x

before_out : (r : ℕ) (m k : Local) → NextBefore r m k → IsBeforeNext k.activity → ⊥
before_out r m k (is_first h) x = x
before_out r m k (is_behind h) x = x

-- Each way.

built_by : (z : Sizes) (v : Words) (choice : Choice) (l : Local) (a : Activity) (k : Local) → Building z v choice l a k → IsBeforeNext k.activity → NextBy v l a k
built_by z v choice l a k (leads_to_other q e d) x = on_walk q e
built_by z v choice l a k (first_is_taken q r n o e s) x = absurd (seek_out r _ n s x)
built_by z v choice l a k (sought_is_taken r n e s) x = absurd (seek_out r _ n s x)
built_by z v choice l a k (pass_is_old i epoch r n e o s) x = absurd (seek_out r _ n s x)
built_by z v choice l a k (pass_is_young i n y s) x = absurd (pass_out z _ _ n s x)
built_by z v choice l a k (takes_row r n e s) x = absurd (taken_out r _ n s x)
built_by z v choice l a k (loses_row r n e s) x = absurd (seek_out r _ n s x)
built_by z v choice l a k (gives_last_back n o g) x = absurd (given_out _ _ n g x)
built_by z v choice l a k (writes_first n s) x = absurd (entry_out z _ _ n s x)
built_by z v choice l a k (writes_entry i n s) x = absurd (entry_out z _ _ n s x)
built_by z v choice l a k (writes_no_cell j n o s) x = absurd (cell_out z _ _ n s x)
built_by z v choice l a k (writes_after j n s) x = absurd (cell_out z _ _ n s x)
built_by z v choice l a k (begins_before n s) x = absurd (before_out _ _ n s x)
built_by z v choice l a k (takes_head_before n s) x = absurd (before_out _ _ n s x)
built_by z v choice l a k (leads_on_marked n e s) x = absurd (back_out _ _ n s x)
built_by z v choice l a k (leads_nowhere n e s) x = absurd (back_out _ _ n s x)
built_by z v choice l a k (walks_past n o s) x = absurd (back_out _ _ n s x)
built_by z v choice l a k (is_marked_before n e s) x = absurd (back_out _ _ n s x)
built_by z v choice l a k (is_replaced n e s) x = absurd (back_out _ _ n s x)
built_by z v choice l a k _ x = absurd x

by_left : (v : Words) (l : Local) (a : Activity) (k : Local) → LeftBy v l a k → IsBeforeNext k.activity → NextBy v l a k
by_left v l a k (saw_next q e d) x = on_way_left q e
by_left v l a k _ x = absurd x

not_there : (a : Activity) → IsBeforeNext a → (IsBuilding a → ⊥) → (IsGoingLeft a → ⊥) → ⊥
not_there (Activity.Rebalance (Rebalance.Replace _)) x n m = n tt
not_there (Activity.Rebalance (Rebalance.Left _)) x n m = m tt
not_there _ x n m = x

next_by : (z : Sizes) (v : Words) (s : ℕ) (choice : Choice) (l : Local) (a : Activity) (k : Local) → Arrow z v s choice l a k → IsBeforeNext k.activity → NextBy v l a k
next_by z v s choice l a k y x = which (comes z v s choice l a k y) (left_by z v s choice l a k y)
  where
    which : Comes z v choice l a k → LeftBy v l a k ⊎ (IsGoingLeft k.activity → ⊥) → NextBy v l a k
    which c (inl t) = by_left v l a k t x
    which (stays_out n) (inr m) = absurd (not_there k.activity x n m)
    which (seeks e t) (inr m) = absurd (subst IsBeforeNext e x)
    which (goes_on o t) (inr m) = built_by z v choice l a k t x

-- Over one event.

module _ {z : Sizes} {r r' : Run} {s : ℕ} {choice : Choice} {l l' : Local} where
  -- the row of the link stands above
  above : (a : Activity) → Happens z r r' s choice l l' a → Shape z r → HasBefore a l → IsSearching a l → IsMeasured a l → (q : ℕ) → next_in (word z r.world) (row_or_first l.rebalance.before) ≡ Some q → l.rebalance.least < least_in (word z r.world) q
  above a h i b o m q e =
      let x = search_at a h i in
      let p = x.some b in
      let led : next_in (word z r.world) p.0 ≡ Some q = subst (λ u. next_in (word z r.world) (row_or_first u) ≡ Some q) p.1 e in
      let up : least_in (word z r.world) p.0 < least_in (word z r.world) q = i.rows.closed.rises p.0 q (held_by r.ledger.rows s p.0 (x.fresh p.0 o p.1)) led in
      omega (arith, up, x.least p.0 m p.1)

-- the acting seat comes to the row
own_by : (z : Sizes) (r r' : Run) (s : ℕ) (choice : Choice) (l : Local) (a : Activity) (l' : Local) → NextBy (word z r.world) l a l' → Happens z r r' s choice l l' a → Shape z r → l'.rebalance.least < least_in (word z r'.world) l'.candidate
own_by z r r' s choice l a l' (on_walk q e) h i =
    let same : least_in (word z r'.world) q ≡ least_in (word z r.world) q = ap key_of_word (h.changed.loaded refl (name.Least q)) in
    omega (arith, same, above (Activity.Rebalance (Rebalance.Replace Replace.Next)) h i tt tt tt q e)
own_by z r r' s choice l a l' (on_way_left q e) h i =
    let same : least_in (word z r'.world) q ≡ least_in (word z r.world) q = ap key_of_word (h.changed.loaded refl (name.Least q)) in
    omega (arith, same, above (Activity.Rebalance (Rebalance.Left Left.Next)) h i tt tt tt q e)

pub climbs_own : (z : Sizes) (r r' : Run) (s : ℕ) (choice : Choice) (l : Local) (a : Activity) (l' : Local) → Happens z r r' s choice l l' a → Shape z r → IsBeforeNext l'.activity → l'.rebalance.least < least_in (word z r'.world) l'.candidate
climbs_own z r r' s choice l a l' h i x = own_by z r r' s choice l a l' (next_by z (word z r.world) s choice l a l' h.arrow x) h i

-- another seat stays there
visiting : (a : Activity) → IsBeforeNext a → IsVisiting a
visiting (Activity.Rebalance _) x = tt
visiting _ x = absurd x

reached : (a : Activity) → IsBeforeNext a → HasReachedNext a
reached (Activity.Rebalance (Rebalance.Replace Replace.NextLeast)) x = tt
reached (Activity.Rebalance (Rebalance.Left Left.NextLeast)) x = tt
reached _ x = absurd x

module _ {z : Sizes} {r r' : Run} {s : ℕ} {choice : Choice} {l l' : Local} where
  pub climbs_other : (a : Activity) → Happens z r r' s choice l l' a → Shape z r → (t : ℕ) (k : Local) → t ≢ s → slice_get r.world.locals t ≡ Some k → IsBeforeNext k.activity → k.rebalance.least < least_in (word z r.world) k.candidate → k.rebalance.least < least_in (word z r'.world) k.candidate
  climbs_other a h i t k d g x was =
      let p = (i.visits t k g).in_visit (visiting k.activity x) in
      let y = rely_rows a h i t p.since p.visits (others_kept a h t d ∙ p.visits) in
      omega (arith, was, y.least k.candidate ((i.search t k g).saw (reached k.activity x)))
