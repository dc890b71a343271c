-- Every event keeps what each seat has planned: the plan is made as the search for new rows begins,
-- and nothing changes it until they are linked.
use Rattle.std.proofs.Common.{ℕ, ◌≡◌, ◌+◌, ◌<◌, ◌≤◌, [], ◌∷◌, arith, length, length-append, refl, sym, subst}
use Rattle.kw_world.specs.declared.activity.Activity.{Activity}
use Rattle.kw_world.specs.declared.event.Choice.{Choice}
use Rattle.kw_world.specs.declared.local.Local.{Local}
use Rattle.kw_world.specs.declared.rebalance.Afterwards.{Afterwards}
use Rattle.kw_world.specs.Sane.{IsTakingRows}
use Rattle.kw_world.specs.SeekTransitions.{seeking, with_row}
use Rattle.kw_world.specs.Sizes.{Sizes}
use Rattle.kw_world.specs.Step.{word}
use Rattle.kw_cells.specs.Cuts.{starts_of}
use Rattle.kw_cells.specs.Kept.{kept_of}
use Rattle.kw_core.specs.Run.{Run}
use Rattle.kw_core.specs.Words.{Words}
use Rattle.kw_core.proofs.Arrows.{Arrow, NextLook, NextLeftOver, answers, builds, ends_scan, finds_other, finds_stamped, gathers_left_over, helps, is_gone_by, keeps_no_more, key_above, list_ends, lists, looks, sees_neither, sees_stamped, left_over_gone_by, goes_to_left_over, scans_on, takes_no_more, remembers_last, sees_frozen_last, freezes_last, first_ends, decides, marks_led, asks_of_pin, looks_at_pin}
use Rattle.kw_core.proofs.Building.{Building, first_is_retired, sought_is_retired, pass_is_old, pass_is_young, frees_row, before_is_above, before_serves, begins_before, draws_number, first_is_free, first_is_taken, gives_last_back, gives_one_back, guess_before_fails, guesses_before, is_marked_before, is_replaced, leads_nowhere, leads_on_marked, leads_to_full, leads_to_other, loses_row, makes_last_normal, makes_normal, replaces_row, retires_row, sought_is_free, sought_is_taken, takes_head_before, takes_row, walks_before, walks_past, writes_no_cell, writes_after, writes_count, writes_entry, writes_first, writes_key, writes_least, writes_link, writes_value, writes_version, retires_ahead, retires_and_leaves}
use Rattle.kw_core.proofs.Grouping.{NextCounted, claims_row, goes_alone, NextFrozen, freezes_ahead, froze_all, NextGathered, gathered_all, gathers_ahead}
use Rattle.kw_core.proofs.Happens.{Happens}
use Rattle.kw_core.proofs.NextBuilt.{GivenBack, is_refused_rows, moves_left, tries_again, NextBack, gives_back, has_none, NextSeek, asks, has_asked, NextPass, looks_on, has_looked, NextTaken, has_enough, wants_more, NextNewCell, empties, fills, has_cells, NextNewEntry, has_entries, writes_idle, NextNewRow, has_written, writes_row, NextBefore, is_behind, is_first, was_done, was_served}
use Rattle.kw_shape.specs.Infants.{HasAll, HasNone, nursing_of}
use Rattle.kw_shape.specs.Keyed.{IsPlanned}
use Rattle.kw_shape.specs.Plans.{Plans}
use Rattle.kw_shape.specs.Shape.{Shape}
use Rattle.kw_core.proofs.Pinning.{NextOfPin, pins, NextPinLook, sees_pin}

-- the plan is made
record HasPlan (z : Sizes) (l : Local) : Type 0 where
  kept : l.rebalance.kept ≡ kept_of l.rebalance.gathered l.rebalance.needed
  starts : l.rebalance.starts ≡ starts_of z.built l.rebalance.kept

-- of a seat that has one
has_plan : (z : Sizes) (a : Activity) (l : Local) → IsPlanned (nursing_of a) → Plans z a l → HasPlan z l
has_plan z a l x p = record { kept = p.kept x; starts = p.starts x }

-- a seat that has planned nothing
pub unplanned : (z : Sizes) (a : Activity) (l : Local) → nursing_of a ≡ HasNone → Plans z a l
unplanned z a l e = record { kept = λ x. absurd (subst IsPlanned e x); starts = λ x. absurd (subst IsPlanned e x); few = λ x. absurd (subst HasAll e x) }

-- What follows where a part has no event of its own.

module _ (z : Sizes) where
  -- a reader has planned nothing
  look_unplanned : (j : ℕ) (next : Activity) (l : Local) → NextLook z j next → Plans z next l
  look_unplanned j next l (looks o) = unplanned z _ l refl
  look_unplanned j next l (lists o) = unplanned z _ l refl

  left_over_unplanned : (l next : Local) → NextLeftOver l next → Plans z next.activity next
  left_over_unplanned l next (goes_to_left_over m o) = unplanned z _ _ refl
  left_over_unplanned l next (answers o n) = unplanned z _ _ refl
  left_over_unplanned l next (ends_scan o y n) = unplanned z _ _ refl
  left_over_unplanned l next (scans_on q o y n w) = unplanned z _ _ refl

  -- nor has a seat that freezes its group; the plan is made once all of it is gathered
  frozen_unplanned : (l next : Local) → NextFrozen l next → Plans z next.activity next
  frozen_unplanned l next (freezes_ahead q e) = unplanned z _ _ refl
  frozen_unplanned l next (froze_all e) = unplanned z _ _ refl

  counted_unplanned : (count : ℕ) (l next : Local) → NextCounted count l next → Plans z next.activity next
  counted_unplanned count l next (claims_row q m e) = unplanned z _ _ refl
  counted_unplanned count l next (goes_alone d) = unplanned z _ _ refl

  gathered_plans : (l next : Local) → NextGathered z l next → Plans z next.activity next
  gathered_plans l next (gathers_ahead q e) = unplanned z _ _ refl
  gathered_plans l next (gathered_all e) = record { kept = λ x. refl; starts = λ x. refl; few = λ x. absurd x }

  -- one that has given its rows back has planned nothing; as long as it has rows or seeks them, it
  -- has its plan
  given_on : (c : Afterwards) (k next : Local) → GivenBack k c next → Plans z next.activity next
  given_on c k next (tries_again nd) = unplanned z _ _ refl
  given_on c k next (was_done dn) = unplanned z _ _ refl
  given_on c k next (is_refused_rows nd) = unplanned z _ _ refl
  given_on c k next (was_served dn) = unplanned z _ _ refl
  given_on c k next moves_left = unplanned z _ _ refl

  back_on : (c : Afterwards) (k next : Local) → NextBack c k next → HasPlan z k → Plans z next.activity next
  back_on c k next (gives_back o) p = record { kept = λ x. p.kept; starts = λ x. p.starts; few = λ x. absurd x }
  back_on c k next (has_none m o y) p = given_on c k next y

  seek_on : (rows : ℕ) (k next : Local) → NextSeek rows k next → HasPlan z k → Plans z next.activity next
  seek_on rows k next (asks o) p = record { kept = λ x. p.kept; starts = λ x. p.starts; few = λ x. absurd x }
  seek_on rows k next (has_asked m o y) p = back_on _ k next y p

  pass_on : (j : ℕ) (k next : Local) → NextPass z j k next → HasPlan z k → Plans z next.activity next
  pass_on j k next (looks_on o) p = record { kept = λ x. p.kept; starts = λ x. p.starts; few = λ x. absurd x }
  pass_on j k next (has_looked o) p = record { kept = λ x. p.kept; starts = λ x. p.starts; few = λ x. absurd x }

  taken_on : (rows : ℕ) (k next : Local) → NextTaken rows k next → length k.rebalance.taken ≤ length k.rebalance.starts → HasPlan z k → Plans z next.activity next
  taken_on rows k next (wants_more m o y) f p = seek_on rows k next y p
  taken_on rows k next (has_enough o) f p = record { kept = λ x. p.kept; starts = λ x. p.starts; few = λ x. f }

  row_on : (k next : Local) → NextNewRow k next → length k.rebalance.taken ≤ length k.rebalance.starts → HasPlan z k → Plans z next.activity next
  row_on k next (writes_row o) f p = record { kept = λ x. p.kept; starts = λ x. p.starts; few = λ x. f }
  row_on k next (has_written o) f p = record { kept = λ x. p.kept; starts = λ x. p.starts; few = λ x. f }

  cell_on : (j : ℕ) (k next : Local) → NextNewCell z j k next → length k.rebalance.taken ≤ length k.rebalance.starts → HasPlan z k → Plans z next.activity next
  cell_on j k next (fills o q) f p = record { kept = λ x. p.kept; starts = λ x. p.starts; few = λ x. f }
  cell_on j k next (empties o q) f p = record { kept = λ x. p.kept; starts = λ x. p.starts; few = λ x. f }
  cell_on j k next (has_cells m o y) f p = row_on k next y f p

  entry_on : (i : ℕ) (k next : Local) → NextNewEntry z i k next → length k.rebalance.taken ≤ length k.rebalance.starts → HasPlan z k → Plans z next.activity next
  entry_on i k next (writes_idle o) f p = record { kept = λ x. p.kept; starts = λ x. p.starts; few = λ x. f }
  entry_on i k next (has_entries m o y) f p = cell_on 0 k next y f p

  first_on : (q : ℕ) (k next : Local) → NextBefore q k next → length k.rebalance.taken ≤ length k.rebalance.starts → HasPlan z k → Plans z next.activity next
  first_on q k next (is_first o) f p = record { kept = λ x. p.kept; starts = λ x. p.starts; few = λ x. f }
  first_on q k next (is_behind o) f p = record { kept = λ x. p.kept; starts = λ x. p.starts; few = λ x. f }

  -- where new rows are taken, written and linked: a row more is taken only as long as there are
  -- starts for it
  plans_built : (v : Words) (choice : Choice) (l : Local) (a : Activity) (k : Local) → Building z v choice l a k → (IsTakingRows a → length l.rebalance.taken < length l.rebalance.starts) → Plans z a l → Plans z k.activity k
  plans_built v choice l a k (first_is_free q f e) o p = record { kept = p.kept; starts = p.starts; few = λ x. absurd x }
  plans_built v choice l a k (first_is_taken q rows next f n y) o p = seek_on rows (seeking q l) k y (record { kept = p.kept tt; starts = p.starts tt })
  plans_built v choice l a k (sought_is_free e) o p = record { kept = p.kept; starts = p.starts; few = λ x. absurd x }
  plans_built v choice l a k (sought_is_taken rows next n y) o p = seek_on rows l k y (has_plan z a l tt p)
  plans_built v choice l a k (first_is_retired q m f e) o p = record { kept = p.kept; starts = p.starts; few = λ x. absurd x }
  plans_built v choice l a k (sought_is_retired m e) o p = record { kept = p.kept; starts = p.starts; few = λ x. absurd x }
  plans_built v choice l a k (pass_is_old j epoch rows next e u y) o p = seek_on rows l k y (has_plan z a l tt p)
  plans_built v choice l a k (pass_is_young j next y n) o p = pass_on (j + 1) l k n (has_plan z a l tt p)
  plans_built v choice l a k frees_row o p = record { kept = p.kept; starts = p.starts; few = λ x. absurd x }
  plans_built v choice l a k (takes_row rows next e y) o p = taken_on rows (with_row l) k y (omega (arith, o tt, length-append l.rebalance.taken (l.rebalance.sought ∷ []))) (record { kept = p.kept tt; starts = p.starts tt })
  plans_built v choice l a k (loses_row rows next d y) o p = seek_on rows l k y (has_plan z a l tt p)
  plans_built v choice l a k (gives_one_back n) o p = record { kept = p.kept; starts = p.starts; few = λ x. absurd x }
  plans_built v choice l a k (gives_last_back next n y) o p = given_on l.rebalance.afterwards l k y
  plans_built v choice l a k writes_count o p = record { kept = p.kept; starts = p.starts; few = p.few }
  plans_built v choice l a k writes_least o p = record { kept = p.kept; starts = p.starts; few = p.few }
  plans_built v choice l a k writes_link o p = record { kept = p.kept; starts = p.starts; few = p.few }
  plans_built v choice l a k (writes_first next y) o p = entry_on 0 l k y (p.few tt) (has_plan z a l tt p)
  plans_built v choice l a k (writes_entry i next y) o p = entry_on (i + 1) l k y (p.few tt) (has_plan z a l tt p)
  plans_built v choice l a k (writes_key j) o p = record { kept = p.kept; starts = p.starts; few = p.few }
  plans_built v choice l a k (writes_value j) o p = record { kept = p.kept; starts = p.starts; few = p.few }
  plans_built v choice l a k (writes_version j u) o p = record { kept = p.kept; starts = p.starts; few = p.few }
  plans_built v choice l a k (writes_no_cell j next u y) o p = cell_on (j + 1) l k y (p.few tt) (has_plan z a l tt p)
  plans_built v choice l a k (writes_after j next y) o p = cell_on (j + 1) l k y (p.few tt) (has_plan z a l tt p)
  plans_built v choice l a k (begins_before next y) o p = first_on _ l k y (p.few tt) (has_plan z a l tt p)
  plans_built v choice l a k (guesses_before q f e) o p = record { kept = p.kept; starts = p.starts; few = p.few }
  plans_built v choice l a k guess_before_fails o p = record { kept = p.kept; starts = p.starts; few = p.few }
  plans_built v choice l a k (before_serves n) o p = record { kept = p.kept; starts = p.starts; few = p.few }
  plans_built v choice l a k (before_is_above n) o p = record { kept = p.kept; starts = p.starts; few = p.few }
  plans_built v choice l a k (takes_head_before next y) o p = first_on _ l k y (p.few tt) (has_plan z a l tt p)
  plans_built v choice l a k (leads_to_full e) o p = record { kept = p.kept; starts = p.starts; few = p.few }
  plans_built v choice l a k (leads_on_marked next e y) o p = back_on _ l k y (has_plan z a l tt p)
  plans_built v choice l a k (leads_to_other q e d) o p = record { kept = p.kept; starts = p.starts; few = p.few }
  plans_built v choice l a k (leads_nowhere next e y) o p = back_on _ l k y (has_plan z a l tt p)
  plans_built v choice l a k (walks_before n) o p = record { kept = p.kept; starts = p.starts; few = p.few }
  plans_built v choice l a k (walks_past next n y) o p = back_on _ l k y (has_plan z a l tt p)
  plans_built v choice l a k (replaces_row e) o p = unplanned z _ _ refl
  plans_built v choice l a k (is_marked_before next e y) o p = back_on _ l k y (has_plan z a l tt p)
  plans_built v choice l a k (is_replaced next d y) o p = back_on _ l k y (has_plan z a l tt p)
  plans_built v choice l a k (makes_normal n) o p = unplanned z _ _ refl
  plans_built v choice l a k (makes_last_normal n) o p = unplanned z _ _ refl
  plans_built v choice l a k draws_number o p = unplanned z _ _ refl
  plans_built v choice l a k (retires_ahead q e) o p = unplanned z _ _ refl
  plans_built v choice l a k (retires_row n nd) o p = unplanned z _ _ refl
  plans_built v choice l a k (retires_and_leaves n dn) o p = unplanned z _ _ refl

-- a call that asks of a pin has no plan, nor has a seat that looks at one
of_pin_unplanned : (z : Sizes) (l k : Local) → NextOfPin l k → Plans z k.activity k
of_pin_unplanned z l k (pins e f) = unplanned z _ _ refl
of_pin_unplanned z l k _ = unplanned z _ _ refl

pin_unplanned : (z : Sizes) (i w : ℕ) (l k : Local) → NextPinLook z i w l k → Plans z k.activity k
pin_unplanned z i w l k (sees_pin version e o) = unplanned z _ _ refl
pin_unplanned z i w l k _ = unplanned z _ _ refl

-- by the arrow that the seat takes
plans_by : (z : Sizes) (v : Words) (s : ℕ) (choice : Choice) (l : Local) (a : Activity) (l' : Local) → Arrow z v s choice l a l' → (IsTakingRows a → length l.rebalance.taken < length l.rebalance.starts) → Plans z a l → Plans z l'.activity l'
plans_by z v s choice l a l' (builds b next y t) o p = plans_built z v choice l a l' t o p
plans_by z v s choice l a l' (takes_no_more next e m n) o p = gathered_plans z l next n
plans_by z v s choice l a l' (keeps_no_more next m n) o p = gathered_plans z _ next n
plans_by z v s choice l a l' (remembers_last j c version next e u n) o p = frozen_unplanned z _ next n
plans_by z v s choice l a l' (sees_frozen_last j next e u n) o p = frozen_unplanned z _ next n
plans_by z v s choice l a l' (freezes_last j next e u n) o p = frozen_unplanned z _ next n
plans_by z v s choice l a l' (sees_stamped j c version next y n) o p = look_unplanned z _ next _ n
plans_by z v s choice l a l' (sees_neither j next y n) o p = look_unplanned z _ next _ n
plans_by z v s choice l a l' (is_gone_by next y n) o p = look_unplanned z _ next _ n
plans_by z v s choice l a l' (helps next y n) o p = look_unplanned z _ next _ n
plans_by z v s choice l a l' (finds_stamped c version next y n) o p = look_unplanned z _ next _ n
plans_by z v s choice l a l' (finds_other next y n) o p = look_unplanned z _ next _ n
plans_by z v s choice l a l' (first_ends next e n) o p = left_over_unplanned z _ next n
plans_by z v s choice l a l' (list_ends next e n) o p = left_over_unplanned z _ next n
plans_by z v s choice l a l' (key_above next y n) o p = left_over_unplanned z _ next n
plans_by z v s choice l a l' (left_over_gone_by next y n) o p = left_over_unplanned z _ next n
plans_by z v s choice l a l' (gathers_left_over next n) o p = left_over_unplanned z _ next n
plans_by z v s choice l a l' (marks_led count next d n) o p = counted_unplanned z _ _ next n
plans_by z v s choice l a l' (decides count m next e n) o p = counted_unplanned z _ _ next n
plans_by z v s choice l a l' (asks_of_pin next c n) o p = of_pin_unplanned z _ next n
plans_by z v s choice l a l' (looks_at_pin j next n) o p = pin_unplanned z _ _ _ next n
plans_by z v s choice l a l' _ o p = unplanned z _ _ refl

-- the acting seat
pub plans_own : (z : Sizes) (r r' : Run) (s : ℕ) (choice : Choice) (l : Local) (a : Activity) (l' : Local) → Arrow z (word z r.world) s choice l a l' → Happens z r r' s choice l l' a → Shape z r → Plans z l'.activity l'
plans_own z r r' s choice l a l' b h i = plans_by z (word z r.world) s choice l a l' b (λ x. (i.sane.locals s l h.knows).room.rebalance.taken (subst IsTakingRows (sym h.activity) x)) (subst (λ c. Plans z c l) h.activity (i.plans s l h.knows))
