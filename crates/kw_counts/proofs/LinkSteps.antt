-- How a seat comes to the exchange that replaces its row, and to give its new rows back to try
-- again.
use Rattle.std.proofs.Common.{ℕ, ◌≡◌, ◌≢◌, ◌≤◌, None, Some, refl}
use Rattle.kw_words.specs.declared.layout.Name.TheVariants as name
use Rattle.kw_words.specs.Link.{link_of}
use Rattle.kw_world.specs.declared.activity.Activity.{Activity}
use Rattle.kw_world.specs.declared.activity.rebalance.Rebalance.TheVariants as Rebalance
use Rattle.kw_world.specs.declared.activity.rebalance.replace.Replace.TheVariants as Replace
use Rattle.kw_world.specs.declared.activity.rebalance.seek.Seek.TheVariants as Seek
use Rattle.kw_world.specs.declared.event.Choice.{Choice}
use Rattle.kw_world.specs.declared.local.Local.{Local}
use Rattle.kw_world.specs.declared.rebalance.Afterwards.{Afterwards}
use Rattle.kw_world.specs.declared.rebalance.Afterwards.TheVariants.{MoveLeft, Refuse, TryAgain}
use Rattle.kw_world.specs.ReplaceTransitions.{replaced_link}
use Rattle.kw_world.specs.Sizes.{Sizes}
use Rattle.kw_world.specs.Transition.{row_linked, row_or_first}
use Rattle.kw_world.specs.WriteTransitions.{unmarked_link}
use Rattle.kw_core.specs.Words.{Words, least_in, next_in}
use Rattle.kw_core.proofs.Building.{Building, first_is_taken, sought_is_taken, pass_is_old, pass_is_young, takes_row, loses_row, gives_one_back, gives_last_back, writes_first, writes_entry, writes_no_cell, writes_after, begins_before, takes_head_before, leads_to_full, leads_on_marked, leads_nowhere, walks_past, is_marked_before, is_replaced}
use Rattle.kw_core.proofs.NextBuilt.{NextBack, gives_back, has_none, NextBefore, is_behind, is_first}
use Rattle.kw_counts.specs.Walks.{HasSought, IsSeeking}
use Rattle.kw_counts.proofs.BeforeSteps.{cell_off, entry_off, given_off, pass_off, seek_off, taken_off}

-- The exchange.

abbrev pub IsExchange : Activity → Type 0
IsExchange (Activity.Rebalance (Rebalance.Replace Replace.Exchange)) = Unit {0}
IsExchange _ = ⊥

pub exchange_seeks : (a : Activity) (l : Local) → IsExchange a → IsSeeking a l
exchange_seeks (Activity.Rebalance (Rebalance.Replace Replace.Exchange)) l x = tt
exchange_seeks _ l x = absurd x

-- the seat begins its walk, and loads the link to the first row
abbrev pub IsAtHead : Activity → Type 0
IsAtHead (Activity.Rebalance (Rebalance.Replace Replace.Start)) = Unit {0}
IsAtHead (Activity.Rebalance (Rebalance.Replace Replace.First)) = Unit {0}
IsAtHead _ = ⊥

-- a seat comes to the exchange where its row is the first one, or where the link of the row that
-- its walk is at leads there
pub data ToExchange (v : Words) (l : Local) (a : Activity) (k : Local) : Type 0 where
  is_the_first : IsAtHead a → row_or_first (row_linked (link_of (v name.Head))) ≡ l.row → k.rebalance.before ≡ None → k.row ≡ l.row → ToExchange v l a k
  leads_there : a ≡ Activity.Rebalance (Rebalance.Replace Replace.Next) → link_of (v (name.Next (row_or_first l.rebalance.before))) ≡ Some (unmarked_link (Some l.row)) → k.rebalance.before ≡ l.rebalance.before → k.row ≡ l.row → ToExchange v l a k

first_exchanges : (v : Words) (l : Local) (a : Activity) (next : Local) → IsAtHead a → NextBefore (row_or_first (row_linked (link_of (v name.Head)))) l next → IsExchange next.activity → ToExchange v l a next
first_exchanges v l a next b (is_first e) x = is_the_first b e refl refl
first_exchanges v l a next b (is_behind d) x = absurd x

back_exchanges : (c : Afterwards) (l next : Local) → NextBack c l next → IsExchange next.activity → ⊥
back_exchanges c l next (gives_back o) x = x
back_exchanges c l next (has_none m o y) x = given_off c l next y (exchange_seeks next.activity next x)

pub to_exchange : (z : Sizes) (v : Words) (choice : Choice) (l : Local) (a : Activity) (k : Local) → Building z v choice l a k → IsExchange k.activity → ToExchange v l a k
to_exchange z v choice l a k (first_is_taken q rows next f n y) x = absurd (seek_off rows _ next y (exchange_seeks next.activity next x))
to_exchange z v choice l a k (sought_is_taken rows next n y) x = absurd (seek_off rows _ next y (exchange_seeks next.activity next x))
to_exchange z v choice l a k (pass_is_old j epoch rows next f o y) x = absurd (seek_off rows _ next y (exchange_seeks next.activity next x))
to_exchange z v choice l a k (pass_is_young j next o y) x = absurd (pass_off z _ l next y (exchange_seeks next.activity next x))
to_exchange z v choice l a k (takes_row rows next f y) x = absurd (taken_off rows _ next y (exchange_seeks next.activity next x))
to_exchange z v choice l a k (loses_row rows next d y) x = absurd (seek_off rows _ next y (exchange_seeks next.activity next x))
to_exchange z v choice l a k (gives_last_back next o y) x = absurd (given_off l.rebalance.afterwards l next y (exchange_seeks next.activity next x))
to_exchange z v choice l a k (writes_first next y) x = absurd (entry_off z 0 l next y (exchange_seeks next.activity next x))
to_exchange z v choice l a k (writes_entry j next y) x = absurd (entry_off z _ l next y (exchange_seeks next.activity next x))
to_exchange z v choice l a k (writes_no_cell j next o y) x = absurd (cell_off z _ l next y (exchange_seeks next.activity next x))
to_exchange z v choice l a k (writes_after j next y) x = absurd (cell_off z _ l next y (exchange_seeks next.activity next x))
to_exchange z v choice l a k (begins_before next y) x = first_exchanges v l a next tt y x
to_exchange z v choice l a k (takes_head_before next y) x = first_exchanges v l a next tt y x
to_exchange z v choice l a k (leads_to_full e) x = leads_there refl e refl refl
to_exchange z v choice l a k (leads_on_marked next e y) x = absurd (back_exchanges MoveLeft l next y x)
to_exchange z v choice l a k (leads_nowhere next e y) x = absurd (back_exchanges TryAgain l next y x)
to_exchange z v choice l a k (walks_past next o y) x = absurd (back_exchanges TryAgain l next y x)
to_exchange z v choice l a k (is_marked_before next e y) x = absurd (back_exchanges MoveLeft l next y x)
to_exchange z v choice l a k (is_replaced next d y) x = absurd (back_exchanges TryAgain l next y x)
to_exchange z v choice l a k _ x = absurd x

-- Trying again.

abbrev pub IsTryAgain : Afterwards → Type 0
IsTryAgain TryAgain = Unit {0}
IsTryAgain MoveLeft = ⊥
IsTryAgain Refuse = ⊥

-- the seat gives rows back to try again
abbrev pub IsGivingUp : Activity → Local → Type 0
IsGivingUp (Activity.Rebalance (Rebalance.Seek Seek.GiveBack)) l = IsTryAgain l.rebalance.afterwards
IsGivingUp _ l = ⊥

pub giving_up_seeks : (a : Activity) (l : Local) → IsGivingUp a l → IsSeeking a l
giving_up_seeks (Activity.Rebalance (Rebalance.Seek Seek.GiveBack)) l x = sought l.rebalance.afterwards x
  where
    sought : (c : Afterwards) → IsTryAgain c → HasSought c
    sought TryAgain y = tt
    sought MoveLeft y = tt
    sought Refuse y = y
giving_up_seeks _ l x = absurd x

-- it comes to that where its walk reaches the end of the list, or a row that is not before its own,
-- or where the link that it is to exchange does not lead to its row
pub data ToGiveUp (v : Words) (l : Local) (a : Activity) (k : Local) : Type 0 where
  goes_on_giving : IsGivingUp a l → k.row ≡ l.row → ToGiveUp v l a k
  list_ended : a ≡ Activity.Rebalance (Rebalance.Replace Replace.Next) → next_in v (row_or_first l.rebalance.before) ≡ None → k.row ≡ l.row → ToGiveUp v l a k
  walked_past : a ≡ Activity.Rebalance (Rebalance.Replace Replace.NextLeast) → l.lower ≤ least_in v l.candidate → k.row ≡ l.row → ToGiveUp v l a k
  was_replaced : a ≡ Activity.Rebalance (Rebalance.Replace Replace.Exchange) → row_linked (link_of (v (replaced_link l.rebalance.before))) ≢ Some l.row → k.row ≡ l.row → ToGiveUp v l a k

-- giving rows back it knows the same row
back_row : (l next : Local) → NextBack TryAgain l next → IsGivingUp next.activity next → next.row ≡ l.row
back_row l next (gives_back o) x = refl
back_row l next (has_none m o y) x = absurd (given_off TryAgain l next y (giving_up_seeks next.activity next x))

moves_not : (l next : Local) → NextBack MoveLeft l next → IsGivingUp next.activity next → ⊥
moves_not l next (gives_back o) x = x
moves_not l next (has_none m o y) x = given_off MoveLeft l next y (giving_up_seeks next.activity next x)

first_not : (q : ℕ) (l next : Local) → NextBefore q l next → IsGivingUp next.activity next → ⊥
first_not q l next (is_first e) x = x
first_not q l next (is_behind d) x = x

pub to_give_up : (z : Sizes) (v : Words) (choice : Choice) (l : Local) (a : Activity) (k : Local) → Building z v choice l a k → IsGivingUp k.activity k → ToGiveUp v l a k
to_give_up z v choice l a k (first_is_taken q rows next f n y) x = absurd (seek_off rows _ next y (giving_up_seeks next.activity next x))
to_give_up z v choice l a k (sought_is_taken rows next n y) x = absurd (seek_off rows _ next y (giving_up_seeks next.activity next x))
to_give_up z v choice l a k (pass_is_old j epoch rows next f o y) x = absurd (seek_off rows _ next y (giving_up_seeks next.activity next x))
to_give_up z v choice l a k (pass_is_young j next o y) x = absurd (pass_off z _ l next y (giving_up_seeks next.activity next x))
to_give_up z v choice l a k (takes_row rows next f y) x = absurd (taken_off rows _ next y (giving_up_seeks next.activity next x))
to_give_up z v choice l a k (loses_row rows next d y) x = absurd (seek_off rows _ next y (giving_up_seeks next.activity next x))
to_give_up z v choice l a k (gives_one_back o) x = goes_on_giving x refl
to_give_up z v choice l a k (gives_last_back next o y) x = absurd (given_off l.rebalance.afterwards l next y (giving_up_seeks next.activity next x))
to_give_up z v choice l a k (writes_first next y) x = absurd (entry_off z 0 l next y (giving_up_seeks next.activity next x))
to_give_up z v choice l a k (writes_entry j next y) x = absurd (entry_off z _ l next y (giving_up_seeks next.activity next x))
to_give_up z v choice l a k (writes_no_cell j next o y) x = absurd (cell_off z _ l next y (giving_up_seeks next.activity next x))
to_give_up z v choice l a k (writes_after j next y) x = absurd (cell_off z _ l next y (giving_up_seeks next.activity next x))
to_give_up z v choice l a k (begins_before next y) x = absurd (first_not _ l next y x)
to_give_up z v choice l a k (takes_head_before next y) x = absurd (first_not _ l next y x)
to_give_up z v choice l a k (leads_on_marked next e y) x = absurd (moves_not l next y x)
to_give_up z v choice l a k (leads_nowhere next e y) x = list_ended refl e (back_row l next y x)
to_give_up z v choice l a k (walks_past next o y) x = walked_past refl o (back_row l next y x)
to_give_up z v choice l a k (is_marked_before next e y) x = absurd (moves_not l next y x)
to_give_up z v choice l a k (is_replaced next d y) x = was_replaced refl d (back_row l next y x)
to_give_up z v choice l a k _ x = absurd x
