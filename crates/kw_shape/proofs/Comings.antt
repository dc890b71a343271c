-- How a seat comes to the activities that take, write and link new rows: by an event of these, or
-- it has gathered the rows of its group and begins to seek rows.
use Rattle.std.proofs.Common.{ℕ, ◌≡◌, ◌≢◌, ◌⊎◌, inl, inr, ◌<◌, Some, refl, sym, ◌∙◌, ap, subst, []}
use Rattle.std.proofs.lemmas.Option.{same_Some}
use Rattle.kw_words.specs.declared.layout.Name.TheVariants as name
use Rattle.kw_words.specs.declared.state.State.TheVariants.{Follower}
use Rattle.kw_words.specs.Link.{link_of}
use Rattle.kw_words.specs.State.{state_of}
use Rattle.kw_rows.specs.Ledger.{IsFresh, Ledger}
use Rattle.kw_rows.specs.Structure.{Structure}
use Rattle.kw_rows.proofs.Named.{fresh_next}
use Rattle.kw_rows.proofs.Views.{leader_named}
use Rattle.kw_world.specs.declared.activity.Activity.{Activity}
use Rattle.kw_world.specs.declared.activity.rebalance.engage.Engage.TheVariants as Engage
use Rattle.kw_world.specs.declared.activity.rebalance.left.Left.TheVariants as Left
use Rattle.kw_world.specs.declared.activity.rebalance.Rebalance.TheVariants as Rebalance
use Rattle.kw_world.specs.declared.event.Choice.{Choice}
use Rattle.kw_world.specs.declared.local.Local.{Local}
use Rattle.kw_world.specs.EngageTransitions.{led_by}
use Rattle.kw_world.specs.ReplaceTransitions.{at_before}
use Rattle.kw_world.specs.Sizes.{Sizes}
use Rattle.kw_world.specs.Transition.{row_linked, row_or_first}
use Rattle.kw_core.specs.Words.{Words, least_in, next_in}
use Rattle.kw_core.proofs.Arrows.{Arrow, NextLeftOver, NextLook, answers, begins_left, builds, decides, ends_scan, finds_follower, finds_other, finds_stamped, first_ends, freezes_last, gathers_left_over, goes_to_left_over, helps, is_gone_by, keeps_no_more, key_above, leads_left, left_over_gone_by, list_ends, lists, looks, marks_led, remembers_last, scans_on, sees_frozen_last, sees_neither, sees_stamped, takes_no_more, walks_left, asks_of_pin, looks_at_pin}
use Rattle.kw_core.proofs.BuiltNext.{IsAfterBuilding, built_next}
use Rattle.kw_core.proofs.Grouping.{NextCounted, NextFrozen, NextGathered, claims_row, freezes_ahead, froze_all, gathered_all, gathers_ahead, goes_alone}
use Rattle.kw_shape.proofs.SearchKeep.{elsewhere, first_left}
use Rattle.kw_shape.specs.RowsIn.{rows_in, state_seen}
use Rattle.kw_shape.specs.Search.{HasBefore, HasReachedNext, IsLeft, IsSearching, Search}
use Rattle.kw_world.specs.declared.activity.rebalance.replace.Replace.TheVariants as Replace
use Rattle.kw_world.specs.declared.activity.rebalance.seek.Seek.TheVariants as Seek
use Rattle.kw_core.proofs.Building.{Building, IsBuilding}
use Rattle.kw_shape.proofs.InfantsStay.{measured}
use Rattle.kw_shape.specs.Infants.{HasNone, nursing_of}
use Rattle.kw_shape.specs.Won.{HasWon}
use Rattle.kw_core.proofs.Pinning.{NextOfPin, pins, NextPinLook, sees_pin}

-- How a seat comes to the way left, from a follower to its leader, and what it knows there: the row
-- that the follower's state named, and then the row at which its walk is.
--
-- The words and the ledger are those before the event; that what is so known stays over it is
-- `search_stable`.

-- the seat of a follower is on its way left
abbrev pub IsGoingLeft : Activity → Type 0
IsGoingLeft (Activity.Rebalance (Rebalance.Left _)) = Unit {0}
IsGoingLeft _ = ⊥

-- how it comes to that: it finds its row a follower, or goes on
pub data LeftBy (v : Words) (l : Local) : Activity → Local → Type 0 where
  knows_leader : (leader : ℕ) → state_of (v (name.State l.row)) ≡ Some (Follower leader) → LeftBy v l (Activity.Rebalance (Rebalance.Engage Engage.State)) (record (led_by leader l) { activity = Activity.Rebalance (Rebalance.Left Left.Start) })
  is_at_first : (q : ℕ) → row_or_first (row_linked (link_of (v name.Head))) ≡ q → q ≢ l.row → LeftBy v l (Activity.Rebalance (Rebalance.Left Left.Start)) (record (at_before (Some q) 0 l) { activity = Activity.Rebalance (Rebalance.Left Left.Next) })
  saw_next : (q : ℕ) → next_in v (row_or_first l.rebalance.before) ≡ Some q → q ≢ l.row → LeftBy v l (Activity.Rebalance (Rebalance.Left Left.Next)) (record l { candidate = q; activity = Activity.Rebalance (Rebalance.Left Left.NextLeast) })
  goes_by : least_in v l.candidate < l.lower → LeftBy v l (Activity.Rebalance (Rebalance.Left Left.NextLeast)) (record (at_before (Some l.candidate) (least_in v l.candidate) l) { activity = Activity.Rebalance (Rebalance.Left Left.Next) })

-- nowhere else

look_right : (z : Sizes) (j : ℕ) (next : Activity) → NextLook z j next → IsGoingLeft next → ⊥
look_right z j next (looks o) x = x
look_right z j next (lists o) x = x

cell_right : (l next : Local) → NextLeftOver l next → IsGoingLeft next.activity → ⊥
cell_right l next (goes_to_left_over m o) x = x
cell_right l next (answers o n) x = x
cell_right l next (ends_scan o y n) x = x
cell_right l next (scans_on q o y n w) x = x

frozen_right : (l k : Local) → NextFrozen l k → IsGoingLeft k.activity → ⊥
frozen_right l k (freezes_ahead q e) x = x
frozen_right l k (froze_all e) x = x

gathered_right : (z : Sizes) (l k : Local) → NextGathered z l k → IsGoingLeft k.activity → ⊥
gathered_right z l k (gathers_ahead q e) x = x
gathered_right z l k (gathered_all e) x = x

counted_right : (count : ℕ) (l k : Local) → NextCounted count l k → IsGoingLeft k.activity → ⊥
counted_right count l k (claims_row q m e) x = x
counted_right count l k (goes_alone d) x = x

of_pin_right : (l k : Local) → NextOfPin l k → IsGoingLeft k.activity → ⊥
of_pin_right l k (pins e f) x = x
of_pin_right l k _ x = x

pin_right : (z : Sizes) (i w : ℕ) (l k : Local) → NextPinLook z i w l k → IsGoingLeft k.activity → ⊥
pin_right z i w l k (sees_pin version e o) x = x
pin_right z i w l k _ x = x

built_right : (a : Activity) → IsAfterBuilding a → IsGoingLeft a → ⊥
built_right (Activity.Rebalance (Rebalance.Left _)) o x = o
built_right _ o x = x

-- each arrow is one of these, or leads elsewhere
pub left_by : (z : Sizes) (v : Words) (s : ℕ) (choice : Choice) (l : Local) (a : Activity) (k : Local) → Arrow z v s choice l a k → LeftBy v l a k ⊎ (IsGoingLeft k.activity → ⊥)
left_by z v s choice l a k (finds_follower leader e) = inl (knows_leader leader e)
left_by z v s choice l a k (begins_left q e d) = inl (is_at_first q e d)
left_by z v s choice l a k (leads_left q e d) = inl (saw_next q e d)
left_by z v s choice l a k (walks_left o) = inl (goes_by o)
left_by z v s choice l a k (builds b next y t) = inr (built_right next.activity (built_next z v choice l b next t))
left_by z v s choice l a k (sees_stamped j c version next y n) = inr (look_right z _ next n)
left_by z v s choice l a k (sees_neither j next y n) = inr (look_right z _ next n)
left_by z v s choice l a k (is_gone_by next y n) = inr (look_right z _ next n)
left_by z v s choice l a k (helps next y n) = inr (look_right z _ next n)
left_by z v s choice l a k (finds_stamped c version next y n) = inr (look_right z _ next n)
left_by z v s choice l a k (finds_other next y n) = inr (look_right z _ next n)
left_by z v s choice l a k (first_ends next e n) = inr (cell_right _ next n)
left_by z v s choice l a k (list_ends next e n) = inr (cell_right _ next n)
left_by z v s choice l a k (key_above next e n) = inr (cell_right _ next n)
left_by z v s choice l a k (left_over_gone_by next e n) = inr (cell_right _ next n)
left_by z v s choice l a k (gathers_left_over next n) = inr (cell_right _ next n)
left_by z v s choice l a k (remembers_last j c version next e o n) = inr (frozen_right _ next n)
left_by z v s choice l a k (sees_frozen_last j next e o n) = inr (frozen_right _ next n)
left_by z v s choice l a k (freezes_last j next e o n) = inr (frozen_right _ next n)
left_by z v s choice l a k (takes_no_more next e m n) = inr (gathered_right z _ next n)
left_by z v s choice l a k (keeps_no_more next m n) = inr (gathered_right z _ next n)
left_by z v s choice l a k (marks_led count next d n) = inr (counted_right _ _ next n)
left_by z v s choice l a k (decides count m next e n) = inr (counted_right _ _ next n)
left_by z v s choice l a k (asks_of_pin next c n) = inr (of_pin_right _ next n)
left_by z v s choice l a k (looks_at_pin j next n) = inr (pin_right z _ _ _ next n)
left_by z v s choice l a k _ = inr (λ x. x)

-- a seat on that way rebalances its row, and stays so
pub left_stays : (v : Words) (l : Local) (a : Activity) (k : Local) → LeftBy v l a k → k.row ≡ l.row
left_stays v l a k (knows_leader leader e) = refl
left_stays v l a k (is_at_first q e d) = refl
left_stays v l a k (saw_next q e d) = refl
left_stays v l a k (goes_by o) = refl

module _ (v : Words) (g : Ledger) (t now : ℕ) (i : Structure (rows_in v) g now) (l : Local) (fresh : IsFresh g t l.row) (lower : l.lower ≡ least_in v l.row) where
  -- what it knows there
  pub left_search : (a : Activity) (k : Local) → LeftBy v l a k → Search v g t a l → Search v g t k.activity k
  left_search a k (knows_leader leader e) x = record { some = λ y. (leader, refl); fresh = λ p y d. subst (IsFresh g t) (same_Some leader p d) (leader_named (rows_in v) g now i t l.row leader fresh (ap state_seen e)); least = λ p y d. absurd y; left = λ p y d. absurd y; saw = λ y. absurd y }
  left_search a k (is_at_first q e d) x = record {
    some = λ y. (q, refl);
    fresh = λ p y f. subst (IsFresh g t) (first ∙ same_Some q p f) (inl i.chain.first_live);
    least = λ p y f. subst (λ q. 0 ≡ least_in v q) (first ∙ same_Some q p f) (sym i.chain.first_least);
    left = λ p y f. subst (λ q. IsLeft v g l q) (first ∙ same_Some q p f) (first_left v g t now i l fresh lower (λ c. d (sym first ∙ c)));
    saw = λ y. absurd y;
  }
    where
      first : i.chain.first ≡ q
      first = sym (ap row_or_first i.chain.leads) ∙ e
  left_search a k (saw_next q e d) x = let p = x.some tt in record { some = λ y. p; fresh = λ o y f. x.fresh o tt f; least = λ o y f. x.least o tt f; left = λ o y f. x.left o tt f; saw = λ y. fresh_next (rows_in v) g i.closed t p.0 q (x.fresh p.0 tt p.1) (subst (λ b. next_in v (row_or_first b) ≡ Some q) p.1 e) }
  left_search a k (goes_by o) x = record { some = λ y. (l.candidate, refl); fresh = λ p y e. subst (IsFresh g t) (same_Some l.candidate p e) (x.saw tt); least = λ p y e. ap (least_in v) (same_Some l.candidate p e); left = λ p y e. inl (subst (λ q. least_in v q < l.lower) (same_Some l.candidate p e) o); saw = λ y. absurd y }

-- it is at none of them, or begins to seek, or goes on from one
pub data Comes (z : Sizes) (v : Words) (choice : Choice) (l : Local) (a : Activity) (k : Local) : Type 0 where
  stays_out : (IsBuilding k.activity → ⊥) → Comes z v choice l a k
  seeks : k.activity ≡ Activity.Rebalance (Rebalance.Seek Seek.First) → k.rebalance.taken ≡ [] → Comes z v choice l a k
  goes_on : IsBuilding a → Building z v choice l a k → Comes z v choice l a k

look_out : (z : Sizes) (j : ℕ) (next : Activity) → NextLook z j next → IsBuilding next → ⊥
look_out z j next (looks o) x = x
look_out z j next (lists o) x = x

left_over_out : (l next : Local) → NextLeftOver l next → IsBuilding next.activity → ⊥
left_over_out l next (goes_to_left_over m o) x = x
left_over_out l next (answers o n) x = x
left_over_out l next (ends_scan o y n) x = x
left_over_out l next (scans_on q o y n w) x = x

-- so many rows go
counted_out : (count : ℕ) (l k : Local) → NextCounted count l k → IsBuilding k.activity → ⊥
counted_out count l k (claims_row q m e) x = x
counted_out count l k (goes_alone d) x = x

-- a row of the group is frozen
frozen_out : (l k : Local) → NextFrozen l k → IsBuilding k.activity → ⊥
frozen_out l k (freezes_ahead q e) x = x
frozen_out l k (froze_all e) x = x

-- a pin is asked of, or looked at
of_pin_out : (l k : Local) → NextOfPin l k → IsBuilding k.activity → ⊥
of_pin_out l k (pins e f) x = x
of_pin_out l k _ x = x

pin_out : (z : Sizes) (i w : ℕ) (l k : Local) → NextPinLook z i w l k → IsBuilding k.activity → ⊥
pin_out z i w l k (sees_pin version e o) x = x
pin_out z i w l k _ x = x

-- a row of the group is gathered
gathered_comes : (z : Sizes) (v : Words) (choice : Choice) (l m : Local) (a : Activity) (k : Local) → NextGathered z m k → Comes z v choice l a k
gathered_comes z v choice l m a k (gathers_ahead q e) = stays_out (λ x. x)
gathered_comes z v choice l m a k (gathered_all e) = seeks refl refl

-- each arrow is one of these
pub comes : (z : Sizes) (v : Words) (s : ℕ) (choice : Choice) (l : Local) (a : Activity) (k : Local) → Arrow z v s choice l a k → Comes z v choice l a k
comes z v s choice l a k (builds b next y t) = goes_on y t
comes z v s choice l a k (takes_no_more next e m n) = gathered_comes z v choice l l a next n
comes z v s choice l a k (keeps_no_more next m n) = gathered_comes z v choice l _ a next n
comes z v s choice l a k (sees_stamped j c version next y n) = stays_out (look_out z _ next n)
comes z v s choice l a k (sees_neither j next y n) = stays_out (look_out z _ next n)
comes z v s choice l a k (is_gone_by next y n) = stays_out (look_out z _ next n)
comes z v s choice l a k (helps next y n) = stays_out (look_out z _ next n)
comes z v s choice l a k (finds_stamped c version next y n) = stays_out (look_out z _ next n)
comes z v s choice l a k (finds_other next y n) = stays_out (look_out z _ next n)
comes z v s choice l a k (first_ends next e n) = stays_out (left_over_out _ next n)
comes z v s choice l a k (list_ends next e n) = stays_out (left_over_out _ next n)
comes z v s choice l a k (key_above next y n) = stays_out (left_over_out _ next n)
comes z v s choice l a k (left_over_gone_by next y n) = stays_out (left_over_out _ next n)
comes z v s choice l a k (gathers_left_over next n) = stays_out (left_over_out _ next n)
comes z v s choice l a k (remembers_last j c version next e o n) = stays_out (frozen_out _ next n)
comes z v s choice l a k (sees_frozen_last j next e o n) = stays_out (frozen_out _ next n)
comes z v s choice l a k (freezes_last j next e o n) = stays_out (frozen_out _ next n)
comes z v s choice l a k (marks_led count next d n) = stays_out (counted_out _ _ next n)
comes z v s choice l a k (decides count m next e n) = stays_out (counted_out _ _ next n)
comes z v s choice l a k (asks_of_pin next c n) = stays_out (of_pin_out _ next n)
comes z v s choice l a k (looks_at_pin j next n) = stays_out (pin_out z _ _ _ next n)
comes z v s choice l a k _ = stays_out (λ x. x)

-- Elsewhere.

-- a seat has no infants
pub unbuilt_nursing : (a : Activity) → (IsBuilding a → ⊥) → nursing_of a ≡ HasNone
unbuilt_nursing (Activity.Rebalance (Rebalance.Seek _)) n = absurd (n tt)
unbuilt_nursing (Activity.Rebalance (Rebalance.Write _)) n = absurd (n tt)
unbuilt_nursing (Activity.Rebalance (Rebalance.Replace Replace.Start)) n = absurd (n tt)
unbuilt_nursing (Activity.Rebalance (Rebalance.Replace Replace.GuessedLeast)) n = absurd (n tt)
unbuilt_nursing (Activity.Rebalance (Rebalance.Replace Replace.First)) n = absurd (n tt)
unbuilt_nursing (Activity.Rebalance (Rebalance.Replace Replace.Next)) n = absurd (n tt)
unbuilt_nursing (Activity.Rebalance (Rebalance.Replace Replace.NextLeast)) n = absurd (n tt)
unbuilt_nursing (Activity.Rebalance (Rebalance.Replace Replace.Exchange)) n = absurd (n tt)
unbuilt_nursing _ n = refl

-- it has replaced no row that it has not retired
pub won_builds : (a : Activity) → HasWon a → IsBuilding a
won_builds (Activity.Rebalance (Rebalance.Replace Replace.Normalise)) x = tt
won_builds (Activity.Rebalance (Rebalance.Replace Replace.Number)) x = tt
won_builds (Activity.Rebalance (Rebalance.Replace Replace.Retire)) x = tt
won_builds _ x = absurd x

-- it seeks the row before its own where it builds new ones, or goes left to its leader
pub searching_builds : (a : Activity) (l : Local) → IsSearching a l → IsBuilding a ⊎ IsGoingLeft a
searching_builds (Activity.Rebalance (Rebalance.Replace Replace.GuessedLeast)) l x = inl tt
searching_builds (Activity.Rebalance (Rebalance.Replace Replace.Next)) l x = inl tt
searching_builds (Activity.Rebalance (Rebalance.Replace Replace.NextLeast)) l x = inl tt
searching_builds (Activity.Rebalance (Rebalance.Replace Replace.Exchange)) l x = inl tt
searching_builds (Activity.Rebalance (Rebalance.Seek Seek.GiveBack)) l x = inl tt
searching_builds (Activity.Rebalance (Rebalance.Left _)) l x = inr tt
searching_builds _ l x = absurd x

before_builds : (a : Activity) (l : Local) → HasBefore a l → IsBuilding a ⊎ IsGoingLeft a
before_builds (Activity.Rebalance (Rebalance.Replace Replace.GuessedLeast)) l x = inl tt
before_builds (Activity.Rebalance (Rebalance.Replace Replace.Next)) l x = inl tt
before_builds (Activity.Rebalance (Rebalance.Replace Replace.NextLeast)) l x = inl tt
before_builds (Activity.Rebalance (Rebalance.Seek Seek.GiveBack)) l x = inl tt
before_builds (Activity.Rebalance (Rebalance.Left _)) l x = inr tt
before_builds _ l x = absurd x

reached_builds : (a : Activity) → HasReachedNext a → IsBuilding a ⊎ IsGoingLeft a
reached_builds (Activity.Rebalance (Rebalance.Replace Replace.NextLeast)) x = inl tt
reached_builds (Activity.Rebalance (Rebalance.Left Left.NextLeast)) x = inr tt
reached_builds _ x = absurd x

neither : (a : Activity) → (IsBuilding a → ⊥) → (IsGoingLeft a → ⊥) → IsBuilding a ⊎ IsGoingLeft a → ⊥
neither a n m (inl x) = n x
neither a n m (inr x) = m x

pub unbuilt_search : (v : Words) (g : Ledger) (t : ℕ) (a : Activity) (l : Local) → (IsBuilding a → ⊥) → (IsGoingLeft a → ⊥) → Search v g t a l
unbuilt_search v g t a l n m = elsewhere v g t a l (λ x. neither a n m (searching_builds a l x)) (λ x. neither a n m (searching_builds a l (measured a l x))) (λ x. neither a n m (before_builds a l x)) (λ x. neither a n m (reached_builds a x))
