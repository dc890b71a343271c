-- Every event keeps what a seat knows of the rows that it rebalances.
use Rattle.std.proofs.Common.{ℕ, ◌≡◌, ◌≢◌, ◌⊎◌, inl, inr, ◌+◌, ◌≤◌, ◌==◌, if◌then◌else◌, true, Some, None, arith, refl, sym, ◌∙◌, ap, subst, slice_get}
use Rattle.std.proofs.lemmas.Bool.{cases_eq}
use Rattle.kw_words.specs.declared.layout.Name.TheVariants as name
use Rattle.kw_words.specs.declared.sizes.TheConstants.{MOST_GROUP}
use Rattle.kw_words.specs.declared.state.State.TheVariants as state
use Rattle.kw_words.specs.State.{state_of}
use Rattle.kw_rows.specs.Group.{Alone, Claiming, Group, Marking, MarkingNext, Named, Opened, Pair}
use Rattle.kw_rows.specs.Ledger as kw_rows
use Rattle.kw_rows.specs.Ledger.{IsFresh, IsHeld}
use Rattle.kw_rows.specs.RowState as row
use Rattle.kw_rows.specs.RowState.{IsLeader}
use Rattle.kw_rows.specs.Rows.{Closed}
use Rattle.kw_rows.proofs.Named.{fresh_next, held_by}
use Rattle.kw_rows.proofs.Views.{alone, claims, follows, leads, leaves, opens, pair, takes_along}
use Rattle.kw_world.specs.declared.activity.Activity.{Activity}
use Rattle.kw_world.specs.declared.activity.rebalance.claim.Claim.TheVariants as Claim
use Rattle.kw_world.specs.declared.activity.rebalance.engage.Engage.TheVariants as Engage
use Rattle.kw_world.specs.declared.activity.rebalance.freeze.Freeze.TheVariants as Freeze
use Rattle.kw_world.specs.declared.activity.rebalance.gather.Gather.TheVariants as Gather
use Rattle.kw_world.specs.declared.activity.rebalance.left.Left.TheVariants as Left
use Rattle.kw_world.specs.declared.activity.rebalance.Rebalance.TheVariants as Rebalance
use Rattle.kw_world.specs.declared.activity.rebalance.replace.Replace.TheVariants as Replace
use Rattle.kw_world.specs.declared.activity.rebalance.seek.Seek.TheVariants as Seek
use Rattle.kw_world.specs.declared.answer.Answer.TheVariants.{Done, NoRows}
use Rattle.kw_world.specs.declared.event.Choice.{Choice}
use Rattle.kw_world.specs.declared.local.Local.{Local}
use Rattle.kw_world.specs.ClaimTransitions.{next_marked, row_after}
use Rattle.kw_world.specs.EngageTransitions.{followed_by, to_group, to_rebalance}
use Rattle.kw_world.specs.Sane.{IsActivity}
use Rattle.kw_world.specs.Sizes.{Sizes}
use Rattle.kw_world.specs.Step.{word}
use Rattle.kw_world.specs.Transition.{row_or_first}
use Rattle.kw_core.specs.Run.{Run}
use Rattle.kw_core.specs.declared.stage.Stage.{Stage}
use Rattle.kw_core.specs.declared.stage.Stage.TheVariants.{Rebalancing}
use Rattle.kw_core.specs.Stages.{stage_of, IsAtRow, IsBalancingStage, IsVisitingStage, IsBalancing, IsVisiting}
use Rattle.kw_core.specs.Words.{Words, least_in, next_in}
use Rattle.kw_core.proofs.Arrows.{Arrow, NextLook, NextLeftOver, answers, clock_serves, decides, ends_scan, engages, epoch_serves, finds_follower, finds_infant, finds_leader, finds_normal, finds_other, finds_stamped, gathers_left_over, helps, is_engaged, is_gone_by, key_above, list_ends, lists, looks, marks_last, marks_link, marks_led, sees_neither, sees_stamped, normalises, left_over_gone_by, goes_to_left_over, scans_on, finds_full, takes_full, announces_full, stamps_full, freezes_count, sees_idle, sees_unstamped, remembers, remembers_last, sees_frozen, sees_frozen_last, freezes_entry, freezes_last, looks_again, sees_quiet, sees_quiet_last, helps_scan, sees_drawn, sees_drawn_last, draws_for, settles_scan, settles_last, finds_drawn, finds_drawn_last, finds_no_scan, finds_no_scan_last, take_leads, takes_left, takes_key, takes_version, keeps_taken, takes_left_key, keeps_left, takes_no_more, keeps_no_more, builds, tidies, first_ends, counts_next, claims_next, next_is_infant, next_leads, normalises_next, marks_next, begins_left, takes_leader, reaches_leader, leads_left, walks_left, asks_of_pin, looks_at_pin}
use Rattle.kw_core.proofs.Building.{Building, IsBuilding, draws_number, makes_last_normal, makes_normal, retires_ahead, retires_row, retires_and_leaves}
use Rattle.kw_core.proofs.BuiltNext.{BuiltKeeps, IsAfterBuilding, built_keeps, built_next}
use Rattle.kw_core.proofs.Frame.{WritesPass}
use Rattle.kw_core.proofs.Grouping.{NextCounted, claims_row, goes_alone, NextFrozen, freezes_ahead, froze_all, NextGathered, gathered_all, gathers_ahead}
use Rattle.kw_core.proofs.Happens.{Happens}
use Rattle.kw_shape.proofs.AfterBuilding.{built_balancing, built_pass, built_visits, kind_at, no_call_of_pin}
use Rattle.kw_shape.proofs.Hands.{HasGroup, IsGrouped, ahead_second, all_behind, built_known, built_late, early_balances, frozen_group, frozen_of_group, group_apart, group_balances, group_known, group_late, hand_balances, hand_first, led_alone, named_claiming, named_led, named_marking, next_balances, same_group, same_hand, second_next, undecided, view_led}
use Rattle.kw_shape.proofs.LinkedRows.{fresh_linked, group_named, linked_keeps, named_of_group, search_at}
use Rattle.kw_shape.proofs.Engaging.{marking_along, next_there}
use Rattle.kw_shape.proofs.RowsKeep.{claimed_state, decided_bounds, leader_left, own_rely, balance_at, decided_state, engaged_state, freezing, group_keeps, others_kept, read_state, rely_rows, row_marked, row_next, structure_keeps}
use Rattle.kw_shape.proofs.RelyRows.{RelyRows, is_visiting}
use Rattle.kw_shape.proofs.Walking.{past}
use Rattle.kw_shape.proofs.WonKeep.{WonBy, has_ahead, has_next, has_number, head_open, moves_by, was_last, wins_now, won_by}
use Rattle.kw_shape.specs.Balances.{Balances, claiming, led, marking_next, view_of}
use Rattle.kw_shape.specs.Hands.{Hand, HasFrozen, HasHand, HasNext, IsBeforeGroup, IsBehind, IsOfGroup, at_first, at_second}
use Rattle.kw_shape.specs.RowsIn.{rows_in}
use Rattle.kw_shape.specs.Shape.{Shape, Walks}
use Rattle.kw_shape.specs.Won.{HasWon}

-- a seat that rebalances may name the rows of its view
named : (v : Words) (g : kw_rows.Ledger) → Closed (rows_in v) g → (t : ℕ) (a : Activity) (l : Local) → Balances v g t a l → Named g t (view_of a l)
named v g c t (Activity.Rebalance (Rebalance.Engage (Engage.MarkLink count))) l b = b.fresh tt
named v g c t (Activity.Rebalance (Rebalance.Engage (Engage.Decide count))) l b = b.fresh tt
named v g c t (Activity.Rebalance (Rebalance.Claim Claim.Count)) l b = b.fresh tt
named v g c t (Activity.Rebalance (Rebalance.Claim Claim.Exchange)) l b = named_claiming (rows_in v) g c t l.row l.rebalance.after (b.fresh tt) b.group
named v g c t (Activity.Rebalance (Rebalance.Claim (Claim.Normal seat))) l b = named_claiming (rows_in v) g c t l.row l.rebalance.after (b.fresh tt) b.group
named v g c t (Activity.Rebalance (Rebalance.Claim Claim.MarkLink)) l b = named_marking (rows_in v) g c t l.row l.rebalance.after (b.fresh tt) b.group
named v g c t (Activity.Rebalance (Rebalance.Left _)) l b = b.fresh tt
named v g c t (Activity.Rebalance (Rebalance.Freeze _)) l b = named_led (rows_in v) g c t l.row l.rebalance.second l.rebalance.after (b.fresh tt) b.group
named v g c t (Activity.Rebalance (Rebalance.Gather _)) l b = named_led (rows_in v) g c t l.row l.rebalance.second l.rebalance.after (b.fresh tt) b.group
named v g c t (Activity.Rebalance (Rebalance.Seek _)) l b = named_led (rows_in v) g c t l.row l.rebalance.second l.rebalance.after (b.fresh tt) b.group
named v g c t (Activity.Rebalance (Rebalance.Write _)) l b = named_led (rows_in v) g c t l.row l.rebalance.second l.rebalance.after (b.fresh tt) b.group
named v g c t (Activity.Rebalance (Rebalance.Replace Replace.Start)) l b = named_led (rows_in v) g c t l.row l.rebalance.second l.rebalance.after (b.fresh tt) b.group
named v g c t (Activity.Rebalance (Rebalance.Replace Replace.GuessedLeast)) l b = named_led (rows_in v) g c t l.row l.rebalance.second l.rebalance.after (b.fresh tt) b.group
named v g c t (Activity.Rebalance (Rebalance.Replace Replace.First)) l b = named_led (rows_in v) g c t l.row l.rebalance.second l.rebalance.after (b.fresh tt) b.group
named v g c t (Activity.Rebalance (Rebalance.Replace Replace.Next)) l b = named_led (rows_in v) g c t l.row l.rebalance.second l.rebalance.after (b.fresh tt) b.group
named v g c t (Activity.Rebalance (Rebalance.Replace Replace.NextLeast)) l b = named_led (rows_in v) g c t l.row l.rebalance.second l.rebalance.after (b.fresh tt) b.group
named v g c t (Activity.Rebalance (Rebalance.Replace Replace.Exchange)) l b = named_led (rows_in v) g c t l.row l.rebalance.second l.rebalance.after (b.fresh tt) b.group
named v g c t _ l b = tt

-- a seat that rebalances is in its visit
visits_then : (stage : Stage) → IsBalancingStage stage → IsVisitingStage stage
visits_then Rebalancing b = tt
visits_then _ b = absurd b

balances_visits : (a : Activity) → IsBalancing a → IsVisiting a
balances_visits a b = visits_then (stage_of a) b

-- and neither enters nor leaves
balances_pass : (a : Activity) → IsBalancing a → WritesPass a → ⊥
balances_pass (Activity.Rebalance _) b x = x
balances_pass _ b x = b

-- as long as it builds new rows it goes on with its group, and once it has linked them it knows
-- nothing more of it
built_group : (v : Words) (g : kw_rows.Ledger) (c : Activity) (k : Local) → IsBuilding c → (HasGroup c → Group (rows_in v) g (led k.row k.rebalance.second k.rebalance.after)) → Group (rows_in v) g (view_of c k)
built_group v g (Activity.Rebalance (Rebalance.Seek _)) k x f = f tt
built_group v g (Activity.Rebalance (Rebalance.Write _)) k x f = f tt
built_group v g (Activity.Rebalance (Rebalance.Replace Replace.Normalise)) k x f = tt
built_group v g (Activity.Rebalance (Rebalance.Replace Replace.Number)) k x f = tt
built_group v g (Activity.Rebalance (Rebalance.Replace Replace.Retire)) k x f = tt
built_group v g (Activity.Rebalance (Rebalance.Replace _)) k x f = f tt
built_group v g _ k x f = absurd x

built_led : (z : Sizes) (v : Words) (choice : Choice) (l : Local) (a : Activity) (k : Local) → Building z v choice l a k → HasGroup k.activity → HasGroup a
built_led z v choice l a k (makes_normal o) x = x
built_led z v choice l a k (makes_last_normal o) x = x
built_led z v choice l a k draws_number x = x
built_led z v choice l a k (retires_ahead q e) x = x
built_led z v choice l a k (retires_row n nd) x = x
built_led z v choice l a k (retires_and_leaves n dn) x = x
built_led z v choice l a k _ x = tt

-- it has frozen its group then
built_frozen : (a : Activity) (l : Local) (q : ℕ) → IsBuilding a → HasGroup a → IsOfGroup l q → HasFrozen a l q
built_frozen (Activity.Rebalance (Rebalance.Seek _)) l q x y o = (tt, o)
built_frozen (Activity.Rebalance (Rebalance.Write _)) l q x y o = (tt, o)
built_frozen (Activity.Rebalance (Rebalance.Replace Replace.Normalise)) l q x y o = absurd y
built_frozen (Activity.Rebalance (Rebalance.Replace Replace.Number)) l q x y o = absurd y
built_frozen (Activity.Rebalance (Rebalance.Replace Replace.Retire)) l q x y o = absurd y
built_frozen (Activity.Rebalance (Rebalance.Replace _)) l q x y o = (tt, o)
built_frozen _ l q x y o = absurd x

-- and has one of its rows at hand again once it has replaced it
hand_won : (a : Activity) → IsBuilding a → HasHand a → HasWon a
hand_won (Activity.Rebalance (Rebalance.Seek _)) x y = absurd y
hand_won (Activity.Rebalance (Rebalance.Write _)) x y = absurd y
hand_won (Activity.Rebalance (Rebalance.Replace Replace.Number)) x y = tt
hand_won (Activity.Rebalance (Rebalance.Replace Replace.Retire)) x y = tt
hand_won (Activity.Rebalance (Rebalance.Replace _)) x y = absurd y
hand_won _ x y = absurd x

won_hand : (v : Words) (l : Local) (a : Activity) (k : Local) → WonBy v l a k → (HasHand a → Hand l) → HasHand k.activity → Hand k
won_hand v l a k (wins_now e) f x = absurd x
won_hand v l a k (has_next o) f x = absurd x
won_hand v l a k was_last f x = at_first refl refl
won_hand v l a k has_number f x = same_hand l _ refl refl refl refl (f tt)
won_hand v l a k (has_ahead q e) f x = at_second (ahead_second l (f tt) q e) refl

-- a seat that does not rebalance knows nothing
pub outside : (v : Words) (g : kw_rows.Ledger) (t : ℕ) (a : Activity) (l : Local) → (IsBalancing a → ⊥) → Group (rows_in v) g (view_of a l) → Balances v g t a l
outside v g t a l n b = record { fresh = λ x. absurd (n x); lower = λ x. absurd (n x); group = b; along = λ q x. absurd (n x); apart = λ x. absurd (n x); next = λ x. absurd (n (next_balances a x)); early = λ x. absurd (n (early_balances a x)); hands = λ x. absurd (n (hand_balances a x)); frozen = λ q x. absurd (n (group_balances a (frozen_group a l q x))) }

look_outside : (v : Words) (g : kw_rows.Ledger) (t : ℕ) (z : Sizes) (j : ℕ) (next : Activity) (l : Local) → NextLook z j next → Balances v g t next l
look_outside v g t z j next l (looks o) = outside v g t _ l (λ x. x) tt
look_outside v g t z j next l (lists o) = outside v g t _ l (λ x. x) tt

left_over_outside : (v : Words) (g : kw_rows.Ledger) (t : ℕ) (l next : Local) → NextLeftOver l next → Balances v g t next.activity next
left_over_outside v g t l next (goes_to_left_over m o) = outside v g t _ _ (λ x. x) tt
left_over_outside v g t l next (answers o n) = outside v g t _ _ (λ x. x) tt
left_over_outside v g t l next (ends_scan o y n) = outside v g t _ _ (λ x. x) tt
left_over_outside v g t l next (scans_on q o y n w) = outside v g t _ _ (λ x. x) tt

module _ (z : Sizes) (r r' : Run) (s : ℕ) (choice : Choice) (l : Local) (a : Activity) (l' : Local) (h : Happens z r r' s choice l l' a) (i : Shape z r) where
  -- the row at which the seat was is the one that it rebalances
  stays : (b : Activity) (k : Local) → IsVisiting a → (WritesPass a → ⊥) → IsFresh r.ledger.rows s l.row → l.lower ≡ least_in (word z r.world) l.row → k.row ≡ l.row → k.lower ≡ l.lower → Group (rows_in (word z r'.world)) r'.ledger.rows (view_of b k) → IsGrouped r'.ledger.rows s b k → (HasHand b → Hand k) → ((q : ℕ) → HasFrozen b k q → (rows_in (word z r'.world)).frozen q ≡ true) → Balances (word z r'.world) r'.ledger.rows s b k
  stays b k p n fresh lower row low g second hands frozen =
      let rely = own_rely z r r' s choice l a l' h i p n in
      record {
        fresh = λ x. subst (IsFresh r'.ledger.rows s) (sym row) (rely.fresh l.row fresh);
        lower = λ x. low ∙ lower ∙ sym (rely.least l.row fresh) ∙ ap (least_in (word z r'.world)) (sym row);
        group = g;
        along = second.along;
        apart = second.apart;
        next = second.next;
        early = second.early;
        hands = hands;
        frozen = frozen;
      }

  -- a seat that rebalances goes on with its row
  goes_on : (b : Activity) (k : Local) → IsBalancing a → k.row ≡ l.row → k.lower ≡ l.lower → Group (rows_in (word z r'.world)) r'.ledger.rows (view_of b k) → IsGrouped r'.ledger.rows s b k → (HasHand b → Hand k) → ((q : ℕ) → HasFrozen b k q → (rows_in (word z r'.world)).frozen q ≡ true) → Balances (word z r'.world) r'.ledger.rows s b k
  goes_on b k x row low g second hands frozen = let y = balance_at a h i in stays b k (balances_visits a x) (balances_pass a x) (y.fresh x) (y.lower x) row low g second hands frozen

  -- as long as its group is not decided it has none of its rows at hand
  goes_undecided : (b : Activity) (k : Local) → IsBalancing a → k.row ≡ l.row → k.lower ≡ l.lower → (HasHand b → ⊥) → (HasGroup b → ⊥) → IsBeforeGroup a → k.rebalance.second ≡ l.rebalance.second → (HasNext b → (c : ℕ) × (k.rebalance.after ≡ Some c)) → Group (rows_in (word z r'.world)) r'.ledger.rows (view_of b k) → Balances (word z r'.world) r'.ledger.rows s b k
  goes_undecided b k x row low n m early second next g = goes_on b k x row low g (undecided r'.ledger.rows s b k (second ∙ (balance_at a h i).early early) next) (λ u. absurd (n u)) (λ q u. absurd (m (frozen_group b k q u)))

  -- a put at its row rebalances it
  sees_full : IsAtRow a → IsVisiting a → (WritesPass a → ⊥) → Balances (word z r'.world) r'.ledger.rows s (Activity.Rebalance (Rebalance.Engage Engage.Clock)) (to_rebalance l).local
  sees_full x p n =
      let w = subst (λ b. Walks (word z r.world) r.ledger.rows s b l) h.activity (i.walks s l h.knows) in
      stays (Activity.Rebalance (Rebalance.Engage Engage.Clock)) _ p n (w.at x).fresh (w.lower (past a x)) refl refl tt (undecided _ s _ _ refl (λ u. absurd u)) (λ u. absurd u) (λ q u. absurd u.0)

  -- so does one that tidies, which has put its cell there
  tidies_row : IsAtRow a → IsVisiting a → (WritesPass a → ⊥) → Balances (word z r'.world) r'.ledger.rows s (Activity.Rebalance (Rebalance.Engage Engage.Clock)) (to_rebalance (record l { tidies = true })).local
  tidies_row x p n =
      let w = subst (λ b. Walks (word z r.world) r.ledger.rows s b l) h.activity (i.walks s l h.knows) in
      stays (Activity.Rebalance (Rebalance.Engage Engage.Clock)) _ p n (w.at x).fresh (w.lower (past a x)) refl refl tt (undecided _ s _ _ refl (λ u. absurd u)) (λ u. absurd u) (λ q u. absurd u.0)

  -- the row leads from now on, as the seat finds or makes it
  found_leader : (n : ℕ) (k : Local) → IsBalancing a → IsBeforeGroup a → k.rebalance.second ≡ l.rebalance.second → k.row ≡ l.row → k.lower ≡ l.lower → (rows_in (word z r'.world)).state l.row ≡ row.Leader n → Balances (word z r'.world) r'.ledger.rows s (Activity.Rebalance (Rebalance.Engage (Engage.MarkLink n))) k
  found_leader n k x early second row low e =
      let b = balance_at a h i in
      let f = (own_rely z r r' s choice l a l' h i (balances_visits a x) (balances_pass a x)).fresh l.row (b.fresh x) in
      goes_undecided (Activity.Rebalance (Rebalance.Engage (Engage.MarkLink n))) k x row low (λ u. u) (λ u. u) early second (λ u. absurd u)
      (subst (λ q. Group (rows_in (word z r'.world)) r'.ledger.rows (Marking q n)) (sym row) (leads (rows_in (word z r'.world)) r'.ledger.rows _ (structure_keeps a h i) l.row n (held_by r'.ledger.rows s l.row f) e))

  -- a seat whose row follows another one is at that one now, and knows its least key
  at_leader : IsBalancing a → (p : ℕ) → l.rebalance.before ≡ Some p → IsFresh r.ledger.rows s p → (least : ℕ) → least ≡ least_in (word z r.world) p → (k : Local) → k.row ≡ row_or_first l.rebalance.before → k.lower ≡ least → k.rebalance.second ≡ None → Balances (word z r'.world) r'.ledger.rows s (Activity.Rebalance (Rebalance.Engage Engage.Clock)) k
  at_leader x p e f least m k row low second =
      let rely = own_rely z r r' s choice l a l' h i (balances_visits a x) (balances_pass a x) in
      let here : k.row ≡ p = row ∙ ap row_or_first e in
      record {
        fresh = λ u. subst (IsFresh r'.ledger.rows s) (sym here) (rely.fresh p f);
        lower = λ u. low ∙ m ∙ sym (rely.least p f) ∙ ap (least_in (word z r'.world)) (sym here);
        group = tt;
        along = λ q u y. let w : None ≡ Some q = sym second ∙ y in absurd (cc);
        apart = λ u y. let w : None ≡ Some k.row = sym second ∙ y in cc;
        next = λ u. absurd u;
        early = λ u. second;
        hands = λ u. absurd u;
        frozen = λ q u. absurd u.0;
      }

  -- what the seat knows of its group stays known
  known_still : Group (rows_in (word z r'.world)) r'.ledger.rows (view_of a l)
  known_still = let y = balance_at a h i in group_keeps a h i s (view_of a l) (named _ _ i.rows.closed s a l y) y.group

  -- a row that the seat has frozen stays so
  frozen_still : (q : ℕ) → HasFrozen a l q → (rows_in (word z r'.world)).frozen q ≡ true
  frozen_still q c =
      let y = balance_at a h i in
      let f = named_of_group a (frozen_group a l q c) h i q (frozen_of_group a l q y.hands c) in
      (linked_keeps a h i q (fresh_linked r.ledger.rows s q f)).frozen (y.frozen q c)

  -- a seat whose group is decided begins with its first row: it has frozen none
  begins_group : (k : Local) → IsBalancing a → k.row ≡ l.row → k.lower ≡ l.lower → k.rebalance.hand ≡ l.row → k.rebalance.ahead ≡ k.rebalance.second → Group (rows_in (word z r'.world)) r'.ledger.rows (led l.row k.rebalance.second k.rebalance.after) → Balances (word z r'.world) r'.ledger.rows s (Activity.Rebalance (Rebalance.Freeze Freeze.Count)) k
  begins_group k x row low hand ahead g =
      let f = (own_rely z r r' s choice l a l' h i (balances_visits a x) (balances_pass a x)).fresh l.row ((balance_at a h i).fresh x) in
      let apart = group_apart (rows_in (word z r'.world)) r'.ledger.rows (structure_keeps a h i).closed l.row k.rebalance.second k.rebalance.after (held_by r'.ledger.rows s l.row f) g in
      goes_on (Activity.Rebalance (Rebalance.Freeze Freeze.Count)) k x row low
      (subst (λ q. Group (rows_in (word z r'.world)) r'.ledger.rows (led q k.rebalance.second k.rebalance.after)) (sym row) g)
      (record { along = λ q u e. fresh_next (rows_in (word z r'.world)) r'.ledger.rows (structure_keeps a h i).closed s l.row q f (second_next (rows_in (word z r'.world)) r'.ledger.rows l.row q k.rebalance.second k.rebalance.after e g); apart = λ u e. apart (e ∙ ap Some row); next = λ u. absurd u; early = λ u. absurd u })
      (λ u. at_first (hand ∙ sym row) ahead) (λ q u. absurd (apart (u.0 ∙ ap Some hand)))

  -- with the same second row, which it may name still
  same_second : (b : Activity) (k : Local) → IsBalancing a → (IsBeforeGroup b → ⊥) → (HasNext b → ⊥) → k.row ≡ l.row → k.rebalance.second ≡ l.rebalance.second → IsGrouped r'.ledger.rows s b k
  same_second b k x late known row second = record {
    apart = λ u e. (balance_at a h i).apart x (sym second ∙ e ∙ ap Some row);
    along = λ q u e. (own_rely z r r' s choice l a l' h i (balances_visits a x) (balances_pass a x)).fresh q ((balance_at a h i).along q x (sym second ∙ e));
    next = λ u. absurd (known u);
    early = λ u. absurd (late u);
  }

  -- it goes on with the same group
  group_on : (b : Activity) (k : Local) → HasGroup a → HasGroup b → k.row ≡ l.row → k.lower ≡ l.lower → k.rebalance.second ≡ l.rebalance.second → k.rebalance.after ≡ l.rebalance.after → (HasHand b → Hand k) → ((q : ℕ) → HasFrozen b k q → (rows_in (word z r'.world)).frozen q ≡ true) → Balances (word z r'.world) r'.ledger.rows s b k
  group_on b k x y row low second after hands frozen = goes_on b k (group_balances a x) row low (subst (Group (rows_in (word z r'.world)) r'.ledger.rows) (sym (view_led b k y)) group) (same_second b k (group_balances a x) (λ u. group_late b y u) (λ u. group_known b y u) row second) hands frozen
    where
      group : Group (rows_in (word z r'.world)) r'.ledger.rows (led k.row k.rebalance.second k.rebalance.after)
      group = rw (row, second, after) (subst (Group (rows_in (word z r'.world)) r'.ledger.rows) (view_led a l x) known_still)

  -- with the same row at hand
  hand_on : (b : Activity) (k : Local) → HasGroup a → HasGroup b → HasHand a → k.row ≡ l.row → k.lower ≡ l.lower → k.rebalance.second ≡ l.rebalance.second → k.rebalance.after ≡ l.rebalance.after → k.rebalance.hand ≡ l.rebalance.hand → k.rebalance.ahead ≡ l.rebalance.ahead → ((q : ℕ) → HasFrozen b k q → HasFrozen a l q) → Balances (word z r'.world) r'.ledger.rows s b k
  hand_on b k x y u row low second after hand ahead frozen = group_on b k x y row low second after (λ w. same_hand l k row second hand ahead ((balance_at a h i).hands u)) (λ q f. frozen_still q (frozen q f))

  -- or with none
  scan_on : (b : Activity) (k : Local) → HasGroup a → HasGroup b → (HasHand b → Hand k) → k.row ≡ l.row → k.lower ≡ l.lower → k.rebalance.second ≡ l.rebalance.second → k.rebalance.after ≡ l.rebalance.after → ((q : ℕ) → HasFrozen b k q → HasFrozen a l q) → Balances (word z r'.world) r'.ledger.rows s b k
  scan_on b k x y hands row low second after frozen = group_on b k x y row low second after hands (λ q f. frozen_still q (frozen q f))

  -- one that has frozen the row at hand goes on with the one ahead, or with the scans
  row_frozen_on : (m k : Local) → NextFrozen m k → HasGroup a → HasHand a → m.row ≡ l.row → m.lower ≡ l.lower → m.rebalance.second ≡ l.rebalance.second → m.rebalance.after ≡ l.rebalance.after → m.rebalance.ahead ≡ l.rebalance.ahead → ((q : ℕ) → IsBehind l q ⊎ (q ≡ l.rebalance.hand) → HasFrozen a l q) → Balances (word z r'.world) r'.ledger.rows s k.activity k
  row_frozen_on m k (freezes_ahead p e) x u row low second after ahead frozen =
      let hand = (balance_at a h i).hands u in
      let f : l.rebalance.ahead ≡ Some p = sym ahead ∙ e in
      group_on (Activity.Rebalance (Rebalance.Freeze Freeze.Count)) _ x tt row low second after (λ w. at_second (second ∙ ahead_second l hand p f) refl) (λ q w. frozen_still q (frozen q (inr (w.1 ∙ row ∙ sym (hand_first l hand p f)))))
  row_frozen_on m k (froze_all e) x u row low second after ahead frozen =
      let hand = (balance_at a h i).hands u in
      group_on (Activity.Rebalance (Rebalance.Freeze (Freeze.Scan 0))) _ x tt row low second after (λ w. absurd w) (λ q w. frozen_still q (frozen q (all_behind l hand (sym ahead ∙ e) q (same_group l m row second q w.1))))

  -- one that has gathered it, with the one ahead, or with the search for new rows
  row_gathered_on : (m k : Local) → NextGathered z m k → HasGroup a → HasHand a → m.row ≡ l.row → m.lower ≡ l.lower → m.rebalance.second ≡ l.rebalance.second → m.rebalance.after ≡ l.rebalance.after → m.rebalance.ahead ≡ l.rebalance.ahead → ((q : ℕ) → IsOfGroup l q → HasFrozen a l q) → Balances (word z r'.world) r'.ledger.rows s k.activity k
  row_gathered_on m k (gathers_ahead p e) x u row low second after ahead frozen = group_on (Activity.Rebalance (Rebalance.Gather Gather.Link)) _ x tt row low second after (λ w. at_second (second ∙ ahead_second l ((balance_at a h i).hands u) p (sym ahead ∙ e)) refl) (λ q w. frozen_still q (frozen q (same_group l m row second q w.1)))
  row_gathered_on m k (gathered_all e) x u row low second after ahead frozen = group_on (Activity.Rebalance (Rebalance.Seek Seek.First)) _ x tt row low second after (λ w. absurd w) (λ q w. frozen_still q (frozen q (same_group l m row second q w.1)))

  -- one that builds new rows goes on with its group
  builds_on : IsBuilding a → Building z (word z r.world) choice l a l' → (c : Activity) → l'.activity ≡ c → IsBuilding c → Balances (word z r'.world) r'.ledger.rows s c l'
  builds_on x t c e o =
      let k = built_keeps z (word z r.world) choice l a l' t (subst IsBuilding (sym e) o) in
      goes_on c l' (built_balancing a x) k.row k.lower (built_group (word z r'.world) r'.ledger.rows c l' o (λ y. group k (has c e y))) (same_second c l' (built_balancing a x) (built_late c o) (built_known c o) k.row k.second) hands (λ q f. frozen_still q (built_frozen a l q x (has c e (frozen_group c l' q f)) (same_group l l' k.row k.second q (frozen_of_group c l' q hands f))))
    where
      has : (c : Activity) → l'.activity ≡ c → HasGroup c → HasGroup a
      has c e y = built_led z (word z r.world) choice l a l' t (subst HasGroup (sym e) y)

      group : BuiltKeeps l l' → HasGroup a → Group (rows_in (word z r'.world)) r'.ledger.rows (led l'.row l'.rebalance.second l'.rebalance.after)
      group k y = rw (k.row, k.second, k.after) (subst (Group (rows_in (word z r'.world)) r'.ledger.rows) (view_led a l y) known_still)

      hands : HasHand c → Hand l'
      hands u = won_hand (word z r.world) l a l' (won_by z (word z r.world) choice l a l' t (subst HasWon (sym e) (hand_won c o u))) (balance_at a h i).hands (subst HasHand (sym e) u)

  -- or its put tries again, is refused, or rebalances the row before that one
  builds_next : IsBuilding a → Building z (word z r.world) choice l a l' → (c : Activity) → l'.activity ≡ c → IsAfterBuilding c → Balances (word z r'.world) r'.ledger.rows s c l'
  builds_next x t Activity.Retry e o = outside _ _ s Activity.Retry l' (λ u. u) tt
  builds_next x t (Activity.Leave NoRows) e o = outside _ _ s (Activity.Leave NoRows) l' (λ u. u) tt
  builds_next x t (Activity.Leave Done) e o = outside _ _ s (Activity.Leave Done) l' (λ u. u) tt
  builds_next x t (Activity.Rebalance (Rebalance.Engage Engage.Clock)) e o =
      let m = moves_by (word z r.world) r.ledger.rows s l z choice a l' t (head_open z r i l.row) (search_at a h i) e in
      let rely = own_rely z r r' s choice l a l' h i (built_visits a x).0 (built_pass a x) in
      record { fresh = λ u. rely.fresh l'.row m.fresh; lower = λ u. m.lower ∙ sym (rely.least l'.row m.fresh); group = tt; along = λ q u f. let y : None ≡ Some q = sym m.alone ∙ f in absurd (cc); apart = λ u f. let y : None ≡ Some l'.row = sym m.alone ∙ f in cc; next = λ u. absurd u; early = λ u. m.alone; hands = λ u. absurd u; frozen = λ q u. absurd u.0 }
  builds_next x t c e o = builds_on x t c e o

-- one row is not two
not_two : 1 ≡ MOST_GROUP → ⊥
not_two e = omega (arith, e)

module _ (z : Sizes) (r r' : Run) (s : ℕ) (choice : Choice) (l l' : Local) where
  -- The link of the full row is marked.

  -- what was known of its leader is known still
  still_marking : (count : ℕ) → Happens z r r' s choice l l' (Activity.Rebalance (Rebalance.Engage (Engage.MarkLink count))) → Shape z r → (n : ℕ) → count ≡ n → Group (rows_in (word z r'.world)) r'.ledger.rows (Marking l.row n)
  still_marking count h i n e = subst (λ n. Group (rows_in (word z r'.world)) r'.ledger.rows (Marking l.row n)) e (known_still z r r' s choice l (Activity.Rebalance (Rebalance.Engage (Engage.MarkLink count))) l' h i)

  -- it is not decided how many rows go
  link_opened : (count : ℕ) → Happens z r r' s choice l l' (Activity.Rebalance (Rebalance.Engage (Engage.MarkLink count))) → Shape z r → count ≡ 0 → Group (rows_in (word z r'.world)) r'.ledger.rows (Opened l.row (next_in (word z r.world) l.row))
  link_opened count h i e = subst (λ q. Group (rows_in (word z r'.world)) r'.ledger.rows (Opened l.row q)) (row_next count h i) (opens (rows_in (word z r'.world)) r'.ledger.rows l.row (still_marking count h i 0 e) (row_marked count h i))

  -- so many rows go: the row after it is claimed, or it goes alone
  link_led : (count : ℕ) → (h : Happens z r r' s choice l l' (Activity.Rebalance (Rebalance.Engage (Engage.MarkLink count)))) → Shape z r → count ≢ 0 → (next : Local) → NextCounted count (followed_by (next_in (word z r.world) l.row) l) next → Balances (word z r'.world) r'.ledger.rows s next.activity next
  link_led count h i d next (claims_row q two e) =
      let held = held_by r'.ledger.rows s l.row ((own_rely z r r' s choice l (Activity.Rebalance (Rebalance.Engage (Engage.MarkLink count))) l' h i tt (λ x. x)).fresh l.row ((balance_at (Activity.Rebalance (Rebalance.Engage (Engage.MarkLink count))) h i).fresh tt)) in
      let known = claims (rows_in (word z r'.world)) r'.ledger.rows _ (structure_keeps (Activity.Rebalance (Rebalance.Engage (Engage.MarkLink count))) h i) l.row held (still_marking count h i MOST_GROUP two) (row_marked count h i) in
      goes_undecided z r r' s choice l (Activity.Rebalance (Rebalance.Engage (Engage.MarkLink count))) l' h i (Activity.Rebalance (Rebalance.Claim Claim.Exchange)) next tt refl refl (λ u. u) (λ u. u) tt refl (λ u. (q, e))
      (subst (λ o. Group (rows_in (word z r'.world)) r'.ledger.rows (claiming l.row o)) (sym known.1 ∙ row_next count h i) known.2)
  link_led count h i d next (goes_alone n) = begins_group z r r' s choice l (Activity.Rebalance (Rebalance.Engage (Engage.MarkLink count))) l' h i next tt refl refl refl refl (led_alone (rows_in (word z r'.world)) r'.ledger.rows l.row l.rebalance.second _ ((balance_at (Activity.Rebalance (Rebalance.Engage (Engage.MarkLink count))) h i).early tt) (subst (λ q. Group (rows_in (word z r'.world)) r'.ledger.rows (Alone l.row q)) (row_next count h i) goes))
    where
      few : count ≤ MOST_GROUP
      few = subst (λ b. IsActivity z b) h.activity (i.sane.locals s l h.knows).ranges.activity

      one : (count ≢ MOST_GROUP) ⊎ (next_in (word z r.world) l.row ≡ None) → count ≡ 1
      one (inl m) = omega (arith, few, m, d)
      one (inr e) = which (cases_eq count MOST_GROUP)
        where
          which : (count ≡ MOST_GROUP) ⊎ (count ≡ MOST_GROUP → ⊥) → count ≡ 1
          which (inl two) =
              let held = held_by r'.ledger.rows s l.row ((own_rely z r r' s choice l (Activity.Rebalance (Rebalance.Engage (Engage.MarkLink count))) l' h i tt (λ x. x)).fresh l.row ((balance_at (Activity.Rebalance (Rebalance.Engage (Engage.MarkLink count))) h i).fresh tt)) in
              let known = claims (rows_in (word z r'.world)) r'.ledger.rows _ (structure_keeps (Activity.Rebalance (Rebalance.Engage (Engage.MarkLink count))) h i) l.row held (still_marking count h i MOST_GROUP two) (row_marked count h i) in
              let x : None ≡ Some known.0 = sym e ∙ sym (row_next count h i) ∙ known.1 in absurd (cc)
          which (inr m) = omega (arith, few, m, d)

      goes : Group (rows_in (word z r'.world)) r'.ledger.rows (Alone l.row ((rows_in (word z r'.world)).next l.row))
      goes = alone (rows_in (word z r'.world)) r'.ledger.rows _ (structure_keeps (Activity.Rebalance (Rebalance.Engage (Engage.MarkLink count))) h i) l.row (still_marking count h i 1 (one n)) (row_marked count h i)

  -- It is decided how many rows go.

  row_decided : (count : ℕ) → (h : Happens z r r' s choice l l' (Activity.Rebalance (Rebalance.Engage (Engage.Decide count)))) → Shape z r → (n : ℕ) → state_of (word z r.world (name.State l.row)) ≡ Some (state.Leader n) → (next : Local) → NextCounted (if n == 0 then count else n) l next → Balances (word z r'.world) r'.ledger.rows s next.activity next
  row_decided count h i n e next f = by f
    where
      b : Balances (word z r.world) r.ledger.rows s (Activity.Rebalance (Rebalance.Engage (Engage.Decide count))) l
      b = balance_at (Activity.Rebalance (Rebalance.Engage (Engage.Decide count))) h i

      m : ℕ
      m = if n == 0 then count else n

      held : IsHeld r'.ledger.rows l.row
      held = held_by r'.ledger.rows s l.row ((own_rely z r r' s choice l (Activity.Rebalance (Rebalance.Engage (Engage.Decide count))) l' h i tt (λ x. x)).fresh l.row (b.fresh tt))

      opened : Group (rows_in (word z r'.world)) r'.ledger.rows (Opened l.row l.rebalance.after)
      opened = known_still z r r' s choice l (Activity.Rebalance (Rebalance.Engage (Engage.Decide count))) l' h i

      led_by : Group (rows_in (word z r'.world)) r'.ledger.rows (Marking l.row m)
      led_by = leads (rows_in (word z r'.world)) r'.ledger.rows _ (structure_keeps (Activity.Rebalance (Rebalance.Engage (Engage.Decide count))) h i) l.row m held (decided_state count h i n e)

      bounds : (1 ≤ m) × (m ≤ MOST_GROUP)
      bounds = decided_bounds count h i n e

      known : m ≡ MOST_GROUP → (c : ℕ) × ((rows_in (word z r'.world)).next l.row ≡ Some c) × Group (rows_in (word z r'.world)) r'.ledger.rows (Claiming l.row c)
      known two = claims (rows_in (word z r'.world)) r'.ledger.rows _ (structure_keeps (Activity.Rebalance (Rebalance.Engage (Engage.Decide count))) h i) l.row held (subst (λ k. Group (rows_in (word z r'.world)) r'.ledger.rows (Marking l.row k)) two led_by) opened.0.marked

      one : (m ≢ MOST_GROUP) ⊎ (l.rebalance.after ≡ None) → m ≡ 1
      one (inl d) = omega (arith, bounds.0, bounds.1, d)
      one (inr o) = which (cases_eq m MOST_GROUP)
        where
          which : (m ≡ MOST_GROUP) ⊎ (m ≡ MOST_GROUP → ⊥) → m ≡ 1
          which (inl two) = let k = known two in let x : None ≡ Some k.0 = sym o ∙ sym opened.0.next ∙ k.1 in absurd (cc)
          which (inr d) = omega (arith, bounds.0, bounds.1, d)

      by : {next : Local} → NextCounted m l next → Balances (word z r'.world) r'.ledger.rows s next.activity next
      by (claims_row q two o) = let k = known two in goes_undecided z r r' s choice l (Activity.Rebalance (Rebalance.Engage (Engage.Decide count))) l' h i (Activity.Rebalance (Rebalance.Claim Claim.Exchange)) _ tt refl refl (λ u. u) (λ u. u) tt refl (λ u. (q, o)) (subst (λ o. Group (rows_in (word z r'.world)) r'.ledger.rows (claiming l.row o)) (sym k.1 ∙ opened.0.next) k.2)
      by (goes_alone d) = begins_group z r r' s choice l (Activity.Rebalance (Rebalance.Engage (Engage.Decide count))) l' h i _ tt refl refl refl refl (led_alone (rows_in (word z r'.world)) r'.ledger.rows l.row l.rebalance.second l.rebalance.after (b.early tt)
          (subst (λ o. Group (rows_in (word z r'.world)) r'.ledger.rows (Alone l.row o)) opened.0.next (alone (rows_in (word z r'.world)) r'.ledger.rows _ (structure_keeps (Activity.Rebalance (Rebalance.Engage (Engage.Decide count))) h i) l.row (subst (λ k. Group (rows_in (word z r'.world)) r'.ledger.rows (Marking l.row k)) (one d) led_by) opened.0.marked)))

  -- The row after it is claimed.

  -- it goes along, as this seat made it or found it
  next_claimed : (h : Happens z r r' s choice l l' (Activity.Rebalance (Rebalance.Claim Claim.Exchange))) → Shape z r → (state_of (word z r.world (name.State (row_after l))) ≡ Some state.Normal) ⊎ (state_of (word z r.world (name.State (row_after l))) ≡ Some (state.Follower l.row)) → Group (rows_in (word z r'.world)) r'.ledger.rows (marking_next l.row l.rebalance.after)
  next_claimed h i e =
      let b = balance_at (Activity.Rebalance (Rebalance.Claim Claim.Exchange)) h i in
      let there = next_there (Activity.Rebalance (Rebalance.Claim Claim.Exchange)) h i tt in
      let known : Group (rows_in (word z r'.world)) r'.ledger.rows (Claiming l.row (row_after l)) = subst (λ o. Group (rows_in (word z r'.world)) r'.ledger.rows (claiming l.row o)) there (known_still z r r' s choice l (Activity.Rebalance (Rebalance.Claim Claim.Exchange)) l' h i) in
      let held = held_by r'.ledger.rows s l.row ((own_rely z r r' s choice l (Activity.Rebalance (Rebalance.Claim Claim.Exchange)) l' h i tt (λ x. x)).fresh l.row (b.fresh tt)) in
      let k = structure_keeps (Activity.Rebalance (Rebalance.Claim Claim.Exchange)) h i in
      subst (λ o. Group (rows_in (word z r'.world)) r'.ledger.rows (marking_next l.row o)) (sym there)
      (takes_along (rows_in (word z r'.world)) r'.ledger.rows _ k l.row (row_after l) (k.closed.linked l.row (row_after l) held known.0.next) known (claimed_state h i e))

  -- it leads a group of its own: the full row goes alone
  next_left : (h : Happens z r r' s choice l l' (Activity.Rebalance (Rebalance.Claim Claim.Exchange))) → Shape z r → (count : ℕ) → state_of (word z r.world (name.State (row_after l))) ≡ Some (state.Leader count) → Balances (word z r'.world) r'.ledger.rows s (Activity.Rebalance (Rebalance.Freeze Freeze.Count)) (to_group l).local
  next_left h i count e =
      let b = balance_at (Activity.Rebalance (Rebalance.Claim Claim.Exchange)) h i in
      let there = next_there (Activity.Rebalance (Rebalance.Claim Claim.Exchange)) h i tt in
      let known : Group (rows_in (word z r'.world)) r'.ledger.rows (Claiming l.row (row_after l)) = subst (λ o. Group (rows_in (word z r'.world)) r'.ledger.rows (claiming l.row o)) there (known_still z r r' s choice l (Activity.Rebalance (Rebalance.Claim Claim.Exchange)) l' h i) in
      begins_group z r r' s choice l (Activity.Rebalance (Rebalance.Claim Claim.Exchange)) l' h i _ tt refl refl refl refl (led_alone (rows_in (word z r'.world)) r'.ledger.rows l.row l.rebalance.second l.rebalance.after (b.early tt)
      (subst (λ o. Group (rows_in (word z r'.world)) r'.ledger.rows (Alone l.row o)) (sym there) (leaves (rows_in (word z r'.world)) r'.ledger.rows _ (structure_keeps (Activity.Rebalance (Rebalance.Claim Claim.Exchange)) h i) l.row (row_after l) known (subst IsLeader (sym (leader_left h i count e)) tt))))

  -- its link is marked: both rows are the group
  both_marked : (h : Happens z r r' s choice l l' (Activity.Rebalance (Rebalance.Claim Claim.MarkLink))) → Shape z r → Balances (word z r'.world) r'.ledger.rows s (Activity.Rebalance (Rebalance.Freeze Freeze.Count)) (next_marked (next_in (word z r.world) (row_after l)) l).local
  both_marked h i =
      let there = next_there (Activity.Rebalance (Rebalance.Claim Claim.MarkLink)) h i tt in
      let known : Group (rows_in (word z r'.world)) r'.ledger.rows (MarkingNext l.row (row_after l)) = subst (λ o. Group (rows_in (word z r'.world)) r'.ledger.rows (marking_next l.row o)) there (known_still z r r' s choice l (Activity.Rebalance (Rebalance.Claim Claim.MarkLink)) l' h i) in
      let m = marking_along h i in
      let two : Group (rows_in (word z r'.world)) r'.ledger.rows (Pair l.row (row_after l) ((rows_in (word z r'.world)).next (row_after l))) = pair (rows_in (word z r'.world)) r'.ledger.rows _ (structure_keeps (Activity.Rebalance (Rebalance.Claim Claim.MarkLink)) h i) l.row (row_after l) known m.marked in
      begins_group z r r' s choice l (Activity.Rebalance (Rebalance.Claim Claim.MarkLink)) l' h i _ tt refl refl refl refl
      (subst (λ o. Group (rows_in (word z r'.world)) r'.ledger.rows (led l.row o (next_in (word z r.world) (row_after l)))) (sym there) (subst (λ o. Group (rows_in (word z r'.world)) r'.ledger.rows (Pair l.row (row_after l) o)) (m.next (row_after l)) two))

-- by the arrow that the seat takes
pub balances_own : (z : Sizes) (r r' : Run) (s : ℕ) (choice : Choice) (l : Local) (a : Activity) (l' : Local) → Arrow z (word z r.world) s choice l a l' → Happens z r r' s choice l l' a → Shape z r → Balances (word z r'.world) r'.ledger.rows s l'.activity l'
balances_own z r r' s choice l a l' (builds b next y t) h i = builds_next z r r' s choice l b l' h i y t l'.activity refl (built_next z (word z r.world) choice l b l' t)
balances_own z r r' s choice l a l' (finds_full e) h i = sees_full z r r' s choice l _ l' h i tt tt (λ x. x)
balances_own z r r' s choice l a l' (takes_full e) h i = sees_full z r r' s choice l _ l' h i tt tt (λ x. x)
balances_own z r r' s choice l a l' (announces_full e) h i = sees_full z r r' s choice l _ l' h i tt tt (λ x. x)
balances_own z r r' s choice l a l' (stamps_full e) h i = sees_full z r r' s choice l _ l' h i tt tt (λ x. x)
balances_own z r r' s choice l a l' (tidies rows e) h i = tidies_row z r r' s choice l _ l' h i tt tt (λ x. x)
balances_own z r r' s choice l a l' (clock_serves e) h i = goes_undecided z r r' s choice l _ l' h i (Activity.Rebalance (Rebalance.Engage Engage.Epoch)) _ tt refl refl (λ u. u) (λ u. u) tt refl (λ u. absurd u) tt
balances_own z r r' s choice l a l' (epoch_serves e) h i = goes_undecided z r r' s choice l _ l' h i (Activity.Rebalance (Rebalance.Engage Engage.State)) _ tt refl refl (λ u. u) (λ u. u) tt refl (λ u. absurd u) tt
balances_own z r r' s choice l a l' (finds_infant seat e) h i = goes_undecided z r r' s choice l _ l' h i (Activity.Rebalance (Rebalance.Engage (Engage.Normal seat))) _ tt refl refl (λ u. u) (λ u. u) tt refl (λ u. absurd u) tt
balances_own z r r' s choice l a l' (finds_normal e) h i = goes_undecided z r r' s choice l _ l' h i (Activity.Rebalance (Rebalance.Engage Engage.Lead)) _ tt refl refl (λ u. u) (λ u. u) tt refl (λ u. absurd u) tt
balances_own z r r' s choice l a l' (finds_leader count e) h i = found_leader z r r' s choice l _ l' h i count _ tt tt refl refl refl (read_state (Activity.Rebalance (Rebalance.Engage Engage.State)) h i _ e (λ x. x))
balances_own z r r' s choice l a l' (normalises seat) h i = goes_undecided z r r' s choice l _ l' h i (Activity.Rebalance (Rebalance.Engage Engage.State)) _ tt refl refl (λ u. u) (λ u. u) tt refl (λ u. absurd u) tt
balances_own z r r' s choice l a l' (engages e) h i = found_leader z r r' s choice l _ l' h i 0 _ tt tt refl refl refl (engaged_state h e)
balances_own z r r' s choice l a l' (is_engaged e) h i = goes_undecided z r r' s choice l _ l' h i (Activity.Rebalance (Rebalance.Engage Engage.State)) _ tt refl refl (λ u. u) (λ u. u) tt refl (λ u. absurd u) tt
balances_own z r r' s choice l a l' (finds_follower leader e) h i = goes_undecided z r r' s choice l _ l' h i (Activity.Rebalance (Rebalance.Left Left.Start)) _ tt refl refl (λ u. u) (λ u. u) tt refl (λ u. absurd u) (follows (rows_in (word z r'.world)) r'.ledger.rows l.row leader (read_state (Activity.Rebalance (Rebalance.Engage Engage.State)) h i _ e (λ x. x)))
balances_own z r r' s choice l a l' (marks_link count p e f) h i = goes_undecided z r r' s choice l _ l' h i (Activity.Rebalance (Rebalance.Claim Claim.Count)) _ tt refl refl (λ u. u) (λ u. u) tt refl (λ u. (p, f)) (link_opened z r r' s choice l l' count h i e)
balances_own z r r' s choice l a l' (marks_last count e f) h i = goes_undecided z r r' s choice l _ l' h i (Activity.Rebalance (Rebalance.Engage (Engage.Decide 1))) _ tt refl refl (λ u. u) (λ u. u) tt refl (λ u. absurd (not_two u)) (link_opened z r r' s choice l l' count h i e)
balances_own z r r' s choice l a l' (marks_led count next e n) h i = link_led z r r' s choice l l' count h i e next n
balances_own z r r' s choice l a l' (decides count n next e f) h i = row_decided z r r' s choice l l' count h i n e next f
balances_own z r r' s choice l a l' counts_next h i = goes_undecided z r r' s choice l _ l' h i _ _ tt refl refl (λ u. u) (λ u. u) tt refl (λ u. (balance_at (Activity.Rebalance (Rebalance.Claim Claim.Count)) h i).next tt) (known_still z r r' s choice l (Activity.Rebalance (Rebalance.Claim Claim.Count)) l' h i)
balances_own z r r' s choice l a l' (claims_next e) h i = goes_undecided z r r' s choice l _ l' h i (Activity.Rebalance (Rebalance.Claim Claim.MarkLink)) _ tt refl refl (λ u. u) (λ u. u) tt refl (λ u. (balance_at (Activity.Rebalance (Rebalance.Claim Claim.Exchange)) h i).next tt) (next_claimed z r r' s choice l l' h i e)
balances_own z r r' s choice l a l' (next_is_infant seat e) h i = goes_undecided z r r' s choice l _ l' h i (Activity.Rebalance (Rebalance.Claim (Claim.Normal seat))) _ tt refl refl (λ u. u) (λ u. u) tt refl (λ u. (balance_at (Activity.Rebalance (Rebalance.Claim Claim.Exchange)) h i).next tt) (known_still z r r' s choice l (Activity.Rebalance (Rebalance.Claim Claim.Exchange)) l' h i)
balances_own z r r' s choice l a l' (normalises_next seat) h i = goes_undecided z r r' s choice l _ l' h i (Activity.Rebalance (Rebalance.Claim Claim.Exchange)) _ tt refl refl (λ u. u) (λ u. u) tt refl (λ u. (balance_at (Activity.Rebalance (Rebalance.Claim (Claim.Normal seat))) h i).next tt) (known_still z r r' s choice l (Activity.Rebalance (Rebalance.Claim (Claim.Normal seat))) l' h i)
balances_own z r r' s choice l a l' (next_leads count e) h i = next_left z r r' s choice l l' h i count e
balances_own z r r' s choice l a l' marks_next h i = both_marked z r r' s choice l l' h i
balances_own z r r' s choice l a l' (begins_left q e d) h i = goes_undecided z r r' s choice l _ l' h i (Activity.Rebalance (Rebalance.Left Left.Next)) _ tt refl refl (λ u. u) (λ u. u) tt refl (λ u. absurd u) (known_still z r r' s choice l (Activity.Rebalance (Rebalance.Left Left.Start)) l' h i)
balances_own z r r' s choice l a l' (leads_left q e d) h i = goes_undecided z r r' s choice l _ l' h i (Activity.Rebalance (Rebalance.Left Left.NextLeast)) _ tt refl refl (λ u. u) (λ u. u) tt refl (λ u. absurd u) (known_still z r r' s choice l (Activity.Rebalance (Rebalance.Left Left.Next)) l' h i)
balances_own z r r' s choice l a l' (walks_left o) h i = goes_undecided z r r' s choice l _ l' h i (Activity.Rebalance (Rebalance.Left Left.Next)) _ tt refl refl (λ u. u) (λ u. u) tt refl (λ u. absurd u) (known_still z r r' s choice l (Activity.Rebalance (Rebalance.Left Left.NextLeast)) l' h i)
balances_own z r r' s choice l a l' (takes_leader q e) h i =
    let x = search_at (Activity.Rebalance (Rebalance.Left Left.Start)) h i in
    let p = x.some tt in
    at_leader z r r' s choice l (Activity.Rebalance (Rebalance.Left Left.Start)) l' h i tt p.0 p.1 (x.fresh p.0 tt p.1) _ (ap (λ b. least_in (word z r.world) (row_or_first b)) p.1) _ refl refl refl
balances_own z r r' s choice l a l' (reaches_leader e) h i =
    let x = search_at (Activity.Rebalance (Rebalance.Left Left.Next)) h i in
    let p = x.some tt in
    at_leader z r r' s choice l (Activity.Rebalance (Rebalance.Left Left.Next)) l' h i tt p.0 p.1 (x.fresh p.0 tt p.1) _ (x.least p.0 tt p.1) _ refl refl refl
balances_own z r r' s choice l a l' (sees_stamped j c version next y n) h i = look_outside _ _ s z _ next _ n
balances_own z r r' s choice l a l' (sees_neither j next y n) h i = look_outside _ _ s z _ next _ n
balances_own z r r' s choice l a l' (is_gone_by next y n) h i = look_outside _ _ s z _ next _ n
balances_own z r r' s choice l a l' (helps next y n) h i = look_outside _ _ s z _ next _ n
balances_own z r r' s choice l a l' (finds_stamped c version next y n) h i = look_outside _ _ s z _ next _ n
balances_own z r r' s choice l a l' (finds_other next y n) h i = look_outside _ _ s z _ next _ n
balances_own z r r' s choice l a l' (first_ends next e n) h i = left_over_outside _ _ s _ next n
balances_own z r r' s choice l a l' (list_ends next e n) h i = left_over_outside _ _ s _ next n
balances_own z r r' s choice l a l' (key_above next y n) h i = left_over_outside _ _ s _ next n
balances_own z r r' s choice l a l' (left_over_gone_by next y n) h i = left_over_outside _ _ s _ next n
balances_own z r r' s choice l a l' (gathers_left_over next n) h i = left_over_outside _ _ s _ next n
balances_own z r r' s choice l a l' freezes_count h i = group_on z r r' s choice l _ l' h i (Activity.Rebalance (Rebalance.Freeze (Freeze.Look 0))) _ tt tt refl refl refl refl (λ u. same_hand l _ refl refl refl refl ((balance_at (Activity.Rebalance (Rebalance.Freeze Freeze.Count)) h i).hands tt)) frozen
  where
    frozen : (q : ℕ) → IsBehind l q ⊎ (q ≡ l.rebalance.hand) → (rows_in (word z r'.world)).frozen q ≡ true
    frozen q (inl u) = frozen_still z r r' s choice l (Activity.Rebalance (Rebalance.Freeze Freeze.Count)) l' h i q u
    frozen q (inr u) = ap (λ p. (rows_in (word z r'.world)).frozen p) u ∙ (freezing h i).frozen
balances_own z r r' s choice l a l' (sees_idle j e) h i = hand_on z r r' s choice l _ l' h i (Activity.Rebalance (Rebalance.Freeze (Freeze.Entry j))) _ tt tt tt refl refl refl refl refl refl (λ q x. x)
balances_own z r r' s choice l a l' (sees_unstamped j c e) h i = hand_on z r r' s choice l _ l' h i (Activity.Rebalance (Rebalance.Freeze (Freeze.Entry j))) _ tt tt tt refl refl refl refl refl refl (λ q x. x)
balances_own z r r' s choice l a l' (remembers j c version e o) h i = hand_on z r r' s choice l _ l' h i (Activity.Rebalance (Rebalance.Freeze (Freeze.Look (j + 1)))) _ tt tt tt refl refl refl refl refl refl (λ q x. x)
balances_own z r r' s choice l a l' (remembers_last j c version next e o n) h i = row_frozen_on z r r' s choice l _ l' h i _ next n tt tt refl refl refl refl refl (λ q x. x)
balances_own z r r' s choice l a l' (sees_frozen j e o) h i = hand_on z r r' s choice l _ l' h i (Activity.Rebalance (Rebalance.Freeze (Freeze.Look (j + 1)))) _ tt tt tt refl refl refl refl refl refl (λ q x. x)
balances_own z r r' s choice l a l' (sees_frozen_last j next e o n) h i = row_frozen_on z r r' s choice l _ l' h i _ next n tt tt refl refl refl refl refl (λ q x. x)
balances_own z r r' s choice l a l' (freezes_entry j e o) h i = hand_on z r r' s choice l _ l' h i (Activity.Rebalance (Rebalance.Freeze (Freeze.Look (j + 1)))) _ tt tt tt refl refl refl refl refl refl (λ q x. x)
balances_own z r r' s choice l a l' (freezes_last j next e o n) h i = row_frozen_on z r r' s choice l _ l' h i _ next n tt tt refl refl refl refl refl (λ q x. x)
balances_own z r r' s choice l a l' (looks_again j e) h i = hand_on z r r' s choice l _ l' h i (Activity.Rebalance (Rebalance.Freeze (Freeze.Look j))) _ tt tt tt refl refl refl refl refl refl (λ q x. x)
balances_own z r r' s choice l a l' (sees_quiet j e o) h i = scan_on z r r' s choice l _ l' h i (Activity.Rebalance (Rebalance.Freeze (Freeze.Scan (j + 1)))) _ tt tt (λ u. absurd u) refl refl refl refl (λ q x. x)
balances_own z r r' s choice l a l' (sees_quiet_last j e o) h i = scan_on z r r' s choice l _ l' h i (Activity.Rebalance (Rebalance.Gather Gather.Link)) _ tt tt (λ u. at_first refl refl) refl refl refl refl (λ q x. x)
balances_own z r r' s choice l a l' (helps_scan j clock e) h i = scan_on z r r' s choice l _ l' h i (Activity.Rebalance (Rebalance.Freeze (Freeze.Draw j))) _ tt tt (λ u. absurd u) refl refl refl refl (λ q x. x)
balances_own z r r' s choice l a l' (sees_drawn j version e o) h i = scan_on z r r' s choice l _ l' h i (Activity.Rebalance (Rebalance.Freeze (Freeze.Scan (j + 1)))) _ tt tt (λ u. absurd u) refl refl refl refl (λ q x. x)
balances_own z r r' s choice l a l' (sees_drawn_last j version e o) h i = scan_on z r r' s choice l _ l' h i (Activity.Rebalance (Rebalance.Gather Gather.Link)) _ tt tt (λ u. at_first refl refl) refl refl refl refl (λ q x. x)
balances_own z r r' s choice l a l' (draws_for j) h i = scan_on z r r' s choice l _ l' h i (Activity.Rebalance (Rebalance.Freeze (Freeze.Settle j))) _ tt tt (λ u. absurd u) refl refl refl refl (λ q x. x)
balances_own z r r' s choice l a l' (settles_scan j e o) h i = scan_on z r r' s choice l _ l' h i (Activity.Rebalance (Rebalance.Freeze (Freeze.Scan (j + 1)))) _ tt tt (λ u. absurd u) refl refl refl refl (λ q x. x)
balances_own z r r' s choice l a l' (settles_last j e o) h i = scan_on z r r' s choice l _ l' h i (Activity.Rebalance (Rebalance.Gather Gather.Link)) _ tt tt (λ u. at_first refl refl) refl refl refl refl (λ q x. x)
balances_own z r r' s choice l a l' (finds_drawn j version e o) h i = scan_on z r r' s choice l _ l' h i (Activity.Rebalance (Rebalance.Freeze (Freeze.Scan (j + 1)))) _ tt tt (λ u. absurd u) refl refl refl refl (λ q x. x)
balances_own z r r' s choice l a l' (finds_drawn_last j version e o) h i = scan_on z r r' s choice l _ l' h i (Activity.Rebalance (Rebalance.Gather Gather.Link)) _ tt tt (λ u. at_first refl refl) refl refl refl refl (λ q x. x)
balances_own z r r' s choice l a l' (finds_no_scan j e o) h i = scan_on z r r' s choice l _ l' h i (Activity.Rebalance (Rebalance.Freeze (Freeze.Scan (j + 1)))) _ tt tt (λ u. absurd u) refl refl refl refl (λ q x. x)
balances_own z r r' s choice l a l' (finds_no_scan_last j e o) h i = scan_on z r r' s choice l _ l' h i (Activity.Rebalance (Rebalance.Gather Gather.Link)) _ tt tt (λ u. at_first refl refl) refl refl refl refl (λ q x. x)
balances_own z r r' s choice l a l' (take_leads c e) h i = hand_on z r r' s choice l _ l' h i (Activity.Rebalance (Rebalance.Gather Gather.Key)) _ tt tt tt refl refl refl refl refl refl (λ q x. x)
balances_own z r r' s choice l a l' (takes_left m e n o) h i = hand_on z r r' s choice l _ l' h i (Activity.Rebalance (Rebalance.Gather Gather.LeftOverKey)) _ tt tt tt refl refl refl refl refl refl (λ q x. x)
balances_own z r r' s choice l a l' takes_key h i = hand_on z r r' s choice l _ l' h i (Activity.Rebalance (Rebalance.Gather Gather.Version)) _ tt tt tt refl refl refl refl refl refl (λ q x. x)
balances_own z r r' s choice l a l' takes_version h i = hand_on z r r' s choice l _ l' h i (Activity.Rebalance (Rebalance.Gather Gather.Value)) _ tt tt tt refl refl refl refl refl refl (λ q x. x)
balances_own z r r' s choice l a l' keeps_taken h i = hand_on z r r' s choice l _ l' h i (Activity.Rebalance (Rebalance.Gather Gather.Link)) _ tt tt tt refl refl refl refl refl refl (λ q x. x)
balances_own z r r' s choice l a l' takes_left_key h i = hand_on z r r' s choice l _ l' h i (Activity.Rebalance (Rebalance.Gather Gather.LeftOverValue)) _ tt tt tt refl refl refl refl refl refl (λ q x. x)
balances_own z r r' s choice l a l' (keeps_left m n o) h i = hand_on z r r' s choice l _ l' h i (Activity.Rebalance (Rebalance.Gather Gather.LeftOverKey)) _ tt tt tt refl refl refl refl refl refl (λ q x. x)
balances_own z r r' s choice l a l' (takes_no_more next e m n) h i = row_gathered_on z r r' s choice l _ l' h i _ next n tt tt refl refl refl refl refl (λ q x. (tt, x))
balances_own z r r' s choice l a l' (keeps_no_more next m n) h i = row_gathered_on z r r' s choice l _ l' h i _ next n tt tt refl refl refl refl refl (λ q x. (tt, x))
balances_own z r r' s choice l a l' (asks_of_pin next c n) h i = no_call_of_pin _ h i c
balances_own z r r' s choice l a l' (looks_at_pin j next n) h i = absurd (kind_at _ h i)
balances_own z r r' s choice l a l' _ h i = outside _ _ s _ _ (λ x. x) tt

-- another seat
pub balances_other : (z : Sizes) (r r' : Run) (s : ℕ) (choice : Choice) (l : Local) (a : Activity) (l' : Local) → Happens z r r' s choice l l' a → Shape z r → (t : ℕ) (k : Local) → t ≢ s → slice_get r.world.locals t ≡ Some k → Balances (word z r'.world) r'.ledger.rows t k.activity k
balances_other z r r' s choice l a l' h i t k d g = record {
  fresh = λ x. let p = rely x in p.fresh k.row (b.fresh x);
  lower = λ x. let p = rely x in b.lower x ∙ sym (p.least k.row (b.fresh x));
  group = group_keeps a h i t (view_of k.activity k) (named _ _ i.rows.closed t k.activity k b) b.group;
  along = λ q x e. (rely x).fresh q (b.along q x e);
  apart = b.apart;
  next = b.next;
  early = b.early;
  hands = b.hands;
  frozen = λ q x. (linked_keeps a h i q (fresh_linked r.ledger.rows t q (group_named z r i t k g (frozen_group k.activity k q x) q (frozen_of_group k.activity k q b.hands x)))).frozen (b.frozen q x);
}
  where
    b : Balances (word z r.world) r.ledger.rows t k.activity k
    b = i.balances t k g

    rely : IsBalancing k.activity → RelyRows (word z r.world) (word z r'.world) r.ledger.rows r'.ledger.rows t
    rely x = which (is_visiting k.activity)
      where
        which : IsVisiting k.activity ⊎ (IsVisiting k.activity → ⊥) → RelyRows (word z r.world) (word z r'.world) r.ledger.rows r'.ledger.rows t
        which (inl y) = let p = (i.visits t k g).in_visit y in rely_rows a h i t p.since p.visits (others_kept a h t d ∙ p.visits)
        which (inr n) = absurd (n (balances_visits k.activity x))
