-- A seat that is fair stays so over its own events, up to the next mark: where a rebalance would
-- begin anew its full row would be in the list no more.
use Rattle.std.proofs.Common.{ℕ, ◌≡◌, ◌≢◌, ◌⊎◌, inl, inr, ◌+◌, true, false, Option, Some, refl, sym, ◌∙◌, ap, subst}
use Rattle.kw_rows.specs.Group.{Group}
use Rattle.kw_rows.specs.Ledger.{Ledger, IsLive}
use Rattle.kw_rows.specs.Rows.{Rows}
use Rattle.kw_rows.specs.RowState.{IsClaimable}
use Rattle.kw_rows.proofs.Named.{normal_live}
use Rattle.kw_rows.proofs.Sets.{live_state}
use Rattle.kw_words.specs.declared.layout.Name.TheVariants as name
use Rattle.kw_words.specs.Link.{link_of}
use Rattle.kw_words.specs.State.{state_of}
use Rattle.kw_world.specs.declared.activity.Activity.{Activity}
use Rattle.kw_world.specs.declared.event.Choice.{Choice}
use Rattle.kw_world.specs.declared.event.Choice.TheVariants.{Begin, Go, Guess, Stop}
use Rattle.kw_world.specs.declared.local.Local.{Local}
use Rattle.kw_world.specs.declared.operation.Action.TheVariants.{Load}
use Rattle.kw_world.specs.declared.rebalance.Afterwards.{Afterwards}
use Rattle.kw_world.specs.declared.rebalance.Afterwards.TheVariants.{TryAgain, Refuse, MoveLeft}
use Rattle.kw_world.specs.ClaimTransitions.{row_after}
use Rattle.kw_world.specs.ReplaceTransitions.{before_transition, replaced_link}
use Rattle.kw_world.specs.SeekTransitions.{with_row}
use Rattle.kw_world.specs.Sizes.{Sizes}
use Rattle.kw_world.specs.Step.{word}
use Rattle.kw_world.specs.Transition.{row_linked, row_or_first}
use Rattle.kw_world.specs.WriteTransitions.{unmarked_link}
use Rattle.kw_core.specs.Run.{Run}
use Rattle.kw_core.specs.Stages.{IsBalancing}
use Rattle.kw_core.specs.Words.{Words}
use Rattle.kw_core.proofs.Arrows.{Arrow, NextLook, looks, lists, NextLeftOver, goes_to_left_over, answers, ends_scan, scans_on, builds, begins, enters, enters_scan, is_spent, waits, stores_waiting, draws, settles_empty, settles, starts_at_head, guesses, guess_fails, takes_head, guess_serves, guess_is_above, stops, puts_in_last, reads_last, reaches_next, walks_on, puts_before, reads_before, sees_pending, sees_stamped, sees_neither, is_wanted, is_gone_by, loads_to_help, helps, finds_stamped, finds_other, begins_behind, begins_at_first, first_leads, first_ends, list_leads, list_ends, key_below, key_within, key_above, loads_version, gathers_listed, left_over_wanted, left_over_gone_by, gathers_left_over, clears_scan, clears, leaves, retries, enters_again, clock_is_spent, ends_at_clock, epoch_is_spent, ends_at_epoch, finds_other_state, ends_at_state, marks_led, decides, decides_not, ends_undecided, claims_not, ends_unclaimed, takes_leader, reaches_leader, head_follows, ends_at_head, none_is_left, ends_at_none, passes_left, ends_past, remembers_last, sees_frozen_last, freezes_last, takes_no_more, keeps_no_more, asks_of_pin, settles_pin, stores_pin, clears_pin, looks_at_pin}
use Rattle.kw_core.proofs.Building.{Building, IsBuilding, first_is_taken, sought_is_taken, pass_is_old, pass_is_young, takes_row, loses_row, gives_one_back, gives_last_back, writes_first, writes_entry, writes_no_cell, writes_after, begins_before, takes_head_before, leads_to_full, leads_on_marked, leads_nowhere, walks_past, replaces_row, is_marked_before, is_replaced, makes_normal, makes_last_normal, draws_number, retires_ahead, retires_row, retires_and_leaves}
use Rattle.kw_core.proofs.Grouping.{NextCounted, claims_row, goes_alone, NextFrozen, freezes_ahead, froze_all, NextGathered, gathers_ahead, gathered_all}
use Rattle.kw_core.proofs.Happens.{Happens}
use Rattle.kw_core.proofs.NextBuilt.{GivenBack, tries_again, was_done, is_refused_rows, was_served, moves_left, NextBack, gives_back, has_none, NextSeek, asks, has_asked, NextPass, looks_on, has_looked, NextTaken, wants_more, has_enough, NextNewRow, writes_row, has_written, NextNewCell, fills, empties, has_cells, NextNewEntry, writes_idle, has_entries, NextBefore, is_first, is_behind}
use Rattle.kw_core.proofs.Pinning.{NextPinLook, sees_pin, sees_pin_last, sees_no_pin, sees_no_pin_last}
use Rattle.kw_shape.specs.Balances.{claiming}
use Rattle.kw_shape.specs.ReachedRows.{IsReached}
use Rattle.kw_shape.specs.RowsIn.{rows_in, state_seen}
use Rattle.kw_shape.specs.Shape.{Shape}
use Rattle.kw_shape.proofs.LinkedRows.{balance_at, live_reached, search_at}
use Rattle.kw_laws.specs.Laws.{KeepsLaws, IsLeavingBefore, IsReachedState, IsReachingNext, IsStated, stated_row}
use Rattle.kw_alone.specs.Fair.{IsFair, IsStart}
use Rattle.kw_alone.specs.Marks.{IsMark, ends, wins, moves}
use Rattle.kw_alone.proofs.Living.{claim_on, decide_on, engage_on, live_stays}
use Rattle.kw_alone.proofs.Prices.{not_put}

-- the event is a mark, or leaves the seat fair
abbrev pub StaysFair : Words → Ledger → Activity → Local → Type 0
StaysFair v g a k = IsMark a k.activity ⊎ IsFair v g k.activity k

-- Where a part of what follows has no event of its own.

module _ (v : Words) (g : Ledger) where
  look_fair : (z : Sizes) (j : ℕ) (m : Local) (nx : Activity) → NextLook z j nx → IsFair v g nx (record m { activity = nx })
  look_fair z j m nx (looks h) = tt
  look_fair z j m nx (lists h) = tt

  left_over_fair : (m k : Local) → NextLeftOver m k → IsFair v g k.activity k
  left_over_fair m k (goes_to_left_over n e) = tt
  left_over_fair m k (answers e c) = tt
  left_over_fair m k (ends_scan e c d) = tt
  left_over_fair m k (scans_on r e c n d) = λ p. let x : true ≡ false = sym p ∙ not_put m.call c in absurd (cc)

  given_fair : (a : Activity) (b : Afterwards) (m k : Local) → IsBalancing a → b ≢ TryAgain → GivenBack m b k → StaysFair v g a k
  given_fair a b m k at n (tries_again t) = absurd (n refl)
  given_fair a b m k at n (was_done t) = absurd (n refl)
  given_fair a b m k at n (is_refused_rows t) = inr tt
  given_fair a b m k at n (was_served t) = inr tt
  given_fair a b m k at n moves_left = inl (moves a at)

  back_fair : (a : Activity) (b : Afterwards) (m k : Local) → IsBalancing a → b ≢ TryAgain → NextBack b m k → StaysFair v g a k
  back_fair a b m k at n (gives_back h) = inr n
  back_fair a b m k at n (has_none x h w) = given_fair a b m k at n w

  not_again : Refuse ≢ TryAgain
  not_again e = absurd (cc)

  not_anew : MoveLeft ≢ TryAgain
  not_anew e = absurd (cc)

  seek_fair : (a : Activity) (r : ℕ) (m k : Local) → IsBalancing a → IsLive g m.row → NextSeek r m k → StaysFair v g a k
  seek_fair a r m k at f (asks h) = inr f
  seek_fair a r m k at f (has_asked x h b) = back_fair a Refuse m k at not_again b

  pass_fair : (z : Sizes) (i : ℕ) (m k : Local) → IsLive g m.row → NextPass z i m k → IsFair v g k.activity k
  pass_fair z i m k f (looks_on h) = f
  pass_fair z i m k f (has_looked h) = f

  taken_fair : (a : Activity) (r : ℕ) (m k : Local) → IsBalancing a → IsLive g m.row → NextTaken r m k → StaysFair v g a k
  taken_fair a r m k at f (wants_more x h w) = seek_fair a r m k at f w
  taken_fair a r m k at f (has_enough h) = inr f

  pin_look_fair : (z : Sizes) (i w : ℕ) (m k : Local) → IsLive g m.row → NextPinLook z i w m k → IsFair v g k.activity k
  pin_look_fair z i w m k f (sees_pin version e h) = f
  pin_look_fair z i w m k f (sees_pin_last version e h) = f
  pin_look_fair z i w m k f (sees_no_pin e h) = f
  pin_look_fair z i w m k f (sees_no_pin_last e h) = f

  row_fair : (m k : Local) → IsLive g m.row → NextNewRow m k → IsFair v g k.activity k
  row_fair m k f (writes_row h) = f
  row_fair m k f (has_written h) = f

  cell_fair : (z : Sizes) (j : ℕ) (m k : Local) → IsLive g m.row → NextNewCell z j m k → IsFair v g k.activity k
  cell_fair z j m k f (fills h i) = f
  cell_fair z j m k f (empties h i) = f
  cell_fair z j m k f (has_cells x h w) = row_fair m k f w

  entry_fair : (z : Sizes) (i : ℕ) (m k : Local) → IsLive g m.row → NextNewEntry z i m k → IsFair v g k.activity k
  entry_fair z i m k f (writes_idle h) = f
  entry_fair z i m k f (has_entries x h w) = cell_fair z 0 m k f w

  before_fair : (r : ℕ) (m k : Local) → IsLive g m.row → (r ≡ m.row → row_linked (link_of (v name.Head)) ≡ Some m.row) → NextBefore r m k → IsFair v g k.activity k
  before_fair r m k f o (is_first h) = o h
  before_fair r m k f o (is_behind h) = f

  counted_fair : (count : ℕ) (m k : Local) → IsLive g m.row → NextCounted count m k → IsFair v g k.activity k
  counted_fair count m k f (claims_row r e o) = f
  counted_fair count m k f (goes_alone d) = f

  frozen_fair : (m k : Local) → IsLive g m.row → NextFrozen m k → IsFair v g k.activity k
  frozen_fair m k f (freezes_ahead r e) = f
  frozen_fair m k f (froze_all e) = f

  gathered_fair : (z : Sizes) (m k : Local) → IsLive g m.row → NextGathered z m k → IsFair v g k.activity k
  gathered_fair z m k f (gathers_ahead r e) = f
  gathered_fair z m k f (gathered_all e) = f

-- the walk to the row before begins by a load, with a guess or without one
before_loads : (choice : Choice) (l : Local) → (before_transition choice l).operation.action ≡ Load
before_loads (Begin call) l = refl
before_loads Go l = refl
before_loads (Guess r) l = refl
before_loads Stop l = refl

-- the row after the full one is one that may be claimed
claimable : (w : Rows) (g : Ledger) (r c : ℕ) (after : Option ℕ) → after ≡ Some c → Group w g (claiming r after) → IsLive g r → IsClaimable r (w.state c)
claimable w g r c after e k a = (subst (λ x. Group w g (claiming r x)) e k).2 a

-- new rows are written elsewhere
not_start : (a : Activity) → IsBuilding a → IsStart a → ⊥
not_start (Activity.Rebalance _) b x = x
not_start _ b x = b

-- The rows of a run.

module _ (z : Sizes) (r : Run) (i : Shape z r) where
  -- the first row is in the list
  head_live : IsLive r.ledger.rows (row_or_first (row_linked (link_of (word z r.world name.Head))))
  head_live = let c = i.rows.chain in subst (IsLive r.ledger.rows) (ap row_or_first (sym c.leads)) c.first_live

  -- where that is this row, the link of the head leads to it
  head_full : (q : ℕ) → row_or_first (row_linked (link_of (word z r.world name.Head))) ≡ q → row_linked (link_of (word z r.world name.Head)) ≡ Some q
  head_full q e = let c = i.rows.chain in c.leads ∙ ap Some (ap row_or_first (sym c.leads) ∙ e)

  -- a row of the list is reached
  reached : (q : ℕ) → IsLive r.ledger.rows q → IsReached (word z r.world) q
  reached q a = live_reached (word z r.world) r.ledger.rows i.rows.chain q a

-- Each event.

module _ (z : Sizes) (r r' : Run) (s : ℕ) (choice : Choice) (l : Local) where
  abbrev v' : Words
  v' = word z r'.world

  abbrev g' : Ledger
  g' = r'.ledger.rows

  building_fair : (a : Activity) (l' : Local) → Building z (word z r.world) choice l a l' → Happens z r r' s choice l l' a → Shape z r → KeepsLaws z r → IsFair (word z r.world) r.ledger.rows a l → StaysFair v' g' a l'
  building_fair a l' (first_is_taken q n k o e w) h i x f = seek_fair v' g' a n _ l' tt (live_stays a h i tt l.row f) w
  building_fair a l' (sought_is_taken n k e w) h i x f = seek_fair v' g' a n l l' tt (live_stays a h i tt l.row f) w
  building_fair a l' (pass_is_old j epoch n k e o w) h i x f = seek_fair v' g' a n l l' tt (live_stays a h i tt l.row f) w
  building_fair a l' (pass_is_young j k y w) h i x f = inr (pass_fair v' g' z (j + 1) l l' (live_stays a h i tt l.row f) w)
  building_fair a l' (takes_row n k e w) h i x f = taken_fair v' g' a n (with_row l) l' tt (live_stays a h i tt l.row f) w
  building_fair a l' (loses_row n k e w) h i x f = seek_fair v' g' a n l l' tt (live_stays a h i tt l.row f) w
  building_fair a l' (gives_one_back o) h i x f = inr f
  building_fair a l' (gives_last_back k o w) h i x f = given_fair v' g' a l.rebalance.afterwards l l' tt f w
  building_fair a l' (writes_first k w) h i x f = inr (entry_fair v' g' z 0 l l' (live_stays a h i tt l.row f) w)
  building_fair a l' (writes_entry j k w) h i x f = inr (entry_fair v' g' z (j + 1) l l' (live_stays a h i tt l.row f) w)
  building_fair a l' (writes_no_cell j k o w) h i x f = inr (cell_fair v' g' z (j + 1) l l' (live_stays a h i tt l.row f) w)
  building_fair a l' (writes_after j k w) h i x f = inr (cell_fair v' g' z (j + 1) l l' (live_stays a h i tt l.row f) w)
  building_fair a l' (begins_before k w) h i x f = inr (before_fair v' g' _ l l' (live_stays a h i tt l.row f) (λ e. ap (λ n. row_linked (link_of n)) (h.changed.loaded (before_loads choice l) name.Head) ∙ head_full z r i l.row e) w)
  building_fair a l' (takes_head_before k w) h i x f = inr (before_fair v' g' _ l l' (live_stays a h i tt l.row f) (λ e. ap (λ n. row_linked (link_of n)) (h.changed.loaded refl name.Head) ∙ head_full z r i l.row e) w)
  building_fair a l' (leads_to_full e) h i x f =
      let p = (search_at a h i).some tt in
      let b : row_linked (link_of (word z r.world (replaced_link (Some p.0)))) ≡ Some l.row = ap row_linked (subst (λ o. link_of (word z r.world (name.Next (row_or_first o))) ≡ Some (unmarked_link (Some l.row))) p.1 e) in
      let c : row_linked (link_of (word z r.world (replaced_link l.rebalance.before))) ≡ Some l.row = subst (λ o. row_linked (link_of (word z r.world (replaced_link o))) ≡ Some l.row) (sym p.1) b in
      inr (ap (λ n. row_linked (link_of n)) (h.changed.loaded refl (replaced_link l.rebalance.before)) ∙ c)
  building_fair a l' (leads_on_marked k e w) h i x f = back_fair v' g' a MoveLeft l l' tt (not_anew v' g') w
  building_fair a l' (leads_nowhere k e w) h i x f = absurd (x.ends_before s l h.knows (subst IsLeavingBefore (sym h.activity) tt) e (reached z r i l.row f))
  building_fair a l' (walks_past k o w) h i x f = absurd (x.goes_by_full s l h.knows (subst IsReachingNext (sym h.activity) tt) o (reached z r i l.row f))
  building_fair a l' (replaces_row e) h i x f = inl wins
  building_fair a l' (is_marked_before k e w) h i x f = back_fair v' g' a MoveLeft l l' tt (not_anew v' g') w
  building_fair a l' (is_replaced k d w) h i x f = absurd (d f)
  building_fair a l' (makes_normal o) h i x f = absurd f
  building_fair a l' (makes_last_normal o) h i x f = absurd f
  building_fair a l' draws_number h i x f = absurd f
  building_fair a l' (retires_ahead q e) h i x f = absurd f
  building_fair a l' (retires_row e t) h i x f = absurd f
  building_fair a l' (retires_and_leaves e t) h i x f = absurd f
  building_fair a l' _ h i x f = inr (live_stays a h i tt l.row f)

  pub fair_stays : (a : Activity) (l' : Local) → Arrow z (word z r.world) s choice l a l' → Happens z r r' s choice l l' a → Shape z r → KeepsLaws z r → IsFair (word z r.world) r.ledger.rows a l → StaysFair v' g' a l'
  fair_stays a l' (builds b k y t) h i x f = building_fair b k t h i x f
  fair_stays a l' (begins call c b) h i x f = absurd f
  fair_stays a l' (enters e) h i x f = absurd f
  fair_stays a l' (enters_scan e) h i x f = absurd f
  fair_stays a l' (asks_of_pin next o n) h i x f = absurd f
  fair_stays a l' (is_spent o) h i x f = absurd f
  fair_stays a l' (waits o) h i x f = absurd f
  fair_stays a l' stores_waiting h i x f = absurd f
  fair_stays a l' draws h i x f = absurd f
  fair_stays a l' (settles_empty e) h i x f = absurd f
  fair_stays a l' (settles e) h i x f = absurd f
  fair_stays a l' (settles_pin e) h i x f = absurd f
  fair_stays a l' stores_pin h i x f = absurd f
  fair_stays a l' retries h i x f = absurd f
  fair_stays a l' enters_again h i x f = absurd f
  fair_stays a l' starts_at_head h i x f = absurd f
  fair_stays a l' (guesses q c e) h i x f = absurd f
  fair_stays a l' guess_fails h i x f = absurd f
  fair_stays a l' takes_head h i x f = inr (λ p. live_stays a h i tt _ (head_live z r i))
  fair_stays a l' (guess_serves o) h i x f = inr (λ p. live_stays a h i tt l.row f)
  fair_stays a l' (guess_is_above o) h i x f = inr tt
  fair_stays a l' (stops e) h i x f = inr tt
  fair_stays a l' (puts_in_last e n) h i x f = inr (live_stays a h i tt l.row (f e))
  fair_stays a l' (reads_last e n) h i x f = inr tt
  fair_stays a l' (reaches_next q e) h i x f = inr (λ p. (live_stays a h i tt l.row (f p), live_stays a h i tt q (i.rows.chain.linked l.row q (f p) e)))
  fair_stays a l' (walks_on o) h i x f = inr (λ p. live_stays a h i tt l.candidate (f p).1)
  fair_stays a l' (puts_before e o) h i x f = inr (live_stays a h i tt l.row (f e).0)
  fair_stays a l' (reads_before e o) h i x f = inr tt
  fair_stays a l' (sees_pending j c e) h i x f = inr tt
  fair_stays a l' (sees_stamped j c version nx e n) h i x f = inr (look_fair v' g' z (j + 1) l' nx n)
  fair_stays a l' (sees_neither j nx e n) h i x f = inr (look_fair v' g' z (j + 1) l' nx n)
  fair_stays a l' (is_wanted e) h i x f = inr tt
  fair_stays a l' (is_gone_by nx e n) h i x f = inr (look_fair v' g' z (l.looked + 1) l' nx n)
  fair_stays a l' loads_to_help h i x f = inr tt
  fair_stays a l' (helps nx e n) h i x f = inr (look_fair v' g' z (l.looked + 1) l' nx n)
  fair_stays a l' (finds_stamped c version nx e n) h i x f = inr (look_fair v' g' z (l.looked + 1) l' nx n)
  fair_stays a l' (finds_other nx e n) h i x f = inr (look_fair v' g' z (l.looked + 1) l' nx n)
  fair_stays a l' (begins_behind c o e) h i x f = inr tt
  fair_stays a l' (begins_at_first c e) h i x f = inr tt
  fair_stays a l' (first_leads c e) h i x f = inr tt
  fair_stays a l' (first_ends k e n) h i x f = inr (left_over_fair v' g' l l' n)
  fair_stays a l' (list_leads c e) h i x f = inr tt
  fair_stays a l' (list_ends k e n) h i x f = inr (left_over_fair v' g' l l' n)
  fair_stays a l' (key_below e) h i x f = inr tt
  fair_stays a l' (key_within e o) h i x f = inr tt
  fair_stays a l' (key_above k e n) h i x f = inr (left_over_fair v' g' l l' n)
  fair_stays a l' loads_version h i x f = inr tt
  fair_stays a l' gathers_listed h i x f = inr tt
  fair_stays a l' (left_over_wanted e) h i x f = inr tt
  fair_stays a l' (left_over_gone_by k e n) h i x f = inr (left_over_fair v' g' l l' n)
  fair_stays a l' (gathers_left_over k n) h i x f = inr (left_over_fair v' g' _ l' n)
  fair_stays a l' (clears_scan answer) h i x f = inr tt
  fair_stays a l' clears_pin h i x f = inr tt
  fair_stays a l' clears h i x f = inr tt
  fair_stays a l' (leaves answer) h i x f = inl (ends answer)
  fair_stays a l' (clock_is_spent o t) h i x f = inr tt
  fair_stays a l' (ends_at_clock t) h i x f = inr tt
  fair_stays a l' (epoch_is_spent o t) h i x f = inr tt
  fair_stays a l' (ends_at_epoch t) h i x f = inr tt
  fair_stays a l' (finds_other_state t) h i x f =
      absurd (engage_on (rows_in (word z r.world)) r.ledger.rows l.row (state_of (word z r.world (name.State l.row))) l (live_state (rows_in (word z r.world)) r.ledger.rows l.row i.rows.states f) (ap (λ (m : Local). m.activity) h.next))
  fair_stays a l' (ends_at_state t) h i x f = inr tt
  fair_stays a l' (marks_led count k d n) h i x f = inr (counted_fair v' g' count _ l' (live_stays a h i tt l.row f) n)
  fair_stays a l' (decides count m k e n) h i x f = inr (counted_fair v' g' _ l l' (live_stays a h i tt l.row f) n)
  fair_stays a l' (decides_not count t) h i x f =
      let w = subst (λ b. IsStated b → IsReachedState b l (state_of (word z r.world (name.State (stated_row b l))))) h.activity (x.stated s l h.knows) tt in
      absurd (decide_on (rows_in (word z r.world)) r.ledger.rows l.row count (state_of (word z r.world (name.State l.row))) l (live_state (rows_in (word z r.world)) r.ledger.rows l.row i.rows.states f) w (ap (λ (m : Local). m.activity) h.next))
  fair_stays a l' (ends_undecided count t) h i x f = inr tt
  fair_stays a l' (claims_not t) h i x f =
      let b = balance_at a h i in
      let c = b.next tt in
      let q : row_after l ≡ c.0 = ap row_or_first c.1 in
      let w : IsClaimable l.row ((rows_in (word z r.world)).state (row_after l)) = subst (λ n. IsClaimable l.row ((rows_in (word z r.world)).state n)) (sym q) (claimable (rows_in (word z r.world)) r.ledger.rows l.row c.0 l.rebalance.after c.1 b.group f) in
      absurd (claim_on (state_of (word z r.world (name.State (row_after l)))) l w (ap (λ (m : Local). m.activity) h.next))
  fair_stays a l' (ends_unclaimed t) h i x f = inr tt
  fair_stays a l' (takes_leader q e) h i x f = inl (moves a tt)
  fair_stays a l' (reaches_leader e) h i x f = inl (moves a tt)
  fair_stays a l' (head_follows t e) h i x f = absurd (x.first_leads s l h.knows h.activity (head_full z r i l.row e))
  fair_stays a l' (ends_at_head t) h i x f = inr tt
  fair_stays a l' (none_is_left t e) h i x f = absurd (x.ends_before s l h.knows (subst IsLeavingBefore (sym h.activity) tt) e (reached z r i l.row f))
  fair_stays a l' (ends_at_none t) h i x f = inr tt
  fair_stays a l' (passes_left t o) h i x f = absurd (x.goes_by_full s l h.knows (subst IsReachingNext (sym h.activity) tt) o (reached z r i l.row f))
  fair_stays a l' (ends_past t) h i x f = inr tt
  fair_stays a l' (remembers_last j c version k e o n) h i x f = inr (frozen_fair v' g' _ l' (live_stays a h i tt l.row f) n)
  fair_stays a l' (sees_frozen_last j k e o n) h i x f = inr (frozen_fair v' g' l l' (live_stays a h i tt l.row f) n)
  fair_stays a l' (freezes_last j k e o n) h i x f = inr (frozen_fair v' g' l l' (live_stays a h i tt l.row f) n)
  fair_stays a l' (takes_no_more k e m n) h i x f = inr (gathered_fair v' g' z l l' (live_stays a h i tt l.row f) n)
  fair_stays a l' (keeps_no_more k m n) h i x f = inr (gathered_fair v' g' z _ l' (live_stays a h i tt l.row f) n)
  fair_stays a l' (looks_at_pin j k n) h i x f = inr (pin_look_fair v' g' z _ _ l k (live_stays a h i tt l.row f) n)
  fair_stays a l' _ h i x f = inr (live_stays a h i tt l.row f)

  -- and from the beginning of a walk it is fair
  pub fair_begins : (a : Activity) (l' : Local) → Arrow z (word z r.world) s choice l a l' → Happens z r r' s choice l l' a → Shape z r → IsStart a → StaysFair v' g' a l'
  fair_begins a l' (builds b k y t) h i x = absurd (not_start b y x)
  fair_begins a l' starts_at_head h i x = inr (λ p. live_stays a h i tt _ (head_live z r i))
  fair_begins a l' (guesses q c e) h i x = inr (live_stays a h i tt q (normal_live (rows_in (word z r.world)) r.ledger.rows q i.rows.states (ap state_seen e)))
  fair_begins a l' guess_fails h i x = inr tt
  fair_begins a l' _ h i x = absurd x
