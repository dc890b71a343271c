-- A seat that goes on alone goes along rows that are in the list on its way to the row before its
-- full one: it takes them from the head, from a guess that is normal, or from such a row's link. So
-- where it moves left its new full row is one.
use Rattle.std.proofs.Common.{ℕ, ◌≡◌, ◌≢◌, ◌⊎◌, inl, inr, ◌+◌, true, false, Some, arith, refl, sym, ◌∙◌, ap, subst, length}
use Rattle.kw_rows.specs.Ledger.{Ledger, Fate, IsLive}
use Rattle.kw_rows.proofs.Named.{normal_live}
use Rattle.kw_words.specs.declared.layout.Name.TheVariants as name
use Rattle.kw_words.specs.Link.{link_of, link_word}
use Rattle.kw_world.specs.declared.activity.Activity.{Activity}
use Rattle.kw_world.specs.declared.activity.rebalance.Rebalance.TheVariants as Rebalance
use Rattle.kw_world.specs.declared.activity.rebalance.engage.Engage.TheVariants as Engage
use Rattle.kw_world.specs.declared.activity.rebalance.left.Left.TheVariants as Left
use Rattle.kw_world.specs.declared.activity.rebalance.replace.Replace.TheVariants as Replace
use Rattle.kw_world.specs.declared.activity.rebalance.seek.Seek.TheVariants as Seek
use Rattle.kw_world.specs.declared.event.Choice.{Choice}
use Rattle.kw_world.specs.declared.local.Local.{Local}
use Rattle.kw_world.specs.declared.rebalance.Afterwards.{Afterwards}
use Rattle.kw_world.specs.declared.rebalance.Afterwards.TheVariants.{TryAgain, Refuse, MoveLeft}
use Rattle.kw_world.specs.ReplaceTransitions.{replaced_link}
use Rattle.kw_world.specs.SeekTransitions.{with_row}
use Rattle.kw_world.specs.Sizes.{Sizes}
use Rattle.kw_world.specs.Step.{word}
use Rattle.kw_world.specs.Transition.{row_linked, row_or_first}
use Rattle.kw_world.specs.WriteTransitions.{unmarked_link}
use Rattle.kw_core.specs.Ledger as ledger
use Rattle.kw_core.specs.Run.{Run}
use Rattle.kw_core.specs.Stages.{IsBalancing}
use Rattle.kw_core.specs.Words.{next_in}
use Rattle.kw_core.proofs.Arrows.{Arrow, NextLook, looks, lists, NextLeftOver, goes_to_left_over, answers, ends_scan, scans_on, builds, leaves, sees_stamped, sees_neither, is_gone_by, helps, finds_stamped, finds_other, first_ends, list_ends, key_above, left_over_gone_by, gathers_left_over, finds_full, takes_full, announces_full, stamps_full, tidies, marks_led, decides, begins_left, takes_leader, reaches_leader, leads_left, walks_left, remembers_last, sees_frozen_last, freezes_last, takes_no_more, keeps_no_more, asks_of_pin, looks_at_pin}
use Rattle.kw_core.proofs.Building.{Building, marked_link, first_is_taken, sought_is_taken, pass_is_old, pass_is_young, takes_row, loses_row, gives_one_back, gives_last_back, writes_first, writes_entry, writes_no_cell, writes_after, begins_before, guesses_before, before_serves, takes_head_before, leads_to_full, leads_on_marked, leads_to_other, leads_nowhere, walks_before, walks_past, replaces_row, is_marked_before, is_replaced}
use Rattle.kw_core.proofs.Fates.{fate_stays, none_replaced}
use Rattle.kw_core.proofs.Grouping.{counted_leads, frozen_leads, gathered_leads}
use Rattle.kw_core.proofs.Happens.{Happens}
use Rattle.kw_core.proofs.NextBuilt.{GivenBack, tries_again, was_done, is_refused_rows, was_served, moves_left, NextBack, gives_back, has_none, NextSeek, asks, has_asked, NextPass, looks_on, has_looked, NextTaken, wants_more, has_enough, NextNewRow, writes_row, has_written, NextNewCell, fills, empties, has_cells, NextNewEntry, writes_idle, has_entries, NextBefore, is_first, is_behind}
use Rattle.kw_shape.specs.RowsIn.{has_mark, rows_in, state_seen}
use Rattle.kw_shape.specs.Shape.{Shape}
use Rattle.kw_shape.proofs.LinkedRows.{found_open, not_hand, search_at}
use Rattle.kw_alone.specs.Clean.{IsBeforeLive, IsClean}
use Rattle.kw_alone.specs.Known.{Taken}
use Rattle.kw_alone.specs.Marks.{IsMark, ends, wins, moves}
use Rattle.kw_alone.proofs.Living.{live_stays}
use Rattle.kw_puts.proofs.BuiltStages.{of_pin_is, pin_look_is}

-- the seat is at the beginning of its way to the leader of a follower
abbrev pub IsLeftStart : Activity → Type 0
IsLeftStart (Activity.Rebalance (Rebalance.Left Left.Start)) = Unit {0}
IsLeftStart _ = ⊥

-- where the event is a move, the seat is at a row of the list now, or its walk was still to begin
abbrev pub MovesLive : Ledger → Activity → Local → Type 0
MovesLive g a k = k.activity ≡ Activity.Rebalance (Rebalance.Engage Engage.Clock) → IsLeftStart a ⊎ IsLive g k.row

-- the seat does not come to a rebalance of another row
abbrev pub Remains : Local → Type 0
Remains k = k.activity ≡ Activity.Rebalance (Rebalance.Engage Engage.Clock) → ⊥

-- the event is such a mark, or is no move and leaves the seat on rows of the list
abbrev pub StaysClean : Ledger → Activity → Local → Type 0
StaysClean g a k = IsMark a k.activity × MovesLive g a k ⊎ IsClean g k.activity k × (IsBalancing a → Remains k)

-- Where a part of what follows has no event of its own.

module _ (g : Ledger) where
  stays : (a : Activity) (k : Local) → IsClean g k.activity k × Remains k → StaysClean g a k
  stays a k c = inr (c.0, λ b. c.1)

  look_clean : (z : Sizes) (j : ℕ) (m : Local) (nx : Activity) → NextLook z j nx → IsClean g nx m
  look_clean z j m nx (looks h) = tt
  look_clean z j m nx (lists h) = tt

  left_over_clean : (m k : Local) → NextLeftOver m k → IsClean g k.activity k
  left_over_clean m k (goes_to_left_over n e) = tt
  left_over_clean m k (answers e c) = tt
  left_over_clean m k (ends_scan e c d) = tt
  left_over_clean m k (scans_on r e c n d) = tt

  given_clean : (a : Activity) (b : Afterwards) (m k : Local) → IsBalancing a → (b ≡ MoveLeft → IsLive g (row_or_first m.rebalance.before)) → GivenBack m b k → StaysClean g a k
  given_clean a b m k at f (tries_again t) = inr (tt, λ x e. absurd (cc))
  given_clean a b m k at f (was_done t) = inr (tt, λ x e. absurd (cc))
  given_clean a b m k at f (is_refused_rows t) = inr (tt, λ x e. absurd (cc))
  given_clean a b m k at f (was_served t) = inr (tt, λ x e. absurd (cc))
  given_clean a b m k at f moves_left = inl (moves a at, λ e. inr (f refl))

  back_clean : (a : Activity) (b : Afterwards) (m k : Local) → IsBalancing a → (b ≡ MoveLeft → IsBeforeLive g m) → (b ≡ MoveLeft → length m.rebalance.taken ≡ 0 → IsLive g (row_or_first m.rebalance.before)) → NextBack b m k → StaysClean g a k
  back_clean a b m k at f n (gives_back h) = inr (f, λ x e. absurd (cc))
  back_clean a b m k at f n (has_none x h w) = given_clean a b m k at (λ e. n e h) w

  -- to begin anew, or to refuse, needs no row before
  anew_clean : (a : Activity) (m k : Local) → IsBalancing a → NextBack TryAgain m k → StaysClean g a k
  anew_clean a m k at w = back_clean a TryAgain m k at (λ e. absurd (cc)) (λ e h. absurd (cc)) w

  seek_clean : (a : Activity) (r : ℕ) (m k : Local) → IsBalancing a → NextSeek r m k → StaysClean g a k
  seek_clean a r m k at (asks h) = inr (tt, λ x e. absurd (cc))
  seek_clean a r m k at (has_asked x h b) = back_clean a Refuse m k at (λ e. absurd (cc)) (λ e h. absurd (cc)) b

  pass_clean : (z : Sizes) (i : ℕ) (m k : Local) → NextPass z i m k → IsClean g k.activity k × Remains k
  pass_clean z i m k (looks_on h) = (tt, λ e. absurd (cc))
  pass_clean z i m k (has_looked h) = (tt, λ e. absurd (cc))

  taken_clean : (a : Activity) (r : ℕ) (m k : Local) → IsBalancing a → NextTaken r m k → StaysClean g a k
  taken_clean a r m k at (wants_more x h w) = seek_clean a r m k at w
  taken_clean a r m k at (has_enough h) = inr (tt, λ x e. absurd (cc))

  row_clean : (m k : Local) → NextNewRow m k → IsClean g k.activity k × Remains k
  row_clean m k (writes_row h) = (tt, λ e. absurd (cc))
  row_clean m k (has_written h) = (tt, λ e. absurd (cc))

  cell_clean : (z : Sizes) (j : ℕ) (m k : Local) → NextNewCell z j m k → IsClean g k.activity k × Remains k
  cell_clean z j m k (fills h i) = (tt, λ e. absurd (cc))
  cell_clean z j m k (empties h i) = (tt, λ e. absurd (cc))
  cell_clean z j m k (has_cells x h w) = row_clean m k w

  entry_clean : (z : Sizes) (i : ℕ) (m k : Local) → NextNewEntry z i m k → IsClean g k.activity k × Remains k
  entry_clean z i m k (writes_idle h) = (tt, λ e. absurd (cc))
  entry_clean z i m k (has_entries x h w) = cell_clean z 0 m k w

  -- a walk that begins at this row
  begun_clean : (r : ℕ) → IsLive g r → (p : ℕ) → Some r ≡ Some p → IsLive g p
  begun_clean r f p e = subst (IsLive g) (same r p e) f
    where
      same : (i j : ℕ) → Some i ≡ Some j → i ≡ j
      same i j q = cc

  before_clean : (r : ℕ) (m k : Local) → IsLive g r → NextBefore r m k → IsClean g k.activity k × Remains k
  before_clean r m k f (is_first h) = (λ p e. absurd (cc), λ e. absurd (cc))
  before_clean r m k f (is_behind h) = (begun_clean r f, λ e. absurd (cc))

-- Each event.

module _ (z : Sizes) (r r' : Run) (s : ℕ) (choice : Choice) (l : Local) where
  abbrev g' : Ledger
  g' = r'.ledger.rows

  -- the first row is in the list
  head_live : Shape z r → IsLive r.ledger.rows (row_or_first (row_linked (link_of (word z r.world name.Head))))
  head_live i = let c = i.rows.chain in subst (IsLive r.ledger.rows) (ap row_or_first (sym c.leads)) c.first_live

  -- a row of the list stays there over an event that gives a row back, and over a lost exchange
  given_stays : {k : Local} → Happens z r r' s choice l k (Activity.Rebalance (Rebalance.Seek Seek.GiveBack)) → Shape z r → (q : ℕ) → IsLive r.ledger.rows q → IsLive g' q
  given_stays h i q f = ap (λ (t : Fate). t.status) (fate_stays (Activity.Rebalance (Rebalance.Seek Seek.GiveBack)) h q (not_hand (Activity.Rebalance (Rebalance.Seek Seek.GiveBack)) h i tt q (inl f))) ∙ f

  lost_stays : {k : Local} → Happens z r r' s choice l k (Activity.Rebalance (Rebalance.Replace Replace.Exchange)) → Shape z r → link_of (word z r.world (replaced_link l.rebalance.before)) ≡ Some (marked_link (Some l.row)) → (q : ℕ) → IsLive r.ledger.rows q → IsLive g' q
  lost_stays h i e q f = ap (λ (t : ledger.Ledger). (t.rows.fates q).status) (none_replaced h other) ∙ f
    where
      other : word z r.world (replaced_link l.rebalance.before) ≢ link_word (unmarked_link (Some l.row))
      other u = let b : true ≡ false = ap has_mark (sym e ∙ found_open h i u) in absurd (cc)

  -- the walk is at a row of the list
  at_live : (a : Activity) (k : Local) → Happens z r r' s choice l k a → Shape z r → ((p : ℕ) × (l.rebalance.before ≡ Some p)) → IsBeforeLive r.ledger.rows l → IsLive r.ledger.rows (row_or_first l.rebalance.before)
  at_live a k h i b f = subst (λ o. IsLive r.ledger.rows (row_or_first o)) (sym b.1) (f b.0 b.1)

  -- and so is the row behind it
  next_live : Shape z r → (q : ℕ) → IsLive r.ledger.rows (row_or_first l.rebalance.before) → next_in (word z r.world) (row_or_first l.rebalance.before) ≡ Some q → IsLive r.ledger.rows q
  next_live i q f e = i.rows.chain.linked (row_or_first l.rebalance.before) q f e

  building_clean : (a : Activity) (k : Local) → Building z (word z r.world) choice l a k → Happens z r r' s choice l k a → Shape z r → Taken a l → IsClean r.ledger.rows a l → StaysClean g' a k
  building_clean a k (first_is_taken q n m o e w) h i t f = seek_clean g' a n _ k tt w
  building_clean a k (sought_is_taken n m e w) h i t f = seek_clean g' a n l k tt w
  building_clean a k (pass_is_old j epoch n m e o w) h i t f = seek_clean g' a n l k tt w
  building_clean a k (pass_is_young j m y w) h i t f = stays g' a k (pass_clean g' z (j + 1) l k w)
  building_clean a k (takes_row n m e w) h i t f = taken_clean g' a n (with_row l) k tt w
  building_clean a k (loses_row n m e w) h i t f = seek_clean g' a n l k tt w
  building_clean a k (gives_one_back o) h i t f = inr ((λ m p e. given_stays h i p (f m p e)), λ x u. absurd (cc))
  building_clean a k (gives_last_back m o w) h i t f = given_clean g' a l.rebalance.afterwards l k tt (λ e. given_stays h i _ (at_live a k h i ((search_at a h i).some e) (f e))) w
  building_clean a k (writes_first m w) h i t f = stays g' a k (entry_clean g' z 0 l k w)
  building_clean a k (writes_entry j m w) h i t f = stays g' a k (entry_clean g' z (j + 1) l k w)
  building_clean a k (writes_no_cell j m o w) h i t f = stays g' a k (cell_clean g' z (j + 1) l k w)
  building_clean a k (writes_after j m w) h i t f = stays g' a k (cell_clean g' z (j + 1) l k w)
  building_clean a k (begins_before m w) h i t f = stays g' a k (before_clean g' _ l k (live_stays a h i tt _ (head_live i)) w)
  building_clean a k (guesses_before q c e) h i t f = inr ((begun_clean g' q (live_stays a h i tt q (normal_live (rows_in (word z r.world)) r.ledger.rows q i.rows.states (ap state_seen e)))), λ x u. absurd (cc))
  building_clean a k (before_serves o) h i t f = inr ((λ p e. live_stays a h i tt p (f p e)), λ x u. absurd (cc))
  building_clean a k (takes_head_before m w) h i t f = stays g' a k (before_clean g' _ l k (live_stays a h i tt _ (head_live i)) w)
  building_clean a k (leads_to_full e) h i t f = inr ((λ p d. live_stays a h i tt p (f p d)), λ x u. absurd (cc))
  building_clean a k (leads_on_marked m e w) h i t f = back_clean g' a MoveLeft l k tt (λ d p q. live_stays a h i tt p (f p q)) (λ d n. live_stays a h i tt _ (at_live a k h i ((search_at a h i).some tt) f)) w
  building_clean a k (leads_to_other q e d) h i t f = inr ((λ p n. live_stays a h i tt p (f p n), live_stays a h i tt q (next_live i q (at_live a k h i ((search_at a h i).some tt) f) e)), λ x u. absurd (cc))
  building_clean a k (leads_nowhere m e w) h i t f = anew_clean g' a l k tt w
  building_clean a k (walks_before o) h i t f = inr ((begun_clean g' l.candidate (live_stays a h i tt l.candidate f.1)), λ x u. absurd (cc))
  building_clean a k (walks_past m o w) h i t f = anew_clean g' a l k tt w
  building_clean a k (replaces_row e) h i t f = inl (wins, λ d. absurd (cc))
  building_clean a k (is_marked_before m e w) h i t f = back_clean g' a MoveLeft l k tt (λ d p q. lost_stays h i e p (f p q)) (λ d n. absurd (omega (arith, t.some tt, n))) w
  building_clean a k (is_replaced m d w) h i t f = anew_clean g' a l k tt w
  building_clean a k _ h i t f = inr (tt, λ x e. absurd (cc))

  -- every event is such a mark, or leaves the seat on rows of the list
  pub moves_clean : (a : Activity) (k : Local) → Arrow z (word z r.world) s choice l a k → Happens z r r' s choice l k a → Shape z r → Taken a l → IsClean r.ledger.rows a l → StaysClean g' a k
  moves_clean a k (builds b m y w) h i t f = building_clean b k w h i t f
  moves_clean a k (leaves answer) h i t f = inl (ends answer, λ e. absurd (cc))
  moves_clean a k (sees_stamped j c version nx e n) h i t f = inr (look_clean g' z _ k nx n, λ b u. absurd b)
  moves_clean a k (sees_neither j nx e n) h i t f = inr (look_clean g' z _ k nx n, λ b u. absurd b)
  moves_clean a k (is_gone_by nx e n) h i t f = inr (look_clean g' z _ k nx n, λ b u. absurd b)
  moves_clean a k (helps nx e n) h i t f = inr (look_clean g' z _ k nx n, λ b u. absurd b)
  moves_clean a k (finds_stamped c version nx e n) h i t f = inr (look_clean g' z _ k nx n, λ b u. absurd b)
  moves_clean a k (finds_other nx e n) h i t f = inr (look_clean g' z _ k nx n, λ b u. absurd b)
  moves_clean a k (first_ends m e n) h i t f = inr (left_over_clean g' l k n, λ b u. absurd b)
  moves_clean a k (list_ends m e n) h i t f = inr (left_over_clean g' l k n, λ b u. absurd b)
  moves_clean a k (key_above m e n) h i t f = inr (left_over_clean g' l k n, λ b u. absurd b)
  moves_clean a k (left_over_gone_by m e n) h i t f = inr (left_over_clean g' l k n, λ b u. absurd b)
  moves_clean a k (gathers_left_over m n) h i t f = inr (left_over_clean g' _ k n, λ b u. absurd b)
  moves_clean a k (marks_led count m d n) h i t f = stays g' a k (counted_leads (λ b. (x : Local) → IsClean g' b x × (b ≡ Activity.Rebalance (Rebalance.Engage Engage.Clock) → ⊥)) (λ x. (tt, λ e. absurd (cc))) (λ x. (tt, λ e. absurd (cc))) _ _ k n k)
  moves_clean a k (decides count m x e n) h i t f = stays g' a k (counted_leads (λ b. (x : Local) → IsClean g' b x × (b ≡ Activity.Rebalance (Rebalance.Engage Engage.Clock) → ⊥)) (λ x. (tt, λ e. absurd (cc))) (λ x. (tt, λ e. absurd (cc))) _ _ k n k)
  moves_clean a k (begins_left q e d) h i t f = inr ((begun_clean g' q (live_stays a h i tt q (subst (IsLive r.ledger.rows) e (head_live i)))), λ x u. absurd (cc))
  moves_clean a k (takes_leader q e) h i t f = inl (moves a tt, λ x. inl tt)
  moves_clean a k (reaches_leader e) h i t f = inl (moves a tt, λ x. inr (live_stays a h i tt _ (at_live a k h i ((search_at a h i).some tt) f)))
  moves_clean a k (leads_left q e d) h i t f = inr ((λ p n. live_stays a h i tt p (f p n), live_stays a h i tt q (next_live i q (at_live a k h i ((search_at a h i).some tt) f) e)), λ x u. absurd (cc))
  moves_clean a k (walks_left o) h i t f = inr ((begun_clean g' l.candidate (live_stays a h i tt l.candidate f.1)), λ x u. absurd (cc))
  moves_clean a k (remembers_last j c version m e o n) h i t f = stays g' a k (frozen_leads (λ b. (x : Local) → IsClean g' b x × (b ≡ Activity.Rebalance (Rebalance.Engage Engage.Clock) → ⊥)) (λ x. (tt, λ e. absurd (cc))) (λ x. (tt, λ e. absurd (cc))) _ k n k)
  moves_clean a k (sees_frozen_last j m e o n) h i t f = stays g' a k (frozen_leads (λ b. (x : Local) → IsClean g' b x × (b ≡ Activity.Rebalance (Rebalance.Engage Engage.Clock) → ⊥)) (λ x. (tt, λ e. absurd (cc))) (λ x. (tt, λ e. absurd (cc))) _ k n k)
  moves_clean a k (freezes_last j m e o n) h i t f = stays g' a k (frozen_leads (λ b. (x : Local) → IsClean g' b x × (b ≡ Activity.Rebalance (Rebalance.Engage Engage.Clock) → ⊥)) (λ x. (tt, λ e. absurd (cc))) (λ x. (tt, λ e. absurd (cc))) _ k n k)
  moves_clean a k (takes_no_more m e x n) h i t f = stays g' a k (gathered_leads (λ b. (x : Local) → IsClean g' b x × (b ≡ Activity.Rebalance (Rebalance.Engage Engage.Clock) → ⊥)) (λ x. (tt, λ e. absurd (cc))) (λ x. (tt, λ e. absurd (cc))) z _ k n k)
  moves_clean a k (keeps_no_more m x n) h i t f = stays g' a k (gathered_leads (λ b. (x : Local) → IsClean g' b x × (b ≡ Activity.Rebalance (Rebalance.Engage Engage.Clock) → ⊥)) (λ x. (tt, λ e. absurd (cc))) (λ x. (tt, λ e. absurd (cc))) z _ k n k)
  moves_clean a k (finds_full e) h i t f = inr (tt, λ b u. absurd b)
  moves_clean a k (takes_full e) h i t f = inr (tt, λ b u. absurd b)
  moves_clean a k (announces_full e) h i t f = inr (tt, λ b u. absurd b)
  moves_clean a k (stamps_full e) h i t f = inr (tt, λ b u. absurd b)
  moves_clean a k (tidies n e) h i t f = inr (tt, λ b u. absurd b)
  moves_clean a k (asks_of_pin m o n) h i t f = stays g' a k (of_pin_is (λ b. (x : Local) → IsClean g' b x × (b ≡ Activity.Rebalance (Rebalance.Engage Engage.Clock) → ⊥)) (λ x. (tt, λ e. absurd (cc))) (λ x. (tt, λ e. absurd (cc))) (λ x. (tt, λ e. absurd (cc))) (λ x. (tt, λ e. absurd (cc))) (λ x. (tt, λ e. absurd (cc))) (λ x. (tt, λ e. absurd (cc))) n k)
  moves_clean a k (looks_at_pin j m n) h i t f = stays g' a k (pin_look_is (λ b. (x : Local) → IsClean g' b x × (b ≡ Activity.Rebalance (Rebalance.Engage Engage.Clock) → ⊥)) (λ q x. (tt, λ e. absurd (cc))) (λ x. (tt, λ e. absurd (cc))) n k)
  moves_clean a k _ h i t f = inr (tt, λ b u. absurd (cc))

  -- so it is a mark, or leaves it there
  pub clean_stays : (a : Activity) (k : Local) → Arrow z (word z r.world) s choice l a k → Happens z r r' s choice l k a → Shape z r → Taken a l → IsClean r.ledger.rows a l → IsMark a k.activity ⊎ IsClean g' k.activity k
  clean_stays a k y h i t f = which (moves_clean a k y h i t f)
    where
      which : StaysClean g' a k → IsMark a k.activity ⊎ IsClean g' k.activity k
      which (inl m) = inl m.0
      which (inr c) = inr c.0
