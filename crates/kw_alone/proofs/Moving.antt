-- A seat that stands on its way, and moves, comes to a row left of its own one, which is engaged.
use Rattle.std.proofs.Common.{ℕ, ◌≡◌, ◌⊎◌, inl, inr, ◌+◌, ◌<◌, true, Option, Some, None, arith, refl, sym, ◌∙◌, ap, subst}
use Rattle.std.proofs.lemmas.Option.{same_Some}
use Rattle.kw_words.specs.declared.layout.Name.TheVariants as name
use Rattle.kw_words.specs.declared.state.State.TheVariants as state
use Rattle.kw_words.specs.Link.{link_of}
use Rattle.kw_rows.specs.Ledger.{Ledger, IsLive}
use Rattle.kw_rows.specs.RowState as row
use Rattle.kw_rows.specs.RowState.{IsFollowing}
use Rattle.kw_rows.specs.Rows.{IsBefore, Rows}
use Rattle.kw_rows.specs.States.{HasLeader, IsLiveState}
use Rattle.kw_rows.proofs.Sets.{live_state}
use Rattle.kw_world.specs.declared.activity.Activity.{Activity}
use Rattle.kw_world.specs.declared.activity.rebalance.Rebalance.TheVariants as Rebalance
use Rattle.kw_world.specs.declared.activity.rebalance.engage.Engage.TheVariants as Engage
use Rattle.kw_world.specs.declared.activity.rebalance.left.Left.TheVariants as Left
use Rattle.kw_world.specs.declared.activity.rebalance.replace.Replace.TheVariants as Replace
use Rattle.kw_world.specs.declared.event.Choice.{Choice}
use Rattle.kw_world.specs.declared.local.Local.{Local}
use Rattle.kw_world.specs.declared.rebalance.Afterwards.{Afterwards}
use Rattle.kw_world.specs.declared.rebalance.Afterwards.TheVariants.{TryAgain, Refuse, MoveLeft}
use Rattle.kw_world.specs.ReplaceTransitions.{replaced_link}
use Rattle.kw_world.specs.SeekTransitions.{with_row}
use Rattle.kw_world.specs.Sizes.{Sizes}
use Rattle.kw_world.specs.Step.{word}
use Rattle.kw_world.specs.Transition.{row_linked, row_or_first}
use Rattle.kw_core.specs.Run.{Run}
use Rattle.kw_core.specs.Stages.{IsBalancing}
use Rattle.kw_core.specs.Words.{Words, least_in, next_in}
use Rattle.kw_core.proofs.Arrows.{Arrow, NextLook, looks, lists, NextLeftOver, goes_to_left_over, answers, ends_scan, scans_on, builds, sees_stamped, sees_neither, is_gone_by, helps, finds_stamped, finds_other, first_ends, list_ends, key_above, left_over_gone_by, gathers_left_over, finds_full, takes_full, announces_full, stamps_full, tidies, finds_follower, marks_led, decides, takes_leader, reaches_leader, remembers_last, sees_frozen_last, freezes_last, takes_no_more, keeps_no_more, asks_of_pin, looks_at_pin}
use Rattle.kw_core.proofs.Building.{Building, marked_link, first_is_taken, sought_is_taken, pass_is_old, pass_is_young, takes_row, loses_row, gives_one_back, gives_last_back, writes_first, writes_entry, writes_no_cell, writes_after, begins_before, takes_head_before, leads_on_marked, leads_nowhere, walks_past, is_marked_before, is_replaced}
use Rattle.kw_core.proofs.Grouping.{counted_leads, frozen_leads, gathered_leads}
use Rattle.kw_core.proofs.Happens.{Happens}
use Rattle.kw_core.proofs.NextBuilt.{GivenBack, tries_again, was_done, is_refused_rows, was_served, moves_left, NextBack, gives_back, has_none, NextSeek, asks, has_asked, NextPass, looks_on, has_looked, NextTaken, wants_more, has_enough, NextNewRow, writes_row, has_written, NextNewCell, fills, empties, has_cells, NextNewEntry, writes_idle, has_entries, NextBefore, is_first, is_behind}
use Rattle.kw_shape.specs.RowsIn.{has_mark, rows_in}
use Rattle.kw_shape.specs.Shape.{Shape}
use Rattle.kw_shape.proofs.LinkedRows.{balance_at, search_at}
use Rattle.kw_shape.proofs.RowsKeep.{read_state}
use Rattle.kw_shape.proofs.WonKeep.{head_open}
use Rattle.kw_alone.specs.Clean.{IsBeforeLive, IsClean}
use Rattle.kw_alone.specs.Fair.{IsFair}
use Rattle.kw_alone.specs.Steady.{IsLed}
use Rattle.kw_alone.specs.Wins.{is_unled}
use Rattle.kw_alone.proofs.Going.{engaged_led}
use Rattle.kw_alone.proofs.Living.{live_stays}
use Rattle.kw_alone.proofs.Steps.{Steps}
use Rattle.kw_puts.proofs.BuiltStages.{of_pin_is, pin_look_is}

-- the seat has come to a row left of its own one, which is engaged
pub record LeftOf (v : Words) (l k : Local) : Type 0 where
  pub led : is_unled ((rows_in v).state k.row) ≡ true → ⊥
  pub less : k.lower < l.lower

-- the event is no move, and the seat knows what it is to know of the row before
abbrev Plain : Words → Ledger → Local → Type 0
Plain v g k = (k.activity ≡ Activity.Rebalance (Rebalance.Engage Engage.Clock) → ⊥) × IsLed v g k.activity k

-- Where a part of what follows has no event of its own.

module _ (v : Words) (g : Ledger) where
  given_led : (b : Afterwards) (m k : Local) → (b ≡ MoveLeft → ⊥) → GivenBack m b k → Plain v g k
  given_led b m k n (tries_again t) = (λ e. absurd (cc), tt)
  given_led b m k n (was_done t) = (λ e. absurd (cc), tt)
  given_led b m k n (is_refused_rows t) = (λ e. absurd (cc), tt)
  given_led b m k n (was_served t) = (λ e. absurd (cc), tt)
  given_led b m k n moves_left = absurd (n refl)

  back_led : (b : Afterwards) (m k : Local) → (b ≡ MoveLeft → ⊥) → NextBack b m k → Plain v g k
  back_led b m k n (gives_back h) = (λ e. absurd (cc), λ e. absurd (n e))
  back_led b m k n (has_none x h w) = given_led b m k n w

  seek_led : (r : ℕ) (m k : Local) → NextSeek r m k → Plain v g k
  seek_led r m k (asks h) = (λ e. absurd (cc), tt)
  seek_led r m k (has_asked x h b) = back_led Refuse m k (λ e. absurd (cc)) b

  pass_led : (z : Sizes) (i : ℕ) (m k : Local) → NextPass z i m k → Plain v g k
  pass_led z i m k (looks_on h) = (λ e. absurd (cc), tt)
  pass_led z i m k (has_looked h) = (λ e. absurd (cc), tt)

  taken_led : (r : ℕ) (m k : Local) → NextTaken r m k → Plain v g k
  taken_led r m k (wants_more x h w) = seek_led r m k w
  taken_led r m k (has_enough h) = (λ e. absurd (cc), tt)

  row_led : (m k : Local) → NextNewRow m k → Plain v g k
  row_led m k (writes_row h) = (λ e. absurd (cc), tt)
  row_led m k (has_written h) = (λ e. absurd (cc), tt)

  cell_led : (z : Sizes) (j : ℕ) (m k : Local) → NextNewCell z j m k → Plain v g k
  cell_led z j m k (fills h i) = (λ e. absurd (cc), tt)
  cell_led z j m k (empties h i) = (λ e. absurd (cc), tt)
  cell_led z j m k (has_cells x h w) = row_led m k w

  entry_led : (z : Sizes) (i : ℕ) (m k : Local) → NextNewEntry z i m k → Plain v g k
  entry_led z i m k (writes_idle h) = (λ e. absurd (cc), tt)
  entry_led z i m k (has_entries x h w) = cell_led z 0 m k w

  before_led : (r : ℕ) (m k : Local) → NextBefore r m k → Plain v g k
  before_led r m k (is_first h) = (λ e. absurd (cc), tt)
  before_led r m k (is_behind h) = (λ e. absurd (cc), tt)

  look_led : (z : Sizes) (j : ℕ) (m : Local) (nx : Activity) → NextLook z j nx → IsLed v g nx m
  look_led z j m nx (looks h) = tt
  look_led z j m nx (lists h) = tt

  left_over_led : (m k : Local) → NextLeftOver m k → IsLed v g k.activity k
  left_over_led m k (goes_to_left_over n e) = tt
  left_over_led m k (answers e c) = tt
  left_over_led m k (ends_scan e c d) = tt
  left_over_led m k (scans_on r e c n d) = tt

  -- that of a group goes on elsewhere
  abbrev Elsewhere : Activity → Type 0
  Elsewhere b = (m : Local) → (b ≡ Activity.Rebalance (Rebalance.Engage Engage.Clock) → ⊥) × IsLed v g b m

-- Rows.

-- two rows of the list with links to one row are one
same_before : (w : Rows) (g : Ledger) (p q x : ℕ) → IsLive g p → IsLive g q → w.next p ≡ Some x → w.next q ≡ Some x → ((a b : ℕ) → IsLive g a → IsLive g b → (a ≡ b) ⊎ IsBefore w a b ⊎ IsBefore w b a) → ((a b : ℕ) → IsLive g a → w.next a ≡ Some b → w.least a < w.least b) → p ≡ q
same_before w g p q x a b e f apart rises = which (apart p q a b)
  where
    behind : (m n : ℕ) → w.next m ≡ Some x → IsLive g n → w.next n ≡ Some x → IsBefore w m n → ⊥
    behind m n c k d t =
        let same : t.next ≡ x = same_Some t.next x (sym t.follows ∙ c) in
        let up : w.least n < w.least x = rises n x k d in
        omega (arith, t.above, up, ap w.least same)

    which : (p ≡ q) ⊎ IsBefore w p q ⊎ IsBefore w q p → p ≡ q
    which (inl c) = c
    which (inr (inl t)) = absurd (behind p q e b f t)
    which (inr (inr t)) = absurd (behind q p f a e t)

-- a follower of the list has a leader there
leader_of : (w : Rows) (g : Ledger) (x : ℕ) (s : row.State) → w.state x ≡ s → IsFollowing s → IsLiveState w g x s → (p : ℕ) × HasLeader w g x p
leader_of w g x (row.Follower p) e f k = (p, k)
leader_of w g x row.Free e f k = absurd f
leader_of w g x (row.Infant seat) e f k = absurd f
leader_of w g x row.Normal e f k = absurd f
leader_of w g x (row.Leader n) e f k = absurd f
leader_of w g x (row.Retired m) e f k = absurd k

-- a leader is not one that nobody has engaged
leads_two : (s : row.State) → s ≡ row.Leader 2 → is_unled s ≡ true → ⊥
leads_two s e t = let x : is_unled s ≡ is_unled (row.Leader 2) = ap is_unled e in absurd (cc)

-- Each event.

module _ (z : Sizes) (r r' : Run) (s : ℕ) (choice : Choice) (l : Local) where
  abbrev v : Words
  v = word z r.world

  abbrev v' : Words
  v' = word z r'.world

  -- what is said of the event: where it is a move it comes to a row left of the own one; and what
  -- the seat knows of the row before
  abbrev Leads : Activity → Local → Type 0
  Leads a k = (IsBalancing a → k.activity ≡ Activity.Rebalance (Rebalance.Engage Engage.Clock) → LeftOf v l k) × IsLed v' r'.ledger.rows k.activity k

  plain : (a : Activity) (k : Local) → Plain v' r'.ledger.rows k → Leads a k
  plain a k p = (λ b e. absurd (p.0 e), p.1)

  -- the row before, if there is one, by its name
  before_is : (a : Activity) (k : Local) → Happens z r r' s choice l k a → Shape z r → ((p : ℕ) × (l.rebalance.before ≡ Some p)) → IsBeforeLive r.ledger.rows l → IsLive r.ledger.rows (row_or_first l.rebalance.before)
  before_is a k h i b f = subst (λ o. IsLive r.ledger.rows (row_or_first o)) (sym b.1) (f b.0 b.1)

  -- a row of the list whose link leads to the own row has a lesser least key
  less_by : (a : Activity) (k : Local) → Happens z r r' s choice l k a → Shape z r → IsBalancing a → (p : ℕ) → IsLive r.ledger.rows p → next_in v p ≡ Some l.row → least_in v p < l.lower
  less_by a k h i b p f e = omega (arith, i.rows.chain.rises p l.row f e, (balance_at a h i).lower b)

  -- one whose link is marked is engaged
  marked_led : Shape z r → (p : ℕ) → IsLive r.ledger.rows p → (rows_in v).marked p ≡ true → is_unled ((rows_in v).state p) ≡ true → ⊥
  marked_led i p f m u = engaged_led ((rows_in v).state p) ((i.rows.marks p).engaged f m) u

  -- the seat moves there where all rows are given back
  moves_by : (k : Local) (b : Afterwards) → (b ≡ MoveLeft → (is_unled ((rows_in v).state (row_or_first l.rebalance.before)) ≡ true → ⊥) × (l.rebalance.least < l.lower)) → (a : Activity) → GivenBack l b k → Leads a k
  moves_by k b f a (tries_again t) = (λ c e. absurd (cc), tt)
  moves_by k b f a (was_done t) = (λ c e. absurd (cc), tt)
  moves_by k b f a (is_refused_rows t) = (λ c e. absurd (cc), tt)
  moves_by k b f a (was_served t) = (λ c e. absurd (cc), tt)
  moves_by k b f a moves_left = (λ c e. record { led = (f refl).0; less = (f refl).1 }, tt)

  -- or is about to give them back
  back_by : (k : Local) → (is_unled ((rows_in v).state (row_or_first l.rebalance.before)) ≡ true → ⊥) → l.rebalance.least < l.lower → (a : Activity) → NextBack MoveLeft l k → Leads a k
  back_by k n o a (gives_back h) = (λ c e. absurd (cc), λ e. o)
  back_by k n o a (has_none x h w) = moves_by k MoveLeft (λ e. (n, o)) a w

  -- where the link of the row before is found marked
  marked_by : (a : Activity) (k : Local) → Happens z r r' s choice l k a → Shape z r → IsBalancing a → (p : ℕ) → l.rebalance.before ≡ Some p → IsLive r.ledger.rows p → l.rebalance.least ≡ least_in v p → link_of (v (name.Next p)) ≡ Some (marked_link (Some l.row)) → NextBack MoveLeft l k → Leads a k
  marked_by a k h i b p e f m t w =
      back_by k (subst (λ o. is_unled ((rows_in v).state (row_or_first o)) ≡ true → ⊥) (sym e) (marked_led i p f (ap has_mark t))) (omega (arith, m, less_by a k h i b p f (ap row_linked t))) a w

  -- at the end of the walk
  exchange_by : (k : Local) → Happens z r r' s choice l k (Activity.Rebalance (Rebalance.Replace Replace.Exchange)) → Shape z r → IsBeforeLive r.ledger.rows l → (o : Option ℕ) → l.rebalance.before ≡ o → link_of (v (replaced_link o)) ≡ Some (marked_link (Some l.row)) → NextBack MoveLeft l k → Leads (Activity.Rebalance (Rebalance.Replace Replace.Exchange)) k
  exchange_by k h i f (Some p) e t w = marked_by (Activity.Rebalance (Rebalance.Replace Replace.Exchange)) k h i tt p e (f p e) ((search_at (Activity.Rebalance (Rebalance.Replace Replace.Exchange)) h i).least p tt e) t w
  exchange_by k h i f None e t w = absurd (head_open z r i l.row t)

  building_leads : (a : Activity) (k : Local) → Building z v choice l a k → Steps z r r' s choice l k a → IsFair v r.ledger.rows a l → IsClean r.ledger.rows a l → IsLed v r.ledger.rows a l → Leads a k
  building_leads a k (first_is_taken q n m o e w) x f c d = plain a k (seek_led v' r'.ledger.rows n _ k w)
  building_leads a k (sought_is_taken n m e w) x f c d = plain a k (seek_led v' r'.ledger.rows n l k w)
  building_leads a k (pass_is_old j epoch n m e o w) x f c d = plain a k (seek_led v' r'.ledger.rows n l k w)
  building_leads a k (pass_is_young j m y w) x f c d = plain a k (pass_led v' r'.ledger.rows z (j + 1) l k w)
  building_leads a k (takes_row n m e w) x f c d = plain a k (taken_led v' r'.ledger.rows n (with_row l) k w)
  building_leads a k (loses_row n m e w) x f c d = plain a k (seek_led v' r'.ledger.rows n l k w)
  building_leads a k (gives_one_back o) x f c d = (λ b e. absurd (cc), d)
  building_leads a k (gives_last_back m o w) x f c d = moves_by k l.rebalance.afterwards here a w
    where
      here : l.rebalance.afterwards ≡ MoveLeft → (is_unled ((rows_in v).state (row_or_first l.rebalance.before)) ≡ true → ⊥) × (l.rebalance.least < l.lower)
      here e =
          let p = (search_at a x.happens x.inv.shape).some e in
          let mark = x.full.moves s l x.happens.knows x.happens.activity e p.0 p.1 in
          (subst (λ q. is_unled ((rows_in v).state (row_or_first q)) ≡ true → ⊥) (sym p.1) (marked_led x.inv.shape p.0 (c e p.0 p.1) mark), d e)
  building_leads a k (writes_first m w) x f c d = plain a k (entry_led v' r'.ledger.rows z 0 l k w)
  building_leads a k (writes_entry j m w) x f c d = plain a k (entry_led v' r'.ledger.rows z (j + 1) l k w)
  building_leads a k (writes_no_cell j m o w) x f c d = plain a k (cell_led v' r'.ledger.rows z (j + 1) l k w)
  building_leads a k (writes_after j m w) x f c d = plain a k (cell_led v' r'.ledger.rows z (j + 1) l k w)
  building_leads a k (begins_before m w) x f c d = plain a k (before_led v' r'.ledger.rows _ l k w)
  building_leads a k (takes_head_before m w) x f c d = plain a k (before_led v' r'.ledger.rows _ l k w)
  building_leads a k (leads_on_marked m e w) x f c d =
      let y = search_at a x.happens x.inv.shape in
      let p = y.some tt in
      marked_by a k x.happens x.inv.shape tt p.0 p.1 (c p.0 p.1) (y.least p.0 tt p.1) (subst (λ q. link_of (v (name.Next (row_or_first q))) ≡ Some (marked_link (Some l.row))) p.1 e) w
  building_leads a k (leads_nowhere m e w) x f c d = plain a k (back_led v' r'.ledger.rows TryAgain l k (λ u. absurd (cc)) w)
  building_leads a k (walks_past m o w) x f c d = plain a k (back_led v' r'.ledger.rows TryAgain l k (λ u. absurd (cc)) w)
  building_leads a k (is_marked_before m e w) x f c d = exchange_by k x.happens x.inv.shape c l.rebalance.before refl e w
  building_leads a k (is_replaced m n w) x f c d = plain a k (back_led v' r'.ledger.rows TryAgain l k (λ u. absurd (cc)) w)
  building_leads a k _ x f c d = (λ b e. absurd (cc), tt)

  -- the leader that the state of a follower names
  leader_by : (a : Activity) (k : Local) → Happens z r r' s choice l k a → Shape z r → IsBalancing a → (p : ℕ) → HasLeader (rows_in v) r.ledger.rows l.row p → (is_unled ((rows_in v).state p) ≡ true → ⊥) × (least_in v p < l.lower)
  leader_by a k h i b p y = (leads_two _ y.two, less_by a k h i b p y.live y.link.next)

  -- and the one that a walk reaches are the same
  reached_by : (k : Local) → Steps z r r' s choice l k (Activity.Rebalance (Rebalance.Left Left.Next)) → IsLive r.ledger.rows l.row → (p : ℕ) → IsLive r.ledger.rows p → next_in v p ≡ Some l.row → (is_unled ((rows_in v).state p) ≡ true → ⊥) × (least_in v p < l.lower)
  reached_by k x f p g e =
      let i = x.inv.shape in
      let b = balance_at (Activity.Rebalance (Rebalance.Left Left.Next)) x.happens i in
      let y = leader_of (rows_in v) r.ledger.rows l.row _ refl b.group (live_state (rows_in v) r.ledger.rows l.row i.rows.states f) in
      let same : p ≡ y.0 = same_before (rows_in v) r.ledger.rows p y.0 l.row g y.1.live e y.1.link.next i.rows.chain.apart i.rows.chain.rises in
      subst (λ q. (is_unled ((rows_in v).state q) ≡ true → ⊥) × (least_in v q < l.lower)) (sym same) (leader_by (Activity.Rebalance (Rebalance.Left Left.Next)) k x.happens i tt y.0 y.1)

  pub leads_by : (a : Activity) (k : Local) → Arrow z v s choice l a k → Steps z r r' s choice l k a → IsFair v r.ledger.rows a l → IsClean r.ledger.rows a l → IsLed v r.ledger.rows a l → Leads a k
  leads_by a k (builds b m y t) x f c d = building_leads b k t x f c d
  leads_by a k (finds_full e) x f c d = (λ b u. absurd b, tt)
  leads_by a k (takes_full e) x f c d = (λ b u. absurd b, tt)
  leads_by a k (announces_full e) x f c d = (λ b u. absurd b, tt)
  leads_by a k (stamps_full e) x f c d = (λ b u. absurd b, tt)
  leads_by a k (tidies n e) x f c d = (λ b u. absurd b, tt)
  leads_by a k (sees_stamped j q version nx e n) x f c d = (λ b u. absurd b, look_led v' r'.ledger.rows z _ k nx n)
  leads_by a k (sees_neither j nx e n) x f c d = (λ b u. absurd b, look_led v' r'.ledger.rows z _ k nx n)
  leads_by a k (is_gone_by nx e n) x f c d = (λ b u. absurd b, look_led v' r'.ledger.rows z _ k nx n)
  leads_by a k (helps nx e n) x f c d = (λ b u. absurd b, look_led v' r'.ledger.rows z _ k nx n)
  leads_by a k (finds_stamped q version nx e n) x f c d = (λ b u. absurd b, look_led v' r'.ledger.rows z _ k nx n)
  leads_by a k (finds_other nx e n) x f c d = (λ b u. absurd b, look_led v' r'.ledger.rows z _ k nx n)
  leads_by a k (first_ends m e n) x f c d = (λ b u. absurd b, left_over_led v' r'.ledger.rows l k n)
  leads_by a k (list_ends m e n) x f c d = (λ b u. absurd b, left_over_led v' r'.ledger.rows l k n)
  leads_by a k (key_above m e n) x f c d = (λ b u. absurd b, left_over_led v' r'.ledger.rows l k n)
  leads_by a k (left_over_gone_by m e n) x f c d = (λ b u. absurd b, left_over_led v' r'.ledger.rows l k n)
  leads_by a k (gathers_left_over m n) x f c d = (λ b u. absurd b, left_over_led v' r'.ledger.rows _ k n)
  leads_by a k (finds_follower q e) x f c d =
      let g = live_stays a x.happens x.inv.shape tt l.row f in
      let t : (rows_in v').state l.row ≡ row.Follower q = read_state a x.happens x.inv.shape (state.Follower q) e (λ u. u) in
      (λ b u. absurd (cc), subst (IsLiveState (rows_in v') r'.ledger.rows l.row) t (live_state (rows_in v') r'.ledger.rows l.row x.after.shape.rows.states g))
  leads_by a k (marks_led count m e n) x f c d = plain a k (counted_leads (Elsewhere v' r'.ledger.rows) (λ y. (λ u. absurd (cc), tt)) (λ y. (λ u. absurd (cc), tt)) count _ k n k)
  leads_by a k (decides count m y e n) x f c d = plain a k (counted_leads (Elsewhere v' r'.ledger.rows) (λ y. (λ u. absurd (cc), tt)) (λ y. (λ u. absurd (cc), tt)) _ _ k n k)
  leads_by a k (takes_leader q e) x f c d = let y = leader_by a k x.happens x.inv.shape tt _ d in (λ b u. record { led = y.0; less = y.1 }, tt)
  leads_by a k (reaches_leader e) x f c d =
      let n = search_at a x.happens x.inv.shape in
      let p = n.some tt in
      let y = reached_by k x f _ (before_is a k x.happens x.inv.shape p c) e in
      let least : l.rebalance.least ≡ least_in v (row_or_first l.rebalance.before) = n.least p.0 tt p.1 ∙ ap (λ q. least_in v (row_or_first q)) (sym p.1) in
      (λ b u. record { led = y.0; less = omega (arith, least, y.1) }, tt)
  leads_by a k (remembers_last j q version m e o n) x f c d = plain a k (frozen_leads (Elsewhere v' r'.ledger.rows) (λ y. (λ u. absurd (cc), tt)) (λ y. (λ u. absurd (cc), tt)) _ k n k)
  leads_by a k (sees_frozen_last j m e o n) x f c d = plain a k (frozen_leads (Elsewhere v' r'.ledger.rows) (λ y. (λ u. absurd (cc), tt)) (λ y. (λ u. absurd (cc), tt)) _ k n k)
  leads_by a k (freezes_last j m e o n) x f c d = plain a k (frozen_leads (Elsewhere v' r'.ledger.rows) (λ y. (λ u. absurd (cc), tt)) (λ y. (λ u. absurd (cc), tt)) _ k n k)
  leads_by a k (takes_no_more m e y n) x f c d = plain a k (gathered_leads (Elsewhere v' r'.ledger.rows) (λ y. (λ u. absurd (cc), tt)) (λ y. (λ u. absurd (cc), tt)) z _ k n k)
  leads_by a k (keeps_no_more m y n) x f c d = plain a k (gathered_leads (Elsewhere v' r'.ledger.rows) (λ y. (λ u. absurd (cc), tt)) (λ y. (λ u. absurd (cc), tt)) z _ k n k)
  leads_by a k (asks_of_pin m o n) x f c d = plain a k (of_pin_is (Elsewhere v' r'.ledger.rows) (λ y. (λ u. absurd (cc), tt)) (λ y. (λ u. absurd (cc), tt)) (λ y. (λ u. absurd (cc), tt)) (λ y. (λ u. absurd (cc), tt)) (λ y. (λ u. absurd (cc), tt)) (λ y. (λ u. absurd (cc), tt)) n k)
  leads_by a k (looks_at_pin j m n) x f c d = plain a k (pin_look_is (Elsewhere v' r'.ledger.rows) (λ q y. (λ u. absurd (cc), tt)) (λ y. (λ u. absurd (cc), tt)) n k)
  leads_by a k _ x f c d = (λ b u. absurd (cc), tt)
