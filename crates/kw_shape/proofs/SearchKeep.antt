-- What a seat knows of the row before its full one, by the arrow that it takes. The words and the
-- ledger are those before the event; that what is so known stays over it is `search_stable`.
use Rattle.std.proofs.Common.{ℕ, ◌≡◌, ◌≢◌, ◌⊎◌, inl, inr, ◌+◌, ◌<◌, ◌≤◌, Option, Some, None, arith, refl, sym, ◌∙◌, ap, subst}
use Rattle.std.proofs.lemmas.Bool.{cases_lt}
use Rattle.std.proofs.lemmas.Option.{same_Some}
use Rattle.kw_words.specs.declared.layout.Name.TheVariants as name
use Rattle.kw_words.specs.Link.{link_of}
use Rattle.kw_rows.specs.Ledger.{Ledger, IsDead, IsFresh, IsLive}
use Rattle.kw_rows.specs.Rows.{IsBefore}
use Rattle.kw_rows.specs.Structure.{Structure}
use Rattle.kw_rows.proofs.Named.{fresh_next, normal_live}
use Rattle.kw_world.specs.declared.activity.Activity.{Activity}
use Rattle.kw_world.specs.declared.activity.rebalance.Rebalance.TheVariants as Rebalance
use Rattle.kw_world.specs.declared.activity.rebalance.replace.Replace.TheVariants as Replace
use Rattle.kw_world.specs.declared.activity.rebalance.seek.Seek.TheVariants as Seek
use Rattle.kw_world.specs.declared.event.Choice.{Choice}
use Rattle.kw_world.specs.declared.local.Local.{Local}
use Rattle.kw_world.specs.declared.rebalance.Afterwards.{Afterwards}
use Rattle.kw_world.specs.declared.rebalance.Afterwards.TheVariants.{TryAgain, Refuse, MoveLeft}
use Rattle.kw_world.specs.ReplaceTransitions.{replaced_link}
use Rattle.kw_world.specs.Sizes.{Sizes}
use Rattle.kw_world.specs.Transition.{row_linked, row_or_first}
use Rattle.kw_core.specs.Words.{Words, least_in, next_in}
use Rattle.kw_core.proofs.Building.{Building, first_is_free, first_is_retired, first_is_taken, sought_is_free, sought_is_retired, sought_is_taken, pass_is_old, pass_is_young, frees_row, takes_row, loses_row, gives_one_back, gives_last_back, writes_count, writes_least, writes_link, writes_first, writes_entry, writes_key, writes_value, writes_version, writes_no_cell, writes_after, begins_before, guesses_before, guess_before_fails, before_serves, before_is_above, takes_head_before, leads_to_full, leads_on_marked, leads_to_other, leads_nowhere, walks_before, walks_past, replaces_row, is_marked_before, is_replaced, makes_normal, makes_last_normal, draws_number, retires_ahead, retires_row, marked_link, retires_and_leaves}
use Rattle.kw_core.proofs.NextBuilt.{GivenBack, is_refused_rows, moves_left, tries_again, NextBack, gives_back, has_none, NextPass, has_looked, looks_on, NextSeek, asks, has_asked, NextTaken, has_enough, wants_more, NextNewCell, empties, fills, has_cells, NextNewEntry, has_entries, writes_idle, NextNewRow, has_written, writes_row, NextBefore, is_behind, is_first, was_done, was_served}
use Rattle.kw_shape.specs.RowsIn.{rows_in, state_seen}
use Rattle.kw_shape.specs.Search.{HasBefore, HasReachedNext, IsLeft, IsMeasured, IsSearching, Search}

module _ (v : Words) (g : Ledger) (t : ℕ) where
  -- a seat that seeks no row before its own, and is about to move to none
  pub elsewhere : (a : Activity) (k : Local) → (IsSearching a k → ⊥) → (IsMeasured a k → ⊥) → (HasBefore a k → ⊥) → (HasReachedNext a → ⊥) → Search v g t a k
  elsewhere a k n m b c = record { some = λ x. absurd (b x); fresh = λ p x e. absurd (n x); least = λ p x e. absurd (m x); left = λ p x e. absurd (m x); saw = λ x. absurd (c x) }

  -- one that gives its rows back, and does not move then
  stays_back : (k : Local) (c : Afterwards) → k.rebalance.afterwards ≡ c → (c ≡ MoveLeft → ⊥) → Search v g t (Activity.Rebalance (Rebalance.Seek Seek.GiveBack)) k
  stays_back k c e n = elsewhere (Activity.Rebalance (Rebalance.Seek Seek.GiveBack)) k (λ x. n (sym e ∙ x)) (λ x. n (sym e ∙ x)) (λ x. n (sym e ∙ x)) (λ x. x)

  given_on : (c : Afterwards) (k next : Local) → GivenBack k c next → Search v g t next.activity next
  given_on c k next (tries_again nd) = elsewhere _ _ (λ x. x) (λ x. x) (λ x. x) (λ x. x)
  given_on c k next (was_done dn) = elsewhere _ _ (λ x. x) (λ x. x) (λ x. x) (λ x. x)
  given_on c k next (is_refused_rows nd) = elsewhere _ _ (λ x. x) (λ x. x) (λ x. x) (λ x. x)
  given_on c k next (was_served dn) = elsewhere _ _ (λ x. x) (λ x. x) (λ x. x) (λ x. x)
  given_on c k next moves_left = elsewhere _ _ (λ x. x) (λ x. x) (λ x. x) (λ x. x)

  -- rows are given back, and the seat does not move
  back_on : (c : Afterwards) (k next : Local) → (c ≡ MoveLeft → ⊥) → NextBack c k next → Search v g t next.activity next
  back_on c k next n (gives_back o) = stays_back _ c refl n
  back_on c k next n (has_none m o y) = given_on c k next y

  -- it moves to the row that it knows
  left_on : (k next : Local) → NextBack MoveLeft k next → (p : ℕ) × (k.rebalance.before ≡ Some p) → ((p : ℕ) → k.rebalance.before ≡ Some p → IsFresh g t p) → ((p : ℕ) → k.rebalance.before ≡ Some p → k.rebalance.least ≡ least_in v p) →
      ((p : ℕ) → k.rebalance.before ≡ Some p → IsLeft v g k p) → Search v g t next.activity next
  left_on k next (gives_back o) some fresh least left = record { some = λ x. some; fresh = λ p x e. fresh p e; least = λ p x e. least p e; left = λ p x e. left p e; saw = λ x. absurd x }
  left_on k next (has_none m o y) some fresh least left = given_on MoveLeft k next y

  seek_on : (rows : ℕ) (k next : Local) → NextSeek rows k next → Search v g t next.activity next
  seek_on rows k next (asks o) = elsewhere _ _ (λ x. x) (λ x. x) (λ x. x) (λ x. x)
  seek_on rows k next (has_asked m o y) = back_on Refuse k next (λ e. cc) y

  pass_on : (z : Sizes) (i : ℕ) (k next : Local) → NextPass z i k next → Search v g t next.activity next
  pass_on z i k next (looks_on o) = elsewhere _ _ (λ x. x) (λ x. x) (λ x. x) (λ x. x)
  pass_on z i k next (has_looked o) = elsewhere _ _ (λ x. x) (λ x. x) (λ x. x) (λ x. x)

  taken_on : (rows : ℕ) (k next : Local) → NextTaken rows k next → Search v g t next.activity next
  taken_on rows k next (wants_more m o y) = seek_on rows k next y
  taken_on rows k next (has_enough o) = elsewhere _ _ (λ x. x) (λ x. x) (λ x. x) (λ x. x)

  row_on : (k next : Local) → NextNewRow k next → Search v g t next.activity next
  row_on k next (writes_row o) = elsewhere _ _ (λ x. x) (λ x. x) (λ x. x) (λ x. x)
  row_on k next (has_written o) = elsewhere _ _ (λ x. x) (λ x. x) (λ x. x) (λ x. x)

  cell_on : (z : Sizes) (j : ℕ) (k next : Local) → NextNewCell z j k next → Search v g t next.activity next
  cell_on z j k next (fills o p) = elsewhere _ _ (λ x. x) (λ x. x) (λ x. x) (λ x. x)
  cell_on z j k next (empties o p) = elsewhere _ _ (λ x. x) (λ x. x) (λ x. x) (λ x. x)
  cell_on z j k next (has_cells m o y) = row_on k next y

  entry_on : (z : Sizes) (i : ℕ) (k next : Local) → NextNewEntry z i k next → Search v g t next.activity next
  entry_on z i k next (writes_idle o) = elsewhere _ _ (λ x. x) (λ x. x) (λ x. x) (λ x. x)
  entry_on z i k next (has_entries m o y) = cell_on z 0 k next y

module _ (v : Words) (g : Ledger) (t now : ℕ) (i : Structure (rows_in v) g now) (l : Local) (fresh : IsFresh g t l.row) (lower : l.lower ≡ least_in v l.row) where
  -- the first row is before the full one, if it is another
  pub first_left : i.chain.first ≢ l.row → IsLeft v g l i.chain.first
  first_left d = which fresh
    where
      live : IsLive g l.row → (i.chain.first ≡ l.row) ⊎ IsBefore (rows_in v) i.chain.first l.row ⊎ IsBefore (rows_in v) l.row i.chain.first → IsLeft v g l i.chain.first
      live a (inl e) = absurd (d e)
      live a (inr (inl b)) = inl (omega (arith, i.chain.rises i.chain.first b.next i.chain.first_live b.follows, b.above, lower))
      live a (inr (inr b)) = absurd (omega (arith, i.chain.rises l.row b.next a b.follows, b.above, i.chain.first_least))

      dead : IsDead g l.row → (least_in v i.chain.first < l.lower) ⊎ (l.lower ≤ least_in v i.chain.first) → IsLeft v g l i.chain.first
      dead a (inl o) = inl o
      dead a (inr o) = inr (a, omega (arith, o, i.chain.first_least))

      which : IsFresh g t l.row → IsLeft v g l i.chain.first
      which (inl a) = live a (i.chain.apart i.chain.first l.row i.chain.first_live a)
      which (inr a) = dead a.dead (cases_lt (least_in v i.chain.first) l.lower)

  -- the walk begins there, or there is none before the full row
  begins_on : (next : Local) → NextBefore (row_or_first (row_linked (link_of (v name.Head)))) l next → Search v g t next.activity next
  begins_on next (is_first e) = record { some = λ x. absurd x; fresh = λ p x e. let c : None ≡ Some p = e in absurd (cc); least = λ p x e. let c : None ≡ Some p = e in absurd (cc); left = λ p x e. let c : None ≡ Some p = e in absurd (cc); saw = λ x. absurd x }
  begins_on next (is_behind d) = record {
    some = λ x. (row_or_first (row_linked (link_of (v name.Head))), refl);
    fresh = λ p x e. subst (IsFresh g t) (first ∙ same_Some _ p e) (inl i.chain.first_live);
    least = λ p x e. subst (λ q. 0 ≡ least_in v q) (first ∙ same_Some _ p e) (sym i.chain.first_least);
    left = λ p x e. subst (λ q. IsLeft v g l q) (first ∙ same_Some _ p e) (first_left (λ c. d (sym first ∙ c)));
    saw = λ x. absurd x;
  }
    where
      first : i.chain.first ≡ row_or_first (row_linked (link_of (v name.Head)))
      first = sym (ap row_or_first i.chain.leads)

  -- a seat moves to the row in which the full one's link is marked, which is not that of the head
  moves_on : (next : Local) (b : Option ℕ) → l.rebalance.before ≡ b → link_of (v (replaced_link b)) ≡ Some (marked_link (Some l.row)) → (link_of (v name.Head) ≡ Some (marked_link (Some l.row)) → ⊥) → NextBack MoveLeft l next → Search v g t (Activity.Rebalance (Rebalance.Replace Replace.Exchange)) l → Search v g t next.activity next
  moves_on next (Some p) e k head y x = left_on v g t l next y (p, e) (λ q f. x.fresh q tt f) (λ q f. x.least q tt f) (λ q f. x.left q tt f)
  moves_on next None e k head y x = absurd (head k)

  -- what the seat knows next
  pub search_by : (z : Sizes) (choice : Choice) (a : Activity) (k : Local) → Building z v choice l a k → (link_of (v name.Head) ≡ Some (marked_link (Some l.row)) → ⊥) → Search v g t a l → Search v g t k.activity k
  search_by z choice a k (first_is_free q f e) head x = elsewhere v g t _ _ (λ y. y) (λ y. y) (λ y. y) (λ y. y)
  search_by z choice a k (first_is_taken q rows next f n y) head x = seek_on v g t rows _ next y
  search_by z choice a k (sought_is_free e) head x = elsewhere v g t _ _ (λ y. y) (λ y. y) (λ y. y) (λ y. y)
  search_by z choice a k (sought_is_taken rows next n y) head x = seek_on v g t rows _ next y
  search_by z choice a k (first_is_retired q m c e) head x = elsewhere v g t _ _ (λ y. y) (λ y. y) (λ y. y) (λ y. y)
  search_by z choice a k (sought_is_retired m e) head x = elsewhere v g t _ _ (λ y. y) (λ y. y) (λ y. y) (λ y. y)
  search_by z choice a k (pass_is_old j epoch rows next e o y) head x = seek_on v g t rows _ next y
  search_by z choice a k (pass_is_young j next o y) head x = pass_on v g t z _ l next y
  search_by z choice a k frees_row head x = elsewhere v g t _ _ (λ y. y) (λ y. y) (λ y. y) (λ y. y)
  search_by z choice a k (takes_row rows next e y) head x = taken_on v g t rows _ next y
  search_by z choice a k (loses_row rows next d y) head x = seek_on v g t rows _ next y
  search_by z choice a k (gives_one_back o) head x = record { some = x.some; fresh = x.fresh; least = x.least; left = x.left; saw = x.saw }
  search_by z choice a k (gives_last_back next o y) head x = given_on v g t l.rebalance.afterwards l next y
  search_by z choice a k writes_count head x = elsewhere v g t _ _ (λ y. y) (λ y. y) (λ y. y) (λ y. y)
  search_by z choice a k writes_least head x = elsewhere v g t _ _ (λ y. y) (λ y. y) (λ y. y) (λ y. y)
  search_by z choice a k writes_link head x = elsewhere v g t _ _ (λ y. y) (λ y. y) (λ y. y) (λ y. y)
  search_by z choice a k (writes_first next y) head x = entry_on v g t z 0 l next y
  search_by z choice a k (writes_entry j next y) head x = entry_on v g t z (j + 1) l next y
  search_by z choice a k (writes_key j) head x = elsewhere v g t _ _ (λ y. y) (λ y. y) (λ y. y) (λ y. y)
  search_by z choice a k (writes_value j) head x = elsewhere v g t _ _ (λ y. y) (λ y. y) (λ y. y) (λ y. y)
  search_by z choice a k (writes_version j o) head x = elsewhere v g t _ _ (λ y. y) (λ y. y) (λ y. y) (λ y. y)
  search_by z choice a k (writes_no_cell j next o y) head x = cell_on v g t z (j + 1) l next y
  search_by z choice a k (writes_after j next y) head x = cell_on v g t z (j + 1) l next y
  search_by z choice a k (begins_before next y) head x = begins_on next y
  search_by z choice a k (guesses_before q f e) head x = record { some = λ y. (q, refl); fresh = λ p y d. subst (IsFresh g t) (same_Some q p d) (inl (normal_live (rows_in v) g q i.states (ap state_seen e))); least = λ p y d. absurd y; left = λ p y d. absurd y; saw = λ y. absurd y }
  search_by z choice a k guess_before_fails head x = elsewhere v g t _ _ (λ y. y) (λ y. y) (λ y. y) (λ y. y)
  search_by z choice a k (before_serves o) head x = record { some = λ y. x.some tt; fresh = λ p y e. x.fresh p tt e; least = λ p y e. ap (λ b. least_in v (row_or_first b)) e; left = λ p y e. inl (subst (λ b. least_in v (row_or_first b) < l.lower) e o); saw = λ y. absurd y }
  search_by z choice a k (before_is_above o) head x = elsewhere v g t _ _ (λ y. y) (λ y. y) (λ y. y) (λ y. y)
  search_by z choice a k (takes_head_before next y) head x = begins_on next y
  search_by z choice a k (leads_to_full e) head x = record { some = λ y. absurd y; fresh = λ p y f. x.fresh p tt f; least = λ p y f. x.least p tt f; left = λ p y f. x.left p tt f; saw = λ y. absurd y }
  search_by z choice a k (leads_on_marked next e y) head x = left_on v g t l next y (x.some tt) (λ p f. x.fresh p tt f) (λ p f. x.least p tt f) (λ p f. x.left p tt f)
  search_by z choice a k (leads_to_other q e d) head x = let p = x.some tt in record { some = λ y. p; fresh = λ o y f. x.fresh o tt f; least = λ o y f. x.least o tt f; left = λ o y f. x.left o tt f; saw = λ y. fresh_next (rows_in v) g i.closed t p.0 q (x.fresh p.0 tt p.1) (subst (λ b. next_in v (row_or_first b) ≡ Some q) p.1 e) }
  search_by z choice a k (leads_nowhere next e y) head x = back_on v g t TryAgain l next (λ f. cc) y
  search_by z choice a k (walks_before o) head x = record { some = λ y. (l.candidate, refl); fresh = λ p y e. subst (IsFresh g t) (same_Some l.candidate p e) (x.saw tt); least = λ p y e. ap (least_in v) (same_Some l.candidate p e); left = λ p y e. inl (subst (λ q. least_in v q < l.lower) (same_Some l.candidate p e) o); saw = λ y. absurd y }
  search_by z choice a k (walks_past next o y) head x = back_on v g t TryAgain l next (λ f. cc) y
  search_by z choice a k (replaces_row e) head x = elsewhere v g t _ _ (λ y. y) (λ y. y) (λ y. y) (λ y. y)
  search_by z choice a k (is_marked_before next e y) head x = moves_on next l.rebalance.before refl e head y x
  search_by z choice a k (is_replaced next d y) head x = back_on v g t TryAgain l next (λ f. cc) y
  search_by z choice a k (makes_normal o) head x = elsewhere v g t _ _ (λ y. y) (λ y. y) (λ y. y) (λ y. y)
  search_by z choice a k (makes_last_normal o) head x = elsewhere v g t _ _ (λ y. y) (λ y. y) (λ y. y) (λ y. y)
  search_by z choice a k draws_number head x = elsewhere v g t _ _ (λ y. y) (λ y. y) (λ y. y) (λ y. y)
  search_by z choice a k (retires_ahead q e) head x = elsewhere v g t _ _ (λ y. y) (λ y. y) (λ y. y) (λ y. y)
  search_by z choice a k (retires_row n nd) head x = elsewhere v g t _ _ (λ y. y) (λ y. y) (λ y. y) (λ y. y)
  search_by z choice a k (retires_and_leaves n dn) head x = elsewhere v g t _ _ (λ y. y) (λ y. y) (λ y. y) (λ y. y)
