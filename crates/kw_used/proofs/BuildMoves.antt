-- How a seat that builds new rows comes to give them back and move left, and that as long as it
-- takes none it has as many as before.
use Rattle.std.proofs.Common.{ℕ, ◌≡◌, ◌⊎◌, inl, inr, Bool, true, false, Option, None, Some, refl, sym, ◌∙◌, ap, subst, length, eq-eqb}
use Rattle.std.proofs.lemmas.Option.{same_Some}
use Rattle.kw_words.specs.declared.layout.Name.TheVariants as name
use Rattle.kw_words.specs.declared.state.State.TheVariants.{Free}
use Rattle.kw_words.specs.Link.{link_of}
use Rattle.kw_words.specs.State.{state_word}
use Rattle.kw_rows.specs.Ledger.{IsLive, Ledger}
use Rattle.kw_world.specs.declared.activity.Activity.{Activity}
use Rattle.kw_world.specs.declared.activity.rebalance.Rebalance.TheVariants as Rebalance
use Rattle.kw_world.specs.declared.activity.rebalance.replace.Replace.TheVariants as Replace
use Rattle.kw_world.specs.declared.activity.rebalance.seek.Seek.TheVariants as Seek
use Rattle.kw_world.specs.declared.event.Choice.{Choice}
use Rattle.kw_world.specs.declared.local.Local.{Local}
use Rattle.kw_world.specs.declared.rebalance.Afterwards.{Afterwards}
use Rattle.kw_world.specs.declared.rebalance.Afterwards.TheVariants.{MoveLeft, Refuse, TryAgain}
use Rattle.kw_world.specs.ReplaceTransitions.{replaced_link}
use Rattle.kw_world.specs.SeekTransitions.{seeking}
use Rattle.kw_world.specs.Sizes.{Sizes}
use Rattle.kw_world.specs.Step.{word}
use Rattle.kw_world.specs.Transition.{row_linked, row_or_first}
use Rattle.kw_core.specs.Run.{Run}
use Rattle.kw_core.specs.Words.{Words}
use Rattle.kw_core.proofs.Building.{Building, IsBuilding, begins_before, first_is_taken, gives_last_back, gives_one_back, is_marked_before, is_replaced, leads_nowhere, leads_on_marked, loses_row, pass_is_old, pass_is_young, retires_and_leaves, retires_row, sought_is_taken, takes_head_before, takes_row, walks_past, writes_after, writes_entry, writes_first, writes_no_cell}
use Rattle.kw_core.proofs.Happens.{Happens, found_at}
use Rattle.kw_core.proofs.NextBuilt.{GivenBack, NextBack, NextBefore, NextNewCell, NextNewEntry, NextNewRow, NextPass, NextSeek, NextTaken, asks, empties, fills, gives_back, has_asked, has_cells, has_enough, has_entries, has_looked, has_none, has_written, is_behind, is_first, is_refused_rows, looks_on, moves_left, tries_again, wants_more, was_done, was_served, writes_idle, writes_row}
use Rattle.kw_shape.specs.Shape.{Shape}
use Rattle.kw_shape.proofs.Comings.{Comes, comes, goes_on, seeks, stays_out}
use Rattle.kw_shape.proofs.LinkedRows.{reached_live, search_at}
use Rattle.kw_counts.specs.Counts.{Builds, Counts, build_taking, builds_after, has_begun, is_live, with_build}
use Rattle.kw_counts.specs.Walks.{IsAtBefore, IsSeeking, KeepsWalks, is_before}
use Rattle.kw_counts.proofs.Updates.{at_set}
use Rattle.kw_used.proofs.Calls.{after_building}
use Rattle.kw_used.proofs.Facts.{IsMoving, Known}
use Rattle.kw_used.proofs.Lasting.{TakesNone, counts_none}

-- How many rows it has.

-- a seat that builds on has so many
abbrev HasStill : ℕ → Local → Type 0
HasStill n k = IsBuilding k.activity → length k.rebalance.taken ≡ n

given_has : (n : ℕ) (c : Afterwards) (l k : Local) → GivenBack l c k → HasStill n k
given_has n c l k (tries_again e) x = absurd x
given_has n c l k (was_done e) x = absurd x
given_has n c l k (is_refused_rows e) x = absurd x
given_has n c l k (was_served e) x = absurd x
given_has n c l k moves_left x = absurd x

back_has : (c : Afterwards) (l k : Local) → NextBack c l k → HasStill (length l.rebalance.taken) k
back_has c l k (gives_back o) x = refl
back_has c l k (has_none m o y) x = given_has _ c l k y x

seek_has : (rows : ℕ) (l k : Local) → NextSeek rows l k → HasStill (length l.rebalance.taken) k
seek_has rows l k (asks o) x = refl
seek_has rows l k (has_asked m o y) x = back_has Refuse l k y x

pass_has : (z : Sizes) (i : ℕ) (l k : Local) → NextPass z i l k → HasStill (length l.rebalance.taken) k
pass_has z i l k (looks_on o) x = refl
pass_has z i l k (has_looked o) x = refl

row_has : (l k : Local) → NextNewRow l k → HasStill (length l.rebalance.taken) k
row_has l k (writes_row o) x = refl
row_has l k (has_written o) x = refl

cell_has : (z : Sizes) (j : ℕ) (l k : Local) → NextNewCell z j l k → HasStill (length l.rebalance.taken) k
cell_has z j l k (fills o p) x = refl
cell_has z j l k (empties o p) x = refl
cell_has z j l k (has_cells m o y) x = row_has l k y x

entry_has : (z : Sizes) (i : ℕ) (l k : Local) → NextNewEntry z i l k → HasStill (length l.rebalance.taken) k
entry_has z i l k (writes_idle o) x = refl
entry_has z i l k (has_entries m o y) x = cell_has z 0 l k y x

head_has : (q : ℕ) (l k : Local) → NextBefore q l k → HasStill (length l.rebalance.taken) k
head_has q l k (is_first e) x = refl
head_has q l k (is_behind d) x = refl

-- the event takes a row, or the seat has as many as before
abbrev Has : Words → Activity → Local → Local → Type 0
Has v a l k = (length k.rebalance.taken ≡ length l.rebalance.taken) ⊎ (a ≡ Activity.Rebalance (Rebalance.Seek Seek.Take)) × (v (name.State l.rebalance.sought) ≡ state_word Free)

rows_same : (z : Sizes) (v : Words) (choice : Choice) (l : Local) (a : Activity) (k : Local) → Building z v choice l a k → IsBuilding k.activity → Has v a l k
rows_same z v choice l a k (first_is_taken q rows next f n y) x = inl (seek_has rows (seeking q l) next y x)
rows_same z v choice l a k (sought_is_taken rows next n y) x = inl (seek_has rows l next y x)
rows_same z v choice l a k (pass_is_old j epoch rows next f o y) x = inl (seek_has rows l next y x)
rows_same z v choice l a k (pass_is_young j next o y) x = inl (pass_has z _ l next y x)
rows_same z v choice l a k (takes_row rows next f y) x = inr (refl, f)
rows_same z v choice l a k (loses_row rows next d y) x = inl (seek_has rows l next y x)
rows_same z v choice l a k (gives_last_back next o y) x = inl (given_has _ l.rebalance.afterwards l next y x)
rows_same z v choice l a k (writes_first next y) x = inl (entry_has z 0 l next y x)
rows_same z v choice l a k (writes_entry j next y) x = inl (entry_has z _ l next y x)
rows_same z v choice l a k (writes_no_cell j next o y) x = inl (cell_has z _ l next y x)
rows_same z v choice l a k (writes_after j next y) x = inl (cell_has z _ l next y x)
rows_same z v choice l a k (begins_before next y) x = inl (head_has _ l next y x)
rows_same z v choice l a k (takes_head_before next y) x = inl (head_has _ l next y x)
rows_same z v choice l a k (leads_on_marked next e y) x = inl (back_has MoveLeft l next y x)
rows_same z v choice l a k (leads_nowhere next e y) x = inl (back_has TryAgain l next y x)
rows_same z v choice l a k (walks_past next o y) x = inl (back_has TryAgain l next y x)
rows_same z v choice l a k (is_marked_before next e y) x = inl (back_has MoveLeft l next y x)
rows_same z v choice l a k (is_replaced next d y) x = inl (back_has TryAgain l next y x)
rows_same z v choice l a k (retires_row n d) x = absurd x
rows_same z v choice l a k (retires_and_leaves n d) x = absurd x
rows_same z v choice l a k _ x = inl refl

-- How it comes to move left.

-- it gave rows back for that before, or found the link to its row marked
data ToMove (v : Words) (l : Local) (a : Activity) (k : Local) : Type 0 where
  goes_on_moving : IsMoving a l → k.row ≡ l.row → ToMove v l a k
  is_marked : (a ≡ Activity.Rebalance (Rebalance.Replace Replace.Next)) ⊎ (a ≡ Activity.Rebalance (Rebalance.Replace Replace.Exchange)) → row_linked (link_of (v (replaced_link l.rebalance.before))) ≡ Some l.row → k.row ≡ l.row → ToMove v l a k

-- in no other part does it
given_stays : (c : Afterwards) (l k : Local) → GivenBack l c k → IsMoving k.activity k → ⊥
given_stays c l k (tries_again e) x = x
given_stays c l k (was_done e) x = x
given_stays c l k (is_refused_rows e) x = x
given_stays c l k (was_served e) x = x
given_stays c l k moves_left x = x

refused_stays : (l k : Local) → NextBack Refuse l k → IsMoving k.activity k → ⊥
refused_stays l k (gives_back o) x = x
refused_stays l k (has_none m o y) x = given_stays Refuse l k y x

again_stays : (l k : Local) → NextBack TryAgain l k → IsMoving k.activity k → ⊥
again_stays l k (gives_back o) x = x
again_stays l k (has_none m o y) x = given_stays TryAgain l k y x

left_row : (l k : Local) → NextBack MoveLeft l k → IsMoving k.activity k → k.row ≡ l.row
left_row l k (gives_back o) x = refl
left_row l k (has_none m o y) x = absurd (given_stays MoveLeft l k y x)

seek_stays : (rows : ℕ) (l k : Local) → NextSeek rows l k → IsMoving k.activity k → ⊥
seek_stays rows l k (asks o) x = x
seek_stays rows l k (has_asked m o y) x = refused_stays l k y x

pass_stays : (z : Sizes) (i : ℕ) (l k : Local) → NextPass z i l k → IsMoving k.activity k → ⊥
pass_stays z i l k (looks_on o) x = x
pass_stays z i l k (has_looked o) x = x

taken_stays : (rows : ℕ) (l k : Local) → NextTaken rows l k → IsMoving k.activity k → ⊥
taken_stays rows l k (wants_more m o y) x = seek_stays rows l k y x
taken_stays rows l k (has_enough o) x = x

row_stays : (l k : Local) → NextNewRow l k → IsMoving k.activity k → ⊥
row_stays l k (writes_row o) x = x
row_stays l k (has_written o) x = x

cell_stays : (z : Sizes) (j : ℕ) (l k : Local) → NextNewCell z j l k → IsMoving k.activity k → ⊥
cell_stays z j l k (fills o p) x = x
cell_stays z j l k (empties o p) x = x
cell_stays z j l k (has_cells m o y) x = row_stays l k y x

entry_stays : (z : Sizes) (i : ℕ) (l k : Local) → NextNewEntry z i l k → IsMoving k.activity k → ⊥
entry_stays z i l k (writes_idle o) x = x
entry_stays z i l k (has_entries m o y) x = cell_stays z 0 l k y x

head_stays : (q : ℕ) (l k : Local) → NextBefore q l k → IsMoving k.activity k → ⊥
head_stays q l k (is_first e) x = x
head_stays q l k (is_behind d) x = x

to_move : (z : Sizes) (v : Words) (choice : Choice) (l : Local) (a : Activity) (k : Local) → Building z v choice l a k → IsMoving k.activity k → (a ≡ Activity.Rebalance (Rebalance.Replace Replace.Next) → (p : ℕ) × (l.rebalance.before ≡ Some p)) → ToMove v l a k
to_move z v choice l a k (first_is_taken q rows next f n y) x s = absurd (seek_stays rows _ next y x)
to_move z v choice l a k (sought_is_taken rows next n y) x s = absurd (seek_stays rows _ next y x)
to_move z v choice l a k (pass_is_old j epoch rows next f o y) x s = absurd (seek_stays rows _ next y x)
to_move z v choice l a k (pass_is_young j next o y) x s = absurd (pass_stays z _ l next y x)
to_move z v choice l a k (takes_row rows next f y) x s = absurd (taken_stays rows _ next y x)
to_move z v choice l a k (loses_row rows next d y) x s = absurd (seek_stays rows _ next y x)
to_move z v choice l a k (gives_one_back o) x s = goes_on_moving x refl
to_move z v choice l a k (gives_last_back next o y) x s = absurd (given_stays l.rebalance.afterwards l next y x)
to_move z v choice l a k (writes_first next y) x s = absurd (entry_stays z 0 l next y x)
to_move z v choice l a k (writes_entry j next y) x s = absurd (entry_stays z _ l next y x)
to_move z v choice l a k (writes_no_cell j next o y) x s = absurd (cell_stays z _ l next y x)
to_move z v choice l a k (writes_after j next y) x s = absurd (cell_stays z _ l next y x)
to_move z v choice l a k (begins_before next y) x s = absurd (head_stays _ l next y x)
to_move z v choice l a k (takes_head_before next y) x s = absurd (head_stays _ l next y x)
to_move z v choice l a k (leads_on_marked next e y) x s =
    let p = s refl in
    let named : name.Next (row_or_first l.rebalance.before) ≡ replaced_link l.rebalance.before = ap (λ b. name.Next (row_or_first b)) p.1 ∙ sym (ap replaced_link p.1) in
    is_marked (inl refl) (ap (λ q. row_linked (link_of (v q))) (sym named) ∙ ap row_linked e) (left_row l next y x)
to_move z v choice l a k (leads_nowhere next e y) x s = absurd (again_stays l next y x)
to_move z v choice l a k (walks_past next o y) x s = absurd (again_stays l next y x)
to_move z v choice l a k (is_marked_before next e y) x s = is_marked (inr refl) (ap row_linked e) (left_row l next y x)
to_move z v choice l a k (is_replaced next d y) x s = absurd (again_stays l next y x)
to_move z v choice l a k _ x s = absurd x

-- One event.

module _ (z : Sizes) (r r' : Run) (s : ℕ) (choice : Choice) (l l' : Local) (a : Activity) (h : Happens z r r' s choice l l' a) where
  -- a build takes rows in some window
  takes_some : (f : ℕ → Builds) (g : Ledger) (wins : ℕ) → a ≡ Activity.Rebalance (Rebalance.Seek Seek.Take) → found_at z (word z r.world) a s choice l ≡ state_word Free → (builds_after a s l (found_at z (word z r.world) a s choice l) g wins f s).begun ≡ None → ⊥
  takes_some f g wins e free n = which (f s).begun refl (subst (λ b. (builds_after b s l (found_at z (word z r.world) a s choice l) g wins f s).begun ≡ None) e n)
    where
      live : Bool
      live = is_live (g.fates l.row).status

      taking : (y : Bool) → has_begun wins (f s).begun ≡ y → (x : Option ℕ) → (f s).begun ≡ x → (build_taking wins live (f s)).begun ≡ None → ⊥
      taking true t (Some m) q u = let y : Some m ≡ None = sym q ∙ ap (λ (b : Builds). b.begun) (sym (tested t)) ∙ u in cc
        where
          tested : has_begun wins (f s).begun ≡ true → build_taking wins live (f s) ≡ f s
          tested w = rw w refl
      taking true t None q u = let y : false ≡ true = ap (has_begun wins) (sym q) ∙ t in cc
      taking false t x q u = let y : Some wins ≡ None = ap (λ (b : Builds). b.begun) (sym (tested t)) ∙ u in cc
        where
          tested : has_begun wins (f s).begun ≡ false → build_taking wins live (f s) ≡ with_build wins live (f s)
          tested w = rw w refl

      which : (x : Option ℕ) → (f s).begun ≡ x → (builds_after (Activity.Rebalance (Rebalance.Seek Seek.Take)) s l (found_at z (word z r.world) a s choice l) g wins f s).begun ≡ None → ⊥
      which x q m = taking (has_begun wins (f s).begun) refl x q (ap (λ (b : Builds). b.begun) (sym set) ∙ m)
        where
          set : builds_after (Activity.Rebalance (Rebalance.Seek Seek.Take)) s l (found_at z (word z r.world) a s choice l) g wins f s ≡ build_taking wins live (f s)
          set = rw (eq-eqb _ _ free) (at_set f s (build_taking wins live (f s)) s refl)

  module _ (c : Counts) (k : Known z r c) where
    -- where it takes none the build at hand is as it was
    same_begun : IsBuilding a → TakesNone a (found_at z (word z r.world) a s choice l) → (builds_after a s l (found_at z (word z r.world) a s choice l) r.ledger.rows c.wins c.builds s).begun ≡ (c.builds s).begun
    same_begun o n = (counts_none a s l (found_at z (word z r.world) a s choice l) r.ledger.rows c.wins c.builds n).begun_is ∙ after_building a (c.builds s).begun o

    pub rows_on : IsBuilding l'.activity → (builds_after a s l (found_at z (word z r.world) a s choice l) r.ledger.rows c.wins c.builds s).begun ≡ None → length l'.rebalance.taken ≡ 0
    rows_on x e = which (comes z (word z r.world) s choice l a l' h.arrow)
      where
        none : TakesNone a (found_at z (word z r.world) a s choice l)
        none q free = takes_some c.builds r.ledger.rows c.wins q free e

        which : Comes z (word z r.world) choice l a l' → length l'.rebalance.taken ≡ 0
        which (stays_out n) = absurd (n x)
        which (seeks q m) = ap length m
        which (goes_on o t) = same (rows_same z (word z r.world) choice l a l' t x)
          where
            same : Has (word z r.world) a l l' → length l'.rebalance.taken ≡ 0
            same (inl q) = q ∙ k.none s l h.knows (subst IsBuilding (sym h.activity) o) (sym (same_begun o none) ∙ e)
            same (inr q) = absurd (none q.0 (subst (λ b. found_at z (word z r.world) b s choice l ≡ state_word Free) (sym q.0) q.1))

    module _ (i : Shape z r) (w : KeepsWalks z r.world c) where
      -- the link to its row is that of a row of the list, if its walk is of this window
      marked_live : (a ≡ Activity.Rebalance (Rebalance.Replace Replace.Next)) ⊎ (a ≡ Activity.Rebalance (Rebalance.Replace Replace.Exchange)) → row_linked (link_of (word z r.world (replaced_link l.rebalance.before))) ≡ Some l.row → (c.builds s).begun ≡ Some c.wins → IsLive r.ledger.rows l.row
      marked_live which e begun = from l.rebalance.before refl
        where
          seeking_there : (a ≡ Activity.Rebalance (Rebalance.Replace Replace.Next)) ⊎ (a ≡ Activity.Rebalance (Rebalance.Replace Replace.Exchange)) → IsSeeking l.activity l × IsAtBefore l.activity l
          seeking_there (inl q) = subst (λ b. IsSeeking b l × IsAtBefore b l) (sym (h.activity ∙ q)) (tt, tt)
          seeking_there (inr q) = subst (λ b. IsSeeking b l × IsAtBefore b l) (sym (h.activity ∙ q)) (tt, tt)

          from : (b : Option ℕ) → l.rebalance.before ≡ b → IsLive r.ledger.rows l.row
          from None q =
              let first : i.rows.chain.first ≡ l.row = same_Some _ _ (sym i.rows.chain.leads ∙ subst (λ b. row_linked (link_of (word z r.world (replaced_link b))) ≡ Some l.row) q e) in
              subst (IsLive r.ledger.rows) first i.rows.chain.first_live
          from (Some p) q =
              let m = w.rows s l h.knows (w.builds s l h.knows (seeking_there which).0 begun) p (is_before (seeking_there which).1 q) in
              i.rows.chain.linked p l.row (reached_live (word z r.world) r.ledger.rows i.rows.chain p m) (subst (λ b. row_linked (link_of (word z r.world (replaced_link b))) ≡ Some l.row) q e)

      pub move_live : IsMoving l'.activity l' → (builds_after a s l (found_at z (word z r.world) a s choice l) r.ledger.rows c.wins c.builds s).begun ≡ Some c.wins → IsLive r.ledger.rows l'.row
      move_live x e = which (comes z (word z r.world) s choice l a l' h.arrow)
        where
          builds_there : (b : Activity) (m : Local) → IsMoving b m → IsBuilding b
          builds_there (Activity.Rebalance (Rebalance.Seek Seek.GiveBack)) m y = tt
          builds_there _ m y = absurd y

          some : a ≡ Activity.Rebalance (Rebalance.Replace Replace.Next) → (p : ℕ) × (l.rebalance.before ≡ Some p)
          some q = (search_at (Activity.Rebalance (Rebalance.Replace Replace.Next)) (subst (Happens z r r' s choice l l') q h) i).some tt

          not_take : (b : Activity) (m : Local) → IsMoving b m ⊎ (b ≡ Activity.Rebalance (Rebalance.Replace Replace.Next)) ⊎ (b ≡ Activity.Rebalance (Rebalance.Replace Replace.Exchange)) → b ≡ Activity.Rebalance (Rebalance.Seek Seek.Take) → ⊥
          not_take b m (inl y) q = subst (λ b. IsMoving b m) q y
          not_take b m (inr (inl y)) q = let u : Activity.Rebalance (Rebalance.Replace Replace.Next) ≡ Activity.Rebalance (Rebalance.Seek Seek.Take) = sym y ∙ q in cc
          not_take b m (inr (inr y)) q = let u : Activity.Rebalance (Rebalance.Replace Replace.Exchange) ≡ Activity.Rebalance (Rebalance.Seek Seek.Take) = sym y ∙ q in cc

          by : IsBuilding a → ToMove (word z r.world) l a l' → IsLive r.ledger.rows l'.row
          by o (goes_on_moving y q) =
              let was = sym (same_begun o (λ t. absurd (not_take a l (inl y) t))) ∙ e in
              subst (IsLive r.ledger.rows) (sym q) (k.moves s l h.knows (subst (λ b. IsMoving b l) (sym h.activity) y) was)
          by o (is_marked y m q) =
              let was = sym (same_begun o (λ t. absurd (not_take a l (inr y) t))) ∙ e in
              subst (IsLive r.ledger.rows) (sym q) (marked_live y m was)

          which : Comes z (word z r.world) choice l a l' → IsLive r.ledger.rows l'.row
          which (stays_out n) = absurd (n (builds_there l'.activity l' x))
          which (seeks q m) = absurd (subst (λ b. IsMoving b l') q x)
          which (goes_on o t) = by o (to_move z (word z r.world) choice l a l' t x some)
