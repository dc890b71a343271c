-- A reader walks along the list of its row: it reaches a listed cell behind its link at each step,
-- and so none twice.
--
-- All is said of the list after the event: what the reader knew of the list before holds of it
-- still.
use Rattle.std.proofs.Common.{ℕ, ◌≡◌, ◌+◌, Option, Some, None, arith, refl, sym, ◌∙◌, ap, subst, true, ◌<◌}
use Rattle.kw_words.specs.declared.layout.Name.{Name}
use Rattle.kw_words.specs.Plain.{cell_of_link_word}
use Rattle.kw_lists.specs.Rows.{Row, IsNext, IsSound}
use Rattle.kw_lists.specs.Changes.{Leaves}
use Rattle.kw_lists.specs.Walks.{IsWalking}
use Rattle.kw_lists.proofs.Inserting.{at_next}
use Rattle.kw_lists.proofs.Walking.{walk_begins, walk_goes_on, walked_most}
use Rattle.kw_world.specs.declared.activity.Activity.{Activity}
use Rattle.kw_world.specs.declared.activity.read.Read.TheVariants as Read
use Rattle.kw_world.specs.declared.local.Local.{Local}
use Rattle.kw_world.specs.declared.event.Choice.{Choice}
use Rattle.kw_world.specs.ListTransitions.{cell_guess, link_name, one_more}
use Rattle.kw_world.specs.ReadTransitions.{remembering}
use Rattle.kw_world.specs.Sizes.{Sizes}
use Rattle.kw_world.specs.Step.{word}
use Rattle.kw_world.proofs.Transitions.{first_loads}
use Rattle.kw_core.specs.Run.{Run}
use Rattle.kw_core.specs.Stages.{IsAtRead, IsAtReadLink, IsAtRow, IsAtListed, IsPastStart, IsTaking}
use Rattle.kw_rows.specs.Ledger.{IsFresh}
use Rattle.kw_rows.specs.Rows.{WasLinked}
use Rattle.kw_rows.proofs.Named.{held_by}
use Rattle.kw_shape.proofs.LinkedRows.{fresh_linked, held_linked, linked_keeps}
use Rattle.kw_puts.specs.Lists.{list_in}
use Rattle.kw_puts.proofs.ListSteps.{list_step, leaves, stays_sound}
use Rattle.kw_puts.proofs.ListWords.{link_is}
use Rattle.kw_reads.specs.Readers.{HasReachedCell, ReadsList}
use Rattle.kw_reads.specs.Inv.{Inv, lower}
use Rattle.kw_core.proofs.Arrows.{builds, NextLook, looks, lists, NextLeftOver, goes_to_left_over, answers, ends_scan, scans_on, Arrow, reads_last, reads_before, sees_pending, sees_stamped, sees_neither, is_wanted, is_gone_by, loads_to_help, helps, finds_stamped, finds_other, list_leads, list_ends, key_below, key_within, key_above, loads_version, gathers_listed, left_over_gone_by, gathers_left_over, begins_at_first, begins_behind, first_ends, first_leads, asks_of_pin}
use Rattle.kw_core.proofs.Happens.{Happens}
use Rattle.kw_reads.proofs.BuiltReads.{after_walks, rebalance_next}
use Rattle.kw_reads.proofs.Ready.{walks_last}
use Rattle.kw_shape.proofs.AfterBuilding.{no_call_of_pin}

-- a reader at its row is at a row
pub read_at_row : (a : Activity) → IsAtRead a → IsAtRow a
read_at_row (Activity.Look _) x = tt
read_at_row (Activity.Read _) x = tt
read_at_row _ x = absurd x

-- and past the start of its walk
read_past_start : (a : Activity) → IsAtRead a → IsPastStart a
read_past_start (Activity.Look _) x = tt
read_past_start (Activity.Read _) x = tt
read_past_start _ x = absurd x

-- a cell that was reached, for another local that is at the same link with the same cell
same_reached : (n : ℕ) (row : Row) (l l' : Local) → l'.link ≡ l.link → l'.place ≡ l.place → l'.walked ≡ l.walked → HasReachedCell n row l → HasReachedCell n row l'
same_reached n row l l' e f g k = record { on = rw e k.on; behind = rw (e, f) k.behind; walks = rw (f, g) k.walks }

-- the link at which a reader with a cell of the list in hand is
pub has_reached : (n : ℕ) (row : Row) (a : Activity) (l : Local) → IsAtListed a → ReadsList n row a l → HasReachedCell n row l
has_reached n row (Activity.Read Read.Key) l x k = k
has_reached n row (Activity.Read Read.Version) l x k = k
has_reached n row (Activity.Read Read.Value) l x k = k
has_reached n row _ l x k = absurd x

-- a reader that begins with the list is at its first link
begins_list : (n : ℕ) (row : Row) (l : Local) → (l.link ≡ None) × (l.walked ≡ 0) → IsWalking n row l.link l.walked
begins_list n row l k = rw (k.0, k.1) (walk_begins n row)

-- at the next look, or where it begins with the list
walks_look : (z : Sizes) (row : Row) (j : ℕ) (next : Activity) (l : Local) → NextLook z j next → (l.link ≡ None) × (l.walked ≡ 0) → ReadsList z.cells row next (record l { activity = next })
walks_look z row j _ l (looks w) k = k
walks_look z row j _ l (lists w) k = k

-- past the list nothing is said
walks_left_over : (n : ℕ) (row : Row) (l next : Local) → NextLeftOver l next → ReadsList n row next.activity next
walks_left_over n row l _ (goes_to_left_over m e) = tt
walks_left_over n row l _ (answers c e) = tt
walks_left_over n row l _ (ends_scan c e f) = tt
walks_left_over n row l _ (scans_on q c e f u) = tt

-- a reader's event, with what it leaves of the list of its row
module _ {z : Sizes} {r r' : Run} {s : ℕ} {choice : Choice} {l l' : Local} {a : Activity} (h : Happens z r r' s choice l l' a) (i : Inv z r) where
  -- its row is one that it may name
  pub row_fresh : IsAtRead a → IsFresh r.ledger.rows s l.row
  row_fresh x = ((i.shape.walks s l h.knows).at (subst IsAtRow (sym h.activity) (read_at_row a x))).fresh

  -- so it is linked, or was so
  pub row_linked : IsAtRead a → WasLinked r.ledger.rows l.row
  row_linked x = fresh_linked r.ledger.rows s l.row (row_fresh x)

  -- after the event too
  pub row_linked_on : IsAtRead a → WasLinked r'.ledger.rows l.row
  row_linked_on x = held_linked (word z r.world) (word z r'.world) r.ledger.rows r'.ledger.rows l.row (held_by r.ledger.rows s l.row (row_fresh x)) (linked_keeps a h i.shape l.row (row_linked x))

  -- what the event leaves of it
  pub row_left : IsAtRead a → Leaves z.cells (list_in (word z r.world) r.listed l.row) (list_in (word z r'.world) r'.listed l.row)
  row_left x = leaves z.cells _ _ (list_step z r r' s choice l a l' h (lower i) l.row (row_linked x))

  -- each cell with which it was built is one of it
  built_before : IsAtRead a → (c : ℕ) → c < l.built → r.listed l.row c ≡ true
  built_before x c o = i.lists.built l.row c (row_linked x) (omega (arith, o, (i.shape.walks s l h.knows).built (subst IsPastStart (sym h.activity) (read_past_start a x))))

  -- it is a list still
  pub row_sound : IsAtRead a → IsSound z.cells (list_in (word z r'.world) r'.listed l.row)
  row_sound x = stays_sound z.cells _ _ (list_step z r r' s choice l a l' h (lower i) l.row (row_linked x)) (i.lists.leads l.row (row_linked x))

  -- where the reader was
  pub walks_before : ReadsList z.cells (list_in (word z r.world) r.listed l.row) a l
  walks_before = subst (λ c. ReadsList z.cells (list_in (word z r.world) r.listed l.row) c l) h.activity (i.readers.walks s l h.knows)

  -- and is still
  pub walks_after : IsAtRead a → ReadsList z.cells (list_in (word z r'.world) r'.listed l.row) a l
  walks_after x = walks_last z.cells _ _ (row_left x) a l walks_before

-- a reader that loads its link is at the cells of its row
pub link_reads : (a : Activity) → IsAtReadLink a → IsAtRead a × IsTaking a
link_reads (Activity.Read _) x = (tt, tt)
link_reads _ x = absurd x

-- and walks
pub link_walks : (n : ℕ) (row : Row) (a : Activity) (l : Local) → IsAtReadLink a → ReadsList n row a l → IsWalking n row l.link l.walked
link_walks n row (Activity.Read Read.Start) l x k = begins_list n row l k
link_walks n row (Activity.Read Read.Link) l x k = k
link_walks n row _ l x k = absurd x

module _ {z : Sizes} {r r' : Run} {s : ℕ} {choice : Choice} {l l' : Local} where
  -- it writes no word
  pub link_loads : (a : Activity) → Happens z r r' s choice l l' a → IsAtReadLink a → (n : Name) → word z r'.world n ≡ word z r.world n
  link_loads (Activity.Read Read.Start) h x n = h.changed.loaded (first_loads (cell_guess choice l) l) n
  link_loads (Activity.Read Read.Link) h x n = h.changed.loaded refl n
  link_loads _ h x n = absurd x

-- the reader loads its link
module _ {z : Sizes} {r r' : Run} {s : ℕ} {choice : Choice} {l l' : Local} {a : Activity} (h : Happens z r r' s choice l l' a) (i : Inv z r) (y : IsAtReadLink a) where
  -- it walks along the list
  pub walking_after : IsWalking z.cells (list_in (word z r'.world) r'.listed l.row) l.link l.walked
  walking_after = link_walks z.cells _ a l y (walks_after h i (link_reads a y).0)

  -- what it holds
  pub link_loaded : (x : Option ℕ) → cell_of_link_word (word z r.world (link_name l.row l.link)) ≡ x → (list_in (word z r'.world) r'.listed l.row).link l.link ≡ x
  link_loaded x e = link_is (word z r'.world) l.row l.link ∙ ap cell_of_link_word (link_loads a h y (link_name l.row l.link)) ∙ e

  -- the cell that it leads to is the next listed one behind it
  pub cell_next : (c : ℕ) → cell_of_link_word (word z r.world (link_name l.row l.link)) ≡ Some c → IsNext (list_in (word z r'.world) r'.listed l.row) l.link c
  cell_next c e = at_next _ l.link _ c ((row_sound h i (link_reads a y).0).list l.link walking_after.on) (link_loaded (Some c) e)

  -- it is reached, and there are as many cells
  pub walk_next : (c : ℕ) → cell_of_link_word (word z r.world (link_name l.row l.link)) ≡ Some c → IsWalking z.cells (list_in (word z r'.world) r'.listed l.row) (Some c) (l.walked + 1)
  walk_next c e = let m = cell_next c e in walk_goes_on z.cells _ l.link l.walked c ((row_sound h i (link_reads a y).0).below c m.listed) m.listed m.behind walking_after

  pub counts_on : (c : ℕ) → cell_of_link_word (word z r.world (link_name l.row l.link)) ≡ Some c → one_more z l.walked ≡ l.walked + 1
  counts_on c e = omega (arith, walked_most z.cells _ (Some c) (l.walked + 1) (walk_next c e))

-- where the acting reader is in the list
pub walks_by : (z : Sizes) (r r' : Run) (s : ℕ) (choice : Choice) (l : Local) (a : Activity) (l' : Local) → Arrow z (word z r.world) s choice l a l' → Happens z r r' s choice l l' a → Inv z r → ReadsList z.cells (list_in (word z r'.world) r'.listed l'.row) l'.activity l'
walks_by z r r' s choice l (Activity.Rebalance b) l' x h i = after_walks z.cells _ l'.activity l' (rebalance_next z (word z r.world) s choice l b l' x)
walks_by z r r' s choice l a l' (builds b next y t) h i = absurd y
walks_by z r r' s choice l a l' (asks_of_pin next o n) h i = no_call_of_pin _ h i.shape o
walks_by z r r' s choice l _ _ (reads_last f n) h i = (refl, refl)
walks_by z r r' s choice l _ _ (reads_before f w) h i = (refl, refl)
walks_by z r r' s choice l _ _ (sees_pending j c e) h i = walks_after h i tt
walks_by z r r' s choice l _ _ (sees_stamped j c version next e n) h i = walks_look z _ (j + 1) next (remembering c version l) n (walks_after h i tt)
walks_by z r r' s choice l _ _ (sees_neither j next e n) h i = walks_look z _ (j + 1) next l n (walks_after h i tt)
walks_by z r r' s choice l _ _ (is_wanted e) h i = walks_after h i tt
walks_by z r r' s choice l _ _ (is_gone_by next e n) h i = walks_look z _ (l.looked + 1) next l n (walks_after h i tt)
walks_by z r r' s choice l _ _ loads_to_help h i = walks_after h i tt
walks_by z r r' s choice l _ _ (helps next e n) h i = walks_look z _ (l.looked + 1) next (remembering l.saw l.helping l) n (walks_after h i tt)
walks_by z r r' s choice l _ _ (finds_stamped c version next e n) h i = walks_look z _ (l.looked + 1) next (remembering c version l) n (walks_after h i tt)
walks_by z r r' s choice l _ _ (finds_other next e n) h i = walks_look z _ (l.looked + 1) next l n (walks_after h i tt)
walks_by z r r' s choice l _ _ (first_leads c e) h i = record { on = (walking_after h i tt).on; behind = (cell_next h i tt c e).behind; walks = rw (counts_on h i tt c e) (walk_next h i tt c e) }
walks_by z r r' s choice l _ _ (list_leads c e) h i = record { on = (walking_after h i tt).on; behind = (cell_next h i tt c e).behind; walks = rw (counts_on h i tt c e) (walk_next h i tt c e) }
walks_by z r r' s choice l _ _ (first_ends next e n) h i = walks_left_over z.cells _ _ next n
walks_by z r r' s choice l _ _ (list_ends next e n) h i = walks_left_over z.cells _ _ next n
walks_by z r r' s choice l _ _ (begins_behind c inside e) h i = record { on = (row_left h i tt).listed c (built_before h i tt c inside); counted = omega (arith, (walks_after h i tt).1) }
walks_by z r r' s choice l _ _ (begins_at_first guess e) h i = walking_after h i tt
walks_by z r r' s choice l _ _ (key_below e) h i = (walks_after h i tt).walks
walks_by z r r' s choice l _ _ (key_within e w) h i = same_reached z.cells _ l _ refl refl refl (walks_after h i tt)
walks_by z r r' s choice l _ _ (key_above next e n) h i = walks_left_over z.cells _ _ next n
walks_by z r r' s choice l _ _ loads_version h i = same_reached z.cells _ l _ refl refl refl (walks_after h i tt)
walks_by z r r' s choice l _ _ gathers_listed h i = (walks_after h i tt).walks
walks_by z r r' s choice l _ _ (left_over_gone_by next e n) h i = walks_left_over z.cells _ _ next n
walks_by z r r' s choice l _ _ (gathers_left_over next n) h i = walks_left_over z.cells _ _ next n
walks_by z r r' s choice l a l' b h i = tt
