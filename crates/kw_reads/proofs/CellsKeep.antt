-- A reader reads the cells of its row: each attempt that is due to it is gathered when its cell is
-- reached, or else as one of the cells that are remembered.
--
-- `ReadLeft` says it where the walk along the list is over, without an activity: so it holds where
-- the reader goes on to a remembered cell, and where the row is read.
use Rattle.std.proofs.Common.{ℕ, ◌≡◌, ◌⊎◌, inl, inr, ◌+◌, ◌<◌, ◌≤◌, nat_le, ◌&&◌, true, false, Option, Some, None, List, arith, refl, sym, ◌∙◌, ap, subst, unwrap_or}
use Rattle.std.specs.Prelude.{All, Contains, insert}
use Rattle.std.proofs.lemmas.Bool.{cases_eq}
use Rattle.std.proofs.lemmas.Bool.Decides.{nat_tests}
use Rattle.std.proofs.lemmas.Option.{same_Some}
use Rattle.kw_words.specs.declared.layout.Name.TheVariants as name
use Rattle.kw_words.specs.Plain.{key_of_word, value_of_word, version_of_word, cell_of_link_word}
use Rattle.kw_words.proofs.PlainWords.{number_of_word-number_word}
use Rattle.kw_lists.specs.Rows.{Row, Stands, IsBehind}
use Rattle.kw_lists.proofs.Inserting.{reached}
use Rattle.kw_lists.proofs.Reading as reading
use Rattle.kw_lists.proofs.Reading.{above_range}
use Rattle.kw_world.specs.declared.activity.Activity.{Activity}
use Rattle.kw_world.specs.declared.activity.read.Read.TheVariants as Read
use Rattle.kw_model.specs.declared.call.Call.{Call}
use Rattle.kw_world.specs.declared.local.Local.{Local}
use Rattle.kw_world.specs.declared.event.Choice.{Choice}
use Rattle.kw_world.specs.ListTransitions.{link_name}
use Rattle.kw_world.specs.Sizes.{Sizes}
use Rattle.kw_world.specs.Calls.{first_key, last_key, is_in_range}
use Rattle.kw_world.specs.Marks.{is_marked, unmarked, least_mark}
use Rattle.kw_world.specs.ReadTransitions.{remembering, gathering}
use Rattle.kw_world.specs.Step.{word}
use Rattle.kw_core.specs.History.{History, attempt}
use Rattle.kw_core.specs.Run.{Run, Origins, log_read, log_gathered}
use Rattle.kw_core.specs.declared.seat_log.SeatLog.{SeatLog}
use Rattle.kw_core.specs.Stages.{IsTaking, IsAtRead, IsAtReadLink, IsReading, HasPlace, HasVersion, HasCellKey}
use Rattle.kw_rows.specs.Rows.{WasLinked}
use Rattle.kw_puts.specs.Lists.{list_in, IsListedCell}
use Rattle.kw_reads.specs.Readers.{IsDue, IsNoted, IsReady, IsMarkOf, IsInHand, IsToCome, Looks, Reads, AreCopies, Gathers, HasSeen}
use Rattle.kw_reads.specs.Inv.{Inv}
use Rattle.kw_core.proofs.Steps.{announced_within}
use Rattle.kw_puts.proofs.Owners.{true_false}
use Rattle.kw_core.proofs.Arrows.{builds, NextLook, looks, lists, sees_stamped, sees_neither, is_gone_by, helps, finds_stamped, finds_other, NextLeftOver, goes_to_left_over, answers, ends_scan, scans_on, Arrow, list_leads, list_ends, key_below, key_within, key_above, loads_version, gathers_listed, left_over_wanted, left_over_gone_by, gathers_left_over, begins_at_first, begins_behind, first_ends, first_leads, asks_of_pin}
use Rattle.kw_core.proofs.Happens.{Happens}
use Rattle.kw_core.proofs.InRange.{least_holds}
use Rattle.kw_core.proofs.Marks.{marked_other, least_none, contains_new, contains_old}
use Rattle.kw_reads.proofs.Ready.{reads_last}
use Rattle.kw_puts.specs.Below.{Below}
use Rattle.kw_reads.proofs.EndOfRow.{in_range_of}
use Rattle.kw_reads.proofs.EntrySays.{version_ranges}
use Rattle.kw_reads.proofs.BuiltReads.{after_rests, rebalance_next, taking_reads}
use Rattle.kw_puts.proofs.CellsOf.{cell_key, cell_value, cell_within}
use Rattle.kw_reads.proofs.LooksKeep.{goes, looks_by, marks_after, within}
use Rattle.kw_reads.proofs.WalksKeep.{link_reads, link_loads, row_linked, row_linked_on, row_left, row_sound, walking_after, walks_before, walks_after, link_loaded, cell_next}
use Rattle.kw_shape.proofs.AfterBuilding.{no_call_of_pin}

-- the walk along the list is over: each attempt that is due is stamped, and is gathered, or the
-- cell that stands for it is remembered still
pub record ReadLeft (h : History) (o : Origins) (l : Local) (looked : ℕ) (ids : List ℕ) : Type 0 where
  pub stamped : (c p : ℕ) → IsDue h o l.row l.call looked c p → (attempt h p).is_stamped ≡ true
  pub found : (c p : ℕ) → IsDue h o l.row l.call looked c p → Contains ids p ⊎ (is_marked c l.remembered ≡ true)

-- a key of the range lies between its ends
in_range_between : (call : Option Call) (key : ℕ) → is_in_range call key ≡ true → (first_key call ≤ key) × (key ≤ last_key call)
in_range_between call key e = (from (first_key call) (last_key call) key e, upto (first_key call) (last_key call) key e)
  where
    from : (a b k : ℕ) → (nat_le a k && nat_le k b) ≡ true → a ≤ k
    from a b k e = grind (arith, nat_tests)

    upto : (a b k : ℕ) → (nat_le a k && nat_le k b) ≡ true → k ≤ b
    upto a b k e = grind (arith, nat_tests)

-- The next of the remembered cells, or the end of the row.

-- each attempt that is due is stamped and gathered, once no cell is remembered
seen_end : (h : History) (o : Origins) (l : Local) (a : Activity) (next : Local) (g : SeatLog) → least_mark l.remembered ≡ None → ReadLeft h o l g.looked g.ids → next.call ≡ l.call → (IsReading a → ⊥) → HasSeen h o a next (record g { read = Some l.row })
seen_end h o l a next g e n f d = record {
  unread = λ x. absurd (d x);
  stamped = λ x q y c p u. n.stamped c p (due q c p y u);
  taken = λ x q y c p u. which c p (n.found c p (due q c p y u));
}
  where
    due : (q c p : ℕ) → Some l.row ≡ Some q → IsDue h o q next.call g.looked c p → IsDue h o l.row l.call g.looked c p
    due q c p y u = subst (λ x. IsDue h o x l.call g.looked c p) (sym (same_Some l.row q y)) (subst (λ x. IsDue h o q x g.looked c p) f u)

    which : (c p : ℕ) → Contains g.ids p ⊎ (is_marked c l.remembered ≡ true) → Contains g.ids p
    which c p (inl x) = x
    which c p (inr x) = true_false x (least_none c l.remembered e)

-- a seat that goes on to a remembered cell reads it
reads_next : (row : Row) (h : History) (o : Origins) (l next : Local) (g : SeatLog) → NextLeftOver l next → ReadLeft h o l g.looked g.ids → All (IsMarkOf h o l.row) l.remembered → IsTaking next.activity → Reads row h o next.activity next (log_read next.activity l.row g)
reads_next row h o l _ g (goes_to_left_over m e) n k x = record {
  stamped = n.stamped;
  found = λ c p d. which c p (n.found c p d) (cases_eq c m.cell);
  hand = λ y. let q = least_holds (IsMarkOf h o l.row) l.remembered m e k in record { put = q.put; origin = q.origin; stamped = q.stamped; version = λ u. q.version; key = λ u. absurd u; in_range = λ u. absurd u };
}
  where
    which : (c p : ℕ) → Contains g.ids p ⊎ (is_marked c l.remembered ≡ true) → (c ≡ m.cell) ⊎ (c ≡ m.cell → ⊥) → Contains g.ids p ⊎ (is_marked c (unmarked m.cell l.remembered) ≡ true) ⊎ (c ≡ m.cell)
    which c p (inl y) d = inl y
    which c p (inr y) (inl d) = inr (inr d)
    which c p (inr y) (inr d) = inr (inl (marked_other c m.cell l.remembered d ∙ y))
reads_next row h o l _ g (answers c e) n k x = absurd x
reads_next row h o l _ g (ends_scan c e f) n k x = absurd x
reads_next row h o l _ g (scans_on q c e f u) n k x = absurd x

-- where the row is read, each attempt that is due is stamped and gathered
pub seen_next : (h : History) (o : Origins) (l next : Local) (g : SeatLog) → NextLeftOver l next → ReadLeft h o l g.looked g.ids → g.read ≡ None → HasSeen h o next.activity next (log_read next.activity l.row g)
seen_next h o l _ g (goes_to_left_over m e) n f = record { unread = λ x. f; stamped = λ x q e. let y : None ≡ Some q = sym f ∙ e in absurd (cc); taken = λ x q e. let y : None ≡ Some q = sym f ∙ e in absurd (cc) }
seen_next h o l _ g (answers c e) n f = seen_end h o l _ _ g c n refl (λ x. x)
seen_next h o l _ g (ends_scan c e u) n f = seen_end h o l _ _ g c n refl (λ x. x)
seen_next h o l _ g (scans_on q c e u w) n f = seen_end h o l _ _ g c n refl (λ x. x)

-- what was gathered is still there
pub copies_next : (h : History) (o : Origins) (l next : Local) (g : SeatLog) → NextLeftOver l next → AreCopies h o l.row l.call l.gathered g.ids → g.read ≡ None → Gathers h o next.activity next (log_read next.activity l.row g)
copies_next h o l _ g (goes_to_left_over m e) k f = record { empty = λ x. absurd x; no_ids = λ x. absurd x; taking = λ x. k; kept = λ x q e. let y : None ≡ Some q = sym f ∙ e in absurd (cc) }
copies_next h o l _ g (answers c e) k f = record { empty = λ x. absurd x; no_ids = λ x. absurd x; taking = λ x. absurd x; kept = λ x q e. subst (λ q. AreCopies h o q l.call l.gathered g.ids) (same_Some l.row q e) k }
copies_next h o l _ g (ends_scan c e u) k f = record { empty = λ x. absurd x; no_ids = λ x. absurd x; taking = λ x. absurd x; kept = λ x q e. subst (λ q. AreCopies h o q l.call l.gathered g.ids) (same_Some l.row q e) k }
copies_next h o l _ g (scans_on q' c e u w) k f = record { empty = λ x. absurd x; no_ids = λ x. absurd x; taking = λ x. absurd x; kept = λ x q e. subst (λ q. AreCopies h o q l.call l.gathered g.ids) (same_Some l.row q e) k }

-- a reader's event at a cell, with what it leaves
module _ {z : Sizes} {r r' : Run} {s : ℕ} {choice : Choice} {l l' : Local} {a : Activity} (h : Happens z r r' s choice l l' a) (i : Inv z r) where
  -- what the reader knew of the cells
  pub cells_before : IsTaking a → Reads (list_in (word z r.world) r.listed l.row) r.history r.origin a l (r.seats s)
  cells_before x = subst (λ c. Reads (list_in (word z r.world) r.listed l.row) r.history r.origin c l (r.seats s)) h.activity (i.readers.reads s l h.knows (subst IsTaking (sym h.activity) x))

  -- and knows after its event, over what it did before
  pub cells_after : IsAtRead a → IsTaking a → Reads (list_in (word z r'.world) r'.listed l.row) r'.history r'.origin a l (r.seats s)
  cells_after y x = reads_last (goes h i) z.cells _ _ (row_left h i y) a l (r.seats s) (r.seats s) (row_linked h i y) (walks_before h i) refl refl (i.positions.looks s) (cells_before x)

  -- no row counts as read
  pub unread_before : IsReading a → (r.seats s).read ≡ None
  unread_before x = (i.readers.seen s l h.knows).unread (subst IsReading (sym h.activity) x)

-- The events.

-- an attempt, and a cell of a row that stands for it
module _ {z : Sizes} {r : Run} (k : Below z r) where
  -- the key that stands in the cell of a stamped attempt
  pub key_stands : (q c put : ℕ) → WasLinked r.ledger.rows q → c < z.cells → r.origin q c ≡ Some put → (attempt r.history put).is_stamped ≡ true → key_of_word (word z r.world (name.Key q c)) ≡ (attempt r.history put).key
  key_stands q c put m w o s = let x = k.puts.places.owner q c put m w o in cell_key k.puts q c put x ((k.history.laws.attempted put (cell_within k.puts q c put x)).is_announced s)

  -- and so is its value
  pub value_stands : (q c put : ℕ) → WasLinked r.ledger.rows q → c < z.cells → r.origin q c ≡ Some put → (attempt r.history put).is_stamped ≡ true → value_of_word (word z r.world (name.Value q c)) ≡ (attempt r.history put).value
  value_stands q c put m w o s = let x = k.puts.places.owner q c put m w o in cell_value k.puts q c put x ((k.history.laws.attempted put (cell_within k.puts q c put x)).is_announced s)

  -- the key of an attempt that is due stands in the cell
  pub due_key_stands : (call : Option Call) (q looked c p : ℕ) → WasLinked r.ledger.rows q → c < z.cells → IsDue r.history r.origin q call looked c p → key_of_word (word z r.world (name.Key q c)) ≡ (attempt r.history p).key
  due_key_stands call q looked c p m w d = cell_key k.puts q c p (k.puts.places.owner q c p m w d.origin) d.announced

  -- a listed cell, as the one in hand, with the version that stands there and its key
  pub listed_in_hand : (a : Activity) (m : Local) (w : ℕ) → WasLinked r.ledger.rows m.row → r.listed m.row m.place ≡ true → word z r.world (name.Version m.row m.place) ≡ w → (HasVersion a → unwrap_or (version_of_word w) 1 ≡ m.place_version) → (HasCellKey a → key_of_word (word z r.world (name.Key m.row m.place)) ≡ m.place_key) → (HasCellKey a → is_in_range m.call m.place_key ≡ true) →
      IsInHand r.history r.origin a m
  listed_in_hand a m w o e f u v n =
      let cell = k.lists.cells m.row m.place o e in
      record { put = cell.put; origin = cell.origin; stamped = cell.stamped; version = λ y. sym (stored cell) ∙ u y; key = λ y. sym cell.key ∙ v y; in_range = n }
    where
      stored : (cell : IsListedCell (word z r.world) r.history r.origin m.row m.place) → unwrap_or (version_of_word w) 1 ≡ (attempt r.history cell.put).version
      stored cell =
          let same : w ≡ (attempt r.history cell.put).version = sym f ∙ cell.version in
          let from : 1 ≤ w = omega (arith, same, (version_ranges k cell.put cell.stamped).0) in
          ap (λ x. unwrap_or x 1) (number_of_word-number_word (Some w) from) ∙ same

-- where the reader begins with the list, each attempt that is due is stamped, and its cell is
-- remembered or listed
reads_begin : {z : Sizes} {r : Run} (k : Below z r) (j : ℕ) (next : Activity) (l : Local) (g : SeatLog) → NextLook z j next → IsTaking next → Looks z r.listed r.history r.origin next (record l { activity = next }) g → l.link ≡ None → Reads (list_in (word z r.world) r.listed l.row) r.history r.origin next (record l { activity = next }) g
reads_begin k j _ l g (looks w) x n e = absurd x
reads_begin {z} {r} k j _ l g (lists w) x n e = record {
  stamped = λ c p d. (ready c p d).stamped;
  found = λ c p d. inr (which c (ready c p d).noted);
  hand = λ y. absurd y;
}
  where
    ready : (c p : ℕ) → IsDue r.history r.origin l.row l.call g.looked c p → IsReady r.listed r.history (record l { activity = Activity.Read Read.Start }) c p
    ready c p d = n.past c p d (k.puts.placed p (announced_within r.history p d.announced)).seat

    which : (c : ℕ) → IsNoted r.listed (record l { activity = Activity.Read Read.Start }) c → (is_marked c l.remembered ≡ true) ⊎ (r.listed l.row c ≡ true) × IsBehind (list_in (word z r.world) r.listed l.row) l.link c
    which c (inl y) = inl y
    which c (inr y) = inr (y, rw e tt)

-- a cell of an attempt that is due has a key of the range
due_between : {z : Sizes} {r r' : Run} {s : ℕ} {choice : Choice} {l l' : Local} {a : Activity} (h : Happens z r r' s choice l l' a) (i : Inv z r) (y : IsAtRead a) (k : Below z r') (c p : ℕ) → IsDue r'.history r'.origin l.row l.call (r.seats s).looked c p →
    (first_key l.call ≤ (list_in (word z r'.world) r'.listed l.row).key c) × ((list_in (word z r'.world) r'.listed l.row).key c ≤ last_key l.call)
due_between {z} {r} {r'} {s} {choice} {l} {l'} {a} h i y k c p d = rw (due_key_stands k l.call l.row (r.seats s).looked c p (row_linked_on h i y) (within h i l.row c p d.origin) d) (in_range_between l.call (attempt r'.history p).key d.key)

-- a reader that begins with the list reads it from its first link on
from_start : (row : Row) (h : History) (o : Origins) (a : Activity) (l : Local) (g : SeatLog) → IsAtReadLink a → Reads row h o a l g → Reads row h o (Activity.Read Read.Link) l g
from_start row h o (Activity.Read Read.Start) l g x k = record { stamped = k.stamped; found = k.found; hand = λ y. absurd y }
from_start row h o (Activity.Read Read.Link) l g x k = k
from_start row h o _ l g x k = absurd x

-- a reader begins behind a cell with which its row was built, and whose key is below the range: it
-- leaves no cell out that is due
reads_behind : {z : Sizes} {r r' : Run} {s : ℕ} {choice : Choice} {l l' : Local} (h : Happens z r r' s choice l l' (Activity.Read Read.Start)) (i : Inv z r) (k : Below z r') (cell : ℕ) → key_of_word (word z r.world (name.Key l.row cell)) < first_key l.call → (m : Local) → m.row ≡ l.row → m.call ≡ l.call → m.link ≡ Some cell → m.remembered ≡ l.remembered →
    Reads (list_in (word z r'.world) r'.listed l.row) r'.history r'.origin (Activity.Read Read.Link) m (r.seats s)
reads_behind {z} {r} {r'} {s} {choice} {l} {l'} h i k cell e m row call link marks = record {
  stamped = λ c p d. n.stamped c p (due c p d);
  found = λ c p d. rw (link, marks) (which c p (due c p d) (n.found c p (due c p d)));
  hand = λ y. absurd y;
}
  where
    n : Reads (list_in (word z r'.world) r'.listed l.row) r'.history r'.origin (Activity.Read Read.Start) l (r.seats s)
    n = cells_after h i tt tt

    key : (list_in (word z r'.world) r'.listed l.row).key cell ≡ key_of_word (word z r.world (name.Key l.row cell))
    key = ap key_of_word (link_loads (Activity.Read Read.Start) h tt (name.Key l.row cell))

    due : (c p : ℕ) → IsDue r'.history r'.origin m.row m.call (r.seats s).looked c p → IsDue r'.history r'.origin l.row l.call (r.seats s).looked c p
    due c p d = subst (λ x. IsDue r'.history r'.origin x l.call (r.seats s).looked c p) row (subst (λ x. IsDue r'.history r'.origin m.row x (r.seats s).looked c p) call d)

    which : (c p : ℕ) → IsDue r'.history r'.origin l.row l.call (r.seats s).looked c p → Contains (r.seats s).ids p ⊎ (is_marked c l.remembered ≡ true) ⊎ IsToCome (list_in (word z r'.world) r'.listed l.row) (Activity.Read Read.Start) l c →
        Contains (r.seats s).ids p ⊎ (is_marked c l.remembered ≡ true) ⊎ (r'.listed l.row c ≡ true) × Stands (list_in (word z r'.world) r'.listed l.row) cell c
    which c p d (inl x) = inl x
    which c p d (inr (inl x)) = inr (inl x)
    which c p d (inr (inr x)) = inr (inr (x.0, inl (omega (arith, e, key, (due_between h i tt k c p d).0))))

-- the reader loads its link
module _ {z : Sizes} {r r' : Run} {s : ℕ} {choice : Choice} {l l' : Local} {a : Activity} (h : Happens z r r' s choice l l' a) (i : Inv z r) (y : IsAtReadLink a) (k : Below z r') where
  -- what it knew of the cells
  before_link : Reads (list_in (word z r'.world) r'.listed l.row) r'.history r'.origin (Activity.Read Read.Link) l (r.seats s)
  before_link = from_start _ _ _ a l (r.seats s) y (cells_after h i (link_reads a y).0 (link_reads a y).1)

  -- it leads to a cell, which is reached
  reads_reached : (n : ℕ) → cell_of_link_word (word z r.world (link_name l.row l.link)) ≡ Some n → (m : Local) → m.row ≡ l.row → m.call ≡ l.call → m.place ≡ n → m.remembered ≡ unmarked n l.remembered → Reads (list_in (word z r'.world) r'.listed l.row) r'.history r'.origin (Activity.Read Read.Key) m (r.seats s)
  reads_reached n e m row call place marks = record {
    stamped = λ c p d. before_link.stamped c p (due c p d);
    found = λ c p d. rw (place, marks) (which c p (before_link.found c p (due c p d)) (cases_eq c n));
    hand = λ w. listed_in_hand k (Activity.Read Read.Key) m _ (rw row (row_linked_on h i (link_reads a y).0)) (rw (row, place) (cell_next h i y n e).listed) refl (λ u. absurd u) (λ u. absurd u) (λ u. absurd u);
  }
    where
      due : (c p : ℕ) → IsDue r'.history r'.origin m.row m.call (r.seats s).looked c p → IsDue r'.history r'.origin l.row l.call (r.seats s).looked c p
      due c p d = subst (λ x. IsDue r'.history r'.origin x l.call (r.seats s).looked c p) row (subst (λ x. IsDue r'.history r'.origin m.row x (r.seats s).looked c p) call d)

      ahead : (c : ℕ) → IsToCome (list_in (word z r'.world) r'.listed l.row) (Activity.Read Read.Link) l c → (c ≡ n) ⊎ Stands (list_in (word z r'.world) r'.listed l.row) n c
      ahead c x = at (reached (list_in (word z r'.world) r'.listed l.row) l.link _ ((row_sound h i (link_reads a y).0).list l.link (walking_after h i y).on) c x.0 x.1)
        where
          at : (d : ℕ) × ((list_in (word z r'.world) r'.listed l.row).link l.link ≡ Some d) × ((c ≡ d) ⊎ Stands (list_in (word z r'.world) r'.listed l.row) d c) → (c ≡ n) ⊎ Stands (list_in (word z r'.world) r'.listed l.row) n c
          at (d, f, w) = subst (λ u. (c ≡ u) ⊎ Stands (list_in (word z r'.world) r'.listed l.row) u c) (same_Some d n (sym f ∙ link_loaded h i y (Some n) e)) w

      which : (c p : ℕ) → Contains (r.seats s).ids p ⊎ (is_marked c l.remembered ≡ true) ⊎ IsToCome (list_in (word z r'.world) r'.listed l.row) (Activity.Read Read.Link) l c → (c ≡ n) ⊎ (c ≡ n → ⊥) →
          Contains (r.seats s).ids p ⊎ (is_marked c (unmarked n l.remembered) ≡ true) ⊎ (r'.listed l.row c ≡ true) × ((c ≡ n) ⊎ Stands (list_in (word z r'.world) r'.listed l.row) n c)
      which c p (inl x) d = inl x
      which c p (inr (inl x)) (inl d) = inr (inr (rw d (cell_next h i y n e).listed, inl d))
      which c p (inr (inl x)) (inr d) = inr (inl (marked_other c n l.remembered d ∙ x))
      which c p (inr (inr x)) d = inr (inr (x.0, ahead c x))

  -- it leads nowhere: no cell is to come
  pub left_at_end : cell_of_link_word (word z r.world (link_name l.row l.link)) ≡ None → ReadLeft r'.history r'.origin l (r.seats s).looked (r.seats s).ids
  left_at_end e = record { stamped = before_link.stamped; found = λ c p d. which c p (before_link.found c p d) }
    where
      which : (c p : ℕ) → Contains (r.seats s).ids p ⊎ (is_marked c l.remembered ≡ true) ⊎ IsToCome (list_in (word z r'.world) r'.listed l.row) (Activity.Read Read.Link) l c → Contains (r.seats s).ids p ⊎ (is_marked c l.remembered ≡ true)
      which c p (inl x) = inl x
      which c p (inr (inl x)) = inr x
      which c p (inr (inr x)) = absurd (reading.list_ends (list_in (word z r'.world) r'.listed l.row) l.link _ c ((row_sound h i (link_reads a y).0).list l.link (walking_after h i y).on) (link_loaded h i y None e) x.0 x.1)

-- the reader loads the key of a cell that it has reached
module _ {z : Sizes} {r r' : Run} {s : ℕ} {choice : Choice} {l l' : Local} (h : Happens z r r' s choice l l' (Activity.Read Read.Key)) (i : Inv z r) (k : Below z r') where
  -- what it knew of the cells
  before_key : Reads (list_in (word z r'.world) r'.listed l.row) r'.history r'.origin (Activity.Read Read.Key) l (r.seats s)
  before_key = cells_after h i tt tt

  -- the key as it was found
  key_loaded : (list_in (word z r'.world) r'.listed l.row).key l.place ≡ key_of_word (word z r.world (name.Key l.row l.place))
  key_loaded = ap key_of_word (h.changed.loaded refl (name.Key l.row l.place))

  -- it is below the range: the cell is gone by
  reads_below : key_of_word (word z r.world (name.Key l.row l.place)) < first_key l.call → (m : Local) → m.row ≡ l.row → m.call ≡ l.call → m.link ≡ Some l.place → m.remembered ≡ l.remembered → Reads (list_in (word z r'.world) r'.listed l.row) r'.history r'.origin (Activity.Read Read.Link) m (r.seats s)
  reads_below e m row call link marks = record {
    stamped = λ c p d. before_key.stamped c p (due c p d);
    found = λ c p d. rw (link, marks) (which c p (due c p d) (before_key.found c p (due c p d)));
    hand = λ y. absurd y;
  }
    where
      due : (c p : ℕ) → IsDue r'.history r'.origin m.row m.call (r.seats s).looked c p → IsDue r'.history r'.origin l.row l.call (r.seats s).looked c p
      due c p d = subst (λ x. IsDue r'.history r'.origin x l.call (r.seats s).looked c p) row (subst (λ x. IsDue r'.history r'.origin m.row x (r.seats s).looked c p) call d)

      which : (c p : ℕ) → IsDue r'.history r'.origin l.row l.call (r.seats s).looked c p → Contains (r.seats s).ids p ⊎ (is_marked c l.remembered ≡ true) ⊎ IsToCome (list_in (word z r'.world) r'.listed l.row) (Activity.Read Read.Key) l c →
          Contains (r.seats s).ids p ⊎ (is_marked c l.remembered ≡ true) ⊎ (r'.listed l.row c ≡ true) × Stands (list_in (word z r'.world) r'.listed l.row) l.place c
      which c p d (inl x) = inl x
      which c p d (inr (inl x)) = inr (inl x)
      which c p d (inr (inr (x, inl y))) = absurd (omega (arith, e, key_loaded, ap (list_in (word z r'.world) r'.listed l.row).key y, (due_between h i tt k c p d).0))
      which c p d (inr (inr (x, inr y))) = inr (inr (x, y))

  -- it is above the range: no cell is to come
  pub left_above : last_key l.call < key_of_word (word z r.world (name.Key l.row l.place)) → ReadLeft r'.history r'.origin l (r.seats s).looked (r.seats s).ids
  left_above e = record { stamped = before_key.stamped; found = λ c p d. which c p d (before_key.found c p d) }
    where
      which : (c p : ℕ) → IsDue r'.history r'.origin l.row l.call (r.seats s).looked c p → Contains (r.seats s).ids p ⊎ (is_marked c l.remembered ≡ true) ⊎ IsToCome (list_in (word z r'.world) r'.listed l.row) (Activity.Read Read.Key) l c → Contains (r.seats s).ids p ⊎ (is_marked c l.remembered ≡ true)
      which c p d (inl x) = inl x
      which c p d (inr (inl x)) = inr x
      which c p d (inr (inr x)) = absurd (omega (arith, above_range (list_in (word z r'.world) r'.listed l.row) l.place c (last_key l.call) (omega (arith, e, key_loaded)) x.1, (due_between h i tt k c p d).1))

-- the key in hand is that of the cell in hand
hand_key : {z : Sizes} {r r' : Run} {s : ℕ} {choice : Choice} {l l' : Local} (h : Happens z r r' s choice l l' (Activity.Read Read.Version)) (i : Inv z r) (k : Below z r') → Reads (list_in (word z r'.world) r'.listed l.row) r'.history r'.origin (Activity.Read Read.Version) l (r.seats s) → key_of_word (word z r'.world (name.Key l.row l.place)) ≡ l.place_key
hand_key {l = l} h i k n = let m = n.hand tt in key_stands k l.row l.place m.put (row_linked_on h i tt) (within h i l.row l.place m.put m.origin) m.origin m.stamped ∙ m.key tt

-- a cell is gathered, which is that of the attempt in hand
module _ {z : Sizes} {r r' : Run} {s : ℕ} {choice : Choice} {l l' : Local} {a : Activity} (h : Happens z r r' s choice l l' a) (i : Inv z r) (k : Below z r') (x : IsTaking a) (y : HasPlace a) where
  -- the attempt in hand
  hand_put : IsInHand r.history r.origin a l
  hand_put = (cells_before h i x).hand y

  -- an attempt that is due and for which this cell stands is the one in hand
  is_hand : (c p : ℕ) → IsDue r'.history r'.origin l.row l.call (r.seats s).looked c p → c ≡ l.place → p ≡ hand_put.put
  is_hand c p d f = same_Some p hand_put.put (sym (rw f at d.origin) ∙ (goes h i).origin l.row l.place hand_put.put (row_linked h i (taking_reads a x)) hand_put.origin)

  -- it is among the attempts that are gathered then
  hand_taken : (n c p : ℕ) → IsDue r'.history r'.origin l.row l.call (r.seats s).looked c p → c ≡ l.place → Contains (insert (r.seats s).ids n (unwrap_or (r.origin l.row l.place) 0)) p
  hand_taken n c p d f = rw (hand_put.origin, is_hand c p d f) (contains_new (r.seats s).ids n hand_put.put)

-- the key of a remembered cell is not one of the range: no attempt that is due has it
pub left_gone_by : {z : Sizes} {r r' : Run} {s : ℕ} {choice : Choice} {l l' : Local} (h : Happens z r r' s choice l l' (Activity.Read Read.LeftOverKey)) (i : Inv z r) (k : Below z r') → is_in_range l.call (key_of_word (word z r.world (name.Key l.row l.place))) ≡ false → ReadLeft r'.history r'.origin l (r.seats s).looked (r.seats s).ids
left_gone_by {z} {r} {r'} {s} {choice} {l} {l'} h i k e = record { stamped = n.stamped; found = λ c p d. which c p d (n.found c p d) }
  where
    n : Reads (list_in (word z r'.world) r'.listed l.row) r'.history r'.origin (Activity.Read Read.LeftOverKey) l (r.seats s)
    n = cells_after h i tt tt

    key : (c p : ℕ) → IsDue r'.history r'.origin l.row l.call (r.seats s).looked c p → c ≡ l.place → (attempt r'.history p).key ≡ key_of_word (word z r.world (name.Key l.row l.place))
    key c p d f = sym (due_key_stands k l.call l.row (r.seats s).looked c p (row_linked_on h i tt) (within h i l.row c p d.origin) d) ∙ ap (λ c. key_of_word (word z r'.world (name.Key l.row c))) f ∙ ap key_of_word (h.changed.loaded refl (name.Key l.row l.place))

    which : (c p : ℕ) → IsDue r'.history r'.origin l.row l.call (r.seats s).looked c p → Contains (r.seats s).ids p ⊎ (is_marked c l.remembered ≡ true) ⊎ (c ≡ l.place) → Contains (r.seats s).ids p ⊎ (is_marked c l.remembered ≡ true)
    which c p d (inl x) = inl x
    which c p d (inr (inl x)) = inr x
    which c p d (inr (inr x)) = true_false (subst (λ q. is_in_range l.call q ≡ true) (key c p d x) d.key) e

-- a remembered cell is gathered
pub left_gathered : {z : Sizes} {r r' : Run} {s : ℕ} {choice : Choice} {l l' : Local} (h : Happens z r r' s choice l l' (Activity.Read Read.LeftOverValue)) (i : Inv z r) (k : Below z r') (value : Option ℕ) (at : ℕ) → ReadLeft r'.history r'.origin (gathering z value l) (r.seats s).looked (insert (r.seats s).ids at (unwrap_or (r.origin l.row l.place) 0))
left_gathered {z} {r} {r'} {s} {choice} {l} {l'} h i k value at = record { stamped = n.stamped; found = λ c p d. which c p d (n.found c p d) }
  where
    n : Reads (list_in (word z r'.world) r'.listed l.row) r'.history r'.origin (Activity.Read Read.LeftOverValue) l (r.seats s)
    n = cells_after h i tt tt

    which : (c p : ℕ) → IsDue r'.history r'.origin l.row l.call (r.seats s).looked c p → Contains (r.seats s).ids p ⊎ (is_marked c l.remembered ≡ true) ⊎ (c ≡ l.place) → Contains (insert (r.seats s).ids at (unwrap_or (r.origin l.row l.place) 0)) p ⊎ (is_marked c l.remembered ≡ true)
    which c p d (inl x) = inl (contains_old (r.seats s).ids at _ p x)
    which c p d (inr (inl x)) = inr x
    which c p d (inr (inr x)) = inl (hand_taken h i k tt tt at c p d x)

-- a listed cell is gathered, and gone by
reads_gathered : {z : Sizes} {r r' : Run} {s : ℕ} {choice : Choice} {l l' : Local} (h : Happens z r r' s choice l l' (Activity.Read Read.Value)) (i : Inv z r) (k : Below z r') (m : Local) (at : ℕ) → m.row ≡ l.row → m.call ≡ l.call → m.link ≡ Some l.place → m.remembered ≡ l.remembered → Reads (list_in (word z r'.world) r'.listed l.row) r'.history r'.origin (Activity.Read Read.Link) m (log_gathered (r.origin l.row l.place) at (r.seats s))
reads_gathered {z} {r} {r'} {s} {choice} {l} {l'} h i k m at row call link marks = record {
  stamped = λ c p d. n.stamped c p (due c p d);
  found = λ c p d. rw (link, marks) (which c p (due c p d) (n.found c p (due c p d)));
  hand = λ y. absurd y;
}
  where
    n : Reads (list_in (word z r'.world) r'.listed l.row) r'.history r'.origin (Activity.Read Read.Value) l (r.seats s)
    n = cells_after h i tt tt

    due : (c p : ℕ) → IsDue r'.history r'.origin m.row m.call (r.seats s).looked c p → IsDue r'.history r'.origin l.row l.call (r.seats s).looked c p
    due c p d = subst (λ x. IsDue r'.history r'.origin x l.call (r.seats s).looked c p) row (subst (λ x. IsDue r'.history r'.origin m.row x (r.seats s).looked c p) call d)

    which : (c p : ℕ) → IsDue r'.history r'.origin l.row l.call (r.seats s).looked c p → Contains (r.seats s).ids p ⊎ (is_marked c l.remembered ≡ true) ⊎ IsToCome (list_in (word z r'.world) r'.listed l.row) (Activity.Read Read.Value) l c →
        Contains (insert (r.seats s).ids at (unwrap_or (r.origin l.row l.place) 0)) p ⊎ (is_marked c l.remembered ≡ true) ⊎ (r'.listed l.row c ≡ true) × Stands (list_in (word z r'.world) r'.listed l.row) l.place c
    which c p d (inl x) = inl (contains_old (r.seats s).ids at _ p x)
    which c p d (inr (inl x)) = inr (inl x)
    which c p d (inr (inr (x, inl y))) = inl (hand_taken h i k tt tt at c p d y)
    which c p d (inr (inr (x, inr y))) = inr (inr (x, y))

-- the cells that the acting reader reads
pub reads_by : (z : Sizes) (r r' : Run) (s : ℕ) (choice : Choice) (l : Local) (a : Activity) (l' : Local) → Arrow z (word z r.world) s choice l a l' → Happens z r r' s choice l l' a → Inv z r → Below z r' → IsTaking l'.activity → Reads (list_in (word z r'.world) r'.listed l'.row) r'.history r'.origin l'.activity l' (r'.seats s)
reads_by z r r' s choice l (Activity.Rebalance b) l' x h i k p = after_rests l'.activity (rebalance_next z (word z r.world) s choice l b l' x) (inr p)
reads_by z r r' s choice l a l' (builds b next y t) h i k p = absurd y
reads_by z r r' s choice l a l' (asks_of_pin next o n) h i k p = no_call_of_pin _ h i.shape o
reads_by z r r' s choice l _ _ (first_leads c e) h i k p = subst (Reads (list_in (word z r'.world) r'.listed l.row) r'.history r'.origin (Activity.Read Read.Key) _) (sym h.log) (reads_reached h i tt k c e _ refl refl refl refl)
reads_by z r r' s choice l _ _ (list_leads c e) h i k p = subst (Reads (list_in (word z r'.world) r'.listed l.row) r'.history r'.origin (Activity.Read Read.Key) _) (sym h.log) (reads_reached h i tt k c e _ refl refl refl refl)
reads_by z r r' s choice l _ _ (first_ends next e n) h i k p = subst (Reads _ r'.history r'.origin next.activity next) (sym h.log) (reads_next _ r'.history r'.origin l next (r.seats s) n (left_at_end h i tt k e) (marks_after h i (inr tt)) p)
reads_by z r r' s choice l _ _ (list_ends next e n) h i k p = subst (Reads _ r'.history r'.origin next.activity next) (sym h.log) (reads_next _ r'.history r'.origin l next (r.seats s) n (left_at_end h i tt k e) (marks_after h i (inr tt)) p)
reads_by z r r' s choice l _ _ (begins_behind c inside e) h i k p = subst (Reads (list_in (word z r'.world) r'.listed l.row) r'.history r'.origin (Activity.Read Read.Link) _) (sym h.log) (reads_behind h i k c e _ refl refl refl refl)
reads_by z r r' s choice l _ _ (begins_at_first guess e) h i k p = subst (Reads (list_in (word z r'.world) r'.listed l.row) r'.history r'.origin (Activity.Read Read.Link) _) (sym h.log)
    (let n = cells_after h i tt tt in record { stamped = n.stamped; found = n.found; hand = λ x. absurd x })
reads_by z r r' s choice l _ _ (key_below e) h i k p = subst (Reads (list_in (word z r'.world) r'.listed l.row) r'.history r'.origin (Activity.Read Read.Link) _) (sym h.log) (reads_below h i k e _ refl refl refl refl)
reads_by z r r' s choice l _ _ (key_within e w) h i k p = subst (Reads (list_in (word z r'.world) r'.listed l.row) r'.history r'.origin (Activity.Read Read.Version) _) (sym h.log)
    (let n = before_key h i k in
    record { stamped = n.stamped; found = n.found; hand = λ x. listed_in_hand k (Activity.Read Read.Version) _ _ (row_linked_on h i tt) (walks_after h i tt).walks.on refl (λ y. absurd y) (λ y. key_loaded h i k) (λ y. in_range_of l.call _ e w) })
reads_by z r r' s choice l _ _ (key_above next e n) h i k p = subst (Reads _ r'.history r'.origin next.activity next) (sym h.log) (reads_next _ r'.history r'.origin l next (r.seats s) n (left_above h i k e) (marks_after h i (inr tt)) p)
reads_by z r r' s choice l _ _ loads_version h i k p = subst (Reads (list_in (word z r'.world) r'.listed l.row) r'.history r'.origin (Activity.Read Read.Value) _) (sym h.log)
    (let n = cells_after h i tt tt in
    record { stamped = n.stamped; found = n.found; hand = λ x. listed_in_hand k (Activity.Read Read.Value) _ _ (row_linked_on h i tt) (walks_after h i tt).walks.on (h.changed.loaded refl (name.Version l.row l.place)) (λ y. refl) (λ y. hand_key h i k n) (λ y. (n.hand tt).in_range tt) })
reads_by z r r' s choice l _ _ gathers_listed h i k p = subst (Reads (list_in (word z r'.world) r'.listed l.row) r'.history r'.origin (Activity.Read Read.Link) _) (sym h.log) (reads_gathered h i k _ _ refl refl refl refl)
reads_by z r r' s choice l _ _ (left_over_wanted e) h i k p = subst (Reads (list_in (word z r'.world) r'.listed l.row) r'.history r'.origin (Activity.Read Read.LeftOverValue) _) (sym h.log)
    (let n = cells_after h i tt tt in
    let m = n.hand tt in
    record { stamped = n.stamped; found = n.found; hand = λ x. record { put = m.put; origin = m.origin; stamped = m.stamped; version = λ y. m.version tt; key = λ y. sym (key_stands k l.row l.place m.put (row_linked_on h i tt) (within h i l.row l.place m.put m.origin) m.origin m.stamped) ∙ ap key_of_word (h.changed.loaded refl (name.Key l.row l.place)); in_range = λ y. e } })
reads_by z r r' s choice l _ _ (left_over_gone_by next e n) h i k p = subst (Reads _ r'.history r'.origin next.activity next) (sym h.log) (reads_next _ r'.history r'.origin l next (r.seats s) n (left_gone_by h i k e) (marks_after h i (inr tt)) p)
reads_by z r r' s choice l _ _ (gathers_left_over next n) h i k p = subst (Reads _ r'.history r'.origin next.activity next) (sym h.log) (reads_next _ r'.history r'.origin _ next _ n (left_gathered h i k _ _) (marks_after h i (inr tt)) p)
reads_by z r r' s choice l _ _ (sees_stamped j c version next e n) h i k p = reads_begin k (j + 1) next (remembering c version l) (r'.seats s) n p (looks_by z r r' s choice l _ _ (sees_stamped j c version next e n) h i k (inr tt)) (walks_after h i tt).0
reads_by z r r' s choice l _ _ (sees_neither j next e n) h i k p = reads_begin k (j + 1) next l (r'.seats s) n p (looks_by z r r' s choice l _ _ (sees_neither j next e n) h i k (inr tt)) (walks_after h i tt).0
reads_by z r r' s choice l _ _ (is_gone_by next e n) h i k p = reads_begin k (l.looked + 1) next l (r'.seats s) n p (looks_by z r r' s choice l _ _ (is_gone_by next e n) h i k (inr tt)) (walks_after h i tt).0
reads_by z r r' s choice l _ _ (helps next e n) h i k p = reads_begin k (l.looked + 1) next (remembering l.saw l.helping l) (r'.seats s) n p (looks_by z r r' s choice l _ _ (helps next e n) h i k (inr tt)) (walks_after h i tt).0
reads_by z r r' s choice l _ _ (finds_stamped c version next e n) h i k p = reads_begin k (l.looked + 1) next (remembering c version l) (r'.seats s) n p (looks_by z r r' s choice l _ _ (finds_stamped c version next e n) h i k (inr tt)) (walks_after h i tt).0
reads_by z r r' s choice l _ _ (finds_other next e n) h i k p = reads_begin k (l.looked + 1) next l (r'.seats s) n p (looks_by z r r' s choice l _ _ (finds_other next e n) h i k (inr tt)) (walks_after h i tt).0
reads_by z r r' s choice l a l' b h i k p = absurd p
