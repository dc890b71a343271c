-- A reader looks at the entries of its row: each of its events makes the attempts of one more seat
-- ready.
--
-- All is said of the world after the event, where the entry that the reader read, or stamped, tells
-- what its seat's attempts are.
use Rattle.std.proofs.Common.{ℕ, ◌≡◌, ◌<◌, ◌&&◌, ◌==◌, Bool, true, false, if◌then◌else◌, Option, Some, refl, sym, subst, length, slice_get, ◌≢◌, ◌⊎◌, inl, inr, ◌+◌, arith, ◌∙◌, ap, ne_eqb}
use Rattle.std.proofs.lemmas.Bool.{and_parts, cases_eq}
use Rattle.kw_words.specs.declared.layout.Name.TheVariants as name
use Rattle.kw_words.specs.Count.{count_of}
use Rattle.kw_world.specs.declared.activity.Activity.{Activity}
use Rattle.kw_world.specs.declared.activity.look.Look.TheVariants as Look
use Rattle.kw_world.specs.declared.activity.put.Put.TheVariants as Put
use Rattle.kw_world.specs.declared.activity.read.Read.TheVariants as Read
use Rattle.kw_world.specs.declared.activity.rebalance.Rebalance.TheVariants as Rebalance
use Rattle.kw_world.specs.declared.activity.rebalance.write.Write.TheVariants as Write
use Rattle.kw_world.specs.declared.event.Choice.{Choice}
use Rattle.kw_world.specs.declared.local.Local.{Local}
use Rattle.kw_world.specs.PutTransitions.{given_of, has_room}
use Rattle.kw_world.specs.Sane.{IsActivity, IsLocal}
use Rattle.kw_world.specs.SeekTransitions.{infant}
use Rattle.kw_world.specs.Sizes.{Sizes}
use Rattle.kw_world.specs.Step.{word}
use Rattle.kw_world.specs.WriteTransitions.{infant_cells}
use Rattle.kw_core.specs.Run.{Origins, Run, copied, with_copy, with_origin}
use Rattle.kw_core.proofs.Arrows.{eq_from, builds, NextLook, looks, lists, NextLeftOver, goes_to_left_over, answers, ends_scan, scans_on, Arrow, reads_last, reads_before, sees_pending, sees_stamped, sees_neither, is_wanted, is_gone_by, loads_to_help, helps, finds_stamped, finds_other, list_leads, list_ends, key_below, key_within, key_above, loads_version, gathers_listed, left_over_wanted, left_over_gone_by, gathers_left_over, begins_at_first, begins_behind, first_ends, first_leads, asks_of_pin}
use Rattle.kw_core.proofs.Happens.{Happens, exchanged, not_exchanged}
use Rattle.kw_core.proofs.RoomBelow.{room_below}
use Rattle.kw_reads.specs.Inv.{Inv, lower}
use Rattle.std.specs.Prelude.{All}
use Rattle.std.proofs.lemmas.List.Elements.{All-nil, All-push}
use Rattle.kw_words.specs.declared.pend.Pend.TheVariants as pend
use Rattle.kw_words.specs.Pend.{pend_of}
use Rattle.kw_words.specs.Plain.{key_of_word}
use Rattle.kw_words.proofs.PendWords.{pend_of-Pending, pend_of-Stamped, pend_word_of}
use Rattle.kw_world.specs.Calls.{is_in_range}
use Rattle.kw_world.specs.declared.marks.Mark.{Mark}
use Rattle.kw_world.specs.Marks.{mark_of}
use Rattle.kw_world.specs.ReadTransitions.{remembering}
use Rattle.kw_words.specs.declared.sizes.TheConstants.{MOST_CELLS}
use Rattle.kw_core.specs.History.{History, attempt}
use Rattle.kw_core.specs.declared.seat_log.SeatLog.{SeatLog}
use Rattle.kw_core.specs.Stages.{IsLooking, IsTaking}
use Rattle.kw_rows.specs.Rows.{WasLinked}
use Rattle.kw_reads.specs.Readers.{IsDue, IsNoted, IsReady, IsMarkOf, Looks}
use Rattle.kw_puts.proofs.Owners.{true_false}
use Rattle.kw_core.proofs.InRange.{unmarked_in_range}
use Rattle.kw_core.specs.Listed.{Listed}
use Rattle.kw_reads.proofs.BuiltReads.{after_rests, rebalance_next, looking_reads, reader_reads}
use Rattle.kw_puts.proofs.CellsOf.{cell_key}
use Rattle.kw_puts.proofs.ListSteps.{listed_stays}
use Rattle.kw_reads.proofs.Relying.{record_stays}
use Rattle.kw_core.proofs.Marks.{marked_more, marked_last}
use Rattle.kw_reads.proofs.Ready.{KeepsListed, RecordStays, looks_last, marks_last}
use Rattle.kw_reads.proofs.WalksKeep.{row_linked, row_linked_on}
use Rattle.kw_puts.specs.Below.{Below}
use Rattle.kw_reads.proofs.EntrySays.{EntrySays, is_listed, is_pending, is_stamped, listed_ready, entry_says, stamped_owner}
use Rattle.kw_shape.proofs.AfterBuilding.{no_call_of_pin}

-- where one cell more stands for an attempt, it is this one or one that did so before
set_within : (n : ℕ) (o : Origins) (r c : ℕ) (x : Option ℕ) → c < n → ((q d p : ℕ) → o q d ≡ Some p → d < n) → (q d p : ℕ) → with_copy o r c x q d ≡ Some p → d < n
set_within n o r c x w f q d p e = which ((q == r) && (d == c)) refl e
  where
    which : (b : Bool) → ((q == r) && (d == c)) ≡ b → (if b then x else o q d) ≡ Some p → d < n
    which true g y = subst (λ u. u < n) (sym (eq_from d c (and_parts (q == r) (d == c) g).1)) w
    which false g y = f q d p y

module _ {z : Sizes} {r r' : Run} {s : ℕ} {choice : Choice} {l l' : Local} where
  pub within_keeps : (a : Activity) → Happens z r r' s choice l l' a → Inv z r → (q c p : ℕ) → r'.origin q c ≡ Some p → c < z.cells
  within_keeps (Activity.Put Put.Add) h i q c p e = which (has_room z (count_of (word z r.world (name.Count l.row)))) refl (subst (λ (o : Origins). o q c ≡ Some p) h.origin e)
    where
      which : (b : Bool) → has_room z (count_of (word z r.world (name.Count l.row))) ≡ b → (let o : Origins = if b then with_origin r.origin l.row (given_of (count_of (word z r.world (name.Count l.row)))) (length r.history.attempts) else r.origin in o) q c ≡ Some p → c < z.cells
      which true m x = set_within z.cells r.origin l.row (given_of (count_of (word z r.world (name.Count l.row)))) (Some (length r.history.attempts)) (room_below z (count_of (word z r.world (name.Count l.row))) m) i.readers.within q c p x
      which false m x = i.readers.within q c p x
  within_keeps (Activity.Rebalance (Rebalance.Write (Write.Version j))) h i q c p e =
      set_within z.cells r.origin (infant l) j (copied z r.origin l (slice_get (infant_cells l) j)) (subst (IsActivity z) h.activity (i.shape.sane.locals s l h.knows).ranges.activity) i.readers.within q c p (subst (λ (o : Origins). o q c ≡ Some p) h.origin e)
  within_keeps a h i q c p e = i.readers.within q c p (subst (λ (o : Origins). o q c ≡ Some p) h.origin e)

-- one more cell is remembered: what is noted stays so, and the cell is noted
noted_more : (f : Listed) (l : Local) (c version d : ℕ) → IsNoted f l d → IsNoted f (remembering c version l) d
noted_more f l c version d (inl m) = inl (marked_more d l.remembered (mark_of c version) m)
noted_more f l c version d (inr n) = inr n

-- what is ready stays so
ready_more : (f : Listed) (h : History) (l : Local) (d version c p : ℕ) → IsReady f h l c p → IsReady f h (remembering d version l) c p
ready_more f h l d version c p n = record { stamped = n.stamped; noted = noted_more f l d version c n.noted }

-- a stamped attempt is ready of which the cell is that one
ready_marked : (f : Listed) (h : History) (l : Local) (d version c p : ℕ) → (attempt h p).is_stamped ≡ true → c ≡ d → IsReady f h (remembering d version l) c p
ready_marked f h l d version c p s e = record { stamped = s; noted = inl (rw e (marked_last d version l.remembered)) }

-- an activity says nothing of what is ready
ready_at : (f : Listed) (h : History) (l : Local) (next : Activity) (c p : ℕ) → IsReady f h l c p → IsReady f h (record l { activity = next }) c p
ready_at f h l next c p n = record { stamped = n.stamped; noted = n.noted }

-- the cell that was reached, or what is ready, for another local that notes the same cells
saw_as : (f : Listed) (h : History) (l l' : Local) (d c p : ℕ) → ((u : ℕ) → IsNoted f l u → IsNoted f l' u) → (c ≡ d) ⊎ IsReady f h l c p → (c ≡ d) ⊎ IsReady f h l' c p
saw_as f h l l' d c p g (inl e) = inl e
saw_as f h l l' d c p g (inr n) = inr (record { stamped = n.stamped; noted = g c n.noted })

-- what the reader knows at the next look, or at the row's first link
looks_next : (z : Sizes) (f : Listed) (h : History) (o : Origins) (j : ℕ) (next : Activity) (l : Local) (g : SeatLog) → NextLook z j next → ((c p : ℕ) → IsDue h o l.row l.call g.looked c p → (attempt h p).seat < j → IsReady f h l c p) → Looks z f h o next (record l { activity = next }) g
looks_next z f h o j _ l g (looks w) y = record { past = λ c p d i. ready_at f h l (Activity.Look (Look.Entry j)) c p (y c p d i); here = λ m. absurd m }
looks_next z f h o j _ l g (lists w) y = record { past = λ c p d i. ready_at f h l (Activity.Read Read.Start) c p (y c p d (omega (arith, i, w))); here = λ m. absurd m }

-- a seat below the next one is below this one, or is this one
pub below_next : (a i : ℕ) → a < i + 1 → (a < i) ⊎ (a ≡ i)
below_next a i w = which (cases_eq a i)
  where
    which : (a ≡ i) ⊎ (a ≡ i → ⊥) → (a < i) ⊎ (a ≡ i)
    which (inl e) = inr e
    which (inr d) = inl (omega arith)

-- a seat that reads on, ends its call or goes on with the next row does not look
pub not_looking : (l next : Local) → NextLeftOver l next → IsLooking next.activity → ⊥
not_looking l _ (goes_to_left_over m e) x = x
not_looking l _ (answers c e) x = x
not_looking l _ (ends_scan c e n) x = x
not_looking l _ (scans_on q c e n u) x = x

-- what the entry that was seen says of a cell of its row that stands for an attempt of its seat
-- which is due
module _ {z : Sizes} {r : Run} (k : Below z r) (within : (q c p : ℕ) → r.origin q c ≡ Some p → c < z.cells) (l : Local) (linked : WasLinked r.ledger.rows l.row) (j looked c p : ℕ) (due : IsDue r.history r.origin l.row l.call looked c p) (f : (attempt r.history p).seat ≡ j) where
  says : EntrySays (word z r.world) r.listed r.history l.row j c p
  says = entry_says k l.row j c p linked (within l.row c p due.origin) due.origin f due.announced due.kept

  -- it is stamped, and its cell is remembered
  stamped_here : (d version : ℕ) → pend_of (word z r.world (name.Pend l.row j)) ≡ Some (pend.Stamped d version) → IsReady r.listed r.history (remembering d version l) c p
  stamped_here d version w = which says
    where
      which : EntrySays (word z r.world) r.listed r.history l.row j c p → IsReady r.listed r.history (remembering d version l) c p
      which (is_listed s x) = ready_more r.listed r.history l d version c p (listed_ready k l c p s x)
      which (is_pending x) = let y : Some (pend.Pending c) ≡ Some (pend.Stamped d version) = sym x ∙ w in absurd (cc)
      which (is_stamped s x) = let y : Some (pend.Stamped c (attempt r.history p).version) ≡ Some (pend.Stamped d version) = sym x ∙ w in ready_marked r.listed r.history l d version c p s (cc)

  -- it is pending with a cell
  pending_here : (d : ℕ) → pend_of (word z r.world (name.Pend l.row j)) ≡ Some (pend.Pending d) → (c ≡ d) ⊎ IsReady r.listed r.history l c p
  pending_here d w = which says
    where
      which : EntrySays (word z r.world) r.listed r.history l.row j c p → (c ≡ d) ⊎ IsReady r.listed r.history l c p
      which (is_listed s x) = inr (listed_ready k l c p s x)
      which (is_pending x) = let y : Some (pend.Pending c) ≡ Some (pend.Pending d) = sym x ∙ w in inl (cc)
      which (is_stamped s x) = let y : Some (pend.Stamped c (attempt r.history p).version) ≡ Some (pend.Pending d) = sym x ∙ w in absurd (cc)

  -- it is not stamped, and not pending with this cell
  neither_here : (pend_of (word z r.world (name.Pend l.row j)) ≢ Some (pend.Pending c)) → ((d version : ℕ) → pend_of (word z r.world (name.Pend l.row j)) ≢ Some (pend.Stamped d version)) → IsReady r.listed r.history l c p
  neither_here m n = which says
    where
      which : EntrySays (word z r.world) r.listed r.history l.row j c p → IsReady r.listed r.history l c p
      which (is_listed s x) = listed_ready k l c p s x
      which (is_pending x) = absurd (m x)
      which (is_stamped s x) = absurd (n _ _ x)

-- a seat that reads on remembers what it remembered
marks_on : (P : ℕ → Mark → Type 0) (l next : Local) → NextLeftOver l next → IsLooking next.activity ⊎ IsTaking next.activity → All (P l.row) l.remembered → All (P next.row) next.remembered
marks_on P l _ (goes_to_left_over m e) x k = unmarked_in_range (P l.row) m.cell l.remembered k
marks_on P l _ (answers c e) (inl x) m = absurd x
marks_on P l _ (answers c e) (inr x) m = absurd x
marks_on P l _ (ends_scan c e n) (inl x) m = absurd x
marks_on P l _ (ends_scan c e n) (inr x) m = absurd x
marks_on P l _ (scans_on q c e n u) (inl x) m = absurd x
marks_on P l _ (scans_on q c e n u) (inr x) m = absurd x

-- a reader's event, with what it leaves of the record and of the listed cells
module _ {z : Sizes} {r r' : Run} {s : ℕ} {choice : Choice} {l l' : Local} {a : Activity} (h : Happens z r r' s choice l l' a) (i : Inv z r) where
  -- the record goes on
  pub goes : RecordStays r.history r'.history r.origin r'.origin r.ledger.rows
  goes = record_stays z r r' s choice l a l' h i

  -- listed cells stay listed
  pub keeps : KeepsListed r.ledger.rows r.listed r'.listed
  keeps = listed_stays z r r' s choice l a l' h (lower i)

  -- what stands for an attempt is a cell of its row
  pub within : (q c p : ℕ) → r'.origin q c ≡ Some p → c < z.cells
  within = within_keeps a h i

  -- what the reader knew
  pub looks_before : IsLooking a → Looks z r.listed r.history r.origin a l (r.seats s)
  looks_before x = subst (λ c. Looks z r.listed r.history r.origin c l (r.seats s)) h.activity (i.readers.looks s l h.knows (subst IsLooking (sym h.activity) x))

  -- the row is one of the table's
  pub row_below : l.row < r.world.rows
  row_below = (i.shape.sane.locals s l h.knows).below.row

  -- and knows after its event
  pub looks_after : IsLooking a → (r'.seats s).looked ≡ (r.seats s).looked → Looks z r'.listed r'.history r'.origin a l (r'.seats s)
  looks_after x e = looks_last goes z r.listed r'.listed a l (r.seats s) (r'.seats s) (row_linked h i (looking_reads a x)) keeps e (i.positions.looks s) (looks_before x)

  -- the cells that the reader remembered
  pub marks_after : IsLooking a ⊎ IsTaking a → All (IsMarkOf r'.history r'.origin l.row) l.remembered
  marks_after x = marks_last goes l.row (row_linked h i (reader_reads a x)) l.remembered (i.readers.remembers s l h.knows (subst (λ c. IsLooking c ⊎ IsTaking c) (sym h.activity) x))

  -- what the reader knows is in range
  pub ranges : IsLocal z l
  ranges = (i.shape.sane.locals s l h.knows).ranges

-- a look at an entry
module _ {z : Sizes} {r r' : Run} {s : ℕ} {choice : Choice} {l l' : Local} (j : ℕ) (h : Happens z r r' s choice l l' (Activity.Look (Look.Entry j))) (i : Inv z r) where
  -- the word is as it was found
  look_found : word z r'.world (name.Pend l.row j) ≡ word z r.world (name.Pend l.row j)
  look_found = h.changed.loaded refl (name.Pend l.row j)

  -- the attempts of the seats below are ready as before
  look_past : (c p : ℕ) → IsDue r'.history r'.origin l.row l.call (r'.seats s).looked c p → (attempt r'.history p).seat < j → IsReady r'.listed r'.history l c p
  look_past c p d w = (looks_after h i tt (ap (λ g. g.looked) h.log ∙ rw (ne_eqb j 0 (λ e. absurd (omega (arith, e, w)))) refl)).past c p d w

  -- the entry is one of the row's
  look_seat : j < z.seats
  look_seat = subst (IsActivity z) h.activity (ranges h i).activity

-- the key of the cell of a pending entry is loaded, or the clock, or the entry is stamped
module _ {z : Sizes} {r r' : Run} {s : ℕ} {choice : Choice} {l l' : Local} (h : Happens z r r' s choice l l' (Activity.Look Look.Help)) (i : Inv z r) where
  -- the cell is one that an entry may name
  help_cell : l.saw < MOST_CELLS
  help_cell = omega (arith, (ranges h i).saw, i.shape.sane.sized.few_cells)

  -- the entry is stamped with the reader's version
  help_stamped : pend_of (word z r.world (name.Pend l.row l.looked)) ≡ Some (pend.Pending l.saw) → pend_of (word z r'.world (name.Pend l.row l.looked)) ≡ Some (pend.Stamped l.saw l.helping)
  help_stamped e = ap pend_of (exchanged _ _ _ _ h.changed.same (sym (pend_word_of _ (pend.Pending l.saw) e))) ∙ pend_of-Stamped l.saw l.helping help_cell (ranges h i).helping.0 (ranges h i).helping.1

  -- or it is as it was found
  help_kept : pend_of (word z r.world (name.Pend l.row l.looked)) ≢ Some (pend.Pending l.saw) → word z r'.world (name.Pend l.row l.looked) ≡ word z r.world (name.Pend l.row l.looked)
  help_kept d = not_exchanged _ _ _ _ h.changed.same (λ e. d (ap pend_of e ∙ pend_of-Pending l.saw help_cell))

  -- the same, where the entry was found stamped
  help_found : (c version : ℕ) → pend_of (word z r.world (name.Pend l.row l.looked)) ≡ Some (pend.Stamped c version) → pend_of (word z r'.world (name.Pend l.row l.looked)) ≡ Some (pend.Stamped c version)
  help_found c version e = ap pend_of (help_kept (λ x. let y : Some (pend.Stamped c version) ≡ Some (pend.Pending l.saw) = sym e ∙ x in cc)) ∙ e

  -- what the reader knew
  help_after : Looks z r'.listed r'.history r'.origin (Activity.Look Look.Help) l (r'.seats s)
  help_after = looks_after h i tt (ap (λ g. g.looked) h.log)

-- the cells that the acting reader remembers
pub marks_by : (z : Sizes) (r r' : Run) (s : ℕ) (choice : Choice) (l : Local) (a : Activity) (l' : Local) → Arrow z (word z r.world) s choice l a l' → Happens z r r' s choice l l' a → Inv z r → Below z r' → IsLooking l'.activity ⊎ IsTaking l'.activity → All (IsMarkOf r'.history r'.origin l'.row) l'.remembered
marks_by z r r' s choice l (Activity.Rebalance b) l' x h i k p = after_rests l'.activity (rebalance_next z (word z r.world) s choice l b l' x) p
marks_by z r r' s choice l a l' (builds b next y t) h i k p = absurd y
marks_by z r r' s choice l a l' (asks_of_pin next o n) h i k p = no_call_of_pin _ h i.shape o
marks_by z r r' s choice l _ _ (reads_last f n) h i k p = All-nil (IsMarkOf r'.history r'.origin l.row)
marks_by z r r' s choice l _ _ (reads_before f w) h i k p = All-nil (IsMarkOf r'.history r'.origin l.row)
marks_by z r r' s choice l _ _ (sees_pending j c e) h i k p = marks_after h i (inl tt)
marks_by z r r' s choice l _ _ (sees_stamped j c version next e n) h i k p = All-push (IsMarkOf r'.history r'.origin l.row) l.remembered (mark_of c version) (marks_after h i (inl tt)) (stamped_owner k l.row j c version (rw h.rows (row_below h i)) (look_seat j h i) (ap pend_of (look_found j h i) ∙ e))
marks_by z r r' s choice l _ _ (sees_neither j next e n) h i k p = marks_after h i (inl tt)
marks_by z r r' s choice l _ _ (is_wanted e) h i k p = marks_after h i (inl tt)
marks_by z r r' s choice l _ _ (is_gone_by next e n) h i k p = marks_after h i (inl tt)
marks_by z r r' s choice l _ _ loads_to_help h i k p = marks_after h i (inl tt)
marks_by z r r' s choice l _ _ (helps next e n) h i k p = All-push (IsMarkOf r'.history r'.origin l.row) l.remembered (mark_of l.saw l.helping) (marks_after h i (inl tt)) (stamped_owner k l.row l.looked l.saw l.helping (rw h.rows (row_below h i)) (ranges h i).looked (help_stamped h i e))
marks_by z r r' s choice l _ _ (finds_stamped c version next e n) h i k p = All-push (IsMarkOf r'.history r'.origin l.row) l.remembered (mark_of c version) (marks_after h i (inl tt)) (stamped_owner k l.row l.looked c version (rw h.rows (row_below h i)) (ranges h i).looked (help_found h i c version e))
marks_by z r r' s choice l _ _ (finds_other next e n) h i k p = marks_after h i (inl tt)
marks_by z r r' s choice l _ _ (first_leads c e) h i k p = unmarked_in_range (IsMarkOf r'.history r'.origin l.row) c l.remembered (marks_after h i (inr tt))
marks_by z r r' s choice l _ _ (list_leads c e) h i k p = unmarked_in_range (IsMarkOf r'.history r'.origin l.row) c l.remembered (marks_after h i (inr tt))
marks_by z r r' s choice l _ _ (first_ends next e n) h i k p = marks_on (IsMarkOf r'.history r'.origin) _ next n p (marks_after h i (inr tt))
marks_by z r r' s choice l _ _ (list_ends next e n) h i k p = marks_on (IsMarkOf r'.history r'.origin) _ next n p (marks_after h i (inr tt))
marks_by z r r' s choice l _ _ (begins_behind guess inside e) h i k p = marks_after h i (inr tt)
marks_by z r r' s choice l _ _ (begins_at_first guess e) h i k p = marks_after h i (inr tt)
marks_by z r r' s choice l _ _ (key_below e) h i k p = marks_after h i (inr tt)
marks_by z r r' s choice l _ _ (key_within e w) h i k p = marks_after h i (inr tt)
marks_by z r r' s choice l _ _ (key_above next e n) h i k p = marks_on (IsMarkOf r'.history r'.origin) _ next n p (marks_after h i (inr tt))
marks_by z r r' s choice l _ _ loads_version h i k p = marks_after h i (inr tt)
marks_by z r r' s choice l _ _ gathers_listed h i k p = marks_after h i (inr tt)
marks_by z r r' s choice l _ _ (left_over_wanted e) h i k p = marks_after h i (inr tt)
marks_by z r r' s choice l _ _ (left_over_gone_by next e n) h i k p = marks_on (IsMarkOf r'.history r'.origin) _ next n p (marks_after h i (inr tt))
marks_by z r r' s choice l _ _ (gathers_left_over next n) h i k p = marks_on (IsMarkOf r'.history r'.origin) _ next n p (marks_after h i (inr tt))
marks_by z r r' s choice l a l' b h i k (inl p) = absurd p
marks_by z r r' s choice l a l' b h i k (inr p) = absurd p

-- the attempts of the seats below the next one: those below this one, and this one's
each_below : (f : Listed) (h : History) (o : Origins) (l : Local) (looked i : ℕ) → ((c p : ℕ) → IsDue h o l.row l.call looked c p → (attempt h p).seat < i → IsReady f h l c p) → ((c p : ℕ) → IsDue h o l.row l.call looked c p → (attempt h p).seat ≡ i → IsReady f h l c p) → (c p : ℕ) → IsDue h o l.row l.call looked c p → (attempt h p).seat < i + 1 → IsReady f h l c p
each_below f h o l looked i past here c p d w = which (below_next (attempt h p).seat i w)
  where
    which : ((attempt h p).seat < i) ⊎ ((attempt h p).seat ≡ i) → IsReady f h l c p
    which (inl x) = past c p d x
    which (inr x) = here c p d x

-- the key of the cell that was seen is gone by: it is that of no attempt that is due
gone_by : {z : Sizes} {r : Run} (k : Below z r) (within : (q c p : ℕ) → r.origin q c ≡ Some p → c < z.cells) (l : Local) (linked : WasLinked r.ledger.rows l.row) (w : ℕ) (c p looked : ℕ) → word z r.world (name.Key l.row l.saw) ≡ w → is_in_range l.call (key_of_word w) ≡ false → IsDue r.history r.origin l.row l.call looked c p → (c ≡ l.saw) ⊎ IsReady r.listed r.history l c p → IsReady r.listed r.history l c p
gone_by k within l linked w c p looked e f d (inr n) = n
gone_by {z} {r} k within l linked w c p looked e f d (inl m) =
    let y : key_of_word (word z r.world (name.Key l.row l.saw)) ≡ (attempt r.history p).key = rw m at (cell_key k.puts l.row c p (k.puts.places.owner l.row c p linked (within l.row c p d.origin) d.origin) d.announced) in
    true_false d.key (rw (← e, y) at f)

-- the entries that it has looked at, after its last look too
pub looks_by : (z : Sizes) (r r' : Run) (s : ℕ) (choice : Choice) (l : Local) (a : Activity) (l' : Local) → Arrow z (word z r.world) s choice l a l' → Happens z r r' s choice l l' a → Inv z r → Below z r' → IsLooking l'.activity ⊎ IsLooking a → Looks z r'.listed r'.history r'.origin l'.activity l' (r'.seats s)
looks_by z r r' s choice l (Activity.Rebalance b) l' x h i k (inl p) = after_rests l'.activity (rebalance_next z (word z r.world) s choice l b l' x) (inl p)
looks_by z r r' s choice l (Activity.Rebalance b) l' x h i k (inr p) = absurd p
looks_by z r r' s choice l a l' (builds b next y t) h i k p = absurd y
looks_by z r r' s choice l a l' (asks_of_pin next o n) h i k p = no_call_of_pin _ h i.shape o
looks_by z r r' s choice l _ _ (reads_last f n) h i k p = record { past = λ c p d w. absurd (omega (arith, w)); here = λ m. absurd m }
looks_by z r r' s choice l _ _ (reads_before f w) h i k p = record { past = λ c p d w. absurd (omega (arith, w)); here = λ m. absurd m }
looks_by z r r' s choice l _ _ (sees_pending j d e) h i k p = record {
  past = λ c p x w. let n = look_past j h i c p x w in record { stamped = n.stamped; noted = n.noted };
  here = λ m c p x f. saw_as r'.listed r'.history l _ d c p (λ u v. v) (pending_here k (within h i) l (row_linked_on h i tt) j (r'.seats s).looked c p x f d (ap pend_of (look_found j h i) ∙ e));
}
looks_by z r r' s choice l _ _ (sees_stamped j d version next e n) h i k p = looks_next z r'.listed r'.history r'.origin (j + 1) next (remembering d version l) (r'.seats s) n (each_below r'.listed r'.history r'.origin (remembering d version l) (r'.seats s).looked j (λ c p x w. ready_more r'.listed r'.history l d version c p (look_past j h i c p x w)) (λ c p x f. stamped_here k (within h i) l (row_linked_on h i tt) j (r'.seats s).looked c p x f d version (ap pend_of (look_found j h i) ∙ e)))
looks_by z r r' s choice l _ _ (sees_neither j next e n) h i k p = looks_next z r'.listed r'.history r'.origin (j + 1) next l (r'.seats s) n (each_below r'.listed r'.history r'.origin l (r'.seats s).looked j (look_past j h i) (λ c p x f. neither_here k (within h i) l (row_linked_on h i tt) j (r'.seats s).looked c p x f (λ y. e.pending _ (sym (ap pend_of (look_found j h i)) ∙ y)) (λ d u y. e.stamped d u (sym (ap pend_of (look_found j h i)) ∙ y))))
looks_by z r r' s choice l _ _ (is_wanted e) h i k p = let n = looks_after h i tt (ap (λ g. g.looked) h.log) in record { past = λ c p x w. ready_at r'.listed r'.history l (Activity.Look Look.Clock) c p (n.past c p x w); here = λ m c p x f. saw_as r'.listed r'.history l _ l.saw c p (λ u v. v) (n.here tt c p x f) }
looks_by z r r' s choice l _ _ (is_gone_by next e n) h i k p = let m = looks_after h i tt (ap (λ g. g.looked) h.log) in
    looks_next z r'.listed r'.history r'.origin (l.looked + 1) next l (r'.seats s) n (each_below r'.listed r'.history r'.origin l (r'.seats s).looked l.looked m.past (λ c p x f. gone_by k (within h i) l (row_linked_on h i tt) (word z r.world (name.Key l.row l.saw)) c p (r'.seats s).looked (h.changed.loaded refl (name.Key l.row l.saw)) e x (m.here tt c p x f)))
looks_by z r r' s choice l _ _ loads_to_help h i k p = let n = looks_after h i tt (ap (λ g. g.looked) h.log) in record { past = λ c p x w. let y = n.past c p x w in record { stamped = y.stamped; noted = y.noted }; here = λ m c p x f. saw_as r'.listed r'.history l _ l.saw c p (λ u v. v) (n.here tt c p x f) }
looks_by z r r' s choice l _ _ (helps next e n) h i k p = looks_next z r'.listed r'.history r'.origin (l.looked + 1) next (remembering l.saw l.helping l) (r'.seats s) n (each_below r'.listed r'.history r'.origin (remembering l.saw l.helping l) (r'.seats s).looked l.looked (λ c p x w. ready_more r'.listed r'.history l l.saw l.helping c p ((help_after h i).past c p x w)) (λ c p x f. stamped_here k (within h i) l (row_linked_on h i tt) l.looked (r'.seats s).looked c p x f l.saw l.helping (help_stamped h i e)))
looks_by z r r' s choice l _ _ (finds_stamped d version next e n) h i k p = looks_next z r'.listed r'.history r'.origin (l.looked + 1) next (remembering d version l) (r'.seats s) n (each_below r'.listed r'.history r'.origin (remembering d version l) (r'.seats s).looked l.looked (λ c p x w. ready_more r'.listed r'.history l d version c p ((help_after h i).past c p x w)) (λ c p x f. stamped_here k (within h i) l (row_linked_on h i tt) l.looked (r'.seats s).looked c p x f d version (help_found h i d version e)))
looks_by z r r' s choice l _ _ (finds_other next e n) h i k p = looks_next z r'.listed r'.history r'.origin (l.looked + 1) next l (r'.seats s) n (each_below r'.listed r'.history r'.origin l (r'.seats s).looked l.looked (help_after h i).past (λ c p x f. left c p x f ((help_after h i).here tt c p x f)))
  where
    kept : pend_of (word z r'.world (name.Pend l.row l.looked)) ≡ pend_of (word z r.world (name.Pend l.row l.looked))
    kept = ap pend_of (help_kept h i e.pending)

    left : (c p : ℕ) → IsDue r'.history r'.origin l.row l.call (r'.seats s).looked c p → (attempt r'.history p).seat ≡ l.looked → (c ≡ l.saw) ⊎ IsReady r'.listed r'.history l c p → IsReady r'.listed r'.history l c p
    left c p x f (inr n) = n
    left c p x f (inl m) = neither_here k (within h i) l (row_linked_on h i tt) l.looked (r'.seats s).looked c p x f (λ y. e.pending (sym kept ∙ y ∙ ap (λ u. Some (pend.Pending u)) m)) (λ d u y. e.stamped d u (sym kept ∙ y))
looks_by z r r' s choice l _ _ (first_ends next e n) h i k (inl p) = absurd (not_looking _ next n p)
looks_by z r r' s choice l _ _ (list_ends next e n) h i k (inl p) = absurd (not_looking _ next n p)
looks_by z r r' s choice l _ _ (key_above next e n) h i k (inl p) = absurd (not_looking _ next n p)
looks_by z r r' s choice l _ _ (left_over_gone_by next e n) h i k (inl p) = absurd (not_looking _ next n p)
looks_by z r r' s choice l _ _ (gathers_left_over next n) h i k (inl p) = absurd (not_looking _ next n p)
looks_by z r r' s choice l a l' b h i k (inl p) = absurd p
looks_by z r r' s choice l a l' b h i k (inr p) = absurd p
