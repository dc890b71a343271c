-- What a reader has gathered, and what it has seen of the row that it read, is kept by its own
-- events; and that row is one that it may name.
use Rattle.std.proofs.Common.{ℕ, ◌≡◌, ◌⊎◌, inl, inr, ◌+◌, ◌≤◌, Bool, true, false, if◌then◌else◌, Some, None, Option, [], arith, refl, sym, ◌∙◌, ap, subst, length, slice_get, unwrap_or, ne_eqb}
use Rattle.std.specs.Prelude.{insert}
use Rattle.std.proofs.lemmas.Bool.{cases_eq}
use Rattle.std.proofs.lemmas.Option.{same_Some}
use Rattle.kw_words.specs.declared.layout.Name.TheVariants as name
use Rattle.kw_words.specs.Plain.{value_of_word}
use Rattle.kw_world.specs.declared.activity.Activity.{Activity}
use Rattle.kw_world.specs.declared.activity.draw.Draw.TheVariants as Draw
use Rattle.kw_world.specs.declared.activity.enter.Enter.TheVariants as Enter
use Rattle.kw_world.specs.declared.activity.look.Look.TheVariants as Look
use Rattle.kw_world.specs.declared.activity.put.Put.TheVariants as Put
use Rattle.kw_world.specs.declared.activity.read.Read.TheVariants as Read
use Rattle.kw_world.specs.declared.activity.rebalance.Rebalance.TheVariants as Rebalance
use Rattle.kw_world.specs.declared.activity.rebalance.seek.Seek.TheVariants as Seek
use Rattle.kw_world.specs.declared.activity.rebalance.engage.Engage.TheVariants as Engage
use Rattle.kw_world.specs.declared.activity.rebalance.freeze.Freeze.TheVariants as Freeze
use Rattle.kw_world.specs.declared.activity.rebalance.gather.Gather.TheVariants as Gather
use Rattle.kw_world.specs.declared.activity.insert.Insert.TheVariants as Insert
use Rattle.kw_world.specs.declared.activity.rebalance.replace.Replace.TheVariants as Replace
use Rattle.kw_world.specs.declared.activity.walk.Walk.TheVariants as Walk
use Rattle.kw_world.specs.declared.activity.rebalance.write.Write.TheVariants as Write
use Rattle.kw_world.specs.declared.local.Local.{Local}
use Rattle.kw_world.specs.declared.event.Choice.{Choice}
use Rattle.kw_world.specs.declared.event.Choice.TheVariants.{Begin, Go, Guess, Stop}
use Rattle.kw_world.specs.Sizes.{Sizes}
use Rattle.kw_world.specs.Step.{is_skipped, word}
use Rattle.kw_core.specs.History.{History, attempt}
use Rattle.kw_core.specs.HistoryLaws.{IsPut}
use Rattle.kw_core.specs.Run.{Origins, Run, is_at_cell, log_begun, log_gathered, log_look, log_read, index_gathered}
use Rattle.kw_core.specs.declared.seat_log.SeatLog.{SeatLog}
use Rattle.kw_core.specs.Stages.{IsAtRead, IsLooking, IsTaking, IsReading, IsKeeping, IsVisiting, IsUnderway, HasLooked, HasPlace, HasVersion, HasCellKey}
use Rattle.kw_cells.specs.declared.cell.Cell as kw_cell
use Rattle.kw_cells.specs.InOrder.{index_in}
use Rattle.kw_world.specs.Marks.{is_marked}
use Rattle.kw_world.specs.ReadTransitions.{cell_in_hand, gathering}
use Rattle.kw_puts.specs.Builds.{has_place}
use Rattle.kw_puts.specs.Lists.{list_in}
use Rattle.kw_core.specs.Words.{Words}
use Rattle.kw_model.specs.declared.call.Call.{Call}
use Rattle.kw_model.specs.declared.call.Call.TheVariants.{Get, Scan}
use Rattle.kw_rows.specs.Ledger.{IsFresh}
use Rattle.kw_rows.specs.Rows.{WasLinked}
use Rattle.kw_reads.specs.Readers.{IsDue, IsCopyOf, IsInHand, AreCopies, Gathers, Apart, HasSeen, IsReadRow}
use Rattle.kw_reads.specs.Inv.{Inv}
use Rattle.kw_core.proofs.Attempts.{in_range}
use Rattle.kw_core.proofs.Arrows.{builds, NextLook, looks, lists, Arrow, begins, reads_last, reads_before, sees_pending, sees_stamped, sees_neither, is_wanted, is_gone_by, loads_to_help, helps, finds_stamped, finds_other, list_leads, list_ends, key_below, key_within, key_above, loads_version, gathers_listed, left_over_wanted, left_over_gone_by, gathers_left_over, takes_cell, enters, enters_scan, leaves, retries, takes_full, settles_empty, settles, begins_at_first, begins_behind, first_ends, first_leads, settles_pin, asks_of_pin}
use Rattle.kw_core.proofs.SeatLogs.{settled_same}
use Rattle.kw_core.proofs.Fates.{others_stay}
use Rattle.kw_core.proofs.Frame.{WritesPass}
use Rattle.kw_core.proofs.Happens.{Happens, knows_next}
use Rattle.kw_core.proofs.Marks.{zip_insert}
use Rattle.kw_reads.proofs.Ready.{due_before, stamped_lasts, stamped_same, copies_last}
use Rattle.kw_puts.specs.Below.{Below}
use Rattle.kw_reads.proofs.LooksKeep.{goes}
use Rattle.kw_reads.proofs.CellsKeep.{seen_next, copies_next, cells_before, unread_before, left_at_end, left_above, left_gone_by, left_gathered, value_stands}
use Rattle.kw_reads.proofs.BuiltReads.{after_reading, after_rests, rebalance_goes, rebalance_log, taking_reads}
use Rattle.kw_shape.proofs.AfterBuilding.{built_pass, no_call_of_pin}
use Rattle.kw_shape.proofs.LinkedRows.{fresh_linked}
use Rattle.kw_shape.proofs.NextCalls.{arrow_call}
use Rattle.kw_shape.proofs.RowsKeep.{own_rely}
use Rattle.kw_shape.proofs.RelyRows.{is_visiting}
use Rattle.kw_shape.specs.Visits.{Visits}
use Rattle.kw_shape.specs.Shape.{IsKind, IsPutCall, IsReadCall}
use Rattle.kw_reads.proofs.WalksKeep.{row_fresh, row_linked, row_linked_on, walks_before}
use Rattle.kw_reads.proofs.ApartKeeps.{apart_before, hand_fresh, gather_is, place_below}

-- nothing is said of a row where none counts as read
seen_unread : (h : History) (o : Origins) (a : Activity) (l : Local) (g : SeatLog) → g.read ≡ None → HasSeen h o a l g
seen_unread h o a l g f = record {
  unread = λ x. f;
  stamped = λ x q e. let y : None ≡ Some q = sym f ∙ e in absurd (cc);
  taken = λ x q e. let y : None ≡ Some q = sym f ∙ e in absurd (cc);
}

-- a seat that has added to its row, or not
added_same : {A : Type 0} (f : SeatLog → A) (b : Bool) (g : SeatLog) (n : ℕ) → f (record g { own = n }) ≡ f g → f (if b then record g { own = n } else g) ≡ f g
added_same f true g n e = e
added_same f false g n e = refl

-- a row that counts as read is or was linked
pub read_linked : {z : Sizes} {r : Run} → Inv z r → (t : ℕ) (k : Local) → slice_get r.world.locals t ≡ Some k → IsKeeping k.activity → (q : ℕ) → (r.seats t).read ≡ Some q → WasLinked r.ledger.rows q
read_linked {z} {r} i t k g p q e = fresh_linked r.ledger.rows t q (i.readers.read t k g p q e).fresh

-- an event of a seat that keeps what it gathered and read
module _ {z : Sizes} {r r' : Run} {s : ℕ} {choice : Choice} {l l' : Local} {a : Activity} (h : Happens z r r' s choice l l' a) (i : Inv z r) where
  -- what the seat had seen
  seen_before : HasSeen r.history r.origin a l (r.seats s)
  seen_before = subst (λ c. HasSeen r.history r.origin c l (r.seats s)) h.activity (i.readers.seen s l h.knows)

  -- what it had gathered
  gathered_before : Gathers r.history r.origin a l (r.seats s)
  gathered_before = subst (λ c. Gathers r.history r.origin c l (r.seats s)) h.activity (i.readers.gathers s l h.knows)

  -- the row that it had read is or was linked
  had_linked : IsKeeping a → (q : ℕ) → (r.seats s).read ≡ Some q → WasLinked r.ledger.rows q
  had_linked k = read_linked i s l h.knows (subst IsKeeping (sym h.activity) k)

  -- it has seen it still
  seen_kept : (c : Activity) → IsKeeping a → l'.call ≡ l.call → (r'.seats s).looked ≡ (r.seats s).looked → (r'.seats s).ids ≡ (r.seats s).ids → (r'.seats s).read ≡ (r.seats s).read → (IsReading c → ⊥) → HasSeen r'.history r'.origin c l' (r'.seats s)
  seen_kept b k call looked ids read n = record {
    unread = λ x. absurd (n x);
    stamped = λ x q e c p d. (stamped_lasts (goes h i) p (seen_before.stamped k q (sym read ∙ e) c p (due q c p (sym read ∙ e) d))).0;
    taken = λ x q e c p d. rw ids (seen_before.taken k q (sym read ∙ e) c p (due q c p (sym read ∙ e) d));
  }
    where
      due : (q c p : ℕ) → (r.seats s).read ≡ Some q → IsDue r'.history r'.origin q l'.call (r'.seats s).looked c p → IsDue r.history r.origin q l.call (r.seats s).looked c p
      due q c p e d = due_before (goes h i) q l.call (r.seats s).looked c p (had_linked k q e) (i.positions.looks s) (subst (λ x. IsDue r'.history r'.origin q l.call x c p) looked (subst (λ x. IsDue r'.history r'.origin q x (r'.seats s).looked c p) call d))

  -- it has gathered it still
  gathers_kept : (c : Activity) → IsKeeping a → l'.call ≡ l.call → l'.gathered ≡ l.gathered → (r'.seats s).ids ≡ (r.seats s).ids → (r'.seats s).read ≡ (r.seats s).read → (IsLooking c → ⊥) → (HasLooked c → ⊥) → (IsTaking c → ⊥) → Gathers r'.history r'.origin c l' (r'.seats s)
  gathers_kept c k call gathered ids read n m o = record {
    empty = λ x. absurd (n x);
    no_ids = λ x. absurd (m x);
    taking = λ x. absurd (o x);
    kept = λ x q e. rw (call, gathered, ids) (copies_last (goes h i) q (had_linked k q (sym read ∙ e)) l.call l.gathered (r.seats s).ids (gathered_before.kept k q (sym read ∙ e)));
  }

-- a look: no row counts as read, and nothing is gathered
look_unread : (j now : ℕ) (g : SeatLog) → (1 ≤ j → g.read ≡ None) → (log_look j now g).read ≡ None
look_unread j now g f = which (cases_eq j 0)
  where
    which : (j ≡ 0) ⊎ (j ≡ 0 → ⊥) → (log_look j now g).read ≡ None
    which (inl e) = rw e refl
    which (inr d) = rw (ne_eqb j 0 d) (f (omega arith))

-- the list of attempts is empty
look_empty : (j now : ℕ) (g : SeatLog) → (1 ≤ j → g.ids ≡ []) → (log_look j now g).ids ≡ []
look_empty j now g f = which (cases_eq j 0)
  where
    which : (j ≡ 0) ⊎ (j ≡ 0 → ⊥) → (log_look j now g).ids ≡ []
    which (inl e) = rw e refl
    which (inr d) = rw (ne_eqb j 0 d) (f (omega arith))

-- what the acting seat has seen of a row that it has read
pub seen_by : (z : Sizes) (r r' : Run) (s : ℕ) (choice : Choice) (l : Local) (a : Activity) (l' : Local) → Arrow z (word z r.world) s choice l a l' → Happens z r r' s choice l l' a → Inv z r → Below z r' → HasSeen r'.history r'.origin l'.activity l' (r'.seats s)
seen_by z r r' s choice l (Activity.Rebalance b) l' x h i k =
    let g = rebalance_log b h in
    let n = rebalance_goes z (word z r.world) s choice l b l' x in
    seen_kept h i l'.activity tt n.call g.looked g.ids g.read (λ u. after_reading l'.activity n.next u)
seen_by z r r' s choice l a l' (builds b next y t) h i k = absurd y
seen_by z r r' s choice l a l' (asks_of_pin next o n) h i k = no_call_of_pin _ h i.shape o
seen_by z r r' s choice l _ _ (begins call e b) h i k = seen_unread r'.history r'.origin (Activity.Enter Enter.Announce) _ (r'.seats s) (ap (λ g. g.read) h.log ∙ ap (λ c. (log_begun c (length r.history.calls) (r.seats s)).read) e)
seen_by z r r' s choice l _ _ (reads_last f n) h i k = record { unread = λ x. absurd (omega (arith, x)); stamped = λ x. absurd x; taken = λ x. absurd x }
seen_by z r r' s choice l _ _ (reads_before f w) h i k = record { unread = λ x. absurd (omega (arith, x)); stamped = λ x. absurd x; taken = λ x. absurd x }
seen_by z r r' s choice l _ _ (sees_pending j c e) h i k = seen_unread r'.history r'.origin _ _ (r'.seats s) (ap (λ g. g.read) h.log ∙ look_unread j (length r.history.log) (r.seats s) (unread_before h i))
seen_by z r r' s choice l _ _ (sees_stamped j c version next e n) h i k = seen_unread r'.history r'.origin _ _ (r'.seats s) (ap (λ g. g.read) h.log ∙ look_unread j (length r.history.log) (r.seats s) (unread_before h i))
seen_by z r r' s choice l _ _ (sees_neither j next e n) h i k = seen_unread r'.history r'.origin _ _ (r'.seats s) (ap (λ g. g.read) h.log ∙ look_unread j (length r.history.log) (r.seats s) (unread_before h i))
seen_by z r r' s choice l _ _ (is_wanted e) h i k = seen_unread r'.history r'.origin _ _ (r'.seats s) (ap (λ g. g.read) h.log ∙ unread_before h i tt)
seen_by z r r' s choice l _ _ (is_gone_by next e n) h i k = seen_unread r'.history r'.origin _ _ (r'.seats s) (ap (λ g. g.read) h.log ∙ unread_before h i tt)
seen_by z r r' s choice l _ _ loads_to_help h i k = seen_unread r'.history r'.origin _ _ (r'.seats s) (ap (λ g. g.read) h.log ∙ unread_before h i tt)
seen_by z r r' s choice l _ _ (helps next e n) h i k = seen_unread r'.history r'.origin _ _ (r'.seats s) (ap (λ g. g.read) h.log ∙ unread_before h i tt)
seen_by z r r' s choice l _ _ (finds_stamped c version next e n) h i k = seen_unread r'.history r'.origin _ _ (r'.seats s) (ap (λ g. g.read) h.log ∙ unread_before h i tt)
seen_by z r r' s choice l _ _ (finds_other next e n) h i k = seen_unread r'.history r'.origin _ _ (r'.seats s) (ap (λ g. g.read) h.log ∙ unread_before h i tt)
seen_by z r r' s choice l _ _ (first_leads c e) h i k = seen_unread r'.history r'.origin _ _ (r'.seats s) (ap (λ g. g.read) h.log ∙ unread_before h i tt)
seen_by z r r' s choice l _ _ (list_leads c e) h i k = seen_unread r'.history r'.origin _ _ (r'.seats s) (ap (λ g. g.read) h.log ∙ unread_before h i tt)
seen_by z r r' s choice l _ _ (first_ends next e n) h i k = subst (HasSeen r'.history r'.origin next.activity next) (sym h.log) (seen_next r'.history r'.origin l next _ n (left_at_end h i tt k e) (unread_before h i tt))
seen_by z r r' s choice l _ _ (list_ends next e n) h i k = subst (HasSeen r'.history r'.origin next.activity next) (sym h.log) (seen_next r'.history r'.origin l next _ n (left_at_end h i tt k e) (unread_before h i tt))
seen_by z r r' s choice l _ _ (begins_behind guess inside e) h i k = seen_unread r'.history r'.origin _ _ (r'.seats s) (ap (λ g. g.read) h.log ∙ unread_before h i tt)
seen_by z r r' s choice l _ _ (begins_at_first guess e) h i k = seen_unread r'.history r'.origin _ _ (r'.seats s) (ap (λ g. g.read) h.log ∙ unread_before h i tt)
seen_by z r r' s choice l _ _ (key_below e) h i k = seen_unread r'.history r'.origin _ _ (r'.seats s) (ap (λ g. g.read) h.log ∙ unread_before h i tt)
seen_by z r r' s choice l _ _ (key_within e w) h i k = seen_unread r'.history r'.origin _ _ (r'.seats s) (ap (λ g. g.read) h.log ∙ unread_before h i tt)
seen_by z r r' s choice l _ _ (key_above next e n) h i k = subst (HasSeen r'.history r'.origin next.activity next) (sym h.log) (seen_next r'.history r'.origin l next _ n (left_above h i k e) (unread_before h i tt))
seen_by z r r' s choice l _ _ loads_version h i k = seen_unread r'.history r'.origin _ _ (r'.seats s) (ap (λ g. g.read) h.log ∙ unread_before h i tt)
seen_by z r r' s choice l _ _ gathers_listed h i k = seen_unread r'.history r'.origin _ _ (r'.seats s) (ap (λ g. g.read) h.log ∙ unread_before h i tt)
seen_by z r r' s choice l _ _ (left_over_wanted e) h i k = seen_unread r'.history r'.origin _ _ (r'.seats s) (ap (λ g. g.read) h.log ∙ unread_before h i tt)
seen_by z r r' s choice l _ _ (left_over_gone_by next e n) h i k = subst (HasSeen r'.history r'.origin next.activity next) (sym h.log) (seen_next r'.history r'.origin l next _ n (left_gone_by h i k e) (unread_before h i tt))
seen_by z r r' s choice l _ _ (gathers_left_over next n) h i k = subst (HasSeen r'.history r'.origin next.activity next) (sym h.log) (seen_next r'.history r'.origin _ next _ n (left_gathered h i k _ _) (unread_before h i tt))
seen_by z r r' s choice l _ _ (takes_cell e) h i k = seen_kept h i (Activity.Put Put.Key) tt refl (ap (λ g. g.looked) h.log ∙ added_same (λ g. g.looked) _ (r.seats s) _ refl) (ap (λ g. g.ids) h.log ∙ added_same (λ g. g.ids) _ (r.seats s) _ refl) (ap (λ g. g.read) h.log ∙ added_same (λ g. g.read) _ (r.seats s) _ refl) (λ x. x)
seen_by z r r' s choice l _ _ (takes_full e) h i k = seen_kept h i _ tt refl (ap (λ g. g.looked) h.log ∙ added_same (λ g. g.looked) _ (r.seats s) _ refl) (ap (λ g. g.ids) h.log ∙ added_same (λ g. g.ids) _ (r.seats s) _ refl) (ap (λ g. g.read) h.log ∙ added_same (λ g. g.read) _ (r.seats s) _ refl) (λ x. x)
seen_by z r r' s choice l _ _ (leaves answer) h i k = record { unread = λ x. absurd x; stamped = λ x. absurd x; taken = λ x. absurd x }
seen_by z r r' s choice l _ _ (settles_empty e) h i k = seen_kept h i _ tt refl (ap (λ g. g.looked) h.log ∙ settled_same (λ g. g.looked) l.waiting _ (r.settled s) (r.seats s) refl) (ap (λ g. g.ids) h.log ∙ settled_same (λ g. g.ids) l.waiting _ (r.settled s) (r.seats s) refl) (ap (λ g. g.read) h.log ∙ settled_same (λ g. g.read) l.waiting _ (r.settled s) (r.seats s) refl) (λ x. x)
seen_by z r r' s choice l _ _ (settles e) h i k = seen_kept h i _ tt refl (ap (λ g. g.looked) h.log ∙ settled_same (λ g. g.looked) l.waiting _ (r.settled s) (r.seats s) refl) (ap (λ g. g.ids) h.log ∙ settled_same (λ g. g.ids) l.waiting _ (r.settled s) (r.seats s) refl) (ap (λ g. g.read) h.log ∙ settled_same (λ g. g.read) l.waiting _ (r.settled s) (r.seats s) refl) (λ x. x)
seen_by z r r' s choice l _ _ (settles_pin e) h i k = seen_kept h i _ tt refl (ap (λ g. g.looked) h.log ∙ settled_same (λ g. g.looked) l.waiting _ (r.settled s) (r.seats s) refl) (ap (λ g. g.ids) h.log ∙ settled_same (λ g. g.ids) l.waiting _ (r.settled s) (r.seats s) refl) (ap (λ g. g.read) h.log ∙ settled_same (λ g. g.read) l.waiting _ (r.settled s) (r.seats s) refl) (λ x. x)
seen_by z r r' s choice l a l' b h i k = seen_kept h i l'.activity tt refl (ap (λ g. g.looked) h.log) (ap (λ g. g.ids) h.log) (ap (λ g. g.read) h.log) (λ x. x)

-- Gathering.

-- a reader that has looked at the first entry reads
looked_reading : (a : Activity) → HasLooked a → IsReading a
looked_reading (Activity.Look (Look.Entry i)) x = x
looked_reading (Activity.Look _) x = tt
looked_reading (Activity.Rebalance (Rebalance.Seek Seek.Next)) x = absurd x
looked_reading _ x = absurd x

-- a reader that looks on has gathered nothing
gathers_none : (z : Sizes) (h : History) (o : Origins) (j : ℕ) (next : Activity) (l : Local) (g : SeatLog) → NextLook z j next → l.gathered ≡ [] → g.ids ≡ [] → Gathers h o next l g
gathers_none z h o j _ l g (looks w) e f = record { empty = λ x. e; no_ids = λ x. f; taking = λ x. absurd x; kept = λ x. absurd x }
gathers_none z h o j _ l g (lists w) e f = record { empty = λ x. absurd x; no_ids = λ x. absurd x; taking = λ x. rw (e, f) tt; kept = λ x q y. rw (e, f) tt }

-- a reader that has seen an entry has gathered nothing
gathers_saw : (h : History) (o : Origins) (c : Activity) (l : Local) (g : SeatLog) → l.gathered ≡ [] → g.ids ≡ [] → (IsTaking c → ⊥) → (IsKeeping c → ⊥) → Gathers h o c l g
gathers_saw h o c l g e f n m = record { empty = λ x. e; no_ids = λ x. f; taking = λ x. absurd (n x); kept = λ x. absurd (m x) }

-- a reader has a cell in hand
gathers_hand : (h : History) (o : Origins) (c : Activity) (l : Local) (g : SeatLog) → AreCopies h o l.row l.call l.gathered g.ids → g.read ≡ None → (IsLooking c → ⊥) → (HasLooked c → ⊥) → Gathers h o c l g
gathers_hand h u c l g m f n o = record { empty = λ x. absurd (n x); no_ids = λ x. absurd (o x); taking = λ x. m; kept = λ x q e. let y : None ≡ Some q = sym f ∙ e in absurd (cc) }

-- the copies before a cell is read
module _ {z : Sizes} {r r' : Run} {s : ℕ} {choice : Choice} {l l' : Local} {a : Activity} (h : Happens z r r' s choice l l' a) (i : Inv z r) where
  -- those that were gathered are copies still
  copies_kept : IsTaking a → AreCopies r'.history r'.origin l.row l.call l.gathered (r.seats s).ids
  copies_kept x = copies_last (goes h i) l.row (row_linked h i (taking_reads a x)) l.call l.gathered (r.seats s).ids ((gathered_before h i).taking x)

-- the cell in hand
abbrev in_hand : Sizes → Run → Local → kw_cell.Cell
in_hand z r l = cell_in_hand (value_of_word (word z r.world (name.Value l.row l.place))) l

-- the cell that is gathered stands for its attempt, which is put beside it
module _ {z : Sizes} {r r' : Run} {s : ℕ} {choice : Choice} {l l' : Local} {a : Activity} (h : Happens z r r' s choice l l' a) (i : Inv z r) (k : Below z r') (x : IsTaking a) (v : HasVersion a) (u : HasCellKey a) (p : HasPlace a) (w : word z r'.world (name.Value l.row l.place) ≡ word z r.world (name.Value l.row l.place)) where
  hand : IsInHand r.history r.origin a l
  hand = (cells_before h i x).hand p

  origin : r'.origin l.row l.place ≡ Some hand.put
  origin = (goes h i).origin l.row l.place hand.put (row_linked h i (taking_reads a x)) hand.origin

  stamped : IsPut r'.history hand.put × ((attempt r'.history hand.put).version ≡ (attempt r.history hand.put).version)
  stamped = stamped_lasts (goes h i) hand.put hand.stamped

  copy : IsCopyOf r'.history r'.origin l.row l.call (in_hand z r l) hand.put
  copy = record {
    within = in_range r'.history hand.put stamped.0;
    stamped = stamped.0;
    origin = origin;
    key = (stamped_same (goes h i) hand.put hand.stamped).key ∙ hand.key u;
    version = stamped.1 ∙ hand.version v;
    value = sym (value_stands k l.row l.place hand.put (row_linked_on h i (taking_reads a x)) (place_below h i) origin stamped.0) ∙ ap value_of_word w;
    in_range = hand.in_range u;
  }

  -- at the place where the cell is put
  copies_more : Apart z (list_in (word z r.world) r.listed l.row) a l → has_place l.place l.gathered ≡ false → is_marked l.place l.remembered ≡ false →
      AreCopies r'.history r'.origin l.row l.call (gathering z (value_of_word (word z r.world (name.Value l.row l.place))) l).gathered (insert (r.seats s).ids (index_in (in_hand z r l) l.gathered) (unwrap_or (r.origin l.row l.place) 0))
  copies_more apart fresh free = rw (gather_is z _ a l (value_of_word (word z r.world (name.Value l.row l.place))) apart (place_below h i) fresh free, hand.origin) (zip_insert (IsCopyOf r'.history r'.origin l.row l.call) l.gathered (r.seats s).ids (index_in (in_hand z r l) l.gathered) (in_hand z r l) hand.put (copies_kept h i x) copy)

-- what the acting seat has gathered
pub gathers_by : (z : Sizes) (r r' : Run) (s : ℕ) (choice : Choice) (l : Local) (a : Activity) (l' : Local) → Arrow z (word z r.world) s choice l a l' → Happens z r r' s choice l l' a → Inv z r → Below z r' → Gathers r'.history r'.origin l'.activity l' (r'.seats s)
gathers_by z r r' s choice l (Activity.Rebalance b) l' x h i k =
    let g = rebalance_log b h in
    let n = rebalance_goes z (word z r.world) s choice l b l' x in
    gathers_kept h i l'.activity tt n.call n.gathered g.ids g.read (λ u. after_rests l'.activity n.next (inl u)) (λ u. after_reading l'.activity n.next (looked_reading l'.activity u)) (λ u. after_rests l'.activity n.next (inr u))
gathers_by z r r' s choice l a l' (builds b next y t) h i k = absurd y
gathers_by z r r' s choice l a l' (asks_of_pin next o n) h i k = no_call_of_pin _ h i.shape o
gathers_by z r r' s choice l _ _ (begins call e b) h i k = record { empty = λ x. absurd x; no_ids = λ x. absurd x; taking = λ x. absurd x; kept = λ x q f. let y : None ≡ Some q = sym (ap (λ g. g.read) h.log ∙ ap (λ c. (log_begun c (length r.history.calls) (r.seats s)).read) e) ∙ f in absurd (cc) }
gathers_by z r r' s choice l _ _ (reads_last f n) h i k = record { empty = λ x. refl; no_ids = λ x. absurd (omega (arith, x)); taking = λ x. absurd x; kept = λ x. absurd x }
gathers_by z r r' s choice l _ _ (reads_before f w) h i k = record { empty = λ x. refl; no_ids = λ x. absurd (omega (arith, x)); taking = λ x. absurd x; kept = λ x. absurd x }
gathers_by z r r' s choice l _ _ (sees_pending j c e) h i k = gathers_saw r'.history r'.origin (Activity.Look Look.Key) _ (r'.seats s) ((gathered_before h i).empty tt) (ap (λ g. g.ids) h.log ∙ look_empty j (length r.history.log) (r.seats s) (gathered_before h i).no_ids) (λ x. x) (λ x. x)
gathers_by z r r' s choice l _ _ (sees_stamped j c version next e n) h i k = gathers_none z r'.history r'.origin (j + 1) next _ (r'.seats s) n ((gathered_before h i).empty tt) (ap (λ g. g.ids) h.log ∙ look_empty j (length r.history.log) (r.seats s) (gathered_before h i).no_ids)
gathers_by z r r' s choice l _ _ (sees_neither j next e n) h i k = gathers_none z r'.history r'.origin (j + 1) next _ (r'.seats s) n ((gathered_before h i).empty tt) (ap (λ g. g.ids) h.log ∙ look_empty j (length r.history.log) (r.seats s) (gathered_before h i).no_ids)
gathers_by z r r' s choice l _ _ (is_wanted e) h i k = gathers_saw r'.history r'.origin (Activity.Look Look.Clock) _ (r'.seats s) ((gathered_before h i).empty tt) (ap (λ g. g.ids) h.log ∙ (gathered_before h i).no_ids tt) (λ x. x) (λ x. x)
gathers_by z r r' s choice l _ _ (is_gone_by next e n) h i k = gathers_none z r'.history r'.origin (l.looked + 1) next _ (r'.seats s) n ((gathered_before h i).empty tt) (ap (λ g. g.ids) h.log ∙ (gathered_before h i).no_ids tt)
gathers_by z r r' s choice l _ _ loads_to_help h i k = gathers_saw r'.history r'.origin (Activity.Look Look.Help) _ (r'.seats s) ((gathered_before h i).empty tt) (ap (λ g. g.ids) h.log ∙ (gathered_before h i).no_ids tt) (λ x. x) (λ x. x)
gathers_by z r r' s choice l _ _ (helps next e n) h i k = gathers_none z r'.history r'.origin (l.looked + 1) next _ (r'.seats s) n ((gathered_before h i).empty tt) (ap (λ g. g.ids) h.log ∙ (gathered_before h i).no_ids tt)
gathers_by z r r' s choice l _ _ (finds_stamped c version next e n) h i k = gathers_none z r'.history r'.origin (l.looked + 1) next _ (r'.seats s) n ((gathered_before h i).empty tt) (ap (λ g. g.ids) h.log ∙ (gathered_before h i).no_ids tt)
gathers_by z r r' s choice l _ _ (finds_other next e n) h i k = gathers_none z r'.history r'.origin (l.looked + 1) next _ (r'.seats s) n ((gathered_before h i).empty tt) (ap (λ g. g.ids) h.log ∙ (gathered_before h i).no_ids tt)
gathers_by z r r' s choice l _ _ (first_leads c e) h i k = gathers_hand r'.history r'.origin (Activity.Read Read.Key) _ (r'.seats s) (subst (λ x. AreCopies r'.history r'.origin l.row l.call l.gathered x) (sym (ap (λ g. g.ids) h.log)) (copies_kept h i tt)) (ap (λ g. g.read) h.log ∙ unread_before h i tt) (λ x. x) (λ x. x)
gathers_by z r r' s choice l _ _ (list_leads c e) h i k = gathers_hand r'.history r'.origin (Activity.Read Read.Key) _ (r'.seats s) (subst (λ x. AreCopies r'.history r'.origin l.row l.call l.gathered x) (sym (ap (λ g. g.ids) h.log)) (copies_kept h i tt)) (ap (λ g. g.read) h.log ∙ unread_before h i tt) (λ x. x) (λ x. x)
gathers_by z r r' s choice l _ _ (first_ends next e n) h i k = subst (Gathers r'.history r'.origin next.activity next) (sym h.log) (copies_next r'.history r'.origin l next (r.seats s) n (copies_kept h i tt) (unread_before h i tt))
gathers_by z r r' s choice l _ _ (list_ends next e n) h i k = subst (Gathers r'.history r'.origin next.activity next) (sym h.log) (copies_next r'.history r'.origin l next (r.seats s) n (copies_kept h i tt) (unread_before h i tt))
gathers_by z r r' s choice l _ _ (begins_behind guess inside e) h i k = gathers_hand r'.history r'.origin (Activity.Read Read.Link) _ (r'.seats s) (subst (λ x. AreCopies r'.history r'.origin l.row l.call l.gathered x) (sym (ap (λ g. g.ids) h.log)) (copies_kept h i tt)) (ap (λ g. g.read) h.log ∙ unread_before h i tt) (λ x. x) (λ x. x)
gathers_by z r r' s choice l _ _ (begins_at_first guess e) h i k = gathers_hand r'.history r'.origin (Activity.Read Read.Link) _ (r'.seats s) (subst (λ x. AreCopies r'.history r'.origin l.row l.call l.gathered x) (sym (ap (λ g. g.ids) h.log)) (copies_kept h i tt)) (ap (λ g. g.read) h.log ∙ unread_before h i tt) (λ x. x) (λ x. x)
gathers_by z r r' s choice l _ _ (key_below e) h i k = gathers_hand r'.history r'.origin (Activity.Read Read.Link) _ (r'.seats s) (subst (λ x. AreCopies r'.history r'.origin l.row l.call l.gathered x) (sym (ap (λ g. g.ids) h.log)) (copies_kept h i tt)) (ap (λ g. g.read) h.log ∙ unread_before h i tt) (λ x. x) (λ x. x)
gathers_by z r r' s choice l _ _ (key_within e w) h i k = gathers_hand r'.history r'.origin (Activity.Read Read.Version) _ (r'.seats s) (subst (λ x. AreCopies r'.history r'.origin l.row l.call l.gathered x) (sym (ap (λ g. g.ids) h.log)) (copies_kept h i tt)) (ap (λ g. g.read) h.log ∙ unread_before h i tt) (λ x. x) (λ x. x)
gathers_by z r r' s choice l _ _ (key_above next e n) h i k = subst (Gathers r'.history r'.origin next.activity next) (sym h.log) (copies_next r'.history r'.origin l next (r.seats s) n (copies_kept h i tt) (unread_before h i tt))
gathers_by z r r' s choice l _ _ loads_version h i k = gathers_hand r'.history r'.origin (Activity.Read Read.Value) _ (r'.seats s) (subst (λ x. AreCopies r'.history r'.origin l.row l.call l.gathered x) (sym (ap (λ g. g.ids) h.log)) (copies_kept h i tt)) (ap (λ g. g.read) h.log ∙ unread_before h i tt) (λ x. x) (λ x. x)
gathers_by z r r' s choice l _ _ gathers_listed h i k = gathers_hand r'.history r'.origin (Activity.Read Read.Link) _ (r'.seats s) (subst (λ x. AreCopies r'.history r'.origin l.row l.call (gathering z (value_of_word (word z r.world (name.Value l.row l.place))) l).gathered x) (sym (ap (λ g. g.ids) h.log)) (let x = apart_before h i tt in copies_more h i k tt tt tt tt (h.changed.loaded refl (name.Value l.row l.place)) x (hand_fresh z _ l (walks_before h i) x) (x.hand tt))) (ap (λ g. g.read) h.log ∙ unread_before h i tt) (λ x. x) (λ x. x)
gathers_by z r r' s choice l _ _ (left_over_wanted e) h i k = gathers_hand r'.history r'.origin (Activity.Read Read.LeftOverValue) _ (r'.seats s) (subst (λ x. AreCopies r'.history r'.origin l.row l.call l.gathered x) (sym (ap (λ g. g.ids) h.log)) (copies_kept h i tt)) (ap (λ g. g.read) h.log ∙ unread_before h i tt) (λ x. x) (λ x. x)
gathers_by z r r' s choice l _ _ (left_over_gone_by next e n) h i k = subst (Gathers r'.history r'.origin next.activity next) (sym h.log) (copies_next r'.history r'.origin l next (r.seats s) n (copies_kept h i tt) (unread_before h i tt))
gathers_by z r r' s choice l _ _ (gathers_left_over next n) h i k = subst (Gathers r'.history r'.origin next.activity next) (sym h.log) (copies_next r'.history r'.origin _ next _ n (let x = apart_before h i tt in copies_more h i k tt tt tt tt (h.changed.loaded refl (name.Value l.row l.place)) x (x.fresh tt) (x.hand tt)) (unread_before h i tt))
gathers_by z r r' s choice l _ _ (takes_cell e) h i k = gathers_kept h i (Activity.Put Put.Key) tt refl refl (ap (λ g. g.ids) h.log ∙ added_same (λ g. g.ids) _ (r.seats s) _ refl) (ap (λ g. g.read) h.log ∙ added_same (λ g. g.read) _ (r.seats s) _ refl) (λ x. x) (λ x. x) (λ x. x)
gathers_by z r r' s choice l _ _ (takes_full e) h i k = gathers_kept h i _ tt refl refl (ap (λ g. g.ids) h.log ∙ added_same (λ g. g.ids) _ (r.seats s) _ refl) (ap (λ g. g.read) h.log ∙ added_same (λ g. g.read) _ (r.seats s) _ refl) (λ x. x) (λ x. x) (λ x. x)
gathers_by z r r' s choice l _ _ (leaves answer) h i k = record { empty = λ x. absurd x; no_ids = λ x. absurd x; taking = λ x. absurd x; kept = λ x. absurd x }
gathers_by z r r' s choice l _ _ (settles_empty e) h i k = gathers_kept h i _ tt refl refl (ap (λ g. g.ids) h.log ∙ settled_same (λ g. g.ids) l.waiting _ (r.settled s) (r.seats s) refl) (ap (λ g. g.read) h.log ∙ settled_same (λ g. g.read) l.waiting _ (r.settled s) (r.seats s) refl) (λ x. x) (λ x. x) (λ x. x)
gathers_by z r r' s choice l _ _ (settles e) h i k = gathers_kept h i _ tt refl refl (ap (λ g. g.ids) h.log ∙ settled_same (λ g. g.ids) l.waiting _ (r.settled s) (r.seats s) refl) (ap (λ g. g.read) h.log ∙ settled_same (λ g. g.read) l.waiting _ (r.settled s) (r.seats s) refl) (λ x. x) (λ x. x) (λ x. x)
gathers_by z r r' s choice l _ _ (settles_pin e) h i k = gathers_kept h i _ tt refl refl (ap (λ g. g.ids) h.log ∙ settled_same (λ g. g.ids) l.waiting _ (r.settled s) (r.seats s) refl) (ap (λ g. g.read) h.log ∙ settled_same (λ g. g.read) l.waiting _ (r.settled s) (r.seats s) refl) (λ x. x) (λ x. x) (λ x. x)
gathers_by z r r' s choice l a l' b h i k = gathers_kept h i l'.activity tt refl refl (ap (λ g. g.ids) h.log) (ap (λ g. g.read) h.log) (λ x. x) (λ x. x) (λ x. x)

-- Rows that were read.

-- a seat that has read one cell more goes on to a cell, or has read its row
read_is : (next : Activity) (row q : ℕ) (g : SeatLog) → (log_read next row g).read ≡ Some q → (g.read ≡ Some q) ⊎ (row ≡ q)
read_is next row q g e = which (is_at_cell next) e
  where
    which : (b : Bool) → (let x : SeatLog = if b then g else record g { read = Some row } in x).read ≡ Some q → (g.read ≡ Some q) ⊎ (row ≡ q)
    which true x = inl x
    which false x = inr (same_Some row q x)

-- a reader at its row is in its visit, and its call is a get or a scan
reader_is : (a : Activity) (l : Local) → IsAtRead a → IsKind a l → IsVisiting a × IsReadCall l.call
reader_is (Activity.Look _) l x k = (tt, k)
reader_is (Activity.Read _) l x k = (tt, k)
reader_is _ l x k = absurd x

-- no call that reads is a put or a delete
reads_or_puts : (c : Option Call) → IsReadCall c → IsPutCall c → ⊥
reads_or_puts (Some (Get key)) x y = y
reads_or_puts (Some (Scan from upto)) x y = y
reads_or_puts _ x y = x

-- a seat in its visit whose event does not end it is in its call
visiting_underway : (a : Activity) → IsVisiting a → (WritesPass a → ⊥) → IsUnderway a
visiting_underway Activity.Idle p n = absurd p
visiting_underway (Activity.Leave answer) p n = n tt
visiting_underway _ p n = tt

-- a call that reads ends its visit only where it ends: a put alone tries again
read_goes_on : (z : Sizes) (v : Words) (s : ℕ) (choice : Choice) (l : Local) (a : Activity) (k : Local) → Arrow z v s choice l a k → IsReadCall l.call → IsKind a l → IsVisiting a → IsKeeping k.activity → WritesPass a → ⊥
read_goes_on z v s choice l a k (builds b next y t) c u p n w = built_pass b y w
read_goes_on z v s choice l a k (enters e) c u p n w = p
read_goes_on z v s choice l a k (enters_scan e) c u p n w = p
read_goes_on z v s choice l a k (asks_of_pin next o m) c u p n w = p
read_goes_on z v s choice l a k (leaves answer) c u p n w = n
read_goes_on z v s choice l a k retries c u p n w = reads_or_puts l.call c u
read_goes_on z v s choice l a k b c u p n w = w

-- a call that begins has read no row
begun_unread : {A : Type 0} (choice : Choice) (call q : ℕ) (g : SeatLog) → is_skipped Activity.Idle choice ≡ false → (log_begun choice call g).read ≡ Some q → A
begun_unread (Begin c) call q g b e = let y : None ≡ Some q = e in absurd (cc)
begun_unread Go call q g b e = let y : true ≡ false = b in absurd (cc)
begun_unread (Guess n) call q g b e = let y : true ≡ false = b in absurd (cc)
begun_unread Stop call q g b e = let y : true ≡ false = b in absurd (cc)

module _ {z : Sizes} {r r' : Run} {s : ℕ} {choice : Choice} {l l' : Local} where
  -- the row that the seat has read was read before, or is the one that it has just read
  read_was : (a : Activity) → Happens z r r' s choice l l' a → Inv z r → (q : ℕ) → (r'.seats s).read ≡ Some q → IsKeeping a × ((r.seats s).read ≡ Some q) ⊎ IsAtRead a × (l.row ≡ q)
  read_was Activity.Idle h i q e = begun_unread choice (length r.history.calls) q (r.seats s) h.moves (sym (ap (λ g. g.read) h.log) ∙ e)
  read_was (Activity.Look (Look.Entry j)) h i q e = let y : None ≡ Some q = sym (ap (λ g. g.read) h.log ∙ look_unread j (length r.history.log) (r.seats s) (unread_before h i)) ∙ e in absurd (cc)
  read_was (Activity.Look _) h i q e = let y : None ≡ Some q = sym (ap (λ g. g.read) h.log ∙ unread_before h i tt) ∙ e in absurd (cc)
  read_was (Activity.Read Read.Start) h i q e = at_end (read_is l'.activity l.row q (r.seats s) (sym (ap (λ g. g.read) h.log) ∙ e))
    where
      at_end : ((r.seats s).read ≡ Some q) ⊎ (l.row ≡ q) → IsKeeping (Activity.Read Read.Start) × ((r.seats s).read ≡ Some q) ⊎ IsAtRead (Activity.Read Read.Start) × (l.row ≡ q)
      at_end (inl x) = inl (tt, x)
      at_end (inr x) = inr (tt, x)
  read_was (Activity.Read Read.Link) h i q e = at_end (read_is l'.activity l.row q (r.seats s) (sym (ap (λ g. g.read) h.log) ∙ e))
    where
      at_end : ((r.seats s).read ≡ Some q) ⊎ (l.row ≡ q) → IsKeeping (Activity.Read Read.Link) × ((r.seats s).read ≡ Some q) ⊎ IsAtRead (Activity.Read Read.Link) × (l.row ≡ q)
      at_end (inl x) = inl (tt, x)
      at_end (inr x) = inr (tt, x)
  read_was (Activity.Read Read.Key) h i q e = at_end (read_is l'.activity l.row q (r.seats s) (sym (ap (λ g. g.read) h.log) ∙ e))
    where
      at_end : ((r.seats s).read ≡ Some q) ⊎ (l.row ≡ q) → IsKeeping (Activity.Read Read.Key) × ((r.seats s).read ≡ Some q) ⊎ IsAtRead (Activity.Read Read.Key) × (l.row ≡ q)
      at_end (inl x) = inl (tt, x)
      at_end (inr x) = inr (tt, x)
  read_was (Activity.Read Read.LeftOverKey) h i q e = at_end (read_is l'.activity l.row q (r.seats s) (sym (ap (λ g. g.read) h.log) ∙ e))
    where
      at_end : ((r.seats s).read ≡ Some q) ⊎ (l.row ≡ q) → IsKeeping (Activity.Read Read.LeftOverKey) × ((r.seats s).read ≡ Some q) ⊎ IsAtRead (Activity.Read Read.LeftOverKey) × (l.row ≡ q)
      at_end (inl x) = inl (tt, x)
      at_end (inr x) = inr (tt, x)
  read_was (Activity.Read Read.LeftOverValue) h i q e = at_end (read_is l'.activity l.row q (log_gathered (r.origin l.row l.place) (index_gathered l (word z r.world (name.Value l.row l.place))) (r.seats s)) (sym (ap (λ g. g.read) h.log) ∙ e))
    where
      at_end : ((r.seats s).read ≡ Some q) ⊎ (l.row ≡ q) → IsKeeping (Activity.Read Read.LeftOverValue) × ((r.seats s).read ≡ Some q) ⊎ IsAtRead (Activity.Read Read.LeftOverValue) × (l.row ≡ q)
      at_end (inl x) = inl (tt, x)
      at_end (inr x) = inr (tt, x)
  read_was (Activity.Draw Draw.Settle) h i q e = inl (tt, sym (ap (λ g. g.read) h.log ∙ settled_same (λ g. g.read) l.waiting _ (r.settled s) (r.seats s) refl) ∙ e)
  read_was (Activity.Put Put.Add) h i q e = inl (tt, sym (ap (λ g. g.read) h.log ∙ added_same (λ g. g.read) _ (r.seats s) _ refl) ∙ e)
  read_was (Activity.Enter Enter.Announce) h i q e = inl (tt, sym (ap (λ g. g.read) h.log) ∙ e)
  read_was (Activity.Walk Walk.First) h i q e = inl (tt, sym (ap (λ g. g.read) h.log) ∙ e)
  read_was (Activity.Insert Insert.Link) h i q e = inl (tt, sym (ap (λ g. g.read) h.log) ∙ e)
  read_was (Activity.Rebalance (Rebalance.Engage Engage.Clock)) h i q e = inl (tt, sym (ap (λ g. g.read) h.log) ∙ e)
  read_was (Activity.Rebalance (Rebalance.Freeze Freeze.Count)) h i q e = inl (tt, sym (ap (λ g. g.read) h.log) ∙ e)
  read_was (Activity.Rebalance (Rebalance.Gather Gather.Link)) h i q e = inl (tt, sym (ap (λ g. g.read) h.log) ∙ e)
  read_was (Activity.Rebalance (Rebalance.Seek Seek.Next)) h i q e = inl (tt, sym (ap (λ g. g.read) h.log) ∙ e)
  read_was (Activity.Rebalance (Rebalance.Write Write.Count)) h i q e = inl (tt, sym (ap (λ g. g.read) h.log) ∙ e)
  read_was (Activity.Rebalance (Rebalance.Replace Replace.First)) h i q e = inl (tt, sym (ap (λ g. g.read) h.log) ∙ e)
  read_was a h i q e = inl (tt, sym (ap (λ g. g.read) h.log) ∙ e)

  -- before the event it was one that the seat might name, in its visit and for a call that reads
  read_before : (a : Activity) → Happens z r r' s choice l l' a → Inv z r → (q : ℕ) → IsKeeping a × ((r.seats s).read ≡ Some q) ⊎ IsAtRead a × (l.row ≡ q) → IsReadRow r.ledger.rows s a l q
  read_before a h i q (inl x) = subst (λ b. IsReadRow r.ledger.rows s b l q) h.activity (i.readers.read s l h.knows (subst IsKeeping (sym h.activity) x.0) q x.1)
  read_before a h i q (inr x) =
      let y = reader_is a l x.0 (subst (λ b. IsKind b l) h.activity (i.shape.kinds s l h.knows).kind) in
      record { call = y.1; visiting = y.0; fresh = subst (IsFresh r.ledger.rows s) x.1 (row_fresh h i x.0) }

  -- and so it is after it
  pub read_by : (a : Activity) → Happens z r r' s choice l l' a → Inv z r → Below z r' → IsKeeping l'.activity → (q : ℕ) → (r'.seats s).read ≡ Some q → IsReadRow r'.ledger.rows s l'.activity l' q
  read_by a h i k n q e = record {
    call = subst IsReadCall (sym (arrow_call z (word z r.world) s choice l a l' h.arrow (visiting_underway a was.visiting goes_on)).0) was.call;
    visiting = visiting (is_visiting l'.activity);
    fresh = (own_rely z r r' s choice l a l' h i.shape was.visiting goes_on).fresh q was.fresh;
  }
    where
      was : IsReadRow r.ledger.rows s a l q
      was = read_before a h i q (read_was a h i q e)

      goes_on : WritesPass a → ⊥
      goes_on = read_goes_on z (word z r.world) s choice l a l' h.arrow was.call (subst (λ b. IsKind b l) h.activity (i.shape.kinds s l h.knows).kind) was.visiting n

      visiting : IsVisiting l'.activity ⊎ (IsVisiting l'.activity → ⊥) → IsVisiting l'.activity
      visiting (inl x) = x
      visiting (inr d) =
          let p = (subst (λ b. Visits (word z r.world) r.ledger.rows s b l) h.activity (i.shape.visits s l h.knows)).in_visit was.visiting in
          let x : None ≡ Some p.since = sym ((k.shape.visits s l' (knows_next h)).in_none d).visits ∙ others_stay a h s (λ w f. goes_on w) ∙ p.visits in
          absurd (cc)
