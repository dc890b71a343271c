-- The pairs of a scan and the answer of a get over the seat's own event: they grow where a row has
-- been read to its end.
use Rattle.std.proofs.Common.{ℕ, ◌≡◌, ◌⊎◌, inl, inr, ◌+◌, ◌<◌, ◌≤◌, true, false, Option, Some, None, List, [], ◌++◌, arith, refl, sym, ◌∙◌, ap, subst, length}
use Rattle.kw_cells.specs.Cells.{shown_at, pairs_of}
use Rattle.kw_world.proofs.Replies.{reply_of-found}
use Rattle.kw_model.specs.declared.call.Call.{Call}
use Rattle.kw_model.specs.declared.call.Call.TheVariants.{Put, Del, Get, Scan, Pin, ScanAt, Unpin}
use Rattle.kw_world.specs.declared.answer.Answer.TheVariants.{Done, Value, Absent, Pairs, NoRows, Spent, Stopped, Held, NotPinned}
use Rattle.kw_world.specs.declared.answer.Answer.{Answer}
use Rattle.kw_world.specs.Answers.{answer_found}
use Rattle.kw_world.specs.declared.activity.Activity.{Activity}
use Rattle.kw_world.specs.declared.activity.draw.Draw.TheVariants as Draw
use Rattle.kw_world.specs.declared.activity.read.Read.TheVariants as Read
use Rattle.kw_world.specs.declared.activity.walk.Walk.TheVariants as Walk
use Rattle.kw_world.specs.declared.local.Local.{Local}
use Rattle.kw_world.specs.declared.limits.TheConstants.{NEWEST}
use Rattle.kw_world.specs.declared.event.Choice.{Choice}
use Rattle.kw_world.specs.declared.event.Choice.TheVariants.{Begin, Go, Guess, Stop}
use Rattle.kw_world.specs.Sizes.{Sizes}
use Rattle.kw_world.specs.Calls.{first_key, last_key, is_scan, is_range_empty}
use Rattle.kw_world.specs.ScanTransitions.{answer_or_stopped}
use Rattle.kw_world.specs.Step.{word}
use Rattle.kw_core.specs.Grows.{Grows}
use Rattle.kw_core.specs.History.{History, called}
use Rattle.kw_core.specs.Run.{Run, is_at_cell, best_id}
use Rattle.kw_core.specs.declared.seat_log.SeatLog.{SeatLog}
use Rattle.kw_core.specs.Stages.{IsAtRow, IsVisiting, IsPastStart, IsCovering, IsEarly, IsReading, IsKeeping, IsSettling, IsUnderway}
use Rattle.kw_core.specs.Words.{Words, least_in}
use Rattle.kw_shape.specs.Shape.{IsAtItsRow, IsPutCall, IsScanCall}
use Rattle.kw_reads.specs.Readers.{AreCopies, IsDue, Readers}
use Rattle.kw_reads.specs.Replies.{AnswersGet, Covers, HasPairs, IsCovered, IsAnswered}
use Rattle.kw_core.proofs.Lasts.{scan_lasts}
use Rattle.kw_reads.proofs.Relying.{goes_on_by}
use Rattle.kw_core.proofs.Frame.{WritesPass}
use Rattle.kw_rows.specs.Ledger.{Ledger}
use Rattle.kw_shape.proofs.RelyRows.{row_stable}
use Rattle.kw_shape.proofs.RowsKeep.{own_rely}
use Rattle.kw_core.proofs.Happens.{Happens, knows_next}
use Rattle.kw_core.proofs.Arrows.{NextLeftOver, goes_to_left_over, answers, ends_scan, scans_on, Arrow, not_below, below}
use Rattle.kw_core.proofs.SeatLogs.{IsEnding, read_to_end}
use Rattle.kw_shape.proofs.NextCalls.{arrow_call}
use Rattle.kw_puts.proofs.OwnScans.{call_first, drawn_kept, looked_kept, was_scan, drawn_underway, not_idle_drawn, covering_draws, settled_from, covering_settled, draws_no_more, reading_draws}
use Rattle.kw_puts.proofs.Owners.{true_false}
use Rattle.kw_reads.specs.Contents.{Contents, floor_of, version_of}
use Rattle.kw_reads.proofs.EndOfRow.{in_range_of, get_known, row_covers}
use Rattle.kw_reads.proofs.FrontsKeep.{front_after}
use Rattle.kw_reads.proofs.ReadsRow.{HasReadRow}
use Rattle.kw_core.specs.Step.{Step}
use Rattle.kw_core.proofs.Happens.{log_entry}
use Rattle.kw_reads.specs.Inv.{lower}
use Rattle.kw_reads.proofs.HistoryKeeps.{history_step}
use Rattle.kw_reads.proofs.ReadersKeep.{Before}
use Rattle.kw_shape.proofs.AfterBuilding.{kind_at}

-- what a scan gave lasts
pub covers_last : (h h' : History) (from version drawn bound : ℕ) (pairs : List (ℕ × ℕ)) → Grows h h' (length h.log) → drawn ≤ length h.log → Covers h from version drawn bound pairs → Covers h' from version drawn bound pairs
covers_last h h' from version drawn bound pairs g b c = record {
  rises = c.rises;
  keys = λ key w u. let x = c.keys key w u in (x.0, scan_lasts h h' (length h.log) key version drawn pairs x.0 g b x.1);
}

-- Where a row ends.

-- the stages of a seat that may be at the end of a row
ending_reads : (a : Activity) → IsEnding a → IsReading a × IsCovering a × IsAtRow a × IsPastStart a × IsUnderway a
ending_reads (Activity.Read Read.Start) x = (tt, tt, tt, tt, tt)
ending_reads (Activity.Read Read.Link) x = (tt, tt, tt, tt, tt)
ending_reads (Activity.Read Read.Key) x = (tt, tt, tt, tt, tt)
ending_reads (Activity.Read Read.LeftOverKey) x = (tt, tt, tt, tt, tt)
ending_reads (Activity.Read Read.LeftOverValue) x = (tt, tt, tt, tt, tt)
ending_reads _ x = absurd x

-- a seat that has read one more word of its row: what it knows of its call, its row and its pairs
-- is as it was
pub record SameRead (l m : Local) : Type 0 where
  pub call : m.call ≡ l.call
  pub row : m.row ≡ l.row
  pub want : m.want ≡ l.want
  pub next : m.next ≡ l.next
  pub upper : m.upper ≡ l.upper
  pub version : m.version ≡ l.version
  pub pairs : m.pairs ≡ l.pairs

-- it goes on with all that it has gathered, and not to a cell
record EndedAs (m k : Local) : Type 0 where
  call : k.call ≡ m.call
  gathered : k.gathered ≡ m.gathered
  keeping : IsKeeping k.activity
  no_cell : is_at_cell k.activity ≡ false

-- it is at its row as before
same_at : (v : Words) (g : Ledger) (t : ℕ) (l m : Local) → SameRead l m → IsAtItsRow v g t l → IsAtItsRow v g t m
same_at v g t l m q x = record {
  fresh = rw q.row x.fresh;
  from = rw (q.row, q.want) x.from;
  last = λ e. rw q.row (x.last (sym q.next ∙ e));
  next = λ n e.
      let k = x.next n (sym q.next ∙ e) in
      record { fresh = k.fresh; least = q.upper ∙ k.least; ends = rw (q.row, q.upper) k.ends; below = rw (q.want, q.upper) k.below };
}

-- a reader at the end of its row is in its visit
ending_visits : (a : Activity) → IsEnding a → IsVisiting a × (WritesPass a → ⊥)
ending_visits (Activity.Read Read.Start) x = (tt, λ y. y)
ending_visits (Activity.Read Read.Link) x = (tt, λ y. y)
ending_visits (Activity.Read Read.Key) x = (tt, λ y. y)
ending_visits (Activity.Read Read.LeftOverKey) x = (tt, λ y. y)
ending_visits (Activity.Read Read.LeftOverValue) x = (tt, λ y. y)
ending_visits _ x = absurd x

module _ (z : Sizes) (r r' : Run) (s : ℕ) (choice : Choice) (l : Local) (a : Activity) (l' : Local) (b : Arrow z (word z r.world) s choice l a l') (h : Happens z r r' s choice l l' a) (i : Before z r r') where
  -- the event of the record
  step : Step r.history r'.history (log_entry z r a s choice l)
  step = history_step z r r' s choice l a l' h i.inv

  -- what held of the pairs before the event
  before : HasPairs r.history l.activity l (r.seats s)
  before = i.inv.replies.pairs s l h.knows

  -- it was at its row, and is so with the words after the event
  at_row : IsEnding a → IsAtItsRow (word z r'.world) r'.ledger.rows s l
  at_row x =
      let p = ending_visits a x in
      row_stable _ _ _ _ s (own_rely z r r' s choice l a l' h i.inv.shape p.0 p.1) l ((i.inv.shape.walks s l h.knows).at (subst IsAtRow (sym h.activity) (ending_reads a x).2))

  -- the row that a reader has read
  read_row : Readers z r' → IsEnding a → (m : Local) → SameRead l m → EndedAs m l' → HasReadRow z r' s m (r'.seats s) (version_of m) (floor_of r' s m)
  read_row n x m q e =
      let read : (r'.seats s).read ≡ Some m.row = ap (λ (g : SeatLog). g.read) h.log ∙ read_to_end z choice l _ l'.activity (r.seats s) r.origin r.history (r.settled s) a x e.no_cell ∙ ap Some (sym q.row) in
      record {
        at = same_at (word z r'.world) r'.ledger.rows s l m q (at_row x);
        within = n.within;
        copies = subst (λ c. AreCopies r'.history r'.origin m.row c m.gathered (r'.seats s).ids) e.call (subst (λ c. AreCopies r'.history r'.origin m.row l'.call c (r'.seats s).ids) e.gathered ((n.gathers s l' (knows_next h)).kept e.keeping m.row read));
        taken = λ c p d. (n.seen s l' (knows_next h)).taken e.keeping m.row read c p (subst (λ u. IsDue r'.history r'.origin m.row u (r'.seats s).looked c p) (sym e.call) d);
        front = front_after z r r' s choice l a l' h i.inv i.inv.contents (ending_reads a x).0 m q.row q.call q.version;
      }

  -- the pairs of the rows before it
  old_covers : IsCovering a → is_scan l.call ≡ true → Covers r'.history (first_key l.call) l.version (r'.seats s).drawn l.want l.pairs
  old_covers c e = subst (λ d. Covers r'.history (first_key l.call) l.version d l.want l.pairs) (sym (drawn_kept z r r' s choice l a l' b h (lower i.inv) step (draws_no_more a (covering_draws a c))))
      (covers_last r.history r'.history _ _ _ _ _ (goes_on_by z r r' s choice l a l' h i.inv).grows (i.inv.positions.drew s) (before.covers e (subst IsCovering (sym h.activity) c)))

  -- the draw stands before the look
  draw_before_look : IsReading a → is_scan l.call ≡ true → (r'.seats s).drawn < (r'.seats s).looked
  draw_before_look x e =
      let y = drawn_kept z r r' s choice l a l' b h (lower i.inv) step (draws_no_more a (reading_draws a x)) in
      omega (arith, y, looked_kept z r r' s choice l a l' b h (lower i.inv) step x, (i.inv.positions.draws s l h.knows).looked_after e (subst IsReading (sym h.activity) x))

  -- the call begins before the look
  first_before_look : IsReading a → IsUnderway a → (called r'.history (r'.seats s).call).first < (r'.seats s).looked
  first_before_look x u = omega (arith, call_first z r r' s choice l a l' b h (lower i.inv) step u, looked_kept z r r' s choice l a l' b h (lower i.inv) step x, (i.inv.positions.draws s l h.knows).looked_first (subst IsReading (sym h.activity) x))

  -- a scan that goes on as it was
  pub stays : l'.want ≡ l.want → l'.pairs ≡ l.pairs → (IsSettling a → ⊥) → (IsEarly l'.activity → IsEarly a) → IsCovered l'.activity r'.history l' (r'.seats s) → HasPairs r'.history l'.activity l' (r'.seats s)
  stays w p n e d = record {
    early = λ x. p ∙ before.early (subst IsEarly (sym h.activity) (e x));
    from = λ f x. omega (arith, before.from (scan f x) (was f x), w, ap first_key (call f x));
    upto = λ f x. omega (arith, before.upto (scan f x) (was f x), w, ap last_key (call f x));
    covers = λ f x. rw (call f x, not_idle_drawn z (word z r.world) s choice l a l' b (covering_draws a (covering f x)) (covering_draws l'.activity x), w, p) (old_covers (covering f x) (scan f x));
    covered = d;
  }
    where
      covering : is_scan l'.call ≡ true → IsCovering l'.activity → IsCovering a
      covering f x = which (settled_from z (word z r.world) s choice l a l' b (kind_at a h i.inv.shape) f (covering_settled l'.activity x))
        where
          which : IsCovering a ⊎ IsSettling a → IsCovering a
          which (inl y) = y
          which (inr y) = absurd (n y)

      was : is_scan l'.call ≡ true → IsCovering l'.activity → IsCovering l.activity
      was f x = subst IsCovering (sym h.activity) (covering f x)

      underway : IsCovering l'.activity → IsUnderway a
      underway x = drawn_underway z (word z r.world) s choice l a l' b (covering_draws l'.activity x)

      call : is_scan l'.call ≡ true → IsCovering l'.activity → l'.call ≡ l.call
      call f x = (arrow_call z (word z r.world) s choice l a l' b (underway x)).0

      scan : is_scan l'.call ≡ true → IsCovering l'.activity → is_scan l.call ≡ true
      scan f x = was_scan z r r' s choice l a l' b h (lower i.inv) step (underway x) f

-- The arrows that change the pairs.

-- the answer of a get has no pairs
found_covered : (x : Option ℕ) (h : History) (l : Local) (g : SeatLog) → IsCovered (Activity.Leave (answer_found x)) h l g
found_covered (Some v) h l g = tt
found_covered None h l g = tt

-- a scan that begins its walk has no pairs yet
pub settled_pairs : (h : History) (l k : Local) (g : SeatLog) → k.activity ≡ Activity.Walk Walk.Start → k.want ≡ first_key k.call → k.pairs ≡ [] → is_range_empty k.call ≡ false → HasPairs h k.activity k g
settled_pairs h l k g a w p e = subst (λ q. HasPairs h q k g) (sym a) (record {
  early = λ x. absurd x;
  from = λ f x. omega (arith, w);
  upto = λ f x. omega (arith, w, not_below (last_key k.call) (first_key k.call) e);
  covers = λ f x. rw (w, p) (record { rises = tt; keys = λ key o u. absurd (omega (arith, o, u)) });
  covered = tt;
})

-- a scan of no keys has none
pub no_pairs : (h : History) (call : Option Call) (version drawn : ℕ) → is_range_empty call ≡ true → Covers h (first_key call) version drawn (last_key call + 1) []
no_pairs h call version drawn e = record { rises = tt; keys = λ key o u. absurd (omega (arith, o, u, below (last_key call) (first_key call) e)) }

-- a scan that is over leaves with what it has, unless it is stopped
pub leave_covered : (h h' : History) (l : Local) (k : Local) (g : SeatLog) (answer : Answer) (choice : Choice) → Grows h h' (length h.log) → g.drawn ≤ length h.log → k.call ≡ l.call → k.version ≡ l.version → k.pairs ≡ l.pairs → IsCovered (Activity.EndScan answer) h l g → IsCovered (Activity.Leave (answer_or_stopped answer choice)) h' k g
leave_covered h h' l k g answer choice y w c v p x = chosen choice
  where
    kept : (q : Answer) → IsCovered (Activity.EndScan q) h l g → IsCovered (Activity.Leave q) h' k g
    kept Pairs x = rw (c, v, p) (covers_last h h' _ _ _ _ _ y w x)
    kept Done x = tt
    kept (Value n) x = tt
    kept Absent x = tt
    kept NoRows x = tt
    kept Spent x = tt
    kept Stopped x = tt
    kept Held x = tt
    kept NotPinned x = tt

    chosen : (q : Choice) → IsCovered (Activity.Leave (answer_or_stopped answer q)) h' k g
    chosen (Begin call) = kept answer x
    chosen Go = kept answer x
    chosen (Guess n) = kept answer x
    chosen Stop = tt

-- a seat at the end of a row does not settle
ending_no_settling : (a : Activity) → IsEnding a → IsSettling a → ⊥
ending_no_settling (Activity.Draw Draw.Settle) x y = x
ending_no_settling (Activity.Read Read.Start) x y = y
ending_no_settling (Activity.Read Read.Link) x y = y
ending_no_settling _ x y = y

-- a scan reads at its version, and knows what was announced before it drew
scan_row : (z : Sizes) (r : Run) (t : ℕ) (m : Local) → is_scan m.call ≡ true → HasReadRow z r t m (r.seats t) (version_of m) (floor_of r t m) → HasReadRow z r t m (r.seats t) m.version (r.seats t).drawn
scan_row z r t m e k = subst (λ v. HasReadRow z r t m (r.seats t) v (r.seats t).drawn) (rw e refl) (subst (HasReadRow z r t m (r.seats t) (version_of m)) (rw e refl) k)

-- any other call reads what is newest, and knows what was announced before it began
get_row : (z : Sizes) (r : Run) (t : ℕ) (m : Local) → is_scan m.call ≡ false → HasReadRow z r t m (r.seats t) (version_of m) (floor_of r t m) → HasReadRow z r t m (r.seats t) NEWEST (called r.history (r.seats t).call).first
get_row z r t m e k = subst (λ v. HasReadRow z r t m (r.seats t) v (called r.history (r.seats t).call).first) (rw e refl) (subst (HasReadRow z r t m (r.seats t) (version_of m)) (rw e refl) k)

-- a reader that goes on to a remembered cell, or has read its row
pub cell_pairs : (z : Sizes) (r r' : Run) (s : ℕ) (choice : Choice) (l : Local) (a : Activity) (m : Local) (l' : Local) → Arrow z (word z r.world) s choice l a l' → Happens z r r' s choice l l' a → Before z r r' → Readers z r' → Contents z r' → IsEnding a → SameRead l m → NextLeftOver m l' → HasPairs r'.history l'.activity l' (r'.seats s)
cell_pairs z r r' s choice l a m l' b h i n v x q (goes_to_left_over c w) = stays z r r' s choice l a l' b h i q.want q.pairs (ending_no_settling a x) (λ y. absurd y) tt
cell_pairs z r r' s choice l a m l' b h i n v x q (answers w e) = record { early = λ y. absurd y; from = λ f y. absurd y; upto = λ f y. absurd y; covers = λ f y. absurd y; covered = found_covered _ r'.history l' (r'.seats s) }
cell_pairs z r r' s choice l a m l' b h i n v x q (ends_scan w e f) = record { early = λ y. absurd y; from = λ f y. absurd y; upto = λ f y. absurd y; covers = λ f y. absurd y; covered = covered }
  where
    t : IsReading a × IsCovering a × IsAtRow a × IsPastStart a × IsUnderway a
    t = ending_reads a x

    scan : is_scan l.call ≡ true
    scan = subst (λ c. is_scan c ≡ true) q.call e

    was : HasPairs r.history l.activity l (r.seats s)
    was = i.inv.replies.pairs s l h.knows

    under : (key k : ℕ) → key < last_key m.call + 1 → m.next ≡ Some k → key < m.upper
    under key k o g = which f
      where
        which : (m.next ≡ None) ⊎ (last_key m.call < m.upper) → key < m.upper
        which (inl y) = let u : None ≡ Some k = sym y ∙ g in absurd (cc)
        which (inr y) = omega (arith, o, y)

    covered : Covers r'.history (first_key m.call) m.version (r'.seats s).drawn (last_key m.call + 1) (m.pairs ++ pairs_of m.gathered m.want (last_key m.call) m.version)
    covered = row_covers z r' i.after v s m (r'.seats s) m.version (r'.seats s).drawn
        (scan_row z r' s m e (read_row z r r' s choice l a l' b h i n x m q (record { call = refl; gathered = refl; keeping = tt; no_cell = refl })))
        (omega (arith, draw_before_look z r r' s choice l a l' b h i t.0 scan)) (last_key m.call + 1)
        (omega (arith, was.from scan (subst IsCovering (sym h.activity) t.1), q.want, ap first_key q.call))
        (omega (arith, was.upto scan (subst IsCovering (sym h.activity) t.1), q.want, ap last_key q.call))
        (omega arith) under (λ o. absurd (omega (arith, o)))
        (rw (q.call, q.version, q.want, q.pairs) (old_covers z r r' s choice l a l' b h i t.1 scan))
cell_pairs z r r' s choice l a m l' b h i n v x q (scans_on k w e f o) = record {
  early = λ y. absurd y;
  from = λ g y. omega (arith, was.from scan (subst IsCovering (sym h.activity) t.1), q.want, ap first_key q.call, (read.at.next k f).below);
  upto = λ g y. o;
  covers = λ g y. row_covers z r' i.after v s m (r'.seats s) m.version (r'.seats s).drawn read (omega (arith, draw_before_look z r r' s choice l a l' b h i t.0 scan)) m.upper
      (omega (arith, was.from scan (subst IsCovering (sym h.activity) t.1), q.want, ap first_key q.call))
      ((read.at.next k f).below) (omega (arith, o)) (λ key d u v. u) (λ u. (k, f, omega arith))
      (rw (q.call, q.version, q.want, q.pairs) (old_covers z r r' s choice l a l' b h i t.1 scan));
  covered = tt;
}
  where
    t : IsReading a × IsCovering a × IsAtRow a × IsPastStart a × IsUnderway a
    t = ending_reads a x

    scan : is_scan l.call ≡ true
    scan = subst (λ c. is_scan c ≡ true) q.call e

    was : HasPairs r.history l.activity l (r.seats s)
    was = i.inv.replies.pairs s l h.knows

    read : HasReadRow z r' s m (r'.seats s) m.version (r'.seats s).drawn
    read = scan_row z r' s m e (read_row z r r' s choice l a l' b h i n x m q (record { call = refl; gathered = refl; keeping = tt; no_cell = refl }))

-- The answer of a get.

-- a put has no answer of a get
pub put_answered : (c : Option Call) (answer : Answer) (h : History) (l : Local) (g : SeatLog) → IsPutCall c → IsAnswered (Activity.Leave answer) c h l g
put_answered (Some (Put key value)) answer h l g x = tt
put_answered (Some (Del key)) answer h l g x = tt
put_answered (Some (Get key)) answer h l g x = absurd x
put_answered (Some (Scan from upto)) answer h l g x = tt
put_answered (Some Pin) answer h l g x = tt
put_answered (Some (ScanAt from upto)) answer h l g x = tt
put_answered (Some Unpin) answer h l g x = tt
put_answered None answer h l g x = tt

-- nor has a scan
pub scan_answered : (c : Option Call) (answer : Answer) (h : History) (l : Local) (g : SeatLog) → is_scan c ≡ true → IsAnswered (Activity.Leave answer) c h l g
scan_answered (Some (Put key value)) answer h l g x = tt
scan_answered (Some (Del key)) answer h l g x = tt
scan_answered (Some (Get key)) answer h l g x = true_false x refl
scan_answered (Some (Scan from upto)) answer h l g x = tt
scan_answered (Some Pin) answer h l g x = tt
scan_answered (Some (ScanAt from upto)) answer h l g x = tt
scan_answered (Some Unpin) answer h l g x = tt
scan_answered None answer h l g x = tt

-- nor has a call that is a scan
pub scan_call_answered : (c : Option Call) (answer : Answer) (h : History) (l : Local) (g : SeatLog) → IsScanCall c → IsAnswered (Activity.Leave answer) c h l g
scan_call_answered (Some (Put key value)) answer h l g x = tt
scan_call_answered (Some (Del key)) answer h l g x = tt
scan_call_answered (Some (Get key)) answer h l g x = absurd x
scan_call_answered (Some (Scan from upto)) answer h l g x = tt
scan_call_answered (Some Pin) answer h l g x = tt
scan_call_answered (Some (ScanAt from upto)) answer h l g x = tt
scan_call_answered (Some Unpin) answer h l g x = tt
scan_call_answered None answer h l g x = tt

-- a reader that goes on to a remembered cell, or has read its row
pub cell_answered : (z : Sizes) (r r' : Run) (s : ℕ) (choice : Choice) (l : Local) (a : Activity) (m : Local) (l' : Local) → Arrow z (word z r.world) s choice l a l' → Happens z r r' s choice l l' a → Before z r r' → Readers z r' → Contents z r' → IsEnding a → SameRead l m → NextLeftOver m l' → IsAnswered l'.activity l'.call r'.history l' (r'.seats s)
cell_answered z r r' s choice l a m l' b h i n v x q (goes_to_left_over c w) = tt
cell_answered z r r' s choice l a m l' b h i n v x q (ends_scan w e f) = tt
cell_answered z r r' s choice l a m l' b h i n v x q (scans_on k w e f o) = tt
cell_answered z r r' s choice l a m l' b h i n v x q (answers w e) = which m.call refl
  where
    t : IsReading a × IsCovering a × IsAtRow a × IsPastStart a × IsUnderway a
    t = ending_reads a x

    want : m.want ≡ first_key m.call
    want = q.want ∙ get_wants ((i.inv.shape.walks s l h.knows).wants (subst IsPastStart (sym h.activity) t.3)) ∙ ap first_key (sym q.call)
      where
        get_wants : (l.want ≡ first_key l.call) ⊎ (is_scan l.call ≡ true) × (least_in (word z r.world) l.row ≡ l.want) → l.want ≡ first_key l.call
        get_wants (inl y) = y
        get_wants (inr y) = true_false (subst (λ c. is_scan c ≡ true) (sym q.call) y.0) e

    read : HasReadRow z r' s m (r'.seats s) NEWEST (called r'.history (r'.seats s).call).first
    read = get_row z r' s m e (read_row z r r' s choice l a l' b h i n x m q (record { call = refl; gathered = refl; keeping = tt; no_cell = refl }))

    get : (key : ℕ) → m.call ≡ Some (Get key) → IsAnswered (Activity.Leave (answer_found (shown_at m.gathered NEWEST key))) (Some (Get key)) r'.history l' (r'.seats s)
    get key c = subst (λ x. AnswersGet r'.history key (called r'.history (r'.seats s).call).first x (best_id m.gathered (r'.seats s).ids key NEWEST)) (sym (reply_of-found (shown_at m.gathered NEWEST key) m.pairs))
        (get_known z r' i.after v s m (r'.seats s) NEWEST (called r'.history (r'.seats s).call).first read (omega (arith, first_before_look z r r' s choice l a l' b h i t.0 t.4)) key refl (want ∙ ap first_key c)
        (in_range_of m.call key (omega (arith, ap first_key c)) (omega (arith, ap last_key c))))

    which : (c : Option Call) → m.call ≡ c → IsAnswered (Activity.Leave (answer_found (shown_at m.gathered NEWEST (first_key c)))) c r'.history l' (r'.seats s)
    which (Some (Put key value)) c = tt
    which (Some (Del key)) c = tt
    which (Some (Get key)) c = get key c
    which (Some (Scan from upto)) c = tt
    which (Some Pin) c = tt
    which (Some (ScanAt from upto)) c = tt
    which (Some Unpin) c = tt
    which None c = tt
