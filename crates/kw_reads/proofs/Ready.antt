-- What is due to a reader, and what is known of it, lasts over every event.
--
-- The facts here ask only that the record goes on, that the cells of a row that is or was linked
-- stand for what they did and stay listed, and what an event leaves of a row's list; so they serve
-- for the reader's own events and for those of every other seat.
use Rattle.std.proofs.Common.{ℕ, ◌≡◌, ◌⊎◌, inl, inr, ◌<◌, ◌≤◌, Bool, true, false, Option, Some, List, arith, refl, sym, ◌∙◌, subst, length, None}
use Rattle.std.specs.Prelude.{All, Contains}
use Rattle.std.proofs.lemmas.List.Elements.{All-weaker}
use Rattle.kw_cells.specs.declared.cell.Cell as kw_cell
use Rattle.kw_model.specs.declared.call.Call.{Call}
use Rattle.kw_lists.specs.Rows.{Row, IsOn}
use Rattle.kw_lists.specs.Changes.{Leaves}
use Rattle.kw_lists.proofs.Leaving.{on_left}
use Rattle.kw_lists.proofs.Same.{stands_same, behind_same}
use Rattle.kw_lists.proofs.Walking.{walk_stays, gone_by_stays}
use Rattle.kw_world.specs.declared.activity.Activity.{Activity}
use Rattle.kw_world.specs.declared.activity.read.Read.TheVariants as Read
use Rattle.kw_world.specs.declared.activity.walk.Walk.TheVariants as Walk
use Rattle.kw_world.specs.declared.local.Local.{Local}
use Rattle.kw_world.specs.declared.marks.Mark.{Mark}
use Rattle.kw_world.specs.Calls.{is_in_range}
use Rattle.kw_world.specs.Marks.{is_marked}
use Rattle.kw_world.specs.Sizes.{Sizes}
use Rattle.kw_core.specs.Grows.{Grows}
use Rattle.kw_core.specs.History.{History, attempt}
use Rattle.kw_core.specs.HistoryLaws.{IsPut}
use Rattle.kw_core.specs.Run.{Origins}
use Rattle.kw_core.specs.declared.seat_log.SeatLog.{SeatLog}
use Rattle.kw_core.specs.Listed.{Listed}
use Rattle.kw_core.specs.Stages.{IsListing}
use Rattle.kw_rows.specs.Ledger.{Ledger}
use Rattle.kw_rows.specs.Rows.{WasLinked}
use Rattle.kw_reads.specs.Readers.{IsDue, Looks, HasReachedCell, ReadsList, IsFromHand, IsToCome, Reads, IsNoted, IsReady, IsMarkOf, IsInHand, IsCopyOf, AreCopies, Apart}
use Rattle.kw_core.proofs.Attempts.{in_range}
use Rattle.kw_core.proofs.Steps.{announced_within}
use Rattle.kw_core.proofs.Marks.{zip_weaker}
use Rattle.kw_puts.proofs.Owners.{true_false}
use Rattle.kw_puts.proofs.Rely.{SameAttempt}

-- what a reader counts on of the record over an event: it goes on, attempts are of what they were
-- of, and a cell of a row that is or was linked stands for the attempt for which it stood, and for
-- no other one that was there
pub record RecordStays (h h' : History) (o o' : Origins) (g : Ledger) : Type 0 where
  pub grows : Grows h h' (length h.log)
  pub more_attempts : length h.attempts ≤ length h'.attempts
  pub attempts : (p : ℕ) → p < length h.attempts → SameAttempt h h' p
  pub origin : (q c p : ℕ) → WasLinked g q → o q c ≡ Some p → o' q c ≡ Some p
  pub origin_was : (q c p : ℕ) → WasLinked g q → p < length h.attempts → o' q c ≡ Some p → o q c ≡ Some p

-- cells of a row that is or was linked that are listed stay listed
abbrev pub KeepsListed : Ledger → Listed → Listed → Type 0
KeepsListed g f f' = (q c : ℕ) → WasLinked g q → f q c ≡ true → f' q c ≡ true

-- an attempt that is not lost after an event was not lost before, for a lost one stays so
kept_before : (b c : Bool) → (b ≡ true → c ≡ true) → c ≡ false → b ≡ false
kept_before true c keeps e = true_false (keeps refl) e
kept_before false c keeps e = refl

-- the key of a seat's call, whatever it is, is that of the attempt
due_key : (call : Option Call) (k q : ℕ) → k ≡ q → is_in_range call k ≡ true → is_in_range call q ≡ true
due_key call k q e i = subst (λ x. is_in_range call x ≡ true) e i

-- a cell that the reader will read
pub noted_lasts : (g : Ledger) (f f' : Listed) (l : Local) (c : ℕ) → WasLinked g l.row → KeepsListed g f f' → IsNoted f l c → IsNoted f' l c
noted_lasts g f f' l c w keeps (inl m) = inl m
noted_lasts g f f' l c w keeps (inr n) = inr (keeps l.row c w n)

-- The list.

-- a reader at the first link is on the list
first_on : (row : Row) (l : Local) → l.link ≡ None → IsOn row l.link
first_on row l e = subst (IsOn row) (sym e) tt

module _ (n : ℕ) (row row' : Row) (w : Leaves n row row') where
  -- a cell that was reached
  reach_lasts : (l : Local) → HasReachedCell n row l → HasReachedCell n row' l
  reach_lasts l k = record {
    on = on_left n row row' l.link w k.on;
    behind = behind_same row row' w.cell l.link l.place k.on (w.cell l.place k.walks.on) k.behind;
    walks = walk_stays n row row' (Some l.place) l.walked w k.walks;
  }

  -- where the reader is
  pub walks_last : (a : Activity) (l : Local) → ReadsList n row a l → ReadsList n row' a l
  walks_last (Activity.Look _) l k = k
  walks_last (Activity.Read Read.Start) l k = k
  walks_last (Activity.Read Read.Link) l k = walk_stays n row row' l.link l.walked w k
  walks_last (Activity.Read Read.Key) l k = reach_lasts l k
  walks_last (Activity.Read Read.Version) l k = reach_lasts l k
  walks_last (Activity.Read Read.Value) l k = reach_lasts l k
  walks_last _ l k = tt

  -- a cell from the one in hand on
  from_hand_lasts : (l : Local) (c : ℕ) → HasReachedCell n row l → IsFromHand row l c → IsFromHand row' l c
  from_hand_lasts l c k (e, inl x) = (w.listed c e, inl x)
  from_hand_lasts l c k (e, inr x) = (w.listed c e, inr (stands_same row row' l.place c (w.cell l.place k.walks.on) (w.cell c e) x))

  -- a cell that is to come
  pub to_come_lasts : (a : Activity) (l : Local) (c : ℕ) → ReadsList n row a l → IsToCome row a l c → IsToCome row' a l c
  to_come_lasts (Activity.Read Read.Start) l c k x = (w.listed c x.0, behind_same row row' w.cell l.link c (first_on row l k.0) (w.cell c x.0) x.1)
  to_come_lasts (Activity.Read Read.Link) l c k x = (w.listed c x.0, behind_same row row' w.cell l.link c k.on (w.cell c x.0) x.1)
  to_come_lasts (Activity.Read Read.LeftOverKey) l c k x = x
  to_come_lasts (Activity.Read Read.LeftOverValue) l c k x = x
  to_come_lasts (Activity.Read _) l c k x = from_hand_lasts l c k x
  to_come_lasts (Activity.Walk Walk.First) l c k x = absurd x
  to_come_lasts _ l c k x = absurd x

  -- the link at which the reader is
  link_on : (a : Activity) (l : Local) → IsListing a → ReadsList n row a l → IsOn row l.link
  link_on (Activity.Read Read.Start) l x k = first_on row l k.0
  link_on (Activity.Read Read.Link) l x k = k.on
  link_on (Activity.Read Read.Key) l x k = k.on
  link_on (Activity.Read Read.Version) l x k = k.on
  link_on (Activity.Read Read.Value) l x k = k.on
  link_on _ l x k = absurd x

-- no cell is gathered twice
pub apart_lasts : (z : Sizes) (row row' : Row) → Leaves z.cells row row' → (a : Activity) (l : Local) → ReadsList z.cells row a l → Apart z row a l → Apart z row' a l
apart_lasts z row row' w a l k x = record {
  few = x.few;
  unmarked = x.unmarked;
  listed = λ y c e. w.listed c (x.listed y c e);
  gone_by = λ y c e. gone_by_stays z.cells row row' l.link c w (link_on z.cells row row' w a l y k) (x.listed y c e) (x.gone_by y c e);
  fresh = x.fresh;
  hand = x.hand;
}

module _ {h h' : History} {o o' : Origins} {g : Ledger} (y : RecordStays h h' o o' g) where
  -- an attempt that is due after the event was due before, where the look was before the event
  pub due_before : (q : ℕ) (call : Option Call) (looked c p : ℕ) → WasLinked g q → looked ≤ length h.log → IsDue h' o' q call looked c p → IsDue h o q call looked c p
  due_before q call looked c p w b d =
      let n = y.grows.newly p d.announced (omega (arith, d.before, b)) in
      let s = y.attempts p n.0 in
      let a = (y.grows.old p n.0).announced n.1 in
      record { origin = y.origin_was q c p w n.0 d.origin; announced = n.1; before = omega (arith, a.1, d.before); kept = kept_before _ _ (y.grows.old p n.0).lost d.kept; key = due_key call _ _ s.key d.key }

  -- a stamped attempt stays stamped, with its version
  pub stamped_lasts : (p : ℕ) → IsPut h p → IsPut h' p × ((attempt h' p).version ≡ (attempt h p).version)
  stamped_lasts p s = let x = (y.grows.old p (in_range h p s)).stamped s in (x.0, x.1)

  -- what a stamped attempt is of
  pub stamped_same : (p : ℕ) → IsPut h p → SameAttempt h h' p
  stamped_same p s = y.attempts p (in_range h p s)

  -- what an attempt that is due is of
  pub due_same : (q : ℕ) (call : Option Call) (looked c p : ℕ) → IsDue h o q call looked c p → SameAttempt h h' p
  due_same q call looked c p d = y.attempts p (announced_within h p d.announced)

  -- a remembered cell is still that of its attempt
  pub mark_lasts : (q : ℕ) → WasLinked g q → (m : Mark) → IsMarkOf h o q m → IsMarkOf h' o' q m
  mark_lasts q w m i = let s = stamped_lasts i.put i.stamped in record { put = i.put; origin = y.origin q m.cell i.put w i.origin; stamped = s.0; version = s.1 ∙ i.version }

  -- and so is each one
  pub marks_last : (q : ℕ) → WasLinked g q → (marks : List Mark) → All (IsMarkOf h o q) marks → All (IsMarkOf h' o' q) marks
  marks_last q w marks m = All-weaker (IsMarkOf h o q) (IsMarkOf h' o' q) (mark_lasts q w) marks m

  -- a gathered cell still stands for its attempt
  pub copy_lasts : (q : ℕ) → WasLinked g q → (call : Option Call) (c : kw_cell.Cell) (p : ℕ) → IsCopyOf h o q call c p → IsCopyOf h' o' q call c p
  copy_lasts q w call c p i =
      let s = stamped_lasts p i.stamped in
      let a = stamped_same p i.stamped in
      record { within = omega (arith, i.within, y.more_attempts); stamped = s.0; origin = y.origin q c.place p w i.origin; key = a.key ∙ i.key; version = s.1 ∙ i.version; value = a.value ∙ i.value; in_range = i.in_range }

  -- and so does each one
  pub copies_last : (q : ℕ) → WasLinked g q → (call : Option Call) (cells : List kw_cell.Cell) (ids : List ℕ) → AreCopies h o q call cells ids → AreCopies h' o' q call cells ids
  copies_last q w call cells ids a = zip_weaker (IsCopyOf h o q call) (IsCopyOf h' o' q call) (copy_lasts q w call) cells ids a

  -- the cell in hand is still that of its attempt
  pub hand_lasts : (a : Activity) (l : Local) → WasLinked g l.row → IsInHand h o a l → IsInHand h' o' a l
  hand_lasts a l w i =
      let s = stamped_lasts i.put i.stamped in
      record { put = i.put; origin = y.origin l.row l.place i.put w i.origin; stamped = s.0; version = λ u. s.1 ∙ i.version u; key = λ u. (stamped_same i.put i.stamped).key ∙ i.key u; in_range = i.in_range }

  -- an attempt that is stamped, and of which the reader will read this cell
  pub ready_lasts : (f f' : Listed) (l : Local) (c p : ℕ) → WasLinked g l.row → KeepsListed g f f' → IsReady f h l c p → IsReady f' h' l c p
  ready_lasts f f' l c p w keeps n = record { stamped = (stamped_lasts p n.stamped).0; noted = noted_lasts g f f' l c w keeps n.noted }

  -- what is known of the entries that the reader looked at
  pub looks_last : (z : Sizes) (f f' : Listed) (a : Activity) (l : Local) (s s' : SeatLog) → WasLinked g l.row → KeepsListed g f f' → s'.looked ≡ s.looked → s.looked ≤ length h.log → Looks z f h o a l s → Looks z f' h' o' a l s'
  looks_last z f f' a l s s' w keeps e b n = record {
    past = λ c p d u. let x = was c p d in ready_lasts f f' l c p w keeps (n.past c p x (rw (same c p x) at u));
    here = λ m c p d u. let x = was c p d in saw c p (n.here m c p x (sym (same c p x) ∙ u));
  }
    where
      was : (c p : ℕ) → IsDue h' o' l.row l.call s'.looked c p → IsDue h o l.row l.call s.looked c p
      was c p d = due_before l.row l.call s.looked c p w b (subst (λ x. IsDue h' o' l.row l.call x c p) e d)

      same : (c p : ℕ) → IsDue h o l.row l.call s.looked c p → (attempt h' p).seat ≡ (attempt h p).seat
      same c p d = (due_same l.row l.call s.looked c p d).seat

      saw : (c p : ℕ) → (c ≡ l.saw) ⊎ IsReady f h l c p → (c ≡ l.saw) ⊎ IsReady f' h' l c p
      saw c p (inl x) = inl x
      saw c p (inr q) = inr (ready_lasts f f' l c p w keeps q)

  -- what is known of the cells that the reader reads
  pub reads_last : (n : ℕ) (row row' : Row) → Leaves n row row' → (a : Activity) (l : Local) (s s' : SeatLog) → WasLinked g l.row → ReadsList n row a l → s'.looked ≡ s.looked → s'.ids ≡ s.ids → s.looked ≤ length h.log → Reads row h o a l s → Reads row' h' o' a l s'
  reads_last n row row' w a l s s' k m e f b x = record {
    stamped = λ c p d. (stamped_lasts p (x.stamped c p (was c p d))).0;
    found = λ c p d. subst (λ ids. Contains ids p ⊎ (is_marked c l.remembered ≡ true) ⊎ IsToCome row' a l c) (sym f) (found c p (x.found c p (was c p d)));
    hand = λ u. hand_lasts a l k (x.hand u);
  }
    where
      was : (c p : ℕ) → IsDue h' o' l.row l.call s'.looked c p → IsDue h o l.row l.call s.looked c p
      was c p d = due_before l.row l.call s.looked c p k b (subst (λ x. IsDue h' o' l.row l.call x c p) e d)

      found : (c p : ℕ) → Contains s.ids p ⊎ (is_marked c l.remembered ≡ true) ⊎ IsToCome row a l c → Contains s.ids p ⊎ (is_marked c l.remembered ≡ true) ⊎ IsToCome row' a l c
      found c p (inl u) = inl u
      found c p (inr (inl u)) = inr (inl u)
      found c p (inr (inr u)) = inr (inr (to_come_lasts n row row' w a l c m u))
