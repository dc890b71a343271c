-- What an event leaves to a seat that does not act.
--
-- `Rely` is all that a fact about such a seat may count on: its words, the cells that concern it,
-- the record, and its entry. The lemma `rely` gives it, once, from what holds before the event;
-- each fact about a seat then survives every event of another seat by one lemma of its own
-- (`Stable` files), which never asks what the other seat does.
use Rattle.std.proofs.Common.{ℕ, ◌≡◌, ◌≢◌, ◌<◌, ◌≤◌, Some, None, true, false, length}
use Rattle.kw_words.specs.declared.layout.Name.TheVariants as name
use Rattle.kw_words.specs.declared.kind.Kind.{Kind}
use Rattle.kw_words.specs.declared.pend.Pend.TheVariants as pend
use Rattle.kw_words.specs.Pend.{pend_word}
use Rattle.kw_world.specs.declared.activity.Activity.{Activity}
use Rattle.kw_world.specs.declared.local.Local.{Local}
use Rattle.kw_world.specs.Sizes.{Sizes}
use Rattle.kw_world.specs.Step.{word}
use Rattle.kw_core.specs.History.{History, attempt, called, Stands}
use Rattle.kw_core.specs.Grows.{Grows}
use Rattle.kw_core.specs.Run.{Run, Origins}
use Rattle.kw_core.specs.declared.seat_log.SeatLog.{SeatLog}
use Rattle.kw_core.specs.Stages.{IsBusy, IsVisiting, IsPutting, IsFresh, IsUnlisted, IsUnstamped}
use Rattle.kw_core.specs.Listed.{Listed}
use Rattle.kw_lists.specs.Changes.{Leaves}
use Rattle.kw_lists.specs.Puts.{LeavesOwn}
use Rattle.kw_rows.specs.Ledger.{Ledger}
use Rattle.kw_rows.specs.Rows.{WasLinked}
use Rattle.kw_shape.specs.Infants.{IsInfantOf}
use Rattle.kw_puts.specs.Freezes.{IsFrozen}
use Rattle.kw_puts.specs.Lists.{list_in}
use Rattle.kw_core.specs.Words.{Words, given_in}
use Rattle.kw_shape.proofs.RelyRows.{RelyRows}
use Rattle.kw_words.specs.declared.scan.ScanWord.TheVariants.{Waiting, Drawn}
use Rattle.kw_words.specs.Scan.{scan_word}
use Rattle.kw_world.specs.Sane.{IsVersion}
use Rattle.kw_puts.specs.Positions.{IsDrawnAt}

-- the words: the clock, and the counts and the versions of a row that is or was linked, do not go
-- back
pub record RelyWords (z : Sizes) (v v' : Words) (g : Ledger) : Type 0 where
  pub clock : v name.Clock ≤ v' name.Clock
  pub given : (q : ℕ) → WasLinked g q → given_in v q ≤ given_in v' q
  pub version : (q c : ℕ) → WasLinked g q → c < z.cells → v (name.Version q c) ≢ 0 → v' (name.Version q c) ≡ v (name.Version q c)

-- the seat's scan, which began to wait at `since`: its word is as it was, or it waited and another
-- seat has settled it for a version that was drawn later. Where that draw stands is known as `at`,
-- from the event on as `at'`
pub data RelyScan (v v' : Words) (h' : History) (t since at at' : ℕ) : Type 0 where
  scan_stays : v' (name.Scan t) ≡ v (name.Scan t) → at' ≡ at → RelyScan v v' h' t since at at'
  is_settled : (clock version : ℕ) → v (name.Scan t) ≡ scan_word (Waiting clock) → v' (name.Scan t) ≡ scan_word (Drawn version) → IsVersion version → IsDrawnAt h' at' version → since < at' → RelyScan v v' h' t since at at'

-- the cells: what the seat has stored in its own stays
pub record RelyCells (v v' : Words) (a : Activity) (l : Local) : Type 0 where
  pub own_key : IsPutting a → v' (name.Key l.row l.cell) ≡ v (name.Key l.row l.cell)
  pub own_value : IsPutting a → v' (name.Value l.row l.cell) ≡ v (name.Value l.row l.cell)
  pub own_version : IsPutting a → v' (name.Version l.row l.cell) ≡ v (name.Version l.row l.cell)

-- what an attempt is of does not change
pub record SameAttempt (h h' : History) (p : ℕ) : Type 0 where
  pub call : (attempt h' p).call ≡ (attempt h p).call
  pub seat : (attempt h' p).seat ≡ (attempt h p).seat
  pub key : (attempt h' p).key ≡ (attempt h p).key
  pub value : (attempt h' p).value ≡ (attempt h p).value
  pub row : (attempt h' p).row ≡ (attempt h p).row
  pub cell : (attempt h' p).cell ≡ (attempt h p).cell
  pub add : (attempt h' p).add ≡ (attempt h p).add

-- what a call is of does not change
pub record SameCall (h h' : History) (x : ℕ) : Type 0 where
  pub seat : (called h' x).seat ≡ (called h x).seat
  pub number : (called h' x).number ≡ (called h x).number
  pub call : (called h' x).call ≡ (called h x).call
  pub first : (called h' x).first ≡ (called h x).first

-- the record goes on, whoever acts: it keeps what it has, and what is announced or stamped now is
-- so from now on; and a cell of a row that is or was linked stands for the same attempt
pub record GoesOn (h h' : History) (o o' : Origins) (g : Ledger) : Type 0 where
  pub now : length h.log < length h'.log
  pub stands : (x : ℕ) (k : Kind) (c : ℕ) → Stands h x k c → Stands h' x k c
  pub grows : Grows h h' (length h.log)
  pub more_attempts : length h.attempts ≤ length h'.attempts
  pub more_calls : length h.calls ≤ length h'.calls
  pub attempts : (p : ℕ) → p < length h.attempts → SameAttempt h h' p
  pub calls : (x : ℕ) → x < length h.calls → SameCall h h' x
  pub origin : (q c p : ℕ) → WasLinked g q → o q c ≡ Some p → o' q c ≡ Some p

-- the record goes on for a seat that does not act: no attempt and no call of it is new, and none of
-- its calls ends
pub record RelyHistory (h h' : History) (t : ℕ) : Type 0 where
  pub fresh : (p : ℕ) → length h.attempts ≤ p → p < length h'.attempts → (attempt h' p).seat ≢ t
  pub begun : (x : ℕ) → length h.calls ≤ x → x < length h'.calls → (called h' x).seat ≢ t
  pub runs : (x : ℕ) → x < length h.calls → (called h x).seat ≡ t → (called h' x).end ≡ (called h x).end

-- what an attempt is after the entry of its seat was frozen: as it was before it was announced, or
-- lost
pub data WasFrozen (v : Words) (h h' : History) (t : ℕ) (a : Activity) (l : Local) (g : SeatLog) : Type 0 where
  before_announced : IsFresh a → attempt h' g.own ≡ attempt h g.own → WasFrozen v h h' t a l g
  while_pending : IsUnstamped a → v (name.Pend l.row t) ≡ pend_word (pend.Pending l.cell) → (attempt h g.own).is_stamped ≡ false → attempt h' g.own ≡ record (attempt h g.own) { is_lost = true } → WasFrozen v h h' t a l g

-- the seat's entry in its row, its own attempt and the put of its call: all are as they were, or
-- another seat has stamped the attempt, all at once, or has frozen the entry: before the attempt
-- was announced, which leaves this as it was, or while it was pending, which loses it
pub data RelyEntry (v v' : Words) (h h' : History) (t : ℕ) (a : Activity) (l : Local) (g : SeatLog) : Type 0 where
  as_it_was : (IsPutting a → v' (name.Pend l.row t) ≡ v (name.Pend l.row t)) → (IsPutting a → attempt h' g.own ≡ attempt h g.own) → (IsBusy a → (called h' g.call).put ≡ (called h g.call).put) → RelyEntry v v' h h' t a l g
  is_helped : (version load : ℕ) → IsUnstamped a → v (name.Pend l.row t) ≡ pend_word (pend.Pending l.cell) → v' (name.Pend l.row t) ≡ pend_word (pend.Stamped l.cell version) →
      (attempt h g.own).is_stamped ≡ false → attempt h' g.own ≡ record (attempt h g.own) { is_stamped = true; version = version; load = load; at = length h.log } →
      (called h g.call).put ≡ None → (called h' g.call).put ≡ Some g.own → RelyEntry v v' h h' t a l g
  is_frozen : v' (name.Pend l.row t) ≡ pend_word pend.Frozen → WasFrozen v h h' t a l g → (called h' g.call).put ≡ (called h g.call).put → RelyEntry v v' h h' t a l g

-- the lists: of each row that is or was linked, what its list leaves to those who walk along it;
-- and the own cell of a put that is not listed, with its link, is as it was
pub record RelyLists (z : Sizes) (v v' : Words) (g : Ledger) (f f' : Listed) (a : Activity) (l : Local) : Type 0 where
  pub leaves : (q : ℕ) → WasLinked g q → Leaves z.cells (list_in v f q) (list_in v' f' q)
  pub own : IsUnlisted a → LeavesOwn (list_in v f l.row) (list_in v' f' l.row) l.cell

-- all of it, for a seat that knows l
pub record Rely (z : Sizes) (r r' : Run) (t : ℕ) (l : Local) : Type 0 where
  pub seat : t < z.seats
  pub rows : r'.world.rows ≡ r.world.rows
  pub log : r'.seats t ≡ r.seats t
  pub fresh : IsVisiting l.activity → RelyRows (word z r.world) (word z r'.world) r.ledger.rows r'.ledger.rows t
  pub words : RelyWords z (word z r.world) (word z r'.world) r.ledger.rows
  pub since : r'.ledger.waits t ≡ r.ledger.waits t
  pub scan : RelyScan (word z r.world) (word z r'.world) r'.history t (r.ledger.waits t) (r.settled t) (r'.settled t)
  pub cells : RelyCells (word z r.world) (word z r'.world) l.activity l
  pub lists : RelyLists z (word z r.world) (word z r'.world) r.ledger.rows r.listed r'.listed l.activity l
  -- the cells of its infants stand for what they did, and are listed or not as they were; and no
  -- cell of a frozen row is given any more
  pub infants : (q c : ℕ) → IsInfantOf r.ledger.rows t q → (r'.origin q c ≡ r.origin q c) × (r'.listed q c ≡ r.listed q c)
  pub frozen : (q c : ℕ) → WasLinked r.ledger.rows q → IsFrozen (word z r.world) q → r'.origin q c ≡ r.origin q c
  pub goes_on : GoesOn r.history r'.history r.origin r'.origin r.ledger.rows
  pub history : RelyHistory r.history r'.history t
  pub entry : RelyEntry (word z r.world) (word z r'.world) r.history r'.history t l.activity l (r.seats t)
