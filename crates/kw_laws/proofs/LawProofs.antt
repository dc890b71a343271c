-- The laws, from what every event keeps.
use Rattle.std.proofs.Common.{ℕ, zero, suc, ◌≡◌, ◌⊎◌, inl, inr, ◌+◌, ◌<◌, ◌≤◌, true, false, Some, List, [], ◌∷◌, get_or, arith, refl, sym, ◌∙◌, ap, subst, slice_get, length}
use Rattle.std.specs.Prelude.{Contains}
use Rattle.kw_words.specs.declared.layout.Name.TheVariants as name
use Rattle.kw_words.specs.declared.scan.ScanWord.TheVariants.{Waiting, Drawn}
use Rattle.kw_words.specs.Scan.{scan_of, scan_word}
use Rattle.kw_words.proofs.ScanWords.{scan_of-Waiting, scan_of-scan_word}
use Rattle.kw_cells.specs.declared.cell.Cell as kw_cell
use Rattle.kw_model.specs.Map.{RisesFrom}
use Rattle.kw_world.specs.declared.activity.Activity.{Activity}
use Rattle.kw_world.specs.declared.activity.draw.Draw.TheVariants as Draw
use Rattle.kw_world.specs.declared.activity.insert.Insert.TheVariants as Insert
use Rattle.kw_world.specs.declared.local.Local.{Local}
use Rattle.kw_world.specs.declared.opening.Opening.{Opening}
use Rattle.kw_world.specs.declared.event.Event.{Event}
use Rattle.kw_world.specs.Opening.{IsOpening}
use Rattle.kw_world.specs.Sizes.{Sizes}
use Rattle.kw_world.specs.Calls.{first_key}
use Rattle.kw_world.specs.Step.{word}
use Rattle.kw_core.specs.History.{History}
use Rattle.kw_core.specs.Events.{is_valid}
use Rattle.kw_core.specs.Run.{Origins, Run, history}
use Rattle.kw_core.specs.Words.{least_in}
use Rattle.kw_rows.specs.Ledger.{IsFresh}
use Rattle.kw_rows.proofs.Named.{above_least, held_by}
use Rattle.kw_shape.specs.RowsIn.{rows_in, state_seen}
use Rattle.kw_shape.specs.Shape.{Walks}
use Rattle.kw_shape.proofs.LinkedRows.{fresh_linked, holds_wanted}
use Rattle.kw_core.specs.Stages.{IsAtInsertLink, IsAtListed, IsKeeping, IsWaiting, IsInserting, IsUnlisted, IsMeeting}
use Rattle.kw_lists.specs.Rows.{Row, IsBehind, IsSound}
use Rattle.kw_lists.specs.Walks.{IsWalking}
use Rattle.kw_lists.proofs.Putting.{put_lost}
use Rattle.kw_lists.proofs.Inserting.{at_next}
use Rattle.kw_lists.proofs.Walking.{walk_goes_on, walked_most, walked_fewer}
use Rattle.kw_puts.specs.Lists.{Inserts, WalksList}
use Rattle.kw_puts.specs.Positions.{IsHelped}
use Rattle.kw_puts.proofs.ListWords.{link_is}
use Rattle.kw_reads.specs.Readers.{IsDue, ReadsList, IsCopyOf, AreCopies}
use Rattle.kw_reads.proofs.WalksKeep.{has_reached, link_reads, link_walks, read_at_row}
use Rattle.kw_reads.specs.Replies.{RisesBelow}
use Rattle.kw_reads.specs.Inv.{Inv}
use Rattle.kw_laws.specs.Laws.{IsWaitingOrDrawn, IsGathered, KeepsLaws}
use Rattle.kw_core.proofs.Attempts.{in_range}
use Rattle.kw_reads.proofs.Keeps.{inv_holds}
use Rattle.kw_shape.proofs.Walking.{past}
use Rattle.kw_shape.proofs.SoughtKeep.{retakes}
use Rattle.kw_laws.proofs.FoundEntries.{finds_idle, finds_own}
use Rattle.kw_laws.proofs.BeforeRows.{EndsBefore, GoesByFull, ends_before_holds, goes_by_full_holds}
use Rattle.kw_laws.proofs.ReachedStates.{first_leads_by, stated_by}
use Rattle.kw_laws.proofs.ShownRows.{kept_shown, of_puts, shown}
use Rattle.kw_laws.proofs.TakenRows.{is_taken}
use Rattle.kw_core.specs.Stages.{HasDrawn, IsPublished}
use Rattle.kw_reads.specs.Replies.{IsCovered}
use Rattle.kw_puts.proofs.OwnScans.{covering_draws}

-- pairs that rise below a bound rise
rising : (low bound : ℕ) (pairs : List (ℕ × ℕ)) → RisesBelow low bound pairs → RisesFrom low pairs
rising low bound [] h = tt
rising low bound (p ∷ pairs) h = (h.0, rising (suc p.0) bound pairs h.2)

-- so they do from any lower number
rising_from : (low from : ℕ) (pairs : List (ℕ × ℕ)) → low ≤ from → RisesFrom from pairs → RisesFrom low pairs
rising_from low from [] o h = tt
rising_from low from (p ∷ pairs) o h = (omega (arith, h.0), h.1)

-- the cell beside a gathered attempt
beside : (h : History) (o : Origins) (q : ℕ) (l : Local) (cells : List kw_cell.Cell) (ids : List ℕ) (p : ℕ) → AreCopies h o q l.call cells ids → Contains ids p → (c : kw_cell.Cell) × Contains cells c × IsCopyOf h o q l.call c p
beside h o q l [] [] p a n = absurd (omega (arith, n.1))
beside h o q l [] (x ∷ ids) p a n = absurd a
beside h o q l (c ∷ cells) [] p a n = absurd a
beside h o q l (c ∷ cells) (x ∷ ids) p a n = which (λ m. beside h o q l cells ids p a.1 m) n.0 n.1 n.2
  where
    further : (c : kw_cell.Cell) × Contains cells c × IsCopyOf h o q l.call c p → (d : kw_cell.Cell) × Contains (c ∷ cells) d × IsCopyOf h o q l.call d p
    further b = (b.0, (suc b.1.0, omega (arith, b.1.1), b.1.2), b.2)

    which : (Contains ids p → (d : kw_cell.Cell) × Contains cells d × IsCopyOf h o q l.call d p) → (k : ℕ) → k < length (x ∷ ids) → get_or (x ∷ ids) k p ≡ p → (d : kw_cell.Cell) × Contains (c ∷ cells) d × IsCopyOf h o q l.call d p
    which f zero w e = (c, (0, omega arith, refl), subst (IsCopyOf h o q l.call c) e a.0)
    which f (suc k) w e = further (f (k, omega (arith, w), e))

-- a put that has reached a cell stands at a link before it
meets_behind : (z : Sizes) (row : Row) (a : Activity) (l : Local) → IsMeeting a → WalksList z.cells row a l → IsBehind row l.link l.place
meets_behind z row (Activity.Insert Insert.Key) l m w = w.0
meets_behind z row (Activity.Insert Insert.Version) l m w = w.0
meets_behind z row _ l m w = absurd m

-- a put at a link has not listed its cell, and walks
link_unlisted : (a : Activity) → IsAtInsertLink a → IsUnlisted a
link_unlisted (Activity.Insert Insert.Start) x = tt
link_unlisted (Activity.Insert Insert.Link) x = tt
link_unlisted _ x = absurd x

insert_walks : (n : ℕ) (row : Row) (a : Activity) (l : Local) → IsAtInsertLink a → WalksList n row a l → IsWalking n row l.link l.walked
insert_walks n row (Activity.Insert Insert.Start) l x w = w.0
insert_walks n row (Activity.Insert Insert.Link) l x w = w
insert_walks n row _ l x w = absurd x

-- a put whose own cell is not listed has reached fewer cells than there are
walked_less : (z : Sizes) (row : Row) (l : Local) → row.listed l.cell ≡ false → l.cell < z.cells → IsWalking z.cells row l.link l.walked → l.walked < z.cells
walked_less z row l u o w = walked_fewer z.cells row l.link l.walked l.cell o u w

-- and has lost fewer exchanges
lost_less : (z : Sizes) (row : Row) (a : Activity) (l : Local) → IsInserting a → l.cell < z.cells → Inserts z.cells row a l → l.lost < z.cells
lost_less z row (Activity.Insert Insert.Start) l m o i = put_lost z.cells row l.cell l.lost l.link o i
lost_less z row (Activity.Insert Insert.Link) l m o i = put_lost z.cells row l.cell l.lost l.link o i
lost_less z row (Activity.Insert Insert.Exchange) l m o i = put_lost z.cells row l.cell l.lost l.link o i.saw.from
lost_less z row (Activity.Insert _) l m o i = put_lost z.cells row l.cell l.lost l.link o i.0.from
lost_less z row _ l m o i = absurd m

-- a reader that has reached a cell stands at a link before it
reader_behind : (z : Sizes) (row : Row) (a : Activity) (l : Local) → IsAtListed a → ReadsList z.cells row a l → IsBehind row l.link l.place
reader_behind z row a l m w = (has_reached z.cells row a l m w).behind

-- a reader at a link that leads to a cell has reached fewer cells than there are
reader_less : (z : Sizes) (row : Row) (l : Local) (c : ℕ) → IsSound z.cells row → row.link l.link ≡ Some c → IsWalking z.cells row l.link l.walked → l.walked < z.cells
reader_less z row l c s e w =
    let next = at_next row l.link (row.link l.link) c (s.list l.link w.on) e in
    omega (arith, walked_most z.cells row (Some c) (l.walked + 1) (walk_goes_on z.cells row l.link l.walked c (s.below c next.listed) next.listed next.behind w))

-- the laws of a run in which all of it holds
laws_from : (z : Sizes) (r : Run) → Inv z r → EndsBefore z r → GoesByFull z r → KeepsLaws z r
laws_from z r i ends visits = record {
  sane = i.shape.sane;
  rows = i.shape.rows;
  beyond = i.shape.beyond;
  visits = i.shape.visits;
  numbers = i.shape.numbers;
  retakes = λ t l g a n e. retakes z r i.shape t n l g a (ap state_seen e);
  stated = stated_by z r i.shape;
  ends_before = ends;
  goes_by_full = visits;
  first_leads = first_leads_by z r i.shape;
  links = λ q n. i.shape.rows.closed.rises q n;
  walks = i.shape.walks;
  climbs = λ t l g a. let x = subst (λ q. Walks (word z r.world) r.ledger.rows t q l) a (i.shape.walks t l g) in omega (arith, x.lower tt, above l.row (least_in (word z r.world) l.candidate) t x.on.0 x.on.3);
  climbs_on = λ t l g y n e.
      let x = i.shape.walks t l g in
      let at = x.at y in
      omega (arith, x.lower (past l.activity y), above l.row l.upper t at.fresh (at.next n e).ends);
  pairs = λ t l g s c. let x = (i.replies.pairs t l g).covers s c in rising_from 0 (first_key l.call) l.pairs (omega arith) (rising (first_key l.call) l.want l.pairs x.rises);
  below = λ t l g s c. let x = i.replies.pairs t l g in record { rises = (x.covers s c).rises; from = x.from s c; upto = x.upto s c };
  covers = λ t l g s c. let d = i.positions.draws t l g in let x = covering_draws l.activity c in record { drawn = d.drawn s x; drawn_first = d.drawn_first s x; covers = (i.replies.pairs t l g).covers s c };
  covered = λ t l g s a. let d = i.positions.draws t l g in let x : HasDrawn l.activity = subst HasDrawn (sym a) tt in record { drawn = d.drawn s x; drawn_first = d.drawn_first s x; covers = subst (λ q. IsCovered q r.history l (r.seats t)) a (i.replies.pairs t l g).covered };
  early = λ t l g. (i.replies.pairs t l g).early;
  announces = finds_idle z r i;
  stamps = λ t l g a. finds_own z r i t l g (subst IsPublished (sym a) tt);
  settles = settles;
  reaches = λ t l g m. meets_behind z _ l.activity l m (i.lists.walks t l g);
  walked = λ t l g a. walked_less z _ l ((i.lists.own t l g).unlisted (link_unlisted l.activity a)) (i.shape.sane.locals t l g).ranges.cell (insert_walks z.cells _ l.activity l a (i.lists.walks t l g));
  lost = λ t l g a. lost_less z _ l.activity l a (i.shape.sane.locals t l g).ranges.cell (i.lists.inserts t l g);
  reader_reaches = λ t l g m. reader_behind z _ l.activity l m (i.readers.walks t l g);
  reads_on = λ t l g a c e. reader_less z _ l c (i.lists.leads l.row (fresh_linked r.ledger.rows t l.row ((i.shape.walks t l g).at (read_at_row l.activity (link_reads l.activity a).0)).fresh)) (link_is (word z r.world) l.row l.link ∙ e) (link_walks z.cells _ l.activity l a (i.readers.walks t l g));
  stamped = λ p h. let a = i.history.laws.attempted p (in_range r.history p h) in record { announced = a.load h; load = a.at h; found = i.history.laws.loaded p h };
  given = λ p w n. (i.puts.given p w n).origin;
  seen = seen;
  rebuilds = λ t l g y. is_taken z r i t l g y;
  kept = kept_shown z r i;
  shown = shown z r i;
  of_puts = of_puts z r i;
  live = λ t l g y. ((i.shape.walks t l g).at y).fresh;
  holds = λ t l g y. holds_wanted (word z r.world) r.ledger.rows t l ((i.shape.walks t l g).at y);
  history = i.history.laws;
}
  where
    -- the end of a row's range is above its beginning
    above : (q u t : ℕ) → IsFresh r.ledger.rows t q → (r.ledger.rows.fates q).upper ≡ Some u → least_in (word z r.world) q < u
    above q u t f e = above_least (rows_in (word z r.world)) r.ledger.rows i.shape.rows.closed q u (held_by r.ledger.rows t q f) e

    settles : (t : ℕ) (l : Local) → slice_get r.world.locals t ≡ Some l → l.activity ≡ Activity.Draw Draw.Settle → IsWaitingOrDrawn l.waiting (scan_of (word z r.world (name.Scan t)))
    settles t l g a = which ((i.positions.draws t l g).waits (subst IsWaiting (sym a) tt))
      where
        which : (word z r.world (name.Scan t) ≡ scan_word (Waiting l.waiting)) ⊎ IsHelped (word z r.world) r.history t (r.ledger.waits t) (r.settled t) → IsWaitingOrDrawn l.waiting (scan_of (word z r.world (name.Scan t)))
        which (inl e) = let w = (i.shape.sane.locals t l g).ranges.waiting in rw (e, scan_of-Waiting l.waiting w.0 w.1) refl
        which (inr n) = rw (n.word, scan_of-scan_word (Drawn n.version) n.range) tt

    seen : (t : ℕ) (l : Local) → slice_get r.world.locals t ≡ Some l → IsKeeping l.activity → (q : ℕ) → (r.seats t).read ≡ Some q → (c p : ℕ) → IsDue r.history r.origin q l.call (r.seats t).looked c p → IsGathered r q l p
    seen t l g y q e c p d =
        let x = i.readers.seen t l g in
        let b = beside r.history r.origin q l l.gathered (r.seats t).ids p ((i.readers.gathers t l g).kept y q e) (x.taken y q e c p d) in
        record { stamped = x.stamped y q e c p d; cell = b.0; among = b.1; copy = b.2 }

-- every valid list from an opening keeps the laws
pub laws_hold : (z : Sizes) (o : Opening) → IsOpening z o → (es : List Event) → is_valid z o es ≡ true → KeepsLaws z (history z o es)
laws_hold z o i es v =
    let all = inv_holds z o i es v in
    laws_from z (history z o es) all (ends_before_holds z o i es v) (goes_by_full_holds z o i es v)
