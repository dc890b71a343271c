-- Every event keeps what holds of the readers.
--
-- `Before` is all that a step of a reader may use: the whole invariant before the event, and the
-- earlier groups after it.
use Rattle.std.proofs.Common.{ℕ, ◌≡◌, ◌≢◌, ◌⊎◌, inl, Some, sym, ◌∙◌, ap, slice_get}
use Rattle.kw_lists.specs.Rows.{Row}
use Rattle.kw_world.specs.declared.activity.Activity.{Activity}
use Rattle.kw_world.specs.declared.activity.read.Read.TheVariants as Read
use Rattle.kw_world.specs.declared.activity.walk.Walk.TheVariants as Walk
use Rattle.kw_world.specs.declared.local.Local.{Local}
use Rattle.kw_world.specs.declared.event.Choice.{Choice}
use Rattle.kw_world.specs.Sizes.{Sizes}
use Rattle.std.specs.Prelude.{All}
use Rattle.kw_world.specs.Step.{word}
use Rattle.kw_core.specs.Run.{Run}
use Rattle.kw_core.specs.Stages.{IsAtRead, IsKeeping, IsLooking, IsTaking}
use Rattle.kw_rows.specs.Rows.{WasLinked}
use Rattle.kw_shape.proofs.LinkedRows.{fresh_linked}
use Rattle.kw_puts.specs.Lists.{list_in}
use Rattle.kw_reads.specs.Readers.{IsMarkOf, Looks, ReadsList, Reads, Gathers, Apart, HasSeen, IsReadRow, Readers}
use Rattle.kw_reads.specs.Inv.{Inv}
use Rattle.kw_core.proofs.Happens.{Happens, each_seat}
use Rattle.kw_core.proofs.Arrows.{Arrow}
use Rattle.kw_reads.proofs.BuiltReads.{looking_reads, reader_reads, taking_reads}
use Rattle.kw_reads.proofs.LooksKeep.{within_keeps, keeps, marks_by, looks_by}
use Rattle.kw_reads.proofs.Relying.{record_stays, rely}
use Rattle.kw_puts.specs.Below.{Below}
use Rattle.kw_reads.proofs.WalksKeep.{read_at_row, walks_by}
use Rattle.kw_reads.proofs.ApartKeeps.{apart_by}
use Rattle.kw_reads.proofs.CellsKeep.{reads_by}
use Rattle.kw_reads.proofs.SeenKeep.{gathers_by, read_by, read_linked, seen_by}
use Rattle.kw_reads.proofs.StableReaders.{marks_stable, looks_stable, walks_stable, reads_stable, gathers_stable, apart_stable, seen_stable}

-- what holds before the event, and the earlier groups after it
pub record Before (z : Sizes) (r r' : Run) : Type 0 where
  pub inv : Inv z r
  pub after : Below z r'

-- the cells that the acting reader remembers
pub marks_own : (z : Sizes) (r r' : Run) (s : ℕ) (choice : Choice) (l : Local) (a : Activity) (l' : Local) → Arrow z (word z r.world) s choice l a l' → Happens z r r' s choice l l' a → Before z r r' → IsLooking l'.activity ⊎ IsTaking l'.activity → All (IsMarkOf r'.history r'.origin l'.row) l'.remembered
marks_own z r r' s choice l a l' b h i p = marks_by z r r' s choice l a l' b h i.inv i.after p

-- the entries that it has looked at
pub looks_own : (z : Sizes) (r r' : Run) (s : ℕ) (choice : Choice) (l : Local) (a : Activity) (l' : Local) → Arrow z (word z r.world) s choice l a l' → Happens z r r' s choice l l' a → Before z r r' → IsLooking l'.activity → Looks z r'.listed r'.history r'.origin l'.activity l' (r'.seats s)
looks_own z r r' s choice l a l' b h i p = looks_by z r r' s choice l a l' b h i.inv i.after (inl p)

-- the cells that it reads
pub reads_own : (z : Sizes) (r r' : Run) (s : ℕ) (choice : Choice) (l : Local) (a : Activity) (l' : Local) → Arrow z (word z r.world) s choice l a l' → Happens z r r' s choice l l' a → Before z r r' → IsTaking l'.activity → Reads (list_in (word z r'.world) r'.listed l'.row) r'.history r'.origin l'.activity l' (r'.seats s)
reads_own z r r' s choice l a l' b h i p = reads_by z r r' s choice l a l' b h i.inv i.after p

-- what it has gathered
pub gathers_own : (z : Sizes) (r r' : Run) (s : ℕ) (choice : Choice) (l : Local) (a : Activity) (l' : Local) → Arrow z (word z r.world) s choice l a l' → Happens z r r' s choice l l' a → Before z r r' → Gathers r'.history r'.origin l'.activity l' (r'.seats s)
gathers_own z r r' s choice l a l' b h i = gathers_by z r r' s choice l a l' b h i.inv i.after

-- what it has seen of a row that it has read
pub seen_own : (z : Sizes) (r r' : Run) (s : ℕ) (choice : Choice) (l : Local) (a : Activity) (l' : Local) → Arrow z (word z r.world) s choice l a l' → Happens z r r' s choice l l' a → Before z r r' → HasSeen r'.history r'.origin l'.activity l' (r'.seats s)
seen_own z r r' s choice l a l' b h i = seen_by z r r' s choice l a l' b h i.inv i.after

-- The other seats.

-- where another seat is in the list of its row: at its row, or nothing is said
walks_if : (n : ℕ) (row : Row) (a : Activity) (k : Local) → (IsAtRead a → ReadsList n row a k) → ReadsList n row a k
walks_if n row (Activity.Look _) k f = f tt
walks_if n row (Activity.Read Read.Start) k f = f tt
walks_if n row (Activity.Read Read.Link) k f = f tt
walks_if n row (Activity.Read Read.Key) k f = f tt
walks_if n row (Activity.Read Read.Version) k f = f tt
walks_if n row (Activity.Read Read.Value) k f = f tt
walks_if n row (Activity.Walk Walk.First) k f = tt
walks_if n row _ k f = tt

module _ (z : Sizes) (r r' : Run) (s : ℕ) (choice : Choice) (l : Local) (a : Activity) (l' : Local) (h : Happens z r r' s choice l l' a) (i : Inv z r) (t : ℕ) (k : Local) (d : t ≢ s) (g : slice_get r.world.locals t ≡ Some k) where
  its_row : IsAtRead k.activity → WasLinked r.ledger.rows k.row
  its_row x = fresh_linked r.ledger.rows t k.row ((i.shape.walks t k g).at (read_at_row k.activity x)).fresh

  -- the row that it has read
  pub read_other : IsKeeping k.activity → (q : ℕ) → (r'.seats t).read ≡ Some q → IsReadRow r'.ledger.rows t k.activity k q
  read_other p q e =
      let x = i.readers.read t k g p q (sym (ap (λ x. x.read) (h.logs t d)) ∙ e) in
      record { call = x.call; visiting = x.visiting; fresh = ((rely z r r' s choice l a l' h i t k d g).fresh x.visiting).fresh q x.fresh }

  -- the cells that it remembers
  pub marks_other : IsLooking k.activity ⊎ IsTaking k.activity → All (IsMarkOf r'.history r'.origin k.row) k.remembered
  marks_other p = marks_stable r.history r'.history r.origin r'.origin r.ledger.rows k.row k.remembered (record_stays z r r' s choice l a l' h i) (its_row (reader_reads k.activity p)) (i.readers.remembers t k g p)

  -- the entries that it has looked at
  pub looks_other : IsLooking k.activity → Looks z r'.listed r'.history r'.origin k.activity k (r'.seats t)
  looks_other p = looks_stable z r r' t k (rely z r r' s choice l a l' h i t k d g) (record_stays z r r' s choice l a l' h i) (its_row (looking_reads k.activity p)) (keeps h i) (i.positions.looks t) (i.readers.looks t k g p)

  -- where it is in the list of its row
  pub walks_other : ReadsList z.cells (list_in (word z r'.world) r'.listed k.row) k.activity k
  walks_other = walks_if z.cells _ k.activity k (λ x. walks_stable z r r' t k (rely z r r' s choice l a l' h i t k d g) (record_stays z r r' s choice l a l' h i) (its_row x) (i.readers.walks t k g))

  -- the cells that it reads
  pub reads_other : IsTaking k.activity → Reads (list_in (word z r'.world) r'.listed k.row) r'.history r'.origin k.activity k (r'.seats t)
  reads_other p = reads_stable z r r' t k (rely z r r' s choice l a l' h i t k d g) (record_stays z r r' s choice l a l' h i) (its_row (taking_reads k.activity p)) (i.positions.looks t) (i.readers.walks t k g) (i.readers.reads t k g p)

  -- what it has gathered
  pub gathers_other : Gathers r'.history r'.origin k.activity k (r'.seats t)
  gathers_other = gathers_stable z r r' t k (rely z r r' s choice l a l' h i t k d g) (record_stays z r r' s choice l a l' h i) (λ x. its_row (taking_reads k.activity x)) (read_linked i t k g) (i.readers.gathers t k g)

  -- that it gathers none twice
  pub apart_other : IsTaking k.activity → Apart z (list_in (word z r'.world) r'.listed k.row) k.activity k
  apart_other p = apart_stable z r r' t k (rely z r r' s choice l a l' h i t k d g) (record_stays z r r' s choice l a l' h i) (its_row (taking_reads k.activity p)) (i.readers.walks t k g) (i.readers.apart t k g p)

  -- what it has seen of the row that it has read
  pub seen_other : HasSeen r'.history r'.origin k.activity k (r'.seats t)
  seen_other = seen_stable z r r' t k (rely z r r' s choice l a l' h i t k d g) (record_stays z r r' s choice l a l' h i) (read_linked i t k g) (i.positions.looks t) (i.readers.seen t k g)

-- The group.

-- all of it
pub readers_keep : (z : Sizes) (r r' : Run) (s : ℕ) (choice : Choice) (l : Local) (a : Activity) (l' : Local) → Happens z r r' s choice l l' a → Before z r r' → Readers z r'
readers_keep z r r' s choice l a l' h i = record {
  within = within_keeps a h i.inv;
  read = each_seat h (λ t k. IsKeeping k.activity → (q : ℕ) → (r'.seats t).read ≡ Some q → IsReadRow r'.ledger.rows t k.activity k q) (read_by a h i.inv i.after) (read_other z r r' s choice l a l' h i.inv);
  remembers = each_seat h (λ t k. IsLooking k.activity ⊎ IsTaking k.activity → All (IsMarkOf r'.history r'.origin k.row) k.remembered) (marks_own z r r' s choice l a l' h.arrow h i) (marks_other z r r' s choice l a l' h i.inv);
  looks = each_seat h (λ t k. IsLooking k.activity → Looks z r'.listed r'.history r'.origin k.activity k (r'.seats t)) (looks_own z r r' s choice l a l' h.arrow h i) (looks_other z r r' s choice l a l' h i.inv);
  walks = each_seat h (λ t k. ReadsList z.cells (list_in (word z r'.world) r'.listed k.row) k.activity k) (walks_by z r r' s choice l a l' h.arrow h i.inv) (walks_other z r r' s choice l a l' h i.inv);
  reads = each_seat h (λ t k. IsTaking k.activity → Reads (list_in (word z r'.world) r'.listed k.row) r'.history r'.origin k.activity k (r'.seats t)) (reads_own z r r' s choice l a l' h.arrow h i) (reads_other z r r' s choice l a l' h i.inv);
  gathers = each_seat h (λ t k. Gathers r'.history r'.origin k.activity k (r'.seats t)) (gathers_own z r r' s choice l a l' h.arrow h i) (gathers_other z r r' s choice l a l' h i.inv);
  apart = each_seat h (λ t k. IsTaking k.activity → Apart z (list_in (word z r'.world) r'.listed k.row) k.activity k) (apart_by z r r' s choice l a l' h.arrow h i.inv) (apart_other z r r' s choice l a l' h i.inv);
  seen = each_seat h (λ t k. HasSeen r'.history r'.origin k.activity k (r'.seats t)) (seen_own z r r' s choice l a l' h.arrow h i) (seen_other z r r' s choice l a l' h i.inv);
}
