-- What is known of a reader survives every event of another seat: what is due to it never changes.
use Rattle.std.proofs.Common.{ℕ, ◌≡◌, ◌≤◌, List, Some, sym, ap, subst, length}
use Rattle.kw_world.specs.declared.local.Local.{Local}
use Rattle.kw_world.specs.Sizes.{Sizes}
use Rattle.std.specs.Prelude.{All}
use Rattle.kw_world.specs.declared.marks.Mark.{Mark}
use Rattle.kw_world.specs.Step.{word}
use Rattle.kw_core.specs.History.{History}
use Rattle.kw_core.specs.Run.{Run, Origins}
use Rattle.kw_core.specs.Stages.{IsKeeping, IsTaking}
use Rattle.kw_rows.specs.Ledger.{Ledger}
use Rattle.kw_rows.specs.Rows.{WasLinked}
use Rattle.kw_puts.specs.Lists.{list_in}
use Rattle.kw_reads.specs.Readers.{IsMarkOf, Looks, ReadsList, Reads, Gathers, Apart, HasSeen}
use Rattle.kw_puts.proofs.Rely.{Rely}
use Rattle.kw_reads.proofs.Ready.{KeepsListed, RecordStays, due_before, stamped_lasts, marks_last, copies_last, looks_last, walks_last, reads_last, apart_lasts}

-- the cells that the reader remembers
pub marks_stable : (h h' : History) (o o' : Origins) (g : Ledger) (q : ℕ) (marks : List Mark) → RecordStays h h' o o' g → WasLinked g q → All (IsMarkOf h o q) marks → All (IsMarkOf h' o' q) marks
marks_stable h h' o o' g q marks x w m = marks_last x q w marks m

module _ (z : Sizes) (r r' : Run) (t : ℕ) (k : Local) (y : Rely z r r' t k) (x : RecordStays r.history r'.history r.origin r'.origin r.ledger.rows) where
  -- the entries at which the reader looked, before the event
  pub looks_stable : WasLinked r.ledger.rows k.row → KeepsListed r.ledger.rows r.listed r'.listed → (r.seats t).looked ≤ length r.history.log → Looks z r.listed r.history r.origin k.activity k (r.seats t) → Looks z r'.listed r'.history r'.origin k.activity k (r'.seats t)
  looks_stable w f b n = looks_last x z r.listed r'.listed k.activity k (r.seats t) (r'.seats t) w f (ap (λ g. g.looked) y.log) b n

  -- where it is in the list of its row, which is linked
  pub walks_stable : WasLinked r.ledger.rows k.row → ReadsList z.cells (list_in (word z r.world) r.listed k.row) k.activity k → ReadsList z.cells (list_in (word z r'.world) r'.listed k.row) k.activity k
  walks_stable w n = walks_last z.cells _ _ (y.lists.leaves k.row w) k.activity k n

  -- the cells that it reads
  pub reads_stable : WasLinked r.ledger.rows k.row → (r.seats t).looked ≤ length r.history.log → ReadsList z.cells (list_in (word z r.world) r.listed k.row) k.activity k →
      Reads (list_in (word z r.world) r.listed k.row) r.history r.origin k.activity k (r.seats t) → Reads (list_in (word z r'.world) r'.listed k.row) r'.history r'.origin k.activity k (r'.seats t)
  reads_stable w b m n = reads_last x z.cells _ _ (y.lists.leaves k.row w) k.activity k (r.seats t) (r'.seats t) w m (ap (λ g. g.looked) y.log) (ap (λ g. g.ids) y.log) b n

  -- that it gathers no cell twice
  pub apart_stable : WasLinked r.ledger.rows k.row → ReadsList z.cells (list_in (word z r.world) r.listed k.row) k.activity k → Apart z (list_in (word z r.world) r.listed k.row) k.activity k → Apart z (list_in (word z r'.world) r'.listed k.row) k.activity k
  apart_stable w m n = apart_lasts z _ _ (y.lists.leaves k.row w) k.activity k m n

  -- what it has gathered, of its row or of the row that it has read
  pub gathers_stable : (IsTaking k.activity → WasLinked r.ledger.rows k.row) → (IsKeeping k.activity → (q : ℕ) → (r.seats t).read ≡ Some q → WasLinked r.ledger.rows q) → Gathers r.history r.origin k.activity k (r.seats t) → Gathers r'.history r'.origin k.activity k (r'.seats t)
  gathers_stable w u n = subst (λ g. Gathers r'.history r'.origin k.activity k g) (sym y.log) (record {
    empty = n.empty;
    no_ids = n.no_ids;
    taking = λ a. copies_last x k.row (w a) k.call k.gathered (r.seats t).ids (n.taking a);
    kept = λ a q e. copies_last x q (u a q e) k.call k.gathered (r.seats t).ids (n.kept a q e);
  })

  -- the row was read before the event
  pub seen_stable : (IsKeeping k.activity → (q : ℕ) → (r.seats t).read ≡ Some q → WasLinked r.ledger.rows q) → (r.seats t).looked ≤ length r.history.log → HasSeen r.history r.origin k.activity k (r.seats t) → HasSeen r'.history r'.origin k.activity k (r'.seats t)
  seen_stable u b n = subst (λ g. HasSeen r'.history r'.origin k.activity k g) (sym y.log) (record {
    unread = n.unread;
    stamped = λ a q e c p d. (stamped_lasts x p (n.stamped a q e c p (due_before x q k.call (r.seats t).looked c p (u a q e) b d))).0;
    taken = λ a q e c p d. n.taken a q e c p (due_before x q k.call (r.seats t).looked c p (u a q e) b d);
  })
