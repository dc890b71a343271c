-- All of it holds where nothing happened.
use Rattle.std.proofs.Common.{ℕ, ◌⊎◌, None, Some, arith, refl, ◌≡◌, []}
use Rattle.kw_world.specs.Sizes.{Sizes}
use Rattle.kw_world.specs.declared.opening.Opening.{Opening}
use Rattle.std.specs.Prelude.{All}
use Rattle.kw_world.specs.Opening.{IsOpening, opened}
use Rattle.kw_core.specs.Noted.{nothing_yet}
use Rattle.kw_core.specs.Stages.{IsKeeping, IsLooking, IsReading, IsTaking}
use Rattle.kw_core.specs.Run.{no_log}
use Rattle.kw_world.specs.Step.{word}
use Rattle.kw_core.specs.Run.{start}
use Rattle.kw_core.specs.Listed.{none_listed}
use Rattle.kw_puts.specs.Lists.{list_in}
use Rattle.kw_reads.specs.Readers.{IsMarkOf, Looks, ReadsList, Reads, Gathers, Apart, HasSeen, IsReadRow, Readers}
use Rattle.kw_reads.specs.Replies.{HasPairs, IsAnswered, Replies}
use Rattle.kw_reads.specs.Contents.{Contents, IsFronted, IsLater, floor_of, version_of}
use Rattle.kw_reads.specs.Inv.{Inv}
use Rattle.kw_reads.proofs.RowsKept.{borns_start, over_start, past_start, inside_start, older_start, unpinned_start, kept_start, dead_start, needs_start}
use Rattle.kw_core.proofs.NotedLaws.{nothing_keeps}
use Rattle.kw_shape.proofs.ShapeOpens.{each_rests, shape_starts}
use Rattle.kw_shape.specs.Shape.{IsPutCall}
use Rattle.kw_puts.proofs.ListsKeep.{lists_start}
use Rattle.kw_puts.proofs.PutsOpen.{puts_start, positions_start}

module _ (z : Sizes) (o : Opening) (i : IsOpening z o) where
  pub readers_start : Readers z (start z o)
  readers_start = record {
    within = λ q c p e. let x : None ≡ Some p = e in absurd (cc);
    read = each_rests z o (λ t l. IsKeeping l.activity → (q : ℕ) → None ≡ Some q → IsReadRow (start z o).ledger.rows t l.activity l q) (λ t x. absurd x);
    remembers = each_rests z o (λ t l. IsLooking l.activity ⊎ IsTaking l.activity → All (IsMarkOf nothing_yet (λ q c. None) l.row) l.remembered) (λ t x j c w. absurd (omega arith));
    looks = each_rests z o (λ t l. IsLooking l.activity → Looks z none_listed nothing_yet (λ q c. None) l.activity l no_log) (λ t x. absurd x);
    walks = each_rests z o (λ t l. ReadsList z.cells (list_in (word z (opened z o)) none_listed l.row) l.activity l) (λ t. tt);
    reads = each_rests z o (λ t l. IsTaking l.activity → Reads (list_in (word z (opened z o)) none_listed l.row) nothing_yet (λ q c. None) l.activity l no_log) (λ t x. absurd x);
    gathers = each_rests z o (λ t l. Gathers nothing_yet (λ q c. None) l.activity l no_log) (λ t. record { empty = λ x. absurd x; no_ids = λ x. absurd x; taking = λ x. absurd x; kept = λ x. absurd x });
    apart = each_rests z o (λ t l. IsTaking l.activity → Apart z (list_in (word z (opened z o)) none_listed l.row) l.activity l) (λ t x. absurd x);
    seen = each_rests z o (λ t l. HasSeen nothing_yet (λ q c. None) l.activity l no_log) (λ t. record { unread = λ x. absurd x; stamped = λ x. absurd x; taken = λ x. absurd x });
  }

  pub contents_start : Contents z (start z o)
  contents_start = record {
    borns = borns_start z o i;
    over = over_start z o i;
    past = past_start z o i;
    inside = inside_start z o i;
    older = older_start z o i;
    unpinned = unpinned_start z o i;
    kept = kept_start z o i;
    dead = dead_start z o i;
    later = each_rests z o (λ t l. IsLater (start z o).ledger.rows (floor_of (start z o) t l) l.activity l) (λ t. record { row = λ x. absurd x; saw = λ x. absurd x; next = λ x. absurd x });
    needs = needs_start z o i;
    front = each_rests z o (λ t l. IsReading l.activity → IsFronted z (start z o) l.row (version_of l) (floor_of (start z o) t l) no_log.looked) (λ t x. absurd x);
  }

  pub replies_start : Replies (start z o)
  replies_start = record {
    pairs = each_rests z o (λ t l. HasPairs nothing_yet l.activity l no_log) (λ t. record { early = λ x. refl; from = λ e x. absurd x; upto = λ e x. absurd x; covers = λ e x. absurd x; covered = tt });
    unpaired = each_rests z o (λ t l. IsPutCall l.call → l.pairs ≡ []) (λ t x. absurd x);
    answers = each_rests z o (λ t l. IsAnswered l.activity l.call nothing_yet l no_log) (λ t. tt);
  }

pub inv_start : (z : Sizes) (o : Opening) → IsOpening z o → Inv z (start z o)
inv_start z o i = record { shape = shape_starts z o i; history = nothing_keeps; puts = puts_start z o i; lists = lists_start z o i; positions = positions_start z o i; readers = readers_start z o i; contents = contents_start z o i; replies = replies_start z o i }
