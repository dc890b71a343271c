-- What rows have kept of the stamped puts, over every event and at the opening: each part of it
-- from the whole invariant.
use Rattle.std.proofs.Common.{ℕ, zero, suc, ◌≡◌, ◌⊎◌, ◌<◌, true, inl, Option, Some, None, arith, refl, sym, ◌∙◌, slice_get}
use Rattle.kw_words.specs.declared.kind.Kind.{Kind}
use Rattle.kw_words.specs.declared.layout.Name.TheVariants as name
use Rattle.kw_words.specs.declared.scan.ScanWord.TheVariants.{Quiet, Drawn}
use Rattle.kw_words.specs.Scan.{scan_word}
use Rattle.kw_rows.specs.Ledger.{Dead, Free, IsDead, Live}
use Rattle.kw_world.specs.declared.activity.Activity.{Activity}
use Rattle.kw_world.specs.declared.event.Choice.{Choice}
use Rattle.kw_world.specs.declared.local.Local.{Local}
use Rattle.kw_world.specs.declared.opening.Opening.{Opening}
use Rattle.kw_world.specs.Opening.{IsOpening}
use Rattle.kw_world.specs.Sizes.{Sizes}
use Rattle.kw_world.specs.Step.{word}
use Rattle.kw_core.specs.History.{attempt, Stands}
use Rattle.kw_core.specs.HistoryLaws.{IsPut}
use Rattle.kw_core.specs.Ledger.{ledger_at_first}
use Rattle.kw_core.specs.Noted.{nothing_yet}
use Rattle.kw_core.specs.Run.{Run, start}
use Rattle.kw_core.specs.Step.{Step}
use Rattle.kw_core.proofs.Attempts.{in_range}
use Rattle.kw_core.proofs.Happens.{Happens, each_seat, log_entry}
use Rattle.kw_core.proofs.Steps.{announced_within, stands_before}
use Rattle.kw_shape.proofs.ShapeOpens.{each_rests, opens}
use Rattle.kw_shape.specs.Hands.{IsAllFrozen}
use Rattle.kw_shape.specs.Shape.{HoldsKey}
use Rattle.kw_kept.specs.Kept.{Kept}
use Rattle.kw_kept.specs.Puts.{Greatest, Same, Shows}
use Rattle.kw_puts.specs.Below.{Below}
use Rattle.kw_puts.specs.Here.{IsHere}
use Rattle.kw_reads.specs.Contents.{Borns, InRow, IsGone, IsOlder, IsPast, IsStanding, Needed, Needs, ThroughPin, WasPut, puts_of, rows_of}
use Rattle.kw_reads.specs.Inv.{Inv, lower}
use Rattle.kw_reads.proofs.DeadRows as dead_rows
use Rattle.kw_reads.proofs.DeadRows.{inside_of, over_of}
use Rattle.kw_reads.proofs.HistoryKeeps.{history_step}
use Rattle.kw_reads.proofs.KeptKeeps as kept_rows
use Rattle.kw_reads.proofs.NeedsKeep.{needs_other, needs_own}
use Rattle.kw_reads.proofs.PastAttempts as past_attempts
use Rattle.kw_reads.proofs.RowTimes as row_times
use Rattle.kw_reads.proofs.RowTimes.{borns_keep}
use Rattle.kw_reads.proofs.ScanMoves.{pinned_was}

-- Over every event.

module _ (z : Sizes) (r r' : Run) (s : ℕ) (choice : Choice) (l : Local) (a : Activity) (l' : Local) (h : Happens z r r' s choice l l' a) (i : Inv z r) (after : Below z r') where
  -- the event as one step of the record
  step : Step r.history r'.history (log_entry z r a s choice l)
  step = history_step z r r' s choice l a l' h i

  -- what no event takes from a row
  pub borns_keeps : Borns z r'
  borns_keeps = borns_keep z r r' s choice l a l' h (lower i) step i.contents.borns

  -- what has become of the attempts of dead rows
  pub over_keeps : (p : ℕ) → (attempt r'.history p).is_announced ≡ true → IsHere r'.ledger.rows r'.history p → IsDead r'.ledger.rows (attempt r'.history p).row → IsGone r' p
  over_keeps = over_of z r' after

  -- and of those whose rows were used again
  pub past_keeps : (p : ℕ) → (attempt r'.history p).is_announced ≡ true → (IsHere r'.ledger.rows r'.history p → ⊥) → IsPast r' p
  past_keeps = past_attempts.past_keeps z r r' s choice l a l' h (lower i) step after i.contents

  -- what dead rows have cells of
  pub inside_keeps : (q p : ℕ) → IsDead r'.ledger.rows q → InRow z r' q p → (attempt r'.history p).at < (r'.ledger.rows.fates q).gone
  inside_keeps = inside_of z r' after borns_keeps

  -- what rows have no cells of
  pub older_keeps : (q p : ℕ) → IsPut r'.history p → IsStanding r' q p → HoldsKey (word z r'.world) r'.ledger.rows q (attempt r'.history p).key → InRow z r' q p ⊎ IsOlder r' q p
  older_keeps = row_times.older_keeps z r r' s choice l a l' h (lower i) step i.contents

  -- no pin is made
  pub unpinned_keeps : (j u : ℕ) → ThroughPin z r' j u → ⊥
  unpinned_keeps j u t = i.contents.unpinned j u (pinned_was z r r' s choice l a l' h (lower i) j u t)

  -- what the rows of the list show
  pub kept_keeps : Kept (puts_of r'.history) (rows_of z r') (Needed z r')
  kept_keeps = kept_rows.kept_keeps z r r' s choice l a l' h (lower i) step i.contents

  -- what dead rows show
  pub dead_keeps : (q k u : ℕ) → IsDead r'.ledger.rows q → HoldsKey (word z r'.world) r'.ledger.rows q k → Needed z r' u → Shows (puts_of r'.history) (InRow z r' q) (WasPut r' q) k u
  dead_keeps = dead_rows.dead_keeps z r r' s choice l a l' h (lower i) step i.contents

  -- what rebalances know of needed versions
  pub needs_keeps : (t : ℕ) (k : Local) → slice_get r'.world.locals t ≡ Some k → IsAllFrozen k.activity → Needs z r' k.activity k
  needs_keeps = each_seat h (λ t k. IsAllFrozen k.activity → Needs z r' k.activity k) (needs_own z r r' s choice l a l' h (lower i) step after i.contents) (needs_other z r r' s choice l a l' h (lower i) step i.contents)

-- Where nothing happened: no put is stamped, and no row is dead.

-- no attempt is stamped or announced
no_put : {A : Type 0} (p : ℕ) → IsPut nothing_yet p → A
no_put p x = absurd (omega (arith, in_range nothing_yet p x))

-- nor is one announced
none_announced : {A : Type 0} (p : ℕ) → (attempt nothing_yet p).is_announced ≡ true → A
none_announced p x = absurd (omega (arith, announced_within nothing_yet p x))

-- no event stands in the log
none_stands : {A : Type 0} (x : ℕ) (k : Kind) (c : ℕ) → Stands nothing_yet x k c → A
none_stands x k c t = absurd (omega (arith, stands_before nothing_yet x k c t))

-- no row is dead
none_dead : {A : Type 0} (o : Opening) (q : ℕ) → IsDead (ledger_at_first o).rows q → A
none_dead o zero d = let x : Live ≡ Dead = d in absurd (cc)
none_dead o (suc q) d = let x : Free ≡ Dead = d in absurd (cc)

-- sets of stamped puts are empty, and so show the same
empty_shows : (P : ℕ → Type 0) → ((p : ℕ) → P p → IsPut nothing_yet p) → (k u : ℕ) (b t : Option ℕ) → Greatest (puts_of nothing_yet) P k u b → Greatest (puts_of nothing_yet) (IsPut nothing_yet) k u t → Same (puts_of nothing_yet) b t
empty_shows P f k u None None x y = inl refl
empty_shows P f k u (Some p) t x y = no_put p (f p (x.among p refl).0)
empty_shows P f k u None (Some p) x y = no_put p (y.among p refl).0

module _ (z : Sizes) (o : Opening) (i : IsOpening z o) where
  -- what no event takes from a row
  pub borns_start : Borns z (start z o)
  borns_start = record { gone = λ q d. none_dead o q d; clock = λ q k. omega (arith, opens z o i name.Clock tt); after = λ q x c k w t n. none_stands x k c t; waits = λ q. omega arith }

  -- what has become of the attempts of dead rows
  pub over_start : (p : ℕ) → (attempt (start z o).history p).is_announced ≡ true → IsHere (start z o).ledger.rows (start z o).history p → IsDead (start z o).ledger.rows (attempt (start z o).history p).row → IsGone (start z o) p
  over_start p a x d = none_announced p a

  -- and of those whose rows were used again
  pub past_start : (p : ℕ) → (attempt (start z o).history p).is_announced ≡ true → (IsHere (start z o).ledger.rows (start z o).history p → ⊥) → IsPast (start z o) p
  past_start p a n = none_announced p a

  -- what dead rows have cells of
  pub inside_start : (q p : ℕ) → IsDead (start z o).ledger.rows q → InRow z (start z o) q p → (attempt (start z o).history p).at < ((start z o).ledger.rows.fates q).gone
  inside_start q p d x = none_dead o q d

  -- what rows have no cells of
  pub older_start : (q p : ℕ) → IsPut (start z o).history p → IsStanding (start z o) q p → HoldsKey (word z (start z o).world) (start z o).ledger.rows q (attempt (start z o).history p).key → InRow z (start z o) q p ⊎ IsOlder (start z o) q p
  older_start q p x s y = no_put p x

  -- no pin is made
  pub unpinned_start : (j u : ℕ) → ThroughPin z (start z o) j u → ⊥
  unpinned_start j u t = let x : scan_word Quiet ≡ scan_word (Drawn u) = sym (opens z o i (name.Pin j) t.0) ∙ t.1 in omega (arith, x)

  -- what the rows of the list show
  pub kept_start : Kept (puts_of (start z o).history) (rows_of z (start z o)) (Needed z (start z o))
  kept_start q k u x n = empty_shows (InRow z (start z o) q) (λ p m. m.is_put) k u

  -- what dead rows show
  pub dead_start : (q k u : ℕ) → IsDead (start z o).ledger.rows q → HoldsKey (word z (start z o).world) (start z o).ledger.rows q k → Needed z (start z o) u → Shows (puts_of (start z o).history) (InRow z (start z o) q) (WasPut (start z o) q) k u
  dead_start q k u d x n = none_dead o q d

  -- what rebalances know of needed versions
  pub needs_start : (t : ℕ) (k : Local) → slice_get (start z o).world.locals t ≡ Some k → IsAllFrozen k.activity → Needs z (start z o) k.activity k
  needs_start = each_rests z o (λ t l. IsAllFrozen l.activity → Needs z (start z o) l.activity l) (λ t x. absurd x)
