-- What a get or a scan knows that has read its row to the end: what it answers, and the pairs of
-- the row's keys.
--
-- By the law of readers it knows a gap of each key that the row may hold, which shows what its best
-- gathered cell shows: each attempt of the key that was announced before the call began, or drew,
-- is lost, or stamped and not after the gap.
use Rattle.std.proofs.Common.{ℕ, zero, suc, ◌≡◌, ◌⊎◌, inl, inr, ◌+◌, ◌<◌, ◌≤◌, true, Option, Some, None, List, [], ◌∷◌, ◌++◌, arith, refl, sym, ◌∙◌, ap, All, nat_le, ◌&&◌}
use Rattle.std.proofs.lemmas.Bool.{cases_lt}
use Rattle.std.proofs.lemmas.Option.{same_Some}
use Rattle.std.proofs.lemmas.Bool.Decides.{nat_tests}
use Rattle.kw_words.specs.declared.layout.Name.TheVariants as name
use Rattle.kw_words.specs.declared.sizes.TheConstants.{VERSION_END}
use Rattle.kw_cells.specs.declared.cell.Cell as kw_cell
use Rattle.kw_cells.specs.Cells.{shown_at, pairs_of}
use Rattle.kw_cells.proofs.Best.{shown_at-absent}
use Rattle.kw_model.specs.Map.{found, value_of}
use Rattle.kw_model.specs.declared.call.Call.{Call}
use Rattle.kw_world.specs.declared.local.Local.{Local}
use Rattle.kw_world.specs.declared.limits.TheConstants.{NEWEST}
use Rattle.kw_world.specs.Sizes.{Sizes}
use Rattle.kw_world.specs.Calls.{first_key, last_key, is_in_range}
use Rattle.kw_world.specs.Step.{word}
use Rattle.kw_core.specs.History.{Absent, History, LoadClock, Value, attempt}
use Rattle.kw_core.specs.HistoryLaws.{HasVersionUpTo, IsEarly, IsGapOf, IsPut, ScanKey, StandsUpTo, answer_of, shows}
use Rattle.kw_core.specs.Run.{Run, best_id}
use Rattle.kw_core.specs.declared.seat_log.SeatLog.{SeatLog}
use Rattle.kw_kept.specs.Puts as kept
use Rattle.kw_kept.specs.Puts.{Same}
use Rattle.kw_kept.specs.Readers.{Knows}
use Rattle.kw_shape.specs.Shape.{HoldsKey}
use Rattle.kw_shape.proofs.LinkedRows.{fresh_linked}
use Rattle.kw_puts.specs.Below.{Below}
use Rattle.kw_reads.specs.Contents.{Contents, puts_of}
use Rattle.kw_reads.specs.Replies.{AnswersGet, Covers, RisesBelow}
use Rattle.kw_reads.specs.Readers.{AreCopies, IsCopyOf}
use Rattle.kw_reads.proofs.KeyedCells.{keyed}
use Rattle.kw_reads.proofs.RangePairs.{rises_joined, none_from, none_under, value_first, value_second, range_rises, range_value}
use Rattle.kw_reads.proofs.ReadsRow.{HasReadRow, gives, row_known_at_end, sets}

-- what is found is an answer
found_answers : (x : Option ℕ) → found x ≡ answer_of x
found_answers (Some v) = refl
found_answers None = refl

-- a key between the first and the last is in the range
pub in_range_of : (call : Option Call) (key : ℕ) → first_key call ≤ key → key ≤ last_key call → is_in_range call key ≡ true
in_range_of call key a b = range_test (first_key call) (last_key call) key a b
  where
    range_test : (from upto key : ℕ) → from ≤ key → key ≤ upto → (nat_le from key && nat_le key upto) ≡ true
    range_test from upto key a b = grind (arith, nat_tests)

-- what a gap of a key is of
gap_of : (h : History) (key : ℕ) (o : Option ℕ) → ((p : ℕ) → o ≡ Some p → IsPut h p × ((attempt h p).key ≡ key)) → IsGapOf h key o
gap_of h key None f = tt
gap_of h key (Some p) f = let x = f p refl in record { is_put = x.0; key = x.1 }

-- the version of its put is in bound
bound_of : (h : History) (version : ℕ) (o : Option ℕ) → ((p : ℕ) → o ≡ Some p → (attempt h p).version ≤ version) → HasVersionUpTo h o version
bound_of h version None f = tt
bound_of h version (Some p) f = f p refl

-- what stands up to it
upto_of : (h : History) (o : Option ℕ) (q : ℕ) → kept.StandsUpTo (puts_of h) o q → StandsUpTo h o q
upto_of h None q x = x
upto_of h (Some p) q x = x

-- what it shows
shown_of : (h : History) (o : Option ℕ) → kept.value_of (puts_of h) o ≡ shows h o
shown_of h None = refl
shown_of h (Some p) = refl

-- two that are the same show the same
same_shown : (h : History) (o q : Option ℕ) → Same (puts_of h) o q → shows h o ≡ shows h q
same_shown h o q (inl e) = ap (shows h) e
same_shown h o q (inr e) = sym (shown_of h o) ∙ e.0 ∙ sym e.1 ∙ shown_of h q

-- where one shows a value they are one
same_one : (h : History) (o q : Option ℕ) (v : ℕ) → Same (puts_of h) o q → shows h q ≡ Some v → q ≡ o
same_one h o q v (inl e) f = sym e
same_one h o q v (inr e) f = let x : None ≡ Some v = sym e.1 ∙ shown_of h q ∙ f in absurd (cc)

-- an answer of a value is of one that was found
found_value : (x : Option ℕ) (v : ℕ) → found x ≡ Value v → x ≡ Some v
found_value (Some w) v e = cc
found_value None v e = let x : Absent ≡ Value v = e in absurd (cc)

module _ (z : Sizes) (r : Run) (b : Below z r) (c : Contents z r) (t : ℕ) (m : Local) (g : SeatLog) (version floor : ℕ) (read : HasReadRow z r t m g version floor) (early : floor ≤ g.looked) where
  -- the row holds each key from the wanted one on that is below the next row
  holds : (key : ℕ) → m.want ≤ key → ((n : ℕ) → m.next ≡ Some n → key < m.upper) → HoldsKey (word z r.world) r.ledger.rows m.row key
  holds key w f = record {
    from = omega (arith, read.at.from, w);
    below = λ u e. ends m.next refl u e;
  }
    where
      ends : (o : Option ℕ) → m.next ≡ o → (u : ℕ) → (r.ledger.rows.fates m.row).upper ≡ Some u → key < u
      ends None x u e = let y : None ≡ Some u = sym (read.at.last x) ∙ e in absurd (cc)
      ends (Some n) x u e = omega (arith, f n x, same_Some m.upper u (sym (read.at.next n x).ends ∙ e))

  -- the version of a stamped attempt is in range
  version_below : (q : ℕ) → IsPut r.history q → (attempt r.history q).version < VERSION_END
  version_below q s = omega (arith, b.positions.clocked.past _ LoadClock _ (b.history.laws.loaded q s), (b.shape.sane.each name.Clock tt).1)

  -- a key of the row that the call reads
  module _ (key : ℕ) (held : HoldsKey (word z r.world) r.ledger.rows m.row key) (range : is_in_range m.call key ≡ true) where
    -- what the reader knows of it
    known : Knows (puts_of r.history) (sets z r b c t m g version floor read key held range early) key version (best_id m.gathered g.ids key version)
    known = row_known_at_end z r b c t m g version floor read key held range early

    gap : IsGapOf r.history key known.gap
    gap = gap_of r.history key known.gap (λ p e. let x = known.of_key p e in (x.0, x.1))

    -- the gap shows what was found
    gap_shown : shows r.history known.gap ≡ shown_at m.gathered version key
    gap_shown = same_shown r.history known.gap (best_id m.gathered g.ids key version) known.shows ∙ (gives z r b c t m g version floor read key held range early).shown

    -- the early attempts are lost, or stamped and up to the gap
    early_known : (q : ℕ) → IsEarly r.history key floor q → ((attempt r.history q).is_lost ≡ true) ⊎ IsPut r.history q × ((attempt r.history q).version ≤ version → StandsUpTo r.history known.gap q)
    early_known q x = which (known.knows q (x.is_announced, x.before) x.key)
      where
        which : ((attempt r.history q).is_lost ≡ true) ⊎ IsPut r.history q × ((attempt r.history q).version ≤ version → kept.StandsUpTo (puts_of r.history) known.gap q) → ((attempt r.history q).is_lost ≡ true) ⊎ IsPut r.history q × ((attempt r.history q).version ≤ version → StandsUpTo r.history known.gap q)
        which (inl y) = inl y
        which (inr y) = inr (y.0, λ u. upto_of r.history known.gap q (y.1 u))

  -- what a get answers
  pub get_known : (key : ℕ) → version ≡ NEWEST → m.want ≡ key → is_in_range m.call key ≡ true → AnswersGet r.history key floor (found (shown_at m.gathered version key)) (best_id m.gathered g.ids key version)
  get_known key newest e range = record {
    gap = k.gap;
    knows = record {
      gap = gap key held range;
      reply = found_answers (shown_at m.gathered version key) ∙ ap answer_of (sym (gap_shown key held range));
      early = λ q x. which q (early_known key held range q x);
    };
    answer = λ v f. same_one r.history k.gap (best_id m.gathered g.ids key version) v k.shows ((gives z r b c t m g version floor read key held range early).shown ∙ found_value (shown_at m.gathered version key) v f);
  }
    where
      held : HoldsKey (word z r.world) r.ledger.rows m.row key
      held = holds key (omega (arith, e)) (λ n f. omega (arith, e, (read.at.next n f).below))

      k : Knows (puts_of r.history) (sets z r b c t m g version floor read key held range early) key version (best_id m.gathered g.ids key version)
      k = known key held range

      which : (q : ℕ) → ((attempt r.history q).is_lost ≡ true) ⊎ IsPut r.history q × ((attempt r.history q).version ≤ version → StandsUpTo r.history k.gap q) → ((attempt r.history q).is_lost ≡ true) ⊎ IsPut r.history q × StandsUpTo r.history k.gap q
      which q (inl x) = inl x
      which q (inr x) = inr (x.0, x.1 (omega (arith, version_below q x.0, newest)))

  -- what a scan gives for a key of its row
  scan_known : (key : ℕ) (pairs : List (ℕ × ℕ)) → m.want ≤ key → ((n : ℕ) → m.next ≡ Some n → key < m.upper) → is_in_range m.call key ≡ true → value_of key pairs ≡ shown_at m.gathered version key → (o : Option ℕ) × ScanKey r.history key version floor pairs o
  scan_known key pairs w f range e = (
    k.gap,
    record {
      gap = gap key held range;
      version = bound_of r.history version k.gap (λ p x. (k.of_key p x).2);
      reply = e ∙ sym (gap_shown key held range);
      early = early_known key held range;
    },
  )
    where
      held : HoldsKey (word z r.world) r.ledger.rows m.row key
      held = holds key w f

      k : Knows (puts_of r.history) (sets z r b c t m g version floor read key held range early) key version (best_id m.gathered g.ids key version)
      k = known key held range

  -- no gathered cell has a key of the next row
  nothing_above : (n key : ℕ) → m.next ≡ Some n → m.upper ≤ key → shown_at m.gathered version key ≡ None
  nothing_above n key e w = shown_at-absent m.gathered version key (below m.gathered g.ids read.copies)
    where
      held : (d : kw_cell.Cell) (p : ℕ) → IsCopyOf r.history r.origin m.row m.call d p → d.key ≡ key → ⊥
      held d p x same =
          let h = keyed z r b m.row d.place p (fresh_linked r.ledger.rows t m.row read.at.fresh) (read.within m.row d.place p x.origin) x.origin in
          omega (arith, h.below m.upper (read.at.next n e).ends, x.key, same, w)

      below : (cells : List kw_cell.Cell) (ids : List ℕ) → AreCopies r.history r.origin m.row m.call cells ids → All (λ d. d.key ≡ key → ⊥) cells
      below [] ids x k d l = absurd (omega arith)
      below (d ∷ cells) [] x k e l = absurd x
      below (d ∷ cells) (p ∷ ids) x zero e l = held d p x.0
      below (d ∷ cells) (p ∷ ids) x (suc k) e l = below cells ids x.1 k e (omega arith)

  -- the pairs of the row, after those of the rows before it
  pub row_covers : (bound : ℕ) → first_key m.call ≤ m.want → m.want < bound → bound ≤ last_key m.call + 1 → ((key n : ℕ) → key < bound → m.next ≡ Some n → key < m.upper) → (bound ≤ last_key m.call → (n : ℕ) × (m.next ≡ Some n) × (m.upper ≤ bound)) →
      Covers r.history (first_key m.call) version floor m.want m.pairs → Covers r.history (first_key m.call) version floor bound (m.pairs ++ pairs_of m.gathered m.want (last_key m.call) version)
  row_covers bound from w u f a d = record {
    rises = rises_joined (first_key m.call) m.want bound m.pairs new from (omega (arith, w)) d.rises rises;
    keys = λ key x y. which key x y (cases_lt key m.want);
  }
    where
      new : List (ℕ × ℕ)
      new = pairs_of m.gathered m.want (last_key m.call) version

      rises : RisesBelow m.want bound new
      rises = range_rises (shown_at m.gathered version) m.want (last_key m.call) bound w u (λ k x y. let t = a (omega (arith, x, y)) in nothing_above t.0 k t.1 (omega (arith, t.2, x)))

      which : (key : ℕ) → first_key m.call ≤ key → key < bound → (key < m.want) ⊎ (m.want ≤ key) → (p : Option ℕ) × ScanKey r.history key version floor (m.pairs ++ new) p
      which key x y (inl t) =
          let s = d.keys key x t in
          (s.0, record { gap = s.1.gap; version = s.1.version; reply = value_first key m.pairs new (none_under m.want bound key new rises t) ∙ s.1.reply; early = s.1.early })
      which key x y (inr t) = scan_known key (m.pairs ++ new) t (λ n e. f key n y e) (in_range_of m.call key x (omega (arith, y, u)))
          (value_second key m.pairs new (none_from (first_key m.call) m.want key m.pairs d.rises t) ∙ range_value (shown_at m.gathered version) m.want (last_key m.call) key t (omega (arith, y, u)))
