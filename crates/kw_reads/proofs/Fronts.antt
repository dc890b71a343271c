-- What a reader knows of the puts that were stamped before it looked at its row, or before the row
-- went: it is so at its first look, and lasts over every event.
use Rattle.std.proofs.Common.{ℕ, ◌≡◌, ◌⊎◌, inl, inr, ◌≤◌, ◌<◌, Bool, true, false, Some, arith, refl, sym, ◌∙◌, ap, subst, length, slice_get, if◌then◌else◌}
use Rattle.std.proofs.lemmas.Option.{slice_get_within}
use Rattle.kw_words.specs.declared.layout.Name.TheVariants as name
use Rattle.kw_world.specs.declared.activity.Activity.{Activity}
use Rattle.kw_world.specs.declared.activity.look.Look.TheVariants as Look
use Rattle.kw_world.specs.declared.event.Choice.{Choice}
use Rattle.kw_world.specs.declared.limits.TheConstants.{NEWEST}
use Rattle.kw_world.specs.declared.local.Local.{Local}
use Rattle.kw_world.specs.Calls.{is_scan}
use Rattle.kw_world.specs.Sizes.{Sizes}
use Rattle.kw_world.specs.Step.{word}
use Rattle.kw_core.specs.Grows.{AttemptGrows}
use Rattle.kw_core.specs.History.{History, attempt}
use Rattle.kw_core.specs.HistoryLaws.{IsPut}
use Rattle.kw_core.specs.Run.{Run}
use Rattle.kw_core.specs.Stages.{IsAtRow, IsSettled}
use Rattle.kw_core.proofs.Attempts.{in_range}
use Rattle.kw_core.proofs.Happens.{Happens}
use Rattle.kw_core.proofs.Steps.{announced_within}
use Rattle.kw_kept.specs.Readers.{Before}
use Rattle.kw_kept.proofs.FrontStays.{front_starts, front_stays, shows_of_same}
use Rattle.kw_rows.specs.Ledger.{Dead, Fate, Free, IsDead, IsFresh, IsLive, Ledger, Live, WasHeld}
use Rattle.kw_rows.specs.Rows.{WasLinked}
use Rattle.kw_rows.proofs.Named.{one_row}
use Rattle.kw_shape.specs.RowsIn.{rows_in}
use Rattle.kw_shape.specs.Shape.{HoldsKey, IsAtItsRow}
use Rattle.kw_shape.proofs.LinkedRows.{holds_stays, BecomesNow, linked_fate, linked_keeps}
use Rattle.kw_puts.specs.Here.{IsHere, IsMadeIn}
use Rattle.kw_puts.proofs.Owners.{is_here}
use Rattle.kw_puts.proofs.Rely.{GoesOn, SameAttempt}
use Rattle.kw_reads.specs.Contents.{Contents, HasRow, InRow, IsFronted, IsGone, IsPast, IsSince, Needed, has_drawn, WasPut, floor_of, puts_of, version_of}
use Rattle.kw_reads.specs.Inv.{Inv}
use Rattle.kw_reads.proofs.PutsGoOn.{puts_go_on}
use Rattle.kw_reads.proofs.Relying.{goes_on_by}

-- a live row is not dead
live_or_dead : {A : Type 0} (z : Sizes) (r : Run) (q : ℕ) → IsLive r.ledger.rows q → IsDead r.ledger.rows q → A
live_or_dead z r q e d = let x : Live ≡ Dead = sym e ∙ d in absurd (cc)

-- an attempt whose row was not used again was made there since the row was linked
here_made : (g : Ledger) (h : History) (q p : ℕ) → IsHere g h p → (attempt h p).row ≡ q → IsMadeIn g h q p
here_made g h q p x e = record { row = e; born = subst (λ n. (g.fates n).born ≤ (attempt h p).add) e x.born }

-- What lasts.

module _ {z : Sizes} {r r' : Run} {s : ℕ} {choice : Choice} {l l' : Local} where
  -- a row that is or was linked held the keys that it may hold
  pub holds_was : (a : Activity) → Happens z r r' s choice l l' a → Inv z r → (q key : ℕ) → WasLinked r.ledger.rows q → HoldsKey (word z r'.world) r'.ledger.rows q key → HoldsKey (word z r.world) r.ledger.rows q key
  holds_was a h i q key k x = let y = linked_keeps a h i.shape q k in holds_stays (word z r'.world) (word z r.world) r'.ledger.rows r.ledger.rows q key (sym y.upper) (sym y.least) x

  -- what is known of a row from a position on
  pub fronted_lasts : (a : Activity) → Happens z r r' s choice l l' a → Inv z r → (row version floor looked : ℕ) → WasLinked r.ledger.rows row → floor ≤ length r.history.log → looked ≤ length r.history.log → IsFronted z r row version floor looked → IsFronted z r' row version floor looked
  fronted_lasts a h i row version floor looked k w o f = record {
    since = f.since;
    upto = f.upto;
    stands = λ d. stands d (linked_fate a h i.shape row k);
    born = omega (arith, (linked_keeps a h i.shape row k).born, f.born);
    shows = λ key x. front_stays (puts_of r.history) (puts_of r'.history) (InRow z r row) (InRow z r' row) (IsPut r.history) (IsPut r'.history) f.since key version (puts_go_on a h i row f.since k (omega (arith, f.upto, o))) (f.shows key (holds_was a h i row key k x));
    other = λ p x u y d. other p x u y d;
  }
    where
      stands : IsDead r'.ledger.rows row → BecomesNow r.ledger.rows r'.ledger.rows s (length r.history.log) row → f.since ≤ (r'.ledger.rows.fates row).gone
      stands d (inl e) = omega (arith, f.stands (sym (ap (λ (x : Fate). x.status) e) ∙ d), ap (λ (x : Fate). x.gone) e)
      stands d (inr (inl g)) = omega (arith, ap (λ (x : Fate). x.gone) g.fate, f.upto, o)
      stands d (inr (inr n)) = let x : Dead ≡ Free = sym d ∙ ap (λ (y : Fate). y.status) n.fate in absurd (cc)

      other : (p : ℕ) → (attempt r'.history p).is_announced ≡ true → (attempt r'.history p).announced < floor → HoldsKey (word z r'.world) r'.ledger.rows row (attempt r'.history p).key → (IsMadeIn r'.ledger.rows r'.history row p → ⊥) →
          ((attempt r'.history p).is_lost ≡ true) ⊎ IsPut r'.history p × ((attempt r'.history p).at < f.since)
      other p x u y d = which (f.other p n.1 (omega (arith, u, (e.announced n.1).1)) (subst (HoldsKey (word z r.world) r.ledger.rows row) e.key (holds_was a h i row (attempt r'.history p).key k y)) (λ c. d (made c)))
        where
          g : GoesOn r.history r'.history r.origin r'.origin r.ledger.rows
          g = goes_on_by z r r' s choice l a l' h i

          n : (p < length r.history.attempts) × ((attempt r.history p).is_announced ≡ true)
          n = g.grows.newly p x (omega (arith, u, w))

          e : AttemptGrows r.history r'.history (length r.history.log) p
          e = g.grows.old p n.0

          same : SameAttempt r.history r'.history p
          same = g.attempts p n.0

          made : IsMadeIn r.ledger.rows r.history row p → IsMadeIn r'.ledger.rows r'.history row p
          made c = record { row = same.row ∙ c.row; born = omega (arith, c.born, same.add, (linked_keeps a h i.shape row k).born) }

          which : ((attempt r.history p).is_lost ≡ true) ⊎ IsPut r.history p × ((attempt r.history p).at < f.since) → ((attempt r'.history p).is_lost ≡ true) ⊎ IsPut r'.history p × ((attempt r'.history p).at < f.since)
          which (inl c) = inl (e.lost c)
          which (inr c) = let m = e.stamped c.0 in inr (m.0, omega (arith, m.3, c.1))

-- At the first look.

module _ (z : Sizes) (r : Run) (i : Inv z r) (c : Contents z r) (t : ℕ) (l : Local) (k : slice_get r.world.locals t ≡ Some l) (at : l.activity ≡ Activity.Look (Look.Entry 0)) where
  -- the version at which it reads is needed
  version_needed : Needed z r (version_of l)
  version_needed = saw (is_scan l.call) refl
    where
      seat : t < z.seats
      seat = omega (arith, slice_get_within r.world.locals t l k, i.shape.sane.seats)

      saw : (b : Bool) → is_scan l.call ≡ b → Needed z r (if b then l.version else NEWEST)
      saw true e = inr (t, inl (has_drawn seat ((i.positions.draws t l k).settled e (subst IsSettled (sym at) tt))))
      saw false e = inl (omega (arith, (i.shape.sane.each name.Clock tt).1))

  at_row : IsAtItsRow (word z r.world) r.ledger.rows t l
  at_row = (i.shape.walks t l k).at (subst IsAtRow (sym at) tt)

  -- the row of an announced attempt that was not used again may hold its key
  row_holds : (p : ℕ) → (attempt r.history p).is_announced ≡ true → IsHere r.ledger.rows r.history p → HoldsKey (word z r.world) r.ledger.rows (attempt r.history p).row (attempt r.history p).key
  row_holds p x y = (i.puts.given p (announced_within r.history p x) y).holds

  -- of a live row
  front_live : IsLive r.ledger.rows l.row → IsFronted z r l.row (version_of l) (floor_of r t l) (length r.history.log)
  front_live a = record {
    since = length r.history.log;
    upto = omega arith;
    stands = λ d. live_or_dead z r l.row a d;
    born = i.puts.born l.row (inl a);
    shows = λ key x. front_starts (puts_of r.history) (InRow z r l.row) (IsPut r.history) (length r.history.log) key (version_of l) (λ p y. i.history.past.at p (in_range r.history p y) y) (λ p y. y.is_put) (c.kept l.row key (version_of l) (record { live = a; holds = x }) version_needed);
    other = λ p x u y d. which p x y d (is_here r.ledger.rows r.history p);
  }
    where
      gone : (p : ℕ) → IsGone r p → ((attempt r.history p).is_lost ≡ true) ⊎ IsPut r.history p × ((attempt r.history p).at < length r.history.log)
      gone p (inl x) = inl x
      gone p (inr x) = inr (x.0, i.history.past.at p (in_range r.history p x.0) x.0)

      past : (p : ℕ) → IsPast r p → ((attempt r.history p).is_lost ≡ true) ⊎ IsPut r.history p × ((attempt r.history p).at < length r.history.log)
      past p (inl x) = inl x
      past p (inr x) = inr (x.0, i.history.past.at p (in_range r.history p x.0) x.0)

      here : (p : ℕ) → (attempt r.history p).is_announced ≡ true → HoldsKey (word z r.world) r.ledger.rows l.row (attempt r.history p).key → (IsMadeIn r.ledger.rows r.history l.row p → ⊥) → IsHere r.ledger.rows r.history p → WasLinked r.ledger.rows (attempt r.history p).row →
          ((attempt r.history p).is_lost ≡ true) ⊎ IsPut r.history p × ((attempt r.history p).at < length r.history.log)
      here p x y d o (inl b) = absurd (d (here_made r.ledger.rows r.history l.row p o (one_row (rows_in (word z r.world)) r.ledger.rows i.shape.rows.closed (attempt r.history p).row l.row (attempt r.history p).key i.shape.rows.chain b a (row_holds p x o) y)))
      here p x y d o (inr b) = gone p (c.over p x o b)

      which : (p : ℕ) → (attempt r.history p).is_announced ≡ true → HoldsKey (word z r.world) r.ledger.rows l.row (attempt r.history p).key → (IsMadeIn r.ledger.rows r.history l.row p → ⊥) → IsHere r.ledger.rows r.history p ⊎ (IsHere r.ledger.rows r.history p → ⊥) →
          ((attempt r.history p).is_lost ≡ true) ⊎ IsPut r.history p × ((attempt r.history p).at < length r.history.log)
      which p x y d (inl o) = here p x y d o o.linked
      which p x y d (inr n) = past p (c.past p x n)

  -- of one that went
  front_dead : WasHeld r.ledger.rows t l.row → IsFronted z r l.row (version_of l) (floor_of r t l) (length r.history.log)
  front_dead a = record {
    since = (r.ledger.rows.fates l.row).gone;
    upto = omega (arith, i.shape.rows.past.gone l.row a.dead);
    stands = λ d. omega arith;
    born = c.borns.gone l.row a.dead;
    shows = λ key x. shows_of_same (puts_of r.history) (InRow z r l.row) (λ p. InRow z r l.row p × Before (puts_of r.history) (IsPut r.history) (r.ledger.rows.fates l.row).gone p) (WasPut r l.row) (Before (puts_of r.history) (IsPut r.history) (r.ledger.rows.fates l.row).gone) key (version_of l)
        (λ p y. y.0) (λ p y. (y, (y.is_put, c.inside l.row p a.dead y))) (λ p y. y) (λ p y. y) (c.dead l.row key (version_of l) a.dead x version_needed);
    other = λ p x u y d. which p x u y d (is_here r.ledger.rows r.history p);
  }
    where
      late : (p : ℕ) → IsHere r.ledger.rows r.history p → IsSince r.ledger.rows (floor_of r t l) l.row → (r.ledger.rows.fates l.row).gone < (r.ledger.rows.fates (attempt r.history p).row).born → (attempt r.history p).is_announced ≡ true → (attempt r.history p).announced < floor_of r t l → ⊥
      late p o (inl b) m x u = live_or_dead z r l.row b a.dead
      late p o (inr b) m x u = omega (arith, b.1, m, o.born, (i.history.laws.attempted p (announced_within r.history p x)).announced x, u)

      gone : (p : ℕ) → (r.ledger.rows.fates (attempt r.history p).row).gone < (r.ledger.rows.fates l.row).born → IsGone r p → ((attempt r.history p).is_lost ≡ true) ⊎ IsPut r.history p × ((attempt r.history p).at < (r.ledger.rows.fates l.row).gone)
      gone p m (inl x) = inl x
      gone p m (inr x) = inr (x.0, omega (arith, x.1, m, c.borns.gone l.row a.dead))

      past : (p : ℕ) → IsPast r p → ((attempt r.history p).is_lost ≡ true) ⊎ IsPut r.history p × ((attempt r.history p).at < (r.ledger.rows.fates l.row).gone)
      past p (inl x) = inl x
      past p (inr x) = inr (x.0, omega (arith, x.1 t a.since a.visits, a.before))

      here : (p : ℕ) → (attempt r.history p).is_announced ≡ true → (attempt r.history p).announced < floor_of r t l → IsHere r.ledger.rows r.history p →
          ((r.ledger.rows.fates l.row).gone < (r.ledger.rows.fates (attempt r.history p).row).born) ⊎ IsDead r.ledger.rows (attempt r.history p).row × ((r.ledger.rows.fates (attempt r.history p).row).gone < (r.ledger.rows.fates l.row).born) →
          ((attempt r.history p).is_lost ≡ true) ⊎ IsPut r.history p × ((attempt r.history p).at < (r.ledger.rows.fates l.row).gone)
      here p x u o (inl m) = absurd (late p o ((c.later t l k).row (subst HasRow (sym at) tt)) m x u)
      here p x u o (inr m) = gone p m.1 (c.over p x o m.0)

      which : (p : ℕ) → (attempt r.history p).is_announced ≡ true → (attempt r.history p).announced < floor_of r t l → HoldsKey (word z r.world) r.ledger.rows l.row (attempt r.history p).key → (IsMadeIn r.ledger.rows r.history l.row p → ⊥) → IsHere r.ledger.rows r.history p ⊎ (IsHere r.ledger.rows r.history p → ⊥) →
          ((attempt r.history p).is_lost ≡ true) ⊎ IsPut r.history p × ((attempt r.history p).at < (r.ledger.rows.fates l.row).gone)
      which p x u y d (inl o) = here p x u o (i.shape.rows.follows l.row (attempt r.history p).row (attempt r.history p).key a.dead o.linked y (row_holds p x o) (λ e. d (here_made r.ledger.rows r.history l.row p o (sym e))))
      which p x u y d (inr n) = past p (c.past p x n)

  pub first_look : IsFronted z r l.row (version_of l) (floor_of r t l) (length r.history.log)
  first_look = which at_row.fresh
    where
      which : IsFresh r.ledger.rows t l.row → IsFronted z r l.row (version_of l) (floor_of r t l) (length r.history.log)
      which (inl a) = front_live a
      which (inr a) = front_dead a
