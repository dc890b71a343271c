-- Every event keeps the shares of the rows that lead: a row that is engaged was full and not
-- frozen, so each of its cells that it was not built with stands for an attempt that is stamped, or
-- that a seat is at work on; and from then on its cells stand for the same attempts.
use Rattle.std.proofs.Common.{ℕ, suc, zero, ◌≡◌, ◌⊎◌, inl, inr, ◌<◌, ◌≤◌, ◌&&◌, Bool, true, false, nat_le, Option, None, Some, arith, refl, sym, ◌∙◌, ap, length, slice_get, subst}
use Rattle.std.proofs.lemmas.Bool.{and_parts, cases_lt}
use Rattle.std.proofs.lemmas.Bool.Decides.{nat_tests}
use Rattle.std.proofs.lemmas.Nat.{mul-le}
use Rattle.kw_words.specs.declared.layout.Name.TheVariants as name
use Rattle.kw_words.specs.declared.state.State.TheVariants as state
use Rattle.kw_words.specs.State.{state_of, state_word}
use Rattle.kw_words.proofs.StateWords.{state_of-Normal}
use Rattle.kw_windows.proofs.Counting.{count_all_but_few, count_upto}
use Rattle.kw_world.specs.declared.activity.Activity.{Activity}
use Rattle.kw_world.specs.declared.activity.rebalance.Rebalance.TheVariants as Rebalance
use Rattle.kw_world.specs.declared.activity.rebalance.engage.Engage.TheVariants as Engage
use Rattle.kw_world.specs.declared.activity.rebalance.replace.Replace.TheVariants as Replace
use Rattle.kw_world.specs.declared.event.Choice.{Choice}
use Rattle.kw_world.specs.declared.limits.TheConstants.{TIDY_SHARE}
use Rattle.kw_world.specs.declared.local.Local.{Local}
use Rattle.kw_world.specs.declared.opening.Opening.{Opening}
use Rattle.kw_world.specs.Opening.{IsOpening}
use Rattle.kw_world.specs.Sizes.{Sizes}
use Rattle.kw_world.specs.Step.{word}
use Rattle.kw_core.specs.History.{History, attempt}
use Rattle.kw_core.specs.Run.{Run, start}
use Rattle.kw_core.specs.Stages.{IsBusy}
use Rattle.kw_core.specs.Step.{Step}
use Rattle.kw_core.specs.Words.{given_in}
use Rattle.kw_core.proofs.Happens.{Happens, log_entry}
use Rattle.kw_core.proofs.InfantFrames.{epoch_stays, number_drawn}
use Rattle.kw_rows.specs.Ledger.{Dead, Fate, Free, Infant, IsLive, Live}
use Rattle.kw_rows.specs.RowState as row
use Rattle.kw_rows.specs.RowState.{IsDecided}
use Rattle.kw_rows.specs.Rows.{WasLinked}
use Rattle.kw_rows.specs.States.{HasState}
use Rattle.kw_shape.specs.RowsIn.{rows_in, state_seen}
use Rattle.kw_shape.proofs.LinkedRows.{ComesNow, linked_before, linked_keeps, reached_live, was_below}
use Rattle.kw_shape.specs.Shape.{Shape}
use Rattle.kw_shape.proofs.ShapeOpens.{opens}
use Rattle.kw_puts.specs.Below.{Below}
use Rattle.kw_puts.specs.Freezes.{IsFrozen}
use Rattle.kw_puts.specs.Puts.{HasCell, IsCopyAt, IsCurrent}
use Rattle.kw_puts.proofs.CellsOf.{cell_within}
use Rattle.kw_puts.proofs.Rely.{GoesOn}
use Rattle.kw_puts.proofs.RelyProof.{goes_on_by}
use Rattle.kw_full.specs.Copies.{KeepsCopies}
use Rattle.kw_full.specs.Full.{IsEngaging, IsUnled, KeepsFull}
use Rattle.kw_full.specs.OverFrozen.{KeepsOver}
use Rattle.kw_full.specs.Shares.{HasShare, IsUntidied, KeepsShares, is_own_stamped, is_stamped_since, share_of}
use Rattle.kw_full.proofs.Leading.{EngagesNow, Leads, led_before, not_led}

-- what is kept of the rows of the list
abbrev pub AreShared : Sizes → Run → Type 0
AreShared z r = IsUntidied z r.world → (q : ℕ) → IsLive r.ledger.rows q → Leads (word z r.world) q → HasShare z r q

-- a row that is taken is one of the table
infant_below : (z : Sizes) (r : Run) → Shape z r → (q : ℕ) → (r.ledger.rows.fates q).status ≡ Infant → q < r.world.rows
infant_below z r i q e = which (cases_lt q r.world.rows)
  where
    which : (q < r.world.rows) ⊎ (r.world.rows ≤ q) → q < r.world.rows
    which (inl o) = o
    which (inr o) = let x : Free ≡ Infant = sym (i.beyond q o) ∙ e in absurd (cc)

-- An attempt that counts.

stamped_since : (h : History) (born p : ℕ) → born ≤ (attempt h p).add → (attempt h p).is_stamped ≡ true → is_stamped_since h born (Some p) ≡ true
stamped_since h born p a b = let n : nat_le born (attempt h p).add ≡ true = grind (arith, nat_tests, a) in rw (n, b) refl

since_stamped : (h : History) (born p : ℕ) → is_stamped_since h born (Some p) ≡ true → (born ≤ (attempt h p).add) × ((attempt h p).is_stamped ≡ true)
since_stamped h born p e = let t = and_parts (nat_le born (attempt h p).add) (attempt h p).is_stamped e in (grind (arith, nat_tests, t.0), t.1)

-- a cell of the row stands for one, and is none of those with which it may have been built
shared : (z : Sizes) (r : Run) (q c p : ℕ) → z.built ≤ c → r.origin q c ≡ Some p → (r.ledger.rows.fates q).born ≤ (attempt r.history p).add → (attempt r.history p).is_stamped ≡ true → (nat_le z.built c && is_own_stamped r q c) ≡ true
shared z r q c p low e a b = let n : nat_le z.built c ≡ true = grind (arith, nat_tests, low) in rw (n, e) (stamped_since r.history (r.ledger.rows.fates q).born p a b)

-- A row that is full, of which no cell is that of an attempt which is over.

module _ (z : Sizes) (r : Run) (i : Below z r) (copies : KeepsCopies z r) (over : KeepsOver z r) (q : ℕ) (k : WasLinked r.ledger.rows q) (unfrozen : IsFrozen (word z r.world) q → ⊥) (full : z.cells ≤ given_in (word z r.world) q) where
  -- the cell that a seat was given last
  cell_of : ℕ → ℕ
  cell_of t = (attempt r.history (r.seats t).own).cell

  -- a cell with which the row was not built counts, or is one of these
  own_or_shared : (c : ℕ) → z.built ≤ c → c < z.cells → ((nat_le z.built c && is_own_stamped r q c) ≡ true) ⊎ ((t : ℕ) × (t < z.seats) × (cell_of t ≡ c))
  unfolding cell_of
  own_or_shared c low below = given (i.puts.places.given q c k below (omega (arith, below, full)))
    where
      made : (p : ℕ) → r.origin q c ≡ Some p → HasCell r.ledger.rows r.history q c p → IsCurrent (slice_get r.world.locals) r.seats r.history p ⊎ ((attempt r.history p).is_stamped ≡ true) ⊎ IsFrozen (word z r.world) (attempt r.history p).row →
          ((nat_le z.built c && is_own_stamped r q c) ≡ true) ⊎ ((t : ℕ) × (t < z.seats) × (cell_of t ≡ c))
      made p e x (inl y) = inr ((attempt r.history p).seat, (i.puts.placed p x.within).seat, ap (λ n. (attempt r.history n).cell) y.own ∙ x.cell)
      made p e x (inr (inl y)) = inl (shared z r q c p low e x.born y)
      made p e x (inr (inr y)) = absurd (unfrozen (subst (IsFrozen (word z r.world)) x.row y))

      owned : (p : ℕ) → r.origin q c ≡ Some p → HasCell r.ledger.rows r.history q c p ⊎ IsCopyAt (word z r.world) r.ledger.rows r.history q c p → ((nat_le z.built c && is_own_stamped r q c) ≡ true) ⊎ ((t : ℕ) × (t < z.seats) × (cell_of t ≡ c))
      owned p e (inl x) = made p e x (over.over p x.within (record { linked = subst (WasLinked r.ledger.rows) (sym x.row) k; born = subst (λ n. (r.ledger.rows.fates n).born ≤ (attempt r.history p).add) (sym x.row) x.born }))
      owned p e (inr x) = absurd (omega (arith, low, copies.low q c p k below e x.earlier))

      given : ((p : ℕ) × (r.origin q c ≡ Some p)) ⊎ IsFrozen (word z r.world) q → ((nat_le z.built c && is_own_stamped r q c) ≡ true) ⊎ ((t : ℕ) × (t < z.seats) × (cell_of t ≡ c))
      given (inl (p, e)) = owned p e (i.puts.places.owner q c p k below e)
      given (inr f) = absurd (unfrozen f)

  full_share : HasShare z r q
  full_share = count_all_but_few z.cells z.built z.seats (λ c. nat_le z.built c && is_own_stamped r q c) cell_of own_or_shared

-- The row that a seat engages.

module _ (z : Sizes) (r r' : Run) (s : ℕ) (choice : Choice) (l l' : Local) (h : Happens z r r' s choice l l' (Activity.Rebalance (Rebalance.Engage Engage.Lead))) (i : Below z r) (copies : KeepsCopies z r) (over : KeepsOver z r) (full : KeepsFull z r) (u : IsUntidied z r.world) (live : IsLive r.ledger.rows l.row) (e : word z r.world (name.State l.row) ≡ state_word state.Normal) where
  normal : (rows_in (word z r.world)).state l.row ≡ row.Normal
  normal = ap (λ w. state_seen (state_of w)) e ∙ ap state_seen state_of-Normal

  -- no seat tidies yet
  untidied : (b : Bool) → l.tidies ≡ b → b ≡ false
  untidied false t = refl
  untidied true t =
      let busy = ((i.shape.visits s l h.knows).epoch (subst IsBusy (sym h.activity) tt)).1 in
      absurd (omega (arith, u, i.shape.offered s l h.knows t, mul-le TIDY_SHARE l.epoch TIDY_SHARE (word z r.world name.Epoch) (omega arith) busy))

  -- a row in the normal state is not frozen
  unfrozen : IsFrozen (word z r.world) l.row → ⊥
  unfrozen f = subst IsDecided normal ((i.shape.rows.marks l.row).frozen live f).1

  engaged_share : HasShare z r l.row
  engaged_share =
      let given = (full.rows s l h.knows (subst IsEngaging (sym h.activity) tt) (subst IsUnled (sym normal) tt)).given (untidied l.tidies refl) in
      full_share z r i copies over l.row (inl live) unfrozen given

-- One event.

module _ (z : Sizes) (r r' : Run) (s : ℕ) (choice : Choice) (l l' : Local) (a : Activity) (h : Happens z r r' s choice l l' a) (i : Below z r) (st : Step r.history r'.history (log_entry z r a s choice l)) where
  goes : GoesOn r.history r'.history r.origin r'.origin r.ledger.rows
  goes = goes_on_by z r r' s choice l a l' h i st

  -- what counts of a row counts on
  share_grows : (q : ℕ) → WasLinked r.ledger.rows q → share_of z r q ≤ share_of z r' q
  share_grows q k = count_upto z.cells (λ c. nat_le z.built c && is_own_stamped r' q c) (λ c. nat_le z.built c && is_own_stamped r q c) (λ c below e. let t = and_parts (nat_le z.built c) (is_own_stamped r q c) e in on c below (grind (arith, nat_tests, t.0)) (r.origin q c) refl t.1)
    where
      on : (c : ℕ) → c < z.cells → z.built ≤ c → (x : Option ℕ) → r.origin q c ≡ x → is_stamped_since r.history (r.ledger.rows.fates q).born x ≡ true → (nat_le z.built c && is_own_stamped r' q c) ≡ true
      on c below low None f e = absurd (cc (e))
      on c below low (Some p) f e =
          let within = cell_within i.puts q c p (i.puts.places.owner q c p k below f) in
          let was = since_stamped r.history (r.ledger.rows.fates q).born p e in
          shared z r' q c p low (goes.origin q c p k f) (omega (arith, was.0, (goes.attempts p within).add, (linked_keeps a h i.shape q k).born)) ((goes.grows.old p within).stamped was.1).0

  -- the epoch does not fall
  epoch_rises : (b : Activity) → Happens z r r' s choice l l' b → word z r.world name.Epoch ≤ word z r'.world name.Epoch
  epoch_rises (Activity.Rebalance (Rebalance.Replace Replace.Number)) g = omega (arith, number_drawn g)
  epoch_rises b g = omega (arith, epoch_stays b g (λ x. x))

  was_untidied : IsUntidied z r'.world → IsUntidied z r.world
  was_untidied u = omega (arith, u, h.rows, mul-le TIDY_SHARE (word z r.world name.Epoch) TIDY_SHARE (word z r'.world name.Epoch) (omega arith) (epoch_rises a h))

  -- a row of the list that leads was in the list: a new one is an infant
  was_live : (q : ℕ) → IsLive r'.ledger.rows q → q < r.world.rows → (Leads (word z r.world) q ⊎ EngagesNow (word z r.world) a l q) → IsLive r.ledger.rows q
  was_live q live below led = which (linked_before a h i.shape q (inl live))
    where
      comes : (r.ledger.rows.fates q).status ≡ Infant → Leads (word z r.world) q ⊎ EngagesNow (word z r.world) a l q → IsLive r.ledger.rows q
      comes y led = by (subst (HasState (rows_in (word z r.world)) r.ledger.rows q) y (i.shape.rows.states q)) led
        where
          by : (rows_in (word z r.world)).state q ≡ row.Infant (r.ledger.rows.fates q).owner → Leads (word z r.world) q ⊎ EngagesNow (word z r.world) a l q → IsLive r.ledger.rows q
          by f (inl (m, e)) = let x : row.Leader m ≡ row.Infant (r.ledger.rows.fates q).owner = sym (ap state_seen e) ∙ f in absurd (cc)
          by f (inr e) = let x : row.Normal ≡ row.Infant (r.ledger.rows.fates q).owner = sym (ap (λ w. state_seen (state_of w)) e.normal ∙ ap state_seen state_of-Normal) ∙ f in absurd (cc)

      which : WasLinked r.ledger.rows q ⊎ ComesNow (word z r.world) r.ledger.rows r'.ledger.rows s (length r.history.log) l a q → IsLive r.ledger.rows q
      which (inl (inl k)) = k
      which (inl (inr d)) =
          let same = (linked_keeps a h i.shape q (inr d)).dead d (inl live) in
          let x : Live ≡ Dead = sym live ∙ ap (λ (f : Fate). f.status) same ∙ d in absurd (cc)
      which (inr y) = comes y.infant.status led

  pub shares_keep : KeepsCopies z r → KeepsOver z r → KeepsFull z r → AreShared z r → AreShared z r'
  shares_keep copies over full x u q live (n, e) = omega (arith, by led, share_grows q (inl was))
    where
      below : q < r.world.rows
      below = bound (linked_before a h i.shape q (inl live))
        where
          bound : WasLinked r.ledger.rows q ⊎ ComesNow (word z r.world) r.ledger.rows r'.ledger.rows s (length r.history.log) l a q → q < r.world.rows
          bound (inl k) = was_below z r i.shape q k
          bound (inr y) = infant_below z r i.shape q y.infant.status

      led : Leads (word z r.world) q ⊎ EngagesNow (word z r.world) a l q
      led = led_before a h q n below e

      was : IsLive r.ledger.rows q
      was = was_live q live below led

      engaged : (b : Activity) → Happens z r r' s choice l l' b → b ≡ Activity.Rebalance (Rebalance.Engage Engage.Lead) → q ≡ l.row → word z r.world (name.State q) ≡ state_word state.Normal → HasShare z r q
      engaged b g f c w = subst (HasShare z r) (sym c) (engaged_share z r r' s choice l l' (subst (λ d. Happens z r r' s choice l l' d) f g) i copies over full (was_untidied u) (subst (IsLive r.ledger.rows) c was) (subst (λ k. word z r.world (name.State k) ≡ state_word state.Normal) c w))

      by : Leads (word z r.world) q ⊎ EngagesNow (word z r.world) a l q → HasShare z r q
      by (inl m) = x (was_untidied u) q was m
      by (inr m) = engaged a h m.engages m.row m.normal

-- Where a run begins no row of the list leads.
pub shares_start : (z : Sizes) (o : Opening) → IsOpening z o → AreShared z (start z o)
shares_start z o opening u zero live (n, e) = not_led (word z (start z o).world (name.State 0)) n state.Normal (opens z o opening (name.State 0) opening.sized.some_rows) (λ f. omega (arith, f)) e
shares_start z o opening u (suc q) live (n, e) = let x : Free ≡ Live = live in absurd (cc)

-- What is kept says so of the words.
pub shares_kept : (z : Sizes) (r : Run) → Below z r → AreShared z r → KeepsShares z r
shares_kept z r i x = record { shares = λ u q n k e. x u q (reached_live (word z r.world) r.ledger.rows i.shape.rows.chain q k) (n, e) }
