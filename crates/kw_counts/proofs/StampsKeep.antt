-- Stamps are counted of rows of the list alone, by induction over the events: the entry of a row
-- that went is pending no more, so no cell of it is stamped.
use Rattle.std.proofs.Common.{ℕ, ◌≡◌, ◌≢◌, ◌⊎◌, inl, inr, ◌+◌, ◌<◌, ◌==◌, Bool, true, false, arith, refl, sym, ◌∙◌, ap, subst, slice_get, if◌then◌else◌, length}
use Rattle.kw_words.specs.declared.layout.Name.TheVariants as name
use Rattle.kw_words.specs.declared.pend.Pend.TheVariants.{Frozen, Idle, Pending, Stamped}
use Rattle.kw_words.specs.Pend.{pend_word}
use Rattle.kw_rows.specs.Ledger as fate
use Rattle.kw_rows.specs.Ledger.{Fate, IsFresh, IsLive, Status}
use Rattle.kw_rows.specs.Rows.{WasLinked}
use Rattle.kw_world.specs.declared.activity.Activity.{Activity}
use Rattle.kw_world.specs.declared.activity.look.Look.TheVariants as Look
use Rattle.kw_world.specs.declared.activity.put.Put.TheVariants as Put
use Rattle.kw_world.specs.declared.activity.rebalance.Rebalance.TheVariants as Rebalance
use Rattle.kw_world.specs.declared.activity.rebalance.replace.Replace.TheVariants as Replace
use Rattle.kw_world.specs.declared.event.Choice.{Choice}
use Rattle.kw_world.specs.declared.local.Local.{Local}
use Rattle.kw_world.specs.declared.opening.Opening.{Opening}
use Rattle.kw_world.specs.ReplaceTransitions.{replaced_link}
use Rattle.kw_world.specs.Sizes.{Sizes}
use Rattle.kw_world.specs.Step.{word}
use Rattle.kw_core.specs.Ledger.{Ledger, fate_live, group_of, is_among}
use Rattle.kw_core.specs.Run.{Run, start}
use Rattle.kw_core.specs.Stages.{IsAtRow}
use Rattle.kw_core.proofs.Arrows.{eq_from}
use Rattle.kw_core.proofs.Happens.{Happens, found_at}
use Rattle.kw_shape.proofs.LinkedRows.{fresh_linked, live_reached}
use Rattle.kw_puts.specs.Freezes.{IsSettled, settled_frozen, settled_idle, settled_stamped}
use Rattle.kw_reads.specs.Inv.{Inv}
use Rattle.kw_counts.specs.Counts.{Counts, Stamps, has_replaced, no_counts, one_more_at, stamps_after, with_banked}
use Rattle.kw_counts.specs.Stamps.{KeepsStamps}
use Rattle.kw_counts.proofs.LiveRows.{lives_on}
use Rattle.kw_counts.proofs.Updates.{at_left}

abbrev pub AreOfList : Run → Stamps → Type 0
AreOfList r c = (q : ℕ) → (IsLive r.ledger.rows q → ⊥) → c.here q ≡ 0

is_live_status : (s : Status) → (s ≡ fate.Live) ⊎ (s ≡ fate.Live → ⊥)
is_live_status fate.Free = inr (λ e. let x : fate.Free ≡ fate.Live = e in cc)
is_live_status fate.Infant = inr (λ e. let x : fate.Infant ≡ fate.Live = e in cc)
is_live_status fate.Live = inl refl
is_live_status fate.Dead = inr (λ e. let x : fate.Dead ≡ fate.Live = e in cc)

-- an entry of a row that went is not pending
settled_not : {A : Type 0} (z : Sizes) (r : Run) (q j c : ℕ) → IsSettled (word z r.world) (slice_get r.world.locals) q j → word z r.world (name.Pend q j) ≡ pend_word (Pending c) → A
settled_not z r q j c (settled_frozen e) p = let x : pend_word Frozen ≡ pend_word (Pending c) = sym e ∙ p in absurd (omega (arith, x))
settled_not z r q j c (settled_stamped cell version e) p = let x : pend_word (Stamped cell version) ≡ pend_word (Pending c) = sym e ∙ p in absurd (omega (arith, x))
settled_not z r q j c (settled_idle e f) p = let x : pend_word Idle ≡ pend_word (Pending c) = sym e ∙ p in absurd (omega (arith, x))

-- so a row of which one is, and that was linked, is in the list
pub pending_linked : (z : Sizes) (r : Run) → Inv z r → (q j c : ℕ) → WasLinked r.ledger.rows q → j < z.seats → word z r.world (name.Pend q j) ≡ pend_word (Pending c) → IsLive r.ledger.rows q
pending_linked z r v q j c (inl a) w p = a
pending_linked z r v q j c (inr d) w p = settled_not z r q j c (v.puts.dead q j d w) p

pub pending_live : (z : Sizes) (r : Run) → Inv z r → (t q j c : ℕ) → IsFresh r.ledger.rows t q → j < z.seats → word z r.world (name.Pend q j) ≡ pend_word (Pending c) → IsLive r.ledger.rows q
pending_live z r v t q j c f w p = pending_linked z r v q j c (fresh_linked r.ledger.rows t q f) w p

-- One event.

module _ (z : Sizes) (r r' : Run) (s : ℕ) (choice : Choice) (l l' : Local) (a : Activity) (h : Happens z r r' s choice l l' a) (v : Inv z r) (c : Stamps) (x : AreOfList r c) where
  -- where no row is replaced none goes from the list
  was : (b : Activity) → b ≢ Activity.Rebalance (Rebalance.Replace Replace.Exchange) → Happens z r r' s choice l l' b → (q : ℕ) → (IsLive r'.ledger.rows q → ⊥) → c.here q ≡ 0
  was b d g q n = x q (λ live. n (lives_on b d g v.shape q live))

  -- a cell of a row of the list is stamped, and of no other row
  stamped : (b : Activity) → b ≢ Activity.Rebalance (Rebalance.Replace Replace.Exchange) → Happens z r r' s choice l l' b → IsLive r.ledger.rows l.row → (q : ℕ) → (IsLive r'.ledger.rows q → ⊥) → one_more_at c.here l.row q ≡ 0
  stamped b d g live q n = at_left c.here l.row (c.here l.row + 1) q (λ e. n (subst (IsLive r'.ledger.rows) (sym e) (lives_on b d g v.shape l.row live))) ∙ was b d g q n

  fresh : (b : Activity) → IsAtRow b → Happens z r r' s choice l l' b → IsFresh r.ledger.rows s l.row
  fresh b y g = ((v.shape.walks s l g.knows).at (subst IsAtRow (sym g.activity) y)).fresh

  pub stamps_keep : (q : ℕ) → (IsLive r'.ledger.rows q → ⊥) → (stamps_after a l (found_at z (word z r.world) a s choice l) c).here q ≡ 0
  stamps_keep q n = by a h
    where
      by : (b : Activity) → Happens z r r' s choice l l' b → (stamps_after b l (found_at z (word z r.world) b s choice l) c).here q ≡ 0
      by (Activity.Look Look.Help) g = saw (word z r.world (name.Pend l.row l.looked) == pend_word (Pending l.saw)) refl
        where
          saw : (b : Bool) → (word z r.world (name.Pend l.row l.looked) == pend_word (Pending l.saw)) ≡ b → (stamps_after (Activity.Look Look.Help) l (word z r.world (name.Pend l.row l.looked)) c).here q ≡ 0
          saw true e = rw e (stamped _ (λ y. cc) g (pending_live z r v s l.row l.looked l.saw (fresh _ tt g) (v.shape.sane.locals s l g.knows).ranges.looked (eq_from _ _ e)) q n)
          saw false e = rw e (was _ (λ y. cc) g q n)
      by (Activity.Put Put.Stamp) g = saw (word z r.world (name.Pend l.row s) == pend_word (Pending l.cell)) refl
        where
          saw : (b : Bool) → (word z r.world (name.Pend l.row s) == pend_word (Pending l.cell)) ≡ b → (stamps_after (Activity.Put Put.Stamp) l (word z r.world (name.Pend l.row s)) c).here q ≡ 0
          saw true e = rw e (stamped _ (λ y. cc) g (pending_live z r v s l.row s l.cell (fresh _ tt g) g.seat (eq_from _ _ e)) q n)
          saw false e = rw e (was _ (λ y. cc) g q n)
      by (Activity.Rebalance (Rebalance.Replace Replace.Exchange)) g = saw (has_replaced l (word z r.world (replaced_link l.rebalance.before))) refl
        where
          none : (b : Bool) → c.here q ≡ 0 → (let m : ℕ = if b then 0 else c.here q in m) ≡ 0
          none true e = refl
          none false e = e

          -- a row that is not of the group stays in the list
          stays : (b : Bool) → IsLive r.ledger.rows q → (let f : Fate = if b then fate_live (word z r.world) (length r.history.log) q (r.ledger.rows.fates q) else r.ledger.rows.fates q in f).status ≡ fate.Live
          stays true live = refl
          stays false live = live

          goes : has_replaced l (word z r.world (replaced_link l.rebalance.before)) ≡ true → IsLive r.ledger.rows q → (b : Bool) → is_among (group_of l) q ≡ b → (let m : ℕ = if b then 0 else c.here q in m) ≡ 0
          goes e live true f = refl
          goes e live false f = absurd (n (ap (λ (y : Ledger). (y.rows.fates q).status) g.ledger ∙ rw (e, f) (stays (is_among l.rebalance.taken q) live)))

          banked : has_replaced l (word z r.world (replaced_link l.rebalance.before)) ≡ true → (IsLive r.ledger.rows q) ⊎ (IsLive r.ledger.rows q → ⊥) → (with_banked (group_of l) c).here q ≡ 0
          banked e (inl live) = goes e live (is_among (group_of l) q) refl
          banked e (inr m) = none (is_among (group_of l) q) (x q m)

          saw : (b : Bool) → has_replaced l (word z r.world (replaced_link l.rebalance.before)) ≡ b → (stamps_after (Activity.Rebalance (Rebalance.Replace Replace.Exchange)) l (word z r.world (replaced_link l.rebalance.before)) c).here q ≡ 0
          saw true e = rw e (banked e (is_live_status (r.ledger.rows.fates q).status))
          saw false e =
              let same : r'.ledger ≡ r.ledger = g.ledger ∙ rw e refl in
              rw e (x q (λ live. n (ap (λ (y : Ledger). (y.rows.fates q).status) same ∙ live)))
      by b g = was b (λ y. cc) g q n

-- Where a run begins none was stamped.
pub stamps_start : (z : Sizes) (o : Opening) → AreOfList (start z o) no_counts.stamps
stamps_start z o q n = refl

pub stamps_kept : (z : Sizes) (r : Run) (c : Counts) → Inv z r → AreOfList r c.stamps → KeepsStamps z r.world c
stamps_kept z r c v x = record { rows = λ q n. x q (λ live. n (live_reached (word z r.world) r.ledger.rows v.shape.rows.chain q live)) }
