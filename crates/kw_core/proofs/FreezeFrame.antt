-- What an event leaves of the words where seats freeze the rows of groups and help scans.
--
-- A put writes its own entry, its count and the clock; beside it any seat may freeze an entry,
-- freeze a count, raise the clock for a scan that it helps, and settle the scan of another seat.
-- After the frames of these words stands what each of these events leaves of the word that it acts
-- on.
use Rattle.std.proofs.Common.{ℕ, ◌≡◌, ◌≢◌, ◌⊎◌, inl, inr, ◌+◌, ◌<◌, ◌≤◌, Bool, true, false, Option, Some, None, arith, refl, sym, ◌∙◌, ap, subst}
use Rattle.std.proofs.lemmas.Bool.{cases_eq}
use Rattle.kw_words.specs.declared.layout.Name.TheVariants as name
use Rattle.kw_words.specs.declared.count.Count.{Count as Counted}
use Rattle.kw_words.specs.declared.pend.Pend.TheVariants as pend
use Rattle.kw_words.specs.declared.scan.ScanWord.TheVariants as scan
use Rattle.kw_words.specs.Count.{count_of}
use Rattle.kw_words.specs.Pend.{pend_of, pend_word}
use Rattle.kw_words.specs.Scan.{scan_of}
use Rattle.kw_words.proofs.CountWords.{count_of_next, count_of_frozen}
use Rattle.kw_words.proofs.PendWords.{pend_of-Frozen}
use Rattle.kw_words.proofs.ScanWords.{scan_of-scan_word, scan_word_of}
use Rattle.kw_world.specs.declared.activity.Activity.{Activity}
use Rattle.kw_world.specs.declared.activity.draw.Draw.TheVariants as Draw
use Rattle.kw_world.specs.declared.activity.rebalance.freeze.Freeze.TheVariants as Freeze
use Rattle.kw_world.specs.declared.activity.insert.Insert.TheVariants as Insert
use Rattle.kw_world.specs.declared.activity.look.Look.TheVariants as Look
use Rattle.kw_world.specs.declared.activity.put.Put.TheVariants as Put
use Rattle.kw_world.specs.declared.activity.rebalance.Rebalance.TheVariants as Rebalance
use Rattle.kw_world.specs.declared.activity.rebalance.replace.Replace.TheVariants as Replace
use Rattle.kw_world.specs.declared.activity.walk.Walk.TheVariants as Walk
use Rattle.kw_world.specs.declared.activity.enter.Enter.TheVariants as Enter
use Rattle.kw_world.specs.declared.activity.rebalance.claim.Claim.TheVariants as Claim
use Rattle.kw_world.specs.declared.activity.rebalance.engage.Engage.TheVariants as Engage
use Rattle.kw_world.specs.declared.activity.rebalance.gather.Gather.TheVariants as Gather
use Rattle.kw_world.specs.declared.activity.read.Read.TheVariants as Read
use Rattle.kw_world.specs.declared.activity.rebalance.seek.Seek.TheVariants as Seek
use Rattle.kw_world.specs.declared.activity.rebalance.write.Write.TheVariants as Write
use Rattle.kw_world.specs.declared.event.Choice.{Choice}
use Rattle.kw_world.specs.declared.local.Local.{Local}
use Rattle.kw_world.specs.PutTransitions.{has_room, given_of}
use Rattle.kw_world.specs.Sane.{IsGiven, IsVersion}
use Rattle.kw_world.specs.Sizes.{Sizes}
use Rattle.kw_world.specs.Step.{word}
use Rattle.kw_world.specs.WalkTransitions.{is_stopped}
use Rattle.kw_core.specs.Run.{Run}
use Rattle.kw_core.specs.Words.{Words, given_in}
use Rattle.kw_core.proofs.Frame.{writes, unwritten, no_link, no_replaced, same_scan}
use Rattle.kw_core.proofs.Happens.{Happens, exchanged, not_exchanged}
use Rattle.kw_core.proofs.InfantFrames.{count_stays, entry_stays}

-- Which activities write a word of a family.

-- the seat freezes the entry of seat t
abbrev pub FreezesEntry : ℕ → Activity → Type 0
FreezesEntry t (Activity.Rebalance (Rebalance.Freeze (Freeze.Entry i))) = t ≡ i
FreezesEntry t _ = ⊥

-- the seat asks for a cell of its row, or freezes its count
abbrev pub ChangesCount : Activity → Type 0
ChangesCount (Activity.Put Put.Add) = Unit {0}
ChangesCount (Activity.Rebalance (Rebalance.Freeze Freeze.Count)) = Unit {0}
ChangesCount _ = ⊥

-- the seat draws a version, for its own scan or for one that it helps
abbrev pub DrawsVersion : Activity → Type 0
DrawsVersion (Activity.Draw Draw.Version) = Unit {0}
DrawsVersion (Activity.Rebalance (Rebalance.Freeze (Freeze.Draw i))) = Unit {0}
DrawsVersion _ = ⊥

-- the seat settles the scan of seat t, which it helps
abbrev pub SettlesScan : ℕ → Activity → Type 0
SettlesScan t (Activity.Rebalance (Rebalance.Freeze (Freeze.Settle i))) = t ≡ i
SettlesScan t _ = ⊥

-- the clock is not written, unless the seat draws
no_clock : (a : Activity) (s : ℕ) (b : Bool) (l : Local) → (DrawsVersion a → ⊥) → writes a s b l ≢ Some name.Clock
no_clock (Activity.Rebalance (Rebalance.Replace Replace.Exchange)) s b l f e = no_replaced l.rebalance.before name.Clock refl e
no_clock (Activity.Draw Draw.Version) s b l f e = f tt
no_clock (Activity.Rebalance (Rebalance.Freeze (Freeze.Draw i))) s b l f e = f tt
no_clock (Activity.Insert Insert.Exchange) s b l f e = no_link l.row l.link name.Clock refl e
no_clock (Activity.Walk Walk.Next) s true l f e = let x : Some (name.Scan s) ≡ Some name.Clock = e in cc
no_clock (Activity.Walk Walk.Next) s false l f e = let x : None ≡ Some name.Clock = e in cc
no_clock (Activity.Enter Enter.Announce) s b l f e = cc
no_clock (Activity.Look Look.Key) s b l f e = cc
no_clock (Activity.Read Read.Link) s b l f e = cc
no_clock (Activity.Put Put.Count) s b l f e = cc
no_clock (Activity.Rebalance (Rebalance.Engage Engage.Clock)) s b l f e = cc
no_clock (Activity.Rebalance (Rebalance.Claim Claim.Count)) s b l f e = cc
no_clock (Activity.Rebalance (Rebalance.Gather Gather.Link)) s b l f e = cc
no_clock (Activity.Rebalance (Rebalance.Seek Seek.Next)) s b l f e = cc
no_clock (Activity.Rebalance (Rebalance.Write Write.Count)) s b l f e = cc
no_clock _ s b l f e = cc

-- the scan of another seat is not written, unless the seat settles it
no_scan : (a : Activity) (s : ℕ) (b : Bool) (l : Local) (t : ℕ) → t ≢ s → (SettlesScan t a → ⊥) → writes a s b l ≢ Some (name.Scan t)
no_scan (Activity.Rebalance (Rebalance.Replace Replace.Exchange)) s b l t d f e = no_replaced l.rebalance.before (name.Scan t) refl e
no_scan (Activity.Rebalance (Rebalance.Freeze (Freeze.Settle i))) s b l t d f e = f (sym (same_scan i t e))
no_scan (Activity.Draw Draw.Wait) s b l t d f e = d (sym (same_scan s t e))
no_scan (Activity.Draw Draw.Settle) s b l t d f e = d (sym (same_scan s t e))
no_scan (Activity.EndScan answer) s b l t d f e = d (sym (same_scan s t e))
no_scan (Activity.Insert Insert.Exchange) s b l t d f e = no_link l.row l.link (name.Scan t) refl e
no_scan (Activity.Walk Walk.Next) s true l t d f e = d (sym (same_scan s t e))
no_scan (Activity.Walk Walk.Next) s false l t d f e = let x : None ≡ Some (name.Scan t) = e in cc
no_scan (Activity.Enter Enter.Announce) s b l t d f e = cc
no_scan (Activity.Look Look.Key) s b l t d f e = cc
no_scan (Activity.Read Read.Link) s b l t d f e = cc
no_scan (Activity.Put Put.Count) s b l t d f e = cc
no_scan (Activity.Rebalance (Rebalance.Engage Engage.Clock)) s b l t d f e = cc
no_scan (Activity.Rebalance (Rebalance.Claim Claim.Count)) s b l t d f e = cc
no_scan (Activity.Rebalance (Rebalance.Gather Gather.Link)) s b l t d f e = cc
no_scan (Activity.Rebalance (Rebalance.Seek Seek.Next)) s b l t d f e = cc
no_scan (Activity.Rebalance (Rebalance.Write Write.Count)) s b l t d f e = cc
no_scan _ s b l t d f e = cc

-- what becomes of a count over an event: it is as it was, one more cell is asked for, or it is
-- frozen
pub data CountStep (v v' : Words) (q : ℕ) : Type 0 where
  count_same : v' (name.Count q) ≡ v (name.Count q) → CountStep v v' q
  count_more : (c : Counted) → count_of (v (name.Count q)) ≡ Some c → count_of (v' (name.Count q)) ≡ Some (record c { given = c.given + 1 }) → CountStep v v' q
  count_frozen : (c : Counted) → count_of (v (name.Count q)) ≡ Some c → count_of (v' (name.Count q)) ≡ Some (record c { frozen = true }) → CountStep v v' q

-- as many cells as before were asked for, or one more
pub given_by : (v v' : Words) (q : ℕ) → CountStep v v' q → given_in v q ≤ given_in v' q
given_by v v' q (count_same e) = omega (arith, ap (λ w. given_of (count_of w)) e)
given_by v v' q (count_more c e f) = rw (e, f) (omega arith)
given_by v v' q (count_frozen c e f) = rw (e, f) (omega arith)

-- a frozen count stays frozen
pub frozen_by : (v v' : Words) (q : ℕ) (c : Counted) → CountStep v v' q → count_of (v (name.Count q)) ≡ Some c → c.frozen ≡ true → (d : Counted) × (count_of (v' (name.Count q)) ≡ Some d) × (d.frozen ≡ true)
frozen_by v v' q c (count_same e) y f = (c, ap count_of e ∙ y, f)
frozen_by v v' q c (count_more d e g) y f = let x : Some d ≡ Some c = sym e ∙ y in (record d { given = d.given + 1 }, g, cc)
frozen_by v v' q c (count_frozen d e g) y f = (record d { frozen = true }, g, refl)

-- one more cell is asked for
added_step : (v v' : Words) (q : ℕ) (x : Option Counted) → v' (name.Count q) ≡ v (name.Count q) + 1 → count_of (v (name.Count q)) ≡ x → IsGiven x → CountStep v v' q
added_step v v' q (Some c) e f g = count_more c f (ap count_of e ∙ count_of_next (v (name.Count q)) c f (omega (arith, g)))
added_step v v' q None e f g = absurd g

-- a frozen row gives no cell
pub no_room : (z : Sizes) (w : ℕ) (c : Counted) → count_of w ≡ Some c → c.frozen ≡ true → has_room z (count_of w) ≡ false
no_room z w c e f = rw (e, f) refl

module _ {z : Sizes} {r r' : Run} {s : ℕ} {choice : Choice} {l l' : Local} where
  -- When a word is kept.

  -- the clock is kept, unless the seat draws
  pub clock_stays : (a : Activity) → Happens z r r' s choice l l' a → (DrawsVersion a → ⊥) → word z r'.world name.Clock ≡ word z r.world name.Clock
  clock_stays a h f = unwritten a h name.Clock tt (no_clock a s (is_stopped choice l) l f)

  -- the scan of another seat is kept, unless the seat settles it
  pub scan_stays : (a : Activity) → Happens z r r' s choice l l' a → (t : ℕ) → t < z.seats → t ≢ s → (SettlesScan t a → ⊥) → word z r'.world (name.Scan t) ≡ word z r.world (name.Scan t)
  scan_stays a h t o d f = unwritten a h (name.Scan t) o (no_scan a s (is_stopped choice l) l t d f)

  -- Counts and the clock.

  -- what becomes of a count where the seat asks for a cell
  pub count_asked : Happens z r r' s choice l l' (Activity.Put Put.Add) → (q : ℕ) → q < r.world.rows → IsGiven (count_of (word z r.world (name.Count q))) → CountStep (word z r.world) (word z r'.world) q
  count_asked h q i g = which (cases_eq q l.row)
    where
      which : (q ≡ l.row) ⊎ (q ≡ l.row → ⊥) → CountStep (word z r.world) (word z r'.world) q
      which (inl e) = subst (CountStep (word z r.world) (word z r'.world)) (sym e) (added_step (word z r.world) (word z r'.world) l.row _ h.changed.same refl (subst (λ x. IsGiven (count_of (word z r.world (name.Count x)))) e g))
      which (inr d) = count_same (count_stays (Activity.Put Put.Add) h q i d)

  -- and where it freezes its row
  pub count_frozen_now : Happens z r r' s choice l l' (Activity.Rebalance (Rebalance.Freeze Freeze.Count)) → (q : ℕ) → q < r.world.rows → IsGiven (count_of (word z r.world (name.Count q))) → CountStep (word z r.world) (word z r'.world) q
  count_frozen_now h q i g = which (cases_eq q l.rebalance.hand)
    where
      frozen : (x : Option Counted) → count_of (word z r.world (name.Count l.rebalance.hand)) ≡ x → IsGiven x → CountStep (word z r.world) (word z r'.world) l.rebalance.hand
      frozen (Some c) e y = count_frozen c e (ap count_of h.changed.same ∙ count_of_frozen (word z r.world (name.Count l.rebalance.hand)) c e)
      frozen None e y = absurd y

      which : (q ≡ l.rebalance.hand) ⊎ (q ≡ l.rebalance.hand → ⊥) → CountStep (word z r.world) (word z r'.world) q
      which (inl e) = subst (CountStep (word z r.world) (word z r'.world)) (sym e) (frozen _ refl (subst (λ x. IsGiven (count_of (word z r.world (name.Count x)))) e g))
      which (inr d) = count_same (count_stays (Activity.Rebalance (Rebalance.Freeze Freeze.Count)) h q i d)

  -- the count that a seat freezes is frozen, and as many cells were asked for as before
  pub freezes_given : Happens z r r' s choice l l' (Activity.Rebalance (Rebalance.Freeze Freeze.Count)) → (c : Counted) → count_of (word z r.world (name.Count l.rebalance.hand)) ≡ Some c → count_of (word z r'.world (name.Count l.rebalance.hand)) ≡ Some (record c { frozen = true })
  freezes_given h c e = ap count_of h.changed.same ∙ count_of_frozen (word z r.world (name.Count l.rebalance.hand)) c e

  -- the clock does not fall
  pub clock_never_falls : (a : Activity) → Happens z r r' s choice l l' a → word z r.world name.Clock ≤ word z r'.world name.Clock
  clock_never_falls (Activity.Draw Draw.Version) h = omega (arith, h.changed.same)
  clock_never_falls (Activity.Rebalance (Rebalance.Freeze (Freeze.Draw i))) h = omega (arith, h.changed.same)
  clock_never_falls a h = omega (arith, clock_stays a h (λ x. x))

  -- a seat that helps a scan raises it by one
  pub helper_raises : (i : ℕ) → Happens z r r' s choice l l' (Activity.Rebalance (Rebalance.Freeze (Freeze.Draw i))) → word z r'.world name.Clock ≡ word z r.world name.Clock + 1
  helper_raises i h = h.changed.same

  -- Entries.

  -- an entry that is what the seat found there is frozen
  pub entry_frozen : (i : ℕ) → Happens z r r' s choice l l' (Activity.Rebalance (Rebalance.Freeze (Freeze.Entry i))) → word z r.world (name.Pend l.rebalance.hand i) ≡ pend_word l.rebalance.entry → word z r'.world (name.Pend l.rebalance.hand i) ≡ pend_word pend.Frozen
  entry_frozen i h e = exchanged _ _ _ _ h.changed.same e

  -- and reads so
  pub reads_frozen : (i : ℕ) → Happens z r r' s choice l l' (Activity.Rebalance (Rebalance.Freeze (Freeze.Entry i))) → word z r.world (name.Pend l.rebalance.hand i) ≡ pend_word l.rebalance.entry → pend_of (word z r'.world (name.Pend l.rebalance.hand i)) ≡ Some pend.Frozen
  reads_frozen i h e = ap pend_of (entry_frozen i h e) ∙ pend_of-Frozen

  -- any other entry stays as it is
  pub entry_left : (i : ℕ) → Happens z r r' s choice l l' (Activity.Rebalance (Rebalance.Freeze (Freeze.Entry i))) → word z r.world (name.Pend l.rebalance.hand i) ≢ pend_word l.rebalance.entry → word z r'.world (name.Pend l.rebalance.hand i) ≡ word z r.world (name.Pend l.rebalance.hand i)
  entry_left i h d = not_exchanged _ _ _ _ h.changed.same d

  -- Scans.

  -- a scan that still waits since that clock has the version that was drawn for it
  pub scan_settled : (i : ℕ) → Happens z r r' s choice l l' (Activity.Rebalance (Rebalance.Freeze (Freeze.Settle i))) → IsVersion l.rebalance.drawn → scan_of (word z r.world (name.Scan i)) ≡ Some (scan.Waiting l.rebalance.waiting) → scan_of (word z r'.world (name.Scan i)) ≡ Some (scan.Drawn l.rebalance.drawn)
  scan_settled i h v e = ap scan_of (exchanged _ _ _ _ h.changed.same (sym (scan_word_of _ (scan.Waiting l.rebalance.waiting) e))) ∙ scan_of-scan_word (scan.Drawn l.rebalance.drawn) v

  -- any other scan stays as it is
  pub scan_left : (i : ℕ) → Happens z r r' s choice l l' (Activity.Rebalance (Rebalance.Freeze (Freeze.Settle i))) → IsVersion l.rebalance.waiting → scan_of (word z r.world (name.Scan i)) ≢ Some (scan.Waiting l.rebalance.waiting) → word z r'.world (name.Scan i) ≡ word z r.world (name.Scan i)
  scan_left i h v d = not_exchanged _ _ _ _ h.changed.same (λ e. d (ap scan_of e ∙ scan_of-scan_word (scan.Waiting l.rebalance.waiting) v))

-- A frozen entry.

-- the seat exchanges an entry
abbrev pub ExchangesEntry : Activity → Type 0
ExchangesEntry (Activity.Put Put.Announce) = Unit {0}
ExchangesEntry (Activity.Put Put.Stamp) = Unit {0}
ExchangesEntry (Activity.Look Look.Help) = Unit {0}
ExchangesEntry (Activity.Rebalance (Rebalance.Freeze (Freeze.Entry j))) = Unit {0}
ExchangesEntry _ = ⊥

-- neither an idle nor a pending entry is a frozen one
pub not_idle : pend_word pend.Frozen ≢ pend_word pend.Idle
not_idle e = omega (arith, e)

pub not_pending : (c : ℕ) → pend_word pend.Frozen ≢ pend_word (pend.Pending c)
not_pending c e = omega (arith, e)

-- a frozen entry stays one, if it does at the one place that an event writes
pub frozen_at : (v v' : Words) (row i q t : ℕ) → (v (name.Pend row i) ≡ pend_word pend.Frozen → v' (name.Pend row i) ≡ pend_word pend.Frozen) → ((q ≡ row → t ≡ i → ⊥) → v' (name.Pend q t) ≡ v (name.Pend q t)) → v (name.Pend q t) ≡ pend_word pend.Frozen → v' (name.Pend q t) ≡ pend_word pend.Frozen
frozen_at v v' row i q t here there = which (cases_eq q row) (cases_eq t i)
  where
    which : (q ≡ row) ⊎ (q ≡ row → ⊥) → (t ≡ i) ⊎ (t ≡ i → ⊥) → v (name.Pend q t) ≡ pend_word pend.Frozen → v' (name.Pend q t) ≡ pend_word pend.Frozen
    which (inl x) (inl y) e = rw (x, y) (here (rw (x, y) at e))
    which (inl x) (inr d) e = there (λ u w. d w) ∙ e
    which (inr d) y e = there (λ u w. d u) ∙ e

module _ {z : Sizes} {r r' : Run} {s : ℕ} {choice : Choice} {l l' : Local} where
  -- a frozen entry stays frozen where a seat exchanges one
  pub frozen_entry_lasts : (a : Activity) → ExchangesEntry a → Happens z r r' s choice l l' a → (q t : ℕ) → q < r.world.rows → t < z.seats → word z r.world (name.Pend q t) ≡ pend_word pend.Frozen → word z r'.world (name.Pend q t) ≡ pend_word pend.Frozen
  frozen_entry_lasts (Activity.Put Put.Announce) x h q t i o e =
      frozen_at (word z r.world) (word z r'.world) l.row s q t (λ y. not_exchanged _ _ _ _ h.changed.same (λ u. not_idle (sym y ∙ u)) ∙ y) (λ d. entry_stays (Activity.Put Put.Announce) h q t i o (λ c. d c.0 c.1)) e
  frozen_entry_lasts (Activity.Put Put.Stamp) x h q t i o e =
      frozen_at (word z r.world) (word z r'.world) l.row s q t (λ y. not_exchanged _ _ _ _ h.changed.same (λ u. not_pending l.cell (sym y ∙ u)) ∙ y) (λ d. entry_stays (Activity.Put Put.Stamp) h q t i o (λ c. d c.0 c.1)) e
  frozen_entry_lasts (Activity.Look Look.Help) x h q t i o e =
      frozen_at (word z r.world) (word z r'.world) l.row l.looked q t (λ y. not_exchanged _ _ _ _ h.changed.same (λ u. not_pending l.saw (sym y ∙ u)) ∙ y) (λ d. entry_stays (Activity.Look Look.Help) h q t i o (λ c. d c.0 c.1)) e
  frozen_entry_lasts (Activity.Rebalance (Rebalance.Freeze (Freeze.Entry j))) x h q t i o e = frozen_at (word z r.world) (word z r'.world) l.rebalance.hand j q t (here (cases_eq _ _)) (λ d. entry_stays (Activity.Rebalance (Rebalance.Freeze (Freeze.Entry j))) h q t i o (λ c. d c.0 c.1)) e
    where
      here : (word z r.world (name.Pend l.rebalance.hand j) ≡ pend_word l.rebalance.entry) ⊎ (word z r.world (name.Pend l.rebalance.hand j) ≡ pend_word l.rebalance.entry → ⊥) → word z r.world (name.Pend l.rebalance.hand j) ≡ pend_word pend.Frozen → word z r'.world (name.Pend l.rebalance.hand j) ≡ pend_word pend.Frozen
      here (inl y) w = entry_frozen j h y
      here (inr d) w = entry_left j h d ∙ w
  frozen_entry_lasts _ x h q t i o e = absurd x
